-- The marks of a run: an operator without a mark is not able, so it need not be looked at again. A firing marks those that give to its inputs where
-- fewer than two places are free now, and those that take from its outputs where one token waits now (specs/Near); its own mark goes where nothing
-- waits on its first input (specs/Rested). Assumes that the memory is as long as its links need and that they begin behind the registers.
use Rattle.std.specs.Prelude.{ℕ, ◌+◌, ◌-◌, ◌*◌, ◌/◌, ◌%◌, ◌≤◌, ◌<◌, ◌≡◌, refl, ◌≢◌, ◌⊎◌, Bool, true, false, List, length, get_or}
use Rattle.std.proofs.Common.{sym, ap, ◌∙◌, inl, inr, arith, length-set}
use Rattle.std.proofs.Math.Decide.{ℕ_discrete, dec_lt}
use Rattle.machine_queue.specs.Stretch.{waiting}
use Rattle.machine_layout.specs.Layout.{links_at, need_from}
use Rattle.machine_firing.specs.LinkLaws.{link_part_from}
use Rattle.machine_firing.specs.Fire.{able_from, fired_from}
use Rattle.machine_marks.specs.declared.Marks.{Marks}
use Rattle.machine_marks.specs.Words.{mark, mark-slept-other}
use Rattle.machine_marks.specs.Held.{held, Bare, Stands, Lowest, Cleared, Woke, Moved, first-marked, none_below, stands-cleared, held-cleared}
use Rattle.machine_marks.specs.Users.{Filled, filled-same, user-inside, user-found, once-named}
use Rattle.machine_runs.specs.Run.{ran, runs_from}
use Rattle.machine_runs.specs.RunLaws.{Going, going_start, going-fire, going_end, quiet_none, fired-idle}
use Rattle.machine_runs.specs.Near.{name, Once, port-fired, able-kept, head-kept, room-kept}
use Rattle.machine_runs.specs.Rested.{rested}

-- a firing has made no user of link l on a side able: its putter (side 1) had a place before, its taker (side 0) the same first token
pub record Calm (m : List ℕ) (base size l side : ℕ) : Type 0 where
  pub putter : side ≡ 1 → 5 * waiting (link_part_from m base size l) + 11 ≤ size
  pub taker : side ≡ 0 → waiting (link_part_from m base size l) ≢ 1

-- the user of link l on a side is marked, unless the link is calm
abbrev pub Hit : List ℕ → List ℕ → ℕ → ℕ → ℕ → ℕ → List ℕ → Type 0
Hit u m base size l side w = l < 3105 → 2 * l + side < length u → (x : ℕ) → get_or u (2 * l + side) 0 ≡ x → x < 1024 → mark w x ≡ 0 → Calm m base size l side

-- the side on which another operator uses the link of port k: an input's putter, an output's taker
abbrev pub facing : ℕ → ℕ
facing k = 1 - k / 3

-- those of the first e ports of i
abbrev pub Hits : List ℕ → List ℕ → ℕ → ℕ → ℕ → ℕ → List ℕ → Type 0
Hits u m base size i e w = (k : ℕ) → k < e → Hit u m base size (name m i k) (facing k) w

pub hit-calm : (u m : List ℕ) (base size l side : ℕ) (w : List ℕ) → (l < 3105 → Calm m base size l side) → Hit u m base size l side w
hit-calm u m base size l side w h lt b x f xl z = h lt

pub hit-marked : (u m : List ℕ) (base size l side : ℕ) (w : List ℕ) (v : ℕ) → (2 * l + side < length u → v ≡ get_or u (2 * l + side) 0) → (v < 1024 → mark w v ≡ 1) → Hit u m base size l side w
hit-marked u m base size l side w v uv up lt b x f xl z =
    let vx : v ≡ x = uv b ∙ f in
    let o : mark w x ≡ 1 = (rw vx at up) xl in
    absurd (omega arith)

pub hits-none : (u m : List ℕ) (base size i : ℕ) (w : List ℕ) → Hits u m base size i 0 w
hits-none u m base size i w k h = absurd (omega arith)

-- marks that were set stay so
pub hits_more : (u m : List ℕ) (base size i e : ℕ) (w : List ℕ) (a : Marks) (w' : List ℕ) (r : Marks) (l side : ℕ) → Hits u m base size i e (held w a) → Woke w a w' r →
    l ≡ name m i e → side ≡ facing e → Hit u m base size l side (held w' r) → Hits u m base size i (e + 1) (held w' r)
hits_more u m base size i e w a w' r l side h wk q s one k lt = go (ℕ_discrete k e)
  where
    go : Dec (k ≡ e) → Hit u m base size (name m i k) (facing k) (held w' r)
    go (yes p) = rw (p, sym q, sym s) one
    go (no n) = λ b c x f xl z. h k (omega arith) b c x f xl (wk.asleep x z)

-- i's own mark is as it was, or has gone with the last token of its first input
abbrev pub Rests : List ℕ → ℕ → ℕ → ℕ → Marks → Marks → Type 0
Rests m base size i a r = (r ≡ a) ⊎ ((Cleared a i r) × (name m i 0 < 3105) × (waiting (link_part_from m base size (name m i 0)) ≡ 0))

pub rests-stands : (m : List ℕ) (base size i : ℕ) (w : List ℕ) (a r : Marks) → Stands w a → Lowest a i → Rests m base size i a r → Stands w r
rests-stands m base size i w a r s l (inl e) = rw e s
rests-stands m base size i w a r s l (inr g) = stands-cleared w a s i l r g.0

-- what a firing of i must mark
pub record Woken (u m : List ℕ) (base size i : ℕ) (w : List ℕ) (a : Marks) (w' : List ℕ) (r : Marks) : Type 0 where
  pub stands : Stands w' r
  pub level : r.low ≡ r.block
  pub asleep : (x : ℕ) → x ≢ i → mark (held w' r) x ≡ 0 → mark (held w a) x ≡ 0
  pub own : mark (held w' r) i ≡ 0 → (name m i 0 < 3105) × (waiting (link_part_from m base size (name m i 0)) ≡ 0)
  pub hits : Hits u m base size i 6 (held w' r)

module _ (u m : List ℕ) (base size i : ℕ) (w : List ℕ) (a : Marks) (s : Stands w a) (level : a.low ≡ a.block) (l : Lowest a i) (a0 : Marks) (rests : Rests m base size i a a0) where
  inside : i / 64 < length (held w a)
  inside = omega (arith, length-set w a.block a.here, s.len, s.inside, l.block)

  others : Rests m base size i a a0 → (x : ℕ) → x ≢ i → mark (held w a0) x ≡ 0 → mark (held w a) x ≡ 0
  others (inl e) x n z = (rw e at z)
  others (inr g) x n z = sym (mark-slept-other (held w a) i inside x n) ∙ (rw (held-cleared w a s i l a0 g.0) at z)

  itself : Rests m base size i a a0 → mark (held w a0) i ≡ 0 → (name m i 0 < 3105) × (waiting (link_part_from m base size (name m i 0)) ≡ 0)
  itself (inl e) z = absurd (let o : mark (held w a) i ≡ 0 = (rw e at z) in omega (arith, first-marked w a s level i l))
  itself (inr g) z = (g.1, g.2)

  pub woken-all : (w1 : List ℕ) (a1 : Marks) (w2 : List ℕ) (a2 : Marks) → Woke w a0 w1 a1 → Hits u m base size i 6 (held w1 a1) → Moved w1 a1 w2 a2 → Woken u m base size i w a w2 a2
  woken-all w1 a1 w2 a2 p h v = record {
    stands = v.stands;
    level = v.level;
    asleep = λ x n z. others rests x n (back x z);
    own = λ z. itself rests (back i z);
    hits = rw v.same h;
  }
    where
      back : (x : ℕ) → mark (held w2 a2) x ≡ 0 → mark (held w a0) x ≡ 0
      back x z = p.asleep x (rw v.same at z)

-- an operator without a mark is not able
abbrev pub Resting : List ℕ → ℕ → ℕ → ℕ → List ℕ → Type 0
Resting m base size n w = (j : ℕ) → j < n → mark w j ≡ 0 → able_from m base size j ≡ false

-- one that was not able is put to sleep
pub resting-cleared : (m : List ℕ) (base size n : ℕ) (w : List ℕ) (a : Marks) → Stands w a → (i : ℕ) → Lowest a i → (r : Marks) → Cleared a i r → able_from m base size i ≡ false →
    Resting m base size n (held w a) → Resting m base size n (held w r)
resting-cleared m base size n w a s i l r k e q j jl z = go (ℕ_discrete j i)
  where
    wide : i / 64 < length (held w a)
    wide = omega (arith, length-set w a.block a.here, s.len, s.inside, l.block)

    go : Dec (j ≡ i) → able_from m base size j ≡ false
    go (yes p) = rw p e
    go (no ne) = q j jl (sym (mark-slept-other (held w a) i wide j ne) ∙ (rw (held-cleared w a s i l r k) at z))

-- a firing of i: who is not able afterwards
module _ (u m : List ℕ) (base size n : ℕ) (behind : links_at ≤ base) (fits : need_from base size ≤ length m) (nb : n ≤ 1024) (i : ℕ) (lt : i < n) (fil : Filled u m (6 * n)) where
  abbrev m' : List ℕ
  m' = fired_from m base size i

  -- the links' users are the same
  pub filled-fired : Filled u m' (6 * n)
  filled-fired = filled-same u m m' (6 * n) (omega arith) (λ j k jl kl. port-fired m base size behind fits i (omega arith) j k jl kl) fil

  same : (k : ℕ) → k < 6 → name m' i k ≡ name m i k
  same k kl = port-fired m base size behind fits i (omega arith) i k (omega arith) kl

  -- i names no link twice on a side
  once : (first l : ℕ) → first % 3 ≡ 0 → first < 6 → l < 3105 → Once m i first (first + 3) l
  once first l t fl b k k' ka kk kb p q =
      let o = once-named u m n fil i k i k' lt (omega arith) lt (omega arith) (rw p at b) (sym p ∙ q) (omega arith) in
      omega arith

  module _ (w' : List ℕ) (hits : Hits u m' base size i 6 w') (j : ℕ) (jl : j < n) (ne : j ≢ i) (z : mark w' j ≡ 0) where
    -- j and i share no link on one side
    apart : (k k' : ℕ) → k < 6 → k' < 6 → k / 3 ≡ k' / 3 → name m j k < 3105 → name m j k ≢ name m i k'
    apart k k' kl kl' e b q = let o = once-named u m n fil j k i k' jl kl lt kl' b q e in ne (omega arith)

    -- a link that i gives to and j takes from, or the other way round, is calm
    calm-taker : (k k' : ℕ) → k < 3 → 3 ≤ k' → k' < 6 → name m j k < 3105 → name m j k ≡ name m i k' → waiting (link_part_from m' base size (name m j k)) ≢ 1
    calm-taker k k' kl ka kb b q =
        let e : name m' i k' ≡ name m j k = same k' kb ∙ sym q in
        let t : facing k' ≡ 0 = omega arith in
        let s : k / 3 ≡ 0 = omega arith in
        let c = (rw (e, t) at (hits k' kb)) b (rw s at (user-inside u m n fil j k jl (omega arith) b)) j (rw s at (user-found u m n fil j k jl (omega arith) b)) (omega arith) z in
        c.taker refl

    calm-putter : (k k' : ℕ) → 3 ≤ k → k < 6 → k' < 3 → name m j k < 3105 → name m j k ≡ name m i k' → 5 * waiting (link_part_from m' base size (name m j k)) + 11 ≤ size
    calm-putter k k' ka kl kb b q =
        let e : name m' i k' ≡ name m j k = same k' (omega arith) ∙ sym q in
        let t : facing k' ≡ 1 = omega arith in
        let s : k / 3 ≡ 1 = omega arith in
        let c = (rw (e, t) at (hits k' (omega arith))) b (rw s at (user-inside u m n fil j k jl kl b)) j (rw s at (user-found u m n fil j k jl kl b)) (omega arith) z in
        c.putter refl

    pub able-as-before : able_from m' base size j ≡ able_from m base size j
    able-as-before =
        able-kept m base size behind fits i (omega arith) j (omega arith) ne
        (λ k kl b. head-kept m base size behind fits i (omega arith) (name m j k) b (λ k' kl'. apart k k' (omega arith) (omega arith) (omega arith) b) (once 3 (name m j k) refl (omega arith) b) (λ k' ka kb q. calm-taker k k' kl ka kb b q))
        (λ k ka kl b. room-kept m base size behind fits i (omega arith) (name m j k) b (λ k' ka' kl'. apart k k' kl kl' (omega arith) b) (once 0 (name m j k) refl (omega arith) b) (λ k' kb q. calm-putter k k' ka kl kb b q))

  module _ (able : able_from m base size i ≡ true) (w : List ℕ) (a : Marks) (w' : List ℕ) (r : Marks) (woken : Woken u m' base size i w a w' r) where
    own-rests : mark (held w' r) i ≡ 0 → able_from m' base size i ≡ false
    own-rests z =
        let o = woken.own z in
        let p = same 0 (omega arith) in
        rested m base size behind fits i (omega arith) able (rw p at o.0) (rw p at o.1)

    -- THE MARKS HOLD after a firing of i and the marks that it wakes.
    pub resting-fired : Resting m base size n (held w a) → Resting m' base size n (held w' r)
    resting-fired q j jl z = go (ℕ_discrete j i)
      where
        go : Dec (j ≡ i) → able_from m' base size j ≡ false
        go (yes p) = rw p (own-rests (rw p at z))
        go (no ne) = able-as-before (held w' r) woken.hits j jl ne z ∙ q j jl (woken.asleep j ne z)

-- what the run's loop keeps of the memory and all marks
pub record Fast (u m₀ : List ℕ) (base size n b : ℕ) (m : List ℕ) (w : List ℕ) (c : ℕ) : Type 0 where
  pub going : Going m₀ base size n b m c 0
  pub rest : Resting m base size n w
  pub filled : Filled u m (6 * n)

pub fast-start : (u m₀ w : List ℕ) (base size n b : ℕ) → n ≤ 1024 → ((j : ℕ) → j < 1024 → mark w j ≡ 1) → Filled u m₀ (6 * n) → Fast u m₀ base size n b m₀ w 0
fast-start u m₀ w base size n b nb all fil = record {
  going = going_start m₀ base size n b;
  rest = λ j k z. absurd (let o = all j (omega arith) in omega arith);
  filled = fil;
}

module _ (u m₀ : List ℕ) (base size n b : ℕ) (m : List ℕ) (w : List ℕ) (a : Marks) (c : ℕ) (f : Fast u m₀ base size n b m (held w a) c) (nb : n ≤ 1024) where
  -- the first operator with a mark is as far as the plain run would have come
  going-first : (i : ℕ) → i ≤ n → ((x : ℕ) → x < i → mark (held w a) x ≡ 0) → Going m₀ base size n b m c i
  going-first i h none =
      let g = f.going in
      record { done = g.done; upto = h; quiet = λ j k. f.rest j (omega arith) (none j k); same = g.same; len = g.len }

  pub fast-moved : (w' : List ℕ) (r : Marks) → Moved w a w' r → Fast u m₀ base size n b m (held w' r) c
  fast-moved w' r v = rw v.same f

  -- nothing has a mark below n
  pub fast-end : (s : Stands w a) (level : a.low ≡ a.block) (i : ℕ) → n ≤ i → (i < 1024 → Lowest a i) → (1024 ≤ i → Bare (held w a)) → ran m c ≡ runs_from base size n b m₀ 0
  fast-end s level i h first bare = going_end m₀ base size n b m c n (going-first n (omega arith) (go (dec_lt i 1024))) refl
    where
      go : Dec (i < 1024) → (x : ℕ) → x < n → mark (held w a) x ≡ 0
      go (yes k) x l = none_below w a s level i (first k) x (omega arith)
      go (no k) x l = bare (omega arith) x (omega arith)

  module _ (s : Stands w a) (level : a.low ≡ a.block) (i : ℕ) (l : Lowest a i) where
    pub fast-next : able_from m base size i ≡ false → (r : Marks) → Cleared a i r → Fast u m₀ base size n b (fired_from m base size i) (held w r) c
    fast-next e r k =
        rw (fired-idle m base size i e)
        (record { going = f.going; rest = resting-cleared m base size n w a s i l r k e f.rest; filled = f.filled })

    -- a firing
    pub fast-fire : links_at ≤ base → need_from base size ≤ length m → i < n → (w' : List ℕ) (r : Marks) → Woken u (fired_from m base size i) base size i w a w' r → c < b →
        able_from m base size i ≡ true → length (fired_from m base size i) ≡ length m → Fast u m₀ base size n b (fired_from m base size i) (held w' r) (c + 1)
    fast-fire behind fits lt w' r k cb e len = record {
      going = going-fire m₀ base size n b m c i (going-first i (omega arith) (none_below w a s level i l)) 0 (omega arith) cb lt e len (quiet_none (fired_from m base size i) base size);
      rest = resting-fired u m base size n behind fits nb i lt f.filled e w a w' r k f.rest;
      filled = filled-fired u m base size n behind fits nb i lt f.filled;
    }
