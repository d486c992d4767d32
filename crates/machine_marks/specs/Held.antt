-- Marks of which one block's are held apart, in a word of their own: put back into the table (`held`) they are the marks of specs/Words. Setting,
-- clearing and changing the block are laws on `held`. Assumes nothing.
use Rattle.std.specs.Prelude.{ℕ, ◌+◌, ◌-◌, ◌*◌, ◌/◌, ◌%◌, ◌^◌, ◌≤◌, ◌<◌, ◌≡◌, ◌≢◌, List, length, get_or, set, replicate}
use Rattle.std.proofs.Math.Path.{refl}
use Rattle.std.proofs.Common.{sym, ap, ◌∙◌, arith, length-set, get_or-set_other}
use Rattle.std.proofs.Math.Decide.{ℕ_discrete, dec_lt}
use Rattle.std.specs.Int.Bits.{bit_and, bit_or}
use Rattle.std.specs.Int.Count.{count_trailing_zeros}
use Rattle.std.proofs.lemmas.List.{length-replicate, set-get_or, set_comm}
use Rattle.std.proofs.Math.Seq.{get_or-set_same, set-set}
use Rattle.machine_marks.specs.declared.Marks.{Marks}
use Rattle.machine_marks.specs.Words.{bit, mark, woken, slept, mark-woken, mark-woken-other, mark-set-word, mark-set-other, mark-blank, mark-all, and-less, lowest_set, below-lowest, lowest-within}

-- the words of marks, those of the block put back
abbrev pub held : List ℕ → Marks → List ℕ
held w m = set w m.block m.here

-- falls as marks are cleared and blocks passed
abbrev pub left : Marks → ℕ
left m = 18446744073709551616 * (16 - m.block) + m.here

-- no marks in the words from a up to b
abbrev pub Blank : List ℕ → ℕ → ℕ → Type 0
Blank w a b = (x : ℕ) → a ≤ x → x < b → get_or w x 0 ≡ 0

-- a word set past the low block leaves those below it
pub blank-set : (w : List ℕ) (a b at v : ℕ) → b ≤ at → Blank w a b → Blank (set w at v) a b
blank-set w a b at v h k x p q = get_or-set_other w at x v 0 (omega arith) ∙ k x p q

pub blank-more : (w : List ℕ) (a b : ℕ) → Blank w a b → get_or w b 0 ≡ 0 → Blank w a (b + 1)
blank-more w a b k e x p q = go (ℕ_discrete x b)
  where
    go : Dec (x ≡ b) → get_or w x 0 ≡ 0
    go (yes i) = rw i e
    go (no n) = k x p (omega arith)

pub record Stands (w : List ℕ) (m : Marks) : Type 0 where
  pub len : length w ≡ 16
  pub inside : m.block < 16
  pub below : m.low ≤ m.block
  pub blank : Blank w 0 m.low

-- no marks at all
abbrev pub Bare : List ℕ → Type 0
Bare w = (x : ℕ) → x < 1024 → mark w x ≡ 0

-- the same marks, with none below the block
pub record Moved (w : List ℕ) (m : Marks) (w' : List ℕ) (r : Marks) : Type 0 where
  pub stands : Stands w' r
  pub level : r.low ≡ r.block
  pub same : held w' r ≡ held w m

pub moved_none : (w : List ℕ) (m : Marks) → Stands w m → m.block ≤ m.low → Moved w m w m
moved_none w m s h = record { stands = s; level = omega (arith, s.below); same = refl }

-- the block changed: the held word goes back to the table, another is held
module _ (w : List ℕ) (m : Marks) (s : Stands w m) where
  pub moved_to : (v : ℕ) → v ≡ m.here → (b : ℕ) → b < 16 → Blank (set w m.block v) 0 b → Moved w m (set w m.block v) (record { here = get_or (set w m.block v) b 0; block = b; low = b })
  moved_to v e b h k = record {
    stands = record { len = length-set w m.block v ∙ s.len; inside = h; below = omega arith; blank = k };
    level = refl;
    same = set-get_or (set w m.block v) b 0 ∙ ap (set w m.block) e;
  }

  pub moved_back : m.low < m.block → Moved w m (set w m.block m.here) (record { here = get_or (set w m.block m.here) m.low 0; block = m.low; low = m.low })
  moved_back h = moved_to m.here refl m.low (omega (arith, s.inside)) (blank-set w 0 m.low m.block m.here (omega arith) s.blank)

-- u is the block's first operator with a mark
pub record Lowest (m : Marks) (u : ℕ) : Type 0 where
  pub block : u / 64 ≡ m.block
  pub set : bit m.here (u % 64) ≡ 1
  pub first : (k : ℕ) → k < u % 64 → bit m.here k ≡ 0

pub lowest-at : (m : Marks) (u : ℕ) → m.here ≢ 0 → m.here < 2 ^ 64 → u ≡ 64 * m.block + count_trailing_zeros 64 m.here → Lowest m u
lowest-at m u ne fits e =
    let t = count_trailing_zeros 64 m.here in
    let small : t < 64 = lowest-within m.here (omega arith) fits in
    let q : u % 64 ≡ t = omega arith in
    record {
      block = omega arith;
      set = rw q (lowest_set 64 m.here (omega arith) fits);
      first = λ k l. below-lowest 64 m.here k (omega arith);
    }

module _ (w : List ℕ) (m : Marks) (s : Stands w m) (level : m.low ≡ m.block) (u : ℕ) (l : Lowest m u) where
  pub first-marked : mark (held w m) u ≡ 1
  first-marked = mark-set-word w m.block (omega (arith, s.len, s.inside)) m.here u l.block ∙ l.set

  pub none_below : (x : ℕ) → x < u → mark (held w m) x ≡ 0
  none_below x h = go (ℕ_discrete (x / 64) m.block)
    where
      within : m.block < length w
      within = omega (arith, s.len, s.inside)

      go : Dec (x / 64 ≡ m.block) → mark (held w m) x ≡ 0
      go (yes e) = mark-set-word w m.block within m.here x e ∙ l.first (x % 64) (omega (arith, l.block))
      go (no n) = mark-set-other w m.block within m.here x n ∙ mark-blank w x (s.blank (x / 64) (omega arith) (omega (arith, l.block)))

-- nothing held: the next block, or the end
module _ (w : List ℕ) (m : Marks) (s : Stands w m) (level : m.low ≡ m.block) (z : m.here ≡ 0) (b : ℕ) (above : m.block + 1 ≤ b) (k : Blank (set w m.block 0) (m.block + 1) b) where
  within : m.block < length w
  within = omega (arith, s.len, s.inside)

  pub blank-upto : Blank (set w m.block 0) 0 b
  blank-upto x p q = go (ℕ_discrete x m.block) (dec_lt x m.block)
    where
      go : Dec (x ≡ m.block) → Dec (x < m.block) → get_or (set w m.block 0) x 0 ≡ 0
      go (yes e) o = rw e (get_or-set_same w m.block 0 0 within)
      go (no n) (yes l) = get_or-set_other w m.block x 0 0 n ∙ s.blank x (omega arith) (omega arith)
      go (no n) (no l) = k x (omega arith) q

  pub moved_on : b < 16 → Moved w m (set w m.block 0) (record { here = get_or (set w m.block 0) b 0; block = b; low = b })
  moved_on h = moved_to w m s 0 (sym z) b h blank-upto

  pub moved-end : Moved w m (set w m.block 0) m
  moved-end = record {
    stands = record { len = length-set w m.block 0 ∙ s.len; inside = s.inside; below = s.below; blank = blank-set w 0 m.low m.block 0 s.below s.blank };
    level = level;
    same = set-set w m.block 0 m.here;
  }

  pub bare-end : 16 ≤ b → Bare (held w m)
  bare-end h x l = mark-blank (held w m) x (rw z (blank-upto (x / 64) (omega arith) (omega arith)))

-- the marks without u's
pub record Cleared (m : Marks) (u : ℕ) (r : Marks) : Type 0 where
  pub block : r.block ≡ m.block
  pub low : r.low ≡ m.low
  pub here : r.here ≡ bit_and m.here ((2 ^ 64 - 1) - 2 ^ (u % 64))

module _ (w : List ℕ) (m : Marks) (s : Stands w m) (u : ℕ) (l : Lowest m u) (r : Marks) (c : Cleared m u r) where
  pub stands-cleared : Stands w r
  stands-cleared = record { len = s.len; inside = omega (arith, c.block, s.inside); below = omega (arith, c.block, c.low, s.below); blank = rw c.low s.blank }

  pub held-cleared : held w r ≡ slept (held w m) u
  unfolding slept
  held-cleared =
      rw (c.here, c.block, l.block, get_or-set_same w m.block m.here 0 (omega (arith, s.len, s.inside)), set-set w m.block m.here (bit_and m.here ((2 ^ 64 - 1) - 2 ^ (u % 64)))) refl

  pub left-cleared : left r < left m
  left-cleared = rw (c.here, c.block) (omega (arith, and-less m.here u l.set))

-- more marks
pub record Woke (w : List ℕ) (m : Marks) (w' : List ℕ) (r : Marks) : Type 0 where
  pub stands : Stands w' r
  pub asleep : (x : ℕ) → mark (held w' r) x ≡ 0 → mark (held w m) x ≡ 0

pub woke-none : (w : List ℕ) (m : Marks) → Stands w m → Woke w m w m
woke-none w m s = record { stands = s; asleep = λ x z. z }

pub woke-then : (w : List ℕ) (m : Marks) (w' : List ℕ) (m' : Marks) (w'' : List ℕ) (r : Marks) → Woke w m w' m' → Woke w' m' w'' r → Woke w m w'' r
woke-then w m w' m' w'' r p q = record { stands = q.stands; asleep = λ x z. p.asleep x (q.asleep x z) }

-- marks with u's set
module _ (w : List ℕ) (m : Marks) (w' : List ℕ) (r : Marks) (u : ℕ) (h : u / 64 < length (held w m)) (s : Stands w' r) (e : held w' r ≡ woken (held w m) u) where
  pub woke-one : Woke w m w' r
  woke-one = record { stands = s; asleep = λ x z. go x (sym (ap (λ (v : List ℕ). mark v x) e) ∙ z) (ℕ_discrete x u) }
    where
      go : (x : ℕ) → mark (woken (held w m) u) x ≡ 0 → Dec (x ≡ u) → mark (held w m) x ≡ 0
      go x z (yes p) = absurd (let o : mark (woken (held w m) u) x ≡ 1 = (rw p (mark-woken (held w m) u h)) in omega arith)
      go x z (no n) = sym (mark-woken-other (held w m) u h x n) ∙ z

  pub woke-marked : mark (held w' r) u ≡ 1
  woke-marked = ap (λ (v : List ℕ). mark v u) e ∙ mark-woken (held w m) u h

here-woken : (w : List ℕ) (b here u : ℕ) → b < length w → u / 64 ≡ b → set w b (bit_or here (2 ^ (u % 64))) ≡ woken (set w b here) u
unfolding woken
here-woken w b here u h e = rw (e, get_or-set_same w b here 0 h, set-set w b here (bit_or here (2 ^ (u % 64)))) refl

far-woken : (w : List ℕ) (b here u : ℕ) → u / 64 ≢ b → set (set w (u / 64) (bit_or (get_or w (u / 64) 0) (2 ^ (u % 64)))) b here ≡ woken (set w b here) u
unfolding woken
far-woken w b here u n = set_comm w (u / 64) b (bit_or (get_or w (u / 64) 0) (2 ^ (u % 64))) here n ∙ rw (get_or-set_other w b (u / 64) here 0 n) refl

module _ (w : List ℕ) (m : Marks) (s : Stands w m) (u : ℕ) (small : u < 1024) where
  wide : u / 64 < length (held w m)
  wide = let e = length-set w m.block m.here in omega (arith, s.len)

  -- in the held word
  module _ (e : u / 64 ≡ m.block) where
    abbrev pub marksHere : Marks
    marksHere = record { here = bit_or m.here (2 ^ (u % 64)); block = m.block; low = m.low }

    same_here : held w marksHere ≡ woken (held w m) u
    same_here = here-woken w m.block m.here u (omega (arith, s.len, s.inside)) e

    stands_here : Stands w marksHere
    stands_here = record { len = s.len; inside = s.inside; below = s.below; blank = s.blank }

    pub woke-here : Woke w m w marksHere × (u < 1024 → mark (held w marksHere) u ≡ 1)
    woke-here = (woke-one w m w marksHere u wide stands_here same_here, λ h. woke-marked w m w marksHere u wide stands_here same_here)

  -- in the table; `low` is the lesser of the block and the least so far
  module _ (n : u / 64 ≢ m.block) (low : ℕ) (a : low ≤ m.low) (b : low ≤ u / 64) where
    abbrev pub marksFar : Marks
    marksFar = record { here = m.here; block = m.block; low = low }

    abbrev pub wordsFar : List ℕ
    wordsFar = set w (u / 64) (bit_or (get_or w (u / 64) 0) (2 ^ (u % 64)))

    same-far : held wordsFar marksFar ≡ woken (held w m) u
    same-far = far-woken w m.block m.here u n

    stands-far : Stands wordsFar marksFar
    stands-far = record {
      len = length-set w (u / 64) (bit_or (get_or w (u / 64) 0) (2 ^ (u % 64))) ∙ s.len;
      inside = s.inside;
      below = omega (arith, s.below);
      blank = blank-set w 0 low (u / 64) (bit_or (get_or w (u / 64) 0) (2 ^ (u % 64))) b (λ x p q. s.blank x p (omega arith));
    }

    pub woke-far : Woke w m wordsFar marksFar × (u < 1024 → mark (held wordsFar marksFar) u ≡ 1)
    woke-far = (woke-one w m wordsFar marksFar u wide stands-far same-far, λ h. woke-marked w m wordsFar marksFar u wide stands-far same-far)

-- all marked
abbrev pub every_mark : ℕ
every_mark = 18446744073709551615

abbrev pub marks_all : Marks
marks_all = record { here = every_mark; block = 0; low = 0 }

pub stands-all : Stands (replicate {A = ℕ} 16 every_mark) marks_all
stands-all = record { len = length-replicate {A = ℕ} 16 every_mark; inside = omega arith; below = omega arith; blank = λ x p q. absurd (omega arith) }

pub held_all : (j : ℕ) → j < 1024 → mark (held (replicate {A = ℕ} 16 every_mark) marks_all) j ≡ 1
held_all j h = mark-all j h
