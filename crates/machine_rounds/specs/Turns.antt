-- Rounds by their firings. Document 02, Job 7: "operators rising, each that is able at its turn firing once". What the definition of specs/Rounds makes is
-- such rounds, and only that. Assumes nothing.
use Rattle.std.specs.Prelude.{ℕ, zero, suc, ◌+◌, ◌-◌, ◌*◌, ◌≤◌, ◌<◌, ◌≡◌, refl, Bool, true, false, List, ltb, eqb}
use Rattle.std.proofs.Common.{sym, ap, subst, ◌∙◌, arith, ltb-false}
use Rattle.std.proofs.lemmas.Bool.{false≢true, eqb-false, not-true}
use Rattle.std.proofs.Math.Decide.{ℕ_discrete}
use Rattle.value.specs.Operators.{pick}
use Rattle.machine_firing.specs.Fire.{able_at, fired_at}
use Rattle.machine_runs.specs.Run.{least_from, first_from, lowest_from, still_at, still_from}
use Rattle.machine_runs.specs.RunLaws.{Quiet}
use Rattle.machine_rounds.specs.Rounds.{Swept, swept, sweep, round, Rounded, rounded, rounds_from}
use Rattle.machine_rounds.specs.RoundLaws.{rounds-step, rounds-end, rounds-zero}

-- none of the operators from i on, below j, is able
abbrev pub Passed : List ℕ → ℕ → ℕ → ℕ → Type 0
Passed m size i j = (x : ℕ) → i ≤ x → x < j → able_at m size x ≡ false

-- The firings of a round of n operators, from the turn of i on: f of them lead from m to m', each of the next operator that is able at its turn. Those
-- passed over before it, and after the last, are not able at theirs.
abbrev pub Turns : ℕ → ℕ → ℕ → ℕ → List ℕ → List ℕ → Type 0
Turns size n i zero m m' = (m' ≡ m) × Passed m size i n
Turns size n i (suc f) m m' = (j : ℕ) × (i ≤ j) × (j < n) × (able_at m size j ≡ true) × Passed m size i j × Turns size n (suc j) f (fired_at m size j) m'

-- A round "in which something fired", from m to m'.
pub record Round (size n f : ℕ) (m m' : List ℕ) : Type 0 where
  pub some : 0 < f
  pub turns : Turns size n 0 f m m'

-- r such rounds one after another, f firings in all, lead from m to m'.
abbrev pub RoundsMade : ℕ → ℕ → ℕ → ℕ → List ℕ → List ℕ → Type 0
RoundsMade size n zero f m m' = (f ≡ 0) × (m' ≡ m)
RoundsMade size n (suc r) f m m' = (g : ℕ) × (h : ℕ) × (x : List ℕ) × (f ≡ g + h) × Round size n g m x × RoundsMade size n r h x m'

-- ---- what the definition's round does

passed-more : (m : List ℕ) (size i j : ℕ) → able_at m size i ≡ false → Passed m size (suc i) j → Passed m size i j
passed-more m size i j e q x a b = go (ℕ_discrete x i)
  where
    go : Dec (x ≡ i) → able_at m size x ≡ false
    go (yes p) = ap (able_at m size) p ∙ e
    go (no d) = q x (omega arith) b

-- an operator that is not able at its turn is passed over
turns-pass : (size n i f : ℕ) (m m' : List ℕ) → able_at m size i ≡ false → Turns size n (suc i) f m m' → Turns size n i f m m'
turns-pass size n i zero m m' e t = (t.0, passed-more m size i n e t.1)
turns-pass size n i (suc f) m m' e t = (t.0, omega (arith, t.1), t.2, t.3, passed-more m size i t.0 e t.4, t.5)

pub record SweepMade (size n i : ℕ) (m : List ℕ) (c : ℕ) (s : Swept) : Type 0 where
  pub made : ℕ
  pub counts : s.firings ≡ c + made
  pub turns : Turns size n i made m s.mem

sweep-makes : (size n k i : ℕ) (m : List ℕ) (c : ℕ) → i + k ≡ n → SweepMade size n i m c (sweep size k i m c)
unfolding sweep
sweep-makes size n zero i m c e = record { made = 0; counts = omega arith; turns = (refl, λ x a b. absurd (omega arith)) }
sweep-makes size n (suc k) i m c e =
    go (able_at m size i) refl (sweep-makes size n k (suc i) (fired_at m size i) (c + 1) (omega arith)) (sweep-makes size n k (suc i) m c (omega arith))
  where
    go : (b : Bool) → able_at m size i ≡ b → SweepMade size n (suc i) (fired_at m size i) (c + 1) (sweep size k (suc i) (fired_at m size i) (c + 1))
        → SweepMade size n (suc i) m c (sweep size k (suc i) m c)
        → SweepMade size n i m c (pick b (sweep size k (suc i) (fired_at m size i) (c + 1)) (sweep size k (suc i) m c))
    go true a F P = record {
      made = suc F.made;
      counts = omega (arith, F.counts);
      turns = (i, omega arith, omega arith, a, λ x y z. absurd (omega arith), F.turns);
    }
    go false a F P = record {
      made = P.made;
      counts = P.counts;
      turns = turns-pass size n i P.made m (sweep size k (suc i) m c).mem a P.turns;
    }

pub round-turns : (size n : ℕ) (m : List ℕ) → Turns size n 0 (round size n m).firings m (round size n m).mem
unfolding round
round-turns size n m =
    let t = sweep-makes size n n 0 m 0 (omega arith) in
    let z : t.made ≡ (sweep size n 0 m 0).firings = omega (arith, t.counts) in
    subst (λ (f : ℕ). Turns size n 0 f m (sweep size n 0 m 0).mem) z t.turns

-- ---- how many firings

turns-most : (size n i f : ℕ) (m m' : List ℕ) → i ≤ n → Turns size n i f m m' → i + f ≤ n
turns-most size n i zero m m' l t = omega arith
turns-most size n i (suc f) m m' l t =
    let h = turns-most size n (suc t.0) f (fired_at m size t.0) m' (omega (arith, t.2)) t.5 in
    omega (arith, t.1, h)

-- at least one a round, and at most one for each operator
pub rounds-bound : (size n r f : ℕ) (m m' : List ℕ) → n ≤ 1024 → RoundsMade size n r f m m' → (r ≤ f) × (f ≤ 1024 * r)
rounds-bound size n zero f m m' l t = (omega (arith, t.0), omega (arith, t.0))
rounds-bound size n (suc r) f m m' l t =
    let a = turns-most size n 0 t.0 m t.2 (omega arith) t.4.turns in
    let h = rounds-bound size n r t.1 t.2 m' l t.5 in
    (omega (arith, t.3, t.4.some, h.0), omega (arith, t.3, a, h.1))

-- ---- no other memory and no other number of firings is a round's

module _ (size n i : ℕ) (m m' : List ℕ) where
  -- an able operator fires at its turn, and one that is not able does not
  turns-first : (f : ℕ) → i < n → able_at m size i ≡ true → Turns size n i f m m' → (g : ℕ) × (f ≡ suc g) × Turns size n (suc i) g (fired_at m size i) m'
  turns-first zero l a t = absurd (false≢true (sym (t.1 i (omega arith) l) ∙ a))
  turns-first (suc g) l a t = go (ℕ_discrete t.0 i)
    where
      go : Dec (t.0 ≡ i) → (h : ℕ) × (suc g ≡ suc h) × Turns size n (suc i) h (fired_at m size i) m'
      go (yes p) = (g, refl, subst (λ (j : ℕ). Turns size n (suc j) g (fired_at m size j) m') p t.5)
      go (no d) = absurd (false≢true (sym (t.4 i (omega arith) (omega (arith, t.1))) ∙ a))

  turns-rest : (f : ℕ) → able_at m size i ≡ false → Turns size n i f m m' → Turns size n (suc i) f m m'
  turns-rest zero a t = (t.0, λ x y z. t.1 x (omega arith) z)
  turns-rest (suc g) a t = go (ℕ_discrete t.0 i)
    where
      go : Dec (t.0 ≡ i) → Turns size n (suc i) (suc g) m m'
      go (yes p) = absurd (false≢true (sym a ∙ ap (able_at m size) (sym p) ∙ t.3))
      go (no d) = (t.0, omega (arith, t.1), t.2, t.3, λ x y z. t.4 x (omega arith) z, t.5)

sweep-only : (size n k i f : ℕ) (m m' : List ℕ) (c : ℕ) → i + k ≡ n → Turns size n i f m m' → sweep size k i m c ≡ swept m' (c + f)
unfolding sweep
sweep-only size n zero i zero m m' c e t = let z : c + 0 ≡ c = omega arith in rw (t.0, z) refl
sweep-only size n zero i (suc f) m m' c e t = absurd (omega (arith, t.1, t.2))
sweep-only size n (suc k) i f m m' c e t =
    go (able_at m size i) refl
    (λ g u. sweep-only size n k (suc i) g (fired_at m size i) m' (c + 1) (omega arith) u)
    (λ u. sweep-only size n k (suc i) f m m' c (omega arith) u)
  where
    go : (b : Bool) → able_at m size i ≡ b
        → ((g : ℕ) → Turns size n (suc i) g (fired_at m size i) m' → sweep size k (suc i) (fired_at m size i) (c + 1) ≡ swept m' (c + 1 + g))
        → (Turns size n (suc i) f m m' → sweep size k (suc i) m c ≡ swept m' (c + f))
        → pick b (sweep size k (suc i) (fired_at m size i) (c + 1)) (sweep size k (suc i) m c) ≡ swept m' (c + f)
    go true a F P =
        let u = turns-first size n i m m' f (omega arith) a t in
        let z : c + 1 + u.0 ≡ c + f = omega (arith, u.1) in
        F u.0 u.2 ∙ ap (swept m') z
    go false a F P = P (turns-rest size n i m m' f a t)

pub round-only : (size n f : ℕ) (m m' : List ℕ) → Turns size n 0 f m m' → round size n m ≡ swept m' f
unfolding round
round-only size n f m m' t = let z : 0 + f ≡ f = omega arith in sweep-only size n n 0 f m m' 0 (omega arith) t ∙ ap (swept m') z

-- ---- rounds one after another

pub record Counted (size n b : ℕ) (m : List ℕ) (r f : ℕ) (w : Rounded) : Type 0 where
  pub rounds : ℕ
  pub firings : ℕ
  pub rounds-count : w.rounds ≡ r + rounds
  pub firings-count : w.firings ≡ f + firings
  pub lent : rounds ≤ b
  pub between : RoundsMade size n rounds firings m w.mem

pub counted : (size n b : ℕ) (m : List ℕ) (r f : ℕ) → Counted size n b m r f (rounds_from size n b m r f)
unfolding rounds_from
counted size n zero m r f = record { rounds = 0; firings = 0; rounds-count = omega arith; firings-count = omega arith; lent = omega arith; between = (refl, refl) }
counted size n (suc b) m r f =
    go (eqb (round size n m).firings 0) refl (rounds_from size n b (round size n m).mem (r + 1) (f + (round size n m).firings))
    (counted size n b (round size n m).mem (r + 1) (f + (round size n m).firings))
  where
    go : (t : Bool) → eqb (round size n m).firings 0 ≡ t → (w : Rounded) → Counted size n b (round size n m).mem (r + 1) (f + (round size n m).firings) w
        → Counted size n (suc b) m r f (pick t (rounded m r f) w)
    go true e w C = record { rounds = 0; firings = 0; rounds-count = omega arith; firings-count = omega arith; lent = omega arith; between = (refl, refl) }
    go false e w C =
        let z = eqb-false (round size n m).firings 0 e in
        record {
          rounds = suc C.rounds;
          firings = (round size n m).firings + C.firings;
          rounds-count = omega (arith, C.rounds-count);
          firings-count = omega (arith, C.firings-count);
          lent = omega (arith, C.lent);
          between = (
            (round size n m).firings,
            C.firings,
            (round size n m).mem,
            refl,
            record { some = omega (arith, z); turns = round-turns size n m },
            C.between,
          );
        }

-- ---- nothing can fire

least-below : (m : List ℕ) (size k s j : ℕ) → s ≤ j → j < s + k → able_at m size j ≡ true → least_from m size k s < s + k
unfolding first_from
least-below m size zero s j a b e = absurd (omega arith)
least-below m size (suc k) s j a b e = go (able_at m size s) refl (ℕ_discrete j s) (λ d. least-below m size k (suc s) j d (omega arith) e)
  where
    go : (t : Bool) → able_at m size s ≡ t → Dec (j ≡ s) → (suc s ≤ j → least_from m size k (suc s) < suc s + k) → pick t s (least_from m size k (suc s)) < s + suc k
    go true t d I = omega arith
    go false t (yes p) I = absurd (false≢true (sym t ∙ ap (able_at m size) (sym p) ∙ e))
    go false t (no q) I = let l = I (omega arith) in omega (arith, l)

pub still-quiet : (m : List ℕ) (size n : ℕ) → still_at m size n ≡ true → Quiet m size n
unfolding still_from lowest_from
still-quiet m size n h j l = go (able_at m size j) refl
  where
    go : (b : Bool) → able_at m size j ≡ b → able_at m size j ≡ false
    go false e = e
    go true e =
        let x = least-below m size n 0 j (omega arith) (omega arith) e in
        absurd (omega (arith, x, ltb-false (least_from m size n 0) n (not-true (ltb (least_from m size n 0) n) h)))

pub quiet-round : (size n : ℕ) (m : List ℕ) → Quiet m size n → (round size n m).firings ≡ 0
quiet-round size n m q = ap (λ (s : Swept). s.firings) (round-only size n 0 m m (refl, λ x a b. q x b))

-- No other rounds: r of them up to the lent number, fewer only where nothing can fire.
pub rounds-only : (size n b r f : ℕ) (m m' : List ℕ) (r₀ f₀ : ℕ) → r ≤ b → RoundsMade size n r f m m' → (r < b → still_at m' size n ≡ true)
    → rounds_from size n b m r₀ f₀ ≡ rounded m' (r₀ + r) (f₀ + f)
rounds-only size n b zero f m m' r₀ f₀ l t s = go (ℕ_discrete b 0)
  where
    zr : r₀ + 0 ≡ r₀
    zr = omega arith

    zf : f₀ + f ≡ f₀
    zf = omega (arith, t.0)

    go : Dec (b ≡ 0) → rounds_from size n b m r₀ f₀ ≡ rounded m' (r₀ + 0) (f₀ + f)
    go (yes p) = rw (p, t.1, zr, zf) (rounds-zero size n m r₀ f₀)
    go (no q) = rw (t.1, zr, zf) (rounds-end size n b m r₀ f₀ (quiet-round size n m (still-quiet m size n (rw t.1 at (s (omega arith))))))
rounds-only size n b (suc r) f m m' r₀ f₀ l t s =
    let g = t.0 in
    let h = t.1 in
    let x = t.2 in
    let o = round-only size n g m x t.4.turns in
    let q = t.4.some in
    let of = ap (λ (y : Swept). y.firings) o in
    let zr : r₀ + 1 + r ≡ r₀ + suc r = omega arith in
    let zf : f₀ + g + h ≡ f₀ + f = omega (arith, t.3) in
    rounds-step size n b m r₀ f₀ (omega arith) (λ e. absurd (omega (arith, of, q, e)))
    ∙ ap (λ (y : Swept). rounds_from size n (b - 1) y.mem (r₀ + 1) (f₀ + y.firings)) o
    ∙ rounds-only size n (b - 1) r h x m' (r₀ + 1) (f₀ + g) (omega arith) t.5 (λ d. s (omega arith))
    ∙ (λ i. rounded m' (zr i) (zf i))
