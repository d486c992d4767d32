-- What is left of a list of events after another, in numbers: where only numbers below n are left, as many as the sum over these of what each is short of.
-- About lists of numbers alone (theory_schedule/specs/Counts); assumes nothing.
use Rattle.std.specs.Prelude.{ℕ, zero, suc, ◌+◌, ◌-◌, ◌≤◌, ◌<◌, ◌≡◌, refl, List, [], ◌∷◌, length}
use Rattle.std.proofs.Common.{sym, ◌∙◌, arith}
use Rattle.std.proofs.Math.Logic.{ite, if_pos, if_neg}
use Rattle.std.proofs.Math.Decide.{ℕ_discrete, dec_lt}
use Rattle.theory_schedule.specs.Schedules.{remaining}
use Rattle.theory_schedule.specs.Counts.{count}
use Rattle.theory_schedule.proofs.Counts.{count-remaining}
use Rattle.theory_rounds.specs.InTurn.{sum_below}

pub sum_same : (n : ℕ) (f g : ℕ → ℕ) → ((i : ℕ) → i < n → f i ≡ g i) → sum_below n f ≡ sum_below n g
sum_same zero f g h = refl
sum_same (suc n) f g h = omega (arith, sum_same n f g (λ i l. h i (omega arith)), h n (omega arith))

sum-none : (n : ℕ) → sum_below n (λ i. 0) ≡ 0
sum-none zero = refl
sum-none (suc n) = omega (arith, sum-none n)

head-past : (n a : ℕ) (w : List ℕ) → n ≤ a → sum_below n (λ i. count i (a ∷ w)) ≡ sum_below n (λ i. count i w)
head-past n a w h = sum_same n (λ i. count i (a ∷ w)) (λ i. count i w) (λ i l. if_neg (ℕ_discrete i a) (λ (e : i ≡ a). omega arith) _ _)

head-below : (n a : ℕ) (w : List ℕ) → a < n → sum_below n (λ i. count i (a ∷ w)) ≡ suc (sum_below n (λ i. count i w))
head-below zero a w h = absurd (omega arith)
head-below (suc n) a w h = go (ℕ_discrete n a) (λ l. head-below n a w l)
  where
    go : Dec (n ≡ a) → (a < n → sum_below n (λ i. count i (a ∷ w)) ≡ suc (sum_below n (λ i. count i w)))
        → sum_below n (λ i. count i (a ∷ w)) + count n (a ∷ w) ≡ suc (sum_below n (λ i. count i w) + count n w)
    go (yes e) ih =
        let c : count n (a ∷ w) ≡ suc (count n w) = if_pos (ℕ_discrete n a) e _ _ in
        omega (arith, c, head-past n a w (omega arith))
    go (no d) ih =
        let c : count n (a ∷ w) ≡ count n w = if_neg (ℕ_discrete n a) d _ _ in
        omega (arith, c, ih (omega arith))

-- A list of numbers below n is as long as the sum of how often each is in it.
pub length-counts : (n : ℕ) (w : List ℕ) → ((e : ℕ) → n ≤ e → count e w ≡ 0) → length w ≡ sum_below n (λ i. count i w)
length-counts n [] far = sym (sum-none n)
length-counts n (a ∷ w) far = go (dec_lt a n) (length-counts n w (λ e l. less e (ℕ_discrete e a) (far e l)))
  where
    own : count a (a ∷ w) ≡ suc (count a w)
    own = if_pos (ℕ_discrete a a) refl _ _

    less : (e : ℕ) (d : Dec (e ≡ a)) → ite d (suc (count e w)) (count e w) ≡ 0 → count e w ≡ 0
    less e (yes p) z = absurd (omega arith)
    less e (no p) z = z

    go : Dec (a < n) → length w ≡ sum_below n (λ i. count i w) → suc (length w) ≡ sum_below n (λ i. count i (a ∷ w))
    go (yes l) ih = omega (arith, head-below n a w l, ih)
    go (no l) ih = absurd (omega (arith, own, far a (omega arith)))

-- Where of the numbers from n on nothing is left, so many are left as the sum says, each difference never below 0.
pub remaining-shares : (n : ℕ) (u v : List ℕ) → ((e : ℕ) → n ≤ e → count e v ≤ count e u) → length (remaining u v) ≡ sum_below n (λ i. count i v - count i u)
remaining-shares n u v far =
    length-counts n (remaining u v) (λ e l. omega (arith, count-remaining e u v, far e l))
    ∙ sum_same n (λ i. count i (remaining u v)) (λ i. count i v - count i u) (λ i l. count-remaining i u v)
