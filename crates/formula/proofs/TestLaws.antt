-- Laws of `lowest`, the lowest row at fault: a pass over the rows that stops at the first fault finds it, and it is Passed
-- if and only if each row is well.
use Rattle.std.specs.Prelude.{ℕ, zero, suc, ◌+◌, ◌-◌, ◌≤◌, ◌<◌, ◌≡◌, Bool, true, false, cond, Ok, Err}
use Rattle.std.proofs.Math.Path.{refl}
use Rattle.std.proofs.Common.{sym, ap, ◌∙◌, not-suc-le-zero}
use native.Mathlib.Omega.{arith}
use Rattle.std.proofs.Math.Numerals.{add-one}
use Rattle.std.proofs.Math.Decide.{ℕ_discrete}
use Rattle.formula.specs.Tests.{lowest_from, lowest, whole}

-- A pass that has seen i of n rows: a row that is well goes on, one that is not is the answer.
module _ (n i : ℕ) (well : ℕ → Bool) where
  left : i < n → n - i ≡ suc (n - (i + 1))
  left h = omega arith

  pub starts : lowest_from (0 + 1) (n - 0) well ≡ lowest n well
  starts = let z : n - 0 ≡ n = omega arith in rw z refl

  pub goes_on : i < n → well (i + 1) ≡ true → lowest_from (i + 1 + 1) (n - (i + 1)) well ≡ lowest_from (i + 1) (n - i) well
  unfolding lowest_from
  goes_on h e = rw (left h, e, add-one (i + 1)) refl

  pub stops : i < n → well (i + 1) ≡ false → lowest_from (i + 1) (n - i) well ≡ Err (i + 1)
  unfolding lowest_from
  stops h e = rw (left h, e) refl

  pub ends : n ≤ i → lowest_from (i + 1) (n - i) well ≡ Ok tt
  unfolding lowest_from
  ends h = let z : n - i ≡ 0 = omega arith in rw z refl

-- Passed says that each row is well, and the other way round.
all_from : (k r : ℕ) (well : ℕ → Bool) → lowest_from r k well ≡ Ok tt → (j : ℕ) → r ≤ j → j < r + k → well j ≡ true
unfolding lowest_from
all_from zero r well e j h l = absurd (not-suc-le-zero {n = 0} (omega arith))
all_from (suc k) r well e j h l =
    go (λ q n. all_from k (suc r) well q j (omega arith) (omega arith)) (well r) refl e (ℕ_discrete r j)
  where
    go : (lowest_from (suc r) k well ≡ Ok tt → (r ≡ j → ⊥) → well j ≡ true) → (b : Bool) → well r ≡ b
        → cond b (lowest_from (suc r) k well) (Err r) ≡ Ok tt → Dec (r ≡ j) → well j ≡ true
    go later true p q (yes s) = ap well (sym s) ∙ p
    go later true p q (no n) = later q n
    go later false p q d = let z : ◌≡◌ {A = ℕ} 0 1 = cc in absurd (omega arith)

from_all : (k r : ℕ) (well : ℕ → Bool) → ((j : ℕ) → r ≤ j → j < r + k → well j ≡ true) → lowest_from r k well ≡ Ok tt
unfolding lowest_from
from_all zero r well h = refl
from_all (suc k) r well h =
    rw (h r (omega arith) (omega arith)) (from_all k (suc r) well λ j a b. h j (omega arith) (omega arith))

pub passed-each : (n : ℕ) (well : ℕ → Bool) → lowest n well ≡ Ok tt → (r : ℕ) → 1 ≤ r → r ≤ n → well r ≡ true
passed-each n well e r h l = all_from n 1 well e r h (omega arith)

pub each-passed : (n : ℕ) (well : ℕ → Bool) → ((r : ℕ) → 1 ≤ r → r ≤ n → well r ≡ true) → lowest n well ≡ Ok tt
each-passed n well h = from_all n 1 well λ j a b. h j a (omega arith)

same_from : (k r : ℕ) (f g : ℕ → Bool) → ((j : ℕ) → r ≤ j → j < r + k → f j ≡ g j) → lowest_from r k f ≡ lowest_from r k g
unfolding lowest_from
same_from zero r f g h = refl
same_from (suc k) r f g h =
    rw (h r (omega arith) (omega arith), same_from k (suc r) f g λ j a b. h j (omega arith) (omega arith)) refl

-- Two tests that say the same of each row have the same lowest row at fault.
pub same-lowest : (n : ℕ) (f g : ℕ → Bool) → ((r : ℕ) → 1 ≤ r → r ≤ n → f r ≡ g r) → lowest n f ≡ lowest n g
same-lowest n f g h = same_from n 1 f g λ j a b. h j a (omega arith)

-- A fault is the lowest row that is not well.
lowest-from : (k r : ℕ) (well : ℕ → Bool) (row : ℕ) → lowest_from r k well ≡ Err row
    → (r ≤ row) × (row < r + k) × (well row ≡ false) × ((j : ℕ) → r ≤ j → j < row → well j ≡ true)
unfolding lowest_from
lowest-from zero r well row h = absurd (let z : ◌≡◌ {A = ℕ} 0 1 = cc h in omega arith)
lowest-from (suc k) r well row h = go (well r) refl h (lowest-from k (suc r) well row)
  where
    go : (b : Bool) → well r ≡ b → cond b (lowest_from (suc r) k well) (Err r) ≡ Err row
        → (lowest_from (suc r) k well ≡ Err row → (suc r ≤ row) × (row < suc r + k) × (well row ≡ false) × ((j : ℕ) → suc r ≤ j → j < row → well j ≡ true))
        → (r ≤ row) × (row < r + suc k) × (well row ≡ false) × ((j : ℕ) → r ≤ j → j < row → well j ≡ true)
    go true e f ih =
        let i = ih f in
        (omega (arith, i.0), omega (arith, i.1), i.2, λ j a b. each j a b (ℕ_discrete j r) i.3)
      where
        each : (j : ℕ) → r ≤ j → j < row → Dec (j ≡ r) → ((j : ℕ) → suc r ≤ j → j < row → well j ≡ true) → well j ≡ true
        each j a b (yes p) later = ap well p ∙ e
        each j a b (no q) later = later j (omega arith) b
    go false e f ih =
        let i : r ≡ row = cc f in
        (omega arith, omega arith, ap well (sym i) ∙ e, λ j a b. absurd (omega arith))

pub lowest-fault : (n : ℕ) (well : ℕ → Bool) (row : ℕ) → lowest n well ≡ Err row
    → (1 ≤ row) × (row ≤ n) × (well row ≡ false) × ((j : ℕ) → 1 ≤ j → j < row → well j ≡ true)
lowest-fault n well row h = let i = lowest-from n 1 well row h in (i.0, omega (arith, i.1), i.2, i.3)

-- The tests that are not about rows.
pub whole-true : (b : Bool) → whole b ≡ Ok tt → b ≡ true
whole-true true h = refl
whole-true false h = absurd (let z : ◌≡◌ {A = ℕ} 0 1 = cc h in omega arith)

pub whole-zero : (b : Bool) (row : ℕ) → whole b ≡ Err row → row ≡ 0
whole-zero true row h = absurd (let z : ◌≡◌ {A = ℕ} 0 1 = cc h in omega arith)
whole-zero false row h = let i : 0 ≡ row = cc h in sym i
