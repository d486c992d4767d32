-- The least number that passes a test, with the laws by which it is found and used. Assumes nothing.
use Rattle.std.specs.Prelude.{ℕ, zero, suc, ◌+◌, ◌≤◌, ◌<◌, ◌≡◌, refl, Bool, true, false}
use Rattle.value.specs.Operators.{pick}

-- the first of the k numbers from i on that passes, or i + k
unfoldable pub first_passing : (ℕ → Bool) → ℕ → ℕ → ℕ
first_passing f zero i = i
first_passing f (suc k) i = pick (f i) i (first_passing f k (suc i))

-- the least number below n that passes, or n
unfoldable pub least : (ℕ → Bool) → ℕ → ℕ
least f n = first_passing f n 0

abbrev pub NoneBelow : (ℕ → Bool) → ℕ → Type 0
NoneBelow f i = (j : ℕ) → j < i → f j ≡ false

-- What the least number says: it passes unless it is n, and none below it does.
pub record Least (f : ℕ → Bool) (n : ℕ) (i : ℕ) : Type 0 where
  pub upto : i ≤ n
  pub passes : i < n → f i ≡ true
  pub none : NoneBelow f i
