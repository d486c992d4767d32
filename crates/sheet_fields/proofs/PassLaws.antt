-- Laws of a pass over the rows from 1 to n that stops at the first fault; r is the row that it comes to.
use Rattle.std.specs.Prelude.{ℕ, suc, ◌+◌, ◌-◌, ◌≤◌, ◌<◌, ◌≡◌, Bool, true, false, Ok, Err}
use Rattle.std.proofs.Common.{arith}
use Rattle.formula.specs.Tests.{lowest_from, lowest}

pub starts_pass : (n : ℕ) (well : ℕ → Bool) → lowest_from 1 (n + 1 - 1) well ≡ lowest n well
starts_pass n well = let e : n + 1 - 1 ≡ n = omega arith in rw e

module _ (n r : ℕ) (well : ℕ → Bool) where
  left : r ≤ n → n + 1 - r ≡ suc (n + 1 - (r + 1))
  left h = omega arith

  pub passes_row : r ≤ n → well r ≡ true → lowest_from (r + 1) (n + 1 - (r + 1)) well ≡ lowest_from r (n + 1 - r) well
  unfolding lowest_from
  passes_row h e = let f : r + 1 ≡ suc r = omega arith in rw (left h, e, f)

  pub stops_at : r ≤ n → well r ≡ false → lowest_from r (n + 1 - r) well ≡ Err r
  unfolding lowest_from
  stops_at h e = rw (left h, e)

  pub ends_pass : n < r → lowest_from r (n + 1 - r) well ≡ Ok tt
  unfolding lowest_from
  ends_pass h = let e : n + 1 - r ≡ 0 = omega arith in rw e

  pub last_row : n ≤ r → r ≤ n → well r ≡ true → lowest_from r (n + 1 - r) well ≡ Ok tt
  unfolding lowest_from
  last_row h k e = let f : n + 1 - (r + 1) ≡ 0 = omega arith in rw (left k, e, f)

-- What a pass over rows asks of the tactics.
pub ruleset passing = (starts_pass, passes_row, stops_at, ends_pass, last_row)
