-- Laws of `bind` (document 01: a let's and a for's "identifiers a to a+b-1"): what each identifier holds, two stretches bound
-- one after the other, a stretch bound again. Assumes nothing.
use Rattle.std.specs.Prelude.{ℕ, ◌+◌, ◌-◌, ◌≤◌, ◌<◌, ◌≡◌, refl, Bool, true, false, List, ◌++◌, leb, ltb, length, get_or}
use borrow.Author.Tests.{leb-true, leb-false, ltb-true, ltb-false, le-leb, lt-leb, lt-ltb, le-ltb}
use native.Mathlib.Omega.{arith}
use Rattle.value.specs.declared.Value.{Value}
use Rattle.value.specs.Senses.{err}

-- Where identifier k stands to the identifiers a to a+b-1.
pub data Side (a b k : ℕ) : Type 0 where
  before : k < a → Side a b k
  among : a ≤ k → k < a + b → Side a b k
  behind : a ≤ k → a + b ≤ k → Side a b k
