-- Gates side by side, one for each name of a set, each keeping to its own links: what each does alone, all do one after another.
-- Assumes that links of different names are different. Knows of no gate.
use Prim.Native.Nat.{ℕ, zero, suc, ◌+◌, ◌≤◌, ◌<◌}
use Rattle.std.specs.Prelude.{◌≡◌, ◌≢◌, Bool, true, false, cond}
use native.Mathlib.Omega.{arith}
use Rattle.names.specs.Names.{Names}
use Rattle.network.specs.Net.{Links}
use Rattle.theory_pieces.specs.Goes.{Net}

-- The firings of the first k names.
unfoldable pub tally : ℕ → Names → ℕ → ℕ
tally e f zero = 0
tally e f (suc k) = tally e f k + cond (f k) e 0
