-- Laws of the program's loop: what a take says, by its outcomes; a drain, a feed and a pass one call at a time. Assumes nothing.
use Prim.Native.Nat.{ℕ, zero, suc, ◌+◌, ◌-◌, ◌*◌, ◌≤◌, ◌<◌}
use Rattle.std.specs.Prelude.{◌≡◌, ◌≢◌, Bool, true, false, eqb, ltb, length, get_or, take, drop, set, replicate}
use mathlib.Core.List.{List, [], ◌∷◌, ◌++◌, append_assoc, append-nil}
use native.Mathlib.Omega.{arith}
use Rattle.value.specs.Operators.{pick}
use Rattle.formula.specs.declared.Refusal.TheVariants.{NoResult}
use Rattle.formula.specs.Refusals.{number_of}
use Rattle.machine_layout.specs.Layout.{links_at, need, size_of, capacity_of, capacity_in, untaken_of, results_of}
use Rattle.machine_valid.specs.Below.{all_below}
use Rattle.machine_valid.specs.Figures.{Figures, valid-figures}
use Rattle.machine_calls.specs.Calls.{Handed, Outcome, handed, answers, refusal, standing, size_in, result_ready, written, emptied, taken_memory, taken, pushed, ran}
use Rattle.machine_calls.specs.CallLaws.{Kept, standing-good, emptied-keeps, taken_refused, taken_none, taken-empty, taken-accepted}
use Rattle.text.specs.Printed.{result_line, refusal_line}
use Rattle.session.specs.Passes.{taken_from}

-- ---- what a take says
pub data TakeSays (m : List ℕ) : Type 0 where
  refuses : (r : ℕ) → r ≢ 0 → taken_from m ≡ handed (answers r 0) m (replicate 80 0) → TakeSays m
  hands : standing m ≡ 0 → 0 < untaken_of m → taken_from m ≡ handed (answers 0 (results_of m)) (taken_memory m) (written 16 m (size_in m) (results_of m) (replicate 80 0)) → TakeSays m
