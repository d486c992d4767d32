-- The calls that the program makes, as one list from the memory that start left (demand/specs/MemoryCalls): each is lent the whole memory. So demand 3, which
-- speaks of every such list, speaks of the program's loop. Assumes nothing.
use Rattle.std.specs.Prelude.{ℕ, zero, suc, ◌+◌, ◌*◌, ◌≤◌, ◌≡◌, Bool, cond, length, drop, replicate, take as first_of}
use mathlib.Core.List.{List, [], ◌∷◌, ◌++◌, append-nil}
use Rattle.value.specs.Bytes.{stored}
use Rattle.machine_layout.specs.Layout.{results_of}
use Rattle.machine_calls.specs.Calls.{Handed, size_in, result_word, written_from, written, pushed, ran, taken}
use Rattle.text.specs.Printed.{result_line}
use Rattle.demand.specs.MemoryCalls.{Call, push, run, take, Result, result, accepted, memory_after, set_of, result_of, memory_after_all, sets_pushed, results_taken}
use Rattle.session.specs.Passes.{taken_from}

-- A memory to which calls have led from a start, with the sets that they pushed and the results that they took.
pub record Reached (start m : List ℕ) (sets : List (List ℕ)) (results : List Result) : Type 0 where
  pub calls : List Call
  pub memory : memory_after_all calls start ≡ m
  pub sets-are : sets_pushed calls start ≡ sets
  pub results-are : results_taken calls start ≡ results

-- ---- what a take hands out
-- "a line for each set with an 11-character field a result"
abbrev pub line_of : Result → List ℕ
line_of r = result_line r.width r.bytes

abbrev pub handed_from : List ℕ → Result
handed_from m = result (taken_from m).answer.count (taken_from m).out
