-- Calls of the first machine (demand/specs/MemoryCalls) that lead from one of its memories to another, push these sets and take these results: none, an accepted push, a fire, an
-- accepted take, and one list behind another. A tag's machine is played so by the calls of the machine with tags. Assumes nothing.
use Rattle.std.specs.Prelude.{ℕ, ◌≡◌, refl, length, drop, take as first_of}
use mathlib.Core.List.{List, [], ◌∷◌, ◌++◌, append-nil}
use Rattle.machine_calls.specs.Calls.{outcome, handed, answers, pushed, fired, taken}
use Rattle.demand.specs.MemoryCalls.{Call, push, fire, take, Result, result, accepted, done, memory_after, set_of, result_of, memory_after_all, sets_pushed, results_taken}

pub record Plays (m m' : List ℕ) (sets : List (List ℕ)) (results : List Result) : Type 0 where
  pub calls : List Call
  pub ends : memory_after_all calls m ≡ m'
  pub pushes : sets_pushed calls m ≡ sets
  pub takes : results_taken calls m ≡ results
