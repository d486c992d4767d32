-- What a tray of sets is in a list of calls, in the reader's words (document 02, Job 1): "Answer and memory are the same as pushing them one by one, and demand 3
-- counts each set that went in as an accepted push, also where the call then gives a refusal". Assumes nothing.
use Rattle.std.specs.Prelude.{ℕ, zero, suc, ◌≡◌, length}
use mathlib.Core.List.{List, [], ◌∷◌, ◌++◌, map}
use Rattle.std.proofs.Math.ListN.{replicate}
use Rattle.machine_calls.specs.declared.Answer.{Answer}
use Rattle.machine_calls.specs.Calls.{answers, pushed}
use Rattle.machine_calls.specs.CallLaws.{pushed-length, pushed-count}
use Rattle.machine_tray.specs.Tray.{set_bytes, trayed, went_in}
use Rattle.machine_tray.specs.TrayLaws.{length_cut}
use Rattle.machine_tray.specs.OneByOne.{Pushes, went-in}
use Rattle.demand.specs.MemoryCalls.{push, memory_after_all, answers_of, sets_pushed, results_taken}

-- Every one of some pushes is accepted, they push these sets and lead from one memory to another.
pub record AllPushed (lent : ℕ) (sets : List (List ℕ)) (m m' : List ℕ) : Type 0 where
  pub memory : memory_after_all (map (push lent) sets) m ≡ m'
  pub pushes : sets_pushed (map (push lent) sets) m ≡ sets
  pub takes : results_taken (map (push lent) sets) m ≡ []
  pub answered : answers_of (map (push lent) sets) m ≡ replicate (length sets) (answers 0 0)
