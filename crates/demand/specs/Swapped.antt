-- SEVERAL SETS SWAPPED AT ONCE (document 02, Job 11), on real memory: two runs of one sheet whose sets differ only at a group of positions have the same result at
-- every position outside the group that was taken in both (`swapped`), since a set whose evaluation ends has one result, in whatever run and wherever it was
-- pushed (`same-result`). Rests on the claim beside demand 3 (Alone). Assumes the two accepted starts, and outside the group the same sets, whose
-- evaluation ends.
use Rattle.std.specs.Prelude.{ℕ, ◌<◌, ◌≡◌, refl, Bool, true, false, List, [], ◌++◌, length, get_or}
use Rattle.formula.specs.Tree.{formula_of}
use Rattle.formula.specs.Faults.{letters_of}
use Rattle.meaning.specs.declared.Evaluation.{Evaluation}
use Rattle.meaning.specs.Evaluate.{evaluation_of}
use Rattle.value_sets.specs.Sets.{set_ok}
use Rattle.machine_start.specs.Start.{started}
use Rattle.machine_start.specs.StartLaws.{accepted-start}
use Rattle.demand.specs.MemoryCalls.{Call, Result, sets_pushed, results_taken}

-- "Take two runs of one sheet, each as in demand 3, with any orders and capacities": an accepted start with its own kinds line, capacity and memory, and any list of
-- demand 3's calls from what it left.
pub record Run (sheet : List ℕ) : Type 0 where
  pub line : List ℕ
  pub capacity : ℕ
  pub memory : List ℕ
  -- what lies behind the memory that start was lent: the calls may be lent more
  pub behind : List ℕ
  pub calls : List Call
  pub accepted : (started sheet line capacity memory).answer.refusal ≡ 0

abbrev pub begun : {sheet : List ℕ} → Run sheet → List ℕ
begun {sheet} r = (started sheet r.line r.capacity r.memory).mem ++ r.behind

abbrev pub sets : {sheet : List ℕ} → Run sheet → List (List ℕ)
sets r = sets_pushed r.calls (begun r)

abbrev pub results : {sheet : List ℕ} → Run sheet → List Result
results r = results_taken r.calls (begun r)
