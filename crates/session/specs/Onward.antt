-- Each repetition of the program's loop (Passes) that no run's 36 ends leaves less to do: it fires, or it takes a set. For when nothing fires, demand 3 says
-- that the oldest untaken set can be taken; and where every pushed set is taken, a push would be accepted, so none was refused. Assumes an accepted start
-- and sets that pass 12.
use Prim.Native.Nat.{ℕ, zero, suc, ◌+◌, ◌-◌, ◌≤◌, ◌<◌}
use Rattle.std.specs.Prelude.{◌≡◌, ◌⊎◌, ◌≢◌, Bool, true, false, eqb, replicate}
use mathlib.Core.List.{List, [], ◌∷◌, ◌++◌, append_assoc, append-nil}
use Rattle.std.proofs.Math.ListN.{length}
use Rattle.value.specs.Operators.{pick}
use Rattle.formula.specs.declared.Refusal.TheVariants.{NotAble}
use Rattle.formula.specs.Refusals.{number_of}
use Rattle.formula.specs.Tree.{Exp, formula_of}
use Rattle.formula.specs.Faults.{letters_of}
use Rattle.network.specs.Net.{Links}
use Rattle.graph.specs.Translation.{made_of}
use Rattle.machine_layout.specs.Layout.{operators_of, untaken_of, capacity_in, size_of, need}
use Rattle.machine_firing.specs.Fire.{able_at}
use Rattle.machine_runs.specs.Run.{still_at}
use Rattle.machine_calls.specs.Calls.{Outcome, size_in, standing, pushed, fired, ran, taken}
use Rattle.value_sets.specs.Sets.{set_ok}
use Rattle.machine_calls.specs.CallLaws.{fired-idle}
use Rattle.theory_verdicts.specs.Running.{start_of, after_steps, steps_from}
use Rattle.demand_view.specs.Stands.{Stands}
use Rattle.machine_start.specs.Start.{started}
use Rattle.refusals.specs.RunCount.{Firings, RunCounts}
use Rattle.demand.specs.MemoryCalls.{Call, push, fire, take, Result, answer_of, memory_after_all, sets_pushed, results_taken}
use Rattle.demand.specs.Claim.{OwnVerdicts}
use Rattle.session.specs.WholeSets.{EachWhole}
use Rattle.session.specs.Reached.{Reached, line_of}

-- The lines of some results, one after the other.
unfoldable pub lines_of : List Result → List ℕ
lines_of [] = []
lines_of (r ∷ rs) = line_of r ++ lines_of rs

-- ---- the loop underway
module _ (sheet line : List ℕ) (capacity : ℕ) (memory : List ℕ) (h : (started sheet line capacity memory).answer.refusal ≡ 0) where
  abbrev pub start : List ℕ
  start = (started sheet line capacity memory).mem

  abbrev pub kinds : List ℕ
  kinds = letters_of (formula_of sheet) line

  -- Of the sets `all`, n are not taken yet, and `rest`, the last of them, not pushed.
  pub record Underway (all : List (List ℕ)) (n : ℕ) (rest : List (List ℕ)) (m : List ℕ) : Type 0 where
    pub sets : List (List ℕ)
    pub results : List Result
    pub reached : Reached start m sets results
    pub in_order : sets ++ rest ≡ all
    pub counts : length results + n ≡ length all
    pub whole : EachWhole kinds rest

-- ---- the loop, over or underway
pub data Going (n : ℕ) (rest : List (List ℕ)) (m : List ℕ) : Type 0 where
  over : n ≡ 0 → Going n rest m
  on : (sheet line : List ℕ) (capacity : ℕ) (memory : List ℕ) (h : (started sheet line capacity memory).answer.refusal ≡ 0) (all : List (List ℕ))
      → Underway sheet line capacity memory h all n rest m → Going n rest m
