-- How often each operator fires, on the abstract machine of every accepted sheet (document 02, Job 10: "when nothing can fire and every pushed set is taken, each
-- operator has fired a number of times that depends on the sheet and the sets alone, in every order and at every capacity"): two lists of calls that push the
-- same sets in the same order, at any two capacities, fire each operator equally often (`same-firings`). Rests on the law for any made graph (theory_pieces/specs/Calls `fired-alike`).
-- Assumes an admissible sheet and one place a link; that evaluation ends is not assumed, it follows from both being at rest.
use Rattle.std.specs.Prelude.{ℕ, ◌≤◌, ◌<◌, ◌≡◌, ◌≢◌, List, [], map}
use Rattle.std.proofs.Math.ListN.{length}
use native.Mathlib.Omega.{arith}
use Rattle.formula.specs.Tree.{Exp, formula_of}
use Rattle.formula.specs.Count.{count_e}
use Rattle.formula.specs.Admitted.{AdmittedE}
use Rattle.formula.specs.Acceptance.{Admissible}
use Rattle.network.specs.Net.{Able}
use Rattle.theory_pieces.specs.Tape.{Step, firing, sets_of}
use Rattle.graph.specs.Translation.{made_of}
use Rattle.theory_wiring.specs.Machine.{net_of}
use Rattle.theory_verdicts.specs.Owed.{push_number, take_number, source_link, credit_link}
use Rattle.theory_verdicts.specs.Running.{places, operator_at, with_trigger, start_of, dec_able, Call, fires, steps_of, history, standing, pushed, taken}
use Rattle.theory_rounds.specs.InTurn.{times}

-- "when nothing can fire and every pushed set is taken"
pub record AtRest (x : Exp) (capacity : ℕ) (calls : List Call) : Type 0 where
  pub still : (a : ℕ) → steps_of x capacity (fires a) (standing x capacity calls) ≡ []
  pub all-taken : length (taken x capacity calls) ≡ length (pushed x capacity calls)
