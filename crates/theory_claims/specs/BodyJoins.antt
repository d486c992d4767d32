-- Claims for the joins of a body's if (graph/specs/Translation): IC, the iterated results, the returned results. Where neither arm returns, both
-- iter? are only true, so the third output of IC has only errs, and so have the copies of it that the if returns. Assumes of the two arms what
-- their kinds give.
use Rattle.std.specs.Prelude.{ℕ, ◌+◌, ◌≤◌, ◌<◌, ◌≡◌, ◌⊎◌, Bool, cond, ◌||◌, length}
use Rattle.std.proofs.Math.Bool.{true, false}
use mathlib.Core.List.{List, [], ◌∷◌, ◌++◌}
use Rattle.value.specs.declared.ValueKind.{ValueKind}
use Rattle.formula.specs.Kinds.{either_kinds, agree_kinds}
use Rattle.graph.specs.Assembly.{Graph, wire, beside, bind, gate, IC, gate_outputs}
use Rattle.graph.specs.Fit.{gate_inputs}
use Rattle.graph.specs.Translation.{test_name, iter_name, iterated_name, returned_name, join_name, join_names}
use Rattle.theory_yields.specs.Joins.{join_i, join_r}
use Rattle.theory_claims.specs.Claims.{Claim, only-true, only-err, Under, truths}

-- ---- IC
-- The claim of an arm's iter?, by whether it returns, and of the third output of IC, by whether either does.
abbrev pub iter_for : Bool → Claim
iter_for b = cond b truths only-true

abbrev pub third_for : Bool → Bool → Claim
third_for b c = cond (b || c) truths only-err

abbrev pub Third-output : Claim → Claim → Claim → Type 0
Third-output p q r = Under truths r ⊎ (Under p only-true × Under q only-true × Under only-err r)

abbrev pub inputs_of_iC : Graph
inputs_of_iC = beside (wire test_name) (beside (wire (iter_name true)) (wire (iter_name false)))
