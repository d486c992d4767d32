-- The names of an arm's outputs and of IC's outputs (graph/specs/Translation): all different, none an identifier, the trigger or the test,
-- and each of them used by what joins the arms.
use Rattle.std.specs.Prelude.{ℕ, suc, ◌+◌, ◌≤◌, ◌<◌, ◌≡◌, Bool, not, ◌&&◌, ◌||◌, List, ◌∷◌, ◌++◌, length}
use Rattle.std.proofs.Math.Bool.{true, false}
use borrow.Author.Tests.{ne_eqb, ltb-true, ltb-false}
use Rattle.formula.specs.Tree.{Exp, Body, if_b}
use Rattle.formula.specs.Widths.{iterated}
use Rattle.formula.specs.Count.{returns, iterates}
use Rattle.formula.specs.Admitted.{AdmittedB}
use Rattle.graph.specs.Assembly.{free, member_of, up_from}
use Rattle.graph.specs.Fit.{Different, Used}
use Rattle.graph.specs.Translation.{test_name, iter_name, iterated_name, returned_name, join_name, iterated_join, returned_join, arm_names, join_names, joined}
use Rattle.theory_yields.specs.BodyWidths.{iterated_outputs, returned_outputs}

-- ---- the three parts of an arm's names
abbrev pub iterated_names : Bool → Body → List ℕ
iterated_names side x = up_from (iterated_name side) (iterated_outputs x)

abbrev pub returned_names : Bool → ℕ → Body → List ℕ
returned_names side w x = up_from (returned_name side) (returned_outputs w x)

-- At most sixteen of each.
abbrev pub Narrow : ℕ → Body → Type 0
Narrow w x = (iterated_outputs x ≤ 16) × (returned_outputs w x ≤ 16)

-- Where the names of each side lie.
abbrev pub lowest : Bool → ℕ
lowest true = 34
lowest false = 67
