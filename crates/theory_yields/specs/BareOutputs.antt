-- Which inputs of a graph are bare outputs as well (graph/specs/Fit): none of a body that iterates and returns, since such a body ends, behind
-- any lets, in an if, and an if passes its names through T and F gates. A loop may close over such a body alone.
use Rattle.std.specs.Prelude.{ℕ, ◌+◌, ◌≡◌, refl, Bool, true, false, not, cond, ◌&&◌, ◌||◌, List, [], ◌∷◌, eqb}
use Rattle.names.specs.Names.{Names, none as noNames, common, members}
use Rattle.formula.specs.Tree.{Body, ret, iter, let_b, if_b}
use Rattle.formula.specs.Widths.{iterated}
use Rattle.formula.specs.Free.{free_b}
use Rattle.formula.specs.Count.{returns, iterates}
use Rattle.formula.specs.Admitted.{AdmittedB}
use Rattle.graph.specs.Assembly.{Graph, wire, nothing, beside, bind, gate, loop, Gate, T, F, IC, free, member_of, up_from, total, name_count}
use Rattle.graph.specs.Fit.{bare}
use Rattle.graph.specs.Translation.{test_name, iter_name, iterated_name, returned_name, join_name, row, gated, arm, merged, excepted, merge_row, except_row, straight, copied, iterated_join, returned_join, arm_names, join_names, joined, graph_e, graph_b}

abbrev pub NoBare : Graph → Type 0
NoBare g = (k : ℕ) → bare g k ≡ false
