-- The graph of an admitted formula is fit (graph/specs/Fit): ports and names match in number, every bound name is used, and a loop's body hands
-- on no bare input. A body's outputs are iter?, its iterated results and its returned results, as many as the whole loop returns, which is w.
use Rattle.std.specs.Prelude.{ℕ, suc, ◌+◌, ◌-◌, ◌≤◌, ◌<◌, ◌≡◌, refl, Bool, true, false, ◌&&◌, List, length}
use Rattle.names.specs.Names.{Names, size_from, bit}
use Rattle.formula.specs.Tree.{Exp, identifier, constant, pair, operator, let_e, if_e, for_e, Body, ret, iter, let_b, if_b}
use Rattle.formula.specs.Widths.{width, returned, iterated}
use Rattle.formula.specs.Free.{free_e, free_b, bound_e, bound_b, covers}
use Rattle.formula.specs.Count.{returns, iterates}
use Rattle.formula.specs.Admitted.{AdmittedE, AdmittedB}
use Rattle.graph.specs.Assembly.{Graph, loop, gate_outputs, free, up_from, total, name_count}
use Rattle.graph.specs.Yields.{output_count}
use Rattle.graph.specs.Fit.{Fit, Used, gate_inputs}
use Rattle.graph.specs.Translation.{test_name, returned_name, merge_row, arm_names, joined, graph_e, graph_b}
use Rattle.meaning.specs.WidthLaws.{Suits}

-- The returned width of a body is that of the whole loop, where it has one.
pub record Returning (w : ℕ) (y : Body) : Type 0 where
  pub some-width : 1 ≤ w
  pub at_most : w ≤ 16
  pub suits : Suits (returned y) w
