-- The graph of a formula without for has no loop (graph/specs/Assembly: `loop`; document 01, "The graph": FM and FS gates stand in loops alone), so it has no gate
-- with a register and no control link that holds a false between two sets. Assumes nothing.
use Rattle.std.specs.Prelude.{ℕ, List, [], ◌∷◌}
use Rattle.names.specs.Names.{Names, members}
use Rattle.formula.specs.Tree.{Exp, identifier, constant, pair, operator, let_e, if_e, for_e}
use Rattle.formula.specs.Widths.{width}
use Rattle.formula.specs.Free.{free_e}
use Rattle.meaning.specs.Loopless.{Loopless}
use Rattle.graph.specs.Assembly.{Graph, wire, nothing, beside, bind, gate, loop, Gate, up_from, T, F}
use Rattle.graph.specs.Translation.{row, gated, arm, merged, merge_row, test_name, returned_name, graph_e}
use Rattle.theory_reference.specs.GraphLayout.{RingOf}

abbrev pub Loop-free : Graph → Type 0
Loop-free (wire x) = Unit {0}
Loop-free nothing = Unit {0}
Loop-free (beside a b) = Loop-free a × Loop-free b
Loop-free (bind ns a b) = Loop-free a × Loop-free b
Loop-free (gate g a) = Loop-free a
Loop-free (loop ns a b) = ⊥
