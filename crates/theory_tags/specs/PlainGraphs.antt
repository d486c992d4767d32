-- The graph of a formula without for has no kind of operator behind M: E and IC join the arms of a body's if, FM and FS are a loop's own (document 01, "The graph").
-- Assumes a formula that document 01's rules admit, so that its operators have codes 1 to 11.
use Rattle.std.specs.Prelude.{ℕ, ◌+◌, ◌≤◌, List, [], ◌∷◌, ◌++◌}
use Rattle.names.specs.Names.{Names, common, without, members}
use Rattle.formula.specs.Tree.{Exp, identifier, constant, pair, operator, let_e, if_e, for_e}
use Rattle.formula.specs.Widths.{width}
use Rattle.formula.specs.Free.{free_e}
use Rattle.formula.specs.Admitted.{AdmittedE}
use Rattle.network.specs.Rules.{M-gate}
use Rattle.machine_layout.specs.Kinds.{byte_of}
use Rattle.meaning.specs.Loopless.{Loopless}
use Rattle.graph.specs.Assembly.{Gate, const, oper, T, F, M, E, IC, Graph, wire, nothing, beside, bind, gate, loop, free, member_of, Env, Operator, up_from, gate_of, copies_for, sharing, shared_links, first_use, second_use, named, listed, links_of, outputs, operators_of}
use Rattle.graph.specs.Translation.{row, gated, arm, merged, merge_row, test_name, returned_name, graph_e, made_of, port_of}
use Rattle.theory_reference.specs.Plugged.{Each}

-- An operator of a kind up to M.
abbrev pub Plain : Operator → Type 0
Plain o = byte_of o.kind ≤ byte_of M-gate

-- ---- the operators of a graph
abbrev pub PlainGate : Gate → Type 0
PlainGate (const v) = Unit {0}
PlainGate (oper k) = k ≤ 11
PlainGate T = Unit {0}
PlainGate F = Unit {0}
PlainGate M = Unit {0}
PlainGate E = ⊥
PlainGate (IC second) = ⊥

-- A graph without loops and such gates.
abbrev pub PlainGraph : Graph → Type 0
PlainGraph (wire x) = Unit {0}
PlainGraph nothing = Unit {0}
PlainGraph (beside a b) = PlainGraph a × PlainGraph b
PlainGraph (bind ns a b) = PlainGraph a × PlainGraph b
PlainGraph (gate g a) = PlainGate g × PlainGraph a
PlainGraph (loop ns a b) = ⊥
