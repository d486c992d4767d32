-- What theory_pieces/specs/Alone asks besides, met by the made graph of every admitted formula: with twins behind N firings of their operators every set of
-- values comes to an end, by its own evaluation or cut (theory_yields/specs/Cuts, theory_reference/specs/CutSchedule). Assumes at most 1,024 operators.
use Rattle.std.specs.Prelude.{ℕ, ◌≤◌, ◌⊎◌, List, length, take}
use Rattle.value.specs.declared.Value.{Value}
use Rattle.names.specs.Names.{size}
use Rattle.formula.specs.Tree.{Exp}
use Rattle.formula.specs.Free.{free_e, inputs_of}
use Rattle.formula.specs.Count.{count_e}
use Rattle.formula.specs.Admitted.{AdmittedE}
use Rattle.meaning.specs.Meaning.{inputs_hold}
use Rattle.network.specs.Net.{Demand}
use Rattle.theory_pieces.specs.Piece.{some_of, Fits}
use Rattle.theory_pieces.specs.Goes.{Net}
use Rattle.graph.specs.Yields.{Values, Answer, Yields, YieldsIn}
use Rattle.graph.specs.Assembly.{operators_of}
use Rattle.graph.specs.Translation.{graph_e, port_of, made_of}
use Rattle.theory_reference.specs.Plan.{Plan}
use Rattle.theory_reference.specs.GraphLayout.{plan_of}
use Rattle.theory_reference.specs.WholeGraph.{from-inputs}
use Rattle.theory_wiring.specs.Machine.{net_of}

-- A twin's number is its operator's and this: past all operators, push and take.
abbrev pub twin_offset : ℕ
twin_offset = 2048
