-- What theory_pieces/specs/Made asks of a graph's maker, met by the made graph of every admitted formula with at most 1,024 operators: the bench of the
-- schedule lemma (crate reference), that firings commute (crate wiring), that the graph yields what direct evaluation yields (crate yields), and
-- the idle load of the start. A pushed set has one value for each input, rising, and the trigger's behind them where its link exists.
use Rattle.std.specs.Prelude.{ℕ, zero, suc, ◌+◌, ◌-◌, ◌≤◌, ◌<◌, ◌≡◌, Bool, true, false, take}
use mathlib.Core.List.{List, [], ◌∷◌}
use native.Mathlib.Omega.{arith}
use Rattle.value.specs.declared.Value.{Value}
use Rattle.value.specs.Senses.{err}
use Rattle.names.specs.Names.{Names, trigger, later, bit, put, size, size_from, members_from, below}
use Rattle.formula.specs.Tree.{Exp}
use Rattle.formula.specs.Free.{free_e, inputs_of}
use Rattle.formula.specs.Widths.{width}
use Rattle.formula.specs.Count.{count_e}
use Rattle.formula.specs.Admitted.{AdmittedE}
use Rattle.meaning.specs.Meaning.{eval_e, inputs_hold}
use Rattle.meaning.specs.WidthLaws.{Sized}
use Rattle.network.specs.Commute.{Free}
use Rattle.theory_pieces.specs.Piece.{Piece, Means, some_of, Fits}
use Rattle.graph.specs.Assembly.{free, listed, name_count}
use Rattle.graph.specs.Yields.{Values, present, bound, Yields}
use Rattle.graph.specs.Translation.{graph_e, port_of, made_of}
use Rattle.theory_reference.specs.Plan.{Between}
use Rattle.theory_reference.specs.Plugged.{registers}
use Rattle.theory_reference.specs.WrittenOut.{no-values}
use Rattle.theory_reference.specs.Marks.{marks}
use Rattle.theory_yields.specs.Meets.{Holds}
use Rattle.theory_wiring.specs.Machine.{net_of, TakesAt, PutsAt}
use Rattle.theory_wiring.specs.MadeGraph.{push_links}

-- ---- numbers beside the graph's
-- Push and take have numbers past the last operator; the link of the sets to come, which only the proof has, and the credit link lie past
-- the register links.
abbrev pub push_number : ℕ
push_number = 1024

abbrev pub take_number : ℕ
take_number = 1025

abbrev pub credit_link : ℕ
credit_link = 131072

abbrev pub source_link : ℕ
source_link = 131073
