-- Each operator of a made graph has the ports and the register of its kind (demand_view/specs/Sound: Formed): for a copy, a gate and the gates of a loop, and
-- from there by induction over the graph language (graph/specs/Assembly). Document 01, refusal 31: "a stored figure .. outside its range". Assumes of a
-- graph that it is fit, that its operators have codes 1 to 11 and that its constants are in range and such as a sheet can have.
use Rattle.std.specs.Prelude.{ℕ, zero, suc, ◌+◌, ◌≤◌, ◌<◌, ◌≡◌, refl, Bool, true, false, List, [], ◌∷◌, ◌++◌, length, drop, get_or, ltb}
use Rattle.std.proofs.Math.Option.{some}
use Rattle.value.specs.Operators.{operands}
use Rattle.value.specs.Bytes.{InRange}
use Rattle.value.specs.Constants.{in_constant_range}
use Rattle.names.specs.Names.{Names, common, without}
use Rattle.machine_layout.specs.Kinds.{has_port, may_lack, inputs_of_kind, outputs_of_kind}
use Rattle.graph.specs.Assembly.{Gate, const, oper, T, F, M, E, IC, Graph, wire, nothing, beside, bind, gate, loop, free, member_of, Env, Operator, nth, copy_of, gate_of, copies_for, sharing, shared_links, first_use, second_use, named, spread, chain, chain_ends, ring_gate, ring, total, listed, links_of, outputs, operators_of}
use Rattle.graph.specs.Fit.{Fit, gate_inputs}
use Rattle.theory_reference.specs.Plugged.{Each}
use Rattle.demand_view.specs.Sound.{PortOf, Formed}

-- A gate that the translation may use.
abbrev pub ProperGate : Gate → Type 0
ProperGate (const v) = InRange v × (in_constant_range (some v) ≡ true)
ProperGate (oper k) = (1 ≤ k) × (k ≤ 11)
ProperGate T = Unit {0}
ProperGate F = Unit {0}
ProperGate M = Unit {0}
ProperGate E = Unit {0}
ProperGate (IC both) = Unit {0}

abbrev pub Proper : Graph → Type 0
Proper (wire x) = Unit {0}
Proper nothing = Unit {0}
Proper (beside a b) = Proper a × Proper b
Proper (bind ns a b) = Proper a × Proper b
Proper (gate g a) = ProperGate g × Proper a
Proper (loop ns a b) = Proper a × Proper b
