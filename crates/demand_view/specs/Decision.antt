-- The decision that the machine makes on the bytes of an operator is the table's decision on the tokens that wait on its links (network/specs/Decide):
-- kind, first tokens and register are read from a standing memory as they stand in the graph and on the links. Assumes an operator of the graph.
use Rattle.std.specs.Prelude.{ℕ, ◌<◌, ◌≡◌, true, false}
use mathlib.Core.List.{List, [], ◌∷◌}
use Rattle.std.proofs.Math.Option.{Option, some}
use Rattle.value.specs.declared.Value.{Value}
use Rattle.value.specs.Bytes.{InRange, value_of, decoded, word_or}
use Rattle.network.specs.Rules.{Register, Input, first, second, third}
use Rattle.network.specs.Net.{Token, Links}
use Rattle.network.specs.Fill.{value-of}
use Rattle.network.specs.Decide.{Decision, decide}
use Rattle.network.specs.Firing.{first-token, heads}
use Rattle.machine_layout.specs.Layout.{kind_byte, port_of, size_of}
use Rattle.machine_layout.specs.Kinds.{kind_of, kind-of-byte}
use Rattle.machine_gates.specs.Decide.{optional, told, decide_at}
use Rattle.machine_gates.specs.Decide.{heads as heads-read}
use Rattle.machine_firing.specs.Links.{head_from, token_at, token_from}
use Rattle.machine_firing.specs.Fire.{Plan, taken, given, planned, register_of, decision_at, decision_from, plan_at, plan_from}
use Rattle.graph.specs.Assembly.{Operator}
use Rattle.graph.specs.Translation.{Made}
use Rattle.theory_reference.specs.Plugged.{nowhere, link-of, ports_of}

-- A link that a port may have: none, or one of the graph's.
abbrev pub Linked-in : Made → Option ℕ → Type 0
Linked-in g x = (l : ℕ) → x ≡ some l → l < g.links
