-- The ports of one operator (graph/specs/Assembly): it has a link for each input of its kind and a first output, and it takes from no link that
-- it puts onto. Here for a copy, a gate and the gates of a loop, each from what is known of its links. Assumes nothing.
use Rattle.std.specs.Prelude.{ℕ, zero, suc, ◌<◌, ◌≡◌, Bool, true, false, List, [], ◌∷◌, ◌++◌, length}
use Rattle.std.proofs.Math.Option.{Option, some}
use Rattle.value.specs.Operators.{pick, operands}
use Rattle.network.specs.Values.{one-operand}
use Rattle.network.specs.Rules.{Input, first as input₁, second as input₂, third as input₃}
use Rattle.network.specs.Uses.{In, inputs, has-input, operand-inputs}
use Rattle.graph.specs.Assembly.{Gate, const, oper, T, F, M, E, IC, gate_outputs, Operator, nth, copy_of, gate_of, ring_gate, up_from}
use Rattle.graph.specs.Fit.{gate_inputs}
use Rattle.theory_reference.specs.Plugged.{Each}
use Rattle.theory_wiring.specs.Links.{input_links, output_links}

-- The link of an input port, where there is one.
abbrev pub port : Operator → Input → Option ℕ
port o input₁ = o.in1
port o input₂ = o.in2
port o input₃ = o.in3

abbrev pub Linked : Option ℕ → Type 0
Linked p = (l : ℕ) × (p ≡ some l)

pub record Ported (o : Operator) : Type 0 where
  pub linked : (i : Input) → has-input (inputs o.kind) i ≡ true → Linked (port o i)
  pub emits : Linked o.out1
  pub apart : (l : ℕ) → In l (input_links o) → In l (output_links o) → ⊥

abbrev pub place : Input → ℕ
place input₁ = 0
place input₂ = 1
place input₃ = 2
