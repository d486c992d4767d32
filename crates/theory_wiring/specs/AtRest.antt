-- Nothing can fire in a calm graph on which no value waits (document 02: "when nothing can fire and every pushed set is taken"): every operator but the gates of
-- loops waits for its first input, and a gate of a loop that has fired has one false on its control and waits for its data. Says so of a fit graph, at every
-- capacity. Assumes that the links of the names are different and lie below the graph's own.
use Rattle.std.specs.Prelude.{ℕ, zero, suc, ◌+◌, ◌≤◌, ◌<◌, ◌≡◌, refl, ◌≢◌, ◌⊎◌, Bool, true, false, List, [], ◌∷◌, ◌++◌, length}
use Rattle.std.proofs.Math.Option.{some}
use Rattle.value.specs.declared.Value.{Value}
use Rattle.value.specs.Senses.{sense}
use Rattle.network.specs.Values.{false-value, one-operand}
use Rattle.network.specs.Rules.{Kind, constant, copy, operator, T-gate, F-gate, M-gate, E-gate, IC-gate, FM-gate, FS-gate, Register, rule, M-rule, FS-rule, fired, first as input₁, second as input₂, third as input₃}
use Rattle.network.specs.Net.{Token, val, mark, Links, head, pop, Able}
use Rattle.network.specs.Fill.{Ports, remembering, fill, wire, kept, value-of, register_of}
use Rattle.network.specs.Uses.{In, inputs, has-input, operand-inputs}
use Rattle.graph.specs.Assembly.{Graph, free, Env, Operator, nth, ring_gate, links_of, operators_of}
use Rattle.graph.specs.Fit.{Fit}
use Rattle.theory_reference.specs.Plugged.{nowhere, registers, link-of, ports_of, demand_of, Each}
use Rattle.theory_reference.specs.Plan.{Control, Envs, Before}
use Rattle.theory_reference.specs.GraphLayout.{plan_of}
use Rattle.theory_reference.specs.WrittenOut.{no-values}
use Rattle.theory_pieces.specs.Sets.{Different}

-- ---- operators by position
abbrev pub At : List Operator → ℕ → Operator → Type 0
At [] i o = ⊥
At (x ∷ os) zero o = x ≡ o
At (x ∷ os) (suc i) o = At os i o

-- The gate of a loop, by its control link.
abbrev pub Gate-of : List Operator → ℕ → Type 0
Gate-of os c = (i : ℕ) × (o : Operator) × At os i o × (remembering o.kind ≡ true) × (o.in1 ≡ some c)
