-- What holds of the graph of an accepted formula and is asked of it by the machine's memory: bounds on its figures ("over 1,024 operators", the layout's
-- 3,105 links) and that each operator has the ports and the register of its kind (document 01, refusal 31: "a stored figure .. outside its range").
-- Definitions only; assumes nothing.
use Rattle.std.specs.Prelude.{ℕ, zero, suc, ◌+◌, ◌≤◌, ◌≡◌, Bool, true, false, List, [], ◌∷◌, length}
use Rattle.std.proofs.Math.Option.{Option, none, some}
use Rattle.names.specs.Names.{bit}
use Rattle.value.specs.Bytes.{InRange}
use Rattle.value.specs.Constants.{in_constant_range}
use Rattle.network.specs.Rules.{Kind, constant, copy, operator, T-gate, F-gate, M-gate, E-gate, IC-gate, FM-gate, FS-gate, Register}
use Rattle.machine_layout.specs.Kinds.{byte_of, Coded, has_port, may_lack}
use Rattle.graph.specs.Assembly.{Operator}
use Rattle.graph.specs.Translation.{Made}
use Rattle.theory_wiring.specs.MadeGraph.{WellWired}

-- Operator i of a list is o.
abbrev pub Ith : List Operator → ℕ → Operator → Type 0
Ith [] i o = ⊥
Ith (x ∷ os) zero o = x ≡ o
Ith (x ∷ os) (suc i) o = Ith os i o

-- A port that its kind has, has a link, or may lack one; a port that its kind has not, has none.
abbrev pub PortOf : (has lacks : Bool) → Option ℕ → Type 0
PortOf true lacks none = lacks ≡ true
PortOf true lacks (some l) = Unit {0}
PortOf false lacks none = Unit {0}
PortOf false lacks (some l) = ⊥

-- The register before the first firing: a value that a constant of a sheet can have, else nothing.
abbrev pub HeldOf : Kind → Register → Type 0
HeldOf constant none = ⊥
HeldOf constant (some v) = InRange v × (in_constant_range (some v) ≡ true)
HeldOf copy g = g ≡ none
HeldOf (operator code) g = g ≡ none
HeldOf T-gate g = g ≡ none
HeldOf F-gate g = g ≡ none
HeldOf M-gate g = g ≡ none
HeldOf E-gate g = g ≡ none
HeldOf IC-gate g = g ≡ none
HeldOf FM-gate g = g ≡ none
HeldOf FS-gate g = g ≡ none

abbrev pub PortIs : Operator → ℕ → Option ℕ → Type 0
PortIs o p l = PortOf (has_port (byte_of o.kind) p) (may_lack (byte_of o.kind) p) l

pub record Formed (o : Operator) : Type 0 where
  pub coded : Coded o.kind
  pub in1 : PortIs o 0 o.in1
  pub in2 : PortIs o 1 o.in2
  pub in3 : PortIs o 2 o.in3
  pub out1 : PortIs o 3 o.out1
  pub out2 : PortIs o 4 o.out2
  pub out3 : PortIs o 5 o.out3
  pub held : HeldOf o.kind o.held

pub record Sound (g : Made) : Type 0 where
  pub wired : WellWired g
  pub few-operators : length g.operators ≤ 1024
  pub few-links : g.links ≤ 3105
  pub few-inputs : g.inputs ≤ 32
  pub names-below : g.inputs + bit g.triggered ≤ g.links
  pub some_result : 1 ≤ length g.results
  pub few-results : length g.results ≤ 16
  pub formed : (i : ℕ) (o : Operator) → Ith g.operators i o → Formed o
