-- The firing rules at work on a network: a kind with its six ports' links and its register becomes a firing of Net.antt. The table of rules is
-- the one of Rules.antt; here it only gets links. An output port without a link is "an output with no user": nothing is emitted on it.
-- The register of FM and FS is a link of its own (`mark` before the first firing, then the value). The other kinds never change theirs, so
-- theirs is no link but a fixed figure: a constant's value, and nothing for the rest.
use Rattle.std.specs.Prelude.{ℕ, ◌≡◌, refl, Bool, true, false, List, [], ◌∷◌, ◌++◌}
use Rattle.std.proofs.Math.Option.{Option, none, some}
use Rattle.value.specs.declared.Value.{Value}
use Rattle.value.specs.declared.Sense.{Sense}
use Rattle.value.specs.declared.Sense.TheVariants.{True, False, Neither}
use Rattle.value.specs.Senses.{sense}
use Rattle.network.specs.Values.{err-value}
use Rattle.network.specs.Rules.{Kind, constant, copy, operator, T-gate, F-gate, M-gate, E-gate, IC-gate, FM-gate, FS-gate, Register, Firing, takes, gives, never, Input, first, second, third, rule}
use Rattle.network.specs.Net.{Token, val, mark, Demand, ask, fire, halt}

pub record Ports : Type 0 where
  pub in1 : ℕ
  pub in2 : ℕ
  pub in3 : ℕ
  pub out1 : Option ℕ
  pub out2 : Option ℕ
  pub out3 : Option ℕ
  pub register : ℕ
  pub held : Register

abbrev pub input : Ports → Input → ℕ
input p first = p.in1
input p second = p.in2
input p third = p.in3

-- No mark ever waits on an input link; the machine has none at all.
abbrev pub value-of : Token → Value
value-of (val v) = v
value-of mark = err-value

abbrev pub register_of : Token → Register
register_of (val v) = some v
register_of mark = none

abbrev pub register-token : Register → Token
register-token none = mark
register-token (some v) = val v

-- "An output with no user is not emitted."
abbrev pub emission : Option ℕ → Option Value → List (ℕ × Token)
emission none v = []
emission (some l) none = []
emission (some l) (some v) = (l, val v) ∷ []

abbrev pub emissions : Ports → Option Value → Option Value → Option Value → List (ℕ × Token)
emissions p a b c = emission p.out1 a ++ (emission p.out2 b ++ emission p.out3 c)

-- Links for ports; `keep` is where the next register goes.
abbrev pub wire : (Register → List (ℕ × Token)) → Ports → Firing → Demand
wire keep p (takes i k) = ask (input p i) (λ t. wire keep p (k (value-of t)))
wire keep p (gives a b c g) = fire (emissions p a b c ++ keep g) []
wire keep p never = halt

abbrev pub remembering : Kind → Bool
remembering constant = false
remembering copy = false
remembering (operator code) = false
remembering T-gate = false
remembering F-gate = false
remembering M-gate = false
remembering E-gate = false
remembering IC-gate = false
remembering FM-gate = true
remembering FS-gate = true

abbrev pub kept : Bool → Ports → Register → List (ℕ × Token)
kept true p g = (p.register, register-token g) ∷ []
kept false p g = []

abbrev pub filled : Bool → Kind → Ports → Demand
filled true k p = ask p.register (λ t. wire (kept true p) p (rule k (register_of t)))
filled false k p = wire (kept false p) p (rule k p.held)

abbrev pub fill : Kind → Ports → Demand
fill k p = filled (remembering k) k p

-- All that a firing gives has this property, and so has the register it leaves.
abbrev pub Gives : (Register → Type 0) → Firing → Type 0
Gives P (takes i k) = (v : Value) → Gives P (k v)
Gives P (gives a b c g) = P g
Gives P never = Unit {0}
