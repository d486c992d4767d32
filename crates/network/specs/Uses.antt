-- Which links an operator, push and take use: what Wired.antt asks of each of them, once for every kind. An operator takes only from the
-- inputs that its kind has and puts only onto its output links; a register link belongs to its gate on both sides.
use Rattle.std.specs.Prelude.{ℕ, ◌≡◌, refl, ◌≢◌, ◌⊎◌, Bool, true, false, List, [], ◌∷◌, ◌++◌, leb}
use Rattle.std.proofs.Math.Option.{some}
use Rattle.value.specs.declared.Value.{Value}
use Rattle.value.specs.declared.Sense.{Sense}
use Rattle.value.specs.declared.Sense.TheVariants.{True, False, Neither}
use Rattle.value.specs.Senses.{sense}
use Rattle.network.specs.Values.{one-operand}
use Rattle.network.specs.Rules.{Kind, constant, copy, operator, T-gate, F-gate, M-gate, E-gate, IC-gate, FM-gate, FS-gate, Firing, takes, gives, never, Input, first, second, third}
use Rattle.network.specs.Fill.{Ports, input, remembering}

-- How many inputs a kind has, counted from the control on.
abbrev pub operand-inputs : Bool → ℕ
operand-inputs true = 1
operand-inputs false = 2

abbrev pub inputs : Kind → ℕ
inputs constant = 1
inputs copy = 1
inputs (operator code) = operand-inputs (one-operand code)
inputs T-gate = 2
inputs F-gate = 2
inputs M-gate = 3
inputs E-gate = 2
inputs IC-gate = 3
inputs FM-gate = 3
inputs FS-gate = 2

abbrev pub has-input : ℕ → Input → Bool
has-input n first = leb 1 n
has-input n second = leb 2 n
has-input n third = leb 3 n

-- A firing takes only from the first `n` inputs.
abbrev pub Within : ℕ → Firing → Type 0
Within n (takes i k) = (has-input n i ≡ true) × ((v : Value) → Within n (k v))
Within n (gives a b c g) = Unit {0}
Within n never = Unit {0}

-- The links that an operator takes from and puts onto.
abbrev pub Takes-from : Kind → Ports → ℕ → Type 0
Takes-from k p l = ((i : Input) × (has-input (inputs k) i ≡ true) × (l ≡ input p i)) ⊎ ((remembering k ≡ true) × (l ≡ p.register))

abbrev pub Puts-onto : Kind → Ports → ℕ → Type 0
Puts-onto k p l = (p.out1 ≡ some l) ⊎ ((p.out2 ≡ some l) ⊎ ((p.out3 ≡ some l) ⊎ ((remembering k ≡ true) × (l ≡ p.register))))

abbrev pub In : ℕ → List ℕ → Type 0
In l [] = ⊥
In l (x ∷ ls) = (l ≡ x) ⊎ In l ls
