-- What is told beforehand of the values on a link of the machine (document 02, Job 6): a kind or err; only true; only errs. And which
-- claims the links of an operator must have for its firings to keep them, gate by gate (network/specs/Rules). Assumes nothing.
use Rattle.std.specs.Prelude.{ℕ, ◌≡◌, refl, ◌⊎◌, true, false, [], ◌∷◌}
use Rattle.std.proofs.Math.Option.{Option, none, some}
use Rattle.value.specs.declared.Value.{Value}
use Rattle.value.specs.declared.ValueKind.{ValueKind}
use Rattle.value.specs.declared.ValueKind.TheVariants.{Whole as whole-kind, Truth as truth-kind}
use Rattle.value.specs.Kinds.{suits, wanted, given}
use Rattle.network.specs.Values.{true-value, err-value, one-operand}
use Rattle.network.specs.Rules.{Kind, constant, copy, operator, T-gate, F-gate, M-gate, E-gate, IC-gate, FM-gate, FS-gate, Register}
use Rattle.network.specs.Fill.{Ports}

pub data Claim : Type 0 where
  -- "of their kinds or errs"
  of-kind : ValueKind → Claim
  only-true only-err : Claim

-- An err suits every kind, and nothing else does.
abbrev pub Meets : Claim → Value → Type 0
Meets (of-kind k) v = suits k v ≡ true
Meets only-true v = v ≡ true-value
Meets only-err v = (k : ValueKind) → suits k v ≡ true

-- What meets the one claim meets the other.
abbrev pub Under : Claim → Claim → Type 0
Under c d = (v : Value) → Meets c v → Meets d v

-- A truth or err: what a control and a test must be.
abbrev pub truths : Claim
truths = of-kind truth-kind

abbrev pub Truthlike : Claim → Type 0
Truthlike c = Under c truths

-- What a register may hold: it counts as err before the first firing, so it is never only true.
abbrev pub storable : Claim → Claim
storable (of-kind k) = of-kind k
storable only-true = truths
storable only-err = only-err

-- The claims of an operator's links: of its inputs, of its outputs where they have a link, and of its register; and what a constant holds.
pub record Sides : Type 0 where
  pub in1 : Claim
  pub in2 : Claim
  pub in3 : Claim
  pub out1 : Option Claim
  pub out2 : Option Claim
  pub out3 : Option Claim
  pub register : Claim
  pub held : Register

-- A value given on an output meets its link's claim; an output with no user has no link.
abbrev pub Given : Option Claim → Option Value → Type 0
Given none a = Unit {0}
Given (some c) none = Unit {0}
Given (some c) (some v) = Meets c v

-- All that meets a claim may be given on an output.
abbrev pub Onto : Claim → Option Claim → Type 0
Onto c none = Unit {0}
Onto c (some d) = Under c d

-- M, and FM after its first firing: a control that is a truth or err, the data of either side, or an err.
abbrev pub Merges : Sides → Type 0
Merges s = Truthlike s.in1 × Onto s.in2 s.out1 × Onto s.in3 s.out1 × Given s.out1 (some err-value)

-- The third output of IC: truths and errs; or, where both iter? inputs are only true, errs alone.
abbrev pub Third : Sides → Type 0
Third s = Onto truths s.out3 ⊎ (Under s.in2 only-true × Under s.in3 only-true × Onto only-err s.out3)

-- "Operators .. must get the kinds they want": operands of one kind, which the operator takes, and the kind that it gives on them.
abbrev pub Operates : ℕ → ValueKind → Sides → Type 0
Operates code k s =
    (wanted code (k ∷ []) ≡ true) × Under s.in1 (of-kind k) × (one-operand code ≡ false → Under s.in2 (of-kind k)) × Onto (of-kind (given code (k ∷ []))) s.out1

-- The claims that the firings of a kind keep.
abbrev pub Fits : Kind → Sides → Type 0
Fits constant s = Given s.out1 s.held
Fits copy s = Onto s.in1 s.out1 × Onto s.in1 s.out2
Fits (operator code) s = (k : ValueKind) × Operates code k s
Fits T-gate s = Truthlike s.in1 × Onto s.in2 s.out1
Fits F-gate s = Truthlike s.in1 × Onto s.in2 s.out1
Fits M-gate s = Merges s
Fits E-gate s = Truthlike s.in1 × Onto s.in2 s.out1 × Given s.out1 (some err-value)
Fits IC-gate s = Truthlike s.in1 × Truthlike s.in2 × Truthlike s.in3 × Onto truths s.out1 × Onto truths s.out2 × Third s
Fits FM-gate s = Merges s × Meets s.register true-value
Fits FS-gate s = Truthlike s.in1 × Onto s.in2 s.out1 × Under s.in2 s.register × Onto s.register s.out1

-- A claim for each link, registers included.
abbrev pub Claims : Type 0
Claims = ℕ → Claim

abbrev pub claimed : Claims → Option ℕ → Option Claim
claimed K none = none
claimed K (some l) = some (K l)

abbrev pub sides : Claims → Ports → Sides
sides K p =
    record {
      in1 = K p.in1;
      in2 = K p.in2;
      in3 = K p.in3;
      out1 = claimed K p.out1;
      out2 = claimed K p.out2;
      out3 = claimed K p.out3;
      register = K p.register;
      held = p.held;
    }
