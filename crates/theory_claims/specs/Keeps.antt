-- "no err comes from a wrong kind or a test that is neither truth nor err" (document 02, Job 6), for the machine: where every waiting token meets
-- its link's claim, a firing of an operator whose links have claims that fit its gate leaves it so (`firing-keeps`), and every token that waits
-- on an operand or a control is of the kind wanted there or an err (`no-wrong-kind`), an operator's operands both of one kind that follows from
-- the claims alone (`operandKind`). So it stays through firings in any order, whether a set ever ends or not. A register is a link here too; the mark
-- of one that has never fired counts as err.
use Rattle.std.specs.Prelude.{ℕ, ◌<◌, ◌≡◌, refl, ◌⊎◌, Bool, true, false, List, [], ◌∷◌, ◌++◌, length}
use Rattle.value.specs.declared.Value.{Value}
use Rattle.value.specs.declared.Sense.{Sense}
use Rattle.value.specs.declared.Sense.TheVariants.{True, False, Neither}
use Rattle.value.specs.declared.ValueKind.{ValueKind}
use Rattle.value.specs.declared.ValueKind.TheVariants.{Truth as truth-kind}
use Rattle.value.specs.Senses.{sense}
use Rattle.value.specs.Kinds.{suits, wanted, given, gives-its-kind}
use Rattle.network.specs.Values.{err-value, one-operand, apply}
use Rattle.network.specs.Rules.{Kind, constant, copy, operator, T-gate, F-gate, M-gate, E-gate, IC-gate, FM-gate, FS-gate, Register, Firing, takes, gives, never, T-rule, F-rule, M-rule, E-rule, chosen, as-truth, IC-table, fired, FS-rule, operator-rule, rule}
use Rattle.network.specs.Net.{Token, val, mark, Links, head, tail, pop, append, Able, appends, act}
use Rattle.network.specs.Fill.{Ports, input, value-of, register_of, register-token, emission, emissions, wire, remembering, kept, filled, fill}
use Rattle.theory_claims.specs.Claims.{Meets, Claims}

-- ---- tokens
-- What holds of the value of each waiting token.
abbrev pub Waiting : (Value → Type 0) → List Token → Type 0
Waiting P [] = Unit {0}
Waiting P (t ∷ ts) = P (value-of t) × Waiting P ts

-- ---- links
-- Every waiting token meets the claim of its link.
abbrev pub Clean : Claims → Links → Type 0
Clean K q = (l : ℕ) → Waiting (Meets (K l)) (q l)

-- ---- no wrong kind
-- The kind of operands that an operator takes. At a gate it means nothing, and every kind may stand for it.
abbrev pub Takes : Kind → ValueKind → Type 0
Takes constant k = Unit {0}
Takes copy k = Unit {0}
Takes (operator code) k = wanted code (k ∷ []) ≡ true
Takes T-gate k = Unit {0}
Takes F-gate k = Unit {0}
Takes M-gate k = Unit {0}
Takes E-gate k = Unit {0}
Takes IC-gate k = Unit {0}
Takes FM-gate k = Unit {0}
Takes FS-gate k = Unit {0}

-- Every token that waits on an operand is of kind k or an err, on both operands of the same; every one on a control, or on an iter? of IC, is a truth
-- or an err.
abbrev pub Wanted : Kind → ValueKind → Ports → Links → Type 0
Wanted constant k p q = Unit {0}
Wanted copy k p q = Unit {0}
Wanted (operator code) k p q =
    Waiting (λ v. suits k v ≡ true) (q p.in1) × (one-operand code ≡ false → Waiting (λ v. suits k v ≡ true) (q p.in2))
Wanted T-gate k p q = Waiting (λ v. suits truth-kind v ≡ true) (q p.in1)
Wanted F-gate k p q = Waiting (λ v. suits truth-kind v ≡ true) (q p.in1)
Wanted M-gate k p q = Waiting (λ v. suits truth-kind v ≡ true) (q p.in1)
Wanted E-gate k p q = Waiting (λ v. suits truth-kind v ≡ true) (q p.in1)
Wanted IC-gate k p q =
    Waiting (λ v. suits truth-kind v ≡ true) (q p.in1) × Waiting (λ v. suits truth-kind v ≡ true) (q p.in2) × Waiting (λ v. suits truth-kind v ≡ true) (q p.in3)
Wanted FM-gate k p q = Waiting (λ v. suits truth-kind v ≡ true) (q p.in1)
Wanted FS-gate k p q = Waiting (λ v. suits truth-kind v ≡ true) (q p.in1)
