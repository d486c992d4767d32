-- Laws of specs/Gates.antt, and what only they need.
use Rattle.std.specs.Prelude.{ℕ, ◌≡◌, refl, Bool, true, false, List, [], ◌∷◌, length, get_or}
use Rattle.std.proofs.Common.{ap, ◌∙◌, arith}
use Rattle.std.proofs.Math.Option.{Option, none, some}
use Rattle.value.specs.declared.Value.{Value}
use Rattle.value.specs.Operators.{operands, pick}
use Rattle.value.specs.declared.Sense.{Sense}
use Rattle.value.specs.declared.Sense.TheVariants.{True, False, Neither}
use Rattle.value.specs.Senses.{sense}
use Rattle.network.specs.Values.{true-value, false-value, err-value, one-operand, apply}
use Rattle.network.specs.Rules.{IC-gate, second, third, T-rule, F-rule, M-rule, E-rule}
use Rattle.network.specs.Decide.{Decision, decide}
use Rattle.graph.specs.Assembly.{const, oper, T, F, M, E, IC, gate_outputs}
use Rattle.graph.specs.Yields.{Fires, rests, fires, TakesAll, present, waiting}
use Rattle.theory_yields.specs.Gates.{decision, by-control, IC-rule, by-chosen, join_outputs, place}

-- ---- constants and operators
pub const-fires : (v t : Value) → Fires (const v) (some t ∷ []) (some v ∷ [])
const-fires v t =
    fires (const v) (some t ∷ []) (decision true false false (some v) none none (some v)) refl
    (record { control = refl; data2 = refl; data3 = refl })

pub one-operand-fires : (k : ℕ) (a : Value) → one-operand k ≡ true → Fires (oper k) (some a ∷ []) (some (apply k a err-value) ∷ [])
one-operand-fires k a e =
    fires (oper k) (some a ∷ []) (decision true false false (some (apply k a err-value)) none none none) (rw e refl)
    (record { control = refl; data2 = refl; data3 = refl })

pub two-operands-fire : (k : ℕ) (a b : Value) → one-operand k ≡ false → Fires (oper k) (some a ∷ some b ∷ []) (some (apply k a b) ∷ [])
two-operands-fire k a b e =
    fires (oper k) (some a ∷ some b ∷ []) (decision true true false (some (apply k a b)) none none none) (rw e refl)
    (record { control = refl; data2 = refl; data3 = refl })

-- An operator with as many operands as its code takes.
pub operator-fires : (k : ℕ) (vs : List Value) → length vs ≡ operands k
    → Fires (oper k) (present vs) (some (apply k (get_or vs 0 err-value) (get_or vs 1 err-value)) ∷ [])
unfolding operands
operator-fires k vs n = go (one-operand k) refl vs n
  where
    go : (b : Bool) → one-operand k ≡ b → (vs : List Value) → length vs ≡ pick b 1 2
        → Fires (oper k) (present vs) (some (apply k (get_or vs 0 err-value) (get_or vs 1 err-value)) ∷ [])
    go true e (a ∷ []) n = one-operand-fires k a e
    go false e (a ∷ b ∷ []) n = two-operands-fire k a b e
    go true e [] n = absurd (omega arith)
    go true e (a ∷ b ∷ vs) n = absurd (omega arith)
    go false e [] n = absurd (omega arith)
    go false e (a ∷ []) n = absurd (omega arith)
    go false e (a ∷ b ∷ c ∷ vs) n = absurd (omega arith)

-- ---- T and F
pub T-passes : (c v : Value) → sense c ≡ True → Fires T (some c ∷ some v ∷ []) (some v ∷ [])
T-passes c v e =
    fires T (some c ∷ some v ∷ []) (decision true true false (some v) none none none) (ap (by-control (T-rule none) (some c ∷ some v ∷ [])) e)
    (record { control = refl; data2 = refl; data3 = refl })

pub T-drops : (c v : Value) (s : Sense) → sense c ≡ s → (s ≡ True → ⊥) → Fires T (some c ∷ some v ∷ []) (none ∷ [])
T-drops c v True e n = absurd (n refl)
T-drops c v False e n =
    fires T (some c ∷ some v ∷ []) (decision true true false none none none none) (ap (by-control (T-rule none) (some c ∷ some v ∷ [])) e)
    (record { control = refl; data2 = refl; data3 = refl })
T-drops c v Neither e n =
    fires T (some c ∷ some v ∷ []) (decision true true false none none none none) (ap (by-control (T-rule none) (some c ∷ some v ∷ [])) e)
    (record { control = refl; data2 = refl; data3 = refl })

pub F-passes : (c v : Value) → sense c ≡ False → Fires F (some c ∷ some v ∷ []) (some v ∷ [])
F-passes c v e =
    fires F (some c ∷ some v ∷ []) (decision true true false (some v) none none none) (ap (by-control (F-rule none) (some c ∷ some v ∷ [])) e)
    (record { control = refl; data2 = refl; data3 = refl })

pub F-drops : (c v : Value) (s : Sense) → sense c ≡ s → (s ≡ False → ⊥) → Fires F (some c ∷ some v ∷ []) (none ∷ [])
F-drops c v False e n = absurd (n refl)
F-drops c v True e n =
    fires F (some c ∷ some v ∷ []) (decision true true false none none none none) (ap (by-control (F-rule none) (some c ∷ some v ∷ [])) e)
    (record { control = refl; data2 = refl; data3 = refl })
F-drops c v Neither e n =
    fires F (some c ∷ some v ∷ []) (decision true true false none none none none) (ap (by-control (F-rule none) (some c ∷ some v ∷ [])) e)
    (record { control = refl; data2 = refl; data3 = refl })

-- ---- M and E
pub M-second : (c v : Value) → sense c ≡ True → Fires M (some c ∷ some v ∷ none ∷ []) (some v ∷ [])
M-second c v e =
    fires M (some c ∷ some v ∷ none ∷ []) (decision true true false (some v) none none none) (ap (by-control (M-rule none) (some c ∷ some v ∷ none ∷ [])) e)
    (record { control = refl; data2 = refl; data3 = refl })

pub M-third : (c v : Value) → sense c ≡ False → Fires M (some c ∷ none ∷ some v ∷ []) (some v ∷ [])
M-third c v e =
    fires M (some c ∷ none ∷ some v ∷ []) (decision true false true (some v) none none none) (ap (by-control (M-rule none) (some c ∷ none ∷ some v ∷ [])) e)
    (record { control = refl; data2 = refl; data3 = refl })

pub M-err : (c : Value) → sense c ≡ Neither → Fires M (some c ∷ none ∷ none ∷ []) (some err-value ∷ [])
M-err c e =
    fires M (some c ∷ none ∷ none ∷ []) (decision true false false (some err-value) none none none) (ap (by-control (M-rule none) (some c ∷ none ∷ none ∷ [])) e)
    (record { control = refl; data2 = refl; data3 = refl })

pub M-rests : Fires M (none ∷ none ∷ none ∷ []) (none ∷ [])
unfolding gate_outputs
M-rests = rests M 3

pub E-passes : (c v : Value) (s : Sense) → sense c ≡ s → (s ≡ Neither → ⊥) → Fires E (some c ∷ some v ∷ []) (some v ∷ [])
E-passes c v Neither e n = absurd (n refl)
E-passes c v True e n =
    fires E (some c ∷ some v ∷ []) (decision true true false (some v) none none none) (ap (by-control (E-rule none) (some c ∷ some v ∷ [])) e)
    (record { control = refl; data2 = refl; data3 = refl })
E-passes c v False e n =
    fires E (some c ∷ some v ∷ []) (decision true true false (some v) none none none) (ap (by-control (E-rule none) (some c ∷ some v ∷ [])) e)
    (record { control = refl; data2 = refl; data3 = refl })

pub E-err : (c : Value) → sense c ≡ Neither → Fires E (some c ∷ none ∷ []) (some err-value ∷ [])
E-err c e =
    fires E (some c ∷ none ∷ []) (decision true false false (some err-value) none none none) (ap (by-control (E-rule none) (some c ∷ none ∷ [])) e)
    (record { control = refl; data2 = refl; data3 = refl })

pub E-rests : Fires E (none ∷ none ∷ []) (none ∷ [])
unfolding gate_outputs
E-rests = rests E 2

IC-fires : (both : Bool) (vs : List (Option Value)) (d : Decision) → decide IC-gate none (waiting vs) ≡ some d → TakesAll vs d
    → Fires (IC both) vs (join_outputs both d.give1 d.give2 d.give3)
IC-fires true vs d e t = fires (IC true) vs d e t
IC-fires false vs d e t = fires (IC false) vs d e t

pub IC-true-true : (both : Bool) (c i : Value) → sense c ≡ True → sense i ≡ True
    → Fires (IC both) (some c ∷ some i ∷ none ∷ []) (join_outputs both (some true-value) (some true-value) none)
IC-true-true both c i e d =
    IC-fires both (some c ∷ some i ∷ none ∷ []) (decision true true false (some true-value) (some true-value) none none)
    (ap (by-control IC-rule (some c ∷ some i ∷ none ∷ [])) e ∙ ap (by-chosen second True (some c ∷ some i ∷ none ∷ [])) d)
    (record { control = refl; data2 = refl; data3 = refl })

pub IC-true-false : (both : Bool) (c i : Value) → sense c ≡ True → sense i ≡ False
    → Fires (IC both) (some c ∷ some i ∷ none ∷ []) (join_outputs both (some false-value) none (some true-value))
IC-true-false both c i e d =
    IC-fires both (some c ∷ some i ∷ none ∷ []) (decision true true false (some false-value) none (some true-value) none)
    (ap (by-control IC-rule (some c ∷ some i ∷ none ∷ [])) e ∙ ap (by-chosen second True (some c ∷ some i ∷ none ∷ [])) d)
    (record { control = refl; data2 = refl; data3 = refl })

pub IC-false-true : (both : Bool) (c i : Value) → sense c ≡ False → sense i ≡ True
    → Fires (IC both) (some c ∷ none ∷ some i ∷ []) (join_outputs both (some true-value) (some false-value) none)
IC-false-true both c i e d =
    IC-fires both (some c ∷ none ∷ some i ∷ []) (decision true false true (some true-value) (some false-value) none none)
    (ap (by-control IC-rule (some c ∷ none ∷ some i ∷ [])) e ∙ ap (by-chosen third False (some c ∷ none ∷ some i ∷ [])) d)
    (record { control = refl; data2 = refl; data3 = refl })

pub IC-false-false : (both : Bool) (c i : Value) → sense c ≡ False → sense i ≡ False
    → Fires (IC both) (some c ∷ none ∷ some i ∷ []) (join_outputs both (some false-value) none (some false-value))
IC-false-false both c i e d =
    IC-fires both (some c ∷ none ∷ some i ∷ []) (decision true false true (some false-value) none (some false-value) none)
    (ap (by-control IC-rule (some c ∷ none ∷ some i ∷ [])) e ∙ ap (by-chosen third False (some c ∷ none ∷ some i ∷ [])) d)
    (record { control = refl; data2 = refl; data3 = refl })

pub IC-err : (both : Bool) (c : Value) → sense c ≡ Neither
    → Fires (IC both) (some c ∷ none ∷ none ∷ []) (join_outputs both (some false-value) none (some err-value))
IC-err both c e =
    IC-fires both (some c ∷ none ∷ none ∷ []) (decision true false false (some false-value) none (some err-value) none)
    (ap (by-control IC-rule (some c ∷ none ∷ none ∷ [])) e) (record { control = refl; data2 = refl; data3 = refl })

pub differ : (s t : Sense) → (place s ≡ place t → ⊥) → s ≡ t → ⊥
differ s t n e = n (ap place e)
