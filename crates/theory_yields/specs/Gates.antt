-- What each gate gives for what comes to it, and that it takes all of that (document 01, "Rules, control first"; Brock, figure 2.9 and the
-- table of the IC gate in section 2.4), read off the table of rules by what the control is: true, false or neither.
use Rattle.std.specs.Prelude.{ℕ, ◌≡◌, refl, Bool, true, false, List, [], ◌∷◌, length, get_or}
use Rattle.std.proofs.Math.Option.{Option, none}
use Rattle.value.specs.declared.Value.{Value}
use Rattle.value.specs.Operators.{operands, pick}
use Rattle.value.specs.declared.Sense.{Sense}
use Rattle.value.specs.declared.Sense.TheVariants.{True, False, Neither}
use Rattle.value.specs.Senses.{sense}
use Rattle.network.specs.Values.{true-value, false-value, err-value, one-operand, apply}
use Rattle.network.specs.Rules.{IC-gate, Input, first, second, third, Firing, T-rule, F-rule, M-rule, E-rule, chosen, as-truth, IC-table}
use Rattle.network.specs.Decide.{Decision, decide, decided, also, untouched}
use Rattle.graph.specs.Assembly.{const, oper, T, F, M, E, IC, gate_outputs}
use Rattle.graph.specs.Yields.{Fires, rests, fires, TakesAll, present, waiting}

-- A decision that takes these inputs and gives these values, the register being left alone.
abbrev pub decision : Bool → Bool → Bool → Option Value → Option Value → Option Value → Option Value → Decision
decision p q r a b c g =
    record { taken = record { take1 = p; take2 = q; take3 = r }; give1 = a; give2 = b; give3 = c; register = g }

-- What a rule decides once its control is taken, and once IC has taken the chosen iter? as well.
abbrev pub by-control : (Sense → Firing) → List (Option Value) → Sense → Option Decision
by-control rule-of vs s = decided (also first untouched) (rule-of s) (waiting vs)

abbrev pub IC-rule : Sense → Firing
IC-rule s = chosen s (IC-table none s)

abbrev pub by-chosen : Input → Sense → List (Option Value) → Sense → Option Decision
by-chosen i c vs s = decided (also i (also first untouched)) (IC-table none c (as-truth s)) (waiting vs)

-- ---- IC: Brock's five rows, with a second output and without
-- What IC gives on the outputs that it has.
abbrev pub join_outputs : Bool → Option Value → Option Value → Option Value → List (Option Value)
join_outputs true a b c = a ∷ b ∷ c ∷ []
join_outputs false a b c = a ∷ c ∷ []

-- ---- the three senses are different
abbrev pub place : Sense → ℕ
place True = 0
place False = 1
place Neither = 2
