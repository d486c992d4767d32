-- "In a passed sheet, given inputs of their kinds or errs, no err comes from a wrong kind or a test that is neither truth nor err" (document 02,
-- Job 6), for the machine of a formula and every list of calls (theory_verdicts/specs/Running), refused calls included: after it every token that
-- waits on an operand is of the kind wanted there or an err, and every one on a control is a truth or err. The two operands of an operator have one
-- kind, the same at every capacity and after every list of calls. So no firing ever computes on a wrong kind, also for sets that never end. And each
-- result taken is of the kinds of the formula's values or errs. Assumes claims as MadeClaims.antt has them.
use Prim.Native.Nat.{ℕ, zero, suc, ◌<◌, ◌≤◌, ◌+◌, ◌-◌}
use Rattle.std.specs.Prelude.{◌≡◌, ◌⊎◌, Bool, false, get_or}
use Rattle.std.proofs.Math.Bool.{true}
use mathlib.Core.List.{List, [], ◌∷◌}
use native.Mathlib.Omega.{arith}
use Rattle.value.specs.declared.Value.{Value}
use Rattle.value.specs.declared.ValueKind.{ValueKind}
use Rattle.value.specs.Senses.{err}
use Rattle.value.specs.Kinds.{suits}
use Rattle.names.specs.Names.{trigger, bit, size, below, size_from}
use Rattle.network.specs.Values.{true-value, err-value}
use Rattle.network.specs.Net.{Token, val, Demand, ask, fire, Links, head, pop, Able, act, label}
use Rattle.network.specs.Fill.{value-of}
use Rattle.network.specs.Ends.{collect}
use Rattle.formula.specs.Tree.{Exp}
use Rattle.formula.specs.Free.{free_e, inputs_of}
use Rattle.formula.specs.Kinds.{Kinds, kinds_e}
use Rattle.graph.specs.Assembly.{Operator, up_from}
use Rattle.graph.specs.Translation.{port_of, made_of}
use Rattle.theory_pieces.specs.Load.{Load, On}
use Rattle.theory_pieces.specs.Sets.{onto}
use Rattle.theory_pieces.specs.Tape.{Step, pushing, firing, taking, sets_of}
use Rattle.theory_reference.specs.Plugged.{registers, link-of, ports_of, Each}
use Rattle.theory_reference.specs.Marks.{marks, Remembers-in}
use Rattle.theory_wiring.specs.Machine.{net_of}
use Rattle.theory_wiring.specs.MadeGraph.{push_links}
use Rattle.theory_verdicts.specs.Owed.{credit_link}
use Rattle.theory_verdicts.specs.Running.{places, with_trigger, push_of, take_of, start_of, Call, after_steps, handed, history, standing, pushed, taken}
use Rattle.theory_claims.specs.Keeps.{Takes, Wanted}

-- As many tokens as kinds, each of its kind or an err.
abbrev pub Tokens-of-kinds : List Token → List ValueKind → Type 0
Tokens-of-kinds [] [] = Unit {0}
Tokens-of-kinds [] (k ∷ ks) = ⊥
Tokens-of-kinds (t ∷ ts) [] = ⊥
Tokens-of-kinds (t ∷ ts) (k ∷ ks) = (suits k (value-of t) ≡ true) × Tokens-of-kinds ts ks

abbrev pub Results-of-kinds : List (List Token) → List ValueKind → Type 0
Results-of-kinds [] ks = Unit {0}
Results-of-kinds (r ∷ rs) ks = Tokens-of-kinds r ks × Results-of-kinds rs ks

-- There is one kind that operator o takes, such that at any capacity, after any list of calls with good sets, every token that waits on an operand of o
-- is of that kind or an err; at a gate, every one on a control a truth or an err.
abbrev pub Of-one-kind : Exp → (List (List Value) → Type 0) → Operator → Type 0
Of-one-kind x Good o =
    (k : ValueKind) × Takes o.kind k
    × ((capacity : ℕ) (calls : List Call) → Good (pushed x capacity calls) → Wanted o.kind k (ports_of o) (standing x capacity calls))
