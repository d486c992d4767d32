-- "In a passed sheet, given inputs of their kinds or errs, no err comes from a wrong kind or a test that is neither truth nor err":
-- document 02, Job 6, for direct evaluation of a tree. Strict evaluation, which would stop at the first such operator or test, never
-- stops and yields what the meaning yields; and each value is of its kind or an err. So it is for every number of rounds, enough or
-- not. Assumes that every node passes test 8 (SoundE) and keeps the rule of kinds (AllE).
use Prim.Native.Nat.{ℕ, zero, suc, ◌≤◌}
use Rattle.std.specs.Prelude.{◌≡◌, refl, ◌⊎◌, Bool, true, false, ◌&&◌, ◌||◌, List, [], ◌∷◌, ◌++◌, length, get_or}
use Rattle.std.proofs.Math.Option.{Option, some}
use Rattle.std.proofs.Math.ListN.{replicate}
use Rattle.value.specs.declared.Value.{Value}
use Rattle.value.specs.declared.ValueKind.{ValueKind}
use Rattle.value.specs.declared.ValueKind.TheVariants.{Whole as whole-kind, Truth as truth-kind, Real as real-kind}
use Rattle.value.specs.declared.Sense.{Sense}
use Rattle.value.specs.declared.Sense.TheVariants.{True, False, Neither}
use Rattle.value.specs.Senses.{err, sense}
use Rattle.value.specs.Operators.{apply}
use Rattle.value.specs.Kinds.{suits, all_of, wanted, wanted_test, given, one-kind, gives-its-kind}
use Rattle.formula.specs.Tree.{Exp, identifier, constant, pair, operator, let_e, if_e, for_e, Body, ret, iter, let_b, if_b}
use Rattle.formula.specs.Widths.{width, returned}
use Rattle.formula.specs.Kinds.{Kinds, bind_kinds, either_kinds, same_kinds, agree_kinds, kinds_e, returned_kinds, iterated_kinds, kinded_e, kinded_b}
use Rattle.meaning.specs.Meaning.{Env, bind, Outcome, yields, Ending, again, returns, then, then_b, after, enter, loop, branch, eval_e, eval_b}
use Rattle.meaning.specs.WidthLaws.{SoundE, SoundB}
use Rattle.theory_kinds.specs.KindLaws.{Suited-list, Some-suited}

-- ---- outcomes of given kinds
abbrev pub Suited : Outcome → List ValueKind → Type 0
Suited (yields vs l) ks = Suited-list vs ks
Suited Outcome.unfinished ks = Unit {0}

-- Iterated values of kinds is; returned values of kinds rs, or the w errs of a bad test, also in an arm that never returns.
abbrev pub SuitedB : ℕ → Ending → List ValueKind → List ValueKind → Type 0
SuitedB w (again vs l) is rs = Some-suited vs is
SuitedB w (returns vs l) is rs = Some-suited vs rs ⊎ (vs ≡ replicate w err)
SuitedB w Ending.unfinished is rs = Unit {0}

-- Strict evaluation has not stopped, and gives the same, of these kinds.
abbrev pub Holds : List ValueKind → Option Outcome → Outcome → Type 0
Holds ks p o = (p ≡ some o) × Suited o ks

abbrev pub HoldsB : ℕ → List ValueKind → List ValueKind → Option Ending → Ending → Type 0
HoldsB w is rs p o = (p ≡ some o) × SuitedB w o is rs
