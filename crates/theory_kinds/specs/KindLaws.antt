-- Values of given kinds, place by place, and what kinds give where values are joined, bound or looked at. Assumes nothing.
use Rattle.std.specs.Prelude.{ℕ, zero, suc, ◌-◌, ◌≤◌, ◌≡◌, refl, Bool, true, false, cond, List, [], ◌∷◌, ◌++◌, pos, eqb, length, get_or, replicate}
use Rattle.value.specs.declared.Value.{Value}
use Rattle.value.specs.declared.Value.TheVariants.{Whole, Truth}
use Rattle.value.specs.declared.ValueKind.{ValueKind}
use Rattle.value.specs.declared.ValueKind.TheVariants.{Whole as whole-kind, Truth as truth-kind, Real as real-kind}
use Rattle.value.specs.Senses.{err}
use Rattle.value.specs.Constants.{thousandths}
use Rattle.value.specs.Kinds.{same_kind, suits, all_of, given, given-one}
use Rattle.names.specs.Names.{range}
use Rattle.formula.specs.Constants.{constant_value}
use Rattle.formula.specs.Kinds.{Kinds, bind_kinds, kind_of_constant, either_kinds, same_kinds, agree_kinds}
use Rattle.meaning.specs.Meaning.{Env, bind}

-- ---- values of given kinds
-- As many values as kinds, each of its kind or an err.
abbrev pub Suited-list : List Value → List ValueKind → Type 0
Suited-list [] [] = Unit {0}
Suited-list [] (k ∷ ks) = ⊥
Suited-list (v ∷ vs) [] = ⊥
Suited-list (v ∷ vs) (k ∷ ks) = (suits k v ≡ true) × Suited-list vs ks

-- ---- an environment of given kinds
-- Every identifier holds a value of its kind or an err.
abbrev pub Env-suits : Kinds → Env → Type 0
Env-suits kinds env = (k : ℕ) → suits (kinds k) (env k) ≡ true

-- ---- the arms of an if in a body: "the first arm's .. kinds hold"
-- Some values, of given kinds.
abbrev pub Some-suited : List Value → List ValueKind → Type 0
Some-suited vs ks = Suited-list vs ks × (1 ≤ length ks)
