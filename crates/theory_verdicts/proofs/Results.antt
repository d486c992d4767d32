-- Laws of specs/Results.antt, and what only they need.
use Rattle.std.specs.Prelude.{ℕ, ◌≡◌, refl, List}
use Rattle.std.proofs.Common.{sym, ap, subst}
use Rattle.std.proofs.Math.Option.{none, some}
use Rattle.value.specs.declared.Value.{Value}
use Rattle.meaning.specs.Meaning.{Outcome, yields}
use Rattle.theory_verdicts.specs.Results.{values_of, Is-some, or_else}

pub values-some : (o : Outcome) (r : List Value) → values_of o ≡ some r → (left : ℕ) × (o ≡ yields r left)
values-some (yields vs left) r e = (left, ap (λ (w : List Value). yields w left) (ap (or_else r) e))
values-some Outcome.unfinished r e = absurd (subst Is-some (sym e) tt)

pub values-none : (o : Outcome) → values_of o ≡ none → o ≡ Outcome.unfinished
values-none (yields vs left) e = absurd (subst Is-some e tt)
values-none Outcome.unfinished e = refl
