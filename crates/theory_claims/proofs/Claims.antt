-- Laws of specs/Claims.antt, and what only they need.
use Rattle.std.specs.Prelude.{◌≡◌, refl}
use Rattle.std.proofs.Common.{sym, ap}
use Rattle.std.proofs.lemmas.Bool.{false≢true}
use Rattle.value.specs.declared.ValueKind.{ValueKind}
use Rattle.value.specs.declared.ValueKind.TheVariants.{Whole as whole-kind}
use Rattle.value.specs.Kinds.{suits}
use Rattle.network.specs.Values.{err-value}
use Rattle.theory_claims.specs.Claims.{Claim, of-kind, only-true, only-err, Meets, Under, storable}

pub err-only : Meets only-err err-value
err-only k = refl

pub errs-under : (k : ValueKind) → Under only-err (of-kind k)
errs-under k v h = h k

pub err-stored : (c : Claim) → Meets (storable c) err-value
err-stored (of-kind k) = refl
err-stored only-true = refl
err-stored only-err = err-only

pub storable-same : (c : Claim) → Meets c err-value → storable c ≡ c
storable-same (of-kind k) m = refl
storable-same only-true m = absurd (false≢true (sym (ap (suits whole-kind) m)))
storable-same only-err m = refl
