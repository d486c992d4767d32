-- The claims that kinds give (formula/specs/Kinds): of values, and of what a body returns. Assumes nothing.
use Rattle.std.specs.Prelude.{ℕ, zero, suc, ◌≤◌, ◌<◌, ◌≡◌, refl, true, List, [], ◌∷◌, ◌++◌, length, get_or, replicate}
use Rattle.value.specs.declared.ValueKind.{ValueKind}
use Rattle.value.specs.declared.ValueKind.TheVariants.{Whole as whole-kind}
use Rattle.value.specs.Kinds.{same_kind, all_of}
use Rattle.network.specs.Values.{err-value}
use Rattle.formula.specs.Kinds.{either_kinds, agree_kinds}
use Rattle.theory_claims.specs.Claims.{Claim, of-kind, only-err, Meets, Under}

abbrev pub claims_for : List ValueKind → List Claim
claims_for [] = []
claims_for (k ∷ ks) = of-kind k ∷ claims_for ks

-- ---- what a body returns
-- Where a body returns and has no kinds for it, it returns errs only: copies of the third output of IC.
abbrev pub returned_for : ℕ → List ValueKind → List Claim
returned_for w [] = replicate w only-err
returned_for w (k ∷ ks) = claims_for (k ∷ ks)

-- An err meets every one of these claims.
abbrev pub Forgiving : Claim → Type 0
Forgiving c = Under only-err c × Meets c err-value
