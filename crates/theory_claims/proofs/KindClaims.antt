-- Laws of specs/KindClaims.antt, and what only they need.
use Rattle.std.specs.Prelude.{ℕ, zero, suc, ◌≤◌, ◌<◌, ◌≡◌, refl, true, List, [], ◌∷◌, ◌++◌, length, get_or, replicate}
use Rattle.std.proofs.Common.{sym, ◌∙◌, ap, subst, arith}
use Rattle.std.proofs.lemmas.List.{length-replicate}
use Rattle.value.specs.declared.ValueKind.{ValueKind}
use Rattle.value.specs.declared.ValueKind.TheVariants.{Whole as whole-kind}
use Rattle.value.specs.Kinds.{same_kind, all_of}
use Rattle.network.specs.Values.{err-value}
use Rattle.formula.proofs.TreeLaws.{and-true}
use Rattle.formula.specs.Kinds.{either_kinds, agree_kinds}
use Rattle.theory_kinds.proofs.KindLaws.{same_kind_lem, same-kinds}
use Rattle.theory_claims.specs.Claims.{Claim, of-kind, only-err, Meets, Under}
use Rattle.theory_claims.proofs.Claims.{err-only, errs-under}
use Rattle.theory_claims.specs.TypedGraphs.{at}
use Rattle.theory_claims.proofs.Parts.{same-under}
use Rattle.theory_claims.specs.KindClaims.{claims_for, returned_for, Forgiving}

pub length-claims : (ks : List ValueKind) → length (claims_for ks) ≡ length ks
length-claims [] = refl
length-claims (k ∷ ks) = ap suc (length-claims ks)

pub claims-append : (ks ls : List ValueKind) → claims_for (ks ++ ls) ≡ claims_for ks ++ claims_for ls
claims-append [] ls = refl
claims-append (k ∷ ks) ls = ap (λ (cs : List Claim). of-kind k ∷ cs) (claims-append ks ls)

pub at-claims : (ks : List ValueKind) (i : ℕ) → i < length ks → at (claims_for ks) i ≡ of-kind (get_or ks i whole-kind)
at-claims [] i h = absurd (omega arith)
at-claims (k ∷ ks) zero h = refl
at-claims (k ∷ ks) (suc i) h = at-claims ks i (omega arith)

-- Where all kinds are one, so are the claims.
pub all_under : (w : ValueKind) (ks : List ValueKind) → all_of w ks ≡ true → (i : ℕ) → Under (at (claims_for ks) i) (of-kind w)
all_under w [] h i = errs-under w
all_under w (k ∷ ks) h zero = same-under (of-kind k) (of-kind w) (ap of-kind (sym (same_kind_lem w k (and-true (same_kind w k) (all_of w ks) h).0)))
all_under w (k ∷ ks) h (suc i) = all_under w ks (and-true (same_kind w k) (all_of w ks) h).1 i

-- A single kind that is wanted is that kind.
pub one_wanted : (w : ValueKind) (ks : List ValueKind) → length ks ≡ 1 → all_of w ks ≡ true → claims_for ks ≡ of-kind w ∷ []
one_wanted w [] e h = absurd (omega arith)
one_wanted w (k ∷ []) e h = ap (λ (j : ValueKind). of-kind j ∷ []) (sym (same_kind_lem w k (and-true (same_kind w k) (all_of w []) h).0))
one_wanted w (k ∷ j ∷ ks) e h = absurd (omega arith)

pub returned-some : (w : ℕ) (ks : List ValueKind) → 1 ≤ length ks → returned_for w ks ≡ claims_for ks
returned-some w [] h = absurd (omega arith)
returned-some w (k ∷ ks) h = refl

pub length-returned : (w : ℕ) (ks : List ValueKind) → (1 ≤ length ks → length ks ≡ w) → length (returned_for w ks) ≡ w
length-returned w [] h = length-replicate w only-err
length-returned w (k ∷ ks) h = length-claims (k ∷ ks) ∙ h (omega arith)

pub at-errs : (w i : ℕ) → at (replicate w only-err) i ≡ only-err
at-errs zero i = refl
at-errs (suc w) zero = refl
at-errs (suc w) (suc i) = at-errs w i

claims-forgive : (ks : List ValueKind) (i : ℕ) → Forgiving (at (claims_for ks) i)
claims-forgive [] i = (λ v m. m, err-only)
claims-forgive (k ∷ ks) zero = (errs-under k, refl)
claims-forgive (k ∷ ks) (suc i) = claims-forgive ks i

pub claims-err : (ks : List ValueKind) (i : ℕ) → Meets (at (claims_for ks) i) err-value
claims-err ks i = (claims-forgive ks i).1

returned-forgive : (w : ℕ) (ks : List ValueKind) (i : ℕ) → Forgiving (at (returned_for w ks) i)
returned-forgive w [] i = subst Forgiving (sym (at-errs w i)) (λ v m. m, err-only)
returned-forgive w (k ∷ ks) i = claims-forgive (k ∷ ks) i

pub returned-err : (w : ℕ) (ks : List ValueKind) (i : ℕ) → Meets (at (returned_for w ks) i) err-value
returned-err w ks i = (returned-forgive w ks i).1

no-kinds-under : (w : ℕ) (ks : List ValueKind) (i : ℕ) → Under (at (replicate w only-err) i) (at (returned_for w ks) i)
no-kinds-under w ks i = subst (λ (c : Claim). Under c (at (returned_for w ks) i)) (sym (at-errs w i)) (returned-forgive w ks i).0

-- "the first arm's .. kinds hold": what either arm returns suits them.
pub first_under : (w : ℕ) (ks ls : List ValueKind) (i : ℕ) → Under (at (returned_for w ks) i) (at (returned_for w (either_kinds ks ls)) i)
first_under w [] ls i = no-kinds-under w ls i
first_under w (k ∷ ks) ls i = λ v m. m

pub second-under : (w : ℕ) (ks ls : List ValueKind) → agree_kinds ks ls ≡ true → (i : ℕ) → Under (at (returned_for w ls) i) (at (returned_for w (either_kinds ks ls)) i)
second-under w [] ls a i = λ v m. m
second-under w (k ∷ ks) [] a i = no-kinds-under w (k ∷ ks) i
second-under w (k ∷ ks) (l ∷ ls) a i =
    subst (λ (js : List ValueKind). Under (at (returned_for w (l ∷ ls)) i) (at (returned_for w js) i)) (sym (same-kinds (k ∷ ks) (l ∷ ls) a)) (λ v m. m)
