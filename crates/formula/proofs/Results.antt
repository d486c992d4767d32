-- Equal refusals are equal in their parts, and what a test's refusal says of its row at fault.
use Rattle.std.specs.Prelude.{ℕ, ◌≡◌, refl, Result, Ok, Err}
use Rattle.formula.specs.declared.Refusal.{Refusal}
use Rattle.formula.specs.declared.Refused.{Refused}
use Rattle.formula.specs.Results.{Check, refused}
use Rattle.formula.specs.Tests.{after_check}
use Rattle.std.proofs.Common.{ap, sym, ◌∙◌}
use Rattle.std.specs.Result.{IsErrAnd}
use Rattle.std.proofs.lemmas.Result.{err_from_is_err_and}

module _ {A : Type 0} where
  alike : (a b : Refused) → ◌≡◌ {A = Result A Refused} (Err a) (Err b) → a ≡ b
  alike a b e = cc e

  pub same-refusal : (k r : Refusal) (x row : ℕ) → ◌≡◌ {A = Result A Refused} (refused k x) (refused r row) → k ≡ r
  same-refusal k r x row e = ap (λ (w : Refused). w.refusal) (alike _ _ e)

  pub same-row : (k r : Refusal) (x row : ℕ) → ◌≡◌ {A = Result A Refused} (refused k x) (refused r row) → x ≡ row
  same-row k r x row e = ap (λ (w : Refused). w.row) (alike _ _ e)

-- ---- one test, as the refusal that it gives
module _ (k : Refusal) where
  -- What a refusal of one test says of its fault.
  pub fault-at : (check : Check) (why : Refused) → after_check k check (Ok tt) ≡ Err why → (check ≡ Err why.row) × (why ≡ record { refusal = k; row = why.row })
  unfolding after_check
  fault-at (Ok _) why e = cc e
  fault-at (Err r) why e = let p : why ≡ record { refusal = k; row = r } = cc e in rw p (refl, refl)

  pub passed-at : (check : Check) (u : Unit {0}) → after_check k check (Ok tt) ≡ Ok u → check ≡ Ok tt
  unfolding after_check
  passed-at (Ok _) u e = refl
  passed-at (Err r) u e = cc e

-- ---- the exit of a `?` behind one test
pub exit-at : {T : Type 0} (k : Refusal) (check : Check) (a : Result (Unit {0}) Refused) (why : Refused) (r : Result T Refused)
    → a ≡ after_check k check (Ok tt) → a ≡ Err why → IsErrAnd r (λ d. d ≡ why) → (check ≡ Err why.row) × (r ≡ refused k why.row)
exit-at k check a why r e f g =
    let p = fault-at k check why (sym e ∙ f) in
    let q = err_from_is_err_and r g in
    (p.0, q.1 ∙ ap Err (q.2 ∙ p.1))

pub exit-with : {T : Type 0} (why : Refused) (r : Result T Refused) → IsErrAnd r (λ d. d ≡ why) → r ≡ Err why
exit-with why r g = let q = err_from_is_err_and r g in q.1 ∙ ap Err q.2
