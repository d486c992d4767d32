-- Laws of specs/BodyJoins.antt, and what only they need.
use Rattle.std.specs.Prelude.{ℕ, ◌+◌, ◌≤◌, ◌<◌, ◌≡◌, Bool, cond, length}
use Rattle.std.proofs.Math.Path.{refl}
use Rattle.std.proofs.Common.{sym, ◌∙◌, ap, subst, inl, inr, arith}
use Rattle.std.proofs.Math.Bool.{true, false}
use mathlib.Core.List.{List, [], ◌∷◌, ◌++◌}
use Rattle.value.specs.declared.ValueKind.{ValueKind}
use Rattle.formula.specs.Kinds.{either_kinds, agree_kinds}
use Rattle.graph.specs.Assembly.{Graph, wire, beside, bind, gate, IC, gate_outputs}
use Rattle.graph.specs.Fit.{gate_inputs}
use Rattle.graph.specs.Translation.{test_name, iter_name, iterated_name, returned_name, join_name, join_names}
use Rattle.theory_yields.specs.Joins.{join_i, join_r}
use Rattle.theory_claims.specs.Claims.{Claim, Under, Truthlike, truths, Claims}
use Rattle.theory_claims.specs.TypedGraphs.{claims_of, at}
use Rattle.theory_claims.proofs.TypedGraphs.{Typed}
use Rattle.theory_claims.proofs.Parts.{same-under}
use Rattle.theory_claims.specs.KindClaims.{claims_for, returned_for}
use Rattle.theory_claims.proofs.KindClaims.{length-claims, claims-err, length-returned, at-errs, returned-err, first_under, second-under}
use Rattle.theory_claims.proofs.Rows.{merge-typed, except-typed, copied-typed, straight-typed, over-only, over-claims}
use Rattle.theory_claims.specs.Rows.{over}
use Rattle.theory_claims.specs.BodyJoins.{iter_for, third_for, Third-output, inputs_of_iC}

iter-truthlike : (b : Bool) → Truthlike (iter_for b)
iter-truthlike true = λ v m. m
iter-truthlike false = λ v m. rw m refl

third-fits : (b c : Bool) → Third-output (iter_for b) (iter_for c) (third_for b c)
third-fits true c = inl (λ v m. m)
third-fits false true = inl (λ v m. m)
third-fits false false = inr (λ v m. m, λ v m. m, λ v m. m)

module _ (R D : Claims) (b c : Bool) (test : D test_name ≡ truths) (first : D (iter_name true) ≡ iter_for b) (second : D (iter_name false) ≡ iter_for c)
    (join : (R join_name ≡ truths) × (R (join_name + 1) ≡ truths) × (R (join_name + 2) ≡ third_for b c)) where
  IC-typed : (both : Bool) → Typed (gate (IC both) inputs_of_iC) D (claims_of R (join_names both))
  unfolding gate_inputs gate_outputs join_names
  IC-typed true = (
    D test_name ∷ D (iter_name true) ∷ D (iter_name false) ∷ [],
    (D test_name ∷ [], D (iter_name true) ∷ D (iter_name false) ∷ [], refl, refl, (D (iter_name true) ∷ [], D (iter_name false) ∷ [], refl, refl, refl)),
    (
      refl,
      refl,
      rw (test, first, second, join.0, join.1, join.2) (λ v m. m, iter-truthlike b, iter-truthlike c, (λ v m. m), (λ v m. m), third-fits b c),
    ),
  )
  IC-typed false = (
    D test_name ∷ D (iter_name true) ∷ D (iter_name false) ∷ [],
    (D test_name ∷ [], D (iter_name true) ∷ D (iter_name false) ∷ [], refl, refl, (D (iter_name true) ∷ [], D (iter_name false) ∷ [], refl, refl, refl)),
    (
      refl,
      refl,
      rw (test, first, second, join.0, join.2) (λ v m. m, iter-truthlike b, iter-truthlike c, (λ v m. m), tt, third-fits b c),
    ),
  )

  -- With the two joins behind it.
  pub IC-joined : (both : Bool) (i r : Graph) (is rs : List Claim) → over (join_names both) R D join_name ≡ truths → Typed i (over (join_names both) R D) is
      → Typed r (over (join_names both) R D) rs → Typed (bind (join_names both) (gate (IC both) inputs_of_iC) (beside (wire join_name) (beside i r))) D (truths ∷ (is ++ rs))
  IC-joined both i r is rs e ti tr = (
    over (join_names both) R D,
    over-only (join_names both) R D,
    subst (Typed (gate (IC both) inputs_of_iC) D) (sym (over-claims (join_names both) R D)) (IC-typed both),
    (truths ∷ [], is ++ rs, refl, ap (λ (c : Claim). c ∷ []) (sym e), (is, rs, refl, ti, tr)),
  )

-- ---- the iterated results
no-kinds : (ks : List ValueKind) → length ks ≡ 0 → ks ≡ []
no-kinds [] e = refl
no-kinds (k ∷ ks) e = absurd (omega arith)

either-nil : (ks : List ValueKind) → either_kinds ks [] ≡ ks
either-nil [] = refl
either-nil (k ∷ ks) = refl

either-self : (ks : List ValueKind) → either_kinds ks ks ≡ ks
either-self [] = refl
either-self (k ∷ ks) = refl

module _ (D : Claims) where
  pub join_i-typed : (b c : Bool) (m n : ℕ) (ks ls : List ValueKind) → length ks ≡ cond b m 0 → length ls ≡ cond c n 0
      → (b ≡ true → c ≡ true → (D (join_name + 1) ≡ truths) × (ks ≡ ls))
      → ((i : ℕ) → i < cond b m 0 → D (iterated_name true + i) ≡ at (claims_for ks) i)
      → ((i : ℕ) → i < cond c n 0 → D (iterated_name false + i) ≡ at (claims_for ls) i)
      → Typed (join_i b c m n) D (claims_for (either_kinds ks ls))
  join_i-typed true true m n ks ls p q both f g =
      let z : ks ≡ ls = (both refl refl).1 in
      let e : either_kinds ks ls ≡ ks = subst (λ (js : List ValueKind). either_kinds ks js ≡ ks) z (either-self ks) in
      let u : length ls ≡ m = subst (λ (js : List ValueKind). length js ≡ m) z p in
      rw e
      (merge-typed D (join_name + 1) m (claims_for ks) (length-claims ks ∙ p) iterated_name (both refl refl).0
      (λ i l. (
        same-under (D (iterated_name true + i)) (at (claims_for ks) i) (f i l),
        same-under (D (iterated_name false + i)) (at (claims_for ks) i) (g i (omega arith) ∙ ap (λ (js : List ValueKind). at (claims_for js) i) (sym z)),
        claims-err ks i,
      )))
  join_i-typed true false m n ks ls p q both f g =
      let e : either_kinds ks ls ≡ ks = rw (no-kinds ls q) (either-nil ks) in
      rw e (straight-typed D (iterated_name true) m (claims_for ks) (length-claims ks ∙ p) (λ i l. sym (f i l)))
  join_i-typed false true m n ks ls p q both f g =
      let e : either_kinds ks ls ≡ ls = rw (no-kinds ks p) refl in
      rw e (straight-typed D (iterated_name false) n (claims_for ls) (length-claims ls ∙ q) (λ i l. sym (g i l)))
  join_i-typed false false m n ks ls p q both f g = rw (no-kinds ks p, no-kinds ls q) refl

  -- ---- the returned results
  pub join_r-typed : (b c : Bool) (w : ℕ) (ks ls : List ValueKind) → (b ≡ false → ks ≡ []) → (c ≡ false → ls ≡ []) → agree_kinds ks ls ≡ true
      → (1 ≤ length ks → length ks ≡ w) → (1 ≤ length ls → length ls ≡ w) → D (join_name + 2) ≡ third_for b c
      → ((i : ℕ) → i < cond b w 0 → D (returned_name true + i) ≡ at (returned_for w ks) i)
      → ((i : ℕ) → i < cond c w 0 → D (returned_name false + i) ≡ at (returned_for w ls) i)
      → Typed (join_r b c w) D (returned_for w (either_kinds ks ls))
  join_r-typed b c w ks ls nb nc a p q t = go b c nb nc t
    where
      js : List ValueKind
      js = either_kinds ks ls

      ds : List Claim
      ds = returned_for w js

      wide : (hs : List ValueKind) → (1 ≤ length hs → length hs ≡ w) → 1 ≤ length (either_kinds hs ls) → length (either_kinds hs ls) ≡ w
      wide [] h l = q l
      wide (k ∷ hs) h l = h l

      as_many : length ds ≡ w
      as_many = length-returned w js (wide ks p)

      from_first : (i : ℕ) → D (returned_name true + i) ≡ at (returned_for w ks) i → Under (D (returned_name true + i)) (at ds i)
      from_first i e = subst (λ (c : Claim). Under c (at ds i)) (sym e) (first_under w ks ls i)

      from_second : (i : ℕ) → D (returned_name false + i) ≡ at (returned_for w ls) i → Under (D (returned_name false + i)) (at ds i)
      from_second i e = subst (λ (c : Claim). Under c (at ds i)) (sym e) (second-under w ks ls a i)

      go : (b c : Bool) → (b ≡ false → ks ≡ []) → (c ≡ false → ls ≡ []) → D (join_name + 2) ≡ third_for b c
          → ((i : ℕ) → i < cond b w 0 → D (returned_name true + i) ≡ at (returned_for w ks) i)
          → ((i : ℕ) → i < cond c w 0 → D (returned_name false + i) ≡ at (returned_for w ls) i) → Typed (join_r b c w) D ds
      go true true nb nc t f g =
          merge-typed D (join_name + 2) w ds as_many returned_name t (λ i l. (from_first i (f i l), from_second i (g i l), returned-err w js i))
      go true false nb nc t f g = except-typed D (join_name + 2) w ds as_many (returned_name true) t (λ i l. (from_first i (f i l), returned-err w js i))
      go false true nb nc t f g = except-typed D (join_name + 2) w ds as_many (returned_name false) t (λ i l. (from_second i (g i l), returned-err w js i))
      go false false nb nc t f g =
          copied-typed D (join_name + 2) w ds as_many
          (λ i l.
          let e : js ≡ [] = rw (nb refl, nc refl) refl in
          ap (λ (hs : List ValueKind). at (returned_for w hs) i) e ∙ at-errs w i ∙ sym t)
