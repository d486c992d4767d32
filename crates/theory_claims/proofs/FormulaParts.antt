-- Laws of specs/FormulaParts.antt, and what only they need.
use Rattle.std.specs.Prelude.{ℕ, ◌+◌, ◌-◌, ◌≤◌, ◌<◌, ◌≡◌, ◌⊎◌, Bool, List, []}
use Rattle.std.proofs.Math.Path.{refl, sym, ap}
use Rattle.std.proofs.Common.{◌∙◌, inl, inr}
use Rattle.std.proofs.Math.Bool.{true, false, cond}
use Rattle.std.proofs.lemmas.Bool.{false≢true}
use Rattle.std.proofs.Math.ListN.{length, get_or}
use native.Mathlib.Omega.{arith}
use Rattle.value.specs.declared.ValueKind.{ValueKind}
use Rattle.value.specs.declared.ValueKind.TheVariants.{Whole as whole-kind}
use Rattle.names.specs.Names.{trigger, range}
use Rattle.formula.specs.Tree.{Body, ret, iter, let_b, if_b}
use Rattle.formula.specs.Widths.{returned, iterated}
use Rattle.formula.specs.Count.{returns}
use Rattle.formula.specs.Kinds.{Kinds, bind_kinds, kinds_e, returned_kinds, iterated_kinds}
use Rattle.formula.proofs.KindWidths.{either-length, kinds-length, returned-length}
use Rattle.graph.specs.Assembly.{member_of, up_from}
use Rattle.graph.specs.Translation.{test_name}
use Rattle.meaning.specs.WidthLaws.{Suits}
use Rattle.theory_reference.proofs.NameSets.{either}
use Rattle.theory_yields.proofs.Naming.{within-up_from, above-up_from, member-up_from}
use Rattle.theory_yields.specs.BodyWidths.{iterated_outputs, returned_outputs}
use Rattle.theory_yields.proofs.BodyWidths.{iterated-outputs}
use Rattle.theory_claims.specs.Claims.{of-kind, Claims}
use Rattle.theory_claims.specs.TypedGraphs.{claims_of, Binds-only}
use Rattle.theory_claims.specs.KindClaims.{claims_for, returned_for}
use Rattle.theory_claims.proofs.KindClaims.{length-claims, at-claims, length-returned}
use Rattle.theory_claims.proofs.Rows.{up-claims, over-in, over-only, over-claims}
use Rattle.theory_claims.specs.Rows.{over}
use Rattle.theory_claims.specs.FormulaParts.{Kinded-names, returned_by}

pub same_names : (kinds : Kinds) (C D : Claims) → ((k : ℕ) → k < test_name → D k ≡ C k) → Kinded-names kinds C → Kinded-names kinds D
same_names kinds C D h N = record { identifiers = λ k l. h k (omega arith) ∙ N.identifiers k l; triggered = h trigger (omega arith) ∙ N.triggered }

-- ---- identifiers bound anew
module _ (a b : ℕ) (ks : List ValueKind) (kinds : Kinds) (C : Claims) (few : length ks ≡ b) (ids : a + b ≤ trigger) where
  abbrev pub boundClaims : Claims
  boundClaims = over (up_from a b) (λ k. of-kind (bind_kinds a b ks kinds k)) C

  bound-kind : (i : ℕ) → i < b → bind_kinds a b ks kinds (a + i) ≡ get_or ks i whole-kind
  unfolding bind_kinds
  bound-kind i h =
      let r : range a b (a + i) ≡ true = sym (member-up_from a b (a + i)) ∙ within-up_from a b (a + i) (omega arith) (omega arith) in
      let z : a + i - a ≡ i = omega arith in
      ap (λ (t : Bool). cond t (get_or ks (a + i - a) whole-kind) (kinds (a + i))) r ∙ ap (λ (j : ℕ). get_or ks j whole-kind) z

  pub bound-claims : claims_of boundClaims (up_from a b) ≡ claims_for ks
  bound-claims =
      over-claims (up_from a b) (λ k. of-kind (bind_kinds a b ks kinds k)) C
      ∙ up-claims (λ k. of-kind (bind_kinds a b ks kinds k)) a b (claims_for ks) (length-claims ks ∙ few)
      (λ i h. ap of-kind (bound-kind i h) ∙ sym (at-claims ks i (omega arith)))

  pub bound-only : Binds-only (up_from a b) C boundClaims
  bound-only = over-only (up_from a b) (λ k. of-kind (bind_kinds a b ks kinds k)) C

  pub bound-kinded : Kinded-names kinds C → Kinded-names (bind_kinds a b ks kinds) boundClaims
  unfolding bind_kinds
  bound-kinded N =
      record {
        identifiers = λ k h. go k h (either (member_of (up_from a b) k));
        triggered = bound-only trigger (above-up_from a b trigger ids) ∙ N.triggered;
      }
    where
      go : (k : ℕ) → k < trigger → (member_of (up_from a b) k ≡ true) ⊎ (member_of (up_from a b) k ≡ false) → boundClaims k ≡ of-kind (bind_kinds a b ks kinds k)
      go k h (inl e) = over-in (up_from a b) (λ k. of-kind (bind_kinds a b ks kinds k)) C k e
      go k h (inr e) =
          bound-only k e ∙ N.identifiers k h
          ∙ ap (λ (t : Bool). of-kind (cond t (get_or ks (k - a) whole-kind) (kinds k))) (sym (sym (member-up_from a b k) ∙ e))

-- ---- the claims of a body's outputs
pub iterated-length : (y : Body) (kinds : Kinds) → length (iterated_kinds y kinds) ≡ iterated y
unfolding iterated_kinds iterated
iterated-length (ret x) kinds = refl
iterated-length (iter x) kinds = kinds-length x kinds
iterated-length (let_b a b x y) kinds = iterated-length y (bind_kinds a b (kinds_e x kinds) kinds)
iterated-length (if_b t x y) kinds =
    either-length (iterated_kinds x kinds) (iterated_kinds y kinds) ∙ rw (iterated-length x kinds, iterated-length y kinds) refl

pub returns-no-kinds : (y : Body) (kinds : Kinds) → returns y ≡ false → returned_kinds y kinds ≡ []
unfolding returns kinds_e
returns-no-kinds (ret x) kinds e = absurd (false≢true (sym e))
returns-no-kinds (iter x) kinds e = refl
returns-no-kinds (let_b a b x y) kinds e = returns-no-kinds y (bind_kinds a b (kinds_e x kinds) kinds) e
returns-no-kinds (if_b t x y) kinds e = absurd (false≢true (sym e))

module _ (w : ℕ) (y : Body) (kinds : Kinds) (s : Suits (returned y) w) where
  pub returned-fit : 1 ≤ length (returned_kinds y kinds) → length (returned_kinds y kinds) ≡ w
  returned-fit h = let e = returned-length y kinds in e ∙ s (omega arith)

  pub length-returned-by : length (returned_by w y kinds) ≡ returned_outputs w y
  unfolding returned_by returned_outputs
  length-returned-by = go (returns y)
    where
      go : (b : Bool) → length (cond b (returned_for w (returned_kinds y kinds)) []) ≡ cond b w 0
      go true = length-returned w (returned_kinds y kinds) returned-fit
      go false = refl

pub length-iterated : (y : Body) (kinds : Kinds) → length (iterated_kinds y kinds) ≡ iterated_outputs y
length-iterated y kinds = iterated-length y kinds ∙ sym (iterated-outputs y)
