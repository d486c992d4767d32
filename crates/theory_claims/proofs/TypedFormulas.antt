-- The graph of a formula whose rows keep the rule of kinds has claims that fit (TypedGraphs.antt): from the kinds of its identifiers to those of
-- its values, and for a body to body_claims. By induction over the formula. Assumes an admitted tree of which every node keeps the rule of kinds.
use Rattle.std.specs.Prelude.{ℕ, ◌+◌, ◌≤◌, ◌<◌, ◌≡◌, refl, Bool, true, false, cond, List, [], ◌∷◌, ◌++◌, length, ltb}
use Rattle.std.proofs.Common.{sym, ◌∙◌, ap, subst, ltb-true, ltb-false, arith}
use Rattle.std.proofs.lemmas.Bool.{false≢true}
use Rattle.value.specs.declared.ValueKind.{ValueKind}
use Rattle.value.specs.declared.ValueKind.TheVariants.{Truth as truth-kind}
use Rattle.value.specs.declared.Value.TheVariants.{Truth}
use Rattle.value.specs.Kinds.{given, one-kind}
use Rattle.names.specs.Names.{trigger}
use Rattle.network.specs.Values.{err-value}
use Rattle.formula.specs.Constants.{constant_value}
use Rattle.formula.specs.Tree.{Exp, identifier, constant, pair, operator, let_e, if_e, for_e, Body, ret, iter, let_b, if_b}
use Rattle.formula.specs.Widths.{width, returned}
use Rattle.formula.specs.Free.{free_e, free_b}
use Rattle.formula.specs.Count.{returns}
use Rattle.formula.specs.Admitted.{AdmittedE, AdmittedB}
use Rattle.formula.specs.Kinds.{Kinds, bind_kinds, kind_of_constant, kinds_e, returned_kinds, iterated_kinds}
use Rattle.formula.proofs.KindWidths.{kinds-length, returned-length}
use Rattle.graph.specs.Assembly.{gate_outputs, free, member_of, up_from}
use Rattle.graph.specs.Fit.{gate_inputs}
use Rattle.graph.specs.Translation.{test_name, returned_name, merge_row, arm_names, joined, graph_e, graph_b}
use Rattle.meaning.proofs.WidthLaws.{operator-fits, let-fits, if-fits, for-fits, let-fits-B, if-fits-B}
use Rattle.theory_kinds.specs.Kinded.{AllE, AllB}
use Rattle.theory_kinds.proofs.KindLaws.{given-alike, constant-suited}
use Rattle.theory_kinds.proofs.KindsHold.{operator-rule, if-rule, for-rule, if-rule-B}
use Rattle.theory_yields.proofs.Naming.{within-up_from}
use Rattle.theory_yields.proofs.BodyWidths.{wide_enough, not-too-wide, returns-some}
use Rattle.theory_yields.proofs.FreeNames.{small-B, free-B}
use Rattle.theory_yields.specs.FitGraphs.{Returning}
use Rattle.theory_yields.proofs.FitGraphs.{arms-returning, let-returning, loop-returning}
use Rattle.theory_claims.specs.Claims.{Claim, of-kind, Meets, Under, truths, Claims}
use Rattle.theory_claims.specs.TypedGraphs.{claims_of, at}
use Rattle.theory_claims.proofs.TypedGraphs.{Typed}
use Rattle.theory_claims.proofs.Parts.{same-under, claims-nil}
use Rattle.theory_claims.specs.KindClaims.{claims_for}
use Rattle.theory_claims.proofs.KindClaims.{length-claims, claims-append, all_under, one_wanted, claims-err, returned-some}
use Rattle.theory_claims.proofs.Rows.{constant-typed, merge-typed, choice-typed}
use Rattle.theory_claims.proofs.IfNames.{table, table-low, table-test, table-returned, returned-claims}
use Rattle.theory_claims.specs.BodyJoins.{iter_for}
use Rattle.theory_claims.specs.FormulaParts.{Kinded-names, returned_by, body_claims}
use Rattle.theory_claims.proofs.FormulaParts.{same_names, boundClaims, bound-claims, bound-only, bound-kinded}
use Rattle.theory_claims.proofs.BodyIf.{ifTable, first-claims, second-claims, joined_typed}

-- ---- what a for's body has
-- Each of a body's names may be an err.
body-errs : (w : ℕ) (y : Body) (kinds : Kinds) (C : Claims) → AdmittedB y → Kinded-names kinds C → (k : ℕ) → free (graph_b w y) k ≡ true → Meets (C k) err-value
body-errs w y kinds C h N k e = go (ltb k trigger) refl (ltb k test_name) refl
  where
    err-at : (c : Claim) → (j : ValueKind) → c ≡ of-kind j → Meets c err-value
    err-at c j z = rw z refl

    go : (b : Bool) → ltb k trigger ≡ b → (c : Bool) → ltb k test_name ≡ c → Meets (C k) err-value
    go true p c q = err-at (C k) (kinds k) (N.identifiers k (ltb-true k trigger p))
    go false p true q =
        let z : k ≡ trigger = omega (arith, ltb-false k trigger p, ltb-true k test_name q) in
        err-at (C k) truth-kind (ap C z ∙ N.triggered)
    go false p false q = absurd (false≢true (sym (small-B y h k (ltb-false k test_name q)) ∙ sym (free-B w y h k) ∙ e))

-- A body that returns something: truths, the kinds of row c again, the kinds returned.
loop-claims : (y : Body) (kinds : Kinds) (ks : List ValueKind) → 1 ≤ returned y → ks ≡ iterated_kinds y kinds
    → body_claims (returned y) y kinds ≡ truths ∷ (claims_for ks ++ claims_for (returned_kinds y kinds))
unfolding body_claims returned_by
loop-claims y kinds ks h e =
    let l = returned-length y kinds in
    rw (returns-some y h, e, returned-some (returned y) (returned_kinds y kinds) (omega arith)) refl

-- ---- the if of an expression
module _ (t x y : Exp) (kinds : Kinds) (C : Claims) (h : AdmittedE (if_e t x y)) (same : kinds_e x kinds ≡ kinds_e y kinds) where
  abbrev armClaims : Bool → List Claim
  armClaims side = claims_for (cond side (kinds_e x kinds) (kinds_e y kinds))

  abbrev expTable : Claims
  expTable = table C (λ side. truths) (λ side. []) armClaims truths

  wide : (side : Bool) → length (armClaims side) ≡ width x
  wide true = length-claims (kinds_e x kinds) ∙ kinds-length x kinds
  wide false = length-claims (kinds_e y kinds) ∙ kinds-length y kinds ∙ sym (if-fits t x y h.0.0).1

  arm-has : (side : Bool) → claims_of expTable (up_from (returned_name side) (width x)) ≡ armClaims side
  arm-has side = returned-claims C (λ side. truths) (λ side. []) armClaims truths side (width x) (wide side) (not-too-wide x h.2)

  results : (D : Claims) → D test_name ≡ truths → ((k : ℕ) → member_of (up_from (returned_name true) (width x)) k ≡ true → D k ≡ expTable k)
      → ((k : ℕ) → member_of (up_from (returned_name false) (width x)) k ≡ true → D k ≡ expTable k) → Typed (merge_row test_name returned_name (width x)) D (claims_for (kinds_e x kinds))
  results D e f g =
      merge-typed D test_name (width x) (claims_for (kinds_e x kinds)) (wide true) returned_name e
      (λ i l. (
        same-under (D (51 + i)) (at (claims_for (kinds_e x kinds)) i) (f (51 + i) (within-up_from 51 (width x) (51 + i) (omega arith) (omega arith)) ∙ told true i l),
        same-under (D (84 + i)) (at (claims_for (kinds_e x kinds)) i)
            (g (84 + i) (within-up_from 84 (width x) (84 + i) (omega arith) (omega arith)) ∙ told false i l ∙ ap (λ (ks : List ValueKind). at (claims_for ks) i) (sym same)),
        claims-err (kinds_e x kinds) i,
      ))
    where
      told : (side : Bool) (i : ℕ) → i < width x → expTable (returned_name side + i) ≡ at (armClaims side) i
      told side i l = table-returned C (λ side. truths) (λ side. []) armClaims truths side i (omega (arith, l, not-too-wide x h.2))

-- ---- the tree
some-kinds : (x : Exp) (kinds : Kinds) → AdmittedE x → 1 ≤ length (kinds_e x kinds)
some-kinds x kinds h = rw (kinds-length x kinds) (wide_enough x h)

mutual
  unfolding kinds_e iterated_kinds returns graph_e graph_b gate_inputs gate_outputs given body_claims returned_by width

  pub typed-E : (x : Exp) (kinds : Kinds) → AdmittedE x → AllE x kinds → (C : Claims) → Kinded-names kinds C → Typed (graph_e x) C (claims_for (kinds_e x kinds))
  typed-E (identifier a) kinds h k C N = ap (λ (c : Claim). c ∷ []) (sym (N.identifiers a h))
  typed-E (constant c a) kinds h k C N = constant-typed C (constant_value c a) (of-kind (kind_of_constant c)) (constant-suited c a)
  typed-E (pair x y) kinds h k C N = (
    claims_for (kinds_e x kinds),
    claims_for (kinds_e y kinds),
    claims-append (kinds_e x kinds) (kinds_e y kinds),
    typed-E x kinds h.1 k.1 C N,
    typed-E y kinds h.2 k.2 C N,
  )
  typed-E (operator c x) kinds h k C N =
      let ks : List ValueKind = kinds_e x kinds in
      let kind = one-kind c ks (operator-rule c x kinds k.0) in
      let want = all_under kind.0 ks kind.2 in
      let gives : Under (of-kind (given c (kind.0 ∷ []))) (of-kind (given c ks)) =
      same-under _ _ (ap of-kind (sym (given-alike c kind.0 ks (some-kinds x kinds h.2) kind.2))) in (
        claims_for ks,
        typed-E x kinds h.2 k.1 C N,
        (length-claims ks ∙ kinds-length x kinds ∙ operator-fits c x h.0.0, refl, (kind.0, (kind.1, want 0, (λ e. want 1), gives))),
      )
  typed-E (let_e a b x y) kinds h k C N =
      let ks : List ValueKind = kinds_e x kinds in
      let few : length ks ≡ b = kinds-length x kinds ∙ let-fits a b x y h.0.0 in
      let D : Claims = boundClaims a b ks kinds C few h.1.1 in (
        D,
        bound-only a b ks kinds C few h.1.1,
        subst (Typed (graph_e x) C) (sym (bound-claims a b ks kinds C few h.1.1)) (typed-E x kinds h.2 k.1 C N),
        typed-E y (bind_kinds a b ks kinds) h.3 k.2 D (bound-kinded a b ks kinds C few h.1.1 N),
      )
  typed-E (if_e t x y) kinds h k C N =
      let rule = if-rule t x y kinds k.0 in
      let one : length (kinds_e t kinds) ≡ 1 = kinds-length t kinds ∙ (if-fits t x y h.0.0).0 in
      let R : Claims = expTable t x y kinds C h rule.1 in
      choice-typed R C (table-low C _ _ _ _) (table-test C _ _ _ _) (graph_e t) (up_from (returned_name true) (width x)) (free_e x) (graph_e x)
      (up_from (returned_name false) (width x)) (free_e y) (graph_e y) (merge_row test_name returned_name (width x)) (claims_for (kinds_e x kinds))
      (subst (Typed (graph_e t) C) (one_wanted truth-kind (kinds_e t kinds) one rule.0) (typed-E t kinds h.1 k.1 C N))
      (λ D l. subst (Typed (graph_e x) D) (sym (arm-has t x y kinds C h rule.1 true)) (typed-E x kinds h.2 k.2 D (same_names kinds C D l N)))
      (λ D l. subst (Typed (graph_e y) D) (sym (arm-has t x y kinds C h rule.1 false)) (typed-E y kinds h.3 k.3 D (same_names kinds C D l N)))
      (results t x y kinds C h rule.1)
  typed-E (for_e a b x y) kinds h k C N =
      let ks : List ValueKind = kinds_e x kinds in
      let inner : Kinds = bind_kinds a b ks kinds in
      let f = for-fits a b x y h.0.0 in
      let few : length ks ≡ b = kinds-length x kinds ∙ f.0 in
      let D : Claims = boundClaims a b ks kinds C few h.1.1 in
      let M : Kinded-names inner D = bound-kinded a b ks kinds C few h.1.1 N in
      let e : claims_of D (up_from a b) ≡ claims_for ks = bound-claims a b ks kinds C few h.1.1 in (
        D,
        bound-only a b ks kinds C few h.1.1,
        body-errs (returned y) y inner D h.3 M,
        subst (Typed (graph_e x) C) (sym e) (typed-E x kinds h.2 k.1 C N),
        subst (λ (cs : List Claim). Typed (graph_b (returned y) y) D (truths ∷ (cs ++ claims_for (returned_kinds y inner)))) (sym e)
            (subst (Typed (graph_b (returned y) y) D) (loop-claims y inner ks f.2 (for-rule a b x y kinds k.0))
            (typed-B (returned y) y inner h.3 (loop-returning a b x y h) k.2 D M)),
      )

  pub typed-B : (w : ℕ) (y : Body) (kinds : Kinds) → AdmittedB y → Returning w y → AllB y kinds → (C : Claims) → Kinded-names kinds C
      → Typed (graph_b w y) C (body_claims w y kinds)
  typed-B w (ret x) kinds h r k C N = (
    truths ∷ [],
    claims_for (kinds_e x kinds),
    ap (λ (cs : List Claim). truths ∷ cs) (returned-some w (kinds_e x kinds) (some-kinds x kinds h.1)),
    constant-typed C (Truth false) truths refl,
    typed-E x kinds h.1 k C N,
  )
  typed-B w (iter x) kinds h r k C N = (
    iter_for false ∷ [],
    claims_for (kinds_e x kinds),
    ap (λ (cs : List Claim). iter_for false ∷ cs) (claims-nil (claims_for (kinds_e x kinds))),
    constant-typed C (Truth true) (iter_for false) refl,
    typed-E x kinds h.1 k.1 C N,
  )
  typed-B w (let_b a b x y) kinds h r k C N =
      let ks : List ValueKind = kinds_e x kinds in
      let few : length ks ≡ b = kinds-length x kinds ∙ let-fits-B a b x y h.0.0 in
      let D : Claims = boundClaims a b ks kinds C few h.1.1 in (
        D,
        bound-only a b ks kinds C few h.1.1,
        subst (Typed (graph_e x) C) (sym (bound-claims a b ks kinds C few h.1.1)) (typed-E x kinds h.2 k.1 C N),
        typed-B w y (bind_kinds a b ks kinds) h.3 (let-returning w a b x y r) k.2 D (bound-kinded a b ks kinds C few h.1.1 N),
      )
  typed-B w (if_b t x y) kinds h r k C N =
      let rule = if-rule-B t x y kinds k.0 in
      let s = arms-returning w t x y h r in
      let one : length (kinds_e t kinds) ≡ 1 = kinds-length t kinds ∙ (if-fits-B t x y h.0.0).0 in
      let R : Claims = ifTable w t x y kinds C h s.0.suits s.1.suits r.at_most in
      choice-typed R C (table-low C _ _ _ _) (table-test C _ _ _ _) (graph_e t) (arm_names true w x) (free_b x) (graph_b w x) (arm_names false w y) (free_b y) (graph_b w y)
      (joined w x y) (body_claims w (if_b t x y) kinds)
      (subst (Typed (graph_e t) C) (one_wanted truth-kind (kinds_e t kinds) one rule.0) (typed-E t kinds h.1 k.1 C N))
      (λ D l. subst (Typed (graph_b w x) D) (sym (first-claims w t x y kinds C h s.0.suits s.1.suits r.at_most))
      (typed-B w x kinds h.2 s.0 k.2 D (same_names kinds C D l N)))
      (λ D l. subst (Typed (graph_b w y) D) (sym (second-claims w t x y kinds C h s.0.suits s.1.suits r.at_most))
      (typed-B w y kinds h.3 s.1 k.3 D (same_names kinds C D l N)))
      (λ D e f g. joined_typed w t x y kinds C h s.0.suits s.1.suits r.at_most rule.1 rule.2 D e f g)
