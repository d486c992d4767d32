-- Every evaluation ends where loops may be cut: the graph of an admitted formula yields some values of its width when each loop that has gone N
-- rounds may count its first test as err. Which values these are does not matter here.
use Rattle.std.specs.Prelude.{ℕ, zero, suc, ◌+◌, ◌-◌, ◌≤◌, ◌≡◌, ◌⊎◌, true, false, List, [], ◌∷◌, ◌++◌, length, get_or, replicate}
use Rattle.std.proofs.Math.Path.{refl, sym}
use Rattle.std.proofs.Common.{ap, ◌∙◌, subst, length-append, eq-eqb, arith}
use Rattle.std.proofs.Math.Logic.{inl, inr}
use Rattle.std.proofs.lemmas.Bool.{false≢true}
use Rattle.std.proofs.Math.Option.{Option, some}
use Rattle.std.proofs.lemmas.List.{length-replicate}
use Rattle.value.specs.declared.Value.{Value}
use Rattle.value.specs.declared.Value.TheVariants.{Truth}
use Rattle.value.specs.Operators.{apply}
use Rattle.value.specs.declared.Sense.{Sense}
use Rattle.value.specs.declared.Sense.TheVariants.{True, False, Neither}
use Rattle.value.specs.Senses.{err, sense, only-one-true, only-one-false}
use Rattle.names.specs.Names.{trigger, one, union, without, range}
use Rattle.network.specs.Values.{true-value, false-value, err-value}
use Rattle.formula.specs.Constants.{constant_value}
use Rattle.formula.specs.Tree.{Exp, identifier, constant, pair, operator, let_e, if_e, for_e, Body, ret, iter, let_b, if_b}
use Rattle.formula.specs.Widths.{width, returned, iterated}
use Rattle.formula.specs.Free.{free_e, free_b}
use Rattle.formula.specs.Count.{returns as returnsAlways, iterates}
use Rattle.formula.specs.Admitted.{AdmittedE, AdmittedB}
use Rattle.meaning.specs.Meaning.{Env, bind, yields, again, returns}
use Rattle.meaning.proofs.WidthLaws.{operator-fits, let-fits, if-fits, for-fits, let-fits-B, if-fits-B}
use Rattle.graph.specs.Assembly.{Graph, member_of, up_from}
use Rattle.graph.specs.Yields.{Values, Answer, absent, present, bound, cut-loops, YieldsBy, YieldsIn, Gated, Sequel, Cut-spins, Cut-looped}
use Rattle.graph.specs.Translation.{test_name, graph_e, graph_b}
use Rattle.theory_yields.proofs.Naming.{or_left, or_right, length-up_from, above-up_from}
use Rattle.theory_yields.proofs.BodyWidths.{wide_enough, iterated-first, iterated-second}
use Rattle.theory_yields.specs.BodyWidths.{iterated_outputs, returned_outputs}
use Rattle.theory_yields.proofs.Gates.{operator-fires}
use Rattle.theory_yields.specs.FitGraphs.{Returning}
use Rattle.theory_yields.proofs.FitGraphs.{let-returning, arms-returning, loop-returning, loop-outputs}
use Rattle.theory_yields.proofs.Lookups.{present-append}
use Rattle.theory_yields.proofs.Rows.{in-turn, side_by_side}
use Rattle.theory_yields.specs.Meets.{Part, Holds}
use Rattle.theory_yields.proofs.Meets.{holds-bound, holds-beside}
use Rattle.theory_yields.proofs.IfMeets as Exps
use Rattle.theory_yields.proofs.IfMeets.{exp-behind}
use Rattle.theory_yields.proofs.BodyIfMeets as Bodies
use Rattle.theory_yields.proofs.BodyIfMeets.{body-behind}
use Rattle.theory_yields.proofs.TreeMeets.{others-held, constant-ends, constant-first, append-none, left-part, right-part, test-value, from-test}

-- A number of rounds of which none is left.
all-used : (P : Part) (c : ℕ) (a : Answer) → P c a → P (c - 0) a
all-used P c a p = let z : c ≡ c - 0 = omega arith in subst (λ n. P n a) z p

some-used : (P : Part) (c : ℕ) (a : Answer) → P (c - 0) a → P c a
some-used P c a p = let z : c - 0 ≡ c = omega arith in subst (λ n. P n a) z p

-- A let's identifiers are no test.
pub no_test : (a b : ℕ) → a + b ≤ 32 → up_from a b ≡ test_name ∷ [] → ⊥
unfolding member_of
no_test a b le e = false≢true (sym (above-up_from a b test_name (omega arith)) ∙ ap (λ ns. member_of ns test_name) e)

only_one : (vs : List Value) → length vs ≡ 1 → (v : Value) × (present vs ≡ some v ∷ [])
only_one [] n = absurd (omega arith)
only_one (v ∷ []) n = (v, refl)
only_one (v ∷ u ∷ vs) n = absurd (omega arith)

module _ (N : ℕ) where
  -- Some values of this width.
  abbrev pub Ends : Graph → Values → ℕ → Type 0
  Ends g ρ k = (vs : List Value) × (length vs ≡ k) × ((c : ℕ) × YieldsIn (some N) g ρ c (some (present vs)))

  -- A body iterates or returns, with k iterated and w returned values.
  abbrev pub Iterates : ℕ → Body → Values → Type 0
  Iterates w y ρ = (vs : List Value) × (length vs ≡ iterated y) × (1 ≤ iterated y) × (iterates y ≡ true)
      × ((c : ℕ) × YieldsIn (some N) (graph_b w y) ρ c (some (some true-value ∷ (present vs ++ absent (returned_outputs w y)))))

  abbrev pub Returns : ℕ → Body → Values → Type 0
  Returns w y ρ = (vs : List Value) × (length vs ≡ w) × (returnsAlways y ≡ true)
      × ((c : ℕ) × YieldsIn (some N) (graph_b w y) ρ c (some (some false-value ∷ (absent (iterated_outputs y) ++ present vs))))

  abbrev pub EndsBody : ℕ → Body → Values → Type 0
  EndsBody w y ρ = Iterates w y ρ ⊎ Returns w y ρ

  -- A body whose first test counts as err returns errs.
  abbrev pub Overridden : ℕ → Body → Values → Type 0
  Overridden w y ρ = (c : ℕ) × YieldsBy (cut-loops N) (graph_b w y) true ρ c (some (some false-value ∷ (absent (iterated_outputs y) ++ present (replicate w err))))

  -- ---- an if, behind its test
  module _ (t x y : Exp) (adm : AdmittedE (if_e t x y)) (env : Env) (ρ : Values) (hx : Holds (free_e x) env ρ) (hy : Holds (free_e y) env ρ) where
    exp-ends : (v : Value) → ρ test_name ≡ some v → width x ≡ width y
        → ((σ : Values) → Holds (free_e x) env σ → Ends (graph_e x) σ (width x)) → ((σ : Values) → Holds (free_e y) env σ → Ends (graph_e y) σ (width y))
        → Ends (exp-behind t x y adm) ρ (width x)
    exp-ends v e s p q = go (sense v) refl
      where
        errs : sense v ≡ Neither → Ends (exp-behind t x y adm) ρ (width x)
        errs n = (
          replicate (width x) err,
          length-replicate (width x) err,
          (0, some-used (YieldsIn (some N) (exp-behind t x y adm) ρ) 0 (some (present (replicate (width x) err))) (Exps.if-neither t x y adm (some N) env ρ hx hy 0 v e n)),
        )

        go : (z : Sense) → sense v ≡ z → Ends (exp-behind t x y adm) ρ (width x)
        go Neither n = errs n
        go True n =
            let r = p ρ hx in (
              r.0,
              r.1,
              (
                r.2.0,
                some-used (YieldsIn (some N) (exp-behind t x y adm) ρ) r.2.0 (some (present r.0))
                    (Exps.if-true t x y adm (some N) env ρ hx hy r.2.0 (e ∙ ap some (only-one-true v n)) (yields r.0 0) r.1 (all-used (YieldsIn (some N) (graph_e x) ρ) r.2.0 (some (present r.0)) r.2.1)),
              ),
            )
        go False n =
            let σ : Values = Exps.passed t x y adm ρ in
            let r = q σ (Exps.passed-holds t x y adm env ρ hy) in (
              r.0,
              r.1 ∙ sym s,
              (
                r.2.0,
                some-used (YieldsIn (some N) (exp-behind t x y adm) ρ) r.2.0 (some (present r.0))
                    (Exps.if-false t x y adm (some N) env ρ hx hy r.2.0 (e ∙ ap some (only-one-false v n)) (yields r.0 0) (r.1 ∙ sym s) (all-used (YieldsIn (some N) (graph_e y) σ) r.2.0 (some (present r.0)) r.2.1)),
              ),
            )

  module _ (w : ℕ) (t : Exp) (x y : Body) (adm : AdmittedB (if_b t x y)) (r : Returning w (if_b t x y)) (ρ : Values) where
    abbrev Behind : Part
    Behind = YieldsIn (some N) (body-behind w t x y adm r) ρ

    -- what the if gives behind its test
    abbrev Chosen : Type 0
    Chosen =
        ((vs : List Value) × (length vs ≡ iterated (if_b t x y)) × (1 ≤ iterated (if_b t x y)) × (iterates (if_b t x y) ≡ true)
        × ((c : ℕ) × Behind c (some (some true-value ∷ (present vs ++ absent w)))))
        ⊎ ((vs : List Value) × (length vs ≡ w) × ((c : ℕ) × Behind c (some (some false-value ∷ (absent (iterated_outputs (if_b t x y)) ++ present vs)))))

    module _ (env : Env) (hx : Holds (free_b x) env ρ) (hy : Holds (free_b y) env ρ) where
      errs : (v : Value) → ρ test_name ≡ some v → sense v ≡ Neither → Behind 0 (some (some false-value ∷ (absent (iterated_outputs (if_b t x y)) ++ present (replicate w err))))
      errs v e n = some-used Behind 0 _ (Bodies.if-neither w t x y adm r (some N) env ρ hx hy 0 v e n)

      body-ends : (v : Value) → ρ test_name ≡ some v → ((σ : Values) → Holds (free_b x) env σ → EndsBody w x σ) → ((σ : Values) → Holds (free_b y) env σ → EndsBody w y σ) → Chosen
      unfolding iterates
      body-ends v e p q = go (sense v) refl
        where
          of-x : ρ test_name ≡ some true-value → EndsBody w x ρ → Chosen
          of-x e (inl (vs, n, k, i, (c, z))) =
              let m : iterated (if_b t x y) ≡ iterated x = iterated-first t x y adm i in
              inl (
                vs,
                n ∙ sym m,
                omega (arith, m, k),
                or_left (iterates x) (iterates y) i,
                (c, some-used Behind c _ (Bodies.if-true w t x y adm r (some N) env ρ hx hy c e (again vs 0) (n, k) i (all-used (YieldsIn (some N) (graph_b w x) ρ) c _ z))),
              )
          of-x e (inr (vs, n, i, (c, z))) =
              inr (vs, n, (c, some-used Behind c _ (Bodies.if-true w t x y adm r (some N) env ρ hx hy c e (returns vs 0) n i (all-used (YieldsIn (some N) (graph_b w x) ρ) c _ z))))

          of-y : ρ test_name ≡ some false-value → EndsBody w y (Bodies.passed w t x y adm r ρ) → Chosen
          of-y e (inl (vs, n, k, i, (c, z))) =
              let m : iterated (if_b t x y) ≡ iterated y = iterated-second t x y adm i in
              inl (
                vs,
                n ∙ sym m,
                omega (arith, m, k),
                or_right (iterates x) (iterates y) i,
                (c, some-used Behind c _ (Bodies.if-false w t x y adm r (some N) env ρ hx hy c e (again vs 0) (n, k) i (all-used (YieldsIn (some N) (graph_b w y) (Bodies.passed w t x y adm r ρ)) c _ z))),
              )
          of-y e (inr (vs, n, i, (c, z))) =
              inr (vs, n, (c, some-used Behind c _ (Bodies.if-false w t x y adm r (some N) env ρ hx hy c e (returns vs 0) n i (all-used (YieldsIn (some N) (graph_b w y) (Bodies.passed w t x y adm r ρ)) c _ z))))

          go : (z : Sense) → sense v ≡ z → Chosen
          go Neither n = inr (replicate w err, length-replicate w err, (0, errs v e n))
          go True n = of-x (e ∙ ap some (only-one-true v n)) (p ρ hx)
          go False n = of-y (e ∙ ap some (only-one-false v n)) (q (Bodies.passed w t x y adm r ρ) (Bodies.passed-holds w t x y adm r env ρ hy))

  -- ---- a body's let and a body's if, behind what comes first
  behind-let : (w a b : ℕ) (x : Exp) (y : Body) (ρ : Values) → (p : Ends (graph_e x) ρ (width x)) → EndsBody w y (bound (up_from a b) (present p.0) ρ) → EndsBody w (let_b a b x y) ρ
  unfolding graph_b iterated iterates returnsAlways iterated_outputs returned_outputs
  behind-let w a b x y ρ p (inl (vs, n, k, i, (c, z))) =
      inl (vs, n, k, i, (p.2.0 + c, in-turn (some N) (up_from a b) (graph_e x) (graph_b w y) ρ p.2.0 c (p.2.0 + c) (present p.0) _ refl p.2.1 z))
  behind-let w a b x y ρ p (inr (vs, n, i, (c, z))) =
      inr (vs, n, i, (p.2.0 + c, in-turn (some N) (up_from a b) (graph_e x) (graph_b w y) ρ p.2.0 c (p.2.0 + c) (present p.0) _ refl p.2.1 z))

  behind_test : (w : ℕ) (t : Exp) (x y : Body) (adm : AdmittedB (if_b t x y)) (r : Returning w (if_b t x y)) (ρ : Values) → (p : Ends (graph_e t) ρ (width t)) →
      Chosen w t x y adm r (bound (test_name ∷ []) (present p.0) ρ) → EndsBody w (if_b t x y) ρ
  unfolding graph_b returnsAlways returned_outputs
  behind_test w t x y adm r ρ p (inl (vs, n, k, i, (c, z))) =
      inl (vs, n, k, i, (p.2.0 + c, in-turn (some N) (test_name ∷ []) (graph_e t) (body-behind w t x y adm r) ρ p.2.0 c (p.2.0 + c) (present p.0) _ refl p.2.1 z))
  behind_test w t x y adm r ρ p (inr (vs, n, (c, z))) =
      inr (vs, n, refl, (p.2.0 + c, in-turn (some N) (test_name ∷ []) (graph_e t) (body-behind w t x y adm r) ρ p.2.0 c (p.2.0 + c) (present p.0) _ refl p.2.1 z))

  -- ---- the rounds of a loop
  module _ (a b w : ℕ) (y : Body) (ρ : Values) (sized : iterated y ≡ b) (many : iterated_outputs y ≡ length (up_from a b)) (back : returned_outputs w y ≡ w)
      (rounds : (us : List Value) → length us ≡ b → EndsBody w y (bound (up_from a b) (present us) ρ))
      (over : (us : List Value) → length us ≡ b → Overridden w y (bound (up_from a b) (present us) ρ)) where
    abbrev Round : List Value → Part
    Round us = YieldsIn (some N) (graph_b w y) (bound (up_from a b) (present us) ρ)

    abbrev Last : List Value → Part
    Last us = YieldsBy (cut-loops N) (graph_b w y) true (bound (up_from a b) (present us) ρ)

    abbrev Spun : ℕ → List Value → Type 0
    Spun i us = (rs : List Value) × (length rs ≡ w) × Cut-spins (length (up_from a b)) N Round Last i us (present rs)

    at_last : (i : ℕ) (us : List Value) → N ≤ i → length us ≡ b → Spun i us
    at_last i us le n =
        let o = over us n in (
          replicate w err,
          length-replicate w err,
          Cut-spins.cuts i us o.0 (present (replicate w err)) le
              (subst (λ k. Last us o.0 (some (some false-value ∷ (absent k ++ present (replicate w err))))) many o.1),
        )

    one-round : (i : ℕ) (us : List Value) → EndsBody w y (bound (up_from a b) (present us) ρ) → ((vs : List Value) → length vs ≡ b → Spun (suc i) vs) → Spun i us
    one-round i us (inl (vs, n, k, z, (c, p))) next =
        let r = next vs (n ∙ sized) in (
          r.0,
          r.1,
          Cut-spins.onward i us vs c w (present r.0) (n ∙ sized ∙ sym (length-up_from a b))
              (subst (λ j. Round us c (some (some true-value ∷ (present vs ++ absent j)))) back p) r.2,
        )
    one-round i us (inr (vs, n, z, (c, p))) next =
        (vs, n, Cut-spins.last i us c (present vs) (subst (λ k. Round us c (some (some false-value ∷ (absent k ++ present vs)))) many p))

    spun : (k i : ℕ) (us : List Value) → N ≤ i + k → length us ≡ b → Spun i us
    spun zero i us le n = at_last i us (omega arith) n
    spun (suc k) i us le n = one-round i us (rounds us n) (λ vs m. spun k (suc i) vs (omega arith) m)

  -- ---- the theorem
  mutual
    unfolding width returned iterated graph_e graph_b free_e free_b iterates returnsAlways iterated_outputs returned_outputs

    pub ends-E : (x : Exp) → AdmittedE x → (env : Env) (ρ : Values) → Holds (free_e x) env ρ → Ends (graph_e x) ρ (width x)
    ends-E (identifier a) adm env ρ h = (env a ∷ [], refl, (0, (refl, ap (λ (v : Option Value). some (v ∷ [])) (sym (h.0 a adm (eq-eqb a a refl))))))
    ends-E (constant k a) adm env ρ h = (constant_value k a ∷ [], refl, (0, constant-ends (some N) (constant_value k a) env ρ h))
    ends-E (pair x y) adm env ρ h =
        let p = ends-E x adm.1 env ρ (left-part (free_e x) (free_e y) env ρ h) in
        let q = ends-E y adm.2 env ρ (right-part (free_e x) (free_e y) env ρ h) in (
          p.0 ++ q.0,
          length-append p.0 q.0 ∙ ap (λ n. n + length q.0) p.1 ∙ ap (λ n. width x + n) q.1,
          (
            p.2.0 + q.2.0,
            subst (λ (us : List (Option Value)). YieldsIn (some N) (graph_e (pair x y)) ρ (p.2.0 + q.2.0) (some us)) (sym (present-append p.0 q.0))
                (side_by_side (some N) (graph_e x) (graph_e y) ρ p.2.0 q.2.0 (p.2.0 + q.2.0) (present p.0) (present q.0) refl p.2.1 q.2.1),
          ),
        )
    ends-E (operator k x) adm env ρ h =
        let p = ends-E x adm.2 env ρ h in (
          apply k (get_or p.0 0 err) (get_or p.0 1 err) ∷ [],
          refl,
          (p.2.0, Gated.ends p.2.0 (present p.0) _ p.2.1 (operator-fires k p.0 (p.1 ∙ operator-fits k x adm.0.0))),
        )
    ends-E (let_e a b x y) adm env ρ h =
        let p = ends-E x adm.2 env ρ (left-part (free_e x) (without (free_e y) (range a b)) env ρ h) in
        let q = ends-E y adm.3 (bind a b p.0 env) (bound (up_from a b) (present p.0) ρ)
        (holds-bound (free_e y) env ρ a b p.0 adm.1.1 (p.1 ∙ let-fits a b x y adm.0.0) (right-part (free_e x) (without (free_e y) (range a b)) env ρ h)) in
        (q.0, q.1, (p.2.0 + q.2.0, in-turn (some N) (up_from a b) (graph_e x) (graph_e y) ρ p.2.0 q.2.0 (p.2.0 + q.2.0) (present p.0) (some (present q.0)) refl p.2.1 q.2.1))
    ends-E (if_e t x y) adm env ρ h =
        let f = if-fits t x y adm.0.0 in
        let p = ends-E t adm.1 env ρ (left-part (free_e t) (union (free_e x) (free_e y)) env ρ h) in
        let arms : Holds (union (free_e x) (free_e y)) env ρ = right-part (free_e t) (union (free_e x) (free_e y)) env ρ h in
        let σ : Values = bound (test_name ∷ []) (present p.0) ρ in
        let q = exp-ends t x y adm env σ
        (holds-beside (free_e x) env ρ (test_name ∷ []) (present p.0) from-test (left-part (free_e x) (free_e y) env ρ arms))
        (holds-beside (free_e y) env ρ (test_name ∷ []) (present p.0) from-test (right-part (free_e x) (free_e y) env ρ arms))
        (get_or p.0 0 err) (test-value p.0 ρ (p.1 ∙ f.0)) f.1 (λ τ g. ends-E x adm.2 env τ g) (λ τ g. ends-E y adm.3 env τ g) in
        (q.0, q.1, (p.2.0 + q.2.0, in-turn (some N) (test_name ∷ []) (graph_e t) (exp-behind t x y adm) ρ p.2.0 q.2.0 (p.2.0 + q.2.0) (present p.0) (some (present q.0)) refl p.2.1 q.2.1))
    ends-E (for_e a b x y) adm env ρ h =
        let f = for-fits a b x y adm.0.0 in
        let o = loop-outputs a b x y adm in
        let many : iterated_outputs y ≡ length (up_from a b) = o.0 ∙ sym (length-up_from a b) in
        let inner : Holds (without (free_b y) (range a b)) env ρ = right-part (free_e x) (without (free_b y) (range a b)) env ρ h in
        let p = ends-E x adm.2 env ρ (left-part (free_e x) (without (free_b y) (range a b)) env ρ h) in
        let q = spun a b (returned y) y ρ f.1 many o.1
        (λ us n. ends-B (returned y) y adm.3 (loop-returning a b x y adm) (bind a b us env) (bound (up_from a b) (present us) ρ) (holds-bound (free_b y) env ρ a b us adm.1.1 n inner))
        (λ us n. over-B (returned y) y adm.3 (loop-returning a b x y adm) (omega (arith, f.1, adm.1.0)) f.2 (bind a b us env) (bound (up_from a b) (present us) ρ)
        (holds-bound (free_b y) env ρ a b us adm.1.1 n inner)) N 0 p.0 (omega arith) (p.1 ∙ f.0) in
        (q.0, q.1, (p.2.0, Cut-looped.spins p.2.0 p.0 (present q.0) (p.1 ∙ f.0 ∙ sym (length-up_from a b)) p.2.1 (others-held a b y env ρ adm.3 inner) q.2))

    pub ends-B : (w : ℕ) (y : Body) → AdmittedB y → Returning w y → (env : Env) (ρ : Values) → Holds (free_b y) env ρ → EndsBody w y ρ
    ends-B w (ret x) adm r env ρ h =
        let p = ends-E x adm.1 env ρ (right-part (one trigger) (free_e x) env ρ h) in
        inr (
          p.0,
          p.1 ∙ r.suits (wide_enough x adm.1),
          refl,
          (p.2.0, constant-first (some N) (Truth false) (graph_e x) env ρ p.2.0 (left-part (one trigger) (free_e x) env ρ h) (present p.0) p.2.1),
        )
    ends-B w (iter x) adm r env ρ h =
        let p = ends-E x adm.1 env ρ (right-part (one trigger) (free_e x) env ρ h) in
        inl (
          p.0,
          p.1,
          wide_enough x adm.1,
          refl,
          (
            p.2.0,
            subst (λ (us : List (Option Value)). YieldsIn (some N) (graph_b w (iter x)) ρ p.2.0 (some (some true-value ∷ us))) (append-none (present p.0))
                (constant-first (some N) (Truth true) (graph_e x) env ρ p.2.0 (left-part (one trigger) (free_e x) env ρ h) (present p.0) p.2.1),
          ),
        )
    ends-B w (let_b a b x y) adm r env ρ h =
        let p = ends-E x adm.2 env ρ (left-part (free_e x) (without (free_b y) (range a b)) env ρ h) in
        behind-let w a b x y ρ p (ends-B w y adm.3 (let-returning w a b x y r) (bind a b p.0 env) (bound (up_from a b) (present p.0) ρ)
        (holds-bound (free_b y) env ρ a b p.0 adm.1.1 (p.1 ∙ let-fits-B a b x y adm.0.0) (right-part (free_e x) (without (free_b y) (range a b)) env ρ h)))
    ends-B w (if_b t x y) adm r env ρ h =
        let f = if-fits-B t x y adm.0.0 in
        let s = arms-returning w t x y adm r in
        let p = ends-E t adm.1 env ρ (left-part (free_e t) (union (free_b x) (free_b y)) env ρ h) in
        let arms : Holds (union (free_b x) (free_b y)) env ρ = right-part (free_e t) (union (free_b x) (free_b y)) env ρ h in
        let σ : Values = bound (test_name ∷ []) (present p.0) ρ in
        behind_test w t x y adm r ρ p
        (body-ends w t x y adm r σ env
        (holds-beside (free_b x) env ρ (test_name ∷ []) (present p.0) from-test (left-part (free_b x) (free_b y) env ρ arms))
        (holds-beside (free_b y) env ρ (test_name ∷ []) (present p.0) from-test (right-part (free_b x) (free_b y) env ρ arms))
        (get_or p.0 0 err) (test-value p.0 ρ (p.1 ∙ f.0)) (λ τ g. ends-B w x adm.2 s.0 env τ g) (λ τ g. ends-B w y adm.3 s.1 env τ g))

    -- A body with iterated and with returned values is lets around an if.
    pub over-B : (w : ℕ) (y : Body) → AdmittedB y → Returning w y → 1 ≤ iterated y → 1 ≤ returned y → (env : Env) (ρ : Values) → Holds (free_b y) env ρ → Overridden w y ρ
    over-B w (ret x) adm r i o env ρ h = absurd (omega arith)
    over-B w (iter x) adm r i o env ρ h = absurd (omega arith)
    over-B w (let_b a b x y) adm r i o env ρ h =
        let p = ends-E x adm.2 env ρ (left-part (free_e x) (without (free_b y) (range a b)) env ρ h) in
        let q = over-B w y adm.3 (let-returning w a b x y r) i o (bind a b p.0 env) (bound (up_from a b) (present p.0) ρ)
        (holds-bound (free_b y) env ρ a b p.0 adm.1.1 (p.1 ∙ let-fits-B a b x y adm.0.0) (right-part (free_e x) (without (free_b y) (range a b)) env ρ h)) in
        (p.2.0 + q.0, inl (no_test a b adm.1.1, Sequel.goes_on p.2.0 q.0 (present p.0) _ p.2.1 q.1))
    over-B w (if_b t x y) adm r i o env ρ h =
        let f = if-fits-B t x y adm.0.0 in
        let p = ends-E t adm.1 env ρ (left-part (free_e t) (union (free_b x) (free_b y)) env ρ h) in
        let arms : Holds (union (free_b x) (free_b y)) env ρ = right-part (free_e t) (union (free_b x) (free_b y)) env ρ h in (
          p.2.0 + 0,
          inr (
            refl,
            Sequel.goes_on p.2.0 0 (present p.0) _ p.2.1 (
              only_one p.0 (p.1 ∙ f.0),
              errs w t x y adm r (bound (test_name ∷ []) (some err-value ∷ []) ρ) env
                  (holds-beside (free_b x) env ρ (test_name ∷ []) (some err-value ∷ []) from-test (left-part (free_b x) (free_b y) env ρ arms))
                  (holds-beside (free_b y) env ρ (test_name ∷ []) (some err-value ∷ []) from-test (right-part (free_b x) (free_b y) env ρ arms))
                  err-value (test-value (err-value ∷ []) ρ refl) refl,
            ),
          ),
        )
