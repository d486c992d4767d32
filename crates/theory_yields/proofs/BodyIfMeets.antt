-- Laws of specs/BodyIfMeets.antt, and what only they need.
use Rattle.std.specs.Prelude.{ℕ, ◌-◌, ◌≡◌, Bool, true, false, List, ◌∷◌, ◌++◌, length, get_or, replicate}
use Rattle.std.proofs.Math.Path.{refl, ap}
use Rattle.std.proofs.Common.{sym, ◌∙◌, subst, arith}
use Rattle.std.proofs.Math.Option.{Option, none, some}
use Rattle.value.specs.declared.Value.{Value}
use Rattle.value.specs.declared.Sense.{Sense}
use Rattle.value.specs.declared.Sense.TheVariants.{True, False, Neither}
use Rattle.value.specs.Senses.{err, sense, only-one-true, only-one-false}
use Rattle.network.specs.Values.{true-value, false-value}
use Rattle.formula.specs.Tree.{Exp, Body, ret, iter, let_b, if_b}
use Rattle.formula.specs.Widths.{iterated}
use Rattle.formula.specs.Free.{free_b}
use Rattle.formula.specs.Count.{returns as returnsAlways, iterates}
use Rattle.formula.specs.Admitted.{AdmittedB}
use Rattle.meaning.specs.Meaning.{Env, bind, Outcome, yields, Ending, again, returns, then_b, branch, eval_e, eval_b}
use Rattle.meaning.proofs.Rounds.{branch-holds}
use Rattle.meaning.specs.WidthLaws.{SizedB}
use Rattle.graph.specs.Assembly.{Graph}
use Rattle.graph.specs.Yields.{Values, absent, present, bound, YieldsIn}
use Rattle.graph.specs.Translation.{test_name, arm_names, joined, graph_b}
use Rattle.theory_yields.proofs.Naming.{or_left, or_right}
use Rattle.theory_yields.specs.BodyWidths.{iterated_outputs, returned_outputs}
use Rattle.theory_yields.proofs.BodyWidths.{iterated-outputs, returned-outputs}
use Rattle.theory_yields.specs.ArmNames.{Narrow}
use Rattle.theory_yields.proofs.ArmNames.{narrow, length-arm-names, arm-from-test}
use Rattle.theory_yields.proofs.FreeNames.{small-B}
use Rattle.theory_yields.specs.FitParts.{Arms}
use Rattle.theory_yields.proofs.FitGraphs.{fit-B, arms-returning, arms-of-B}
use Rattle.theory_yields.specs.FitGraphs.{Returning}
use Rattle.theory_yields.proofs.Lookups.{length-present, length-absent, absent-append, bound-other}
use Rattle.theory_yields.proofs.Branches.{behind, chosen-true, chosen-true-stops, chosen-false, chosen-false-stops, chosen-neither}
use Rattle.theory_yields.specs.Branches.{AllAt}
use Rattle.theory_yields.proofs.BodyJoin.{Given, given, given-still, first-iterates, second-iterates, first-returns, second-returns, neither-arm}
use Rattle.theory_yields.specs.Meets.{Holds, MeetsB}
use Rattle.theory_yields.proofs.Meets.{holds-beside, all_held}
use Rattle.theory_yields.specs.BodyIfMeets.{EndsAs}

then-ends : (y : Body) (o : Outcome) (k : List Value → ℕ → Ending) → ((vs : List Value) (l : ℕ) → EndsAs y (k vs l)) → EndsAs y (then_b o k)
unfolding then_b
then-ends y (yields vs l) k h = h vs l
then-ends y Outcome.unfinished k h = tt

let-ends : (a b : ℕ) (x : Exp) (y : Body) (o : Ending) → EndsAs y o → EndsAs (let_b a b x y) o
unfolding iterates returnsAlways
let-ends a b x y (again vs l) h = h
let-ends a b x y (returns vs l) h = h
let-ends a b x y Ending.unfinished h = tt

first_ends : (t : Exp) (x y : Body) (o : Ending) → EndsAs x o → EndsAs (if_b t x y) o
unfolding iterates returnsAlways
first_ends t x y (again vs l) h = or_left (iterates x) (iterates y) h
first_ends t x y (returns vs l) h = refl
first_ends t x y Ending.unfinished h = tt

second-ends : (t : Exp) (x y : Body) (o : Ending) → EndsAs y o → EndsAs (if_b t x y) o
unfolding iterates returnsAlways
second-ends t x y (again vs l) h = or_right (iterates x) (iterates y) h
second-ends t x y (returns vs l) h = refl
second-ends t x y Ending.unfinished h = tt

pub ends_as : (y : Body) (w : ℕ) (env : Env) (l : ℕ) → EndsAs y (eval_b y w env l)
unfolding eval_b iterates returnsAlways
ends_as (ret x) w env l = then-ends (ret x) (eval_e x env l) _ (λ vs m. refl)
ends_as (iter x) w env l = then-ends (iter x) (eval_e x env l) _ (λ vs m. refl)
ends_as (let_b a b x y) w env l =
    then-ends (let_b a b x y) (eval_e x env l) _
    (λ vs m. let-ends a b x y (eval_b y w (bind a b vs env) m) (ends_as y w (bind a b vs env) m))
ends_as (if_b t x y) w env l =
    then-ends (if_b t x y) (eval_e t env l) _
    (λ vs m.
    branch-holds (EndsAs (if_b t x y)) (sense (get_or vs 0 err)) _ (λ _. eval_b x w env m) (λ _. eval_b y w env m) refl
    (first_ends t x y (eval_b x w env m) (ends_as x w env m)) (second-ends t x y (eval_b y w env m) (ends_as y w env m))
    )

-- ---- the arms
-- Nothing came from an arm.
given_nothing : (side : Bool) (w : ℕ) (x : Body) (ρ : Values) → Narrow w x
    → Given side w x (bound (arm_names side w x) (absent (length (arm_names side w x))) ρ) none (absent (iterated_outputs x)) (absent (returned_outputs w x))
given_nothing side w x ρ n =
    subst (λ (vs : List (Option Value)). Given side w x (bound (arm_names side w x) vs ρ) none (absent (iterated_outputs x)) (absent (returned_outputs w x)))
    (sym (ap absent (length-arm-names side w x) ∙ ap {B = List (Option Value)} (λ r. none ∷ r) (sym (absent-append (iterated_outputs x) (returned_outputs w x)))))
    (given side w x ρ none (absent (iterated_outputs x)) (absent (returned_outputs w x)) n (length-absent (iterated_outputs x))
    (length-absent (returned_outputs w x)))

module _ (w : ℕ) (t : Exp) (x y : Body) (adm : AdmittedB (if_b t x y)) (r : Returning w (if_b t x y)) where
  nx : Narrow w x
  nx = narrow w x adm.2 r.at_most

  ny : Narrow w y
  ny = narrow w y adm.3 r.at_most

  pub body-arms : Arms (arm_names true w x) (free_b x) (graph_b w x) (arm_names false w y) (free_b y) (graph_b w y)
  body-arms =
      let s = arms-returning w t x y adm r in
      arms-of-B w t x y adm r (fit-B w x adm.2 s.0) (fit-B w y adm.3 s.1)

  abbrev pub body-behind : Graph
  body-behind = behind (arm_names true w x) (free_b x) (graph_b w x) (arm_names false w y) (free_b y) (graph_b w y) (joined w x y) body-arms

  test-still : (ρ : Values) (xs ys : List (Option Value)) → bound (arm_names false w y) ys (bound (arm_names true w x) xs ρ) test_name ≡ ρ test_name
  test-still ρ xs ys =
      bound-other (bound (arm_names true w x) xs ρ) (arm_names false w y) ys test_name (arm-from-test false w y test_name (omega arith))
      ∙ bound-other ρ (arm_names true w x) xs test_name (arm-from-test true w x test_name (omega arith))

  -- the environment of the second arm where the first got nothing
  abbrev pub passed : Values → Values
  passed ρ = bound (arm_names true w x) (absent (length (arm_names true w x))) ρ

  pub passed-holds : (env : Env) (ρ : Values) → Holds (free_b y) env ρ → Holds (free_b y) env (passed ρ)
  passed-holds env ρ hy = holds-beside (free_b y) env ρ (arm_names true w x) _ (λ k i. arm-from-test true w x k (omega arith)) hy

  module _ (cut : Option ℕ) (env : Env) (ρ : Values) (hx : Holds (free_b x) env ρ) (hy : Holds (free_b y) env ρ) (l : ℕ) where
    every-x : AllAt (free_b x) ρ
    every-x = all_held (free_b x) env ρ (small-B x adm.2) hx

    every-y : AllAt (free_b y) ρ
    every-y = all_held (free_b y) env ρ (small-B y adm.3) hy

    first-quiet : (ys : List (Option Value)) → Given true w x (bound (arm_names false w y) ys (passed ρ)) none (absent (iterated_outputs x)) (absent (returned_outputs w x))
    first-quiet ys =
        given-still w x y (passed ρ) none (absent (iterated_outputs x)) (absent (returned_outputs w x)) ys nx (given_nothing true w x ρ nx)

    first_gives : (a : Option Value) (is rs ys : List (Option Value)) → length is ≡ iterated_outputs x → length rs ≡ returned_outputs w x
        → Given true w x (bound (arm_names false w y) ys (bound (arm_names true w x) (a ∷ (is ++ rs)) ρ)) a is rs
    first_gives a is rs ys p q = given-still w x y (bound (arm_names true w x) (a ∷ (is ++ rs)) ρ) a is rs ys nx (given true w x ρ a is rs nx p q)

    abbrev K : ℕ
    K = iterated_outputs (if_b t x y)

    pub if-true : ρ test_name ≡ some true-value → (o : Ending) → SizedB (iterated x) w o → EndsAs x o
        → MeetsB (iterated_outputs x) (returned_outputs w x) (YieldsIn cut (graph_b w x) ρ) l o → MeetsB K w (YieldsIn cut body-behind ρ) l o
    if-true e (again vs m) s d p =
        chosen-true (arm_names true w x) (free_b x) (graph_b w x) (arm_names false w y) (free_b y) (graph_b w y) (joined w x y) body-arms cut ρ true-value e every-x every-y
        refl (l - m) (some true-value ∷ (present vs ++ absent (returned_outputs w x))) (some true-value ∷ (present vs ++ absent w)) p
        (first-iterates cut w t x y adm nx ny _ (returned_outputs w x) (iterated_outputs y) (returned_outputs w y) vs (test-still ρ _ _ ∙ e) d s.0
        (first_gives (some true-value) (present vs) (absent (returned_outputs w x)) _ (length-present vs ∙ s.0 ∙ sym (iterated-outputs x))
        (length-absent (returned_outputs w x)))
        (given_nothing false w y _ ny))
    if-true e (returns vs m) s d p =
        chosen-true (arm_names true w x) (free_b x) (graph_b w x) (arm_names false w y) (free_b y) (graph_b w y) (joined w x y) body-arms cut ρ true-value e every-x every-y
        refl (l - m) (some false-value ∷ (absent (iterated_outputs x) ++ present vs)) (some false-value ∷ (absent K ++ present vs)) p
        (first-returns cut w t x y adm nx ny _ (iterated_outputs x) (iterated_outputs y) (returned_outputs w y) vs (test-still ρ _ _ ∙ e) d s
        (first_gives (some false-value) (absent (iterated_outputs x)) (present vs) _ (length-absent (iterated_outputs x))
        (length-present vs ∙ s ∙ sym (returned-outputs w x d)))
        (given_nothing false w y _ ny))
    if-true e Ending.unfinished s d p =
        chosen-true-stops (arm_names true w x) (free_b x) (graph_b w x) (arm_names false w y) (free_b y) (graph_b w y) (joined w x y) body-arms cut ρ true-value e every-x
        every-y refl l p

    pub if-false : ρ test_name ≡ some false-value → (o : Ending) → SizedB (iterated y) w o → EndsAs y o
        → MeetsB (iterated_outputs y) (returned_outputs w y) (YieldsIn cut (graph_b w y) (passed ρ)) l o → MeetsB K w (YieldsIn cut body-behind ρ) l o
    if-false e (again vs m) s d p =
        chosen-false (arm_names true w x) (free_b x) (graph_b w x) (arm_names false w y) (free_b y) (graph_b w y) (joined w x y) body-arms cut ρ false-value e every-x every-y
        refl (l - m) (some true-value ∷ (present vs ++ absent (returned_outputs w y))) (some true-value ∷ (present vs ++ absent w)) p
        (second-iterates cut w t x y adm nx ny _ (returned_outputs w y) (iterated_outputs x) (returned_outputs w x) vs (test-still ρ _ _ ∙ e) d s.0
        (first-quiet _)
        (given false w y (passed ρ) (some true-value) (present vs) (absent (returned_outputs w y)) ny (length-present vs ∙ s.0 ∙ sym (iterated-outputs y))
        (length-absent (returned_outputs w y))))
    if-false e (returns vs m) s d p =
        chosen-false (arm_names true w x) (free_b x) (graph_b w x) (arm_names false w y) (free_b y) (graph_b w y) (joined w x y) body-arms cut ρ false-value e every-x every-y
        refl (l - m) (some false-value ∷ (absent (iterated_outputs y) ++ present vs)) (some false-value ∷ (absent K ++ present vs)) p
        (second-returns cut w t x y adm nx ny _ (iterated_outputs y) (iterated_outputs x) (returned_outputs w x) vs (test-still ρ _ _ ∙ e) d s (first-quiet _)
        (given false w y (passed ρ) (some false-value) (absent (iterated_outputs y)) (present vs) ny (length-absent (iterated_outputs y))
        (length-present vs ∙ s ∙ sym (returned-outputs w y d))))
    if-false e Ending.unfinished s d p =
        chosen-false-stops (arm_names true w x) (free_b x) (graph_b w x) (arm_names false w y) (free_b y) (graph_b w y) (joined w x y) body-arms cut ρ false-value e every-x
        every-y refl l p

    pub if-neither : (v : Value) → ρ test_name ≡ some v → sense v ≡ Neither → MeetsB K w (YieldsIn cut body-behind ρ) l (returns (replicate w err) l)
    if-neither v e s =
        let z : 0 ≡ l - l = omega arith in
        subst (λ n. YieldsIn cut body-behind ρ n (some (some false-value ∷ (absent K ++ present (replicate w err))))) z
        (chosen-neither (arm_names true w x) (free_b x) (graph_b w x) (arm_names false w y) (free_b y) (graph_b w y) (joined w x y) body-arms cut ρ v e every-x every-y s
        (some false-value ∷ (absent K ++ present (replicate w err)))
        (neither-arm cut w t x y adm nx ny _ (iterated_outputs x) (returned_outputs w x) (iterated_outputs y) (returned_outputs w y) v (test-still ρ _ _ ∙ e) s
        (first-quiet _) (given_nothing false w y _ ny)))

    pub body-if : (v : Value) → ρ test_name ≡ some v → SizedB (iterated x) w (eval_b x w env l) → SizedB (iterated y) w (eval_b y w env l)
        → ((σ : Values) → Holds (free_b x) env σ → MeetsB (iterated_outputs x) (returned_outputs w x) (YieldsIn cut (graph_b w x) σ) l (eval_b x w env l))
        → ((σ : Values) → Holds (free_b y) env σ → MeetsB (iterated_outputs y) (returned_outputs w y) (YieldsIn cut (graph_b w y) σ) l (eval_b y w env l))
        → MeetsB K w (YieldsIn cut body-behind ρ) l (branch (sense v) (returns (replicate w err) l) (λ _. eval_b x w env l) (λ _. eval_b y w env l))
    unfolding branch
    body-if v e sx sy p q = go (sense v) refl
      where
        go : (s : Sense) → sense v ≡ s
            → MeetsB K w (YieldsIn cut body-behind ρ) l (branch s (returns (replicate w err) l) (λ _. eval_b x w env l) (λ _. eval_b y w env l))
        go True i = if-true (e ∙ ap some (only-one-true v i)) (eval_b x w env l) sx (ends_as x w env l) (p ρ hx)
        go False i =
            if-false (e ∙ ap some (only-one-false v i)) (eval_b y w env l) sy (ends_as y w env l)
            (q (passed ρ) (passed-holds env ρ hy))
        go Neither i = if-neither v e i
