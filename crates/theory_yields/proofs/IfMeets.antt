-- An if behind its test meets its evaluation (document 01: "of an if only the chosen arm"; "An if whose test is no truth gives err for each of its
-- values; in a body it ends the loop with err for each returned value"), where each arm meets its own. Expressions first, then bodies.
use Rattle.std.specs.Prelude.{ℕ, ◌+◌, ◌-◌, ◌≤◌, ◌≡◌, true, false, List, length, replicate}
use Rattle.std.proofs.Math.Path.{refl, ap}
use Rattle.std.proofs.Common.{◌∙◌, subst, arith}
use Rattle.std.proofs.Math.Option.{Option, some}
use Rattle.value.specs.declared.Value.{Value}
use Rattle.value.specs.declared.Sense.{Sense}
use Rattle.value.specs.declared.Sense.TheVariants.{True, False, Neither}
use Rattle.value.specs.Senses.{err, sense, only-one-true, only-one-false}
use Rattle.network.specs.Values.{true-value, false-value}
use Rattle.formula.specs.Tree.{Exp, if_e}
use Rattle.formula.specs.Widths.{width}
use Rattle.formula.specs.Free.{free_e}
use Rattle.formula.specs.Admitted.{AdmittedE}
use Rattle.meaning.specs.Meaning.{Env, Outcome, yields, branch, eval_e}
use Rattle.meaning.specs.WidthLaws.{Sized}
use Rattle.graph.specs.Assembly.{Graph, up_from}
use Rattle.graph.specs.Yields.{Values, absent, present, bound, YieldsIn}
use Rattle.graph.specs.Translation.{test_name, returned_name, merge_row, graph_e}
use Rattle.theory_yields.proofs.Naming.{within-up_from, below-up_from}
use Rattle.theory_yields.proofs.BodyWidths.{not-too-wide}
use Rattle.theory_yields.specs.Choice.{From}
use Rattle.theory_yields.proofs.FreeNames.{small-E, results-from-test}
use Rattle.theory_yields.specs.FitParts.{Arms}
use Rattle.theory_yields.proofs.FitGraphs.{fit-E, arms-of-E}
use Rattle.theory_yields.proofs.Lookups.{length-present, present-at, bound-other, bound-absent, bound-up}
use Rattle.theory_yields.proofs.Branches.{behind, chosen-true, chosen-true-stops, chosen-false, chosen-false-stops, chosen-neither}
use Rattle.theory_yields.specs.Branches.{AllAt}
use Rattle.theory_yields.specs.JoinRows.{Hold, Empty}
use Rattle.theory_yields.proofs.JoinRows.{merge-second, merge-third, merge-err}
use Rattle.theory_yields.specs.Meets.{Holds, Meets}
use Rattle.theory_yields.proofs.Meets.{holds-beside, all_held}

-- Names from 34 on are names from 33 on.
from-33 : (ns : List ℕ) → From 34 ns → From 33 ns
from-33 ns h k l = h k (omega arith)

-- ---- expressions
-- What the names of the arms' results have: the first arm's from 51 on, the second's from 84 on.
module _ (n : ℕ) (small : n ≤ 16) (ρ : Values) where
  first_holds : (vs : List Value) (ys : List (Option Value)) → length vs ≡ n
      → Hold (bound (up_from (returned_name false) n) ys (bound (up_from (returned_name true) n) (present vs) ρ)) (returned_name true) vs
  first_holds vs ys e i l =
      bound-other (bound (up_from 51 n) (present vs) ρ) (up_from 84 n) ys (51 + i) (below-up_from 84 n (51 + i) (omega arith))
      ∙ bound-up ρ 51 n (present vs) i (length-present vs ∙ e) (omega arith)
      ∙ present-at vs i l

  second_holds : (vs : List Value) (σ : Values) → length vs ≡ n → Hold (bound (up_from (returned_name false) n) (present vs) σ) (returned_name false) vs
  second_holds vs σ e i l = bound-up σ 84 n (present vs) i (length-present vs ∙ e) (omega arith) ∙ present-at vs i l

  first-empty : (ys : List (Option Value))
      → Empty (bound (up_from (returned_name false) n) ys (bound (up_from (returned_name true) n) (absent (length (up_from (returned_name true) n))) ρ))
      (returned_name true) n
  first-empty ys i l =
      bound-other (bound (up_from 51 n) (absent (length (up_from 51 n))) ρ) (up_from 84 n) ys (51 + i) (below-up_from 84 n (51 + i) (omega arith))
      ∙ bound-absent ρ (up_from 51 n) (51 + i) (within-up_from 51 n (51 + i) (omega arith) (omega arith))

  second_empty : (σ : Values) → Empty (bound (up_from (returned_name false) n) (absent (length (up_from (returned_name false) n))) σ) (returned_name false) n
  second_empty σ i l = bound-absent σ (up_from 84 n) (84 + i) (within-up_from 84 n (84 + i) (omega arith) (omega arith))

  test-still : (xs ys : List (Option Value))
      → bound (up_from (returned_name false) n) ys (bound (up_from (returned_name true) n) xs ρ) test_name ≡ ρ test_name
  test-still xs ys =
      bound-other (bound (up_from 51 n) xs ρ) (up_from 84 n) ys 33 (below-up_from 84 n 33 (omega arith))
      ∙ bound-other ρ (up_from 51 n) xs 33 (below-up_from 51 n 33 (omega arith))

module _ (t x y : Exp) (adm : AdmittedE (if_e t x y)) where
  pub exp-arms : Arms (up_from (returned_name true) (width x)) (free_e x) (graph_e x) (up_from (returned_name false) (width x)) (free_e y) (graph_e y)
  exp-arms = arms-of-E t x y adm (fit-E x adm.2) (fit-E y adm.3)

  abbrev pub exp-behind : Graph
  exp-behind =
      behind (up_from (returned_name true) (width x)) (free_e x) (graph_e x) (up_from (returned_name false) (width x)) (free_e y) (graph_e y)
      (merge_row test_name returned_name (width x)) exp-arms

  -- the environment of the second arm where the first got nothing
  abbrev pub passed : Values → Values
  passed ρ = bound (up_from (returned_name true) (width x)) (absent (length (up_from (returned_name true) (width x)))) ρ

  pub passed-holds : (env : Env) (ρ : Values) → Holds (free_e y) env ρ → Holds (free_e y) env (passed ρ)
  passed-holds env ρ hy = holds-beside (free_e y) env ρ (up_from 51 (width x)) _ (from-33 _ (results-from-test true (width x))) hy

  module _ (cut : Option ℕ) (env : Env) (ρ : Values) (hx : Holds (free_e x) env ρ) (hy : Holds (free_e y) env ρ) (l : ℕ) where
    small : width x ≤ 16
    small = not-too-wide x adm.2

    every-x : AllAt (free_e x) ρ
    every-x = all_held (free_e x) env ρ (small-E x adm.2) hx

    every-y : AllAt (free_e y) ρ
    every-y = all_held (free_e y) env ρ (small-E y adm.3) hy

    pub if-true : ρ test_name ≡ some true-value → (o : Outcome) → Sized (width x) o → Meets (YieldsIn cut (graph_e x) ρ) l o → Meets (YieldsIn cut exp-behind ρ) l o
    if-true e (yields vs m) s p =
        chosen-true (up_from 51 (width x)) (free_e x) (graph_e x) (up_from 84 (width x)) (free_e y) (graph_e y) (merge_row test_name returned_name (width x)) exp-arms
        cut ρ true-value e every-x every-y refl (l - m) (present vs) (present vs) p
        (merge-second cut _ test_name returned_name (width x) true-value vs (test-still (width x) small ρ _ _ ∙ e) refl s (first_holds (width x) small ρ vs _ s)
        (second_empty (width x) small ρ _))
    if-true e Outcome.unfinished s p =
        chosen-true-stops (up_from 51 (width x)) (free_e x) (graph_e x) (up_from 84 (width x)) (free_e y) (graph_e y) (merge_row test_name returned_name (width x)) exp-arms
        cut ρ true-value e every-x every-y refl l p

    pub if-false : ρ test_name ≡ some false-value → (o : Outcome) → Sized (width x) o
        → Meets (YieldsIn cut (graph_e y) (passed ρ)) l o
        → Meets (YieldsIn cut exp-behind ρ) l o
    if-false e (yields vs m) s p =
        chosen-false (up_from 51 (width x)) (free_e x) (graph_e x) (up_from 84 (width x)) (free_e y) (graph_e y) (merge_row test_name returned_name (width x)) exp-arms
        cut ρ false-value e every-x every-y refl (l - m) (present vs) (present vs) p
        (merge-third cut _ test_name returned_name (width x) false-value vs (test-still (width x) small ρ _ _ ∙ e) refl s (first-empty (width x) small ρ _)
        (second_holds (width x) small ρ vs _ s))
    if-false e Outcome.unfinished s p =
        chosen-false-stops (up_from 51 (width x)) (free_e x) (graph_e x) (up_from 84 (width x)) (free_e y) (graph_e y) (merge_row test_name returned_name (width x)) exp-arms
        cut ρ false-value e every-x every-y refl l p

    pub if-neither : (v : Value) → ρ test_name ≡ some v → sense v ≡ Neither → Meets (YieldsIn cut exp-behind ρ) l (yields (replicate (width x) err) l)
    if-neither v e s =
        let z : 0 ≡ l - l = omega arith in
        subst (λ n. YieldsIn cut exp-behind ρ n (some (present (replicate (width x) err)))) z
        (chosen-neither (up_from 51 (width x)) (free_e x) (graph_e x) (up_from 84 (width x)) (free_e y) (graph_e y) (merge_row test_name returned_name (width x)) exp-arms
        cut ρ v e every-x every-y s (present (replicate (width x) err))
        (merge-err cut _ test_name returned_name (width x) v (test-still (width x) small ρ _ _ ∙ e) s (first-empty (width x) small ρ _)
        (second_empty (width x) small ρ _)))

    pub exp-if : (v : Value) → ρ test_name ≡ some v → Sized (width x) (eval_e x env l) → Sized (width x) (eval_e y env l)
        → ((σ : Values) → Holds (free_e x) env σ → Meets (YieldsIn cut (graph_e x) σ) l (eval_e x env l))
        → ((σ : Values) → Holds (free_e y) env σ → Meets (YieldsIn cut (graph_e y) σ) l (eval_e y env l))
        → Meets (YieldsIn cut exp-behind ρ) l (branch (sense v) (yields (replicate (width x) err) l) (λ _. eval_e x env l) (λ _. eval_e y env l))
    unfolding branch
    exp-if v e sx sy p q = go (sense v) refl
      where
        go : (s : Sense) → sense v ≡ s
            → Meets (YieldsIn cut exp-behind ρ) l (branch s (yields (replicate (width x) err) l) (λ _. eval_e x env l) (λ _. eval_e y env l))
        go True i = if-true (e ∙ ap some (only-one-true v i)) (eval_e x env l) sx (p ρ hx)
        go False i =
            if-false (e ∙ ap some (only-one-false v i)) (eval_e y env l) sy
            (q (passed ρ) (passed-holds env ρ hy))
        go Neither i = if-neither v e i
