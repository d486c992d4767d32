-- The graph of an admitted formula yields what direct evaluation yields (document 01, demand 3: "the result taken equals its result set"), said
-- case by case for each outcome of an evaluation: its values in just the rounds that it used, or no end in all the rounds lent.
use Rattle.std.specs.Prelude.{ℕ, ◌-◌, ◌≤◌, ◌≡◌, ◌⊎◌, List, ◌∷◌, ◌++◌}
use Rattle.std.proofs.Common.{subst, inl, inr, arith}
use Rattle.std.proofs.Math.Option.{none, some}
use Rattle.value.specs.declared.Value.{Value}
use Rattle.network.specs.Values.{true-value, false-value}
use Rattle.formula.specs.Tree.{Exp, Body}
use Rattle.formula.specs.Widths.{returned}
use Rattle.formula.specs.Free.{free_e, free_b}
use Rattle.formula.specs.Admitted.{AdmittedE, AdmittedB}
use Rattle.meaning.specs.Meaning.{Env, Outcome, yields, Ending, again, returns, eval_e, eval_b}
use Rattle.graph.specs.Yields.{Values, absent, present, Yields}
use Rattle.graph.specs.Translation.{graph_e, graph_b}
use Rattle.theory_yields.specs.BodyWidths.{iterated_outputs, returned_outputs}
use Rattle.theory_yields.specs.FitGraphs.{Returning}
use Rattle.theory_yields.specs.Meets.{Holds, Meets, MeetsB}
use Rattle.theory_yields.proofs.TreeMeets.{meets-E, meets-B}

module _ (x : Exp) (adm : AdmittedE x) (env : Env) (ρ : Values) (h : Holds (free_e x) env ρ) (lent : ℕ) where
  pub values_agree : (vs : List Value) (left : ℕ) → eval_e x env lent ≡ yields vs left → Yields (graph_e x) ρ (lent - left) (some (present vs))
  values_agree vs left e = subst (Meets (Yields (graph_e x) ρ) lent) e (meets-E x adm env ρ h lent)

  pub unfinished-agrees : eval_e x env lent ≡ Outcome.unfinished → Yields (graph_e x) ρ lent none
  unfinished-agrees e = subst (Meets (Yields (graph_e x) ρ) lent) e (meets-E x adm env ρ h lent)

-- A body has the returned width of the whole loop, or none.
pub returning : (w : ℕ) (y : Body) → 1 ≤ w → w ≤ 16 → (returned y ≡ 0) ⊎ (returned y ≡ w) → Returning w y
returning w y p q (inl e) = record { some-width = p; at_most = q; suits = λ i. absurd (omega (arith, i, e)) }
returning w y p q (inr e) = record { some-width = p; at_most = q; suits = λ i. e }

module _ (w : ℕ) (y : Body) (adm : AdmittedB y) (r : Returning w y) (env : Env) (ρ : Values) (h : Holds (free_b y) env ρ) (lent : ℕ) where
  pub iteration-agrees : (vs : List Value) (left : ℕ) → eval_b y w env lent ≡ again vs left
      → Yields (graph_b w y) ρ (lent - left) (some (some true-value ∷ (present vs ++ absent (returned_outputs w y))))
  iteration-agrees vs left e =
      subst (MeetsB (iterated_outputs y) (returned_outputs w y) (Yields (graph_b w y) ρ) lent) e (meets-B w y adm r env ρ h lent)

  pub return-agrees : (vs : List Value) (left : ℕ) → eval_b y w env lent ≡ returns vs left
      → Yields (graph_b w y) ρ (lent - left) (some (some false-value ∷ (absent (iterated_outputs y) ++ present vs)))
  return-agrees vs left e =
      subst (MeetsB (iterated_outputs y) (returned_outputs w y) (Yields (graph_b w y) ρ) lent) e (meets-B w y adm r env ρ h lent)

  pub unfinished-body-agrees : eval_b y w env lent ≡ Ending.unfinished → Yields (graph_b w y) ρ lent none
  unfinished-body-agrees e =
      subst (MeetsB (iterated_outputs y) (returned_outputs w y) (Yields (graph_b w y) ρ) lent) e (meets-B w y adm r env ρ h lent)
