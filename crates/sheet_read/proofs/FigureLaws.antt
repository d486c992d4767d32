-- The figures of an accepted sheet from its last row's table entries, and that an answer's numbers fit the firmware's.
use Prim.Native.Nat.{ℕ, ◌-◌, ◌≤◌}
use mathlib.Core.Path.{◌≡◌, sym, ap, subst, ◌∙◌}
use mathlib.Core.List.{List}
use native.Mathlib.Omega.{arith}
use lib.ListN.{get_or, take}
use lib.Seq.{get_or-take}
use Rattle.names.specs.Names.{mask}
use Rattle.formula.specs.declared.Refusal.{Refusal}
use Rattle.formula.specs.declared.Figures.{Figures}
use Rattle.formula.specs.Results.{refused}
use Rattle.std.specs.Prelude.{Ok}
use Rattle.formula.specs.Sheet.{row_count, fields_of}
use Rattle.formula.specs.Tree.{exp_of, formula_of}
use Rattle.formula.specs.Widths.{width}
use Rattle.formula.specs.Free.{free_e}
use Rattle.formula.specs.Tests.{operators_of, reading_of, figures_of}
use Rattle.formula.specs.Acceptance.{Modest}
use Rattle.formula.proofs.Acceptance.{modest, low-row, passed-admissible, accepted-passed, accepted-figures, rejected-refused}
use Rattle.eval_words.specs.Inputs.{inputs_in, inputs_in_lem}
use Rattle.sheet_read.specs.Reading.{Tables, Accepts}
use Rattle.sheet_read.proofs.ReadLaws.{some-rows, last-width, last-mask}

same-figures : (f g : Figures) → f.rows ≡ g.rows → f.operators ≡ g.operators → f.inputs ≡ g.inputs → f.results ≡ g.results → f ≡ g
same-figures f g a b c d = λ i. record { rows = a i; operators = b i; inputs = c i; results = d i }

module _ (s : List ℕ) (x : Tables) (ok : Accepts s x) where
  entry : (l : List ℕ) → get_or l (x.rows - 1) 0 ≡ get_or (take (row_count s) l) (row_count s - 1) 0
  entry l =
      ap (λ (k : ℕ). get_or l (k - 1) 0) ok.rows
      ∙ sym (get_or-take (row_count s) l (row_count s - 1) 0 (let a = ok.some in omega arith))

  results-are : get_or x.returned (x.rows - 1) 0 ≡ width (exp_of (fields_of s) (row_count s))
  results-are = entry x.returned ∙ last-width (fields_of s) (row_count s) _ ok.tables.ready ok.some _ ok.tables.returned

  pub mask_is : get_or x.masks (x.rows - 1) 0 ≡ mask (free_e (exp_of (fields_of s) (row_count s)))
  mask_is = entry x.masks ∙ last-mask (fields_of s) (row_count s) _ ok.tables.ready ok.some _ ok.tables.masks

  -- The figures that the code makes.
  pub figures-are : (f : Figures) → f.rows ≡ x.rows → f.operators ≡ x.operators
      → f.inputs ≡ inputs_in (get_or x.masks (x.rows - 1) 0) → f.results ≡ get_or x.returned (x.rows - 1) 0 → f ≡ figures_of s
  unfolding figures_of operators_of formula_of
  figures-are f a b c d =
      same-figures f (figures_of s) (a ∙ ok.rows) (b ∙ ok.tables.operators) (c ∙ inputs_in_lem (exp_of (fields_of s) (row_count s)) _ mask_is) (d ∙ results-are)

pub answer-modest : (s line : List ℕ) (f : Figures) → reading_of s line ≡ Ok f → Modest f
answer-modest s line f h =
    let ok = passed-admissible s line (accepted-passed s line f h) in
    subst (λ (g : Figures). Modest g) (sym (accepted-figures s line f h)) (modest s (some-rows s ok.laid) ok)

pub answer-low : (s line : List ℕ) (r : Refusal) (row : ℕ) → reading_of s line ≡ refused r row → row ≤ 200
answer-low s line r row h = low-row s line r row (rejected-refused s line r row h)
