-- From the reader's tables to the evaluator's needs: the last row of an accepted sheet's tables is the formula, with its width
-- and its free names, and its kinds line has a letter for each input; and an evaluation by the reader's verdict (meaning's
-- specs/Evaluate). Assumes what the reader promises (sheet_read's specs/Reading).
use Rattle.std.specs.Prelude.{ℕ, zero, suc, ◌*◌, ◌-◌, ◌≤◌, ◌≡◌, true, List, [], ◌∷◌, get_or, take, Ok}
use Rattle.std.proofs.Common.{sym, ◌∙◌, subst, arith, length-take-le}
use Rattle.std.proofs.Math.Path.{ap}
use Rattle.std.proofs.Math.ListN.{length}
use Rattle.names.specs.Names.{mask}
use Rattle.formula.specs.declared.Refusal.{Refusal}
use Rattle.formula.specs.Results.{Verdict, refused as refusing}
use Rattle.formula.specs.Sheet.{row_count, fields_of}
use Rattle.formula.proofs.SheetLaws.{fields-length}
use Rattle.formula.specs.Tree.{Exp, exp_of, formula_of}
use Rattle.formula.specs.Free.{free_e, inputs_of}
use Rattle.formula.specs.Faults.{line_well, letters_of}
use Rattle.formula.specs.Tests.{line_fits, verdict_of}
use Rattle.meaning.specs.Rows.{ExpRow}
use Rattle.meaning.specs.Evaluate.{refused, evaluated, after_verdict, evaluation_of}
use Rattle.eval_words.specs.Inputs.{inputs_in, inputs_in_lem}
use Rattle.sheet_kinds.specs.Line.{well-length}
use Rattle.sheet_read.specs.Reading.{Tables, Accepts, Told, told-kinded}
use Rattle.sheet_read.proofs.FigureLaws.{mask_is}

taken-long : (n : ℕ) (l : List ℕ) → length (take n l) ≡ n → n ≤ length l
taken-long zero l h = omega arith
taken-long (suc n) [] h = absurd (omega (arith, h))
taken-long (suc n) (k ∷ l) h = omega (arith, taken-long n l (omega (arith, h)))

module _ (s line : List ℕ) (x : Tables) (told : Told s line x) (well : x.verdict ≡ Ok tt) where
  ok : Accepts s x
  ok = told.accepts well

  -- The rows are some and few, and the tables have room for them.
  pub rows-some : 1 ≤ x.rows
  rows-some = rw ok.rows ok.some

  pub rows_few : x.rows ≤ 200
  rows_few = rw ok.rows ok.few

  pub fields-long : 5 * x.rows ≤ length x.fields
  fields-long = rw ok.rows (taken-long (5 * row_count s) x.fields (ap length ok.fields ∙ fields-length s))

  pub widths-long : x.rows ≤ length x.returned
  widths-long = rw ok.rows (taken-long (row_count s) x.returned ok.tables.returned-size)

  -- The last row, as the code hands it on.
  abbrev formula : Exp
  formula = exp_of (take (5 * x.rows) x.fields) x.rows

  abbrev free : ℕ
  free = get_or x.masks (x.rows - 1) 0

  pub row_of : ExpRow (take (5 * x.rows) x.fields) (take x.rows x.returned) x.rows
  row_of =
      subst (λ (n : ℕ). ExpRow (take (5 * n) x.fields) (take n x.returned) n) (sym ok.rows)
      (subst (λ (t : List ℕ). ExpRow t (take (row_count s) x.returned) (row_count s)) (sym ok.fields) ok.tables.last)

  formula-is : formula ≡ exp_of (fields_of s) (row_count s)
  formula-is = ap (λ (n : ℕ). exp_of (take (5 * n) x.fields) n) ok.rows ∙ ap (λ (t : List ℕ). exp_of t (row_count s)) ok.fields

  pub mask-of : free ≡ mask (free_e formula)
  mask-of = mask_is s x ok ∙ ap (λ (z : Exp). mask (free_e z)) (sym formula-is)

  -- Its inputs, counted by the code, are as many as the line's letters.
  module _ (n : ℕ) (e : n ≡ inputs_in free) where
    inputs_are : n ≡ length (inputs_of formula)
    inputs_are = e ∙ inputs_in_lem formula free mask-of

    line-well : line_well n line ≡ true
    unfolding line_fits
    line-well =
        ap (λ (k : ℕ). line_well k line) (inputs_are ∙ ap (λ (z : Exp). length (inputs_of z)) formula-is)
        ∙ (told-kinded s line x told well).told

    pub line-long : n ≤ length line
    line-long = omega (arith, well-length n line line-well)

    pub letters-count : length (take n line) ≡ length (inputs_of formula)
    letters-count = length-take-le n line line-long ∙ inputs_are

    -- An accepted sheet's evaluation.
    pub accepted-is : (set : List ℕ) (rounds : ℕ) → evaluated formula (take n line) set rounds ≡ evaluation_of s line set rounds
    unfolding evaluation_of formula_of letters_of
    accepted-is set rounds =
        ap (λ (k : ℕ). evaluated formula (take k line) set rounds) inputs_are
        ∙ ap (λ (z : Exp). evaluated z (letters_of z line) set rounds) formula-is
        ∙ ap (λ (w : Verdict). after_verdict w (evaluated (formula_of s) (letters_of (formula_of s) line) set rounds)) (sym well ∙ told.verdict)

-- A refused sheet's evaluation.
pub refused-is : (s line set : List ℕ) (rounds : ℕ) (r : Refusal) (row : ℕ) → verdict_of s line ≡ refusing r row → refused r row ≡ evaluation_of s line set rounds
unfolding evaluation_of
refused-is s line set rounds r row v = ap (λ (w : Verdict). after_verdict w (evaluated (formula_of s) (letters_of (formula_of s) line) set rounds)) (sym v)
