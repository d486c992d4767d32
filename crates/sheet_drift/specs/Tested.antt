-- 20 and 21 of an accepted sheet's rows, as the call makes them behind the reader's tests; and what the reader's tables give them. Assumes what the reader
-- promises (sheet_read's specs/Reading).
use Rattle.std.specs.Prelude.{ℕ, ◌*◌, ◌-◌, ◌≤◌, ◌≡◌, Bool, ◌&&◌, length, take, get_or, Ok, Err}
use Rattle.std.proofs.Math.Path.{refl, sym, ap}
use Rattle.std.proofs.Common.{◌∙◌, subst, arith}
use Rattle.std.proofs.Math.Bool.{true, false}
use mathlib.Core.List.{List, []}
use Rattle.std.proofs.lemmas.List.Edits.{sets}
use Rattle.names.specs.Names.{mask}
use Rattle.formula.specs.Results.{Check, Verdict, refused}
use Rattle.formula.specs.declared.Refusal.{Refusal}
use Rattle.formula.specs.declared.Refusal.TheVariants.{Sort, Movement}
use Rattle.formula.specs.Refusals.{number_of}
use Rattle.formula.specs.Sheet.{row_count, fields_of}
use Rattle.formula.specs.Tree.{Exp, exp_of, formula_of}
use Rattle.formula.specs.TreeLaws.{Named}
use Rattle.formula.specs.Free.{free_e, inputs_of}
use Rattle.formula.specs.Faults.{line_well}
use Rattle.formula.specs.Tests.{whole, line_fits, after_check, verdict_by, verdict_of, tests, sheet_of}
use Rattle.formula.specs.Verdicts.{then}
use Rattle.formula.proofs.Verdicts.{then-behind}
use Rattle.formula.proofs.RowsMet.{lowest-broken}
use Rattle.meaning.specs.Rows.{ExpRow}
use Rattle.eval_words.specs.Needs.{W}
use Rattle.sheet_read.specs.Reading.{Tables, Accepts, Told, rows_in, told-kinded}
use Rattle.sheet_read.proofs.FigureLaws.{mask_is as last-mask}
use Rattle.sheet_movement.specs.Sorts.{drifting, sorts_kept}
use Rattle.sheet_movement.specs.Moves.{moves_e, fits_e, tolerances_well, input_moves, movements_fit, drift_tests, drift_verdict, result_moves, number_bytes}
use Rattle.sheet_drift.specs.Drifting.{Handed, handed, answers}
use Rattle.sheet_drift.specs.Drifts.{moves-counted, kept-drifts}

-- What an accepted sheet's tables give of its n rows: the last is the formula, `free` the mask of its free names, and the line has a letter for each input.
pub record Tabled (t ws : List ℕ) (n free : ℕ) (line : List ℕ) : Type 0 where
  pub row : ExpRow t ws n
  pub mask_is : free ≡ mask (free_e (exp_of t n))
  pub line-is : line_well (length (inputs_of (exp_of t n))) line ≡ true

-- What 20 and 21 say of n rows with the fields t.
unfoldable pub rows_verdict : List ℕ → ℕ → List ℕ → List ℕ → Verdict
unfolding verdict_by drift_tests
rows_verdict t n line tolerances = verdict_by (drift_tests line tolerances) (rows_in t [] n)

-- The numbers of the last of n rows.
unfoldable pub last_moves : List ℕ → ℕ → List ℕ → List ℕ
unfolding moves_e input_moves free_e exp_of
last_moves t n tolerances = moves_e (exp_of t n) (input_moves (free_e (exp_of t n)) tolerances)

-- The answer and the lent bytes by what they say.
unfoldable pub by_rows : Verdict → List ℕ → List ℕ → Handed
unfolding number_bytes
by_rows (Ok _) ds out = handed (answers 0 0 (length ds)) (sets out 0 (number_bytes ds))
by_rows (Err why) ds out = handed (answers (number_of why.refusal) why.row 0) out

-- ---- each ending of the tests

module _ (t : List ℕ) (n : ℕ) (line tolerances : List ℕ) where
  pub fault-sort : (r : ℕ) → sorts_kept t n line ≡ Err r → refused Sort r ≡ rows_verdict t n line tolerances
  unfolding rows_verdict verdict_by after_check drift_tests
  fault-sort r e = rw e refl

  module _ (kept : sorts_kept t n line ≡ Ok tt) (k : ℕ) (count : k ≡ length (inputs_of (exp_of t n))) where
    decided : (b : Bool) → movements_fit t n tolerances ≡ b → rows_verdict t n line tolerances ≡ after_check Movement (whole b) (Ok tt)
    unfolding rows_verdict verdict_by after_check drift_tests
    decided b e = rw (kept, e) refl

    pub fault-tolerances : tolerances_well k tolerances ≡ false → refused Movement 0 ≡ rows_verdict t n line tolerances
    unfolding movements_fit after_check
    fault-tolerances e =
        sym (decided false
        (ap (λ (b : Bool). b && fits_e (exp_of t n) (input_moves (free_e (exp_of t n)) tolerances)) (ap (λ (j : ℕ). tolerances_well j tolerances) (sym count) ∙ e)))

    module _ (well : tolerances_well k tolerances ≡ true) where
      by-moves : movements_fit t n tolerances ≡ fits_e (exp_of t n) (input_moves (free_e (exp_of t n)) tolerances)
      unfolding movements_fit
      by-moves =
          ap (λ (b : Bool). b && fits_e (exp_of t n) (input_moves (free_e (exp_of t n)) tolerances)) (ap (λ (j : ℕ). tolerances_well j tolerances) (sym count) ∙ well)

      pub fault-moves : fits_e (exp_of t n) (input_moves (free_e (exp_of t n)) tolerances) ≡ false → refused Movement 0 ≡ rows_verdict t n line tolerances
      unfolding after_check
      fault-moves e = sym (decided false (by-moves ∙ e))

      pub tests-pass : fits_e (exp_of t n) (input_moves (free_e (exp_of t n)) tolerances) ≡ true → Ok tt ≡ rows_verdict t n line tolerances
      unfolding after_check
      tests-pass e = sym (decided true (by-moves ∙ e))

-- A row at fault is one of the sheet's.
sort-low : (t ws : List ℕ) (n : ℕ) → ExpRow t ws n → (line : List ℕ) (r : ℕ) → sorts_kept t n line ≡ Err r → r ≤ n
unfolding sorts_kept
sort-low t ws n h line r e = (lowest-broken drifting t n (up_to t h.rows n h.high h.accepted.named) _ r e).last
  where
    up_to : (t : List ℕ) (m n : ℕ) → n ≤ m → Named t m → Named t n
    up_to t m n l k = record { names = λ r i j. k.names r i (omega arith) }

row_in : Verdict → ℕ
row_in (Ok _) = 0
row_in (Err why) = why.row

pub low-fault : (t ws : List ℕ) (n : ℕ) → ExpRow t ws n → (line tolerances : List ℕ) (r : Refusal) (row : ℕ)
    → rows_verdict t n line tolerances ≡ refused r row → row ≤ n
unfolding rows_verdict verdict_by after_check drift_tests row_in
low-fault t ws n h line tolerances r row e = go (sorts_kept t n line) refl (movements_fit t n tolerances) e
  where
    go : (c : Check) → sorts_kept t n line ≡ c → (b : Bool) → after_check Sort c (after_check Movement (whole b) (Ok tt)) ≡ refused r row → row ≤ n
    go (Ok _) p true f = let z : 0 ≡ row = ap row_in f in omega arith
    go (Ok _) p false f = let z : 0 ≡ row = ap row_in f in omega arith
    go (Err k) p b f = let z : k ≡ row = ap row_in f in omega (arith, sort-low t ws n h line k p)

-- A sheet that passes has as many numbers as its last row has values.
pub numbers-counted : (t ws : List ℕ) (n : ℕ) → ExpRow t ws n → (line tolerances : List ℕ) → rows_verdict t n line tolerances ≡ Ok tt
    → W ws n ≡ length (last_moves t n tolerances)
unfolding rows_verdict verdict_by after_check drift_tests last_moves
numbers-counted t ws n h line tolerances e = moves-counted t ws n h (kept-drifts t ws n line h (go (sorts_kept t n line) e)) (input_moves (free_e (exp_of t n)) tolerances)
  where
    go : (c : Check) → after_check Sort c (after_check Movement (whole (movements_fit t n tolerances)) (Ok tt)) ≡ Ok tt → c ≡ Ok tt
    go (Ok _) f = refl
    go (Err k) f = absurd (let z : ◌≡◌ {A = ℕ} 0 1 = cc f in omega arith)

-- ---- the reader's tables

module _ (s line : List ℕ) (x : Tables) (told : Told s line x) (well : x.verdict ≡ Ok tt) where
  ok : Accepts s x
  ok = told.accepts well

  pub rows-some : 1 ≤ x.rows
  rows-some = rw ok.rows ok.some

  pub rows_few : x.rows ≤ 200
  rows_few = rw ok.rows ok.few

  -- The table of fields, as far as it is the sheet's.
  abbrev fields : List ℕ
  fields = take (5 * x.rows) x.fields

  abbrev free : ℕ
  free = get_or x.masks (x.rows - 1) 0

  row_of : ExpRow fields (take x.rows x.returned) x.rows
  row_of =
      subst (λ (n : ℕ). ExpRow (take (5 * n) x.fields) (take n x.returned) n) (sym ok.rows)
      (subst (λ (t : List ℕ). ExpRow t (take (row_count s) x.returned) (row_count s)) (sym ok.fields) ok.tables.last)

  formula-is : exp_of fields x.rows ≡ exp_of (fields_of s) (row_count s)
  formula-is = ap (λ (n : ℕ). exp_of (take (5 * n) x.fields) n) ok.rows ∙ ap (λ (t : List ℕ). exp_of t (row_count s)) ok.fields

  mask-of : free ≡ mask (free_e (exp_of fields x.rows))
  mask-of = last-mask s x ok ∙ ap (λ (z : Exp). mask (free_e z)) (sym formula-is)

  line_of : line_well (length (inputs_of (exp_of fields x.rows))) line ≡ true
  unfolding line_fits
  line_of = ap (λ (z : Exp). line_well (length (inputs_of z)) line) formula-is ∙ (told-kinded s line x told well).told

  pub tabled : Tabled fields (take x.rows x.returned) x.rows free line
  tabled = record { row = row_of; mask_is = mask-of; line-is = line_of }

  module _ (tolerances : List ℕ) where
    -- Behind the reader's tests, which have passed, these decide.
    pub verdict-is : rows_verdict fields x.rows line tolerances ≡ drift_verdict s line tolerances
    unfolding rows_verdict drift_verdict verdict_of sheet_of verdict_by drift_tests
    verdict-is =
        ap (λ (n : ℕ). rows_verdict (take (5 * n) x.fields) n line tolerances) ok.rows
        ∙ ap (λ (t : List ℕ). rows_verdict t (row_count s) line tolerances) ok.fields
        ∙ sym (then-behind (sheet_of s) (tests line) (drift_tests line tolerances)
        ∙ ap (λ (v : Verdict). then v (verdict_by (drift_tests line tolerances) (sheet_of s))) (sym told.verdict ∙ well))

    pub moves-are : last_moves fields x.rows tolerances ≡ result_moves s tolerances
    unfolding last_moves result_moves formula_of
    moves-are = ap (λ (z : Exp). moves_e z (input_moves (free_e z) tolerances)) formula-is

-- A sheet that the reader refuses.
pub verdict-first : (s line tolerances : List ℕ) (r : Refusal) (row : ℕ) → verdict_of s line ≡ refused r row → drift_verdict s line tolerances ≡ refused r row
unfolding drift_verdict verdict_of
verdict-first s line tolerances r row e =
    then-behind (sheet_of s) (tests line) (drift_tests line tolerances)
    ∙ ap (λ (v : Verdict). then v (verdict_by (drift_tests line tolerances) (sheet_of s))) e
