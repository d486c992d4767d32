-- Document 01, "Said by what was handed in", 1 to 10, and document 02, Job 6, 17 and 18: the tests of a sheet as one ordered list. "Each
-- number is tested over the whole sheet before the next"; "3 to 9 give the lowest row at fault, others row 0"; of 18 too "lowest row given".
use Rattle.std.specs.Prelude.{ℕ, zero, suc, ◌+◌, ◌-◌, ◌%◌, Bool, true, false, not, cond, ◌&&◌, ◌||◌, List, [], ◌∷◌, ◌++◌, length, get_or, eqb, leb, ltb, Ok, Err, Some, None, is_ok, is_some}
use Rattle.formula.specs.Results.{Check, Field, Reading, Verdict, refused}
use Rattle.formula.specs.declared.Shape.{Shape}
use Rattle.formula.specs.declared.Shape.TheVariants.{Identifier, Constant, Pair, Operator, Let, If, For, Iter}
use Rattle.formula.specs.declared.Refusal.{Refusal}
use Rattle.formula.specs.declared.Refusal.TheVariants.{Layout, Rows, Malformed, Range, Naming, Named, StrayIter, Width, Unused, KindsLine, KindsBroken, Operators}
use Rattle.formula.specs.declared.Figures.{Figures}
use Rattle.formula.specs.Sheet.{row_count, lines_of, field_text, field_of, fields_of, fields_in, field, shape_at, named_in}
use Rattle.formula.specs.Tree.{exp_of, formula_of}
use Rattle.formula.specs.Places.{is_in_body, places_of, Node, expression, body, node_in}
use Rattle.formula.specs.Widths.{wide_e, wide_b, width}
use Rattle.formula.specs.Free.{free_e, bound_e, bound_b, inputs_of}
use Rattle.formula.specs.Count.{count_e}
use Rattle.formula.specs.Kinds.{kinded}
use Rattle.formula.specs.Faults.{kind_check, line_well, input_kinds}

-- The lowest of the k rows from r on that is not well.
unfoldable pub lowest_from : ℕ → ℕ → (ℕ → Bool) → Check
lowest_from r zero well = Ok tt
lowest_from r (suc k) well = cond (well r) (lowest_from (suc r) k well) (Err r)

-- The lowest row at fault of n rows.
abbrev pub lowest : ℕ → (ℕ → Bool) → Check
lowest n well = lowest_from 1 n well

-- A test that is not about a row gives row 0.
abbrev pub whole : Bool → Check
whole true = Ok tt
whole false = Err 0

abbrev pub is-passed : Check → Bool
is-passed c = is_ok c

-- Row r as it is written.
abbrev pub line_at : List (List ℕ) → ℕ → List ℕ
line_at ls r = get_or ls (r - 1) []

-- 1 "empty, not in 31-byte rows, or a row without its line feed"
abbrev pub ended_at : List (List ℕ) → ℕ → Bool
ended_at ls r = eqb (get_or (line_at ls r) 30 0) 10

unfoldable pub laid_out : List ℕ → List (List ℕ) → Bool
unfolding lowest_from
laid_out s ls = not (eqb (length s) 0) && eqb (length s % 31) 0 && is-passed (lowest (row_count s) (ended_at ls))

-- 2 "over 200 rows"
abbrev pub few_rows : List ℕ → Bool
few_rows s = leb (row_count s) 200

-- 3 "a malformed field"
abbrev pub well_formed : Field → Bool
well_formed f = is_some f

unfoldable pub fields_well : List (List ℕ) → ℕ → Bool
unfolding field_of
fields_well ls r =
    well_formed (field_of (field_text (line_at ls r) 0))
    && well_formed (field_of (field_text (line_at ls r) 1))
    && well_formed (field_of (field_text (line_at ls r) 2))
    && well_formed (field_of (field_text (line_at ls r) 3))
    && well_formed (field_of (field_text (line_at ls r) 4))

-- 4 "kind, code, identifier, constant or unlisted field outside its range"; "In 6 and 8, b is at least 1 and a+b-1 at most 31."
abbrev pub binds_well : ℕ → ℕ → Bool
binds_well a b = leb 1 b && leb (a + b) 32

unfoldable pub in_range : ℕ → ℕ → ℕ → ℕ → ℕ → Bool
in_range kind a b c d =
    cond (eqb kind 1) (leb a 31 && eqb b 0 && eqb c 0 && eqb d 0)
    (cond (eqb kind 2) (leb a 999999 && eqb b 0 && eqb c 0 && eqb d 0)
    (cond (eqb kind 3) (leb a 1 && eqb b 0 && eqb c 0 && eqb d 0)
    (cond (eqb kind 4) (eqb c 0 && eqb d 0)
    (cond (eqb kind 5) (leb 1 a && leb a 11 && eqb c 0 && eqb d 0)
    (cond (eqb kind 6) (binds_well a b)
    (cond (eqb kind 7) (eqb d 0)
    (cond (eqb kind 8) (binds_well a b)
    (cond (eqb kind 9) (eqb b 0 && eqb c 0 && eqb d 0)
    -- "Row kind 10 is a constant: a, 0 to 999,999"
    (cond (eqb kind 10) (leb a 999999 && eqb b 0 && eqb c 0 && eqb d 0)
    false)))))))))

unfoldable pub ranges_well : List ℕ → ℕ → Bool
unfolding in_range
ranges_well t r = in_range (field t r 0) (field t r 1) (field t r 2) (field t r 3) (field t r 4)

-- 5 "A row named is at least 1 and smaller than the row naming it."
unfoldable pub all_between : ℕ → List ℕ → Bool
all_between r [] = true
all_between r (x ∷ xs) = leb 1 x && ltb x r && all_between r xs

unfoldable pub names_well : List ℕ → ℕ → Bool
unfolding all_between named_in shape_at
names_well t r = all_between r (named_in (shape_at t r))

-- 6 "Every row but the last is named once, by one field."
unfoldable pub occurrences : ℕ → List ℕ → ℕ
occurrences r [] = 0
occurrences r (x ∷ xs) = cond (eqb x r) 1 0 + occurrences r xs

-- The rows that the fields of the first n rows name.
unfoldable pub all_named : List ℕ → ℕ → List ℕ
unfolding named_in shape_at
all_named t zero = []
all_named t (suc k) = all_named t k ++ named_in (shape_at t (suc k))

abbrev pub named_once : List ℕ → ℕ → Bool
named_once names r = eqb (occurrences r names) 1

-- 7 "iter in an expression place"
abbrev pub is_iter : Shape → Bool
is_iter (Identifier a) = false
is_iter (Constant k a) = false
is_iter (Pair a b) = false
is_iter (Operator a b) = false
is_iter (Let a b c d) = false
is_iter (If a b c) = false
is_iter (For a b c d) = false
is_iter (Iter a) = true

-- The tests from here on look at the places p of the sheet's rows.
unfoldable pub placed_well : List ℕ → List Bool → ℕ → Bool
unfolding shape_at
placed_well t p r = not (is_iter (shape_at t r)) || is_in_body p r

-- 8 "a width rule broken"
unfoldable pub wide_node : Node → Bool
unfolding wide_e wide_b
wide_node (expression x) = wide_e x
wide_node (body y) = wide_b y

unfoldable pub widths_well : List ℕ → List Bool → ℕ → Bool
unfolding wide_node node_in
widths_well t p r = wide_node (node_in (is_in_body p r) t r)

-- 9 "a bound identifier not free in row d"
unfoldable pub bound_node : Node → Bool
unfolding bound_e bound_b
bound_node (expression x) = bound_e x
bound_node (body y) = bound_b y

unfoldable pub bound_well : List ℕ → List Bool → ℕ → Bool
unfolding bound_node node_in
bound_well t p r = bound_node (node_in (is_in_body p r) t r)

-- 17 "when the kinds line has another length or letter", that is, other than one letter an input of the formula, the last row
unfoldable pub line_fits : List ℕ → ℕ → List ℕ → Bool
unfolding line_well inputs_of exp_of
line_fits t n line = line_well (length (inputs_of (exp_of t n))) line

-- 18 "when a row breaks the kinds, lowest row given"
unfoldable pub kinds_kept : List ℕ → ℕ → List ℕ → Check
unfolding kind_check input_kinds free_e exp_of kinded
kinds_kept t n line = kind_check kinded t n (input_kinds (free_e (exp_of t n)) line)

-- 10 "over 1,024 operators"; the last row is the formula.
unfoldable pub operators_of : List ℕ → ℕ → ℕ
unfolding count_e exp_of
operators_of t n = (count_e (exp_of t n)).operators

-- A sheet as the tests look at it.
pub record Sheet : Type 0 where
  pub text : List ℕ
  pub rows : ℕ
  pub lines : List (List ℕ)
  pub fields : List ℕ
  pub places : List Bool

unfoldable pub sheet_of : List ℕ → Sheet
unfolding lines_of fields_of fields_in places_of
sheet_of s =
    let t : List ℕ = fields_of s in
    record { text = s; rows = row_count s; lines = lines_of s; fields = t; places = places_of t (row_count s) }

pub record Test : Type 0 where
  pub refusal : Refusal
  pub check : Sheet → Check

abbrev pub test : Refusal → (Sheet → Check) → Test
test r f = record { refusal = r; check = f }

-- Tests 1 to 5: what can be said of each row by itself.
unfoldable pub row_tests : List Test
unfolding laid_out lowest_from fields_well ranges_well names_well
row_tests =
    test Layout (λ s. whole (laid_out s.text s.lines))
    ∷ test Rows (λ s. whole (few_rows s.text))
    ∷ test Malformed (λ s. lowest s.rows (fields_well s.lines))
    ∷ test Range (λ s. lowest s.rows (ranges_well s.fields))
    ∷ test Naming (λ s. lowest s.rows (names_well s.fields))
    ∷ []

-- Tests 6 to 9: what the rows say together.
unfoldable pub formula_tests : List Test
unfolding lowest_from occurrences all_named placed_well widths_well bound_well
formula_tests =
    test Named
    (λ s.
    let names : List ℕ = all_named s.fields s.rows in
    lowest (s.rows - 1) (λ r. named_once names r)
    )
    ∷ test StrayIter (λ s. lowest s.rows (placed_well s.fields s.places))
    ∷ test Width (λ s. lowest s.rows (widths_well s.fields s.places))
    ∷ test Unused (λ s. lowest s.rows (bound_well s.fields s.places))
    ∷ []

-- Tests 17 and 18, "in this order after 9 and before 10": what the kinds line says of them.
unfoldable pub kind_tests : List ℕ → List Test
unfolding line_fits kinds_kept
kind_tests line =
    test KindsLine (λ s. whole (line_fits s.fields s.rows line))
    ∷ test KindsBroken (λ s. kinds_kept s.fields s.rows line)
    ∷ []

-- Test 10: what its graph needs.
unfoldable pub graph_tests : List Test
unfolding operators_of
graph_tests = test Operators (λ s. whole (leb (operators_of s.fields s.rows) 1024)) ∷ []

-- All tests of a sheet that comes with this kinds line.
unfoldable pub tests : List ℕ → List Test
unfolding row_tests formula_tests kind_tests graph_tests
tests line = row_tests ++ (formula_tests ++ (kind_tests line ++ graph_tests))

-- The first refusal, with its row.
unfoldable pub after_check : Refusal → Check → Verdict → Verdict
after_check r (Ok _) later = later
after_check r (Err row) later = refused r row

unfoldable pub verdict_by : List Test → Sheet → Verdict
unfolding after_check
verdict_by [] s = Ok tt
verdict_by (t ∷ ts) s =
    let later : Verdict = verdict_by ts s in
    after_check t.refusal (t.check s) later

-- What reading says of a sheet with its kinds line.
unfoldable pub verdict_of : List ℕ → List ℕ → Verdict
unfolding verdict_by tests sheet_of
verdict_of s line = verdict_by (tests line) (sheet_of s)

unfoldable pub figures_of : List ℕ → Figures
unfolding operators_of inputs_of width formula_of
figures_of s =
    record {
      rows = row_count s;
      operators = (count_e (formula_of s)).operators;
      inputs = length (inputs_of (formula_of s));
      results = width (formula_of s);
    }

unfoldable pub answer_by : Verdict → Figures → Reading
answer_by (Ok _) f = Ok f
answer_by (Err why) f = Err why

unfoldable pub reading_of : List ℕ → List ℕ → Reading
unfolding verdict_of figures_of answer_by
reading_of s line =
    let figures : Figures = figures_of s in
    answer_by (verdict_of s line) figures
