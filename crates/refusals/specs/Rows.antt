-- The row of a refusal. Document 01, "Said by what was handed in": "3 to 9 give the lowest row at fault, others row 0"; document 02, Job 6 and Job 13: of 18
-- and of 20 "lowest row given". Assumes nothing.
use Rattle.std.specs.Prelude.{ℕ, ◌-◌, ◌≤◌, ◌<◌, ◌≡◌, refl, Bool, true, false, List, ◌++◌, leb, Ok, Err}
use Rattle.formula.specs.declared.Refusal.{Refusal}
use Rattle.formula.specs.declared.Refusal.TheVariants.{Layout, Rows, Malformed, Range, Naming, Named, StrayIter, Width, Unused, Operators, Memory, Set, SetFile, Capacity, LogLine, LogRefused, KindsLine, KindsBroken, Loop, Sort, Movement, Unlisted, LastListed, Altered, Untaken, Full, NotAble, NoResult, Unfinished, NoTag, NoTagResult}
use Rattle.formula.specs.Results.{Verdict}
use Rattle.formula.specs.Refusals.{number_of}
use Rattle.formula.specs.Sheet.{row_count, lines_of, fields_of}
use Rattle.formula.specs.Places.{places_of}
use Rattle.formula.specs.Tests.{lowest, laid_out, few_rows, fields_well, ranges_well, names_well, named_once, all_named, placed_well, widths_well, bound_well, line_fits, kinds_kept, operators_of, verdict_of, tests, row_tests, formula_tests, kind_tests, graph_tests, sheet_of}
use Rattle.formula.specs.Tree.{exp_of}
use Rattle.formula.specs.Free.{free_e}
use Rattle.formula.specs.Kinds.{Rule, kinded}
use Rattle.formula.specs.Faults.{input_kinds}
use Rattle.formula.specs.TreeLaws.{Named as Naming-well}
use Rattle.formula.specs.RowsMet.{LowestBroken}
use Rattle.formula.specs.Verdicts.{Each, ◌also◌, FaultSays}
use Rattle.sheet_movement.specs.Sorts.{drifting}

-- The lowest of n rows that is not well.
pub record LowestAt (n : ℕ) (well : ℕ → Bool) (row : ℕ) : Type 0 where
  pub first : 1 ≤ row
  pub last : row ≤ n
  pub fault : well row ≡ false
  pub lower : (j : ℕ) → 1 ≤ j → j < row → well j ≡ true

-- The lowest row that breaks a rule where it stands, under the kinds that a line tells. In a sheet that passed test 6 each row stands in one place with
-- one kind for each identifier (formula/specs/RowsMet).
abbrev pub LowestOfKinds : Rule → List ℕ → List ℕ → ℕ → Type 0
LowestOfKinds rule s line row = LowestBroken rule (fields_of s) (row_count s) (input_kinds (free_e (exp_of (fields_of s) (row_count s))) line) row

-- The row that goes with a refusal of a sheet with a kinds line. 15 and 16 are a log's, not a sheet's.
abbrev pub RowOf : List ℕ → List ℕ → Refusal → ℕ → Type 0
RowOf s line Layout row = row ≡ 0
RowOf s line Rows row = row ≡ 0
RowOf s line Malformed row = LowestAt (row_count s) (fields_well (lines_of s)) row
RowOf s line Range row = LowestAt (row_count s) (ranges_well (fields_of s)) row
RowOf s line Naming row = LowestAt (row_count s) (names_well (fields_of s)) row
RowOf s line Named row = LowestAt (row_count s - 1) (λ r. named_once (all_named (fields_of s) (row_count s)) r) row
RowOf s line StrayIter row = LowestAt (row_count s) (placed_well (fields_of s) (places_of (fields_of s) (row_count s))) row
RowOf s line Width row = LowestAt (row_count s) (widths_well (fields_of s) (places_of (fields_of s) (row_count s))) row
RowOf s line Unused row = LowestAt (row_count s) (bound_well (fields_of s) (places_of (fields_of s) (row_count s))) row
RowOf s line KindsLine row = row ≡ 0
RowOf s line KindsBroken row = LowestOfKinds kinded s line row
RowOf s line Operators row = row ≡ 0
RowOf s line Memory row = row ≡ 0
RowOf s line Set row = row ≡ 0
RowOf s line SetFile row = row ≡ 0
RowOf s line Capacity row = row ≡ 0
RowOf s line LogLine row = ⊥
RowOf s line LogRefused row = ⊥
RowOf s line Loop row = row ≡ 0
RowOf s line Sort row = LowestOfKinds drifting s line row
RowOf s line Movement row = row ≡ 0
RowOf s line Unlisted row = row ≡ 0
RowOf s line LastListed row = row ≡ 0
RowOf s line Altered row = row ≡ 0
RowOf s line Untaken row = row ≡ 0
RowOf s line Full row = row ≡ 0
RowOf s line NotAble row = row ≡ 0
RowOf s line NoResult row = row ≡ 0
RowOf s line Unfinished row = row ≡ 0
RowOf s line NoTag row = row ≡ 0
RowOf s line NoTagResult row = row ≡ 0

-- A number and a row as an answer tells them: the number is a refusal's, and the row goes with it.
abbrev pub RowTold : List ℕ → List ℕ → ℕ → ℕ → Type 0
RowTold s line n row = (r : Refusal) × (number_of r ≡ n) × RowOf s line r row

abbrev pub VerdictRow : List ℕ → List ℕ → Verdict → Type 0
VerdictRow s line (Ok _) = Unit {0}
VerdictRow s line (Err why) = RowOf s line why.refusal why.row
