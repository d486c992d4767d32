-- Laws of specs/Rows.antt, and what only they need.
use Rattle.std.specs.Prelude.{ℕ, ◌-◌, ◌≡◌, refl, Bool, List, ◌++◌, leb, Ok, Err}
use Rattle.formula.specs.declared.Refusal.{Refusal}
use Rattle.formula.specs.Results.{Verdict, refused}
use Rattle.formula.specs.Sheet.{row_count, lines_of, fields_of}
use Rattle.formula.specs.Tests.{lowest, laid_out, few_rows, line_fits, kinds_kept, operators_of, verdict_of, tests, row_tests, formula_tests, kind_tests, graph_tests, sheet_of}
use Rattle.formula.specs.Kinds.{kinded}
use Rattle.formula.specs.TreeLaws.{Named as Naming-well}
use Rattle.formula.proofs.RowsMet.{lowest-broken}
use Rattle.formula.proofs.Acceptance.{each-naming}
use Rattle.formula.proofs.TestLaws.{lowest-fault, whole-zero}
use Rattle.formula.specs.Verdicts.{Each, ◌also◌, FaultSays}
use Rattle.formula.proofs.Verdicts.{later-says}
use Rattle.refusals.specs.Rows.{LowestAt, RowOf, VerdictRow}

pub by-refusal : (s line : List ℕ) (v : Verdict) → ((r : Refusal) (row : ℕ) → v ≡ refused r row → RowOf s line r row) → VerdictRow s line v
by-refusal s line (Ok _) h = tt
by-refusal s line (Err why) h = h why.refusal why.row refl

pub lowest-at : (n : ℕ) (well : ℕ → Bool) (row : ℕ) → lowest n well ≡ Err row → LowestAt n well row
lowest-at n well row h = let i = lowest-fault n well row h in record { first = i.0; last = i.1; fault = i.2; lower = i.3 }

pub row-faults : (s line : List ℕ) → Each (FaultSays (RowOf s line) (sheet_of s)) row_tests
unfolding row_tests sheet_of
row-faults s line =
    whole-zero (laid_out s (lines_of s)) also whole-zero (few_rows s) also lowest-at _ _ also lowest-at _ _ also lowest-at _ _ also tt

-- Behind test 5, which says that the rows named are the sheet's.
pub later-faults : (s line : List ℕ) → Naming-well (fields_of s) (row_count s) → Each (FaultSays (RowOf s line) (sheet_of s)) (formula_tests ++ (kind_tests line ++ graph_tests))
unfolding formula_tests kind_tests graph_tests sheet_of kinds_kept
later-faults s line ok =
    lowest-at _ _ also lowest-at _ _ also lowest-at _ _ also lowest-at _ _
    also whole-zero (line_fits (fields_of s) (row_count s) line) also lowest-broken kinded (fields_of s) (row_count s) ok _
    also whole-zero (leb (operators_of (fields_of s) (row_count s)) 1024) also tt

-- What reading says of a sheet has the row that goes with it.
pub verdict-row : (s line : List ℕ) → VerdictRow s line (verdict_of s line)
unfolding verdict_of tests
verdict-row s line =
    by-refusal s line (verdict_of s line)
    (later-says (sheet_of s) (RowOf s line) row_tests (formula_tests ++ (kind_tests line ++ graph_tests)) (row-faults s line)
    (λ h. later-faults s line (each-naming s h)))
