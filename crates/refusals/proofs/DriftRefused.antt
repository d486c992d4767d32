-- Laws of specs/DriftRefused.antt, and what only they need.
use Rattle.std.specs.Prelude.{ℕ, ◌≡◌, refl, Bool, true, false, List, [], ◌∷◌, ◌++◌, Ok, Err}
use Rattle.std.proofs.Common.{ap, ◌∙◌}
use Rattle.value.specs.Operators.{pick}
use Rattle.formula.specs.declared.Refusal.TheVariants.{Memory}
use Rattle.formula.specs.Results.{Verdict}
use Rattle.formula.specs.Sheet.{fields_of, row_count}
use Rattle.formula.specs.TreeLaws.{Named as Naming-well}
use Rattle.formula.specs.Tests.{Sheet, Test, tests, row_tests, formula_tests, kind_tests, graph_tests, sheet_of}
use Rattle.formula.proofs.Acceptance.{each-naming}
use Rattle.formula.proofs.TestLaws.{whole-zero}
use Rattle.formula.specs.Verdicts.{Each, ◌also◌, FaultSays}
use Rattle.formula.proofs.Verdicts.{later-says}
use Rattle.formula.proofs.RowsMet.{lowest-broken}
use Rattle.sheet_movement.specs.Sorts.{drifting, sorts_kept}
use Rattle.sheet_movement.specs.Moves.{movements_fit, drift_tests, drift_verdict}
use Rattle.sheet_drift.specs.Drifting.{handed, answers, by_verdict, drifted_into}
use Rattle.refusals.specs.FirstRefusal.{Row, first-refusal}
use Rattle.refusals.specs.Conditions.{sheet_table, no-room-for-drift, movement_table, drift_table}
use Rattle.refusals.specs.Exact.{number_in, table_by}
use Rattle.refusals.proofs.Exact.{first_by, failed-whole, table_is}
use Rattle.refusals.specs.Rows.{RowOf, VerdictRow}
use Rattle.refusals.proofs.Rows.{by-refusal, row-faults, later-faults}
use Rattle.machine_tray.specs.OneByOne.{either}
use Rattle.refusals.specs.DriftRefused.{DriftKeeps}

-- ---- the first of its table
table-behind : (ts us : List Test) (x : Sheet) → table_by (ts ++ us) x ≡ table_by ts x ++ table_by us x
table-behind [] us x = refl
table-behind (t ∷ ts) us x = rw (table-behind ts us x) refl

movements-table : (s line tolerances : List ℕ) → table_by (drift_tests line tolerances) (sheet_of s) ≡ movement_table s line tolerances
unfolding drift_tests sheet_of
movements-table s line tolerances = rw (failed-whole (movements_fit (fields_of s) (row_count s) tolerances)) refl

verdict-exact : (s line tolerances : List ℕ) → number_in (drift_verdict s line tolerances) ≡ first-refusal (sheet_table s line ++ movement_table s line tolerances)
unfolding drift_verdict
verdict-exact s line tolerances =
    first_by (tests line ++ drift_tests line tolerances) (sheet_of s)
    ∙ ap first-refusal
    (table-behind (tests line) (drift_tests line tolerances) (sheet_of s)
    ∙ λ i. table_is s line i ++ movements-table s line tolerances i)

drift-order : (b : Bool) (v : Verdict) (s tolerances out : List ℕ) (cs : List Row) → number_in v ≡ first-refusal cs
    → (pick b (handed (answers 11 0 0) out) (by_verdict v s tolerances out)).answer.refusal ≡ first-refusal ((b, Memory) ∷ cs)
unfolding by_verdict first-refusal
drift-order true v s tolerances out cs h = refl
drift-order false (Ok _) s tolerances out cs h = h
drift-order false (Err why) s tolerances out cs h = h

-- 11, 1 to 9, 17, 18, 10, 20, 21
pub drift-exact : (s line tolerances out : List ℕ) → (drifted_into s line tolerances out).answer.refusal ≡ first-refusal (drift_table s line tolerances out)
unfolding drifted_into
drift-exact s line tolerances out =
    drift-order (no-room-for-drift out) (drift_verdict s line tolerances) s tolerances out (sheet_table s line ++ movement_table s line tolerances)
    (verdict-exact s line tolerances)

-- ---- its row and its bytes
each_both : (P : Test → Type 0) (ts us : List Test) → Each P ts → Each P us → Each P (ts ++ us)
each_both P [] us h k = k
each_both P (t ∷ ts) us h k = (h.0, each_both P ts us h.1 k)

-- Behind test 5, which says that the rows named are the sheet's.
movement-faults : (s line tolerances : List ℕ) → Naming-well (fields_of s) (row_count s) → Each (FaultSays (RowOf s line) (sheet_of s)) (drift_tests line tolerances)
unfolding drift_tests sheet_of sorts_kept
movement-faults s line tolerances ok =
    lowest-broken drifting (fields_of s) (row_count s) ok _ also whole-zero (movements_fit (fields_of s) (row_count s) tolerances) also tt

drift-row : (s line tolerances : List ℕ) → VerdictRow s line (drift_verdict s line tolerances)
unfolding drift_verdict tests row_tests
drift-row s line tolerances =
    by-refusal s line (drift_verdict s line tolerances)
    (later-says (sheet_of s) (RowOf s line) row_tests ((formula_tests ++ (kind_tests line ++ graph_tests)) ++ drift_tests line tolerances) (row-faults s line)
    (λ h. each_both (FaultSays (RowOf s line) (sheet_of s)) (formula_tests ++ (kind_tests line ++ graph_tests)) (drift_tests line tolerances) (later-faults s line (each-naming s h))
    (movement-faults s line tolerances (each-naming s h))))

drift-by : (s line tolerances out : List ℕ) (v : Verdict) → VerdictRow s line v → DriftKeeps s line out (by_verdict v s tolerances out)
unfolding by_verdict
drift-by s line tolerances out (Ok _) e h = absurd (h refl)
drift-by s line tolerances out (Err why) e h = ((why.refusal, refl, e), refl, refl)

pub drift-keeps : (s line tolerances out : List ℕ) → DriftKeeps s line out (drifted_into s line tolerances out)
unfolding drifted_into
drift-keeps s line tolerances out =
    either (DriftKeeps s line out) (no-room-for-drift out) _ _ (λ h. ((Memory, refl, refl), refl, refl))
    (drift-by s line tolerances out (drift_verdict s line tolerances) (drift-row s line tolerances))
