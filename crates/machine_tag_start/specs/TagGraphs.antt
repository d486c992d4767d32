-- The formula of an accepted start of the machine with tags has no for, so that its graph has no kind of operator behind M, which is what refusal 31 asks of it
-- (machine_tags/specs/TagValid: plain_kind). Assumes an accepted start.
use Rattle.std.specs.Prelude.{ℕ, ◌≤◌, ◌≡◌, refl, ◌≢◌, true, false, not, List, eqb, Ok, Err}
use Rattle.std.proofs.Common.{sym}
use Rattle.std.proofs.lemmas.Bool.{false≢true, eqb-false, not-true}
use Rattle.formula.specs.Results.{Check}
use Rattle.formula.specs.Sheet.{row_count, fields_of, field}
use Rattle.formula.specs.Tree.{formula_of}
use Rattle.formula.specs.Tests.{lowest, is-passed}
use Rattle.formula.proofs.TestLaws.{passed-each}
use Rattle.meaning.specs.Loopless.{Loopless}
use Rattle.graph.specs.Translation.{made_of}
use Rattle.theory_reference.specs.Plugged.{Each}
use Rattle.theory_verdicts.proofs.Admitting.{accepted-admitted}
use Rattle.theory_tags.proofs.LooplessRows.{rows-loopless}
use Rattle.theory_tags.specs.PlainGraphs.{Plain}
use Rattle.theory_tags.proofs.PlainGraphs.{plain-graph}
use Rattle.machine_tag_start.specs.TagStart.{for_kind, not_for, has_for}
use Rattle.machine_tag_start.specs.TagStartLaws.{AcceptedTagStart}

pub no-for-row : (s : List ℕ) → has_for s ≡ false → (r : ℕ) → 1 ≤ r → r ≤ row_count s → field (fields_of s) r 0 ≢ for_kind
unfolding has_for
no-for-row s h r l u =
    eqb-false (field (fields_of s) r 0) for_kind (not-true (eqb (field (fields_of s) r 0) for_kind) (passed-each (row_count s) (not_for (fields_of s)) (all (lowest (row_count s) (not_for (fields_of s))) h) r l u))
  where
    all : (c : Check) → not (is-passed c) ≡ false → c ≡ Ok tt
    all (Ok _) e = refl
    all (Err row) e = absurd (false≢true (sym e))

module _ (s line m : List ℕ) (A : AcceptedTagStart s line m) where
  pub accepted-loopless : Loopless (formula_of s)
  accepted-loopless = rows-loopless s A.admissible (no-for-row s A.loopless-rows)
