-- Start of the machine with tags (document 02, Job 12): from a sheet, its kinds line and the lent memory to the answer and every lent byte at its end. "It is a second
-- machine for sheets without for"; "Capacity here is one token a tag on each link", so that no capacity is asked for; "Refusals: 19 when the sheet has a for, after 10",
-- 11 before all. What stands once is a machine's at capacity 1 (machine_start/specs/Start); the planes and their tags' bytes are machine_planes/specs/Planes. Assumes nothing.
use Rattle.std.specs.Prelude.{ℕ, zero, suc, ◌+◌, Bool, not, List, length, set, eqb, ltb, Ok, Err}
use Rattle.value.specs.Operators.{pick}
use Rattle.formula.specs.declared.Refusal.TheVariants.{Memory, Loop}
use Rattle.formula.specs.Results.{Verdict}
use Rattle.formula.specs.Sheet.{row_count, fields_of, field}
use Rattle.formula.specs.Tree.{Exp, formula_of}
use Rattle.formula.specs.Tests.{lowest, is-passed, verdict_of}
use Rattle.formula.specs.Faults.{letters_of}
use Rattle.machine_layout.specs.Layout.{capacity_at, least_size}
use Rattle.graph.specs.Translation.{Made, made_of}
use Rattle.machine_start.specs.declared.StartAnswer.{StartAnswer}
use Rattle.machine_start.specs.Start.{Begun, begun, refusal, accepted, cleared_from, started_memory}
use Rattle.machine_planes.specs.Planes.{most_tags, plane_at, tags_at, tagged_need}
use Rattle.machine_tags.specs.TagValid.{tag_mark}

-- ---- a sheet with a for: row kind 8

abbrev pub for_kind : ℕ
for_kind = 8

abbrev pub not_for : List ℕ → ℕ → Bool
not_for t r = not (eqb (field t r 0) for_kind)

unfoldable pub has_for : List ℕ → Bool
has_for s = not (is-passed (lowest (row_count s) (not_for (fields_of s))))

-- ---- the memory

-- of the first t tags k links empty and no set untaken
unfoldable pub emptied_tags : ℕ → ℕ → List ℕ → List ℕ
emptied_tags zero k m = m
emptied_tags (suc t) k m = set (cleared_from k (plane_at t) least_size (emptied_tags t k m)) (tags_at + t) 0

-- a machine started at capacity 1, the mark in the capacity's place, and every tag's links empty
unfoldable pub tag_started_memory : Made → List ℕ → List ℕ → List ℕ
tag_started_memory g kinds m = emptied_tags most_tags g.links (set (started_memory g kinds 1 m) capacity_at tag_mark)

-- ---- the whole

-- the sheet's refusal, then "19 when the sheet has a for, after 10", row 0
unfoldable pub tag_by_verdict : Verdict → Bool → Exp → List ℕ → List ℕ → Begun
tag_by_verdict (Err why) loops x kinds m = begun (refusal why.refusal why.row) m
tag_by_verdict (Ok _) loops x kinds m = pick loops (begun (refusal Loop 0) m) (begun (accepted (made_of x)) (tag_started_memory (made_of x) kinds m))

-- 11, then the sheet's with its kinds line, 19
unfoldable pub tag_started : List ℕ → List ℕ → List ℕ → Begun
tag_started sheet line m =
    pick (ltb (length m) tagged_need)
    (begun (refusal Memory 0) m)
    (tag_by_verdict (verdict_of sheet line) (has_for sheet) (formula_of sheet) (letters_of (formula_of sheet) line) m)

-- ---- what a sheet with a for gets

abbrev pub loop_answer : Verdict → StartAnswer
loop_answer (Ok _) = refusal Loop 0
loop_answer (Err why) = refusal why.refusal why.row
