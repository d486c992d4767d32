-- What a refused check of a log hands back: every lent byte as it was, or, where the machine would refuse a line, "16 leaving machine, results and count as the
-- earlier lines made them" (document 02, Job 3). Assumes nothing.
use Rattle.std.specs.Prelude.{ℕ, ◌-◌, ◌*◌, ◌/◌, ◌≤◌, ◌≡◌, Bool, true, false, ◌⊎◌, ◌≢◌, eqb, ltb, length, take, Ok}
use mathlib.Core.List.{List, []}
use Rattle.value.specs.Operators.{pick}
use Rattle.formula.specs.declared.Refusal.TheVariants.{LogRefused}
use Rattle.formula.specs.Refusals.{number_of}
use Rattle.formula.specs.Tree.{formula_of}
use Rattle.formula.specs.Widths.{width}
use Rattle.machine_start.specs.Start.{started}
use Rattle.machine_log.specs.Lines.{line_bytes, line_count, lines_of, line_well}
use Rattle.machine_log.specs.Follow.{Followed, followed}
use Rattle.machine_log.specs.Checked.{room_for, Checked, checks, answers, opening, followed_log, told, by_opening, checked}
use Rattle.machine_log.specs.CheckedLaws.{Opened as Opens, opening-passed}
use Rattle.refusals.specs.LogRows.{set_named}

-- The lines before a line.
abbrev pub lines_before : ℕ → List ℕ → List ℕ
lines_before row log = take (line_bytes * (row - 1)) log

-- 16 "leaving machine, results and count as the earlier lines made them": the check of a log of the earlier lines alone accepts them and leaves the same.
abbrev pub AsEarlierLines : List ℕ → List ℕ → ℕ → List ℕ → ℕ → List ℕ → List ℕ → List ℕ → Type 0
AsEarlierLines sheet line capacity sets number log m out =
    let c : Checked = checked sheet line capacity sets number log m out in
    (c.answer.refusal ≡ number_of LogRefused)
    × (checked sheet line capacity sets number (lines_before c.answer.row log) m out ≡ checks (answers 0 0 c.answer.count c.answer.width) c.mem c.out)

-- The others leave every byte.
abbrev pub LogLeaves : List ℕ → List ℕ → Checked → Type 0
LogLeaves m out c = (c.answer.count ≡ 0) × (c.answer.width ≡ 0) × (c.mem ≡ m) × (c.out ≡ out)

module _ (sheet line : List ℕ) (capacity : ℕ) (sets : List ℕ) (number : ℕ) (log m out : List ℕ) where
  abbrev pub start : List ℕ
  start = (started sheet line capacity m).mem

  abbrev pub set : ℕ → List ℕ
  set = set_named sheet line sets number

  -- All lines followed, and the check that has passed its tests.
  abbrev pub f : Followed
  f = followed set (lines_of log) 1 start []

  abbrev pub c : Checked
  c = by_opening (Ok tt) f (width (formula_of sheet)) m out
