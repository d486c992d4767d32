-- The row of a log's refusal (document 02, Job 3): 15 and 16 "each with the lowest such line"; of the others, the sheet's (Rows). Assumes nothing.
use Prim.Native.Nat.{ℕ, ◌-◌, ◌≤◌}
use Rattle.std.specs.Prelude.{◌≡◌, Bool, ◌&&◌, ◌⊎◌, ◌≢◌, eqb, length, get_or, take}
use mathlib.Core.List.{List, []}
use Rattle.value.specs.Operators.{pick}
use Rattle.formula.specs.declared.Refusal.{Refusal}
use Rattle.formula.specs.declared.Refusal.TheVariants.{Memory, Capacity, Set, LogLine, LogRefused}
use Rattle.formula.specs.Refusals.{number_of}
use Rattle.formula.specs.Tree.{formula_of}
use Rattle.formula.specs.Faults.{letters_of}
use Rattle.formula.specs.Widths.{width}
use Rattle.formula.specs.Tests.{whole, after_check, verdict_of}
use Rattle.machine_layout.specs.Layout.{size_of, need, capacity_in}
use Rattle.machine_start.specs.Start.{started}
use Rattle.machine_log.specs.declared.lines.Line.{Line}
use Rattle.machine_log.specs.declared.lines.Line.TheVariants.{Malformed}
use Rattle.machine_log.specs.Lines.{line_count, lines_of, line_well, log_check}
use Rattle.machine_log.specs.Follow.{called, Followed, followed}
use Rattle.machine_log.specs.Checked.{set_list, set_in, all_sets, room_for, behind, opening, followed_log, told, by_opening, checked}
use Rattle.refusals.specs.Rows.{LowestAt, RowTold}

-- ---- 16
-- Whether the machine, as the lines before line j made it, accepts line j.
abbrev pub line_accepted : (ℕ → List ℕ) → List Line → List ℕ → ℕ → Bool
line_accepted set lines start j = eqb (called set (get_or lines (j - 1) Malformed) (followed set (take (j - 1) lines) 1 start []).mem).answer.refusal 0

-- ---- the row of any refusal
-- The set of the list that a push line names.
abbrev pub set_named : List ℕ → List ℕ → List ℕ → ℕ → ℕ → List ℕ
set_named sheet line sets number = set_in (set_list (letters_of (formula_of sheet) line) sets number)

-- Whether line j would be accepted when the log is followed from the empty machine.
abbrev pub line_followed : List ℕ → List ℕ → ℕ → List ℕ → ℕ → List ℕ → List ℕ → ℕ → Bool
line_followed sheet line capacity sets number log m = line_accepted (set_named sheet line sets number) (lines_of log) (started sheet line capacity m).mem

-- 15 "when a line is malformed, names a set not in the list or is line 4,097, and 16 when the machine would refuse the line, each with the lowest such line"
abbrev pub LogRow : List ℕ → List ℕ → ℕ → List ℕ → ℕ → List ℕ → List ℕ → ℕ → ℕ → Type 0
LogRow sheet line capacity sets number log m n row =
    RowTold sheet line n row
    ⊎ (((n ≡ number_of LogLine) × LowestAt (line_count log) (line_well number log) row)
    ⊎ ((n ≡ number_of LogRefused) × LowestAt (line_count log) (line_followed sheet line capacity sets number log m) row))
