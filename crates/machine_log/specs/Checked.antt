-- The log checker (document 02, Job 3), as a function from what it is lent to its answer and every lent byte at its end: "a checker that follows such a log from an
-- empty machine of a given capacity and hands out the results and their count". Its refusals in their order: 11, 14, the sheet's with its kinds line, 12, 15, 16.
-- Definitions only; assumes nothing.
use Rattle.std.specs.Prelude.{ℕ, ◌-◌, ◌*◌, ◌/◌, Bool, true, ◌&&◌, eqb, leb, ltb, length, get_or, drop, Ok, Err}
use mathlib.Core.List.{List, [], ◌∷◌, ◌++◌, flatten}
use Rattle.value.specs.Operators.{pick}
use Rattle.value_sets.specs.Sets.{set_ok}
use Rattle.formula.specs.declared.Refusal.TheVariants.{Memory, Capacity, Set, LogLine, LogRefused}
use Rattle.formula.specs.Results.{Verdict}
use Rattle.formula.specs.Refusals.{number_of}
use Rattle.formula.specs.Tree.{formula_of}
use Rattle.formula.specs.Widths.{width}
use Rattle.formula.specs.Faults.{letters_of}
use Rattle.formula.specs.Tests.{whole, after_check, verdict_of}
use Rattle.machine_layout.specs.Layout.{most_capacity, size_of, need, capacity_in}
use Rattle.machine_calls.specs.Calls.{result_bytes}
use Rattle.machine_tray.specs.Tray.{cut}
use Rattle.machine_start.specs.Start.{started}
use Rattle.machine_log.specs.declared.LogAnswer.{LogAnswer}
use Rattle.machine_log.specs.Lines.{most_lines, line_bytes, lines_of, log_check}
use Rattle.machine_log.specs.Follow.{Followed, followed}

-- ---- what is lent

-- "a list lent like a tray": a given number of sets lying behind each other, each as long as the inputs ask, five bytes a value; bytes past the last are left aside
unfoldable pub set_list : List ℕ → List ℕ → ℕ → List (List ℕ)
unfolding cut
set_list kinds sets number = cut number (5 * length kinds) sets

-- "Sets count from 1"
abbrev pub set_in : List (List ℕ) → ℕ → List ℕ
set_in list n = get_or list (n - 1) []

-- 12: a set not wholly lent, with a bad value or one of another kind, whether a line names it or not
unfoldable pub all_sets : List ℕ → List (List ℕ) → Bool
unfolding set_ok
all_sets kinds [] = true
all_sets kinds (s ∷ ss) = set_ok kinds s && all_sets kinds ss

-- The room for results, by the log's length: each takes a push's line and a take's, and there are up to 4,096 lines.
abbrev pub most_taken : ℕ
most_taken = most_lines / 2

unfoldable pub room_for : ℕ → ℕ
room_for bytes = result_bytes * pick (ltb most_taken (bytes / (2 * line_bytes))) most_taken (bytes / (2 * line_bytes))

-- ---- the answer

pub record Checked : Type 0 where
  pub answer : LogAnswer
  pub mem : List ℕ
  pub out : List ℕ

abbrev pub checks : LogAnswer → List ℕ → List ℕ → Checked
checks a m o = record { answer = a; mem = m; out = o }

abbrev pub answers : ℕ → ℕ → ℕ → ℕ → LogAnswer
answers r row c w = record { refusal = r; row = row; count = c; width = w }

-- Results one behind the other; "bytes past what a call writes out keep what they held".
abbrev pub written_out : List (List ℕ) → List ℕ → List ℕ
written_out results out = flatten results ++ drop (result_bytes * length results) out

-- ---- the whole

-- The tests of a sheet, then others.
unfoldable pub behind : Verdict → Verdict → Verdict
behind (Ok _) later = later
behind (Err why) later = Err why

-- 11 for the machine, by the capacity asked, and for the results; 14; the sheet's; 12; 15
unfoldable pub opening : List ℕ → List ℕ → ℕ → List ℕ → ℕ → List ℕ → ℕ → ℕ → Verdict
unfolding behind after_check verdict_of all_sets set_list room_for letters_of formula_of
opening sheet line capacity sets number log memBytes out_bytes =
    let kinds : List ℕ = letters_of (formula_of sheet) line in
    after_check Memory (whole (leb (need (size_of (capacity_in capacity))) memBytes))
    (after_check Memory (whole (leb (room_for (length log)) out_bytes))
    (after_check Capacity (whole (leb 1 capacity && leb capacity most_capacity))
    (behind (verdict_of sheet line)
    (after_check Set (whole (all_sets kinds (set_list kinds sets number)))
    (after_check LogLine (log_check number log)
    (Ok tt))))))

-- "from an empty machine of a given capacity"
unfoldable pub followed_log : List ℕ → List ℕ → ℕ → List ℕ → ℕ → List ℕ → List ℕ → Followed
unfolding followed set_list started lines_of letters_of formula_of
followed_log sheet line capacity sets number log m =
    let list : List (List ℕ) = set_list (letters_of (formula_of sheet) line) sets number in
    followed (set_in list) (lines_of log) 1 (started sheet line capacity m).mem []

-- The width of some results, which all have the formula's; 0 where there is none.
abbrev pub width_of : ℕ → ℕ → ℕ
width_of count w = pick (eqb count 0) 0 w

-- 16 with its line, or accepted; "leaving machine, results and count as the earlier lines made them"
unfoldable pub told : Followed → ℕ → LogAnswer
told f w = answers (pick (eqb f.line 0) 0 (number_of LogRefused)) f.line (length f.results) (width_of (length f.results) w)

unfoldable pub by_opening : Verdict → Followed → ℕ → List ℕ → List ℕ → Checked
unfolding told
by_opening (Ok _) f w m out = checks (told f w) f.mem (written_out f.results out)
by_opening (Err why) f w m out = checks (answers (number_of why.refusal) why.row 0 0) m out

unfoldable pub checked : List ℕ → List ℕ → ℕ → List ℕ → ℕ → List ℕ → List ℕ → List ℕ → Checked
unfolding by_opening opening followed_log width
checked sheet line capacity sets number log m out =
    by_opening (opening sheet line capacity sets number log (length m) (length out)) (followed_log sheet line capacity sets number log m) (width (formula_of sheet)) m out
