-- A log in the words of demand 3's lists of calls (document 02, Job 3): the calls that its lines name, when they would all have been accepted, and what a check that
-- followed some lines has left. The check is machine_log/specs/Checked `checked`, which the contract of bench_check_log cites. Definitions only; assumes nothing.
use Rattle.std.specs.Prelude.{ℕ, ◌-◌, ◌*◌, ◌≤◌, ◌<◌, ◌≡◌, true, ◌≢◌, length, get_or, drop}
use mathlib.Core.List.{List, [], ◌∷◌, ◌++◌, map, flatten}
use Rattle.formula.specs.Tree.{formula_of}
use Rattle.formula.specs.Faults.{letters_of}
use Rattle.machine_calls.specs.declared.Answer.{Answer}
use Rattle.machine_calls.specs.Calls.{answers}
use Rattle.machine_start.specs.Start.{started}
use Rattle.machine_log.specs.declared.lines.Line.{Line}
use Rattle.machine_log.specs.declared.lines.Line.TheVariants.{Push, Fire, Take, Malformed}
use Rattle.machine_log.specs.Lines.{line_count, lines_of, line_well}
use Rattle.machine_log.specs.Follow.{room}
use Rattle.machine_log.specs.Checked.{set_list, all_sets, room_for, Checked, checked}
use Rattle.refusals.specs.LogRows.{set_named}
use Rattle.demand.specs.MemoryCalls.{Call, push, fire, take, Result, memory_after_all, answers_of, sets_pushed, results_taken}
use Rattle.demand.specs.Claim.{OwnVerdicts}

-- ---- the calls that lines name
-- "1 and a set number, 2 and an operator number, or 3 and 0, for push, fire, take": set n of the list is `set n`, each call is lent so many bytes of the machine's
-- memory, a take also room for its result. A malformed line names no call; it is refused with 15.
abbrev pub call_of : (ℕ → List ℕ) → ℕ → Line → List Call
call_of set lent (Push n) = push lent (set n) ∷ []
call_of set lent (Fire operator) = fire lent operator ∷ []
call_of set lent Take = take lent room ∷ []
call_of set lent Malformed = []

abbrev pub calls_of : (ℕ → List ℕ) → ℕ → List Line → List Call
calls_of set lent [] = []
calls_of set lent (l ∷ lines) = call_of set lent l ++ calls_of set lent lines

-- The sets that push lines name, in their order.
abbrev pub set_of_line : (ℕ → List ℕ) → Line → List (List ℕ)
set_of_line set (Push n) = set n ∷ []
set_of_line set (Fire operator) = []
set_of_line set Take = []
set_of_line set Malformed = []

abbrev pub sets_of_lines : (ℕ → List ℕ) → List Line → List (List ℕ)
sets_of_lines set [] = []
sets_of_lines set (l ∷ lines) = set_of_line set l ++ sets_of_lines set lines

-- Every one of these answers is an acceptance.
abbrev pub AllAccepted : List Answer → Type 0
AllAccepted [] = Unit {0}
AllAccepted (a ∷ more) = (a.refusal ≡ 0) × AllAccepted more

-- Every one of these results has this width and eighty bytes.
abbrev pub AllWide : ℕ → List Result → Type 0
AllWide w [] = Unit {0}
AllWide w (r ∷ more) = ((r.width ≡ w) × (length r.bytes ≡ 80)) × AllWide w more

abbrev pub bytes_of : List Result → List (List ℕ)
bytes_of = map (λ (r : Result). r.bytes)

-- ---- the tests before a log is followed
-- 11, 14, the sheet's with its kinds line, and 12 are not given.
pub record Opened (sheet line : List ℕ) (capacity : ℕ) (sets : List ℕ) (number : ℕ) (log m out : List ℕ) : Type 0 where
  -- 11 for the machine, 14 and the sheet's: "an empty machine of a given capacity" can be had
  pub starts : (started sheet line capacity m).answer.refusal ≡ 0
  -- 11 for the results
  pub roomy : room_for (length log) ≤ length out
  -- 12: every set of the list is one
  pub listed : all_sets (letters_of (formula_of sheet) line) (set_list (letters_of (formula_of sheet) line) sets number) ≡ true

-- 15 is not given: no line "is malformed, names a set not in the list or is line 4,097".
abbrev pub NoneAtFault : ℕ → List ℕ → Type 0
NoneAtFault number log = (j : ℕ) → 1 ≤ j → j ≤ line_count log → line_well number log j ≡ true

-- ---- a check
-- The sets that the push lines among these name: "Sets count from 1 in a list lent like a tray."
abbrev pub sets_named : List ℕ → List ℕ → List ℕ → ℕ → List Line → List (List ℕ)
sets_named sheet line sets number lines = sets_of_lines (set_named sheet line sets number) lines

module _ (sheet line : List ℕ) (capacity : ℕ) (sets : List ℕ) (number : ℕ) (log m out : List ℕ) where
  -- "an empty machine of a given capacity"
  abbrev pub start : List ℕ
  start = (started sheet line capacity m).mem

  -- The calls that these lines name, each lent the whole memory, and the results that they take from the empty machine.
  abbrev pub calls : List Line → List Call
  calls lines = calls_of (set_named sheet line sets number) (length m) lines

  -- "every line would have been accepted", nothing being refused before
  pub record AcceptedLog : Type 0 where
    pub opened : Opened sheet line capacity sets number log m out
    pub lines : NoneAtFault number log
    pub accepted : AllAccepted (answers_of (calls (lines_of log)) start)
