-- Laws of specs/LogCalls.antt, and what only they need.
use Rattle.std.specs.Prelude.{ℕ, ◌-◌, ◌*◌, ◌≤◌, ◌<◌, ◌≡◌, ◌≢◌, length, get_or, drop}
use mathlib.Core.List.{List, ◌++◌, flatten}
use Rattle.machine_calls.specs.declared.Answer.{Answer}
use Rattle.machine_calls.specs.Calls.{answers}
use Rattle.machine_log.specs.declared.lines.Line.{Line}
use Rattle.machine_log.specs.Lines.{lines_of}
use Rattle.machine_log.specs.Checked.{Checked, checked}
use Rattle.demand.specs.MemoryCalls.{Call, Result, memory_after_all, answers_of, sets_pushed, results_taken}
use Rattle.demand.specs.Claim.{OwnVerdicts}
use Rattle.demand_log.specs.LogCalls.{AllWide, bytes_of, Opened, NoneAtFault, sets_named}
use Rattle.demand_log.specs.LogCalls as Stated

module _ (sheet line : List ℕ) (capacity : ℕ) (sets : List ℕ) (number : ℕ) (log m out : List ℕ) where
  abbrev pub check : Checked
  check = checked sheet line capacity sets number log m out

  abbrev start : List ℕ
  start = Stated.start sheet line capacity sets number log m out

  abbrev calls : List Line → List Call
  calls = Stated.calls sheet line capacity sets number log m out

  abbrev pub results : List Line → List Result
  results lines = results_taken (calls lines) start

  -- The answer to the call of line j.
  abbrev pub answerTo : ℕ → Answer
  answerTo j = get_or (answers_of (calls (lines_of log)) start) (j - 1) (answers 0 0)

  -- "when the machine would refuse the line, .. the lowest such line": line j, nothing being refused before
  pub record RefusedLine (j : ℕ) : Type 0 where
    pub opened : Opened sheet line capacity sets number log m out
    pub lines : NoneAtFault number log
    pub first : 1 ≤ j
    pub before : (i : ℕ) → 1 ≤ i → i < j → (answerTo i).refusal ≡ 0
    pub refused : (answerTo j).refusal ≢ 0

  -- What the check tells and leaves, by the lines that it followed to their end.
  pub record LeftBy (lines : List Line) : Type 0 where
    -- the machine
    pub machine : check.mem ≡ memory_after_all (calls lines) start
    -- "hands out the results", one behind the other; "bytes past what a call writes out keep what they held"
    pub written : check.out ≡ flatten (bytes_of (results lines)) ++ drop (80 * length (results lines)) out
    -- "and their count"
    pub counted : check.answer.count ≡ length (results lines)
    pub wide : AllWide check.answer.width (results lines)
    -- the sets pushed are those that the lines name
    pub pushed : sets_pushed (calls lines) start ≡ sets_named sheet line sets number lines

  -- Calls on the machine that the check has left after these lines: demand 3 holds of the lines' calls and those together.
  pub record GoesOn (lines : List Line) (more : List Call) : Type 0 where
    pub own : OwnVerdicts sheet line capacity start (calls lines ++ more)
    pub machine : memory_after_all (calls lines ++ more) start ≡ memory_after_all more check.mem
    pub pushed : sets_pushed (calls lines ++ more) start ≡ sets_named sheet line sets number lines ++ sets_pushed more check.mem
    pub taken : results_taken (calls lines ++ more) start ≡ results lines ++ results_taken more check.mem
