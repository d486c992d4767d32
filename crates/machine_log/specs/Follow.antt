-- A log followed on a machine (document 02, Job 3): each line is the firmware's call that it names (machine_calls/specs/Calls: `pushed`, `fired`, `taken`), with
-- 11, 31 and the call's own refusals, on the memory as the lines before left it. Definitions only; assumes nothing.
use Rattle.std.specs.Prelude.{ℕ, suc, List, [], ◌∷◌, ◌++◌, eqb, replicate}
use Rattle.value.specs.Operators.{pick}
use Rattle.formula.specs.declared.Refusal.TheVariants.{LogLine}
use Rattle.machine_calls.specs.Calls.{Outcome, Handed, handed, refusal, result_bytes, pushed, fired, taken}
use Rattle.machine_log.specs.declared.lines.Line.{Line}
use Rattle.machine_log.specs.declared.lines.Line.TheVariants.{Push, Fire, Take, Malformed}

-- Room for one result.
abbrev pub room : List ℕ
room = replicate result_bytes 0

abbrev writes_nothing : Outcome → Handed
writes_nothing o = handed o.answer o.mem []

-- What a line's call does to a machine, and the bytes that it writes out; set n of the list is `set n`. A malformed line is refused by 15, before any is followed.
unfoldable pub called : (ℕ → List ℕ) → Line → List ℕ → Handed
called set (Push n) m = writes_nothing (pushed m (set n))
called set (Fire operator) m = writes_nothing (fired m operator)
called set Take m = taken m room
called set Malformed m = handed (refusal LogLine) m []

-- The results that an accepted line hands out.
unfoldable pub given : Line → Handed → List (List ℕ)
given (Push n) h = []
given (Fire operator) h = []
given Take h = h.out ∷ []
given Malformed h = []

-- What following a log comes to: the line that the machine would refuse, 0 where there is none; the machine; the results, the first taken first.
pub record Followed : Type 0 where
  pub line : ℕ
  pub mem : List ℕ
  pub results : List (List ℕ)

abbrev pub followed_to : ℕ → List ℕ → List (List ℕ) → Followed
followed_to j m results = record { line = j; mem = m; results = results }

-- Lines from line j on. 16 "when the machine would refuse the line, .. the lowest such line, .. leaving machine, results and count as the earlier lines made them"
unfoldable pub followed : (ℕ → List ℕ) → List Line → ℕ → List ℕ → List (List ℕ) → Followed
unfolding called given
followed set [] j m results = followed_to 0 m results
followed set (l ∷ lines) j m results =
    let h : Handed = called set l m in
    pick (eqb h.answer.refusal 0)
    (followed set lines (suc j) h.mem (results ++ given l h))
    (followed_to j m results)
