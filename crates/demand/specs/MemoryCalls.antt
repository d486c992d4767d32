-- Lists of calls on real memory (document 01, "Running": "Demand 3 is one claim over every list of these calls"): pushes, trays of sets (document 02, Job 1),
-- fires, runs, runs by rounds (Job 7) and takes, each with the bytes and numbers that the firmware lends it. What a call does is machine_calls/specs/Calls
-- (`pushed`, `fired`, `ran`, `taken`), machine_tray/specs/Tray (`trayed`) and machine_rounds/specs/Rounds (`ran_rounds`), the very definitions with which the
-- contracts of bench_push, bench_push_tray, bench_fire, bench_run, bench_run_rounds and bench_take are equations. Definitions only; assumes nothing.
use Rattle.std.specs.Prelude.{ℕ, Bool, cond, List, [], ◌∷◌, ◌++◌, eqb, drop, take as first_of}
use Rattle.machine_calls.specs.declared.Answer.{Answer}
use Rattle.machine_calls.specs.Calls.{answers, pushed, fired, ran, taken}
use Rattle.machine_tray.specs.Tray.{trayed, went_in}
use Rattle.machine_rounds.specs.Rounds.{ran_rounds}

-- "each push, fire, run or take is lent that memory as the call before left it (a call lent too little gets 11 and is one of the refused)": the first number
-- says how many bytes, counted from the memory's first; a call lent more than there is gets all. Then come push's set, a tray's bytes
-- and the number of its sets, fire's operator, run's firings, the rounds of a run by rounds and the bytes into which take writes.
pub data Call : Type 0 where
  push : ℕ → List ℕ → Call
  tray : ℕ → List ℕ → ℕ → Call
  fire : ℕ → ℕ → Call
  run : ℕ → ℕ → Call
  by_rounds : ℕ → ℕ → Call
  take : ℕ → List ℕ → Call

-- A result as the firmware gets it: the width that take's answer counts, and the eighty bytes of its sixteen values.
pub record Result : Type 0 where
  pub width : ℕ
  pub bytes : List ℕ

abbrev pub result : ℕ → List ℕ → Result
result w b = record { width = w; bytes = b }

-- ---- one call on the memory that the call before left

-- Its answer, with the refusal's number, 0 where accepted, and its count, which for a run by rounds is its rounds; the memory as it leaves it; the sets that
-- it pushed and the results that it took.
pub record Done : Type 0 where
  pub answer : Answer
  pub memory : List ℕ
  pub sets : List (List ℕ)
  pub results : List Result

abbrev doing : Answer → List ℕ → List (List ℕ) → List Result → Done
doing a m s r = record { answer = a; memory = m; sets = s; results = r }

unfoldable pub accepted : Answer → Bool
accepted a = eqb a.refusal 0

-- What a call was not lent stays, "and nothing else writes it meanwhile". "Count by the calls and by whether each was accepted: an accepted push adds its set,
-- an accepted take takes the oldest untaken, every other call, run's 36 included, does neither." Of a tray "demand 3 counts each set that went in as an accepted
-- push, also where the call then gives a refusal".
unfoldable pub done : Call → List ℕ → Done
unfolding accepted
done (push lent set) m =
    let o = pushed (first_of lent m) set in
    doing o.answer (o.mem ++ drop lent m) (cond (accepted o.answer) (set ∷ []) []) []
done (tray lent sets number) m =
    let o = trayed (first_of lent m) sets number in
    doing o.answer (o.mem ++ drop lent m) (went_in (first_of lent m) sets number) []
done (fire lent operator) m =
    let o = fired (first_of lent m) operator in
    doing o.answer (o.mem ++ drop lent m) [] []
done (run lent firings) m =
    let o = ran (first_of lent m) firings in
    doing o.answer (o.mem ++ drop lent m) [] []
done (by_rounds lent rounds) m =
    let o = ran_rounds (first_of lent m) rounds in
    doing (answers o.answer.refusal o.answer.rounds) (o.mem ++ drop lent m) [] []
done (take lent out) m =
    let h = taken (first_of lent m) out in
    doing h.answer (h.mem ++ drop lent m) [] (cond (accepted h.answer) (result h.answer.count (first_of 80 h.out) ∷ []) [])

unfoldable pub answer_of : Call → List ℕ → Answer
unfolding done
answer_of c m = (done c m).answer

unfoldable pub memory_after : Call → List ℕ → List ℕ
unfolding done
memory_after c m = (done c m).memory

unfoldable pub set_of : Call → List ℕ → List (List ℕ)
unfolding done
set_of c m = (done c m).sets

unfoldable pub result_of : Call → List ℕ → List Result
unfolding done
result_of c m = (done c m).results

-- ---- a list of calls from a memory

unfoldable pub memory_after_all : List Call → List ℕ → List ℕ
unfolding memory_after
memory_after_all [] m = m
memory_after_all (c ∷ calls) m = memory_after_all calls (memory_after c m)

unfoldable pub answers_of : List Call → List ℕ → List Answer
unfolding memory_after answer_of
answers_of [] m = []
answers_of (c ∷ calls) m = answer_of c m ∷ answers_of calls (memory_after c m)

-- The sets pushed, the first pushed first.
unfoldable pub sets_pushed : List Call → List ℕ → List (List ℕ)
unfolding memory_after set_of
sets_pushed [] m = []
sets_pushed (c ∷ calls) m = set_of c m ++ sets_pushed calls (memory_after c m)

-- The results taken, the first taken first.
unfoldable pub results_taken : List Call → List ℕ → List Result
unfolding memory_after result_of
results_taken [] m = []
results_taken (c ∷ calls) m = result_of c m ++ results_taken calls (memory_after c m)
