-- Lists of calls on the real memory of the machine with tags (document 02, Job 12: "Over lists of its calls as in demand 3"): pushes, fires, runs and takes, each
-- with the bytes and numbers that the firmware lends it. What a call does is machine_tags/specs/TagCalls (`tag_pushed`, `tag_fired`, `tag_ran`, `tag_taken`), the very
-- definitions with which the contracts of bench_tagged_push, bench_tagged_fire, bench_tagged_run and bench_tagged_take are equations. Definitions only; assumes nothing.
use Rattle.std.specs.Prelude.{ℕ, cond, ◌&&◌, List, [], ◌∷◌, ◌++◌, eqb, drop, take as first_of}
use Rattle.machine_calls.specs.declared.Answer.{Answer}
use Rattle.machine_tags.specs.TagCalls.{tag_pushed, tag_fired, tag_ran, tag_taken}
use Rattle.demand.specs.MemoryCalls.{Result, result, accepted}

-- The first number says how many bytes of the memory the call is lent, counted from its first; a call lent more than there is gets all. Then come push's set,
-- fire's operator and tag, run's firings, and take's tag with the bytes into which it writes.
pub data Call : Type 0 where
  push : ℕ → List ℕ → Call
  fire : ℕ → ℕ → ℕ → Call
  run : ℕ → ℕ → Call
  take : ℕ → ℕ → List ℕ → Call

-- ---- one call on the memory that the call before left

-- What a call was not lent stays, "and nothing else writes it meanwhile".
unfoldable pub answer_of : Call → List ℕ → Answer
answer_of (push lent set) m = (tag_pushed (first_of lent m) set).answer
answer_of (fire lent operator tag) m = (tag_fired (first_of lent m) operator tag).answer
answer_of (run lent firings) m = (tag_ran (first_of lent m) firings).answer
answer_of (take lent tag out) m = (tag_taken (first_of lent m) tag out).answer

unfoldable pub memory_after : Call → List ℕ → List ℕ
memory_after (push lent set) m = (tag_pushed (first_of lent m) set).mem ++ drop lent m
memory_after (fire lent operator tag) m = (tag_fired (first_of lent m) operator tag).mem ++ drop lent m
memory_after (run lent firings) m = (tag_ran (first_of lent m) firings).mem ++ drop lent m
memory_after (take lent tag out) m = (tag_taken (first_of lent m) tag out).mem ++ drop lent m

-- The set that a call pushes under tag t: that of an accepted push which gives this tag back.
unfoldable pub set_under : ℕ → Call → List ℕ → List (List ℕ)
unfolding accepted answer_of
set_under t (push lent set) m =
    let a = answer_of (push lent set) m in
    cond (accepted a && eqb a.count t) (set ∷ []) []
set_under t (fire lent operator tag) m = []
set_under t (run lent firings) m = []
set_under t (take lent tag out) m = []

-- The result that a call takes under tag t, as the firmware gets it: the width that take's answer counts, and the eighty bytes of its sixteen values.
unfoldable pub result_under : ℕ → Call → List ℕ → List Result
unfolding accepted
result_under t (push lent set) m = []
result_under t (fire lent operator tag) m = []
result_under t (run lent firings) m = []
result_under t (take lent tag out) m =
    let h = tag_taken (first_of lent m) tag out in
    cond (accepted h.answer && eqb tag t) (result h.answer.count (first_of 80 h.out) ∷ []) []

-- ---- a list of calls from a memory

unfoldable pub memory_after_all : List Call → List ℕ → List ℕ
unfolding memory_after
memory_after_all [] m = m
memory_after_all (c ∷ calls) m = memory_after_all calls (memory_after c m)

unfoldable pub answers_of : List Call → List ℕ → List Answer
unfolding memory_after answer_of
answers_of [] m = []
answers_of (c ∷ calls) m = answer_of c m ∷ answers_of calls (memory_after c m)

-- The sets pushed under tag t, the first pushed first, and the results taken under it.
unfoldable pub sets_under : ℕ → List Call → List ℕ → List (List ℕ)
unfolding memory_after set_under
sets_under t [] m = []
sets_under t (c ∷ calls) m = set_under t c m ++ sets_under t calls (memory_after c m)

unfoldable pub results_under : ℕ → List Call → List ℕ → List Result
unfolding memory_after result_under
results_under t [] m = []
results_under t (c ∷ calls) m = result_under t c m ++ results_under t calls (memory_after c m)
