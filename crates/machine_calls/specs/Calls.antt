-- The calls of the firmware on a machine's memory: push, fire, run, take (document 01, "Running" and "Said by how the machine stands"), each as
-- a function from what it is lent to its answer and every lent byte at its end. "Order: 11, 31, 12, then these." A refused call leaves
-- every byte as it was, save run's 36. Answers carry the refusal's number, 0 where accepted, and a count: a run's firings, the width of a
-- taken result set, else 0. Operators count from 0. What goes onto the input links and off the result links is stated over the byte `base` where links begin. Assumes nothing.
use Rattle.std.specs.Prelude.{ℕ, zero, suc, ◌+◌, ◌-◌, ◌*◌, Bool, true, false, ◌&&◌, ◌||◌, not, List, length, get_or, set, ltb, eqb}
use Rattle.value.specs.Operators.{pick}
use Rattle.value.specs.Bytes.{word_of, word_at, stored}
use Rattle.value_sets.specs.Sets.{set_ok}
use Rattle.network.specs.Values.{true-value, err-value}
use Rattle.formula.specs.declared.Refusal.{Refusal}
use Rattle.formula.specs.declared.Refusal.TheVariants.{Memory, Set, Altered, Untaken, Full, NotAble, NoResult, Unfinished}
use Rattle.formula.specs.Refusals.{number_of}
use Rattle.machine_layout.specs.Layout.{most_results, most_untaken, untaken_at, links_at, capacity_of, size_of, need, operators_of, inputs_of, results_of, untaken_of, trigger_of, input_link, result_link, stored_kinds}
use Rattle.machine_firing.specs.Links.{head_from, room_at, removed_from, appended_from}
use Rattle.machine_firing.specs.Fire.{able_at, fired_at}
use Rattle.machine_valid.specs.Below.{all_below}
use Rattle.machine_valid.specs.Valid.{valid}
use Rattle.machine_runs.specs.Run.{Ran, runs, still_at}
use Rattle.machine_calls.specs.declared.Answer.{Answer}

-- the answer with the memory, and for take with the bytes written out
pub record Outcome : Type 0 where
  pub answer : Answer
  pub mem : List ℕ

pub record Handed : Type 0 where
  pub answer : Answer
  pub mem : List ℕ
  pub out : List ℕ

abbrev pub answers : ℕ → ℕ → Answer
answers r c = record { refusal = r; count = c }

abbrev pub outcome : Answer → List ℕ → Outcome
outcome a m = record { answer = a; mem = m }

abbrev pub handed : Answer → List ℕ → List ℕ → Handed
handed a m o = record { answer = a; mem = m; out = o }

-- "A refusal's counts and rows are 0 unless stated"
abbrev pub refusal : Refusal → Answer
refusal r = answers (number_of r) 0

-- the length of a stretch at the stored capacity
abbrev pub size_in : List ℕ → ℕ
size_in m = size_of (capacity_of m)

-- 11 "lent memory shorter than the call's need"; 31: machine_valid's specs/Valid; 0 where neither
unfoldable pub standing : List ℕ → ℕ
standing m = pick (ltb (length m) (need (size_in m))) (number_of Memory) (pick (valid m) 0 (number_of Altered))

-- ---- push

-- 33 "an input link, or the trigger's link where it exists, full": a link that does not exist always has room
unfoldable pub input_room : List ℕ → ℕ → ℕ → Bool
input_room m size j = room_at m size (input_link m j)

unfoldable pub rooms_ok : List ℕ → ℕ → ℕ → Bool
rooms_ok m size k = room_at m size (trigger_of m) && all_below k (input_room m size)

-- "Push gives one value to each input link": the first j values of the set
unfoldable pub entered_from : ℕ → List ℕ → ℕ → ℕ → List ℕ → List ℕ
entered_from zero m base size s = m
entered_from (suc j) m base size s = appended_from (entered_from j m base size s) base size (input_link m j) (word_at s (5 * j))

-- "and one trigger if that link exists": its token is the value true
unfoldable pub triggered_from : List ℕ → ℕ → ℕ → List ℕ → List ℕ
triggered_from m base size s = appended_from (entered_from (inputs_of m) m base size s) base size (trigger_of m) (word_of true-value)

-- the same on the links of a machine, from `links_at` on
abbrev pub entered : ℕ → List ℕ → ℕ → List ℕ → List ℕ
entered j m size s = entered_from j m links_at size s

abbrev pub triggered : List ℕ → List ℕ → List ℕ
triggered m s = triggered_from m links_at (size_in m) s

-- the memory with one set more untaken
unfoldable pub pushed_memory : List ℕ → List ℕ → List ℕ
pushed_memory m s = set (triggered m s) untaken_at (untaken_of m + 1)

-- 11, 31, 12 by the stored kinds (value_sets' specs/Sets), 32, 33
unfoldable pub pushed : List ℕ → List ℕ → Outcome
pushed m s =
    pick (eqb (standing m) 0)
    (pick (set_ok (stored_kinds m) s)
    (pick (ltb (untaken_of m) most_untaken)
    (pick (rooms_ok m (size_in m) (inputs_of m))
    (outcome (answers 0 0) (pushed_memory m s))
    (outcome (refusal Full) m))
    (outcome (refusal Untaken) m))
    (outcome (refusal Set) m))
    (outcome (answers (standing m) 0) m)

-- ---- fire

-- 11, 31, 34 "the operator is absent or not able"
unfoldable pub fired : List ℕ → ℕ → Outcome
fired m i =
    pick (eqb (standing m) 0)
    (pick (ltb i (operators_of m) && able_at m (size_in m) i)
    (outcome (answers 0 0) (fired_at m (size_in m) i))
    (outcome (refusal NotAble) m))
    (outcome (answers (standing m) 0) m)

-- ---- run

-- "A run's 36 keeps its firings and gives their count."
unfoldable pub ended : Ran → ℕ → ℕ → Outcome
ended r size n = pick (still_at r.mem size n) (outcome (answers 0 r.count) r.mem) (outcome (answers (number_of Unfinished) r.count) r.mem)

-- 11, 31, 36 "something can still fire after the lent firings"
unfoldable pub ran : List ℕ → ℕ → Outcome
ran m firings =
    pick (eqb (standing m) 0)
    (ended (runs (size_in m) (operators_of m) firings m 0) (size_in m) (operators_of m))
    (outcome (answers (standing m) 0) m)

-- ---- take

-- 35 "a result port empty or no set untaken"
unfoldable pub result_ready_from : List ℕ → ℕ → ℕ → ℕ → Bool
result_ready_from m base size j = not (eqb (head_from m base size (result_link m j)) 0)

-- "A result set is sixteen values carried whole, with its width; places past the width hold err."
unfoldable pub result_word_from : List ℕ → ℕ → ℕ → ℕ → ℕ → ℕ
result_word_from m base size k j = pick (ltb j k) (head_from m base size (result_link m j)) (word_of err-value)

abbrev pub result_bytes : ℕ
result_bytes = 80

-- the first j values of the result set written, five bytes each
unfoldable pub written_from : ℕ → List ℕ → ℕ → ℕ → ℕ → List ℕ → List ℕ
written_from zero m base size k o = o
written_from (suc j) m base size k o = stored (written_from j m base size k o) (5 * j) (result_word_from m base size k j)

-- "Take removes one value from each result port."
unfoldable pub emptied_from : ℕ → List ℕ → ℕ → ℕ → List ℕ
emptied_from zero m base size = m
emptied_from (suc j) m base size = removed_from (emptied_from j m base size) base size (result_link m j)

-- the same on the links of a machine, from `links_at` on
abbrev pub result_ready : List ℕ → ℕ → ℕ → Bool
result_ready m size j = result_ready_from m links_at size j

abbrev pub result_word : List ℕ → ℕ → ℕ → ℕ → ℕ
result_word m size k j = result_word_from m links_at size k j

abbrev pub written : ℕ → List ℕ → ℕ → ℕ → List ℕ → List ℕ
written j m size k o = written_from j m links_at size k o

abbrev pub emptied : ℕ → List ℕ → ℕ → List ℕ
emptied j m size = emptied_from j m links_at size

unfoldable pub taken_memory : List ℕ → List ℕ
taken_memory m = set (emptied (results_of m) m (size_in m)) untaken_at (untaken_of m - 1)

-- 11 also where the result set has no room, 31, 35
unfoldable pub taken : List ℕ → List ℕ → Handed
taken m o =
    pick (ltb (length o) result_bytes)
    (handed (refusal Memory) m o)
    (pick (eqb (standing m) 0)
    (pick (ltb 0 (untaken_of m) && all_below (results_of m) (result_ready m (size_in m)))
    (handed (answers 0 (results_of m)) (taken_memory m) (written most_results m (size_in m) (results_of m) o))
    (handed (refusal NoResult) m o))
    (handed (answers (standing m) 0) m o))
