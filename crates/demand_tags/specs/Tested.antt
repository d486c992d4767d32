-- The calls of the machine with tags by the tests that they meet, in their order: lent too little, and each case of a push, a fire, a run and a take of a memory in good standing.
-- Assumes nothing.
use Rattle.std.specs.Prelude.{ℕ, ◌≤◌, ◌<◌, ◌≡◌, ◌≢◌, Bool, List, length}
use Rattle.std.proofs.Math.Bool.{true}
use borrow.Author.Tests.{ltb-true, ltb-false, lt-ltb, le-ltb}
use Rattle.value.specs.Operators.{pick}
use Rattle.formula.specs.declared.Refusal.TheVariants.{Memory, Set, Altered, NotAble, Unfinished, NoTag, NoTagResult}
use Rattle.formula.specs.Refusals.{number_of}
use Rattle.value_sets.specs.Sets.{set_ok}
use Rattle.machine_layout.specs.Layout.{most_results, least_size, operators_of, results_of, stored_kinds}
use Rattle.machine_runs.specs.Run.{Ran}
use Rattle.machine_calls.specs.Calls.{Outcome, outcome, handed, answers, refusal, written_from}
use Rattle.machine_planes.specs.Planes.{most_tags, plane_at, tagged_need}
use Rattle.machine_tags.specs.TagRun.{able_under, fired_under, tag_runs, tag_still}
use Rattle.machine_tags.specs.TagCalls.{tag_standing, lowest_free, tag_pushed_memory, tag_pushed, tag_fired, tag_ended, tag_ran, whole_result, tag_taken_memory, tag_taken}

-- ---- a memory in good standing
pub data PushCase (m s : List ℕ) : Type 0 where
  no-set : tag_pushed m s ≡ outcome (refusal Set) m → PushCase m s
  none_free : most_tags ≤ lowest_free m → tag_pushed m s ≡ outcome (refusal NoTag) m → PushCase m s
  went-in : set_ok (stored_kinds m) s ≡ true → lowest_free m < most_tags → tag_pushed m s ≡ outcome (answers 0 (lowest_free m)) (tag_pushed_memory m s (lowest_free m)) → PushCase m s

pub data FireCase (m : List ℕ) (i t : ℕ) : Type 0 where
  not-able : tag_fired m i t ≡ outcome (refusal NotAble) m → FireCase m i t
  able : i < operators_of m → t < most_tags → able_under m i t ≡ true → tag_fired m i t ≡ outcome (answers 0 0) (fired_under m i t) → FireCase m i t

pub data TakeCase (m : List ℕ) (t : ℕ) (o : List ℕ) : Type 0 where
  no_room : tag_taken m t o ≡ handed (refusal Memory) m o → TakeCase m t o
  not-whole : tag_taken m t o ≡ handed (refusal NoTagResult) m o → TakeCase m t o
  whole : 80 ≤ length o → t < most_tags → whole_result m t ≡ true
      → tag_taken m t o ≡ handed (answers 0 (results_of m)) (tag_taken_memory m t) (written_from most_results m (plane_at t) least_size (results_of m) o) → TakeCase m t o

abbrev pub ended : Bool → Ran → Outcome
ended b r = pick b (outcome (answers 0 r.count) r.mem) (outcome (answers (number_of Unfinished) r.count) r.mem)
