-- The calls of the machine with tags (document 02, Job 12), each as a function from what it is lent to its answer and every lent byte at its end: push, fire,
-- run, take. "Each set gets the lowest free tag, 0 to 15, and push gives it back", as its count; fire and take name a tag. Refusals in order: 11, 31, 12, then
-- "37 when no tag is free, in place of 32 and 33", 34, 36, "38 when take's tag has no whole result, in place of 35". A refused call leaves every byte as it was, save
-- run's 36. What a push and a take do to links are the first machine's definitions (machine_calls/specs/Calls) on the links of the tag's plane. Assumes nothing.
use Rattle.std.specs.Prelude.{ℕ, ◌+◌, Bool, ◌&&◌, List, length, set, ltb, eqb}
use Rattle.value.specs.Operators.{pick}
use Rattle.value_sets.specs.Sets.{set_ok}
use Rattle.formula.specs.declared.Refusal.TheVariants.{Memory, Set, Altered, NotAble, Unfinished, NoTag, NoTagResult}
use Rattle.formula.specs.Refusals.{number_of}
use Rattle.machine_queue.specs.Stretch.{waiting}
use Rattle.machine_layout.specs.Layout.{most_results, least_size, operators_of, links_of, results_of, stored_kinds}
use Rattle.machine_firing.specs.LinkLaws.{link_part_from}
use Rattle.machine_valid.specs.Below.{all_below}
use Rattle.machine_runs.specs.Run.{Ran}
use Rattle.machine_calls.specs.Calls.{Outcome, Handed, outcome, handed, answers, refusal, triggered_from, result_ready_from, result_bytes, written_from, emptied_from}
use Rattle.machine_planes.specs.Planes.{most_tags, plane_at, tags_at, untaken_under, tagged_need}
use Rattle.machine_tags.specs.Least.{least}
use Rattle.machine_tags.specs.TagRun.{able_under, fired_under, tag_runs, tag_still}
use Rattle.machine_tags.specs.TagValid.{tag_valid}

-- 11 "lent memory shorter than the call's need", 31 (TagValid); 0 where neither
unfoldable pub tag_standing : List ℕ → ℕ
tag_standing m = pick (ltb (length m) tagged_need) (number_of Memory) (pick (tag_valid m) 0 (number_of Altered))

-- ---- free tags

-- no token of tag t is left on link l
unfoldable pub empty_link : List ℕ → ℕ → ℕ → Bool
empty_link m t l = eqb (waiting (link_part_from m (plane_at t) least_size l)) 0

-- "A tag is free again as soon as, and not before, its result is taken and no token with it is left on any link, for a gate may still have to absorb one"
unfoldable pub free_tag : List ℕ → ℕ → Bool
free_tag m t = eqb (untaken_under m t) 0 && all_below (links_of m) (empty_link m t)

-- "the lowest free tag, 0 to 15", or 16
unfoldable pub lowest_free : List ℕ → ℕ
lowest_free m = least (free_tag m) most_tags

-- ---- push

-- one value to each input link of the tag, one trigger if that link exists; the tag has a set untaken
unfoldable pub tag_pushed_memory : List ℕ → List ℕ → ℕ → List ℕ
tag_pushed_memory m s t = set (triggered_from m (plane_at t) least_size s) (tags_at + t) 1

-- 11, 31, 12 by the stored kinds, 37
unfoldable pub tag_pushed : List ℕ → List ℕ → Outcome
tag_pushed m s =
    pick (eqb (tag_standing m) 0)
    (pick (set_ok (stored_kinds m) s)
    (pick (ltb (lowest_free m) most_tags)
    (outcome (answers 0 (lowest_free m)) (tag_pushed_memory m s (lowest_free m)))
    (outcome (refusal NoTag) m))
    (outcome (refusal Set) m))
    (outcome (answers (tag_standing m) 0) m)

-- ---- fire

-- 11, 31, 34 "the operator is absent or not able"; "34 covers an absent tag"
unfoldable pub tag_fired : List ℕ → ℕ → ℕ → Outcome
tag_fired m i t =
    pick (eqb (tag_standing m) 0)
    (pick (ltb i (operators_of m) && (ltb t most_tags && able_under m i t))
    (outcome (answers 0 0) (fired_under m i t))
    (outcome (refusal NotAble) m))
    (outcome (answers (tag_standing m) 0) m)

-- ---- run

-- "A run's 36 keeps its firings and gives their count."
unfoldable pub tag_ended : Ran → ℕ → Outcome
tag_ended r n = pick (tag_still r.mem n) (outcome (answers 0 r.count) r.mem) (outcome (answers (number_of Unfinished) r.count) r.mem)

-- 11, 31, 36
unfoldable pub tag_ran : List ℕ → ℕ → Outcome
tag_ran m firings =
    pick (eqb (tag_standing m) 0)
    (tag_ended (tag_runs (operators_of m) firings m 0) (operators_of m))
    (outcome (answers (tag_standing m) 0) m)

-- ---- take

-- the tag has a set untaken, and a token of it waits on each result port
unfoldable pub whole_result : List ℕ → ℕ → Bool
whole_result m t = eqb (untaken_under m t) 1 && all_below (results_of m) (result_ready_from m (plane_at t) least_size)

unfoldable pub tag_taken_memory : List ℕ → ℕ → List ℕ
tag_taken_memory m t = set (emptied_from (results_of m) m (plane_at t) least_size) (tags_at + t) 0

-- 11 also where the result set has no room, 31, 38 also where there is no such tag
unfoldable pub tag_taken : List ℕ → ℕ → List ℕ → Handed
tag_taken m t o =
    pick (ltb (length o) result_bytes)
    (handed (refusal Memory) m o)
    (pick (eqb (tag_standing m) 0)
    (pick (ltb t most_tags && whole_result m t)
    (handed (answers 0 (results_of m)) (tag_taken_memory m t) (written_from most_results m (plane_at t) least_size (results_of m) o))
    (handed (refusal NoTagResult) m o))
    (handed (answers (tag_standing m) 0) m o))
