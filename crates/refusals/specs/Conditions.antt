-- The refusals of each call as an ordered table, each condition by name: document 01, "Said by what was handed in" and "Said by how the machine stands",
-- "11 comes before all", "Order: 11, 31, 12, then these", "14 .. (start: after 11, before 1)"; document 02, Job 6, "17 .., 18 .., in this order after 9 and
-- before 10"; document 02, Job 7, "36 is given when something can fire after them"; document 02, Job 3, "15 tested over the whole log first, both after 12";
-- document 02, Job 13, "20 .., after 10, and 21 .., after 20"; document 02, Job 14, "both after 11"; document 02, Job 12, "19 .., after 10, and 37 .., in place of
-- 32 and 33, and 38 .., in place of 35".
-- Definitions only; assumes nothing.
use Rattle.std.specs.Prelude.{ℕ, zero, suc, ◌-◌, ◌*◌, Bool, true, false, not, ◌&&◌, ◌||◌, List, [], ◌∷◌, ◌++◌, eqb, leb, ltb, length, take, drop, Ok, Err}
use Rattle.std.proofs.Math.Option.{Option, some, none}
use Rattle.value.specs.declared.Value.{Value}
use Rattle.formula.specs.declared.Refusal.TheVariants.{Layout, Rows, Malformed, Range, Naming, Named, StrayIter, Width, Unused, Operators, Memory, Set, Capacity, LogLine, LogRefused, KindsLine, KindsBroken, Loop, Sort, Movement, Unlisted, LastListed, Altered, Untaken, Full, NotAble, NoResult, Unfinished, NoTag, NoTagResult}
use Rattle.formula.specs.Results.{Check}
use Rattle.formula.specs.Sheet.{row_count, lines_of, fields_of}
use Rattle.formula.specs.Places.{places_of}
use Rattle.formula.specs.Tree.{Exp, formula_of}
use Rattle.formula.specs.Free.{free_e}
use Rattle.formula.specs.Faults.{letters_of}
use Rattle.formula.specs.Tests.{lowest, laid_out, few_rows, fields_well, ranges_well, names_well, named_once, all_named, placed_well, widths_well, bound_well, line_fits, kinds_kept, operators_of as operators_in}
use Rattle.sheet_tidied.specs.Tidy.{tidy_need}
use Rattle.sheet_listed.specs.Small.{is_small, Behind, none-behind, unlisted, next_of}
use Rattle.sheet_movement.specs.Sorts.{sorts_kept}
use Rattle.sheet_movement.specs.Moves.{movements_fit}
use Rattle.meaning.specs.Meaning.{Outcome, yields, inputs_hold, eval_e}
use Rattle.value_sets.specs.Sets.{set_values, set_ok}
use Rattle.machine_layout.specs.Layout.{size_of, need, capacity_in, operators_of, inputs_of, results_of, untaken_of, stored_kinds}
use Rattle.machine_firing.specs.Fire.{able_at}
use Rattle.machine_valid.specs.Below.{all_below}
use Rattle.machine_valid.specs.Valid.{valid}
use Rattle.machine_runs.specs.Run.{runs, still_at}
use Rattle.machine_calls.specs.Calls.{size_in, rooms_ok, pushed, result_ready}
use Rattle.machine_rounds.specs.Rounds.{rounds_from}
use Rattle.machine_log.specs.Lines.{log_check}
use Rattle.machine_log.specs.Checked.{set_list, all_sets, room_for, followed_log}
use Rattle.machine_planes.specs.Planes.{most_tags, tagged_need}
use Rattle.machine_tags.specs.TagRun.{able_under, tag_runs, tag_still}
use Rattle.machine_tags.specs.TagValid.{tag_valid}
use Rattle.machine_tags.specs.TagCalls.{free_tag, whole_result}
use Rattle.machine_tag_start.specs.TagStart.{has_for}
use Rattle.refusals.specs.FirstRefusal.{Row}

-- ---- how the machine stands

-- 11 "lent memory shorter than the call's need", by the capacity stored
abbrev pub short : List ℕ → Bool
short m = ltb (length m) (need (size_in m))

-- 11 for what the call writes out: a result set is eighty bytes
abbrev pub no_room : List ℕ → Bool
no_room out = ltb (length out) 80

-- 31 "a stored figure or token outside its range, or a link named twice by one operator, the inputs or the results"
abbrev pub altered : List ℕ → Bool
altered m = not (valid m)

-- 12 "a set with another number of values than inputs, a bad value field"; "Sets with another kind are refused with 12", by the kinds stored
abbrev pub no-set : List ℕ → List ℕ → Bool
no-set m set = not (set_ok (stored_kinds m) set)

-- 32 "sixteen sets untaken"
abbrev pub sixteen-untaken : List ℕ → Bool
sixteen-untaken m = leb 16 (untaken_of m)

-- 33 "an input link, or the trigger's link where it exists, full"
abbrev pub link-full : List ℕ → Bool
link-full m = not (rooms_ok m (size_in m) (inputs_of m))

-- 34 "the operator is absent or not able"
abbrev pub not-able : List ℕ → ℕ → Bool
not-able m i = not (ltb i (operators_of m) && able_at m (size_in m) i)

-- 36 "run: something can still fire after the lent firings"
abbrev pub can-still-fire : List ℕ → ℕ → Bool
can-still-fire m firings = not (still_at (runs (size_in m) (operators_of m) firings m 0).mem (size_in m) (operators_of m))

-- 36 of a run by rounds: "when something can fire after them", the lent rounds
abbrev pub can-fire-after-rounds : List ℕ → ℕ → Bool
can-fire-after-rounds m number = not (still_at (rounds_from (size_in m) (operators_of m) number m 0 0).mem (size_in m) (operators_of m))

-- 35 "a result port empty or no set untaken"
abbrev pub no_result : List ℕ → Bool
no_result m = not (ltb 0 (untaken_of m) && all_below (results_of m) (result_ready m (size_in m)))

-- "Order: 11, 31, 12, then these"
abbrev pub push_table : List ℕ → List ℕ → List Row
push_table m set =
    (short m, Memory)
    ∷ (altered m, Altered)
    ∷ (no-set m set, Set)
    ∷ (sixteen-untaken m, Untaken)
    ∷ (link-full m, Full)
    ∷ []

-- n sets of k bytes behind each other: the first set's table, then the others' on the memory after its push
abbrev pub turn_table : ℕ → ℕ → List ℕ → List ℕ → List Row
turn_table zero k m sets = []
turn_table (suc n) k m sets = push_table m (take k sets) ++ turn_table n k (pushed m (take k sets)).mem (drop k sets)

-- "a tray of none tests 11 and 31 only"; else "a given number of sets .., each as long as the inputs ask": five bytes a value
abbrev pub tray_table : List ℕ → List ℕ → ℕ → List Row
tray_table m sets zero =
    (short m, Memory)
    ∷ (altered m, Altered)
    ∷ []
tray_table m sets (suc n) = turn_table (suc n) (5 * inputs_of m) m sets

abbrev pub fire_table : List ℕ → ℕ → List Row
fire_table m i =
    (short m, Memory)
    ∷ (altered m, Altered)
    ∷ (not-able m i, NotAble)
    ∷ []

abbrev pub run_table : List ℕ → ℕ → List Row
run_table m firings =
    (short m, Memory)
    ∷ (altered m, Altered)
    ∷ (can-still-fire m firings, Unfinished)
    ∷ []

abbrev pub rounds_table : List ℕ → ℕ → List Row
rounds_table m number =
    (short m, Memory)
    ∷ (altered m, Altered)
    ∷ (can-fire-after-rounds m number, Unfinished)
    ∷ []

abbrev pub take_table : List ℕ → List ℕ → List Row
take_table m out =
    (no_room out, Memory)
    ∷ (short m, Memory)
    ∷ (altered m, Altered)
    ∷ (no_result m, NoResult)
    ∷ []

-- ---- the machine with tags, by how it stands

-- 11, whatever the memory holds
abbrev pub tagged-short : List ℕ → Bool
tagged-short m = ltb (length m) tagged_need

-- 31 with the figures of this machine
abbrev pub tagged-altered : List ℕ → Bool
tagged-altered m = not (tag_valid m)

-- 37 "when no tag is free"
abbrev pub no-tag-free : List ℕ → Bool
no-tag-free m = all_below most_tags (λ t. not (free_tag m t))

-- 34 "the operator is absent or not able"; "34 covers an absent tag"
abbrev pub not-able-under : List ℕ → ℕ → ℕ → Bool
not-able-under m i t = not (ltb i (operators_of m) && (ltb t most_tags && able_under m i t))

-- 36 "run: something can still fire after the lent firings", under some tag
abbrev pub can-still-fire-tagged : List ℕ → ℕ → Bool
can-still-fire-tagged m firings = not (tag_still (tag_runs (operators_of m) firings m 0).mem (operators_of m))

-- 38 "when take's tag has no whole result", an absent one too
abbrev pub no-result-under : List ℕ → ℕ → Bool
no-result-under m t = not (ltb t most_tags && whole_result m t)

abbrev pub tagged_push_table : List ℕ → List ℕ → List Row
tagged_push_table m set =
    (tagged-short m, Memory)
    ∷ (tagged-altered m, Altered)
    ∷ (no-set m set, Set)
    ∷ (no-tag-free m, NoTag)
    ∷ []

abbrev pub tagged_fire_table : List ℕ → ℕ → ℕ → List Row
tagged_fire_table m i t =
    (tagged-short m, Memory)
    ∷ (tagged-altered m, Altered)
    ∷ (not-able-under m i t, NotAble)
    ∷ []

abbrev pub tagged_run_table : List ℕ → ℕ → List Row
tagged_run_table m firings =
    (tagged-short m, Memory)
    ∷ (tagged-altered m, Altered)
    ∷ (can-still-fire-tagged m firings, Unfinished)
    ∷ []

abbrev pub tagged_take_table : List ℕ → ℕ → List ℕ → List Row
tagged_take_table m t out =
    (no_room out, Memory)
    ∷ (tagged-short m, Memory)
    ∷ (tagged-altered m, Altered)
    ∷ (no-result-under m t, NoTagResult)
    ∷ []

-- ---- what was handed in

-- some row is at fault
abbrev pub failed : Check → Bool
failed (Ok _) = false
failed (Err row) = true

-- 1 to 5, each "tested over the whole sheet before the next"
abbrev pub row_table : List ℕ → List Row
row_table s =
    (not (laid_out s (lines_of s)), Layout)
    ∷ (not (few_rows s), Rows)
    ∷ (failed (lowest (row_count s) (fields_well (lines_of s))), Malformed)
    ∷ (failed (lowest (row_count s) (ranges_well (fields_of s))), Range)
    ∷ (failed (lowest (row_count s) (names_well (fields_of s))), Naming)
    ∷ []

-- 1 to 9, 17, 18 and 10
abbrev pub sheet_table : List ℕ → List ℕ → List Row
sheet_table s line =
    row_table s
    ++ ((failed (lowest (row_count s - 1) (λ r. named_once (all_named (fields_of s) (row_count s)) r)), Named)
    ∷ (failed (lowest (row_count s) (placed_well (fields_of s) (places_of (fields_of s) (row_count s)))), StrayIter)
    ∷ (failed (lowest (row_count s) (widths_well (fields_of s) (places_of (fields_of s) (row_count s)))), Width)
    ∷ (failed (lowest (row_count s) (bound_well (fields_of s) (places_of (fields_of s) (row_count s)))), Unused)
    ∷ (not (line_fits (fields_of s) (row_count s) line), KindsLine)
    ∷ (failed (kinds_kept (fields_of s) (row_count s) line), KindsBroken)
    ∷ (not (leb (operators_in (fields_of s) (row_count s)) 1024), Operators)
    ∷ [])

-- 11 for a tidied sheet, by the length of the sheet
abbrev pub no-room-to-tidy : List ℕ → List ℕ → Bool
no-room-to-tidy s out = ltb (length out) (tidy_need s)

-- "Tests 1 to 5 are made by the tidy call itself", behind 11
abbrev pub tidy_table : List ℕ → List ℕ → List Row
tidy_table s out = (no-room-to-tidy s out, Memory) ∷ row_table s

-- 11 for the numbers of sixteen results, the most that a formula has
abbrev pub no-room-for-drift : List ℕ → Bool
no-room-for-drift out = ltb (length out) 64

-- 20 "when a row is of another sort or has a value not of kind W", 21 "when the tolerances are not as many as the inputs, one is out of range or any row's
-- number passes 2,147,483,647"
abbrev pub movement_table : List ℕ → List ℕ → List ℕ → List Row
movement_table s line tolerances =
    (failed (sorts_kept (fields_of s) (row_count s) line), Sort)
    ∷ (not (movements_fit (fields_of s) (row_count s) tolerances), Movement)
    ∷ []

-- 11, the sheet's, "20 .., after 10, and 21 .., after 20"
abbrev pub drift_table : List ℕ → List ℕ → List ℕ → List ℕ → List Row
drift_table s line tolerances out = (no-room-for-drift out, Memory) ∷ (sheet_table s line ++ movement_table s line tolerances)

-- 11 for five rows, the most that a small sheet has
abbrev pub no-room-for-next : List ℕ → Bool
no-room-for-next out = ltb (length out) 155

abbrev pub is-empty : List ℕ → Bool
is-empty [] = true
is-empty (x ∷ s) = false

-- 22 "when the given sheet is neither empty nor in the list", which has the small sheets
abbrev pub not_listed : List ℕ → Bool
not_listed s = not (is-empty s || is_small s)

abbrev pub is_last : Behind → Bool
is_last (Behind.next u) = false
is_last none-behind = true
is_last unlisted = false

-- "22 .., and 23 when it is the last one, both after 11"
abbrev pub next_table : List ℕ → List ℕ → List Row
next_table s out =
    (no-room-for-next out, Memory)
    ∷ (not_listed s, Unlisted)
    ∷ (is_last (next_of s), LastListed)
    ∷ []

-- 11 by the capacity asked
abbrev pub short-asked : ℕ → List ℕ → Bool
short-asked capacity m = ltb (length m) (need (size_of (capacity_in capacity)))

-- 14 "capacity outside 1..16"
abbrev pub capacity-outside : ℕ → Bool
capacity-outside capacity = not (leb 1 capacity && leb capacity 16)

-- "14 .. (start: after 11, before 1)"
abbrev pub start_table : List ℕ → List ℕ → ℕ → List ℕ → List Row
start_table sheet line capacity m =
    (short-asked capacity m, Memory)
    ∷ (capacity-outside capacity, Capacity)
    ∷ sheet_table sheet line

-- 11, the sheet's, "19 when the sheet has a for, after 10"
abbrev pub tagged_start_table : List ℕ → List ℕ → List ℕ → List Row
tagged_start_table sheet line m = (tagged-short m, Memory) ∷ (sheet_table sheet line ++ ((has_for sheet, Loop) ∷ []))

abbrev pub is_none : Option (List Value) → Bool
is_none (some vs) = false
is_none none = true

abbrev pub is-unfinished : Outcome → Bool
is-unfinished (yields vs left) = false
is-unfinished Outcome.unfinished = true

-- 12 for evaluation: the set's bytes are not as many values as the formula has inputs, each of its kind or an err
abbrev pub no-values : List ℕ → List ℕ → List ℕ → Bool
no-values sheet line set = is_none (set_values (letters_of (formula_of sheet) line) set)

abbrev pub lacking : Exp → ℕ → Option (List Value) → Bool
lacking x rounds (some vs) = is-unfinished (eval_e x (inputs_hold (free_e x) vs) rounds)
lacking x rounds none = false

-- 36 "evaluation: more rounds needed than lent"
abbrev pub rounds-lacking : List ℕ → List ℕ → List ℕ → ℕ → Bool
rounds-lacking sheet line set rounds = lacking (formula_of sheet) rounds (set_values (letters_of (formula_of sheet) line) set)

-- 11, the sheet's, 12, 36
abbrev pub evaluate_table : List ℕ → List ℕ → List ℕ → ℕ → List ℕ → List Row
evaluate_table sheet line set rounds out =
    (no_room out, Memory)
    ∷ (sheet_table sheet line
    ++ ((no-values sheet line set, Set)
    ∷ (rounds-lacking sheet line set rounds, Unfinished)
    ∷ []))

-- ---- a log and what it is checked with

-- 11 for the results that a log of these bytes may hand out
abbrev pub no-room-for : List ℕ → List ℕ → Bool
no-room-for log out = ltb (length out) (room_for (length log))

-- 12 for some set of the list, whether a line names it or not
abbrev pub no-list : List ℕ → List ℕ → List ℕ → ℕ → Bool
no-list sheet line sets number =
    let kinds : List ℕ = letters_of (formula_of sheet) line in
    not (all_sets kinds (set_list kinds sets number))

-- 15 "when a line is malformed, names a set not in the list or is line 4,097"
abbrev pub line-at-fault : ℕ → List ℕ → Bool
line-at-fault number log = failed (log_check number log)

-- 16 "when the machine would refuse the line": some line of those that are followed from the empty machine
abbrev pub line_refused : List ℕ → List ℕ → ℕ → List ℕ → ℕ → List ℕ → List ℕ → Bool
line_refused sheet line capacity sets number log m = not (eqb (followed_log sheet line capacity sets number log m).line 0)

-- 11 and 14 as of a start, the sheet's, 12, "15 tested over the whole log first, both after 12", 16
abbrev pub log_table : List ℕ → List ℕ → ℕ → List ℕ → ℕ → List ℕ → List ℕ → List ℕ → List Row
log_table sheet line capacity sets number log m out =
    (short-asked capacity m, Memory)
    ∷ (no-room-for log out, Memory)
    ∷ (capacity-outside capacity, Capacity)
    ∷ (sheet_table sheet line
    ++ ((no-list sheet line sets number, Set)
    ∷ (line-at-fault number log, LogLine)
    ∷ (line_refused sheet line capacity sets number log m, LogRefused)
    ∷ []))

-- ---- the numbers that each call can give, in their order

abbrev pub sheet_numbers : List ℕ
sheet_numbers = 1 ∷ 2 ∷ 3 ∷ 4 ∷ 5 ∷ 6 ∷ 7 ∷ 8 ∷ 9 ∷ 17 ∷ 18 ∷ 10 ∷ []

abbrev pub tidy_numbers : List ℕ
tidy_numbers = 11 ∷ 1 ∷ 2 ∷ 3 ∷ 4 ∷ 5 ∷ []

abbrev pub drift_numbers : List ℕ
drift_numbers = 11 ∷ (sheet_numbers ++ (20 ∷ 21 ∷ []))

abbrev pub next_numbers : List ℕ
next_numbers = 11 ∷ 22 ∷ 23 ∷ []

abbrev pub push_numbers : List ℕ
push_numbers = 11 ∷ 31 ∷ 12 ∷ 32 ∷ 33 ∷ []

abbrev pub tray_numbers : List ℕ
tray_numbers = push_numbers

abbrev pub fire_numbers : List ℕ
fire_numbers = 11 ∷ 31 ∷ 34 ∷ []

abbrev pub run_numbers : List ℕ
run_numbers = 11 ∷ 31 ∷ 36 ∷ []

abbrev pub rounds_numbers : List ℕ
rounds_numbers = 11 ∷ 31 ∷ 36 ∷ []

abbrev pub take_numbers : List ℕ
take_numbers = 11 ∷ 31 ∷ 35 ∷ []

abbrev pub start_numbers : List ℕ
start_numbers = 11 ∷ 14 ∷ sheet_numbers

abbrev pub evaluate_numbers : List ℕ
evaluate_numbers = 11 ∷ (sheet_numbers ++ (12 ∷ 36 ∷ []))

abbrev pub log_numbers : List ℕ
log_numbers = 11 ∷ 14 ∷ (sheet_numbers ++ (12 ∷ 15 ∷ 16 ∷ []))

abbrev pub tagged_start_numbers : List ℕ
tagged_start_numbers = 11 ∷ (sheet_numbers ++ (19 ∷ []))

abbrev pub tagged_push_numbers : List ℕ
tagged_push_numbers = 11 ∷ 31 ∷ 12 ∷ 37 ∷ []

abbrev pub tagged_fire_numbers : List ℕ
tagged_fire_numbers = 11 ∷ 31 ∷ 34 ∷ []

abbrev pub tagged_run_numbers : List ℕ
tagged_run_numbers = 11 ∷ 31 ∷ 36 ∷ []

abbrev pub tagged_take_numbers : List ℕ
tagged_take_numbers = 11 ∷ 31 ∷ 38 ∷ []
