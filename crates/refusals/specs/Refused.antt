-- DEMAND 1, second sentence: "A refused call names one of the refusals in document 01 and hands every lent byte back unaltered, save a run that has used up its
-- lent firings", as `refused-call` over all calls; and demand 2, "A call is refused exactly when document 01 gives it a refusal, and with the first in the
-- order there", as `call-exact`. A run by rounds that has used up its lent rounds is such a run too: "the firings kept as at run's 36" (document 02, Job 7). Of a
-- tray of sets "the rule on unaltered memory speaks of the refused set alone" (document 02, Job 1). A log of which the machine would refuse a line gets "16 leaving
-- machine, results and count as the earlier lines made them" (document 02, Job 3). The calls of the machine with tags are among them (document 02, Job 12). The calls are the definitions that the contracts of their entry points cite;
-- a sheet, a kinds line, a set, tolerances or a log are lent for reading only. Assumes nothing.
use Rattle.std.specs.Prelude.{ℕ, ◌≡◌, refl, ◌⊎◌, ◌≢◌, ◌↔◌, List, [], ◌∷◌}
use Rattle.formula.specs.declared.Refusal.{Refusal}
use Rattle.formula.specs.Refusals.{number_of}
use Rattle.formula.specs.Tests.{reading_of}
use Rattle.sheet_read.specs.Reading.{answer_of}
use Rattle.sheet_tidy.specs.Tidying.{tidied_into}
use Rattle.sheet_drift.specs.Drifting.{drifted_into}
use Rattle.sheet_next.specs.Next.{next_into}
use Rattle.eval_sheet.specs.Handed.{handed_out}
use Rattle.machine_calls.specs.Calls.{pushed, fired, ran, taken}
use Rattle.machine_rounds.specs.Rounds.{ran_rounds}
use Rattle.machine_tray.specs.Tray.{trayed}
use Rattle.machine_start.specs.Start.{started}
use Rattle.machine_log.specs.Checked.{checked}
use Rattle.refusals.specs.FirstRefusal.{Row, Named, Among}
use Rattle.refusals.specs.Conditions.{tidy_table, drift_table, next_table, push_table, tray_table, fire_table, run_table, rounds_table, take_table, sheet_table, start_table, evaluate_table, log_table, tagged_start_table, tagged_push_table, tagged_fire_table, tagged_run_table, tagged_take_table, sheet_numbers, tidy_numbers, drift_numbers, next_numbers, push_numbers, tray_numbers, fire_numbers, run_numbers, rounds_numbers, take_numbers, start_numbers, evaluate_numbers, log_numbers, tagged_start_numbers, tagged_push_numbers, tagged_fire_numbers, tagged_run_numbers, tagged_take_numbers}
use Rattle.machine_tags.specs.TagCalls.{tag_pushed, tag_fired, tag_ran, tag_taken}
use Rattle.machine_tag_start.specs.TagStart.{tag_started}
use Rattle.refusals.specs.Rows.{RowTold}
use Rattle.refusals.specs.LogRows.{LogRow}
use Rattle.refusals.specs.Kept.{UsedUpFirings, UsedUpRounds, SetRefused}
use Rattle.refusals.specs.TaggedRefused.{UsedUpTagged}
use Rattle.refusals.specs.LogKept.{AsEarlierLines}

-- The firmware's entry points with what each is lent, in the order of their parameters.
pub data Call : Type 0 where
  read : List ℕ → List ℕ → Call
  tidy : List ℕ → List ℕ → Call
  drift : List ℕ → List ℕ → List ℕ → List ℕ → Call
  next_sheet : List ℕ → List ℕ → Call
  start : List ℕ → List ℕ → ℕ → List ℕ → Call
  push : List ℕ → List ℕ → Call
  tray : List ℕ → List ℕ → ℕ → Call
  fire : List ℕ → ℕ → Call
  run : List ℕ → ℕ → Call
  rounds : List ℕ → ℕ → Call
  take : List ℕ → List ℕ → Call
  evaluate : List ℕ → List ℕ → List ℕ → ℕ → List ℕ → Call
  check_log : List ℕ → List ℕ → ℕ → List ℕ → ℕ → List ℕ → List ℕ → List ℕ → Call
  tagged_start : List ℕ → List ℕ → List ℕ → Call
  tagged_push : List ℕ → List ℕ → Call
  tagged_fire : List ℕ → ℕ → ℕ → Call
  tagged_run : List ℕ → ℕ → Call
  tagged_take : List ℕ → ℕ → List ℕ → Call

unfoldable pub refusal_of : Call → ℕ
refusal_of (read sheet line) = (answer_of (reading_of sheet line)).refusal
refusal_of (tidy sheet out) = (tidied_into sheet out).answer.refusal
refusal_of (drift sheet line tolerances out) = (drifted_into sheet line tolerances out).answer.refusal
refusal_of (next_sheet sheet out) = (next_into sheet out).answer.refusal
refusal_of (start sheet line capacity m) = (started sheet line capacity m).answer.refusal
refusal_of (push m set) = (pushed m set).answer.refusal
refusal_of (tray m sets number) = (trayed m sets number).answer.refusal
refusal_of (fire m operator) = (fired m operator).answer.refusal
refusal_of (run m firings) = (ran m firings).answer.refusal
refusal_of (rounds m number) = (ran_rounds m number).answer.refusal
refusal_of (take m out) = (taken m out).answer.refusal
refusal_of (evaluate sheet line set number out) = (handed_out sheet line set number out).answer.refusal
refusal_of (check_log sheet line capacity sets number log m out) = (checked sheet line capacity sets number log m out).answer.refusal
refusal_of (tagged_start sheet line m) = (tag_started sheet line m).answer.refusal
refusal_of (tagged_push m set) = (tag_pushed m set).answer.refusal
refusal_of (tagged_fire m operator tag) = (tag_fired m operator tag).answer.refusal
refusal_of (tagged_run m firings) = (tag_ran m firings).answer.refusal
refusal_of (tagged_take m tag out) = (tag_taken m tag out).answer.refusal

-- The other numbers of its answer.
unfoldable pub counts_of : Call → List ℕ
counts_of (read sheet line) = let a = answer_of (reading_of sheet line) in a.rows ∷ a.operators ∷ a.inputs ∷ a.results ∷ []
counts_of (tidy sheet out) = (tidied_into sheet out).answer.rows ∷ []
counts_of (drift sheet line tolerances out) = (drifted_into sheet line tolerances out).answer.results ∷ []
counts_of (next_sheet sheet out) = (next_into sheet out).answer.rows ∷ []
counts_of (start sheet line capacity m) = let a = (started sheet line capacity m).answer in a.operators ∷ a.inputs ∷ a.results ∷ []
counts_of (push m set) = (pushed m set).answer.count ∷ []
counts_of (tray m sets number) = (trayed m sets number).answer.count ∷ []
counts_of (fire m operator) = (fired m operator).answer.count ∷ []
counts_of (run m firings) = (ran m firings).answer.count ∷ []
counts_of (rounds m number) = (ran_rounds m number).answer.rounds ∷ (ran_rounds m number).answer.firings ∷ []
counts_of (take m out) = (taken m out).answer.count ∷ []
counts_of (evaluate sheet line set number out) = let a = (handed_out sheet line set number out).answer in a.width ∷ a.rounds ∷ []
counts_of (check_log sheet line capacity sets number log m out) = let a = (checked sheet line capacity sets number log m out).answer in a.count ∷ a.width ∷ []
counts_of (tagged_start sheet line m) = let a = (tag_started sheet line m).answer in a.operators ∷ a.inputs ∷ a.results ∷ []
counts_of (tagged_push m set) = (tag_pushed m set).answer.count ∷ []
counts_of (tagged_fire m operator tag) = (tag_fired m operator tag).answer.count ∷ []
counts_of (tagged_run m firings) = (tag_ran m firings).answer.count ∷ []
counts_of (tagged_take m tag out) = (tag_taken m tag out).answer.count ∷ []

-- The bytes lent for writing, and the same at the call's end.
unfoldable pub lent : Call → List (List ℕ)
lent (read sheet line) = []
lent (tidy sheet out) = out ∷ []
lent (drift sheet line tolerances out) = out ∷ []
lent (next_sheet sheet out) = out ∷ []
lent (start sheet line capacity m) = m ∷ []
lent (push m set) = m ∷ []
lent (tray m sets number) = m ∷ []
lent (fire m operator) = m ∷ []
lent (run m firings) = m ∷ []
lent (rounds m number) = m ∷ []
lent (take m out) = m ∷ out ∷ []
lent (evaluate sheet line set number out) = out ∷ []
lent (check_log sheet line capacity sets number log m out) = m ∷ out ∷ []
lent (tagged_start sheet line m) = m ∷ []
lent (tagged_push m set) = m ∷ []
lent (tagged_fire m operator tag) = m ∷ []
lent (tagged_run m firings) = m ∷ []
lent (tagged_take m tag out) = m ∷ out ∷ []

unfoldable pub handed-back : Call → List (List ℕ)
handed-back (read sheet line) = []
handed-back (tidy sheet out) = (tidied_into sheet out).out ∷ []
handed-back (drift sheet line tolerances out) = (drifted_into sheet line tolerances out).out ∷ []
handed-back (next_sheet sheet out) = (next_into sheet out).out ∷ []
handed-back (start sheet line capacity m) = (started sheet line capacity m).mem ∷ []
handed-back (push m set) = (pushed m set).mem ∷ []
handed-back (tray m sets number) = (trayed m sets number).mem ∷ []
handed-back (fire m operator) = (fired m operator).mem ∷ []
handed-back (run m firings) = (ran m firings).mem ∷ []
handed-back (rounds m number) = (ran_rounds m number).mem ∷ []
handed-back (take m out) = (taken m out).mem ∷ (taken m out).out ∷ []
handed-back (evaluate sheet line set number out) = (handed_out sheet line set number out).out ∷ []
handed-back (check_log sheet line capacity sets number log m out) = (checked sheet line capacity sets number log m out).mem ∷ (checked sheet line capacity sets number log m out).out ∷ []
handed-back (tagged_start sheet line m) = (tag_started sheet line m).mem ∷ []
handed-back (tagged_push m set) = (tag_pushed m set).mem ∷ []
handed-back (tagged_fire m operator tag) = (tag_fired m operator tag).mem ∷ []
handed-back (tagged_run m firings) = (tag_ran m firings).mem ∷ []
handed-back (tagged_take m tag out) = (tag_taken m tag out).mem ∷ (tag_taken m tag out).out ∷ []

-- The table of its refusals, and their numbers.
unfoldable pub table_of : Call → List Row
table_of (read sheet line) = sheet_table sheet line
table_of (tidy sheet out) = tidy_table sheet out
table_of (drift sheet line tolerances out) = drift_table sheet line tolerances out
table_of (next_sheet sheet out) = next_table sheet out
table_of (start sheet line capacity m) = start_table sheet line capacity m
table_of (push m set) = push_table m set
table_of (tray m sets number) = tray_table m sets number
table_of (fire m operator) = fire_table m operator
table_of (run m firings) = run_table m firings
table_of (rounds m number) = rounds_table m number
table_of (take m out) = take_table m out
table_of (evaluate sheet line set number out) = evaluate_table sheet line set number out
table_of (check_log sheet line capacity sets number log m out) = log_table sheet line capacity sets number log m out
table_of (tagged_start sheet line m) = tagged_start_table sheet line m
table_of (tagged_push m set) = tagged_push_table m set
table_of (tagged_fire m operator tag) = tagged_fire_table m operator tag
table_of (tagged_run m firings) = tagged_run_table m firings
table_of (tagged_take m tag out) = tagged_take_table m tag out

unfoldable pub numbers_of : Call → List ℕ
numbers_of (read sheet line) = sheet_numbers
numbers_of (tidy sheet out) = tidy_numbers
numbers_of (drift sheet line tolerances out) = drift_numbers
numbers_of (next_sheet sheet out) = next_numbers
numbers_of (start sheet line capacity m) = start_numbers
numbers_of (push m set) = push_numbers
numbers_of (tray m sets number) = tray_numbers
numbers_of (fire m operator) = fire_numbers
numbers_of (run m firings) = run_numbers
numbers_of (rounds m number) = rounds_numbers
numbers_of (take m out) = take_numbers
numbers_of (evaluate sheet line set number out) = evaluate_numbers
numbers_of (check_log sheet line capacity sets number log m out) = log_numbers
numbers_of (tagged_start sheet line m) = tagged_start_numbers
numbers_of (tagged_push m set) = tagged_push_numbers
numbers_of (tagged_fire m operator tag) = tagged_fire_numbers
numbers_of (tagged_run m firings) = tagged_run_numbers
numbers_of (tagged_take m tag out) = tagged_take_numbers

abbrev pub AllZero : List ℕ → Type 0
AllZero [] = Unit {0}
AllZero (n ∷ ns) = (n ≡ 0) × AllZero ns

-- What a refused call may leave otherwise than it was lent it.
-- "save a run that has used up its lent firings": it gives 36 and their number, and the memory is the one after them. A run by rounds that has used up its lent
-- rounds likewise: "the firings kept as at run's 36" (document 02, Job 7). A tray of sets: "For this call the rule on unaltered memory speaks of the refused set
-- alone" (Job 1). A log: "16 leaving machine, results and count as the earlier lines made them" (Job 3).
abbrev pub Excepted : Call → Type 0
Excepted (read sheet line) = ⊥
Excepted (tidy sheet out) = ⊥
Excepted (drift sheet line tolerances out) = ⊥
Excepted (next_sheet sheet out) = ⊥
Excepted (start sheet line capacity m) = ⊥
Excepted (push m set) = ⊥
Excepted (tray m sets number) = SetRefused m sets number
Excepted (fire m operator) = ⊥
Excepted (run m firings) = UsedUpFirings m firings
Excepted (rounds m number) = UsedUpRounds m number
Excepted (take m out) = ⊥
Excepted (evaluate sheet line set number out) = ⊥
Excepted (check_log sheet line capacity sets number log m out) = AsEarlierLines sheet line capacity sets number log m out
Excepted (tagged_start sheet line m) = ⊥
Excepted (tagged_push m set) = ⊥
Excepted (tagged_fire m operator tag) = ⊥
Excepted (tagged_run m firings) = UsedUpTagged m firings
Excepted (tagged_take m tag out) = ⊥

-- The row of the answers that have one.
abbrev pub RowSaid : Call → Type 0
RowSaid (read sheet line) = RowTold sheet line (answer_of (reading_of sheet line)).refusal (answer_of (reading_of sheet line)).row
RowSaid (tidy sheet out) = RowTold sheet [] (tidied_into sheet out).answer.refusal (tidied_into sheet out).answer.row
RowSaid (drift sheet line tolerances out) = RowTold sheet line (drifted_into sheet line tolerances out).answer.refusal (drifted_into sheet line tolerances out).answer.row
RowSaid (next_sheet sheet out) = RowTold sheet [] (next_into sheet out).answer.refusal (next_into sheet out).answer.row
RowSaid (start sheet line capacity m) = RowTold sheet line (started sheet line capacity m).answer.refusal (started sheet line capacity m).answer.row
RowSaid (push m set) = Unit {0}
RowSaid (tray m sets number) = Unit {0}
RowSaid (fire m operator) = Unit {0}
RowSaid (run m firings) = Unit {0}
RowSaid (rounds m number) = Unit {0}
RowSaid (take m out) = Unit {0}
RowSaid (evaluate sheet line set number out) = RowTold sheet line (handed_out sheet line set number out).answer.refusal (handed_out sheet line set number out).answer.row
RowSaid (check_log sheet line capacity sets number log m out) =
    LogRow sheet line capacity sets number log m (checked sheet line capacity sets number log m out).answer.refusal (checked sheet line capacity sets number log m out).answer.row
RowSaid (tagged_start sheet line m) = RowTold sheet line (tag_started sheet line m).answer.refusal (tag_started sheet line m).answer.row
RowSaid (tagged_push m set) = Unit {0}
RowSaid (tagged_fire m operator tag) = Unit {0}
RowSaid (tagged_run m firings) = Unit {0}
RowSaid (tagged_take m tag out) = Unit {0}

-- ---- a refused call
pub record RefusedCall (c : Call) : Type 0 where
  -- "names one of the refusals in document 01", one of its own
  pub names : Named (refusal_of c)
  pub own : Among (refusal_of c) (numbers_of c)
  -- "3 to 9 give the lowest row at fault, others row 0", 18 and 20 "lowest row given", 15 and 16 "each with the lowest such line"
  pub row : RowSaid c
  -- "hands every lent byte back unaltered, save a run that has used up its lent firings", or its lent rounds, a tray by its refused set alone, and a log's 16
  pub back : ((handed-back c ≡ lent c) × AllZero (counts_of c)) ⊎ Excepted c
