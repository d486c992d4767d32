-- Laws of specs/OneLog.antt, and what only they need.
use Rattle.std.specs.Prelude.{ℕ, ◌≡◌, refl, get_or}
use Rattle.std.proofs.Common.{ap}
use mathlib.Core.List.{List, [], ◌∷◌, map, flatten}
use Rattle.value.specs.Bytes.{word_of, word_at, stored, word_bytes, value_of}
use Rattle.examples.specs.Sheets.{bytes}
use Rattle.formula.specs.Tests.{verdict_of}
use Rattle.value_sets.specs.Sets.{set_ok}
use Rattle.machine_layout.specs.Layout.{capacity_in, number16, name_at, stored16}
use Rattle.machine_queue.specs.Stretch.{head_of, room_in, appended, removed}
use Rattle.machine_firing.specs.Links.{head_from, token_from, room_from, removed_from, appended_from}
use Rattle.machine_valid.specs.Below.{all_below}
use Rattle.machine_valid.specs.Valid.{valid, figures_ok, counts_ok, unlike, unlike_at, fresh_at, result_ok, input_ok, letter_ok, port_ok, named_ok, register_ok, kind_ok, operator_ok, token_ok, stretch_ok, link_ok_from}
use Rattle.machine_calls.specs.Calls.{standing, input_room, rooms_ok, entered_from, triggered_from, pushed_memory, pushed, fired, result_ready_from, result_word_from, written_from, emptied_from, taken_memory, taken}
use Rattle.machine_log.specs.Lines.{lines_of, line_well}
use Rattle.machine_log.specs.Checked.{checked}
use Rattle.demand.specs.LesserStarts.{zeros}
use Rattle.demand_log.specs.LogCalls.{AcceptedLog}
use Rattle.demand_log.proofs.Logs.{log-accepted-iff}
use Rattle.demand_log.specs.OneLog.{seven, check, told, taken-at-once, then-fired, unlisted}

pub three-logs : map (λ (log : List ℕ). told (check log)) (taken-at-once ∷ then-fired ∷ unlisted ∷ [])
    ≡ (0 ∷ 0 ∷ 1 ∷ 1 ∷ seven) ∷ (16 ∷ 3 ∷ 1 ∷ 1 ∷ seven) ∷ (15 ∷ 1 ∷ 0 ∷ 0 ∷ zeros 5) ∷ []
unfolding checked bytes capacity_in verdict_of set_ok lines_of line_well zeros pushed standing valid all_below figures_ok counts_ok unlike unlike_at fresh_at result_ok input_ok letter_ok port_ok named_ok register_ok kind_ok operator_ok token_ok stretch_ok link_ok_from pushed_memory triggered_from entered_from rooms_ok input_room taken taken_memory emptied_from written_from result_word_from result_ready_from number16 name_at head_from token_from room_from removed_from appended_from head_of room_in appended removed word_of word_at stored word_bytes value_of stored16 fired flatten taken-at-once then-fired unlisted
three-logs = refl

-- So the log of a push and a take is one "of which every line would have been accepted".
pub accepted-log : AcceptedLog (bytes "     1     0     0     0     0\n") (bytes "W\n") 1 seven 1 taken-at-once (zeros 40390) (zeros 80)
accepted-log =
    (log-accepted-iff (bytes "     1     0     0     0     0\n") (bytes "W\n") 1 seven 1 taken-at-once (zeros 40390) (zeros 80)
    ).0 (ap (λ (told : List (List ℕ)). get_or (get_or told 0 []) 0 0) three-logs)
