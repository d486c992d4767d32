-- What `AcceptedLog` asks can be met, and a log's three outcomes occur, by computation: the sheet of one identifier, which has no operators, at capacity 1 in the 40,390
-- bytes that its machine needs, with a list of one set, the whole number 7. A push and a take are accepted and hand out 7; a firing behind them is refused, with 16 at
-- line 3, and leaves that result; a push of set 2 is refused with 15.
use Rattle.std.specs.Prelude.{ℕ, ◌≡◌, refl, get_or, take as first_of}
use mathlib.Core.List.{List, [], ◌∷◌, map, flatten}
use Rattle.value.specs.Bytes.{word_of, word_at, stored, word_bytes, value_of}
use Rattle.examples.specs.Sheets.{bytes}
use Rattle.formula.specs.Tests.{verdict_of}
use Rattle.value_sets.specs.Sets.{set_ok}
use Rattle.machine_layout.specs.Layout.{capacity_in, number16, name_at, stored16}
use Rattle.machine_queue.specs.Stretch.{head_of, room_in, appended, removed}
use Rattle.machine_firing.specs.Links.{head_from, token_from, room_from, removed_from, appended_from}
use Rattle.machine_valid.specs.Below.{all_below}
use Rattle.machine_valid.specs.Valid.{valid, figures_ok, counts_ok, unlike, unlike_at, fresh_at, result_ok, input_ok, letter_ok, port_ok, named_ok, register_ok, kind_ok, operator_ok, token_ok, stretch_ok, link_ok_from}
use Rattle.machine_calls.specs.Calls.{standing, input_room, rooms_ok, entered_from, triggered_from, pushed_memory, pushed, fired, result_ready_from, result_word_from, written_from, emptied_from, taken_memory, taken}
use Rattle.machine_log.specs.Lines.{lines_of, line_well}
use Rattle.machine_log.specs.Checked.{Checked, checked}
use Rattle.demand.specs.LesserStarts.{zeros}

abbrev pub seven : List ℕ
seven = 1 ∷ 7 ∷ 0 ∷ 0 ∷ 0 ∷ []

-- A log checked with room for one result, and what it tells: refusal, row, count, width and the first five bytes of the room.
abbrev pub check : List ℕ → Checked
check log = checked (bytes "     1     0     0     0     0\n") (bytes "W\n") 1 seven 1 log (zeros 40390) (zeros 80)

abbrev pub told : Checked → List ℕ
told c = c.answer.refusal ∷ c.answer.row ∷ c.answer.count ∷ c.answer.width ∷ first_of 5 c.out

unfoldable pub taken-at-once : List ℕ
taken-at-once = bytes "     1     1\n     3     0\n"

unfoldable pub then-fired : List ℕ
then-fired = bytes "     1     1\n     3     0\n     2     0\n"

unfoldable pub unlisted : List ℕ
unlisted = bytes "     1     2\n"
