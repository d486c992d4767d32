-- Demand 2's last sentence for a tray of sets: its refusal is the first of its table, and one of push's numbers. Assumes nothing.
use Rattle.std.specs.Prelude.{ℕ, zero, suc, ◌≡◌, refl, Bool, true, false, not, ◌⊎◌, List, [], ◌∷◌, ◌++◌, take, drop}
use Rattle.value.specs.Operators.{pick}
use Rattle.formula.specs.declared.Refusal.TheVariants.{Memory, Altered}
use Rattle.machine_valid.specs.Valid.{valid}
use Rattle.machine_calls.specs.Calls.{Outcome, standing, pushed}
use Rattle.machine_tray.specs.Tray.{set_bytes, pushed_in_turn, trayed}
use Rattle.machine_tray.specs.TrayLaws.{turn-refused, turn-accepted, turns-over, tray-of-none, tray-in-turn}

abbrev pub refusal_in : Outcome → ℕ
refusal_in o = o.answer.refusal
