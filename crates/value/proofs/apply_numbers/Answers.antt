use mathlib.Core.Path.{sym, ◌∙◌}
use Rattle.value.proofs.Codes.{whole-beside, real-beside, no-number-first}
use Rattle.value.proofs.apply_numbers.Goals as goal
use Rattle.value.proofs.apply_numbers.Goals.{in_default-via-in-Whole+in_default, in_default-via-in-Real+in_default, in_default-via-in_default}

pub returns-in_default : goal.returns-in_default
returns-in_default c =
    c.hand_on.ensures
    ∙ elim c.in_default.branch [
      | in_default-via-in-Whole+in_default w ↦ rw w.in_default.is-0 (sym (whole-beside c.args.code c.requires.0 c.requires.1 _ c.args.b w.in_default.not-Whole-1))
      | in_default-via-in-Real+in_default w ↦ rw w.in_default.is-0 (sym (real-beside c.args.code c.requires.0 c.requires.1 _ c.args.b w.in_default.not-Real-1))
      | in_default-via-in_default w ↦ sym (no-number-first c.args.code c.requires.0 c.requires.1 c.args.a c.args.b w.in_default.not-Whole-0 w.in_default.not-Real-0)
    ]
