use mathlib.Core.Path.{sym, ◌∙◌}
use Rattle.value.proofs.Codes.{truth-beside, err-beside, no-truth-first}
use Rattle.value.proofs.apply_logical.Goals as goal
use Rattle.value.proofs.apply_logical.Goals.{in_default-via-in-Truth+in_default, in_default-via-in-Err+in_default, in_default-via-in_default}

pub returns-in_default : goal.returns-in_default
returns-in_default c =
    c.hand_on.ensures
    ∙ elim c.in_default.branch [
      | in_default-via-in-Truth+in_default w ↦ rw w.in_default.is-0 (sym (truth-beside c.args.code c.requires.0 c.requires.1 _ c.args.b w.in_default.not-Truth-1 w.in_default.not-Err-1))
      | in_default-via-in-Err+in_default w ↦ rw w.in_default.is-0 (sym (err-beside c.args.code c.requires.0 c.requires.1 _ c.args.b w.in_default.not-Truth-1))
      | in_default-via-in_default w ↦ sym (no-truth-first c.args.code c.requires.0 c.requires.1 c.args.a c.args.b w.in_default.not-Truth-0 w.in_default.not-Err-0)
    ]
