use Prim.Native.Nat.{◌-◌}
use mathlib.Core.Path.{sym, ◌∙◌, ap}
use lib.Seq.{sets}
use Rattle.text.proofs.PrintLaws.{number_put, whole-positive, whole-negative, whole-outside}
use Rattle.text_print.proofs.put_whole.Goals as goal

pub returns-then-bits-lt-FIRST_NEGATIVE : goal.returns-then-bits-lt-FIRST_NEGATIVE
returns-then-bits-lt-FIRST_NEGATIVE c = number_put c.args.out.now c.show.new.field c.args.at 11 c.args.bits 32 c.requires c.show.ensures ∙ ap (sets c.args.out.now c.args.at) (sym (whole-positive c.args.bits c.if-bits-lt-FIRST_NEGATIVE.true))

pub returns-then-bits-lt-PATTERNS : goal.returns-then-bits-lt-PATTERNS
returns-then-bits-lt-PATTERNS c = number_put c.args.out.now c.show-then-bits-lt-PATTERNS.new.field c.args.at 11 (4294967296 - c.args.bits) 45 c.requires c.show-then-bits-lt-PATTERNS.ensures ∙ ap (sets c.args.out.now c.args.at) (sym (whole-negative c.args.bits c.if-bits-lt-FIRST_NEGATIVE.false c.if-bits-lt-PATTERNS.true))

pub returns-else-bits-lt-PATTERNS : goal.returns-else-bits-lt-PATTERNS
returns-else-bits-lt-PATTERNS c = c.put_letter.ensures ∙ ap (sets c.args.out.now c.args.at) (sym (whole-outside c.args.bits c.if-bits-lt-PATTERNS.false))
