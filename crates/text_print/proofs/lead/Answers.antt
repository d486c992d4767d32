use native.Mathlib.Omega.{arith}
use Rattle.text.proofs.PrintLaws.{led-put, led-empty}
use lib.ListN.{length}
use Rattle.text_print.proofs.lead.Goals as goal

pub returns-in-Some : goal.returns-in-Some
returns-in-Some c = led-put c.args.before c.fill.new.self (length c.args.part.now) (c.fill.ensures.after (λ y h. h)) (omega (arith, c.in-Some.ensures.item))

pub returns-in_default : goal.returns-in_default
returns-in_default c = led-empty c.args.before c.fill.new.self (length c.args.part.now) (c.fill.ensures.after (λ y h. h)) (omega (arith, c.in_default.ensures.item))
