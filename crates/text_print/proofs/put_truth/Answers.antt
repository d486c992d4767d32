use native.Mathlib.Omega.{arith}
use mathlib.Core.Path.{sym, ◌∙◌, ap}
use lib.Seq.{sets}
use Rattle.text.proofs.PrintLaws.{truth-false, truth-true, truth-neither}
use Rattle.text_print.proofs.put_truth.Goals as goal

pub returns-in-0 : goal.returns-in-0
returns-in-0 c = c.put_letter.ensures ∙ ap (sets c.args.out.now c.args.at) (sym (truth-false c.args.bits c.in-0.is))

pub returns-in-1 : goal.returns-in-1
returns-in-1 c = c.put_letter-in-1.ensures ∙ ap (sets c.args.out.now c.args.at) (sym (truth-true c.args.bits c.in-1.is))

pub returns-in_default : goal.returns-in_default
returns-in_default c = c.put_letter-in_default.ensures ∙ ap (sets c.args.out.now c.args.at) (sym (truth-neither c.args.bits (λ e. omega (arith, e)) (λ e. omega (arith, e))))
