use native.Mathlib.Omega.{arith}
use Rattle.eval_words.specs.Words.{word-true, word-false, word-neither}
use Rattle.eval_words.proofs.words.chosen.Goals as goal

pub returns-in-258 : goal.returns-in-258
returns-in-258 c = word-true c.args.w c.in-258.is

pub returns-in-2 : goal.returns-in-2
returns-in-2 c = word-false c.args.w c.in-2.is

pub returns-in_default : goal.returns-in_default
returns-in_default c = word-neither c.args.w (λ e. omega (arith, e)) (λ e. omega (arith, e))
