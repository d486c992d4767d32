use native.Mathlib.Omega.{arith}
use mathlib.Core.Path.{sym, ◌∙◌, ap}
use lib.Seq.{sets}
use Rattle.value.specs.declared.Reason.TheVariants.{ZeroDivisor, OutOfRange}
use Rattle.value.specs.Bytes.{word_of}
use Rattle.text.proofs.PrintLaws.{word-whole, word-truth, word-err, word-other}
use Rattle.text_print.proofs.put_value.Goals as goal

pub returns-in-1 : goal.returns-in-1
returns-in-1 c = c.put_whole.ensures ∙ ap (sets c.args.out.now c.args.at) (sym (word-whole c.args.word c.in-1.is))

pub returns-in-2 : goal.returns-in-2
returns-in-2 c = c.put_truth.ensures ∙ ap (sets c.args.out.now c.args.at) (sym (word-truth c.args.word c.in-2.is))

pub returns-in-259 : goal.returns-in-259
unfolding word_of
returns-in-259 c = c.put_letter.ensures ∙ ap (sets c.args.out.now c.args.at) (sym (word-err c.args.word ZeroDivisor c.in-259.is))

pub returns-in-515 : goal.returns-in-515
unfolding word_of
returns-in-515 c = c.put_letter-in-515.ensures ∙ ap (sets c.args.out.now c.args.at) (sym (word-err c.args.word OutOfRange c.in-515.is))

pub returns-in_default-word : goal.returns-in_default-word
unfolding word_of
returns-in_default-word c = c.put_letter-in_default-word.ensures ∙ ap (sets c.args.out.now c.args.at) (sym (word-other c.args.word (λ e. omega (arith, e)) (λ e. omega (arith, e)) (λ e. omega (arith, e)) (λ e. omega (arith, e)) (λ e. omega (arith, e))))
