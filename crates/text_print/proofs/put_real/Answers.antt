use Prim.Native.Nat.{◌/◌}
use mathlib.Core.Path.{sym, ◌∙◌, ap}
use lib.Seq.{sets}
use Rattle.text.proofs.PrintLaws.{number_put, word-real, word_none}
use Rattle.text_print.proofs.put_real.Goals as goal

pub returns-then-is_value : goal.returns-then-is_value
returns-then-is_value c = number_put c.args.out.now c.show.new.field c.args.at 11 (c.args.word / 256) 82 c.requires.0 c.show.ensures ∙ ap (sets c.args.out.now c.args.at) (sym (word-real c.args.word c.requires.1 (sym c.is_value.ensures ∙ c.if-is_value.true)))

pub returns-else-is_value : goal.returns-else-is_value
returns-else-is_value c = c.put_letter.ensures ∙ ap (sets c.args.out.now c.args.at) (sym (word_none c.args.word (sym c.is_value.ensures ∙ c.if-is_value.false)))
