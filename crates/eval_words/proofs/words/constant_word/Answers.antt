use mathlib.Core.Path.{◌∙◌, sym, subst}
use Rattle.value.specs.Bytes.{InRange}
use Rattle.formula.proofs.Constants.{constant-in-range}
use Rattle.eval_words.proofs.words.constant_word.Goals as goal

pub word-requires : goal.word-requires
word-requires c = subst InRange (sym c.constant.ensures) (constant-in-range c.args.kind c.args.a c.requires)

pub returns : goal.returns
returns c = c.word.ensures ∙ c.constant.ensures
