use mathlib.Core.Path.{◌∙◌, ap}
use Rattle.eval_words.specs.Words.{held_of, held_word}
use Rattle.eval_words.proofs.words.word.Goals as goal

pub returns : goal.returns
returns c = ap held_of c.to_word.ensures ∙ held_word c.args.v c.requires
