use mathlib.Core.Path.{sym, ◌∙◌}
use Rattle.eval_words.specs.Words.{held-some, held-none}
use Rattle.eval_words.proofs.words.held.Goals as goal

pub returns-in-Some : goal.returns-in-Some
returns-in-Some c = sym (held-some c.args.w c.in-Some.v (sym c.from_word.ensures ∙ c.in-Some.is))

pub returns-in-None : goal.returns-in-None
returns-in-None c = c.err.ensures ∙ sym (held-none c.args.w (sym c.from_word.ensures ∙ c.in-None.is))
