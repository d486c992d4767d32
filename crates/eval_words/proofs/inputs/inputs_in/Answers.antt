use mathlib.Core.Path.{◌∙◌, ap}
use lib.Count.{ones}
use Rattle.eval_words.specs.Inputs.{inputs_in}
use Rattle.eval_words.proofs.inputs.inputs_in.Goals as goal

pub returns : goal.returns
unfolding inputs_in
returns c = (c.count.ensures.0 ∙ ap ones c.minus.ensures, c.count.ensures.1)
