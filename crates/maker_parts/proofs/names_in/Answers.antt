use mathlib.Core.Path.{sym, ◌∙◌}
use Rattle.maker_laid.specs.Masked.{mask-ones, mask-short}
use native.Mathlib.Omega.{arith}
use Rattle.maker_parts.proofs.names_in.Goals as goal

pub returns : goal.returns
returns c = (c.count.ensures.0 ∙ sym (mask-ones c.args.mask c.requires), omega (arith, mask-short c.args.mask c.requires, mask-ones c.args.mask c.requires, c.count.ensures.0))
