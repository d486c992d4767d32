use mathlib.Core.Path.{refl}
use Rattle.maker_laid.specs.Done.{done-wire}
use native.Mathlib.Omega.{arith}
use Rattle.maker_parts.proofs.identifier.Goals as goal

pub returns : goal.returns
returns c = λ mem. done-wire c.args.a c.args.next.link c.args.next.operator _ mem _ c.requires refl (omega arith)
