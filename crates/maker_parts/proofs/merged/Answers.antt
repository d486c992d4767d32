use mathlib.Core.Path.{refl}
use Rattle.maker_parts.specs.Parts.{merge-gives}
use Rattle.maker_parts.proofs.merged.Goals as goal

pub returns : goal.returns
returns c = merge-gives c.args.x c.args.y c.gates.result c.args.test c.args.next.link c.args.next.operator c.args.mem.now _ c.gates.result.outs c.requires.0.0.1 c.gates.ensures.0 c.gates.ensures.1 refl c.gates.ensures.2 c.gates.ensures.4 c.gates.ensures.5
