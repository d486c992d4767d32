use mathlib.Core.Path.{sym, ◌∙◌}
use Rattle.sheet_kinds.specs.Bytes.{kinds_in, stretch, read, length-stretch, either_first, either_second}
use Rattle.sheet_kinds.proofs.bytes.hold_first.Goals as goal

pub returns-then-n-ne0 : goal.returns-then-n-ne0
returns-then-n-ne0 c = (sym (either_first (kinds_in c.args.first.now) (kinds_in c.args.second.now) c.args.n c.args.m c.if-n-ne0.true), c.requires.0, c.requires.2)

pub returns : goal.returns
returns c = (read 0 c.args.m (stretch (kinds_in c.args.second.now) 0 c.args.m) c.args.first.now _ c.copy.ensures (sym (length-stretch (kinds_in c.args.second.now) 0 c.args.m)) ∙ sym (either_second (kinds_in c.args.first.now) (kinds_in c.args.second.now) c.args.n c.args.m c.if-n-ne0.false), c.requires.1, c.copy.ensures.1 ∙ c.requires.2)
