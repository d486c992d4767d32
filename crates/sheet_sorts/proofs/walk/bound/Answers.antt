use mathlib.Core.Path.{sym, ◌∙◌}
use Rattle.formula.specs.Tree.{exp_of}
use Rattle.formula.specs.Kinds.{bind_kinds, kinds_e}
use Rattle.sheet_kinds.specs.Bytes.{kinds_in}
use Rattle.sheet_kinds.specs.KindWidths.{counted}
use Rattle.sheet_sorts.proofs.walk.bound.Goals as goal

pub returns : goal.returns
returns c =
    c.exp_kinds.ensures.0.0
    ∙ (λ j. bind_kinds c.args.a (sym (counted c.args.t.now c.args.widths.now c.args.c c.requires.0 (kinds_in c.args.env.now)) j)
    (kinds_e (exp_of c.args.t.now c.args.c) (kinds_in c.args.env.now)) (kinds_in c.args.env.now))
