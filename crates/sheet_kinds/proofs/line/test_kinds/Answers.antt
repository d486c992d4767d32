use native.Mathlib.Omega.{arith}
use Prim.Native.Nat.{ℕ}
use mathlib.Core.Path.{ap, ◌∙◌, subst}
use mathlib.Core.Bool.{false}
use Rattle.formula.specs.Tree.{exp_of}
use Rattle.formula.specs.Kinds.{Kinds}
use Rattle.formula.specs.Faults.{kind_check}
use Rattle.eval_words.specs.Needs.{narrow}
use Rattle.sheet_kinds.specs.Line.{Tells, tells-inputs}
use Rattle.sheet_kinds.specs.Walk.{lowest_at}
use Rattle.sheet_kinds.proofs.line.test_kinds.Goals as goal

pub exp_kinds-requires : goal.exp_kinds-requires
exp_kinds-requires c = (c.requires.0, c.tell_kinds.ensures.long, omega (arith, narrow c.args.t.now c.args.widths.now c.args.n c.requires.0))

pub returns : goal.returns
unfolding kind_check
returns c = c.exp_kinds.ensures.1 ∙ ap (λ (ks : Kinds). lowest_at c.args.t.now false ks c.args.n) (tells-inputs (exp_of c.args.t.now c.args.n) c.args.line.now c.tell_kinds.new.env c.requires.2 (subst (λ (m : ℕ). Tells c.args.line.now m c.tell_kinds.new.env 32) c.requires.1 c.tell_kinds.ensures))
