use Prim.Native.Nat.{ℕ}
use mathlib.Core.Path.{ap, ◌∙◌, subst}
use mathlib.Core.Bool.{false}
use Rattle.formula.specs.Tree.{exp_of}
use Rattle.formula.specs.Kinds.{Kinds}
use Rattle.formula.specs.Faults.{kind_check}
use Rattle.sheet_kinds.specs.Line.{Tells, tells-inputs}
use Rattle.sheet_movement.specs.Sorts.{sorts_kept}
use Rattle.sheet_sorts.specs.Walk.{lowest_at}
use Rattle.sheet_sorts.proofs.walk.test_sorts.Goals as goal

pub other_sort-requires : goal.other_sort-requires
other_sort-requires c = ((false, c.requires.0), c.tell_kinds.ensures.long)

pub returns : goal.returns
unfolding sorts_kept kind_check
returns c =
    c.other_sort.ensures false c.requires.0
    ∙ ap (λ (ks : Kinds). lowest_at c.args.t.now false ks c.args.n)
    (tells-inputs (exp_of c.args.t.now c.args.n) c.args.line.now c.tell_kinds.new.env c.requires.2
    (subst (λ (m : ℕ). Tells c.args.line.now m c.tell_kinds.new.env 32) c.requires.1 c.tell_kinds.ensures))
