use mathlib.Core.Path.{sym, ◌∙◌, ap, refl, subst}
use native.Mathlib.Omega.{arith}
use Prim.Native.Nat.{◌+◌, ◌≤◌}
use lib.ListN.{length}
use Rattle.formula.specs.Sheet.{shape_at, named_in}
use Rattle.formula.specs.Places.{mark}
use Rattle.formula.specs.TreeLaws.{AllBetween}
use Rattle.sheet_tidy.proofs.KeptLaws.{between-wider}
use Rattle.sheet_tidy.proofs.kept.keep_row.Goals as goal

pub keep_named-requires : goal.keep_named-requires
keep_named-requires c =
    let h : c.args.r ≤ length c.args.kept.now + 1 = omega arith in
    subst (λ z. AllBetween (length c.args.kept.now + 1) (named_in z)) (sym c.shape_at.ensures) (between-wider c.args.r (length c.args.kept.now + 1) (named_in (shape_at c.args.fields.now c.args.r)) h c.requires.3)

pub returns-then-kept-r : goal.returns-then-kept-r
returns-then-kept-r c = rw c.if-kept-r.true (c.keep_named.ensures ∙ ap (λ z. mark (named_in z) c.args.kept.now) c.shape_at.ensures)

pub returns-else-kept-r : goal.returns-else-kept-r
returns-else-kept-r c = rw c.if-kept-r.false refl
