use mathlib.Core.Path.{sym, ◌∙◌, ap, refl, subst}
use mathlib.Core.List.{[], ◌∷◌}
use native.Mathlib.Omega.{arith}
use Rattle.formula.specs.TreeLaws.{AllBetween}
use Rattle.formula.proofs.PlaceLaws.{bodies-between}
use Rattle.sheet_rows.specs.Bodies.{listed}
use Rattle.sheet_tables.specs.Loops.{fill}
use Rattle.sheet_tables.proofs.loops.fill_row.Goals as goal

pub fill_one-requires : goal.fill_one-requires
fill_one-requires c = let h = subst (AllBetween c.args.r) (sym c.bodies_of-bodies.ensures ∙ ap listed c.in-One.is) (bodies-between c.args.r c.args.in_body c.args.s c.requires.0) in omega (arith, h.0, c.requires.1)

pub fill_one-requires-in-Two : goal.fill_one-requires-in-Two
fill_one-requires-in-Two c = let h = subst (AllBetween c.args.r) (sym c.bodies_of-bodies.ensures ∙ ap listed c.in-Two.is) (bodies-between c.args.r c.args.in_body c.args.s c.requires.0) in omega (arith, h.0, c.requires.1)

pub fill_one-requires-in-Two-2 : goal.fill_one-requires-in-Two-2
fill_one-requires-in-Two-2 c = let h = subst (AllBetween c.args.r) (sym c.bodies_of-bodies.ensures ∙ ap listed c.in-Two.is) (bodies-between c.args.r c.args.in_body c.args.s c.requires.0) in omega (arith, h.1.0, c.requires.1, c.fill_one-in-Two.auto)

pub returns-in-None : goal.returns-in-None
unfolding fill
returns-in-None c = rw (sym c.bodies_of-bodies.ensures, c.in-None.is) refl

pub returns-in-One : goal.returns-in-One
returns-in-One c = rw (sym c.bodies_of-bodies.ensures, c.in-One.is) c.fill_one.ensures

pub returns-in-Two : goal.returns-in-Two
unfolding fill
returns-in-Two c = rw (sym c.bodies_of-bodies.ensures, c.in-Two.is) (c.fill_one-in-Two-2.ensures ∙ ap (fill (c.in-Two.c ∷ []) c.args.v) c.fill_one-in-Two.ensures)
