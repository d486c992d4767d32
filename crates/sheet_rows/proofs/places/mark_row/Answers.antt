use mathlib.Core.Path.{sym, ◌∙◌, ap, refl, subst}
use mathlib.Core.List.{[], ◌∷◌}
use native.Mathlib.Omega.{arith}
use Rattle.formula.specs.Sheet.{named_in}
use Rattle.formula.specs.Places.{mark}
use Rattle.formula.specs.TreeLaws.{AllBetween}
use Rattle.formula.proofs.TreeLaws.{all-between}
use Rattle.formula.proofs.PlaceLaws.{bodies-between}
use Rattle.sheet_rows.specs.Bodies.{listed}
use Rattle.sheet_rows.proofs.places.mark_row.Goals as goal

pub mark_one-requires : goal.mark_one-requires
mark_one-requires c = let h = subst (AllBetween c.args.r) (sym c.bodies_of-bodies.ensures ∙ ap listed c.in-One.is) (bodies-between c.args.r c.args.in_body c.args.s (all-between c.args.r (named_in c.args.s) c.requires.1)) in omega (arith, h.0, c.requires.0)

pub mark_one-requires-in-Two : goal.mark_one-requires-in-Two
mark_one-requires-in-Two c = let h = subst (AllBetween c.args.r) (sym c.bodies_of-bodies.ensures ∙ ap listed c.in-Two.is) (bodies-between c.args.r c.args.in_body c.args.s (all-between c.args.r (named_in c.args.s) c.requires.1)) in omega (arith, h.0, c.requires.0)

pub mark_one-requires-in-Two-2 : goal.mark_one-requires-in-Two-2
mark_one-requires-in-Two-2 c = let h = subst (AllBetween c.args.r) (sym c.bodies_of-bodies.ensures ∙ ap listed c.in-Two.is) (bodies-between c.args.r c.args.in_body c.args.s (all-between c.args.r (named_in c.args.s) c.requires.1)) in omega (arith, h.1.0, c.requires.0, c.mark_one-in-Two.auto)

pub returns-in-None : goal.returns-in-None
unfolding mark
returns-in-None c = rw (sym c.bodies_of-bodies.ensures, c.in-None.is) refl

pub returns-in-One : goal.returns-in-One
returns-in-One c = rw (sym c.bodies_of-bodies.ensures, c.in-One.is) c.mark_one.ensures

pub returns-in-Two : goal.returns-in-Two
unfolding mark
returns-in-Two c = rw (sym c.bodies_of-bodies.ensures, c.in-Two.is) (c.mark_one-in-Two-2.ensures ∙ ap (mark (c.in-Two.c ∷ [])) c.mark_one-in-Two.ensures)
