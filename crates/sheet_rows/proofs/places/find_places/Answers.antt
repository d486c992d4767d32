use mathlib.Core.Path.{sym, ◌∙◌, ap, ◌≡◌}
use native.Mathlib.Omega.{arith}
use Prim.Native.Nat.{◌-◌}
use lib.ListN.{length, length-replicate}
use Rattle.formula.specs.Sheet.{named_in}
use Rattle.formula.specs.Places.{places_of, mark_down, mark, bodies_in, is_in_body}
use Rattle.formula.proofs.PlaceLaws.{mark-step}
use Rattle.formula.specs.Tests.{names_well, all_between}
use Rattle.formula.proofs.TestLaws.{passed-each}
use Rattle.sheet_rows.proofs.places.find_places.Goals as goal

pub loop-r-init : goal.loop-r-init
unfolding places_of
loop-r-init c = (omega arith, ap (mark_down c.args.fields.now c.args.n) c.requires.1, ap length c.requires.1 ∙ length-replicate c.args.n _)

pub bounds-places-r : goal.bounds-places-r
bounds-places-r c = omega arith

pub mark_row-requires : goal.mark_row-requires
unfolding names_well
mark_row-requires c = (omega arith, ap (λ s. all_between c.loop-r.r (named_in s)) c.shape_at.ensures ∙ passed-each c.args.n (names_well c.args.fields.now) c.requires.2 c.loop-r.r (omega arith) (omega arith))

pub loop-r-preserved : goal.loop-r-preserved
loop-r-preserved c = (
  omega arith,
  ap (mark_down c.args.fields.now (c.loop-r.r - 1)) (c.mark_row.ensures ∙ ap (λ s. mark (bodies_in (is_in_body c.loop-r.places c.loop-r.r) s) c.loop-r.places) c.shape_at.ensures) ∙ sym (mark-step c.args.fields.now c.loop-r.r c.loop-r.places (omega arith)) ∙ c.loop-r.invariant.1,
  c.mark_row.auto.places ∙ c.loop-r.invariant.2,
)

pub shape_of-places : goal.shape_of-places
shape_of-places c = c.loop-r.invariant.2 ∙ sym (ap length c.requires.1 ∙ length-replicate c.args.n _)

pub returns : goal.returns
unfolding mark_down
returns c = let z : c.loop-r.r ≡ 0 = omega arith in (rw z at c.loop-r.invariant.1)
