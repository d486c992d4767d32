use mathlib.Core.Path.{sym, ◌∙◌, subst, ◌≡◌}
use native.Mathlib.Omega.{arith}
use Prim.Native.Nat.{ℕ}
use lib.ListN.{take, length-set}
use lib.Seq.{length-take-le}
use Rattle.names.specs.Names.{mask}
use Rattle.formula.specs.Tests.{bound_well}
use Rattle.formula.proofs.TestLaws.{starts, goes_on, stops, ends}
use Rattle.sheet_tables.specs.Nodes.{node_at, free_in, Holds}
use Rattle.sheet_tables.proofs.NodeLaws.{ready-length, holds-none, holds-take, holds_more}
use Rattle.sheet_tables.proofs.MaskLaws.{names_of, ranged-of, row-mask, row-bound}
use Rattle.sheet_tables.proofs.masks.test_bound.Goals as goal

pub loop-i-init : goal.loop-i-init
loop-i-init c = (omega arith, starts c.args.n 0 (bound_well c.args.fields.now c.args.places.now), holds-none 0 c.args.masks.now 0 (λ k. mask (free_in (node_at c.args.fields.now c.args.places.now k))), c.requires.1)

pub shape_at-s-requires : goal.shape_at-s-requires
shape_at-s-requires c = let e = c.requires.0.size in (omega arith, omega (arith, e))

pub slice_bounds-bound_well-end : goal.slice_bounds-bound_well-end
slice_bounds-bound_well-end c = omega arith

pub slice_bounds-bound_well-end-in-loop-i : goal.slice_bounds-bound_well-end-in-loop-i
slice_bounds-bound_well-end-in-loop-i c = sym (length-take-le c.loop-i.i c.loop-i.masks (omega arith))

pub bound_well-requires : goal.bound_well-requires
bound_well-requires c = (names_of c.args.fields.now c.args.n c.args.places.now c.requires.0 c.loop-i.i c.loop-i-test.true (take c.loop-i.i c.loop-i.masks) (holds-take 0 c.loop-i.masks c.loop-i.i (λ k. mask (free_in (node_at c.args.fields.now c.args.places.now k))) c.loop-i.invariant.2) c.shape_at-s.result c.shape_at-s.ensures, ranged-of c.args.fields.now c.args.n c.args.places.now c.requires.0 c.loop-i.i c.loop-i-test.true (take c.loop-i.i c.loop-i.masks) (holds-take 0 c.loop-i.masks c.loop-i.i (λ k. mask (free_in (node_at c.args.fields.now c.args.places.now k))) c.loop-i.invariant.2) c.shape_at-s.result c.shape_at-s.ensures, omega (arith, length-take-le c.loop-i.i c.loop-i.masks (omega arith)))

pub shape_of-masks-then-not-bound_well : goal.shape_of-masks-then-not-bound_well
shape_of-masks-then-not-bound_well c = c.loop-i.invariant.3 ∙ sym c.requires.1

pub returns-then-not-bound_well : goal.returns-then-not-bound_well
returns-then-not-bound_well c = (
  sym (stops c.args.n c.loop-i.i (bound_well c.args.fields.now c.args.places.now) c.loop-i-test.true (row-bound c.args.fields.now c.args.n c.args.places.now c.requires.0 c.loop-i.i c.loop-i-test.true (take c.loop-i.i c.loop-i.masks) (holds-take 0 c.loop-i.masks c.loop-i.i (λ k. mask (free_in (node_at c.args.fields.now c.args.places.now k))) c.loop-i.invariant.2) c.shape_at-s.result c.shape_at-s.ensures ∙ sym c.bound_well.ensures ∙ c.if-not-bound_well.true)) ∙ c.loop-i.invariant.1,
  λ q. absurd (let z : ◌≡◌ {A = ℕ} 0 1 = cc q in omega arith),
)

pub bounds-places-i : goal.bounds-places-i
bounds-places-i c = omega (arith, ready-length c.args.fields.now c.args.n c.args.places.now c.requires.0)

pub slice_bounds-mask_of-end : goal.slice_bounds-mask_of-end
slice_bounds-mask_of-end c = omega arith

pub slice_bounds-mask_of-end-in-loop-i : goal.slice_bounds-mask_of-end-in-loop-i
slice_bounds-mask_of-end-in-loop-i c = sym (length-take-le c.loop-i.i c.loop-i.masks (omega arith))

pub mask_of-requires : goal.mask_of-requires
mask_of-requires c = (names_of c.args.fields.now c.args.n c.args.places.now c.requires.0 c.loop-i.i c.loop-i-test.true (take c.loop-i.i c.loop-i.masks) (holds-take 0 c.loop-i.masks c.loop-i.i (λ k. mask (free_in (node_at c.args.fields.now c.args.places.now k))) c.loop-i.invariant.2) c.shape_at-s.result c.shape_at-s.ensures, ranged-of c.args.fields.now c.args.n c.args.places.now c.requires.0 c.loop-i.i c.loop-i-test.true (take c.loop-i.i c.loop-i.masks) (holds-take 0 c.loop-i.masks c.loop-i.i (λ k. mask (free_in (node_at c.args.fields.now c.args.places.now k))) c.loop-i.invariant.2) c.shape_at-s.result c.shape_at-s.ensures, omega (arith, length-take-le c.loop-i.i c.loop-i.masks (omega arith)))

pub bounds-masks-i : goal.bounds-masks-i
bounds-masks-i c = omega arith

pub loop-i-preserved : goal.loop-i-preserved
loop-i-preserved c = (
  omega arith,
  goes_on c.args.n c.loop-i.i (bound_well c.args.fields.now c.args.places.now) c.loop-i-test.true (row-bound c.args.fields.now c.args.n c.args.places.now c.requires.0 c.loop-i.i c.loop-i-test.true (take c.loop-i.i c.loop-i.masks) (holds-take 0 c.loop-i.masks c.loop-i.i (λ k. mask (free_in (node_at c.args.fields.now c.args.places.now k))) c.loop-i.invariant.2) c.shape_at-s.result c.shape_at-s.ensures ∙ sym c.bound_well.ensures ∙ c.if-not-bound_well.false) ∙ c.loop-i.invariant.1,
  holds_more 0 c.loop-i.masks c.loop-i.i (λ k. mask (free_in (node_at c.args.fields.now c.args.places.now k))) c.mask_of.result c.loop-i.invariant.2 (omega arith) (c.mask_of.ensures ∙ row-mask c.args.fields.now c.args.n c.args.places.now c.requires.0 c.loop-i.i c.loop-i-test.true (take c.loop-i.i c.loop-i.masks) (holds-take 0 c.loop-i.masks c.loop-i.i (λ k. mask (free_in (node_at c.args.fields.now c.args.places.now k))) c.loop-i.invariant.2) c.shape_at-s.result c.shape_at-s.ensures),
  length-set c.loop-i.masks c.loop-i.i c.mask_of.result ∙ c.loop-i.invariant.3,
)

pub shape_of-masks : goal.shape_of-masks
shape_of-masks c = c.loop-i.invariant.3 ∙ sym c.requires.1

pub returns : goal.returns
returns c =
    let e : c.loop-i.i ≡ c.args.n = omega arith in (
      sym (ends c.args.n c.loop-i.i (bound_well c.args.fields.now c.args.places.now) (omega arith)) ∙ c.loop-i.invariant.1,
      λ q. subst (λ j. Holds 0 c.loop-i.masks j (λ k. mask (free_in (node_at c.args.fields.now c.args.places.now k)))) e c.loop-i.invariant.2,
    )
