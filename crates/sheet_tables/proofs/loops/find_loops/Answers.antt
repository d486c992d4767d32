use mathlib.Core.Path.{sym, ◌∙◌, ap, subst, ◌≡◌}
use mathlib.Core.Bool.{false}
use native.Mathlib.Omega.{arith}
use Prim.Native.Nat.{ℕ, ◌-◌}
use lib.ListN.{length, get_or, length-replicate}
use Rattle.formula.specs.Sheet.{named_in}
use Rattle.formula.specs.Places.{bodies_in}
use Rattle.formula.specs.TreeLaws.{AllBetween}
use Rattle.sheet_tables.specs.Loops.{handed, fill, loops_down, loops_of}
use Rattle.sheet_tables.proofs.NodeLaws.{ready-length}
use Rattle.sheet_tables.proofs.LoopLaws.{loops-step}
use Rattle.sheet_tables.proofs.loops.find_loops.Goals as goal

pub loop-r-init : goal.loop-r-init
unfolding loops_of
loop-r-init c = (omega arith, ap (loops_down c.args.fields.now c.args.places.now (λ k. get_or c.args.returned.now (k - 1) 0) c.args.n) c.requires.2, ap length c.requires.2 ∙ length-replicate {A = ℕ} c.args.n 0)

pub shape_at-s-requires : goal.shape_at-s-requires
shape_at-s-requires c = let e = c.requires.0.size in (omega arith, omega (arith, e))

pub bounds-loops-r : goal.bounds-loops-r
bounds-loops-r c = omega arith

pub hand_on-v-requires : goal.hand_on-v-requires
hand_on-v-requires c = (subst (λ z. AllBetween c.loop-r.r (named_in z)) (sym c.shape_at-s.ensures) (c.requires.0.sound.named.names c.loop-r.r (omega arith) (omega arith)), omega (arith, c.requires.1))

pub bounds-places-r : goal.bounds-places-r
bounds-places-r c = omega (arith, ready-length c.args.fields.now c.args.n c.args.places.now c.requires.0)

pub fill_row-requires : goal.fill_row-requires
fill_row-requires c = (subst (λ z. AllBetween c.loop-r.r (named_in z)) (sym c.shape_at-s.ensures) (c.requires.0.sound.named.names c.loop-r.r (omega arith) (omega arith)), omega arith)

pub loop-r-preserved : goal.loop-r-preserved
loop-r-preserved c =
    let e = ap (λ z. fill (bodies_in (get_or c.args.places.now (c.loop-r.r - 1) false) z) (handed (λ k. get_or c.args.returned.now (k - 1) 0) (get_or c.loop-r.loops (c.loop-r.r - 1) 0) z) c.loop-r.loops) c.shape_at-s.ensures in (
      omega arith,
      ap (loops_down c.args.fields.now c.args.places.now (λ k. get_or c.args.returned.now (k - 1) 0) (c.loop-r.r - 1)) (c.fill_row.ensures ∙ ap (λ v. fill (bodies_in (get_or c.args.places.now (c.loop-r.r - 1) false) c.shape_at-s.result) v c.loop-r.loops) c.hand_on-v.ensures ∙ e) ∙ sym (loops-step c.args.fields.now c.args.places.now (λ k. get_or c.args.returned.now (k - 1) 0) c.loop-r.r c.loop-r.loops (omega arith)) ∙ c.loop-r.invariant.1,
      c.fill_row.auto.loops ∙ c.loop-r.invariant.2,
    )

pub shape_of-loops : goal.shape_of-loops
shape_of-loops c = c.loop-r.invariant.2 ∙ sym (ap length c.requires.2 ∙ length-replicate {A = ℕ} c.args.n 0)

pub returns : goal.returns
unfolding loops_down
returns c = let z : c.loop-r.r ≡ 0 = omega arith in (rw z at c.loop-r.invariant.1)
