use Prim.Native.Nat.{ℕ, ◌+◌, ◌-◌}
use mathlib.Core.Path.{◌≡◌, sym, subst, ◌∙◌}
use native.Mathlib.Omega.{arith}
use Rattle.sheet_stands.specs.Fronts.{Front}
use Rattle.sheet_stands.proofs.FrontLaws.{front-none}
use Rattle.sheet_next.proofs.StepLaws.{part-size, part-content, part-front, whole-front}
use Rattle.sheet_next.proofs.DownLaws.{given-stands}
use Rattle.sheet_next.proofs.search.fill.Goals as goal

pub loop-i-init : goal.loop-i-init
loop-i-init c = (omega arith, front-none c.args.t.now c.args.widths.now c.args.masks.now c.requires.1 c.requires.2)

pub overflow_mul-end : goal.overflow_mul-end
overflow_mul-end c = omega (arith, c.requires.0.few)

pub slice_bounds-stands-end : goal.slice_bounds-stands-end
slice_bounds-stands-end c = sym (part-size c.args.t.now (c.loop-i.i + 1) (omega arith) (omega (arith, c.requires.0.size, c.requires.0.few, c.loop-i-test.true)))

pub stands-requires : goal.stands-requires
stands-requires c =
    let e : c.loop-i.i ≡ (c.loop-i.i + 1) - 1 = omega arith in (
      part-size c.args.t.now (c.loop-i.i + 1) (omega arith) (omega (arith, c.requires.0.size, c.requires.0.few, c.loop-i-test.true)),
      omega arith,
      omega (arith, c.requires.0.few),
      part-content c.args.t.now (c.loop-i.i + 1) (omega arith) (omega (arith, c.requires.0.size, c.requires.0.few, c.loop-i-test.true)) (c.requires.0.content (c.loop-i.i + 1) (omega arith) (omega arith)),
      part-front c.args.t.now (c.loop-i.i + 1) (omega arith) (omega (arith, c.requires.0.size, c.requires.0.few, c.loop-i-test.true)) c.loop-i.widths c.loop-i.masks (subst (λ (i : ℕ). Front c.args.t.now c.loop-i.widths c.loop-i.masks i) e c.loop-i.invariant.1),
    )

pub loop-i-preserved : goal.loop-i-preserved
loop-i-preserved c = (omega arith, whole-front c.args.t.now (c.loop-i.i + 1) (omega arith) (omega (arith, c.requires.0.size, c.requires.0.few, c.loop-i-test.true)) c.stands.new.widths c.stands.new.masks (c.loop-i.i + 1) (omega arith) (c.stands.ensures.1 (c.stands.ensures.0 ∙ given-stands c.args.t.now c.args.n c.requires.0 (c.loop-i.i + 1) (omega arith) (omega arith))))

pub returns : goal.returns
returns c = let e : c.loop-i.i ≡ c.args.n = omega arith in subst (λ (i : ℕ). Front c.args.t.now c.loop-i.widths c.loop-i.masks i) e c.loop-i.invariant.1
