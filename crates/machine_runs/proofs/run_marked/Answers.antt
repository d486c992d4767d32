use Prim.Native.Nat.{ℕ, ◌+◌, ◌-◌, ◌*◌, ◌≤◌, ◌<◌}
use native.Mathlib.Omega.{arith}
use mathlib.Core.Path.{◌≡◌, sym, ◌∙◌, ap, refl}
use lib.ListN.{length}
use Rattle.machine_marks.specs.Held.{left, stands-all, held_all, stands-cleared, left-cleared}
use Rattle.machine_runs.specs.RunLaws.{going-full}
use Rattle.machine_runs.specs.Marks.{fast-start, fast-moved, fast-end, fast-next, fast-fire}
use Rattle.machine_runs.proofs.run_marked.Goals as goal

-- a firing more, or marks of the block fewer

fewer-firings : (d e x y : ℕ) → e ≡ d + 1 → x < 313594649253062377472 → 313594649253062377472 * d + x < 313594649253062377472 * e + y
fewer-firings d e x y p h = let q : 313594649253062377472 * e ≡ 313594649253062377472 * d + 313594649253062377472 = omega arith in omega arith

fewer-marks : (p x y z : ℕ) → x < y → y ≤ z → p + x < p + z
fewer-marks p x y z a b = omega arith

pub loop-fired-init : goal.loop-fired-init
loop-fired-init c = (stands-all, refl, fast-start c.args.users.now c.args.mem.now _ c.args.links.base c.args.links.size c.args.n c.args.budget (omega arith) held_all c.requires.3)

pub slice_bounds-forward-end : goal.slice_bounds-forward-end
slice_bounds-forward-end c = sym c.loop-fired.invariant.0.len

pub forward-m-requires : goal.forward-m-requires
forward-m-requires c = (c.loop-fired.invariant.0, c.loop-fired.invariant.1)

pub first_of-i-requires : goal.first_of-i-requires
first_of-i-requires c = c.forward-m.ensures.0.stands.inside

pub shape_of-mem-then-n-i : goal.shape_of-mem-then-n-i
shape_of-mem-then-n-i c = c.loop-fired.invariant.2.going.len

pub returns-then-n-i : goal.returns-then-n-i
returns-then-n-i c = fast-end c.args.users.now c.args.mem.now c.args.links.base c.args.links.size c.args.n c.args.budget c.loop-fired.mem c.forward-m.new.awake c.forward-m.result c.loop-fired.fired (fast-moved c.args.users.now c.args.mem.now c.args.links.base c.args.links.size c.args.n c.args.budget c.loop-fired.mem c.loop-fired.awake c.loop-fired.m c.loop-fired.fired c.loop-fired.invariant.2 (omega arith) c.forward-m.new.awake c.forward-m.result c.forward-m.ensures.0) (omega arith) c.forward-m.ensures.0.stands c.forward-m.ensures.0.level c.first_of-i.result c.if-n-i.true c.first_of-i.ensures.0 (λ h. rw c.forward-m.ensures.0.same (c.forward-m.ensures.2 (c.first_of-i.ensures.1 h)))

pub fire_at-requires : goal.fire_at-requires
fire_at-requires c = omega (arith, c.loop-fired.invariant.2.going.len)

pub slice_bounds-wake-end : goal.slice_bounds-wake-end
slice_bounds-wake-end c = sym c.forward-m.ensures.0.stands.len

pub wake-m-requires : goal.wake-m-requires
wake-m-requires c = (omega (arith, c.loop-fired.invariant.2.going.len), omega arith, c.forward-m.ensures.0.stands, c.forward-m.ensures.0.level, c.first_of-i.ensures.0 (omega arith))

pub loop-fired-smaller-then-fire_at : goal.loop-fired-smaller-then-fire_at
loop-fired-smaller-then-fire_at c = fewer-firings (c.args.budget - (c.loop-fired.fired + 1)) (c.args.budget - c.loop-fired.fired) (left c.wake-m.result) (left c.loop-fired.m) (omega arith) (omega arith)

pub loop-fired-preserved-then-fire_at : goal.loop-fired-preserved-then-fire_at
loop-fired-preserved-then-fire_at c = (
  c.wake-m.ensures.stands,
  c.wake-m.ensures.level,
  rw c.fire_at.ensures.1 (fast-fire c.args.users.now c.args.mem.now c.args.links.base c.args.links.size c.args.n c.args.budget c.loop-fired.mem c.forward-m.new.awake c.forward-m.result c.loop-fired.fired (fast-moved c.args.users.now c.args.mem.now c.args.links.base c.args.links.size c.args.n c.args.budget c.loop-fired.mem c.loop-fired.awake c.loop-fired.m c.loop-fired.fired c.loop-fired.invariant.2 (omega arith) c.forward-m.new.awake c.forward-m.result c.forward-m.ensures.0) (omega arith) c.forward-m.ensures.0.stands c.forward-m.ensures.0.level c.first_of-i.result (c.first_of-i.ensures.0 (omega arith)) (omega arith) (omega (arith, c.loop-fired.invariant.2.going.len)) (omega arith) c.wake-m.new.awake c.wake-m.result (rw c.fire_at.ensures.1 at c.wake-m.ensures) (omega arith) (sym c.fire_at.ensures.0 ∙ c.if-fire_at.true) (omega (arith, ap length c.fire_at.ensures.1))),
)

pub without-m-requires : goal.without-m-requires
without-m-requires c = (c.first_of-i.ensures.0 (omega arith)).block

pub loop-fired-smaller : goal.loop-fired-smaller
loop-fired-smaller c = fewer-marks (313594649253062377472 * (c.args.budget - c.loop-fired.fired)) (left c.without-m.result) (left c.forward-m.result) (left c.loop-fired.m) (left-cleared c.forward-m.new.awake c.forward-m.result c.forward-m.ensures.0.stands c.first_of-i.result (c.first_of-i.ensures.0 (omega arith)) c.without-m.result c.without-m.ensures) c.forward-m.ensures.1

pub loop-fired-preserved : goal.loop-fired-preserved
loop-fired-preserved c = (
  stands-cleared c.forward-m.new.awake c.forward-m.result c.forward-m.ensures.0.stands c.first_of-i.result (c.first_of-i.ensures.0 (omega arith)) c.without-m.result c.without-m.ensures,
  c.without-m.ensures.low ∙ c.forward-m.ensures.0.level ∙ sym c.without-m.ensures.block,
  rw c.fire_at.ensures.1 (fast-next c.args.users.now c.args.mem.now c.args.links.base c.args.links.size c.args.n c.args.budget c.loop-fired.mem c.forward-m.new.awake c.forward-m.result c.loop-fired.fired (fast-moved c.args.users.now c.args.mem.now c.args.links.base c.args.links.size c.args.n c.args.budget c.loop-fired.mem c.loop-fired.awake c.loop-fired.m c.loop-fired.fired c.loop-fired.invariant.2 (omega arith) c.forward-m.new.awake c.forward-m.result c.forward-m.ensures.0) (omega arith) c.forward-m.ensures.0.stands c.forward-m.ensures.0.level c.first_of-i.result (c.first_of-i.ensures.0 (omega arith)) (sym c.fire_at.ensures.0 ∙ c.if-fire_at.false) c.without-m.result c.without-m.ensures),
)

pub shape_of-mem : goal.shape_of-mem
shape_of-mem c = c.loop-fired.invariant.2.going.len

pub returns : goal.returns
returns c = going-full c.args.mem.now c.args.links.base c.args.links.size c.args.n c.args.budget c.loop-fired.mem c.loop-fired.fired 0 c.loop-fired.invariant.2.going (omega arith)
