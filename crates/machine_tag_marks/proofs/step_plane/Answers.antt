use Prim.Native.Nat.{ℕ, ◌-◌, ◌^◌, ◌<◌}
use native.Mathlib.Omega.{arith}
use mathlib.Core.Path.{◌∙◌, sym, refl}
use lib.ListN.{get_or}
use Rattle.machine_marks.specs.Held.{stands-cleared}
use Rattle.machine_tag_marks.specs.FirstMarks.{marks_at, stands_at, lowest-here, stepped-fired, stepped-idle}
use Rattle.machine_tag_marks.proofs.step_plane.Goals as goal

pub wake-woken-requires : goal.wake-woken-requires
wake-woken-requires c =
    let wide : (b : ℕ) → get_or c.args.awake.now b 0 < 2 ^ 64 = λ b. omega (arith, c.slice_known-2-1.given b) in (
      omega arith,
      omega arith,
      stands_at c.args.awake.now c.args.i c.requires.3 wide c.requires.2 c.requires.4,
      refl,
      lowest-here c.args.awake.now c.args.i c.requires.3 wide c.requires.2 c.requires.4,
    )

pub returns-then-fire_at : goal.returns-then-fire_at
returns-then-fire_at c =
    let wide : (b : ℕ) → get_or c.args.awake.now b 0 < 2 ^ 64 = λ b. omega (arith, c.slice_known-2-1.given b) in
    rw c.fire_at.ensures.1
    (stepped-fired c.args.users.now c.args.mem.now c.args.base c.args.i c.args.awake.now c.requires.0 c.requires.1 c.requires.3 wide c.requires.2 c.requires.4 c.settle.new.awake c.settle.result c.settle.ensures.1
    (sym c.fire_at.ensures.0 ∙ c.if-fire_at.true) c.wake-woken.new.awake c.wake-woken.result (rw c.fire_at.ensures.1 at c.wake-woken.ensures) c.settle.ensures.0)

pub settle-requires-2 : goal.settle-requires-2
settle-requires-2 c =
    let wide : (b : ℕ) → get_or c.args.awake.now b 0 < 2 ^ 64 = λ b. omega (arith, c.slice_known-2-1.given b) in (
      stands-cleared c.args.awake.now (marks_at c.args.awake.now c.args.i) (stands_at c.args.awake.now c.args.i c.requires.3 wide c.requires.2 c.requires.4) c.args.i
          (lowest-here c.args.awake.now c.args.i c.requires.3 wide c.requires.2 c.requires.4) c.without-rest.result c.without-rest.ensures,
      c.without-rest.ensures.low ∙ sym c.without-rest.ensures.block,
    )

pub returns : goal.returns
returns c =
    let wide : (b : ℕ) → get_or c.args.awake.now b 0 < 2 ^ 64 = λ b. omega (arith, c.slice_known-2-1.given b) in
    rw c.fire_at.ensures.1
    (stepped-idle c.args.users.now c.args.mem.now c.args.base c.args.i c.args.awake.now c.requires.0 c.requires.1 c.requires.3 wide c.requires.2 c.requires.4 c.settle-2.new.awake c.settle-2.result c.settle-2.ensures.1
    (sym c.fire_at.ensures.0 ∙ c.if-fire_at.false) c.without-rest.result c.without-rest.ensures c.settle-2.ensures.0)
