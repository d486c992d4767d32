use native.Mathlib.Omega.{arith}
use Prim.Native.Nat.{◌-◌}
use mathlib.Core.Path.{◌≡◌, sym, ◌∙◌}
use Rattle.machine_marks.specs.Held.{held, woke-none, woke-then}
use Rattle.machine_runs.specs.Marks.{hits-none, hits_more}
use Rattle.machine_runs.proofs.wake_users.Goals as goal

pub loop-k-init : goal.loop-k-init
loop-k-init c = (omega arith, woke-none c.args.awake.now c.args.m c.requires.2, hits-none c.args.users.now c.args.mem.now c.args.links.base c.args.links.size c.args.i (held c.args.awake.now c.args.m))

pub port_of-l-requires : goal.port_of-l-requires
port_of-l-requires c = omega arith

pub facing_side-side-requires : goal.facing_side-side-requires
facing_side-side-requires c = omega arith

pub wake_user-more-requires : goal.wake_user-more-requires
wake_user-more-requires c = (omega arith, omega arith, omega arith, c.loop-k.invariant.1.stands)

pub loop-k-preserved : goal.loop-k-preserved
loop-k-preserved c = (
  omega arith,
  woke-then c.args.awake.now c.args.m c.loop-k.awake c.loop-k.more c.wake_user-more.new.awake c.wake_user-more.result c.loop-k.invariant.1 c.wake_user-more.ensures.0,
  hits_more c.args.users.now c.args.mem.now c.args.links.base c.args.links.size c.args.i c.loop-k.k c.loop-k.awake c.loop-k.more c.wake_user-more.new.awake c.wake_user-more.result c.port_of-l.result c.facing_side-side.result c.loop-k.invariant.2 c.wake_user-more.ensures.0 c.port_of-l.ensures.0 c.facing_side-side.ensures.0 c.wake_user-more.ensures.1,
)

pub shape_of-awake : goal.shape_of-awake
shape_of-awake c = c.loop-k.invariant.1.stands.len ∙ sym c.requires.2.len

pub returns : goal.returns
returns c = let e : c.loop-k.k ≡ 6 = omega arith in (c.loop-k.invariant.1, rw e at c.loop-k.invariant.2)
