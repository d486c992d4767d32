use native.Mathlib.Omega.{arith}
use mathlib.Core.Path.{◌≡◌, refl, sym, ap, ◌∙◌}
use mathlib.Core.List.{List}
use Prim.Native.Nat.{ℕ, ◌+◌, ◌*◌}
use lib.ListN.{length, get_or}
use Rattle.machine_layout.specs.Layout.{stored16}
use Rattle.machine_start.specs.StartLaws.{named_none, named_more}
use Rattle.machine_start.proofs.store_names.Goals as goal

pub loop-j-init : goal.loop-j-init
loop-j-init c = (sym (named_none c.args.mem.now c.args.at c.args.links.now), refl)

pub store_number-requires : goal.store_number-requires
store_number-requires c = omega (arith, c.loop-j.invariant.1)

pub loop-j-preserved : goal.loop-j-preserved
loop-j-preserved c = (c.store_number.ensures ∙ ap (λ (m : List ℕ). stored16 m (c.args.at + 2 * c.loop-j.j) (get_or c.args.links.now c.loop-j.j 0)) c.loop-j.invariant.0 ∙ named_more c.args.mem.now c.args.at c.args.links.now c.loop-j.j, omega (arith, c.loop-j.invariant.1))

pub shape_of-mem : goal.shape_of-mem
shape_of-mem c = c.loop-j.invariant.1

pub returns : goal.returns
returns c = let e : c.loop-j.j ≡ length c.args.links.now = omega arith in (rw e at c.loop-j.invariant.0)
