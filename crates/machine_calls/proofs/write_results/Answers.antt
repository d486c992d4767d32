use native.Mathlib.Omega.{arith}
use mathlib.Core.Path.{◌≡◌, sym, ◌∙◌, refl}
use Prim.Native.Nat.{◌-◌}
use Rattle.machine_calls.specs.CallLaws.{written-more, written_none}
use Rattle.machine_calls.proofs.write_results.Goals as goal

pub loop-j-init : goal.loop-j-init
loop-j-init c = (omega arith, written_none c.args.mem.now c.args.links.base c.args.links.size c.args.k c.args.out.now, refl)

pub store-requires : goal.store-requires
store-requires c = omega (arith, c.loop-j.invariant.2)

pub loop-j-preserved : goal.loop-j-preserved
loop-j-preserved c = (omega arith, c.store.ensures ∙ rw (c.result_word-word.ensures, c.loop-j.invariant.1) refl ∙ sym (written-more c.args.mem.now c.args.links.base c.args.links.size c.args.k c.args.out.now c.loop-j.j), omega (arith, c.loop-j.invariant.2))

pub shape_of-out : goal.shape_of-out
shape_of-out c = c.loop-j.invariant.2

pub returns : goal.returns
returns c = let e : c.loop-j.j ≡ 16 = omega arith in (rw e at c.loop-j.invariant.1)
