use native.Mathlib.Omega.{arith}
use mathlib.Core.Path.{◌≡◌, sym, ◌∙◌, refl, ap}
use Prim.Native.Nat.{ℕ, ◌-◌}
use mathlib.Core.List.{List}
use Rattle.machine_calls.specs.Calls.{emptied_from}
use Rattle.machine_calls.specs.CallLaws.{same_names, emptied-keeps, emptied-more, emptied-none}
use Rattle.machine_layout.specs.Layout.{name_at}
use Rattle.machine_calls.proofs.empty_results.Goals as goal

pub loop-j-init : goal.loop-j-init
loop-j-init c = (omega arith, emptied-none c.args.mem.now c.args.links.base c.args.links.size, refl)

pub result_link-l-requires : goal.result_link-l-requires
result_link-l-requires c = omega (arith, c.loop-j.invariant.2)

pub remove_from-requires : goal.remove_from-requires
remove_from-requires c = omega (arith, c.loop-j.invariant.2)

pub loop-j-preserved : goal.loop-j-preserved
loop-j-preserved c = let p = emptied-keeps c.args.mem.now c.args.links.base c.args.links.size c.requires.0 c.requires.1 c.loop-j.j in let n : c.result_link-l.result ≡ name_at c.args.mem.now 74 c.loop-j.j = c.result_link-l.ensures.0 ∙ ap (λ (x : List ℕ). name_at x 74 c.loop-j.j) c.loop-j.invariant.1 ∙ same_names c.args.mem.now (emptied_from c.loop-j.j c.args.mem.now c.args.links.base c.args.links.size) p.low 74 c.loop-j.j (omega arith) in (omega arith, c.remove_from.ensures ∙ rw (n, c.loop-j.invariant.1) refl ∙ sym (emptied-more c.args.mem.now c.args.links.base c.args.links.size c.loop-j.j), omega (arith, c.loop-j.invariant.2))

pub shape_of-mem : goal.shape_of-mem
shape_of-mem c = c.loop-j.invariant.2

pub returns : goal.returns
returns c = let e : c.loop-j.j ≡ c.args.k = omega arith in (rw e at c.loop-j.invariant.1)
