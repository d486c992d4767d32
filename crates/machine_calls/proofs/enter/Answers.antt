use native.Mathlib.Omega.{arith}
use mathlib.Core.Path.{◌≡◌, sym, ◌∙◌, refl, ap}
use Prim.Native.Nat.{ℕ, ◌-◌}
use mathlib.Core.List.{List}
use Rattle.machine_calls.specs.Calls.{entered_from}
use Rattle.machine_calls.specs.CallLaws.{same_names, entered-keeps, entered-more, entered-none}
use Rattle.machine_layout.specs.Layout.{name_at}
use lib.ListN.{set}
use Rattle.machine_calls.proofs.enter.Goals as goal

pub loop-j-init : goal.loop-j-init
loop-j-init c = (omega arith, entered-none c.args.mem.now c.args.links.base c.args.links.size c.args.set.now, refl)

pub input_link-l-requires : goal.input_link-l-requires
input_link-l-requires c = omega (arith, c.loop-j.invariant.2)

pub loop-j-preserved : goal.loop-j-preserved
loop-j-preserved c = let p = entered-keeps c.args.mem.now c.args.links.base c.args.links.size c.requires.0 c.requires.1 c.args.set.now c.loop-j.j in let n : c.input_link-l.result ≡ name_at c.args.mem.now 10 c.loop-j.j = c.input_link-l.ensures.0 ∙ ap (λ (x : List ℕ). name_at x 10 c.loop-j.j) c.loop-j.invariant.1 ∙ same_names c.args.mem.now (entered_from c.loop-j.j c.args.mem.now c.args.links.base c.args.links.size c.args.set.now) p.low 10 c.loop-j.j (omega arith) in (omega arith, c.append_to.ensures ∙ rw (n, c.load-word.ensures.0, c.loop-j.invariant.1) refl ∙ sym (entered-more c.args.mem.now c.args.links.base c.args.links.size c.args.set.now c.loop-j.j), omega (arith, c.loop-j.invariant.2))

pub shape_of-mem : goal.shape_of-mem
shape_of-mem c = c.loop-j.invariant.2

pub returns : goal.returns
returns c = let e : c.loop-j.j ≡ c.args.k = omega arith in (rw e at c.loop-j.invariant.1)
