use native.Mathlib.Omega.{arith}
use mathlib.Core.Path.{◌≡◌, sym, ◌∙◌, ap, refl}
use mathlib.Core.List.{◌++◌, append-nil}
use lib.ListN.{length, take, drop}
use lib.Seq.{sets}
use Rattle.session.specs.Passes.{taken_from, line_by, Drained, drained_of}
use Rattle.session.proofs.PassLaws.{drain-end, nothing-drained, one-drained, drain-more, no_bytes, behind-written}
use Rattle.session_pass.proofs.drain.Goals as goal

pub loop-line-init : goal.loop-line-init
loop-line-init c = (refl, refl, nothing-drained c.args.mem.now c.args.out.now, omega (arith, (c.type_inv.mem 7).fits), refl)

pub take_line-requires : goal.take_line-requires
take_line-requires c = omega (arith, c.loop-line.invariant.0, c.loop-line.invariant.2.within)

pub shape_of-mem : goal.shape_of-mem
shape_of-mem c = c.take_line.auto.mem ∙ c.loop-line.invariant.1

pub shape_of-out : goal.shape_of-out
shape_of-out c = c.take_line.auto.out ∙ c.loop-line.invariant.0

pub returns : goal.returns
returns c = let z : length (line_by (taken_from c.loop-line.mem)) ≡ 0 = c.in_default.ensures.0 in let d = drain-end c.loop-line.mem z in let i = c.loop-line.invariant.2 in let k : (drained_of c.loop-line.mem).count ≡ 0 = ap (λ (x : Drained). x.count) d in let o : c.take_line.new.out ≡ c.loop-line.out = c.take_line.ensures.2 ∙ ap (sets c.loop-line.out c.loop-line.at) (no_bytes (line_by (taken_from c.loop-line.mem)) z) in (omega (arith, i.count-is, k), ap (take c.loop-line.at) o ∙ sym (append-nil (take c.loop-line.at c.loop-line.out)) ∙ ap (λ (x : Drained). take c.loop-line.at c.loop-line.out ++ x.lines) (sym d) ∙ i.lines_are, c.take_line.ensures.1 ∙ ap (λ (x : Drained). x.mem) (sym d) ∙ i.memory-is, omega (arith, i.within, c.loop-line.invariant.3), ap (drop c.loop-line.at) o ∙ c.loop-line.invariant.4)

pub overflow_add-at : goal.overflow_add-at
overflow_add-at c = let z : length (line_by (taken_from c.loop-line.mem)) ≡ 0 → ⊥ = λ q. omega (arith, q, c.in-Some.ensures.0.0, c.in-Some.ensures.0.1) in let s = drain-more c.loop-line.mem z in omega (arith, s.short, c.in-Some.ensures.0.1, c.loop-line.invariant.2.within, c.loop-line.invariant.3)

pub loop-line-smaller : goal.loop-line-smaller
loop-line-smaller c = let z : length (line_by (taken_from c.loop-line.mem)) ≡ 0 → ⊥ = λ q. omega (arith, q, c.in-Some.ensures.0.0, c.in-Some.ensures.0.1) in let s = drain-more c.loop-line.mem z in rw c.take_line.ensures.1 (omega (arith, s.fewer))

pub loop-line-preserved : goal.loop-line-preserved
loop-line-preserved c = let z : length (line_by (taken_from c.loop-line.mem)) ≡ 0 → ⊥ = λ q. omega (arith, q, c.in-Some.ensures.0.0, c.in-Some.ensures.0.1) in let s = drain-more c.loop-line.mem z in let n = one-drained c.args.mem.now c.loop-line.mem c.loop-line.count c.loop-line.at c.loop-line.out c.loop-line.invariant.2 (omega (arith, c.loop-line.invariant.0, c.loop-line.invariant.2.within, c.loop-line.invariant.3)) z in (c.take_line.auto.out ∙ c.loop-line.invariant.0, c.take_line.auto.mem ∙ c.loop-line.invariant.1, rw (c.in-Some.ensures.0.1, c.take_line.ensures.1, c.take_line.ensures.2) n, rw c.take_line.ensures.1 (omega (arith, s.fewer, c.loop-line.invariant.3)), rw (c.in-Some.ensures.0.1, c.take_line.ensures.2) (behind-written c.args.out.now c.loop-line.out c.loop-line.at (length (line_by (taken_from c.loop-line.mem))) (line_by (taken_from c.loop-line.mem)) refl (omega (arith, s.short, c.loop-line.invariant.0, c.loop-line.invariant.2.within, c.loop-line.invariant.3)) c.loop-line.invariant.4))
