use native.Mathlib.Omega.{arith}
use Prim.Native.Nat.{ℕ, ◌≤◌}
use mathlib.Core.Path.{◌≡◌, refl, sym, ◌∙◌, ap}
use mathlib.Core.List.{[]}
use lib.ListN.{length, replicate, length-replicate}
use lib.Seq.{sets}
use Rattle.machine_calls.specs.Calls.{Handed, handed}
use Rattle.text.specs.Printed.{result_line}
use Rattle.text.proofs.PrintLaws.{line-length}
use Rattle.session.specs.Passes.{taken_from, line_by}
use Rattle.session.proofs.PassLaws.{take-width, line-handed, line_refused, take-answers}
use Rattle.session_pass.proofs.take_line.Goals as goal

pub put_results-requires : goal.put_results-requires
put_results-requires c = let t : taken_from c.args.mem.now ≡ handed c.take-a.result c.take-a.new.mem c.take-a.new.out = take-answers c.args.mem.now (replicate 80 0) (handed c.take-a.result c.take-a.new.mem c.take-a.new.out) refl c.take-a.ensures in let m = c.args.mem.now in let e : (taken_from c.args.mem.now).answer.refusal ≡ 0 = ap (λ (h : Handed). h.answer.refusal) t ∙ c.if-a-eq0.true in let w : c.take-a.result.count ≤ 16 = omega (arith, take-width m e, ap (λ (h : Handed). h.answer.count) t) in (w, omega (arith, w, c.take-a.auto.out, length-replicate {A = ℕ} 80 0), omega (arith, w, c.requires))

pub returns-then-a-eq0 : goal.returns-then-a-eq0
returns-then-a-eq0 c = let t : taken_from c.args.mem.now ≡ handed c.take-a.result c.take-a.new.mem c.take-a.new.out = take-answers c.args.mem.now (replicate 80 0) (handed c.take-a.result c.take-a.new.mem c.take-a.new.out) refl c.take-a.ensures in let m = c.args.mem.now in let e : (taken_from c.args.mem.now).answer.refusal ≡ 0 = ap (λ (h : Handed). h.answer.refusal) t ∙ c.if-a-eq0.true in let l : line_by (taken_from m) ≡ result_line c.take-a.result.count c.take-a.new.out = line-handed m e ∙ ap (λ (h : Handed). result_line h.answer.count h.out) t in ((omega arith, sym (ap length l ∙ line-length c.take-a.result.count c.take-a.new.out)), sym (ap (λ (h : Handed). h.mem) t), c.put_results.ensures ∙ ap (sets c.args.out.now c.args.at) (sym l))

pub returns : goal.returns
returns c = let t : taken_from c.args.mem.now ≡ handed c.take-a.result c.take-a.new.mem c.take-a.new.out = take-answers c.args.mem.now (replicate 80 0) (handed c.take-a.result c.take-a.new.mem c.take-a.new.out) refl c.take-a.ensures in let m = c.args.mem.now in let n : (taken_from m).answer.refusal ≡ 0 → ⊥ = λ q. c.if-a-eq0.false (sym (ap (λ (h : Handed). h.answer.refusal) t) ∙ q) in let l : line_by (taken_from m) ≡ [] = line_refused m n in (ap length l, sym (ap (λ (h : Handed). h.mem) t), ap (sets c.args.out.now c.args.at) (sym l))
