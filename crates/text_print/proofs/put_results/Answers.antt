use native.Mathlib.Omega.{arith}
use Prim.Native.Nat.{ℕ, ◌+◌, ◌*◌}
use mathlib.Core.Path.{◌≡◌, sym, ◌∙◌, ap, refl}
use mathlib.Core.List.{List}
use lib.ListN.{set}
use Rattle.text.proofs.PrintLaws.{results-none, results-more, results_end}
use Rattle.text_print.proofs.put_results.Goals as goal

pub loop-j-init : goal.loop-j-init
loop-j-init c = (refl, sym (results-none c.args.out.now c.args.at c.args.results.now))

pub loop-j-preserved : goal.loop-j-preserved
loop-j-preserved c = (c.put_value.auto.out ∙ c.loop-j.invariant.0, c.put_value.ensures ∙ rw (c.load-word.ensures.0, c.loop-j.invariant.1) (results-more c.args.out.now c.args.at c.loop-j.j c.args.results.now (omega (arith, c.requires.2))))

pub returns : goal.returns
returns c = let e : c.loop-j.j ≡ c.args.k = omega arith in ap (λ (x : List ℕ). set x (c.args.at + 11 * c.args.k) 10) (rw e at c.loop-j.invariant.1) ∙ results_end c.args.out.now c.args.at c.args.k c.args.results.now c.requires.2
