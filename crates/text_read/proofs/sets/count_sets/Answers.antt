use native.Mathlib.Omega.{arith}
use Prim.Native.Nat.{suc, ◌+◌, ◌-◌, ◌*◌}
use mathlib.Core.Path.{◌≡◌, sym, ◌∙◌, ap, refl}
use mathlib.Core.Bool.{true, false}
use lib.ListN.{length, take, drop, length-drop}
use lib.Seq.{drop-drop}
use Rattle.text.specs.SetLines.{lines_of, field_bytes, is_set_line, sets_from, sets_of}
use Rattle.text.proofs.SetLineLaws.{bad-line, good-line, no_line, none_read, one-read, set-line-fits}
use Rattle.text.specs.SetLineLaws.{more_than}
use Rattle.text_read.proofs.sets.count_sets.Goals as goal

pub loop-at-init : goal.loop-at-init
unfolding sets_of
loop-at-init c = (refl, omega arith, omega arith, none_read (sets_from c.args.kinds.now 1 (lines_of c.args.s.now)))

pub returns-then-not-read_set : goal.returns-then-not-read_set
returns-then-not-read_set c = let b : is_set_line c.args.kinds.now (take (11 * length c.args.kinds.now + 1) (drop c.loop-at.at c.args.s.now)) ≡ false = sym c.read_set.ensures.0 ∙ c.if-not-read_set.true in sym (sym c.loop-at.invariant.3 ∙ ap (more_than c.loop-at.n) (bad-line c.args.kinds.now (c.loop-at.n + 1) (drop c.loop-at.at c.args.s.now) (rw (length-drop c.loop-at.at c.args.s.now) (omega arith)) b))

pub loop-at-preserved : goal.loop-at-preserved
loop-at-preserved c = let b : is_set_line c.args.kinds.now (take (11 * length c.args.kinds.now + 1) (drop c.loop-at.at c.args.s.now)) ≡ true = sym c.read_set.ensures.0 ∙ c.if-not-read_set.false in let f = set-line-fits c.args.kinds.now (drop c.loop-at.at c.args.s.now) b in let m : length (drop c.loop-at.at c.args.s.now) ≡ length c.args.s.now - c.loop-at.at = length-drop c.loop-at.at c.args.s.now in let x : c.loop-at.n + 1 + 1 ≡ suc (c.loop-at.n + 1) = omega arith in (c.read_set.auto.out ∙ c.loop-at.invariant.0, omega (arith, f, m), omega arith, sym (sym c.loop-at.invariant.3 ∙ ap (more_than c.loop-at.n) (good-line c.args.kinds.now (c.loop-at.n + 1) (drop c.loop-at.at c.args.s.now) b) ∙ one-read c.loop-at.n (field_bytes (length c.args.kinds.now) (take (11 * length c.args.kinds.now + 1) (drop c.loop-at.at c.args.s.now))) (sets_from c.args.kinds.now (suc (c.loop-at.n + 1)) (lines_of (drop (11 * length c.args.kinds.now + 1) (drop c.loop-at.at c.args.s.now)))) ∙ rw (drop-drop (11 * length c.args.kinds.now + 1) c.loop-at.at c.args.s.now, x) refl))

pub returns : goal.returns
returns c = let z : c.loop-at.n + 0 ≡ c.loop-at.n = omega arith in sym (sym c.loop-at.invariant.3 ∙ ap (more_than c.loop-at.n) (no_line c.args.kinds.now (c.loop-at.n + 1) (drop c.loop-at.at c.args.s.now) (rw (length-drop c.loop-at.at c.args.s.now) (omega (arith, c.loop-at-test.false)))) ∙ rw z refl)
