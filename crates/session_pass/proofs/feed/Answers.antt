use native.Mathlib.Omega.{arith}
use Prim.Native.Nat.{◌-◌, ◌*◌}
use mathlib.Core.Path.{◌≡◌, sym, ◌∙◌, ap, refl}
use mathlib.Core.Bool.{true}
use lib.ListN.{length, take, drop, length-drop}
use lib.Seq.{length-take-le}
use Rattle.machine_calls.specs.Calls.{Outcome, pushed, outcome}
use Rattle.text.specs.SetLines.{line_at, is_set_line, field_bytes}
use Rattle.text.proofs.SetLineLaws.{set-line-fits}
use Rattle.session.proofs.FeedLaws.{fed-start, fed-more, fed-stop, fed-bad, fed-end, set-lent}
use Rattle.session_pass.proofs.feed.Goals as goal

pub loop-next-init : goal.loop-next-init
loop-next-init c = (refl, refl, omega arith, fed-start c.args.kinds.now c.args.sets.now c.args.at c.args.mem.now)

pub read_set-requires : goal.read_set-requires
read_set-requires c = (omega arith, omega arith, omega (arith, c.loop-next.invariant.1))

pub slice_bounds-set-end : goal.slice_bounds-set-end
slice_bounds-set-end c = omega (arith, c.read_set.auto.out, c.loop-next.invariant.1)

pub slice_bounds-push-end : goal.slice_bounds-push-end
slice_bounds-push-end c = sym (length-take-le (5 * length c.args.kinds.now) c.read_set.new.out (omega (arith, c.read_set.auto.out, c.loop-next.invariant.1)))

pub shape_of-mem-then-a-ne0 : goal.shape_of-mem-then-a-ne0
shape_of-mem-then-a-ne0 c = c.push-a.auto.mem ∙ c.loop-next.invariant.0

pub returns-then-a-ne0 : goal.returns-then-a-ne0
returns-then-a-ne0 c = let b : is_set_line c.args.kinds.now (line_at c.args.kinds.now c.args.sets.now c.loop-next.next) ≡ true = sym c.read_set.ensures.0 ∙ c.if-read_set.true in let t : take (5 * length c.args.kinds.now) c.read_set.new.out ≡ field_bytes (length c.args.kinds.now) (line_at c.args.kinds.now c.args.sets.now c.loop-next.next) = set-lent (length c.args.kinds.now) (line_at c.args.kinds.now c.args.sets.now c.loop-next.next) (drop (5 * length c.args.kinds.now) c.loop-next.set) c.read_set.new.out (c.read_set.ensures.1 c.if-read_set.true) in let o : outcome c.push-a.result c.push-a.new.mem ≡ pushed c.loop-next.mem (field_bytes (length c.args.kinds.now) (line_at c.args.kinds.now c.args.sets.now c.loop-next.next)) = c.push-a.ensures ∙ ap (pushed c.loop-next.mem) t in record { feeds_to = rw (ap (λ (x : Outcome). x.mem) o) (fed-stop c.args.kinds.now c.args.sets.now c.args.at c.args.mem.now c.loop-next.next c.loop-next.mem c.loop-next.invariant.3 b (λ q. c.if-a-ne0.true (ap (λ (x : Outcome). x.answer.refusal) o ∙ q))); upper_bound = omega arith }

pub overflow_add-next-then-read_set : goal.overflow_add-next-then-read_set
overflow_add-next-then-read_set c = let b : is_set_line c.args.kinds.now (line_at c.args.kinds.now c.args.sets.now c.loop-next.next) ≡ true = sym c.read_set.ensures.0 ∙ c.if-read_set.true in let f = set-line-fits c.args.kinds.now (drop c.loop-next.next c.args.sets.now) b in let g : length (drop c.loop-next.next c.args.sets.now) ≡ length c.args.sets.now - c.loop-next.next = length-drop c.loop-next.next c.args.sets.now in omega (arith, f, g)

pub loop-next-smaller : goal.loop-next-smaller
loop-next-smaller c = omega arith

pub loop-next-preserved : goal.loop-next-preserved
loop-next-preserved c = let b : is_set_line c.args.kinds.now (line_at c.args.kinds.now c.args.sets.now c.loop-next.next) ≡ true = sym c.read_set.ensures.0 ∙ c.if-read_set.true in let t : take (5 * length c.args.kinds.now) c.read_set.new.out ≡ field_bytes (length c.args.kinds.now) (line_at c.args.kinds.now c.args.sets.now c.loop-next.next) = set-lent (length c.args.kinds.now) (line_at c.args.kinds.now c.args.sets.now c.loop-next.next) (drop (5 * length c.args.kinds.now) c.loop-next.set) c.read_set.new.out (c.read_set.ensures.1 c.if-read_set.true) in let o : outcome c.push-a.result c.push-a.new.mem ≡ pushed c.loop-next.mem (field_bytes (length c.args.kinds.now) (line_at c.args.kinds.now c.args.sets.now c.loop-next.next)) = c.push-a.ensures ∙ ap (pushed c.loop-next.mem) t in let f = set-line-fits c.args.kinds.now (drop c.loop-next.next c.args.sets.now) b in let g : length (drop c.loop-next.next c.args.sets.now) ≡ length c.args.sets.now - c.loop-next.next = length-drop c.loop-next.next c.args.sets.now in (c.push-a.auto.mem ∙ c.loop-next.invariant.0, c.read_set.auto.out ∙ c.loop-next.invariant.1, omega (arith, f, g), rw (ap (λ (x : Outcome). x.mem) o) (fed-more c.args.kinds.now c.args.sets.now c.args.at c.args.mem.now c.loop-next.next c.loop-next.mem c.loop-next.invariant.3 b (sym (ap (λ (x : Outcome). x.answer.refusal) o) ∙ c.if-a-ne0.false)))

pub shape_of-mem-else-read_set : goal.shape_of-mem-else-read_set
shape_of-mem-else-read_set c = c.loop-next.invariant.0

pub returns-else-read_set : goal.returns-else-read_set
returns-else-read_set c = record { feeds_to = fed-bad c.args.kinds.now c.args.sets.now c.args.at c.args.mem.now c.loop-next.next c.loop-next.mem c.loop-next.invariant.3 c.loop-next-test.true (sym c.read_set.ensures.0 ∙ c.if-read_set.false); upper_bound = omega arith }

pub shape_of-mem : goal.shape_of-mem
shape_of-mem c = c.loop-next.invariant.0

pub returns : goal.returns
returns c = record { feeds_to = fed-end c.args.kinds.now c.args.sets.now c.args.at c.args.mem.now c.loop-next.next c.loop-next.mem c.loop-next.invariant.3 c.loop-next-test.false; upper_bound = omega arith }
