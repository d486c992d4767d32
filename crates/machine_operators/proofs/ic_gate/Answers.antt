use Rattle.std.specs.Prelude.{Some, None}
use native.Mathlib.Omega.{arith}
use mathlib.Core.Path.{sym, ◌∙◌, refl}
use mathlib.Core.Bool.{true, false}
use Rattle.value.specs.Bytes.{word_of}
use Rattle.network.specs.Values.{true-value, false-value, err-value}
use Rattle.machine_gates.specs.Gates.{ic_by}
use Rattle.machine_firing.specs.Fire.{register_of}
use Rattle.machine_firing.specs.Moves.{input}
use Rattle.machine_firing.specs.MoveLaws.{moves-idle, gives-second, gives-third}
use Rattle.machine_operators.proofs.ic_gate.Goals as goal

pub returns-then-is_true : goal.returns-then-is_true
unfolding ic_by word_of
returns-then-is_true c =
    rw (rw (c.is_true.ensures (input c.args.mem.now c.args.links.base c.args.links.size c.args.i 0) (rw c.port_of-first.ensures.0 at c.token_of-control.ensures), c.is_true-2.ensures (input c.args.mem.now c.args.links.base c.args.links.size c.args.i 1) (rw c.port_of-second.ensures.0 at c.token_of-iter2.ensures)) at c.if-is_true.true)
    (gives-second c.args.mem.now c.give_two.new.mem c.args.links.base c.args.links.size c.args.i c.args.dry c.give_two.result true true false refl (Some true-value) (Some true-value) None (register_of c.args.mem.now c.args.i) refl refl refl (rw (c.port_of-first.ensures.0, c.port_of-second.ensures.0) at c.give_two.ensures))

pub returns-then-is_true-counts_false : goal.returns-then-is_true-counts_false
unfolding ic_by word_of
returns-then-is_true-counts_false c =
    rw (rw (c.is_true.ensures (input c.args.mem.now c.args.links.base c.args.links.size c.args.i 0) (rw c.port_of-first.ensures.0 at c.token_of-control.ensures), c.is_true-2.ensures (input c.args.mem.now c.args.links.base c.args.links.size c.args.i 1) (rw c.port_of-second.ensures.0 at c.token_of-iter2.ensures)) at c.if-is_true.false, rw (c.is_true-3.ensures (input c.args.mem.now c.args.links.base c.args.links.size c.args.i 0) (rw c.port_of-first.ensures.0 at c.token_of-control.ensures), c.counts_false.ensures (input c.args.mem.now c.args.links.base c.args.links.size c.args.i 1) (rw c.port_of-second.ensures.0 at c.token_of-iter2.ensures)) at c.if-is_true-counts_false.true)
    (gives-third c.args.mem.now c.give_two-then-is_true-counts_false.new.mem c.args.links.base c.args.links.size c.args.i c.args.dry c.give_two-then-is_true-counts_false.result true true false refl (Some false-value) None (Some true-value) (register_of c.args.mem.now c.args.i) refl refl refl (rw (c.port_of-first.ensures.0, c.port_of-second.ensures.0) at c.give_two-then-is_true-counts_false.ensures))

pub returns-then-is_false-is_true : goal.returns-then-is_false-is_true
unfolding ic_by word_of
returns-then-is_false-is_true c =
    rw (rw (c.is_true.ensures (input c.args.mem.now c.args.links.base c.args.links.size c.args.i 0) (rw c.port_of-first.ensures.0 at c.token_of-control.ensures), c.is_true-2.ensures (input c.args.mem.now c.args.links.base c.args.links.size c.args.i 1) (rw c.port_of-second.ensures.0 at c.token_of-iter2.ensures)) at c.if-is_true.false, rw (c.is_true-3.ensures (input c.args.mem.now c.args.links.base c.args.links.size c.args.i 0) (rw c.port_of-first.ensures.0 at c.token_of-control.ensures), c.counts_false.ensures (input c.args.mem.now c.args.links.base c.args.links.size c.args.i 1) (rw c.port_of-second.ensures.0 at c.token_of-iter2.ensures)) at c.if-is_true-counts_false.false, rw (c.is_false.ensures (input c.args.mem.now c.args.links.base c.args.links.size c.args.i 0) (rw c.port_of-first.ensures.0 at c.token_of-control.ensures), c.is_true-4.ensures (input c.args.mem.now c.args.links.base c.args.links.size c.args.i 2) (rw c.port_of-third.ensures.0 at c.token_of-iter3.ensures)) at c.if-is_false-is_true.true)
    (gives-second c.args.mem.now c.give_two-then-is_false-is_true.new.mem c.args.links.base c.args.links.size c.args.i c.args.dry c.give_two-then-is_false-is_true.result true false true refl (Some true-value) (Some false-value) None (register_of c.args.mem.now c.args.i) refl refl refl (rw (c.port_of-first.ensures.0, c.port_of-third.ensures.0) at c.give_two-then-is_false-is_true.ensures))

pub returns-then-is_false-counts_false : goal.returns-then-is_false-counts_false
unfolding ic_by word_of
returns-then-is_false-counts_false c =
    rw (rw (c.is_true.ensures (input c.args.mem.now c.args.links.base c.args.links.size c.args.i 0) (rw c.port_of-first.ensures.0 at c.token_of-control.ensures), c.is_true-2.ensures (input c.args.mem.now c.args.links.base c.args.links.size c.args.i 1) (rw c.port_of-second.ensures.0 at c.token_of-iter2.ensures)) at c.if-is_true.false, rw (c.is_true-3.ensures (input c.args.mem.now c.args.links.base c.args.links.size c.args.i 0) (rw c.port_of-first.ensures.0 at c.token_of-control.ensures), c.counts_false.ensures (input c.args.mem.now c.args.links.base c.args.links.size c.args.i 1) (rw c.port_of-second.ensures.0 at c.token_of-iter2.ensures)) at c.if-is_true-counts_false.false, rw (c.is_false.ensures (input c.args.mem.now c.args.links.base c.args.links.size c.args.i 0) (rw c.port_of-first.ensures.0 at c.token_of-control.ensures), c.is_true-4.ensures (input c.args.mem.now c.args.links.base c.args.links.size c.args.i 2) (rw c.port_of-third.ensures.0 at c.token_of-iter3.ensures)) at c.if-is_false-is_true.false, rw (c.is_false-2.ensures (input c.args.mem.now c.args.links.base c.args.links.size c.args.i 0) (rw c.port_of-first.ensures.0 at c.token_of-control.ensures), c.counts_false-2.ensures (input c.args.mem.now c.args.links.base c.args.links.size c.args.i 2) (rw c.port_of-third.ensures.0 at c.token_of-iter3.ensures)) at c.if-is_false-counts_false.true)
    (gives-third c.args.mem.now c.give_two-then-is_false-counts_false.new.mem c.args.links.base c.args.links.size c.args.i c.args.dry c.give_two-then-is_false-counts_false.result true false true refl (Some false-value) None (Some false-value) (register_of c.args.mem.now c.args.i) refl refl refl (rw (c.port_of-first.ensures.0, c.port_of-third.ensures.0) at c.give_two-then-is_false-counts_false.ensures))

pub returns-then-is_neither : goal.returns-then-is_neither
unfolding ic_by word_of
returns-then-is_neither c =
    rw (rw (c.is_true.ensures (input c.args.mem.now c.args.links.base c.args.links.size c.args.i 0) (rw c.port_of-first.ensures.0 at c.token_of-control.ensures), c.is_true-2.ensures (input c.args.mem.now c.args.links.base c.args.links.size c.args.i 1) (rw c.port_of-second.ensures.0 at c.token_of-iter2.ensures)) at c.if-is_true.false, rw (c.is_true-3.ensures (input c.args.mem.now c.args.links.base c.args.links.size c.args.i 0) (rw c.port_of-first.ensures.0 at c.token_of-control.ensures), c.counts_false.ensures (input c.args.mem.now c.args.links.base c.args.links.size c.args.i 1) (rw c.port_of-second.ensures.0 at c.token_of-iter2.ensures)) at c.if-is_true-counts_false.false, rw (c.is_false.ensures (input c.args.mem.now c.args.links.base c.args.links.size c.args.i 0) (rw c.port_of-first.ensures.0 at c.token_of-control.ensures), c.is_true-4.ensures (input c.args.mem.now c.args.links.base c.args.links.size c.args.i 2) (rw c.port_of-third.ensures.0 at c.token_of-iter3.ensures)) at c.if-is_false-is_true.false, rw (c.is_false-2.ensures (input c.args.mem.now c.args.links.base c.args.links.size c.args.i 0) (rw c.port_of-first.ensures.0 at c.token_of-control.ensures), c.counts_false-2.ensures (input c.args.mem.now c.args.links.base c.args.links.size c.args.i 2) (rw c.port_of-third.ensures.0 at c.token_of-iter3.ensures)) at c.if-is_false-counts_false.false, sym (c.is_neither.ensures (input c.args.mem.now c.args.links.base c.args.links.size c.args.i 0) (rw c.port_of-first.ensures.0 at c.token_of-control.ensures)) ∙ c.if-is_neither.true)
    (gives-third c.args.mem.now c.give_two-then-is_neither.new.mem c.args.links.base c.args.links.size c.args.i c.args.dry c.give_two-then-is_neither.result true false false refl (Some false-value) None (Some err-value) (register_of c.args.mem.now c.args.i) refl refl refl (rw c.port_of-first.ensures.0 at c.give_two-then-is_neither.ensures))

pub returns : goal.returns
unfolding ic_by
returns c =
    rw (rw (c.is_true.ensures (input c.args.mem.now c.args.links.base c.args.links.size c.args.i 0) (rw c.port_of-first.ensures.0 at c.token_of-control.ensures), c.is_true-2.ensures (input c.args.mem.now c.args.links.base c.args.links.size c.args.i 1) (rw c.port_of-second.ensures.0 at c.token_of-iter2.ensures)) at c.if-is_true.false, rw (c.is_true-3.ensures (input c.args.mem.now c.args.links.base c.args.links.size c.args.i 0) (rw c.port_of-first.ensures.0 at c.token_of-control.ensures), c.counts_false.ensures (input c.args.mem.now c.args.links.base c.args.links.size c.args.i 1) (rw c.port_of-second.ensures.0 at c.token_of-iter2.ensures)) at c.if-is_true-counts_false.false, rw (c.is_false.ensures (input c.args.mem.now c.args.links.base c.args.links.size c.args.i 0) (rw c.port_of-first.ensures.0 at c.token_of-control.ensures), c.is_true-4.ensures (input c.args.mem.now c.args.links.base c.args.links.size c.args.i 2) (rw c.port_of-third.ensures.0 at c.token_of-iter3.ensures)) at c.if-is_false-is_true.false, rw (c.is_false-2.ensures (input c.args.mem.now c.args.links.base c.args.links.size c.args.i 0) (rw c.port_of-first.ensures.0 at c.token_of-control.ensures), c.counts_false-2.ensures (input c.args.mem.now c.args.links.base c.args.links.size c.args.i 2) (rw c.port_of-third.ensures.0 at c.token_of-iter3.ensures)) at c.if-is_false-counts_false.false, sym (c.is_neither.ensures (input c.args.mem.now c.args.links.base c.args.links.size c.args.i 0) (rw c.port_of-first.ensures.0 at c.token_of-control.ensures)) ∙ c.if-is_neither.false)
    (moves-idle c.args.mem.now c.args.links.base c.args.links.size c.args.i c.args.dry)
