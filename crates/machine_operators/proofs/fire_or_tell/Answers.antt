use mathlib.Core.Path.{◌≡◌, sym, ◌∙◌, refl}
use mathlib.Core.Bool.{true, false}
use Rattle.value.specs.Bytes.{word_or}
use Rattle.machine_layout.specs.Layout.{kind_byte}
use Rattle.machine_gates.proofs.Tables.{decide-FS}
use Rattle.machine_firing.specs.Fire.{register_of, decision_from, plan_from, moved_from, able_from}
use Rattle.machine_firing.specs.Moves.{Done, next_register, input}
use Rattle.machine_firing.specs.MoveLaws.{moved-register, completed}
use Rattle.machine_operators.proofs.fire_or_tell.Goals as goal

pub returns-then-kind-eq-FS : goal.returns-then-kind-eq-FS
unfolding able_from plan_from decision_from
returns-then-kind-eq-FS c =
    let k : kind_byte c.args.mem.now c.args.i ≡ 20 = rw c.operator_at.ensures at c.if-kind-eq-FS.true in
    rw (k, decide-FS (input c.args.mem.now c.args.links.base c.args.links.size c.args.i 0) (input c.args.mem.now c.args.links.base c.args.links.size c.args.i 1) (input c.args.mem.now c.args.links.base c.args.links.size c.args.i 2) (register_of c.args.mem.now c.args.i)) c.fs_gate.ensures

pub returns-then-not-move_tokens : goal.returns-then-not-move_tokens
unfolding Done able_from plan_from decision_from
returns-then-not-move_tokens c =
    let e : c.move_tokens.result ≡ false = c.if-not-move_tokens.true in
    let M = rw c.operator_at.ensures at c.move_tokens.ensures in
    (sym e ∙ M.0.0, M.0.1 ∙ rw e refl)

pub returns-then-dry : goal.returns-then-dry
unfolding Done able_from plan_from decision_from
returns-then-dry c =
    let e : c.move_tokens.result ≡ true = c.if-not-move_tokens.false in
    let M = rw c.operator_at.ensures at c.move_tokens.ensures in
    (sym e ∙ M.0.0, M.0.1 ∙ rw (c.if-dry.true, e) refl)

pub returns : goal.returns
unfolding Done able_from plan_from decision_from
returns c =
    let e : c.move_tokens.result ≡ true = c.if-not-move_tokens.false in
    let M = rw c.operator_at.ensures at c.move_tokens.ensures in
    let f : c.move_tokens.new.mem ≡ moved_from c.args.mem.now c.args.links.base c.args.links.size (plan_from c.args.mem.now c.args.links.base c.args.links.size c.args.i) = M.0.1 ∙ rw (c.if-dry.false, e) refl in
    let g : c.next_register-register.result ≡ word_or (next_register (kind_byte c.args.mem.now c.args.i) (register_of c.args.mem.now c.args.i)) = c.next_register-register.ensures ∙ rw (c.operator_at.ensures, f, moved-register c.args.mem.now c.args.links.base c.args.links.size c.requires.1 (plan_from c.args.mem.now c.args.links.base c.args.links.size c.args.i) c.requires.0 c.args.i c.requires.2) refl in (
      sym e ∙ M.0.0,
      rw c.if-dry.false (c.set_register.ensures ∙ rw (g, f) (completed c.args.mem.now c.args.links.base c.args.links.size c.args.i (next_register (kind_byte c.args.mem.now c.args.i) (register_of c.args.mem.now c.args.i)) (decision_from c.args.mem.now c.args.links.base c.args.links.size c.args.i) (sym M.0.0 ∙ e) M.1)),
    )
