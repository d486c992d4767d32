use mathlib.Core.Path.{◌≡◌, sym, ◌∙◌, refl}
use mathlib.Core.Bool.{true, false}
use Rattle.machine_firing.specs.Links.{head_from, token_from}
use Rattle.machine_gates.specs.Decide.{is_absent}
use Rattle.machine_layout.specs.Layout.{port_of}
use Rattle.machine_firing.specs.Fire.{register_of}
use Rattle.value.specs.Bytes.{word_or, decoded, value_of}
use Rattle.value.proofs.Tokens.{token-of-word}
use mathlib.Core.List.{List}
use Prim.Native.Nat.{ℕ}
use Rattle.machine_firing.specs.MoveLaws.{moves-idle, gives_one}
use Rattle.machine_gates.specs.Gates.{binary_by, applied}
use Rattle.machine_gates.proofs.GateLaws.{applied-there}
use Rattle.machine_operators.proofs.binary.Goals as goal

-- a token that was read is read again from its word

again : (m : List ℕ) (base size l w : ℕ) → w ≡ word_or (token_from m base size l) → decoded (value_of w) ≡ token_from m base size l
unfolding token_from
again m base size l w e = rw (e, token-of-word (head_from m base size l)) refl

pub returns-then-is_absent : goal.returns-then-is_absent
unfolding binary_by
returns-then-is_absent c = rw (sym (c.is_absent.ensures (token_from c.args.mem.now c.args.links.base c.args.links.size (port_of c.args.mem.now c.args.i 0)) (rw c.port_of-first.ensures.0 at c.token_of-a.ensures)) ∙ c.if-is_absent.true) (moves-idle c.args.mem.now c.args.links.base c.args.links.size c.args.i c.args.dry)

pub returns-then-is_absent-2 : goal.returns-then-is_absent-2
unfolding binary_by
returns-then-is_absent-2 c = rw ((sym (c.is_absent.ensures (token_from c.args.mem.now c.args.links.base c.args.links.size (port_of c.args.mem.now c.args.i 0)) (rw c.port_of-first.ensures.0 at c.token_of-a.ensures)) ∙ c.if-is_absent.false), (sym (c.is_absent-2.ensures (token_from c.args.mem.now c.args.links.base c.args.links.size (port_of c.args.mem.now c.args.i 1)) (rw c.port_of-second.ensures.0 at c.token_of-b.ensures)) ∙ c.if-is_absent-2.true)) (moves-idle c.args.mem.now c.args.links.base c.args.links.size c.args.i c.args.dry)

pub returns : goal.returns
unfolding binary_by
returns c =
    let e = (sym (c.is_absent.ensures (token_from c.args.mem.now c.args.links.base c.args.links.size (port_of c.args.mem.now c.args.i 0)) (rw c.port_of-first.ensures.0 at c.token_of-a.ensures)) ∙ c.if-is_absent.false) in
    let f = (sym (c.is_absent-2.ensures (token_from c.args.mem.now c.args.links.base c.args.links.size (port_of c.args.mem.now c.args.i 1)) (rw c.port_of-second.ensures.0 at c.token_of-b.ensures)) ∙ c.if-is_absent-2.false) in
    let w : c.applied_to-word.result ≡ word_or (applied c.args.code (token_from c.args.mem.now c.args.links.base c.args.links.size (port_of c.args.mem.now c.args.i 0)) (token_from c.args.mem.now c.args.links.base c.args.links.size (port_of c.args.mem.now c.args.i 1))) = c.applied_to-word.ensures ∙ rw (again c.args.mem.now c.args.links.base c.args.links.size _ _ (rw c.port_of-first.ensures.0 at c.token_of-a.ensures), again c.args.mem.now c.args.links.base c.args.links.size _ _ (rw c.port_of-second.ensures.0 at c.token_of-b.ensures)) refl in
    rw (e, f) (gives_one c.args.mem.now c.give_one.new.mem c.args.links.base c.args.links.size c.args.i c.args.dry c.give_one.result true true false refl (applied c.args.code (token_from c.args.mem.now c.args.links.base c.args.links.size (port_of c.args.mem.now c.args.i 0)) (token_from c.args.mem.now c.args.links.base c.args.links.size (port_of c.args.mem.now c.args.i 1))) (register_of c.args.mem.now c.args.i) (applied-there c.args.code (token_from c.args.mem.now c.args.links.base c.args.links.size (port_of c.args.mem.now c.args.i 0)) (token_from c.args.mem.now c.args.links.base c.args.links.size (port_of c.args.mem.now c.args.i 1)) e f) (rw (c.port_of-first.ensures.0, c.port_of-second.ensures.0, w) at c.give_one.ensures))
