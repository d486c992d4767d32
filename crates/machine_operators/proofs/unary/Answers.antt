use Rattle.std.specs.Prelude.{Some}
use mathlib.Core.Path.{◌≡◌, sym, ◌∙◌, refl}
use mathlib.Core.Bool.{true, false}
use Rattle.machine_firing.specs.Links.{head_from, token_from}
use Rattle.machine_gates.specs.Decide.{is_absent}
use Rattle.machine_layout.specs.Layout.{port_of}
use Rattle.machine_firing.specs.Fire.{register_of}
use Rattle.value.specs.Bytes.{word_or, decoded, value_of}
use Rattle.network.specs.Values.{err-value}
use Rattle.value.proofs.Tokens.{token-of-word}
use mathlib.Core.List.{List}
use Prim.Native.Nat.{ℕ}
use Rattle.machine_firing.specs.MoveLaws.{moves-idle, gives_one}
use Rattle.machine_gates.specs.Gates.{unary_by, applied}
use Rattle.machine_gates.proofs.GateLaws.{applied-there}
use Rattle.machine_operators.proofs.unary.Goals as goal

-- a token that was read is read again from its word

again : (m : List ℕ) (base size l w : ℕ) → w ≡ word_or (token_from m base size l) → decoded (value_of w) ≡ token_from m base size l
unfolding token_from
again m base size l w e = rw (e, token-of-word (head_from m base size l)) refl

pub returns-then-is_absent : goal.returns-then-is_absent
unfolding unary_by
returns-then-is_absent c = rw (sym (c.is_absent.ensures (token_from c.args.mem.now c.args.links.base c.args.links.size (port_of c.args.mem.now c.args.i 0)) (rw c.port_of-first.ensures.0 at c.token_of-a.ensures)) ∙ c.if-is_absent.true) (moves-idle c.args.mem.now c.args.links.base c.args.links.size c.args.i c.args.dry)

pub returns : goal.returns
unfolding unary_by value_of
returns c =
    let e = (sym (c.is_absent.ensures (token_from c.args.mem.now c.args.links.base c.args.links.size (port_of c.args.mem.now c.args.i 0)) (rw c.port_of-first.ensures.0 at c.token_of-a.ensures)) ∙ c.if-is_absent.false) in
    let w : c.applied_to-word.result ≡ word_or (applied c.args.code (token_from c.args.mem.now c.args.links.base c.args.links.size (port_of c.args.mem.now c.args.i 0)) (Some err-value)) = c.applied_to-word.ensures ∙ rw (again c.args.mem.now c.args.links.base c.args.links.size _ _ (rw c.port_of-first.ensures.0 at c.token_of-a.ensures)) refl in
    rw e (gives_one c.args.mem.now c.give_one.new.mem c.args.links.base c.args.links.size c.args.i c.args.dry c.give_one.result true false false refl (applied c.args.code (token_from c.args.mem.now c.args.links.base c.args.links.size (port_of c.args.mem.now c.args.i 0)) (Some err-value)) (register_of c.args.mem.now c.args.i) (applied-there c.args.code (token_from c.args.mem.now c.args.links.base c.args.links.size (port_of c.args.mem.now c.args.i 0)) (Some err-value) e refl) (rw (c.port_of-first.ensures.0, w) at c.give_one.ensures))
