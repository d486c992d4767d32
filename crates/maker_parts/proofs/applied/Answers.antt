use borrow.Author.Tests.{lt-ltb, le-ltb}
use mathlib.Core.Bool.{Bool, cond}
use Rattle.maker_parts.proofs.applied.Goals.{then-x-gt1, else-x-gt1}
use mathlib.Core.Path.{◌≡◌, refl, sym, ap, ◌∙◌}
use Rattle.machine_layout.specs.Record.{placed}
use Rattle.maker_laid.specs.Emitted.{gate_record}
use Rattle.maker_parts.specs.Parts.{operator-encoded, second_of}
use Prim.Native.Nat.{ℕ}
use lib.ListN.{get_or}
use native.Mathlib.Omega.{arith}
use Rattle.maker_parts.proofs.applied.Goals as goal

pub returns : goal.returns
returns c =
    let second : c.if-x-gt1.second ≡ second_of c.args.x.count c.args.x.outs =
    elim c.if-x-gt1.branch [
      | then-x-gt1 w ↦ w.second-is ∙ ap (λ (b : Bool). cond b (get_or c.args.x.outs 1 0) 65535) (sym (lt-ltb 1 c.args.x.count w.if-x-gt1.true))
      | else-x-gt1 w ↦ w.second-is ∙ ap (λ (b : Bool). cond b (get_or c.args.x.outs 1 0) 65535) (sym (le-ltb 1 c.args.x.count w.if-x-gt1.false))
    ]
    in
    record { memory = c.store_operator.ensures ∙ ap (placed c.args.mem.now c.args.x.next.operator) (c.gate_of-o.ensures ∙ ap (λ (z : ℕ). gate_record c.args.code (get_or c.args.x.outs 0 0) z 65535 c.args.x.next.link) second ∙ sym (operator-encoded c.args.code c.args.x.next.link c.args.x.count c.args.x.outs c.requires.1.0 c.requires.1.1 c.requires.2)); count = refl; link = refl; long = omega arith; links = refl; operators = refl }
