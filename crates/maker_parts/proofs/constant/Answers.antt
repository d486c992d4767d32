use native.Mathlib.Omega.{arith}
use mathlib.Core.Path.{refl, ap, ◌∙◌}
use Rattle.machine_layout.specs.Record.{placed}
use Rattle.maker_parts.specs.Parts.{done-constant}
use Prim.Native.Nat.{ℕ}
use lib.ListN.{get_or}
use Rattle.maker_parts.proofs.constant.Goals as goal

pub returns : goal.returns
returns c = done-constant c.args.v c.args.next.link c.args.next.operator _ _ _ _ (c.store_operator.ensures ∙ ap (λ (z : ℕ). placed c.args.mem.now c.args.next.operator (record { kind = 12; in1 = get_or c.args.env 32 0; in2 = 65535; in3 = 65535; out1 = c.args.next.link; out2 = 65535; out3 = 65535; register = z })) c.to_word.ensures) refl (omega arith)
