use Prim.Native.Nat.{◌+◌}
use native.Mathlib.Omega.{arith}
use Rattle.value.proofs.Words.{word_read}
use Rattle.value.proofs.bytes.load.Goals as goal

pub returns : goal.returns
returns c = (
  word_read c.args.s.now c.args.at _ _ _ _ _ c.from.ensures c.from-2.ensures c.from-3.ensures c.from-4.ensures c.from-5.ensures,
  omega (arith, c.from.ensures, c.from-2.ensures, c.from-3.ensures, c.from-4.ensures, c.from-5.ensures, (c.type_inv.s c.args.at).fits, (c.type_inv.s (c.args.at + 1)).fits, (c.type_inv.s (c.args.at + 2)).fits, (c.type_inv.s (c.args.at + 3)).fits, (c.type_inv.s (c.args.at + 4)).fits),
)
