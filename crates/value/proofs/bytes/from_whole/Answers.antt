use native.Mathlib.Omega.{arith}
use borrow.Author.Tests.{lt-ltb, le-ltb}
use mathlib.Core.Path.{refl}
use mir.Syntax.{w32}
use mir.Val.{Fits}
use mir.Facts.{to_z-of_z, sfits_to_z}
use Rattle.value.specs.Bytes.{whole_of}
use Rattle.value.proofs.Whole.{read, unread}
use Rattle.value.proofs.bytes.from_whole.Goals as goal

pub returns-in_err-bits : goal.returns-in_err-bits
unfolding whole_of
returns-in_err-bits c =
    let n = unread c.try_from.result _ c.try_from.ensures c.in_err-bits.ensures.value in
    rw (c.from_residual.ensures, le-ltb c.args.bits 4294967296 (omega (arith, n))) refl

pub returns : goal.returns
unfolding whole_of
returns c =
    let r = read c.try_from.result c.try_from.ensures c.in_ok-bits.ensures.value in
    let f : Fits w32 c.args.bits = record { fits = r.0 } in
    rw (lt-ltb c.args.bits 4294967296 r.0, c.cast_signed.ensures, r.1, to_z-of_z (sfits_to_z f)) refl
