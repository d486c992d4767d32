use mathlib.Core.Path.{refl}
use Rattle.sheet_stands.proofs.contents.two_fields.Goals as goal

pub returns : goal.returns
returns c = rw (c.row.ensures, c.number.ensures, c.number-2.ensures) refl
