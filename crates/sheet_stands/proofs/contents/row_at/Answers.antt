use mathlib.Core.Path.{refl}
use Rattle.sheet_stands.proofs.contents.row_at.Goals as goal

pub returns : goal.returns
returns c = rw (c.row.ensures, c.field_at.ensures, c.field_at-2.ensures, c.field_at-3.ensures, c.field_at-4.ensures, c.field_at-5.ensures) refl
