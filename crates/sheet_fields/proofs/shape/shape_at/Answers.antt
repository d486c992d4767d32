use Rattle.formula.specs.Sheet.{shape_at}
use Rattle.sheet_fields.proofs.shape.shape_at.Goals as goal

pub returns : goal.returns
unfolding shape_at
returns c = rw (c.shape_of.ensures, c.field_at.ensures, c.field_at-2.ensures, c.field_at-3.ensures, c.field_at-4.ensures, c.field_at-5.ensures)
