-- The tables of an accepted sheet (sheet_read/specs/Reading: Accepts) as the maker is lent them: their rows are few, and each table is as long as its rows ask.
-- Assumes the reader's promise of them; what the maker tells, an admissible sheet too.
use Rattle.std.specs.Prelude.{ℕ, ◌*◌, ◌≤◌, ◌≡◌, List, length, take}
use Rattle.std.proofs.Common.{sym, subst, arith, length-take}
use Rattle.formula.specs.Acceptance.{Admissible}
use Rattle.sheet_read.specs.Reading.{Tables, Accepts}
use Rattle.formula.specs.Tree.{exp_of}
use Rattle.maker.specs.Making.{making_of}
use Rattle.maker.specs.declared.Making.{Making}
use Rattle.machine_start.specs.Completed.{Modest, made-modest}
use Rattle.maker.specs.AcceptedSheets.{accepted-makeable}

module _ (s : List ℕ) (x : Tables) (A : Accepts s x) where
  pub rows_few : x.rows ≤ 200
  rows_few = omega (arith, A.rows, A.few)

  pub fields-size : 5 * x.rows ≡ length (take (5 * x.rows) x.fields)
  fields-size = rw (A.rows, A.fields) (sym A.tables.ready.size)

  pub fields-long : 5 * x.rows ≤ length x.fields
  fields-long = omega (arith, fields-size, length-take (5 * x.rows) x.fields)

  pub masks-size : x.rows ≡ length (take x.rows x.masks)
  masks-size = rw A.rows (sym A.tables.masks-size)

  pub masks-long : x.rows ≤ length x.masks
  masks-long = omega (arith, masks-size, length-take x.rows x.masks)

  pub widths-size : x.rows ≡ length (take x.rows x.returned)
  widths-size = rw A.rows (sym A.tables.returned-size)

  pub widths-long : x.rows ≤ length x.returned
  widths-long = omega (arith, widths-size, length-take x.rows x.returned)

  -- what the maker tells of them fits the header
  pub making-modest : Admissible s → (made : Making) → made ≡ making_of (exp_of (take (5 * x.rows) x.fields) x.rows) → Modest made
  making-modest ok made e =
      let M = accepted-makeable s x A ok in
      subst Modest (sym e) (made-modest (exp_of (take (5 * x.rows) x.fields) x.rows) M.admitted M.few M.low)
