-- The tables that reading an accepted sheet gives (sheet_read/specs/Reading: Accepts) are such that the maker can work on them, and the formula that it makes
-- the graph of is the sheet's. Document 01: "the last is the formula"; tests 1 to 10. Assumes an admissible sheet.
use Rattle.std.specs.Prelude.{ℕ, ◌*◌, ◌≡◌, Bool, List, length, take}
use Rattle.std.proofs.Math.Path.{refl, ap₂, subst}
use Rattle.std.proofs.Common.{sym, ap, ◌∙◌, arith}
use Rattle.std.proofs.Math.Bool.{true, false}
use Rattle.names.specs.Names.{mask}
use Rattle.formula.specs.declared.Shape.{Shape}
use Rattle.formula.specs.declared.Shape.TheVariants.{Identifier, Constant, Pair, Operator, Let, If, For, Iter}
use Rattle.formula.specs.Sheet.{row_count, fields_of, shape_at}
use Rattle.formula.specs.Tree.{exp_of, body_of, formula_of}
use Rattle.formula.specs.Places.{node_in, is_in_body, places_of}
use Rattle.formula.proofs.PlaceLaws.{last-place}
use Rattle.formula.specs.Widths.{returned}
use Rattle.formula.specs.Acceptance.{Admissible}
use Rattle.meaning.specs.Rows.{Placed, width_in, Accepted}
use Rattle.meaning.proofs.Accepted.{accepted}
use Rattle.sheet_tables.specs.Nodes.{returned_in, free_in as freeOf}
use Rattle.sheet_read.specs.Reading.{Tables, Accepts}
use Rattle.theory_verdicts.proofs.Admitting.{accepted-admitted}
use Rattle.theory_verdicts.proofs.Verdicts.{accepted-graph}
use Rattle.maker_laid.specs.Nodes.{Kids, Read, free_in}
use Rattle.maker.specs.Making.{Makeable}

placed-kids : (P : List Bool) (b : Bool) (s : Shape) → Placed P b s → Kids (λ k. is_in_body P k) b s
placed-kids P b (Identifier a) h = tt
placed-kids P b (Constant k a) h = tt
placed-kids P b (Pair x y) h = h
placed-kids P b (Operator k x) h = h
placed-kids P b (Let a k x y) h = h
placed-kids P b (If x y z) h = h
placed-kids P b (For a k x y) h = h
placed-kids P b (Iter x) h = h

module _ (s : List ℕ) (x : Tables) (accepts : Accepts s x) where
  same-fields : take (5 * x.rows) x.fields ≡ fields_of s
  same-fields = ap (λ (k : ℕ). take (5 * k) x.fields) accepts.rows ∙ accepts.fields

  pub accepted-formula : exp_of (take (5 * x.rows) x.fields) x.rows ≡ formula_of s
  unfolding formula_of
  accepted-formula = ap₂ exp_of same-fields accepts.rows

module _ (s : List ℕ) (x : Tables) (accepts : Accepts s x) (ok : Admissible s) where
  abbrev t : List ℕ
  t = fields_of s

  abbrev n : ℕ
  n = row_count s

  abbrev masks : List ℕ
  masks = take (row_count s) x.masks

  abbrev widths : List ℕ
  widths = take (row_count s) x.returned

  abbrev place : ℕ → Bool
  place r = is_in_body (places_of (fields_of s) (row_count s)) r

  width_of : (b : Bool) (r : ℕ) → returned_in (node_in b t r) ≡ width_in b t r
  unfolding node_in width_in
  width_of true r = refl
  width_of false r = refl

  free_of : (b : Bool) (r : ℕ) → mask (freeOf (node_in b t r)) ≡ mask (free_in b t r)
  unfolding node_in
  free_of true r = refl
  free_of false r = refl

  returned-of : (b : Bool) (r : ℕ) → b ≡ true → returned_in (node_in b t r) ≡ returned (body_of t r)
  unfolding node_in
  returned-of b r e = subst (λ (q : Bool). returned_in (node_in q t r) ≡ returned (body_of t r)) (sym e) refl

  widths-long : length widths ≡ n
  widths-long = accepts.tables.returned-size

  masks-long : length masks ≡ n
  masks-long = accepts.tables.masks-size

  rows-accepted : Accepted t widths n
  rows-accepted =
      accepted s ok widths (omega (arith, widths-long))
      (λ r l u. accepts.tables.returned.entry r l u ∙ width_of (place r) r)

  read : Read t masks widths
  read =
      record {
        rows = n;
        place = place;
        long = omega (arith, rows-accepted.fields);
        masks-long = omega (arith, masks-long);
        widths-long = omega (arith, widths-long);
        named = rows-accepted.named;
        kids = λ r l u. placed-kids (places_of t n) (place r) (shape_at t r) (rows-accepted.placed r l u);
        masked = λ r l u. accepts.tables.masks.entry r l u ∙ free_of (place r) r;
        returns = λ r l u e. accepts.tables.returned.entry r l u ∙ returned-of (place r) r e;
      }

  sheet-makeable : Makeable (fields_of s) (row_count s) masks widths
  unfolding formula_of read
  sheet-makeable =
      record {
        read = read;
        rows = refl;
        some = accepts.some;
        place = last-place t n rows-accepted.named accepts.some;
        admitted = accepted-admitted s ok;
        few = (accepted-graph s ok).0;
        low = (accepted-graph s ok).1;
      }

  pub accepted-makeable : Makeable (take (5 * x.rows) x.fields) x.rows (take x.rows x.masks) (take x.rows x.returned)
  accepted-makeable =
      subst (λ (k : ℕ). Makeable (take (5 * x.rows) x.fields) k (take k x.masks) (take k x.returned)) (sym accepts.rows)
      (subst (λ (f : List ℕ). Makeable f (row_count s) masks widths) (sym (same-fields s x accepts)) sheet-makeable)
