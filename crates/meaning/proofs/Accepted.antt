-- Laws of specs/Accepted.antt, and what only they need.
use Prim.Native.Nat.{ℕ, zero, suc, ◌*◌, ◌-◌, ◌/◌, ◌%◌, ◌≤◌, ◌<◌}
use Rattle.std.specs.Prelude.{◌≡◌, refl, Bool, true, not, ◌&&◌, List, [], ◌∷◌, map, length, get_or}
use Rattle.std.proofs.Common.{sym, ◌∙◌, eqb-true}
use Rattle.std.proofs.Math.Path.{ap}
use Rattle.std.proofs.Math.Dec.{eqb}
use Rattle.std.proofs.lemmas.Bool.{eqb-false, not-true}
use native.Mathlib.Omega.{arith}
use Rattle.formula.specs.declared.Shape.{Shape}
use Rattle.formula.specs.declared.Shape.TheVariants.{Identifier, Constant, Pair, Operator, Let, If, For, Iter}
use Rattle.formula.specs.Sheet.{row_count, fields_of, shape_at, named_in}
use Rattle.formula.specs.Tree.{formula_of}
use Rattle.formula.specs.TreeLaws.{Named}
use Rattle.formula.proofs.TreeLaws.{all-between, and-true}
use Rattle.formula.specs.Places.{is_in_body, places_of}
use Rattle.formula.specs.PlaceLaws.{Sound, field_places}
use Rattle.formula.proofs.PlaceLaws.{places-as, last-place}
use Rattle.formula.specs.Tests.{laid_out, ranges_well, names_well, placed_well, widths_well}
use Rattle.formula.specs.Acceptance.{Admissible}
use Rattle.formula.proofs.SheetLaws.{fields-length}
use Rattle.meaning.specs.WidthLaws.{SoundE}
use Rattle.meaning.specs.Rows.{Accepted, Placed, ExpRow, width_in}
use Rattle.meaning.proofs.Rows.{expression-place, exp-sound}
use Rattle.meaning.specs.Accepted.{first, second, third}

placed-is : (p : List Bool) (b : Bool) (s : Shape) → map (λ x. is_in_body p x) (named_in s) ≡ field_places b s → Placed p b s
unfolding named_in field_places
placed-is p b (Identifier a) h = tt
placed-is p b (Constant k a) h = tt
placed-is p b (Pair x y) h = (ap first h, ap second h)
placed-is p b (Operator k x) h = ap first h
placed-is p b (Let a c x y) h = (ap first h, ap second h)
placed-is p b (If x y z) h = (ap first h, ap second h, ap third h)
placed-is p b (For a c x y) h = (ap first h, ap second h)
placed-is p b (Iter x) h = ap first h

-- Of n rows with the fields t that tests 4 to 8 have passed, a table of the rows' widths is all that is left to give.
module _ (t : List ℕ) (n : ℕ) (ok : Sound t n) where
  pub accepted-rows : (ws : List ℕ) → length t ≡ 5 * n → n ≤ length ws
      → ((r : ℕ) → 1 ≤ r → r ≤ n → ranges_well t r ≡ true)
      → ((r : ℕ) → 1 ≤ r → r ≤ n → placed_well t (places_of t n) r ≡ true)
      → ((r : ℕ) → 1 ≤ r → r ≤ n → widths_well t (places_of t n) r ≡ true)
      → ((r : ℕ) → 1 ≤ r → r ≤ n → get_or ws (r - 1) 0 ≡ width_in (is_in_body (places_of t n) r) t r)
      → Accepted t ws n
  accepted-rows ws size room ranged iters wide table =
      record {
        fields = size;
        table = room;
        named = ok.named;
        ranged = ranged;
        placed = λ r l u. placed-is _ _ _ (places-as t n ok r l u _ refl);
        iters = iters;
        wide = wide;
        widths = table;
      }

  -- The last row is the formula.
  pub last_row : (ws : List ℕ) → 1 ≤ n → Accepted t ws n → ExpRow t ws n
  last_row ws some rows =
      record {
        rows = n;
        accepted = rows;
        low = some;
        high = omega arith;
        place = expression-place (shape_at t n) (last-place t n ok.named some);
      }

module _ (s : List ℕ) (h : Admissible s) where
  pub names-earlier : Named (fields_of s) (row_count s)
  unfolding names_well
  names-earlier =
      record {
        names = λ r l u. all-between r (named_in (shape_at (fields_of s) r)) (h.names r l u);
      }

  pub settled : Sound (fields_of s) (row_count s)
  settled =
      record {
        named = names-earlier;
        once = λ x l u. eqb-true _ 1 (h.named x l (omega arith));
      }

  pub accepted : (ws : List ℕ) → row_count s ≤ length ws
      → ((r : ℕ) → 1 ≤ r → r ≤ row_count s
      → get_or ws (r - 1) 0 ≡ width_in (is_in_body (places_of (fields_of s) (row_count s)) r) (fields_of s) r)
      → Accepted (fields_of s) ws (row_count s)
  accepted ws room table = accepted-rows (fields_of s) (row_count s) settled ws (fields-length s) room h.ranged h.placed h.wide table

-- ---- the formula of an accepted sheet
-- A table with an entry for each row.
table_of : ℕ → (ℕ → ℕ) → List ℕ
table_of zero f = []
table_of (suc n) f = f 0 ∷ table_of n (λ k. f (suc k))

table-length : (n : ℕ) (f : ℕ → ℕ) → length (table_of n f) ≡ n
unfolding table_of
table-length zero f = refl
table-length (suc n) f = ap suc (table-length n (λ k. f (suc k)))

table_at : (n k : ℕ) (f : ℕ → ℕ) → k < n → get_or (table_of n f) k 0 ≡ f k
unfolding table_of
table_at zero k f h = absurd (omega arith)
table_at (suc n) zero f h = refl
table_at (suc n) (suc k) f h = table_at n k (λ j. f (suc j)) (omega arith)

some-rows : (n : ℕ) → not (eqb n 0) && eqb (n % 31) 0 ≡ true → 1 ≤ n / 31
some-rows n h =
    let both : (not (eqb n 0) ≡ true) × (eqb (n % 31) 0 ≡ true) = and-true (not (eqb n 0)) (eqb (n % 31) 0) h in
    let r : n % 31 ≡ 0 = eqb-true (n % 31) 0 both.1 in
    let p : n ≡ 0 → ⊥ = eqb-false n 0 (not-true (eqb n 0) both.0) in
    go n refl p r
  where
    go : (k : ℕ) → k ≡ n → (n ≡ 0 → ⊥) → n % 31 ≡ 0 → 1 ≤ n / 31
    go zero e p r = absurd (p (sym e))
    go (suc k) e p r = omega arith

module _ (s : List ℕ) (h : Admissible s) where
  pub has-rows : 1 ≤ row_count s
  unfolding laid_out
  has-rows = some-rows (length s) (and-true (not (eqb (length s) 0) && eqb (length s % 31) 0) _ h.laid).0

  pub formula-row : (ws : List ℕ) → Accepted (fields_of s) ws (row_count s) → ExpRow (fields_of s) ws (row_count s)
  formula-row ws ok = last_row (fields_of s) (row_count s) (settled s h) ws has-rows ok

  -- Every node of an accepted sheet's formula passes test 8.
  pub formula-sound : SoundE (formula_of s)
  unfolding formula_of
  formula-sound =
      let wide : ℕ → ℕ =
      λ k. width_in (is_in_body (places_of (fields_of s) (row_count s)) (suc k)) (fields_of s) (suc k)
      in
      let ok : Accepted (fields_of s) (table_of (row_count s) wide) (row_count s) =
      accepted s h (table_of (row_count s) wide) (rw (table-length (row_count s) wide) (omega arith))
      (λ r l u.
      let e : suc (r - 1) ≡ r = omega arith in
      table_at (row_count s) (r - 1) wide (omega arith)
      ∙ ap (λ (k : ℕ). width_in (is_in_body (places_of (fields_of s) (row_count s)) k) (fields_of s) k) e
      )
      in
      exp-sound (fields_of s) (table_of (row_count s) wide) (row_count s) (formula-row (table_of (row_count s) wide) ok)
