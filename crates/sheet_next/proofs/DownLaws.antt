-- Laws of the sheets behind a given one: as long, from the last row's number up and so on to the first row; then longer ones. Assumes nothing.
use Prim.Native.Nat.{ℕ, zero, suc, ◌+◌, ◌*◌, ◌-◌, ◌≤◌, ◌<◌}
use mathlib.Core.Path.{◌≡◌, refl, sym, ap, ◌∙◌}
use mathlib.Core.Bool.{true}
use mathlib.Core.List.{List, []}
use mathlib.Core.Option.{Option, some, none}
use native.Mathlib.Omega.{arith}
use native.Mathlib.Numerals.{add-one}
use lib.ListN.{length, get_or, take}
use Rattle.sheet_listed.specs.Search.{Rows, or_else, searched, place_of, stands_at, down_from, up_from}
use Rattle.sheet_listed.specs.Texts.{field_row}
use Rattle.sheet_listed.specs.Standing.{Agree}
use Rattle.sheet_stands.specs.Fronts.{rows_to}
use Rattle.sheet_stands.proofs.FrontLaws.{agree-part, agree_less, row-alike, stand-alike}
use Rattle.sheet_next.specs.Found.{Given, found_as}
use Rattle.sheet_next.proofs.RowsLaws.{rows-size, rows_at, rows_take, rows_alike}

-- A given row stands in the part of the table that ends with it.
pub given-stands : (t : List ℕ) (n : ℕ) → Given t n → (r : ℕ) → 1 ≤ r → r ≤ n → stands_at (take (5 * r) t) r ≡ true
given-stands t n g r a b = stand-alike t (take (5 * r) t) r (agree-part r r t (omega arith)) (λ k c d. g.stand k c (omega arith)) r a (omega arith)

-- ---- as many rows

down-more : (r : ℕ) (gs : Rows) → down_from (suc r) gs ≡ or_else (searched (take r gs) (suc (place_of (get_or gs r []))) (length gs - suc r)) (down_from r gs)
unfolding down_from
down-more r gs = refl

pub down-none : (gs : Rows) → down_from 0 gs ≡ none
unfolding down_from
down-none gs = refl

-- Row r of the n given ones, which are v's; t still has those up to r.
module _ (t v : List ℕ) (n r : ℕ) (a : 1 ≤ r) (b : r ≤ n) (same : Agree r t v) where
  abbrev later : Option Rows
  later = searched (rows_to (r - 1) t) (place_of (field_row t r) + 1) (n - r)

  down-as : down_from r (rows_to n v) ≡ or_else later (down_from (r - 1) (rows_to n v))
  down-as =
      let e : suc (r - 1) ≡ r = omega arith in
      let f : r - 1 + 1 ≡ r = omega arith in
      let front : take (r - 1) (rows_to n v) ≡ rows_to (r - 1) t =
      rows_take n (r - 1) v (omega arith) ∙ sym (rows_alike (r - 1) t v (agree_less r (r - 1) t v (omega arith) same)) in
      let row : get_or (rows_to n v) (r - 1) [] ≡ field_row t r =
      rows_at n (r - 1) v (omega arith) ∙ ap (field_row v) f ∙ sym (row-alike t v r same r a (omega arith)) in
      ap (λ (i : ℕ). down_from i (rows_to n v)) (sym e)
      ∙ down-more (r - 1) (rows_to n v)
      ∙ rw (front, row, rows-size n v, e, sym (add-one (place_of (field_row t r)))) refl

  pub down-found : (rs : Rows) → some rs ≡ later → some rs ≡ down_from r (rows_to n v)
  down-found rs e = sym (down-as ∙ ap (λ (o : Option Rows). or_else o (down_from (r - 1) (rows_to n v))) (sym e))

  pub down-less : none ≡ later → down_from (r - 1) (rows_to n v) ≡ down_from r (rows_to n v)
  down-less e = sym (down-as ∙ ap (λ (o : Option Rows). or_else o (down_from (r - 1) (rows_to n v))) (sym e))

-- ---- more rows

up_more : (m k : ℕ) → up_from (suc m) (suc k) ≡ or_else (searched [] 0 (suc m - 1)) (up_from (suc (suc m)) k)
unfolding up_from
up_more m k = refl

pub up_none : (m : ℕ) → up_from m 0 ≡ none
unfolding up_from
up_none m = refl

-- Sheets of m + 1 rows.
module _ (t : List ℕ) (m : ℕ) (l : m < 5) where
  abbrev first : Option Rows
  first = searched (rows_to 0 t) 0 (m + 1 - 1)

  up-as : up_from (suc m) (5 - m) ≡ or_else first (up_from (suc (m + 1)) (5 - (m + 1)))
  unfolding rows_to
  up-as =
      let e : 5 - m ≡ suc (5 - (m + 1)) = omega arith in
      let f : suc m - 1 ≡ m + 1 - 1 = omega arith in
      ap (up_from (suc m)) e ∙ up_more m (5 - (m + 1)) ∙ rw (f, sym (add-one m)) refl

  pub up-found : (rs : Rows) → some rs ≡ first → found_as (m + 1) rs ≡ up_from (suc m) (5 - m)
  up-found rs e =
      ap (λ (i : ℕ). found_as i rs) (add-one m) ∙ sym (up-as ∙ ap (λ (o : Option Rows). or_else o (up_from (suc (m + 1)) (5 - (m + 1)))) (sym e))

  pub up-later : none ≡ first → up_from (suc (m + 1)) (5 - (m + 1)) ≡ up_from (suc m) (5 - m)
  up-later e = sym (up-as ∙ ap (λ (o : Option Rows). or_else o (up_from (suc (m + 1)) (5 - (m + 1)))) (sym e))

-- ---- both

pub long-found : (n : ℕ) (rs gs : Rows) (o : Option Rows) → some rs ≡ down_from n gs → found_as n rs ≡ or_else (down_from n gs) o
long-found zero rs gs o e = absurd (let z : ◌≡◌ {A = ℕ} 0 1 = cc (e ∙ down-none gs) in omega arith)
long-found (suc n) rs gs o e = ap (λ (x : Option Rows). or_else x o) e
