-- Laws of the rows that a small sheet can have: their kinds and ranges, and that every row of a small sheet is one. Assumes nothing.
use Prim.Native.Nat.{ℕ, suc, ◌+◌, ◌-◌, ◌/◌, ◌%◌, ◌≤◌, ◌<◌}
use mathlib.Core.Path.{◌≡◌, refl, sym, ap, subst, ◌∙◌}
use mathlib.Core.Bool.{Bool, true, false, cond, ◌&&◌}
use mathlib.Core.List.{List, [], ◌∷◌}
use native.Mathlib.Omega.{arith}
use native.Mathlib.Decide.{dec_lt}
use native.Mathlib.Numerals.{add-one}
use lib.Dec.{ltb, leb}
use lib.ListN.{length, get_or, drop, length-drop}
use lib.Seq.{get_or-drop}
use borrow.Author.Tests.{leb-true}
use Rattle.formula.specs.FaultRows.{Among}
use Rattle.formula.specs.Sheet.{named_in}
use Rattle.formula.specs.Tests.{all_between}
use Rattle.formula.proofs.TreeLaws.{and-true}
use Rattle.sheet_tidied.specs.TextLaws.{Row, row_shape, row_in_range}
use Rattle.sheet_listed.specs.Small.{modest, small_row, small_rows}
use Rattle.sheet_listed.specs.Search.{content_at, same_row, place_in, place_of}
use Rattle.sheet_listed.proofs.RowLaws.{listed-row}
use Rattle.sheet_listed.proofs.Ordered.{among-at}
use Rattle.sheet_listed.proofs.Contents.{contents-listed, content-among, loop-row, among-at as at-among}
use Rattle.sheet_listed.proofs.Numbers.{content-number, number_step}
use Rattle.sheet_stands.specs.Fronts.{Content}

kind_at : (k : ℕ) → leb (get_or (content_at k) 0 0) 7 ≡ true
unfolding content_at
kind_at k = go (ltb k 2) (ltb k 4) (ltb k 6) (ltb k 22) (ltb k 66) (ltb k 82) (ltb k 98) (ltb k 114)
  where
    go : (b1 b2 b3 b4 b5 b6 b7 b8 : Bool)
        → leb
        (get_or
        (cond b1 (1 ∷ k ∷ 0 ∷ 0 ∷ 0 ∷ [])
        (cond b2 (2 ∷ (k - 2) ∷ 0 ∷ 0 ∷ 0 ∷ [])
        (cond b3 (3 ∷ (k - 4) ∷ 0 ∷ 0 ∷ 0 ∷ [])
        (cond b4 (4 ∷ (1 + (k - 6) / 4) ∷ (1 + (k - 6) % 4) ∷ 0 ∷ 0 ∷ [])
        (cond b5 (5 ∷ (1 + (k - 22) / 4) ∷ (1 + (k - 22) % 4) ∷ 0 ∷ 0 ∷ [])
        (cond b6 (6 ∷ 0 ∷ 1 ∷ (1 + (k - 66) / 4) ∷ (1 + (k - 66) % 4) ∷ [])
        (cond b7 (6 ∷ 0 ∷ 2 ∷ (1 + (k - 82) / 4) ∷ (1 + (k - 82) % 4) ∷ [])
        (cond b8 (6 ∷ 1 ∷ 1 ∷ (1 + (k - 98) / 4) ∷ (1 + (k - 98) % 4) ∷ [])
        (7 ∷ (1 + (k - 114) / 16) ∷ (1 + (k - 114) / 4 % 4) ∷ (1 + (k - 114) % 4) ∷ 0 ∷ []))))))))) 0 0) 7
        ≡ true
    go true b2 b3 b4 b5 b6 b7 b8 = refl
    go false true b3 b4 b5 b6 b7 b8 = refl
    go false false true b4 b5 b6 b7 b8 = refl
    go false false false true b5 b6 b7 b8 = refl
    go false false false false true b6 b7 b8 = refl
    go false false false false false true b7 b8 = refl
    go false false false false false false true b8 = refl
    go false false false false false false false true = refl
    go false false false false false false false false = refl

module _ (q : List ℕ) (h : Content q) where
  pub content-kind : get_or q 0 0 ≤ 7
  content-kind = rw h.is (leb-true (get_or (content_at h.number) 0 0) 7 (kind_at h.number))

  pub content-listed : Among q small_rows
  content-listed = rw h.is (content-among h.number h.low)

  pub content-row : Row q
  content-row = (listed-row q content-listed).0

  pub content-range : row_in_range q ≡ true
  unfolding small_row
  content-range = (and-true (row_in_range q) (all_between 5 (named_in (row_shape q)) && modest (row_shape q)) (listed-row q content-listed).1).0

  pub content-place : place_of q < 178
  content-place = rw h.is (content-number h.number h.low)

-- A row of the list that is no for and no iter is one of them.
pub listed-content : (q : List ℕ) → Among q small_rows → get_or q 0 0 ≤ 7 → Content q
listed-content q a low = go (among-at [] q small_rows a)
  where
    go : ((i : ℕ) × (i < length small_rows) × (get_or small_rows i [] ≡ q)) → Content q
    go (i, u, e) = each (dec_lt i 178)
      where
        each : Dec (i < 178) → Content q
        each (yes l) = record { number = i; low = l; is = sym e ∙ contents-listed i l }
        each (no l) =
            let k : 178 + (i - 178) ≡ i = omega arith in
            let late : get_or (drop 178 small_rows) (i - 178) [] ≡ q = get_or-drop 178 small_rows (i - 178) [] ∙ ap (λ (j : ℕ). get_or small_rows j []) k ∙ e in
            let size : i - 178 < length (drop 178 small_rows) = rw (length-drop 178 small_rows) (omega arith) in
            let loop = loop-row q (subst (λ (x : List ℕ). Among x (drop 178 small_rows)) late (at-among (drop 178 small_rows) (i - 178) size)) in
            absurd (omega (arith, loop.0))

-- A row's number, where the first k rows are not it.
module _ (row : List ℕ) (k : ℕ) (h : k < 178) (e : place_of row ≡ k + place_in (drop k small_rows) row) where
  pub number-here : same_row (content_at k) row ≡ true → k ≡ place_of row
  number-here s = let i : place_in (drop k small_rows) row ≡ 0 = number_step row k h ∙ rw s refl in omega arith

  pub number-later : same_row (content_at k) row ≡ false → place_of row ≡ k + 1 + place_in (drop (k + 1) small_rows) row
  number-later s =
      let i : place_in (drop k small_rows) row ≡ suc (place_in (drop (suc k) small_rows) row) = number_step row k h ∙ rw s refl in
      rw (add-one k) (omega arith)
