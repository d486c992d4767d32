-- A row's number among the small rows is found by going through those of the kinds 1 to 7 from the first on. Assumes nothing.
use Rattle.std.specs.Prelude.{ℕ, zero, suc, ◌≤◌, ◌<◌, ◌≡◌, Bool, true, false, cond, List, [], ◌∷◌, length, get_or, drop}
use Rattle.std.proofs.Math.Path.{refl}
use Rattle.std.proofs.Common.{ap, ◌∙◌, arith, drop-cons}
use Rattle.sheet_listed.specs.Small.{small_rows}
use Rattle.sheet_listed.specs.Search.{Rows, content_at, same_row, place_in, place_of}
use Rattle.sheet_listed.proofs.Listed.{same_self}
use Rattle.sheet_listed.proofs.Contents.{same_row_lem, rows-listed, contents-listed}

-- A row's first place is not behind any of its places.
first-place : (l : Rows) (k : ℕ) → k < length l → place_in l (get_or l k []) ≤ k
unfolding place_in
first-place [] k h = absurd (omega arith)
first-place (x ∷ l) zero h = rw (same_row_lem x x, same_self x) (omega arith)
first-place (x ∷ l) (suc k) h = go (same_row x (get_or l k [])) (first-place l k (omega arith))
  where
    go : (b : Bool) → place_in l (get_or l k []) ≤ k → cond b 0 (suc (place_in l (get_or l k []))) ≤ suc k
    go true i = omega arith
    go false i = omega arith

pub content-number : (k : ℕ) → k < 178 → place_of (content_at k) < 178
unfolding place_of
content-number k h =
    let i : place_in small_rows (content_at k) ≤ k = rw (contents-listed k h) at (first-place small_rows k (omega (arith, rows-listed))) in
    omega arith

module _ (row : List ℕ) where
  pub number-starts : place_of row ≡ place_in (drop 0 small_rows) row
  unfolding place_of
  number-starts = refl

  place-more : (x : List ℕ) (l : Rows) → place_in (x ∷ l) row ≡ cond (same_row x row) 0 (suc (place_in l row))
  unfolding place_in
  place-more x l = refl

  -- Row number k is it, or it is looked for behind.
  pub number_step : (k : ℕ) → k < 178 → place_in (drop k small_rows) row ≡ cond (same_row (content_at k) row) 0 (suc (place_in (drop (suc k) small_rows) row))
  number_step k h =
      ap (λ (l : Rows). place_in l row) (drop-cons small_rows k [] (omega (arith, rows-listed)))
      ∙ place-more (get_or small_rows k []) (drop (suc k) small_rows)
      ∙ ap (λ (x : List ℕ). cond (same_row x row) 0 (suc (place_in (drop (suc k) small_rows) row))) (contents-listed k h)
