-- Laws of the search's steps over tables: a row that does not stand, the last row, an inner row; and the rows in their order. Assumes nothing.
use Prim.Native.Nat.{ℕ, suc, ◌+◌, ◌*◌, ◌-◌, ◌≤◌, ◌<◌}
use mathlib.Core.Path.{◌≡◌, refl, sym, ap, subst, ◌∙◌}
use mathlib.Core.Bool.{Bool, true, false, cond}
use mathlib.Core.List.{List, [], ◌∷◌, ◌++◌, flatten}
use mathlib.Core.Option.{Option, some, none}
use native.Mathlib.Omega.{arith}
use native.Mathlib.Numerals.{add-one}
use lib.ListN.{length, take}
use lib.Seq.{sets, length-sets, length-take-le}
use Rattle.std.specs.Prelude.{Ok}
use Rattle.formula.specs.Tests.{lowest, ranges_well, names_well}
use Rattle.formula.proofs.TestLaws.{each-passed}
use Rattle.sheet_tidied.specs.Text.{sheet_text}
use Rattle.sheet_listed.specs.Small.{is_small}
use Rattle.sheet_listed.specs.Search.{Rows, first_small, or_else, searched, content_at, stands_at}
use Rattle.sheet_listed.specs.Texts.{field_row}
use Rattle.sheet_listed.specs.Listed.{RowsListed}
use Rattle.sheet_listed.specs.Standing.{Agree}
use Rattle.sheet_listed.specs.SearchLaws.{behind_row}
use Rattle.sheet_listed.proofs.SearchLaws.{search-step, search-inner, search-leaf, search-leave}
use Rattle.sheet_listed.proofs.SmallTests.{small-by-tests}
use Rattle.sheet_stands.specs.Fronts.{rows_to, Content, Front}
use Rattle.sheet_stands.specs.Tests.{formula_passes}
use Rattle.sheet_stands.proofs.ContentLaws.{content-row, content-range}
use Rattle.sheet_stands.proofs.FrontLaws.{stands-says, agree-part, agree-back, agree_then, row-alike, front-alike}
use Rattle.sheet_next.specs.Found.{found}
use Rattle.sheet_next.proofs.RowsLaws.{rows-size, rows_more, rows_alike, rows-flat, rows-listed, rows_written, put-before, put-row}

-- ---- a table and its part up to row r

module _ (t : List ℕ) (r : ℕ) (a : 1 ≤ r) (h : 5 * r ≤ length t) where
  abbrev part : List ℕ
  part = take (5 * r) t

  pub part-size : length part ≡ 5 * r
  part-size = length-take-le (5 * r) t h

  pub part-content : Content (field_row t r) → Content (field_row part r)
  part-content q = subst Content (row-alike t part r (agree-part r r t (omega arith)) r a (omega arith)) q

  module _ (w m : List ℕ) where
    pub part-front : Front t w m (r - 1) → Front part w m (r - 1)
    part-front f = front-alike t part (r - 1) (agree-part (r - 1) r t (omega arith)) w m f

    pub whole-front : (i : ℕ) → i ≤ r → Front part w m i → Front t w m i
    whole-front i b f = front-alike part t i (agree-back i t part (agree-part i r t b)) w m f

-- ---- row r with what can follow it

module _ (t w m : List ℕ) (n r : ℕ) (a : 1 ≤ r) (b : r ≤ n) (few : n ≤ 5) (size : length t ≡ 25) where
  abbrev outcome : Option Rows
  outcome = first_small (behind_row (rows_to (r - 1) t) (field_row t r) (n - r))

  flat : flatten (rows_to (r - 1) t ++ (field_row t r ∷ [])) ≡ take (5 * r) t
  flat = ap flatten (sym (rows_more r t a)) ∙ rows-flat r t (omega arith)

  pub fallen : Content (field_row t r) → Front t w m (r - 1) → stands_at (take (5 * r) t) r ≡ false → none ≡ outcome
  fallen q f e =
      let k : suc (length (rows_to (r - 1) t)) ≡ r = omega (arith, rows-size (r - 1) t) in
      sym (search-leave (rows_to (r - 1) t) (rows_written t (r - 1) f.content) (field_row t r) (content-row (field_row t r) q) (rw (k, flat) e) (n - r))

  pub inner : r < n → searched (rows_to (r + 1 - 1) t) 0 (n - (r + 1)) ≡ outcome
  inner l =
      let e : r + 1 - 1 ≡ r = omega arith in
      let k : suc (n - (r + 1)) ≡ n - r = omega arith in
      ap (λ (i : ℕ). searched (rows_to i t) 0 (n - (r + 1))) e
      ∙ ap (λ (front : Rows). searched front 0 (n - (r + 1))) (rows_more r t a)
      ∙ sym (search-inner (rows_to (r - 1) t) (field_row t r) (n - (r + 1)))
      ∙ ap (λ (j : ℕ). first_small (behind_row (rows_to (r - 1) t) (field_row t r) j)) k

-- Rows of the list by tests 6 to 9, where each names rows before it.
small-passes : (rs : Rows) (n : ℕ) → length rs ≡ n → RowsListed n rs → 1 ≤ n → n ≤ 5 → (u : List ℕ) → flatten rs ≡ u → lowest n (names_well u) ≡ Ok tt
    → is_small (sheet_text rs) ≡ formula_passes u n
unfolding formula_passes
small-passes rs n e l a b u f h =
    small-by-tests rs (rw e l) (rw e a) (rw e b) ∙ rw (e, f, h) refl

module _ (u w m : List ℕ) (n : ℕ) (f : Front u w m n) where
  pub front-ranged : lowest n (ranges_well u) ≡ Ok tt
  unfolding ranges_well
  front-ranged = each-passed n (ranges_well u) (λ r a b. content-range (field_row u r) (f.content r a b))

  pub front-names : lowest n (names_well u) ≡ Ok tt
  front-names = each-passed n (names_well u) (λ r a b. (stands-says u r (f.stand r a b)).names)

found_as : (b : Bool) (rs : Rows) → found b rs ≡ cond b (some rs) none
found_as true rs = refl
found_as false rs = refl

pub last_row : (t w m : List ℕ) (n r : ℕ) → 1 ≤ r → r ≡ n → n ≤ 5 → length t ≡ 25 → Front (take (5 * r) t) w m r → (b : Bool) → b ≡ formula_passes (take (5 * r) t) n
    → found b (rows_to n t) ≡ first_small (behind_row (rows_to (r - 1) t) (field_row t r) (n - r))
last_row t w m n r a e few size f b h =
    let u = take (5 * r) t in
    let g = front-alike u t r (agree-back r t u (agree-part r r t (omega arith))) w m f in
    let z : n - r ≡ 0 = omega arith in
    let s : is_small (sheet_text (rows_to r t)) ≡ formula_passes u r =
    small-passes (rows_to r t) r (rows-size r t) (rows-listed t r g.content) a (omega arith) u (rows-flat r t (omega arith)) (front-names u w m r f) in
    found_as b (rows_to n t)
    ∙ ap (λ (c : Bool). cond c (some (rows_to n t)) none) (h ∙ ap (formula_passes u) (sym e) ∙ sym s)
    ∙ ap (λ (i : ℕ). cond (is_small (sheet_text (rows_to r t))) (some (rows_to i t)) none) (sym e)
    ∙ ap (λ (rs : Rows). cond (is_small (sheet_text rs)) (some rs) none) (rows_more r t a)
    ∙ sym (ap (λ (j : ℕ). first_small (behind_row (rows_to (r - 1) t) (field_row t r) j)) z ∙ search-leaf (rows_to (r - 1) t) (field_row t r))

-- ---- the rows in their order

-- u is t with row number k as row r.
module _ (t u : List ℕ) (r k : ℕ) (a : 1 ≤ r) (b : r ≤ 5) (low : k < 178) (size : length t ≡ 25) (laid : u ≡ sets t (5 * (r - 1)) (content_at k)) where
  content : Content (content_at k)
  content = record { number = k; low = low; is = refl }

  laid-row : field_row u r ≡ content_at k
  laid-row = rw laid (put-row t (content_at k) (content-row (content_at k) content) r a (omega arith))

  pub laid-content : Content (field_row u r)
  laid-content = record { number = k; low = low; is = laid-row }

  laid-before : Agree (r - 1) u t
  laid-before = rw laid (put-before t (content_at k) (content-row (content_at k) content) r a (omega arith))

  -- Rows that stay with u stay with what t stays with.
  pub laid-stays : (x v : List ℕ) → Agree (r - 1) x u → Agree (r - 1) t v → Agree (r - 1) x v
  laid-stays x v g h = agree_then (r - 1) x u v g (agree_then (r - 1) u t v laid-before h)

  pub laid-size : length u ≡ 25
  laid-size = ap length laid ∙ length-sets t (5 * (r - 1)) (content_at k) ∙ size

  pub laid-front : (w m : List ℕ) → Front t w m (r - 1) → Front u w m (r - 1)
  laid-front w m f = front-alike t u (r - 1) (agree-back (r - 1) u t laid-before) w m f

  -- Behind the rows of v it is number k that is looked at.
  pub laid-search : (v : List ℕ) → Agree (r - 1) t v → (j : ℕ)
      → first_small (behind_row (rows_to (r - 1) u) (field_row u r) j) ≡ first_small (behind_row (rows_to (r - 1) v) (content_at k) j)
  laid-search v h j =
      rw (laid-row, rows_alike (r - 1) u v (agree_then (r - 1) u t v laid-before h)) refl

module _ (front : Rows) (k j : ℕ) (l : k < 178) where
  pub step-found : (rs : Rows) → some rs ≡ first_small (behind_row front (content_at k) j) → some rs ≡ searched front k j
  step-found rs e = sym (search-step front k j l ∙ ap (λ (o : Option Rows). or_else o (searched front (suc k) j)) (sym e))

  pub step-none : none ≡ first_small (behind_row front (content_at k) j) → searched front (k + 1) j ≡ searched front k j
  step-none e =
      ap (λ (i : ℕ). searched front i j) (add-one k) ∙ sym (search-step front k j l ∙ ap (λ (o : Option Rows). or_else o (searched front (suc k) j)) (sym e))
