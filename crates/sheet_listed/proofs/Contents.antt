-- Laws of specs/Contents.antt, and what only they need.
use Rattle.std.specs.Prelude.{ℕ, zero, suc, ◌+◌, ◌≤◌, ◌<◌, ◌≡◌, refl, Bool, true, ◌&&◌, List, [], ◌∷◌, map, eqb, leb, length, get_or, take, drop}
use Rattle.std.proofs.Common.{sym, ap, ◌∙◌, inl, inr, arith, get_or-take, eqb-true, leb-true}
use Rattle.std.proofs.lemmas.Bool.{false≢true}
use Rattle.formula.specs.FaultRows.{Among}
use Rattle.formula.proofs.TreeLaws.{and-true}
use Rattle.sheet_listed.specs.Small.{count_from, small_rows, same}
use Rattle.sheet_listed.specs.Search.{Rows, content_at, same_row}
use Rattle.sheet_listed.proofs.Listed.{same_true}
use Rattle.sheet_listed.specs.Contents.{kind_between, all_rows, same_rows, checked}

pub same_row_lem : (xs ys : List ℕ) → same_row xs ys ≡ same xs ys
unfolding same
same_row_lem [] [] = refl
same_row_lem [] (y ∷ ys) = refl
same_row_lem (x ∷ xs) [] = refl
same_row_lem (x ∷ xs) (y ∷ ys) = ap (λ (b : Bool). eqb x y && b) (same_row_lem xs ys)

all-checked : checked small_rows ≡ true
unfolding checked small_rows
all-checked = refl

same-rows : (ls ms : Rows) → same_rows ls ms ≡ true → ls ≡ ms
unfolding same_rows
same-rows [] [] h = refl
same-rows [] (m ∷ ms) h = absurd (false≢true h)
same-rows (l ∷ ls) [] h = absurd (false≢true h)
same-rows (l ∷ ls) (m ∷ ms) h =
    let both = and-true (same_row l m) (same_rows ls ms) h in
    cc (same_true l m (sym (same_row_lem l m) ∙ both.0), same-rows ls ms both.1)

parts : (eqb (length small_rows) 230 ≡ true)
    × (same_rows (take 178 small_rows) (map content_at (count_from 0 178)) ≡ true)
    × (all_rows (kind_between 1 9) small_rows ≡ true)
    × (all_rows (kind_between 8 9) (drop 178 small_rows) ≡ true)
unfolding checked
parts =
    let kinds = all_rows (kind_between 1 9) small_rows in
    let loops = all_rows (kind_between 8 9) (drop 178 small_rows) in
    let contents = same_rows (take 178 small_rows) (map content_at (count_from 0 178)) in
    let first = and-true (eqb (length small_rows) 230) (contents && (kinds && loops)) all-checked in
    let second = and-true contents (kinds && loops) first.1 in
    let third = and-true kinds loops second.1 in
    (first.0, second.0, third.0, third.1)

pub rows-listed : length small_rows ≡ 230
rows-listed = eqb-true (length small_rows) 230 parts.0

-- ---- said of each row
each_row : (p : List ℕ → Bool) (ls : Rows) → all_rows p ls ≡ true → (l : List ℕ) → Among l ls → p l ≡ true
unfolding all_rows
each_row p [] h l a = absurd a
each_row p (x ∷ ls) h l (inl e) = ap p e ∙ (and-true (p x) (all_rows p ls) h).0
each_row p (x ∷ ls) h l (inr a) = each_row p ls (and-true (p x) (all_rows p ls) h).1 l a

kind-between : (low high : ℕ) (l : List ℕ) → kind_between low high l ≡ true → (low ≤ get_or l 0 0) × (get_or l 0 0 ≤ high)
unfolding kind_between
kind-between low high l h =
    let both = and-true (leb low (get_or l 0 0)) (leb (get_or l 0 0) high) h in
    (leb-true low (get_or l 0 0) both.0, leb-true (get_or l 0 0) high both.1)

pub listed-kind : (l : List ℕ) → Among l small_rows → (1 ≤ get_or l 0 0) × (get_or l 0 0 ≤ 9)
listed-kind l a = kind-between 1 9 l (each_row (kind_between 1 9) small_rows parts.2 l a)

-- Behind the first 178 stand those of a for and an iter.
pub loop-row : (l : List ℕ) → Among l (drop 178 small_rows) → (8 ≤ get_or l 0 0) × (get_or l 0 0 ≤ 9)
loop-row l a = kind-between 8 9 l (each_row (kind_between 8 9) (drop 178 small_rows) parts.3 l a)

counted : (f : ℕ → List ℕ) (a n k : ℕ) → k < n → get_or (map f (count_from a n)) k [] ≡ f (a + k)
unfolding count_from
counted f a zero k h = absurd (omega arith)
counted f a (suc n) zero h = let e : a + 0 ≡ a = omega arith in rw e refl
counted f a (suc n) (suc k) h = let e : suc a + k ≡ a + suc k = omega arith in counted f (suc a) n k (omega arith) ∙ ap f e

-- The first 178 by their number.
pub contents-listed : (k : ℕ) → k < 178 → get_or small_rows k [] ≡ content_at k
contents-listed k h =
    let e : 0 + k ≡ k = omega arith in
    sym (get_or-take 178 small_rows k [] h) ∙ ap (λ (l : Rows). get_or l k []) (same-rows (take 178 small_rows) (map content_at (count_from 0 178)) parts.1) ∙ counted content_at 0 178 k h ∙ ap content_at e

pub among-at : (ls : Rows) (k : ℕ) → k < length ls → Among (get_or ls k []) ls
among-at [] k h = absurd (omega arith)
among-at (l ∷ ls) zero h = inl refl
among-at (l ∷ ls) (suc k) h = inr (among-at ls k (omega arith))

pub content-among : (k : ℕ) → k < 178 → Among (content_at k) small_rows
content-among k h = rw (sym (contents-listed k h)) (among-at small_rows k (omega (arith, rows-listed)))
