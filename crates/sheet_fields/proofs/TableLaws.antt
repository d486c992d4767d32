-- Laws of tables that a pass fills from the front.
use Prim.Native.Nat.{ℕ, zero, suc, ◌+◌, ◌*◌, ◌-◌, ◌≤◌, ◌<◌}
use mathlib.Core.Path.{◌≡◌, refl, sym, ap, ◌∙◌, subst}
use mathlib.Core.List.{List, [], ◌∷◌, ◌++◌}
use native.Mathlib.Omega.{arith}
use lib.ListN.{length, take, drop, set, replicate, length-append, length-drop}
use lib.Dec.{leb}
use native.Mathlib.Decide.{dec_le}
use borrow.Author.Tests.{le-leb, lt-leb}
use Rattle.formula.specs.Sheet.{row_count, lines_of, fields_of}
use Rattle.formula.specs.SheetLaws.{line_fields}
use Rattle.formula.proofs.SheetLaws.{length-line, fields-length, fields-more}
use Rattle.formula.specs.Tests.{line_at}
use lib.Seq.{paste, sets, sets-eq, take-paste, drop-paste, drop-drop, length-paste, length-take-le, take_at}

-- The next m numbers of f are written behind the first k.
pub pasted-more : (t f v : List ℕ) (k m : ℕ) → take (k + m) f ≡ take k f ++ v → length v ≡ m → k + m ≤ length t → k ≤ length f
    → sets (paste t 0 f k) k v ≡ paste t 0 f (k + m)
pasted-more t f v k m e l h g =
    let z : 0 + k ≡ k = omega arith in
    let y : 0 + (k + m) ≡ k + m = omega arith in
    let a : take k (paste t 0 f k) ≡ take k f = subst (λ (j : ℕ). take j (paste t 0 f k) ≡ take k f) z (take-paste t 0 f k (omega arith) g) in
    let b : drop k (paste t 0 f k) ≡ drop k t = subst (λ (j : ℕ). drop j (paste t 0 f k) ≡ drop j t) z (drop-paste t 0 f k (omega arith) g) in
    let c : drop (k + m) (paste t 0 f k) ≡ drop (k + m) t =
    sym (drop-drop m k (paste t 0 f k)) ∙ ap (drop m) b ∙ drop-drop m k t in
    let n : length (paste t 0 f k) ≡ length t = length-paste t 0 f k (omega arith) g in
    sets-eq v (paste t 0 f k) k (omega arith)
    ∙ ap (λ (j : ℕ). take k (paste t 0 f k) ++ v ++ drop (k + j) (paste t 0 f k)) l
    ∙ ap (λ (x : List ℕ). x ++ v ++ drop (k + m) (paste t 0 f k)) a
    ∙ ap (λ (x : List ℕ). take k f ++ v ++ x) c
    ∙ ap (λ (x : List ℕ). x ++ drop (k + m) t) (sym e)
    ∙ ap (λ (j : ℕ). take (k + m) f ++ drop j t) (sym y)

-- Row i + 1 of a sheet is written behind the first i.
pub decoded-more : (s t : List ℕ) (i : ℕ) → i < row_count s → 5 * i + 5 ≤ length t
    → sets (paste t 0 (fields_of s) (5 * i)) (5 * i) (line_fields (line_at (lines_of s) (i + 1))) ≡ paste t 0 (fields_of s) (5 * (i + 1))
decoded-more s t i h l =
    let e : 5 * i + 5 ≡ 5 * (i + 1) = omega arith in
    let f : take (5 * i + 5) (fields_of s) ≡ take (5 * i) (fields_of s) ++ line_fields (line_at (lines_of s) (i + 1)) =
    subst (λ (j : ℕ). take j (fields_of s) ≡ take (5 * i) (fields_of s) ++ line_fields (line_at (lines_of s) (i + 1))) (sym e) (fields-more s i h) in
    let m : length (fields_of s) ≡ 5 * row_count s = fields-length s in
    pasted-more t (fields_of s) (line_fields (line_at (lines_of s) (i + 1))) (5 * i) 5 f (length-line (line_at (lines_of s) (i + 1))) l (omega arith)
    ∙ ap (λ (j : ℕ). paste t 0 (fields_of s) j) e

-- Five stores in a row.
pub stored : (l : List ℕ) (i a b c d e : ℕ) → set (set (set (set (set l i a) (i + 1) b) (i + 2) c) (i + 3) d) (i + 4) e ≡ sets l i (a ∷ b ∷ c ∷ d ∷ e ∷ [])
stored l i a b c d e =
    let p : i + 1 ≡ suc i = omega arith in
    let q : i + 2 ≡ suc (suc i) = omega arith in
    let r : i + 3 ≡ suc (suc (suc i)) = omega arith in
    let s : i + 4 ≡ suc (suc (suc (suc i))) = omega arith in
    rw (p, q, r, s) refl

-- Tests on sums that cannot overflow.
pub sum-test : (a b k : ℕ) → b ≤ k → leb a (k - b) ≡ leb (a + b) k
sum-test a b k h = go (dec_le a (k - b))
  where
    go : Dec (a ≤ k - b) → leb a (k - b) ≡ leb (a + b) k
    go (yes l) = le-leb a (k - b) l ∙ sym (le-leb (a + b) k (omega arith))
    go (no l) = lt-leb a (k - b) (omega arith) ∙ sym (lt-leb (a + b) k (omega arith))

-- The first n entries of a table of m, lent and handed back as l.
module _ {A : Type 0} (n m : ℕ) (h : n ≤ m) (b : List A) (long : length b ≡ m) where
  pub part_length : n ≡ length (take n b)
  part_length = sym (length-take-le n b (omega arith))

  module _ (l : List A) (k : length l ≡ length (take n b)) where
    pub lent_length : length l ≡ n
    lent_length = k ∙ sym part_length

    pub whole_length : length (l ++ drop n b) ≡ m
    whole_length = simp (length-append, length-drop) (let e = lent_length in omega arith)

    pub part-back : take n (l ++ drop n b) ≡ l
    part-back = take_at l (drop n b) n lent_length

pub take-replicate : {A : Type 0} (n m : ℕ) (a : A) → n ≤ m → take n (replicate m a) ≡ replicate n a
take-replicate zero m a h = refl
take-replicate (suc n) zero a h = absurd (omega arith)
take-replicate (suc n) (suc m) a h = ap (λ l. a ∷ l) (take-replicate n m a (omega arith))
