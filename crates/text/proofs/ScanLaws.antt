-- Laws of specs/ScanLaws.antt, and what only they need.
use Rattle.std.specs.Prelude.{ℕ, zero, suc, ◌+◌, ◌*◌, ◌%◌, ◌≤◌, ◌<◌, min, ◌≡◌, refl, Bool, true, false, not, cond, ◌&&◌, List, [], ◌∷◌, ◌++◌, length, get_or, drop, eqb, ltb, Err}
use Rattle.std.proofs.Common.{sym, ap, ◌∙◌, arith, lt-ltb, le-ltb, ne_eqb, ltb-true, ltb-false, drop_of_length-le, length-drop, drop-cons, drop-drop, get_or-drop}
use Rattle.value.specs.Operators.{pick}
use Rattle.formula.specs.Sheet.{row_count, lines_of}
use Rattle.formula.proofs.SheetLaws.{line-feed}
use Rattle.formula.specs.Tests.{lowest_from, lowest, is-passed, ended_at, laid_out}
use Rattle.text.specs.declared.Seen.{Seen}
use Rattle.text.specs.Scan.{seen, unseen, after, scanned, seen_of, seen_laid_out}
use Rattle.text.specs.ScanLaws.{ended}

pub scan-more : (x : Seen) (s : List ℕ) (i : ℕ) → i < length s → scanned x (drop i s) ≡ scanned (after x (get_or s i 0)) (drop (i + 1) s)
unfolding scanned
scan-more x s i h = let e : i + 1 ≡ suc i = omega arith in rw (drop-cons s i 0 h, e) refl

pub scan-end : (x : Seen) (s : List ℕ) (i : ℕ) → length s ≤ i → scanned x (drop i s) ≡ x
unfolding scanned
scan-end x s i h = rw (drop_of_length-le s h) refl

-- A part more.
pub scan-parts : (x : Seen) (s t : List ℕ) → scanned (scanned x s) t ≡ scanned x (s ++ t)
unfolding scanned
scan-parts x [] t = refl
scan-parts x (b ∷ s) t = scan-parts (after x b) s t

-- ---- what is kept, field by field
-- The length, as far as it is counted.
kept-length : (x : Seen) (s : List ℕ) → x.length ≤ 6201 → (scanned x s).length ≡ min (x.length + length s) 6201
unfolding scanned after
kept-length x [] h = omega arith
kept-length x (b ∷ s) h = go (ltb x.length 6201) refl (λ k y. kept-length k s y)
  where
    go : (t : Bool) → ltb x.length 6201 ≡ t → ((k : Seen) → k.length ≤ 6201 → (scanned k s).length ≡ min (k.length + length s) 6201)
        → (scanned (seen (pick t (x.length + 1) x.length) (pick (ltb x.column 30) (x.column + 1) 0) (pick (ltb x.column 30) x.ended (x.ended && eqb b 10))) s).length
        ≡ min (x.length + suc (length s)) 6201
    go true e later =
        let l : x.length < 6201 = ltb-true x.length 6201 e in
        let k = later (seen (x.length + 1) (pick (ltb x.column 30) (x.column + 1) 0) (pick (ltb x.column 30) x.ended (x.ended && eqb b 10))) (omega arith) in
        k ∙ omega arith
    go false e later =
        let l : 6201 ≤ x.length = ltb-false x.length 6201 e in
        let k = later (seen x.length (pick (ltb x.column 30) (x.column + 1) 0) (pick (ltb x.column 30) x.ended (x.ended && eqb b 10))) h in
        k ∙ omega arith

and_assoc : (a b c : Bool) → (a && b) && c ≡ a && (b && c)
and_assoc true b c = refl
and_assoc false b c = refl

kept-place : (x : Seen) (s : List ℕ) → x.column ≤ 30 → ((scanned x s).column ≡ (x.column + length s) % 31) × ((scanned x s).ended ≡ x.ended && ended x.column s)
unfolding scanned after ended
kept-place x [] h = (omega arith, sym (and-true x.ended))
  where
    and-true : (a : Bool) → a && true ≡ a
    and-true true = refl
    and-true false = refl
kept-place x (b ∷ s) h = go (ltb x.column 30) refl (λ k y. kept-place k s y)
  where
    go : (t : Bool) → ltb x.column 30 ≡ t
        → ((k : Seen) → k.column ≤ 30 → ((scanned k s).column ≡ (k.column + length s) % 31) × ((scanned k s).ended ≡ k.ended && ended k.column s))
        → ((scanned (seen (pick (ltb x.length 6201) (x.length + 1) x.length) (pick t (x.column + 1) 0) (pick t x.ended (x.ended && eqb b 10))) s).column ≡ (x.column + suc (length s)) % 31)
        × ((scanned (seen (pick (ltb x.length 6201) (x.length + 1) x.length) (pick t (x.column + 1) 0) (pick t x.ended (x.ended && eqb b 10))) s).ended
        ≡ x.ended && pick t (ended (x.column + 1) s) (eqb b 10 && ended 0 s))
    go true e later =
        let l : x.column < 30 = ltb-true x.column 30 e in
        let k = later (seen (pick (ltb x.length 6201) (x.length + 1) x.length) (x.column + 1) x.ended) (omega arith) in
        (k.0 ∙ omega arith, k.1)
    go false e later =
        let l : 30 ≤ x.column = ltb-false x.column 30 e in
        let k = later (seen (pick (ltb x.length 6201) (x.length + 1) x.length) 0 (x.ended && eqb b 10)) (omega arith) in
        (k.0 ∙ omega arith, k.1 ∙ and_assoc x.ended (eqb b 10) (ended 0 s))

-- ---- the rows one by one
row-ended : (j c : ℕ) (s : List ℕ) → c + j ≡ 30 → j < length s → ended c s ≡ eqb (get_or s j 0) 10 && ended 0 (drop (suc j) s)
unfolding ended
row-ended j c [] e h = absurd (omega arith)
row-ended zero c (b ∷ s) e h = rw (le-ltb c 30 (omega arith)) refl
row-ended (suc j) c (b ∷ s) e h = rw (lt-ltb c 30 (omega arith)) (row-ended j (c + 1) s (omega arith) (omega arith))

ended-none : ended 0 [] ≡ true
unfolding ended
ended-none = refl

rows-ended : (s : List ℕ) (k i : ℕ) → i + k ≡ row_count s → length s % 31 ≡ 0
    → ended 0 (drop (31 * i) s) ≡ is-passed (lowest_from (i + 1) k (ended_at (lines_of s)))
unfolding lowest_from
rows-ended s zero i e z =
    let n : length s ≤ 31 * i = omega arith in
    ap (ended 0) (drop_of_length-le s n) ∙ ended-none
rows-ended s (suc k) i e z =
    let h : i < row_count s = omega arith in
    let n : 31 * i + 31 ≡ 31 * (i + 1) = omega arith in
    let r : ended 0 (drop (31 * i) s) ≡ eqb (get_or s (31 * i + 30) 0) 10 && ended 0 (drop (31 * (i + 1)) s) =
    row-ended 30 0 (drop (31 * i) s) (omega arith) (rw (length-drop (31 * i) s) (omega arith))
    ∙ rw (get_or-drop (31 * i) s 30 0, drop-drop 31 (31 * i) s) (rw n refl) in
    let f : eqb (get_or s (31 * i + 30) 0) 10 ≡ ended_at (lines_of s) (i + 1) = ap (λ (n : ℕ). eqb n 10) (sym (line-feed s i h)) in
    r ∙ ap (λ (b : Bool). b && ended 0 (drop (31 * (i + 1)) s)) f
    ∙ go (ended_at (lines_of s) (i + 1)) (rows-ended s k (i + 1) (omega arith) z)
  where
    go : (b : Bool) → ended 0 (drop (31 * (i + 1)) s) ≡ is-passed (lowest_from (i + 1 + 1) k (ended_at (lines_of s)))
        → b && ended 0 (drop (31 * (i + 1)) s) ≡ is-passed (cond b (lowest_from (suc (i + 1)) k (ended_at (lines_of s))) (Err (i + 1)))
    go true q = let n : i + 1 + 1 ≡ suc (i + 1) = omega arith in rw n at q
    go false q = refl

-- ---- test 1 of all the bytes
-- Test 1 of a file, from what was kept of its parts.
pub seen-laid-out : (s : List ℕ) → seen_laid_out (seen_of s) ≡ laid_out s (lines_of s)
unfolding seen_laid_out laid_out
seen-laid-out s =
    let l : (seen_of s).length ≡ min (length s) 6201 = kept-length unseen s (omega arith) ∙ omega arith in
    let p = kept-place unseen s (omega arith) in
    let c : (seen_of s).column ≡ length s % 31 = p.0 ∙ omega arith in
    rw (l, c, p.1) (go (length s) (length s % 31) refl refl)
  where
    go : (n c : ℕ) → length s ≡ n → length s % 31 ≡ c → not (eqb (min n 6201) 0) && eqb c 0 && ended 0 s ≡ not (eqb n 0) && eqb c 0 && is-passed (lowest (row_count s) (ended_at (lines_of s)))
    go zero c e q = refl
    go (suc n) zero e q =
        let m : eqb (min (suc n) 6201) 0 ≡ false = ne_eqb (min (suc n) 6201) 0 (λ x. omega (arith, x)) in
        let t : eqb (suc n) 0 ≡ false = ne_eqb (suc n) 0 (λ x. omega (arith, x)) in
        let r : ended 0 s ≡ is-passed (lowest (row_count s) (ended_at (lines_of s))) = rows-ended s (row_count s) 0 (omega arith) q in
        rw (m, t) r
    go (suc n) (suc c) e q =
        let m : eqb (min (suc n) 6201) 0 ≡ false = ne_eqb (min (suc n) 6201) 0 (λ x. omega (arith, x)) in
        let t : eqb (suc n) 0 ≡ false = ne_eqb (suc n) 0 (λ x. omega (arith, x)) in
        let u : eqb (suc c) 0 ≡ false = ne_eqb (suc c) 0 (λ x. omega (arith, x)) in
        rw (m, t, u) refl

-- Test 2 of a file in whole rows, from what was kept.
pub seen-many : (s : List ℕ) → 6200 < (seen_of s).length → 6200 < length s
seen-many s h = omega (arith, kept-length unseen s (omega arith), h)

pub seen_few : (s : List ℕ) → (seen_of s).length ≤ 6200 → length s ≤ 6200
seen_few s h = omega (arith, kept-length unseen s (omega arith), h)
