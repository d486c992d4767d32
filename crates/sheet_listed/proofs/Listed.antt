-- Laws of specs/Listed.antt, and what only they need.
use Rattle.std.specs.Prelude.{ℕ, zero, suc, ◌≤◌, ◌<◌, ◌≡◌, refl, ◌⊎◌, ◌↔◌, Bool, true, false, cond, List, [], ◌∷◌, ◌++◌, map, eqb, length, get_or}
use Rattle.std.proofs.Common.{sym, ap, subst, ◌∙◌, inl, inr, eqb-true, eq-eqb, arith}
use Rattle.std.proofs.lemmas.Bool.{false≢true}
use Rattle.std.proofs.Math.Decide.{ℕ_discrete}
use Rattle.formula.specs.Sheet.{row_count}
use Rattle.formula.proofs.TreeLaws.{and-true}
use Rattle.formula.specs.FaultRows.{Among}
use Rattle.sheet_tidied.specs.Text.{sheet_text}
use Rattle.sheet_tidied.specs.TextLaws.{Rows}
use Rattle.sheet_listed.specs.Small.{is_small, filtered, each, small_rows, sheets_of, sheets_up_to, small_sheets, unlisted, same, headed, following, next_of}
use Rattle.sheet_listed.proofs.Lists.{among-left, among-right, among-either, among-filtered, filtered-among, among-map, map-among, among-each, each-among}
use Rattle.sheet_listed.proofs.RowLaws.{listed-row}
use Rattle.sheet_listed.proofs.Texts.{small-has, small-text, rows-length, row-among}
use Rattle.sheet_listed.specs.Texts.{rows_of}
use Rattle.sheet_listed.specs.Listed.{before, RowsListed}

rest-listed : (n : ℕ) (row : List ℕ) (rs : List (List ℕ)) → RowsListed (suc n) (row ∷ rs) → RowsListed n rs
rest-listed n row rs h = record { size = omega (arith, h.size); listed = λ i u. h.listed (suc i) (omega arith) }

pub among-sheets : (n : ℕ) (rs : List (List ℕ)) → RowsListed n rs → Among rs (sheets_of n)
unfolding sheets_of
among-sheets zero [] h = inl refl
among-sheets zero (row ∷ rs) h = absurd (omega (arith, h.size))
among-sheets (suc n) [] h = absurd (omega (arith, h.size))
among-sheets (suc n) (row ∷ rs) h =
    among-each (before (sheets_of n)) row small_rows (row ∷ rs) (h.listed 0 (omega arith))
    (among-map (λ (rest : List (List ℕ)). row ∷ rest) rs (sheets_of n) (among-sheets n rs (rest-listed n row rs h)))

pub sheets-among : (n : ℕ) (rs : List (List ℕ)) → Among rs (sheets_of n) → RowsListed n rs
unfolding sheets_of
sheets-among zero rs (inl e) = record { size = ap length e; listed = λ i u. absurd (omega arith) }
sheets-among (suc n) rs h =
    each-among (before (sheets_of n)) (RowsListed (suc n)) small_rows
    (λ row a. map-among (λ (rest : List (List ℕ)). row ∷ rest) (RowsListed (suc n)) (sheets_of n) (λ rest i. go row a rest (sheets-among n rest i)))
    rs h
  where
    go : (row : List ℕ) → Among row small_rows → (rest : List (List ℕ)) → RowsListed n rest → RowsListed (suc n) (row ∷ rest)
    go row a rest i = record { size = ap suc i.size; listed = each }
      where
        each : (j : ℕ) → j < suc n → Among (get_or (row ∷ rest) j []) small_rows
        each zero u = a
        each (suc j) u = i.listed j (omega arith)
sheets-among zero rs (inr x'') = elim x'' [ ]

-- Its rows are five numbers each.
pub listed-rows : (n : ℕ) (rs : List (List ℕ)) → RowsListed n rs → Rows rs
listed-rows zero [] h = tt
listed-rows zero (row ∷ rs) h = absurd (omega (arith, h.size))
listed-rows (suc n) [] h = absurd (omega (arith, h.size))
listed-rows (suc n) (row ∷ rs) h = ((listed-row row (h.listed 0 (omega arith))).0, listed-rows n rs (rest-listed n row rs h))

pub among-up-to : (n k : ℕ) (rs : List (List ℕ)) → 1 ≤ k → k ≤ n → Among rs (sheets_of k) → Among rs (sheets_up_to n)
unfolding sheets_up_to
among-up-to zero k rs l u h = absurd (omega arith)
among-up-to (suc n) k rs l u h = go (ℕ_discrete k (suc n)) (among-up-to n k rs l)
  where
    go : Dec (k ≡ suc n) → (k ≤ n → Among rs (sheets_of k) → Among rs (sheets_up_to n)) → Among rs (sheets_up_to n ++ sheets_of (suc n))
    go (yes e) ih = among-right rs (sheets_up_to n) (sheets_of (suc n)) (subst (λ (m : ℕ). Among rs (sheets_of m)) e h)
    go (no e) ih = among-left rs (sheets_up_to n) (sheets_of (suc n)) (ih (omega arith) h)

pub up-to-among : (n : ℕ) (rs : List (List ℕ)) → Among rs (sheets_up_to n) → (1 ≤ length rs) × (length rs ≤ n) × Among rs (sheets_of (length rs))
unfolding sheets_up_to
up-to-among zero rs h = absurd h
up-to-among (suc n) rs h = go (among-either rs (sheets_up_to n) (sheets_of (suc n)) h) (up-to-among n rs)
  where
    go : Among rs (sheets_up_to n) ⊎ Among rs (sheets_of (suc n)) → (Among rs (sheets_up_to n) → (1 ≤ length rs) × (length rs ≤ n) × Among rs (sheets_of (length rs)))
        → (1 ≤ length rs) × (length rs ≤ suc n) × Among rs (sheets_of (length rs))
    go (inl i) ih = let k = ih i in (k.0, omega (arith, k.1), k.2)
    go (inr i) ih =
        let e = (sheets-among (suc n) rs i).size in
        (omega arith, omega arith, subst (λ (m : ℕ). Among rs (sheets_of m)) (sym e) i)

-- ---- the list
-- The rows of a small sheet are n of the list of small rows, n from 1 to 5.
pub small-rows : (s : List ℕ) → is_small s ≡ true → RowsListed (row_count s) (rows_of s)
small-rows s h = record { size = rows-length s; listed = row-among s h }

small-up-to : (n : ℕ) (s : List ℕ) → is_small s ≡ true → row_count s ≤ n → Among s (filtered is_small (map sheet_text (sheets_up_to n)))
small-up-to n s h u =
    let k = small-has s h in
    among-filtered is_small s (map sheet_text (sheets_up_to n))
    (subst (λ (x : List ℕ). Among x (map sheet_text (sheets_up_to n))) (sym (small-text s h))
    (among-map sheet_text (rows_of s) (sheets_up_to n)
    (among-up-to n (row_count s) (rows_of s) k.rowwise.some u (among-sheets (row_count s) (rows_of s) (small-rows s h)))))
    h

pub small-sheets : small_sheets ≡ filtered is_small (map sheet_text (sheets_up_to 5))
unfolding small_sheets
small-sheets = refl

listed_small : (s : List ℕ) → Among s small_sheets → is_small s ≡ true
listed_small s a = (filtered-among is_small s (map sheet_text (sheets_up_to 5)) (subst (Among s) small-sheets a)).1

small-listed : (s : List ℕ) → is_small s ≡ true → Among s small_sheets
small-listed s h = subst (Among s) (sym small-sheets) (small-up-to 5 s h (small-has s h).few)

-- The list is exactly the small sheets.
pub listed-iff : (s : List ℕ) → Among s small_sheets ↔ (is_small s ≡ true)
listed-iff s = (listed_small s, small-listed s)

-- ---- "neither empty nor in the list"
pub same_true : (xs ys : List ℕ) → same xs ys ≡ true → xs ≡ ys
unfolding same
same_true [] [] h = refl
same_true [] (y ∷ ys) h = absurd (false≢true h)
same_true (x ∷ xs) [] h = absurd (false≢true h)
same_true (x ∷ xs) (y ∷ ys) h =
    let i = and-true (eqb x y) (same xs ys) h in
    cc (eqb-true x y i.0, same_true xs ys i.1)

pub same_self : (xs : List ℕ) → same xs xs ≡ true
unfolding same
same_self [] = refl
same_self (x ∷ xs) = rw (eq-eqb x x refl) (same_self xs)

headed-listed : (l : List (List ℕ)) → headed l ≡ unlisted → ⊥
headed-listed [] h = let z : ◌≡◌ {A = ℕ} 0 1 = cc h in omega arith
headed-listed (y ∷ l) h = let z : ◌≡◌ {A = ℕ} 0 1 = cc h in omega arith

among-following : (l : List (List ℕ)) (g : List ℕ) → following l g ≡ unlisted → Among g l → ⊥
unfolding following
among-following [] g h a = a
among-following (x ∷ l) g h a = go (same x g) refl h (among-following l g) a
  where
    go : (b : Bool) → same x g ≡ b → cond b (headed l) (following l g) ≡ unlisted → (following l g ≡ unlisted → Among g l → ⊥) → (g ≡ x) ⊎ Among g l → ⊥
    go true e i ih a = headed-listed l i
    go false e i ih (inl p) = false≢true (sym e ∙ ap (same x) p ∙ same_self x)
    go false e i ih (inr p) = ih i p

following-among : (l : List (List ℕ)) (g : List ℕ) → (Among g l → ⊥) → following l g ≡ unlisted
unfolding following
following-among [] g h = refl
following-among (x ∷ l) g h = go (same x g) refl (following-among l g (λ a. h (inr a)))
  where
    go : (b : Bool) → same x g ≡ b → following l g ≡ unlisted → cond b (headed l) (following l g) ≡ unlisted
    go true e ih = absurd (h (inl (sym (same_true x g e))))
    go false e ih = ih

pub next-of : (g : List ℕ) → next_of g ≡ following ([] ∷ small_sheets) g
unfolding next_of
next-of g = refl

-- 22 comes for a sheet that is neither empty nor small, and for no other.
pub next-unlisted : (s : List ℕ) → (s ≡ [] → ⊥) → is_small s ≡ false → next_of s ≡ unlisted
next-unlisted s n h = next-of s ∙ following-among ([] ∷ small_sheets) s go
  where
    go : (s ≡ []) ⊎ Among s small_sheets → ⊥
    go (inl e) = n e
    go (inr a) = false≢true (sym h ∙ (listed-iff s).0 a)

pub unlisted-next : (s : List ℕ) → next_of s ≡ unlisted → (s ≡ [] → ⊥) × (is_small s ≡ false)
unlisted-next s h = (λ e. not_listed (inl e), go (is_small s) refl)
  where
    not_listed : (s ≡ []) ⊎ Among s small_sheets → ⊥
    not_listed a = among-following ([] ∷ small_sheets) s (sym (next-of s) ∙ h) a

    go : (b : Bool) → is_small s ≡ b → b ≡ false
    go true e = absurd (not_listed (inr ((listed-iff s).1 e)))
    go false e = refl
