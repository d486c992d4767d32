-- Laws of specs/Rising.antt, and what only they need.
use Rattle.std.specs.Prelude.{ℕ, zero, suc, ◌<◌, ◌≡◌, refl, ◌⊎◌, true, List, [], ◌∷◌, map, length, get_or}
use Rattle.std.proofs.Common.{sym, subst, ◌∙◌, inl, inr, arith}
use Rattle.std.proofs.lemmas.Bool.{false≢true}
use Rattle.formula.specs.Sheet.{row_count}
use Rattle.formula.specs.FaultRows.{Among}
use Rattle.formula.proofs.TreeLaws.{and-true}
use Rattle.sheet_tidied.specs.Text.{row_text, sheet_text}
use Rattle.sheet_tidied.proofs.TextLaws.{text-rows}
use Rattle.sheet_listed.specs.Small.{is_small, rises, precedes, small_rows, sheets_of, sheets_up_to, small_sheets}
use Rattle.sheet_listed.proofs.Lists.{map-among}
use Rattle.sheet_listed.proofs.Texts.{text-more, small-has}
use Rattle.sheet_listed.specs.Listed.{before}
use Rattle.sheet_listed.proofs.Listed.{sheets-among, listed-rows, up-to-among, small-sheets}
use Rattle.sheet_listed.proofs.Orders.{rises-trans, rises-front, rises-behind, precedes-self, precedes-total, fewer-precedes, rising-precedes}
use Rattle.sheet_listed.specs.Ordered.{Ordered}
use Rattle.sheet_listed.proofs.Ordered.{ordered-append, ordered-filtered, ordered_at, ordered-once, ordered-weaken, ordered-map, ordered-each}
use Rattle.sheet_listed.specs.Rising.{rising, RowRises, SheetRises, Precedes, SheetPrecedes}

rows-rise : rising (map row_text small_rows) ≡ true
unfolding small_rows row_text rising
rows-rise = refl

rising-ordered : (l : List (List ℕ)) → rising (map row_text l) ≡ true → Ordered RowRises l
unfolding rising
rising-ordered [] h = tt
rising-ordered (x ∷ []) h = (λ y a. absurd a, tt)
rising-ordered (x ∷ y ∷ l) h =
    let i = and-true (rises (row_text x) (row_text y)) (rising (row_text y ∷ map row_text l)) h in
    go i.0 (rising-ordered (y ∷ l) i.1)
  where
    go : RowRises x y → Ordered RowRises (y ∷ l) → Ordered RowRises (x ∷ y ∷ l)
    go i o = (first, o)
      where
        first : (z : List ℕ) → (z ≡ y) ⊎ Among z l → RowRises x z
        first z (inl e) = subst (RowRises x) (sym e) i
        first z (inr a) = rises-trans (row_text x) (row_text y) (row_text z) i (o.0 z a)

rows-ordered : Ordered RowRises small_rows
rows-ordered = rising-ordered small_rows rows-rise

later-rises : (row : List ℕ) (p q : List (List ℕ)) → SheetRises p q → SheetRises (row ∷ p) (row ∷ q)
later-rises row p q h = rw (text-more row p, text-more row q) (rises-behind (row_text row) (sheet_text p) (sheet_text q) h)

first-rises : (r : List ℕ) (p : List (List ℕ)) (s : List ℕ) (q : List (List ℕ)) → RowRises r s → SheetRises (r ∷ p) (s ∷ q)
first-rises r p s q h = rw (text-more r p, text-more s q) (rises-front (row_text r) (row_text s) (sheet_text p) (sheet_text q) h)

sheets-rise : (n : ℕ) → Ordered SheetRises (sheets_of n)
unfolding sheets_of
sheets-rise zero = (λ y a. absurd a, tt)
sheets-rise (suc n) =
    ordered-each RowRises SheetRises (before (sheets_of n)) small_rows rows-ordered
    (λ row a. ordered-map SheetRises SheetRises (λ rest. row ∷ rest) (sheets_of n) (λ p q b c h. later-rises row p q h) (sheets-rise n))
    apart
  where
    apart : (r s : List ℕ) → Among r small_rows → Among s small_rows → RowRises r s
        → (u v : List (List ℕ)) → Among u (before (sheets_of n) r) → Among v (before (sheets_of n) s) → SheetRises u v
    apart r s a b h u v c d =
        map-among (λ (rest : List (List ℕ)). r ∷ rest) (λ x. SheetRises x v) (sheets_of n)
        (λ p i. map-among (λ (rest : List (List ℕ)). s ∷ rest) (SheetRises (r ∷ p)) (sheets_of n) (λ q j. first-rises r p s q h) v d)
        u c

sheet-rows : (n : ℕ) (rs : List (List ℕ)) → Among rs (sheets_of n) → row_count (sheet_text rs) ≡ n
sheet-rows n rs a = let k = sheets-among n rs a in text-rows rs (listed-rows n rs k) ∙ k.size

up-to-ordered : (n : ℕ) → Ordered SheetPrecedes (sheets_up_to n)
unfolding sheets_up_to
up-to-ordered zero = tt
up-to-ordered (suc n) =
    ordered-append SheetPrecedes (sheets_up_to n) (sheets_of (suc n)) (up-to-ordered n)
    (ordered-weaken SheetRises SheetPrecedes (sheets_of (suc n)) as_many (sheets-rise (suc n)))
    fewer
  where
    as_many : (p q : List (List ℕ)) → Among p (sheets_of (suc n)) → Among q (sheets_of (suc n)) → SheetRises p q → SheetPrecedes p q
    as_many p q a b h = rising-precedes (sheet_text p) (sheet_text q) (sheet-rows (suc n) p a ∙ sym (sheet-rows (suc n) q b)) h

    fewer : (p q : List (List ℕ)) → Among p (sheets_up_to n) → Among q (sheets_of (suc n)) → SheetPrecedes p q
    fewer p q a b =
        let k = up-to-among n p a in
        fewer-precedes (sheet_text p) (sheet_text q) (omega (arith, sheet-rows (length p) p k.2, k.1, sheet-rows (suc n) q b))

pub listed-ordered : Ordered Precedes small_sheets
listed-ordered =
    subst (Ordered Precedes) (sym small-sheets)
    (ordered-filtered Precedes is_small (map sheet_text (sheets_up_to 5)) (ordered-map SheetPrecedes Precedes sheet_text (sheets_up_to 5) (λ p q a b h. h) (up-to-ordered 5)))

-- Of two entries of the list the earlier precedes the later.
pub listed-rising : (i j : ℕ) → i < j → j < length small_sheets → precedes (get_or small_sheets i []) (get_or small_sheets j []) ≡ true
listed-rising i j u v = ordered_at Precedes [] small_sheets listed-ordered i j u v

pub not_itself : (s : List ℕ) → Precedes s s → ⊥
not_itself s h = false≢true (sym (precedes-self s) ∙ h)

-- No sheet is listed twice.
pub listed-once : (i j : ℕ) → i < length small_sheets → j < length small_sheets → get_or small_sheets i [] ≡ get_or small_sheets j [] → i ≡ j
listed-once i j u v e = ordered-once Precedes not_itself [] small_sheets listed-ordered i j u v e

-- Of two small sheets that differ one precedes the other.
pub small-total : (s u : List ℕ) → is_small s ≡ true → is_small u ≡ true → (s ≡ u) ⊎ ((precedes s u ≡ true) ⊎ (precedes u s ≡ true))
small-total s u h i = precedes-total s u (small-has s h).rowwise.bytes (small-has u i).rowwise.bytes
