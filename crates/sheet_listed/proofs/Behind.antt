-- The sheet behind a small sheet (document 02, Job 14: "the next one") is what the search finds: of the same number of rows the first with a later last
-- row, else with a later row before it, and so on; then the first with more rows. The lists of sheets are taken as they are defined and never computed.
use Rattle.std.specs.Prelude.{ℕ, zero, suc, ◌+◌, ◌-◌, ◌≤◌, ◌<◌, ◌≡◌, Bool, true, false, cond, length, get_or, take, drop}
use Rattle.std.proofs.Math.Path.{refl, ap}
use Rattle.std.proofs.Common.{sym, subst, ◌∙◌, arith, length-append, length-drop, take-suc, take_at, drop_at, get_or-drop, length-take-le}
use mathlib.Core.List.{List, [], ◌∷◌, ◌++◌, map, flatten}
use Rattle.std.proofs.Math.Option.{Option, some, none}
use Rattle.std.proofs.Math.Seq.{split_at}
use Rattle.std.proofs.lemmas.List.{get_or_at}
use Rattle.formula.specs.Sheet.{fields_of}
use Rattle.formula.specs.FaultRows.{Among}
use Rattle.sheet_tidied.specs.Text.{sheet_text}
use Rattle.sheet_tidied.specs.TextLaws.{Rows as Written}
use Rattle.sheet_tidied.proofs.TextLaws.{rows_append, text-length, text-rows, text-fields}
use Rattle.sheet_listed.specs.Small.{is_small, small_rows, sheets_of, sheets_up_to, small_sheets, same, headed, following, next_of}
use Rattle.sheet_listed.specs.Search.{Rows, first_small, or_else, completions, searched, same_row, place_in, place_of, down_from, up_from}
use Rattle.sheet_listed.proofs.Lists.{among-map, map-among}
use Rattle.sheet_listed.proofs.RowLaws.{listed-row}
use Rattle.sheet_listed.specs.Listed.{RowsListed}
use Rattle.sheet_listed.proofs.Listed.{among-sheets, sheets-among, listed-rows, among-up-to, up-to-among, small-sheets, same_true}
use Rattle.sheet_listed.proofs.Texts.{small-has}
use Rattle.sheet_listed.proofs.Contents.{same_row_lem}
use Rattle.sheet_listed.proofs.Passing.{written-passing}
use Rattle.sheet_listed.specs.Standing.{Fives}
use Rattle.sheet_listed.proofs.Standing.{written-fives}
use Rattle.sheet_listed.proofs.SearchLaws.{first-append, each-completion, among-take, searched-as, completions-more, completions-append, by-next-row, behind-front}
use Rattle.sheet_listed.specs.SearchLaws.{behind_row}
use Rattle.sheet_listed.specs.Followed.{told, behind_in, In}
use Rattle.sheet_listed.proofs.Followed.{later-in, behind-left, behind-right, headed-first, following-more, following-first}

-- ---- one search or the other
or_assoc : (x y z : Option Rows) → or_else (or_else x y) z ≡ or_else x (or_else y z)
or_assoc (some rs) y z = refl
or_assoc none y z = refl

or-none : (x : Option Rows) → or_else x none ≡ x
or-none (some rs) = refl
or-none none = refl

-- ---- the first with m, m + 1, .. rows
search-count : (j : ℕ) → searched [] 0 j ≡ first_small (sheets_of (suc j))
unfolding searched completions sheets_of
search-count j = refl

up-last : (d m : ℕ) → 1 ≤ m → up_from m (suc d) ≡ or_else (up_from m d) (first_small (sheets_of (d + m)))
unfolding up_from
up-last zero m h =
    let e : suc (m - 1) ≡ 0 + m = omega arith in
    or-none (searched [] 0 (m - 1)) ∙ search-count (m - 1) ∙ ap (λ (k : ℕ). first_small (sheets_of k)) e
up-last (suc d) m h =
    let e : d + suc m ≡ suc d + m = omega arith in
    ap (or_else (searched [] 0 (m - 1))) (up-last d (suc m) (omega arith) ∙ ap (λ (k : ℕ). or_else (up_from (suc m) d) (first_small (sheets_of k))) e)
    ∙ sym (or_assoc (searched [] 0 (m - 1)) (up_from (suc m) d) (first_small (sheets_of (suc d + m))))

up_none : (m : ℕ) → up_from m 0 ≡ none
unfolding up_from
up_none m = refl

sheets-up : (m : ℕ) → sheets_up_to (suc m) ≡ sheets_up_to m ++ sheets_of (suc m)
unfolding sheets_up_to
sheets-up m = refl

first-up : (m : ℕ) → first_small (sheets_up_to m) ≡ up_from 1 m
unfolding up_from sheets_up_to first_small
first-up zero = refl
first-up (suc m) =
    let e : suc m ≡ m + 1 = omega arith in
    first-append (sheets_up_to m) (sheets_of (suc m))
    ∙ ap (λ (x : Option Rows). or_else x (first_small (sheets_of (suc m)))) (first-up m)
    ∙ ap (λ (k : ℕ). or_else (up_from 1 m) (first_small (sheets_of k))) e
    ∙ sym (up-last m 1 (omega arith))

-- From the empty sheet: the first small sheet.
pub next-first : next_of [] ≡ told (up_from 1 5)
unfolding next_of
next-first = following-more [] small_sheets [] ∙ ap headed small-sheets ∙ headed-first (sheets_up_to 5) ∙ ap told (first-up 5)

-- ---- a row's place among the small rows
-- A list of rows, taken apart at a row's first place in it.
record Split (l : Rows) (row : List ℕ) (p : ℕ) : Type 0 where
  whole : l ≡ take p l ++ (row ∷ drop (suc p) l)
  first : Among row (take p l) → ⊥

place-splits : (l : Rows) (row : List ℕ) → Among row l → Split l row (place_in l row)
unfolding place_in
place-splits [] row a = absurd a
place-splits (x ∷ l) row a = go (same_row x row) refl (place-splits l row)
  where
    go : (b : Bool) → same_row x row ≡ b → (Among row l → Split l row (place_in l row)) → Split (x ∷ l) row (cond b 0 (suc (place_in l row)))
    go true e ih = record { whole = ap (λ (y : List ℕ). y ∷ l) (same_true x row (sym (same_row_lem x row) ∙ e)); first = λ z. z }
    go false e ih =
        let other : same x row ≡ false = sym (same_row_lem x row) ∙ e in
        let s = ih (later-in x row (Among row l) other a) in
        record { whole = ap (λ (m : Rows). x ∷ m) s.whole; first = λ z. s.first (later-in x row (Among row (take (place_in l row) l)) other z) }

small-splits : (row : List ℕ) → Among row small_rows → Split small_rows row (place_of row)
unfolding place_of
small-splits row a = place-splits small_rows row a

-- ---- rows from their text
flatten-same : (rs qs : Rows) → Fives rs → Fives qs → flatten rs ≡ flatten qs → rs ≡ qs
unfolding flatten
flatten-same [] [] h i e = refl
flatten-same [] (q ∷ qs) h i e = absurd (omega (arith, i.0, ap length e, length-append q (flatten qs)))
flatten-same (r ∷ rs) [] h i e = absurd (omega (arith, h.0, ap length e, length-append r (flatten rs)))
flatten-same (r ∷ rs) (q ∷ qs) h i e =
    let a : r ≡ q = sym (take_at r (flatten rs) 5 h.0) ∙ ap (take 5) e ∙ take_at q (flatten qs) 5 i.0 in
    let b : flatten rs ≡ flatten qs = sym (drop_at r (flatten rs) 5 h.0) ∙ ap (drop 5) e ∙ drop_at q (flatten qs) 5 i.0 in
    cc (a, flatten-same rs qs h.1 i.1 b)

pub text_same : (rs qs : Rows) → Written rs → Written qs → sheet_text rs ≡ sheet_text qs → rs ≡ qs
text_same rs qs h i e = flatten-same rs qs (written-fives rs h) (written-fives qs i) (sym (text-fields rs h) ∙ ap fields_of e ∙ text-fields qs i)

written-take : (a : ℕ) (rs : Rows) → Written rs → Written (take a rs)
written-take zero rs h = tt
written-take (suc a) [] h = tt
written-take (suc a) (r ∷ rs) h = (h.0, written-take a rs h.1)

map_same : (l : List Rows) → map (λ (rest : Rows). rest) l ≡ l
map_same [] = refl
map_same (rs ∷ l) = ap (λ (m : List Rows). rs ∷ m) (map_same l)

not-empty : (g : List ℕ) → 1 ≤ length g → same [] g ≡ false
unfolding same
not-empty [] h = absurd (omega arith)
not-empty (x ∷ g) h = refl

-- ---- as many rows
module _ (gs : Rows) (listed : RowsListed (length gs) gs) where
  abbrev g : List ℕ
  g = sheet_text gs

  abbrev n : ℕ
  n = length gs

  -- The sheets that begin with its first a rows.
  abbrev beginning : ℕ → ℕ → List Rows
  beginning a d = map (λ (rest : Rows). take a gs ++ rest) (sheets_of d)

  down-more : (r : ℕ) → down_from (suc r) gs ≡ or_else (searched (take r gs) (suc (place_of (get_or gs r []))) (n - suc r)) (down_from r gs)
  unfolding down_from
  down-more r = refl

  written : Written gs
  written = listed-rows n gs listed

  module _ (a j : ℕ) (e : a + suc j ≡ n) where
    abbrev front : Rows
    front = take a gs

    abbrev row : List ℕ
    row = get_or gs a []

    abbrev p : ℕ
    p = place_of row

    split : Split small_rows row p
    split = small-splits row (listed.listed a (omega arith))

    front-size : length front ≡ a
    front-size = length-take-le a gs (omega arith)

    -- No sheet with an earlier row there is this one,
    earlier-other : (x : List ℕ) → Among x (take p small_rows) → (rest : Rows) → RowsListed j rest → g ≡ sheet_text (front ++ (x ∷ rest)) → ⊥
    earlier-other x i rest l q =
        let w : Written (front ++ (x ∷ rest)) = rows_append front (x ∷ rest) (written-take a gs written) ((listed-row x (among-take p small_rows x i)).0, listed-rows j rest l) in
        let same-rows : gs ≡ front ++ (x ∷ rest) = text_same gs (front ++ (x ∷ rest)) written w q in
        let same_place : row ≡ x = ap (λ (l : Rows). get_or l a []) same-rows ∙ get_or_at front x rest [] a front-size in
        split.first (subst (λ (y : List ℕ). Among y (take p small_rows)) (sym same_place) i)

    not_earlier : In g (completions front (take p small_rows) j) → ⊥
    not_earlier i =
        map-among sheet_text (λ (s : List ℕ). g ≡ s → ⊥) (completions front (take p small_rows) j)
        (each-completion front (take p small_rows) j (λ rs. g ≡ sheet_text rs → ⊥) earlier-other) g i refl

    rest-listed : RowsListed j (drop (suc a) gs)
    rest-listed =
        record {
          size = length-drop (suc a) gs ∙ omega arith;
          listed = λ i u. rw (get_or-drop (suc a) gs i []) (listed.listed (suc a + i) (omega arith));
        }

    -- and with its own row it is there.
    is-there : In g (behind_row front row j)
    is-there =
        among-map sheet_text gs (behind_row front row j)
        (subst (λ (rs : Rows). Among rs (behind_row front row j)) (sym (split_at gs a [] (omega arith)))
        (among-map (λ (rest : Rows). front ++ (row ∷ rest)) (drop (suc a) gs) (sheets_of j) (among-sheets j (drop (suc a) gs) rest-listed)))

    row_more : behind_row front row j ≡ beginning (suc a) j
    row_more =
        behind-front front row j
        ∙ ap (λ (x : Rows). map (λ (rest : Rows). x ++ rest) (sheets_of j)) (sym (take-suc gs a [] (omega arith)))

    parts : beginning a (suc j) ≡ completions front (take p small_rows) j ++ (behind_row front row j ++ completions front (drop (suc p) small_rows) j)
    parts =
        by-next-row front j
        ∙ ap (λ (l : Rows). completions front l j) split.whole
        ∙ completions-append front (take p small_rows) (row ∷ drop (suc p) small_rows) j
        ∙ ap (λ (l : List Rows). completions front (take p small_rows) j ++ l) (completions-more front row (drop (suc p) small_rows) j)

    -- Behind it stand those that begin with one row more of it, then those with a later row there.
    split-beginning : first_small (behind_in (beginning a (suc j)) g) ≡ or_else (first_small (behind_in (beginning (suc a) j) g)) (searched front (suc p) j)
    split-beginning =
        ap first_small
        (ap (λ (l : List Rows). behind_in l g) parts
        ∙ behind-right g (completions front (take p small_rows) j) (behind_row front row j ++ completions front (drop (suc p) small_rows) j) not_earlier
        ∙ behind-left g (behind_row front row j) (completions front (drop (suc p) small_rows) j) is-there)
        ∙ first-append (behind_in (behind_row front row j) g) (completions front (drop (suc p) small_rows) j)
        ∙ ap (λ (l : List Rows). or_else (first_small (behind_in l g)) (first_small (completions front (drop (suc p) small_rows) j))) row_more
        ∙ ap (or_else (first_small (behind_in (beginning (suc a) j) g))) (sym (searched-as front (suc p) j))

  alone : (b : Bool) → cond {A = List Rows} b [] [] ≡ []
  alone true = refl
  alone false = refl

  none-behind-it : (a : ℕ) → first_small (behind_in (beginning a 0) g) ≡ none
  unfolding behind_in sheets_of first_small
  none-behind-it a = ap first_small (alone (same (sheet_text (take a gs ++ [])) g))

  down-behind : (d a : ℕ) → a + d ≡ n → or_else (first_small (behind_in (beginning a d) g)) (down_from a gs) ≡ down_from n gs
  down-behind zero a e =
      let m : a ≡ n = omega arith in
      ap (λ (x : Option Rows). or_else x (down_from a gs)) (none-behind-it a) ∙ ap (λ (k : ℕ). down_from k gs) m
  down-behind (suc j) a e =
      let m : n - suc a ≡ j = omega arith in
      ap (λ (x : Option Rows). or_else x (down_from a gs)) (split-beginning a j e)
      ∙ or_assoc (first_small (behind_in (beginning (suc a) j) g)) (searched (take a gs) (suc (place_of (get_or gs a []))) j) (down_from a gs)
      ∙ ap (or_else (first_small (behind_in (beginning (suc a) j) g)))
      (ap (λ (k : ℕ). or_else (searched (take a gs) (suc (place_of (get_or gs a []))) k) (down_from a gs)) (sym m) ∙ sym (down-more a))
      ∙ down-behind j (suc a) (omega arith)

  down-none : down_from 0 gs ≡ none
  unfolding down_from
  down-none = refl

  same_count : first_small (behind_in (sheets_of n) g) ≡ down_from n gs
  same_count =
      ap (λ (l : List Rows). first_small (behind_in l g)) (sym (map_same (sheets_of n)))
      ∙ sym (or-none (first_small (behind_in (beginning 0 n) g)))
      ∙ ap (or_else (first_small (behind_in (beginning 0 n) g))) (sym down-none)
      ∙ down-behind n 0 (omega arith)

  -- ---- then more rows
  module _ (some-rows : 1 ≤ n) where
    not-below : (m : ℕ) → m < n → In g (sheets_up_to m) → ⊥
    not-below m h i = map-among sheet_text (λ (s : List ℕ). g ≡ s → ⊥) (sheets_up_to m) other g i refl
      where
        other : (rs : Rows) → Among rs (sheets_up_to m) → g ≡ sheet_text rs → ⊥
        other rs a q =
            let u = up-to-among m rs a in
            omega (arith, u.1, ap length (text_same gs rs written (listed-rows (length rs) rs (sheets-among (length rs) rs u.2)) q))

    in-up : (d : ℕ) → In g (sheets_up_to (d + n))
    in-up d = among-map sheet_text gs (sheets_up_to (d + n)) (among-up-to (d + n) n gs some-rows (omega arith) (among-sheets n gs listed))

    up-behind : (d : ℕ) → first_small (behind_in (sheets_up_to (d + n)) g) ≡ or_else (down_from n gs) (up_from (suc n) d)
    up-behind zero =
        let e : 0 + n ≡ suc (n - 1) = omega arith in
        let k : suc (n - 1) ≡ n = omega arith in
        ap (λ (m : ℕ). first_small (behind_in (sheets_up_to m) g)) e
        ∙ ap (λ (l : List Rows). first_small (behind_in l g)) (sheets-up (n - 1))
        ∙ ap first_small (behind-right g (sheets_up_to (n - 1)) (sheets_of (suc (n - 1))) (not-below (n - 1) (omega arith)))
        ∙ ap (λ (m : ℕ). first_small (behind_in (sheets_of m) g)) k
        ∙ same_count ∙ sym (or-none (down_from n gs)) ∙ ap (or_else (down_from n gs)) (sym (up_none (suc n)))
    up-behind (suc d) =
        let e : suc d + n ≡ suc (d + n) = omega arith in
        let k : suc (d + n) ≡ d + suc n = omega arith in
        ap (λ (m : ℕ). first_small (behind_in (sheets_up_to m) g)) e
        ∙ ap (λ (l : List Rows). first_small (behind_in l g)) (sheets-up (d + n))
        ∙ ap first_small (behind-left g (sheets_up_to (d + n)) (sheets_of (suc (d + n))) (in-up d))
        ∙ first-append (behind_in (sheets_up_to (d + n)) g) (sheets_of (suc (d + n)))
        ∙ ap (λ (x : Option Rows). or_else x (first_small (sheets_of (suc (d + n))))) (up-behind d)
        ∙ or_assoc (down_from n gs) (up_from (suc n) d) (first_small (sheets_of (suc (d + n))))
        ∙ ap (λ (m : ℕ). or_else (down_from n gs) (or_else (up_from (suc n) d) (first_small (sheets_of m)))) k
        ∙ ap (or_else (down_from n gs)) (sym (up-last d (suc n) (omega arith)))

-- Behind a small sheet: as many rows with a later one, then more rows.
pub next-behind : (gs : Rows) → RowsListed (length gs) gs → is_small (sheet_text gs) ≡ true
    → next_of (sheet_text gs) ≡ told (or_else (down_from (length gs) gs) (up_from (suc (length gs)) (5 - length gs)))
unfolding next_of
next-behind gs listed small =
    following-more [] small_sheets (sheet_text gs)
    ∙ ap (λ (b : Bool). cond b (headed small_sheets) (following small_sheets (sheet_text gs))) (not-empty (sheet_text gs) (omega (arith, text-length gs written, some-rows)))
    ∙ ap (λ (l : List (List ℕ)). following l (sheet_text gs)) small-sheets
    ∙ following-first (sheet_text gs) small (sheets_up_to 5) (subst (λ (m : ℕ). In (sheet_text gs) (sheets_up_to m)) five-rows (in-up gs listed some-rows (5 - length gs)))
    ∙ ap told
    (ap (λ (m : ℕ). first_small (behind_in (sheets_up_to m) (sheet_text gs))) (sym five-rows) ∙ up-behind gs listed some-rows (5 - length gs))
  where
    written : Written gs
    written = listed-rows (length gs) gs listed

    some-rows : 1 ≤ length gs
    some-rows = omega (arith, (small-has (sheet_text gs) small).rowwise.some, text-rows gs written)

    five-rows : 5 - length gs + length gs ≡ 5
    five-rows = omega (arith, (written-passing gs written small).few)
