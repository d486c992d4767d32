-- Laws of specs/SearchLaws.antt, and what only they need.
use Rattle.std.specs.Prelude.{ℕ, zero, suc, ◌+◌, ◌-◌, ◌≤◌, ◌<◌, ◌≡◌, refl, ◌⊎◌, Bool, true, false, cond, length, get_or, take, drop}
use Rattle.std.proofs.Common.{sym, ap, subst, ◌∙◌, inl, inr, arith, length-append, drop-cons, drop-drop}
use Rattle.std.proofs.Math.Path.{fun_ext}
use Rattle.std.proofs.lemmas.Bool.{false≢true}
use mathlib.Core.List.{List, [], ◌∷◌, ◌++◌, map, map-map, map-append, append_assoc, flatten}
use Rattle.std.proofs.Math.Option.{some, none}
use Rattle.std.proofs.Math.Seq.{get_or-append_seam}
use Rattle.formula.specs.Sheet.{field}
use Rattle.formula.specs.FaultRows.{Among}
use Rattle.sheet_tidied.specs.Text.{sheet_text}
use Rattle.sheet_tidied.specs.TextLaws.{Row, Rows as Written}
use Rattle.sheet_tidied.proofs.TextLaws.{row-length, rows_append, field-at}
use Rattle.sheet_listed.specs.Small.{is_small, each, small_rows, sheets_of}
use Rattle.sheet_listed.specs.Search.{Rows, first_small, or_else, completions, searched, content_at, stands_at}
use Rattle.sheet_listed.proofs.Lists.{map-among, each-among}
use Rattle.sheet_listed.proofs.RowLaws.{listed-row}
use Rattle.sheet_listed.specs.Listed.{before, RowsListed}
use Rattle.sheet_listed.proofs.Listed.{sheets-among, listed-rows}
use Rattle.sheet_listed.proofs.Contents.{rows-listed, loop-row, contents-listed}
use Rattle.sheet_listed.proofs.Passing.{not-small, written-passing}
use Rattle.sheet_listed.proofs.NoLoops.{passing-kinds}
use Rattle.sheet_listed.proofs.Standing.{written-fives, small-stands, stands_alike, agree-row}
use Rattle.sheet_listed.specs.SearchLaws.{behind_row}

-- ---- the first small one of a list
pub first-append : (l m : List Rows) → first_small (l ++ m) ≡ or_else (first_small l) (first_small m)
unfolding first_small
first-append [] m = refl
first-append (rs ∷ l) m = go (is_small (sheet_text rs)) (first-append l m)
  where
    go : (b : Bool) → first_small (l ++ m) ≡ or_else (first_small l) (first_small m)
        → cond b (some rs) (first_small (l ++ m)) ≡ or_else (cond b (some rs) (first_small l)) (first_small m)
    go true ih = refl
    go false ih = ih

pub first-none : (l : List Rows) → ((rs : Rows) → Among rs l → is_small (sheet_text rs) ≡ false) → first_small l ≡ none
unfolding first_small
first-none [] h = refl
first-none (rs ∷ l) h = rw (h rs (inl refl)) (first-none l (λ qs a. h qs (inr a)))

pub first_some : (l : List Rows) (rs : Rows) → first_small l ≡ some rs → Among rs l × (is_small (sheet_text rs) ≡ true)
unfolding first_small
first_some [] rs h = absurd (let z : ◌≡◌ {A = ℕ} 0 1 = cc h in omega arith)
first_some (qs ∷ l) rs h = go (is_small (sheet_text qs)) refl h (first_some l rs)
  where
    go : (b : Bool) → is_small (sheet_text qs) ≡ b → cond b (some qs) (first_small l) ≡ some rs → (first_small l ≡ some rs → Among rs l × (is_small (sheet_text rs) ≡ true))
        → ((rs ≡ qs) ⊎ Among rs l) × (is_small (sheet_text rs) ≡ true)
    go true e i ih = let p : qs ≡ rs = cc i in (inl (sym p), subst (λ (x : Rows). is_small (sheet_text x) ≡ true) p e)
    go false e i ih = let k = ih i in (inr k.0, k.1)

pub each-behind : (front : Rows) (row : List ℕ) (j : ℕ) (P : Rows → Type 0) → ((rest : Rows) → RowsListed j rest → P (front ++ (row ∷ rest)))
    → (rs : Rows) → Among rs (behind_row front row j) → P rs
each-behind front row j P h = map-among (λ (rest : Rows). front ++ (row ∷ rest)) P (sheets_of j) (λ rest a. h rest (sheets-among j rest a))

pub each-completion : (front later : Rows) (j : ℕ) (P : Rows → Type 0)
    → ((row : List ℕ) → Among row later → (rest : Rows) → RowsListed j rest → P (front ++ (row ∷ rest)))
    → (rs : Rows) → Among rs (completions front later j) → P rs
unfolding completions
each-completion front later j P h = each-among (λ row. behind_row front row j) P later (λ row a. each-behind front row j P (h row a))

pub among-take : (k : ℕ) (l : Rows) (x : List ℕ) → Among x (take k l) → Among x l
among-take zero l x a = absurd a
among-take (suc k) [] x a = a
among-take (suc k) (y ∷ l) x (inl e) = inl e
among-take (suc k) (y ∷ l) x (inr a) = inr (among-take k l x a)

pub among-drop : (k : ℕ) (l : Rows) (x : List ℕ) → Among x (drop k l) → Among x l
among-drop zero l x a = a
among-drop (suc k) [] x a = a
among-drop (suc k) (y ∷ l) x a = inr (among-drop k l x a)

-- ---- row by row
pub searched-as : (front : Rows) (k j : ℕ) → searched front k j ≡ first_small (completions front (drop k small_rows) j)
unfolding searched
searched-as front k j = refl

pub completions-more : (front : Rows) (row : List ℕ) (later : Rows) (j : ℕ) → completions front (row ∷ later) j ≡ behind_row front row j ++ completions front later j
unfolding completions each
completions-more front row later j = refl

pub completions-append : (front rows later : Rows) (j : ℕ) → completions front (rows ++ later) j ≡ completions front rows j ++ completions front later j
unfolding completions each
completions-append front [] later j = refl
completions-append front (row ∷ rows) later j =
    ap (λ (l : List Rows). behind_row front row j ++ l) (completions-append front rows later j)
    ∙ sym (append_assoc (behind_row front row j) (completions front rows j) (completions front later j))

-- Row number k with what can follow it, then the later ones.
pub search-step : (front : Rows) (k j : ℕ) → k < 178 → searched front k j ≡ or_else (first_small (behind_row front (content_at k) j)) (searched front (suc k) j)
search-step front k j h =
    let e : drop k small_rows ≡ content_at k ∷ drop (suc k) small_rows =
    drop-cons small_rows k [] (omega (arith, rows-listed)) ∙ ap (λ (row : List ℕ). row ∷ drop (suc k) small_rows) (contents-listed k h) in
    searched-as front k j
    ∙ ap (λ (later : Rows). first_small (completions front later j)) e
    ∙ ap first_small (completions-more front (content_at k) (drop (suc k) small_rows) j)
    ∙ first-append (behind_row front (content_at k) j) (completions front (drop (suc k) small_rows) j)
    ∙ ap (or_else (first_small (behind_row front (content_at k) j))) (sym (searched-as front (suc k) j))

map_each : {A B C : Type 0} (g : B → C) (f : A → List B) (l : List A) → map g (each f l) ≡ each (λ x. map g (f x)) l
unfolding each
map_each g f [] = refl
map_each g f (x ∷ l) = map-append g (f x) (each f l) ∙ ap (λ r. map g (f x) ++ r) (map_each g f l)

sheets-more : (j : ℕ) → sheets_of (suc j) ≡ each (before (sheets_of j)) small_rows
unfolding sheets_of
sheets-more j = refl

-- The sheets that begin with `front`, by their next row.
pub by-next-row : (front : Rows) (j : ℕ) → map (λ (rest : Rows). front ++ rest) (sheets_of (suc j)) ≡ completions front small_rows j
unfolding completions
by-next-row front j =
    ap (map (λ (rest : Rows). front ++ rest)) (sheets-more j)
    ∙ map_each (λ (rest : Rows). front ++ rest) (before (sheets_of j)) small_rows
    ∙ ap (λ (f : List ℕ → List Rows). each f small_rows) (fun_ext (λ next. map-map (λ (rest : Rows). front ++ rest) (λ (rest : Rows). next ∷ rest) (sheets_of j)))

pub behind-front : (front : Rows) (row : List ℕ) (j : ℕ) → behind_row front row j ≡ map (λ (rest : Rows). front ++ (row ∷ []) ++ rest) (sheets_of j)
behind-front front row j = ap (λ (f : Rows → Rows). map f (sheets_of j)) (fun_ext (λ rest. sym (append_assoc front (row ∷ []) rest)))

-- Where more rows are to follow: those behind the row are searched from the first on.
pub search-inner : (front : Rows) (row : List ℕ) (j : ℕ) → first_small (behind_row front row (suc j)) ≡ searched (front ++ (row ∷ [])) 0 j
search-inner front row j =
    ap first_small (behind-front front row (suc j) ∙ by-next-row (front ++ (row ∷ [])) j) ∙ sym (searched-as (front ++ (row ∷ [])) 0 j)

-- Where none is to follow: the sheet is small or it is not.
pub search-leaf : (front : Rows) (row : List ℕ)
    → first_small (behind_row front row 0) ≡ cond (is_small (sheet_text (front ++ (row ∷ [])))) (some (front ++ (row ∷ []))) none
unfolding sheets_of first_small
search-leaf front row = refl

-- ---- rows with no small sheet
module _ (front : Rows) (h : Written front) (row : List ℕ) (w : Row row) (rest : Rows) (v : Written rest) where
  abbrev rs : Rows
  rs = front ++ (row ∷ rest)

  abbrev r : ℕ
  r = suc (length front)

  well : Written rs
  well = rows_append front (row ∷ rest) h (w, v)

  size : r ≤ length rs
  size = omega (arith, length-append front (row ∷ rest))

  kind_at : field (flatten rs) r 0 ≡ get_or row 0 0
  kind_at =
      let e : r - 1 ≡ length front = omega arith in
      field-at rs well r 0 (omega arith) size (omega arith) ∙ rw (e, get_or-append_seam front row rest []) refl

  -- A sheet with a row of a for or an iter is not small,
  loop-not-small : 8 ≤ get_or row 0 0 → is_small (sheet_text rs) ≡ false
  loop-not-small k =
      not-small (sheet_text rs) (λ e. omega (arith, k, kind_at, passing-kinds (flatten rs) (length rs) (written-passing rs well e) r (omega arith) size))

  -- nor is one with a row that does not stand.
  fallen-not-small : stands_at (flatten (front ++ (row ∷ []))) r ≡ false → is_small (sheet_text rs) ≡ false
  fallen-not-small f = not-small (sheet_text rs) (λ e. false≢true (sym f ∙ sym (alike e) ∙ small-stands rs well e r (omega arith) size))
    where
      alike : is_small (sheet_text rs) ≡ true → stands_at (flatten rs) r ≡ stands_at (flatten (front ++ (row ∷ []))) r
      alike e =
          stands_alike (flatten rs) (flatten (front ++ (row ∷ []))) r (omega arith) (agree-row front row rest (written-fives front h) (row-length row w))
          (λ k a b. (written-passing rs well e).names k a (omega (arith, size)))

module _ (front : Rows) (h : Written front) where
  -- Behind the rows of the kinds 1 to 7 there is nothing to be found.
  pub search-end : (k j : ℕ) → 178 ≤ k → searched front k j ≡ none
  search-end k j i =
      searched-as front k j
      ∙ first-none (completions front (drop k small_rows) j)
      (each-completion front (drop k small_rows) j (λ rs. is_small (sheet_text rs) ≡ false) (λ row a rest l.
      loop-not-small front h row (listed-row row (among-drop k small_rows row a)).0 rest (listed-rows j rest l) (loop-row row (late row a)).0))
    where
      late : (row : List ℕ) → Among row (drop k small_rows) → Among row (drop 178 small_rows)
      late row a =
          let e : 178 + (k - 178) ≡ k = omega arith in
          among-drop (k - 178) (drop 178 small_rows) row (rw (drop-drop (k - 178) 178 small_rows, e) a)

  -- A row that does not stand can be left.
  pub search-leave : (row : List ℕ) → Row row → stands_at (flatten (front ++ (row ∷ []))) (suc (length front)) ≡ false → (j : ℕ) → first_small (behind_row front row j) ≡ none
  search-leave row w f j =
      first-none (behind_row front row j)
      (each-behind front row j (λ rs. is_small (sheet_text rs) ≡ false) (λ rest l. fallen-not-small front h row w rest (listed-rows j rest l) f))

-- ---- what is found
-- A small sheet of the rows given and j + 1 behind them.
pub record Found (front : Rows) (j : ℕ) (rs : Rows) : Type 0 where
  pub behind : Rows
  pub whole : rs ≡ front ++ behind
  pub listed : RowsListed (suc j) behind
  pub small : is_small (sheet_text rs) ≡ true

rows_more : (j : ℕ) (row : List ℕ) (rest : Rows) → Among row small_rows → RowsListed j rest → RowsListed (suc j) (row ∷ rest)
rows_more j row rest a l = record { size = ap suc l.size; listed = each-listed }
  where
    each-listed : (i : ℕ) → i < suc j → Among (get_or (row ∷ rest) i []) small_rows
    each-listed zero u = a
    each-listed (suc i) u = l.listed i (omega arith)
