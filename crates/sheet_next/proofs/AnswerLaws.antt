-- Laws of the call's answer: the rows as they are written, what a given sheet's table has, and 11, 22, 23 and the next sheet. Assumes nothing.
use Prim.Native.Nat.{ℕ, zero, suc, ◌+◌, ◌*◌, ◌-◌, ◌≤◌, ◌<◌}
use mathlib.Core.Path.{◌≡◌, refl, sym, ap, subst, ◌∙◌}
use mathlib.Core.Bool.{Bool, true, false, ◌||◌, false≢true}
use mathlib.Core.List.{List, [], ◌∷◌, ◌++◌}
use mathlib.Core.Option.{Option}
use native.Mathlib.Omega.{arith}
use native.Mathlib.Numerals.{add-one}
use lib.Dec.{eqb, ltb}
use lib.ListN.{length, get_or, take, length-append}
use lib.Seq.{sets, get_or-take, ext_get_or}
use borrow.Author.Tests.{lt-ltb, le-ltb, eqb-true, eqb-false}
use Rattle.value.specs.Operators.{pick}
use Rattle.formula.specs.declared.Refusal.TheVariants.{Memory, Unlisted, LastListed}
use Rattle.formula.specs.Refusals.{number_of}
use Rattle.formula.specs.Sheet.{row_count, fields_of}
use Rattle.text.proofs.PrintLaws.{written_both}
use Rattle.sheet_tidied.specs.Text.{row_text, sheet_text}
use Rattle.sheet_tidied.proofs.TextLaws.{row-text-length, text-append, text-one}
use Rattle.sheet_listed.specs.Small.{Behind, next, none-behind, unlisted, is_small, next_of}
use Rattle.sheet_listed.specs.Search.{Rows, or_else, down_from, up_from}
use Rattle.sheet_listed.specs.Texts.{field_row, rows_of}
use Rattle.sheet_listed.proofs.Texts.{rows-length, row-fields, row-among, small-has, small-text}
use Rattle.sheet_listed.proofs.Listed.{small-rows, next-unlisted}
use Rattle.sheet_listed.specs.Standing.{Agree}
use Rattle.sheet_listed.proofs.Standing.{passing-stands}
use Rattle.sheet_listed.proofs.NoLoops.{small-no-loops}
use Rattle.sheet_listed.proofs.Passing.{small-passing}
use Rattle.sheet_listed.specs.Followed.{told}
use Rattle.sheet_listed.proofs.Behind.{next-first, next-behind}
use Rattle.sheet_stands.specs.Fronts.{rows_to, Content}
use Rattle.sheet_stands.proofs.ContentLaws.{listed-content}
use Rattle.sheet_stands.proofs.FrontLaws.{row-alike, stand-alike}
use Rattle.sheet_next.specs.Found.{Given, found_as}
use Rattle.sheet_next.specs.Next.{Handed, handed, answers, by_behind, next_into}
use Rattle.sheet_next.proofs.RowsLaws.{rows-size, rows_at, rows_alike}
use Rattle.sheet_next.proofs.DownLaws.{down-none}

-- ---- rows as they are written

row-bytes : (t : List ℕ) (r : ℕ) → length (row_text (field_row t r)) ≡ 31
row-bytes t r = row-text-length (field_row t r)

text-more : (i : ℕ) (t : List ℕ) → sheet_text (rows_to (i + 1) t) ≡ sheet_text (rows_to i t) ++ row_text (field_row t (i + 1))
unfolding rows_to
text-more i t =
    ap (λ (k : ℕ). sheet_text (rows_to k t)) (add-one i)
    ∙ text-append (rows_to i t) (field_row t (suc i) ∷ [])
    ∙ ap (λ (x : List ℕ). sheet_text (rows_to i t) ++ x) (text-one (field_row t (suc i)))
    ∙ ap (λ (k : ℕ). sheet_text (rows_to i t) ++ row_text (field_row t k)) (sym (add-one i))

text-bytes : (n : ℕ) (t : List ℕ) → length (sheet_text (rows_to n t)) ≡ 31 * n
unfolding rows_to sheet_text
text-bytes zero t = refl
text-bytes (suc n) t =
    ap (λ (k : ℕ). length (sheet_text (rows_to k t))) (sym (add-one n))
    ∙ ap length (text-more n t)
    ∙ length-append (sheet_text (rows_to n t)) (row_text (field_row t (n + 1)))
    ∙ omega (arith, text-bytes n t, row-bytes t (n + 1))

pub nothing_written : (t out : List ℕ) → out ≡ sets out 0 (sheet_text (rows_to 0 t))
unfolding rows_to sheet_text
nothing_written t out = refl

pub row_written : (t out : List ℕ) (i : ℕ) → 31 * i + 31 ≤ length out
    → sets (sets out 0 (sheet_text (rows_to i t))) (31 * i) (row_text (field_row t (i + 1))) ≡ sets out 0 (sheet_text (rows_to (i + 1) t))
row_written t out i h =
    let e : 31 * i ≡ 0 + length (sheet_text (rows_to i t)) = omega (arith, text-bytes i t) in
    ap (λ (k : ℕ). sets (sets out 0 (sheet_text (rows_to i t))) k (row_text (field_row t (i + 1)))) e
    ∙ written_both out 0 (sheet_text (rows_to i t)) (row_text (field_row t (i + 1))) (omega (arith, text-bytes i t, row-bytes t (i + 1)))
    ∙ ap (sets out 0) (sym (text-more i t))

-- ---- a given sheet

either_true : (a b : Bool) → (a || b) ≡ true → a ≡ false → b ≡ true
either_true true b h e = absurd (false≢true (sym e))
either_true false b h e = h

either-false : (a b : Bool) → (a || b) ≡ false → (a ≡ false) × (b ≡ false)
either-false true b h = absurd (false≢true (sym h))
either-false false b h = (refl, h)

empty-sheet : (s : List ℕ) → length s ≡ 0 → s ≡ []
empty-sheet [] h = refl
empty-sheet (x ∷ s) h = absurd (omega arith)

module _ (s t : List ℕ) (size : length t ≡ 25) where
  module _ (h : is_small s ≡ true) (e : take (5 * row_count s) t ≡ fields_of s) where
    agree : Agree (row_count s) (fields_of s) t
    agree i l = ap (λ (x : List ℕ). get_or x i 0) (sym e) ∙ get_or-take (5 * row_count s) t i 0 l

    rows_same : rows_of s ≡ rows_to (row_count s) t
    rows_same =
        ext_get_or [] (rows_of s) (rows_to (row_count s) (fields_of s)) (rows-length s ∙ sym (rows-size (row_count s) (fields_of s)))
        (λ i l. row-fields s i (omega (arith, rows-length s)) ∙ sym (rows_at (row_count s) i (fields_of s) (omega (arith, rows-length s))))
        ∙ rows_alike (row_count s) (fields_of s) t agree

    row-content : (r : ℕ) → 1 ≤ r → r ≤ row_count s → Content (field_row (fields_of s) r)
    row-content r a b =
        let k : r - 1 + 1 ≡ r = omega arith in
        listed-content (field_row (fields_of s) r)
        (rw (sym (ap (field_row (fields_of s)) k), sym (row-fields s (r - 1) (omega arith))) (row-among s h (r - 1) (omega arith)))
        (small-no-loops s h r a b)

    small-given : Given t (row_count s)
    small-given =
        record {
          size = size;
          few = (small-has s h).few;
          content = λ r a b. subst Content (row-alike (fields_of s) t (row_count s) agree r a b) (row-content r a b);
          stand = stand-alike (fields_of s) t (row_count s) agree (passing-stands (fields_of s) (row_count s) (small-passing s h));
        }

    small-next : next_of s ≡ told (or_else (down_from (row_count s) (rows_to (row_count s) t)) (up_from (suc (row_count s)) (5 - row_count s)))
    small-next =
        let x = small-text s h in
        let n : length (rows_of s) ≡ row_count s = rows-length s in
        ap next_of x
        ∙ next-behind (rows_of s) (rw n (small-rows s h)) (rw x at h)
        ∙ rw (n, rows_same) refl

  module _ (empty : length s ≡ 0) where
    none-given : Given t (row_count s)
    none-given =
        record {
          size = size;
          few = omega arith;
          content = λ r a b. absurd (omega arith);
          stand = λ r a b. absurd (omega arith);
        }

    none-next : next_of s ≡ told (or_else (down_from (row_count s) (rows_to (row_count s) t)) (up_from (suc (row_count s)) (5 - row_count s)))
    none-next =
        let n : row_count s ≡ 0 = omega arith in
        ap next_of (empty-sheet s empty) ∙ next-first
        ∙ rw (n, down-none (rows_to 0 t)) refl

  module _ (listed : (eqb (length s) 0 || is_small s) ≡ true) (e : is_small s ≡ true → take (5 * row_count s) t ≡ fields_of s) where
    pub given : Given t (row_count s)
    given = go (eqb (length s) 0) refl
      where
        go : (b : Bool) → eqb (length s) 0 ≡ b → Given t (row_count s)
        go true p = none-given (eqb-true (length s) 0 p)
        go false p = let h = either_true (eqb (length s) 0) (is_small s) listed p in small-given h (e h)

    pub next-told : next_of s ≡ told (or_else (down_from (row_count s) (rows_to (row_count s) t)) (up_from (suc (row_count s)) (5 - row_count s)))
    next-told = go (eqb (length s) 0) refl
      where
        go : (b : Bool) → eqb (length s) 0 ≡ b → next_of s ≡ told (or_else (down_from (row_count s) (rows_to (row_count s) t)) (up_from (suc (row_count s)) (5 - row_count s)))
        go true p = none-next (eqb-true (length s) 0 p)
        go false p = let h = either_true (eqb (length s) 0) (is_small s) listed p in small-next h (e h)

-- ---- the answer

-- The call by its two tests; the list itself stays shut.
into-is : (s out : List ℕ) → next_into s out ≡ pick (ltb (length out) 155) (handed (answers (number_of Memory) 0 0) out) (by_behind (next_of s) out)
unfolding next_into
into-is s out = refl

module _ (s out : List ℕ) where
  abbrev short : Handed
  short = handed (answers (number_of Memory) 0 0) out

  pub memory-short : length out < 155 → short ≡ next_into s out
  memory-short h = sym (into-is s out ∙ ap (λ (b : Bool). pick b short (by_behind (next_of s) out)) (lt-ltb (length out) 155 h))

  module _ (h : 155 ≤ length out) where
    by_next : (b : Behind) → next_of s ≡ b → by_behind b out ≡ next_into s out
    by_next b e =
        sym
        (into-is s out
        ∙ ap (λ (c : Bool). pick c short (by_behind (next_of s) out)) (le-ltb (length out) 155 h)
        ∙ ap (λ (c : Behind). by_behind c out) e)

    pub not_listed : (eqb (length s) 0 || is_small s) ≡ false → handed (answers (number_of Unlisted) 0 0) out ≡ next_into s out
    unfolding by_behind
    not_listed e =
        let both = either-false (eqb (length s) 0) (is_small s) e in
        by_next unlisted (next-unlisted s (λ (z : s ≡ []). eqb-false (length s) 0 both.0 (ap length z)) both.1)

    module _ (o : Option Rows) (e : next_of s ≡ told o) where
      pub none_left : (rs : Rows) (m : ℕ) → found_as m rs ≡ o → m ≡ 0 → handed (answers (number_of LastListed) 0 0) out ≡ next_into s out
      unfolding by_behind
      none_left rs m f z = by_next none-behind (e ∙ ap told (sym f ∙ ap (λ (i : ℕ). found_as i rs) z))

      pub next-written : (t : List ℕ) (m : ℕ) → found_as m (rows_to m t) ≡ o → (m ≡ 0 → ⊥) → handed (answers 0 0 m) (sets out 0 (sheet_text (rows_to m t))) ≡ next_into s out
      unfolding by_behind
      next-written t zero f z = absurd (z refl)
      next-written t (suc m) f z =
          let rs = rows_to (suc m) t in
          let k : suc m ≡ row_count (sheet_text rs) = omega (arith, text-bytes (suc m) t) in
          ap (λ (i : ℕ). handed (answers 0 0 i) (sets out 0 (sheet_text rs))) k ∙ by_next (next (sheet_text rs)) (e ∙ ap told (sym f))
