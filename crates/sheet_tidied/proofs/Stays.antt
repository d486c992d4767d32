-- A sheet of which every row is reachable from the last is tidied to itself, byte for byte. So tidying twice changes nothing more (document 02, Job
-- 8), and a sheet that passes tests 1 to 6, as every accepted one, comes back as it is.
use Prim.Native.Nat.{ℕ, zero, suc, ◌+◌, ◌*◌, ◌-◌, ◌≤◌, ◌<◌}
use Rattle.std.specs.Prelude.{◌≡◌, Bool, true, drop, Ok}
use Rattle.std.proofs.Math.Path.{refl, sym, ap}
use Rattle.std.proofs.Common.{subst, ◌∙◌, inl, inr, length-drop, get_or-take, get_or-append-add, add-one}
use Rattle.std.proofs.Math.Bool.{cond}
use mathlib.Core.List.{List, [], ◌∷◌, ◌++◌, map}
use Rattle.std.proofs.Math.ListN.{length, get_or, take}
use Rattle.std.proofs.Math.Seq.{take-add, take_all, length-take-le}
use borrow.Author.Tests.{eqb-true}
use native.Mathlib.Omega.{arith}
use Rattle.formula.specs.declared.Figures.{Figures}
use Rattle.formula.specs.Sheet.{row_count, lines_of, fields_of, field, shape_at, named_in}
use Rattle.formula.proofs.SheetLaws.{line-at, fields-length, fields-more}
use Rattle.formula.specs.SheetLaws.{line_fields}
use Rattle.formula.specs.Tests.{line_at, fields_well, reading_of}
use Rattle.formula.specs.FaultRows.{Among}
use Rattle.sheet_tidied.specs.Text.{row_text, sheet_text}
use Rattle.sheet_tidied.specs.Tidy.{is_kept, new_number, new_row, kept_rows, new_rows, tidied}
use Rattle.sheet_read.specs.Reading.{row_verdict}
use Rattle.sheet_tidied.specs.Reach.{Reachable, last, named_by}
use Rattle.sheet_tidied.proofs.KeptLaws.{kept-reachable, reachable-kept, reachable-row}
use Rattle.sheet_tidied.proofs.TextLaws.{text-append, text-one}
use Rattle.sheet_tidied.proofs.ShapeLaws.{names-renumbered, renamed-alike}
use Rattle.sheet_tidied.proofs.FieldTexts.{line-printed}
use Rattle.sheet_tidied.specs.Rowwise.{Rowwise}
use Rattle.sheet_tidied.proofs.Rowwise.{passes-rowwise, naming}
use Rattle.sheet_tidied.proofs.Occurring.{all-reachable}
use Rattle.sheet_tidied.specs.Sixth.{sixth_of}
use Rattle.sheet_tidied.proofs.Sixth.{sixth-sound, accepted-five, accepted-sixth}
use Rattle.sheet_tidied.specs.Tidied.{kept_in}
use Rattle.sheet_tidied.proofs.Tidied.{listed_at, new-count, new-shape, new-from, tidied-rowwise}

-- ---- a row as it is written
module _ (s : List ℕ) (ok : Rowwise s) (i : ℕ) (u : i < row_count s) where
  abbrev line : List ℕ
  line = line_at (lines_of s) (i + 1)

  field-read : (j : ℕ) → j < 5 → field (fields_of s) (i + 1) j ≡ get_or (line_fields line) j 0
  field-read j h =
      let t = fields_of s in
      let e : 5 * (i + 1 - 1) + j ≡ 5 * i + j = omega arith in
      let f : 5 * i + j ≡ length (take (5 * i) t) + j = omega (arith, length-take-le (5 * i) t (omega (arith, fields-length s))) in
      ap (λ (n : ℕ). get_or t n 0) e
      ∙ sym (get_or-take (5 * (i + 1)) t (5 * i + j) 0 (omega arith))
      ∙ ap (λ (l : List ℕ). get_or l (5 * i + j) 0) (fields-more s i u)
      ∙ ap (λ (n : ℕ). get_or (take (5 * i) t ++ line_fields line) n 0) f
      ∙ get_or-append-add (take (5 * i) t) (line_fields line) j 0

  -- The five fields of a row, printed, are the row.
  row-printed : row_text (field (fields_of s) (i + 1) 0 ∷ field (fields_of s) (i + 1) 1 ∷ field (fields_of s) (i + 1) 2 ∷ field (fields_of s) (i + 1) 3 ∷ field (fields_of s) (i + 1) 4 ∷ [])
      ≡ take 31 (drop (31 * i) s)
  unfolding line_fields fields_well
  row-printed =
      let size : length line ≡ 31 = ap length (line-at s i u) ∙ length-take-le 31 (drop (31 * i) s) (rw (length-drop (31 * i) s) (omega (arith, ok.bytes))) in
      let feed : get_or line 30 0 ≡ 10 = eqb-true (get_or line 30 0) 10 (ok.ended (i + 1) (omega arith) (omega arith)) in
      rw (field-read 0 (omega arith), field-read 1 (omega arith), field-read 2 (omega arith), field-read 3 (omega arith), field-read 4 (omega arith))
      (line-printed line size (ok.formed (i + 1) (omega arith) (omega arith)) feed ∙ line-at s i u)

-- ---- where all rows are kept
module _ (s : List ℕ) (ok : Rowwise s) (all : (r : ℕ) → 1 ≤ r → r ≤ row_count s → is_kept (kept_in s) r ≡ true) where
  abbrev k : List Bool
  k = kept_in s

  same_number : (r : ℕ) → r ≤ row_count s → new_number k r ≡ r
  unfolding new_number
  same_number zero u = refl
  same_number (suc r) u =
      ap (λ (b : Bool). new_number k r + cond b 1 0) (all (suc r) (omega arith) u) ∙ rw (same_number r (omega arith)) (omega arith)

  same_row_lem : (r : ℕ) → 1 ≤ r → r ≤ row_count s
      → new_row (fields_of s) k r ≡ field (fields_of s) r 0 ∷ field (fields_of s) r 1 ∷ field (fields_of s) r 2 ∷ field (fields_of s) r 3 ∷ field (fields_of s) r 4 ∷ []
  unfolding new_row
  same_row_lem r l u =
      renamed-alike r (new_number k) (λ x. x) (λ x a b. same_number x (omega arith)) (shape_at (fields_of s) r) ((naming s ok).names r l u) ∙ (listed_at s ok r l u).fields

  same_text : (r : ℕ) → r ≤ row_count s → sheet_text (kept_rows (fields_of s) k r) ≡ take (31 * r) s
  unfolding kept_rows sheet_text
  same_text zero u = refl
  same_text (suc i) u =
      let q = new_row (fields_of s) k (suc i) in
      let e : 31 * suc i ≡ 31 * i + 31 = omega arith in
      let row : row_text q ≡ take 31 (drop (31 * i) s) = ap (λ (j : ℕ). row_text (new_row (fields_of s) k j)) (sym (add-one i)) ∙ ap row_text (same_row_lem (i + 1) (omega arith) (omega arith)) ∙ row-printed s ok i (omega arith) in
      ap (λ (b : Bool). sheet_text (kept_rows (fields_of s) k i ++ cond b (q ∷ []) [])) (all (suc i) (omega arith) u)
      ∙ text-append (kept_rows (fields_of s) k i) (q ∷ [])
      ∙ ap (λ (x : List ℕ). sheet_text (kept_rows (fields_of s) k i) ++ x) (text-one q ∙ row)
      ∙ ap (λ (x : List ℕ). x ++ take 31 (drop (31 * i) s)) (same_text i (omega arith))
      ∙ sym (ap (λ (n : ℕ). take n s) e ∙ take-add (31 * i) 31 s)

  stays : tidied s ≡ s
  unfolding tidied new_rows
  stays = same_text (row_count s) (omega arith) ∙ take_all (31 * row_count s) s (omega (arith, ok.bytes))

module _ (s : List ℕ) (ok : Rowwise s) where
  -- A sheet of which every row is reachable is tidied to itself.
  pub reachable-stays : ((r : ℕ) → 1 ≤ r → r ≤ row_count s → Reachable (fields_of s) (row_count s) r) → tidied s ≡ s
  reachable-stays h = stays s ok (λ r l u. reachable-kept (fields_of s) (row_count s) (naming s ok) ok.some r (h r l u))

-- ---- tidied twice
among-map : (f : ℕ → ℕ) (x : ℕ) (l : List ℕ) → Among x l → Among (f x) (map f l)
among-map f x [] a = absurd a
among-map f x (y ∷ l) (inl e) = inl (ap f e)
among-map f x (y ∷ l) (inr a) = inr (among-map f x l a)

module _ (s : List ℕ) (ok : Rowwise s) where
  abbrev f : ℕ → ℕ
  f x = new_number (kept_in s) x

  -- What is reachable stays reachable under its new number.
  moved : (r : ℕ) → Reachable (fields_of s) (row_count s) r → Reachable (fields_of (tidied s)) (row_count (tidied s)) (f r)
  moved r last = rw (sym (new-count s ok)) last
  moved r (named_by q x h a) =
      let i = reachable-row (fields_of s) (row_count s) (naming s ok) ok.some q h in
      let kept = reachable-kept (fields_of s) (row_count s) (naming s ok) ok.some q h in
      let names = ap named_in (new-shape s ok q i.0 i.1 kept) ∙ names-renumbered f (shape_at (fields_of s) q) in
      named_by (f q) (f x) (moved q h) (subst (Among (f x)) (sym names) (among-map f x (named_in (shape_at (fields_of s) q)) a))

  -- Every row of the new sheet is reachable.
  pub new-reachable : (j : ℕ) → 1 ≤ j → j ≤ row_count (tidied s) → Reachable (fields_of (tidied s)) (row_count (tidied s)) j
  new-reachable j l u =
      let w = new-from s ok j l u in
      subst (Reachable (fields_of (tidied s)) (row_count (tidied s))) w.number
      (moved w.row (kept-reachable (fields_of s) (row_count s) (naming s ok) ok.some w.row w.low w.kept))

-- "Tidying twice changes nothing more."
pub tidied-twice : (s : List ℕ) → row_verdict s ≡ Ok tt → tidied (tidied s) ≡ tidied s
tidied-twice s h = let ok = passes-rowwise s h in reachable-stays (tidied s) (tidied-rowwise s ok) (new-reachable s ok)

-- ---- sheets without dead rows and doubled names
-- A sheet that passes tests 1 to 6 comes back byte for byte.
pub named-once-stays : (s : List ℕ) → row_verdict s ≡ Ok tt → sixth_of s ≡ Ok tt → tidied s ≡ s
named-once-stays s h e =
    let ok = passes-rowwise s h in
    reachable-stays s ok (all-reachable (fields_of s) (row_count s) (sixth-sound s ok e))

-- So does every accepted one.
pub accepted-stays : (s line : List ℕ) (g : Figures) → reading_of s line ≡ Ok g → tidied s ≡ s
accepted-stays s line g h = named-once-stays s (accepted-five s line g h) (accepted-sixth s line g h)
