-- Document 02, Job 8: "the new sheet gets 6 exactly when two fields of kept rows name the same row". Two fields of one row count as two.
-- The kept rows are the reachable ones (Rowwise `kept-iff`).
use Prim.Native.Nat.{ℕ, zero, suc, ◌+◌, ◌-◌, ◌≤◌, ◌<◌}
use Rattle.std.specs.Prelude.{◌≡◌, ◌↔◌, Bool, Ok, Err}
use Rattle.std.proofs.Math.Path.{refl, ap}
use Rattle.std.proofs.Common.{sym, ◌∙◌}
use Rattle.std.proofs.Math.Bool.{true, false, cond}
use mathlib.Core.List.{List, [], ◌∷◌, ◌++◌, map, append-nil}
use borrow.Author.Tests.{eqb-true, eqb-false}
use native.Mathlib.Omega.{arith}
use Rattle.std.proofs.Math.Decide.{ℕ_discrete, dec_lt}
use Rattle.std.proofs.Math.Numerals.{add-one}
use Rattle.formula.specs.Results.{Check, refused}
use Rattle.formula.specs.declared.Refusal.TheVariants.{Named}
use Rattle.formula.specs.Sheet.{row_count, fields_of, shape_at, named_in}
use Rattle.formula.specs.Tests.{occurrences, all_named, named_once, reading_of}
use Rattle.formula.proofs.TestLaws.{passed-each, lowest-fault}
use Rattle.formula.specs.FaultRows.{Among}
use Rattle.formula.proofs.PlaceLaws.{occurs-append}
use Rattle.sheet_tidied.specs.Tidy.{is_kept, new_number, tidied}
use Rattle.sheet_read.specs.Reading.{row_verdict}
use Rattle.sheet_tidied.specs.Reach.{Reachable, last, named_by}
use Rattle.sheet_tidied.proofs.KeptLaws.{last-kept, kept-names, kept-reachable, reachable-kept, reachable-row, between-among}
use Rattle.sheet_tidied.proofs.NumberLaws.{number-first, number-less, number-own}
use Rattle.sheet_tidied.proofs.ShapeLaws.{names-renumbered}
use Rattle.sheet_tidied.proofs.Occurring.{occurs-among, among-occurs, occurs-map}
use Rattle.sheet_tidied.specs.Rowwise.{Rowwise}
use Rattle.sheet_tidied.proofs.Rowwise.{passes-rowwise, naming}
use Rattle.sheet_tidied.specs.Sixth.{sixth_of}
use Rattle.sheet_tidied.proofs.Sixth.{sixth-reading}
use Rattle.sheet_tidied.specs.Tidied.{kept_in}
use Rattle.sheet_tidied.proofs.Tidied.{new-count, new-shape, new-from, tidied-passes}

-- The rows that the fields of the kept ones of the first r rows name, field by field.
unfoldable pub kept_names : List ℕ → List Bool → ℕ → List ℕ
unfolding named_in shape_at
kept_names t k zero = []
kept_names t k (suc r) = kept_names t k r ++ cond (is_kept k (suc r)) (named_in (shape_at t (suc r))) []

-- "two fields of kept rows name the same row"
abbrev pub NamedTwice : List ℕ → Type 0
NamedTwice s = (x : ℕ) × (2 ≤ occurrences x (kept_names (fields_of s) (kept_in s) (row_count s)))

-- ---- who names a row
-- A kept row of the first r that names row x.
record KeptNamer (t : List ℕ) (k : List Bool) (r x : ℕ) : Type 0 where
  row : ℕ
  low : 1 ≤ row
  high : row ≤ r
  kept : is_kept k row ≡ true
  names : Among x (named_in (shape_at t row))

module _ (t : List ℕ) (k : List Bool) where
  names_more : (x r : ℕ) → occurrences x (kept_names t k (suc r)) ≡ occurrences x (kept_names t k r) + occurrences x (cond (is_kept k (suc r)) (named_in (shape_at t (suc r))) [])
  unfolding kept_names
  names_more x r = occurs-append x (kept_names t k r) (cond (is_kept k (suc r)) (named_in (shape_at t (suc r))) [])

  kept-namer : (x r : ℕ) → 1 ≤ occurrences x (kept_names t k r) → KeptNamer t k r x
  unfolding kept_names occurrences
  kept-namer x zero h = absurd (omega arith)
  kept-namer x (suc r) h = go (is_kept k (suc r)) refl (dec_lt 0 (occurrences x (kept_names t k r))) (kept-namer x r)
    where
      go : (b : Bool) → is_kept k (suc r) ≡ b → Dec (0 < occurrences x (kept_names t k r)) → (1 ≤ occurrences x (kept_names t k r) → KeptNamer t k r x) → KeptNamer t k (suc r) x
      go b e (yes l) ih = let w = ih l in record { row = w.row; low = w.low; high = omega (arith, w.high); kept = w.kept; names = w.names }
      go true e (no l) ih =
          let m : occurrences x (cond (is_kept k (suc r)) (named_in (shape_at t (suc r))) []) ≡ occurrences x (named_in (shape_at t (suc r))) = rw e refl in
          record { row = suc r; low = omega arith; high = omega arith; kept = e; names = occurs-among x (named_in (shape_at t (suc r))) (omega (arith, names_more x r)) }
      go false e (no l) ih =
          let m : occurrences x (cond (is_kept k (suc r)) (named_in (shape_at t (suc r))) []) ≡ 0 = rw e refl in
          absurd (omega (arith, names_more x r))

  names-counted : (r q x : ℕ) → 1 ≤ q → q ≤ r → is_kept k q ≡ true → Among x (named_in (shape_at t q)) → 1 ≤ occurrences x (kept_names t k r)
  names-counted zero q x l u h a = absurd (omega arith)
  names-counted (suc r) q x l u h a = go (ℕ_discrete q (suc r)) (λ (v : q ≤ r). names-counted r q x l v h a)
    where
      go : Dec (q ≡ suc r) → (q ≤ r → 1 ≤ occurrences x (kept_names t k r)) → 1 ≤ occurrences x (kept_names t k (suc r))
      go (yes e) ih =
          let f : is_kept k (suc r) ≡ true = rw e at h in
          let m : occurrences x (cond (is_kept k (suc r)) (named_in (shape_at t (suc r))) []) ≡ occurrences x (named_in (shape_at t (suc r))) = rw f refl in
          omega (arith, names_more x r, among-occurs x (named_in (shape_at t (suc r))) (rw e at a))
      go (no e) ih = omega (arith, names_more x r, ih (omega arith))

-- ---- the names of the new sheet
map-append : (f : ℕ → ℕ) (l m : List ℕ) → map f (l ++ m) ≡ map f l ++ map f m
map-append f [] m = refl
map-append f (x ∷ l) m = ap (λ (r : List ℕ). f x ∷ r) (map-append f l m)

module _ (s : List ℕ) (ok : Rowwise s) where
  abbrev t : List ℕ
  t = fields_of s

  abbrev n : ℕ
  n = row_count s

  abbrev k : List Bool
  k = kept_in s

  abbrev f : ℕ → ℕ
  f x = new_number k x

  abbrev named : List ℕ
  named = kept_names t k n

  -- They are the new numbers of what the kept rows name.
  new-named : (r : ℕ) → r ≤ n → all_named (fields_of (tidied s)) (f r) ≡ map f (kept_names t k r)
  unfolding all_named kept_names new_number
  new-named zero u = refl
  new-named (suc r) u = go (is_kept k (suc r)) refl (new-named r (omega arith))
    where
      go : (b : Bool) → is_kept k (suc r) ≡ b → all_named (fields_of (tidied s)) (f r) ≡ map f (kept_names t k r)
          → all_named (fields_of (tidied s)) (f r + cond (is_kept k (suc r)) 1 0) ≡ map f (kept_names t k r ++ cond (is_kept k (suc r)) (named_in (shape_at t (suc r))) [])
      go true e ih =
          let j : suc (f r) ≡ f (suc r) = rw e (sym (add-one (f r))) in
          let names : named_in (shape_at (fields_of (tidied s)) (suc (f r))) ≡ map f (named_in (shape_at t (suc r))) =
          ap (λ (i : ℕ). named_in (shape_at (fields_of (tidied s)) i)) j ∙ ap named_in (new-shape s ok (suc r) (omega arith) u e) ∙ names-renumbered f (shape_at t (suc r)) in
          rw (e, add-one (f r), ih, names) (sym (map-append f (kept_names t k r) (named_in (shape_at t (suc r)))))
      go false e ih =
          let z : f r + 0 ≡ f r = omega arith in
          rw (e, z, append-nil (kept_names t k r)) ih

  all_named_lem : all_named (fields_of (tidied s)) (row_count (tidied s)) ≡ map f named
  all_named_lem = ap (all_named (fields_of (tidied s))) (new-count s ok) ∙ new-named n (omega arith)

  -- What a kept row names is a kept row, and not the last.
  name-row : (x : ℕ) → 1 ≤ occurrences x named → (1 ≤ x) × (x < n) × (is_kept k x ≡ true)
  name-row x h =
      let w = kept-namer t k x n h in
      let i = between-among w.row x (named_in (shape_at t w.row)) ((naming s ok).names w.row w.low w.high) w.names in
      (i.0, omega (arith, i.1, w.high), kept-names t n (naming s ok) ok.some w.row w.low w.high w.kept x w.names)

  -- A kept row is named as often as its new number.
  same_count : (x : ℕ) → is_kept k x ≡ true → occurrences (f x) (all_named (fields_of (tidied s)) (row_count (tidied s))) ≡ occurrences x named
  same_count x h = ap (occurrences (f x)) all_named_lem ∙ occurs-map f x named (λ y a e. number-own k y x (name-row y (among-occurs y named a)).2 h e)

  -- A reachable row other than the last is named by a kept one.
  reached-by : (r : ℕ) → Reachable t n r → r < n → 1 ≤ occurrences r named
  reached-by r last l = absurd (omega arith)
  reached-by r (named_by q x h a) l =
      let i = reachable-row t n (naming s ok) ok.some q h in
      names-counted t k n q x i.0 i.1 (reachable-kept t n (naming s ok) ok.some q h) a

  last-number : (r : ℕ) → r ≤ n → f r < f n → r < n
  last-number r u h = go (ℕ_discrete r n)
    where
      go : Dec (r ≡ n) → r < n
      go (yes e) = absurd (omega (arith, ap f e))
      go (no e) = omega arith

  fault-twice : (row : ℕ) → sixth_of (tidied s) ≡ Err row → NamedTwice s
  unfolding sixth_of
  fault-twice row e =
      let c = lowest-fault (row_count (tidied s) - 1) (λ r. named_once (all_named (fields_of (tidied s)) (row_count (tidied s))) r) row e in
      let w = new-from s ok row c.0 (omega (arith, c.1)) in
      let l : w.row < n = last-number w.row w.high (omega (arith, c.0, c.1, w.number, new-count s ok)) in
      let one = reached-by w.row (kept-reachable t n (naming s ok) ok.some w.row w.low w.kept) l in
      let same = ap (λ (j : ℕ). occurrences j (all_named (fields_of (tidied s)) (row_count (tidied s)))) (sym w.number) ∙ same_count w.row w.kept in
      let other = eqb-false (occurrences row (all_named (fields_of (tidied s)) (row_count (tidied s)))) 1 c.2 in
      (w.row, more (occurrences w.row named) one (λ (z : occurrences w.row named ≡ 1). other (same ∙ z)))
    where
      more : (j : ℕ) → 1 ≤ j → (j ≡ 1 → ⊥) → 2 ≤ j
      more j h i = omega arith

  twice-fault : NamedTwice s → (row : ℕ) × (sixth_of (tidied s) ≡ Err row)
  unfolding sixth_of
  twice-fault (x, h) = go (sixth_of (tidied s)) refl
    where
      go : (c : Check) → sixth_of (tidied s) ≡ c → (row : ℕ) × (c ≡ Err row)
      go (Err row) e = (row, refl)
      go (Ok _) e =
          let i = name-row x (omega arith) in
          let m = number-less k x n i.1 (last-kept t n (naming s ok) ok.some) in
          let one = passed-each (row_count (tidied s) - 1) (λ r. named_once (all_named (fields_of (tidied s)) (row_count (tidied s))) r) e (f x) (number-first k x i.0 i.2) (omega (arith, m, new-count s ok)) in
          let same = same_count x i.2 in
          absurd (omega (arith, same, eqb-true (occurrences (f x) (all_named (fields_of (tidied s)) (row_count (tidied s)))) 1 one))

-- "the new sheet gets 6 exactly when two fields of kept rows name the same row", whatever the kinds line
pub tidied-named : (s line : List ℕ) → row_verdict s ≡ Ok tt → ((row : ℕ) × (reading_of (tidied s) line ≡ refused Named row)) ↔ NamedTwice s
tidied-named s line h =
    let ok = passes-rowwise s h in
    let reading = sixth-reading (tidied s) line (tidied-passes s h) in
    (λ r. fault-twice s ok r.0 ((reading r.0).0 r.1), λ w. let e = twice-fault s ok w in (e.0, (reading e.0).1 e.1))
