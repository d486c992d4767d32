-- A log's lines as the code reads them: where in the bytes a line and its fields stand, the lines one after the other, and 15 over them. Assumes nothing.
use Rattle.std.specs.Prelude.{ℕ, zero, suc, ◌+◌, ◌*◌, ◌-◌, ◌≤◌, ◌<◌, ◌≢◌, Bool, ◌&&◌, get_or, take, drop, Ok, Err}
use Rattle.std.proofs.Math.Path.{◌≡◌, refl, ap}
use Rattle.std.proofs.Common.{sym, ap₂, ◌∙◌, take_all, take-take, take-add, drop_at, drop-drop, length-take-le, get_or-take, get_or-drop}
use Rattle.std.proofs.Math.Bool.{true, false}
use mathlib.Core.List.{List, [], ◌∷◌}
use native.Mathlib.Omega.{arith}
use borrow.Author.Tests.{le-leb, lt-leb, leb-true, eq-eqb, ne_eqb}
use Rattle.std.proofs.Math.Dec.{leb}
use Rattle.std.proofs.Math.ListN.{length, length-drop}
use Rattle.std.proofs.Math.Seq.{slice}
use Rattle.formula.specs.Sheet.{field_of, field_text}
use Rattle.formula.proofs.TestLaws.{passed-each, lowest-fault}
use Rattle.machine_log.specs.declared.lines.Line.TheVariants.{Malformed}
use Rattle.machine_log.specs.Lines.{line_bytes, most_lines, by_fields, line_of, line_at, lines_in, line_count, lines_of, listed, line_well, log_check}

-- ---- one line

part_of : (a k : ℕ) (s : List ℕ) → a ≤ length s → slice a (a + k) s ≡ take k (drop a s)
part_of a k s h = ap (drop a) (take-add a k s) ∙ drop_at (take a s) (take k (drop a s)) a (length-take-le a s h)

module _ (log : List ℕ) (j : ℕ) where
  abbrev text : List ℕ
  text = take line_bytes (drop (line_bytes * j) log)

  pub line-short : length log - line_bytes * j < line_bytes → Malformed ≡ line_at log j
  unfolding line_of
  line-short h =
      let d = length-drop (line_bytes * j) log in
      let l : length text ≡ length log - line_bytes * j = ap length (take_all line_bytes (drop (line_bytes * j) log) (omega (arith, d))) ∙ d in
      rw (ne_eqb (length text) line_bytes (λ e. omega arith)) refl

  module _ (h : line_bytes * j + line_bytes ≤ length log) where
    behind : line_bytes ≤ length (drop (line_bytes * j) log)
    behind = omega (arith, length-drop (line_bytes * j) log)

    whole : length text ≡ line_bytes
    whole = length-take-le line_bytes (drop (line_bytes * j) log) behind

    feed : get_or text 12 0 ≡ get_or log (line_bytes * j + 12) 0
    feed = get_or-take line_bytes (drop (line_bytes * j) log) 12 0 (omega arith) ∙ get_or-drop (line_bytes * j) log 12 0

    pub line-unended : get_or log (line_bytes * j + 12) 0 ≢ 10 → Malformed ≡ line_at log j
    unfolding line_of
    line-unended n = rw (eq-eqb (length text) line_bytes whole, ne_eqb (get_or text 12 0) 10 (λ e. n (sym feed ∙ e))) refl

    first : field_text text 0 ≡ slice (line_bytes * j) (line_bytes * j + 6) log
    first = take-take 6 line_bytes (drop (line_bytes * j) log) (omega arith) ∙ sym (part_of (line_bytes * j) 6 log (omega arith))

    second : field_text text 1 ≡ slice (line_bytes * j + 6) (line_bytes * j + 6 + 6) log
    second =
        ap (take 6) (part_of 6 7 (drop (line_bytes * j) log) (omega (arith, behind)))
        ∙ take-take 6 7 (drop 6 (drop (line_bytes * j) log)) (omega arith)
        ∙ ap (take 6) (drop-drop 6 (line_bytes * j) log)
        ∙ sym (part_of (line_bytes * j + 6) 6 log (omega arith))

    pub line_read : get_or log (line_bytes * j + 12) 0 ≡ 10
        → by_fields (field_of (slice (line_bytes * j) (line_bytes * j + 6) log)) (field_of (slice (line_bytes * j + 6) (line_bytes * j + 6 + 6) log)) ≡ line_at log j
    unfolding line_of
    line_read e =
        rw (eq-eqb (length text) line_bytes whole, eq-eqb (get_or text 12 0) 10 (feed ∙ e))
        (ap₂ (λ (a b : List ℕ). by_fields (field_of a) (field_of b)) (sym first) (sym second))

-- ---- lines one after the other

pub line-next : (log : List ℕ) (j : ℕ) → j < line_count log
    → lines_in (line_count log - j) (drop (line_bytes * j) log) ≡ line_at log j ∷ lines_in (line_count log - (j + 1)) (drop (line_bytes * (j + 1)) log)
unfolding lines_in
line-next log j h =
    let z : line_count log - j ≡ suc (line_count log - (j + 1)) = omega arith in
    let w : line_bytes * j + line_bytes ≡ line_bytes * (j + 1) = omega arith in
    rw z
    (ap (λ (l : List ℕ). line_at log j ∷ lines_in (line_count log - (j + 1)) l) (drop-drop line_bytes (line_bytes * j) log)
    ∙ ap (λ (k : ℕ). line_at log j ∷ lines_in (line_count log - (j + 1)) (drop k log)) w)

pub lines-over : (log : List ℕ) (j : ℕ) → line_count log ≤ j → lines_in (line_count log - j) (drop (line_bytes * j) log) ≡ []
unfolding lines_in
lines-over log j h = let z : line_count log - j ≡ 0 = omega arith in rw z refl

pub lines-all : (log : List ℕ) → lines_in (line_count log - 0) (drop (line_bytes * 0) log) ≡ lines_of log
unfolding lines_of
lines-all log = let z : line_count log - 0 ≡ line_count log = omega arith in rw z refl

in_order : (n i : ℕ) (log : List ℕ) → i < n → get_or (lines_in n log) i Malformed ≡ line_at log i
unfolding lines_in
in_order zero i log h = absurd (omega arith)
in_order (suc n) zero log h = refl
in_order (suc n) (suc i) log h =
    let w : line_bytes + line_bytes * i ≡ line_bytes * suc i = omega arith in
    in_order n i (drop line_bytes log) (omega arith)
    ∙ ap (λ (l : List ℕ). line_of (take line_bytes l)) (drop-drop (line_bytes * i) line_bytes log ∙ ap (λ (k : ℕ). drop k log) w)

-- ---- 15

module _ (number : ℕ) (log : List ℕ) (j : ℕ) where
  pub well-listed : j < most_lines → j < line_count log → line_well number log (j + 1) ≡ listed number (line_at log j)
  unfolding line_well lines_of
  well-listed h k =
      let z : j + 1 - 1 ≡ j = omega arith in
      rw (le-leb (j + 1) most_lines (omega arith), z) (ap (listed number) (in_order (line_count log) j log k))

  pub well-many : most_lines ≤ j → line_well number log (j + 1) ≡ false
  unfolding line_well
  well-many h = rw (lt-leb (j + 1) most_lines (omega arith)) refl

module _ (number : ℕ) (log : List ℕ) where
  within : (j : ℕ) → line_well number log j ≡ true → j ≤ most_lines
  unfolding line_well
  within j e = go (leb j most_lines) refl e
    where
      go : (b : Bool) → leb j most_lines ≡ b → (b && listed number (get_or (lines_of log) (j - 1) Malformed)) ≡ true → j ≤ most_lines
      go true p q = leb-true j most_lines p
      go false p q = absurd (let z : ◌≡◌ {A = ℕ} 0 1 = cc q in omega arith)

  -- A log that passes has no more lines than a log may have, and each is one of its list.
  pub passed-few : log_check number log ≡ Ok tt → line_count log ≤ most_lines
  passed-few e = go (line_count log) refl
    where
      go : (n : ℕ) → line_count log ≡ n → n ≤ most_lines
      go zero p = omega arith
      go (suc n) p = within (suc n) (passed-each (line_count log) (line_well number log) e (suc n) (omega arith) (omega arith))

  pub passed-listed : log_check number log ≡ Ok tt → (j : ℕ) → j < line_count log → listed number (line_at log j) ≡ true
  passed-listed e j h =
      sym (well-listed number log j (omega (arith, passed-few e)) h) ∙ passed-each (line_count log) (line_well number log) e (j + 1) (omega arith) (omega arith)

  pub fault-low : (row : ℕ) → log_check number log ≡ Err row → row ≤ most_lines + 1
  fault-low zero e = omega arith
  fault-low (suc zero) e = omega arith
  fault-low (suc (suc n)) e = let b = within (suc n) ((lowest-fault (line_count log) (line_well number log) (suc (suc n)) e).3 (suc n) (omega arith) (omega arith)) in omega arith
