-- Laws of specs/LogRows.antt, and what only they need.
use Prim.Native.Nat.{ℕ, ◌-◌, ◌≤◌}
use Rattle.std.specs.Prelude.{◌≡◌, Bool, ◌&&◌, ◌⊎◌, ◌≢◌, eqb, length, take, Ok, Err}
use Rattle.std.proofs.Math.Path.{refl}
use Rattle.std.proofs.Common.{ap, arith, eq-eqb, ne_eqb, get_or-take, take-take, length-take-le}
use Rattle.std.proofs.Math.Bool.{true, false}
use Rattle.std.proofs.Math.Logic.{inl, inr}
use mathlib.Core.List.{List, []}
use Rattle.std.proofs.lemmas.Bool.{eqb-false}
use Rattle.std.proofs.Math.Dec.{leb}
use Rattle.value.specs.Operators.{pick}
use Rattle.formula.specs.declared.Refusal.{Refusal}
use Rattle.formula.specs.declared.Refusal.TheVariants.{Memory, Capacity, Set, LogLine, LogRefused}
use Rattle.formula.specs.Results.{Check, Verdict}
use Rattle.formula.specs.Refusals.{number_of}
use Rattle.formula.specs.Tree.{formula_of}
use Rattle.formula.specs.Faults.{letters_of}
use Rattle.formula.specs.Widths.{width}
use Rattle.formula.specs.Tests.{whole, after_check, verdict_of}
use Rattle.machine_layout.specs.Layout.{size_of, need, capacity_in}
use Rattle.machine_start.specs.Start.{started}
use Rattle.machine_log.specs.declared.lines.Line.{Line}
use Rattle.machine_log.specs.declared.lines.Line.TheVariants.{Malformed}
use Rattle.machine_log.specs.Lines.{line_count, lines_of, line_well, log_check}
use Rattle.machine_log.specs.Follow.{Followed, followed}
use Rattle.machine_log.specs.Checked.{set_list, all_sets, room_for, behind, opening, followed_log, told, by_opening, checked}
use Rattle.refusals.specs.Rows.{LowestAt, RowOf, VerdictRow}
use Rattle.refusals.proofs.Rows.{lowest-at, verdict-row}
use Rattle.refusals.proofs.LogLaws.{each-accepted, follow-stops, length-lines}
use Rattle.refusals.specs.LogRows.{line_accepted, set_named, line_followed, LogRow}

module _ (set : ℕ → List ℕ) (lines : List Line) (start : List ℕ) where
  accepted-before : (n : ℕ) → n ≤ length lines → (followed set (take n lines) 1 start []).line ≡ 0 → (j : ℕ) → 1 ≤ j → j ≤ n → line_accepted set lines start j ≡ true
  accepted-before n l h j a b =
      let i = each-accepted set (take n lines) 1 start [] (omega arith) h (j - 1) (omega (arith, length-take-le n lines l)) in
      eq-eqb _ 0 (rw (get_or-take n lines (j - 1) Malformed (omega arith), take-take (j - 1) n lines (omega arith)) at i)

  -- The line at which following stops is the lowest that the machine refuses.
  pub lowest-refused : (followed set lines 1 start []).line ≢ 0 → LowestAt (length lines) (line_accepted set lines start) (followed set lines 1 start []).line
  lowest-refused h =
      let S = follow-stops set lines 1 start [] h in
      let r : (followed set lines 1 start []).line - 1 ≡ S.at = omega (arith, S.line) in
      record {
        first = omega (arith, S.line);
        last = omega (arith, S.line, S.within);
        fault = rw (r, S.before) (ne_eqb _ 0 S.refused);
        lower = λ j a b. accepted-before S.at (omega (arith, S.within)) (ap (λ (w : Followed). w.line) S.before) j a (omega (arith, S.line));
      }

-- ---- the tests before a log is followed
module _ (sheet line : List ℕ) (capacity : ℕ) (sets : List ℕ) (number : ℕ) (log m out : List ℕ) where
  -- The row that goes with a refusal before a log is followed.
  abbrev RowBefore : Refusal → ℕ → Type 0
  RowBefore r row = RowOf sheet line r row ⊎ ((r ≡ LogLine) × LowestAt (line_count log) (line_well number log) row)

  unfoldable OpeningRow : Verdict → Type 0
  OpeningRow (Ok _) = Unit {0}
  OpeningRow (Err why) = RowBefore why.refusal why.row

  whole_row_lem : (r : Refusal) (b : Bool) (v : Verdict) → RowOf sheet line r 0 → OpeningRow v → OpeningRow (after_check r (whole b) v)
  unfolding after_check OpeningRow
  whole_row_lem r true v h k = k
  whole_row_lem r false v h k = inl h

  lines-row : (c : Check) → log_check number log ≡ c → OpeningRow (after_check LogLine c (Ok tt))
  unfolding after_check OpeningRow
  lines-row (Ok _) e = tt
  lines-row (Err row) e = inr (refl, lowest-at _ _ row e)

  behind-row : (v w : Verdict) → VerdictRow sheet line v → OpeningRow w → OpeningRow (behind v w)
  unfolding behind OpeningRow
  behind-row (Ok _) w h k = k
  behind-row (Err why) w h k = inl h

  opening-row : OpeningRow (opening sheet line capacity sets number log (length m) (length out))
  unfolding opening
  opening-row =
      let kinds : List ℕ = letters_of (formula_of sheet) line in
      whole_row_lem Memory (leb (need (size_of (capacity_in capacity))) (length m)) _ refl
      (whole_row_lem Memory (leb (room_for (length log)) (length out)) _ refl
      (whole_row_lem Capacity (leb 1 capacity && leb capacity 16) _ refl
      (behind-row (verdict_of sheet line) _ (verdict-row sheet line)
      (whole_row_lem Set (all_sets kinds (set_list kinds sets number)) _ refl
      (lines-row (log_check number log) refl)))))

  -- ---- the whole
  stopped-row : (f : Followed) → (f.line ≢ 0 → LowestAt (line_count log) (line_followed sheet line capacity sets number log m) f.line) → (b : Bool) → eqb f.line 0 ≡ b
      → pick b 0 (number_of LogRefused) ≢ 0 → LogRow sheet line capacity sets number log m (pick b 0 (number_of LogRefused)) f.line
  stopped-row f h true e n = absurd (n refl)
  stopped-row f h false e n = inr (inr (refl, h (eqb-false _ _ e)))

  by-opening : (v : Verdict) (f : Followed) (w : ℕ) → OpeningRow v → (f.line ≢ 0 → LowestAt (line_count log) (line_followed sheet line capacity sets number log m) f.line)
      → (by_opening v f w m out).answer.refusal ≢ 0 → LogRow sheet line capacity sets number log m (by_opening v f w m out).answer.refusal (by_opening v f w m out).answer.row
  unfolding by_opening told OpeningRow
  by-opening (Ok _) f w o h n = stopped-row f h (eqb f.line 0) refl n
  by-opening (Err why) f w (inl o) h n = inl (why.refusal, refl, o)
  by-opening (Err why) f w (inr o) h n = inr (inl (ap number_of o.0, o.1))

  pub log-row : (checked sheet line capacity sets number log m out).answer.refusal ≢ 0
      → LogRow sheet line capacity sets number log m (checked sheet line capacity sets number log m out).answer.refusal (checked sheet line capacity sets number log m out).answer.row
  unfolding checked followed_log
  log-row =
      by-opening (opening sheet line capacity sets number log (length m) (length out)) (followed_log sheet line capacity sets number log m) (width (formula_of sheet)) opening-row
      (λ h. rw (length-lines log) at (lowest-refused (set_named sheet line sets number) (lines_of log) (started sheet line capacity m).mem h))
