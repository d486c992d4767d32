-- Laws of specs/LogKept.antt, and what only they need.
use Rattle.std.specs.Prelude.{ℕ, ◌-◌, ◌*◌, ◌/◌, ◌≤◌, ◌≡◌, Bool, true, false, ◌⊎◌, ◌≢◌, eqb, ltb, length, take, Ok, Err}
use Rattle.std.proofs.Math.Path.{refl, ap}
use Rattle.std.proofs.Common.{◌∙◌, inr, arith, ltb-true, ltb-false, length-take-le}
use Rattle.std.proofs.Math.Logic.{inl}
use mathlib.Core.List.{List, []}
use Rattle.std.proofs.lemmas.Bool.{eqb-false}
use Rattle.value.specs.Operators.{pick}
use Rattle.formula.specs.Results.{Verdict}
use Rattle.formula.specs.Tree.{formula_of}
use Rattle.formula.specs.Widths.{width}
use Rattle.formula.proofs.TestLaws.{passed-each}
use Rattle.machine_log.specs.Lines.{line_bytes, line_count, lines_of, line_well}
use Rattle.machine_log.specs.Follow.{Followed, followed}
use Rattle.machine_log.specs.Checked.{room_for, Checked, checks, answers, opening, followed_log, told, by_opening, checked}
use Rattle.machine_log.specs.CheckedLaws.{Opened as Opens, opening-passed}
use Rattle.refusals.proofs.LogLaws.{opens-opening, checked-by, follow-stops, length-lines, cut-lines, cut-check}
use Rattle.refusals.specs.LogKept.{lines_before, AsEarlierLines, LogLeaves}
use Rattle.refusals.specs.LogKept as Stated

-- A shorter log asks no more room.
room-less : (a b : ℕ) → a ≤ b → room_for a ≤ room_for b
unfolding room_for
room-less a b h = go (ltb 2048 (a / 26)) refl (ltb 2048 (b / 26)) refl
  where
    go : (s : Bool) → ltb 2048 (a / 26) ≡ s → (t : Bool) → ltb 2048 (b / 26) ≡ t → 80 * pick s 2048 (a / 26) ≤ 80 * pick t 2048 (b / 26)
    go true e true f = omega arith
    go true e false f = omega (arith, ltb-true 2048 (a / 26) e, ltb-false 2048 (b / 26) f)
    go false e true f = omega (arith, ltb-false 2048 (a / 26) e)
    go false e false f = omega arith

module _ (sheet line : List ℕ) (capacity : ℕ) (sets : List ℕ) (number : ℕ) (log m out : List ℕ) where
  abbrev start : List ℕ
  start = Stated.start sheet line capacity sets number log m out

  abbrev set : ℕ → List ℕ
  set = Stated.set sheet line capacity sets number log m out

  abbrev f : Followed
  f = Stated.f sheet line capacity sets number log m out

  abbrev c : Checked
  c = Stated.c sheet line capacity sets number log m out

  module _ (O : Opens sheet line capacity sets number log (length m) (length out)) where
    -- Then it passes them for a log cut behind a line too.
    module _ (k : ℕ) (h : k ≤ line_count log) (l : line_bytes * k ≤ length log) where
      cut-opens : Opens sheet line capacity sets number (take (line_bytes * k) log) (length m) (length out)
      cut-opens =
          let n : length (take (line_bytes * k) log) ≡ line_bytes * k = length-take-le (line_bytes * k) log l in
          let r = room-less (length (take (line_bytes * k) log)) (length log) (omega (arith, n)) in
          let L = O.lends in
          record {
            lends = record { long = L.long; results = omega (arith, r, L.results); some = L.some; most = L.most };
            passed = O.passed;
            all-good = O.all-good;
            well = cut-check log k h l number (λ j a b. passed-each (line_count log) (line_well number log) O.well j a (omega arith));
          }

      cut-checked : checked sheet line capacity sets number (take (line_bytes * k) log) m out
          ≡ by_opening (Ok tt) (followed set (take k (lines_of log)) 1 start []) (width (formula_of sheet)) m out
      unfolding followed_log
      cut-checked =
          checked-by sheet line capacity sets number (take (line_bytes * k) log) m out (Ok tt)
          (opens-opening sheet line capacity sets number (take (line_bytes * k) log) (length m) (length out) cut-opens)
          ∙ rw (cut-lines log k h l) refl

    as-earlier : f.line ≢ 0
        → checked sheet line capacity sets number (lines_before c.answer.row log) m out ≡ checks (answers 0 0 c.answer.count c.answer.width) c.mem c.out
    unfolding by_opening told
    as-earlier n =
        let S = follow-stops set (lines_of log) 1 start [] n in
        let i : f.line - 1 ≡ S.at = omega (arith, S.line) in
        let w = length-lines log in
        ap (λ (k : ℕ). checked sheet line capacity sets number (take (line_bytes * k) log) m out) i
        ∙ cut-checked S.at (omega (arith, S.within, w)) (omega (arith, S.within, w))
        ∙ ap (λ (g : Followed). by_opening (Ok tt) g (width (formula_of sheet)) m out) S.before

  keeps-by : (v : Verdict) → opening sheet line capacity sets number log (length m) (length out) ≡ v → (checked sheet line capacity sets number log m out).answer.refusal ≢ 0
      → LogLeaves m out (checked sheet line capacity sets number log m out) ⊎ AsEarlierLines sheet line capacity sets number log m out
  unfolding by_opening told followed_log
  keeps-by (Err why) e n = inl (rw (checked-by sheet line capacity sets number log m out (Err why) e) (refl, refl, refl, refl))
  keeps-by (Ok _) e n = go (eqb f.line 0) refl
    where
      i : checked sheet line capacity sets number log m out ≡ c
      i = checked-by sheet line capacity sets number log m out (Ok tt) e

      go : (b : Bool) → eqb f.line 0 ≡ b
          → LogLeaves m out (checked sheet line capacity sets number log m out) ⊎ AsEarlierLines sheet line capacity sets number log m out
      go true b = absurd (n (rw (i, b) refl))
      go false b =
          let O = opening-passed sheet line capacity sets number log (length m) (length out) e in
          inr (rw (i, b) refl, rw i (as-earlier O (eqb-false f.line 0 b)))

  pub log-keeps : (checked sheet line capacity sets number log m out).answer.refusal ≢ 0
      → LogLeaves m out (checked sheet line capacity sets number log m out) ⊎ AsEarlierLines sheet line capacity sets number log m out
  log-keeps = keeps-by (opening sheet line capacity sets number log (length m) (length out)) refl
