-- Laws of the log checker's definitions (machine_log/specs): when its tests before following pass, a log followed line by line, and the lines of a log cut behind
-- one of them. Assumes nothing.
use Rattle.std.specs.Prelude.{ℕ, zero, suc, ◌+◌, ◌-◌, ◌*◌, ◌≤◌, ◌<◌, ◌≡◌, refl, true, ◌&&◌, ◌≢◌, length, get_or, take, drop, Ok}
use Rattle.std.proofs.Math.Path.{sym, ap}
use Rattle.std.proofs.Common.{◌∙◌, arith, le-leb, length-drop, take-append-drop, length-take-le, get_or-take}
use mathlib.Core.List.{List, [], ◌∷◌, ◌++◌}
use Rattle.std.proofs.Math.Decide.{ℕ_discrete}
use Rattle.std.proofs.Math.Dec.{leb}
use Rattle.std.proofs.lemmas.List.{take-append-le, drop-append-le}
use Rattle.formula.specs.Results.{Verdict}
use Rattle.formula.specs.Tree.{formula_of}
use Rattle.formula.specs.Widths.{width}
use Rattle.formula.specs.Tests.{after_check}
use Rattle.formula.proofs.TestLaws.{each-passed}
use Rattle.machine_log.specs.declared.lines.Line.{Line}
use Rattle.machine_log.specs.declared.lines.Line.TheVariants.{Malformed}
use Rattle.machine_log.specs.Lines.{line_bytes, most_lines, line_of, lines_in, line_count, lines_of, listed, line_well, log_check}
use Rattle.machine_log.specs.Follow.{called, given, Followed, followed_to, followed}
use Rattle.machine_log.specs.FollowLaws.{followed-next, followed-refused, followed-over}
use Rattle.machine_log.specs.Checked.{behind, opening, followed_log, by_opening, checked}
use Rattle.machine_log.specs.CheckedLaws.{Opened as Opens}

-- ---- the tests before a log is followed
-- They pass where what passing says holds; the other way is machine_log/specs/CheckedLaws `opening-passed`.
pub opens-opening : (sheet line : List ℕ) (capacity : ℕ) (sets : List ℕ) (number : ℕ) (log : List ℕ) (memBytes out_bytes : ℕ)
    → Opens sheet line capacity sets number log memBytes out_bytes → opening sheet line capacity sets number log memBytes out_bytes ≡ Ok tt
unfolding opening behind after_check
opens-opening sheet line capacity sets number log memBytes out_bytes O =
    let L = O.lends in
    rw (le-leb _ _ L.long, le-leb _ _ L.results, le-leb _ _ L.some, le-leb _ _ L.most, O.passed, O.all-good, O.well) refl

-- A check by what its tests before following say.
pub checked-by : (sheet line : List ℕ) (capacity : ℕ) (sets : List ℕ) (number : ℕ) (log m out : List ℕ) (v : Verdict)
    → opening sheet line capacity sets number log (length m) (length out) ≡ v
    → checked sheet line capacity sets number log m out ≡ by_opening v (followed_log sheet line capacity sets number log m) (width (formula_of sheet)) m out
unfolding checked
checked-by sheet line capacity sets number log m out v e = rw e refl

-- ---- a log followed line by line
module _ (set : ℕ → List ℕ) where
  -- The machine and the results behind an accepted line.
  abbrev mem-behind : Line → List ℕ → List ℕ
  mem-behind l m = (called set l m).mem

  abbrev results-behind : Line → List ℕ → List (List ℕ) → List (List ℕ)
  results-behind l m results = results ++ given l (called set l m)

  -- Lines that are all accepted, then others.
  pub follow-then : (a b : List Line) (j : ℕ) (m : List ℕ) (results : List (List ℕ)) → 1 ≤ j → (followed set a j m results).line ≡ 0
      → followed set (a ++ b) j m results ≡ followed set b (j + length a) (followed set a j m results).mem (followed set a j m results).results
  follow-then [] b j m results p h = let z : j + 0 ≡ j = omega arith in rw (z, followed-over set j m results) refl
  follow-then (l ∷ a) b j m results p h =
      go (ℕ_discrete (called set l m).answer.refusal 0) (follow-then a b (suc j) (mem-behind l m) (results-behind l m results) (omega arith))
    where
      f : Followed
      f = followed set a (suc j) (mem-behind l m) (results-behind l m results)

      go : Dec ((called set l m).answer.refusal ≡ 0)
          → (f.line ≡ 0 → followed set (a ++ b) (suc j) (mem-behind l m) (results-behind l m results) ≡ followed set b (suc j + length a) f.mem f.results)
          → followed set (l ∷ (a ++ b)) j m results ≡ followed set b (j + suc (length a)) (followed set (l ∷ a) j m results).mem (followed set (l ∷ a) j m results).results
      go (yes e) ih =
          let i = followed-next set l a j m results e in
          let z : suc j + length a ≡ j + suc (length a) = omega arith in
          followed-next set l (a ++ b) j m results e ∙ ih (sym (ap (λ (w : Followed). w.line) i) ∙ h) ∙ rw (z, i) refl
      go (no n) ih = absurd (omega (arith, ap (λ (w : Followed). w.line) (followed-refused set l a j m results n)))

  -- Where no line is refused, each is accepted by the machine as the lines before it made it.
  pub each-accepted : (lines : List Line) (j : ℕ) (m : List ℕ) (results : List (List ℕ)) → 1 ≤ j → (followed set lines j m results).line ≡ 0
      → (i : ℕ) → i < length lines → (called set (get_or lines i Malformed) (followed set (take i lines) j m results).mem).answer.refusal ≡ 0
  each-accepted [] j m results p h i k = absurd (omega arith)
  each-accepted (l ∷ lines) j m results p h i k =
      go (ℕ_discrete (called set l m).answer.refusal 0) i k (each-accepted lines (suc j) (mem-behind l m) (results-behind l m results) (omega arith))
    where
      Rest : Type 0
      Rest = (followed set lines (suc j) (mem-behind l m) (results-behind l m results)).line ≡ 0
          → (i : ℕ) → i < length lines
          → (called set (get_or lines i Malformed) (followed set (take i lines) (suc j) (mem-behind l m) (results-behind l m results)).mem).answer.refusal ≡ 0

      go : Dec ((called set l m).answer.refusal ≡ 0) → (i : ℕ) → i < suc (length lines) → Rest
          → (called set (get_or (l ∷ lines) i Malformed) (followed set (take i (l ∷ lines)) j m results).mem).answer.refusal ≡ 0
      go (yes e) zero k ih = rw (followed-over set j m results) e
      go (yes e) (suc i) k ih =
          rw (followed-next set l (take i lines) j m results e) (ih (sym (ap (λ (w : Followed). w.line) (followed-next set l lines j m results e)) ∙ h) i (omega arith))
      go (no n) i k ih = absurd (omega (arith, ap (λ (w : Followed). w.line) (followed-refused set l lines j m results n)))

  -- Where a line is refused: the lines before it are accepted and leave the machine and the results, and the machine refuses the line as they left it.
  pub record Stops (lines : List Line) (j : ℕ) (m : List ℕ) (results : List (List ℕ)) (f : Followed) : Type 0 where
    pub at : ℕ
    pub within : at < length lines
    pub line : f.line ≡ j + at
    pub before : followed set (take at lines) j m results ≡ followed_to 0 f.mem f.results
    pub refused : (called set (get_or lines at Malformed) f.mem).answer.refusal ≢ 0

  pub follow-stops : (lines : List Line) (j : ℕ) (m : List ℕ) (results : List (List ℕ)) → (followed set lines j m results).line ≢ 0
      → Stops lines j m results (followed set lines j m results)
  follow-stops [] j m results h = absurd (h (ap (λ (w : Followed). w.line) (followed-over set j m results)))
  follow-stops (l ∷ lines) j m results h =
      go (ℕ_discrete (called set l m).answer.refusal 0) (follow-stops lines (suc j) (mem-behind l m) (results-behind l m results))
    where
      f : Followed
      f = followed set lines (suc j) (mem-behind l m) (results-behind l m results)

      go : Dec ((called set l m).answer.refusal ≡ 0) → (f.line ≢ 0 → Stops lines (suc j) (mem-behind l m) (results-behind l m results) f)
          → Stops (l ∷ lines) j m results (followed set (l ∷ lines) j m results)
      go (yes e) ih =
          let i = followed-next set l lines j m results e in
          let S = ih (λ z. h (ap (λ (w : Followed). w.line) i ∙ z)) in
          rw i
          (record {
            at = suc S.at;
            within = omega (arith, S.within);
            line = omega (arith, S.line);
            before = followed-next set l (take S.at lines) j m results e ∙ S.before;
            refused = S.refused;
          })
      go (no n) ih =
          let z : j ≡ j + 0 = omega arith in
          rw (followed-refused set l lines j m results n)
          (record { at = 0; within = omega arith; line = z; before = followed-over set j m results; refused = n })

-- ---- the lines of a log
length-in : (n : ℕ) (log : List ℕ) → length (lines_in n log) ≡ n
unfolding lines_in
length-in zero log = refl
length-in (suc n) log = ap suc (length-in n (drop line_bytes log))

pub length-lines : (log : List ℕ) → length (lines_of log) ≡ line_count log
unfolding lines_of
length-lines log = length-in (line_count log) log

-- The first lines are those of the first bytes, and the first of more lines.
lines-front : (k : ℕ) (a b : List ℕ) → length a ≡ line_bytes * k → lines_in k (a ++ b) ≡ lines_in k a
unfolding lines_in
lines-front zero a b h = refl
lines-front (suc k) a b h =
    let n : line_bytes ≤ length a = omega arith in
    rw (take-append-le line_bytes a b n, drop-append-le line_bytes a b n, lines-front k (drop line_bytes a) b (omega (arith, length-drop line_bytes a))) refl

lines-first : (k n : ℕ) (log : List ℕ) → k ≤ n → lines_in k log ≡ take k (lines_in n log)
unfolding lines_in
lines-first zero n log h = refl
lines-first (suc k) zero log h = absurd (omega arith)
lines-first (suc k) (suc n) log h = ap (λ (w : List Line). line_of (take line_bytes log) ∷ w) (lines-first k n (drop line_bytes log) (omega arith))

-- A log cut behind line k.
module _ (log : List ℕ) (k : ℕ) (h : k ≤ line_count log) (whole-lines : line_bytes * k ≤ length log) where
  abbrev cut-behind : List ℕ
  cut-behind = take (line_bytes * k) log

  cut-length : length cut-behind ≡ line_bytes * k
  cut-length = length-take-le (line_bytes * k) log whole-lines

  cut-count : line_count cut-behind ≡ k
  cut-count = omega (arith, cut-length)

  pub cut-lines : lines_of cut-behind ≡ take k (lines_of log)
  unfolding lines_of
  cut-lines =
      ap (λ (n : ℕ). lines_in n cut-behind) cut-count
      ∙ sym (lines-front k cut-behind (drop (line_bytes * k) log) cut-length)
      ∙ ap (lines_in k) (take-append-drop (line_bytes * k) log)
      ∙ lines-first k (line_count log) log h

  -- Its lines are as well as they were.
  pub cut-check : (number : ℕ) → ((j : ℕ) → 1 ≤ j → j ≤ k → line_well number log j ≡ true) → log_check number cut-behind ≡ Ok tt
  unfolding line_well
  cut-check number well =
      each-passed (line_count cut-behind) (line_well number cut-behind)
      (λ j a b.
      let c : j ≤ k = omega (arith, cut-count) in
      ap (λ (ls : List Line). leb j most_lines && listed number (get_or ls (j - 1) Malformed)) cut-lines
      ∙ ap (λ (l : Line). leb j most_lines && listed number l) (get_or-take k (lines_of log) (j - 1) Malformed (omega arith))
      ∙ well j a c)
