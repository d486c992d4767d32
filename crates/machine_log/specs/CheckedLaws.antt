-- The log checker test by test, as the code makes them, and what it comes to behind them: a machine that is started and a log that can be followed. Assumes nothing.
use Rattle.std.specs.Prelude.{ℕ, ◌+◌, ◌*◌, ◌≤◌, ◌<◌, ◌≡◌, Bool, ◌&&◌, List, [], eqb, Result, Ok, Err}
use Rattle.std.proofs.Math.Path.{refl, sym, ap, subst}
use Rattle.std.proofs.Common.{◌∙◌, arith}
use Rattle.std.proofs.Math.Bool.{true, false}
use Rattle.std.proofs.Math.Decide.{dec_lt}
use borrow.Author.Tests.{le-leb, lt-leb}
use Rattle.std.proofs.Math.Dec.{leb}
use Rattle.std.proofs.Math.ListN.{length, take, length-take}
use Rattle.value.specs.Operators.{pick}
use Rattle.formula.specs.declared.Refused.{Refused}
use Rattle.formula.specs.Results.{Check, Verdict, refused}
use Rattle.formula.proofs.Results.{same-row}
use Rattle.formula.specs.declared.Figures.{Figures}
use Rattle.formula.specs.declared.Refusal.{Refusal}
use Rattle.formula.specs.declared.Refusal.TheVariants.{Memory, Capacity, Set, LogLine, LogRefused}
use Rattle.formula.specs.Refusals.{number_of}
use Rattle.formula.specs.Tree.{formula_of}
use Rattle.formula.specs.Widths.{width}
use Rattle.formula.specs.Free.{inputs_of}
use Rattle.formula.specs.Faults.{letters_of}
use Rattle.formula.specs.Tests.{whole, after_check, verdict_of, figures_of, reading_of}
use Rattle.formula.specs.Acceptance.{Modest}
use Rattle.formula.proofs.Acceptance.{low-row, reading-passed, accepted-passed, accepted-figures, passed-kinded}
use Rattle.sheet_read.proofs.FigureLaws.{answer-modest}
use Rattle.machine_layout.specs.Layout.{size_of, need, capacity_in}
use Rattle.machine_start.specs.Start.{started}
use Rattle.machine_start.specs.StartLaws.{capacity-in, start-accepts, accepted-start}
use Rattle.machine_start.specs.Letters.{letters-lent}
use Rattle.machine_start.specs.Untaken.{started-untaken}
use Rattle.machine_log.specs.declared.LogAnswer.{LogAnswer}
use Rattle.machine_log.specs.declared.lines.Line.{Line}
use Rattle.machine_log.specs.declared.lines.Line.TheVariants.{Push, Fire, Take, Malformed}
use Rattle.machine_log.specs.declared.follow.Progress.{Progress}
use Rattle.machine_log.specs.Lines.{most_lines, line_at, lines_of, listed, log_check}
use Rattle.machine_log.specs.LineLaws.{passed-few, passed-listed, fault-low}
use Rattle.machine_log.specs.Follow.{Followed, followed}
use Rattle.machine_log.specs.Checked.{set_list, set_in, all_sets, room_for, checks, answers, width_of, behind, opening, followed_log, told, by_opening, checked}
use Rattle.machine_log.specs.SetLaws.{set_at, set-in, set-lent}
use Rattle.machine_log.specs.Steps.{Lies}
use Rattle.machine_log.specs.FollowLaws.{Followable, Follows, push-listed, followed_same}

-- A refusal whose row is 0, one of a sheet's or one of a log's.
abbrev Low : Verdict → Type 0
Low v = (r : Refusal) (row : ℕ) → v ≡ refused r row → row ≤ most_lines + 1

low-zero : (k : Refusal) → Low (refused k 0)
low-zero k r row e = let i : 0 ≡ row = same-row _ _ _ _ e in omega arith

low-passed : {A B : Type 0} → A → B → Low (Ok tt)
low-passed a b r row e = absurd (let z : ◌≡◌ {A = ℕ} 0 1 = cc e in omega arith)

-- ---- 11 and 14

abbrev pub lent_verdict : ℕ → ℕ → ℕ → ℕ → Verdict
lent_verdict capacity bytes lent room =
    after_check Memory (whole (leb (need (size_of (capacity_in capacity))) lent))
    (after_check Memory (whole (leb (room_for bytes) room)) (after_check Capacity (whole (leb 1 capacity && leb capacity 16)) (Ok tt)))

-- What passing them says.
pub record Lends (capacity bytes lent room : ℕ) : Type 0 where
  pub long : need (size_of (capacity_in capacity)) ≤ lent
  pub results : room_for bytes ≤ room
  pub some : 1 ≤ capacity
  pub most : capacity ≤ 16

module _ (capacity bytes lent room : ℕ) where
  abbrev lends : Verdict
  lends = lent_verdict capacity bytes lent room

  abbrev needed : ℕ
  needed = need (size_of (capacity_in capacity))

  pub lent-memory : lent < needed → lends ≡ refused Memory 0
  unfolding after_check
  lent-memory h = rw (lt-leb needed lent h) refl

  module _ (a : needed ≤ lent) where
    pub lent-room : room < room_for bytes → lends ≡ refused Memory 0
    unfolding after_check
    lent-room h = rw (le-leb needed lent a, lt-leb (room_for bytes) room h) refl

    module _ (b : room_for bytes ≤ room) where
      pub lent_below : capacity < 1 → lends ≡ refused Capacity 0
      unfolding after_check
      lent_below h = rw (le-leb needed lent a, le-leb (room_for bytes) room b, lt-leb 1 capacity h) refl

      pub lent-above : 16 < capacity → lends ≡ refused Capacity 0
      unfolding after_check
      lent-above h = rw (le-leb needed lent a, le-leb (room_for bytes) room b, le-leb 1 capacity (omega arith), lt-leb capacity 16 h) refl

      pub lent-passes : 1 ≤ capacity → capacity ≤ 16 → lends ≡ Ok tt
      unfolding after_check
      lent-passes c d = rw (le-leb needed lent a, le-leb (room_for bytes) room b, le-leb 1 capacity c, le-leb capacity 16 d) refl

  lent_by : (P : Verdict → Type 0) → P (refused Memory 0) → P (refused Capacity 0) → (Lends capacity bytes lent room → P (Ok tt)) → P lends
  lent_by P p q s = go (dec_lt lent needed) (dec_lt room (room_for bytes)) (dec_lt capacity 1) (dec_lt 16 capacity)
    where
      go : Dec (lent < needed) → Dec (room < room_for bytes) → Dec (capacity < 1) → Dec (16 < capacity) → P lends
      go (yes a) b c d = subst P (sym (lent-memory a)) p
      go (no a) (yes b) c d = subst P (sym (lent-room (omega arith) b)) p
      go (no a) (no b) (yes c) d = subst P (sym (lent_below (omega arith) (omega arith) c)) q
      go (no a) (no b) (no c) (yes d) = subst P (sym (lent-above (omega arith) (omega arith) d)) q
      go (no a) (no b) (no c) (no d) =
          subst P (sym (lent-passes (omega arith) (omega arith) (omega arith) (omega arith)))
          (s (record { long = omega arith; results = omega arith; some = omega arith; most = omega arith }))

  lent_row : Low lends
  lent_row = lent_by Low (low-zero Memory) (low-zero Capacity) (λ s r row e. absurd (let z : ◌≡◌ {A = ℕ} 0 1 = cc e in omega arith))

  lent-passed : lends ≡ Ok tt → Lends capacity bytes lent room
  lent-passed =
      lent_by (λ v. v ≡ Ok tt → Lends capacity bytes lent room) (λ e. absurd (let z : ◌≡◌ {A = ℕ} 0 1 = cc e in omega arith))
      (λ e. absurd (let z : ◌≡◌ {A = ℕ} 0 1 = cc e in omega arith)) (λ s e. s)

-- ---- 12 and 15

abbrev pub log_verdict : List ℕ → List ℕ → ℕ → List ℕ → Verdict
log_verdict kinds sets number log = after_check Set (whole (all_sets kinds (set_list kinds sets number))) (after_check LogLine (log_check number log) (Ok tt))

module _ (kinds sets : List ℕ) (number : ℕ) (log : List ℕ) where
  abbrev good : Bool
  good = all_sets kinds (set_list kinds sets number)

  pub log-no-set : good ≡ false → log_verdict kinds sets number log ≡ refused Set 0
  unfolding after_check
  log-no-set e = rw e refl

  pub log-fault : good ≡ true → (j : ℕ) → log_check number log ≡ Err j → log_verdict kinds sets number log ≡ refused LogLine j
  unfolding after_check
  log-fault e j f = rw (e, f) refl

  pub log-passes : good ≡ true → log_check number log ≡ Ok tt → log_verdict kinds sets number log ≡ Ok tt
  unfolding after_check
  log-passes e f = rw (e, f) refl

  log-by : (P : Verdict → Type 0) → P (refused Set 0) → ((j : ℕ) → log_check number log ≡ Err j → P (refused LogLine j)) → (good ≡ true → log_check number log ≡ Ok tt → P (Ok tt))
      → P (log_verdict kinds sets number log)
  unfolding after_check
  log-by P a b c = go good refl (log_check number log) refl
    where
      go : (g : Bool) → good ≡ g → (k : Check) → log_check number log ≡ k → P (after_check Set (whole g) (after_check LogLine k (Ok tt)))
      go false e k f = a
      go true e (Err j) f = b j f
      go true e (Ok _) f = c e f

-- ---- an accepted sheet

module _ (s line : List ℕ) where
  few : verdict_of s line ≡ Ok tt → Modest (figures_of s)
  few e = answer-modest s line (figures_of s) (reading-passed s line e)

  pub letters-few : verdict_of s line ≡ Ok tt → length (letters_of (formula_of s) line) ≤ 33
  unfolding letters_of figures_of
  letters-few e = omega (arith, length-take (length (inputs_of (formula_of s))) line, (few e).inputs)

  pub width_few : verdict_of s line ≡ Ok tt → width (formula_of s) ≤ 16
  unfolding figures_of
  width_few e = (few e).results

  -- what the code takes from the reading
  module _ (f : Figures) (e : reading_of s line ≡ Ok f) where
    passed : verdict_of s line ≡ Ok tt
    passed = accepted-passed s line f e

    pub letters-read : take f.inputs line ≡ letters_of (formula_of s) line
    unfolding letters_of figures_of
    letters-read = ap (λ (g : Figures). take g.inputs line) (accepted-figures s line f e)

    pub width_read : f.results ≡ width (formula_of s)
    unfolding figures_of
    width_read = ap (λ (g : Figures). g.results) (accepted-figures s line f e)

    pub inputs_in_lem : f.inputs ≤ length line
    unfolding figures_of
    inputs_in_lem = subst (λ (g : Figures). g.inputs ≤ length line) (sym (accepted-figures s line f e)) (letters-lent s line (passed-kinded s line passed))

    pub inputs-few : length (take f.inputs line) < 256
    inputs-few = omega (arith, ap length letters-read, letters-few passed)

-- ---- all tests

-- What the code's tests say, by their verdict.
abbrev pub opened_by : Verdict → ℕ → ℕ → Result (ℕ × ℕ) Refused
opened_by (Ok _) inputs wide = Ok (inputs, wide)
opened_by (Err why) inputs wide = Err why

pub opened-refused : (v : Verdict) (i w : ℕ) (r : Refusal) (row : ℕ) → refused r row ≡ opened_by v i w → v ≡ refused r row
opened-refused (Ok _) i w r row e = absurd (let z : ◌≡◌ {A = ℕ} 0 1 = cc e in omega arith)
opened-refused (Err why) i w r row e = cc e

pub opened-passed : (v : Verdict) (i w inputs wide : ℕ) → Ok (inputs, wide) ≡ opened_by v i w → (v ≡ Ok tt) × (inputs ≡ i) × (wide ≡ w)
opened-passed (Ok _) i w inputs wide e = let p : ◌≡◌ {A = ℕ × ℕ} (inputs, wide) (i, w) = cc e in (refl, ap (λ (z : ℕ × ℕ). z.0) p, ap (λ (z : ℕ × ℕ). z.1) p)
opened-passed (Err why) i w inputs wide e = absurd (let z : ◌≡◌ {A = ℕ} 0 1 = cc e in omega arith)

module _ (sheet line : List ℕ) (capacity : ℕ) (sets : List ℕ) (number : ℕ) (log : List ℕ) (lent room : ℕ) where
  abbrev opens : Verdict
  opens = opening sheet line capacity sets number log lent room

  abbrev kinds : List ℕ
  kinds = letters_of (formula_of sheet) line

  opening-is : opens ≡ behind (lent_verdict capacity (length log) lent room) (behind (verdict_of sheet line) (log_verdict kinds sets number log))
  unfolding opening behind after_check
  opening-is = go (leb (need (size_of (capacity_in capacity))) lent) (leb (room_for (length log)) room) (leb 1 capacity && leb capacity 16)
    where
      later : Verdict
      later = behind (verdict_of sheet line) (log_verdict kinds sets number log)

      go : (a b c : Bool) → after_check Memory (whole a) (after_check Memory (whole b) (after_check Capacity (whole c) later))
          ≡ behind (after_check Memory (whole a) (after_check Memory (whole b) (after_check Capacity (whole c) (Ok tt)))) later
      go true true true = refl
      go true true false = refl
      go true false c = refl
      go false b c = refl

  pub opening-lent : (r : Refusal) (row : ℕ) → lent_verdict capacity (length log) lent room ≡ refused r row → opens ≡ refused r row
  unfolding behind
  opening-lent r row e = opening-is ∙ rw e refl

  module _ (e : lent_verdict capacity (length log) lent room ≡ Ok tt) where
    pub opening-sheet : (r : Refusal) (row : ℕ) → verdict_of sheet line ≡ refused r row → opens ≡ refused r row
    unfolding behind
    opening-sheet r row f = opening-is ∙ rw (e, f) refl

    pub opening-log : verdict_of sheet line ≡ Ok tt → opens ≡ log_verdict kinds sets number log
    unfolding behind
    opening-log f = opening-is ∙ rw (e, f) refl

  opening-by : (P : Verdict → Type 0) → ((r : Refusal) (row : ℕ) → lent_verdict capacity (length log) lent room ≡ refused r row → P (refused r row))
      → ((r : Refusal) (row : ℕ) → verdict_of sheet line ≡ refused r row → P (refused r row))
      → (lent_verdict capacity (length log) lent room ≡ Ok tt → verdict_of sheet line ≡ Ok tt → P (log_verdict kinds sets number log)) → P opens
  opening-by P p q s = go (lent_verdict capacity (length log) lent room) refl (verdict_of sheet line) refl
    where
      go : (u : Verdict) → lent_verdict capacity (length log) lent room ≡ u → (v : Verdict) → verdict_of sheet line ≡ v → P opens
      go (Err why) e v f = subst P (sym (opening-lent why.refusal why.row e)) (p why.refusal why.row e)
      go (Ok _) e (Err why) f = subst P (sym (opening-sheet e why.refusal why.row f)) (q why.refusal why.row f)
      go (Ok _) e (Ok _) f = subst P (sym (opening-log e f)) (s e f)

  -- A refusal's row fits 32 bits.
  pub opening-row : Low opens
  opening-row =
      opening-by Low (λ k x v r row e. let i : x ≡ row = same-row _ _ _ _ e in omega (arith, lent_row capacity (length log) lent room k x v))
      (λ k x v r row e. let i : x ≡ row = same-row _ _ _ _ e in omega (arith, low-row sheet line k x v))
      (λ e f. log-by kinds sets number log Low (low-zero Set) (λ j g r row z. let i : j ≡ row = same-row _ _ _ _ z in omega (arith, fault-low number log j g)) low-passed)

  -- What passing says.
  pub record Opened : Type 0 where
    pub lends : Lends capacity (length log) lent room
    pub passed : verdict_of sheet line ≡ Ok tt
    pub all-good : all_sets kinds (set_list kinds sets number) ≡ true
    pub well : log_check number log ≡ Ok tt

  abbrev Tells : Verdict → Type 0
  Tells v = v ≡ Ok tt → Opened

  never : (r : Refusal) (row : ℕ) → Tells (refused r row)
  never r row e = absurd (let z : ◌≡◌ {A = ℕ} 0 1 = cc e in omega arith)

  pub opening-passed : opens ≡ Ok tt → Opened
  opening-passed =
      opening-by Tells (λ r row v. never r row) (λ r row v. never r row)
      (λ e f. log-by kinds sets number log Tells (never Set 0) (λ j g. never LogLine j)
      (λ g h z. record { lends = lent-passed capacity (length log) lent room e; passed = f; all-good = g; well = h }))

-- ---- the log followed

-- The answer by how far the log was followed.
abbrev pub told_by : Progress → ℕ → LogAnswer
told_by p w = answers (pick (eqb p.line 0) 0 (number_of LogRefused)) p.line p.count (width_of p.count w)

listed-lies : (kinds sets : List ℕ) (number : ℕ) → all_sets kinds (set_list kinds sets number) ≡ true → (l : Line) → listed number l ≡ true → Lies (5 * length kinds) sets l
listed-lies kinds sets number g (Push n) e = let b = push-listed number n e in (b.0, set-lent kinds sets number n g b.0 b.1)
listed-lies kinds sets number g (Fire i) e = tt
listed-lies kinds sets number g Take e = tt
listed-lies kinds sets number g Malformed e = tt

module _ (sheet line : List ℕ) (capacity : ℕ) (sets : List ℕ) (number : ℕ) (log m out : List ℕ) where
  abbrev input_kinds : List ℕ
  input_kinds = letters_of (formula_of sheet) line

  abbrev begins : List ℕ
  begins = (started sheet line capacity m).mem

  module _ (O : Opened sheet line capacity sets number log (length m) (length out)) where
    pub can-follow : Followable (5 * length input_kinds) sets log begins out
    can-follow =
        let a = start-accepts sheet line capacity m O.passed O.lends.some O.lends.most (omega (arith, O.lends.long, capacity-in capacity O.lends.some O.lends.most)) in
        record {
          few = passed-few number log O.well;
          room = O.lends.results;
          empty = started-untaken sheet line capacity m (accepted-start sheet line capacity m a);
          lie = λ j h. listed-lies input_kinds sets number O.all-good (line_at log j) (passed-listed number log O.well j h);
        }

    -- The lookup in the lent bytes is that of the list.
    pub follows-log : followed (set_at (5 * length input_kinds) sets) (lines_of log) 1 begins [] ≡ followed_log sheet line capacity sets number log m
    unfolding followed_log
    follows-log = followed_same number (set_at (5 * length input_kinds) sets) (set_in (set_list input_kinds sets number)) (λ n h k. sym (set-in input_kinds sets number n h k)) log O.well begins

  abbrev opensHere : Verdict
  opensHere = opening sheet line capacity sets number log (length m) (length out)

  pub checked_refused : (r : Refusal) (row : ℕ) → opensHere ≡ refused r row → checks (answers (number_of r) row 0 0) m out ≡ checked sheet line capacity sets number log m out
  unfolding checked by_opening
  checked_refused r row e = rw e refl

  -- What is told and left behind them is the definition's.
  pub checked-passed : opensHere ≡ Ok tt → (f : Followed) → f ≡ followed_log sheet line capacity sets number log m → (p : Progress) (m' out' : List ℕ) → Follows f out p m' out'
      → (w : ℕ) → w ≡ width (formula_of sheet) → checks (told_by p w) m' out' ≡ checked sheet line capacity sets number log m out
  unfolding checked by_opening told
  checked-passed e f h p m' out' F w wide = rw (F.told, F.machine, F.results, wide, e, h) refl
