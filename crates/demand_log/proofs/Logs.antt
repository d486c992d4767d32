-- WHICH LOGS ARE ACCEPTED (document 02, Job 3), on real memory, for every sheet, kinds line, capacity, list of sets, log, memory and room for results: "It accepts
-- exactly the logs of which every line would have been accepted" (`log-accepted-iff`) and "hands out the results and their count" (`log-results`); 16 comes with the
-- lowest line that the machine would refuse (`log-refused-at`), "leaving machine, results and count as the earlier lines made them" (`log-refused-left`); each
-- result handed out is its own set's verdict (`log-own`); and demand 3 holds of all calls that come after (`log-goes-on`). Assumes nothing.
use Rattle.std.specs.Prelude.{ℕ, zero, suc, ◌+◌, ◌-◌, ◌*◌, ◌≤◌, ◌<◌, ◌≡◌, refl, ◌⊎◌, ◌≢◌, ◌↔◌, get_or, take as first_of}
use Rattle.std.proofs.Common.{sym, ap₂, ◌∙◌, inl, inr, arith, ne_eqb, take-append-drop, take_at, drop_at, drop-drop}
use Rattle.std.proofs.Math.Path.{ap, subst}
use mathlib.Core.List.{List, [], ◌∷◌, ◌++◌, flatten, append_assoc}
use Rattle.std.proofs.Math.Decide.{ℕ_discrete}
use Rattle.std.proofs.Math.ListN.{length, drop, length-map, get_or-append}
use Rattle.std.proofs.Math.Seq.{take-length}
use Rattle.formula.specs.declared.Refusal.TheVariants.{LogRefused}
use Rattle.formula.specs.Refusals.{number_of}
use Rattle.formula.specs.Tree.{formula_of}
use Rattle.formula.specs.Widths.{width}
use Rattle.meaning.specs.Evaluate.{evaluation_of}
use Rattle.machine_start.specs.Start.{started}
use Rattle.machine_log.specs.declared.lines.Line.{Line}
use Rattle.machine_log.specs.Lines.{lines_of}
use Rattle.machine_log.specs.Follow.{Followed, followed}
use Rattle.machine_log.specs.Checked.{Checked, told, by_opening, checked, width_of}
use Rattle.refusals.proofs.LogLaws.{follow-stops}
use Rattle.refusals.specs.LogRows.{set_named}
use Rattle.demand.specs.MemoryCalls.{Call, Result, result, memory_after_all, sets_pushed, results_taken}
use Rattle.demand.proofs.Appended.{memory-append, sets-append, results-append}
use Rattle.demand.specs.Claim.{Enough, Ends, yielded, OwnVerdicts}
use Rattle.demand.proofs.Demand3.{demand-3}
use Rattle.demand_log.specs.LogCalls.{calls_of, set_of_line, sets_of_lines, AllWide, bytes_of, sets_named, AcceptedLog}
use Rattle.demand_log.proofs.LogCalls.{check, RefusedLine, LeftBy, GoesOn}
use Rattle.demand_log.specs.LinesMade.{Listed}
use Rattle.demand_log.proofs.LinesMade.{ToTheEnd, Same}
use Rattle.demand_log.proofs.AnswersTo.{stops_at, stopped-at}
use Rattle.demand_log.proofs.Checks.{lines-listed, first-listed, Followed-log, Not-followed, followed-when, either_way, row_is, accepts, refuses, accepted-ends, refused-stops, start-length, same-from-start}

-- ---- the k-th of some results
-- The width told is that of the results, where there are some.
told-wide : (w : ℕ) (rs : List Result) → AllWide w rs → AllWide (width_of (length rs) w) rs
told-wide w [] h = tt
told-wide w (r ∷ more) h =
    let told : width_of (length (r ∷ more)) w ≡ w = rw (ne_eqb (suc (length more)) 0 (λ e. absurd (omega (arith, e)))) in
    subst (λ (v : ℕ). AllWide v (r ∷ more)) (sym told) h

handed-at : (w : ℕ) (rs : List Result) → AllWide w rs → (rest : List ℕ) (k : ℕ) → k < length rs
    → result w (first_of 80 (drop (80 * k) (flatten (bytes_of rs) ++ rest))) ≡ get_or rs k (result 0 [])
unfolding flatten
handed-at w [] h rest k l = absurd (omega arith)
handed-at w (r ∷ rs) h rest zero l =
    ap (λ (b : List ℕ). result w (first_of 80 b)) (append_assoc r.bytes (flatten (bytes_of rs)) rest)
    ∙ ap₂ result (sym h.0.0) (take_at r.bytes (flatten (bytes_of rs) ++ rest) 80 h.0.1)
handed-at w (r ∷ rs) h rest (suc k) l =
    let z : 80 * suc k ≡ 80 + 80 * k = omega arith in
    let behind : List ℕ = flatten (bytes_of rs) ++ rest in
    ap₂ (λ (n : ℕ) (b : List ℕ). result w (first_of 80 (drop n b))) z (append_assoc r.bytes (flatten (bytes_of rs)) rest)
    ∙ ap (λ (b : List ℕ). result w (first_of 80 b)) (sym (drop-drop (80 * k) 80 (r.bytes ++ behind)) ∙ ap (drop (80 * k)) (drop_at r.bytes behind 80 h.0.1))
    ∙ handed-at w rs h.1 rest k (omega arith)

-- The sets that the first lines name are the first that all name.
sets-of-both : (set : ℕ → List ℕ) (a b : List Line) → sets_of_lines set (a ++ b) ≡ sets_of_lines set a ++ sets_of_lines set b
sets-of-both set [] b = refl
sets-of-both set (l ∷ a) b =
    ap (λ (z : List (List ℕ)). set_of_line set l ++ z) (sets-of-both set a b) ∙ sym (append_assoc (set_of_line set l) (sets_of_lines set a) (sets_of_lines set b))

set-of-first : (set : ℕ → List ℕ) (n : ℕ) (lines : List Line) (j : ℕ) → j < length (sets_of_lines set (first_of n lines))
    → get_or (sets_of_lines set (first_of n lines)) j [] ≡ get_or (sets_of_lines set lines) j []
set-of-first set n lines j l =
    sym (get_or-append (sets_of_lines set (first_of n lines)) (sets_of_lines set (drop n lines)) [] j l)
    ∙ ap (λ (z : List (List ℕ)). get_or z j []) (sym (sets-of-both set (first_of n lines) (drop n lines)) ∙ ap (sets_of_lines set) (take-append-drop n lines))

module _ (sheet line : List ℕ) (capacity : ℕ) (sets : List ℕ) (number : ℕ) (log m out : List ℕ) where
  abbrev c : Checked
  c = checked sheet line capacity sets number log m out

  abbrev lines : List Line
  lines = lines_of log

  abbrev set : ℕ → List ℕ
  set = set_named sheet line sets number

  abbrev start : List ℕ
  start = (started sheet line capacity m).mem

  abbrev f : Followed
  f = followed set lines 1 start []

  abbrev Followed-this : Type 0
  Followed-this = Followed-log sheet line capacity sets number log m out

  abbrev Left : List Line → Type 0
  Left done = LeftBy sheet line capacity sets number log m out done

  not-refused : c.answer.refusal ≡ 0 → Followed-this
  not-refused e = go (either_way sheet line capacity sets number log m out)
    where
      go : Followed-this ⊎ Not-followed sheet line capacity sets number log m out → Followed-this
      go (inl F) = F
      go (inr N) = absurd (N.refused e)

  not-before : c.answer.refusal ≡ number_of LogRefused → Followed-this
  not-before e = go (either_way sheet line capacity sets number log m out)
    where
      go : Followed-this ⊎ Not-followed sheet line capacity sets number log m out → Followed-this
      go (inl F) = F
      go (inr N) = absurd (N.before e)

  -- ---- by the lines followed
  module _ (F : Followed-this) where
    all_listed : Listed number lines
    all_listed = lines-listed number log F.lines

    same : Same set (width (formula_of sheet)) lines (calls_of set (length m) lines) start [] f
    same = same-from-start sheet line capacity sets number m F.opened.starts lines all_listed

    left_by : (done : List Line) → ToTheEnd set (width (formula_of sheet)) done (calls_of set (length m) done) start [] f.mem f.results → Left done
    unfolding by_opening told
    left_by done E =
        let rs : List Result = results_taken (calls_of set (length m) done) start in
        let n : length (bytes_of rs) ≡ length rs = length-map rs (λ (r : Result). r.bytes) in
        record {
          machine = ap (λ (k : Checked). k.mem) F.whole ∙ E.memory;
          written =
              ap (λ (k : Checked). k.out) F.whole
              ∙ ap (λ (b : List (List ℕ)). flatten b ++ drop (80 * length b) out) E.handed
              ∙ ap (λ (k : ℕ). flatten (bytes_of rs) ++ drop (80 * k) out) n;
          counted = ap (λ (k : Checked). k.answer.count) F.whole ∙ ap length E.handed ∙ n;
          wide =
              subst (λ (w : ℕ). AllWide w rs)
              (sym
              (ap (λ (k : Checked). k.answer.width) F.whole
              ∙ ap (λ (b : List (List ℕ)). width_of (length b) (width (formula_of sheet))) E.handed
              ∙ ap (λ (k : ℕ). width_of k (width (formula_of sheet))) n))
              (told-wide (width (formula_of sheet)) rs E.wide);
          pushed = E.pushes;
        }

    left-all : f.line ≡ 0 → Left lines
    left-all z = left_by lines (same.ends z)

    left-before : f.line ≢ 0 → Left (first_of (c.answer.row - 1) lines)
    left-before n =
        let S = follow-stops set lines 1 start [] n in
        let r : c.answer.row - 1 ≡ S.at = omega (arith, row_is sheet line capacity sets number log m out F, S.line) in
        let E = (same-from-start sheet line capacity sets number m F.opened.starts (first_of S.at lines) (first-listed number S.at lines (omega (arith, S.within)) all_listed)
        ).ends (ap (λ (w : Followed). w.line) S.before) in
        rw r (left_by (first_of S.at lines) (rw S.before at E))

  -- ---- accepted
  -- "It accepts exactly the logs of which every line would have been accepted."
  pub log-accepted-iff : ((check sheet line capacity sets number log m out).answer.refusal ≡ 0) ↔ AcceptedLog sheet line capacity sets number log m out
  log-accepted-iff = (
    λ e.
        let F = not-refused e in
        record { opened = F.opened; lines = F.lines; accepted = (same F).accepted (accepted-ends sheet line capacity sets number log m out F e) },
    λ A.
        let F = followed-when sheet line capacity sets number log m out A.opened A.lines in
        accepts sheet line capacity sets number log m out F ((same F).follows A.accepted),
  )

  -- "hands out the results and their count"
  pub log-results : (check sheet line capacity sets number log m out).answer.refusal ≡ 0 → LeftBy sheet line capacity sets number log m out (lines_of log)
  log-results e = let F = not-refused e in left-all F (accepted-ends sheet line capacity sets number log m out F e)

  -- ---- refused with 16
  -- "16 when the machine would refuse the line, .. the lowest such line"
  pub log-refused-at : (j : ℕ)
      → (((check sheet line capacity sets number log m out).answer.refusal ≡ number_of LogRefused) × ((check sheet line capacity sets number log m out).answer.row ≡ j))
      ↔ RefusedLine sheet line capacity sets number log m out j
  log-refused-at j = (to, from)
    where
      to : (c.answer.refusal ≡ number_of LogRefused) × (c.answer.row ≡ j) → RefusedLine sheet line capacity sets number log m out j
      to (e, r) =
          let F = not-before e in
          let n = refused-stops sheet line capacity sets number log m out F e in
          let i = row_is sheet line capacity sets number log m out F in
          let p : 1 ≤ j = omega arith in
          let R = stopped-at set (length m) number lines (all_listed F) start (start-length sheet line capacity sets number m F.opened.starts) (j - 1) (omega (arith, i, r)) in
          record {
            opened = F.opened;
            lines = F.lines;
            first = p;
            before = λ i a b. R.before (i - 1) (omega arith);
            refused = R.refused;
          }

      from : RefusedLine sheet line capacity sets number log m out j → (c.answer.refusal ≡ number_of LogRefused) × (c.answer.row ≡ j)
      from R =
          let F = followed-when sheet line capacity sets number log m out R.opened R.lines in
          let s : f.line ≡ suc (j - 1) =
          stops_at set (length m) number lines (all_listed F) start (start-length sheet line capacity sets number m F.opened.starts) (j - 1)
          (λ i l. let z : suc i - 1 ≡ i = omega arith in rw z at (R.before (suc i) (omega arith) (omega (arith, R.first)))) R.refused in
          (refuses sheet line capacity sets number log m out F (λ z. omega (arith, s, z)), row_is sheet line capacity sets number log m out F ∙ omega (arith, s, R.first))

  -- "16 leaving machine, results and count as the earlier lines made them"
  pub log-refused-left : (check sheet line capacity sets number log m out).answer.refusal ≡ number_of LogRefused
      → LeftBy sheet line capacity sets number log m out (first_of ((check sheet line capacity sets number log m out).answer.row - 1) (lines_of log))
  log-refused-left e = let F = not-before e in left-before F (refused-stops sheet line capacity sets number log m out F e)

  -- ---- each result is its own set's verdict
  -- After some of the first lines.
  module _ (starts : (started sheet line capacity m).answer.refusal ≡ 0) (n : ℕ) (L : Left (first_of n lines)) where
    abbrev made : List Call
    made = calls_of set (length m) (first_of n lines)

    D : OwnVerdicts sheet line capacity start made
    D = demand-3 sheet line capacity m starts made

    pushed_at : (j : ℕ) → j < length (results_taken made start) → get_or (sets_pushed made start) j [] ≡ get_or (sets_of_lines set lines) j []
    pushed_at j l =
        ap (λ (z : List (List ℕ)). get_or z j []) L.pushed
        ∙ set-of-first set n lines j (omega (arith, l, D.none-invented, ap (λ (z : List (List ℕ)). length z) L.pushed))

    own-left : (k : ℕ) → k < c.answer.count → ((j : ℕ) → j ≤ k → Ends sheet line (get_or (sets_of_lines set lines) j []))
        → (rounds : ℕ) → Enough sheet line (get_or (sets_of_lines set lines) k []) rounds
        → result c.answer.width (first_of 80 (drop (80 * k) c.out)) ≡ yielded (evaluation_of sheet line (get_or (sets_of_lines set lines) k []) rounds)
    own-left k l ends rounds enough =
        let i : k < length (results_taken made start) = omega (arith, L.counted) in
        ap (λ (b : List ℕ). result c.answer.width (first_of 80 (drop (80 * k) b))) L.written
        ∙ handed-at c.answer.width (results_taken made start) L.wide _ k i
        ∙ D.own k i (λ j p. subst (Ends sheet line) (sym (pushed_at j (omega arith))) (ends j p)) rounds
        (subst (λ (s : List ℕ). Enough sheet line s rounds) (sym (pushed_at k i)) enough)
        ∙ ap (λ (s : List ℕ). yielded (evaluation_of sheet line s rounds)) (pushed_at k i)

  -- Of every check, accepted or not: if direct evaluation of each of the first k + 1 sets that push lines name ends, the k-th result handed out, counted from 0, is
  -- exactly what it yields for the k-th.
  pub log-own : (k : ℕ) → k < (check sheet line capacity sets number log m out).answer.count
      → ((j : ℕ) → j ≤ k → Ends sheet line (get_or (sets_named sheet line sets number (lines_of log)) j []))
      → (rounds : ℕ) → Enough sheet line (get_or (sets_named sheet line sets number (lines_of log)) k []) rounds
      → result (check sheet line capacity sets number log m out).answer.width (first_of 80 (drop (80 * k) (check sheet line capacity sets number log m out).out))
      ≡ yielded (evaluation_of sheet line (get_or (sets_named sheet line sets number (lines_of log)) k []) rounds)
  log-own k l = go (either_way sheet line capacity sets number log m out)
    where
      Own : Type 0
      Own = ((j : ℕ) → j ≤ k → Ends sheet line (get_or (sets_of_lines set lines) j []))
          → (rounds : ℕ) → Enough sheet line (get_or (sets_of_lines set lines) k []) rounds
          → result c.answer.width (first_of 80 (drop (80 * k) c.out)) ≡ yielded (evaluation_of sheet line (get_or (sets_of_lines set lines) k []) rounds)

      way : (F : Followed-this) → Dec (f.line ≡ 0) → Own
      way F (yes z) = own-left F.opened.starts (length lines) (rw (take-length lines) (left-all F z)) k l
      way F (no n) = own-left F.opened.starts (c.answer.row - 1) (left-before F n) k l

      go : Followed-this ⊎ Not-followed sheet line capacity sets number log m out → Own
      go (inl F) = way F (ℕ_discrete f.line 0)
      go (inr N) = absurd (omega (arith, N.none))

  -- ---- calls that come after
  -- After an accepted check (`log-results`) and after 16 (`log-refused-left`) alike: the machine that a check leaves is one that demand 3 speaks of.
  pub log-goes-on : (started sheet line capacity m).answer.refusal ≡ 0
      → (done : List Line) → LeftBy sheet line capacity sets number log m out done → (more : List Call) → GoesOn sheet line capacity sets number log m out done more
  log-goes-on starts done L more =
      let made : List Call = calls_of set (length m) done in
      record {
        own = demand-3 sheet line capacity m starts (made ++ more);
        machine = memory-append made more start ∙ ap (memory_after_all more) (sym L.machine);
        pushed = sets-append made more start ∙ ap₂ (λ (a : List (List ℕ)) (b : List ℕ). a ++ sets_pushed more b) L.pushed (sym L.machine);
        taken = results-append made more start ∙ ap (λ (b : List ℕ). results_taken made start ++ results_taken more b) (sym L.machine);
      }
