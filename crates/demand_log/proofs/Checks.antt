-- A check by its tests: those before following pass exactly where `Opened` and `NoneAtFault` (LogCalls) hold; then it is accepted exactly where following comes to the
-- end of the log, and refused with 16 where it stops. What it starts from is a machine in which demand 3's laws hold. Assumes nothing.
use Rattle.std.specs.Prelude.{ℕ, suc, ◌-◌, ◌≤◌, ◌≡◌, refl, ◌⊎◌, ◌≢◌, List, [], eqb, leb, get_or, take as first_of, Ok, Err}
use Rattle.std.proofs.Common.{sym, subst, ◌∙◌, arith, eq-eqb, ne_eqb, get_or-take, length-take-le}
use Rattle.std.proofs.Math.Path.{ap}
use Rattle.std.proofs.Math.Logic.{inl, inr}
use Rattle.std.proofs.Math.Decide.{ℕ_discrete}
use Rattle.std.proofs.Math.ListN.{length}
use Rattle.value.specs.Operators.{pick}
use Rattle.formula.specs.declared.Refusal.TheVariants.{LogRefused}
use Rattle.formula.specs.Results.{Verdict, refused as refusing}
use Rattle.formula.specs.Refusals.{number_of}
use Rattle.formula.proofs.Refusals.{number-positive}
use Rattle.formula.specs.Tree.{formula_of}
use Rattle.formula.specs.Widths.{width}
use Rattle.formula.specs.Faults.{letters_of}
use Rattle.formula.proofs.TestLaws.{passed-each, each-passed}
use Rattle.graph.specs.Translation.{made_of}
use Rattle.machine_valid.specs.Below.{and_right}
use Rattle.machine_start.specs.Start.{Begun, started_memory, started}
use Rattle.machine_start.specs.StartLaws.{capacity-in, start-accepts, AcceptedStart, accepted-start}
use Rattle.machine_start.specs.Letters.{letters-count, letters-each}
use Rattle.machine_log.specs.declared.lines.Line.{Line}
use Rattle.machine_log.specs.declared.lines.Line.TheVariants.{Malformed}
use Rattle.machine_log.specs.Lines.{most_lines, line_count, lines_of, listed, line_well}
use Rattle.machine_log.specs.Follow.{Followed, followed}
use Rattle.machine_log.specs.Checked.{Checked, opening, followed_log, told, by_opening, checked}
use Rattle.machine_log.specs.CheckedLaws.{Opened as Opens, opening-passed}
use Rattle.theory_wiring.proofs.MadeGraph.{result_count}
use Rattle.theory_verdicts.specs.Running.{start_of}
use Rattle.theory_verdicts.proofs.Admitting.{accepted-admitted}
use Rattle.demand_begin.proofs.MadeSound.{made-sound}
use Rattle.demand_begin.proofs.StartedStands.{length-started, accepted-stands}
use Rattle.refusals.proofs.LogLaws.{opens-opening, checked-by, length-lines}
use Rattle.refusals.proofs.LogExact.{not-yet-refused}
use Rattle.refusals.specs.LogRows.{set_named}
use Rattle.demand.proofs.Agreed.{calls-agree}
use Rattle.demand_log.specs.LogCalls.{calls_of, Opened, NoneAtFault}
use Rattle.demand_log.specs.LinesMade.{Listed}
use Rattle.demand_log.proofs.LinesMade.{Same, lines-made}

-- ---- 15
-- Where no line is at fault, each is one, and so is each of the first.
pub lines-listed : (number : ℕ) (log : List ℕ) → NoneAtFault number log → Listed number (lines_of log)
unfolding line_well
lines-listed number log h i k =
    let n = length-lines log in
    let z : suc i - 1 ≡ i = omega arith in
    rw z at (and_right (leb (suc i) most_lines) (listed number (get_or (lines_of log) (suc i - 1) Malformed)) (h (suc i) (omega arith) (omega arith)))

pub first-listed : (number n : ℕ) (lines : List Line) → n ≤ length lines → Listed number lines → Listed number (first_of n lines)
first-listed number n lines l h i k =
    let w = length-take-le n lines l in
    ap (listed number) (get_or-take n lines i Malformed (omega arith)) ∙ h i (omega arith)

-- ---- the tests before following
module _ (sheet line : List ℕ) (capacity : ℕ) (sets : List ℕ) (number : ℕ) (log m out : List ℕ) where
  abbrev lets-through : Type 0
  lets-through = Opens sheet line capacity sets number log (length m) (length out)

  opens-opened : lets-through → Opened sheet line capacity sets number log m out × NoneAtFault number log
  opens-opened O =
      let L = O.lends in (
        record {
          starts = start-accepts sheet line capacity m O.passed L.some L.most (omega (arith, L.long, capacity-in capacity L.some L.most));
          roomy = L.results;
          listed = O.all-good;
        },
        passed-each (line_count log) (line_well number log) O.well,
      )

  opened-opens : Opened sheet line capacity sets number log m out → NoneAtFault number log → lets-through
  opened-opens P h =
      let a = accepted-start sheet line capacity m P.starts in
      record {
        lends = record { long = omega (arith, a.long, capacity-in capacity a.some a.most); results = P.roomy; some = a.some; most = a.most };
        passed = a.passed;
        all-good = P.listed;
        well = each-passed (line_count log) (line_well number log) h;
      }

  -- ---- the check
  abbrev c : Checked
  c = checked sheet line capacity sets number log m out

  abbrev f : Followed
  f = followed (set_named sheet line sets number) (lines_of log) 1 (started sheet line capacity m).mem []

  abbrev told-all : Checked
  told-all = by_opening (Ok tt) f (width (formula_of sheet)) m out

  -- A check that has followed the log.
  pub record Followed-log : Type 0 where
    pub opened : Opened sheet line capacity sets number log m out
    pub lines : NoneAtFault number log
    pub whole : c ≡ told-all

  followed-passed : opening sheet line capacity sets number log (length m) (length out) ≡ Ok tt → Followed-log
  unfolding followed_log
  followed-passed e =
      let O = opens-opened (opening-passed sheet line capacity sets number log (length m) (length out) e) in
      record { opened = O.0; lines = O.1; whole = checked-by sheet line capacity sets number log m out (Ok tt) e }

  pub followed-when : Opened sheet line capacity sets number log m out → NoneAtFault number log → Followed-log
  followed-when P h = followed-passed (opens-opening sheet line capacity sets number log (length m) (length out) (opened-opens P h))

  -- A check that was refused before: not with 16, and without results.
  pub record Not-followed : Type 0 where
    pub refused : c.answer.refusal ≢ 0
    pub before : c.answer.refusal ≢ number_of LogRefused
    pub none : c.answer.count ≡ 0

  by-opening : (v : Verdict) → opening sheet line capacity sets number log (length m) (length out) ≡ v → Followed-log ⊎ Not-followed
  unfolding by_opening
  by-opening (Ok _) e = inl (followed-passed e)
  by-opening (Err why) e =
      let i = checked-by sheet line capacity sets number log m out (refusing why.refusal why.row) e in
      let n : c.answer.refusal ≡ number_of why.refusal = ap (λ (k : Checked). k.answer.refusal) i in
      inr
      (record {
        refused = λ h. omega (arith, number-positive why.refusal, n, h);
        before = λ h. not-yet-refused sheet line capacity sets number log m out why.refusal why.row e (sym n ∙ h);
        none = ap (λ (k : Checked). k.answer.count) i;
      })

  pub either_way : Followed-log ⊎ Not-followed
  either_way = by-opening (opening sheet line capacity sets number log (length m) (length out)) refl

  -- What it tells, by the line at which following stopped.
  module _ (F : Followed-log) where
    pub row_is : c.answer.row ≡ f.line
    unfolding by_opening told
    row_is = ap (λ (k : Checked). k.answer.row) F.whole

    refusal_is : c.answer.refusal ≡ pick (eqb f.line 0) 0 16
    unfolding by_opening told
    refusal_is = ap (λ (k : Checked). k.answer.refusal) F.whole

    pub accepts : f.line ≡ 0 → c.answer.refusal ≡ 0
    accepts e = refusal_is ∙ rw (eq-eqb f.line 0 e) refl

    pub refuses : f.line ≢ 0 → c.answer.refusal ≡ number_of LogRefused
    refuses n = refusal_is ∙ rw (ne_eqb f.line 0 n) refl

    pub accepted-ends : c.answer.refusal ≡ 0 → f.line ≡ 0
    accepted-ends e = go (ℕ_discrete f.line 0)
      where
        go : Dec (f.line ≡ 0) → f.line ≡ 0
        go (yes p) = p
        go (no n) = absurd (omega (arith, e, refuses n))

    pub refused-stops : c.answer.refusal ≡ number_of LogRefused → f.line ≢ 0
    refused-stops e z = omega (arith, e, accepts z)

-- ---- the machine
module _ (sheet line : List ℕ) (capacity : ℕ) (sets : List ℕ) (number : ℕ) (m : List ℕ) (starts : (started sheet line capacity m).answer.refusal ≡ 0) where
  abbrev kinds : List ℕ
  kinds = letters_of (formula_of sheet) line

  abbrev begin : List ℕ
  begin = (started sheet line capacity m).mem

  abbrev named : ℕ → List ℕ
  named = set_named sheet line sets number

  begun : AcceptedStart sheet line capacity m
  begun = accepted-start sheet line capacity m starts

  pub start-length : length (started sheet line capacity m).mem ≡ length m
  unfolding started_memory
  start-length =
      ap (λ (b : Begun). length b.mem) begun.whole
      ∙ length-started (made_of (formula_of sheet)) (made-sound sheet begun.admissible) kinds (letters-count sheet line begun.kinded) (letters-each sheet line begun.kinded)
      capacity m begun.long

  -- Following from the empty machine is making the lines' calls.
  pub same-from-start : (lines : List Line) → Listed number lines
      → Same (set_named sheet line sets number) (width (formula_of sheet)) lines (calls_of (set_named sheet line sets number) (length m) lines) (started sheet line capacity m).mem []
      (followed (set_named sheet line sets number) lines 1 (started sheet line capacity m).mem [])
  same-from-start lines h =
      let A = calls-agree sheet begun.admissible kinds capacity begun.some begun.most in
      subst (λ (w : ℕ). Same named w lines (calls_of named (length m) lines) begin [] (followed named lines 1 begin []))
      (result_count (formula_of sheet) (accepted-admitted sheet begun.admissible))
      (lines-made (formula_of sheet) kinds capacity begun.some begun.most A named (length m) number lines h begin start-length (start_of (formula_of sheet))
      (accepted-stands sheet line capacity m starts) 1 (omega arith) [])
