-- Laws of specs/Firings.antt, and what only they need.
use Rattle.std.specs.Prelude.{ℕ, ◌≡◌, refl, List, [], ◌∷◌, length}
use Rattle.std.proofs.Common.{sym, ap, ap₂, subst, ◌∙◌, arith}
use Rattle.theory_schedule.specs.Counts.{count}
use Rattle.value.specs.declared.Value.{Value}
use Rattle.formula.specs.Tree.{Exp, formula_of}
use Rattle.formula.specs.Faults.{letters_of}
use Rattle.graph.specs.Translation.{made_of}
use Rattle.machine_start.specs.Start.{started}
use Rattle.machine_start.specs.StartLaws.{AcceptedStart, accepted-start}
use Rattle.theory_verdicts.specs.Running.{start_of, history, pushed}
use Rattle.theory_verdicts.proofs.RunningLaws.{handed-count}
use Rattle.theory_rounds.specs.InTurn.{times}
use Rattle.theory_firings.specs.SameFirings as Links-firings
use Rattle.theory_firings.proofs.SameFirings as Links-firingsLaws
use Rattle.demand_view.specs.Stands.{Stands}
use Rattle.demand_begin.proofs.StartedStands.{accepted-stands}
use Rattle.demand.specs.MemoryCalls.{Call, memory_after_all, sets_pushed, results_taken}
use Rattle.demand.specs.Agree.{CallsAgree}
use Rattle.demand.proofs.Agreed.{calls-agree}
use Rattle.demand.proofs.Followed.{EachRead, read_count}
use Rattle.demand.proofs.OnMemory.{still-links}
use Rattle.demand.proofs.PushedSets.{values_same}
use Rattle.demand_rounds.specs.InTurn.{all_fired, times_fired}
use Rattle.demand_rounds.proofs.Traced.{Traced, calls-traced}
use Rattle.demand_rounds.proofs.Waiting.{times-count}
use Rattle.demand_firings.specs.Firings.{AtRest}
use Rattle.demand_firings.specs.Firings as Stated

-- ---- sets that pass 12 with two kinds lines have the same values with both
reads_same : (x : Exp) (kinds kinds' : List ℕ) (capacity capacity' : ℕ) (sets : List (List ℕ)) (vss vss' : List (List Value))
    → EachRead x kinds capacity sets vss → EachRead x kinds' capacity' sets vss' → vss ≡ vss'
reads_same x kinds kinds' capacity capacity' [] [] [] r r' = refl
reads_same x kinds kinds' capacity capacity' [] [] (v' ∷ vss') r r' = absurd r'
reads_same x kinds kinds' capacity capacity' [] (v ∷ vss) vss' r r' = absurd r
reads_same x kinds kinds' capacity capacity' (s ∷ sets) [] vss' r r' = absurd r
reads_same x kinds kinds' capacity capacity' (s ∷ sets) (v ∷ vss) [] r r' = absurd r'
reads_same x kinds kinds' capacity capacity' (s ∷ sets) (v ∷ vss) (v' ∷ vss') r r' =
    ap₂ {B = List (List Value)} (λ (u : List Value) (us : List (List Value)). u ∷ us) (values_same kinds kinds' s v v' r.0 r'.0)
    (reads_same x kinds kinds' capacity capacity' sets vss vss' r.1 r'.1)

-- ---- a list of calls from one start, followed on links
module _ (sheet line : List ℕ) (capacity : ℕ) (memory : List ℕ) (h : (started sheet line capacity memory).answer.refusal ≡ 0) where
  abbrev x : Exp
  x = formula_of sheet

  abbrev kinds : List ℕ
  kinds = letters_of (formula_of sheet) line

  abbrev start : List ℕ
  start = Stated.start sheet line capacity memory h

  begun : AcceptedStart sheet line capacity memory
  begun = accepted-start sheet line capacity memory h

  agree : CallsAgree x kinds capacity
  agree = calls-agree sheet begun.admissible kinds capacity begun.some begun.most

  H : Stands (made_of x) kinds capacity start (start_of x)
  H = accepted-stands sheet line capacity memory h

  module _ (calls : List Call) where
    T : Traced x kinds capacity (start_of x) (memory_after_all calls start) (sets_pushed calls start) (length (results_taken calls start)) (all_fired calls start)
    T = calls-traced x kinds capacity begun.some begun.most agree calls start (start_of x) H

    rests : AtRest start calls → Links-firings.AtRest x capacity T.calls
    rests r =
        record {
          still = still-links x kinds capacity begun.some begun.most agree (memory_after_all calls start) _ T.stands (λ i l. r.still i (omega (arith, l)));
          all-taken =
              omega (
                arith,
                r.all-taken,
                T.takes-are,
                handed-count x capacity (history x capacity T.calls) (start_of x),
                read_count x kinds capacity (sets_pushed calls start) (pushed x capacity T.calls) T.reads,
              );
        }

    fired-on-links : (i : ℕ) → times_fired i calls start ≡ times i (history x capacity T.calls)
    fired-on-links i = ap (count i) (sym T.fires-are) ∙ sym (times-count i (history x capacity T.calls))

-- EACH OPERATOR HAS FIRED EQUALLY OFTEN.
module _ (sheet line line' : List ℕ) (capacity capacity' : ℕ) (memory memory' : List ℕ)
    (h : (started sheet line capacity memory).answer.refusal ≡ 0) (h' : (started sheet line' capacity' memory').answer.refusal ≡ 0) where
  pub same-firings : (calls calls' : List Call)
      → sets_pushed calls (started sheet line capacity memory).mem ≡ sets_pushed calls' (started sheet line' capacity' memory').mem
      → AtRest (started sheet line capacity memory).mem calls → AtRest (started sheet line' capacity' memory').mem calls'
      → (i : ℕ) → times_fired i calls (started sheet line capacity memory).mem ≡ times_fired i calls' (started sheet line' capacity' memory').mem
  same-firings calls calls' same r r' i =
      let B = begun sheet line capacity memory h in
      let B' = begun sheet line' capacity' memory' h' in
      let S = T sheet line capacity memory h calls in
      let S' = T sheet line' capacity' memory' h' calls' in
      let x = formula_of sheet in
      let sets : pushed x capacity S.calls ≡ pushed x capacity' S'.calls
      = reads_same x (letters_of x line) (letters_of x line') capacity capacity' (sets_pushed calls' (started sheet line' capacity' memory').mem) (pushed x capacity S.calls)
      (pushed x capacity' S'.calls) (subst (λ (z : List (List ℕ)). EachRead x (letters_of x line) capacity z (pushed x capacity S.calls)) same S.reads) S'.reads in
      fired-on-links sheet line capacity memory h calls i
      ∙ Links-firingsLaws.same-firings sheet B.admissible capacity capacity' B.some B'.some S.calls S'.calls sets (rests sheet line capacity memory h calls r)
      (rests sheet line' capacity' memory' h' calls' r') i
      ∙ sym (fired-on-links sheet line' capacity' memory' h' calls' i)
