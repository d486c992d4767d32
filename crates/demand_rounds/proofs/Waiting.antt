-- Laws of specs/Waiting.antt, and what only they need.
use Rattle.std.specs.Prelude.{ℕ, zero, suc, ◌+◌, ◌-◌, ◌≤◌, ◌<◌, ◌≡◌, length, get_or, Ok}
use Rattle.std.proofs.Math.Path.{refl, ap, subst}
use Rattle.std.proofs.Common.{sym, ap₂, ◌∙◌, arith}
use Rattle.std.proofs.Math.Logic.{ite}
use mathlib.Core.List.{List, [], ◌∷◌, ◌++◌, map, append_assoc}
use Rattle.std.proofs.Math.Option.{Option, none, some}
use Rattle.std.proofs.Math.Decide.{ℕ_discrete}
use Rattle.std.proofs.Math.ListN.{take as first_of}
use Rattle.theory_schedule.specs.Counts.{count}
use Rattle.value.specs.declared.Value.{Value}
use Rattle.network.specs.Net.{Links}
use Rattle.theory_pieces.specs.Tape.{Step, pushing, firing, taking}
use Rattle.formula.specs.Tree.{Exp, formula_of}
use Rattle.formula.specs.Faults.{letters_of}
use Rattle.formula.proofs.Acceptance.{admissible-passed}
use Rattle.graph.specs.Assembly.{up_from}
use Rattle.graph.specs.Translation.{made_of}
use Rattle.value_sets.specs.Sets.{set_values}
use Rattle.value_sets.proofs.Sets.{values-set}
use Rattle.meaning.specs.Evaluate.{evaluated_with, evaluated, evaluation_of}
use Rattle.machine_layout.specs.Layout.{size_of, need, operators_of}
use Rattle.machine_start.specs.Start.{started}
use Rattle.machine_start.specs.StartLaws.{AcceptedStart, accepted-start}
use Rattle.theory_verdicts.proofs.Admitting.{accepted-admitted, accepted-operators}
use Rattle.theory_verdicts.specs.Results.{EachEnds}
use Rattle.theory_verdicts.specs.Running as Abstract
use Rattle.theory_verdicts.specs.Running.{start_of, fires, takes, after_steps, steps_of, steps_from, history, standing, pushed, taken}
use Rattle.theory_verdicts.proofs.RunningLaws.{Each-whole, handed-count}
use Rattle.theory_rounds.specs.InTurn as Links-in-turn
use Rattle.theory_rounds.specs.InTurn.{fires_from, rounds_of, times, sum_below}
use Rattle.theory_rounds.proofs.Shares.{sum_same}
use Rattle.theory_rounds.proofs.TurnLaws.{calls-lead}
use Rattle.theory_rounds.specs.RunsFire.{total, operators-of}
use Rattle.theory_rounds.proofs.RoundsReady as Links-ready
use Rattle.theory_rounds.proofs.WorkEnds.{from_start}
use Rattle.theory_rounds.specs.WorkEnds.{EachLentFits, LentFits}
use Rattle.theory_rounds.specs.WorkEnds.{Enough as Lent-enough}
use Rattle.demand_view.specs.Stands.{Stands}
use Rattle.demand_begin.proofs.StartedStands.{accepted-stands}
use Rattle.demand.specs.MemoryCalls.{Call, by_rounds, take, answer_of, memory_after, memory_after_all, sets_pushed, results_taken}
use Rattle.demand.specs.Claim.{Ends}
use Rattle.demand.proofs.Evaluations.{enough-yields}
use Rattle.demand.specs.Agree.{CallsAgree}
use Rattle.demand.proofs.Agreed.{calls-agree}
use Rattle.demand.proofs.Followed.{EachRead, read_count}
use Rattle.demand.specs.RoundSteps.{turn_calls, rounds_calls, roundsSteps}
use Rattle.demand.proofs.FollowRounds.{rounds-stand}
use Rattle.demand_rounds.specs.InTurn.{all_fired, times_fired, in_turn, AllAccepted, owed}
use Rattle.demand_rounds.proofs.Traced.{Traced, calls-traced}
use Rattle.demand_rounds.proofs.WorkInTurn.{take-granted, work-to-links, work-to-bytes}
use Rattle.demand_rounds.specs.Waiting.{Is-passed, EachSetEnds}
use Rattle.demand_rounds.specs.Waiting as Stated

-- ---- firings counted on links and in lists of operators
pub times-count : (i : ℕ) (w : List Step) → times i w ≡ count i (operators-of w)
times-count i [] = refl
times-count i (pushing v ∷ w) = times-count i w
times-count i (firing a ∷ w) = ap (λ (z : ℕ). ite (ℕ_discrete i a) (suc z) z) (times-count i w)
times-count i (taking ∷ w) = times-count i w

-- ---- the rounds of both descriptions
turn-calls : (k i : ℕ) → turn_calls i k ≡ fires_from k i
unfolding up_from
turn-calls zero i = refl
turn-calls (suc k) i = ap (λ (z : List Abstract.Call). fires i ∷ z) (turn-calls k (suc i))

rounds-calls : (x : Exp) (r : ℕ) → rounds_calls x r ≡ rounds_of x r
unfolding rounds_calls
rounds-calls x zero = refl
rounds-calls x (suc r) = ap₂ (λ (a b : List Abstract.Call). a ++ b) (turn-calls (length (made_of x).operators) 0) (rounds-calls x r)

rounds-more : (x : Exp) (a b : ℕ) → rounds_of x (a + b) ≡ rounds_of x a ++ rounds_of x b
rounds-more x zero b = let e : 0 + b ≡ b = omega arith in ap (rounds_of x) e
rounds-more x (suc a) b =
    let e : suc a + b ≡ suc (a + b) = omega arith in
    let one = fires_from (length (made_of x).operators) 0 in
    ap (rounds_of x) e ∙ ap (λ (z : List Abstract.Call). one ++ z) (rounds-more x a b) ∙ sym (append_assoc one (rounds_of x a) (rounds_of x b))

-- ---- whatever firings sets need can be lent in small numbers, one at a time (as in theory_rounds/specs/WorkEnds)
ones : ℕ → List ℕ
ones zero = []
ones (suc n) = 1 ∷ ones n

ones-fit : (n : ℕ) → EachLentFits (ones n)
unfolding ones
ones-fit zero = tt
ones-fit (suc n) = (omega arith, ones-fit n)

ones-total : (n : ℕ) → total (ones n) ≡ n
unfolding ones
ones-total zero = refl
ones-total (suc n) = omega (arith, ones-total n)

small-lent : (needs : List ℕ) → (lents : List (List ℕ)) × LentFits lents × Lent-enough needs lents
small-lent [] = ([], tt, tt)
small-lent (n ∷ needs) =
    let r = small-lent needs in
    (ones n ∷ r.0, (ones-fit n, r.1), (omega (arith, ones-total n), r.2))

-- ---- sets read
read_first : (x : Exp) (kinds : List ℕ) (capacity n : ℕ) (sets : List (List ℕ)) (vss : List (List Value)) → EachRead x kinds capacity sets vss
    → EachRead x kinds capacity (first_of n sets) (first_of n vss)
read_first x kinds capacity zero sets vss r = tt
read_first x kinds capacity (suc n) [] [] r = tt
read_first x kinds capacity (suc n) [] (v ∷ vss) r = absurd r
read_first x kinds capacity (suc n) (s ∷ sets) [] r = absurd r
read_first x kinds capacity (suc n) (s ∷ sets) (v ∷ vss) r = (r.0, read_first x kinds capacity n sets vss r.1)

pub each-of-first : (sheet line : List ℕ) (n : ℕ) (sets : List (List ℕ)) → n ≤ length sets → ((j : ℕ) → j < n → Ends sheet line (get_or sets j [])) → EachSetEnds sheet line (first_of n sets)
each-of-first sheet line zero sets l f = tt
each-of-first sheet line (suc n) [] l f = tt
each-of-first sheet line (suc n) (s ∷ sets) l f = (f 0 (omega arith), each-of-first sheet line n sets (omega arith) (λ j h. f (suc j) (omega arith)))

module _ (sheet line : List ℕ) (capacity : ℕ) (memory : List ℕ) (h : (started sheet line capacity memory).answer.refusal ≡ 0) where
  abbrev x : Exp
  x = formula_of sheet

  abbrev kinds : List ℕ
  kinds = letters_of (formula_of sheet) line

  abbrev start : List ℕ
  start = (started sheet line capacity memory).mem

  begun : AcceptedStart sheet line capacity memory
  begun = accepted-start sheet line capacity memory h

  agree : CallsAgree x kinds capacity
  agree = calls-agree sheet begun.admissible kinds capacity begun.some begun.most

  H : Stands (made_of x) kinds capacity start (start_of x)
  H = accepted-stands sheet line capacity memory h

  -- ---- there is such a work
  -- A set whose evaluation ends passes 12.
  ends_read : (set : List ℕ) → Ends sheet line set → (v : List Value) × (set_values kinds set ≡ some v)
  unfolding evaluation_of evaluated
  ends_read set e = go (set_values kinds set) refl
    where
      verdict-is : (o : Option (List Value)) → set_values kinds set ≡ o → (evaluated_with x e.0 o).verdict ≡ Ok tt
      verdict-is o f = ap (λ (z : Option (List Value)). (evaluated_with x e.0 z).verdict) (sym f) ∙ (rw (admissible-passed sheet line begun.admissible begun.kinded) at e.1)

      go : (o : Option (List Value)) → set_values kinds set ≡ o → (v : List Value) × (set_values kinds set ≡ some v)
      go (some v) f = (v, f)
      go none f = absurd (subst Is-passed (sym (verdict-is none f)) tt)

  record Sets-end (sets : List (List ℕ)) : Type 0 where
    values : List (List Value)
    read : EachRead x kinds capacity sets values
    whole : Each-whole x capacity values
    results : List (List Value)
    end : EachEnds x values results

  sets_end : (sets : List (List ℕ)) → EachSetEnds sheet line sets → Sets-end sets
  sets_end [] e = record { values = []; read = tt; whole = tt; results = []; end = tt }
  sets_end (set ∷ sets) e =
      let v = ends_read set e.0 in
      let y = enough-yields sheet line begun.admissible begun.kinded set v.0 v.1 e.0.0 e.0.1 in
      let S = sets_end sets e.1 in
      record {
        values = v.0 ∷ S.values;
        read = (v.1, S.read);
        whole = ((values-set kinds set v.0 v.1).count ∙ H.kinds-count, S.whole);
        results = y.0 ∷ S.results;
        end = (y.1, S.end);
      }

  module _ (lent : ℕ) (enough : need (size_of capacity) ≤ lent) (out : List ℕ) where
    -- What is found out of sets that end: how many firings each needs lent, in its runs together, and how often each operator then fires, however that is lent.
    pub record Work-needs (sets : List (List ℕ)) : Type 0 where
      pub needs : List ℕ
      pub suffice : (firings : List (List ℕ)) → Lent-enough needs firings → AllAccepted (in_turn lent out sets firings) (started sheet line capacity memory).mem
      pub shares : ℕ → ℕ
      pub fired : (firings : List (List ℕ)) → Lent-enough needs firings → (i : ℕ) → times_fired i (in_turn lent out sets firings) (started sheet line capacity memory).mem ≡ shares i

    pub work-needs : 80 ≤ length out → (sets : List (List ℕ)) → EachSetEnds sheet line sets → Work-needs sets
    work-needs room sets e =
        let S = sets_end sets e in
        let N = from_start x (accepted-admitted sheet begun.admissible) (accepted-operators sheet begun.admissible) capacity begun.some S.values S.results S.whole S.end in
        let granted : (firings : List (List ℕ)) → Lent-enough N.needs firings → AllAccepted (in_turn lent out sets firings) start
        = λ firings g.
        work-to-bytes x kinds capacity begun.some begun.most agree lent enough out sets S.values S.read firings start (start_of x) H room (N.suffice firings g).0 in
        record {
          needs = N.needs;
          suffice = granted;
          shares = N.shares;
          fired = λ firings g i.
              ap (count i)
              (sym (work-to-links x kinds capacity begun.some begun.most agree lent enough out sets S.values S.read firings start (start_of x) H (granted firings g)).1)
              ∙ sym (times-count i (history x capacity (Links-in-turn.in_turn S.values firings))) ∙ N.fired firings g i;
        }

    -- Sets whose evaluation ends can be worked one after another, with runs lent numbers of 32 bits: the bound is never empty.
    pub in-turn-exists : 80 ≤ length out → (sets : List (List ℕ)) → EachSetEnds sheet line sets
        → (firings : List (List ℕ)) × LentFits firings × AllAccepted (in_turn lent out sets firings) (started sheet line capacity memory).mem
    in-turn-exists room sets e =
        let N = work-needs room sets e in
        let f = small-lent N.needs in
        (f.0, f.1, N.suffice f.0 f.2)

    -- What is owed of them is one number, as soon as each has what it needs.
    pub owed-once : (sets : List (List ℕ)) (N : Work-needs sets) (calls : List Call) (firings : List (List ℕ)) → Lent-enough N.needs firings
        → owed (in_turn lent out sets firings) calls (started sheet line capacity memory).mem
        ≡ sum_below (operators_of (started sheet line capacity memory).mem) (λ i. N.shares i - times_fired i calls (started sheet line capacity memory).mem)
    owed-once sets N calls firings g =
        sum_same (operators_of start) (λ i. times_fired i (in_turn lent out sets firings) start - times_fired i calls start) (λ i. N.shares i - times_fired i calls start)
        (λ i l. ap (λ (t : ℕ). t - times_fired i calls start) (N.fired firings g i))

    -- ---- after any list of calls
    module _ (calls : List Call) where
      T : Traced x kinds capacity (start_of x) (memory_after_all calls start) (sets_pushed calls start) (length (results_taken calls start)) (all_fired calls start)
      T = calls-traced x kinds capacity begun.some begun.most agree calls start (start_of x) H

      results-counted : length (taken x capacity T.calls) ≡ length (results_taken calls start)
      results-counted = handed-count x capacity (history x capacity T.calls) (start_of x) ∙ T.takes-are

      sets-counted : length (sets_pushed calls start) ≡ length (pushed x capacity T.calls)
      sets-counted = read_count x kinds capacity (sets_pushed calls start) (pushed x capacity T.calls) T.reads

      abbrev upToOldest : List (List ℕ)
      upToOldest = Stated.upToOldest sheet line capacity memory h lent enough out calls

      oldest-read : EachRead x kinds capacity upToOldest (first_of (suc (length (taken x capacity T.calls))) (pushed x capacity T.calls))
      oldest-read =
          subst (λ (n : ℕ). EachRead x kinds capacity upToOldest (first_of (suc n) (pushed x capacity T.calls))) (sym results-counted)
          (read_first x kinds capacity (suc (length (results_taken calls start))) (sets_pushed calls start) (pushed x capacity T.calls) T.reads)

      owed_same : (work : List Call) (on-links : List Abstract.Call) → operators-of (history x capacity on-links) ≡ all_fired work start
          → Links-in-turn.owed x (history x capacity on-links) (history x capacity T.calls) ≡ owed work calls start
      owed_same work on-links f =
          sum_same (length (made_of x).operators) (λ i. times i (history x capacity on-links) - times i (history x capacity T.calls))
          (λ i. times_fired i work start - times_fired i calls start)
          (λ i l. ap₂ {B = ℕ} (λ (a b : ℕ). a - b) (times-count i (history x capacity on-links) ∙ ap (count i) f) (times-count i (history x capacity T.calls) ∙ ap (count i) T.fires-are))
          ∙ ap (λ (n : ℕ). sum_below n (λ i. times_fired i work start - times_fired i calls start)) (sym H.operators-are)

      -- Runs by rounds one after another leave the links as all their rounds do.
      rounds-lead : (long : ℕ) → need (size_of capacity) ≤ long → (rs : List ℕ) (m : List ℕ) (q : Links) → Stands (made_of x) kinds capacity m q
          → Stands (made_of x) kinds capacity (memory_after_all (map (by_rounds long) rs) m) (after_steps x (steps_from x capacity (rounds_of x (total rs)) q) q)
      unfolding memory_after_all memory_after steps_from
      rounds-lead long l [] m q K = K
      rounds-lead long l (r ∷ rs) m q K =
          let s = rounds-stand x kinds capacity begun.some begun.most agree m q K long l r in
          let e : after_steps x (roundsSteps x capacity r q) q ≡ after_steps x (steps_from x capacity (rounds_of x r) q) q
          = ap (λ (cs : List Abstract.Call). after_steps x (steps_from x capacity cs q) q) (rounds-calls x r) in
          let q' = after_steps x (steps_from x capacity (rounds_of x r) q) q in
          let m' = memory_after (by_rounds long r) m in
          subst (Stands (made_of x) kinds capacity (memory_after_all (map (by_rounds long) rs) m'))
          (sym (ap (λ (cs : List Abstract.Call). after_steps x (steps_from x capacity cs q) q) (rounds-more x r (total rs)) ∙ calls-lead x capacity (rounds_of x r) (rounds_of x (total rs)) q))
          (rounds-lead long l rs m' q' (subst (Stands (made_of x) kinds capacity m') e s))

      module _ (left : length (results_taken calls (started sheet line capacity memory).mem) < length (sets_pushed calls (started sheet line capacity memory).mem)) where
        -- "After at most that many rounds its whole result is ready": for any accepted work on these sets, any runs by rounds that together are lent as many rounds as
        -- it is owed firings, or more, and any take with room for a result, all lent what a machine needs. A lent number has 32 bits, so there may be several runs.
        pub ready-after-runs : (firings : List (List ℕ)) → AllAccepted (in_turn lent out upToOldest firings) (started sheet line capacity memory).mem
            → (rounds : List ℕ) → owed (in_turn lent out upToOldest firings) calls (started sheet line capacity memory).mem ≤ total rounds
            → (lent-rounds : ℕ) → need (size_of capacity) ≤ lent-rounds → (lent-take : ℕ) → need (size_of capacity) ≤ lent-take → (into : List ℕ) → 80 ≤ length into
            → (answer_of (take lent-take into) (memory_after_all (map (by_rounds lent-rounds) rounds) (memory_after_all calls (started sheet line capacity memory).mem))).refusal ≡ 0
        unfolding answer_of
        ready-after-runs firings g rounds l lent-rounds long lent-take long-take into room =
            let vss = first_of (suc (length (taken x capacity T.calls))) (pushed x capacity T.calls) in
            let w = work-to-links x kinds capacity begun.some begun.most agree lent enough out upToOldest vss oldest-read firings start (start_of x) H g in
            let o = owed_same (in_turn lent out upToOldest firings) (Links-in-turn.in_turn vss firings) w.1 in
            let ready = Links-ready.take-after-rounds sheet begun.admissible capacity begun.some T.calls (omega (arith, left, results-counted, sets-counted)) firings w.0 (total rounds)
            (omega (arith, l, o)) in
            let q = standing x capacity T.calls in
            take-granted x kinds capacity begun.some begun.most agree lent-take long-take into
            (memory_after_all (map (by_rounds lent-rounds) rounds) (memory_after_all calls start)) (after_steps x (steps_from x capacity (rounds_of x (total rounds)) q) q)
            (rounds-lead lent-rounds long rounds (memory_after_all calls start) q T.stands) room
            (ap (steps_of x capacity takes) (sym (calls-lead x capacity T.calls (rounds_of x (total rounds)) (start_of x))) ∙ ready)
