-- Laws of specs/OwnLines.antt, and what only they need.
use Prim.Native.Nat.{ℕ, zero, suc, ◌+◌, ◌-◌, ◌≤◌, ◌<◌}
use Rattle.std.specs.Prelude.{◌≡◌, ◌⊎◌, Bool, true, false, get_or, take, Ok}
use Rattle.std.proofs.Math.Path.{refl, sym, ap, ap₂, subst}
use Rattle.std.proofs.Common.{◌∙◌, arith, lt-ltb, length-append}
use Rattle.std.proofs.Math.Logic.{inl, inr}
use mathlib.Core.List.{List, [], ◌∷◌, ◌++◌, append_assoc, append-nil}
use Rattle.std.proofs.Math.Decide.{ℕ_discrete}
use Rattle.std.proofs.Math.ListN.{length, get_or-append}
use Rattle.formula.specs.declared.Refusal.TheVariants.{Unfinished}
use Rattle.formula.specs.Refusals.{number_of}
use Rattle.formula.specs.Tree.{formula_of}
use Rattle.formula.specs.Faults.{letters_of}
use Rattle.formula.specs.Tests.{verdict_of, figures_of}
use Rattle.machine_layout.specs.Layout.{operators_of, capacity_in, size_of}
use Rattle.graph.specs.Translation.{made_of}
use Rattle.machine_firing.specs.Fire.{able_at}
use Rattle.machine_runs.specs.Run.{runs, still_at}
use Rattle.machine_calls.specs.Calls.{Outcome, size_in, standing, ran}
use Rattle.machine_calls.specs.CallLaws.{fired-accepted}
use Rattle.meaning.specs.Evaluate.{evaluation_of}
use Rattle.machine_start.specs.Start.{started}
use Rattle.refusals.specs.RunCount.{RunCounts}
use Rattle.refusals.proofs.RunCount.{run_is, unstill-able}
use Rattle.demand.specs.MemoryCalls.{Result, result, sets_pushed}
use Rattle.demand.specs.Claim.{Enough, Ends, yielded}
use Rattle.demand.proofs.Demand3.{demand-3}
use Rattle.text.specs.Printed.{head_line, refusal_line}
use Rattle.text.proofs.PrintLaws.{refusal-length}
use Rattle.text.specs.SetLines.{sets, sets_of}
use Rattle.session.specs.Passes.{feeding, drained_of, Pass, pass_of, part_of, remaining_after, passes}
use Rattle.session.proofs.PassLaws.{part-plain, part-refused, remaining-plain, remaining-refused}
use Rattle.session.specs.Reached.{Reached, line_of}
use Rattle.session.specs.Onward.{lines_of, Underway}
use Rattle.session.proofs.Onward.{F, A, D, C, same-machine, underway-on, less-to-do}
use Rattle.session.proofs.Ending.{passes_over, passes-again}
use Rattle.session.specs.Firings.{LentRun, lent_run, count_of, runs_made, firings_of, StillFires, UsesAll}
use Rattle.session.proofs.Firings.{uses-on, runs-over, runs-again}
use Rattle.session.specs.Output.{link_capacity, all_firings, most_set_bytes, blank_memory, bench_output}
use Rattle.session.proofs.OutputLaws.{blank-long, starts, underway, output-is}
use Rattle.session.specs.OwnLines.{OwnLines, verdict_lines}

-- ---- lines of results
lines-append : (a b : List Result) → lines_of (a ++ b) ≡ lines_of a ++ lines_of b
unfolding lines_of
lines-append [] b = refl
lines-append (r ∷ a) b = ap (λ (z : List ℕ). line_of r ++ z) (lines-append a b) ∙ sym (append_assoc (line_of r) (lines_of a) (lines_of b))

-- Results that are the sets' own have the sets' lines.
lines-own : (formula line : List ℕ) (rounds : List ℕ → ℕ) (rs : List Result) (ss : List (List ℕ)) → length rs ≤ length ss
    → ((k : ℕ) → k < length rs → get_or rs k (result 0 []) ≡ yielded (evaluation_of formula line (get_or ss k []) (rounds (get_or ss k []))))
    → lines_of rs ≡ verdict_lines formula line rounds (take (length rs) ss)
unfolding lines_of verdict_lines
lines-own formula line rounds [] ss h own = refl
lines-own formula line rounds (r ∷ rs) [] h own = absurd (omega arith)
lines-own formula line rounds (r ∷ rs) (s ∷ ss) h own =
    ap₂ (λ (a b : List ℕ). a ++ b) (ap line_of (own 0 (omega arith))) (lines-own formula line rounds rs ss (omega arith) (λ k l. own (suc k) (omega arith)))

-- ---- what is printed from a stage on
module _ (sheet line : List ℕ) (capacity : ℕ) (memory : List ℕ) (h : (started sheet line capacity memory).answer.refusal ≡ 0) (all : List (List ℕ)) where
  abbrev start : List ℕ
  start = (started sheet line capacity memory).mem

  -- How it ends: every set is taken, or 36 is printed, all of the firings left having been used.
  abbrev EndsBy : ℕ → List LentRun → List Result → List ℕ → Type 0
  EndsBy left runs results ending =
      ((length results ≡ length all) × (ending ≡ [])) ⊎ ((ending ≡ refusal_line (number_of Unfinished) 0) × UsesAll left runs)

  -- These results more are taken, and their lines printed, to the end, by these runs with the firings left.
  record Prints (left : ℕ) (runs : List LentRun) (results : List Result) (out : List ℕ) : Type 0 where
    more : List Result
    memory-then : List ℕ
    sets_then : List (List ℕ)
    rest_then : List (List ℕ)
    reached : Reached start memory-then sets_then (results ++ more)
    in_order : sets_then ++ rest_then ≡ all
    ending : List ℕ
    out-is : out ≡ lines_of more ++ ending
    ends : EndsBy left runs (results ++ more) ending
    within : firings_of runs ≤ left

  ends_on : (left : ℕ) (run : LentRun) (runs : List LentRun) (r r' : List Result) (ending : List ℕ) → count_of run ≤ left → r ≡ r'
      → EndsBy (left - count_of run) runs r ending → EndsBy left (run ∷ runs) r' ending
  ends_on left run runs r r' ending c e (inl a) = inl (ap length (sym e) ∙ a.0, a.1)
  ends_on left run runs r r' ending c e (inr b) = inr (b.0, uses-on run runs left c b.1)

  passes-over-any : (f : ℕ) (rest : List (List ℕ)) (m : List ℕ) (left : ℕ) → passes f 0 rest m left ≡ []
  unfolding passes
  passes-over-any zero rest m left = refl
  passes-over-any (suc f) rest m left = passes_over f rest m left

  -- A run of a machine that stands is refused with 36 alone.
  run-unfinished : (m : List ℕ) (left : ℕ) → standing m ≡ 0 → ((ran m left).answer.refusal ≡ 0 → ⊥) → (ran m left).answer.refusal ≡ number_of Unfinished
  run-unfinished m left st n = go (still_at (runs (size_in m) (operators_of m) left m 0).mem (size_in m) (operators_of m)) refl
    where
      go : (b : Bool) → still_at (runs (size_in m) (operators_of m) left m 0).mem (size_in m) (operators_of m) ≡ b → (ran m left).answer.refusal ≡ number_of Unfinished
      go true e = absurd (n (run_is m left st true e).2)
      go false e = (run_is m left st false e).2

  module _ (n : ℕ) (rest : List (List ℕ)) (m : List ℕ) (left : ℕ) (U : Underway sheet line capacity memory h all n rest m) where
    at-end : n ≡ 0 → Prints left [] U.results []
    unfolding lines_of
    at-end e =
        record {
          more = [];
          memory-then = m;
          sets_then = U.sets;
          rest_then = rest;
          reached = subst (Reached start m U.sets) (sym (append-nil U.results)) U.reached;
          in_order = U.in_order;
          ending = [];
          out-is = refl;
          ends = inl (ap length (append-nil U.results) ∙ omega (arith, U.counts, e), refl);
          within = omega arith;
        }

    abbrev run : LentRun
    run = lent_run (feeding rest m).mem left

    fed-reached : Reached start (feeding rest m).mem (U.sets ++ (F sheet line capacity memory h all n rest m left U).more) U.results
    fed-reached = (F sheet line capacity memory h all n rest m left U).reached

    before : (operators_of run.before ≡ length (made_of (formula_of sheet)).operators) × (size_in run.before ≡ size_of (capacity_in capacity)) × (standing run.before ≡ 0)
    before = same-machine sheet line capacity memory h run.before (U.sets ++ (F sheet line capacity memory h all n rest m left U).more) U.results fed-reached

    counts : RunCounts run.before left
    counts = C sheet line capacity memory h all n rest m left U

    -- After a run's 36 an operator can fire.
    still-fires : (ran run.before left).answer.refusal ≡ number_of Unfinished → StillFires run []
    still-fires e =
        let m' = (ran run.before left).mem in
        let after =
        same-machine sheet line capacity memory h m' (U.sets ++ (F sheet line capacity memory h all n rest m left U).more) U.results
        (A sheet line capacity memory h all n rest m left U) in
        let able = unstill-able m' (size_in run.before) (operators_of run.before) (counts.unfinished e).1 in (
          able.0,
          ap (λ (o : Outcome). o.answer.refusal)
              (fired-accepted m' after.2 able.0 (lt-ltb able.0 (operators_of m') (omega (arith, able.1, before.0, after.0)))
              (subst (λ (k : ℕ). able_at m' k able.0 ≡ true) (before.1 ∙ sym after.1) able.2)),
        )

    -- After a run's 36.
    last-part : ((ran run.before left).answer.refusal ≡ 0 → ⊥) → Prints left (run ∷ []) U.results (part_of (pass_of rest m left) ++ [])
    unfolding underway-on
    last-part i =
        let d = D sheet line capacity memory h all n rest m left U in
        let on = underway-on sheet line capacity memory h all n rest m left U in
        let e = run-unfinished run.before left before.2 i in
        record {
          more = d.more;
          memory-then = (drained_of (ran (feeding rest m).mem left).mem).mem;
          sets_then = on.sets;
          rest_then = (feeding rest m).rest;
          reached = d.reached;
          in_order = on.in_order;
          ending = refusal_line (number_of Unfinished) 0;
          out-is =
              append-nil (part_of (pass_of rest m left)) ∙ part-refused rest m left i
              ∙ ap₂ (λ (a : List ℕ) (b : ℕ). a ++ refusal_line b 0) d.lines_are e;
          ends = inr (refl, (omega (arith, (counts.unfinished e).0), still-fires e));
          within = omega (arith, counts.lent);
        }

    -- A part and what follows it.
    then-more : (ran run.before left).answer.refusal ≡ 0 → (runs : List LentRun) (out : List ℕ)
        → Prints (left - count_of run) runs (underway-on sheet line capacity memory h all n rest m left U).results out
        → Prints left (run ∷ runs) U.results (part_of (pass_of rest m left) ++ out)
    unfolding underway-on
    then-more e runs out P =
        let d = D sheet line capacity memory h all n rest m left U in
        let z = append_assoc U.results d.more P.more in
        record {
          more = d.more ++ P.more;
          memory-then = P.memory-then;
          sets_then = P.sets_then;
          rest_then = P.rest_then;
          reached = subst (Reached start P.memory-then P.sets_then) z P.reached;
          in_order = P.in_order;
          ending = P.ending;
          out-is =
              ap₂ (λ (a b : List ℕ). a ++ b) (part-plain rest m left e ∙ d.lines_are) P.out-is
              ∙ sym (append_assoc (lines_of d.more) (lines_of P.more) P.ending)
              ∙ ap (λ (a : List ℕ). a ++ P.ending) (sym (lines-append d.more P.more));
          ends = ends_on left run runs (U.results ++ d.more ++ P.more) (U.results ++ (d.more ++ P.more)) P.ending counts.lent z P.ends;
          within = omega (arith, counts.lent, P.within);
        }

    abbrev p : Pass
    p = pass_of rest m left

    -- A repetition, and what is printed behind it with k sets left to take.
    abbrev Printed : ℕ → ℕ → Type 0
    Printed f k = Prints left (run ∷ runs_made f k p.rest p.mem p.left) U.results (part_of p ++ passes f k p.rest p.mem p.left)

    one-part : (f : ℕ) → 0 < n → n + left ≤ suc f
        → ((k : ℕ) (on : Underway sheet line capacity memory h all k p.rest p.mem) → k + p.left ≤ f
        → Prints p.left (runs_made f k p.rest p.mem p.left) on.results (passes f k p.rest p.mem p.left))
        → Printed f (remaining_after n p)
    unfolding pass_of
    one-part f some l later = go (ℕ_discrete (ran (feeding rest m).mem left).answer.refusal 0)
      where
        go : Dec ((ran (feeding rest m).mem left).answer.refusal ≡ 0) → Printed f (remaining_after n p)
        go (yes e) =
            let taken = (drained_of (ran (feeding rest m).mem left).mem).count in
            let less = less-to-do sheet line capacity memory h all n rest m left U some e in
            subst (Printed f) (sym (remaining-plain rest m left n e))
            (then-more e (runs_made f (n - taken) p.rest p.mem p.left) (passes f (n - taken) p.rest p.mem p.left)
            (later (n - taken) (underway-on sheet line capacity memory h all n rest m left U) (omega (arith, less, l))))
        go (no i) =
            subst (Printed f) (sym (remaining-refused rest m left n i))
            (subst (λ (rs : List LentRun). Prints left (run ∷ rs) U.results (part_of p ++ passes f 0 p.rest p.mem p.left))
            (sym (runs-over f p.rest p.mem p.left))
            (subst (λ (z : List ℕ). Prints left (run ∷ []) U.results (part_of p ++ z)) (sym (passes-over-any f p.rest p.mem p.left)) (last-part i)))

  abbrev PrintsFrom : ℕ → ℕ → List (List ℕ) → List ℕ → ℕ → List Result → Type 0
  PrintsFrom f n rest m left results = Prints left (runs_made f n rest m left) results (passes f n rest m left)

  over : (f : ℕ) (rest : List (List ℕ)) (m : List ℕ) (left : ℕ) (U : Underway sheet line capacity memory h all 0 rest m) → PrintsFrom f 0 rest m left U.results
  over f rest m left U =
      subst (λ (rs : List LentRun). Prints left rs U.results (passes f 0 rest m left)) (sym (runs-over f rest m left))
      (subst (Prints left [] U.results) (sym (passes-over-any f rest m left)) (at-end 0 rest m left U refl))

  prints : (f n : ℕ) (rest : List (List ℕ)) (m : List ℕ) (left : ℕ) (U : Underway sheet line capacity memory h all n rest m) → n + left ≤ f
      → PrintsFrom f n rest m left U.results
  prints zero zero rest m left U l = over 0 rest m left U
  prints zero (suc n) rest m left U l = absurd (omega arith)
  prints (suc f) zero rest m left U l = over (suc f) rest m left U
  prints (suc f) (suc n) rest m left U l =
      subst (λ (rs : List LentRun). Prints left rs U.results (passes (suc f) (suc n) rest m left)) (sym (runs-again f rest m left n))
      (subst
      (Prints left
      (lent_run (feeding rest m).mem left ∷ runs_made f (remaining_after (suc n) (pass_of rest m left)) (pass_of rest m left).rest (pass_of rest m left).mem (pass_of rest m left).left)
      U.results)
      (sym (passes-again f rest m left n))
      (one-part (suc n) rest m left U f (omega arith) l
      (λ k on b. prints f k (pass_of rest m left).rest (pass_of rest m left).mem (pass_of rest m left).left on b)))

-- ---- the program
module _ (formula line file : List ℕ) (ok : verdict_of formula line ≡ Ok tt) (small : length file ≤ most_set_bytes) (ss : List (List ℕ))
    (good : sets_of (letters_of (formula_of formula) line) file ≡ sets ss) where
  abbrev begins : (started formula line link_capacity blank_memory).answer.refusal ≡ 0
  begins = starts formula line ok blank_memory blank-long

  -- The runs that the program makes.
  abbrev runs-made : List LentRun
  runs-made = runs_made (length ss + all_firings) (length ss) ss (started formula line link_capacity blank_memory).mem all_firings

  P : Prints formula line link_capacity blank_memory begins ss all_firings runs-made []
      (passes (length ss + all_firings) (length ss) ss (started formula line link_capacity blank_memory).mem all_firings)
  unfolding underway
  P =
      prints formula line link_capacity blank_memory begins ss (length ss + all_firings) (length ss) ss (started formula line link_capacity blank_memory).mem all_firings
      (underway formula line ok blank_memory file blank-long ss good) (omega arith)

  no_more : length P.more ≤ length P.sets_then
  no_more =
      omega (
        arith,
        (demand-3 formula line link_capacity blank_memory begins P.reached.calls).none-invented,
        ap length P.reached.results-are,
        ap length P.reached.sets-are,
      )

  fits : length P.more ≤ length ss
  fits = omega (arith, no_more, sym (length-append P.sets_then P.rest_then) ∙ ap length P.in_order)

  set_at : (k : ℕ) → k < length P.sets_then → get_or (sets_pushed P.reached.calls (started formula line link_capacity blank_memory).mem) k [] ≡ get_or ss k []
  set_at k l =
      ap (λ (z : List (List ℕ)). get_or z k []) P.reached.sets-are
      ∙ sym (get_or-append P.sets_then P.rest_then [] k l) ∙ ap (λ (z : List (List ℕ)). get_or z k []) P.in_order

  own-result : (k : ℕ) → k < length P.more → ((j : ℕ) → j ≤ k → Ends formula line (get_or ss j [])) → (rounds : ℕ) → Enough formula line (get_or ss k []) rounds
      → get_or P.more k (result 0 []) ≡ yielded (evaluation_of formula line (get_or ss k []) rounds)
  own-result k l end rounds enough =
      let here = set_at k (omega (arith, no_more)) in
      ap (λ (z : List Result). get_or z k (result 0 [])) (sym P.reached.results-are)
      ∙ (demand-3 formula line link_capacity blank_memory begins P.reached.calls).own k (omega (arith, ap length P.reached.results-are))
      (λ j b. subst (Ends formula line) (sym (set_at j (omega (arith, no_more)))) (end j b)) rounds (subst (λ (z : List ℕ). Enough formula line z rounds) (sym here) enough)
      ∙ ap (λ (z : List ℕ). yielded (evaluation_of formula line z rounds)) here

  last_line : EndsBy formula line link_capacity blank_memory begins ss all_firings runs-made P.more P.ending
      → ((length P.more ≡ length ss) × (P.ending ≡ [])) ⊎ (P.ending ≡ refusal_line (number_of Unfinished) 0)
  last_line (inl a) = inl a
  last_line (inr b) = inr b.0

  own-lines : OwnLines formula line ss (passes (length ss + all_firings) (length ss) ss (started formula line link_capacity blank_memory).mem all_firings)
  own-lines = record { results = P.more; ending = P.ending; out-is = P.out-is; few = fits; own = own-result; ends = last_line P.ends }

  -- THE PROGRAM PRINTS EACH SET'S OWN VERDICT.
  pub program-own-lines : (out : List ℕ) × OwnLines formula line ss out
      × (bench_output formula line file ≡ head_line (figures_of formula).inputs (figures_of formula).results (length ss) ++ out)
  program-own-lines =
      (passes (length ss + all_firings) (length ss) ss (started formula line link_capacity blank_memory).mem all_firings, own-lines, output-is formula line file ok small ss good)

  -- Where direct evaluation of every set ends, the lines are the sets' verdicts in the file's order, of all of them or of the first ones.
  pub program-verdicts : (rounds : List ℕ → ℕ) → ((j : ℕ) → j < length ss → Enough formula line (get_or ss j []) (rounds (get_or ss j [])))
      → bench_output formula line file
      ≡ head_line (figures_of formula).inputs (figures_of formula).results (length ss)
      ++ (verdict_lines formula line rounds (take (length program-own-lines.1.results) ss) ++ program-own-lines.1.ending)
  program-verdicts rounds enough =
      let o = program-own-lines.1 in
      program-own-lines.2
      ∙ ap (λ (z : List ℕ). head_line (figures_of formula).inputs (figures_of formula).results (length ss) ++ z)
      (o.out-is
      ∙ ap (λ (z : List ℕ). z ++ o.ending)
      (lines-own formula line rounds o.results ss o.few
      (λ k l. o.own k l (λ j b. (rounds (get_or ss j []), enough j (omega (arith, o.few)))) (rounds (get_or ss k [])) (enough k (omega (arith, o.few))))))

  -- ---- "It uses capacity 2 and 1,000,000 firings in all"
  -- The runs' counts are no more than 1,000,000 together.
  pub uses-at-most : firings_of runs-made ≤ all_firings
  uses-at-most = P.within

  -- WHERE 36 IS PRINTED LAST, ALL FIRINGS ARE USED: the counts of the runs sum to 1,000,000, and "something can still fire after the lent firings".
  pub unfinished-uses-all : program-own-lines.1.ending ≡ refusal_line (number_of Unfinished) 0 → UsesAll all_firings runs-made
  unfolding program-own-lines P own-lines prints
  unfinished-uses-all e = go P.ends
    where
      go : EndsBy formula line link_capacity blank_memory begins ss all_firings runs-made P.more P.ending → UsesAll all_firings runs-made
      go (inl a) = absurd (omega (arith, ap length (sym e ∙ a.1), refusal-length (number_of Unfinished) 0))
      go (inr b) = b.1
