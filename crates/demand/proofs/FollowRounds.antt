-- A run by rounds on bytes, its 36 included, is followed by the abstract machine's firings in turn, as many rounds as were lent, where it was lent enough memory,
-- and by none where it was not; it answers no 31. Document 02, Job 7: "Demand 3 covers this run also." Assumes the laws of `CallsAgree`.
use Prim.Native.Nat.{ℕ, zero, suc, ◌≤◌, ◌<◌}
use Rattle.std.specs.Prelude.{◌≡◌, refl, Bool, length, drop, take as first_of}
use Rattle.std.proofs.Common.{sym, ap, ap₂, ◌∙◌, take-append-drop}
use Rattle.std.proofs.Math.Path.{subst}
use Rattle.std.proofs.Math.Bool.{true, false}
use mathlib.Core.List.{List, [], ◌∷◌, ◌++◌, map}
use native.Mathlib.Omega.{arith}
use Rattle.std.proofs.Math.Decide.{dec_lt}
use Rattle.value.specs.Operators.{pick}
use Rattle.network.specs.Net.{Links, Able, act}
use Rattle.theory_pieces.specs.Tape.{Step, firing, sets_of}
use Rattle.formula.specs.Tree.{Exp}
use Rattle.formula.specs.declared.Refusal.TheVariants.{Memory, Unfinished, Altered}
use Rattle.formula.specs.Refusals.{number_of}
use Rattle.graph.specs.Assembly.{up_from}
use Rattle.graph.specs.Translation.{made_of}
use Rattle.machine_layout.specs.Layout.{size_of, need}
use Rattle.machine_runs.specs.Run.{still_at}
use Rattle.machine_rounds.specs.Rounds.{Rounded, rounds_from, Outcome, outcome, answers, ended, ran_rounds}
use Rattle.machine_rounds.specs.RoundLaws.{rounds-refused, rounds-ended}
use Rattle.theory_verdicts.specs.Running.{Call, fires, places, dec_able, operator_at, accept, handed, after_steps, steps_of, steps_from}
use Rattle.demand_view.specs.Stands.{Stands}
use Rattle.demand_view.proofs.FireCall.{stands-size}
use Rattle.demand_begin.proofs.Lent.{stands-lent, stands-behind, short-refused}
use Rattle.demand.specs.Agree.{CallsAgree}
use Rattle.demand.proofs.Followed.{Follows, EachRead, follows-none}
use Rattle.demand.specs.Followed.{Unaltered, shown_tokens}
use Rattle.demand.specs.RoundSteps.{rounds_calls, roundsSteps, Same-rounds}
use Rattle.demand.proofs.RoundSteps.{rounds-same}

-- ---- rounds make no push and no take
module _ (x : Exp) (capacity : ℕ) where
  abbrev pub Only-fires : List Call → Type 0
  Only-fires calls = (q : Links) → (sets_of (steps_from x capacity calls q) ≡ []) × (handed x (steps_from x capacity calls q) q ≡ [])

  turns-only-fire : (turns : List ℕ) (rest : List Call) → Only-fires rest → Only-fires (map fires turns ++ rest)
  unfolding steps_from steps_of
  turns-only-fire [] rest o q = o q
  turns-only-fire (a ∷ turns) rest o q = go (dec_able (places capacity) (operator_at x a) q) (turns-only-fire turns rest o)
    where
      later : Links → List Step
      later = steps_from x capacity (map fires turns ++ rest)

      go : (d : Dec (Able (places capacity) (operator_at x a) q)) → Only-fires (map fires turns ++ rest)
          → (sets_of (accept d (firing a) ++ later (after_steps x (accept d (firing a)) q)) ≡ [])
          × (handed x (accept d (firing a) ++ later (after_steps x (accept d (firing a)) q)) q ≡ [])
      go (yes p) ih = ih (act (operator_at x a) q)
      go (no n) ih = ih q

  pub rounds-only-fire : (r : ℕ) → Only-fires (rounds_calls x r)
  unfolding rounds_calls steps_from
  rounds-only-fire zero q = (refl, refl)
  rounds-only-fire (suc r) q = turns-only-fire (up_from 0 (length (made_of x).operators)) (rounds_calls x r) (rounds-only-fire r) q

-- ---- the call
module _ (x : Exp) (kinds : List ℕ) (capacity : ℕ) (low : 1 ≤ capacity) (high : capacity ≤ 16) (A : CallsAgree x kinds capacity) (m : List ℕ)
    (q : Links) (H : Stands (made_of x) kinds capacity m q) (lent : ℕ) where
  abbrev lentPart : List ℕ
  lentPart = first_of lent m

  abbrev size : ℕ
  size = size_of capacity

  abbrev count : ℕ
  count = length (made_of x).operators

  abbrev made : ℕ → Rounded
  made rounds = rounds_from size count rounds lentPart 0 0

  abbrev pub Rounds-follow : Outcome → Type 0
  Rounds-follow o = Follows x kinds capacity q (o.mem ++ drop lent m) [] [] × Unaltered o.answer.refusal

  refused-follows : (r : ℕ) → Unaltered r → Rounds-follow (outcome (answers r 0 0) lentPart)
  refused-follows r u = rw (take-append-drop lent m) (follows-none x kinds capacity q m H, u)

  module _ (enough : need size ≤ lent) (rounds : ℕ) where
    lent-stands : Stands (made_of x) kinds capacity lentPart q
    lent-stands = stands-lent (made_of x) A.sound kinds capacity m q H lent enough

    -- Lent enough, the call is its rounds.
    pub rounds-accepted : ran_rounds lentPart rounds ≡ ended (made rounds) size count
    rounds-accepted =
        rounds-ended lentPart rounds (A.good lentPart q lent-stands)
        ∙ ap₂ (λ (z n : ℕ). ended (rounds_from z n rounds lentPart 0 0) z n) (stands-size (made_of x) A.sound kinds capacity low high lentPart q lent-stands) lent-stands.operators-are

    -- Its counts and the lent bytes at its end are those of the abstract rounds.
    pub rounds-counted : Same-rounds x A.sound kinds capacity low rounds (ran_rounds lentPart rounds).answer.rounds (ran_rounds lentPart rounds).answer.firings q (ran_rounds lentPart rounds).mem
    unfolding ended
    rounds-counted =
        subst (λ (o : Outcome). Same-rounds x A.sound kinds capacity low rounds o.answer.rounds o.answer.firings q o.mem) (sym rounds-accepted)
        (rounds-same x A.sound kinds capacity low rounds lentPart q lent-stands)

    -- The whole memory stands with the links after as many abstract rounds as were lent.
    pub rounds-stand : Stands (made_of x) kinds capacity ((ran_rounds lentPart rounds).mem ++ drop lent m) (after_steps x (roundsSteps x capacity rounds q) q)
    rounds-stand =
        let C = rounds-counted in
        subst (λ (w : List Step). Stands (made_of x) kinds capacity ((ran_rounds lentPart rounds).mem ++ drop lent m) (after_steps x w q)) (sym C.lent_same)
        (stands-behind (made_of x) A.sound kinds capacity (ran_rounds lentPart rounds).mem (after_steps x (roundsSteps x capacity (ran_rounds lentPart rounds).answer.rounds q) q) C.stands (drop lent m))

    answered : Unaltered (ran_rounds lentPart rounds).answer.refusal
    unfolding ended
    answered = subst (λ (o : Outcome). Unaltered o.answer.refusal) (sym rounds-accepted) (go (still_at (made rounds).mem size count))
      where
        go : (b : Bool) → Unaltered (pick b 0 (number_of Unfinished))
        go true = λ (z : 0 ≡ number_of Altered). absurd (omega arith)
        go false = omega arith

    enough-follows : Rounds-follow (ran_rounds lentPart rounds)
    enough-follows =
        let p = rounds-only-fire x capacity rounds q in (
          record {
            calls = rounds_calls x rounds;
            stands = rounds-stand;
            reads = subst (EachRead x kinds capacity []) (sym p.0) tt;
            shows = ap (map shown_tokens) (sym p.1);
          },
          answered,
        )

  -- THE CALL is followed.
  pub rounds-follow : (rounds : ℕ) → Rounds-follow (ran_rounds lentPart rounds)
  rounds-follow rounds = go (dec_lt lent (need size))
    where
      go : Dec (lent < need size) → Rounds-follow (ran_rounds lentPart rounds)
      go (yes h) =
          let st = short-refused (made_of x) kinds capacity m q low high H lent h in
          subst Rounds-follow (sym (rounds-refused lentPart rounds (λ z. absurd (omega (arith, st, z))) ∙ ap (λ (r : ℕ). outcome (answers r 0 0) lentPart) st))
          (refused-follows (number_of Memory) (omega arith))
      go (no h) = enough-follows (omega arith) rounds
