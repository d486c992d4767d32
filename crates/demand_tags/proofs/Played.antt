-- Laws of specs/Played.antt, and what only they need.
use Rattle.std.specs.Prelude.{ℕ, ◌≤◌, ◌<◌, ◌≡◌, ◌⊎◌, get_or}
use Rattle.std.proofs.Common.{sym, ◌∙◌, arith}
use Rattle.std.proofs.Math.Path.{ap, subst}
use Rattle.std.proofs.Math.Logic.{inl, inr}
use mathlib.Core.List.{List, []}
use Rattle.std.proofs.Math.Option.{some}
use Rattle.std.proofs.Math.ListN.{length}
use Rattle.std.proofs.Math.Seq.{take-length}
use Rattle.value.specs.declared.Value.{Value}
use Rattle.value_sets.specs.Sets.{set_values}
use Rattle.network.specs.Net.{Token}
use Rattle.formula.specs.declared.Refusal.TheVariants.{NotAble}
use Rattle.formula.specs.Refusals.{number_of}
use Rattle.formula.specs.Tree.{formula_of}
use Rattle.formula.specs.Faults.{letters_of}
use Rattle.graph.specs.Translation.{made_of}
use Rattle.meaning.specs.Evaluate.{evaluation_of}
use Rattle.meaning.specs.Loopless.{Loopless}
use Rattle.theory_verdicts.specs.Running as Abstract
use Rattle.theory_verdicts.specs.Running.{start_of}
use Rattle.theory_firings.specs.SameFirings.{AtRest}
use Rattle.theory_rest.proofs.RestEmpty.{rested-empty}
use Rattle.machine_queue.specs.Stretch.{waiting}
use Rattle.machine_layout.specs.Layout.{operators_of, least_size, need}
use Rattle.machine_firing.specs.LinkLaws.{link_part}
use Rattle.machine_calls.specs.Calls.{fired, taken}
use Rattle.machine_start.specs.Start.{started}
use Rattle.machine_start.specs.StartLaws.{AcceptedStart, accepted-start}
use Rattle.demand_begin.proofs.StartedStands.{accepted-stands}
use Rattle.demand.specs.MemoryCalls.{Result, result, fire, take, answer_of, done, memory_after_all, sets_pushed, results_taken}
use Rattle.demand.specs.Claim.{Enough, yielded}
use Rattle.demand.specs.Agree.{CallsAgree}
use Rattle.demand.proofs.Agreed.{calls-agree}
use Rattle.demand.proofs.Followed.{Follows}
use Rattle.demand.proofs.OnMemory as OnMemory
use Rattle.demand.proofs.Alone.{own_alone}
use Rattle.demand.proofs.Demand3.{demand-3}
use Rattle.demand_tags.specs.Plays.{Plays}
use Rattle.demand_tags.specs.Played.{Still}

module _ (sheet line lent : List ℕ) (h : (started sheet line 1 lent).answer.refusal ≡ 0) (p : List ℕ) (sets : List (List ℕ)) (results : List Result)
    (P : Plays (started sheet line 1 lent).mem p sets results) where
  abbrev begun : List ℕ
  begun = (started sheet line 1 lent).mem

  accepted : AcceptedStart sheet line 1 lent
  accepted = accepted-start sheet line 1 lent h

  -- Each result is that of its set.
  pub played-own : (k : ℕ) → k < length results → (rounds : ℕ) → Enough sheet line (get_or sets k []) rounds
      → get_or results k (result 0 []) ≡ yielded (evaluation_of sheet line (get_or sets k []) rounds)
  played-own =
      subst (λ (s : List (List ℕ)). (k : ℕ) → k < length results → (rounds : ℕ) → Enough sheet line (get_or s k []) rounds
      → get_or results k (result 0 []) ≡ yielded (evaluation_of sheet line (get_or s k []) rounds)) P.pushes
      (subst (λ (r : List Result). (k : ℕ) → k < length r → (rounds : ℕ) → Enough sheet line (get_or (sets_pushed P.calls begun) k []) rounds
      → get_or r k (result 0 []) ≡ yielded (evaluation_of sheet line (get_or (sets_pushed P.calls begun) k []) rounds)) P.takes
      (own_alone sheet line 1 lent h P.calls))

  -- ---- the abstract calls that follow
  abbrev now : List ℕ
  now = memory_after_all P.calls begun

  agree : CallsAgree (formula_of sheet) (letters_of (formula_of sheet) line) 1
  agree = calls-agree sheet accepted.admissible (letters_of (formula_of sheet) line) 1 accepted.some accepted.most

  abbrev F : Follows (formula_of sheet) (letters_of (formula_of sheet) line) 1 (start_of (formula_of sheet)) now (sets_pushed P.calls begun) (results_taken P.calls begun)
  F = OnMemory.F sheet line accepted.admissible accepted.kinded 1 accepted.some accepted.most agree begun (accepted-stands sheet line 1 lent h) P.calls

  as-many-sets : length (sets_pushed P.calls begun) ≡ length (Abstract.pushed (formula_of sheet) 1 F.calls)
  as-many-sets =
      OnMemory.as-many-sets sheet line accepted.admissible accepted.kinded 1 accepted.some accepted.most agree begun (accepted-stands sheet line 1 lent h) P.calls

  as-many-results : length (results_taken P.calls begun) ≡ length (Abstract.taken (formula_of sheet) 1 F.calls)
  as-many-results =
      OnMemory.as-many-results sheet line accepted.admissible accepted.kinded 1 accepted.some accepted.most agree begun (accepted-stands sheet line 1 lent h) P.calls

  -- A set that was pushed can be read.
  pub played-reads : (k : ℕ) → k < length sets → (v : List Value) × (set_values (letters_of (formula_of sheet) line) (get_or sets k []) ≡ some v)
  played-reads k l =
      let r =
      OnMemory.read sheet line accepted.admissible accepted.kinded 1 accepted.some accepted.most agree begun (accepted-stands sheet line 1 lent h) P.calls k
      (omega (arith, as-many-sets, ap length P.pushes)) in
      subst (λ (s : List (List ℕ)). (v : List Value) × (set_values (letters_of (formula_of sheet) line) (get_or s k []) ≡ some v)) P.pushes (_, r)

  -- ---- when nothing can fire
  module _ (quiet : Still p) where
    still : (i : ℕ) → i < operators_of now → (answer_of (fire (length now) i) now).refusal ≡ number_of NotAble
    unfolding answer_of done
    still =
        subst (λ (m : List ℕ). (i : ℕ) → i < operators_of m → (answer_of (fire (length m) i) m).refusal ≡ number_of NotAble) (sym P.ends)
        (λ i l. ap (λ (m : List ℕ). (fired m i).answer.refusal) (take-length p) ∙ quiet i l)

    -- All is taken, or a take is accepted.
    pub played-ready : (length results ≡ length sets) ⊎ ((out : List ℕ) → 80 ≤ length out → (taken p out).answer.refusal ≡ 0)
    unfolding answer_of done
    played-ready = go ((demand-3 sheet line 1 lent h P.calls).ready still)
      where
        go : (length (results_taken P.calls begun) ≡ length (sets_pushed P.calls begun))
            ⊎ ((n : ℕ) (out : List ℕ) → need least_size ≤ n → 80 ≤ length out → (answer_of (take n out) now).refusal ≡ 0)
            → (length results ≡ length sets) ⊎ ((out : List ℕ) → 80 ≤ length out → (taken p out).answer.refusal ≡ 0)
        go (inl e) = inl (ap length (sym P.takes) ∙ e ∙ ap length P.pushes)
        go (inr f) =
            inr (λ out room.
            ap (λ (m : List ℕ). (taken m out).answer.refusal) (sym (take-length now ∙ P.ends)) ∙ f (length now) out F.stands.long room)

    -- Where all is taken, no token is left.
    pub played-empty : Loopless (formula_of sheet) → length results ≡ length sets → (l : ℕ) → l < (made_of (formula_of sheet)).links → waiting (link_part p least_size l) ≡ 0
    played-empty loopless all l below =
        let rest : AtRest (formula_of sheet) 1 F.calls =
        record {
          still =
              OnMemory.no_step sheet line accepted.admissible accepted.kinded 1 accepted.some accepted.most agree begun (accepted-stands sheet line 1 lent h) P.calls still;
          all-taken = omega (arith, as-many-sets, as-many-results, all, ap length P.pushes, ap length P.takes);
        } in
        ap (λ (m : List ℕ). waiting (link_part m least_size l)) (sym P.ends)
        ∙ (F.stands.waits l below).counted
        ∙ ap (λ (ts : List Token). length ts) (rested-empty sheet accepted.admissible loopless 1 accepted.some F.calls rest l below)
