-- Demand 3 of the memory from demand 3 of the network (theory_verdicts/specs/Verdicts `alone-verdict`, `demand-3`): a list of calls on bytes is followed by one of abstract calls
-- (FollowAll), and what direct evaluation of bytes yields are the abstract verdicts (Evaluations). Assumes the laws of `CallsAgree` and a memory in which the
-- machine of an admissible sheet, whose kinds line passes 17 and 18, stands as started.
use Rattle.std.specs.Prelude.{ℕ, zero, suc, ◌≤◌, ◌<◌, ◌≡◌, refl, ◌⊎◌, true, get_or, take as first_of}
use Rattle.std.proofs.Math.Path.{sym, ap}
use Rattle.std.proofs.Common.{ap₂, subst, ◌∙◌, arith, lt-ltb}
use Rattle.std.proofs.Math.Logic.{inl, inr}
use mathlib.Core.List.{List, [], ◌∷◌, map}
use Rattle.std.proofs.Math.Option.{some}
use Rattle.std.proofs.Math.Decide.{dec_lt}
use Rattle.std.proofs.Math.ListN.{length}
use Rattle.std.proofs.lemmas.List.{length-map}
use Rattle.std.proofs.Math.Seq.{take-length}
use Rattle.value.specs.declared.Value.{Value}
use Rattle.network.specs.Net.{Token, Links, Able}
use Rattle.theory_pieces.specs.Sets.{tokens-of}
use Rattle.theory_pieces.specs.Tape.{Step, firing, taking}
use Rattle.formula.specs.declared.Refusal.TheVariants.{NotAble}
use Rattle.formula.specs.Refusals.{number_of}
use Rattle.formula.specs.Tree.{Exp, formula_of}
use Rattle.formula.specs.Faults.{letters_of}
use Rattle.formula.specs.Acceptance.{Admissible, Kinded}
use Rattle.graph.specs.Translation.{made_of}
use Rattle.theory_wiring.proofs.Machine.{net-past}
use Rattle.meaning.specs.Evaluate.{evaluation_of}
use Rattle.value_sets.specs.Sets.{set_values}
use Rattle.machine_layout.specs.Layout.{operators_of, size_of, need}
use Rattle.machine_firing.specs.Fire.{able_at}
use Rattle.machine_valid.specs.Below.{all_below}
use Rattle.machine_calls.specs.declared.Answer.{Answer}
use Rattle.machine_calls.specs.Calls.{answers, result_ready, fired}
use Rattle.machine_calls.specs.CallLaws.{fired-accepted, taken-accepted}
use Rattle.theory_verdicts.specs.ResultSets.{values_in}
use Rattle.theory_verdicts.specs.Running as Abstract
use Rattle.theory_verdicts.specs.Running.{places, operator_at, take_of, start_of, dec_able, fires, accept, steps_of}
use Rattle.theory_verdicts.proofs.Verdicts as Verdicts
use Rattle.theory_verdicts.proofs.Demand3 as Abstractly
use Rattle.demand_view.specs.Stands.{Stands}
use Rattle.demand.specs.MemoryCalls.{Call, fire, take, Result, result, answer_of, memory_after_all, sets_pushed, results_taken}
use Rattle.demand.specs.Claim.{Enough, Ends, yielded, OwnVerdicts}
use Rattle.demand.specs.Evaluations.{shown}
use Rattle.demand.proofs.Evaluations.{enough-yields, yields-enough}
use Rattle.demand_begin.proofs.Lent.{stands-lent}
use Rattle.demand_view.proofs.FireCall.{stands-size}
use Rattle.demand.specs.Agree.{CallsAgree}
use Rattle.demand.specs.Followed.{shown_tokens}
use Rattle.demand.proofs.Followed.{Follows, read_count, read_at}
use Rattle.demand.proofs.FollowAll.{calls-follow, calls-unaltered}

-- ---- a call that can be made, and one that cannot
cannot-refused : {A : Type 0} (s : Step) (d : Dec A) → (A → ⊥) → accept d s ≡ []
cannot-refused s (yes p) n = absurd (n p)
cannot-refused s (no m) n = refl

accepted-can : {A : Type 0} (s : Step) (d : Dec A) → accept d s ≡ s ∷ [] → A
accepted-can s (yes p) e = p
accepted-can s (no n) e = let z : ◌≡◌ {A = ℕ} 0 1 = ap length e in absurd (omega arith)

-- ---- what a take shows
tokens-shown : (r : List Value) → values_in (tokens-of r) ≡ r
tokens-shown [] = refl
tokens-shown (v ∷ r) = ap {B = List Value} (λ w. v ∷ w) (tokens-shown r)

result-at : (f : List Token → Result) (tss : List (List Token)) (d : Result) (k : ℕ) → k < length tss → get_or (map f tss) k d ≡ f (get_or tss k [])
result-at f [] d k l = absurd (omega arith)
result-at f (t ∷ tss) d zero l = refl
result-at f (t ∷ tss) d (suc k) l = result-at f tss d k (omega arith)

-- ---- when each operator would get 34
-- Then none can fire on the links with which the machine stands.
module _ (x : Exp) (kinds : List ℕ) (capacity : ℕ) (low : 1 ≤ capacity) (high : capacity ≤ 16) (A : CallsAgree x kinds capacity)
    (memory : List ℕ) (q : Links) (H : Stands (made_of x) kinds capacity memory q)
    (still : (i : ℕ) → i < operators_of memory → (answer_of (fire (length memory) i) memory).refusal ≡ number_of NotAble) where
  able-fires : (i : ℕ) → i < length (made_of x).operators → able_at memory (size_of capacity) i ≡ true → answer_of (fire (length memory) i) memory ≡ answers 0 0
  unfolding answer_of
  able-fires i l a =
      let s = stands-size (made_of x) A.sound kinds capacity low high memory q H in
      ap (λ (m : List ℕ). (fired m i).answer) (take-length memory)
      ∙ ap (λ o. o.answer)
      (fired-accepted memory (A.good memory q H) i (lt-ltb i (operators_of memory) (omega (arith, H.operators-are)))
      (ap (λ (z : ℕ). able_at memory z i) s ∙ a))

  cannot-fire : (i : ℕ) → Able (places capacity) (operator_at x i) q → ⊥
  cannot-fire i a = go (dec_lt i (length (made_of x).operators))
    where
      go : Dec (i < length (made_of x).operators) → ⊥
      go (yes l) =
          let z : number_of NotAble ≡ 0
          = sym (still i (omega (arith, H.operators-are))) ∙ ap (λ (r : Answer). r.refusal) (able-fires i l (A.able-bytes memory q H i l a)) in
          absurd (omega arith)
      go (no n) = subst (λ d. Able (places capacity) d q) (net-past (made_of x).operators i (omega arith)) a

  pub still-links : (i : ℕ) → steps_of x capacity (fires i) q ≡ []
  unfolding steps_of
  still-links i = cannot-refused (firing i) (dec_able (places capacity) (operator_at x i) q) (cannot-fire i)

module _ (sheet line : List ℕ) (ok : Admissible sheet) (told : Kinded sheet line) (capacity : ℕ) (low : 1 ≤ capacity) (high : capacity ≤ 16)
    (A : CallsAgree (formula_of sheet) (letters_of (formula_of sheet) line) capacity)
    (start : List ℕ) (H : Stands (made_of (formula_of sheet)) (letters_of (formula_of sheet) line) capacity start (start_of (formula_of sheet))) (calls : List Call) where
  abbrev x : Exp
  x = formula_of sheet

  abbrev kinds : List ℕ
  kinds = letters_of (formula_of sheet) line

  pub F : Follows x kinds capacity (start_of x) (memory_after_all calls start) (sets_pushed calls start) (results_taken calls start)
  F = calls-follow x kinds capacity low high A calls start (start_of x) H

  abbrev sets : List (List Value)
  sets = Abstract.pushed x capacity F.calls

  abbrev results : List (List Token)
  results = Abstract.taken x capacity F.calls

  abbrev links : Links
  links = Abstract.standing x capacity F.calls

  abbrev memory : List ℕ
  memory = memory_after_all calls start

  abstractly : Abstract.OwnVerdicts x capacity F.calls
  abstractly = Abstractly.demand-3 sheet ok capacity low high F.calls

  pub as-many-results : length (results_taken calls start) ≡ length results
  as-many-results = ap length F.shows ∙ length-map results shown_tokens

  pub as-many-sets : length (sets_pushed calls start) ≡ length sets
  as-many-sets = read_count x kinds capacity (sets_pushed calls start) sets F.reads

  pub read : (j : ℕ) → j < length sets → set_values kinds (get_or (sets_pushed calls start) j []) ≡ some (get_or sets j [])
  read j l = read_at x kinds capacity (sets_pushed calls start) sets F.reads j l

  -- ---- the k-th result
  -- It is what direct evaluation yields for the k-th set, if that ends, whatever the sets before it do.
  pub own-verdict : (k : ℕ) → k < length (results_taken calls start) → (rounds : ℕ) → Enough sheet line (get_or (sets_pushed calls start) k []) rounds
      → get_or (results_taken calls start) k (result 0 []) ≡ yielded (evaluation_of sheet line (get_or (sets_pushed calls start) k []) rounds)
  own-verdict k l rounds enough =
      let lt : k < length results = omega (arith, as-many-results) in
      let y = enough-yields sheet line ok told (get_or (sets_pushed calls start) k []) (get_or sets k []) (read k (omega (arith, abstractly.none-invented))) rounds enough in
      ap (λ (z : List Result). get_or z k (result 0 [])) F.shows
      ∙ result-at shown_tokens results (result 0 []) k lt
      ∙ ap (λ (ts : List Token). shown (values_in ts)) (Verdicts.alone-verdict sheet ok capacity low F.calls k lt y.0 y.1)
      ∙ ap shown (tokens-shown y.0)
      ∙ sym y.2

  -- ---- when nothing can fire
  module _ (still : (i : ℕ) → i < operators_of memory → (answer_of (fire (length memory) i) memory).refusal ≡ number_of NotAble) where
    pub no_step : (i : ℕ) → steps_of x capacity (fires i) links ≡ []
    no_step = still-links x kinds capacity low high A memory links F.stands still

    -- Direct evaluation of the oldest untaken set ends, and so does that of every set before it.
    pub ends-when-still : (j : ℕ) → j ≤ length (results_taken calls start) → j < length (sets_pushed calls start) → Ends sheet line (get_or (sets_pushed calls start) j [])
    ends-when-still j most l =
        let z = Verdicts.ends-when-quiet sheet ok capacity low F.calls no_step j (omega (arith, as-many-sets)) (omega (arith, as-many-results)) in
        yields-enough sheet line ok told (get_or (sets_pushed calls start) j []) (get_or sets j []) (read j (omega (arith, as-many-sets))) z.0 z.1

    take-accepted : Able (places capacity) (take_of x) links → (lent : ℕ) (out : List ℕ) → need (size_of capacity) ≤ lent → 80 ≤ length out
        → (answer_of (take lent out) memory).refusal ≡ 0
    unfolding answer_of
    take-accepted a lent out h room =
        let L = stands-lent (made_of x) A.sound kinds capacity memory links F.stands lent h in
        let s = stands-size (made_of x) A.sound kinds capacity low high (first_of lent memory) links L in
        let r = A.take-ready (first_of lent memory) links L a in
        ap (λ o. o.answer.refusal)
        (taken-accepted (first_of lent memory) (A.good (first_of lent memory) links L) out room r.0
        (ap₂ (λ (z n : ℕ). all_below n (result_ready (first_of lent memory) z)) s L.results-are ∙ r.1))

    ready-when-still : (length (results_taken calls start) ≡ length (sets_pushed calls start))
        ⊎ ((lent : ℕ) (out : List ℕ) → need (size_of capacity) ≤ lent → 80 ≤ length out → (answer_of (take lent out) memory).refusal ≡ 0)
    unfolding steps_of
    ready-when-still = go (abstractly.ready no_step)
      where
        go : (length results ≡ length sets) ⊎ (accept (dec_able (places capacity) (take_of x) links) taking ≡ taking ∷ [])
            → (length (results_taken calls start) ≡ length (sets_pushed calls start))
            ⊎ ((lent : ℕ) (out : List ℕ) → need (size_of capacity) ≤ lent → 80 ≤ length out → (answer_of (take lent out) memory).refusal ≡ 0)
        go (inl e) = inl (as-many-results ∙ e ∙ sym as-many-sets)
        go (inr e) = inr (take-accepted (accepted-can taking (dec_able (places capacity) (take_of x) links) e))

  -- Demand 3 after this list of calls.
  pub own-verdicts-of-bytes : OwnVerdicts sheet line capacity start calls
  own-verdicts-of-bytes =
      record {
        own = λ k l ends. own-verdict k l;
        none-invented = omega (arith, abstractly.none-invented, as-many-results, as-many-sets);
        ready = ready-when-still;
        never-altered = calls-unaltered x kinds capacity low high A calls start (start_of x) H;
      }
