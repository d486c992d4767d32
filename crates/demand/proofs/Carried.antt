-- Laws of specs/Carried.antt, and what only they need.
use Rattle.std.specs.Prelude.{ℕ, ◌≤◌, ◌<◌, ◌≡◌, length, drop, take as first_of}
use Rattle.std.proofs.Math.Path.{refl, ap, ap₂}
use Rattle.std.proofs.Common.{subst, ◌∙◌, arith, lt-ltb}
use mathlib.Core.List.{List, [], ◌∷◌, ◌++◌, map}
use Rattle.std.proofs.Math.Option.{some}
use Rattle.std.proofs.Math.Decide.{dec_lt}
use Rattle.value.specs.declared.Value.{Value}
use Rattle.network.specs.Net.{Links, Able, act, label}
use Rattle.theory_pieces.specs.Tape.{Step, pushing, firing, taking, sets_of}
use Rattle.formula.specs.Tree.{Exp}
use Rattle.graph.specs.Translation.{made_of}
use Rattle.theory_wiring.proofs.Machine.{net-past}
use Rattle.value_sets.specs.Sets.{set_values}
use Rattle.value_sets.proofs.Sets.{values-set}
use Rattle.machine_layout.specs.Layout.{size_of, need, operators_of}
use Rattle.machine_firing.specs.Fire.{able_at, fired_at}
use Rattle.machine_valid.specs.Below.{all_below}
use Rattle.machine_calls.specs.declared.Answer.{Answer}
use Rattle.machine_calls.specs.Calls.{Outcome, outcome, Handed, handed as hands, answers, size_in, result_ready, written, pushed_memory, fired, taken_memory, taken}
use Rattle.machine_calls.specs.CallLaws.{fired-accepted, taken-accepted}
use Rattle.theory_verdicts.specs.Running.{places, operator_at, push_of, take_of, demand_of, handed}
use Rattle.theory_verdicts.proofs.RunningLaws.{Made-in-turn}
use Rattle.demand_view.specs.Stands.{Stands}
use Rattle.demand_view.proofs.FireCall.{stands-size}
use Rattle.demand_ends.proofs.Push.{push-accepted, stands-pushed}
use Rattle.demand_begin.proofs.Lent.{stands-lent, stands-behind}
use Rattle.demand.specs.MemoryCalls.{Call, push, fire, take, Result, accepted, answer_of, memory_after, set_of, result_of, answers_of, sets_pushed, results_taken}
use Rattle.demand.specs.Agree.{CallsAgree}
use Rattle.demand.proofs.Followed.{EachRead}
use Rattle.demand.specs.Followed.{shown_tokens}
use Rattle.demand.proofs.FollowTake.{take-shows}
use Rattle.demand.specs.Carried.{bytes_of_set, on_bytes}

module _ (x : Exp) (kinds : List ℕ) (capacity : ℕ) (low : 1 ≤ capacity) (high : capacity ≤ 16) (A : CallsAgree x kinds capacity) (lent : ℕ) (enough : need (size_of capacity) ≤ lent)
    (out : List ℕ) (room : 80 ≤ length out) where
  -- ---- one step
  module _ (m : List ℕ) (q : Links) (H : Stands (made_of x) kinds capacity m q) where
    abbrev part : List ℕ
    part = first_of lent m

    L : Stands (made_of x) kinds capacity part q
    L = stands-lent (made_of x) A.sound kinds capacity m q H lent enough

    -- In what the call leaves, the machine stands with the links after the step. It pushes these sets, takes these results and is accepted.
    abbrev Makes : Call → Step → List (List ℕ) → List Result → Type 0
    Makes c s sets results = Stands (made_of x) kinds capacity (memory_after c m) (act (demand_of x s) q) × (set_of c m ≡ sets) × (result_of c m ≡ results) × ((answer_of c m).refusal ≡ 0)

    behind : (b : List ℕ) (r : Links) → Stands (made_of x) kinds capacity b r → Stands (made_of x) kinds capacity (b ++ drop lent m) r
    behind b r K = stands-behind (made_of x) A.sound kinds capacity b r K (drop lent m)

    push-carried : (set : List ℕ) (v : List Value) → set_values kinds set ≡ some v → Able (places capacity) (push_of x v) q → Makes (push lent set) (pushing v) (set ∷ []) []
    unfolding memory_after set_of result_of answer_of accepted
    push-carried set v r a =
        let I = values-set kinds set v r in
        let e = push-accepted (made_of x) A.sound kinds capacity low high part q L set v I (A.good part q L) a in
        rw e (behind (pushed_memory part set) (act (push_of x v) q) (stands-pushed (made_of x) A.sound kinds capacity low high part q L set v I a), refl, refl, ap (λ (o : Outcome). o.answer.refusal) e)

    fire-carried : (i : ℕ) → Able (places capacity) (operator_at x i) q → Makes (fire lent i) (firing i) [] []
    unfolding memory_after set_of result_of answer_of
    fire-carried i a = go (dec_lt i (length (made_of x).operators))
      where
        size_is : size_in part ≡ size_of capacity
        size_is = stands-size (made_of x) A.sound kinds capacity low high part q L

        go : Dec (i < length (made_of x).operators) → Makes (fire lent i) (firing i) [] []
        go (yes l) =
            let b = A.able-bytes part q L i l a in
            let e : fired part i ≡ outcome (answers 0 0) (fired_at part (size_of capacity) i)
            = fired-accepted part (A.good part q L) i (lt-ltb i (operators_of part) (omega (arith, L.operators-are))) (ap (λ (z : ℕ). able_at part z i) size_is ∙ b)
            ∙ ap (λ (z : ℕ). outcome (answers 0 0) (fired_at part z i)) size_is in
            rw e (behind (fired_at part (size_of capacity) i) (act (operator_at x i) q) (A.fired part q L i l b), refl, refl, ap (λ (o : Outcome). o.answer.refusal) e)
        go (no n) = absurd (subst (λ d. Able (places capacity) d q) (net-past (made_of x).operators i (omega arith)) a)

    take-carried : Able (places capacity) (take_of x) q → Makes (take lent out) taking [] (shown_tokens (label (take_of x) q) ∷ [])
    unfolding memory_after set_of result_of answer_of accepted
    take-carried a =
        let t = A.take-ready part q L a in
        let s = stands-size (made_of x) A.sound kinds capacity low high part q L in
        let e : taken part out ≡ hands (answers 0 (length (made_of x).results)) (taken_memory part) (written 16 part (size_of capacity) (length (made_of x).results) out)
        = taken-accepted part (A.good part q L) out room t.0 (ap₂ (λ (z n : ℕ). all_below n (result_ready part z)) s L.results-are ∙ t.1)
        ∙ ap₂ (λ (z n : ℕ). hands (answers 0 n) (taken_memory part) (written 16 part z n out)) s L.results-are in
        rw e (
          behind (taken_memory part) (act (take_of x) q) (A.taken part q L t.0 t.1),
          refl,
          ap (λ (r : Result). r ∷ []) (take-shows x kinds capacity low high A m q H lent out room L t.0 t.1),
          ap (λ (h : Handed). h.answer.refusal) e,
        )

  -- ---- steps one after another
  -- What calls on bytes do that make these steps, from this memory and these links.
  pub record Carried (w : List Step) (m : List ℕ) (q : Links) : Type 0 where
    pub pushes : sets_pushed (map (on_bytes lent out) w) m ≡ map bytes_of_set (sets_of w)
    pub takes : results_taken (map (on_bytes lent out) w) m ≡ map shown_tokens (handed x w q)
    pub none-refused : map (λ (a : Answer). a.refusal) (answers_of (map (on_bytes lent out) w) m) ≡ map (λ (s : Step). 0) w

  step_then : (s : Step) (w : List Step) (m : List ℕ) (q : Links) (H : Stands (made_of x) kinds capacity m q) (sets : List (List ℕ)) (results : List Result)
      → Makes m q H (on_bytes lent out s) s sets results → Carried w (memory_after (on_bytes lent out s) m) (act (demand_of x s) q)
      → sets ++ map bytes_of_set (sets_of w) ≡ map bytes_of_set (sets_of (s ∷ w)) → results ++ map shown_tokens (handed x w (act (demand_of x s) q)) ≡ map shown_tokens (handed x (s ∷ w) q)
      → Carried (s ∷ w) m q
  unfolding sets_pushed results_taken answers_of
  step_then s w m q H sets results p C e f =
      record {
        pushes = ap₂ (λ (u v : List (List ℕ)). u ++ v) p.1 C.pushes ∙ e;
        takes = ap₂ (λ (u v : List Result). u ++ v) p.2 C.takes ∙ f;
        none-refused = ap₂ (λ (u : ℕ) (v : List ℕ). u ∷ v) p.3 C.none-refused;
      }

  pub carried : (w : List Step) (m : List ℕ) (q : Links) → Stands (made_of x) kinds capacity m q → Made-in-turn x capacity w q
      → EachRead x kinds capacity (map bytes_of_set (sets_of w)) (sets_of w) → Carried w m q
  unfolding sets_pushed results_taken answers_of
  carried [] m q H a r = record { pushes = refl; takes = refl; none-refused = refl }
  carried (pushing v ∷ w) m q H a r =
      let p = push-carried m q H (bytes_of_set v) v r.0 a.0 in
      step_then (pushing v) w m q H (bytes_of_set v ∷ []) [] p (carried w (memory_after (push lent (bytes_of_set v)) m) (act (push_of x v) q) p.0 a.1 r.1) refl refl
  carried (firing i ∷ w) m q H a r =
      let p = fire-carried m q H i a.0 in
      step_then (firing i) w m q H [] [] p (carried w (memory_after (fire lent i) m) (act (operator_at x i) q) p.0 a.1 r) refl refl
  carried (taking ∷ w) m q H a r =
      let p = take-carried m q H a.0 in
      step_then taking w m q H [] (shown_tokens (label (take_of x) q) ∷ []) p (carried w (memory_after (take lent out) m) (act (take_of x) q) p.0 a.1 r) refl refl
