-- Laws of specs/Traced.antt, and what only they need.
use Prim.Native.Nat.{ℕ, zero, suc, ◌+◌, ◌≤◌, ◌<◌}
use Rattle.std.specs.Prelude.{◌≡◌, ◌≢◌, Bool, cond, eqb, ltb, length, drop, take as first_of}
use Rattle.std.proofs.Math.Path.{refl, sym, ap, ap₂, subst}
use Rattle.std.proofs.Common.{◌∙◌, arith, eq-eqb, ne_eqb, ltb-true, lt-ltb, le-ltb, take-append-drop, length-append}
use Rattle.std.proofs.Math.Bool.{true, false}
use mathlib.Core.List.{List, [], ◌∷◌, ◌++◌, append-nil}
use Rattle.std.proofs.Math.Option.{Option, none, some}
use Rattle.std.proofs.Math.Decide.{ℕ_discrete, dec_lt}
use Rattle.value.specs.declared.Value.{Value}
use Rattle.value.specs.Operators.{pick}
use Rattle.network.specs.Net.{Links, Able, act}
use Rattle.theory_pieces.specs.Tape.{Step, pushing, firing, taking, sets_of, takes_of}
use Rattle.formula.specs.Tree.{Exp}
use Rattle.formula.specs.declared.Refusal.TheVariants.{Memory, Set, Untaken, Full, NotAble, NoResult, Unfinished}
use Rattle.formula.specs.Refusals.{number_of}
use Rattle.graph.specs.Assembly.{up_from}
use Rattle.graph.specs.Translation.{made_of}
use Rattle.theory_wiring.proofs.Machine.{net-past}
use Rattle.value_sets.specs.Sets.{set_values, set_ok}
use Rattle.value_sets.proofs.Sets.{values-set, values-pass}
use Rattle.machine_layout.specs.Layout.{links_at, size_of, need, operators_of, inputs_of, results_of, untaken_of, stored_kinds}
use Rattle.machine_firing.specs.Fire.{able_at, fired_at}
use Rattle.machine_valid.specs.Below.{all_below}
use Rattle.machine_runs.specs.Run.{least, runs, still_at}
use Rattle.machine_runs.specs.RunLaws.{Quiet, least_at, least-none}
use Rattle.machine_calls.specs.Calls.{Outcome, outcome, Handed, answers, size_in, standing, rooms_ok, result_ready, ended, pushed, fired, ran, taken}
use Rattle.machine_calls.specs.CallLaws.{pushed-refused, pushed-no-set, pushed-untaken, pushed-full, pushed-accepted, fired-refused, fired-absent, fired-idle, fired-accepted, ran-refused, ran-ended, taken-short, taken_refused, taken_none, taken-empty, taken-accepted}
use Rattle.machine_rounds.specs.Rounds.{round, outcome as rounds-outcome, answers as rounds-answers, ran_rounds}
use Rattle.machine_tray.specs.Tray.{trayed, went_in}
use Rattle.machine_tray.specs.OneByOne.{Pushes, went-in}
use Rattle.theory_verdicts.specs.Running as Abstract
use Rattle.theory_verdicts.specs.Running.{places, operator_at, push_of, take_of, dec_able, pushes, fires, takes, accept, after_steps, least_able, least_from, onward, run_steps, steps_of, steps_from}
use Rattle.theory_verdicts.proofs.RunningLaws.{handed-count}
use Rattle.theory_verdicts.proofs.RunLaws.{least-is-least}
use Rattle.theory_rounds.specs.RunsFire.{operators-of}
use Rattle.theory_rounds.proofs.TurnLaws.{after-append, steps-append, runs-fire}
use Rattle.theory_rounds.specs.TurnLaws.{Only-firings}
use Rattle.demand_view.specs.Stands.{Stands}
use Rattle.demand_view.proofs.FireCall.{stands-size}
use Rattle.demand_view.proofs.Run.{unable-on-bytes}
use Rattle.demand_begin.proofs.Lent.{stands-lent, stands-behind, short-refused}
use Rattle.refusals.proofs.Kept.{push-keeps, fire-keeps, take-keeps}
use Rattle.demand.specs.MemoryCalls.{Call, push, tray, fire, run, by_rounds, take, result, accepted, answer_of, memory_after, set_of, result_of, memory_after_all, sets_pushed, results_taken}
use Rattle.demand.specs.Agree.{CallsAgree}
use Rattle.demand.proofs.Followed.{EachRead, can-accepted}
use Rattle.demand.specs.RoundSteps.{turn_calls, rounds_calls, roundSteps, roundsSteps}
use Rattle.demand.proofs.RoundSteps.{rounds-none, rounds-more, round_same}
use Rattle.demand.proofs.FollowRounds.{rounds-only-fire, rounds-stand}
use Rattle.demand_rounds.specs.InTurn.{run_fires, sweep_fires, rounds_fire, unless_refused, fired_by, all_fired}
use Rattle.demand_rounds.specs.Traced.{Is-none}

-- ---- steps one after the other
pub operators-append : (w u : List Step) → operators-of (w ++ u) ≡ operators-of w ++ operators-of u
operators-append [] u = refl
operators-append (pushing v ∷ w) u = operators-append w u
operators-append (firing a ∷ w) u = ap (λ (z : List ℕ). a ∷ z) (operators-append w u)
operators-append (taking ∷ w) u = operators-append w u

sets-append : (w u : List Step) → sets_of (w ++ u) ≡ sets_of w ++ sets_of u
sets-append [] u = refl
sets-append (pushing v ∷ w) u = ap (λ (z : List (List Value)). v ∷ z) (sets-append w u)
sets-append (firing a ∷ w) u = sets-append w u
sets-append (taking ∷ w) u = sets-append w u

takes-append : (w u : List Step) → takes_of (w ++ u) ≡ takes_of w + takes_of u
takes-append [] u = omega arith
takes-append (pushing v ∷ w) u = takes-append w u
takes-append (firing a ∷ w) u = takes-append w u
takes-append (taking ∷ w) u = omega (arith, takes-append w u)

-- Firings alone push nothing and take nothing.
only-firings : (w : List Step) → Only-firings w → (sets_of w ≡ []) × (takes_of w ≡ 0)
only-firings [] f = (refl, refl)
only-firings (pushing v ∷ w) f = absurd f
only-firings (firing a ∷ w) f = only-firings w f
only-firings (taking ∷ w) f = absurd f

module _ (x : Exp) (kinds : List ℕ) (capacity : ℕ) where
  read-append : (sets sets' : List (List ℕ)) (vss vss' : List (List Value)) → EachRead x kinds capacity sets vss → EachRead x kinds capacity sets' vss'
      → EachRead x kinds capacity (sets ++ sets') (vss ++ vss')
  read-append [] sets' [] vss' r s = s
  read-append [] sets' (v ∷ vss) vss' r s = absurd r
  read-append (b ∷ sets) sets' [] vss' r s = absurd r
  read-append (b ∷ sets) sets' (v ∷ vss) vss' r s = (r.0, read-append sets sets' vss vss' r.1 s)

  -- ---- what follows the bytes
  -- Abstract calls that lead from the links q to those with which a machine stands in the memory m, push these sets, take so many results and fire these operators.
  pub record Traced (q : Links) (m : List ℕ) (sets : List (List ℕ)) (results : ℕ) (fired : List ℕ) : Type 0 where
    pub calls : List Abstract.Call
    pub stands : Stands (made_of x) kinds capacity m (after_steps x (steps_from x capacity calls q) q)
    pub reads : EachRead x kinds capacity sets (sets_of (steps_from x capacity calls q))
    pub takes-are : takes_of (steps_from x capacity calls q) ≡ results
    pub fires-are : operators-of (steps_from x capacity calls q) ≡ fired

  traced-none : (q : Links) (m : List ℕ) → Stands (made_of x) kinds capacity m q → Traced q m [] 0 []
  unfolding steps_from
  traced-none q m H = record { calls = []; stands = H; reads = tt; takes-are = refl; fires-are = refl }

  traced-one : (q : Links) (m : List ℕ) (sets : List (List ℕ)) (results : ℕ) (fired : List ℕ) (c : Abstract.Call) (w : List Step) → steps_of x capacity c q ≡ w
      → Stands (made_of x) kinds capacity m (after_steps x w q) → EachRead x kinds capacity sets (sets_of w) → takes_of w ≡ results → operators-of w ≡ fired
      → Traced q m sets results fired
  unfolding steps_from
  traced-one q m sets results fired c w e H r t f =
      let s : w ≡ steps_from x capacity (c ∷ []) q = sym (append-nil (steps_of x capacity c q) ∙ e) in
      record {
        calls = c ∷ [];
        stands = subst (λ (u : List Step). Stands (made_of x) kinds capacity m (after_steps x u q)) s H;
        reads = subst (λ (u : List Step). EachRead x kinds capacity sets (sets_of u)) s r;
        takes-are = subst (λ (u : List Step). takes_of u ≡ results) s t;
        fires-are = subst (λ (u : List Step). operators-of u ≡ fired) s f;
      }

  traced-then : (q : Links) (m m' : List ℕ) (sets sets' : List (List ℕ)) (n n' : ℕ) (fired fired' : List ℕ) (F : Traced q m sets n fired)
      → Traced (after_steps x (steps_from x capacity F.calls q) q) m' sets' n' fired' → Traced q m' (sets ++ sets') (n + n') (fired ++ fired')
  traced-then q m m' sets sets' n n' fired fired' F G =
      let w = steps_from x capacity F.calls q in
      let u = steps_from x capacity G.calls (after_steps x w q) in
      let e : steps_from x capacity (F.calls ++ G.calls) q ≡ w ++ u = steps-append x capacity F.calls G.calls q in
      record {
        calls = F.calls ++ G.calls;
        stands = subst (Stands (made_of x) kinds capacity m') (sym (ap (λ (z : List Step). after_steps x z q) e ∙ after-append x capacity w u q)) G.stands;
        reads = subst (EachRead x kinds capacity (sets ++ sets')) (sym (ap sets_of e ∙ sets-append w u)) (read-append sets sets' (sets_of w) (sets_of u) F.reads G.reads);
        takes-are = ap takes_of e ∙ takes-append w u ∙ ap₂ (λ (a b : ℕ). a + b) F.takes-are G.takes-are;
        fires-are = ap operators-of e ∙ operators-append w u ∙ ap₂ (λ (a b : List ℕ). a ++ b) F.fires-are G.fires-are;
      }

-- ---- one call on a memory in which the machine stands
module _ (x : Exp) (capacity : ℕ) where
  push-steps : (v : List Value) (q : Links) → length v ≡ (made_of x).inputs → Able (places capacity) (push_of x v) q → steps_of x capacity (pushes v) q ≡ pushing v ∷ []
  unfolding steps_of
  push-steps v q e a = rw (eq-eqb (length v) (made_of x).inputs e) (can-accepted (pushing v) (dec_able (places capacity) (push_of x v) q) a)

  fire-steps : (i : ℕ) (q : Links) → Able (places capacity) (operator_at x i) q → steps_of x capacity (fires i) q ≡ firing i ∷ []
  unfolding steps_of
  fire-steps i q a = can-accepted (firing i) (dec_able (places capacity) (operator_at x i) q) a

  run-only-fires : (n : ℕ) (q : Links) → Only-firings (run_steps x capacity n q)
  unfolding steps_from steps_of
  run-only-fires n q = subst Only-firings (append-nil (run_steps x capacity n q)) (runs-fire x capacity (n ∷ []) q)

  take_steps : (q : Links) → Able (places capacity) (take_of x) q → steps_of x capacity takes q ≡ taking ∷ []
  unfolding steps_of
  take_steps q a = can-accepted taking (dec_able (places capacity) (take_of x) q) a

  pub past-cannot : (a : ℕ) (q : Links) → length (made_of x).operators ≤ a → Able (places capacity) (operator_at x a) q → ⊥
  past-cannot a q l o = subst (λ d. Able (places capacity) d q) (net-past (made_of x).operators a l) o

  -- Where no least able operator is found there is none among the k from a on (theory_verdicts/specs/RunLaws).
  none-able : (k a : ℕ) (q : Links) → least_from x capacity k a q ≡ none → (b : ℕ) → a ≤ b → b < a + k → Able (places capacity) (operator_at x b) q → ⊥
  unfolding least_from
  none-able zero a q e b l u o = absurd (omega arith)
  none-able (suc k) a q e b l u o = go (dec_able (places capacity) (operator_at x a) q) e (ℕ_discrete a b) (λ i j. none-able k (suc a) q i b j (omega arith) o)
    where
      go : (d : Dec (Able (places capacity) (operator_at x a) q)) → Abstract.pick d a (least_from x capacity k (suc a) q) ≡ none → Dec (a ≡ b)
          → (least_from x capacity k (suc a) q ≡ none → suc a ≤ b → ⊥) → ⊥
      go (yes p) i d ih = subst Is-none (sym i) tt
      go (no n) i (yes z) ih = n (subst (λ (c : ℕ). Able (places capacity) (operator_at x c) q) (sym z) o)
      go (no n) i (no z) ih = ih i (omega arith)

module _ (x : Exp) (kinds : List ℕ) (capacity : ℕ) (low : 1 ≤ capacity) (high : capacity ≤ 16) (A : CallsAgree x kinds capacity) where
  abbrev size : ℕ
  size = size_of capacity

  abbrev number : ℕ
  number = length (made_of x).operators

  module _ (b : List ℕ) (q : Links) (L : Stands (made_of x) kinds capacity b q) where
    st : standing b ≡ 0
    st = A.good b q L

    same_size : size_in b ≡ size_of capacity
    same_size = stands-size (made_of x) A.sound kinds capacity low high b q L

    -- An accepted push of a set that is read as v.
    pub push-as : (set : List ℕ) (v : List Value) → set_values kinds set ≡ some v → (pushed b set).answer.refusal ≡ 0
        → (steps_of x capacity (pushes v) q ≡ pushing v ∷ []) × Stands (made_of x) kinds capacity (pushed b set).mem (act (push_of x v) q)
    push-as set v r z = go (ltb (untaken_of b) 16) refl (rooms_ok b (size_in b) (inputs_of b)) refl
      where
        Goal : Type 0
        Goal = (steps_of x capacity (pushes v) q ≡ pushing v ∷ []) × Stands (made_of x) kinds capacity (pushed b set).mem (act (push_of x v) q)

        good : set_ok (stored_kinds b) set ≡ true
        good = subst (λ (ks : List ℕ). set_ok ks set ≡ true) (sym L.kinds-are) (values-pass kinds set v r)

        against : (n : ℕ) → n ≢ 0 → pushed b set ≡ outcome (answers n 0) b → Goal
        against n ne e = absurd (ne (sym (ap (λ (o : Outcome). o.answer.refusal) e) ∙ z))

        go : (a : Bool) → ltb (untaken_of b) 16 ≡ a → (c : Bool) → rooms_ok b (size_in b) (inputs_of b) ≡ c → Goal
        go false a c f = against (number_of Untaken) (omega arith) (pushed-untaken b st set good a)
        go true a false f = against (number_of Full) (omega arith) (pushed-full b st set good a f)
        go true a true f =
            let g = subst (λ (n : ℕ). rooms_ok b (size_of capacity) n ≡ true) L.inputs_are (subst (λ (n : ℕ). rooms_ok b n (inputs_of b) ≡ true) same_size f) in (
              push-steps x capacity v q ((values-set kinds set v r).count ∙ L.kinds-count) (A.push-able b q L set v r a g),
              subst (λ (o : Outcome). Stands (made_of x) kinds capacity o.mem (act (push_of x v) q)) (sym (pushed-accepted b st set good a f)) (A.pushed b q L set v r a g),
            )

    -- An accepted set passes 12.
    set-passes : (set : List ℕ) → (pushed b set).answer.refusal ≡ 0 → set_ok (stored_kinds b) set ≡ true
    set-passes set z = go (set_ok (stored_kinds b) set) refl
      where
        go : (a : Bool) → set_ok (stored_kinds b) set ≡ a → set_ok (stored_kinds b) set ≡ true
        go true a = a
        go false a = let n : number_of Set ≡ 0 = sym (ap (λ (o : Outcome). o.answer.refusal) (pushed-no-set b st set a)) ∙ z in absurd (omega arith)

    push-traced-whole : (set : List ℕ) → (pushed b set).answer.refusal ≡ 0 → Traced x kinds capacity q (pushed b set).mem (set ∷ []) 0 []
    push-traced-whole set z =
        let v = A.set-read set (subst (λ (ks : List ℕ). set_ok ks set ≡ true) L.kinds-are (set-passes set z)) in
        let p = push-as set v.0 v.1 z in
        traced-one x kinds capacity q (pushed b set).mem (set ∷ []) 0 [] (pushes v.0) (pushing v.0 ∷ []) p.0 p.1 (v.1, tt) refl refl

    -- An accepted take.
    pub take-as : (out : List ℕ) → (taken b out).answer.refusal ≡ 0
        → (steps_of x capacity takes q ≡ taking ∷ []) × Stands (made_of x) kinds capacity (taken b out).mem (act (take_of x) q)
    take-as out z = go (dec_lt (length out) 80) (ltb 0 (untaken_of b)) refl (all_below (results_of b) (result_ready b (size_in b))) refl
      where
        Goal : Type 0
        Goal = (steps_of x capacity takes q ≡ taking ∷ []) × Stands (made_of x) kinds capacity (taken b out).mem (act (take_of x) q)

        against : (n : ℕ) → n ≢ 0 → (taken b out).answer.refusal ≡ n → Goal
        against n ne e = absurd (ne (sym e ∙ z))

        go : Dec (length out < 80) → (a : Bool) → ltb 0 (untaken_of b) ≡ a → (c : Bool) → all_below (results_of b) (result_ready b (size_in b)) ≡ c → Goal
        go (yes h) a e c f = against (number_of Memory) (omega arith) (ap (λ (o : Handed). o.answer.refusal) (taken-short b out h))
        go (no h) false e c f = against (number_of NoResult) (omega arith) (ap (λ (o : Handed). o.answer.refusal) (taken_none b st out (omega arith) e))
        go (no h) true e false f = against (number_of NoResult) (omega arith) (ap (λ (o : Handed). o.answer.refusal) (taken-empty b st out (omega arith) e f))
        go (no h) true e true f =
            let g = ap₂ (λ (z n : ℕ). all_below n (result_ready b z)) (sym same_size) (sym L.results-are) ∙ f in (
              take_steps x capacity q (A.take-able b q L e g),
              subst (λ (o : Handed). Stands (made_of x) kinds capacity o.mem (act (take_of x) q)) (sym (taken-accepted b st out (omega arith) e f)) (A.taken b q L e g),
            )

    -- An accepted fire.
    fire-as : (i : ℕ) → (fired b i).answer.refusal ≡ 0
        → (steps_of x capacity (fires i) q ≡ firing i ∷ []) × Stands (made_of x) kinds capacity (fired b i).mem (act (operator_at x i) q)
    fire-as i z = go (ltb i (operators_of b)) refl (able_at b (size_in b) i) refl
      where
        Goal : Type 0
        Goal = (steps_of x capacity (fires i) q ≡ firing i ∷ []) × Stands (made_of x) kinds capacity (fired b i).mem (act (operator_at x i) q)

        against : fired b i ≡ outcome (answers (number_of NotAble) 0) b → Goal
        against e = let n : number_of NotAble ≡ 0 = sym (ap (λ (o : Outcome). o.answer.refusal) e) ∙ z in absurd (omega arith)

        go : (a : Bool) → ltb i (operators_of b) ≡ a → (c : Bool) → able_at b (size_in b) i ≡ c → Goal
        go false a c e = against (fired-absent b st i a)
        go true a false e = against (fired-idle b st i a e)
        go true a true e =
            let l = ltb-true i (operators_of b) a in
            let t = subst (λ (z : ℕ). able_at b z i ≡ true) same_size e in (
              fire-steps x capacity i q (A.able-links b q L i (omega (arith, L.operators-are)) t),
              subst (λ (m : List ℕ). Stands (made_of x) kinds capacity m (act (operator_at x i) q))
                  (sym (ap (λ (o : Outcome). o.mem) (fired-accepted b st i a e) ∙ ap (λ (z : ℕ). fired_at b z i) same_size))
                  (A.fired b q L i (omega (arith, L.operators-are)) t),
            )

  -- ---- the operators of a run
  run-fires : (n : ℕ) (m : List ℕ) (q : Links) → Stands (made_of x) kinds capacity m q → operators-of (run_steps x capacity n q) ≡ run_fires size number n m
  unfolding run_steps run_fires
  run-fires zero m q H = refl
  run-fires (suc n) m q H = go (least_able x capacity q) refl (λ a l t. run-fires n (fired_at m size a) (act (operator_at x a) q) (A.fired m q H a l t))
    where
      later : ℕ → List Step
      later = λ a. run_steps x capacity n (act (operator_at x a) q)

      quiet : (k : ℕ) → k ≤ number → ((j : ℕ) → j < k → Able (places capacity) (operator_at x j) q → ⊥) → Quiet m size k
      quiet k l cannot j h = unable-on-bytes x A.sound kinds capacity low m q H j (omega arith) (cannot j h)

      go : (o : Option ℕ) → least_able x capacity q ≡ o
          → ((a : ℕ) → a < number → able_at m size a ≡ true → operators-of (run_steps x capacity n (act (operator_at x a) q)) ≡ run_fires size number n (fired_at m size a))
          → operators-of (onward o later) ≡ pick (ltb (least m size number) number) (least m size number ∷ run_fires size number n (fired_at m size (least m size number))) []
      go none e ih =
          rw (least-none m links_at size number (quiet number (omega arith) (λ j h. none-able x capacity number 0 q e j (omega arith) (omega arith))), le-ltb number number (omega arith)) refl
      go (some a) e ih = at (dec_lt a number)
        where
          w : Able (places capacity) (operator_at x a) q × ((b : ℕ) → 0 ≤ b → b < a → Able (places capacity) (operator_at x b) q → ⊥)
          w = least-is-least x capacity number 0 q a e

          at : Dec (a < number)
              → a ∷ operators-of (later a) ≡ pick (ltb (least m size number) number) (least m size number ∷ run_fires size number n (fired_at m size (least m size number))) []
          at (no h) = absurd (past-cannot x capacity a q (omega arith) w.0)
          at (yes h) =
              let t = A.able-bytes m q H a h w.0 in
              rw (least_at m links_at size number a h (quiet a (omega arith) (λ j l. w.1 j (omega arith) l)) t, lt-ltb a number h) (ap (λ (z : List ℕ). a ∷ z) (ih a h t))

  -- ---- the operators of rounds
  sweep-fires : (k i : ℕ) → i + k ≤ number → (m : List ℕ) (q : Links) → Stands (made_of x) kinds capacity m q
      → operators-of (steps_from x capacity (turn_calls i k) q) ≡ sweep_fires size k i m
  unfolding sweep_fires up_from steps_from steps_of
  sweep-fires zero i h m q H = refl
  sweep-fires (suc k) i h m q H =
      go (dec_able (places capacity) (operator_at x i) q)
      (λ t. sweep-fires k (suc i) (omega arith) (fired_at m size i) (act (operator_at x i) q) (A.fired m q H i (omega arith) t)) (sweep-fires k (suc i) (omega arith) m q H)
    where
      later : Links → List Step
      later = steps_from x capacity (turn_calls (suc i) k)

      go : (d : Dec (Able (places capacity) (operator_at x i) q))
          → (able_at m size i ≡ true → operators-of (later (act (operator_at x i) q)) ≡ sweep_fires size k (suc i) (fired_at m size i))
          → operators-of (later q) ≡ sweep_fires size k (suc i) m
          → operators-of (accept d (firing i) ++ later (after_steps x (accept d (firing i)) q))
          ≡ pick (able_at m size i) (i ∷ sweep_fires size k (suc i) (fired_at m size i)) (sweep_fires size k (suc i) m)
      go (yes p) f g = let t = A.able-bytes m q H i (omega arith) p in rw t (ap (λ (z : List ℕ). i ∷ z) (f t))
      go (no n) f g = rw (unable-on-bytes x A.sound kinds capacity low m q H i (omega arith) n) g

  rounds-fire : (r : ℕ) (m : List ℕ) (q : Links) → Stands (made_of x) kinds capacity m q → operators-of (roundsSteps x capacity r q) ≡ rounds_fire size number r m
  unfolding rounds_fire
  rounds-fire zero m q H = ap operators-of (rounds-none x capacity q)
  rounds-fire (suc r) m q H =
      let w = roundSteps x capacity q in
      let q' = after_steps x w q in
      ap operators-of (rounds-more x capacity r q) ∙ operators-append w (roundsSteps x capacity r q')
      ∙ ap₂ (λ (a b : List ℕ). a ++ b) (sweep-fires number 0 (omega arith) m q H) (rounds-fire r (round size number m).mem q' (round_same x A.sound kinds capacity low m q H).0)

  -- ---- a run and rounds
  module _ (b : List ℕ) (q : Links) (L : Stands (made_of x) kinds capacity b q) where
    abbrev Made-steps : List Step → List ℕ → List ℕ → Type 0
    Made-steps w m f = Stands (made_of x) kinds capacity m (after_steps x w q) × (operators-of w ≡ f)

    ended-memory : (n : ℕ) → (ran b n).mem ≡ (runs size number n b 0).mem
    unfolding ended
    ended-memory n =
        ap (λ (o : Outcome). o.mem) (ran-ended b (st b q L) n)
        ∙ either (still_at (runs (size_in b) (operators_of b) n b 0).mem (size_in b) (operators_of b))
        ∙ ap₂ (λ (z k : ℕ). (runs z k n b 0).mem) (same_size b q L) L.operators-are
      where
        either : (t : Bool) → (pick t (outcome (answers 0 (runs (size_in b) (operators_of b) n b 0).count) (runs (size_in b) (operators_of b) n b 0).mem)
            (outcome (answers (number_of Unfinished) (runs (size_in b) (operators_of b) n b 0).count) (runs (size_in b) (operators_of b) n b 0).mem)).mem
            ≡ (runs (size_in b) (operators_of b) n b 0).mem
        either true = refl
        either false = refl

    pub run-as : (n : ℕ) → Made-steps (run_steps x capacity n q) (ran b n).mem (run_fires (size_in b) (operators_of b) n b)
    run-as n = (
      subst (λ (m : List ℕ). Stands (made_of x) kinds capacity m (after_steps x (run_steps x capacity n q) q)) (sym (ended-memory n)) (A.ran b q L n),
      run-fires n b q L ∙ ap₂ (λ (z k : ℕ). run_fires z k n b) (sym (same_size b q L)) (sym L.operators-are),
    )

    rounds-fired : (r : ℕ) → operators-of (roundsSteps x capacity r q) ≡ rounds_fire (size_in b) (operators_of b) r b
    rounds-fired r = rounds-fire r b q L ∙ ap₂ (λ (z k : ℕ). rounds_fire z k r b) (sym (same_size b q L)) (sym L.operators-are)

  -- ---- sets pushed one after another
  traced-pushes : (sets : List (List ℕ)) (b b' : List ℕ) (q : Links) → Stands (made_of x) kinds capacity b q → Pushes sets b b' → Traced x kinds capacity q b' sets 0 []
  traced-pushes [] b b' q L e = traced-none x kinds capacity q b' (subst (λ (m : List ℕ). Stands (made_of x) kinds capacity m q) (sym e) L)
  traced-pushes (set ∷ sets) b b' q L (z, more) =
      let T = push-traced-whole b q L set z in
      traced-then x kinds capacity q (pushed b set).mem b' (set ∷ []) sets 0 0 [] [] T
      (traced-pushes sets (pushed b set).mem b' (after_steps x (steps_from x capacity T.calls q) q) T.stands more)

  -- ---- one call
  module _ (m : List ℕ) (q : Links) (H : Stands (made_of x) kinds capacity m q) (lent : ℕ) where
    abbrev lentPart : List ℕ
    lentPart = first_of lent m

    abbrev Call-traced : List ℕ → List (List ℕ) → ℕ → List ℕ → Type 0
    Call-traced b sets results fired = Traced x kinds capacity q (b ++ drop lent m) sets results fired

    -- a memory in good standing is long enough
    pub long-enough : standing (first_of lent m) ≡ 0 → need (size_of capacity) ≤ lent
    long-enough e = go (dec_lt lent (need (size_of capacity)))
      where
        go : Dec (lent < need (size_of capacity)) → need (size_of capacity) ≤ lent
        go (yes h) = let n : number_of Memory ≡ 0 = sym (short-refused (made_of x) kinds capacity m q low high H lent h) ∙ e in absurd (omega arith)
        go (no h) = omega arith

    pub lent-stands : need (size_of capacity) ≤ lent → Stands (made_of x) kinds capacity (first_of lent m) q
    lent-stands h = stands-lent (made_of x) A.sound kinds capacity m q H lent h

    in-standing : (r : ℕ) → (standing lentPart ≢ 0 → r ≡ standing lentPart) → r ≡ 0 → Stands (made_of x) kinds capacity lentPart q
    in-standing r f z = go (ℕ_discrete (standing lentPart) 0)
      where
        go : Dec (standing lentPart ≡ 0) → Stands (made_of x) kinds capacity lentPart q
        go (yes e) = lent-stands (long-enough e)
        go (no n) = absurd (n (sym (f n) ∙ z))

    kept : (b : List ℕ) → b ≡ lentPart → Call-traced b [] 0 []
    kept b e =
        subst (λ (z : List ℕ). Traced x kinds capacity q z [] 0 []) (sym (ap (λ (c : List ℕ). c ++ drop lent m) e ∙ take-append-drop lent m)) (traced-none x kinds capacity q m H)

    behind : (b : List ℕ) (sets : List (List ℕ)) (results : ℕ) (fired : List ℕ) → Traced x kinds capacity q b sets results fired → Call-traced b sets results fired
    behind b sets results fired T =
        record {
          calls = T.calls;
          stands = stands-behind (made_of x) A.sound kinds capacity b (after_steps x (steps_from x capacity T.calls q) q) T.stands (drop lent m);
          reads = T.reads;
          takes-are = T.takes-are;
          fires-are = T.fires-are;
        }

    push-traced : (set : List ℕ) → Call-traced (pushed lentPart set).mem (cond (accepted (pushed lentPart set).answer) (set ∷ []) []) 0 []
    unfolding accepted
    push-traced set = go (ℕ_discrete (pushed lentPart set).answer.refusal 0)
      where
        go : Dec ((pushed lentPart set).answer.refusal ≡ 0) → Call-traced (pushed lentPart set).mem (cond (eqb (pushed lentPart set).answer.refusal 0) (set ∷ []) []) 0 []
        go (yes z) =
            let L = in-standing (pushed lentPart set).answer.refusal (λ n. ap (λ (o : Outcome). o.answer.refusal) (pushed-refused lentPart set n)) z in
            rw (eq-eqb (pushed lentPart set).answer.refusal 0 z) (behind (pushed lentPart set).mem (set ∷ []) 0 [] (push-traced-whole lentPart q L set z))
        go (no n) = rw (ne_eqb (pushed lentPart set).answer.refusal 0 n) (kept (pushed lentPart set).mem (push-keeps lentPart set n).1)

    tray-traced : (sets : List ℕ) (count : ℕ) → Call-traced (trayed lentPart sets count).mem (went_in lentPart sets count) 0 []
    tray-traced sets count = go (ℕ_discrete (standing lentPart) 0)
      where
        went : Pushes (went_in lentPart sets count) lentPart (trayed lentPart sets count).mem
        went = went-in lentPart sets count

        none_in : standing lentPart ≢ 0 → (ss : List (List ℕ)) → Pushes ss lentPart (trayed lentPart sets count).mem → Call-traced (trayed lentPart sets count).mem ss 0 []
        none_in n [] e = kept (trayed lentPart sets count).mem e
        none_in n (s ∷ ss) (z, more) = absurd (n (sym (ap (λ (o : Outcome). o.answer.refusal) (pushed-refused lentPart s n)) ∙ z))

        go : Dec (standing lentPart ≡ 0) → Call-traced (trayed lentPart sets count).mem (went_in lentPart sets count) 0 []
        go (yes e) =
            behind (trayed lentPart sets count).mem (went_in lentPart sets count) 0 []
            (traced-pushes (went_in lentPart sets count) lentPart (trayed lentPart sets count).mem q (lent-stands (long-enough e)) went)
        go (no n) = none_in n (went_in lentPart sets count) went

    fire-traced : (i : ℕ) → Call-traced (fired lentPart i).mem [] 0 (cond (accepted (fired lentPart i).answer) (i ∷ []) [])
    unfolding accepted
    fire-traced i = go (ℕ_discrete (fired lentPart i).answer.refusal 0)
      where
        go : Dec ((fired lentPart i).answer.refusal ≡ 0) → Call-traced (fired lentPart i).mem [] 0 (cond (eqb (fired lentPart i).answer.refusal 0) (i ∷ []) [])
        go (yes z) =
            let L = in-standing (fired lentPart i).answer.refusal (λ n. ap (λ (o : Outcome). o.answer.refusal) (fired-refused lentPart i n)) z in
            let p = fire-as lentPart q L i z in
            rw (eq-eqb (fired lentPart i).answer.refusal 0 z)
            (behind (fired lentPart i).mem [] 0 (i ∷ []) (traced-one x kinds capacity q (fired lentPart i).mem [] 0 (i ∷ []) (fires i) (firing i ∷ []) p.0 p.1 tt refl refl))
        go (no n) = rw (ne_eqb (fired lentPart i).answer.refusal 0 n) (kept (fired lentPart i).mem (fire-keeps lentPart i n).1)

    run-traced : (n : ℕ) → Call-traced (ran lentPart n).mem [] 0 (unless_refused lentPart (run_fires (size_in lentPart) (operators_of lentPart) n lentPart))
    unfolding steps_of
    run-traced n = go (ℕ_discrete (standing lentPart) 0)
      where
        go : Dec (standing lentPart ≡ 0) → Call-traced (ran lentPart n).mem [] 0 (cond (eqb (standing lentPart) 0) (run_fires (size_in lentPart) (operators_of lentPart) n lentPart) [])
        go (yes e) =
            let p = run-as lentPart q (lent-stands (long-enough e)) n in
            let o = only-firings (run_steps x capacity n q) (run-only-fires x capacity n q) in
            rw (eq-eqb (standing lentPart) 0 e)
            (behind (ran lentPart n).mem [] 0 (run_fires (size_in lentPart) (operators_of lentPart) n lentPart)
            (traced-one x kinds capacity q (ran lentPart n).mem [] 0 (run_fires (size_in lentPart) (operators_of lentPart) n lentPart) (Abstract.runs n) (run_steps x capacity n q) refl p.0
            (subst (EachRead x kinds capacity []) (sym o.0) tt) o.1 p.1))
        go (no z) = rw (ne_eqb (standing lentPart) 0 z) (kept (ran lentPart n).mem (ap (λ (o : Outcome). o.mem) (ran-refused lentPart n z)))

    rounds-refused : (r : ℕ) → standing lentPart ≢ 0 → ran_rounds lentPart r ≡ rounds-outcome (rounds-answers (standing lentPart) 0 0) lentPart
    unfolding ran_rounds
    rounds-refused r n = simp (ne_eqb (standing lentPart) 0 n)

    rounds-traced : (r : ℕ) → Call-traced (ran_rounds lentPart r).mem [] 0 (unless_refused lentPart (rounds_fire (size_in lentPart) (operators_of lentPart) r lentPart))
    rounds-traced r = go (ℕ_discrete (standing lentPart) 0)
      where
        go : Dec (standing lentPart ≡ 0) → Call-traced (ran_rounds lentPart r).mem [] 0 (cond (eqb (standing lentPart) 0) (rounds_fire (size_in lentPart) (operators_of lentPart) r lentPart) [])
        go (yes e) =
            let o = rounds-only-fire x capacity r q in
            rw (eq-eqb (standing lentPart) 0 e)
            (record {
              calls = rounds_calls x r;
              stands = rounds-stand x kinds capacity low high A m q H lent (long-enough e) r;
              reads = subst (EachRead x kinds capacity []) (sym o.0) tt;
              takes-are = sym (handed-count x capacity (roundsSteps x capacity r q) q) ∙ ap length o.1;
              fires-are = rounds-fired lentPart q (lent-stands (long-enough e)) r;
            })
        go (no z) = rw (ne_eqb (standing lentPart) 0 z) (kept (ran_rounds lentPart r).mem (ap (λ o. o.mem) (rounds-refused r z)))

    take-traced : (out : List ℕ)
        → Call-traced (taken lentPart out).mem []
        (length (cond (accepted (taken lentPart out).answer) (result (taken lentPart out).answer.count (first_of 80 (taken lentPart out).out) ∷ []) [])) []
    unfolding accepted
    take-traced out = go (ℕ_discrete (taken lentPart out).answer.refusal 0) (dec_lt (length out) 80)
      where
        go : Dec ((taken lentPart out).answer.refusal ≡ 0) → Dec (length out < 80) → Call-traced (taken lentPart out).mem []
            (length (cond (eqb (taken lentPart out).answer.refusal 0) (result (taken lentPart out).answer.count (first_of 80 (taken lentPart out).out) ∷ []) [])) []
        go (yes z) (yes h) =
            let n : number_of Memory ≡ 0 = sym (ap (λ (o : Handed). o.answer.refusal) (taken-short lentPart out h)) ∙ z in absurd (omega arith)
        go (yes z) (no h) =
            let L = in-standing (taken lentPart out).answer.refusal (λ n. ap (λ (o : Handed). o.answer.refusal) (taken_refused lentPart out (omega arith) n)) z in
            let p = take-as lentPart q L out z in
            rw (eq-eqb (taken lentPart out).answer.refusal 0 z)
            (behind (taken lentPart out).mem [] 1 [] (traced-one x kinds capacity q (taken lentPart out).mem [] 1 [] takes (taking ∷ []) p.0 p.1 tt refl refl))
        go (no n) d = rw (ne_eqb (taken lentPart out).answer.refusal 0 n) (kept (taken lentPart out).mem (take-keeps lentPart out n).1)

  -- EVERY CALL.
  pub call-traced : (m : List ℕ) (q : Links) → Stands (made_of x) kinds capacity m q → (c : Call) → Traced x kinds capacity q (memory_after c m) (set_of c m) (length (result_of c m)) (fired_by c m)
  unfolding memory_after set_of result_of fired_by answer_of
  call-traced m q H (push lent set) = push-traced m q H lent set
  call-traced m q H (tray lent sets count) = tray-traced m q H lent sets count
  call-traced m q H (fire lent i) = fire-traced m q H lent i
  call-traced m q H (run lent n) = run-traced m q H lent n
  call-traced m q H (by_rounds lent r) = rounds-traced m q H lent r
  call-traced m q H (take lent out) = take-traced m q H lent out

  -- A LIST OF CALLS.
  pub calls-traced : (calls : List Call) (m : List ℕ) (q : Links) → Stands (made_of x) kinds capacity m q
      → Traced x kinds capacity q (memory_after_all calls m) (sets_pushed calls m) (length (results_taken calls m)) (all_fired calls m)
  unfolding memory_after_all sets_pushed results_taken all_fired
  calls-traced [] m q H = traced-none x kinds capacity q m H
  calls-traced (c ∷ calls) m q H =
      let m' = memory_after c m in
      let T = call-traced m q H c in
      let R = calls-traced calls m' (after_steps x (steps_from x capacity T.calls q) q) T.stands in
      subst (λ (n : ℕ). Traced x kinds capacity q (memory_after_all calls m') (set_of c m ++ sets_pushed calls m') n (fired_by c m ++ all_fired calls m'))
      (sym (length-append (result_of c m) (results_taken calls m')))
      (traced-then x kinds capacity q m' (memory_after_all calls m') (set_of c m) (sets_pushed calls m') (length (result_of c m)) (length (results_taken calls m')) (fired_by c m) (all_fired calls m') T R)
