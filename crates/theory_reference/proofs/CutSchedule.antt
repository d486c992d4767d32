-- Laws of specs/CutSchedule.antt, and what only they need.
use Prim.Native.Nat.{ℕ, ◌+◌, ◌≤◌, ◌<◌}
use Rattle.std.specs.Prelude.{◌≡◌, ◌≢◌, ◌⊎◌, ◌&&◌, length}
use Rattle.std.proofs.Math.Path.{refl, subst, fun_ext}
use Rattle.std.proofs.Common.{sym, ◌∙◌, ap, inl, inr, ⊎_elim, arith}
use Rattle.std.proofs.Math.Bool.{true}
use mathlib.Core.List.{List, [], ◌∷◌, cons-ne-nil}
use Rattle.std.proofs.Math.Option.{Option, some}
use Rattle.std.proofs.Math.Decide.{ℕ_discrete}
use Rattle.value.specs.declared.Value.{Value}
use Rattle.names.specs.Names.{Names, without}
use Rattle.network.specs.Values.{true-value, err-value}
use Rattle.network.specs.Net.{val, Demand, Links}
use Rattle.network.specs.Commute.{Never-emits}
use Rattle.theory_schedule.specs.Counts.{count}
use Rattle.theory_pieces.specs.Goes.{Net}
use Rattle.theory_pieces.proofs.Goes.{Steps}
use Rattle.theory_pieces.proofs.LateNets.{late-net, with-one, twin-fine, close}
use Rattle.graph.specs.Assembly.{IC, Graph, wire, nothing, beside, bind, gate, loop, Env, member_of, free, links_of, outputs, operators_of, gate_outputs, gate_of, sharing, shared_links, first_use, second_use, copy_of, chain_links, total}
use Rattle.graph.specs.Yields.{Values, Answer, YieldsBy, YieldsIn, cut-loops, output_count, bound, Sequel, stops, goes_on}
use Rattle.graph.specs.Translation.{test_name}
use Rattle.graph.specs.Tests.{Behind, behind, Testing, let-first, at_test, Cuttable}
use Rattle.graph.specs.Fit.{Fit}
use Rattle.theory_reference.proofs.NameSets.{and_both, or_left, without_in}
use Rattle.theory_reference.specs.Plugged.{nowhere, Each}
use Rattle.theory_reference.proofs.Plugged.{Somewhere, Has, each_first, each_copy}
use Rattle.theory_reference.specs.Plan.{Between, Envs}
use Rattle.theory_reference.proofs.Plan.{Serves}
use Rattle.theory_reference.proofs.Sharing.{envs-first, envs-second}
use Rattle.theory_reference.proofs.Binding.{bound-here, bound-later}
use Rattle.theory_reference.proofs.LoopLayout as Lay
use Rattle.theory_reference.proofs.LoopRounds as Rounds
use Rattle.theory_reference.proofs.LoopCore as Core
use Rattle.theory_reference.specs.LoopCore.{Cut-core}
use Rattle.theory_reference.specs.GraphLayout.{RingOf, plan_of}
use Rattle.theory_reference.proofs.GraphLayout.{fore-fits}
use Rattle.theory_reference.proofs.GraphParts.{left_at, left-env, right-at, right-env, pair-room, pair-each, outer, maker-at, maker-env, user-at, user-env, bind-room, bind-each, body_at, inner, iter, iterates, returns, CorePlan, iterated, started, own, loop-room, Loop-each, loop-each}
use Rattle.theory_reference.proofs.Schedule.{serve-wire, serve-nothing, serve-beside, serve-over, serve-bind, serve-gate, serve-body, serve-loop, cut-looped}
use Rattle.theory_reference.proofs.TwinNets.{round-tests}
use Rattle.theory_reference.proofs.TestCopies.{one-changes}
use Rattle.theory_reference.proofs.Placed.{Placed, placed-has, Copied}
use Rattle.theory_reference.proofs.FindCopies.{find-behind, lift-copied, copied-tested, copy-else, first-emits, first_else, test-small}
use Rattle.theory_reference.specs.CutSchedule.{Is-bind, err-test}

testing-bind : (g : Graph) → Testing g → Is-bind g
testing-bind _ (let-first ns a b ne t) = tt
testing-bind _ (at_test t b h) = tt

behind-bind : (g : Graph) → Behind g → Is-bind g
behind-bind _ (behind ms ns ks k both p q z v hp hm hq hn hz hg hv) = tt

testing-cases : (ns : List ℕ) (a b : Graph) → Testing (bind ns a b) → ((ns ≡ test_name ∷ [] → ⊥) × Testing b) ⊎ ((ns ≡ test_name ∷ []) × Behind b)
testing-cases _ _ _ (let-first ns a b ne t) = inl (ne, t)
testing-cases _ _ _ (at_test t b h) = inr (refl, h)

-- The first arm and what comes behind it both use the test.
behind-shared : (ms : List ℕ) (p r : Graph) → Behind (bind ms p r) → (free p test_name ≡ true) × (without (free r) (member_of ms) test_name ≡ true)
unfolding free
behind-shared _ _ _ (behind ms ns ks k both p q z v hp hm hq hn hz hg hv) =
    let t : Graph = bind (k ∷ ks) (gate (IC both) (beside (wire test_name) z)) (beside (wire k) v) in
    (hp, without_in (free (bind ns q t)) (member_of ms) test_name (or_left (free q test_name) (without (free t) (member_of ns) test_name) hq) hm)

err-others : (ρ : Values) (x : ℕ) → x ≢ test_name → err-test ρ x ≡ ρ x
unfolding bound
err-others ρ x ne = bound-later test_name [] (some err-value) [] ρ x (λ e. ne (sym e))

-- A test's value is overridden.
test-values : (ns : List ℕ) (v : Value) (ρ : Values) → ns ≡ test_name ∷ [] → (bound ns (some v ∷ []) ρ test_name ≡ some v) × (bound ns (some err-value ∷ []) ρ ≡ err-test (bound ns (some v ∷ []) ρ))
unfolding bound
test-values ns v ρ e =
    subst (λ ms. (bound ms (some v ∷ []) ρ test_name ≡ some v) × (bound ms (some err-value ∷ []) ρ ≡ err-test (bound ms (some v ∷ []) ρ))) (sym e)
    (bound-here test_name [] (some v) [] ρ, fun_ext (λ x. go x (ℕ_discrete x test_name)))
  where
    ρ₁ : Values
    ρ₁ = bound (test_name ∷ []) (some v ∷ []) ρ

    go : (x : ℕ) → Dec (x ≡ test_name) → err-test ρ x ≡ err-test ρ₁ x
    go x (yes z) = ap (err-test ρ) z ∙ bound-here test_name [] (some err-value) [] ρ ∙ sym (bound-here test_name [] (some err-value) [] ρ₁) ∙ ap (err-test ρ₁) (sym z)
    go x (no z) = err-others ρ x z ∙ sym (bound-later test_name [] (some v) [] ρ x (λ e. z (sym e))) ∙ sym (err-others ρ₁ x z)

-- Where links lie.
ahead : (m j k l : ℕ) → m + j ≤ k → Between m j l → l ≡ k → ⊥
ahead m j k l le w e = omega arith

above : (u m l : ℕ) → u < m → m ≤ l → l ≡ u → ⊥
above u m l lt le e = omega arith

further : (m k l : ℕ) → m + k ≤ l → m ≤ l
further m k l le = omega arith

sequel-map : (P : ℕ → Answer → Type 0) (Q R : List (Option Value) → ℕ → Answer → Type 0) → ((vs : List (Option Value)) (d : ℕ) (b : Answer) → Q vs d b → R vs d b) → (c : ℕ) (a : Answer) →
    Sequel P Q c a → Sequel P R c a
sequel-map P Q R f _ _ (stops c p) = stops c p
sequel-map P Q R f _ _ (goes_on c d vs a p q) = goes_on c d vs a p (f vs d a q)

module _ (at : ℕ → Demand) (plain : ℕ → ℕ) (N : ℕ) (pos : 1 ≤ N) where
  abbrev net-of : (ℕ → Type 0) → Net
  net-of X = late-net at plain N X

  abbrev also : (ℕ → Type 0) → ℕ → ℕ → Type 0
  also X a = with-one at plain N X a

  -- No operator of X puts onto the k links from n on.
  abbrev Away : (ℕ → Type 0) → ℕ → ℕ → Type 0
  Away X n k = (b : ℕ) → X b → (l : ℕ) → Between n k l → Never-emits (at b) l

  first-away : (X : ℕ → Type 0) (n s a b : ℕ) → Away X n (s + (a + b)) → Away X (n + s) a
  first-away X n s a b A e x l w = A e x l (omega arith, omega arith)

  second-away : (X : ℕ → Type 0) (n s a b : ℕ) → Away X n (s + (a + b)) → Away X (n + s + a) b
  second-away X n s a b A e x l w = A e x l (omega arith, omega arith)

  body-away : (X : ℕ → Type 0) (n s a t b c : ℕ) → Away X n (s + (a + (t + (b + c)))) → Away X (n + s + a + t) b
  body-away X n s a t b c A e x l w = A e x l (omega arith, omega arith)

  fore-away : (X : ℕ → Type 0) (n a g : ℕ) → Away X n (a + g) → Away X n a
  fore-away X n a g A e x l w = A e x l (omega arith, omega arith)

  also-away : (X : ℕ → Type 0) (a n k : ℕ) → Away X n k → ((l : ℕ) → Between n k l → Never-emits (at a) l) → Away (also X a) n k
  also-away X a n k A h b (inl x) l w = A b x l w
  also-away X a n k A h b (inr e) l w = subst (λ c. Never-emits (at c) l) (sym e) (h l w)

  abbrev Cut : Graph → Values → ℕ → Answer → Type 0
  Cut g = YieldsIn (some N) g

  -- with the first test err: of a body, and behind the test
  abbrev Over : Graph → Values → ℕ → Answer → Type 0
  Over g = YieldsBy (cut-loops N) g true

  abbrev Test : Graph → Values → ℕ → Answer → Type 0
  Test g ρ c a = ((v : Value) × (ρ test_name ≡ some v)) × Cut g (err-test ρ) c a

  -- Served in each net that lets the twin of the test's first copy come. X holds the operators whose twins a loop around the graph answers for.
  abbrev Through : Graph → ℕ → Env → (Values → ℕ → Answer → Type 0) → Type 1
  Through g n env M =
      (F : Copied at plain g n env) × ((X : ℕ → Type 0) → Away X n (links_of g) → Serves (net-of (also X F.first.number)) (plan_of g n env) M)

  -- What the recursion shows of each graph: its loops cut; and where it has a test, the same with that test err.
  record Results (g : Graph) (n : ℕ) (env : Env) : Type 1 where
    cut : (X : ℕ → Type 0) → Away X n (links_of g) → Serves (net-of X) (plan_of g n env) (Cut g)
    over : Testing g → Through g n env (Over g)
    test : Behind g → Through g n env (Test g)

  only-cut : (g : Graph) (n : ℕ) (env : Env) → (Is-bind g → ⊥) → ((X : ℕ → Type 0) → Away X n (links_of g) → Serves (net-of X) (plan_of g n env) (Cut g)) → Results g n env
  only-cut g n env un s = record { cut = s; over = λ t. absurd (un (testing-bind g t)); test = λ t. absurd (un (behind-bind g t)) }

  through-map : (g : Graph) (n : ℕ) (env : Env) (Y Z : Values → ℕ → Answer → Type 0) → ((ρ : Values) (c : ℕ) (v : Answer) → Z ρ c v → Y ρ c v) → Through g n env Y → Through g n env Z
  through-map g n env Y Z f (F, S) = (F, λ X A ρ c v y. S X A ρ c v (f ρ c v y))

  module _ (ns : List ℕ) (a b : Graph) (ft : Fit (bind ns a b)) (n : ℕ) (env : Env) (En : Envs (free (bind ns a b)) env n) (le : n + links_of (bind ns a b) ≤ nowhere)
      (H : Each (Placed at plain) (operators_of (bind ns a b) n env)) (ra : Results a (maker-at ns a b n env) (maker-env ns a b n env))
      (rb : Results b (user-at ns a b n env) (user-env ns a b n env)) where
    abbrev na : ℕ
    na = maker-at ns a b n env

    abbrev nb : ℕ
    nb = user-at ns a b n env

    abbrev eb : Env
    eb = user-env ns a b n env

    away-a : (X : ℕ → Type 0) → Away X n (links_of (bind ns a b)) → Away X na (links_of a)
    unfolding links_of
    away-a X A = first-away X n (shared_links (free a) (outer ns a b n env)) (links_of a) (links_of b) A

    away-b : (X : ℕ → Type 0) → Away X n (links_of (bind ns a b)) → Away X nb (links_of b)
    unfolding links_of
    away-b X A = second-away X n (shared_links (free a) (outer ns a b n env)) (links_of a) (links_of b) A

    copies : (X : ℕ → Type 0) → Has (net-of X) (sharing (free a) (outer ns a b n env) n env)
    copies X = placed-has at plain N X (sharing (free a) (outer ns a b n env) n env) (bind-each ns a b n env (Placed at plain) H).0

    cut-bind : (X : ℕ → Type 0) → Away X n (links_of (bind ns a b)) → Serves (net-of X) (plan_of (bind ns a b) n env) (Cut (bind ns a b))
    unfolding free
    cut-bind X A = serve-bind (net-of X) ns a b ft n env En le (copies X) (Cut a) (Cut b) (ra.cut X (away-a X A)) (rb.cut X (away-b X A))

    -- Where what comes behind is served with a twin, the whole is.
    lifted : (Z : Values → ℕ → Answer → Type 0) → Through b nb eb Z → Through (bind ns a b) n env (λ ρ. Sequel (Cut a ρ) (λ vs. Z (bound ns vs ρ)))
    unfolding free
    lifted Z (F, S) =
        let t : ℕ = F.first.number in
        let else : (l : ℕ) → Between na (links_of a) l → Never-emits (at t) l
        = λ l w. first_else at plain b nb eb F l (ahead na (links_of a) F.arm₁ l F.own-arm.0 w) (ahead na (links_of a) F.on₁ l F.own₁.0 w) in
        let G = lift-copied at plain ns a b ft n env En le F in (
          G.0,
          λ X A. subst (λ z. Serves (net-of (also X z)) (plan_of (bind ns a b) n env) (λ ρ. Sequel (Cut a ρ) (λ vs. Z (bound ns vs ρ)))) (sym G.1)
              (serve-bind (net-of (also X t)) ns a b ft n env En le (copies (also X t)) (Cut a) Z
              (ra.cut (also X t) (also-away X t na (links_of a) (away-a X A) else)) (S X (away-b X A))),
        )

    over-bind : Testing (bind ns a b) → Through (bind ns a b) n env (Over (bind ns a b))
    over-bind t = go (testing-cases ns a b t)
      where
        meant : ns ≡ test_name ∷ [] → (ρ : Values) (c : ℕ) (v : Answer) → Over (bind ns a b) ρ c v → Sequel (Cut a ρ) (λ vs. Test b (bound ns vs ρ)) c v
        meant e ρ c v (inl y) = absurd (y.0 e)
        meant e ρ c v (inr y) =
            sequel-map (Cut a ρ) (λ vs d w. ((u : Value) × (vs ≡ some u ∷ [])) × Cut b (bound ns (some err-value ∷ []) ρ) d w) (λ vs. Test b (bound ns vs ρ)) overridden c v y.1
          where
            overridden : (vs : List (Option Value)) (d : ℕ) (w : Answer) → ((u : Value) × (vs ≡ some u ∷ [])) × Cut b (bound ns (some err-value ∷ []) ρ) d w → Test b (bound ns vs ρ) d w
            overridden vs d w ((u, is), y) =
                let q = test-values ns u ρ e in
                subst (λ us. Test b (bound ns us ρ) d w) (sym is) ((u, q.0), subst (λ σ. Cut b σ d w) q.1 y)

        go : ((ns ≡ test_name ∷ [] → ⊥) × Testing b) ⊎ ((ns ≡ test_name ∷ []) × Behind b) → Through (bind ns a b) n env (Over (bind ns a b))
        go (inl (ne, u)) =
            through-map (bind ns a b) n env (λ ρ. Sequel (Cut a ρ) (λ vs. Over b (bound ns vs ρ))) (Over (bind ns a b))
            (λ ρ c v y. ⊎_elim (λ z. z.1) (λ z. absurd (ne z.0)) y) (lifted (Over b) (rb.over u))
        go (inr (e, u)) =
            through-map (bind ns a b) n env (λ ρ. Sequel (Cut a ρ) (λ vs. Test b (bound ns vs ρ))) (Over (bind ns a b)) (meant e) (lifted (Test b) (rb.test u))

    -- The twin of the test's first copy.
    test-bind : Behind (bind ns a b) → Through (bind ns a b) n env (Test (bind ns a b))
    unfolding free
    test-bind t =
        let f : Names = free a in
        let g : Names = outer ns a b n env in
        let uses = behind-shared ns a b t in
        let both : f test_name && g test_name ≡ true = and_both (f test_name) (g test_name) uses.0 uses.1 in
        let l₁ : ℕ = first_use f g n env test_name in
        let l₂ : ℕ = second_use f g n env test_name in
        let c : Placed at plain (copy_of (env test_name) l₁ l₂)
        = each_copy (Placed at plain) f g n env (bind-each ns a b n env (Placed at plain) H).0 test_name test-small both in
        let k : ℕ = c.number in
        let else : (l : ℕ) → na ≤ l → Never-emits (at k) l
        = λ l h. copy-else at plain (env test_name) l₁ l₂ c l (above l₁ na l ((envs-first f g n env En).below test_name uses.0) h)
        (above l₂ na l ((envs-second f g n env En).below test_name uses.1) h) in
        let F = find-behind at plain ns a b t ft n env En le H c in (
          F.0,
          λ X A. subst (λ z. Serves (net-of (also X z)) (plan_of (bind ns a b) n env) (Test (bind ns a b))) (sym F.1) (λ ρ d v y.
              serve-over (net-of (also X k)) ns a b ft n env En le (copies (also X k)) (Cut a) (Cut b)
              (ra.cut (also X k) (also-away X k na (links_of a) (away-a X A) (λ l w. else l w.0)))
              (rb.cut (also X k) (also-away X k nb (links_of b) (away-b X A) (λ l w. else l (further na (links_of a) l w.0)))) ρ d v (
                err-test ρ,
                one-changes f g n env En (net-of (also X k)) ρ (err-test ρ) test_name y.0.0 both y.0.1 (bound-here test_name [] (some err-value) [] ρ) (err-others ρ)
                    (c.twin, c.twin-is, twin-fine at plain N X k c.twin c.twin-own),
                y.1,
              )),
        )

  module _ (ns : List ℕ) (a b : Graph) (ft : Fit (loop ns a b)) (n : ℕ) (env : Env) (En : Envs (free (loop ns a b)) env n) (le : n + links_of (loop ns a b) ≤ nowhere)
      (H : Each (Placed at plain) (operators_of (loop ns a b) n env)) (ra : Results a (maker-at ns a b n env) (maker-env ns a b n env))
      (rb : Results b (body_at ns a b n env) (inner ns a b n env)) (tb : Testing b) where
    abbrev o : ℕ
    o = user-at ns a b n env

    abbrev start : ℕ
    start = body_at ns a b n env

    abbrev it : ℕ
    it = iter ns a b n env

    abbrev is : List ℕ
    is = iterates ns a b n env

    abbrev rs : List ℕ
    rs = returns ns a b n env

    abbrev link : Env
    link = user-env ns a b n env

    abbrev within : Env
    within = inner ns a b n env

    ops : (X : ℕ → Type 0) → Loop-each ns a b n env (Somewhere (net-of X))
    ops X = loop-each ns a b n env (Somewhere (net-of X)) ft (placed-has at plain N X (operators_of (loop ns a b) n env) H)

    abbrev F : Copied at plain b start within
    F = (rb.over tb).0

    abbrev t : ℕ
    t = F.first.number

    -- In each round that iterates the first test is copied.
    tests : (X : ℕ → Type 0) → Away X start (links_of b) → (K : Lay.Laid_out ns (free b) o (links_of b) it is rs (RingOf b start) link) (ρ : Values) (ws : List Value) (s s₁ : Links) (c : ℕ)
        (w : Steps (net-of X) s c s₁) → Rounds.Turn ns (free b) o (links_of b) it is rs (RingOf b start) link K ρ ws s → s₁ it ≡ val true-value ∷ [] → 1 ≤ count t w.w
    tests X A K ρ ws s s₁ c w T e =
        round-tests at plain t F.second.number F.third.number F.on₁ F.on₂ it (copied-tested at plain b start within F) N w.w s pos
        (w.fine t (λ x. first-emits at plain b start within F (A t x F.on₁ F.own₁))) w.runs (T.body.clear F.on₁ F.own₁ F.free₁) (T.body.clear F.on₂ F.own₂ F.free₂)
        (T.body.clear it (K.inside it (inl refl)) (λ k. K.body.ring-off it k.0 k.1 (inl refl)))
        (λ z. cons-ne-nil (val true-value) [] (sym e ∙ sym (ap (λ q. q it) w.ends) ∙ z))

    cut-loop : (X : ℕ → Type 0) → Away X n (links_of (loop ns a b)) → Serves (net-of X) (plan_of (loop ns a b) n env) (Cut (loop ns a b))
    unfolding links_of
    cut-loop X A =
        let shared : ℕ = shared_links (free a) (outer ns a b n env) in
        let s : ℕ = total (free b) in
        let Ab : Away X start (links_of b) = body-away X n shared (links_of a) s (links_of b) (chain_links s) A in
        let p = loop-room ns a b n env ft En le in
        let core : Serves (net-of X) (CorePlan ns a b n env) (Cut-core ns (free b) (length rs) N (Cut b) (Over b))
        = Core.cut-core-serves ns (free b) o (links_of b) it is rs (RingOf b start) link p.laid (net-of X) (net-of (also X t)) refl t N (close at plain N X t)
        (iterated ns a b n env) (started ns a b n env) (own ns a b n env) p.start_is p.own_is p.iter-is
        (ops X).gates (ops (also X t)).gates (ops X).fan (ops (also X t)).fan (Cut b) (Over b)
        (serve-body (net-of X) ns a b n env p (Cut b) (rb.cut X Ab)) (serve-body (net-of (also X t)) ns a b n env p (Over b) ((rb.over tb).1 X Ab)) (tests X Ab p.laid) in
        λ ρ c v y. serve-loop (net-of X) ns a b n env p ft En le (ops X).copies (Cut a) (Cut-core ns (free b) (length rs) N (Cut b) (Over b))
        (ra.cut X (first-away X n shared (links_of a) (s + (links_of b + chain_links s)) A)) core ρ c v
        (cut-looped (net-of X) N ns (free b) (length rs) (output_count (loop ns a b)) ρ (Cut a ρ) (Cut b) (Over b) p.returned c v y)

  results : (g : Graph) → Fit g → Cuttable g → (n : ℕ) (env : Env) → Envs (free g) env n → n + links_of g ≤ nowhere → Each (Placed at plain) (operators_of g n env) → Results g n env
  unfolding free links_of operators_of
  results (wire x) ft cb n env En le H = only-cut (wire x) n env (λ z. z) (λ X A. serve-wire (net-of X) x n env)
  results nothing ft cb n env En le H = only-cut nothing n env (λ z. z) (λ X A. serve-nothing (net-of X) n env)
  results (beside a b) ft cb n env En le H =
      let p = pair-room a b n env En le in
      let h = pair-each a b n env (Placed at plain) H in
      let shared : ℕ = shared_links (free a) (free b) in
      let ra = results a ft.0 cb.0 (left_at a b n env) (left-env a b n env) p.envs-a p.fits-a h.1 in
      let rb = results b ft.1 cb.1 (right-at a b n env) (right-env a b n env) p.envs-b p.fits-b h.2 in
      only-cut (beside a b) n env (λ z. z) (λ X A. serve-beside (net-of X) a b ft n env En le (placed-has at plain N X (sharing (free a) (free b) n env) h.0) (Cut a) (Cut b)
      (ra.cut X (first-away X n shared (links_of a) (links_of b) A)) (rb.cut X (second-away X n shared (links_of a) (links_of b) A)))
  results (bind ns a b) ft cb n env En le H =
      let p = bind-room ns a b n env ft En le in
      let h = bind-each ns a b n env (Placed at plain) H in
      let ra = results a ft.0 cb.0 (maker-at ns a b n env) (maker-env ns a b n env) p.envs-a p.fits-a h.1 in
      let rb = results b ft.1 cb.1 (user-at ns a b n env) (user-env ns a b n env) p.envs-b p.fits-b h.2 in
      record { cut = cut-bind ns a b ft n env En le H ra rb; over = over-bind ns a b ft n env En le H ra rb; test = test-bind ns a b ft n env En le H ra rb }
  results (gate g a) ft cb n env En le H =
      let opg = gate_of g (outputs a n env) (n + links_of a) in
      let ra = results a ft.0 cb n env En (fore-fits n (links_of a) (gate_outputs g) le) (each_first (Placed at plain) (operators_of a n env) (opg ∷ []) H) in
      only-cut (gate g a) n env (λ z. z) (λ X A. serve-gate (net-of X) g a ft n env En le (placed-has at plain N X (operators_of (gate g a) n env) H) (Cut a)
      (ra.cut X (fore-away X n (links_of a) (gate_outputs g) A)))
  results (loop ns a b) ft cb n env En le H =
      let p = loop-room ns a b n env ft En le in
      let h = loop-each ns a b n env (Placed at plain) ft H in
      let ra = results a ft.0 cb.0 (maker-at ns a b n env) (maker-env ns a b n env) p.envs-a p.fits-a h.first in
      let rb = results b ft.1 cb.1 (body_at ns a b n env) (inner ns a b n env) p.envs-b p.fits-b h.second in
      only-cut (loop ns a b) n env (λ z. z) (cut-loop ns a b ft n env En le H ra rb cb.2)

  pub cut-serves : (g : Graph) → Fit g → Cuttable g → (n : ℕ) (env : Env) → Envs (free g) env n → n + links_of g ≤ nowhere → Each (Placed at plain) (operators_of g n env) →
      Serves (late-net at plain N (λ a. ⊥)) (plan_of g n env) (YieldsIn (some N) g)
  cut-serves g ft cb n env En le H = (results g ft cb n env En le H).cut (λ a. ⊥) (λ b x l w. absurd x)
