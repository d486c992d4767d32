-- THE SCHEDULE LEMMA. Every fit graph, laid out in any net that has its operators, does for one set of values just what it yields: from its
-- names' values and its gates ready, a schedule that is possible with one place a link, of at least as many firings as rounds, leads
-- to the yielded values on its outputs, everything else of it empty and its gates ready again, and nothing outside touched; or,
-- where the rounds lent do not suffice, there is a schedule of that many firings.
use Prim.Native.Nat.{ℕ, ◌+◌, ◌≤◌}
use Rattle.std.specs.Prelude.{◌≡◌, refl, ◌⊎◌, Bool, true, false, ◌||◌, length, eqb}
use Rattle.std.proofs.Common.{sym, ◌∙◌, inl, inr, arith, eqb-true, eq-eqb}
use Rattle.std.proofs.Math.Path.{ap, subst}
use Rattle.std.proofs.Math.Logic.{⊎_elim}
use Rattle.std.proofs.lemmas.Bool.{false≢true}
use mathlib.Core.List.{List, [], ◌∷◌}
use Rattle.std.proofs.Math.Option.{none, some}
use Rattle.value.specs.Operators.{operands, pick}
use Rattle.names.specs.Names.{Names, union}
use Rattle.theory_pieces.specs.Goes.{Net}
use Rattle.theory_pieces.proofs.Goes.{stay}
use Rattle.graph.specs.Assembly.{Gate, const, oper, T, F, M, E, IC, Graph, wire, nothing, beside, bind, gate, loop, Env, member_of, free, links_of, outputs, operators_of, gate_outputs, gate_of, sharing}
use Rattle.graph.specs.Yields.{Values, Answer, Yields, output_count, absent, present, bound, Sequel, stops, goes_on, Beside, Gated, Looped, rests, spins, Cut-looped}
use Rattle.graph.specs.Fit.{Fit, gate_inputs}
use Rattle.theory_reference.proofs.NameSets.{either}
use Rattle.theory_reference.specs.Plugged.{nowhere}
use Rattle.theory_reference.proofs.Plugged.{Somewhere, Has, each_first, each-rest}
use Rattle.theory_reference.specs.Plan.{Between, Envs}
use Rattle.theory_reference.proofs.Plan.{Leads, Serves}
use Rattle.theory_reference.proofs.Sharing.{Changes}
use Rattle.theory_reference.proofs.Binding.{bound-others, bound-absent}
use Rattle.theory_reference.proofs.SideBySide as Side
use Rattle.theory_reference.proofs.OneAfterAnother as Follow
use Rattle.theory_reference.proofs.BehindGate as Gates
use Rattle.theory_reference.proofs.LoopLayout as Lay
use Rattle.theory_reference.specs.LoopCore as Core
use Rattle.theory_reference.proofs.LoopCore as CoreLaws
use Rattle.theory_reference.specs.LoopCore.{Core-yields, Cut-core}
use Rattle.theory_reference.specs.GraphLayout.{RingOf, plan_of, Layout, body_plan}
use Rattle.theory_reference.proofs.GraphLayout.{layout, outs-parts, fore-fits}
use Rattle.theory_reference.proofs.GraphParts.{left_at, left-env, right-at, right-env, pair-room, pair-each, outer, maker-at, maker-env, user-at, user-env, bind-room, bind-each, body_at, inner, yielded, iter, iterates, returns, core-size, BodyPlan, CorePlan, iterated, started, own, Loop-room, loop-room, loop-each}

few-operands : (b : Bool) → pick b 1 2 ≤ 3
few-operands true = omega arith
few-operands false = omega arith

few-inputs : (g : Gate) → gate_inputs g ≤ 3
unfolding gate_inputs operands
few-inputs (const v) = omega arith
few-inputs (oper k) = few-operands (eqb k 10 || eqb k 11)
few-inputs T = omega arith
few-inputs F = omega arith
few-inputs M = omega arith
few-inputs E = omega arith
few-inputs (IC both) = omega arith

few : {k c d : ℕ} → k ≡ c → c ≡ d → d ≤ 3 → k ≤ 3
few e h le = omega arith

nothing-comes : (ns : List ℕ) (ρ : Values) (x : ℕ) → (member_of ns x ≡ false → ρ x ≡ none) → (member_of ns x ≡ true) ⊎ (member_of ns x ≡ false) → bound ns (absent (length ns)) ρ x ≡ none
nothing-comes ns ρ x q (inl w) = bound-absent ns (length ns) ρ x (omega arith) w
nothing-comes ns ρ x q (inr w) = bound-others ns (absent (length ns)) ρ x w ∙ q w

module _ (net : Net) where
  pub serve-wire : (x n : ℕ) (env : Env) → Serves net (plan_of (wire x) n env) (Yields (wire x))
  unfolding free links_of outputs
  serve-wire x n env ρ c a (ec, ea) s bef =
      subst (λ d. Leads net (plan_of (wire x) n env) s d a) (sym ec)
      (subst (Leads net (plan_of (wire x) n env) s 0) (sym ea) (
        s,
        stay net s,
        record {
          gives = (bef.laid x (eq-eqb x x refl), tt);
          clear = λ l z c n. ⊎_elim (λ (o : Between _ 0 l). absurd (omega arith)) (λ (p : (y : ℕ) × (eqb x y ≡ true) × (l ≡ env y)). absurd (n (inl (p.2 ∙ ap env (sym (eqb-true x p.0 p.1)))))) z;
          ready = bef.ready;
          same = λ l u. refl;
        },
      ))

  pub serve-nothing : (n : ℕ) (env : Env) → Serves net (plan_of nothing n env) (Yields nothing)
  unfolding free links_of outputs
  serve-nothing n env ρ c a (ec, ea) s bef =
      subst (λ d. Leads net (plan_of nothing n env) s d a) (sym ec)
      (subst (Leads net (plan_of nothing n env) s 0) (sym ea) (
        s,
        stay net s,
        record {
          gives = tt;
          clear = λ l z c m. ⊎_elim (λ (o : Between n 0 l). absurd (omega arith)) (λ (p : (y : ℕ) × (false ≡ true) × (l ≡ env y)). absurd (false≢true p.1)) z;
          ready = bef.ready;
          same = λ l u. refl;
        },
      ))

  -- A loop is its start, bound to its identifiers, and the rest of it.
  looped : (ns : List ℕ) (h : Names) (k r : ℕ) (ρ : Values) (P : ℕ → Answer → Type 0) (B : Values → ℕ → Answer → Type 0) → k ≡ r → (c : ℕ) (a : Answer) →
      Looped ns (λ n. (h n ≡ true) × (member_of ns n ≡ false)) r ρ P (λ vs. B (bound ns (present vs) ρ)) c a → Sequel P (λ vs. Core-yields ns h k B (bound ns vs ρ)) c a
  looped ns h k r ρ P B e c a (rests p q) =
      subst (λ z. Sequel P (λ vs. Core-yields ns h k B (bound ns vs ρ)) 0 (some (absent z))) e
      (goes_on 0 0 (absent (length ns)) (some (absent k)) p (Core.rests (λ x m. nothing-comes ns ρ x (λ w. q x (m, w)) (either (member_of ns x)))))
  looped ns h k r ρ P B e _ _ (stops c p) = stops c p
  looped ns h k r ρ P B e _ _ (spins c d vs a fit p q y) =
      goes_on c d (present vs) a p (Core.spins ρ vs d a fit (λ x m. refl) (λ x m w. q x (m, w)) y)

  -- The same for a loop that is cut.
  pub cut-looped : (N : ℕ) (ns : List ℕ) (h : Names) (k r : ℕ) (ρ : Values) (P : ℕ → Answer → Type 0) (B C : Values → ℕ → Answer → Type 0) → k ≡ r → (c : ℕ) (a : Answer) →
      Cut-looped N ns (λ n. (h n ≡ true) × (member_of ns n ≡ false)) r ρ P (λ vs. B (bound ns (present vs) ρ)) (λ vs. C (bound ns (present vs) ρ)) c a →
      Sequel P (λ vs. Cut-core ns h k N B C (bound ns vs ρ)) c a
  cut-looped N ns h k r ρ P B C e _ _ (Cut-looped.rests p q) =
      subst (λ z. Sequel P (λ vs. Cut-core ns h k N B C (bound ns vs ρ)) 0 (some (absent z))) e
      (goes_on 0 0 (absent (length ns)) (some (absent k)) p (Cut-core.rests (λ x m. nothing-comes ns ρ x (λ w. q x (m, w)) (either (member_of ns x)))))
  cut-looped N ns h k r ρ P B C e _ _ (Cut-looped.spins c vs us fit p q y) =
      let z : c + 0 ≡ c = omega arith in
      subst (λ d. Sequel P (λ vs. Cut-core ns h k N B C (bound ns vs ρ)) d (some us)) z
      (goes_on c 0 (present vs) (some us) p (Cut-core.spins ρ vs us fit (λ x m. refl) (λ x m w. q x (m, w)) y))

  -- Each way of putting graphs together, over any meanings of the parts.
  pub serve-beside : (a b : Graph) → Fit (beside a b) → (n : ℕ) (env : Env) → Envs (free (beside a b)) env n → n + links_of (beside a b) ≤ nowhere →
      Has net (sharing (free a) (free b) n env) → (Y Z : Values → ℕ → Answer → Type 0) → Serves net (plan_of a (left_at a b n env) (left-env a b n env)) Y →
      Serves net (plan_of b (right-at a b n env) (right-env a b n env)) Z → Serves net (plan_of (beside a b) n env) (λ ρ. Beside (Y ρ) (Z ρ))
  unfolding free links_of outputs
  serve-beside a b ft n env En le H =
      let p = pair-room a b n env En le in
      let na : ℕ = left_at a b n env in
      let nb : ℕ = right-at a b n env in
      let ea : Env = left-env a b n env in
      let eb : Env = right-env a b n env in
      Side.beside-serves (free a) (free b) n (links_of a) (links_of b) env (outputs a na ea) (outputs b nb eb) (RingOf a na) (RingOf b nb) En le
      (layout a ft.0 na ea p.envs-a p.fits-a).sound (layout b ft.1 nb eb p.envs-b p.fits-b).sound net H

  module _ (ns : List ℕ) (a b : Graph) (ft : Fit (bind ns a b)) (n : ℕ) (env : Env) (En : Envs (union (free a) (outer ns a b n env)) env n) (le : n + links_of (bind ns a b) ≤ nowhere)
      (H : Has net (sharing (free a) (outer ns a b n env) n env)) (Y Z : Values → ℕ → Answer → Type 0) (SY : Serves net (plan_of a (maker-at ns a b n env) (maker-env ns a b n env)) Y)
      (SZ : Serves net (plan_of b (user-at ns a b n env) (user-env ns a b n env)) Z) where
    -- where twins of shared names' copies make their values err
    pub serve-over : Serves net (plan_of (bind ns a b) n env)
        (λ ρ c v. (ρ' : Values) × Changes (free a) (outer ns a b n env) n env En net ρ ρ' × Sequel (Y ρ') (λ vs. Z (bound ns vs ρ')) c v)
    unfolding free links_of outputs
    serve-over =
        let p = bind-room ns a b n env ft En le in
        let na : ℕ = maker-at ns a b n env in
        let nb : ℕ = user-at ns a b n env in
        let ea : Env = maker-env ns a b n env in
        let eb : Env = user-env ns a b n env in
        let la : Layout a na ea = layout a ft.0 na ea p.envs-a p.fits-a in
        Follow.bind-over ns (free a) (free b) n (links_of a) (links_of b) env (outputs a na ea) (outputs b nb eb) (RingOf a na) (RingOf b nb) En le la.sound (la.count ∙ ft.2) ft.3 ft.4
        (layout b ft.1 nb eb p.envs-b p.fits-b).sound net H Y Z SY SZ

    -- and where they change nothing
    pub serve-bind : Serves net (plan_of (bind ns a b) n env) (λ ρ. Sequel (Y ρ) (λ vs. Z (bound ns vs ρ)))
    serve-bind ρ c v y = serve-over ρ c v (ρ, record { shared = λ x e. inl refl; alone = λ x e. refl }, y)

  pub serve-gate : (g : Gate) (a : Graph) → Fit (gate g a) → (n : ℕ) (env : Env) → Envs (free a) env n → n + links_of (gate g a) ≤ nowhere → Has net (operators_of (gate g a) n env) →
      (Y : Values → ℕ → Answer → Type 0) → Serves net (plan_of a n env) Y → Serves net (plan_of (gate g a) n env) (λ ρ. Gated g (Y ρ))
  unfolding free links_of outputs operators_of
  serve-gate g a ft n env En le H =
      let la : Layout a n env = layout a ft.0 n env En (fore-fits n (links_of a) (gate_outputs g) le) in
      Gates.gate-serves g (free a) n (links_of a) env (outputs a n env) (RingOf a n) la.sound le (few la.count ft.1 (few-inputs g)) net
      (each-rest (Somewhere net) (operators_of a n env) (gate_of g (outputs a n env) (n + links_of a) ∷ []) H).0

  module _ (ns : List ℕ) (a b : Graph) (n : ℕ) (env : Env) (p : Loop-room ns a b n env) where
    -- a loop's body with its outputs told apart
    pub serve-body : (Y : Values → ℕ → Answer → Type 0) → Serves net (plan_of b (body_at ns a b n env) (inner ns a b n env)) Y → Serves net (BodyPlan ns a b n env) Y
    serve-body Y = subst (λ os. Serves net (body_plan (free b) (user-at ns a b n env) (links_of b) (RingOf b (body_at ns a b n env)) os) Y) (outs-parts (length ns) (yielded ns a b n env) p.long)

    -- and the whole, from its start and the rest
    pub serve-loop : Fit (loop ns a b) → Envs (free (loop ns a b)) env n → n + links_of (loop ns a b) ≤ nowhere → Has net (sharing (free a) (outer ns a b n env) n env) →
        (Y Z : Values → ℕ → Answer → Type 0) → Serves net (plan_of a (maker-at ns a b n env) (maker-env ns a b n env)) Y → Serves net (CorePlan ns a b n env) Z →
        Serves net (plan_of (loop ns a b) n env) (λ ρ. Sequel (Y ρ) (λ vs. Z (bound ns vs ρ)))
    unfolding free links_of outputs
    serve-loop ft En le H =
        let na : ℕ = maker-at ns a b n env in
        let ea : Env = maker-env ns a b n env in
        let rs : List ℕ = returns ns a b n env in
        let la : Layout a na ea = layout a ft.0 na ea p.envs-a p.fits-a in
        let core = Lay.core-sound ns (free b) (user-at ns a b n env) (links_of b) (iter ns a b n env) (iterates ns a b n env) rs (RingOf b (body_at ns a b n env)) (user-env ns a b n env) p.laid in
        Follow.bind-serves ns (free a) (free b) n (links_of a) (core-size ns a b n env) env (outputs a na ea) rs (RingOf a na) (CorePlan ns a b n env).Ring En le la.sound
        (la.count ∙ ft.2) ft.3 ft.4 core net H

  pub serves : (g : Graph) → Fit g → (n : ℕ) (env : Env) → Envs (free g) env n → n + links_of g ≤ nowhere → Has net (operators_of g n env) → Serves net (plan_of g n env) (Yields g)
  unfolding free links_of operators_of
  serves (wire x) ft n env En le H = serve-wire x n env
  serves nothing ft n env En le H = serve-nothing n env
  serves (beside a b) ft n env En le H =
      let p = pair-room a b n env En le in
      let h = pair-each a b n env (Somewhere net) H in
      serve-beside a b ft n env En le h.0 (Yields a) (Yields b) (serves a ft.0 (left_at a b n env) (left-env a b n env) p.envs-a p.fits-a h.1)
      (serves b ft.1 (right-at a b n env) (right-env a b n env) p.envs-b p.fits-b h.2)
  serves (bind ns a b) ft n env En le H =
      let p = bind-room ns a b n env ft En le in
      let h = bind-each ns a b n env (Somewhere net) H in
      serve-bind ns a b ft n env En le h.0 (Yields a) (Yields b) (serves a ft.0 (maker-at ns a b n env) (maker-env ns a b n env) p.envs-a p.fits-a h.1)
      (serves b ft.1 (user-at ns a b n env) (user-env ns a b n env) p.envs-b p.fits-b h.2)
  serves (gate g a) ft n env En le H =
      serve-gate g a ft n env En le H (Yields a) (serves a ft.0 n env En (fore-fits n (links_of a) (gate_outputs g) le)
      (each_first (Somewhere net) (operators_of a n env) (gate_of g (outputs a n env) (n + links_of a) ∷ []) H))
  serves (loop ns a b) ft n env En le H =
      let p = loop-room ns a b n env ft En le in
      let h = loop-each ns a b n env (Somewhere net) ft H in
      let rs : List ℕ = returns ns a b n env in
      let nb : ℕ = body_at ns a b n env in
      let core : Serves net (CorePlan ns a b n env) (Core-yields ns (free b) (length rs) (Yields b))
      = CoreLaws.core-serves ns (free b) (user-at ns a b n env) (links_of b) (iter ns a b n env) (iterates ns a b n env) rs (RingOf b nb) (user-env ns a b n env) p.laid net
      (iterated ns a b n env) (started ns a b n env) (own ns a b n env) p.start_is p.own_is p.iter-is h.gates h.fan (Yields b)
      (serve-body ns a b n env p (Yields b) (serves b ft.1 nb (inner ns a b n env) p.envs-b p.fits-b h.second)) in
      let start = serves a ft.0 (maker-at ns a b n env) (maker-env ns a b n env) p.envs-a p.fits-a h.first in
      λ ρ c v y. serve-loop ns a b n env p ft En le h.copies (Yields a) (Core-yields ns (free b) (length rs) (Yields b)) start core ρ c v
      (looped ns (free b) (length rs) (output_count (loop ns a b)) ρ (Yields a ρ) (Yields b) p.returned c v y)
