-- Laws of specs/LoopCore.antt, and what only they need.
use Rattle.std.specs.Prelude.{ℕ, ◌+◌, ◌-◌, ◌<◌, ◌≤◌, ◌≡◌, refl, ◌⊎◌, true, false, List, [], ◌∷◌, ◌++◌, length}
use Rattle.std.proofs.Common.{sym, ◌∙◌, ap, subst, inl, inr, ⊎_elim, arith}
use Rattle.std.proofs.Math.Option.{none, some}
use Rattle.value.specs.declared.Value.{Value}
use Rattle.names.specs.Names.{Names}
use Rattle.theory_schedule.specs.Counts.{count}
use Rattle.network.specs.Values.{true-value}
use Rattle.network.specs.Net.{val, Links}
use Rattle.network.specs.Uses.{In}
use Rattle.theory_pieces.specs.Goes.{Net}
use Rattle.theory_pieces.proofs.Goes.{Steps, stay, steps_then, steps-long}
use Rattle.theory_pieces.proofs.Rows.{dec-in}
use Rattle.graph.specs.Assembly.{Env, member_of, total, ring_gate, chain, chain_links}
use Rattle.graph.specs.Yields.{Values, Answer, absent, present, bound}
use Rattle.theory_reference.proofs.NameSets.{either}
use Rattle.theory_reference.specs.Plugged.{nowhere, registers}
use Rattle.theory_reference.proofs.Plugged.{Somewhere, Has}
use Rattle.theory_reference.specs.Plan.{tokens, Hold, Between, Plan, Own, Port, Zone, Control, Outside, Ready, Before, After}
use Rattle.theory_reference.proofs.Plan.{Leads, Serves, fewer, fewer-long, ready-same}
use Rattle.theory_reference.proofs.Binding.{bound-others, bound-present}
use Rattle.theory_reference.proofs.LoopLayout as Lay
use Rattle.theory_reference.proofs.LoopGates as Gates
use Rattle.theory_reference.proofs.LoopRounds as Rounds
use Rattle.theory_reference.specs.LoopCore.{Core-yields, rests, spins, Cut-core}

hold-empty : (ls : List ℕ) (s : Links) → ((l : ℕ) → In l ls → s l ≡ []) → Hold ls (absent (length ls)) s
hold-empty [] s e = tt
hold-empty (l ∷ ls) s e = (e l (inl refl), hold-empty ls s (λ k i. e k (inr i)))

module _ (ns : List ℕ) (h : Names) (o kb it : ℕ) (is rs : List ℕ) (RB : ℕ → ℕ → Type 0) (env : Env) (K : Lay.Laid_out ns h o kb it is rs RB env) where
  abbrev control : Env
  control = Lay.control ns h o kb it is rs RB env

  abbrev inner : Env
  inner = Lay.inner ns h o kb it is rs RB env

  abbrev Body : Plan
  Body = Lay.Body ns h o kb it is rs RB env

  abbrev Core : Plan
  Core = Lay.Core ns h o kb it is rs RB env

  abbrev ends : List ℕ
  ends = Lay.ends ns h o kb it is rs RB env

  abbrev copies : ℕ
  copies = Lay.copies ns h o kb it is rs RB env

  resting : (ρ' : Values) (s : Links) → Before Core ρ' s → ((x : ℕ) → h x ≡ true → ρ' x ≡ none) → After Core s s (absent (length rs))
  resting ρ' s bef no_value =
      record {
        gives = hold-empty rs s (λ l i. let b = K.inside l (Lay.rs-in ns h o kb it is rs RB env K l i) in
            bef.clear l (omega arith, omega arith) (λ c. (Lay.core-sound ns h o kb it is rs RB env K).ring-off l c.0 c.1 i));
        clear = λ l z c n. ⊎_elim (λ (b : Own Core l). bef.clear l b c) (λ (p : Port Core l). ap s p.2 ∙ bef.laid p.0 p.1 ∙ ap tokens (no_value p.0 p.1)) z;
        ready = bef.ready;
        same = λ l u. refl;
      }

  module _ (net : Net) (iterE startE own_e : Env) (start_is : (x : ℕ) → h x ≡ true → member_of ns x ≡ true → startE x ≡ env x)
      (own_is : (x : ℕ) → h x ≡ true → member_of ns x ≡ false → own_e x ≡ env x) (iter-is : (x : ℕ) → member_of ns x ≡ true → iterE x ≡ Lay.iterated ns h o kb it is rs RB env x)
      (gates : (x : ℕ) → h x ≡ true → Somewhere net (ring_gate (member_of ns x) (control x) (iterE x) (startE x) (own_e x) (inner x))) (H : Has net (chain it copies (total h)))
      (M : Values → ℕ → Answer → Type 0) (SM : Serves net Body M) where
    abbrev Entry : ℕ → ℕ → Type 0
    Entry x l = l ≡ env x

    abbrev Touches : ℕ → ℕ → Type 0
    Touches x l = Gates.Links-of ns h o kb it is rs RB env K Entry x l

    not-touched : (l : ℕ) → (In l ends → ⊥) → (Port Core l → ⊥) → (Between o (total h) l → ⊥) → (Between (registers + o) (total h) l → ⊥) → (x : ℕ) → h x ≡ true → Touches x l → ⊥
    not-touched l a b c d x e (inl z) = a (subst (λ k. In k ends) (sym z) (Lay.control-in ns h o kb it is rs RB env K x e))
    not-touched l a b c d x e (inr (inl z)) = b (x, e, z)
    not-touched l a b c d x e (inr (inr (inl z))) = let q = Lay.inner-between ns h o kb it is rs RB env K x e in c (omega arith, omega arith)
    not-touched l a b c d x e (inr (inr (inr z))) = let q = Lay.inner-between ns h o kb it is rs RB env K x e in d (omega arith, omega arith)

    port-low : (l : ℕ) → Port Core l → l < o
    port-low l (x, e, z) = let q = K.envs.below x e in omega arith

    module _ (ρ' ρ : Values) (vs : List Value) (fit : length vs ≡ length ns) (agree : (x : ℕ) → h x ≡ true → ρ' x ≡ bound ns (present vs) ρ x)
        (there : (x : ℕ) → h x ≡ true → member_of ns x ≡ false → (v : Value) × (ρ x ≡ some v)) (s : Links) (bef : Before Core ρ' s) where
      has_value : (x : ℕ) → h x ≡ true → (member_of ns x ≡ true) ⊎ (member_of ns x ≡ false) → (v : Value) × (ρ' x ≡ some v)
      has_value x e (inl m) = let v = bound-present ns vs ρ x fit m in (v.0, agree x e ∙ v.1)
      has_value x e (inr m) = let v = there x e m in (v.0, agree x e ∙ bound-others ns (present vs) ρ x m ∙ v.1)

      started : (s₁ : Links) × Steps net s 1 s₁
          × ((x : ℕ) → h x ≡ true → Gates.Started ns h o kb it is rs RB env K net iterE startE own_e start_is own_is iter-is gates ρ ρ' x s₁)
          × ((l : ℕ) → ((x : ℕ) → h x ≡ true → Touches x l → ⊥) → s₁ l ≡ s l)
      started =
          Gates.all_start ns h o kb it is rs RB env K net iterE startE own_e start_is own_is iter-is gates ρ ρ' (λ x e. has_value x e (either (member_of ns x)))
          (λ x e m. agree x e ∙ bound-others ns (present vs) ρ x m) s bef.laid
          (λ x e. let b = Lay.inner-between ns h o kb it is rs RB env K x e in
          bef.clear (inner x) (omega arith, omega arith) (Lay.inner-control ns h o kb it is rs RB env K (inner x) b))
          (λ x e. bef.ready (control x) (registers + inner x) (inr (x, e, refl, refl)))

      module _ (s₁ : Links) (A : (x : ℕ) → h x ≡ true → Gates.Started ns h o kb it is rs RB env K net iterE startE own_e start_is own_is iter-is gates ρ ρ' x s₁)
          (fr : (l : ℕ) → ((x : ℕ) → h x ≡ true → Touches x l → ⊥) → s₁ l ≡ s l) where
        turn : Rounds.Turn ns h o kb it is rs RB env K ρ vs s₁
        turn =
            record { body = record { laid = λ x e. (A x e).2 ∙ ap tokens (agree x e); clear = clear; ready = ready; void = void }; dry = dry; held = λ x e. (A x e).3 }
          where
            clear : (l : ℕ) → Own Body l → (Control Body l → ⊥) → s₁ l ≡ []
            clear l b c =
                let ft = K.fits in
                fr l (not-touched l (λ i. let q = Lay.end-copies ns h o kb it is rs RB env K l i in omega arith) (λ p. let q = port-low l p in omega arith) (λ q. omega arith) (λ q. omega arith))
                ∙ bef.clear l (omega arith, omega arith) (Lay.body-control ns h o kb it is rs RB env K l b c)

            ready : (c r : ℕ) → RB c r → Ready c r s₁
            ready c r k =
                let q = K.body.ring-own c r k in
                let ft = K.fits in
                ready-same c r s s₁
                (fr c (not-touched c (λ i. let w = Lay.end-copies ns h o kb it is rs RB env K c i in omega arith) (λ p. let w = port-low c p in omega arith) (λ w. omega arith) (λ w. omega arith)))
                (fr r (not-touched r (λ i. let w = Lay.end-copies ns h o kb it is rs RB env K r i in omega arith) (λ p. let w = port-low r p in omega arith) (λ w. omega arith) (λ w. omega arith)))
                (bef.ready c r (inl k))

            void : s₁ nowhere ≡ []
            void =
                let ft = K.fits in
                fr nowhere (not-touched nowhere (λ i. let w = Lay.end-copies ns h o kb it is rs RB env K nowhere i in omega arith) (λ p. let w = port-low nowhere p in omega arith) (λ w. omega arith) (λ w. omega arith))
                ∙ bef.void

            dry : (l : ℕ) → Between copies (chain_links (total h)) l → s₁ l ≡ []
            dry l b = go (dec-in l ends)
              where
                go : Dec (In l ends) → s₁ l ≡ []
                go (yes i) = let x = Lay.control-onto ns h o kb it is rs RB env K l i in ap s₁ x.2 ∙ (A x.0 x.1).0
                go (no i) =
                    let ft = K.fits in
                    fr l (not-touched l i (λ p. let q = port-low l p in omega arith) (λ q. omega arith) (λ q. omega arith))
                    ∙ bef.clear l (omega arith, omega arith) (Lay.copies-control ns h o kb it is rs RB env K l b i)

        finish : (d : ℕ) (a : Answer) → Steps net s 1 s₁ → Rounds.Comes ns h o kb it is rs RB env K net s₁ (d - 1) a → Leads net Core s d a
        finish d none t L = fewer-long net s (1 + (d - 1)) d (omega arith) (steps-long net s s₁ 1 (d - 1) t L)
        finish d (some us) t (s₂, u, E) = (
          s₂,
          fewer net s s₂ (1 + (d - 1)) d (omega arith) (steps_then net s s₁ s₂ 1 (d - 1) t u),
          record { gives = E.gives; clear = clear; ready = E.ready; same = same },
        )
          where
            clear : (l : ℕ) → Zone Core l → (Control Core l → ⊥) → (In l rs → ⊥) → s₂ l ≡ []
            clear l (inl b) c n = E.clear l b c n
            clear l (inr p) c n =
                let q = port-low l p in
                let ft = K.fits in
                E.same l (λ b. omega arith) (λ b. omega arith) ∙ ap s₁ p.2 ∙ (A p.0 p.1).1

            same : (l : ℕ) → Outside Core l → s₂ l ≡ s l
            same l u =
                E.same l u.not_own u.not_register
                ∙ fr l (not-touched l (λ i. let w = Lay.end-copies ns h o kb it is rs RB env K l i in u.not_own (omega arith, omega arith)) u.not-port
                (λ b. u.not_own (omega arith, omega arith)) (λ b. u.not_register (omega arith, omega arith)))

    pub core-serves : Serves net Core (Core-yields ns h (length rs) M)
    core-serves ρ' c a y s bef = go y
      where
        go : {c : ℕ} {a : Answer} → Core-yields ns h (length rs) M ρ' c a → Leads net Core s c a
        go (rests no_value) = (s, stay net s, resting ρ' s bef no_value)
        go (spins ρ vs d a fit agree there y) =
            let t = started ρ' ρ vs fit agree there s bef in
            finish ρ' ρ vs fit agree there s bef t.0 t.2 t.3 d a t.1
            (Rounds.rounds ns h o kb it is rs RB env K net iterE startE own_e start_is own_is iter-is gates H M SM ρ vs d a y t.0 (turn ρ' ρ vs fit agree there s bef t.0 t.2 t.3))

  -- A cut loop: the body is served in both nets, and in each round that iterates the operator a fires.
  module _ (net net° : Net) (same-net : net°.at ≡ net.at) (a N : ℕ)
      (close : (u w : List ℕ) → net.Fine u → N ≤ count a u → net°.Fine w → net.Fine (u ++ w))
      (iterE startE own_e : Env) (start_is : (x : ℕ) → h x ≡ true → member_of ns x ≡ true → startE x ≡ env x)
      (own_is : (x : ℕ) → h x ≡ true → member_of ns x ≡ false → own_e x ≡ env x) (iter-is : (x : ℕ) → member_of ns x ≡ true → iterE x ≡ Lay.iterated ns h o kb it is rs RB env x)
      (gates : (x : ℕ) → h x ≡ true → Somewhere net (ring_gate (member_of ns x) (control x) (iterE x) (startE x) (own_e x) (inner x)))
      (gates° : (x : ℕ) → h x ≡ true → Somewhere net° (ring_gate (member_of ns x) (control x) (iterE x) (startE x) (own_e x) (inner x)))
      (H : Has net (chain it copies (total h))) (H° : Has net° (chain it copies (total h)))
      (M C : Values → ℕ → Answer → Type 0) (SM : Serves net Body M) (SC : Serves net° Body C)
      (tests : (ρ : Values) (ws : List Value) (s s₁ : Links) (c : ℕ) (t : Steps net s c s₁) → Rounds.Turn ns h o kb it is rs RB env K ρ ws s → s₁ it ≡ val true-value ∷ [] → 1 ≤ count a t.w) where
    pub cut-core-serves : Serves net Core (Cut-core ns h (length rs) N M C)
    cut-core-serves ρ' c b y s bef = go y
      where
        go : {c : ℕ} {b : Answer} → Cut-core ns h (length rs) N M C ρ' c b → Leads net Core s c b
        go (rests no_value) = (s, stay net s, resting ρ' s bef no_value)
        go (spins ρ vs us fit agree there y) =
            let t = started net iterE startE own_e start_is own_is iter-is gates H M SM ρ' ρ vs fit agree there s bef in
            let T = turn net iterE startE own_e start_is own_is iter-is gates H M SM ρ' ρ vs fit agree there s bef t.0 t.2 t.3 in
            let e = Rounds.cut-rounds ns h o kb it is rs RB env K net net° same-net a N close iterE startE own_e start_is own_is iter-is gates gates° H H° M C SM SC ρ (tests ρ)
            0 vs us y t.0 t.0 (record { w = []; runs = tt; ends = refl; fine = net.fine-none; often = omega arith }) (λ l p q. refl) T in
            let L = finish net iterE startE own_e start_is own_is iter-is gates H M SM ρ' ρ vs fit agree there s bef t.0 t.2 t.3 1 (some us) t.1 e in
            (L.0, fewer net s L.0 1 0 (omega arith) L.1, L.2)
