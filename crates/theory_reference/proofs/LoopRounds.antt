-- The rounds of a loop: from the values of the body's names the body is served, iter? passes its copies, and the gates either take the next
-- values or are ready for the next set, each with one false on its control. Every further round has at least one firing.
use Rattle.std.specs.Prelude.{ℕ, suc, ◌+◌, ◌-◌, ◌≤◌, ◌≡◌, refl, ◌≢◌, ◌⊎◌, true, false, List, [], ◌∷◌, ◌++◌, length}
use Rattle.std.proofs.Common.{sym, ◌∙◌, ap, subst, inl, inr, ⊎_elim, arith}
use Rattle.std.proofs.Math.Option.{Option, none, some}
use Rattle.std.proofs.lemmas.List.{length-replicate}
use Rattle.std.proofs.Math.Decide.{ℕ_discrete}
use Rattle.theory_schedule.proofs.Schedules.{possible-append, reached-append}
use Rattle.theory_schedule.specs.Counts.{count}
use Rattle.theory_schedule.proofs.Counts.{count-append}
use Rattle.network.proofs.Commute.{enabled, next, output}
use Rattle.value.specs.declared.Value.{Value}
use Rattle.names.specs.Names.{Names}
use Rattle.network.specs.Values.{true-value, false-value}
use Rattle.network.specs.Net.{val, Links}
use Rattle.network.specs.Uses.{In}
use Rattle.theory_pieces.specs.Goes.{Net, one_place}
use Rattle.theory_pieces.proofs.Goes.{Feasible, led-to, Steps, Long, steps_then, steps-long}
use Rattle.theory_pieces.proofs.Rows.{in-front, in-back, in_app, dec-in}
use Rattle.graph.specs.Assembly.{Env, member_of, total, ring_gate, chain, chain_links}
use Rattle.graph.specs.Yields.{Values, Answer, absent, present, bound, Spins, spent, stops, returns, again, Cut-spins, last, onward, cuts}
use Rattle.theory_reference.specs.Plugged.{nowhere, registers}
use Rattle.theory_reference.proofs.Plugged.{Somewhere, Has}
use Rattle.theory_reference.specs.Plan.{tokens, Hold, Between, Plan, Own, Register, Control, Ready, Before, After}
use Rattle.theory_reference.proofs.Plan.{Leads, Serves, fewer, fewer-long, ready-same, hold-same, hold-parts}
use Rattle.theory_reference.proofs.Copies.{fans-out}
use Rattle.theory_reference.proofs.Binding.{named-holds, bound-others, bound-present}
use Rattle.theory_reference.proofs.BehindGate.{absent-empty}
use Rattle.theory_reference.proofs.LoopLayout as Lay
use Rattle.theory_reference.proofs.LoopGates as Gates

pub present-length : (us : List Value) → length (present us) ≡ length us
present-length [] = refl
present-length (u ∷ us) = ap suc (present-length us)

module _ (ns : List ℕ) (h : Names) (o kb it : ℕ) (is rs : List ℕ) (RB : ℕ → ℕ → Type 0) (env : Env) (K : Lay.Laid_out ns h o kb it is rs RB env) where
  abbrev control : Env
  control = Lay.control ns h o kb it is rs RB env

  abbrev inner : Env
  inner = Lay.inner ns h o kb it is rs RB env

  abbrev iterated : Env
  iterated = Lay.iterated ns h o kb it is rs RB env

  abbrev Body : Plan
  Body = Lay.Body ns h o kb it is rs RB env

  abbrev Core : Plan
  Core = Lay.Core ns h o kb it is rs RB env

  abbrev ends : List ℕ
  ends = Lay.ends ns h o kb it is rs RB env

  abbrev copies : ℕ
  copies = Lay.copies ns h o kb it is rs RB env

  abbrev Copy : ℕ → Type 0
  Copy l = Between copies (chain_links (total h)) l

  -- Between two rounds: the body's names have their values.
  pub record Turn (ρ : Values) (ws : List Value) (s : Links) : Type 0 where
    pub body : Before Body (bound ns (present ws) ρ) s
    pub dry : (l : ℕ) → Copy l → s l ≡ []
    pub held : (x : ℕ) → h x ≡ true → Gates.Holding ns h o kb it is rs RB env K ρ x s

  -- After the last round.
  pub record Ended (s s' : Links) (vs : List (Option Value)) : Type 0 where
    pub gives : Hold rs vs s'
    pub clear : (l : ℕ) → Own Core l → (Control Core l → ⊥) → (In l rs → ⊥) → s' l ≡ []
    pub ready : (c r : ℕ) → Core.Ring c r → Ready c r s'
    pub same : (l : ℕ) → (Own Core l → ⊥) → (Register Core l → ⊥) → s' l ≡ s l

  abbrev pub Comes : Net → Links → ℕ → Answer → Type 0
  Comes net s d none = Long net s d
  Comes net s d (some vs) = (s' : Links) × Steps net s d s' × Ended s s' vs

  -- The body has ended with v on iter?, and its copies have handed it to every control.
  record Fanned (v : Value) (s₁ s₂ : Links) : Type 0 where
    controls : (x : ℕ) → h x ≡ true → s₂ (control x) ≡ val v ∷ []
    others : (l : ℕ) → Copy l → (In l ends → ⊥) → s₂ l ≡ []
    iter : s₂ it ≡ []
    same : (l : ℕ) → l ≢ it → (Copy l → ⊥) → s₂ l ≡ s₁ l

  fan : (net : Net) → Has net (chain it copies (total h)) → (v : Value) (s₁ : Links) → s₁ it ≡ val v ∷ [] → ((l : ℕ) → Copy l → s₁ l ≡ []) →
      (s₂ : Links) × Steps net s₁ 0 s₂ × Fanned v s₁ s₂
  fan net H v s₁ e dry =
      let two = K.two in
      let f = fans-out net (total h) it copies v s₁ (omega arith) (Lay.iter-low ns h o kb it is rs RB env K) H e dry in (
        f.0,
        f.1,
        record {
          controls = λ x k. f.2 (control x) (Lay.control-in ns h o kb it is rs RB env K x k);
          others = λ l b n. f.3 l (inr b) n;
          iter = f.3 it (inl refl)
              (λ i. let b = Lay.end-copies ns h o kb it is rs RB env K it i in let c = Lay.iter-low ns h o kb it is rs RB env K in omega arith);
          same = f.4;
        },
      )

  module _ (ρ : Values) (ws : List Value) (s : Links) (T : Turn ρ ws s) (v : Value) (us : List (Option Value)) (s₁ : Links) (X : After Body s s₁ (some v ∷ us)) (s₂ : Links) (F : Fanned v s₁ s₂) where
    own-not-copy : (l : ℕ) → Own Body l → Copy l → ⊥
    own-not-copy l a b = omega arith

    -- what lies on the iterated and the returned links is still there
    value-kept : (l : ℕ) → In l (is ++ rs) → s₂ l ≡ s₁ l
    value-kept l i =
        F.same l (λ e. K.body.outs-differ.0 (subst (λ z. In z (is ++ rs)) e i)) (own-not-copy l (K.inside l (inr i)))

    -- everything else of the body is empty
    settled : (l : ℕ) → Own Body l → (Control Body l → ⊥) → (In l (is ++ rs) → ⊥) → s₂ l ≡ []
    settled l a c n = go (ℕ_discrete l it)
      where
        no-out : l ≢ it → In l (it ∷ (is ++ rs)) → ⊥
        no-out ne (inl e) = ne e
        no-out ne (inr i) = n i

        go : Dec (l ≡ it) → s₂ l ≡ []
        go (yes e) = ap s₂ e ∙ F.iter
        go (no e) = F.same l e (own-not-copy l a) ∙ X.clear l (inl a) c (no-out e)

    inner-settled : (l : ℕ) → Between o (total h) l → s₂ l ≡ []
    inner-settled l b =
        let i = K.inside it (inl refl) in
        F.same l (λ e. omega arith) (λ c. omega arith)
        ∙ X.clear l (inr (Lay.inner-onto ns h o kb it is rs RB env K l b)) (λ c. let q = K.body.ring-own l c.0 c.1 in omega arith)
        (λ j. let q = K.inside l j in omega arith)

    ready-kept : (c r : ℕ) → RB c r → Ready c r s₂
    ready-kept c r k =
        let q = K.body.ring-own c r k in
        let i = K.inside it (inl refl) in
        let ft = K.fits in
        ready-same c r s₁ s₂ (F.same c (λ e. K.body.ring-off c r k (inl e)) (own-not-copy c q.0)) (F.same r (λ e. omega arith) (λ b. omega arith)) (X.ready c r k)

    held_kept : (x : ℕ) → h x ≡ true → Gates.Holding ns h o kb it is rs RB env K ρ x s₂
    held_kept x e =
        let w = T.held x e in
        let b = Lay.inner-between ns h o kb it is rs RB env K x e in
        let i = K.inside it (inl refl) in
        let ft = K.fits in (
          w.0,
          F.same (registers + inner x) (λ z. omega arith) (λ z. omega arith) ∙ X.same (registers + inner x) (Lay.register-outside ns h o kb it is rs RB env K x (registers + inner x) e refl) ∙ w.1,
          w.2,
        )

    void-kept : s₂ nowhere ≡ []
    void-kept =
        let i = K.inside it (inl refl) in
        let ft = K.fits in
        F.same nowhere (λ z. omega arith) (λ z. omega arith) ∙ X.same nowhere (Lay.nowhere-outside ns h o kb it is rs RB env K) ∙ T.body.void

    frame : (l : ℕ) → (Own Core l → ⊥) → (Register Core l → ⊥) → s₂ l ≡ s l
    frame l p q =
        let i = K.inside it (inl refl) in
        F.same l (λ z. p (omega arith, omega arith)) (λ z. p (omega arith, omega arith)) ∙ X.same l (Lay.core-outside ns h o kb it is rs RB env K l p q)

  -- The last round: false on every control.
  last-round : (ρ : Values) (ws : List Value) (s : Links) → Turn ρ ws s → (us : List (Option Value)) (s₁ : Links) → After Body s s₁ (some false-value ∷ (absent (length ns) ++ us)) → (s₂ : Links) →
      Fanned false-value s₁ s₂ → Ended s s₂ us
  last-round ρ ws s T us s₁ X s₂ F =
      record { gives = gives; clear = clear; ready = ready; same = frame ρ ws s T false-value (absent (length ns) ++ us) s₁ X s₂ F }
    where
      parts : Hold is (absent (length ns)) s₁ × Hold rs us s₁
      parts = hold-parts is rs (absent (length ns)) us s₁ (length-replicate (length ns) none ∙ sym K.many) X.gives.1

      kept : (l : ℕ) → In l (is ++ rs) → s₂ l ≡ s₁ l
      kept = value-kept ρ ws s T false-value (absent (length ns) ++ us) s₁ X s₂ F

      gives : Hold rs us s₂
      gives = hold-same rs us s₁ s₂ (λ l i. kept l (in-back l is rs i)) parts.1

      clear : (l : ℕ) → Own Core l → (Control Core l → ⊥) → (In l rs → ⊥) → s₂ l ≡ []
      clear l a c n = go (Lay.own-cases ns h o kb it is rs RB env K l a)
        where
          in_body : Own Body l → Dec (In l is) → s₂ l ≡ []
          in_body b (yes i) = kept l (in-front l is rs i) ∙ absent-empty is (length ns) s₁ parts.0 l i
          in_body b (no i) =
              settled ρ ws s T false-value (absent (length ns) ++ us) s₁ X s₂ F l b (λ k. c (k.0, inl k.1))
              (λ j. ⊎_elim i n (in_app l is rs j))

          in-copies : Copy l → Dec (In l ends) → s₂ l ≡ []
          in-copies b (yes i) = let x = Lay.control-onto ns h o kb it is rs RB env K l i in absurd (c (registers + inner x.0, inr (x.0, x.1, x.2, refl)))
          in-copies b (no i) = F.others l b i

          go : Between o (total h) l ⊎ (Own Body l ⊎ Copy l) → s₂ l ≡ []
          go (inl b) = inner-settled ρ ws s T false-value (absent (length ns) ++ us) s₁ X s₂ F l b
          go (inr (inl b)) = in_body b (dec-in l is)
          go (inr (inr b)) = in-copies b (dec-in l ends)

      ready : (c r : ℕ) → Core.Ring c r → Ready c r s₂
      ready c r (inl k) = ready-kept ρ ws s T false-value (absent (length ns) ++ us) s₁ X s₂ F c r k
      ready c r (inr (x, e, z, w)) =
          let g = held_kept ρ ws s T false-value (absent (length ns) ++ us) s₁ X s₂ F x e in
          inr (g.0, ap s₂ w ∙ g.1, ap s₂ z ∙ F.controls x e)

  module _ (net : Net) (iterE startE own_e : Env) (start_is : (x : ℕ) → h x ≡ true → member_of ns x ≡ true → startE x ≡ env x)
      (own_is : (x : ℕ) → h x ≡ true → member_of ns x ≡ false → own_e x ≡ env x) (iter-is : (x : ℕ) → member_of ns x ≡ true → iterE x ≡ iterated x)
      (gates : (x : ℕ) → h x ≡ true → Somewhere net (ring_gate (member_of ns x) (control x) (iterE x) (startE x) (own_e x) (inner x))) where
    abbrev Turned : ℕ → ℕ → Type 0
    Turned x l = (member_of ns x ≡ true) × (l ≡ iterated x)

    abbrev Touches : ℕ → ℕ → Type 0
    Touches x l = Gates.Links-of ns h o kb it is rs RB env K Turned x l

    not-touched : (l : ℕ) → (In l ends → ⊥) → (In l is → ⊥) → (Between o (total h) l → ⊥) → (Between (registers + o) (total h) l → ⊥) → (x : ℕ) → h x ≡ true → Touches x l → ⊥
    not-touched l a b c d x e (inl z) = a (subst (λ k. In k ends) (sym z) (Lay.control-in ns h o kb it is rs RB env K x e))
    not-touched l a b c d x e (inr (inl z)) = b (subst (λ k. In k is) (sym z.1) (Lay.iterated-in ns h o kb it is rs RB env K x z.0))
    not-touched l a b c d x e (inr (inr (inl z))) = let q = Lay.inner-between ns h o kb it is rs RB env K x e in c (omega arith, omega arith)
    not-touched l a b c d x e (inr (inr (inr z))) = let q = Lay.inner-between ns h o kb it is rs RB env K x e in d (omega arith, omega arith)

    -- A further round: from true on every control to the next values.
    next-round : (ρ : Values) (ws : List Value) (s : Links) → Turn ρ ws s → (us : List Value) (r : ℕ) → length us ≡ length ns → (s₁ : Links) →
        After Body s s₁ (some true-value ∷ (present us ++ absent r)) → (s₂ : Links) → Fanned true-value s₁ s₂ →
        (s₃ : Links) × Steps net s₂ 1 s₃ × Turn ρ us s₃ × ((l : ℕ) → (Own Core l → ⊥) → (Register Core l → ⊥) → s₃ l ≡ s l)
    next-round ρ ws s T us r fit s₁ X s₂ F =
        let g = Gates.all-again ns h o kb it is rs RB env K net iterE startE own_e start_is own_is iter-is gates ρ (bound ns (present us) ρ)
        (λ x e m. bound-present ns us ρ x fit m) (λ x e m. bound-others ns (present us) ρ x m) s₂ F.controls came (λ x e. inner-dry (inner x) (Lay.inner-between ns h o kb it is rs RB env K x e)) held in
        (g.0, g.1, turn g.0 g.2 g.3, λ l p q. g.3 l (outer l p q) ∙ frame ρ ws s T true-value (present us ++ absent r) s₁ X s₂ F l p q)
      where
        ρ' : Values
        ρ' = bound ns (present us) ρ

        parts : Hold is (present us) s₁ × Hold rs (absent r) s₁
        parts = hold-parts is rs (present us) (absent r) s₁ (present-length us ∙ fit ∙ sym K.many) X.gives.1

        kept : (l : ℕ) → In l (is ++ rs) → s₂ l ≡ s₁ l
        kept = value-kept ρ ws s T true-value (present us ++ absent r) s₁ X s₂ F

        inner-dry : (l : ℕ) → Between o (total h) l → s₂ l ≡ []
        inner-dry = inner-settled ρ ws s T true-value (present us ++ absent r) s₁ X s₂ F

        held : (x : ℕ) → h x ≡ true → Gates.Holding ns h o kb it is rs RB env K ρ x s₂
        held = held_kept ρ ws s T true-value (present us ++ absent r) s₁ X s₂ F

        came : (x : ℕ) → h x ≡ true → member_of ns x ≡ true → s₂ (iterated x) ≡ tokens (ρ' x)
        came x e m =
            let q = K.many in
            kept (iterated x) (in-front (iterated x) is rs (Lay.iterated-in ns h o kb it is rs RB env K x m)) ∙ named-holds ns is (present us) env ρ s₁ x (omega arith) parts.0 m

        outer : (l : ℕ) → (Own Core l → ⊥) → (Register Core l → ⊥) → (x : ℕ) → h x ≡ true → Touches x l → ⊥
        outer l p q =
            not-touched l (λ i. let b = Lay.end-copies ns h o kb it is rs RB env K l i in p (omega arith, omega arith))
            (λ i. let b = K.inside l (inr (in-front l is rs i)) in p (omega arith, omega arith)) (λ b. p (omega arith, omega arith)) (λ b. q (omega arith, omega arith))

        turn : (s₃ : Links) → ((x : ℕ) → h x ≡ true → Gates.Again ns h o kb it is rs RB env K net iterE startE own_e start_is own_is iter-is gates ρ ρ' x s₃) →
            ((l : ℕ) → ((x : ℕ) → h x ≡ true → Touches x l → ⊥) → s₃ l ≡ s₂ l) → Turn ρ us s₃
        turn s₃ A fr = record { body = record { laid = λ x e. (A x e).2; clear = clear; ready = ready; void = void }; dry = dry; held = λ x e. (A x e).3 }
          where
            away : (l : ℕ) → Own Body l → (In l is → ⊥) → s₃ l ≡ s₂ l
            away l b n =
                let ft = K.fits in
                fr l (not-touched l (λ i. let c = Lay.end-copies ns h o kb it is rs RB env K l i in omega arith) n (λ c. omega arith) (λ c. omega arith))

            clear : (l : ℕ) → Own Body l → (Control Body l → ⊥) → s₃ l ≡ []
            clear l b c = go (dec-in l is) (dec-in l rs)
              where
                go : Dec (In l is) → Dec (In l rs) → s₃ l ≡ []
                go (yes i) d =
                    let x = Lay.iterated-onto ns h o kb it is rs RB env K l i in
                    ap s₃ x.2 ∙ (A x.0 (K.used x.0 x.1)).1 x.1
                go (no i) (yes j) = away l b i ∙ kept l (in-back l is rs j) ∙ absent-empty rs r s₁ parts.1 l j
                go (no i) (no j) = away l b i ∙ settled ρ ws s T true-value (present us ++ absent r) s₁ X s₂ F l b c (λ k. ⊎_elim i j (in_app l is rs k))

            ready : (c r' : ℕ) → RB c r' → Ready c r' s₃
            ready c r' k =
                let q = K.body.ring-own c r' k in
                let ft = K.fits in
                ready-same c r' s₂ s₃ (away c q.0 (λ i. K.body.ring-off c r' k (inr (in-front c is rs i))))
                (fr r' (not-touched r' (λ i. let b = Lay.end-copies ns h o kb it is rs RB env K r' i in omega arith) (λ i. let b = K.inside r' (inr (in-front r' is rs i)) in omega arith) (λ b. omega arith) (λ b. omega arith)))
                (ready-kept ρ ws s T true-value (present us ++ absent r) s₁ X s₂ F c r' k)

            void : s₃ nowhere ≡ []
            void =
                let ft = K.fits in
                fr nowhere (not-touched nowhere (λ i. let b = Lay.end-copies ns h o kb it is rs RB env K nowhere i in omega arith) (λ i. let b = K.inside nowhere (inr (in-front nowhere is rs i)) in omega arith) (λ b. omega arith) (λ b. omega arith))
                ∙ void-kept ρ ws s T true-value (present us ++ absent r) s₁ X s₂ F

            dry : (l : ℕ) → Copy l → s₃ l ≡ []
            dry l b = go (dec-in l ends)
              where
                go : Dec (In l ends) → s₃ l ≡ []
                go (yes i) = let x = Lay.control-onto ns h o kb it is rs RB env K l i in ap s₃ x.2 ∙ (A x.0 x.1).0
                go (no i) =
                    let ft = K.fits in
                    fr l (not-touched l i (λ j. let c = K.inside l (inr (in-front l is rs j)) in omega arith) (λ c. omega arith) (λ c. omega arith)) ∙ F.others l b i

    module _ (H : Has net (chain it copies (total h))) (M : Values → ℕ → Answer → Type 0) (SM : Serves net Body M) (ρ : Values) where
      abbrev Round : List Value → ℕ → Answer → Type 0
      Round ws = M (bound ns (present ws) ρ)

      copies-dry : (ws : List Value) (s : Links) → Turn ρ ws s → (vs : List (Option Value)) (s₁ : Links) → After Body s s₁ vs → (l : ℕ) → Copy l → s₁ l ≡ []
      copies-dry ws s T vs s₁ X l b = X.same l (Lay.copies-outside ns h o kb it is rs RB env K l b) ∙ T.dry l b

      ending : (ws : List Value) (s : Links) → Turn ρ ws s → (c : ℕ) (us : List (Option Value)) → Leads net Body s c (some (some false-value ∷ (absent (length ns) ++ us))) → Comes net s c (some us)
      ending ws s T c us (s₁, t, X) =
          let f = fan net H false-value s₁ X.gives.0 (copies-dry ws s T (some false-value ∷ (absent (length ns) ++ us)) s₁ X) in
          (f.0, fewer net s f.0 (c + 0) c (omega arith) (steps_then net s s₁ f.0 c 0 t f.1), last-round ρ ws s T us s₁ X f.0 f.2)

      turning : (ws : List Value) (s : Links) → Turn ρ ws s → (c : ℕ) (us : List Value) (r : ℕ) → length us ≡ length ns → Leads net Body s c (some (some true-value ∷ (present us ++ absent r))) →
          (s₃ : Links) × Steps net s (c + 1) s₃ × Turn ρ us s₃ × ((l : ℕ) → (Own Core l → ⊥) → (Register Core l → ⊥) → s₃ l ≡ s l)
      turning ws s T c us r fit (s₁, t, X) =
          let f = fan net H true-value s₁ X.gives.0 (copies-dry ws s T (some true-value ∷ (present us ++ absent r)) s₁ X) in
          let g = next-round ρ ws s T us r fit s₁ X f.0 f.2 in
          (g.0, fewer net s g.0 (c + (0 + 1)) (c + 1) (omega arith) (steps_then net s s₁ g.0 c (0 + 1) t (steps_then net s₁ f.0 g.0 0 1 f.1 g.1)), g.2, g.3)

      after_turn : (s s₃ : Links) (c d : ℕ) (a : Answer) → Steps net s (c + 1) s₃ → ((l : ℕ) → (Own Core l → ⊥) → (Register Core l → ⊥) → s₃ l ≡ s l) → Comes net s₃ (d - 1) a → Comes net s (suc (c + d) - 1) a
      after_turn s s₃ c d none t fr L = fewer-long net s (c + 1 + (d - 1)) (suc (c + d) - 1) (omega arith) (steps-long net s s₃ (c + 1) (d - 1) t L)
      after_turn s s₃ c d (some vs) t fr (s₄, u, E) = (
        s₄,
        fewer net s s₄ (c + 1 + (d - 1)) (suc (c + d) - 1) (omega arith) (steps_then net s s₃ s₄ (c + 1) (d - 1) t u),
        record { gives = E.gives; clear = E.clear; ready = E.ready; same = λ l p q. E.same l p q ∙ fr l p q },
      )

      -- The entry into the first body is not counted here.
      pub rounds : (ws : List Value) (d : ℕ) (a : Answer) → Spins (length ns) Round ws d a → (s : Links) → Turn ρ ws s → Comes net s (d - 1) a
      rounds _ _ _ (spent ws) s T = record { w = []; runs = tt; many = omega arith; fine = net.fine-none }
      rounds _ _ _ (stops ws c p) s T = fewer-long net s c (suc c - 1) (omega arith) (SM (bound ns (present ws) ρ) c none p s T.body)
      rounds _ _ _ (returns ws c us p) s T =
          let e = ending ws s T c us (SM (bound ns (present ws) ρ) c (some (some false-value ∷ (absent (length ns) ++ us))) p s T.body) in
          (e.0, fewer net s e.0 c (suc c - 1) (omega arith) e.1, e.2)
      rounds _ _ _ (again ws us c d r a fit p y) s T =
          let t = turning ws s T c us r fit (SM (bound ns (present ws) ρ) c (some (some true-value ∷ (present us ++ absent r))) p s T.body) in
          after_turn s t.0 c d a t.1 t.3 (rounds us d a y t.0 t.2)

  -- ---- a loop that is cut
  -- The schedule from a state on, with how often an operator has fired in it.
  pub record So-far (net : Net) (a i : ℕ) (s₀ s : Links) : Type 0 where
    pub w : List ℕ
    pub runs : Feasible net.at w s₀
    pub ends : led-to net.at w s₀ ≡ s
    pub fine : net.Fine w
    pub often : i ≤ count a w

  -- more firings, in each of which so many are a's
  further : (net : Net) (a i j : ℕ) (s₀ s s₁ : Links) (c : ℕ) → So-far net a i s₀ s → (t : Steps net s c s₁) → j ≤ count a t.w → So-far net a (i + j) s₀ s₁
  further net a i j s₀ s s₁ c f t le = record {
    w = f.w ++ t.w;
    runs = possible-append (enabled net.at one_place) (next net.at one_place) (output net.at one_place) f.w t.w s₀ f.runs (subst (Feasible net.at t.w) (sym f.ends) t.runs);
    ends = reached-append (enabled net.at one_place) (next net.at one_place) (output net.at one_place) f.w t.w s₀ ∙ ap (led-to net.at t.w) f.ends ∙ t.ends;
    fine = net.fine-both f.w t.w f.fine t.fine;
    often = omega (arith, count-append a f.w t.w, f.often);
  }

  as-steps : (net : Net) (a i : ℕ) (s₀ s : Links) → So-far net a i s₀ s → Steps net s₀ 0 s
  as-steps net a i s₀ s f = record { w = f.w; runs = f.runs; ends = f.ends; many = omega arith; fine = f.fine }

  module _ (net net° : Net) (same-net : net°.at ≡ net.at) (a N : ℕ)
      (close : (u w : List ℕ) → net.Fine u → N ≤ count a u → net°.Fine w → net.Fine (u ++ w))
      (iterE startE own_e : Env) (start_is : (x : ℕ) → h x ≡ true → member_of ns x ≡ true → startE x ≡ env x)
      (own_is : (x : ℕ) → h x ≡ true → member_of ns x ≡ false → own_e x ≡ env x) (iter-is : (x : ℕ) → member_of ns x ≡ true → iterE x ≡ iterated x)
      (gates : (x : ℕ) → h x ≡ true → Somewhere net (ring_gate (member_of ns x) (control x) (iterE x) (startE x) (own_e x) (inner x)))
      (gates° : (x : ℕ) → h x ≡ true → Somewhere net° (ring_gate (member_of ns x) (control x) (iterE x) (startE x) (own_e x) (inner x)))
      (H : Has net (chain it copies (total h))) (H° : Has net° (chain it copies (total h)))
      (M C : Values → ℕ → Answer → Type 0) (SM : Serves net Body M) (SC : Serves net° Body C) (ρ : Values)
      -- in each round of the body its first test is copied
      (tests : (ws : List Value) (s s₁ : Links) (c : ℕ) (t : Steps net s c s₁) → Turn ρ ws s → s₁ it ≡ val true-value ∷ [] → 1 ≤ count a t.w) where
    abbrev Around : List Value → ℕ → Answer → Type 0
    Around ws = M (bound ns (present ws) ρ)

    abbrev Off : List Value → ℕ → Answer → Type 0
    Off ws = C (bound ns (present ws) ρ)

    abbrev Frame : Links → Links → Type 0
    Frame s₀ s = (l : ℕ) → (Own Core l → ⊥) → (Register Core l → ⊥) → s l ≡ s₀ l

    abbrev Ends : Links → List (Option Value) → Type 0
    Ends s₀ us = (s' : Links) × Steps net s₀ 0 s' × Ended s₀ s' us

    framed : (s₀ s s' : Links) (us : List (Option Value)) → Frame s₀ s → Ended s s' us → Ended s₀ s' us
    framed s₀ s s' us fr E = record { gives = E.gives; clear = E.clear; ready = E.ready; same = λ l p q. E.same l p q ∙ fr l p q }

    -- the last round, in the net that lets a's twin come
    closed : (i : ℕ) (s₀ s s' : Links) (c : ℕ) → N ≤ i → So-far net a i s₀ s → Steps net° s c s' → Steps net s₀ 0 s'
    closed i s₀ s s' c le f t =
        let runs : Feasible net.at t.w s = subst (λ z. Feasible z t.w s) same-net t.runs in
        let ends : led-to net.at t.w s ≡ s' = subst (λ z. led-to z t.w s ≡ s') same-net t.ends in
        record {
          w = f.w ++ t.w;
          runs = possible-append (enabled net.at one_place) (next net.at one_place) (output net.at one_place) f.w t.w s₀ f.runs
              (subst (Feasible net.at t.w) (sym f.ends) runs);
          ends = reached-append (enabled net.at one_place) (next net.at one_place) (output net.at one_place) f.w t.w s₀ ∙ ap (led-to net.at t.w) f.ends ∙ ends;
          many = omega arith;
          fine = close f.w t.w f.fine (omega (arith, f.often)) t.fine;
        }

    pub cut-rounds : (i : ℕ) (ws : List Value) (us : List (Option Value)) → Cut-spins (length ns) N Around Off i ws us → (s₀ s : Links) → So-far net a i s₀ s → Frame s₀ s → Turn ρ ws s → Ends s₀ us
    cut-rounds _ _ _ (last i ws c us p) s₀ s f fr T =
        let e = ending net iterE startE own_e start_is own_is iter-is gates H M SM ρ ws s T c us (SM (bound ns (present ws) ρ) c (some (some false-value ∷ (absent (length ns) ++ us))) p s T.body) in
        (e.0, as-steps net a (i + 0) s₀ e.0 (further net a i 0 s₀ s e.0 c f e.1 (omega arith)), framed s₀ s e.0 us fr e.2)
    cut-rounds _ _ _ (cuts i ws c us le p) s₀ s f fr T =
        let e = ending net° iterE startE own_e start_is own_is iter-is gates° H° C SC ρ ws s T c us (SC (bound ns (present ws) ρ) c (some (some false-value ∷ (absent (length ns) ++ us))) p s T.body) in
        (e.0, closed i s₀ s e.0 c le f e.1, framed s₀ s e.0 us fr e.2)
    cut-rounds _ _ _ (onward i ws vs c r us fit p y) s₀ s f fr T =
        let L = SM (bound ns (present ws) ρ) c (some (some true-value ∷ (present vs ++ absent r))) p s T.body in
        let s₁ : Links = L.0 in
        let F = fan net H true-value s₁ L.2.gives.0 (copies-dry net iterE startE own_e start_is own_is iter-is gates H M SM ρ ws s T (some true-value ∷ (present vs ++ absent r)) s₁ L.2) in
        let g = next-round net iterE startE own_e start_is own_is iter-is gates ρ ws s T vs r fit s₁ L.2 F.0 F.2 in
        let f₁ = further net a i 1 s₀ s s₁ c f L.1 (tests ws s s₁ c L.1 T L.2.gives.0) in
        let f₃ = further net a (i + 1 + 0) 0 s₀ F.0 g.0 1 (further net a (i + 1) 0 s₀ s₁ F.0 0 f₁ F.1 (omega arith)) g.1 (omega arith) in
        let n : i + 1 + 0 + 0 ≡ suc i = omega arith in
        cut-rounds (suc i) vs us y s₀ g.0 (subst (λ k. So-far net a k s₀ g.0) n f₃) (λ l p q. g.3 l p q ∙ fr l p q) g.2
