-- All gates of a loop at work: at the start of a set each takes the value that comes in; in a further round each FM takes its iterated value and
-- each FS repeats. In both cases the body's names then have their values, every control is empty, and every register holds a value.
use Rattle.std.specs.Prelude.{ℕ, ◌+◌, ◌≤◌, ◌<◌, ◌≡◌, refl, ◌≢◌, ◌⊎◌, Bool, true, false, cond, List, [], ◌∷◌}
use Rattle.std.proofs.Common.{sym, ◌∙◌, ap, subst, inl, inr, ⊎_elim, arith}
use Rattle.std.proofs.Math.Option.{some}
use Rattle.value.specs.declared.Value.{Value}
use Rattle.names.specs.Names.{Names}
use Rattle.network.specs.Values.{true-value}
use Rattle.network.specs.Net.{val, Links}
use Rattle.theory_pieces.specs.Goes.{Net}
use Rattle.theory_pieces.proofs.Goes.{Steps}
use Rattle.graph.specs.Assembly.{Env, name_count, member_of, total, ring_gate, chain_links}
use Rattle.graph.specs.Yields.{Values}
use Rattle.theory_reference.proofs.NameSets.{not-both, rank-onto}
use Rattle.theory_reference.specs.Plugged.{nowhere, registers}
use Rattle.theory_reference.proofs.Plugged.{Somewhere}
use Rattle.theory_reference.specs.Plan.{tokens, Between, Plan, Own, Ready}
use Rattle.theory_reference.proofs.Plan.{fewer}
use Rattle.theory_reference.proofs.NameRows.{Works, tally-one, row-works}
use Rattle.theory_reference.specs.NameRows.{tally}
use Rattle.theory_reference.specs.RingGates.{Passed, Touched}
use Rattle.theory_reference.proofs.RingGates.{start-gate, again-moves, again-repeats}
use Rattle.theory_reference.proofs.LoopLayout as Lay

module _ (ns : List ℕ) (h : Names) (o kb it : ℕ) (is rs : List ℕ) (RB : ℕ → ℕ → Type 0) (env : Env) (K : Lay.Laid_out ns h o kb it is rs RB env) where
  abbrev control : Env
  control = Lay.control ns h o kb it is rs RB env

  abbrev inner : Env
  inner = Lay.inner ns h o kb it is rs RB env

  abbrev iterated : Env
  iterated = Lay.iterated ns h o kb it is rs RB env

  abbrev Body : Plan
  Body = Lay.Body ns h o kb it is rs RB env

  abbrev copies : ℕ
  copies = Lay.copies ns h o kb it is rs RB env

  -- The links of a name's gate; D are those of its data.
  abbrev pub Links-of : (ℕ → ℕ → Type 0) → ℕ → ℕ → Type 0
  Links-of D x l = (l ≡ control x) ⊎ (D x l ⊎ ((l ≡ inner x) ⊎ (l ≡ registers + inner x)))

  pub gates-apart : (D : ℕ → ℕ → Type 0) → ((x l : ℕ) → h x ≡ true → D x l → (l < o) ⊎ Own Body l) → ((x y l : ℕ) → h x ≡ true → h y ≡ true → D x l → D y l → x ≡ y) →
      (x y l : ℕ) → h x ≡ true → h y ≡ true → x ≢ y → Links-of D x l → Links-of D y l → ⊥
  gates-apart D range same x y l a b ne p q =
      go (Lay.control-between ns h o kb it is rs RB env K x a) (Lay.control-between ns h o kb it is rs RB env K y b) (Lay.inner-between ns h o kb it is rs RB env K x a)
      (Lay.inner-between ns h o kb it is rs RB env K y b) K.fits p q
    where
      go : Between copies (chain_links (total h)) (control x) → Between copies (chain_links (total h)) (control y) → Between o (total h) (inner x) → Between o (total h) (inner y) →
          o + (total h + (kb + chain_links (total h))) ≤ nowhere → Links-of D x l → Links-of D y l → ⊥
      go cx cy ix iy ft (inl e) (inl w) = ne (Lay.control-differ ns h o kb it is rs RB env K x y a b (sym e ∙ w))
      go cx cy ix iy ft (inl e) (inr (inl w)) = ⊎_elim (λ (z : l < o). omega arith) (λ (z : Own Body l). omega arith) (range y l b w)
      go cx cy ix iy ft (inl e) (inr (inr (inl w))) = omega arith
      go cx cy ix iy ft (inl e) (inr (inr (inr w))) = omega arith
      go cx cy ix iy ft (inr (inl e)) (inl w) = ⊎_elim (λ (z : l < o). omega arith) (λ (z : Own Body l). omega arith) (range x l a e)
      go cx cy ix iy ft (inr (inl e)) (inr (inl w)) = ne (same x y l a b e w)
      go cx cy ix iy ft (inr (inl e)) (inr (inr (inl w))) = ⊎_elim (λ (z : l < o). omega arith) (λ (z : Own Body l). omega arith) (range x l a e)
      go cx cy ix iy ft (inr (inl e)) (inr (inr (inr w))) = ⊎_elim (λ (z : l < o). omega arith) (λ (z : Own Body l). omega arith) (range x l a e)
      go cx cy ix iy ft (inr (inr (inl e))) (inl w) = omega arith
      go cx cy ix iy ft (inr (inr (inl e))) (inr (inl w)) = ⊎_elim (λ (z : l < o). omega arith) (λ (z : Own Body l). omega arith) (range y l b w)
      go cx cy ix iy ft (inr (inr (inl e))) (inr (inr (inl w))) = ne (Lay.inner-differ ns h o kb it is rs RB env K x y a b (sym e ∙ w))
      go cx cy ix iy ft (inr (inr (inl e))) (inr (inr (inr w))) = omega arith
      go cx cy ix iy ft (inr (inr (inr e))) (inl w) = omega arith
      go cx cy ix iy ft (inr (inr (inr e))) (inr (inl w)) = ⊎_elim (λ (z : l < o). omega arith) (λ (z : Own Body l). omega arith) (range y l b w)
      go cx cy ix iy ft (inr (inr (inr e))) (inr (inr (inl w))) = omega arith
      go cx cy ix iy ft (inr (inr (inr e))) (inr (inr (inr w))) = ne (Lay.inner-differ ns h o kb it is rs RB env K x y a b (omega arith))

  -- The register of a gate that is at work: an FS remembers the value of its name.
  abbrev pub Holding : Values → ℕ → Links → Type 0
  Holding ρ x s = (w : Value) × (s (registers + inner x) ≡ val w ∷ []) × (member_of ns x ≡ false → ρ x ≡ some w)

  -- at least one gate fires
  some-fire : (net : Net) (s s' : Links) → Steps net s (tally 1 h name_count) s' → Steps net s 1 s'
  some-fire net s s' t =
      let z = K.two in
      let m = rank-onto h 0 (omega arith) in
      fewer net s s' (tally 1 h name_count) 1 (tally-one 1 h name_count m.0 m.1 m.2) t

  module _ (net : Net) (iterE startE own_e : Env) (start_is : (x : ℕ) → h x ≡ true → member_of ns x ≡ true → startE x ≡ env x)
      (own_is : (x : ℕ) → h x ≡ true → member_of ns x ≡ false → own_e x ≡ env x) (iter-is : (x : ℕ) → member_of ns x ≡ true → iterE x ≡ iterated x)
      (gates : (x : ℕ) → h x ≡ true → Somewhere net (ring_gate (member_of ns x) (control x) (iterE x) (startE x) (own_e x) (inner x))) where
    abbrev Entry : ℕ → ℕ → Type 0
    Entry x l = l ≡ env x

    abbrev pub Started : Values → Values → ℕ → Links → Type 0
    Started ρ ρ' x s = (s (control x) ≡ []) × (s (env x) ≡ []) × (s (inner x) ≡ tokens (ρ' x)) × Holding ρ x s

    -- The start of a set: ρ' has the values of the body's names, ρ those of the others.
    pub all_start : (ρ ρ' : Values) → ((x : ℕ) → h x ≡ true → (v : Value) × (ρ' x ≡ some v)) → ((x : ℕ) → h x ≡ true → member_of ns x ≡ false → ρ' x ≡ ρ x) →
        (s : Links) → ((x : ℕ) → h x ≡ true → s (env x) ≡ tokens (ρ' x)) → ((x : ℕ) → h x ≡ true → s (inner x) ≡ []) → ((x : ℕ) → h x ≡ true → Ready (control x) (registers + inner x) s) →
        (s' : Links) × Steps net s 1 s' × ((x : ℕ) → h x ≡ true → Started ρ ρ' x s') × ((l : ℕ) → ((x : ℕ) → h x ≡ true → Links-of Entry x l → ⊥) → s' l ≡ s l)
    all_start ρ ρ' there agree s laid dry rdy =
        let r = row-works net h 1 (Links-of Entry) Pre Post apart pre-same post-same step name_count K.envs.small s (λ x e. (laid x e, dry x e, rdy x e)) in
        (r.0, some-fire net s r.0 r.1, r.2, r.3)
      where
        Pre : ℕ → Links → Type 0
        Pre x s = (s (env x) ≡ tokens (ρ' x)) × (s (inner x) ≡ []) × Ready (control x) (registers + inner x) s

        Post : ℕ → Links → Type 0
        Post x s = Started ρ ρ' x s

        apart : (x y l : ℕ) → h x ≡ true → h y ≡ true → x ≢ y → Links-of Entry x l → Links-of Entry y l → ⊥
        apart =
            gates-apart Entry (λ x l a e. inl (let q = K.envs.below x a in omega arith)) (λ x y l a b e w. K.envs.differ x y a b (sym e ∙ w))

        pre-same : (x : ℕ) (s s' : Links) → ((l : ℕ) → Links-of Entry x l → s' l ≡ s l) → Pre x s → Pre x s'
        pre-same x s s' e (a, b, r) =
            (e (env x) (inr (inl refl)) ∙ a, e (inner x) (inr (inr (inl refl))) ∙ b, go r)
          where
            go : Ready (control x) (registers + inner x) s → Ready (control x) (registers + inner x) s'
            go (inl (p, q)) = inl (e (registers + inner x) (inr (inr (inr refl))) ∙ p, e (control x) (inl refl) ∙ q)
            go (inr (v, p, q)) = inr (v, e (registers + inner x) (inr (inr (inr refl))) ∙ p, e (control x) (inl refl) ∙ q)

        post-same : (x : ℕ) (s s' : Links) → ((l : ℕ) → Links-of Entry x l → s' l ≡ s l) → Post x s → Post x s'
        post-same x s s' e (a, b, c, (w, p, q)) =
            (e (control x) (inl refl) ∙ a, e (env x) (inr (inl refl)) ∙ b, e (inner x) (inr (inr (inl refl))) ∙ c, (w, e (registers + inner x) (inr (inr (inr refl))) ∙ p, q))

        entry-is : (x : ℕ) → h x ≡ true → (b : Bool) → member_of ns x ≡ b → cond b (startE x) (own_e x) ≡ env x
        entry-is x e true k = start_is x e k
        entry-is x e false k = own_is x e k

        step : (x : ℕ) → h x ≡ true → (s : Links) → Pre x s → Works net (Links-of Entry x) 1 (Post x) s
        step x e s (a, b, r) =
            let v = there x e in
            let cx = Lay.control-between ns h o kb it is rs RB env K x e in
            let ix = Lay.inner-between ns h o kb it is rs RB env K x e in
            let ex = K.envs.below x e in
            let ft = K.fits in
            let w = start-gate net (member_of ns x) (control x) (iterE x) (startE x) (own_e x) (inner x) (env x) v.0 s (gates x e) (entry-is x e (member_of ns x) refl)
            (omega arith) (omega arith) (omega arith) (omega arith) (omega arith) (a ∙ ap tokens v.1) b r in
            (w.0, w.1, finish v.0 v.1 w.0 w.2, w.3)
          where
            finish : (v : Value) → ρ' x ≡ some v → (s' : Links) → Passed (member_of ns x) (control x) (env x) (inner x) v s' → Post x s'
            finish v p s' (a, b, c, (w, g, q)) =
                (a, b, c ∙ ap tokens (sym p), (w, g, λ k. sym (agree x e k) ∙ p ∙ ap some (sym (q k))))

    abbrev Turned : ℕ → ℕ → Type 0
    Turned x l = (member_of ns x ≡ true) × (l ≡ iterated x)

    abbrev pub Again : Values → Values → ℕ → Links → Type 0
    Again ρ ρ' x s = (s (control x) ≡ []) × (member_of ns x ≡ true → s (iterated x) ≡ []) × (s (inner x) ≡ tokens (ρ' x)) × Holding ρ x s

    -- A further round: the controls are true.
    pub all-again : (ρ ρ' : Values) → ((x : ℕ) → h x ≡ true → member_of ns x ≡ true → (v : Value) × (ρ' x ≡ some v)) → ((x : ℕ) → h x ≡ true → member_of ns x ≡ false → ρ' x ≡ ρ x) →
        (s : Links) → ((x : ℕ) → h x ≡ true → s (control x) ≡ val true-value ∷ []) → ((x : ℕ) → h x ≡ true → member_of ns x ≡ true → s (iterated x) ≡ tokens (ρ' x)) →
        ((x : ℕ) → h x ≡ true → s (inner x) ≡ []) → ((x : ℕ) → h x ≡ true → Holding ρ x s) →
        (s' : Links) × Steps net s 1 s' × ((x : ℕ) → h x ≡ true → Again ρ ρ' x s') × ((l : ℕ) → ((x : ℕ) → h x ≡ true → Links-of Turned x l → ⊥) → s' l ≡ s l)
    all-again ρ ρ' there agree s ctl itr dry hold =
        let r = row-works net h 1 (Links-of Turned) Pre Post apart pre-same post-same step name_count K.envs.small s (λ x e. (ctl x e, itr x e, dry x e, hold x e)) in
        (r.0, some-fire net s r.0 r.1, r.2, r.3)
      where
        Pre : ℕ → Links → Type 0
        Pre x s = (s (control x) ≡ val true-value ∷ []) × (member_of ns x ≡ true → s (iterated x) ≡ tokens (ρ' x)) × (s (inner x) ≡ []) × Holding ρ x s

        Post : ℕ → Links → Type 0
        Post x s = Again ρ ρ' x s

        apart : (x y l : ℕ) → h x ≡ true → h y ≡ true → x ≢ y → Links-of Turned x l → Links-of Turned y l → ⊥
        apart =
            gates-apart Turned (λ x l a e. inr (subst (Own Body) (sym e.1) (Lay.iterated-own ns h o kb it is rs RB env K x e.0)))
            (λ x y l a b e w. Lay.iterated-differ ns h o kb it is rs RB env K x y e.0 w.0 (sym e.1 ∙ w.1))

        pre-same : (x : ℕ) (s s' : Links) → ((l : ℕ) → Links-of Turned x l → s' l ≡ s l) → Pre x s → Pre x s'
        pre-same x s s' e (a, b, c, (w, p, q)) =
            (e (control x) (inl refl) ∙ a, λ m. e (iterated x) (inr (inl (m, refl))) ∙ b m, e (inner x) (inr (inr (inl refl))) ∙ c, (w, e (registers + inner x) (inr (inr (inr refl))) ∙ p, q))

        post-same : (x : ℕ) (s s' : Links) → ((l : ℕ) → Links-of Turned x l → s' l ≡ s l) → Post x s → Post x s'
        post-same x s s' e (a, b, c, (w, p, q)) =
            (e (control x) (inl refl) ∙ a, λ m. e (iterated x) (inr (inl (m, refl))) ∙ b m, e (inner x) (inr (inr (inl refl))) ∙ c, (w, e (registers + inner x) (inr (inr (inr refl))) ∙ p, q))

        step : (x : ℕ) → h x ≡ true → (s : Links) → Pre x s → Works net (Links-of Turned x) 1 (Post x) s
        step x e s (a, b, c, (w, p, q)) = go (member_of ns x) refl
          where
            at : (d : Bool) → member_of ns x ≡ d → Somewhere net (ring_gate d (control x) (iterE x) (startE x) (own_e x) (inner x))
            at d k = subst (λ z. Somewhere net (ring_gate z (control x) (iterE x) (startE x) (own_e x) (inner x))) k (gates x e)

            go : (d : Bool) → member_of ns x ≡ d → Works net (Links-of Turned x) 1 (Post x) s
            go true k =
                let v = there x e k in
                let cx = Lay.control-between ns h o kb it is rs RB env K x e in
                let ix = Lay.inner-between ns h o kb it is rs RB env K x e in
                let tx = Lay.iterated-own ns h o kb it is rs RB env K x k in
                let ft = K.fits in
                let g = again-moves net (control x) (iterated x) (startE x) (own_e x) (inner x) v.0 w s
                (subst (λ z. Somewhere net (ring_gate true (control x) z (startE x) (own_e x) (inner x))) (iter-is x k) (at true k))
                (omega arith) (omega arith) (omega arith) (omega arith) (omega arith) a (b k ∙ ap tokens v.1) c p in
                (g.0, g.1, finish v.0 v.1 g.0 g.2, λ l n. g.3 l (λ z. n (up l z)))
              where
                finish : (v : Value) → ρ' x ≡ some v → (s' : Links) → Passed true (control x) (iterated x) (inner x) v s' → Post x s'
                finish v z s' (a, b, c, (u, y, t)) = (a, λ m. b, c ∙ ap tokens (sym z), (u, y, λ m. absurd (not-both (member_of ns x) k m)))

                up : (l : ℕ) → Touched (control x) (iterated x) (inner x) l → Links-of Turned x l
                up l (inl z) = inl z
                up l (inr (inl z)) = inr (inl (k, z))
                up l (inr (inr z)) = inr (inr z)
            go false k =
                let cx = Lay.control-between ns h o kb it is rs RB env K x e in
                let ix = Lay.inner-between ns h o kb it is rs RB env K x e in
                let ft = K.fits in
                let g = again-repeats net (control x) (iterE x) (startE x) (own_e x) (inner x) w s (at false k) (omega arith) (omega arith) a c p in
                (g.0, g.1, (g.2.0, λ m. absurd (not-both (member_of ns x) m k), g.2.1 ∙ ap tokens (sym (agree x e k ∙ q k)), (w, g.2.2, q)), λ l n. g.3 l (λ z. n (up l z)))
              where
                up : (l : ℕ) → (l ≡ control x) ⊎ ((l ≡ inner x) ⊎ (l ≡ registers + inner x)) → Links-of Turned x l
                up l (inl z) = inl z
                up l (inr (inl z)) = inr (inr (inl z))
                up l (inr (inr z)) = inr (inr (inr z))
