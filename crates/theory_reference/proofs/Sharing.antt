-- Sharing between two users: where the links of each lie, and the schedule of the copies. From the values of all names to those of the
-- first user's names on its links and those of the second's on its own; a name that both use passes one copy, absent values none.
use Rattle.std.specs.Prelude.{ℕ, ◌+◌, ◌*◌, ◌-◌, ◌≤◌, ◌<◌, ◌/◌, ◌%◌, ◌≡◌, refl, ◌≢◌, ◌⊎◌, true, false, ◌&&◌, [], ◌∷◌}
use Rattle.std.proofs.Common.{zero-le, sym, ◌∙◌, subst, inl, inr, arith}
use Rattle.std.proofs.Math.Path.{ap}
use Rattle.std.proofs.Math.Bool.{cond}
use Rattle.std.proofs.Math.Option.{Option, none, some}
use Rattle.std.proofs.Math.Decide.{ℕ_discrete}
use Rattle.value.specs.declared.Value.{Value}
use Rattle.names.specs.Names.{Names, union, common}
use Rattle.network.specs.Values.{err-value}
use Rattle.network.specs.Poisoned.{poisoned}
use Rattle.network.specs.Net.{Links}
use Rattle.theory_pieces.specs.Goes.{Net}
use Rattle.theory_pieces.proofs.Goes.{Steps, stay}
use Rattle.graph.specs.Assembly.{Env, name_count, rank, total, shared_links, first_use, second_use, copy_of, sharing}
use Rattle.graph.specs.Yields.{Values}
use Rattle.theory_reference.proofs.NameSets.{either, and_left, and_both, or_left, or_right, not-both, rank-total, rank-differs, rank-onto}
use Rattle.theory_reference.specs.Plugged.{demand_of}
use Rattle.theory_reference.proofs.Plugged.{Somewhere, Has, each_copy}
use Rattle.theory_reference.specs.Plan.{tokens, Laid, Between, Envs}
use Rattle.theory_reference.proofs.Plan.{fewer}
use Rattle.theory_reference.proofs.NameRows.{Works, row-works}
use Rattle.theory_reference.specs.NameRows.{tally}
use Rattle.theory_reference.proofs.Copies.{copy-fires, twin-fires}

pub size_is : (f g : Names) → shared_links f g ≡ 2 * total (common f g)
unfolding shared_links
size_is f g = refl

module _ (f g : Names) (n : ℕ) (env : Env) where
  abbrev pub Shared : ℕ → Type 0
  Shared x = f x && g x ≡ true

  abbrev pub e₁ : Env
  e₁ = first_use f g n env

  abbrev pub e₂ : Env
  e₂ = second_use f g n env

  abbrev sh : ℕ
  sh = shared_links f g

  pub first-shared : (x : ℕ) → Shared x → e₁ x ≡ n + 2 * rank (common f g) x
  unfolding first_use
  first-shared x e = ap (λ p. cond p (n + 2 * rank (common f g) x) (env x)) e

  pub first_alone : (x : ℕ) → f x && g x ≡ false → e₁ x ≡ env x
  unfolding first_use
  first_alone x e = ap (λ p. cond p (n + 2 * rank (common f g) x) (env x)) e

  pub second-shared : (x : ℕ) → Shared x → e₂ x ≡ n + 2 * rank (common f g) x + 1
  unfolding second_use
  second-shared x e = ap (λ p. cond p (n + 2 * rank (common f g) x + 1) (env x)) e

  pub second-alone : (x : ℕ) → f x && g x ≡ false → e₂ x ≡ env x
  unfolding second_use
  second-alone x e = ap (λ p. cond p (n + 2 * rank (common f g) x + 1) (env x)) e

  module _ (E : Envs (union f g) env n) where
    in-first : (x : ℕ) → f x ≡ true → union f g x ≡ true
    in-first x e = or_left (f x) (g x) e

    in-second : (x : ℕ) → g x ≡ true → union f g x ≡ true
    in-second x e = or_right (f x) (g x) e

    shared-first : (x : ℕ) → Shared x → f x ≡ true
    shared-first x e = and_left (f x) (g x) e

    rank-small : (x : ℕ) → Shared x → (2 * rank (common f g) x + 2 ≤ sh)
    rank-small x e =
        let a = rank-total (common f g) x e (E.small x (in-first x (shared-first x e))) in
        let b = size_is f g in
        omega arith

    -- A name that is not shared keeps its link; a copy's link is one of the copies.
    abbrev pub Spot : ℕ → ℕ → Type 0
    Spot x l = ((f x && g x ≡ false) × (l ≡ env x)) ⊎ (Shared x × (n + 2 * rank (common f g) x ≤ l) × (l ≤ n + 2 * rank (common f g) x + 1))

    pub first-spot : (x : ℕ) → Spot x (e₁ x)
    first-spot x = go (either (f x && g x))
      where
        go : (f x && g x ≡ true) ⊎ (f x && g x ≡ false) → Spot x (e₁ x)
        go (inl e) = let h = first-shared x e in inr (e, omega arith, omega arith)
        go (inr e) = inl (e, first_alone x e)

    pub second-spot : (x : ℕ) → Spot x (e₂ x)
    second-spot x = go (either (f x && g x))
      where
        go : (f x && g x ≡ true) ⊎ (f x && g x ≡ false) → Spot x (e₂ x)
        go (inl e) = let h = second-shared x e in inr (e, omega arith, omega arith)
        go (inr e) = inl (e, second-alone x e)

    -- links of different names are different
    spot-differ : (x y l : ℕ) → union f g x ≡ true → union f g y ≡ true → Spot x l → Spot y l → x ≡ y
    spot-differ x y l a b (inl (e, z)) (inl (h, w)) = E.differ x y a b (sym z ∙ w)
    spot-differ x y l a b (inl (e, z)) (inr (h, lo, hi)) = let q = E.below x a in absurd (omega arith)
    spot-differ x y l a b (inr (e, lo, hi)) (inl (h, w)) = let q = E.below y b in absurd (omega arith)
    spot-differ x y l a b (inr (e, lo, hi)) (inr (h, lo', hi')) = rank-differs (common f g) x y e h (omega arith)

    spot-below : (x l : ℕ) → union f g x ≡ true → Spot x l → l < n + sh
    spot-below x l a (inl (e, z)) = let q = E.below x a in omega arith
    spot-below x l a (inr (e, lo, hi)) = let q = rank-small x e in omega arith

    pub envs-first : Envs f e₁ (n + sh)
    envs-first =
        record {
          below = λ x a. spot-below x (e₁ x) (in-first x a) (first-spot x);
          differ = λ x y a b h. spot-differ x y (e₁ x) (in-first x a) (in-first y b) (first-spot x) (subst (Spot y) (sym h) (first-spot y));
          small = λ x a. E.small x (in-first x a);
        }

    pub envs-second : Envs g e₂ (n + sh)
    envs-second =
        record {
          below = λ x a. spot-below x (e₂ x) (in-second x a) (second-spot x);
          differ = λ x y a b h. spot-differ x y (e₂ x) (in-second x a) (in-second y b) (second-spot x) (subst (Spot y) (sym h) (second-spot y));
          small = λ x a. E.small x (in-second x a);
        }

    -- No link of the one user is a link of the other.
    pub uses-apart : (x y : ℕ) → f x ≡ true → g y ≡ true → e₁ x ≡ e₂ y → ⊥
    uses-apart x y a b h = go (spot-differ x y (e₁ x) (in-first x a) (in-second y b) (first-spot x) (subst (Spot y) (sym h) (second-spot y)))
      where
        go : x ≡ y → ⊥
        go e =
            let c : Shared x = and_both (f x) (g x) a (ap g e ∙ b) in
            let c' : Shared y = subst Shared e c in
            let p = first-shared x c in
            let q = second-shared y c' in
            let r : rank (common f g) x ≡ rank (common f g) y = ap (rank (common f g)) e in
            omega arith

    -- The link of a shared name is a link of neither.
    pub first-left : (x y : ℕ) → Shared x → f y ≡ true → env x ≡ e₁ y → ⊥
    first-left x y e b h = go (first-spot y)
      where
        go : Spot y (e₁ y) → ⊥
        go (inl (k, z)) =
            let q : x ≡ y = E.differ x y (in-first x (shared-first x e)) (in-first y b) (h ∙ z) in
            not-both (f y && g y) (subst Shared q e) k
        go (inr (k, lo, hi)) = let q = E.below x (in-first x (shared-first x e)) in omega arith

    pub second-left : (x y : ℕ) → Shared x → g y ≡ true → env x ≡ e₂ y → ⊥
    second-left x y e b h = go (second-spot y)
      where
        go : Spot y (e₂ y) → ⊥
        go (inl (k, z)) =
            let q : x ≡ y = E.differ x y (in-first x (shared-first x e)) (in-second y b) (h ∙ z) in
            not-both (f y && g y) (subst Shared q e) k
        go (inr (k, lo, hi)) = let q = E.below x (in-first x (shared-first x e)) in omega arith

    -- Every link of the copies is used.
    pub copies-used : (l : ℕ) → Between n sh l → (x : ℕ) × Shared x × ((l ≡ e₁ x) ⊎ (l ≡ e₂ x))
    copies-used l b =
        let s = size_is f g in
        let m = rank-onto (common f g) ((l - n) / 2) (omega arith) in
        let p = first-shared m.0 m.2 in
        let q = second-shared m.0 m.2 in
        (m.0, m.2, go m.0 m.3 p q (ℕ_discrete ((l - n) % 2) 0))
      where
        go : (x : ℕ) → rank (common f g) x ≡ (l - n) / 2 → e₁ x ≡ n + 2 * rank (common f g) x → e₂ x ≡ n + 2 * rank (common f g) x + 1 → Dec ((l - n) % 2 ≡ 0) → (l ≡ e₁ x) ⊎ (l ≡ e₂ x)
        go x r p q (yes z) = inl (omega arith)
        go x r p q (no z) = inr (omega arith)

    -- What the copies do.
    pub record Split (net : Net) (ρ : Values) (s s' : Links) : Type 0 where
      pub steps : Steps net s 0 s'
      pub first : Laid f e₁ ρ s'
      pub second : Laid g e₂ ρ s'
      pub emptied : (x : ℕ) → Shared x → s' (env x) ≡ []
      pub same : (l : ℕ) → (Between n sh l → ⊥) → ((x : ℕ) → Shared x → l ≡ env x → ⊥) → s' l ≡ s l

    -- A value that a copy hands on, or that its twin makes err.
    abbrev pub Change : (net : Net) → ℕ → Option Value → Option Value → Type 0
    Change net x v v' =
        (v' ≡ v) ⊎ ((u : Value) × (v ≡ some u) × (v' ≡ some err-value) × ((p : ℕ) × (net.at p ≡ poisoned (demand_of (copy_of (env x) (e₁ x) (e₂ x)))) × net.Fine (p ∷ [])))

    pub record Changes (net : Net) (ρ ρ' : Values) : Type 0 where
      pub shared : (x : ℕ) → Shared x → Change net x (ρ x) (ρ' x)
      pub alone : (x : ℕ) → f x && g x ≡ false → ρ' x ≡ ρ x

    pub split-over : (net : Net) (ρ ρ' : Values) (s : Links) → Has net (sharing f g n env) → Changes net ρ ρ' → Laid (union f g) env ρ s → ((l : ℕ) → Between n sh l → s l ≡ []) →
        (s' : Links) × Split net ρ' s s'
    split-over net ρ ρ' s H ch laid dry =
        let r = row-works net (common f g) 0 F Pre Post apart pre-same post-same step name_count (λ x e. E.small x (in-first x (shared-first x e))) s pres in (
          r.0,
          record {
            steps = fewer net s r.0 (tally 0 (common f g) name_count) 0 zero-le r.1;
            first = λ x a. at_first r.0 r.2 r.3 x a (either (f x && g x));
            second = λ x a. at_second r.0 r.2 r.3 x a (either (f x && g x));
            emptied = λ x e. (r.2 x e).0;
            same = λ l no_copy no_name. r.3 l (λ x e i. away l no_copy no_name x e i);
          },
        )
      where
        F : ℕ → ℕ → Type 0
        F x l = (l ≡ env x) ⊎ ((l ≡ e₁ x) ⊎ (l ≡ e₂ x))

        Pre : ℕ → Links → Type 0
        Pre x s = (s (env x) ≡ tokens (ρ x)) × (s (e₁ x) ≡ []) × (s (e₂ x) ≡ [])

        Post : ℕ → Links → Type 0
        Post x s = (s (env x) ≡ []) × (s (e₁ x) ≡ tokens (ρ' x)) × (s (e₂ x) ≡ tokens (ρ' x))

        copy-own : (x : ℕ) → Shared x → Between n sh (e₁ x) × Between n sh (e₂ x)
        copy-own x e =
            let a = first-shared x e in
            let b = second-shared x e in
            let c = rank-small x e in
            ((omega arith, omega arith), (omega arith, omega arith))

        apart : (x y l : ℕ) → Shared x → Shared y → x ≢ y → F x l → F y l → ⊥
        apart x y l a b ne p q = ne (go p q)
          where
            ua : union f g x ≡ true
            ua = in-first x (shared-first x a)

            ub : union f g y ≡ true
            ub = in-first y (shared-first y b)

            copied : (z : ℕ) → Shared z → (l ≡ e₁ z) ⊎ (l ≡ e₂ z) → Spot z l
            copied z k (inl h) = subst (Spot z) (sym h) (first-spot z)
            copied z k (inr h) = subst (Spot z) (sym h) (second-spot z)

            high : (z : ℕ) → Shared z → (l ≡ e₁ z) ⊎ (l ≡ e₂ z) → n ≤ l
            high z k (inl h) = omega (arith, (copy-own z k).0.0)
            high z k (inr h) = omega (arith, (copy-own z k).1.0)

            go : F x l → F y l → x ≡ y
            go (inl h) (inl k) = E.differ x y ua ub (sym h ∙ k)
            go (inl h) (inr k) = absurd (omega (arith, E.below x ua, high y b k))
            go (inr h) (inl k) = absurd (omega (arith, E.below y ub, high x a h))
            go (inr h) (inr k) = spot-differ x y l ua ub (copied x a h) (copied y b k)

        pre-same : (x : ℕ) (s s' : Links) → ((l : ℕ) → F x l → s' l ≡ s l) → Pre x s → Pre x s'
        pre-same x s s' e p = (e (env x) (inl refl) ∙ p.0, e (e₁ x) (inr (inl refl)) ∙ p.1, e (e₂ x) (inr (inr refl)) ∙ p.2)

        post-same : (x : ℕ) (s s' : Links) → ((l : ℕ) → F x l → s' l ≡ s l) → Post x s → Post x s'
        post-same x s s' e p = (e (env x) (inl refl) ∙ p.0, e (e₁ x) (inr (inl refl)) ∙ p.1, e (e₂ x) (inr (inr refl)) ∙ p.2)

        step : (x : ℕ) → Shared x → (s : Links) → Pre x s → Works net (F x) 0 (Post x) s
        step x e s p = change (ch.shared x e)
          where
            Done : Option Value → Type 0
            Done v = (s' : Links) × Steps net s 0 s' × ((s' (env x) ≡ []) × (s' (e₁ x) ≡ tokens v) × (s' (e₂ x) ≡ tokens v)) × ((l : ℕ) → (F x l → ⊥) → s' l ≡ s l)

            go : (v : Option Value) → s (env x) ≡ tokens v → s (e₁ x) ≡ [] → s (e₂ x) ≡ [] → Done v
            go none a b c = (s, stay net s, (a, b, c), λ l m. refl)
            go (some v) a b c =
                let o = copy-own x e in
                let u = E.below x (in-first x (shared-first x e)) in
                let p = first-shared x e in
                let q = second-shared x e in
                let w = copy-fires net (env x) (e₁ x) (e₂ x) v s (each_copy (Somewhere net) f g n env H x (E.small x (in-first x (shared-first x e))) e) (omega arith) (omega arith) (omega arith) a b c in
                (w.0, fewer net s w.0 1 0 (omega arith) w.1, w.2, w.3)

            change : Change net x (ρ x) (ρ' x) → Done (ρ' x)
            change (inl z) = subst Done (sym z) (go (ρ x) p.0 p.1 p.2)
            change (inr (v, is-v, is_err, at)) =
                let o = copy-own x e in
                let u = E.below x (in-first x (shared-first x e)) in
                let a = first-shared x e in
                let b = second-shared x e in
                let w = twin-fires net (env x) (e₁ x) (e₂ x) v s at (omega arith) (omega arith) (omega arith) (p.0 ∙ ap tokens is-v) p.1 p.2 in
                subst Done (sym is_err) (w.0, fewer net s w.0 1 0 (omega arith) w.1, w.2, w.3)

        pres : (x : ℕ) → Shared x → Pre x s
        pres x e = let o = copy-own x e in (laid x (in-first x (shared-first x e)), dry (e₁ x) o.0, dry (e₂ x) o.1)

        -- what is touched is a copy's link or a shared name's
        away : (l : ℕ) → (Between n sh l → ⊥) → ((x : ℕ) → Shared x → l ≡ env x → ⊥) → (x : ℕ) → Shared x → F x l → ⊥
        away l p q x e (inl h) = q x e h
        away l p q x e (inr (inl h)) = p (subst (Between n sh) (sym h) (copy-own x e).0)
        away l p q x e (inr (inr h)) = p (subst (Between n sh) (sym h) (copy-own x e).1)

        alone-same : (s' : Links) → ((l : ℕ) → ((x : ℕ) → Shared x → F x l → ⊥) → s' l ≡ s l) → (x : ℕ) → union f g x ≡ true → f x && g x ≡ false → s' (env x) ≡ s (env x)
        alone-same s' fr x a e = fr (env x) (λ y k i. away (env x) (λ b. let u = E.below x a in omega arith)
            (λ z k' h. let w : x ≡ z = E.differ x z a (in-first z (shared-first z k')) h in not-both (f x && g x) (subst Shared (sym w) k') e) y k i)

        at_first : (s' : Links) → ((x : ℕ) → Shared x → Post x s') → ((l : ℕ) → ((x : ℕ) → Shared x → F x l → ⊥) → s' l ≡ s l) → (x : ℕ) → f x ≡ true →
            (f x && g x ≡ true) ⊎ (f x && g x ≡ false) → s' (e₁ x) ≡ tokens (ρ' x)
        at_first s' po fr x a (inl e) = (po x e).1
        at_first s' po fr x a (inr e) = ap s' (first_alone x e) ∙ alone-same s' fr x (in-first x a) e ∙ laid x (in-first x a) ∙ ap tokens (sym (ch.alone x e))

        at_second : (s' : Links) → ((x : ℕ) → Shared x → Post x s') → ((l : ℕ) → ((x : ℕ) → Shared x → F x l → ⊥) → s' l ≡ s l) → (x : ℕ) → g x ≡ true →
            (f x && g x ≡ true) ⊎ (f x && g x ≡ false) → s' (e₂ x) ≡ tokens (ρ' x)
        at_second s' po fr x a (inl e) = (po x e).2
        at_second s' po fr x a (inr e) = ap s' (second-alone x e) ∙ alone-same s' fr x (in-second x a) e ∙ laid x (in-second x a) ∙ ap tokens (sym (ch.alone x e))

    pub split : (net : Net) (ρ : Values) (s : Links) → Has net (sharing f g n env) → Laid (union f g) env ρ s → ((l : ℕ) → Between n sh l → s l ≡ []) →
        (s' : Links) × Split net ρ s s'
    split net ρ s H = split-over net ρ ρ s H (record { shared = λ x e. inl refl; alone = λ x e. refl })
