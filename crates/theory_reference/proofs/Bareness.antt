-- Laws of specs/Bareness.antt, and what only they need.
use Rattle.std.specs.Prelude.{ℕ, ◌+◌, ◌<◌, ◌≡◌, ◌⊎◌, true, false, cond, List, ◌++◌, length, eqb}
use Rattle.std.proofs.Common.{sym, ◌∙◌, ap, subst, inl, inr, ⊎_elim, arith, ne_eqb}
use Rattle.names.specs.Names.{Names, none as noNames, union, common, without}
use Rattle.network.specs.Uses.{In}
use Rattle.theory_pieces.proofs.Rows.{in_app}
use Rattle.graph.specs.Assembly.{Env, member_of, named, total, shared_links, first_use, second_use}
use Rattle.graph.specs.Fit.{Different as DifferentNames}
use Rattle.theory_reference.proofs.NameSets.{either, and_both, or_left, or_right, without_in, rank-total}
use Rattle.theory_reference.specs.Plan.{Plan, Own, Envs}
use Rattle.theory_reference.proofs.Sharing.{Spot, first-spot, second-spot, envs-first, envs-second}
use Rattle.theory_reference.proofs.Parts as Parts
use Rattle.theory_reference.proofs.OneAfterAnother as After
use Rattle.theory_reference.proofs.Binding.{named_in, named-others, names-small}
use Rattle.theory_reference.specs.Bareness.{Straight, bare-bound}

module _ (f g : Names) (n ka kb : ℕ) (env : Env) (oa ob : List ℕ) (Ra RB : ℕ → ℕ → Type 0) (os : List ℕ) (E : Envs (union f g) env n) where
  abbrev W : Plan
  W = Parts.Whole f g n ka kb env oa ob Ra RB os

  spot-straight : (x l : ℕ) → l < n + shared_links f g → Spot f g n env E x l → Own W l ⊎ (l ≡ env x)
  spot-straight x l lt (inl (e, z)) = inr z
  spot-straight x l lt (inr (e, lo, hi)) = inl (omega arith, omega arith)

  pub first-straight : (x l : ℕ) → f x ≡ true → l ≡ first_use f g n env x → Own W l ⊎ (l ≡ env x)
  first-straight x l e z =
      let q = (envs-first f g n env E).below x e in
      spot-straight x l (omega arith) (subst (Spot f g n env E x) (sym z) (first-spot f g n env E x))

  pub second-straight : (x l : ℕ) → g x ≡ true → l ≡ second_use f g n env x → Own W l ⊎ (l ≡ env x)
  second-straight x l e z =
      let q = (envs-second f g n env E).below x e in
      spot-straight x l (omega arith) (subst (Spot f g n env E x) (sym z) (second-spot f g n env E x))

  pub beside-straight : (A B : Names) → ((x : ℕ) → A x ≡ true → f x ≡ true) → ((x : ℕ) → B x ≡ true → g x ≡ true) → Straight A (Parts.First f g n ka kb env oa ob Ra RB) →
      Straight B (Parts.Second f g n ka kb env oa ob Ra RB) → (l : ℕ) → In l (oa ++ ob) → Own W l ⊎ ((x : ℕ) × (union A B x ≡ true) × (l ≡ env x))
  beside-straight A B fa fb sa sb l i = ⊎_elim (λ (j : In l oa). one (sa l j)) (λ (j : In l ob). two (sb l j)) (in_app l oa ob i)
    where
      Goal : Type 0
      Goal = Own W l ⊎ ((x : ℕ) × (union A B x ≡ true) × (l ≡ env x))

      one : Own (Parts.First f g n ka kb env oa ob Ra RB) l ⊎ ((x : ℕ) × (A x ≡ true) × (l ≡ first_use f g n env x)) → Goal
      one (inl o) = inl (omega arith, omega arith)
      one (inr (x, e, z)) = ⊎_elim (λ (o : Own W l). inl o) (λ (w : l ≡ env x). inr (x, or_left (A x) (B x) e, w)) (first-straight x l (fa x e) z)

      two : Own (Parts.Second f g n ka kb env oa ob Ra RB) l ⊎ ((x : ℕ) × (B x ≡ true) × (l ≡ second_use f g n env x)) → Goal
      two (inl o) = inl (omega arith, omega arith)
      two (inr (x, e, z)) = ⊎_elim (λ (o : Own W l). inl o) (λ (w : l ≡ env x). inr (x, or_right (A x) (B x) e, w)) (second-straight x l (fb x e) z)

pub bound-straight : (ns : List ℕ) (f h : Names) (n ka kb : ℕ) (env : Env) (oa ob : List ℕ) (Ra RB : ℕ → ℕ → Type 0) → Envs (union f (After.outer ns f h n ka kb env oa ob Ra RB)) env n →
    length oa ≡ length ns → DifferentNames ns → (A B : Names) → ((x : ℕ) → A x ≡ true → f x ≡ true) → ((x : ℕ) → B x ≡ true → h x ≡ true) → Straight A (After.Maker ns f h n ka kb env oa ob Ra RB) →
    Straight B (After.User ns f h n ka kb env oa ob Ra RB) → Straight (bare-bound ns A B) (After.Bound ns f h n ka kb env oa ob Ra RB)
bound-straight ns f h n ka kb env oa ob Ra RB E many DN A B fa fb sa sb l i = go (sb l i)
  where
    G : Names
    G = without h (member_of ns)

    Goal : Type 0
    Goal = Own (After.Bound ns f h n ka kb env oa ob Ra RB) l ⊎ ((x : ℕ) × (bare-bound ns A B x ≡ true) × (l ≡ env x))

    -- a bound name is bare, so the first part's bare names count
    counts : (x y : ℕ) → B x ≡ true → member_of ns x ≡ true → A y ≡ true → bare-bound ns A B y ≡ true
    counts x y e m k =
        let q = rank-total (common B (member_of ns)) x (and_both (B x) (member_of ns x) e m) (names-small ns x DN m) in
        or_right (without B (member_of ns) y) (cond (eqb (total (common B (member_of ns))) 0) noNames A y)
        (ap (λ b. cond b noNames A y) (ne_eqb (total (common B (member_of ns))) 0 (λ z. omega arith)) ∙ k)

    made : (x : ℕ) → B x ≡ true → member_of ns x ≡ true → Own (After.Maker ns f h n ka kb env oa ob Ra RB) l ⊎ ((y : ℕ) × (A y ≡ true) × (l ≡ first_use f G n env y)) → Goal
    made x e m (inl o) = inl (omega arith, omega arith)
    made x e m (inr (y, k, z)) =
        ⊎_elim (λ (o : Own (After.Bound ns f h n ka kb env oa ob Ra RB) l). inl o) (λ (w : l ≡ env y). inr (y, counts x y e m k, w)) (first-straight f G n ka kb env oa ob Ra RB ob E y l (fa y k) z)

    kept : (x : ℕ) → B x ≡ true → member_of ns x ≡ false → l ≡ named ns oa (second_use f G n env) x → Goal
    kept x e m z =
        ⊎_elim (λ (o : Own (After.Bound ns f h n ka kb env oa ob Ra RB) l). inl o)
        (λ (w : l ≡ env x). inr (x, or_left (without B (member_of ns) x) (cond (eqb (total (common B (member_of ns))) 0) noNames A x) (without_in B (member_of ns) x e m), w))
        (second-straight f G n ka kb env oa ob Ra RB ob E x l (without_in h (member_of ns) x (fb x e) m) (z ∙ named-others ns oa (second_use f G n env) x m))

    by : (x : ℕ) → B x ≡ true → l ≡ named ns oa (second_use f G n env) x → (member_of ns x ≡ true) ⊎ (member_of ns x ≡ false) → Goal
    by x e z (inl m) = made x e m (sa l (subst (λ k. In k oa) (sym z) (named_in ns oa (second_use f G n env) x (omega arith) m)))
    by x e z (inr m) = kept x e m z

    go : Own (After.User ns f h n ka kb env oa ob Ra RB) l ⊎ ((x : ℕ) × (B x ≡ true) × (l ≡ named ns oa (second_use f G n env) x)) → Goal
    go (inl o) = inl (omega arith, omega arith)
    go (inr (x, e, z)) = by x e z (either (member_of ns x))
