-- A list of names bound to a list of links and to a list of values: each name of the list has its own link and value, the others keep
-- theirs. Assumes as many links as names.
use Rattle.std.specs.Prelude.{ℕ, zero, suc, ◌≤◌, ◌<◌, ◌≡◌, refl, ◌⊎◌, true, false, cond, List, [], ◌∷◌, length, take, eqb}
use Rattle.std.proofs.Common.{sym, ◌∙◌, ap, subst, inl, inr, ⊎_elim, arith, eq-eqb, ne_eqb}
use Rattle.std.proofs.Math.Option.{Option, none, some}
use Rattle.std.proofs.Math.Decide.{ℕ_discrete}
use Rattle.value.specs.declared.Value.{Value}
use Rattle.network.specs.Net.{Links}
use Rattle.network.specs.Uses.{In}
use Rattle.theory_pieces.specs.Sets.{Different}
use Rattle.graph.specs.Assembly.{Env, name_count, member_of, named}
use Rattle.graph.specs.Yields.{Values, bound, absent, present}
use Rattle.graph.specs.Fit.{Different as DifferentNames}
use Rattle.theory_reference.proofs.NameSets.{either, not-both, member-head, member-tail, member-cases, member-nil}
use Rattle.theory_reference.specs.Plan.{tokens, Hold}

not-in-tail : (y : ℕ) (ns : List ℕ) (x : ℕ) → member_of (y ∷ ns) x ≡ false → (y ≡ x → ⊥) × (member_of ns x ≡ false)
not-in-tail y ns x e = (λ z. not-both (member_of (y ∷ ns) x) (subst (λ w. member_of (y ∷ ns) w ≡ true) z (member-head y ns)) e, go (either (member_of ns x)))
  where
    go : (member_of ns x ≡ true) ⊎ (member_of ns x ≡ false) → member_of ns x ≡ false
    go (inl h) = absurd (not-both (member_of (y ∷ ns) x) (member-tail y ns x h) e)
    go (inr h) = h

-- Links.
pub named_here : (y : ℕ) (ns : List ℕ) (l : ℕ) (ls : List ℕ) (env : Env) → named (y ∷ ns) (l ∷ ls) env y ≡ l
unfolding named
named_here y ns l ls env = ap (λ b. cond b l (named ns ls env y)) (eq-eqb y y refl)

named-later : (y : ℕ) (ns : List ℕ) (l : ℕ) (ls : List ℕ) (env : Env) (x : ℕ) → (y ≡ x → ⊥) → named (y ∷ ns) (l ∷ ls) env x ≡ named ns ls env x
unfolding named
named-later y ns l ls env x ne = ap (λ b. cond b l (named ns ls env x)) (ne_eqb y x ne)

pub named-others : (ns ls : List ℕ) (env : Env) (x : ℕ) → member_of ns x ≡ false → named ns ls env x ≡ env x
unfolding named
named-others [] ls env x e = refl
named-others (y ∷ ns) [] env x e = refl
named-others (y ∷ ns) (l ∷ ls) env x e =
    let h = not-in-tail y ns x e in
    named-later y ns l ls env x h.0 ∙ named-others ns ls env x h.1

pub named_in : (ns ls : List ℕ) (env : Env) (x : ℕ) → length ns ≤ length ls → member_of ns x ≡ true → In (named ns ls env x) ls
named_in [] ls env x le e = absurd (member-nil x e)
named_in (y ∷ ns) [] env x le e = absurd (omega arith)
named_in (y ∷ ns) (l ∷ ls) env x le e = go (λ h. named_in ns ls env x (omega arith) h) (ℕ_discrete y x) (member-cases y ns x e)
  where
    go : (member_of ns x ≡ true → In (named ns ls env x) ls) → Dec (y ≡ x) → (y ≡ x) ⊎ (member_of ns x ≡ true) → In (named (y ∷ ns) (l ∷ ls) env x) (l ∷ ls)
    go ih (yes z) d = inl (ap (named (y ∷ ns) (l ∷ ls) env) (sym z) ∙ named_here y ns l ls env)
    go ih (no z) (inl w) = absurd (z w)
    go ih (no z) (inr w) = inr (subst (λ k. In k ls) (sym (named-later y ns l ls env x z)) (ih w))

-- Which environment the others have does not matter to a bound name.
pub named-any : (ns ls : List ℕ) (env env' : Env) (x : ℕ) → length ns ≤ length ls → member_of ns x ≡ true → named ns ls env x ≡ named ns ls env' x
named-any [] ls env env' x le e = absurd (member-nil x e)
named-any (y ∷ ns) [] env env' x le e = absurd (omega arith)
named-any (y ∷ ns) (l ∷ ls) env env' x le e = go (λ h. named-any ns ls env env' x (omega arith) h) (ℕ_discrete y x) (member-cases y ns x e)
  where
    go : (member_of ns x ≡ true → named ns ls env x ≡ named ns ls env' x) → Dec (y ≡ x) → (y ≡ x) ⊎ (member_of ns x ≡ true) →
        named (y ∷ ns) (l ∷ ls) env x ≡ named (y ∷ ns) (l ∷ ls) env' x
    go ih (yes z) d =
        ap (named (y ∷ ns) (l ∷ ls) env) (sym z) ∙ named_here y ns l ls env ∙ sym (named_here y ns l ls env') ∙ ap (named (y ∷ ns) (l ∷ ls) env') z
    go ih (no z) (inl w) = absurd (z w)
    go ih (no z) (inr w) = named-later y ns l ls env x z ∙ ih w ∙ sym (named-later y ns l ls env' x z)

-- Links beyond the names do not count.
pub named-front : (ns ls : List ℕ) (env : Env) (x : ℕ) → length ns ≤ length ls → named ns (take (length ns) ls) env x ≡ named ns ls env x
unfolding named
named-front [] ls env x le = refl
named-front (y ∷ ns) [] env x le = absurd (omega arith)
named-front (y ∷ ns) (l ∷ ls) env x le = ap (λ w. cond (eqb y x) l w) (named-front ns ls env x (omega arith))

pub named-differ : (ns ls : List ℕ) (env : Env) (x y : ℕ) → length ns ≤ length ls → Different ls → member_of ns x ≡ true → member_of ns y ≡ true → named ns ls env x ≡ named ns ls env y → x ≡ y
named-differ [] ls env x y le d a b e = absurd (member-nil x a)
named-differ (z ∷ ns) [] env x y le d a b e = absurd (omega arith)
named-differ (z ∷ ns) (l ∷ ls) env x y le d a b e = go (λ p q r. named-differ ns ls env x y (omega arith) d.1 p q r) (ℕ_discrete z x) (ℕ_discrete z y) (member-cases z ns x a) (member-cases z ns y b)
  where
    Name : ℕ → ℕ
    Name = named (z ∷ ns) (l ∷ ls) env

    at_head : (w : ℕ) → z ≡ w → Name w ≡ l
    at_head w h = ap Name (sym h) ∙ named_here z ns l ls env

    clash : (w u : ℕ) → z ≡ w → (z ≡ u → ⊥) → member_of ns u ≡ true → Name w ≡ Name u → ⊥
    clash w u h ne m k = d.0 (subst (λ v. In v ls) (sym (named-later z ns l ls env u ne) ∙ sym k ∙ at_head w h) (named_in ns ls env u (omega arith) m))

    go : (member_of ns x ≡ true → member_of ns y ≡ true → named ns ls env x ≡ named ns ls env y → x ≡ y) → Dec (z ≡ x) → Dec (z ≡ y) →
        (z ≡ x) ⊎ (member_of ns x ≡ true) → (z ≡ y) ⊎ (member_of ns y ≡ true) → x ≡ y
    go ih (yes p) (yes q) m k = sym p ∙ q
    go ih (yes p) (no q) m (inl k) = absurd (q k)
    go ih (yes p) (no q) m (inr k) = absurd (clash x y p q k e)
    go ih (no p) (yes q) (inl m) k = absurd (p m)
    go ih (no p) (yes q) (inr m) k = absurd (clash y x q p m (sym e))
    go ih (no p) (no q) (inl m) k = absurd (p m)
    go ih (no p) (no q) (inr m) (inl k) = absurd (q k)
    go ih (no p) (no q) (inr m) (inr k) = ih m k (sym (named-later z ns l ls env x p) ∙ e ∙ named-later z ns l ls env y q)

pub named-onto : (ns ls : List ℕ) (env : Env) (l : ℕ) → length ls ≡ length ns → DifferentNames ns → In l ls → (x : ℕ) × (member_of ns x ≡ true) × (l ≡ named ns ls env x)
named-onto [] [] env l e d i = absurd i
named-onto [] (k ∷ ls) env l e d i = absurd (omega arith)
named-onto (y ∷ ns) [] env l e d i = absurd i
named-onto (y ∷ ns) (k ∷ ls) env l e d (inl z) = (y, member-head y ns, z ∙ sym (named_here y ns k ls env))
named-onto (y ∷ ns) (k ∷ ls) env l e d (inr i) =
    let h = named-onto ns ls env l (omega arith) d.2 i in
    (h.0, member-tail y ns h.0 h.1, h.2 ∙ sym (named-later y ns k ls env h.0 (λ z. not-both (member_of ns y) (subst (λ w. member_of ns w ≡ true) (sym z) h.1) d.1)))

pub names-small : (ns : List ℕ) (x : ℕ) → DifferentNames ns → member_of ns x ≡ true → x < name_count
names-small [] x d e = absurd (member-nil x e)
names-small (y ∷ ns) x d e = ⊎_elim (λ (z : y ≡ x). subst (λ w. w < name_count) z d.0) (λ (z : member_of ns x ≡ true). names-small ns x d.2 z) (member-cases y ns x e)

-- Values.
pub bound-here : (y : ℕ) (ns : List ℕ) (v : Option Value) (vs : List (Option Value)) (ρ : Values) → bound (y ∷ ns) (v ∷ vs) ρ y ≡ v
unfolding bound
bound-here y ns v vs ρ = ap (λ b. cond b v (bound ns vs ρ y)) (eq-eqb y y refl)

pub bound-later : (y : ℕ) (ns : List ℕ) (v : Option Value) (vs : List (Option Value)) (ρ : Values) (x : ℕ) → (y ≡ x → ⊥) → bound (y ∷ ns) (v ∷ vs) ρ x ≡ bound ns vs ρ x
unfolding bound
bound-later y ns v vs ρ x ne = ap (λ b. cond b v (bound ns vs ρ x)) (ne_eqb y x ne)

pub bound-others : (ns : List ℕ) (vs : List (Option Value)) (ρ : Values) (x : ℕ) → member_of ns x ≡ false → bound ns vs ρ x ≡ ρ x
unfolding bound
bound-others [] vs ρ x e = refl
bound-others (y ∷ ns) [] ρ x e = refl
bound-others (y ∷ ns) (v ∷ vs) ρ x e =
    let h = not-in-tail y ns x e in
    bound-later y ns v vs ρ x h.0 ∙ bound-others ns vs ρ x h.1

-- The link of a bound name holds its value.
pub named-holds : (ns ls : List ℕ) (vs : List (Option Value)) (env : Env) (ρ : Values) (s : Links) (x : ℕ) → length ns ≤ length ls → Hold ls vs s → member_of ns x ≡ true →
    s (named ns ls env x) ≡ tokens (bound ns vs ρ x)
named-holds [] ls vs env ρ s x le h e = absurd (member-nil x e)
named-holds (y ∷ ns) [] vs env ρ s x le h e = absurd (omega arith)
named-holds (y ∷ ns) (l ∷ ls) [] env ρ s x le h e = absurd h
named-holds (y ∷ ns) (l ∷ ls) (v ∷ vs) env ρ s x le h e = go (λ m. named-holds ns ls vs env ρ s x (omega arith) h.1 m) (ℕ_discrete y x) (member-cases y ns x e)
  where
    go : (member_of ns x ≡ true → s (named ns ls env x) ≡ tokens (bound ns vs ρ x)) → Dec (y ≡ x) → (y ≡ x) ⊎ (member_of ns x ≡ true) →
        s (named (y ∷ ns) (l ∷ ls) env x) ≡ tokens (bound (y ∷ ns) (v ∷ vs) ρ x)
    go ih (yes z) d =
        ap s (ap (named (y ∷ ns) (l ∷ ls) env) (sym z) ∙ named_here y ns l ls env) ∙ h.0
        ∙ ap tokens (sym (bound-here y ns v vs ρ) ∙ ap (bound (y ∷ ns) (v ∷ vs) ρ) z)
    go ih (no z) (inl w) = absurd (z w)
    go ih (no z) (inr w) = ap s (named-later y ns l ls env x z) ∙ ih w ∙ ap tokens (sym (bound-later y ns v vs ρ x z))

-- A name bound to present values has one.
pub bound-present : (ns : List ℕ) (us : List Value) (ρ : Values) (x : ℕ) → length us ≡ length ns → member_of ns x ≡ true → (v : Value) × (bound ns (present us) ρ x ≡ some v)
bound-present [] us ρ x e m = absurd (member-nil x m)
bound-present (y ∷ ns) [] ρ x e m = absurd (omega arith)
bound-present (y ∷ ns) (u ∷ us) ρ x e m = go (λ k. bound-present ns us ρ x (omega arith) k) (ℕ_discrete y x) (member-cases y ns x m)
  where
    go : (member_of ns x ≡ true → (v : Value) × (bound ns (present us) ρ x ≡ some v)) → Dec (y ≡ x) → (y ≡ x) ⊎ (member_of ns x ≡ true) →
        (v : Value) × (bound (y ∷ ns) (some u ∷ present us) ρ x ≡ some v)
    go ih (yes z) d = (u, ap (bound (y ∷ ns) (some u ∷ present us) ρ) (sym z) ∙ bound-here y ns (some u) (present us) ρ)
    go ih (no z) (inl w) = absurd (z w)
    go ih (no z) (inr w) = let r = ih w in (r.0, bound-later y ns (some u) (present us) ρ x z ∙ r.1)

pub bound-absent : (ns : List ℕ) (k : ℕ) (ρ : Values) (x : ℕ) → length ns ≤ k → member_of ns x ≡ true → bound ns (absent k) ρ x ≡ none
bound-absent [] k ρ x le m = absurd (member-nil x m)
bound-absent (y ∷ ns) zero ρ x le m = absurd (omega arith)
bound-absent (y ∷ ns) (suc k) ρ x le m = go (λ w. bound-absent ns k ρ x (omega arith) w) (ℕ_discrete y x) (member-cases y ns x m)
  where
    go : (member_of ns x ≡ true → bound ns (absent k) ρ x ≡ none) → Dec (y ≡ x) → (y ≡ x) ⊎ (member_of ns x ≡ true) → bound (y ∷ ns) (none ∷ absent k) ρ x ≡ none
    go ih (yes z) d = ap (bound (y ∷ ns) (none ∷ absent k) ρ) (sym z) ∙ bound-here y ns none (absent k) ρ
    go ih (no z) (inl w) = absurd (z w)
    go ih (no z) (inr w) = bound-later y ns none (absent k) ρ x z ∙ ih w
