-- Laws of specs/WrittenOut.antt, and what only they need.
use Rattle.std.specs.Prelude.{ℕ, ◌≤◌, ◌≡◌, refl, ◌⊎◌, true, List, [], ◌∷◌, length}
use Rattle.std.proofs.Common.{sym, ◌∙◌, ap, subst, inl, inr, ⊎_elim, arith}
use Rattle.std.proofs.Math.Option.{Option, none}
use Rattle.std.proofs.Math.Decide.{ℕ_discrete}
use Rattle.value.specs.declared.Value.{Value}
use Rattle.network.specs.Net.{Token, Links}
use Rattle.network.specs.Uses.{In}
use Rattle.theory_pieces.specs.Load.{Load, opt, set_link, put, On}
use Rattle.theory_pieces.proofs.Load.{set_same, set_other, put-off}
use Rattle.theory_pieces.specs.Piece.{load}
use Rattle.theory_pieces.specs.Sets.{Different}
use Rattle.theory_pieces.proofs.Rows.{dec-in}
use Rattle.graph.specs.Assembly.{Env, member_of}
use Rattle.graph.specs.Yields.{bound}
use Rattle.graph.specs.Fit.{Different as DifferentNames}
use Rattle.theory_reference.proofs.NameSets.{not-both, member-head, member-tail, member-cases, member-nil}
use Rattle.theory_reference.specs.Plan.{tokens, Hold}
use Rattle.theory_reference.proofs.Binding.{bound-here, bound-later}
use Rattle.theory_reference.specs.WrittenOut.{links-of, no-values, first_of, kept}

pub in-links : (ns : List ℕ) (env : Env) (l : ℕ) → In l (links-of ns env) → (x : ℕ) × (member_of ns x ≡ true) × (l ≡ env x)
in-links [] env l i = absurd i
in-links (y ∷ ns) env l (inl e) = (y, member-head y ns, e)
in-links (y ∷ ns) env l (inr i) = let h = in-links ns env l i in (h.0, member-tail y ns h.0 h.1, h.2)

pub links-in : (ns : List ℕ) (env : Env) (x : ℕ) → member_of ns x ≡ true → In (env x) (links-of ns env)
links-in [] env x e = absurd (member-nil x e)
links-in (y ∷ ns) env x e = ⊎_elim (λ (z : y ≡ x). inl (ap env (sym z))) (λ (z : member_of ns x ≡ true). inr (links-in ns env x z)) (member-cases y ns x e)

pub links-differ : (ns : List ℕ) (env : Env) → DifferentNames ns → ((x y : ℕ) → member_of ns x ≡ true → member_of ns y ≡ true → env x ≡ env y → x ≡ y) → Different (links-of ns env)
links-differ [] env d inj = tt
links-differ (y ∷ ns) env d inj = (
  λ i. let h = in-links ns env (env y) i in
      not-both (member_of ns y) (subst (λ z. member_of ns z ≡ true) (sym (inj y h.0 (member-head y ns) (member-tail y ns h.0 h.1) h.2)) h.1) d.1,
  links-differ ns env d.2 (λ x z a b e. inj x z (member-tail y ns x a) (member-tail y ns z b) e),
)

-- Values laid on the links of names are the values bound to them.
pub load-laid : (ns : List ℕ) (env : Env) (vs : List (Option Value)) (q : Links) (x : ℕ) → member_of ns x ≡ true → ((y : ℕ) → member_of ns y ≡ true → env x ≡ env y → y ≡ x) →
    put (load (links-of ns env) vs) q (env x) ≡ tokens (bound ns vs no-values x)
unfolding bound
load-laid [] env vs q x e inj = absurd (member-nil x e)
load-laid (y ∷ ns) env [] q x e inj = go (λ m. load-laid ns env [] q x m (λ z k. inj z (member-tail y ns z k))) (ℕ_discrete (env x) (env y)) (member-cases y ns x e)
  where
    no_value : (ns : List ℕ) → bound ns [] no-values x ≡ none
    no_value [] = refl
    no_value (z ∷ ns) = refl

    go : (member_of ns x ≡ true → put (load (links-of ns env) []) q (env x) ≡ tokens (bound ns [] no-values x)) → Dec (env x ≡ env y) → (y ≡ x) ⊎ (member_of ns x ≡ true) →
        set_link (env y) [] (put (load (links-of ns env) []) q) (env x) ≡ []
    go ih (yes z) d = ap (set_link (env y) [] (put (load (links-of ns env) []) q)) z ∙ set_same (env y) [] (put (load (links-of ns env) []) q)
    go ih (no z) (inl w) = absurd (z (ap env (sym w)))
    go ih (no z) (inr w) = set_other (env y) (env x) [] (put (load (links-of ns env) []) q) z ∙ ih w ∙ ap tokens (no_value ns)
load-laid (y ∷ ns) env (v ∷ vs) q x e inj = go (λ m. load-laid ns env vs q x m (λ z k. inj z (member-tail y ns z k))) (ℕ_discrete y x) (member-cases y ns x e)
  where
    rest : Links
    rest = put (load (links-of ns env) vs) q

    go : (member_of ns x ≡ true → put (load (links-of ns env) vs) q (env x) ≡ tokens (bound ns vs no-values x)) → Dec (y ≡ x) → (y ≡ x) ⊎ (member_of ns x ≡ true) →
        set_link (env y) (tokens v) rest (env x) ≡ tokens (bound (y ∷ ns) (v ∷ vs) no-values x)
    go ih (yes z) d =
        ap (set_link (env y) (tokens v) rest) (ap env (sym z)) ∙ set_same (env y) (tokens v) rest
        ∙ ap tokens (sym (bound-here y ns v vs no-values) ∙ ap (bound (y ∷ ns) (v ∷ vs) no-values) z)
    go ih (no z) (inl w) = absurd (z w)
    go ih (no z) (inr w) =
        set_other (env y) (env x) (tokens v) rest (λ k. z (inj y (member-head y ns) k)) ∙ ih w ∙ ap tokens (sym (bound-later y ns v vs no-values x z))

-- A state is the values on a list of links, laid on any state that agrees with it elsewhere.
pub load-holds : (ls : List ℕ) (vs : List (Option Value)) (s b : Links) → Hold ls vs s → (j : ℕ) → ((In j ls → ⊥) → b j ≡ s j) → put (load ls vs) b j ≡ s j
load-holds [] [] s b h j e = e (λ i. i)
load-holds [] (v ∷ vs) s b h j e = absurd h
load-holds (l ∷ ls) [] s b h j e = absurd h
load-holds (l ∷ ls) (v ∷ vs) s b h j e = go (λ k. load-holds ls vs s b h.1 j k) (ℕ_discrete j l)
  where
    go : (((In j ls → ⊥) → b j ≡ s j) → put (load ls vs) b j ≡ s j) → Dec (j ≡ l) → set_link l (tokens v) (put (load ls vs) b) j ≡ s j
    go ih (yes z) = ap (set_link l (tokens v) (put (load ls vs) b)) z ∙ set_same l (tokens v) (put (load ls vs) b) ∙ sym h.0 ∙ ap s (sym z)
    go ih (no z) = set_other l j (tokens v) (put (load ls vs) b) z ∙ ih (λ n. e (λ i. ⊎_elim z n i))

first-only : (ts : List Token) → length ts ≤ 1 → opt (first_of ts) ≡ ts
first-only [] le = refl
first-only (t ∷ []) le = refl
first-only (t ∷ u ∷ ts) le = absurd (omega arith)

unfoldable pub written : List ℕ → List ℕ → Links → Load
written os [] s = []
written os (l ∷ ls) s = kept (dec-in l os) l s (written os ls s)

pub written_on : (os ls : List ℕ) (s : Links) (j : ℕ) → On j (written os ls s) → In j ls × (In j os → ⊥)
unfolding written
written_on os [] s j o = absurd o
written_on os (l ∷ ls) s j o = go (dec-in l os) (λ k. written_on os ls s j k) o
  where
    go : (d : Dec (In l os)) → (On j (written os ls s) → In j ls × (In j os → ⊥)) → On j (kept d l s (written os ls s)) → In j (l ∷ ls) × (In j os → ⊥)
    go (yes p) ih k = let h = ih k in (inr h.0, h.1)
    go (no p) ih (inl e) = (inl e, λ i. p (subst (λ z. In z os) e i))
    go (no p) ih (inr k) = let h = ih k in (inr h.0, h.1)

pub written-here : (os ls : List ℕ) (s b : Links) (j : ℕ) → length (s j) ≤ 1 → In j ls → (In j os → ⊥) → put (written os ls s) b j ≡ s j
unfolding written
written-here os [] s b j le i n = absurd i
written-here os (l ∷ ls) s b j le i n = go (dec-in l os) (ℕ_discrete j l) (λ k. written-here os ls s b j le k n) i
  where
    go : (d : Dec (In l os)) → Dec (j ≡ l) → (In j ls → put (written os ls s) b j ≡ s j) → (j ≡ l) ⊎ In j ls → put (kept d l s (written os ls s)) b j ≡ s j
    go (yes p) (yes e) ih k = absurd (n (subst (λ z. In z os) (sym e) p))
    go (yes p) (no e) ih (inl k) = absurd (e k)
    go (yes p) (no e) ih (inr k) = ih k
    go (no p) (yes e) ih k =
        ap (set_link l (opt (first_of (s l))) (put (written os ls s) b)) e ∙ set_same l (opt (first_of (s l))) (put (written os ls s) b) ∙ ap (λ z. opt (first_of (s z))) (sym e) ∙ first-only (s j) le
    go (no p) (no e) ih (inl k) = absurd (e k)
    go (no p) (no e) ih (inr k) = set_other l j (opt (first_of (s l))) (put (written os ls s) b) e ∙ ih k

pub written-there : (os ls : List ℕ) (s b : Links) (j : ℕ) → (In j ls → In j os) → put (written os ls s) b j ≡ b j
written-there os ls s b j n = put-off j (written os ls s) b (λ o. let h = written_on os ls s j o in h.1 (n h.0))
