-- A two-way copy at work, and the chain of copies that hands one value to k users (document 01: "used k times, k above 1, passes k-1
-- two-way copies"). Assumes that the copy's links are different.
use Prim.Native.Nat.{ℕ, zero, suc, ◌+◌, ◌*◌, ◌-◌, ◌≤◌, ◌<◌}
use Rattle.std.specs.Prelude.{◌≡◌, refl, ◌≢◌, ◌⊎◌, length, get_or}
use Rattle.std.proofs.Common.{sym, ◌∙◌, subst, inl, inr, arith}
use Rattle.std.proofs.Math.Path.{ap}
use mathlib.Core.List.{[], ◌∷◌}
use Rattle.std.proofs.Math.Option.{some}
use Rattle.std.proofs.Math.Decide.{ℕ_discrete}
use Rattle.value.specs.declared.Value.{Value}
use Rattle.network.specs.Values.{err-value}
use Rattle.network.specs.Poisoned.{poisoned}
use Rattle.network.specs.Net.{val, Links}
use Rattle.network.specs.Uses.{In}
use Rattle.theory_pieces.specs.Goes.{Net}
use Rattle.theory_pieces.proofs.Goes.{Steps, stay, steps_then}
use Rattle.theory_pieces.proofs.Gate.{distinct-two}
use Rattle.graph.specs.Assembly.{copy_of, chain, chain_ends, chain_links, nth}
use Rattle.theory_reference.specs.Plugged.{demand_of}
use Rattle.theory_reference.proofs.Plugged.{Somewhere, Has}
use Rattle.theory_reference.proofs.Firings.{Fired, fires-at}
use Rattle.theory_reference.specs.Plan.{Between}
use Rattle.theory_reference.proofs.Plan.{fewer}
use Rattle.theory_reference.proofs.NameRows.{Works}

module _ (net : Net) where
  pub copy-fires : (l a b : ℕ) (v : Value) (s : Links) → Somewhere net (copy_of l a b) → l ≢ a → l ≢ b → a ≢ b → s l ≡ val v ∷ [] → s a ≡ [] → s b ≡ [] →
      Works net (λ j. (j ≡ l) ⊎ ((j ≡ a) ⊎ (j ≡ b))) 1 (λ s'. (s' l ≡ []) × (s' a ≡ val v ∷ []) × (s' b ≡ val v ∷ [])) s
  unfolding nth
  copy-fires l a b v s at la lb ab sl sa sb =
      (h.after, h.steps, (h.takes l (inl refl) not-out, h.emits a (val v) (inl (refl, refl)), h.emits b (val v) (inr (inl (refl, refl)))), λ j n. h.keeps j (λ o. no-in j n o) (λ o. no-out j n o))
    where
      free : (j : ℕ) → (j ≡ a) ⊎ ((j ≡ b) ⊎ ⊥) → s j ≡ []
      free j (inl e) = ap s e ∙ sa
      free j (inr (inl e)) = ap s e ∙ sb
      free j (inr (inr e)) = absurd e

      not-out : (l ≡ a) ⊎ ((l ≡ b) ⊎ ⊥) → ⊥
      not-out (inl e) = la e
      not-out (inr (inl e)) = lb e
      not-out (inr (inr e)) = e

      no-in : (j : ℕ) → ((j ≡ l) ⊎ ((j ≡ a) ⊎ (j ≡ b)) → ⊥) → (j ≡ l) ⊎ ⊥ → ⊥
      no-in j n (inl e) = n (inl e)
      no-in j n (inr e) = e

      no-out : (j : ℕ) → ((j ≡ l) ⊎ ((j ≡ a) ⊎ (j ≡ b)) → ⊥) → (j ≡ a) ⊎ ((j ≡ b) ⊎ ⊥) → ⊥
      no-out j n (inl e) = n (inr (inl e))
      no-out j n (inr (inl e)) = n (inr (inr e))
      no-out j n (inr (inr e)) = e

      h : Fired net s ((l, some (val v)) ∷ []) ((a, val v) ∷ (b, val v) ∷ [])
      h =
          fires-at net (demand_of (copy_of l a b)) ((l, some (val v)) ∷ []) ((a, val v) ∷ (b, val v) ∷ []) s at (0, val v, (refl, refl), ((refl, tt), refl)) (λ z. z, tt)
          (distinct-two (a, some (val v)) (b, some (val v)) ab) (sl, tt) (λ j o n. free j o)

  -- The twin of a copy makes err of its value.
  pub twin-fires : (l a b : ℕ) (v : Value) (s : Links) → (p : ℕ) × (net.at p ≡ poisoned (demand_of (copy_of l a b))) × net.Fine (p ∷ []) → l ≢ a → l ≢ b → a ≢ b → s l ≡ val v ∷ [] → s a ≡ [] → s b ≡ [] →
      Works net (λ j. (j ≡ l) ⊎ ((j ≡ a) ⊎ (j ≡ b))) 1 (λ s'. (s' l ≡ []) × (s' a ≡ val err-value ∷ []) × (s' b ≡ val err-value ∷ [])) s
  unfolding nth
  twin-fires l a b v s at la lb ab sl sa sb =
      (h.after, h.steps, (h.takes l (inl refl) not-out, h.emits a (val err-value) (inl (refl, refl)), h.emits b (val err-value) (inr (inl (refl, refl)))), λ j n. h.keeps j (λ o. no-in j n o) (λ o. no-out j n o))
    where
      free : (j : ℕ) → (j ≡ a) ⊎ ((j ≡ b) ⊎ ⊥) → s j ≡ []
      free j (inl e) = ap s e ∙ sa
      free j (inr (inl e)) = ap s e ∙ sb
      free j (inr (inr e)) = absurd e

      not-out : (l ≡ a) ⊎ ((l ≡ b) ⊎ ⊥) → ⊥
      not-out (inl e) = la e
      not-out (inr (inl e)) = lb e
      not-out (inr (inr e)) = e

      no-in : (j : ℕ) → ((j ≡ l) ⊎ ((j ≡ a) ⊎ (j ≡ b)) → ⊥) → (j ≡ l) ⊎ ⊥ → ⊥
      no-in j n (inl e) = n (inl e)
      no-in j n (inr e) = e

      no-out : (j : ℕ) → ((j ≡ l) ⊎ ((j ≡ a) ⊎ (j ≡ b)) → ⊥) → (j ≡ a) ⊎ ((j ≡ b) ⊎ ⊥) → ⊥
      no-out j n (inl e) = n (inr (inl e))
      no-out j n (inr (inl e)) = n (inr (inr e))
      no-out j n (inr (inr e)) = e

      h : Fired net s ((l, some (val v)) ∷ []) ((a, val err-value) ∷ (b, val err-value) ∷ [])
      h =
          fires-at net (poisoned (demand_of (copy_of l a b))) ((l, some (val v)) ∷ []) ((a, val err-value) ∷ (b, val err-value) ∷ []) s at (0, val v, (refl, refl), ((refl, tt), refl)) (λ z. z, tt)
          (distinct-two (a, some (val err-value)) (b, some (val err-value)) ab) (sl, tt) (λ j o n. free j o)

  -- The chain: every end holds the value, everything else of it is empty.
  abbrev Span : ℕ → ℕ → ℕ → ℕ → Type 0
  Span l n k j = (j ≡ l) ⊎ Between n (2 * k) j

  pub chain-works : (k l n : ℕ) (v : Value) (s : Links) → l < n → Has net (chain l n (suc k)) → s l ≡ val v ∷ [] → ((j : ℕ) → Between n (2 * k) j → s j ≡ []) →
      Works net (Span l n k) 0 (λ s'. ((j : ℕ) → In j (chain_ends l n (suc k)) → s' j ≡ val v ∷ []) × ((j : ℕ) → Span l n k j → (In j (chain_ends l n (suc k)) → ⊥) → s' j ≡ [])) s
  unfolding chain chain_ends
  chain-works zero l n v s lt h sl e = (s, stay net s, (ends, others), λ j m. refl)
    where
      ends : (j : ℕ) → (j ≡ l) ⊎ ⊥ → s j ≡ val v ∷ []
      ends j (inl z) = ap s z ∙ sl
      ends j (inr z) = absurd z

      others : (j : ℕ) → Span l n 0 j → ((j ≡ l) ⊎ ⊥ → ⊥) → s j ≡ []
      others j (inl z) m = absurd (m (inl z))
      others j (inr z) m = absurd (omega arith)
  chain-works (suc k) l n v s lt h sl e =
      let c = copy-fires l n (suc n) v s h.0 (omega arith) (omega arith) (omega arith) sl (e n (omega arith, omega arith)) (e (suc n) (omega arith, omega arith)) in
      let w = chain-works k (suc n) (suc (suc n)) v c.0 (omega arith) h.1 c.2.2 (λ j b. c.3 j (λ z. off j b z) ∙ e j (omega arith, omega arith)) in
      done c.0 c.1 c.2 c.3 w
    where
      off : (j : ℕ) → Between (suc (suc n)) (2 * k) j → (j ≡ l) ⊎ ((j ≡ n) ⊎ (j ≡ suc n)) → ⊥
      off j b (inl z) = omega arith
      off j b (inr (inl z)) = omega arith
      off j b (inr (inr z)) = omega arith

      Ends : ℕ → Type 0
      Ends j = In j (chain_ends (suc n) (suc (suc n)) (suc k))

      done : (s₁ : Links) → Steps net s 1 s₁ → (s₁ l ≡ []) × (s₁ n ≡ val v ∷ []) × (s₁ (suc n) ≡ val v ∷ []) → ((j : ℕ) → ((j ≡ l) ⊎ ((j ≡ n) ⊎ (j ≡ suc n)) → ⊥) → s₁ j ≡ s j) →
          Works net (Span (suc n) (suc (suc n)) k) 0 (λ s'. ((j : ℕ) → Ends j → s' j ≡ val v ∷ []) × ((j : ℕ) → Span (suc n) (suc (suc n)) k j → (Ends j → ⊥) → s' j ≡ [])) s₁ →
          Works net (Span l n (suc k)) 0 (λ s'. ((j : ℕ) → (j ≡ n) ⊎ Ends j → s' j ≡ val v ∷ []) × ((j : ℕ) → Span l n (suc k) j → ((j ≡ n) ⊎ Ends j → ⊥) → s' j ≡ [])) s
      done s₁ t p fr (s₂, t₂, (en, ot), fr₂) =
          (s₂, fewer net s s₂ (1 + 0) 0 (omega arith) (steps_then net s s₁ s₂ 1 0 t t₂), (ends, others), λ j m. fr₂ j (λ z. up j m z) ∙ fr j (λ z. here j m z))
        where
          at_n : s₂ n ≡ val v ∷ []
          at_n = fr₂ n (λ z. go z) ∙ p.1
            where
              go : Span (suc n) (suc (suc n)) k n → ⊥
              go (inl z) = omega arith
              go (inr z) = omega arith

          at-l : s₂ l ≡ []
          at-l = fr₂ l (λ z. go z) ∙ p.0
            where
              go : Span (suc n) (suc (suc n)) k l → ⊥
              go (inl z) = omega arith
              go (inr z) = omega arith

          ends : (j : ℕ) → (j ≡ n) ⊎ Ends j → s₂ j ≡ val v ∷ []
          ends j (inl z) = ap s₂ z ∙ at_n
          ends j (inr z) = en j z

          others : (j : ℕ) → Span l n (suc k) j → ((j ≡ n) ⊎ Ends j → ⊥) → s₂ j ≡ []
          others j (inl z) m = ap s₂ z ∙ at-l
          others j (inr z) m = go (ℕ_discrete j n) (ℕ_discrete j (suc n))
            where
              go : Dec (j ≡ n) → Dec (j ≡ suc n) → s₂ j ≡ []
              go (yes y) d = absurd (m (inl y))
              go (no y) (yes x) = ot j (inl x) (λ i. m (inr i))
              go (no y) (no x) = ot j (inr (omega arith, omega arith)) (λ i. m (inr i))

          up : (j : ℕ) → (Span l n (suc k) j → ⊥) → Span (suc n) (suc (suc n)) k j → ⊥
          up j m (inl z) = m (inr (omega arith, omega arith))
          up j m (inr z) = m (inr (omega arith, omega arith))

          here : (j : ℕ) → (Span l n (suc k) j → ⊥) → (j ≡ l) ⊎ ((j ≡ n) ⊎ (j ≡ suc n)) → ⊥
          here j m (inl z) = m (inl z)
          here j m (inr (inl z)) = m (inr (omega arith, omega arith))
          here j m (inr (inr z)) = m (inr (omega arith, omega arith))

  -- The same by the number of users.
  pub fans-out : (k l n : ℕ) (v : Value) (s : Links) → 1 ≤ k → l < n → Has net (chain l n k) → s l ≡ val v ∷ [] → ((j : ℕ) → Between n (chain_links k) j → s j ≡ []) →
      (s' : Links) × Steps net s 0 s' × ((j : ℕ) → In j (chain_ends l n k) → s' j ≡ val v ∷ [])
      × ((j : ℕ) → (j ≡ l) ⊎ Between n (chain_links k) j → (In j (chain_ends l n k) → ⊥) → s' j ≡ [])
      × ((j : ℕ) → j ≢ l → (Between n (chain_links k) j → ⊥) → s' j ≡ s j)
  fans-out zero l n v s le lt h sl e = absurd (omega arith)
  fans-out (suc k) l n v s le lt h sl e =
      let w = chain-works k l n v s lt h sl (λ j b. e j (omega arith, omega arith)) in
      (w.0, w.1, w.2.0, λ j i m. w.2.1 j (to j i) m, λ j p q. w.3 j (λ z. no_span j p q z))
    where
      to : (j : ℕ) → (j ≡ l) ⊎ Between n (chain_links (suc k)) j → Span l n k j
      to j (inl z) = inl z
      to j (inr z) = inr (omega arith, omega arith)

      no_span : (j : ℕ) → j ≢ l → (Between n (chain_links (suc k)) j → ⊥) → Span l n k j → ⊥
      no_span j p q (inl z) = p z
      no_span j p q (inr z) = q (omega arith, omega arith)

-- The ends of a chain of two or more users are links of the chain, different from each other, as many as users.
pub ends-length : (k l n : ℕ) → length (chain_ends l n k) ≡ k
unfolding chain_ends
ends-length zero l n = refl
ends-length (suc zero) l n = refl
ends-length (suc (suc k)) l n = ap suc (ends-length (suc k) (suc n) (suc (suc n)))

pub end-in : (k l n i : ℕ) → i < k → In (get_or (chain_ends l n k) i 0) (chain_ends l n k)
unfolding chain_ends
end-in zero l n i lt = absurd (omega arith)
end-in (suc zero) l n zero lt = inl refl
end-in (suc zero) l n (suc i) lt = absurd (omega arith)
end-in (suc (suc k)) l n zero lt = inl refl
end-in (suc (suc k)) l n (suc i) lt = inr (end-in (suc k) (suc n) (suc (suc n)) i (omega arith))

pub end-at : (k l n j : ℕ) → In j (chain_ends l n k) → (i : ℕ) × (i < k) × (j ≡ get_or (chain_ends l n k) i 0)
unfolding chain_ends
end-at zero l n j o = absurd o
end-at (suc zero) l n j (inl e) = (0, omega arith, e)
end-at (suc zero) l n j (inr e) = absurd e
end-at (suc (suc k)) l n j (inl e) = (0, omega arith, e)
end-at (suc (suc k)) l n j (inr o) = let h = end-at (suc k) (suc n) (suc (suc n)) j o in (suc h.0, omega (arith, h.1), h.2)

end-where : (k l n j : ℕ) → In j (chain_ends l n (suc k)) → (j ≡ l) ⊎ Between n (2 * k) j
unfolding chain_ends
end-where zero l n j (inl e) = inl e
end-where zero l n j (inr e) = absurd e
end-where (suc k) l n j (inl e) = inr (omega arith, omega arith)
end-where (suc k) l n j (inr o) = go (end-where k (suc n) (suc (suc n)) j o)
  where
    go : (j ≡ suc n) ⊎ Between (suc (suc n)) (2 * k) j → (j ≡ l) ⊎ Between n (2 * suc k) j
    go (inl e) = inr (omega arith, omega arith)
    go (inr b) = inr (omega arith, omega arith)

pub end-own : (k l n j : ℕ) → 2 ≤ k → In j (chain_ends l n k) → Between n (chain_links k) j
unfolding chain_ends
end-own zero l n j le o = absurd o
end-own (suc zero) l n j le o = absurd (omega arith)
end-own (suc (suc k)) l n j le (inl e) = (omega arith, omega arith)
end-own (suc (suc k)) l n j le (inr o) = go (end-where k (suc n) (suc (suc n)) j o)
  where
    go : (j ≡ suc n) ⊎ Between (suc (suc n)) (2 * k) j → Between n (2 * (suc (suc k) - 1)) j
    go (inl e) = (omega arith, omega arith)
    go (inr b) = (omega arith, omega arith)

-- the first end is none of the later ones
first-end : (k n j : ℕ) → j < suc k → n ≡ get_or (chain_ends (suc n) (suc (suc n)) (suc k)) j 0 → ⊥
first-end k n j lt e = go (end-where k (suc n) (suc (suc n)) n (subst (λ z. In z (chain_ends (suc n) (suc (suc n)) (suc k))) (sym e) (end-in (suc k) (suc n) (suc (suc n)) j lt)))
  where
    go : (n ≡ suc n) ⊎ Between (suc (suc n)) (2 * k) n → ⊥
    go (inl z) = omega arith
    go (inr z) = omega arith

pub ends-differ : (k l n i j : ℕ) → l < n → i < k → j < k → get_or (chain_ends l n k) i 0 ≡ get_or (chain_ends l n k) j 0 → i ≡ j
unfolding chain_ends
ends-differ zero l n i j ln li lj e = absurd (omega arith)
ends-differ (suc zero) l n i j ln li lj e = omega arith
ends-differ (suc (suc k)) l n zero zero ln li lj e = refl
ends-differ (suc (suc k)) l n zero (suc j) ln li lj e = absurd (first-end k n j (omega arith) e)
ends-differ (suc (suc k)) l n (suc i) zero ln li lj e = absurd (first-end k n i (omega arith) (sym e))
ends-differ (suc (suc k)) l n (suc i) (suc j) ln li lj e = ap suc (ends-differ (suc k) (suc n) (suc (suc n)) i j (omega arith) (omega arith) (omega arith) e)
