-- Laws of specs/Rings.antt, and what only they need.
use Rattle.std.specs.Prelude.{ℕ, zero, suc, ◌+◌, ◌≤◌, ◌<◌, ◌≡◌, refl, Bool, true, false, cond, List, [], ◌∷◌, get_or}
use Rattle.std.proofs.Common.{sym, ◌∙◌, ap, inl, inr, arith}
use Rattle.names.specs.Names.{Names}
use Rattle.network.specs.Values.{err-value}
use Rattle.network.specs.Uses.{In}
use Rattle.graph.specs.Assembly.{name_count, rank, total, listed, member_of, Env, spread, nth, chain, chain_ends, chain_links, ring_gate, ring, Operator}
use Rattle.theory_reference.proofs.NameSets.{rank-total, member-head, member-tail, listed-only}
use Rattle.theory_reference.specs.Plugged.{Each}
use Rattle.theory_reference.proofs.LoopLayout.{spread-is}
use Rattle.theory_claims.specs.Claims.{Claim, Meets, truths, storable, Claims}
use Rattle.theory_claims.proofs.Claims.{err-stored, storable-same}
use Rattle.theory_claims.specs.Telling.{Told, Telling, links, Typed-operator, above, Marked, Named}
use Rattle.theory_claims.proofs.Telling.{above_at, above-marked}
use Rattle.theory_claims.proofs.Parts.{same-under, copy_typed, listed_at}
use Rattle.theory_claims.specs.Rings.{ring_told}

module _ (f ids : Names) (o : ℕ) (D : Claims) (S : Telling) (small : (x : ℕ) → f x ≡ true → x < name_count) where
  abbrev pub bodyTold : Telling
  bodyTold = above o S (λ i. ring_told ids D (get_or (listed f) i 0))

  pub told-inner : (x : ℕ) → f x ≡ true → bodyTold (spread f o x) ≡ ring_told ids D x
  told-inner x e =
      ap bodyTold (spread-is f o x)
      ∙ above_at o S (λ i. ring_told ids D (get_or (listed f) i 0)) (rank f x)
      ∙ ap (ring_told ids D) (listed_at f x (small x e) e)

  pub inner-low : (x : ℕ) → f x ≡ true → spread f o x < o + total f
  inner-low x e = let a = rank-total f x e (small x e) in let b = spread-is f o x in omega arith

  pub body-marked : Marked S → Marked bodyTold
  body-marked h = above-marked o S (λ i. ring_told ids D (get_or (listed f) i 0)) h (λ i. go (get_or (listed f) i 0))
    where
      pick-marked : (b : Bool) (c : Claim) → Meets (cond b truths (storable c)) err-value
      pick-marked true c = refl
      pick-marked false c = err-stored c

      go : (x : ℕ) → Meets (ring_told ids D x).register err-value
      go x = pick-marked (ids x) (D x)

  pub body-named : Named f (spread f o) (o + total f) bodyTold D
  body-named = record { below = inner-low; claims = λ x e. ap (λ (t : Told). t.link) (told-inner x e) }

-- ---- the chain of copies
pub chain-typed : (S : Telling) (c : Claim) (a n k : ℕ) → links S a ≡ c → ((i : ℕ) → n ≤ i → i < n + chain_links k → links S i ≡ c) → Each (Typed-operator S) (chain a n k)
unfolding chain
chain-typed S c a n zero h t = tt
chain-typed S c a n (suc zero) h t = tt
chain-typed S c a n (suc (suc k)) h t = (
  copy_typed S a n (suc n) c h (t n (omega arith) (omega arith)) (t (suc n) (omega arith) (omega arith)),
  chain-typed S c (suc n) (suc (suc n)) (suc k) (t (suc n) (omega arith) (omega arith)) (λ i p q. t i (omega arith) (omega arith)),
)

pub ends-told : (S : Telling) (c : Claim) (a n k : ℕ) → links S a ≡ c → ((i : ℕ) → n ≤ i → i < n + chain_links k → links S i ≡ c)
    → (l : ℕ) → In l (chain_ends a n k) → links S l ≡ c
unfolding chain_ends
ends-told S c a n zero h t l i = absurd i
ends-told S c a n (suc zero) h t l (inl e) = ap (links S) e ∙ h
ends-told S c a n (suc zero) h t l (inr i) = absurd i
ends-told S c a n (suc (suc k)) h t l (inl e) = ap (links S) e ∙ t n (omega arith) (omega arith)
ends-told S c a n (suc (suc k)) h t l (inr i) =
    ends-told S c (suc n) (suc (suc n)) (suc k) (t (suc n) (omega arith) (omega arith)) (λ j p q. t j (omega arith) (omega arith)) l i

-- ---- the gates of a loop
ring-each : (P : Operator → Type 0) (xs cs : List ℕ) (ids : Names) (it st ow out : Env)
    → ((x c : ℕ) → member_of xs x ≡ true → In c cs → P (ring_gate (ids x) c (it x) (st x) (ow x) (out x))) → Each P (ring xs ids cs it st ow out)
unfolding ring
ring-each P [] cs ids it st ow out h = tt
ring-each P (x ∷ xs) [] ids it st ow out h = tt
ring-each P (x ∷ xs) (c ∷ cs) ids it st ow out h =
    (h x c (member-head x xs) (inl refl), ring-each P xs cs ids it st ow out (λ y d i j. h y d (member-tail x xs y i) (inr j)))

-- A gate of a loop on a name with a claim that an err meets.
ring-gate-typed : (S : Telling) (b : Bool) (c i s o t : ℕ) (d : Claim) → links S c ≡ truths → (b ≡ true → (links S i ≡ d) × (links S s ≡ d)) → (b ≡ false → links S o ≡ d)
    → S t ≡ record { link = d; register = cond b truths (storable d) } → Meets d err-value → Typed-operator S (ring_gate b c i s o t)
unfolding ring_gate nth
ring-gate-typed S true c i s o t d p q r e m =
    let z : links S t ≡ d = ap (λ (w : Told). w.link) e in
    let y : (S t).register ≡ truths = ap (λ (w : Told). w.register) e in (
      (
        same-under (links S c) truths p,
        same-under (links S i) (links S t) ((q refl).0 ∙ sym z),
        same-under (links S s) (links S t) ((q refl).1 ∙ sym z),
        rw z m,
      ),
      rw y refl,
    )
ring-gate-typed S false c i s o t d p q r e m =
    let z : links S t ≡ d = ap (λ (w : Told). w.link) e in
    let y : (S t).register ≡ d = ap (λ (w : Told). w.register) e ∙ storable-same d m in (
      same-under (links S c) truths p,
      same-under (links S o) (links S t) (r refl ∙ sym z),
      same-under (links S o) (S t).register (r refl ∙ sym y),
      same-under (S t).register (links S t) (y ∙ sym z),
    )

-- All of them: what is told of the names' links holds of a telling that agrees with it there.
module _ (U : Telling) (f ids : Names) (D : Claims) (cs : List ℕ) (it st ow out : Env) where
  pub ring-typed : ((x : ℕ) → f x ≡ true → U (out x) ≡ ring_told ids D x) → ((x : ℕ) → f x ≡ true → Meets (D x) err-value)
      → ((l : ℕ) → In l cs → links U l ≡ truths) → ((x : ℕ) → ids x ≡ true → (links U (it x) ≡ D x) × (links U (st x) ≡ D x))
      → ((x : ℕ) → f x ≡ true → ids x ≡ false → links U (ow x) ≡ D x) → Each (Typed-operator U) (ring (listed f) ids cs it st ow out)
  ring-typed t m c i o =
      ring-each (Typed-operator U) (listed f) cs ids it st ow out
      (λ x k p q.
      let e = listed-only f x p in
      ring-gate-typed U (ids x) k (it x) (st x) (ow x) (out x) (D x) (c k q) (i x) (o x e) (t x e) (m x e)
      )
