-- Laws of specs/PortedGraphs.antt, and what only they need.
use Rattle.std.specs.Prelude.{ℕ, zero, suc, ◌+◌, ◌*◌, ◌-◌, ◌≤◌, ◌<◌, ◌≡◌, refl, ◌⊎◌, Bool, true, false, List, [], ◌∷◌, ◌++◌, length, drop, get_or}
use Rattle.std.proofs.Common.{sym, ◌∙◌, subst, inl, inr, length-drop}
use native.Mathlib.Omega.{arith}
use Rattle.names.specs.Names.{Names, common, union, without}
use Rattle.network.specs.Uses.{In}
use Rattle.graph.specs.Assembly.{Graph, wire, nothing, beside, bind, gate, loop, free, member_of, gate_outputs, chain_links, Env, Operator, copy_of, gate_of, copies_for, sharing, shared_links, first_use, second_use, named, spread, chain, chain_ends, ring_gate, ring, rank, total, listed, links_of, outputs, operators_of}
use Rattle.graph.specs.Yields.{output_count}
use Rattle.graph.specs.Fit.{Fit}
use Rattle.theory_reference.specs.Plugged.{nowhere, Each}
use Rattle.theory_reference.proofs.NameSets.{or_left, and_left, without_in, member-head, member-tail, listed-only}
use Rattle.theory_reference.specs.Plan.{Between, Envs}
use Rattle.theory_reference.proofs.Sharing.{first-shared, second-shared, envs-first, envs-second}
use Rattle.theory_reference.proofs.Binding.{named_in}
use Rattle.theory_reference.proofs.OneAfterAnother.{user-envs}
use Rattle.theory_reference.proofs.LoopLayout.{spread-envs}
use Rattle.theory_reference.specs.GraphLayout.{Layout, RingOf}
use Rattle.theory_reference.proofs.GraphLayout.{layout, free-small, never-bare, envs-up, up_to, first_fits, second_fits, fore-fits, body-fits}
use Rattle.theory_wiring.proofs.Conservation.{length-outputs}
use Rattle.theory_wiring.proofs.Wiring.{Zone, outputs-zone}
use Rattle.theory_wiring.specs.Ports.{Ported}
use Rattle.theory_wiring.proofs.Ports.{each_append, copy-ported, gate-ported, FM-ported, FS-ported}
use Rattle.theory_wiring.specs.PortedGraphs.{Away}

-- ---- rows of operators on names
copies-each : (xs : List ℕ) (env e₁ e₂ : Env) → ((x : ℕ) → member_of xs x ≡ true → Ported (copy_of (env x) (e₁ x) (e₂ x))) → Each Ported (copies_for xs env e₁ e₂)
unfolding copies_for
copies-each [] env e₁ e₂ h = tt
copies-each (x ∷ xs) env e₁ e₂ h = (h x (member-head x xs), copies-each xs env e₁ e₂ (λ y i. h y (member-tail x xs y i)))

below-copies : (a b n r : ℕ) → a < n → b ≡ n + 2 * r → a ≡ b → ⊥
below-copies a b n r p q e = omega arith

below-copies-second : (a b n r : ℕ) → a < n → b ≡ n + 2 * r + 1 → a ≡ b → ⊥
below-copies-second a b n r p q e = omega arith

sharing-ported : (f g : Names) (n : ℕ) (env : Env) → Envs (union f g) env n → Each Ported (sharing f g n env)
unfolding sharing
sharing-ported f g n env E =
    copies-each (listed (common f g)) env (first_use f g n env) (second_use f g n env)
    (λ x i.
    let w = listed-only (common f g) x i in
    let u = E.below x (or_left (f x) (g x) (and_left (f x) (g x) w)) in
    copy-ported (env x) (first_use f g n env x) (second_use f g n env x)
    (below-copies (env x) (first_use f g n env x) n (rank (common f g) x) u (first-shared f g n env x w))
    (below-copies-second (env x) (second_use f g n env x) n (rank (common f g) x) u (second-shared f g n env x w))
    )

chain-ported : (a n k : ℕ) → a < n → Each Ported (chain a n k)
unfolding chain
chain-ported a n zero h = tt
chain-ported a n (suc zero) h = tt
chain-ported a n (suc (suc k)) h = (copy-ported a n (suc n) (λ e. omega arith) (λ e. omega arith), chain-ported (suc n) (suc (suc n)) (suc k) (omega arith))

chain-ends : (a n k c : ℕ) → In c (chain_ends a n k) → (c ≡ a) ⊎ (n ≤ c)
unfolding chain_ends
chain-ends a n zero c i = absurd i
chain-ends a n (suc zero) c (inl e) = inl e
chain-ends a n (suc zero) c (inr i) = absurd i
chain-ends a n (suc (suc k)) c (inl e) = inr (omega arith)
chain-ends a n (suc (suc k)) c (inr i) = inr (go (chain-ends (suc n) (suc (suc n)) (suc k) c i))
  where
    go : (c ≡ suc n) ⊎ (suc (suc n) ≤ c) → n ≤ c
    go (inl e) = omega arith
    go (inr e) = omega arith

ring-each : (xs cs : List ℕ) (ids : Names) (it st ow out : Env)
    → ((x c : ℕ) → member_of xs x ≡ true → In c cs → Ported (ring_gate (ids x) c (it x) (st x) (ow x) (out x))) → Each Ported (ring xs ids cs it st ow out)
unfolding ring
ring-each [] cs ids it st ow out h = tt
ring-each (x ∷ xs) [] ids it st ow out h = tt
ring-each (x ∷ xs) (c ∷ cs) ids it st ow out h =
    (h x c (member-head x xs) (inl refl), ring-each xs cs ids it st ow out (λ y d i j. h y d (member-tail x xs y i) (inr j)))

away : (n k l m : ℕ) → Away n k l → Between n k m → l ≡ m → ⊥
away n k l m (inl p) b e = omega arith
away n k l m (inr p) b e = omega arith

ring-gate-ported : (n k : ℕ) (b : Bool) (c i s o t : ℕ) → Between n k t → Away n k c → (b ≡ true → Away n k i × Away n k s) → (b ≡ false → Away n k o)
    → Ported (ring_gate b c i s o t)
ring-gate-ported n k true c i s o t w p q r =
    FM-ported c i s o t (away n k c t p w) (away n k i t (q refl).0 w) (away n k s t (q refl).1 w)
ring-gate-ported n k false c i s o t w p q r = FS-ported c i s o t (away n k c t p w) (away n k o t (r refl) w)

-- ---- the operators of a graph
in_head : (ls : List ℕ) → 1 ≤ length ls → In (get_or ls 0 0) ls
in_head [] h = absurd (omega arith)
in_head (x ∷ ls) h = inl refl

pub zone-low : (g : Graph) (n : ℕ) (env : Env) → Fit g → Envs (free g) env n → (l : ℕ) → In l (outputs g n env) → l < n + links_of g
zone-low g n env F E l i = go (outputs-zone g n env F E l i)
  where
    go : Zone g n env l → l < n + links_of g
    go (inl o) = o.1
    go (inr (x, e, z)) = low (env x) l n (links_of g) z (E.below x e)
      where
        low : (a l n k : ℕ) → l ≡ a → a < n → l < n + k
        low a l n k p q = omega arith

in-drop : (l k : ℕ) (ls : List ℕ) → In l (drop k ls) → In l ls
in-drop l zero ls i = i
in-drop l (suc k) [] i = i
in-drop l (suc k) (x ∷ ls) i = inr (in-drop l k ls i)

module _ (ns : List ℕ) (a b : Graph) (n : ℕ) (env : Env) (F : Fit (loop ns a b)) (E : Envs (union (free a) (without (free b) (member_of ns))) env n)
    (fits : n + (shared_links (free a) (without (free b) (member_of ns)) + (links_of a + (total (free b) + (links_of b + chain_links (total (free b)))))) ≤ nowhere) where
  abbrev g : Names
  g = without (free b) (member_of ns)

  abbrev m : ℕ
  m = n + shared_links (free a) g

  abbrev e₁ : Env
  e₁ = first_use (free a) g n env

  abbrev e₂ : Env
  e₂ = second_use (free a) g n env

  abbrev o : ℕ
  o = m + links_of a

  abbrev s : ℕ
  s = total (free b)

  abbrev inner : Env
  inner = spread (free b) o

  abbrev outs : List ℕ
  outs = outputs b (o + s) inner

  abbrev it : ℕ
  it = get_or outs 0 0

  abbrev c : ℕ
  c = o + s + links_of b

  abbrev iterated : Env
  iterated = named ns (drop 1 outs) env

  abbrev started : Env
  started = named ns (outputs a m e₁) env

  body-envs : Envs (free b) inner (o + s)
  body-envs = spread-envs (free b) o (free-small b F.1)

  body-room : o + s + links_of b ≤ nowhere
  body-room = body-fits n (shared_links (free a) g) (links_of a) s (links_of b) (chain_links s) fits

  body_own : (l : ℕ) → In l outs → Between (o + s) (links_of b) l
  body_own = never-bare b (o + s) inner (layout b F.1 (o + s) inner body-envs body-room).straight F.7

  many : suc (length ns) ≤ length outs
  many = subst (λ k. suc (length ns) ≤ k) (sym (length-outputs b (o + s) inner F.1)) F.5

  it-own : Between (o + s) (links_of b) it
  it-own = body_own it (in_head outs (above (length ns) (length outs) many))
    where
      above : (k m : ℕ) → suc k ≤ m → 1 ≤ m
      above k m h = omega arith

  behind-away : (n k r l : ℕ) → Between (n + k) r l → Away n k l
  behind-away n k r l w = inr w.0

  control-away : (l : ℕ) → In l (chain_ends it c s) → Away o s l
  control-away l i = go (chain-ends it c s l i)
    where
      beyond : (n k r l : ℕ) → n + k + r ≤ l → Away n k l
      beyond n k r l h = inr (omega arith)

      go : (l ≡ it) ⊎ (c ≤ l) → Away o s l
      go (inl e) = subst (Away o s) (sym e) (behind-away o s (links_of b) it it-own)
      go (inr h) = beyond o s (links_of b) l h

  iterated-away : (x : ℕ) → member_of ns x ≡ true → Away o s (iterated x)
  iterated-away x e =
      behind-away o s (links_of b) (iterated x)
      (body_own (iterated x) (in-drop (iterated x) 1 outs (named_in ns (drop 1 outs) env x (fewer (length ns) (length outs) (length (drop 1 outs)) many (length-drop 1 outs)) e)))
    where
      fewer : (k m d : ℕ) → suc k ≤ m → d ≡ m - 1 → k ≤ d
      fewer k m d p q = omega arith

  started-away : (x : ℕ) → member_of ns x ≡ true → Away o s (started x)
  started-away x e =
      inl (zone-low a m e₁ F.0 (envs-first (free a) g n env E) (started x)
      (named_in ns (outputs a m e₁) env x (enough (length ns) (length (outputs a m e₁)) (output_count a) (length-outputs a m e₁ F.0) F.2) e))
    where
      enough : (k m c : ℕ) → m ≡ c → c ≡ k → k ≤ m
      enough k m c p q = omega arith

  own-away : (x : ℕ) → free b x ≡ true → member_of ns x ≡ false → Away o s (e₂ x)
  own-away x e k = inl (low (e₂ x) m (links_of a) ((envs-second (free a) g n env E).below x (without_in (free b) (member_of ns) x e k)))
    where
      low : (l m k : ℕ) → l < m → l < m + k
      low l m k h = omega arith

  inner-own : (x : ℕ) → free b x ≡ true → Between o s (inner x)
  unfolding spread
  inner-own x e = (from o (rank (free b) x), body-envs.below x e)
    where
      from : (o r : ℕ) → o ≤ o + r
      from o r = omega arith

  abbrev pub loopStart : List Operator
  loopStart = operators_of a m e₁

  abbrev pub loopBody : List Operator
  loopBody = operators_of b (o + s) inner

  abbrev pub loopChain : List Operator
  loopChain = chain it c s

  abbrev pub loopRing : List Operator
  loopRing = ring (listed (free b)) (member_of ns) (chain_ends it c s) iterated started e₂ inner

  pub ring-ported : Each Ported loopRing
  ring-ported =
      ring-each (listed (free b)) (chain_ends it c s) (member_of ns) iterated started e₂ inner
      (λ x k i j.
      let e = listed-only (free b) x i in
      ring-gate-ported o s (member_of ns x) k (iterated x) (started x) (e₂ x) (inner x) (inner-own x e) (control-away k j)
      (λ t. (iterated-away x t, started-away x t)) (own-away x e)
      )

  pub loop-chain-ported : Each Ported loopChain
  loop-chain-ported = chain-ported it c s it-own.1

  pub loop-body-envs : Envs (free b) inner (o + s)
  loop-body-envs = body-envs

  pub loop-body-room : o + s + links_of b ≤ nowhere
  loop-body-room = body-room

pub ported : (g : Graph) (n : ℕ) (env : Env) → Fit g → Envs (free g) env n → n + links_of g ≤ nowhere → Each Ported (operators_of g n env)
unfolding operators_of free links_of
ported (wire x) n env F E fits = tt
ported nothing n env F E fits = tt
ported (beside a b) n env F E fits =
    let f : Names = free a in
    let g : Names = free b in
    let m : ℕ = n + shared_links f g in
    let e₁ : Env = first_use f g n env in
    let e₂ : Env = second_use f g n env in
    let A : List Operator = operators_of a m e₁ in
    let B : List Operator = operators_of b (m + links_of a) e₂ in
    each_append Ported (sharing f g n env) (A ++ B) (sharing-ported f g n env E)
    (each_append Ported A B (ported a m e₁ F.0 (envs-first f g n env E) (first_fits n (shared_links f g) (links_of a) (links_of b) fits))
    (ported b (m + links_of a) e₂ F.1 (envs-up g e₂ m (m + links_of a) (up_to m (links_of a)) (envs-second f g n env E))
    (second_fits n (shared_links f g) (links_of a) (links_of b) fits)))
ported (bind ns a b) n env F E fits =
    let f : Names = free a in
    let g : Names = without (free b) (member_of ns) in
    let m : ℕ = n + shared_links f g in
    let e₁ : Env = first_use f g n env in
    let oa : List ℕ = outputs a m e₁ in
    let link : Env = named ns oa (second_use f g n env) in
    let ra : n + shared_links f g + links_of a ≤ nowhere = first_fits n (shared_links f g) (links_of a) (links_of b) fits in
    let la : Layout a m e₁ = layout a F.0 m e₁ (envs-first f g n env E) ra in
    let A : List Operator = operators_of a m e₁ in
    let B : List Operator = operators_of b (m + links_of a) link in
    each_append Ported (sharing f g n env) (A ++ B) (sharing-ported f g n env E)
    (each_append Ported A B (ported a m e₁ F.0 (envs-first f g n env E) ra)
    (ported b (m + links_of a) link F.1
    (user-envs ns f (free b) n (links_of a) (links_of b) env oa (outputs b (m + links_of a) link) (RingOf a m) (RingOf b (m + links_of a)) E fits la.sound (la.count ∙ F.2)
    F.3 F.4)
    (second_fits n (shared_links f g) (links_of a) (links_of b) fits)))
ported (gate g a) n env F E fits =
    each_append Ported (operators_of a n env) (gate_of g (outputs a n env) (n + links_of a) ∷ [])
    (ported a n env F.0 E (fore-fits n (links_of a) (gate_outputs g) fits))
    (gate-ported (outputs a n env) (n + links_of a) g (length-outputs a n env F.0 ∙ F.1) (zone-low a n env F.0 E), tt)
ported (loop ns a b) n env F E fits =
    let f : Names = free a in
    let g : Names = without (free b) (member_of ns) in
    let m : ℕ = n + shared_links f g in
    let s : ℕ = total (free b) in
    let A : List Operator = loopStart ns a b n env F E fits in
    let B : List Operator = loopBody ns a b n env F E fits in
    let C : List Operator = loopChain ns a b n env F E fits in
    let R : List Operator = loopRing ns a b n env F E fits in
    each_append Ported (sharing f g n env) (A ++ (B ++ (C ++ R))) (sharing-ported f g n env E)
    (each_append Ported A (B ++ (C ++ R))
    (ported a m (first_use f g n env) F.0 (envs-first f g n env E) (first_fits n (shared_links f g) (links_of a) (s + (links_of b + chain_links s)) fits))
    (each_append Ported B (C ++ R)
    (ported b (m + links_of a + s) (spread (free b) (m + links_of a)) F.1 (loop-body-envs ns a b n env F E fits) (loop-body-room ns a b n env F E fits))
    (each_append Ported C R (loop-chain-ported ns a b n env F E fits) (ring-ported ns a b n env F E fits))))
