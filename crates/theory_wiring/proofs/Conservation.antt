-- What comes onto a link goes on from it: of a fit graph laid out anywhere, each link is taken from by operators and is an output together
-- just as often as operators put onto it and names stand for it. From this one equation follow one taker, one putter and different outputs.
-- Assumes nothing of the environment.
use Prim.Native.Nat.{ℕ, zero, suc, ◌+◌, ◌*◌, ◌-◌, ◌≤◌, ◌<◌}
use Rattle.std.specs.Prelude.{◌≡◌, ◌⊎◌, Bool, true, cond, ◌&&◌, ◌||◌, length, take, drop}
use Rattle.std.proofs.Math.Path.{refl, sym, ap, ap₂}
use Rattle.std.proofs.Common.{◌∙◌, inl, inr, length-append, eqb-true, eq-eqb, ne_eqb}
use Rattle.std.proofs.Math.Bool.{false}
use Rattle.std.proofs.lemmas.Bool.{false≢true}
use mathlib.Core.List.{List, [], ◌∷◌, ◌++◌}
use Rattle.std.proofs.Math.ListN.{get_or, length-drop}
use Rattle.std.proofs.Math.Dec.{eqb}
use native.Mathlib.Omega.{arith}
use Rattle.value.specs.Operators.{pick, operands}
use Rattle.names.specs.Names.{Names, none as noNames, one, common, union, without, bit, size_from}
use Rattle.graph.specs.Assembly.{Gate, const, oper, T, F, M, E, IC, Graph, wire, nothing, beside, bind, gate, loop, free, member_of, gate_outputs, Env, Operator, gate_of, sharing, shared_links, first_use, second_use, named, spread, chain, chain_ends, chain_links, ring, up_from, name_count, rank, total, listed, links_of, outputs, operators_of}
use Rattle.graph.specs.Yields.{output_count}
use Rattle.graph.specs.Fit.{Fit, Different, gate_inputs}
use Rattle.theory_reference.proofs.NameSets.{either, not-both, without-there}
use Rattle.theory_reference.proofs.Binding.{named-others}
use Rattle.theory_yields.proofs.Naming.{length-up_from}
use Rattle.theory_yields.proofs.FitGraphs.{count-loop}
use Rattle.theory_reference.proofs.Copies.{ends-length}
use Rattle.theory_wiring.specs.Tally.{times, sum_over}
use Rattle.theory_wiring.proofs.Tally.{times-append, times-nil, times-one, times_cut, times-up_from, sum-cong, sum_same, sum-none, sum_one, sum-plus, sum-union, sum-without, sum-shared, sum-single, sum-double}
use Rattle.theory_wiring.specs.Links.{input_links, output_links, taken, emitted}
use Rattle.theory_wiring.proofs.Links.{taken-append, emitted-append, hits, taken-copies-of, emitted-copies-of, chain-taken, chain-emitted, ring-taken-of, ring-emitted-of, gate-inputs, gate-outputs}

-- ---- sharing
module _ (l : ℕ) (f g : Names) (n : ℕ) (env : Env) where
  pub sharing-conserved : times l (taken (sharing f g n env))
      + (sum_over name_count f (hits l (first_use f g n env)) + sum_over name_count g (hits l (second_use f g n env)))
      ≡ times l (emitted (sharing f g n env)) + sum_over name_count (union f g) (hits l env)
  unfolding sharing first_use second_use
  sharing-conserved =
      ap (λ (k : ℕ). k + (sum_over name_count f (hits l e₁) + sum_over name_count g (hits l e₂))) (taken-copies-of l (common f g) env e₁ e₂)
      ∙ sum-shared name_count f g (hits l env) (hits l e₁) (hits l e₂) alone
      ∙ ap (λ (k : ℕ). k + sum_over name_count (union f g) (hits l env)) (sym (emitted-copies-of l (common f g) env e₁ e₂))
    where
      e₁ : Env
      e₁ = first_use f g n env

      e₂ : Env
      e₂ = second_use f g n env

      alone : (x : ℕ) → f x && g x ≡ false → (hits l e₁ x ≡ hits l env x) × (hits l e₂ x ≡ hits l env x)
      alone x h = (
        ap (λ (b : Bool). bit (eqb (cond b (n + 2 * rank (common f g) x) (env x)) l)) h,
        ap (λ (b : Bool). bit (eqb (cond b (n + 2 * rank (common f g) x + 1) (env x)) l)) h,
      )

  pub sharing-emitted : times l (emitted (sharing f g n env)) ≡ times l (up_from n (shared_links f g))
  unfolding sharing first_use second_use shared_links total rank
  sharing-emitted =
      emitted-copies-of l (common f g) env e₁ e₂
      ∙ sym (sum-plus name_count (common f g) (hits l e₁) (hits l e₂))
      ∙ sum_same name_count (common f g) (λ x. hits l e₁ x + hits l e₂ x)
      (λ i. bit (eqb (n + 2 * size_from i (common f g)) l) + bit (eqb (n + 2 * size_from i (common f g) + 1) l)) both
      ∙ sum-double l n name_count (common f g)
    where
      e₁ : Env
      e₁ = first_use f g n env

      e₂ : Env
      e₂ = second_use f g n env

      both : (x : ℕ) → x < name_count → f x && g x ≡ true
          → hits l e₁ x + hits l e₂ x ≡ bit (eqb (n + 2 * size_from x (common f g)) l) + bit (eqb (n + 2 * size_from x (common f g) + 1) l)
      both x lt h =
          ap₂ ◌+◌ (ap (λ (b : Bool). bit (eqb (cond b (n + 2 * rank (common f g) x) (env x)) l)) h)
          (ap (λ (b : Bool). bit (eqb (cond b (n + 2 * rank (common f g) x + 1) (env x)) l)) h)

-- ---- names bound to links
module _ (l : ℕ) where
  member_is : (y : ℕ) (ns : List ℕ) (x : ℕ) → member_of (y ∷ ns) x ≡ union (one y) (member_of ns) x
  unfolding member_of
  member_is y ns x = refl

  no_member : (x : ℕ) → member_of [] x ≡ false
  unfolding member_of
  no_member x = refl

  pub named-sum : (ns ls : List ℕ) (env : Env) → Different ns → length ns ≤ length ls
      → sum_over name_count (member_of ns) (hits l (named ns ls env)) ≡ times l (take (length ns) ls)
  unfolding named times
  named-sum [] ls env d h = sum-none name_count (member_of []) (hits l (named [] ls env)) (λ i k. no_member i)
  named-sum (y ∷ ns) [] env d h = absurd (omega arith)
  named-sum (y ∷ ns) (k ∷ ls) env d h =
      let φ : ℕ → ℕ = hits l (named (y ∷ ns) (k ∷ ls) env) in
      let a = sum-cong name_count (member_of (y ∷ ns)) (union (one y) (member_of ns)) φ φ (λ i _. member_is y ns i) (λ i _ m. refl) in
      let b = sum-union name_count (one y) (member_of ns) φ in
      let c = sum-none name_count (common (one y) (member_of ns)) φ (λ i _. apart i (either (eqb y i))) in
      let e = sum_one name_count y φ d.0 in
      let z : φ y ≡ bit (eqb k l) = ap (λ (t : Bool). bit (eqb (cond t k (named ns ls env y)) l)) (eq-eqb y y refl) in
      let r = sum_same name_count (member_of ns) φ (hits l (named ns ls env)) later in
      omega (arith, a, b, c, e, z, r, named-sum ns ls env d.2 (omega arith))
    where
      apart : (i : ℕ) → (eqb y i ≡ true) ⊎ (eqb y i ≡ false) → eqb y i && member_of ns i ≡ false
      apart i (inl e) = rw (e) (ap (member_of ns) (sym (eqb-true y i e)) ∙ d.1)
      apart i (inr e) = rw e refl

      later : (i : ℕ) → i < name_count → member_of ns i ≡ true → bit (eqb (cond (eqb y i) k (named ns ls env i)) l) ≡ hits l (named ns ls env) i
      later i lt m = ap (λ (t : Bool). bit (eqb (cond t k (named ns ls env i)) l)) (ne_eqb y i (λ e. not-both (member_of ns y) (ap (member_of ns) e ∙ m) d.1))

  -- where the names of a list are among those of a set
  pub bound-names : (f : Names) (ns : List ℕ) (φ : ℕ → ℕ) → ((x : ℕ) → member_of ns x ≡ true → f x ≡ true)
      → sum_over name_count (common f (member_of ns)) φ ≡ sum_over name_count (member_of ns) φ
  bound-names f ns φ u = sum-cong name_count (common f (member_of ns)) (member_of ns) φ φ (λ i _. go i (f i) refl (member_of ns i) refl) (λ i _ m. refl)
    where
      go : (i : ℕ) (b : Bool) → f i ≡ b → (c : Bool) → member_of ns i ≡ c → b && c ≡ c
      go i true p c q = refl
      go i false p true q = absurd (false≢true (sym p ∙ u i q))
      go i false p false q = refl

  -- the names of a set, those of a list bound to the first links of a list
  pub named-conserved : (f : Names) (ns ls : List ℕ) (env : Env) → Different ns → length ns ≤ length ls → ((x : ℕ) → member_of ns x ≡ true → f x ≡ true)
      → sum_over name_count f (hits l (named ns ls env)) ≡ times l (take (length ns) ls) + sum_over name_count (without f (member_of ns)) (hits l env)
  named-conserved f ns ls env d h u =
      let φ : ℕ → ℕ = hits l (named ns ls env) in
      let a = sum-without name_count f (member_of ns) φ in
      let b = sum_same name_count (without f (member_of ns)) φ (hits l env) (λ i _ m. ap (λ (k : ℕ). bit (eqb k l)) (named-others ns ls env i (without-there f (member_of ns) i m))) in
      omega (arith, a, b, bound-names f ns φ u, named-sum ns ls env d h)

  -- the names of a set, spread over the links from n on
  pub spread-sum : (f : Names) (n : ℕ) → sum_over name_count f (hits l (spread f n)) ≡ times l (up_from n (total f))
  unfolding spread rank total
  spread-sum f n = sum-single l n name_count f

-- ---- as many outputs as counted
pub small-gate : (g : Gate) → gate_inputs g ≤ 3
unfolding gate_inputs operands
small-gate (const v) = omega arith
small-gate (oper k) = go (eqb k 10 || eqb k 11)
  where
    go : (b : Bool) → pick b 1 2 ≤ 3
    go true = omega arith
    go false = omega arith
small-gate T = omega arith
small-gate F = omega arith
small-gate M = omega arith
small-gate E = omega arith
small-gate (IC b) = omega arith

loop-count : (ns : List ℕ) (a b : Graph) (m : ℕ) → output_count b ≡ m → suc (length ns) ≤ m → output_count (loop ns a b) ≡ m - suc (length ns)
loop-count ns a b zero e h = absurd (omega arith)
loop-count ns a b (suc m) e h = count-loop ns a b m e ∙ omega arith

pub length-outputs : (g : Graph) (n : ℕ) (env : Env) → Fit g → length (outputs g n env) ≡ output_count g
unfolding outputs output_count
length-outputs (wire x) n env h = refl
length-outputs nothing n env h = refl
length-outputs (beside a b) n env h =
    length-append (outputs a _ _) (outputs b _ _) ∙ ap₂ ◌+◌ (length-outputs a _ _ h.0) (length-outputs b _ _ h.1)
length-outputs (bind ns a b) n env h = length-outputs b _ _ h.1
length-outputs (gate g a) n env h = length-up_from (n + links_of a) (gate_outputs g)
length-outputs (loop ns a b) n env h =
    length-drop (suc (length ns)) (outputs b _ _)
    ∙ ap (λ (k : ℕ). k - suc (length ns)) (length-outputs b _ _ h.1)
    ∙ sym (loop-count ns a b (output_count b) refl h.5)

-- ---- the links of a graph's operators
-- the sums of a loop's five parts
regrouped : {x a b c d e y a' b' c' d' e' : ℕ} → x ≡ a + (b + (c + (d + e))) → y ≡ a' + (b' + (e' + (c' + d')))
    → a ≡ a' → b ≡ b' → c ≡ c' → d ≡ d' → e ≡ e' → x ≡ y
regrouped p q u v w x y = omega arith

-- t: taken from, e: put onto, i: names' links, by the part (copies, start, body, chain, ring); the outputs of start and body; the chain's ends
balanced : (t tSh tA tB tC tR e eSh eA eB eC eR i iA iG iB oA oB o ends it ci cs take_i takeA dropA tail rest : ℕ)
    → t ≡ tSh + (tA + (tB + (tC + tR))) → e ≡ eSh + (eA + (eB + (eC + eR)))
    → tSh + (iA + iG) ≡ eSh + i → tA + oA ≡ eA + iA → tB + oB ≡ eB + iB → tC + ends ≡ it + eC
    → tR ≡ ends + ((ci + cs) + iG) → eR ≡ iB → ci ≡ take_i → cs ≡ takeA → takeA + dropA ≡ oA → dropA ≡ 0
    → oB ≡ it + tail → take_i + rest ≡ tail → o ≡ rest → t + o ≡ e + i
balanced t tSh tA tB tC tR e eSh eA eB eC eR i iA iG iB oA oB o ends it ci cs take_i takeA dropA tail rest h₀ h₁ h₂ h₃ h₄ h₅ h₆ h₇ h₈ h₉ k₀ k₁ k₂ k₃ k₄ = omega arith

some-names : (s : ℕ) → 2 ≤ s → 1 ≤ s
some-names s h = omega arith

enough : (k m c : ℕ) → m ≡ c → c ≡ k → k ≤ m
enough k m c p q = omega arith

none_over : (k m c : ℕ) → m ≡ c → c ≡ k → m ≤ k
none_over k m c p q = omega arith

enough-iterated : (k m d c : ℕ) → m ≡ c → d ≡ m - 1 → suc k ≤ c → k ≤ d
enough-iterated k m d c p q r = omega arith

one-at-least : (k m c : ℕ) → m ≡ c → suc k ≤ c → 1 ≤ m
one-at-least k m c p r = omega arith

-- nothing lies behind the end of a list
behind : (l k : ℕ) (ls : List ℕ) → length ls ≤ k → times l (drop k ls) ≡ 0
unfolding times
behind l zero [] h = refl
behind l zero (x ∷ ls) h = absurd (omega arith)
behind l (suc k) [] h = refl
behind l (suc k) (x ∷ ls) h = behind l k ls (omega arith)

drop-tail : (k : ℕ) (ls : List ℕ) → drop (suc k) ls ≡ drop k (drop 1 ls)
drop-tail zero [] = refl
drop-tail (suc k) [] = refl
drop-tail k (x ∷ ls) = refl

module _ (l : ℕ) where
  chain-emits : (a n s : ℕ) → 1 ≤ s → times l (emitted (chain a n s)) ≡ times l (up_from n (chain_links s))
  chain-emits a n zero h = absurd (omega arith)
  chain-emits a n (suc k) h = let e : suc k - 1 ≡ k = omega arith in rw e (chain-emitted l a n k)

  chain-takes : (a n s : ℕ) → 1 ≤ s → times l (taken (chain a n s)) + times l (chain_ends a n s) ≡ bit (eqb a l) + times l (emitted (chain a n s))
  chain-takes a n zero h = absurd (omega arith)
  chain-takes a n (suc k) h = chain-taken l a n k ∙ ap (λ (m : ℕ). bit (eqb a l) + m) (sym (chain-emitted l a n k))

  gate-emits : (g : Gate) (ins : List ℕ) (n : ℕ) → times l (emitted (gate_of g ins n ∷ [])) ≡ times l (up_from n (gate_outputs g))
  unfolding emitted
  gate-emits g ins n =
      times-append l (output_links (gate_of g ins n)) []
      ∙ ap₂ ◌+◌ (ap (times l) (gate-outputs g ins n)) (times-nil l) ∙ omega arith

  gate-takes : (g : Gate) (ins : List ℕ) (n : ℕ) → length ins ≤ 3 → times l (taken (gate_of g ins n ∷ [])) ≡ times l ins
  unfolding taken
  gate-takes g ins n h =
      times-append l (input_links (gate_of g ins n)) []
      ∙ ap₂ ◌+◌ (ap (times l) (gate-inputs g ins n h)) (times-nil l) ∙ omega arith

  none_emitted : (n : ℕ) → times l (emitted []) ≡ times l (up_from n 0)
  unfolding emitted up_from
  none_emitted n = refl

  wire-conserved : (x : ℕ) (env : Env) → x < name_count → times l (taken []) + times l (env x ∷ []) ≡ times l (emitted []) + sum_over name_count (one x) (hits l env)
  unfolding taken emitted
  wire-conserved x env h = omega (arith, times-one l (env x), sum_one name_count x (hits l env) h)

  nothing-conserved : (env : Env) → times l (taken []) + times l [] ≡ times l (emitted []) + sum_over name_count noNames (hits l env)
  unfolding taken emitted
  nothing-conserved env = omega (arith, times-nil l, sum-none name_count noNames (hits l env) (λ i k. refl))

  emitted-five : (a b c d e : List Operator)
      → times l (emitted (a ++ (b ++ (c ++ (d ++ e))))) ≡ times l (emitted a) + (times l (emitted b) + (times l (emitted c) + (times l (emitted d) + times l (emitted e))))
  emitted-five a b c d e =
      omega (arith, emitted-append l a (b ++ (c ++ (d ++ e))), emitted-append l b (c ++ (d ++ e)), emitted-append l c (d ++ e), emitted-append l d e)

  taken-five : (a b c d e : List Operator)
      → times l (taken (a ++ (b ++ (c ++ (d ++ e))))) ≡ times l (taken a) + (times l (taken b) + (times l (taken c) + (times l (taken d) + times l (taken e))))
  taken-five a b c d e =
      omega (arith, taken-append l a (b ++ (c ++ (d ++ e))), taken-append l b (c ++ (d ++ e)), taken-append l c (d ++ e), taken-append l d e)

  stretch-five : (n a b c d e : ℕ) → times l (up_from n (a + (b + (c + (d + e)))))
      ≡ times l (up_from n a) + (times l (up_from (n + a) b) + (times l (up_from (n + a + b) c) + (times l (up_from (n + a + b + c) d) + times l (up_from (n + a + b + c + d) e))))
  stretch-five n a b c d e =
      omega (arith, times-up_from l n a (b + (c + (d + e))), times-up_from l (n + a) b (c + (d + e)), times-up_from l (n + a + b) c (d + e), times-up_from l (n + a + b + c) d e)

  -- Operators put onto the own links of the graph, onto each just once, and onto no other.
  pub emitted-once : (g : Graph) (n : ℕ) (env : Env) → Fit g → times l (emitted (operators_of g n env)) ≡ times l (up_from n (links_of g))
  unfolding operators_of links_of
  emitted-once (wire x) n env h = none_emitted n
  emitted-once nothing n env h = none_emitted n
  emitted-once (beside a b) n env h =
      let f = free a in
      let g = free b in
      let m = n + shared_links f g in
      let e₁ = first_use f g n env in
      let e₂ = second_use f g n env in
      let p = emitted-append l (sharing f g n env) (operators_of a m e₁ ++ operators_of b (m + links_of a) e₂) in
      let q = emitted-append l (operators_of a m e₁) (operators_of b (m + links_of a) e₂) in
      let u = times-up_from l n (shared_links f g) (links_of a + links_of b) in
      let v = times-up_from l m (links_of a) (links_of b) in
      omega (arith, p, q, u, v, sharing-emitted l f g n env, emitted-once a m e₁ h.0, emitted-once b (m + links_of a) e₂ h.1)
  emitted-once (bind ns a b) n env h =
      let f = free a in
      let g = without (free b) (member_of ns) in
      let m = n + shared_links f g in
      let e₁ = first_use f g n env in
      let e₂ = named ns (outputs a m e₁) (second_use f g n env) in
      let p = emitted-append l (sharing f g n env) (operators_of a m e₁ ++ operators_of b (m + links_of a) e₂) in
      let q = emitted-append l (operators_of a m e₁) (operators_of b (m + links_of a) e₂) in
      let u = times-up_from l n (shared_links f g) (links_of a + links_of b) in
      let v = times-up_from l m (links_of a) (links_of b) in
      omega (arith, p, q, u, v, sharing-emitted l f g n env, emitted-once a m e₁ h.0, emitted-once b (m + links_of a) e₂ h.1)
  emitted-once (gate g a) n env h =
      let p = emitted-append l (operators_of a n env) (gate_of g (outputs a n env) (n + links_of a) ∷ []) in
      let u = times-up_from l n (links_of a) (gate_outputs g) in
      omega (arith, p, u, emitted-once a n env h.0, gate-emits g (outputs a n env) (n + links_of a))
  emitted-once (loop ns a b) n env h =
      let f = free a in
      let g = without (free b) (member_of ns) in
      let m = n + shared_links f g in
      let e₁ = first_use f g n env in
      let s = total (free b) in
      let o = m + links_of a in
      let inner = spread (free b) o in
      let outs = outputs b (o + s) inner in
      let it = get_or outs 0 0 in
      let c = o + s + links_of b in
      let A = operators_of a m e₁ in
      let B = operators_of b (o + s) inner in
      let C = chain it c s in
      let iterated = named ns (drop 1 outs) env in
      let started = named ns (outputs a m e₁) env in
      let own = second_use f g n env in
      let R = ring (listed (free b)) (member_of ns) (chain_ends it c s) iterated started own inner in
      regrouped (emitted-five (sharing f g n env) A B C R) (stretch-five n (shared_links f g) (links_of a) s (links_of b) (chain_links s))
      (sharing-emitted l f g n env) (emitted-once a m e₁ h.0) (emitted-once b (o + s) inner h.1) (chain-emits it c s (some-names s h.6))
      (ring-emitted-of l (free b) (member_of ns) (chain_ends it c s) iterated started own inner (ends-length s it c) ∙ spread-sum l (free b) o)

  head_tail : (ls : List ℕ) → 1 ≤ length ls → times l ls ≡ bit (eqb (get_or ls 0 0) l) + times l (drop 1 ls)
  unfolding times
  head_tail [] h = absurd (omega arith)
  head_tail (k ∷ ls) h = refl

  -- What comes onto a link goes on from it.
  pub conserved : (g : Graph) (n : ℕ) (env : Env) → Fit g
      → times l (taken (operators_of g n env)) + times l (outputs g n env) ≡ times l (emitted (operators_of g n env)) + sum_over name_count (free g) (hits l env)
  unfolding operators_of outputs free
  conserved (wire x) n env h = wire-conserved x env h
  conserved nothing n env h = nothing-conserved env
  conserved (beside a b) n env h =
      let f = free a in
      let g = free b in
      let m = n + shared_links f g in
      let e₁ = first_use f g n env in
      let e₂ = second_use f g n env in
      let A = operators_of a m e₁ in
      let B = operators_of b (m + links_of a) e₂ in
      let p = emitted-append l (sharing f g n env) (A ++ B) in
      let q = emitted-append l A B in
      let r = taken-append l (sharing f g n env) (A ++ B) in
      let s = taken-append l A B in
      let t = times-append l (outputs a m e₁) (outputs b (m + links_of a) e₂) in
      omega (arith, p, q, r, s, t, sharing-conserved l f g n env, conserved a m e₁ h.0, conserved b (m + links_of a) e₂ h.1)
  conserved (bind ns a b) n env h =
      let f = free a in
      let g = without (free b) (member_of ns) in
      let m = n + shared_links f g in
      let e₁ = first_use f g n env in
      let e₂ = second_use f g n env in
      let outs = outputs a m e₁ in
      let A = operators_of a m e₁ in
      let B = operators_of b (m + links_of a) (named ns outs e₂) in
      let p = emitted-append l (sharing f g n env) (A ++ B) in
      let q = emitted-append l A B in
      let r = taken-append l (sharing f g n env) (A ++ B) in
      let s = taken-append l A B in
      let k = length-outputs a m e₁ h.0 in
      let t = named-conserved l (free b) ns outs e₂ h.3 (omega (arith, k, h.2)) h.4 in
      let u = times_cut l (length ns) outs in
      let v = behind l (length ns) outs (omega (arith, k, h.2)) in
      omega (arith, p, q, r, s, t, u, v, sharing-conserved l f g n env, conserved a m e₁ h.0, conserved b (m + links_of a) (named ns outs e₂) h.1)
  conserved (gate g a) n env h =
      let k = length-outputs a n env h.0 in
      let p = emitted-append l (operators_of a n env) (gate_of g (outputs a n env) (n + links_of a) ∷ []) in
      let q = taken-append l (operators_of a n env) (gate_of g (outputs a n env) (n + links_of a) ∷ []) in
      let r = gate-takes g (outputs a n env) (n + links_of a) (omega (arith, k, h.1, small-gate g)) in
      let s = gate-emits g (outputs a n env) (n + links_of a) in
      omega (arith, p, q, r, s, conserved a n env h.0)
  conserved (loop ns a b) n env h =
      let f = free a in
      let g = without (free b) (member_of ns) in
      let m = n + shared_links f g in
      let e₁ = first_use f g n env in
      let s = total (free b) in
      let o = m + links_of a in
      let inner = spread (free b) o in
      let first = outputs a m e₁ in
      let outs = outputs b (o + s) inner in
      let it = get_or outs 0 0 in
      let c = o + s + links_of b in
      let A = operators_of a m e₁ in
      let B = operators_of b (o + s) inner in
      let C = chain it c s in
      let iterated = named ns (drop 1 outs) env in
      let started = named ns first env in
      let own = second_use f g n env in
      let R = ring (listed (free b)) (member_of ns) (chain_ends it c s) iterated started own inner in
      let ka = length-outputs a m e₁ h.0 in
      let kb = length-outputs b (o + s) inner h.1 in
      let kd = length-drop 1 outs in
      balanced _ _ _ _ _ _ _ _ _ _ _ _ _ _ _ _ _ _ _ _ _ _ _ _ _ _ _ _ (taken-five (sharing f g n env) A B C R) (emitted-five (sharing f g n env) A B C R)
      (sharing-conserved l f g n env) (conserved a m e₁ h.0) (conserved b (o + s) inner h.1)
      (chain-takes it c s (some-names s h.6))
      (ring-taken-of l (free b) (member_of ns) (chain_ends it c s) iterated started own inner (ends-length s it c))
      (ring-emitted-of l (free b) (member_of ns) (chain_ends it c s) iterated started own inner (ends-length s it c))
      (bound-names l (free b) ns (hits l iterated) h.4 ∙ named-sum l ns (drop 1 outs) env h.3 (enough-iterated (length ns) (length outs) (length (drop 1 outs)) (output_count b) kb kd h.5))
      (bound-names l (free b) ns (hits l started) h.4 ∙ named-sum l ns first env h.3 (enough (length ns) (length first) (output_count a) ka h.2))
      (times_cut l (length ns) first) (behind l (length ns) first (none_over (length ns) (length first) (output_count a) ka h.2))
      (head_tail outs (one-at-least (length ns) (length outs) (output_count b) kb h.5)) (times_cut l (length ns) (drop 1 outs)) (ap (times l) (drop-tail (length ns) outs))
