-- Laws of specs/Links.antt, and what only they need.
use Prim.Native.Nat.{ℕ, zero, suc, ◌+◌, ◌*◌, ◌≤◌}
use Rattle.std.specs.Prelude.{◌≡◌, Bool, not, length, eqb}
use Rattle.std.proofs.Math.Path.{refl, ap, ap₂}
use Rattle.std.proofs.Common.{sym, ◌∙◌, zero-add}
use Rattle.std.proofs.Math.Bool.{true, false}
use mathlib.Core.List.{List, [], ◌∷◌, ◌++◌}
use native.Mathlib.Omega.{arith}
use Rattle.names.specs.Names.{Names, common, without, bit}
use Rattle.names.proofs.Counts.{length-members_from}
use Rattle.graph.specs.Assembly.{Gate, const, oper, T, F, M, E, IC, gate_outputs, Env, Operator, nth, gate_of, copies_for, chain, chain_ends, ring_gate, ring, up_from, name_count, total, listed}
use Rattle.theory_wiring.specs.Tally.{times, amount, sum_over, list_sum}
use Rattle.theory_wiring.proofs.Tally.{times-append, times-nil, sum-plus, sum-where, list_sum-listed}
use Rattle.theory_wiring.specs.Links.{optional, input_links, output_links, taken, emitted}

module _ (l : ℕ) where
  pub taken-append : (xs ys : List Operator) → times l (taken (xs ++ ys)) ≡ times l (taken xs) + times l (taken ys)
  unfolding taken
  taken-append [] ys = rw (times-nil l) (sym (zero-add (times l (taken ys))))
  taken-append (x ∷ xs) ys = omega (arith, times-append l (input_links x) (taken (xs ++ ys)), times-append l (input_links x) (taken xs), taken-append xs ys)

  pub emitted-append : (xs ys : List Operator) → times l (emitted (xs ++ ys)) ≡ times l (emitted xs) + times l (emitted ys)
  unfolding emitted
  emitted-append [] ys = rw (times-nil l) (sym (zero-add (times l (emitted ys))))
  emitted-append (x ∷ xs) ys = omega (arith, times-append l (output_links x) (emitted (xs ++ ys)), times-append l (output_links x) (emitted xs), emitted-append xs ys)

  -- a name's link: 1 where it is l
  abbrev pub hits : Env → ℕ → ℕ
  hits env x = bit (eqb (env x) l)

  -- ---- copies
  taken-copies : (xs : List ℕ) (env e₁ e₂ : Env) → times l (taken (copies_for xs env e₁ e₂)) ≡ list_sum xs (hits env)
  unfolding taken copies_for nth list_sum times
  taken-copies [] env e₁ e₂ = refl
  taken-copies (x ∷ xs) env e₁ e₂ = ap (λ (k : ℕ). bit (eqb (env x) l) + k) (taken-copies xs env e₁ e₂)

  emitted-copies : (xs : List ℕ) (env e₁ e₂ : Env) → times l (emitted (copies_for xs env e₁ e₂)) ≡ list_sum xs (λ x. hits e₁ x + hits e₂ x)
  unfolding emitted copies_for nth list_sum times
  emitted-copies [] env e₁ e₂ = refl
  emitted-copies (x ∷ xs) env e₁ e₂ = omega (arith, emitted-copies xs env e₁ e₂)

  pub taken-copies-of : (f : Names) (env e₁ e₂ : Env) → times l (taken (copies_for (listed f) env e₁ e₂)) ≡ sum_over name_count f (hits env)
  taken-copies-of f env e₁ e₂ = taken-copies (listed f) env e₁ e₂ ∙ list_sum-listed f (hits env)

  pub emitted-copies-of : (f : Names) (env e₁ e₂ : Env)
      → times l (emitted (copies_for (listed f) env e₁ e₂)) ≡ sum_over name_count f (hits e₁) + sum_over name_count f (hits e₂)
  emitted-copies-of f env e₁ e₂ =
      emitted-copies (listed f) env e₁ e₂ ∙ list_sum-listed f (λ x. hits e₁ x + hits e₂ x) ∙ sum-plus name_count f (hits e₁) (hits e₂)

  -- ---- the chain of copies
  -- what comes on the first link, and on the links between, goes on to a copy or to a user
  pub chain-taken : (a n k : ℕ) → times l (taken (chain a n (suc k))) + times l (chain_ends a n (suc k)) ≡ bit (eqb a l) + times l (up_from n (2 * k))
  unfolding taken chain chain_ends nth times up_from
  chain-taken a n zero = omega arith
  chain-taken a n (suc k) =
      let e : 2 * suc k ≡ suc (suc (2 * k)) = omega arith in
      rw e (omega (arith, chain-taken (suc n) (suc (suc n)) k))

  pub chain-emitted : (a n k : ℕ) → times l (emitted (chain a n (suc k))) ≡ times l (up_from n (2 * k))
  unfolding emitted chain nth times up_from
  chain-emitted a n zero = refl
  chain-emitted a n (suc k) =
      let e : 2 * suc k ≡ suc (suc (2 * k)) = omega arith in
      rw e (omega (arith, chain-emitted (suc n) (suc (suc n)) k))

  -- ---- the gates of a loop
  gate-taken : (b : Bool) (c i s o t : ℕ)
      → times l (input_links (ring_gate b c i s o t)) ≡ bit (eqb c l) + (amount b (bit (eqb i l) + bit (eqb s l)) + amount (not b) (bit (eqb o l)))
  unfolding ring_gate nth times
  gate-taken true c i s o t = omega arith
  gate-taken false c i s o t = omega arith

  gate-emitted : (b : Bool) (c i s o t : ℕ) → times l (output_links (ring_gate b c i s o t)) ≡ bit (eqb t l)
  unfolding ring_gate nth times
  gate-emitted true c i s o t = omega arith
  gate-emitted false c i s o t = omega arith

  ring-taken : (xs cs : List ℕ) (ids : Names) (it st ow out : Env) → length cs ≡ length xs
      → times l (taken (ring xs ids cs it st ow out)) ≡ times l cs + list_sum xs (λ x. amount (ids x) (hits it x + hits st x) + amount (not (ids x)) (hits ow x))
  unfolding taken ring list_sum times
  ring-taken [] [] ids it st ow out h = refl
  ring-taken [] (c ∷ cs) ids it st ow out h = absurd (omega arith)
  ring-taken (x ∷ xs) [] ids it st ow out h = absurd (omega arith)
  ring-taken (x ∷ xs) (c ∷ cs) ids it st ow out h =
      let o : Operator = ring_gate (ids x) c (it x) (st x) (ow x) (out x) in
      times-append l (input_links o) (taken (ring xs ids cs it st ow out))
      ∙ omega (arith, gate-taken (ids x) c (it x) (st x) (ow x) (out x), ring-taken xs cs ids it st ow out (omega arith))

  ring-emitted : (xs cs : List ℕ) (ids : Names) (it st ow out : Env) → length cs ≡ length xs
      → times l (emitted (ring xs ids cs it st ow out)) ≡ list_sum xs (hits out)
  unfolding emitted ring list_sum times
  ring-emitted [] [] ids it st ow out h = refl
  ring-emitted [] (c ∷ cs) ids it st ow out h = absurd (omega arith)
  ring-emitted (x ∷ xs) [] ids it st ow out h = absurd (omega arith)
  ring-emitted (x ∷ xs) (c ∷ cs) ids it st ow out h =
      let o : Operator = ring_gate (ids x) c (it x) (st x) (ow x) (out x) in
      times-append l (output_links o) (emitted (ring xs ids cs it st ow out))
      ∙ ap₂ ◌+◌ (gate-emitted (ids x) c (it x) (st x) (ow x) (out x)) (ring-emitted xs cs ids it st ow out (omega arith))

-- ---- lengths
pub length-listed : (f : Names) → length (listed f) ≡ total f
unfolding listed total
length-listed f = length-members_from name_count 0 f

-- ---- the gates of a loop on the names of a set
module _ (l : ℕ) (f ids : Names) (cs : List ℕ) (it st ow out : Env) (h : length cs ≡ total f) where
  same_length : length cs ≡ length (listed f)
  same_length = h ∙ sym (length-listed f)

  pub ring-taken-of : times l (taken (ring (listed f) ids cs it st ow out))
      ≡ times l cs + ((sum_over name_count (common f ids) (hits l it) + sum_over name_count (common f ids) (hits l st)) + sum_over name_count (without f ids) (hits l ow))
  ring-taken-of =
      ring-taken l (listed f) cs ids it st ow out same_length
      ∙ ap (λ (k : ℕ). times l cs + k)
      (list_sum-listed f (λ x. amount (ids x) (hits l it x + hits l st x) + amount (not (ids x)) (hits l ow x))
      ∙ sum-plus name_count f (λ x. amount (ids x) (hits l it x + hits l st x)) (λ x. amount (not (ids x)) (hits l ow x))
      ∙ ap₂ ◌+◌
      (sum-where name_count f ids (λ x. hits l it x + hits l st x) ∙ sum-plus name_count (common f ids) (hits l it) (hits l st))
      (sum-where name_count f (λ x. not (ids x)) (hits l ow)))

  pub ring-emitted-of : times l (emitted (ring (listed f) ids cs it st ow out)) ≡ sum_over name_count f (hits l out)
  ring-emitted-of = ring-emitted l (listed f) cs ids it st ow out same_length ∙ list_sum-listed f (hits l out)

-- ---- a gate
ports : (ins : List ℕ) → length ins ≤ 3 → optional (nth ins 0) ++ (optional (nth ins 1) ++ optional (nth ins 2)) ≡ ins
unfolding nth
ports [] h = refl
ports (a ∷ []) h = refl
ports (a ∷ b ∷ []) h = refl
ports (a ∷ b ∷ c ∷ []) h = refl
ports (a ∷ b ∷ c ∷ d ∷ ins) h = absurd (omega arith)

pub gate-inputs : (g : Gate) (ins : List ℕ) (n : ℕ) → length ins ≤ 3 → input_links (gate_of g ins n) ≡ ins
unfolding gate_of
gate-inputs (const v) ins n h = ports ins h
gate-inputs (oper k) ins n h = ports ins h
gate-inputs T ins n h = ports ins h
gate-inputs F ins n h = ports ins h
gate-inputs M ins n h = ports ins h
gate-inputs E ins n h = ports ins h
gate-inputs (IC true) ins n h = ports ins h
gate-inputs (IC false) ins n h = ports ins h

pub gate-outputs : (g : Gate) (ins : List ℕ) (n : ℕ) → output_links (gate_of g ins n) ≡ up_from n (gate_outputs g)
unfolding gate_of gate_outputs up_from
gate-outputs (const v) ins n = refl
gate-outputs (oper k) ins n = refl
gate-outputs T ins n = refl
gate-outputs F ins n = refl
gate-outputs M ins n = refl
gate-outputs E ins n = refl
gate-outputs (IC true) ins n =
    let p : n + 1 ≡ suc n = omega arith in
    let q : n + 2 ≡ suc (suc n) = omega arith in
    rw (p, q) refl
gate-outputs (IC false) ins n = let p : n + 1 ≡ suc n = omega arith in rw p refl
