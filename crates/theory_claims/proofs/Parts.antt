-- What is told of the links (Telling.antt) around the parts of a graph laid out: the copies for shared names, bound names, and a gate. Assumes
-- nothing beside that.
use Rattle.std.specs.Prelude.{ℕ, ◌+◌, ◌*◌, ◌/◌, ◌<◌, ◌≡◌, refl, ◌⊎◌, Bool, cond, ◌&&◌, ◌||◌, List, [], ◌∷◌, ◌++◌, get_or, eqb}
use Rattle.std.proofs.Common.{sym, ◌∙◌, subst, inl, inr, eqb-true, arith}
use Rattle.std.proofs.Math.Path.{ap}
use Rattle.std.proofs.Math.Bool.{true, false}
use Rattle.std.proofs.lemmas.Bool.{false≢true}
use Rattle.std.proofs.Math.ListN.{length}
use Rattle.value.specs.Operators.{pick, operands}
use Rattle.names.specs.Names.{Names, union, common}
use Rattle.names.proofs.Counts.{member-at}
use Rattle.network.specs.Values.{one-operand}
use Rattle.graph.specs.Assembly.{Gate, const, oper, T, F, M, E, IC, gate_outputs, name_count, rank, listed, shared_links, Env, first_use, second_use, named, member_of, Operator, nth, copy_of, gate_of, copies_for, sharing}
use Rattle.graph.specs.Fit.{gate_inputs}
use Rattle.theory_reference.proofs.NameSets.{either, and_left, or_left, or_right, rank-total, member-head, member-tail, listed-only}
use Rattle.theory_reference.specs.Plugged.{Each, link-of}
use Rattle.theory_reference.proofs.Sharing.{size_is, first-shared, first_alone, second-shared, second-alone}
use Rattle.theory_claims.specs.Claims.{Claim, Under, Claims}
use Rattle.theory_claims.specs.TypedGraphs.{claims_of, at, Typed-gate}
use Rattle.theory_claims.specs.Telling.{Told, Telling, plain, links, Typed-operator, Agree, above, Marked, Named, Outs}
use Rattle.theory_claims.proofs.Telling.{above-below, above_at, above-marked, outs-at}

-- ---- lists of operators
pub each_append : (P : Operator → Type 0) (xs ys : List Operator) → Each P xs → Each P ys → Each P (xs ++ ys)
each_append P [] ys p q = q
each_append P (x ∷ xs) ys p q = (p.0, each_append P xs ys p.1 q)

copies-each : (P : Operator → Type 0) (xs : List ℕ) (env e₁ e₂ : Env)
    → ((x : ℕ) → member_of xs x ≡ true → P (copy_of (env x) (e₁ x) (e₂ x))) → Each P (copies_for xs env e₁ e₂)
unfolding copies_for
copies-each P [] env e₁ e₂ h = tt
copies-each P (x ∷ xs) env e₁ e₂ h = (h x (member-head x xs), copies-each P xs env e₁ e₂ (λ y i. h y (member-tail x xs y i)))

-- ---- a copy
pub same-under : (c d : Claim) → c ≡ d → Under c d
same-under c d e = subst (Under c) e (λ v m. m)

pub copy_typed : (S : Telling) (a b d : ℕ) (c : Claim) → links S a ≡ c → links S b ≡ c → links S d ≡ c → Typed-operator S (copy_of a b d)
unfolding nth
copy_typed S a b d c p q r = (same-under (links S a) (links S b) (p ∙ sym q), same-under (links S a) (links S d) (p ∙ sym r))

-- ---- the copies for shared names
-- A name of a set stands in the list of its names at its rank.
pub listed_at : (f : Names) (x : ℕ) → x < name_count → f x ≡ true → get_or (listed f) (rank f x) 0 ≡ x
unfolding listed rank
listed_at f x l e =
    let z : 0 + x ≡ x = omega arith in
    member-at name_count 0 x f l e ∙ z

module _ (f g : Names) (n : ℕ) (env : Env) (C : Claims) (S : Telling) (small : (x : ℕ) → union f g x ≡ true → x < name_count) (N : Named (union f g) env n S C) where
  abbrev both : Names
  both = common f g

  -- Two links for each shared name, with its claim.
  abbrev copyTold : Telling
  copyTold i = plain (C (get_or (listed both) (i / 2) 0))

  abbrev pub shareTold : Telling
  shareTold = above n S copyTold

  abbrev m : ℕ
  m = n + shared_links f g

  pub share-below : Agree n S shareTold
  share-below = above-below n S copyTold

  pub share-marked : Marked S → Marked shareTold
  share-marked h = above-marked n S copyTold h (λ i. refl)

  is-small : (x : ℕ) → f x && g x ≡ true → x < name_count
  is-small x e = small x (or_left (f x) (g x) (and_left (f x) (g x) e))

  room : (x : ℕ) → f x && g x ≡ true → n + 2 * rank both x + 1 < m
  room x e =
      let a = rank-total both x e (is-small x e) in
      let b = size_is f g in
      omega arith

  told_at : (x i : ℕ) → f x && g x ≡ true → i / 2 ≡ rank both x → shareTold (n + i) ≡ plain (C x)
  told_at x i e h =
      above_at n S copyTold i
      ∙ ap (λ (j : ℕ). plain (C (get_or (listed both) j 0))) h
      ∙ ap (λ (y : ℕ). plain (C y)) (listed_at both x (is-small x e) e)

  first-told : (x : ℕ) → f x && g x ≡ true → links shareTold (first_use f g n env x) ≡ C x
  first-told x e =
      let r : ℕ = rank both x in
      let h : (2 * r) / 2 ≡ r = omega arith in
      ap (links shareTold) (first-shared f g n env x e) ∙ ap (λ (t : Told). t.link) (told_at x (2 * r) e h)

  second-told : (x : ℕ) → f x && g x ≡ true → links shareTold (second_use f g n env x) ≡ C x
  second-told x e =
      let r : ℕ = rank both x in
      let h : (2 * r + 1) / 2 ≡ r = omega arith in
      let z : n + 2 * r + 1 ≡ n + (2 * r + 1) = omega arith in
      ap (links shareTold) (second-shared f g n env x e ∙ z) ∙ ap (λ (t : Told). t.link) (told_at x (2 * r + 1) e h)

  alone-told : (x : ℕ) → union f g x ≡ true → links shareTold (env x) ≡ C x
  alone-told x u = ap (λ (t : Told). t.link) (above-below n S copyTold (env x) (N.below x u)) ∙ N.claims x u

  pub first-named : Named f (first_use f g n env) m shareTold C
  first-named = record { below = λ x e. low x e (either (f x && g x)); claims = λ x e. told x e (either (f x && g x)) }
    where
      low : (x : ℕ) → f x ≡ true → (f x && g x ≡ true) ⊎ (f x && g x ≡ false) → first_use f g n env x < m
      low x e (inl k) = let a = first-shared f g n env x k in let b = room x k in omega arith
      low x e (inr k) = let a = first_alone f g n env x k in let b = N.below x (or_left (f x) (g x) e) in omega arith

      told : (x : ℕ) → f x ≡ true → (f x && g x ≡ true) ⊎ (f x && g x ≡ false) → links shareTold (first_use f g n env x) ≡ C x
      told x e (inl k) = first-told x k
      told x e (inr k) = ap (links shareTold) (first_alone f g n env x k) ∙ alone-told x (or_left (f x) (g x) e)

  pub second-named : Named g (second_use f g n env) m shareTold C
  second-named = record { below = λ x e. low x e (either (f x && g x)); claims = λ x e. told x e (either (f x && g x)) }
    where
      low : (x : ℕ) → g x ≡ true → (f x && g x ≡ true) ⊎ (f x && g x ≡ false) → second_use f g n env x < m
      low x e (inl k) = let a = second-shared f g n env x k in let b = room x k in omega arith
      low x e (inr k) = let a = second-alone f g n env x k in let b = N.below x (or_right (f x) (g x) e) in omega arith

      told : (x : ℕ) → g x ≡ true → (f x && g x ≡ true) ⊎ (f x && g x ≡ false) → links shareTold (second_use f g n env x) ≡ C x
      told x e (inl k) = second-told x k
      told x e (inr k) = ap (links shareTold) (second-alone f g n env x k) ∙ alone-told x (or_right (f x) (g x) e)

  pub sharing-typed : (U : Telling) → Agree m shareTold U → Each (Typed-operator U) (sharing f g n env)
  unfolding sharing
  sharing-typed U a =
      copies-each (Typed-operator U) (listed both) env (first_use f g n env) (second_use f g n env)
      (λ x i.
      let e = listed-only both x i in
      let u = or_left (f x) (g x) (and_left (f x) (g x) e) in
      copy_typed U (env x) (first_use f g n env x) (second_use f g n env x) (C x)
      (same (env x) (up (N.below x u)) ∙ alone-told x u)
      (same (first_use f g n env x) (first-named.below x (and_left (f x) (g x) e)) ∙ first-told x e)
      (same (second_use f g n env x) (second-low x e) ∙ second-told x e)
      )
    where
      same : (l : ℕ) → l < m → links U l ≡ links shareTold l
      same l h = ap (λ (t : Told). t.link) (a l h)

      up : {l : ℕ} → l < n → l < m
      up h = omega arith

      second-low : (x : ℕ) → f x && g x ≡ true → second_use f g n env x < m
      second-low x k = let z = second-shared f g n env x k in let b = room x k in omega arith

-- ---- bound names
pub claims-nil : (cs : List Claim) → cs ++ [] ≡ cs
claims-nil [] = refl
claims-nil (c ∷ cs) = ap (λ (ds : List Claim). c ∷ ds) (claims-nil cs)

-- The link of a bound name is an output, and has its claim.
pub named-told : (p : ℕ) (S : Telling) (D : Claims) (cs : List Claim) (ns ls : List ℕ) (env : Env) (x : ℕ)
    → Outs p S ls (claims_of D ns ++ cs) → member_of ns x ≡ true → (named ns ls env x < p) × (links S (named ns ls env x) ≡ D x)
unfolding named member_of
named-told p S D cs [] ls env x o e = absurd (false≢true e)
named-told p S D cs (y ∷ ns) [] env x o e = absurd o
named-told p S D cs (y ∷ ns) (l ∷ ls) env x o e = go (eqb y x) refl e (λ h. named-told p S D cs ns ls env x o.2 h)
  where
    go : (b : Bool) → eqb y x ≡ b → b || member_of ns x ≡ true → (member_of ns x ≡ true → (named ns ls env x < p) × (links S (named ns ls env x) ≡ D x))
        → (cond b l (named ns ls env x) < p) × (links S (cond b l (named ns ls env x)) ≡ D x)
    go true z h ih = (o.0, o.1 ∙ ap D (eqb-true y x z))
    go false z h ih = ih h

-- ---- a gate
module _ (p : ℕ) (S : Telling) (ins : List ℕ) (is : List Claim) (n : ℕ) (os : List Claim) (I : Outs p S ins is) where
  got : (i k : ℕ) → length is ≡ k → i < k → links S (link-of (nth ins i)) ≡ at is i
  got i k e h = outs-at p S ins is I i (omega arith)

  start : links S (n + 0) ≡ at os 0 → links S n ≡ at os 0
  start h = let z : n + 0 ≡ n = omega arith in rw z at h

  -- Its outputs lie from n on.
  pub gate-typed : (g : Gate) → ((i : ℕ) → i < gate_outputs g → links S (n + i) ≡ at os i) → Typed-gate g is os → Typed-operator S (gate_of g ins n)
  unfolding gate_of gate_inputs gate_outputs operands
  gate-typed (const v) o t = let z : links S n ≡ at os 0 = start (o 0 (omega arith)) in rw z t.2
  gate-typed (oper k) o t =
      let z : links S n ≡ at os 0 = start (o 0 (omega arith)) in
      let f = t.2.1 in (
        t.2.0,
        (f.0, rw (first (one-operand k) t.0) f.1, (λ e. rw (second (one-operand k) e t.0) (f.2 e)), rw z f.3),
      )
    where
      first : (b : Bool) → length is ≡ pick b 1 2 → links S (link-of (nth ins 0)) ≡ at is 0
      first true h = got 0 1 h (omega arith)
      first false h = got 0 2 h (omega arith)

      second : (b : Bool) → b ≡ false → length is ≡ pick b 1 2 → links S (link-of (nth ins 1)) ≡ at is 1
      second true e h = absurd (false≢true (sym e))
      second false e h = got 1 2 h (omega arith)
  gate-typed T o t =
      let z : links S n ≡ at os 0 = start (o 0 (omega arith)) in
      rw (got 0 2 t.0 (omega arith), got 1 2 t.0 (omega arith), z) t.2
  gate-typed F o t =
      let z : links S n ≡ at os 0 = start (o 0 (omega arith)) in
      rw (got 0 2 t.0 (omega arith), got 1 2 t.0 (omega arith), z) t.2
  gate-typed M o t =
      let z : links S n ≡ at os 0 = start (o 0 (omega arith)) in
      rw (got 0 3 t.0 (omega arith), got 1 3 t.0 (omega arith), got 2 3 t.0 (omega arith), z) t.2
  gate-typed E o t =
      let z : links S n ≡ at os 0 = start (o 0 (omega arith)) in
      rw (got 0 2 t.0 (omega arith), got 1 2 t.0 (omega arith), z) t.2
  gate-typed (IC true) o t =
      let z : links S n ≡ at os 0 = start (o 0 (omega arith)) in
      rw (got 0 3 t.0 (omega arith), got 1 3 t.0 (omega arith), got 2 3 t.0 (omega arith), z, o 1 (omega arith), o 2 (omega arith)) t.2
  gate-typed (IC false) o t =
      let z : links S n ≡ at os 0 = start (o 0 (omega arith)) in
      rw (got 0 3 t.0 (omega arith), got 1 3 t.0 (omega arith), got 2 3 t.0 (omega arith), z, o 1 (omega arith)) t.2
