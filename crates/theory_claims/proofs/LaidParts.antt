-- Laws of specs/LaidParts.antt, and what only they need.
use Rattle.std.specs.Prelude.{ℕ, zero, suc, ◌+◌, ◌≤◌, ◌<◌, ◌≡◌, refl, ◌⊎◌, true, false, List, [], ◌∷◌, ◌++◌, length}
use Rattle.std.proofs.Common.{sym, ◌∙◌, ap, subst, inl, inr, arith}
use Rattle.names.specs.Names.{Names, union, without}
use Rattle.graph.specs.Assembly.{name_count, Graph, gate, Gate, member_of, gate_outputs, Env, gate_of, sharing, shared_links, first_use, named, links_of, outputs, operators_of, up_from}
use Rattle.theory_reference.proofs.NameSets.{either, without_in}
use Rattle.theory_reference.specs.Plugged.{Each}
use Rattle.theory_reference.proofs.Binding.{named-others}
use Rattle.theory_claims.specs.Claims.{Claim, Claims}
use Rattle.theory_claims.specs.TypedGraphs.{claims_of, at, Typed-gate, Binds-only}
use Rattle.theory_claims.specs.Telling.{Told, Telling, plain, links, Typed-operator, Agree, above, Named, Outs}
use Rattle.theory_claims.proofs.Telling.{agree-self, agree_trans, agree-down, above-below, above_at, above-marked, named-up, outs-up}
use Rattle.theory_claims.proofs.Parts.{each_append, shareTold, share-below, sharing-typed, claims-nil, named-told, gate-typed}
use Rattle.theory_claims.specs.LaidParts.{Laid}

-- ---- two parts, one behind the other
module _ (n s a b : ℕ) where
  pub past_first : n + s + a ≤ n + (s + (a + b))
  past_first = omega arith

  pub past-second : n + s + a + b ≤ n + (s + (a + b))
  past-second = omega arith

pub up : (m k : ℕ) → m ≤ m + k
up m k = omega arith

module _ (f : Names) (g : Names) (a b : Graph) (n : ℕ) (env e : Env) (C : Claims) (is cs : List Claim) (S : Telling)
    (small : (x : ℕ) → union f g x ≡ true → x < name_count) (N : Named (union f g) env n S C)
    (A : Laid a (n + shared_links f g) (first_use f g n env) is (shareTold f g n env C S small N))
    (B : Laid b (n + shared_links f g + links_of a) e cs A.told) where
  abbrev m : ℕ
  m = n + shared_links f g

  abbrev top : ℕ
  top = n + (shared_links f g + (links_of a + links_of b))

  abbrev S₁ : Telling
  S₁ = shareTold f g n env C S small N

  pub two-agree : Agree n S B.told
  two-agree =
      agree_trans n m S S₁ B.told (up n (shared_links f g)) (share-below f g n env C S small N)
      (agree_trans m (m + links_of a) S₁ A.told B.told (up m (links_of a)) A.agree B.agree)

  pub two_typed : (U : Telling) → Agree top B.told U
      → Each (Typed-operator U) (sharing f g n env ++ (operators_of a m (first_use f g n env) ++ operators_of b (m + links_of a) e))
  two_typed U h =
      let hb : Agree (m + links_of a + links_of b) B.told U = agree-down _ top B.told U (past-second n (shared_links f g) (links_of a) (links_of b)) h in
      let ha : Agree (m + links_of a) A.told U =
      agree_trans (m + links_of a) (m + links_of a + links_of b) A.told B.told U (up (m + links_of a) (links_of b)) B.agree hb in
      let hs : Agree m S₁ U = agree_trans m (m + links_of a) S₁ A.told U (up m (links_of a)) A.agree ha in
      each_append (Typed-operator U) (sharing f g n env) (operators_of a m (first_use f g n env) ++ operators_of b (m + links_of a) e)
      (sharing-typed f g n env C S small N U hs)
      (each_append (Typed-operator U) (operators_of a m (first_use f g n env)) (operators_of b (m + links_of a) e) (A.typed U ha) (B.typed U hb))

-- ---- the names of the second part
module _ (ns : List ℕ) (h : Names) (env : Env) (n k : ℕ) (C D : Claims) (ls : List ℕ) (S U : Telling) (only : Binds-only ns C D)
    (N : Named (without h (member_of ns)) env n S C) (a : Agree n S U) (O : Outs k U ls (claims_of D ns)) (le : n ≤ k) where
  -- The names bound to outputs have the links and claims of those, the others their own.
  pub bound-named : Named h (named ns ls env) k U D
  bound-named = record { below = λ x e. below x e (either (member_of ns x)); claims = λ x e. claims x e (either (member_of ns x)) }
    where
      O' : Outs k U ls (claims_of D ns ++ [])
      O' = subst (Outs k U ls) (sym (claims-nil (claims_of D ns))) O

      N' : Named (without h (member_of ns)) env k U C
      N' = named-up (without h (member_of ns)) env n k S U C le a N

      below : (x : ℕ) → h x ≡ true → (member_of ns x ≡ true) ⊎ (member_of ns x ≡ false) → named ns ls env x < k
      below x e (inl i) = (named-told k U D [] ns ls env x O' i).0
      below x e (inr i) = subst (λ (l : ℕ). l < k) (sym (named-others ns ls env x i)) (N'.below x (without_in h (member_of ns) x e i))

      claims : (x : ℕ) → h x ≡ true → (member_of ns x ≡ true) ⊎ (member_of ns x ≡ false) → links U (named ns ls env x) ≡ D x
      claims x e (inl i) = (named-told k U D [] ns ls env x O' i).1
      claims x e (inr i) = ap (links U) (named-others ns ls env x i) ∙ N'.claims x (without_in h (member_of ns) x e i) ∙ sym (only x i)

-- ---- a gate behind a graph
up-outs : (p : ℕ) (S : Telling) (k m : ℕ) (cs : List Claim) → length cs ≡ m → k + m ≤ p → ((i : ℕ) → i < m → links S (k + i) ≡ at cs i) → Outs p S (up_from k m) cs
unfolding up_from
up-outs p S k zero [] e h t = tt
up-outs p S k zero (c ∷ cs) e h t = absurd (omega arith)
up-outs p S k (suc m) [] e h t = absurd (omega arith)
up-outs p S k (suc m) (c ∷ cs) e h t = (
  omega arith,
  (let z : k + 0 ≡ k = omega arith in ap (links S) (sym z) ∙ t 0 (omega arith)),
  up-outs p S (suc k) m cs (omega arith) (omega arith) (λ i l. let z : suc k + i ≡ k + suc i = omega arith in ap (links S) z ∙ t (suc i) (omega arith)),
)

module _ (g : Gate) (a : Graph) (n : ℕ) (env : Env) (is cs : List Claim) (S : Telling) (A : Laid a n env is S) (T : Typed-gate g is cs) where
  abbrev o : ℕ
  o = n + links_of a

  abbrev gateTold : Telling
  gateTold = above o A.told (λ i. plain (at cs i))

  gate-links : (U : Telling) → Agree (o + gate_outputs g) gateTold U → (i : ℕ) → i < gate_outputs g → links U (o + i) ≡ at cs i
  gate-links U h i l = ap (λ (t : Told). t.link) (h (o + i) (omega arith) ∙ above_at o A.told (λ i. plain (at cs i)) i)

  pub gate-laid : Laid (gate g a) n env cs S
  unfolding links_of outputs operators_of
  gate-laid =
      record {
        told = gateTold;
        agree = agree_trans n o S A.told gateTold (up n (links_of a)) A.agree (above-below o A.told (λ i. plain (at cs i)));
        marked = above-marked o A.told (λ i. plain (at cs i)) A.marked (λ i. refl);
        outs = up-outs (n + (links_of a + gate_outputs g)) gateTold o (gate_outputs g) cs T.1 (omega arith) (gate-links gateTold (agree-self (o + gate_outputs g) gateTold));
        typed = λ U h. gate-each U (λ l k. h l (omega arith));
      }
    where
      gate-each : (U : Telling) → Agree (o + gate_outputs g) gateTold U → Each (Typed-operator U) (operators_of a n env ++ (gate_of g (outputs a n env) o ∷ []))
      gate-each U h =
          let ha : Agree o A.told U =
          agree_trans o (o + gate_outputs g) A.told gateTold U (up o (gate_outputs g)) (above-below o A.told (λ i. plain (at cs i))) h in
          each_append (Typed-operator U) (operators_of a n env) (gate_of g (outputs a n env) o ∷ []) (A.typed U ha)
          (gate-typed o U (outputs a n env) is o cs (outs-up o o A.told U (omega arith) ha (outputs a n env) is A.outs) g (gate-links U h) T, tt)
