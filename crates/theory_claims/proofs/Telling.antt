-- Laws of specs/Telling.antt, and what only they need.
use Prim.Native.Nat.{ℕ, zero, suc, ◌+◌, ◌-◌, ◌≤◌, ◌<◌}
use Rattle.std.specs.Prelude.{◌≡◌, refl, Bool, true, false, cond, length, get_or, drop, ltb}
use Rattle.std.proofs.Common.{◌∙◌, ap, lt-ltb, le-ltb, arith}
use mathlib.Core.List.{List, [], ◌∷◌, ◌++◌}
use Rattle.names.specs.Names.{Names}
use Rattle.network.specs.Values.{err-value}
use Rattle.graph.specs.Assembly.{Env, nth}
use Rattle.theory_reference.specs.Plugged.{link-of}
use Rattle.theory_claims.specs.Claims.{Claim, Meets, Claims}
use Rattle.theory_claims.specs.TypedGraphs.{claims_of, at}
use Rattle.theory_claims.specs.Telling.{Told, Telling, links, Agree, above, Marked, Named, Outs}

pub agree-self : (n : ℕ) (S : Telling) → Agree n S S
agree-self n S l h = refl

pub agree_trans : (m n : ℕ) (S U W : Telling) → m ≤ n → Agree m S U → Agree n U W → Agree m S W
agree_trans m n S U W h p q l k = q l (omega arith) ∙ p l k

pub agree-down : (m n : ℕ) (S U : Telling) → m ≤ n → Agree n S U → Agree m S U
agree-down m n S U h p l k = p l (omega arith)

pub above-below : (n : ℕ) (S h : Telling) → Agree n S (above n S h)
unfolding above
above-below n S h l k = ap (λ (b : Bool). cond b (S l) (h (l - n))) (lt-ltb l n k)

pub above_at : (n : ℕ) (S h : Telling) (i : ℕ) → above n S h (n + i) ≡ h i
unfolding above
above_at n S h i =
    let e : n + i - n ≡ i = omega arith in
    ap (λ (b : Bool). cond b (S (n + i)) (h (n + i - n))) (le-ltb (n + i) n (omega arith)) ∙ ap h e

pub above-marked : (n : ℕ) (S h : Telling) → Marked S → Marked h → Marked (above n S h)
unfolding above
above-marked n S h p q l = go (ltb l n)
  where
    go : (b : Bool) → Meets (cond b (S l) (h (l - n))).register err-value
    go true = p l
    go false = q (l - n)

pub named-up : (f : Names) (env : Env) (m n : ℕ) (S U : Telling) (C : Claims) → m ≤ n → Agree m S U → Named f env m S C → Named f env n U C
named-up f env m n S U C h a N =
    record {
      below = λ x e. low (env x) (N.below x e);
      claims = λ x e. ap (λ (t : Told). t.link) (a (env x) (N.below x e)) ∙ N.claims x e;
    }
  where
    low : (l : ℕ) → l < m → l < n
    low l k = omega arith

pub outs-up : (p q : ℕ) (S U : Telling) → p ≤ q → Agree p S U → (ls : List ℕ) (cs : List Claim) → Outs p S ls cs → Outs q U ls cs
outs-up p q S U h a [] [] o = tt
outs-up p q S U h a [] (c ∷ cs) o = absurd o
outs-up p q S U h a (l ∷ ls) [] o = absurd o
outs-up p q S U h a (l ∷ ls) (c ∷ cs) o =
    (low o.0, ap (λ (t : Told). t.link) (a l o.0) ∙ o.1, outs-up p q S U h a ls cs o.2)
  where
    low : l < p → l < q
    low k = omega arith

module _ (p : ℕ) (S : Telling) where
  pub outs-append : (ls ms : List ℕ) (cs ds : List Claim) → Outs p S ls cs → Outs p S ms ds → Outs p S (ls ++ ms) (cs ++ ds)
  outs-append [] ms [] ds o r = r
  outs-append [] ms (c ∷ cs) ds o r = absurd o
  outs-append (l ∷ ls) ms [] ds o r = absurd o
  outs-append (l ∷ ls) ms (c ∷ cs) ds o r = (o.0, o.1, outs-append ls ms cs ds o.2 r)

  pub outs-head : (ls : List ℕ) (c : Claim) (cs : List Claim) → Outs p S ls (c ∷ cs) → (get_or ls 0 0 < p) × (links S (get_or ls 0 0) ≡ c)
  outs-head [] c cs o = absurd o
  outs-head (l ∷ ls) c cs o = (o.0, o.1)

  pub outs-tail : (ls : List ℕ) (c : Claim) (cs : List Claim) → Outs p S ls (c ∷ cs) → Outs p S (drop 1 ls) cs
  outs-tail [] c cs o = absurd o
  outs-tail (l ∷ ls) c cs o = o.2

  -- behind the first of them
  outs-behind : (ns ls : List ℕ) (C : Claims) (cs : List Claim) → Outs p S ls (claims_of C ns ++ cs) → Outs p S (drop (length ns) ls) cs
  outs-behind [] ls C cs o = o
  outs-behind (x ∷ ns) [] C cs o = absurd o
  outs-behind (x ∷ ns) (l ∷ ls) C cs o = outs-behind ns ls C cs o.2

  pub outs-rest : (ns ls : List ℕ) (C : Claims) (c : Claim) (cs : List Claim) → Outs p S ls (c ∷ (claims_of C ns ++ cs)) → Outs p S (drop (suc (length ns)) ls) cs
  outs-rest ns [] C c cs o = absurd o
  outs-rest ns (l ∷ ls) C c cs o = outs-behind ns ls C cs o.2

  pub outs-at : (ls : List ℕ) (cs : List Claim) → Outs p S ls cs → (i : ℕ) → i < length cs → links S (link-of (nth ls i)) ≡ at cs i
  unfolding nth
  outs-at [] [] o i h = absurd (omega arith)
  outs-at [] (c ∷ cs) o i h = absurd o
  outs-at (l ∷ ls) [] o i h = absurd o
  outs-at (l ∷ ls) (c ∷ cs) o zero h = o.1
  outs-at (l ∷ ls) (c ∷ cs) o (suc i) h = outs-at ls cs o.2 i (omega arith)
