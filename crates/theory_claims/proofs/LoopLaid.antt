-- What is told of a loop laid out, from what is told of what starts it and of its body. Assumes that each of the body's names may be an err.
use Prim.Native.Nat.{ℕ, ◌+◌, ◌-◌, ◌≤◌, ◌<◌}
use Rattle.std.specs.Prelude.{◌≡◌, refl, true, false, List, [], ◌∷◌, ◌++◌, get_or, drop}
use Rattle.std.proofs.Common.{sym, ◌∙◌, ap, subst, arith}
use Rattle.names.specs.Names.{Names, union, without}
use Rattle.network.specs.Values.{err-value}
use Rattle.graph.specs.Assembly.{name_count, Graph, loop, free, member_of, chain_links, Env, sharing, shared_links, first_use, second_use, named, spread, chain, chain_ends, ring, total, listed, links_of, outputs, operators_of}
use Rattle.theory_reference.proofs.NameSets.{without_in}
use Rattle.theory_reference.specs.Plugged.{Each}
use Rattle.theory_claims.specs.Claims.{Claim, Meets, truths, Claims}
use Rattle.theory_claims.specs.TypedGraphs.{claims_of, Binds-only}
use Rattle.theory_claims.specs.Telling.{Told, Telling, plain, links, Typed-operator, Agree, above, Named, Outs}
use Rattle.theory_claims.proofs.Telling.{agree-self, agree_trans, agree-down, above-below, above_at, above-marked, outs-up, outs-head, outs-tail, outs-rest}
use Rattle.theory_claims.proofs.Parts.{each_append, shareTold, share-below, second-named, sharing-typed, claims-nil, named-told}
use Rattle.theory_claims.proofs.Rings.{bodyTold, told-inner, inner-low, chain-typed, ends-told, ring-typed}
use Rattle.theory_claims.specs.Rings.{ring_told}
use Rattle.theory_claims.specs.LaidParts.{Laid}
use Rattle.theory_claims.proofs.LaidParts.{up}

whole : (n s a t b c : ℕ) → n + s + a + t + b + c ≤ n + (s + (a + (t + (b + c))))
whole n s a t b c = omega arith

below-whole : (n s a t b c : ℕ) → n + s + a + t + b ≤ n + (s + (a + (t + (b + c))))
below-whole n s a t b c = omega arith

module _ (ns : List ℕ) (a b : Graph) (n : ℕ) (env : Env) (C D : Claims) (cs : List Claim) (S : Telling)
    (small : (x : ℕ) → union (free a) (without (free b) (member_of ns)) x ≡ true → x < name_count)
    (N : Named (union (free a) (without (free b) (member_of ns))) env n S C)
    (A : Laid a (n + shared_links (free a) (without (free b) (member_of ns))) (first_use (free a) (without (free b) (member_of ns)) n env) (claims_of D ns)
    (shareTold (free a) (without (free b) (member_of ns)) n env C S small N))
    (small_b : (x : ℕ) → free b x ≡ true → x < name_count) where
  abbrev g : Names
  g = without (free b) (member_of ns)

  abbrev m : ℕ
  m = n + shared_links (free a) g

  abbrev o : ℕ
  o = m + links_of a

  abbrev s : ℕ
  s = total (free b)

  abbrev c : ℕ
  c = o + s + links_of b

  abbrev inner : Env
  inner = spread (free b) o

  abbrev e₂ : Env
  e₂ = second_use (free a) g n env

  abbrev starts : List ℕ
  starts = outputs a m (first_use (free a) g n env)

  abbrev ends : List ℕ
  ends = outputs b (o + s) inner

  abbrev it : ℕ
  it = get_or ends 0 0

  abbrev S₁ : Telling
  S₁ = shareTold (free a) g n env C S small N

  abbrev pub ringTelling : Telling
  ringTelling = bodyTold (free b) (member_of ns) o D A.told small_b

  module _ (B : Laid b (o + s) inner (truths ∷ (claims_of D ns ++ cs)) ringTelling) (only : Binds-only ns C D) (errs : (x : ℕ) → free b x ≡ true → Meets (D x) err-value) where
    abbrev loopTold : Telling
    loopTold = above c B.told (λ i. plain truths)

    module _ (U : Telling) (h : Agree (c + chain_links s) loopTold U) where
      agree-B : Agree c B.told U
      agree-B = agree_trans c (c + chain_links s) B.told loopTold U (up c (chain_links s)) (above-below c B.told (λ i. plain truths)) h

      agree-ring : Agree (o + s) ringTelling U
      agree-ring = agree_trans (o + s) c ringTelling B.told U (up (o + s) (links_of b)) B.agree agree-B

      agree-A : Agree o A.told U
      agree-A =
          agree_trans o (o + s) A.told ringTelling U (up o s) (above-below o A.told (λ i. ring_told (member_of ns) D (get_or (listed (free b)) i 0))) agree-ring

      agree-shared : Agree m S₁ U
      agree-shared = agree_trans m o S₁ A.told U (up m (links_of a)) A.agree agree-A

      body-outs : Outs c U ends (truths ∷ (claims_of D ns ++ cs))
      body-outs = outs-up c c B.told U (omega arith) agree-B ends (truths ∷ (claims_of D ns ++ cs)) B.outs

      start-outs : Outs o U starts (claims_of D ns ++ [])
      start-outs = subst (Outs o U starts) (sym (claims-nil (claims_of D ns))) (outs-up o o A.told U (omega arith) agree-A starts (claims_of D ns) A.outs)

      iter-told : links U it ≡ truths
      iter-told = (outs-head c U ends truths (claims_of D ns ++ cs) body-outs).1

      chain-told : (i : ℕ) → c ≤ i → i < c + chain_links s → links U i ≡ truths
      chain-told i p q =
          let z : c + (i - c) ≡ i = omega arith in
          ap (λ (t : Told). t.link) (h i q ∙ ap loopTold (sym z) ∙ above_at c B.told (λ i. plain truths) (i - c))

      own-told : (x : ℕ) → free b x ≡ true → member_of ns x ≡ false → links U (e₂ x) ≡ D x
      own-told x e k =
          let M : Named g e₂ m S₁ C = second-named (free a) g n env C S small N in
          let w = without_in (free b) (member_of ns) x e k in
          ap (λ (t : Told). t.link) (agree-shared (e₂ x) (M.below x w)) ∙ M.claims x w ∙ sym (only x k)

      loop-ring : Each (Typed-operator U) (ring (listed (free b)) (member_of ns) (chain_ends it c s) (named ns (drop 1 ends) env) (named ns starts env) e₂ inner)
      loop-ring =
          ring-typed U (free b) (member_of ns) D (chain_ends it c s) (named ns (drop 1 ends) env) (named ns starts env) e₂ inner
          (λ x e. agree-ring (inner x) (inner-low (free b) (member_of ns) o D A.told small_b x e) ∙ told-inner (free b) (member_of ns) o D A.told small_b x e)
          errs
          (ends-told U truths it c s iter-told chain-told)
          (λ x e. (
            (named-told c U D cs ns (drop 1 ends) env x (outs-tail c U ends truths (claims_of D ns ++ cs) body-outs) e).1,
            (named-told o U D [] ns starts env x start-outs e).1,
          ))
          own-told

      loop-typed : Each (Typed-operator U)
          (sharing (free a) g n env
          ++ (operators_of a m (first_use (free a) g n env)
          ++ (operators_of b (o + s) inner
          ++ (chain it c s ++ ring (listed (free b)) (member_of ns) (chain_ends it c s) (named ns (drop 1 ends) env) (named ns starts env) e₂ inner))))
      loop-typed =
          each_append (Typed-operator U) (sharing (free a) g n env) _ (sharing-typed (free a) g n env C S small N U agree-shared)
          (each_append (Typed-operator U) (operators_of a m (first_use (free a) g n env)) _ (A.typed U agree-A)
          (each_append (Typed-operator U) (operators_of b (o + s) inner) _ (B.typed U agree-B)
          (each_append (Typed-operator U) (chain it c s) _ (chain-typed U truths it c s iter-told chain-told) loop-ring)))

    pub loop-laid : Laid (loop ns a b) n env cs S
    unfolding links_of outputs operators_of
    loop-laid =
        record {
          told = loopTold;
          agree = agree_trans n m S S₁ loopTold (up n (shared_links (free a) g)) (share-below (free a) g n env C S small N) (agree-shared loopTold (agree-self (c + chain_links s) loopTold));
          marked = above-marked c B.told (λ i. plain truths) B.marked (λ i. refl);
          outs = outs-rest top loopTold ns ends D truths cs
              (outs-up c top loopTold loopTold (below-whole n (shared_links (free a) g) (links_of a) s (links_of b) (chain_links s)) (agree-self c loopTold) ends (truths ∷ (claims_of D ns ++ cs)) (body-outs loopTold (agree-self (c + chain_links s) loopTold)));
          typed = λ U h. loop-typed U (agree-down (c + chain_links s) top loopTold U (whole n (shared_links (free a) g) (links_of a) s (links_of b) (chain_links s)) h);
        }
      where
        top : ℕ
        top = n + (shared_links (free a) g + (links_of a + (s + (links_of b + chain_links s))))
