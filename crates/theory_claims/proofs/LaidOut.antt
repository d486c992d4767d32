-- A graph whose parts have claims that fit (TypedGraphs.antt), laid out: each of its links has a claim, each of its operators keeps them, and its
-- outputs have theirs. Assumes that the names' links lie below the graph's own and have the names' claims.
use Rattle.std.specs.Prelude.{ℕ, ◌+◌, refl, List, [], ◌∷◌, ◌++◌}
use Rattle.std.proofs.Common.{sym, subst, arith, eq-eqb}
use Rattle.names.specs.Names.{Names, without}
use Rattle.graph.specs.Assembly.{Graph, wire, nothing, beside, bind, gate, loop, free, member_of, shared_links, Env, first_use, second_use, named, spread, total, links_of, outputs, operators_of}
use Rattle.graph.specs.Fit.{Fit}
use Rattle.theory_reference.proofs.GraphLayout.{free-small}
use Rattle.theory_claims.specs.Claims.{Claim, truths, Claims}
use Rattle.theory_claims.specs.TypedGraphs.{claims_of}
use Rattle.theory_claims.proofs.TypedGraphs.{Typed}
use Rattle.theory_claims.specs.Telling.{Telling, Marked, Named, Outs}
use Rattle.theory_claims.proofs.Telling.{agree-self, named-up, outs-up, outs-append}
use Rattle.theory_claims.proofs.Parts.{shareTold, share-marked, first-named, second-named}
use Rattle.theory_claims.proofs.Rings.{body-named, body-marked}
use Rattle.theory_claims.specs.LaidParts.{Laid}
use Rattle.theory_claims.proofs.LaidParts.{past_first, past-second, up, two-agree, two_typed, bound-named, gate-laid}
use Rattle.theory_claims.proofs.LoopLaid.{ringTelling, loop-laid}

pub laid_out : (g : Graph) → Fit g → (C : Claims) (cs : List Claim) → Typed g C cs → (n : ℕ) (env : Env) (S : Telling) → Named (free g) env n S C → Marked S
    → Laid g n env cs S
unfolding free links_of outputs operators_of
laid_out (wire x) F C cs T n env S N M =
    record {
      told = S;
      agree = agree-self n S;
      marked = M;
      outs = subst (Outs (n + 0) S (env x ∷ [])) (sym T) (omega (arith, N.below x (eq-eqb x x refl)), N.claims x (eq-eqb x x refl), tt);
      typed = λ U h. tt;
    }
laid_out nothing F C cs T n env S N M =
    record { told = S; agree = agree-self n S; marked = M; outs = subst (Outs (n + 0) S []) (sym T) tt; typed = λ U h. tt }
laid_out (beside a b) F C cs T n env S N M =
    let f : Names = free a in
    let g : Names = free b in
    let m : ℕ = n + shared_links f g in
    let e₁ : Env = first_use f g n env in
    let e₂ : Env = second_use f g n env in
    let small = free-small (beside a b) F in
    let S₁ : Telling = shareTold f g n env C S small N in
    let A : Laid a m e₁ T.0 S₁ = laid_out a F.0 C T.0 T.3 m e₁ S₁ (first-named f g n env C S small N) (share-marked f g n env C S small N M) in
    let B : Laid b (m + links_of a) e₂ T.1 A.told =
    laid_out b F.1 C T.1 T.4 (m + links_of a) e₂ A.told
    (named-up g e₂ m (m + links_of a) S₁ A.told C (up m (links_of a)) A.agree (second-named f g n env C S small N)) A.marked in
    let top : ℕ = n + (shared_links f g + (links_of a + links_of b)) in
    record {
      told = B.told;
      agree = two-agree f g a b n env e₂ C T.0 T.1 S small N A B;
      marked = B.marked;
      outs = subst (Outs top B.told (outputs a m e₁ ++ outputs b (m + links_of a) e₂)) (sym T.2)
          (outs-append top B.told (outputs a m e₁) (outputs b (m + links_of a) e₂) T.0 T.1
          (outs-up (m + links_of a) top A.told B.told (past_first n (shared_links f g) (links_of a) (links_of b)) B.agree (outputs a m e₁) T.0 A.outs)
          (outs-up (m + links_of a + links_of b) top B.told B.told (past-second n (shared_links f g) (links_of a) (links_of b)) (agree-self (m + links_of a + links_of b) B.told)
          (outputs b (m + links_of a) e₂) T.1 B.outs));
      typed = two_typed f g a b n env e₂ C T.0 T.1 S small N A B;
    }
laid_out (bind ns a b) F C cs T n env S N M =
    let D : Claims = T.0 in
    let f : Names = free a in
    let g : Names = without (free b) (member_of ns) in
    let m : ℕ = n + shared_links f g in
    let e₁ : Env = first_use f g n env in
    let oa : List ℕ = outputs a m e₁ in
    let link : Env = named ns oa (second_use f g n env) in
    let small = free-small (bind ns a b) F in
    let S₁ : Telling = shareTold f g n env C S small N in
    let A : Laid a m e₁ (claims_of D ns) S₁ =
    laid_out a F.0 C (claims_of D ns) T.2 m e₁ S₁ (first-named f g n env C S small N) (share-marked f g n env C S small N M) in
    let B : Laid b (m + links_of a) link cs A.told =
    laid_out b F.1 D cs T.3 (m + links_of a) link A.told
    (bound-named ns (free b) (second_use f g n env) m (m + links_of a) C D oa S₁ A.told T.1 (second-named f g n env C S small N) A.agree A.outs
    (up m (links_of a))) A.marked in
    record {
      told = B.told;
      agree = two-agree f g a b n env link C (claims_of D ns) cs S small N A B;
      marked = B.marked;
      outs = outs-up (m + links_of a + links_of b) (n + (shared_links f g + (links_of a + links_of b))) B.told B.told
          (past-second n (shared_links f g) (links_of a) (links_of b)) (agree-self (m + links_of a + links_of b) B.told) (outputs b (m + links_of a) link) cs B.outs;
      typed = two_typed f g a b n env link C (claims_of D ns) cs S small N A B;
    }
laid_out (gate g a) F C cs T n env S N M = gate-laid g a n env T.0 cs S (laid_out a F.0 C T.0 T.1 n env S N M) T.2
laid_out (loop ns a b) F C cs T n env S N M =
    let D : Claims = T.0 in
    let f : Names = free a in
    let g : Names = without (free b) (member_of ns) in
    let m : ℕ = n + shared_links f g in
    let o : ℕ = m + links_of a in
    let e₁ : Env = first_use f g n env in
    let small = free-small (loop ns a b) F in
    let small_b = free-small b F.1 in
    let S₁ : Telling = shareTold f g n env C S small N in
    let A : Laid a m e₁ (claims_of D ns) S₁ =
    laid_out a F.0 C (claims_of D ns) T.3 m e₁ S₁ (first-named f g n env C S small N) (share-marked f g n env C S small N M) in
    let S₂ : Telling = ringTelling ns a b n env C D cs S small N A small_b in
    let B : Laid b (o + total (free b)) (spread (free b) o) (truths ∷ (claims_of D ns ++ cs)) S₂ =
    laid_out b F.1 D (truths ∷ (claims_of D ns ++ cs)) T.4 (o + total (free b)) (spread (free b) o) S₂
    (body-named (free b) (member_of ns) o D A.told small_b) (body-marked (free b) (member_of ns) o D A.told small_b A.marked) in
    loop-laid ns a b n env C D cs S small N A small_b B T.1 T.2
