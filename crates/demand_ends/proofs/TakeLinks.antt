-- Laws of specs/TakeLinks.antt, and what only they need.
use Rattle.std.specs.Prelude.{ℕ, zero, suc, ◌<◌, ◌≡◌, refl, ◌≢◌, ◌⊎◌, List, [], ◌∷◌, length, get_or}
use Rattle.std.proofs.Common.{sym, ap, ap₂, ◌∙◌, subst, inl, inr, arith}
use Rattle.network.specs.Net.{Token, Demand, Links, head, pop, Able, act, label}
use Rattle.network.proofs.Net.{pop-other}
use Rattle.network.specs.Ends.{collect, take-demand}
use Rattle.network.specs.Uses.{In}
use Rattle.theory_pieces.specs.Sets.{Different}
use Rattle.theory_verdicts.specs.Owed.{credit_link}
use Rattle.demand_ends.specs.TakeLinks.{heads_of, popped, pops, taking}

popped-first : (k l : ℕ) (ls : List ℕ) (q : Links) → popped k ls (pop l q) ≡ popped (suc k) (l ∷ ls) q
popped-first zero l ls q = refl
popped-first (suc k) l ls q = ap (pop (get_or ls k 0)) (popped-first k l ls q)

pops-popped : (ls : List ℕ) (q : Links) → pops ls q ≡ popped (length ls) ls q
pops-popped [] q = refl
pops-popped (l ∷ ls) q = pops-popped ls (pop l q) ∙ popped-first (length ls) l ls q

pub in-at : (ls : List ℕ) (j : ℕ) → j < length ls → In (get_or ls j 0) ls
in-at [] j h = absurd (omega arith)
in-at (l ∷ ls) zero h = inl refl
in-at (l ∷ ls) (suc j) h = inr (in-at ls j (omega arith))

pub different-at : (ls : List ℕ) → Different ls → (i j : ℕ) → i < j → j < length ls → get_or ls j 0 ≢ get_or ls i 0
different-at [] d i j h k = absurd (omega arith)
different-at (l ∷ ls) d i zero h k = absurd (omega arith)
different-at (l ∷ ls) d zero (suc j) h k = λ e. d.0 (subst (λ x. In x ls) e (in-at ls j (omega arith)))
different-at (l ∷ ls) d (suc i) (suc j) h k = different-at ls d.1 i j (omega arith) (omega arith)

-- A link not yet popped is as it was.
pub popped-other : (j : ℕ) (ls : List ℕ) (q : Links) (l : ℕ) → ((i : ℕ) → i < j → l ≢ get_or ls i 0) → popped j ls q l ≡ q l
popped-other zero ls q l h = refl
popped-other (suc j) ls q l h = pop-other (get_or ls j 0) l (popped j ls q) (h j (omega arith)) ∙ popped-other j ls q l (λ i k. h i (omega arith))

heads-pop : (ls : List ℕ) (l : ℕ) (q : Links) → (In l ls → ⊥) → heads_of ls (pop l q) ≡ heads_of ls q
heads-pop [] l q n = refl
heads-pop (k ∷ ls) l q n =
    ap₂ (λ (t : Token) (ts : List Token). t ∷ ts) (ap head (pop-other l k q (λ e. n (inl (sym e))))) (heads-pop ls l q (λ i. n (inr i)))

-- ---- one value from each port
collect-acts : (ls : List ℕ) (k : List Token → Demand) (q : Links) → Different ls → act (collect ls k) q ≡ act (k (heads_of ls q)) (pops ls q)
collect-acts [] k q d = refl
collect-acts (l ∷ ls) k q d =
    collect-acts ls (λ ts. k (head (q l) ∷ ts)) (pop l q) d.1
    ∙ ap (λ (ts : List Token). act (k (head (q l) ∷ ts)) (pops ls (pop l q))) (heads-pop ls l q d.0)

collect-label : (ls : List ℕ) (k : List Token → Demand) (q : Links) → Different ls → label (collect ls k) q ≡ label (k (heads_of ls q)) (pops ls q)
collect-label [] k q d = refl
collect-label (l ∷ ls) k q d =
    collect-label ls (λ ts. k (head (q l) ∷ ts)) (pop l q) d.1
    ∙ ap (λ (ts : List Token). label (k (head (q l) ∷ ts)) (pops ls (pop l q))) (heads-pop ls l q d.0)

module _ (cap : ℕ → ℕ) where
  collect-waits : (ls : List ℕ) (k : List Token → Demand) (q : Links) → Different ls → Able cap (collect ls k) q
      → ((l : ℕ) → In l ls → 0 < length (q l)) × Able cap (k (heads_of ls q)) (pops ls q)
  collect-waits [] k q d a = (λ l i. absurd i, a)
  collect-waits (l ∷ ls) k q d a =
      let ih = collect-waits ls (λ ts. k (head (q l) ∷ ts)) (pop l q) d.1 a.1 in
      (each ih.0, subst (λ ts. Able cap (k (head (q l) ∷ ts)) (pops ls (pop l q))) (heads-pop ls l q d.0) ih.1)
    where
      each : ((n : ℕ) → In n ls → 0 < length (pop l q n)) → (n : ℕ) → (n ≡ l) ⊎ In n ls → 0 < length (q n)
      each w n (inl e) = rw e a.0
      each w n (inr i) = rw (pop-other l n q (λ e. d.0 (subst (λ x. In x ls) e i))) at (w n i)

  waits-collect : (ls : List ℕ) (k : List Token → Demand) (q : Links) → Different ls → ((l : ℕ) → In l ls → 0 < length (q l))
      → Able cap (k (heads_of ls q)) (pops ls q) → Able cap (collect ls k) q
  waits-collect [] k q d h a = a
  waits-collect (l ∷ ls) k q d h a = (
    h l (inl refl),
    waits-collect ls (λ ts. k (head (q l) ∷ ts)) (pop l q) d.1
        (λ n i. rw (pop-other l n q (λ e. d.0 (subst (λ x. In x ls) e i))) (h n (inr i)))
        (subst (λ ts. Able cap (k (head (q l) ∷ ts)) (pops ls (pop l q))) (sym (heads-pop ls l q d.0)) a),
  )

module _ (ls : List ℕ) (differ : Different ls) (q : Links) where
  -- One value from each result port, and one set less untaken.
  pub take-acts : act (take-demand credit_link ls) q ≡ pop credit_link (popped (length ls) ls q)
  take-acts = collect-acts ls taking q differ ∙ ap (pop credit_link) (pops-popped ls q)

  -- What take hands out.
  pub take-label : label (take-demand credit_link ls) q ≡ heads_of ls q
  take-label = collect-label ls taking q differ

  module _ (near : (l : ℕ) → In l ls → l < credit_link) (cap : ℕ → ℕ) where
    credit-kept : pops ls q credit_link ≡ q credit_link
    credit-kept =
        ap (λ (p : Links). p credit_link) (pops-popped ls q)
        ∙ popped-other (length ls) ls q credit_link (λ i h e. let z : get_or ls i 0 < credit_link = near (get_or ls i 0) (in-at ls i h) in omega arith)

    -- Take can be made when a token waits on each, and then only.
    pub take-waits : Able cap (take-demand credit_link ls) q → (0 < length (q credit_link)) × ((l : ℕ) → In l ls → 0 < length (q l))
    take-waits a =
        let w = collect-waits cap ls taking q differ a in
        (rw credit-kept at w.1.0, w.0)

    pub waits-take : 0 < length (q credit_link) → ((l : ℕ) → In l ls → 0 < length (q l)) → Able cap (take-demand credit_link ls) q
    waits-take c h = waits-collect cap ls taking q differ h (rw credit-kept c, tt)
