-- A loop as the code has written it: its start, its body on links of their own, the chain of copies of iter?, and the ring of FM and FS gates.
-- Document 01, "The graph": "A for puts FM on its identifiers and FS on the body's other names, trigger included." Assumes of the body what an
-- admitted formula gives.
use Rattle.std.specs.Prelude.{ℕ, zero, suc, ◌+◌, ◌-◌, ◌*◌, ◌≤◌, ◌<◌, ◌≡◌, refl, Bool, true, false, List, [], ◌∷◌, length, get_or, take, drop, eqb, ltb}
use Rattle.std.proofs.Math.Path.{sym, ap}
use Rattle.std.proofs.Common.{ap₂, ◌∙◌, subst, get_or-take, eq-eqb, ltb-true, ltb-false, arith}
use Rattle.std.proofs.lemmas.Bool.{false≢true}
use Rattle.names.specs.Names.{Names, common, without, range, mask, members, size_from, names_in}
use Rattle.names.proofs.Counts.{size_from-cong}
use Rattle.names.proofs.Sets.{known-has}
use Rattle.theory_yields.specs.Naming.{Small}
use Rattle.theory_yields.proofs.Naming.{or_left, or_right, member-members, member-up_from, length-up_from}
use Rattle.theory_yields.proofs.FitGraphs.{count-loop}
use Rattle.graph.specs.Yields.{output_count}
use Rattle.graph.specs.Assembly.{Graph, loop, Env, Operator, free, member_of, total, rank, first_use, second_use, named, spread, up_from, chain, chain_ends, chain_links, ring, ring_gate}
use Rattle.maker_laid.specs.Encode.{encoded, written}
use Rattle.maker_laid.specs.Emitted.{link_in, assigned}
use Rattle.maker_laid.specs.Masked.{list_of, list-is}
use Rattle.maker_laid.specs.Environments.{Agrees, listed_small}
use Rattle.maker_laid.specs.Laid.{Laid, laid-loop, ringOf, listed-length}
use Rattle.maker_laid.specs.Done.{Done, Forked, fork-first, fork-second, fork-copied, up-agrees, named-take}

-- ---- the ring

ring-same : (xs : List ℕ) (ids ids' : Names) (cs : List ℕ) (it it' st st' own own' out out' : Env)
    → ((x : ℕ) → member_of xs x ≡ true → (ids x ≡ ids' x) × (it x ≡ it' x) × (st x ≡ st' x) × (own x ≡ own' x) × (out x ≡ out' x))
    → ring xs ids cs it st own out ≡ ring xs ids' cs it' st' own' out'
unfolding ring member_of
ring-same [] ids ids' cs it it' st st' own own' out out' h = refl
ring-same (x ∷ xs) ids ids' [] it it' st st' own own' out out' h = refl
ring-same (x ∷ xs) ids ids' (c ∷ cs) it it' st st' own own' out out' h =
    let p = h x (or_left (eqb x x) (member_of xs x) (eq-eqb x x refl)) in
    let r = ring-same xs ids ids' cs it it' st st' own own' out out' (λ y m. h y (or_right (eqb x y) (member_of xs y) m)) in
    λ i. ring_gate (p.0 i) c (p.1 i) (p.2 i) (p.3 i) (p.4 i) ∷ r i

ring-take : (xs : List ℕ) (ids : Names) (cs : List ℕ) (it st own out : Env) → ring xs ids (take (length xs) cs) it st own out ≡ ring xs ids cs it st own out
unfolding ring
ring-take [] ids cs it st own out = refl
ring-take (x ∷ xs) ids [] it st own out = refl
ring-take (x ∷ xs) ids (c ∷ cs) it st own out =
    ap (λ (r : List Operator). ring_gate (ids x) c (it x) (st x) (own x) (out x) ∷ r) (ring-take xs ids cs it st own out)

-- ---- parts of a list

take-drop-take : (k c : ℕ) (ls : List ℕ) → 1 + k ≤ c → take k (drop 1 (take c ls)) ≡ take k (drop 1 ls)
take-drop-take k zero ls h = absurd (omega arith)
take-drop-take k (suc c) [] h = refl
take-drop-take k (suc c) (l ∷ ls) h = shorter k c ls (omega arith)
  where
    shorter : (i j : ℕ) (xs : List ℕ) → i ≤ j → take i (take j xs) ≡ take i xs
    shorter zero j xs q = refl
    shorter (suc i) zero xs q = absurd (omega arith)
    shorter (suc i) (suc j) [] q = refl
    shorter (suc i) (suc j) (x ∷ xs) q = ap (λ (r : List ℕ). x ∷ r) (shorter i j xs (omega arith))

drop_of_take : (k c : ℕ) (ls : List ℕ) → k ≤ c → drop k (take c ls) ≡ take (c - k) (drop k ls)
drop_of_take zero c ls h = let z : c - 0 ≡ c = omega arith in ap (λ (j : ℕ). take j ls) (sym z)
drop_of_take (suc k) zero ls h = absurd (omega arith)
drop_of_take (suc k) (suc c) [] h = sym (take_none (suc c - suc k))
  where
    take_none : (j : ℕ) → take {A = ℕ} j [] ≡ []
    take_none zero = refl
    take_none (suc j) = refl
drop_of_take (suc k) (suc c) (l ∷ ls) h = let z : suc c - suc k ≡ c - k = omega arith in drop_of_take k c ls (omega arith) ∙ ap (λ (j : ℕ). take j (drop k ls)) (sym z)

-- ---- the names of the body

module _ (f : Names) (k : ℕ) (is : k ≡ mask f) where
  same_names : (x : ℕ) → x < 33 → names_in k x ≡ f x
  unfolding names_in
  same_names x h = known-has k f is x h

  pub ranked : (n : ℕ) (inner : List ℕ) → ((x : ℕ) → x < 33 → get_or inner x 0 ≡ n + size_from x (names_in k)) → Agrees (spread f n) inner
  unfolding spread rank
  ranked n inner h x l =
      ap (λ (j : ℕ). n + j) (size_from-cong x f (names_in k) (λ i q. sym (same_names i (omega arith)))) ∙ sym (h x l)

-- the identifiers' mask
ids-are : (a b ids : ℕ) → a + b ≤ 33 → ids ≡ mask (range a b) → (x : ℕ) → x < 33 → member_of (up_from a b) x ≡ names_in ids x
unfolding names_in
ids-are a b ids h e x l = member-up_from a b x ∙ sym (known-has ids (range a b) e x l)

module _ (x y : ℕ) (a b : Graph) (k kb ids n m : ℕ) (e mem mem₁ mem₂ mem₃ mem₄ mem₅ first second inner o₁ o₂ controls part it st outs : List ℕ)
    (n₁ m₁ n₂ m₂ n₃ m₃ c₁ c₂ count n₄ m₄ m₅ : ℕ) (len : length e ≡ 33) (h : x + y ≤ 32)
    (small : Small (common (free a) (without (free b) (member_of (up_from x y)))))
    (is : k ≡ mask (common (free a) (without (free b) (member_of (up_from x y)))))
    (F : Forked k n m e mem mem₁ first second n₁ m₁)
    (da : Done a n₁ m₁ first mem₁ mem₂ o₁ c₁ n₂ m₂) (q₁ : c₁ ≡ y)
    (small_b : Small (free b)) (isb : kb ≡ mask (free b)) (is-ids : ids ≡ mask (range x y))
    (ei : (z : ℕ) → z < 33 → get_or inner z 0 ≡ n₂ + size_from z (names_in kb))
    (db : Done b (n₂ + length (list_of kb)) m₂ inner mem₂ mem₃ o₂ c₂ n₃ m₃) (q₂ : 1 + y ≤ c₂)
    (h₄ : mem₄ ≡ written mem₃ m₃ (encoded (chain (get_or o₂ 0 0) n₃ (length (list_of kb)))))
    (hc : take (length (list_of kb)) controls ≡ chain_ends (get_or o₂ 0 0) n₃ (length (list_of kb)))
    (em : m₄ ≡ m₃ + (length (list_of kb) - 1))
    (hp : take y part ≡ take y (drop 1 o₂))
    (eit : it ≡ assigned (up_from x y) part e) (est : st ≡ assigned (up_from x y) o₁ e)
    (h₅ : mem₅ ≡ written mem₄ m₄ (encoded (ring (list_of kb) (names_in ids) controls (link_in it) (link_in st) (link_in second) (link_in inner))))
    (ec : count ≡ c₂ - (1 + y)) (eo : take count outs ≡ take count (drop (1 + y) o₂))
    (en : n₄ ≡ n₃ + 2 * (length (list_of kb) - 1)) (em₅ : m₅ ≡ m₄ + length (list_of kb))
  where
    abbrev ns : List ℕ
    ns = up_from x y

    abbrev g : Names
    g = without (free b) (member_of ns)

    body-list : list_of kb ≡ members (free b)
    body-list = list-is kb (free b) isb

    body-count : length (list_of kb) ≡ total (free b)
    body-count = ap (length {A = ℕ}) (body-list ∙ sym (listed_small (free b) small_b)) ∙ listed-length (free b)

    inside : (z : ℕ) → member_of (list_of kb) z ≡ true → z < 33
    inside z i = go (ltb z 33) refl
      where
        go : (t : Bool) → ltb z 33 ≡ t → z < 33
        go true q = ltb-true z 33 q
        go false q = absurd (false≢true (sym (small_b z (ltb-false z 33 q)) ∙ sym (member-members (free b) small_b z) ∙ ap (λ (l : List ℕ). member_of l z) (sym body-list) ∙ i))

    first-link : get_or (take c₂ o₂) 0 0 ≡ get_or o₂ 0 0
    first-link = get_or-take c₂ o₂ 0 0 (omega arith)

    module _ (env : Env) (ag : Agrees env e) where
      iterated-links : (z : ℕ) → z < 33 → named ns (drop 1 (take c₂ o₂)) env z ≡ get_or it z 0
      iterated-links z l =
          sym (named-take ns (drop 1 (take c₂ o₂)) env z)
          ∙ ap (λ (ls : List ℕ). named ns ls env z)
          (ap (λ (j : ℕ). take j (drop 1 (take c₂ o₂))) (length-up_from x y) ∙ take-drop-take y c₂ o₂ q₂ ∙ sym hp)
          ∙ up-agrees x y y part env e len h refl ag z l ∙ ap (λ (r : List ℕ). get_or r z 0) (sym eit)

      started-links : (z : ℕ) → z < 33 → named ns (take c₁ o₁) env z ≡ get_or st z 0
      started-links z l = up-agrees x y c₁ o₁ env e len h q₁ ag z l ∙ ap (λ (r : List ℕ). get_or r z 0) (sym est)

      gates : encoded (ring (list_of kb) (names_in ids) controls (link_in it) (link_in st) (link_in second) (link_in inner))
          ≡ encoded (ringOf ns a b n env (take c₁ o₁) (take c₂ o₂) n₂ n₃ (length (list_of kb)))
      gates =
          ap encoded
          (sym (ring-take (list_of kb) (names_in ids) controls (link_in it) (link_in st) (link_in second) (link_in inner))
          ∙ sym (ring-same (list_of kb) (member_of ns) (names_in ids) (take (length (list_of kb)) controls) (named ns (drop 1 (take c₂ o₂)) env) (link_in it) (named ns (take c₁ o₁) env) (link_in st)
          (second_use (free a) g n env) (link_in second) (spread (free b) n₂) (link_in inner)
          (λ z i.
          let l : z < 33 = inside z i in (
            ids-are x y ids (omega arith) is-ids z l,
            iterated-links z l,
            started-links z l,
            fork-second (free a) g k n m e mem mem₁ first second n₁ m₁ len is F env ag z l,
            ranked (free b) kb isb n₂ inner ei z l,
          )))
          ∙ ap₂ (λ (zs cs : List ℕ). ring zs (member_of ns) cs (named ns (drop 1 (take c₂ o₂)) env) (named ns (take c₁ o₁) env) (second_use (free a) g n env) (spread (free b) n₂))
          (body-list ∙ sym (listed_small (free b) small_b)) (hc ∙ ap (λ (v : ℕ). chain_ends v n₃ (length (list_of kb))) (sym first-link)))

      lay : Laid (loop ns a b) n m env mem mem₅ (take count outs) n₄ m₅
      lay =
          let l = laid-loop ns a b n env m mem mem₁ mem₂ mem₃ mem₄ mem₅ (take c₁ o₁) (take c₂ o₂) n₁ m₁ n₂ m₂ n₃ m₃ m₄ (length (list_of kb))
          (fork-copied (free a) g k n m e mem mem₁ first second n₁ m₁ len is F env ag small)
          (da.laid (first_use (free a) g n env) (fork-first (free a) g k n m e mem mem₁ first second n₁ m₁ len is F env ag))
          body-count (db.laid (spread (free b) n₂) (ranked (free b) kb isb n₂ inner ei))
          (h₄ ∙ ap (λ (v : ℕ). written mem₃ m₃ (encoded (chain v n₃ (length (list_of kb))))) (sym first-link)) em
          (h₅ ∙ ap (written mem₄ m₄) gates)
          in
          let z : suc (length ns) ≡ 1 + y = (let w : length ns ≡ y = length-up_from x y in omega arith) in
          let o : drop (suc (length ns)) (take c₂ o₂) ≡ take count outs =
          ap (λ (j : ℕ). drop j (take c₂ o₂)) z ∙ drop_of_take (1 + y) c₂ o₂ q₂ ∙ ap (λ (j : ℕ). take j (drop (1 + y) o₂)) (sym ec) ∙ sym eo
          in
          subst (λ (j : ℕ). Laid (loop ns a b) n m env mem mem₅ (take count outs) j m₅) (sym en)
          (subst (λ (j : ℕ). Laid (loop ns a b) n m env mem mem₅ (take count outs) (n₃ + chain_links (length (list_of kb))) j) (sym em₅)
          (subst (λ (r : List ℕ). Laid (loop ns a b) n m env mem mem₅ r (n₃ + chain_links (length (list_of kb))) (m₄ + length (list_of kb))) o l))

    pub done-loop : Done (loop (up_from x y) a b) n m e mem mem₅ outs count n₄ m₅
    done-loop =
        record {
          laid = λ env ag. lay env ag;
          counted =
              (let w : c₂ ≡ output_count b = db.counted in
              let u : output_count b ≡ suc (c₂ - 1) = omega arith in
              let v : length (up_from x y) ≡ y = length-up_from x y in
              let r : output_count (loop (up_from x y) a b) ≡ c₂ - 1 - length (up_from x y) = count-loop (up_from x y) a b (c₂ - 1) u in
              omega arith);
        }
