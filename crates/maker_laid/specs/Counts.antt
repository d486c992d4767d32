-- How many operators a graph has, whatever its links are (document 01, test 10: "over 1,024 operators"): the room that sequential code needs for a
-- part before it writes it. Assumes nothing.
use Rattle.std.specs.Prelude.{ℕ, zero, suc, ◌+◌, ◌-◌, ◌*◌, ◌≤◌, ◌<◌, ◌≡◌, refl, Bool, true, false, ◌&&◌, List, [], ◌∷◌, ◌++◌, length, get_or, drop, replicate, ltb}
use Rattle.std.proofs.Common.{sym, ap, ◌∙◌, length-append}
use Rattle.std.proofs.Math.Path.{ap₂, subst}
use Rattle.std.proofs.lemmas.List.{get_or-replicate}
use native.Mathlib.Omega.{arith}
use Rattle.std.proofs.Math.Decide.{ℕ_discrete}
use Rattle.names.specs.Names.{Names, common, without, size_from}
use Rattle.names.proofs.Counts.{size_from-none}
use Rattle.graph.specs.Assembly.{Graph, wire, nothing, beside, bind, gate, loop, IC, Env, Operator, free, member_of, total, listed, links_of, shared_links, outputs, operators_of, gate_of, sharing, first_use, second_use, named, spread, chain, chain_ends, ring, up_from}
use Rattle.theory_yields.proofs.Naming.{length-up_from}
use Rattle.graph.specs.Translation.{iterated_name, returned_name, join_names, merge_row, except_row, straight, copied}
use Rattle.theory_yields.specs.Joins.{join_i, join_r}
use Rattle.maker_laid.specs.Laid.{Laid, chain_length, ring-length, ends-length, listed-length}
use Rattle.maker_laid.specs.Sharing.{sharing-length, lone-test, lone-second, lone-third}
use Rattle.maker_laid.specs.Results.{merge-laid, except-laid, straight-laid, copied-laid, none_is, some_is}
use Rattle.maker_laid.specs.Rows.{three-wires}
use Rattle.maker_laid.specs.Joined.{joins-apart, first-apart, gate-apart, join_graph, joinedBy, tests, resultsPart}

unfoldable pub operator_count : Graph → ℕ
unfolding free total size_from member_of
operator_count (wire x) = 0
operator_count nothing = 0
operator_count (beside a b) = total (common (free a) (free b)) + (operator_count a + operator_count b)
operator_count (bind ns a b) = total (common (free a) (without (free b) (member_of ns))) + (operator_count a + operator_count b)
operator_count (gate g a) = operator_count a + 1
operator_count (loop ns a b) =
    total (common (free a) (without (free b) (member_of ns)))
    + (operator_count a + (operator_count b + ((total (free b) - 1) + total (free b))))

three : (xs ys zs : List Operator) (a b c : ℕ) → length xs ≡ a → length ys ≡ b → length zs ≡ c → length (xs ++ (ys ++ zs)) ≡ a + (b + c)
three xs ys zs a b c p q r =
    let e : length (xs ++ (ys ++ zs)) ≡ length xs + length (ys ++ zs) = length-append xs (ys ++ zs) in
    let f : length (ys ++ zs) ≡ length ys + length zs = length-append ys zs in
    omega arith

pub operators-length : (G : Graph) (n : ℕ) (env : Env) → length (operators_of G n env) ≡ operator_count G
unfolding operators_of operator_count
operators-length (wire x) n env = refl
operators-length nothing n env = refl
operators-length (beside a b) n env =
    let f = free a in
    let g = free b in
    let m = n + shared_links f g in
    let e₁ = first_use f g n env in
    let e₂ = second_use f g n env in
    three (sharing f g n env) (operators_of a m e₁) (operators_of b (m + links_of a) e₂) (total (common f g)) (operator_count a) (operator_count b)
    (sharing-length f g n env) (operators-length a m e₁) (operators-length b (m + links_of a) e₂)
operators-length (bind ns a b) n env =
    let f = free a in
    let g = without (free b) (member_of ns) in
    let m = n + shared_links f g in
    let e₁ = first_use f g n env in
    let e₂ = named ns (outputs a m e₁) (second_use f g n env) in
    three (sharing f g n env) (operators_of a m e₁) (operators_of b (m + links_of a) e₂) (total (common f g)) (operator_count a) (operator_count b)
    (sharing-length f g n env) (operators-length a m e₁) (operators-length b (m + links_of a) e₂)
operators-length (gate g a) n env =
    length-append (operators_of a n env) (gate_of g (outputs a n env) (n + links_of a) ∷ []) ∙ ap (λ (k : ℕ). k + 1) (operators-length a n env)
operators-length (loop ns a b) n env =
    let f = free a in
    let g = without (free b) (member_of ns) in
    let m = n + shared_links f g in
    let e₁ = first_use f g n env in
    let s = total (free b) in
    let o = m + links_of a in
    let inner = spread (free b) o in
    let outs = outputs b (o + s) inner in
    let it = get_or outs 0 0 in
    let c = o + s + links_of b in
    let iterated = named ns (drop 1 outs) env in
    let started = named ns (outputs a m e₁) env in
    let gates = ring (listed (free b)) (member_of ns) (chain_ends it c s) iterated started (second_use f g n env) inner in
    three (sharing f g n env) (operators_of a m e₁) (operators_of b (o + s) inner ++ (chain it c s ++ gates)) (total (common f g)) (operator_count a)
    (operator_count b + ((s - 1) + s)) (sharing-length f g n env) (operators-length a m e₁)
    (three (operators_of b (o + s) inner) (chain it c s) gates (operator_count b) (s - 1) s (operators-length b (o + s) inner) (chain_length it c s)
    (ring-length (listed (free b)) (member_of ns) (chain_ends it c s) iterated started (second_use f g n env) inner
    (ends-length it c s ∙ sym (listed-length (free b)))
    ∙ listed-length (free b)))

-- a graph that was laid out
pub laid-count : (G : Graph) (n m : ℕ) (env : Env) (mem mem' outs : List ℕ) (n' m' : ℕ) → Laid G n m env mem mem' outs n' m' → m' ≡ m + operator_count G
laid-count G n m env mem mem' outs n' m' l = l.operators ∙ ap (λ (k : ℕ). m + k) (operators-length G n env)

-- ---- what joins a body's results

total-none : (f : Names) → ((x : ℕ) → f x ≡ false) → total f ≡ 0
unfolding total
total-none f h = size_from-none 103 f (λ i _. h i)

abbrev plain : Env
plain x = x

up_from-at : (s k i : ℕ) → i < k → get_or (up_from s k) i 0 ≡ s + i
unfolding up_from
up_from-at s zero i l = absurd (omega arith)
up_from-at s (suc k) zero l = omega arith
up_from-at s (suc k) (suc i) l = up_from-at (suc s) k i (omega arith) ∙ shift
  where
    shift : suc s + i ≡ s + suc i
    shift = omega arith

wires-count : (c d e : ℕ) → (c ≡ d → ⊥) → (c ≡ e → ⊥) → (d ≡ e → ⊥) → operator_count (beside (wire c) (beside (wire d) (wire e))) ≡ 0
wires-count c d e p q r =
    let l = laid-count (beside (wire c) (beside (wire d) (wire e))) 0 0 plain [] [] (c ∷ d ∷ e ∷ []) 0 0 (three-wires 0 0 plain [] c d e p q r) in
    omega arith

tests-count : operator_count (beside (wire 33) (beside (wire 34) (wire 67))) ≡ 0
tests-count = wires-count 33 34 67 (λ (u : 33 ≡ 34). omega arith) (λ (u : 33 ≡ 67). omega arith) (λ (u : 34 ≡ 67). omega arith)

sums : (k : ℕ) → 0 + (0 + 1 + (0 + (0 + (0 + k)))) ≡ 1 + k
sums k = omega arith

module _ (b c d e : Bool) (m n w : ℕ) (hm : m ≤ 16) (hn : n ≤ 16) (hw : w ≤ 16) where
  pub joined-count : operator_count (joinedBy b c d e m n w hm hn hw) ≡ 1 + (operator_count (join_i b c m n) + operator_count (join_r d e w))
  unfolding operator_count
  joined-count =
      let x = total-none (common (free (gate (IC (b && c)) (tests b c d e m n w hm hn hw))) (without (free (beside (wire 100) (resultsPart b c d e m n w hm hn hw))) (member_of (join_names (b && c)))))
      (gate-apart b c d e m n w hm hn hw (join_names (b && c)))
      in
      let y = total-none (common (free (wire 100)) (free (resultsPart b c d e m n w hm hn hw))) (first-apart b c d e m n w hm hn hw) in
      let z = total-none (common (free (join_i b c m n)) (free (join_r d e w))) (joins-apart b c d e m n w hm hn hw) in
      let t : operator_count (beside (wire 33) (beside (wire 34) (wire 67))) ≡ 0 = tests-count in
      ap₂ (λ (u v : ℕ). u + (v + 1 + (total (common (free (wire 100)) (free (resultsPart b c d e m n w hm hn hw))) + (0 + (total (common (free (join_i b c m n)) (free (join_r d e w))) + (operator_count (join_i b c m n) + operator_count (join_r d e w))))))) x t
      ∙ ap₂ (λ (u v : ℕ). 0 + (0 + 1 + (u + (0 + (v + (operator_count (join_i b c m n) + operator_count (join_r d e w))))))) y z
      ∙ sums (operator_count (join_i b c m n) + operator_count (join_r d e w))

pub merge-count : (w : ℕ) → w ≤ 16 → (operator_count (merge_row 101 iterated_name w) ≡ 2 * w - 1) × (operator_count (merge_row 102 returned_name w) ≡ 2 * w - 1)
    × (operator_count (merge_row 33 returned_name w) ≡ 2 * w - 1)
merge-count w h = (
  (let l = laid-count (merge_row 101 iterated_name w) 0 0 plain [] _ _ _ _ (merge-laid 101 lone-second iterated_name (omega arith) (λ z x y t. omega arith) w h 0 0 plain [] (up_from 35 w) (up_from 68 w) (up 35 w) (up 68 w)) in omega arith),
  (let l = laid-count (merge_row 102 returned_name w) 0 0 plain [] _ _ _ _ (merge-laid 102 lone-third returned_name (omega arith) (λ z x y t. omega arith) w h 0 0 plain [] (up_from 51 w) (up_from 84 w) (up 51 w) (up 84 w)) in omega arith),
  (let l = laid-count (merge_row 33 returned_name w) 0 0 plain [] _ _ _ _ (merge-laid 33 lone-test returned_name (omega arith) (λ z x y t. omega arith) w h 0 0 plain [] (up_from 51 w) (up_from 84 w) (up 51 w) (up 84 w)) in omega arith),
)
  where
    up : (s k i : ℕ) → i < k → s + i ≡ get_or (up_from s k) i 0
    up s k i l = sym (up_from-at s k i l)

pub except-count : (w s : ℕ) → w ≤ 16 → s + 16 ≤ 102 → operator_count (except_row 102 s w) ≡ 2 * w - 1
except-count w s h k =
    let l = laid-count (except_row 102 s w) 0 0 plain [] _ _ _ _
    (except-laid 102 lone-third s (λ z x y t. omega arith) w h 0 0 plain [] (up_from s w) (replicate 33 65535) (λ i l. sym (up_from-at s w i l)) (λ i l. get_or-replicate 33 i 65535 0 l))
    in omega arith

pub straight-count : (s w : ℕ) → operator_count (straight s w) ≡ 0
straight-count s w =
    let l = laid-count (straight s w) 0 0 plain [] _ _ _ _ (straight-laid s w 0 0 plain [] (up_from s w) (let z : length (up_from s w) ≡ w = length-up_from s w in omega arith) (λ i l. sym (up_from-at s w i l))) in
    omega arith

pub copied-count : (w : ℕ) → operator_count (copied 102 w) ≡ w - 1
copied-count w = let l = laid-count (copied 102 w) 0 0 plain [] _ _ _ _ (copied-laid 102 lone-third w 0 0 plain []) in omega arith

-- what is needed before the joins are written
pub both-iterate : (i j : ℕ) → (i ≡ 0 → ⊥) → (j ≡ 0 → ⊥) → i ≤ 16 → operator_count (join_i (ltb 0 i) (ltb 0 j) i j) ≡ 2 * i - 1
both-iterate i j p q h = ap₂ (λ (s t : Bool). operator_count (join_i s t i j)) (some_is i p) (some_is j q) ∙ (merge-count i h).0

pub some-return : (i j w : ℕ) → (i + j ≡ 0 → ⊥) → w ≤ 16 → operator_count (join_r (ltb 0 i) (ltb 0 j) w) ≡ 2 * w - 1
some-return zero zero w p h = absurd (p refl)
some-return zero (suc j) w p h = ap (λ (t : Bool). operator_count (join_r false t w)) (some_is (suc j) (λ (z : suc j ≡ 0). omega arith)) ∙ except-count w 84 h (omega arith)
some-return (suc i) zero w p h = ap (λ (t : Bool). operator_count (join_r t false w)) (some_is (suc i) (λ (z : suc i ≡ 0). omega arith)) ∙ except-count w 51 h (omega arith)
some-return (suc i) (suc j) w p h =
    ap₂ (λ (s t : Bool). operator_count (join_r s t w)) (some_is (suc i) (λ (z : suc i ≡ 0). omega arith)) (some_is (suc j) (λ (z : suc j ≡ 0). omega arith)) ∙ (merge-count w h).1

pub none-return : (i j w : ℕ) → i + j ≡ 0 → operator_count (join_r (ltb 0 i) (ltb 0 j) w) ≡ w - 1
none-return i j w p =
    let x : i ≡ 0 = omega arith in
    let y : j ≡ 0 = omega arith in
    ap₂ (λ (s t : Bool). operator_count (join_r s t w)) (none_is i x) (none_is j y) ∙ copied-count w

pub first-none : (i j : ℕ) → i ≡ 0 → operator_count (join_i (ltb 0 i) (ltb 0 j) i j) ≡ 0
unfolding operator_count
first-none i j z = ap (λ (t : Bool). operator_count (join_i t (ltb 0 j) i j)) (none_is i z) ∙ go (ltb 0 j)
  where
    go : (t : Bool) → operator_count (join_i false t i j) ≡ 0
    go true = straight-count 68 j
    go false = refl

pub second_none : (i j : ℕ) → (i ≡ 0 → ⊥) → j ≡ 0 → operator_count (join_i (ltb 0 i) (ltb 0 j) i j) ≡ 0
second_none i j p z = ap₂ (λ (s t : Bool). operator_count (join_i s t i j)) (some_is i p) (none_is j z) ∙ straight-count 35 i

-- ---- the room that the joins of a body's if need

-- i and j iterated, p and q returned results of the arms, from operator m on
module _ (i j p q w m : ℕ) (hi : i ≤ 16) (hj : j ≤ 16) (lw : 1 ≤ w) (hw : w ≤ 16)
    (h : m + operator_count (join_graph (ltb 0 i) (ltb 0 j) (ltb 0 p) (ltb 0 q) i j w) ≤ 1024)
  where
    I : ℕ
    I = operator_count (join_i (ltb 0 i) (ltb 0 j) i j)

    R : ℕ
    R = operator_count (join_r (ltb 0 p) (ltb 0 q) w)

    all : m + (1 + (I + R)) ≤ 1024
    unfolding I R
    all = subst (λ (k : ℕ). m + k ≤ 1024) (joined-count (ltb 0 i) (ltb 0 j) (ltb 0 p) (ltb 0 q) i j w hi hj hw) h

    pub room-gate : m < 1024
    room-gate = let a : m + (1 + (I + R)) ≤ 1024 = all in omega arith

    pub room-iterated : 0 < i → 0 < j → m + 1 + 2 * i ≤ 1025
    unfolding I
    room-iterated x y =
        let a : m + (1 + (I + R)) ≤ 1024 = all in
        let b : I ≡ 2 * i - 1 = both-iterate i j (λ (z : i ≡ 0). omega arith) (λ (z : j ≡ 0). omega arith) hi in
        omega arith

    pub room-returned : (m₁ : ℕ) → m₁ ≡ m + 1 + operator_count (join_i (ltb 0 i) (ltb 0 j) i j) → 0 < p + q → m₁ + 2 * w ≤ 1025
    unfolding I R
    room-returned m₁ e x =
        let a : m + (1 + (I + R)) ≤ 1024 = all in
        let c : m₁ ≡ m + 1 + I = e in
        let b : R ≡ 2 * w - 1 = some-return p q w (λ (z : p + q ≡ 0). omega arith) hw in
        omega arith

    pub room-copied : (m₁ : ℕ) → m₁ ≡ m + 1 + operator_count (join_i (ltb 0 i) (ltb 0 j) i j) → m₁ + w ≤ 1025
    unfolding I R
    room-copied m₁ e =
        let a : m + (1 + (I + R)) ≤ 1024 = all in
        let c : m₁ ≡ m + 1 + I = e in
        go a c (ℕ_discrete (p + q) 0)
      where
        go : m + (1 + (I + R)) ≤ 1024 → m₁ ≡ m + 1 + I → Dec (p + q ≡ 0) → m₁ + w ≤ 1025
        go a c (yes z) = let b : R ≡ w - 1 = none-return p q w z in omega arith
        go a c (no z) = let b : R ≡ 2 * w - 1 = some-return p q w z hw in omega arith
