-- The rows of the translation (graph/specs/Translation): T and F gates on names, M and E gates on results, results that pass straight, and copies of
-- one link. Each is laid out by what the emitters of src/ write. Document 01, "The graph". Assumes nothing.
use Rattle.std.specs.Prelude.{ℕ, zero, suc, ◌+◌, ◌-◌, ◌*◌, ◌≤◌, ◌<◌, ◌≡◌, refl, Bool, true, cond, ◌&&◌, ◌||◌, length, get_or, take, drop}
use Rattle.std.proofs.Common.{sym, ap, ◌∙◌, get_or-take, get_or-drop, drop-drop, arith}
use Rattle.std.proofs.Math.Path.{subst}
use Rattle.std.proofs.Math.Bool.{false}
use Rattle.std.proofs.lemmas.Bool.{false≢true}
use mathlib.Core.List.{List, [], ◌∷◌, ◌++◌, map}
use Rattle.std.proofs.Math.Dec.{eqb}
use borrow.Author.Tests.{eqb-true, eqb-false, eq-eqb, ne_eqb}
use Rattle.machine_layout.specs.Layout.{no_link}
use Rattle.machine_layout.specs.Record.{placed}
use Rattle.names.specs.Names.{Names, one}
use Rattle.theory_yields.proofs.Naming.{or-neither, up_from-holds}
use Rattle.theory_yields.proofs.Choice.{row-lacks}
use Rattle.graph.specs.Fit.{Different}
use Rattle.graph.specs.Assembly.{wire, nothing, beside, gate, Gate, T, F, M, E, Env, free, member_of, gate_outputs, gate_of, nth, up_from, first_use, second_use, named, chain, chain_ends}
use Rattle.graph.specs.Translation.{row}
use Rattle.maker_laid.specs.Encode.{encode, encoded, written, written_none, written-more}
use Rattle.maker_laid.specs.Emitted.{copy_record, gate_record, chain_more, chain-few, ends_more, ends_last, ends-none}
use Rattle.maker_laid.specs.Laid.{Laid, laid-wire, laid-nothing, laid-gate, laid_beside}
use Rattle.maker_laid.specs.Sharing.{Lone, copied-one, first_one, second-one}
use Rattle.maker_laid.specs.Rows.{Controlled, Separate, Holds, laid-apart, two-wires, three-wires}

-- ---- gates with a control and one or two data

-- A gate of two inputs and one output, with its kind's byte.
pub record Two (g : Gate) (kind : ℕ) : Type 0 where
  pub encodes : (p q n : ℕ) → encode (gate_of g (p ∷ q ∷ []) n) ≡ gate_record kind p q no_link n
  pub single : gate_outputs g ≡ 1

pub two-T : Two T 14
unfolding gate_of nth gate_outputs
two-T = record { encodes = λ p q n. refl; single = refl }

pub two-F : Two F 15
unfolding gate_of nth gate_outputs
two-F = record { encodes = λ p q n. refl; single = refl }

pub two-E : Two E 17
unfolding gate_of nth gate_outputs
two-E = record { encodes = λ p q n. refl; single = refl }

pub M-encodes : (p q r n : ℕ) → encode (gate_of M (p ∷ q ∷ r ∷ []) n) ≡ gate_record 16 p q r n
unfolding gate_of nth
M-encodes p q r n = refl

module _ (c : ℕ) (d : ℕ → ℕ) where
  pub two-controlled : (g : Gate) (kind : ℕ) → Two g kind
      → Controlled (λ i. gate g (beside (wire c) (wire (d i)))) c kind (λ env i. env (d i)) (λ env i. no_link) (λ i. one (d i))
  unfolding free up_from
  two-controlled g kind t =
      record {
        uses = λ i k. refl;
        lays = λ i h n m env mem. lay i h n m env mem;
        reads = λ i env env' h s. (s (d i) (λ (e : c ≡ d i). eqb-false (d i) c h (sym e)), refl);
      }
    where
      lay : (i : ℕ) → eqb (d i) c ≡ false → (n m : ℕ) (env : Env) (mem : List ℕ)
          → Laid (gate g (beside (wire c) (wire (d i)))) n m env mem (placed mem m (gate_record kind (env c) (env (d i)) no_link n)) (n ∷ []) (n + 1) (m + 1)
      lay i h n m env mem =
          let l = laid-gate g (beside (wire c) (wire (d i))) n m env mem mem (placed mem m (gate_record kind (env c) (env (d i)) no_link n)) (env c ∷ env (d i) ∷ []) n m
          (two-wires n m env mem c (d i) (λ (e : c ≡ d i). eqb-false (d i) c h (sym e)))
          (ap (placed mem m) (sym (t.encodes (env c) (env (d i)) n)))
          in
          subst (λ (k : ℕ). Laid (gate g (beside (wire c) (wire (d i)))) n m env mem (placed mem m (gate_record kind (env c) (env (d i)) no_link n)) (up_from n k) (n + k) (m + 1))
          t.single l

module _ (c : ℕ) (p q : ℕ → ℕ) (apart : (i : ℕ) → p i ≡ q i → ⊥) where
  pub three-controlled : Controlled (λ i. gate M (beside (wire c) (beside (wire (p i)) (wire (q i))))) c 16 (λ env i. env (p i)) (λ env i. env (q i))
      (λ i k. eqb (p i) k || eqb (q i) k)
  unfolding free up_from gate_outputs
  three-controlled =
      record {
        uses = λ i k. refl;
        lays = λ i h n m env mem. lay i h n m env mem;
        reads = λ i env env' h s. (s (p i) (first i h), s (q i) (second i h));
      }
    where
      first : (i : ℕ) → eqb (p i) c || eqb (q i) c ≡ false → c ≡ p i → ⊥
      first i h e = eqb-false (p i) c (or-neither (eqb (p i) c) (eqb (q i) c) h).0 (sym e)

      second : (i : ℕ) → eqb (p i) c || eqb (q i) c ≡ false → c ≡ q i → ⊥
      second i h e = eqb-false (q i) c (or-neither (eqb (p i) c) (eqb (q i) c) h).1 (sym e)

      lay : (i : ℕ) → eqb (p i) c || eqb (q i) c ≡ false → (n m : ℕ) (env : Env) (mem : List ℕ)
          → Laid (gate M (beside (wire c) (beside (wire (p i)) (wire (q i))))) n m env mem
          (placed mem m (gate_record 16 (env c) (env (p i)) (env (q i)) n)) (n ∷ []) (n + 1) (m + 1)
      lay i h n m env mem =
          laid-gate M (beside (wire c) (beside (wire (p i)) (wire (q i)))) n m env mem mem (placed mem m (gate_record 16 (env c) (env (p i)) (env (q i)) n))
          (env c ∷ env (p i) ∷ env (q i) ∷ []) n m (three-wires n m env mem c (p i) (q i) (first i h) (second i h) (apart i))
          (ap (placed mem m) (sym (M-encodes (env c) (env (p i)) (env (q i)) n)))

-- ---- different names

pub separate-names : (c : ℕ) (xs : List ℕ) → Different xs → member_of xs c ≡ false → Separate c one xs
unfolding member_of
separate-names c [] d h = tt
separate-names c (x ∷ xs) d h = (
  (or-neither (eqb x c) (member_of xs c) h).0,
  λ y i k e. ne_eqb y k (λ (q : y ≡ k). false≢true (sym d.1 ∙ ap (member_of xs) (eqb-true x k e ∙ sym q) ∙ i)),
  separate-names c xs d.2 (or-neither (eqb x c) (member_of xs c) h).1,
)

pub separate-up : (c : ℕ) (own : ℕ → Names) (a w : ℕ) → ((i : ℕ) → a ≤ i → i < a + w → own i c ≡ false)
    → ((i j k : ℕ) → a ≤ i → i < j → j < a + w → own i k ≡ true → own j k ≡ false) → Separate c own (up_from a w)
unfolding up_from
separate-up c own a zero h s = tt
separate-up c own a (suc w) h s = (
  h a (omega arith) (omega arith),
  λ y i k e. let b : (suc a ≤ y) × (y < suc a + w) = up_from-holds (suc a) w y i in s a y k (omega arith) (omega arith) (omega arith) e,
  separate-up c own (suc a) w (λ i p q. h i (omega arith) (omega arith)) (λ i j k p q r e. s i j k (omega arith) q (omega arith) e),
)

-- ---- the data in arrays

drop-take : (n : ℕ) (l : List ℕ) → drop 1 (take (suc n) l) ≡ take n (drop 1 l)
drop-take zero [] = refl
drop-take (suc n) [] = refl
drop-take n (x ∷ l) = refl

pub holds-map : (g : Env → ℕ → ℕ) (env : Env) (a : List ℕ) (j : ℕ) (xs : List ℕ) → take (length xs) (drop j a) ≡ map (g env) xs → Holds g env a j xs
holds-map g env a j [] h = tt
holds-map g env a j (x ∷ xs) h = (
  (let z : j + 0 ≡ j = omega arith in ap (λ (k : ℕ). get_or a k 0) (sym z))
      ∙ sym (get_or-drop j a 0 0) ∙ sym (get_or-take (suc (length xs)) (drop j a) 0 0 (omega arith)) ∙ ap (λ (l : List ℕ). get_or l 0 0) h,
  holds-map g env a (j + 1) xs
      (ap (take (length xs)) (next a j) ∙ sym (drop-take (length xs) (drop j a)) ∙ ap (drop 1) h),
)
  where
    next : (l : List ℕ) (k : ℕ) → drop (k + 1) l ≡ drop 1 (drop k l)
    next l k = sym (drop-drop 1 k l)

pub holds-up : (g : Env → ℕ → ℕ) (env : Env) (a : List ℕ) (j z w : ℕ) → ((i : ℕ) → i < w → get_or a (j + i) 0 ≡ g env (z + i)) → Holds g env a j (up_from z w)
unfolding up_from
holds-up g env a j z zero h = tt
holds-up g env a j z (suc w) h = (
  (let u : j + 0 ≡ j = omega arith in let v : z + 0 ≡ z = omega arith in ap (λ (k : ℕ). get_or a k 0) (sym u) ∙ h 0 (omega arith) ∙ ap (g env) v),
  holds-up g env a (j + 1) (suc z) w (λ i l. step i ∙ h (suc i) (omega arith) ∙ next i),
)
  where
    step : (i : ℕ) → get_or a (j + 1 + i) 0 ≡ get_or a (j + suc i) 0
    step i = let u : j + 1 + i ≡ j + suc i = omega arith in ap (λ (k : ℕ). get_or a k 0) u

    next : (i : ℕ) → g env (z + suc i) ≡ g env (suc z + i)
    next i = let u : z + suc i ≡ suc z + i = omega arith in ap (g env) u

pub holds-none : (env : Env) (b : List ℕ) (j : ℕ) (xs : List ℕ) → ((i : ℕ) → i < 33 → get_or b i 0 ≡ no_link) → j + length xs ≤ 33 → Holds (λ e i. no_link) env b j xs
holds-none env b j [] h k = tt
holds-none env b j (x ∷ xs) h k = (h j (omega arith), holds-none env b (j + 1) xs h (omega arith))

-- what a name of a stretch was bound to
pub named-up : (a b : ℕ) (ls : List ℕ) (env : Env) (i : ℕ) → length ls ≡ b → i < b → named (up_from a b) ls env (a + i) ≡ get_or ls i 0
unfolding named up_from
named-up a zero ls env i h l = absurd (omega arith)
named-up a (suc b) [] env i h l = absurd (omega arith)
named-up a (suc b) (v ∷ ls) env zero h l = ap (λ (t : Bool). cond t v (named (up_from (suc a) b) ls env (a + 0))) (eq-eqb a (a + 0) (omega arith))
named-up a (suc b) (v ∷ ls) env (suc i) h l =
    let z : a + suc i ≡ suc a + i = omega arith in
    ap (λ (t : Bool). cond t v (named (up_from (suc a) b) ls env (a + suc i))) (ne_eqb a (a + suc i) (λ (e : a ≡ a + suc i). omega arith))
    ∙ ap (named (up_from (suc a) b) ls env) z ∙ named-up (suc a) b ls env i (omega arith) (omega arith)

-- ---- results that pass straight

pub laid-straight : (s z w : ℕ) (n m : ℕ) (env : Env) (mem : List ℕ)
    → Laid (row (λ i. wire (s + i)) (up_from z w)) n m env mem mem (map (λ i. env (s + i)) (up_from z w)) n m
unfolding row up_from free
laid-straight s z zero n m env mem = laid-nothing n m env mem
laid-straight s z (suc w) n m env mem =
    laid-apart (wire (s + z)) (row (λ i. wire (s + i)) (up_from (suc z) w)) apart n m env mem mem mem (env (s + z) ∷ []) (map (λ i. env (s + i)) (up_from (suc z) w)) n m n m
    (laid-wire n m env mem (s + z)) (laid-straight s (suc z) w n m env mem)
  where
    apart : (x : ℕ) → eqb (s + z) x && free (row (λ i. wire (s + i)) (up_from (suc z) w)) x ≡ false
    apart x = go (eqb (s + z) x) refl
      where
        go : (b : Bool) → eqb (s + z) x ≡ b → b && free (row (λ i. wire (s + i)) (up_from (suc z) w)) x ≡ false
        go true p =
            let q : s + z ≡ x = eqb-true (s + z) x p in
            row-lacks (λ i. wire (s + i)) (up_from (suc z) w) x
            (λ i h. let b : (suc z ≤ i) × (i < suc z + w) = up_from-holds (suc z) w i h in ne_eqb (s + i) x (λ (e : s + i ≡ x). omega arith))
        go false p = refl

-- ---- copies of one link

pub laid-copied : (c : ℕ) → Lone c → (z w n m : ℕ) (env : Env) (mem : List ℕ)
    → Laid (row (λ i. wire c) (up_from z w)) n m env mem (written mem m (encoded (chain (env c) n w))) (chain_ends (env c) n w) (n + 2 * (w - 1)) (m + (w - 1))
unfolding row up_from free
laid-copied c l z zero n m env mem =
    let u : n + 2 * (0 - 1) ≡ n = omega arith in
    let v : m + (0 - 1) ≡ m = omega arith in
    rw (chain-few (env c) n 0 (omega arith), written_none mem m, ends-none (env c) n, u, v) (laid-nothing n m env mem)
laid-copied c l z (suc zero) n m env mem =
    let u : n + 2 * (1 - 1) ≡ n = omega arith in
    let v : m + (1 - 1) ≡ m = omega arith in
    rw (chain-few (env c) n 1 (omega arith), written_none mem m, ends_last (env c) n, u, v)
    (laid-apart (wire c) nothing (λ x. lacks (eqb c x)) n m env mem mem mem (env c ∷ []) [] n m n m (laid-wire n m env mem c) (laid-nothing n m env mem))
  where
    lacks : (t : Bool) → t && false ≡ false
    lacks true = refl
    lacks false = refl
laid-copied c l z (suc (suc w)) n m env mem = go (laid-copied c l (suc z) (suc w) (n + 2) (m + 1) e₂ mem₁)
  where
    left : Names
    left = one c

    right : Names
    right = free (row (λ i. wire c) (up_from (suc z) (suc w)))

    meet : (x : ℕ) → eqb c x && (eqb c x || free (row (λ i. wire c) (up_from (suc (suc z)) w)) x) ≡ eqb c x
    meet x = absorb (eqb c x) (free (row (λ i. wire c) (up_from (suc (suc z)) w)) x)
      where
        absorb : (a b : Bool) → a && (a || b) ≡ a
        absorb true b = refl
        absorb false b = refl

    e₁ : Env
    e₁ = first_use left right n env

    e₂ : Env
    e₂ = second_use left right n env

    mem₁ : List ℕ
    mem₁ = placed mem m (copy_record (env c) n (n + 1))

    all-written : written mem m (encoded (chain (env c) n (suc (suc w)))) ≡ written mem₁ (m + 1) (encoded (chain (e₂ c) (n + 2) (suc w)))
    all-written =
        let d : suc (suc w) - 1 ≡ suc w = omega arith in
        let u : suc m ≡ m + 1 = omega arith in
        ap (written mem m) (chain_more (env c) n (suc (suc w)) (omega arith) ∙ ap (λ (k : ℕ). copy_record (env c) n (n + 1) ∷ encoded (chain (n + 1) (n + 2) k)) d)
        ∙ written-more mem m (copy_record (env c) n (n + 1)) (encoded (chain (n + 1) (n + 2) (suc w)))
        ∙ (λ i. written mem₁ (u i) (encoded (chain (sym (second-one left right c l meet n env) i) (n + 2) (suc w))))

    outs : chain_ends (env c) n (suc (suc w)) ≡ (e₁ c ∷ []) ++ chain_ends (e₂ c) (n + 2) (suc w)
    outs =
        let d : suc (suc w) - 1 ≡ suc w = omega arith in
        ends_more (env c) n (suc (suc w)) (omega arith) ∙ ap (λ (k : ℕ). n ∷ chain_ends (n + 1) (n + 2) k) d
        ∙ (λ i. sym (first_one left right c l meet n env) i ∷ chain_ends (sym (second-one left right c l meet n env) i) (n + 2) (suc w))

    links : n + 2 * (suc (suc w) - 1) ≡ n + 2 + 2 * (suc w - 1)
    links = omega arith

    operators : m + (suc (suc w) - 1) ≡ m + 1 + (suc w - 1)
    operators = omega arith

    go : Laid (row (λ i. wire c) (up_from (suc z) (suc w))) (n + 2) (m + 1) e₂ mem₁ (written mem₁ (m + 1) (encoded (chain (e₂ c) (n + 2) (suc w))))
        (chain_ends (e₂ c) (n + 2) (suc w)) (n + 2 + 2 * (suc w - 1)) (m + 1 + (suc w - 1))
        → Laid (beside (wire c) (row (λ i. wire c) (up_from (suc z) (suc w)))) n m env mem (written mem m (encoded (chain (env c) n (suc (suc w)))))
        (chain_ends (env c) n (suc (suc w))) (n + 2 * (suc (suc w) - 1)) (m + (suc (suc w) - 1))
    go ih =
        rw (all-written, outs, links, operators)
        (laid_beside (wire c) (row (λ i. wire c) (up_from (suc z) (suc w))) n m env mem mem₁ mem₁ (written mem₁ (m + 1) (encoded (chain (e₂ c) (n + 2) (suc w))))
        (e₁ c ∷ []) (chain_ends (e₂ c) (n + 2) (suc w)) (n + 2) (m + 1) (n + 2) (m + 1) (n + 2 + 2 * (suc w - 1)) (m + 1 + (suc w - 1))
        (copied-one left right c l meet n env m mem mem₁ refl) (laid-wire (n + 2) (m + 1) e₁ mem₁ c) ih)
