-- How a set's values reach the environment, and how words become a result set: the laws between the code's words and the
-- definitions in the meaning (`inputs_hold`, specs/Evaluate). Assumes nothing.
use Rattle.std.specs.Prelude.{ℕ, zero, suc, ◌+◌, ◌*◌, ◌-◌, ◌≤◌, ◌<◌, ◌≡◌, refl, Bool, true, false, List, [], ◌∷◌, ◌++◌, map, eqb, ltb, length, get_or, set, replicate}
use Rattle.std.proofs.Common.{sym, ap, ◌∙◌, subst, length-set, get_or-set_same, get_or-set_other, ltb-true, ltb-false, eqb-true, arith}
use Rattle.std.proofs.Math.Path.{fun_ext}
use Rattle.std.proofs.Math.ListN.{get_or-eq_default}
use Rattle.std.proofs.lemmas.Bool.{eqb-false}
use Rattle.value.specs.declared.Value.{Value}
use Rattle.value.specs.Operators.{pick}
use Rattle.value.specs.Bytes.{word_at}
use Rattle.value.specs.Senses.{err}
use Rattle.names.specs.Names.{trigger, one, without, below, mask}
use Rattle.names.proofs.Sets.{mask-has, below-mono, below-cong, length-members, size-le}
use Rattle.formula.specs.Tree.{Exp}
use Rattle.formula.specs.Free.{free_e, inputs_of}
use Rattle.meaning.specs.Meaning.{Env, inputs_hold}
use Rattle.meaning.specs.declared.Cell.{Cell}
use Rattle.meaning.specs.Evaluate.{cell}
use Rattle.value_sets.specs.Sets.{IsSet}
use Rattle.eval_words.specs.Inputs.{set_in}
use Rattle.eval_words.specs.Words.{held_of, env_of, held_word, held-zero}

-- Value i of a set of n values, as a word; 0 where there is none.
abbrev pub word_or : List ℕ → ℕ → ℕ → ℕ
word_or set n i = pick (ltb i n) (word_at set (5 * i)) 0

-- The first k words of an environment that holds a set's values at the members of m.
pub record Holds (set : List ℕ) (n m : ℕ) (env : List ℕ) (k : ℕ) : Type 0 where
  pub long : length env ≡ 32
  pub filled : (j : ℕ) → j < k → get_or env j 0 ≡ word_or set n (below (set_in m) j)

-- ---- the values of a set

word-or : (kinds set : List ℕ) (vs : List Value) → IsSet kinds set vs → (i : ℕ) → held_of (word_or set (length kinds) i) ≡ get_or vs i err
word-or kinds set vs s i = go (ltb i (length kinds)) refl
  where
    go : (b : Bool) → ltb i (length kinds) ≡ b → held_of (pick (ltb i (length kinds)) (word_at set (5 * i)) 0) ≡ get_or vs i err
    go true p =
        let l : i < length kinds = ltb-true i (length kinds) p in
        rw p (ap held_of (s.words i l) ∙ held_word (get_or vs i err) (s.ranged i l))
    go false p =
        rw p (held-zero ∙ sym (get_or-eq_default vs err (omega (arith, s.count, ltb-false i (length kinds) p))))

-- ---- the steps of the code

pub holds-none : (set : List ℕ) (n m : ℕ) (env : List ℕ) → length env ≡ 32 → Holds set n m env 0
holds-none set n m env l = record { long = l; filled = λ j i. absurd (omega arith) }

pub holds_more : (bytes : List ℕ) (n m : ℕ) (env : List ℕ) (k i : ℕ) → k < 32 → i ≡ below (set_in m) k → Holds bytes n m env k
    → Holds bytes n m (set env k (word_or bytes n i)) (k + 1)
holds_more bytes n m env k i l e h =
    record {
      long = length-set env k (word_or bytes n i) ∙ h.long;
      filled = λ j u. go j u (eqb j k) refl;
    }
  where
    go : (j : ℕ) → j < k + 1 → (b : Bool) → eqb j k ≡ b
        → get_or (set env k (word_or bytes n i)) j 0 ≡ word_or bytes n (below (set_in m) j)
    go j u true p =
        let q : j ≡ k = eqb-true j k p in
        rw q (get_or-set_same env k (word_or bytes n i) 0 (omega (arith, h.long)) ∙ ap (word_or bytes n) e)
    go j u false p =
        let q : j ≡ k → ⊥ = eqb-false j k p in
        get_or-set_other env k j (word_or bytes n i) 0 q ∙ h.filled j (omega (arith, q))

-- ---- the inputs

pub inputs-few : (x : Exp) → length (inputs_of x) ≤ 33
unfolding inputs_of
inputs-few x =
    let f = without (free_e x) (one trigger) in
    omega (arith, length-members f, size-le f)

-- Words that hold a set's values hold the environment of the meaning.
pub holds-inputs : (x : Exp) (kinds set : List ℕ) (vs : List Value) (env : List ℕ)
    → length kinds ≡ below (free_e x) 32 → IsSet kinds set vs → Holds set (length kinds) (mask (free_e x)) env 32
    → env_of env ≡ inputs_hold (free_e x) vs
unfolding env_of inputs_hold
holds-inputs x kinds set vs env c h k = fun_ext (λ j. go j (ltb j 32) refl)
  where
    go : (j : ℕ) (b : Bool) → ltb j 32 ≡ b → held_of (get_or env j 0) ≡ get_or vs (below (free_e x) j) err
    go j true p =
        let l : j < 32 = ltb-true j 32 p in
        ap held_of (k.filled j l)
        ∙ word-or kinds set vs h (below (set_in (mask (free_e x))) j)
        ∙ ap (λ (i : ℕ). get_or vs i err)
        (below-cong (set_in (mask (free_e x))) (free_e x) j (λ i m. mask-has (free_e x) i (omega arith)))
    go j false p =
        let l : 32 ≤ j = ltb-false j 32 p in
        ap held_of (get_or-eq_default env 0 (omega (arith, k.long)))
        ∙ held-zero
        ∙ sym (get_or-eq_default vs err
        (omega (arith, h.count, c, below-mono (free_e x) 32 j l)))

-- ---- the result set

pub cells_are : (n : ℕ) (out : List ℕ) (vs : List Value) → length out ≡ n → length vs ≤ n
    → ((k : ℕ) → held_of (get_or out k 0) ≡ get_or vs k err)
    → map (λ w. cell (held_of w)) out ≡ map cell vs ++ replicate (n - length vs) (cell err)
cells_are zero [] [] l m h = refl
cells_are zero [] (v ∷ vs) l m h = absurd (omega arith)
cells_are zero (w ∷ out) vs l m h = absurd (omega arith)
cells_are (suc n) [] vs l m h = absurd (omega arith)
cells_are (suc n) (w ∷ out) [] l m h =
    let z : suc n - 0 ≡ suc n = omega arith in
    let y : n - 0 ≡ n = omega arith in
    let rest : map (λ w₁. cell (held_of w₁)) out ≡ replicate (n - 0) (cell err) =
    cells_are n out [] (omega arith) (omega arith) (λ k. h (suc k))
    in
    rw (z, h 0, rest, y) refl
cells_are (suc n) (w ∷ out) (v ∷ vs) l m h =
    let z : suc n - suc (length vs) ≡ n - length vs = omega arith in
    rw (z, h 0, cells_are n out vs (omega arith) (omega arith) (λ k. h (suc k))) refl
