-- Laws of specs/Binding.antt, and what only they need.
use Rattle.std.specs.Prelude.{ℕ, ◌+◌, ◌-◌, ◌≤◌, ◌<◌, ◌≡◌, refl, Bool, true, false, List, ◌++◌, leb, ltb, length, get_or}
use Rattle.std.proofs.Common.{sym, ap, ◌∙◌, get_or-append-add}
use Rattle.std.proofs.Math.Path.{fun_ext}
use Rattle.std.proofs.Math.ListN.{get_or-append, get_or-eq_default}
use borrow.Author.Tests.{leb-true, leb-false, ltb-true, ltb-false, le-leb, lt-leb, lt-ltb, le-ltb}
use native.Mathlib.Omega.{arith}
use Rattle.value.specs.declared.Value.{Value}
use Rattle.value.specs.Senses.{err}
use Rattle.meaning.specs.Meaning.{Env, bind}
use Rattle.meaning.specs.Binding.{Side, before, among, behind}

side : (a b k : ℕ) → Side a b k
side a b k = go (leb a k) refl (ltb k (a + b)) refl
  where
    go : (s : Bool) → leb a k ≡ s → (t : Bool) → ltb k (a + b) ≡ t → Side a b k
    go false p t q = before (leb-false a k p)
    go true p true q = among (leb-true a k p) (ltb-true k (a + b) q)
    go true p false q = behind (leb-true a k p) (ltb-false k (a + b) q)

module _ (a b : ℕ) (vs : List Value) (env : Env) (k : ℕ) where
  pub bound-among : a ≤ k → k < a + b → bind a b vs env k ≡ get_or vs (k - a) err
  unfolding bind
  bound-among p q = simp (le-leb a k p, lt-ltb k (a + b) q)

  pub bound-before : k < a → bind a b vs env k ≡ env k
  unfolding bind
  bound-before p = simp (lt-leb a k p)

  pub bound-behind : a + b ≤ k → bind a b vs env k ≡ env k
  unfolding bind
  bound-behind p =
      let q : a ≤ k = omega arith in
      simp (le-leb a k q, le-ltb k (a + b) p)

-- An environment is a binding if it holds the values there, and is as it was elsewhere.
pub bind_is : (a b : ℕ) (vs : List Value) (env f : Env)
    → ((k : ℕ) → a ≤ k → k < a + b → f k ≡ get_or vs (k - a) err)
    → ((k : ℕ) → k < a → f k ≡ env k)
    → ((k : ℕ) → a + b ≤ k → f k ≡ env k)
    → f ≡ bind a b vs env
bind_is a b vs env f p q r = fun_ext (λ k. go k (side a b k))
  where
    go : (k : ℕ) → Side a b k → f k ≡ bind a b vs env k
    go k (before h) = q k h ∙ sym (bound-before a b vs env k h)
    go k (among h i) = p k h i ∙ sym (bound-among a b vs env k h i)
    go k (behind h i) = r k i ∙ sym (bound-behind a b vs env k i)

-- Values and then more values behind them.
pub bind-append : (a : ℕ) (vs ws : List Value) (env : Env)
    → bind (a + length vs) (length ws) ws (bind a (length vs) vs env) ≡ bind a (length vs + length ws) (vs ++ ws) env
bind-append a vs ws env =
    bind_is a (length vs + length ws) (vs ++ ws) env (bind (a + length vs) (length ws) ws (bind a (length vs) vs env)) inside
    (λ k h. bound-before (a + length vs) (length ws) ws _ k (omega arith) ∙ bound-before a (length vs) vs env k h)
    (λ k h.
    bound-behind (a + length vs) (length ws) ws _ k (omega arith) ∙ bound-behind a (length vs) vs env k (omega arith)
    )
  where
    inside : (k : ℕ) → a ≤ k → k < a + (length vs + length ws)
        → bind (a + length vs) (length ws) ws (bind a (length vs) vs env) k ≡ get_or (vs ++ ws) (k - a) err
    inside k h i = go (side a (length vs) k)
      where
        go : Side a (length vs) k
            → bind (a + length vs) (length ws) ws (bind a (length vs) vs env) k ≡ get_or (vs ++ ws) (k - a) err
        go (before p) = absurd (omega arith)
        go (among p q) =
            bound-before (a + length vs) (length ws) ws _ k q
            ∙ bound-among a (length vs) vs env k p q
            ∙ sym (get_or-append vs ws err (k - a) (omega arith))
        go (behind p q) =
            let e : k - a ≡ length vs + (k - (a + length vs)) = omega arith in
            bound-among (a + length vs) (length ws) ws _ k q (omega arith)
            ∙ sym (get_or-append-add vs ws (k - (a + length vs)) err)
            ∙ ap (λ (j : ℕ). get_or (vs ++ ws) j err) (sym e)

-- Bound again, the former values are gone.
pub bind-again : (a b : ℕ) (vs ws : List Value) (env : Env) → bind a b ws (bind a b vs env) ≡ bind a b ws env
bind-again a b vs ws env =
    bind_is a b ws env (bind a b ws (bind a b vs env)) (λ k h i. bound-among a b ws (bind a b vs env) k h i)
    (λ k h. bound-before a b ws (bind a b vs env) k h ∙ bound-before a b vs env k h)
    (λ k h. bound-behind a b ws (bind a b vs env) k h ∙ bound-behind a b vs env k h)

-- All of a list's values from 0 on, where there was nothing but err.
pub bind-list : (vs : List Value) (env : Env) → ((k : ℕ) → env k ≡ err)
    → (k : ℕ) → bind 0 (length vs) vs env k ≡ get_or vs k err
bind-list vs env h k = go (side 0 (length vs) k)
  where
    go : Side 0 (length vs) k → bind 0 (length vs) vs env k ≡ get_or vs k err
    go (before p) = absurd (omega arith)
    go (among p q) =
        let e : k - 0 ≡ k = omega arith in
        bound-among 0 (length vs) vs env k p q ∙ ap (λ (j : ℕ). get_or vs j err) e
    go (behind p q) =
        bound-behind 0 (length vs) vs env k q ∙ h k ∙ sym (get_or-eq_default vs err (omega arith))
