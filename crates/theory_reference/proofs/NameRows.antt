-- Laws of specs/NameRows.antt, and what only they need.
use Prim.Native.Nat.{ℕ, zero, suc, ◌+◌, ◌≤◌, ◌<◌}
use Rattle.std.specs.Prelude.{◌≡◌, ◌≢◌, Bool, true, false, cond}
use Rattle.std.proofs.Math.Path.{refl}
use Rattle.std.proofs.Common.{sym, ◌∙◌, ap, subst}
use Rattle.std.proofs.lemmas.Bool.{false≢true}
use Rattle.std.proofs.Math.Decide.{ℕ_discrete}
use native.Mathlib.Omega.{arith}
use Rattle.names.specs.Names.{Names}
use Rattle.network.specs.Net.{Links}
use Rattle.theory_pieces.specs.Goes.{Net}
use Rattle.theory_pieces.proofs.Goes.{Steps, stay, steps_then}
use Rattle.theory_reference.proofs.Plan.{fewer}
use Rattle.theory_reference.specs.NameRows.{tally}

-- What one gate does: some firings, after which `Post` holds, and links that are not its own are as they were.
abbrev pub Works : Net → (ℕ → Type 0) → ℕ → (Links → Type 0) → Links → Type 0
Works net F c Post s = (s' : Links) × Steps net s c s' × Post s' × ((l : ℕ) → (F l → ⊥) → s' l ≡ s l)

pub tally-one : (e : ℕ) (f : Names) (k x : ℕ) → x < k → f x ≡ true → e ≤ tally e f k
unfolding tally
tally-one e f zero x lt h = absurd (omega arith)
tally-one e f (suc k) x lt h = go (ℕ_discrete x k) (λ l. tally-one e f k x l h)
  where
    go : Dec (x ≡ k) → (x < k → e ≤ tally e f k) → e ≤ tally e f k + cond (f k) e 0
    go (yes p) ih =
        let z : cond (f k) e 0 ≡ e = ap (λ b. cond b e 0) (ap f (sym p) ∙ h) in
        omega arith
    go (no p) ih = let i = ih (omega arith) in omega arith

module _ (net : Net) (f : Names) (e : ℕ) (F : ℕ → ℕ → Type 0) (Pre Post : ℕ → Links → Type 0)
    (apart : (x y l : ℕ) → f x ≡ true → f y ≡ true → x ≢ y → F x l → F y l → ⊥)
    (pre-same : (x : ℕ) (s s' : Links) → ((l : ℕ) → F x l → s' l ≡ s l) → Pre x s → Pre x s')
    (post-same : (x : ℕ) (s s' : Links) → ((l : ℕ) → F x l → s' l ≡ s l) → Post x s → Post x s')
    (step : (x : ℕ) → f x ≡ true → (s : Links) → Pre x s → Works net (F x) e (Post x) s) where
  -- After the first k names.
  record Worked (k : ℕ) (s s' : Links) : Type 0 where
    steps : Steps net s (tally e f k) s'
    posts : (x : ℕ) → x < k → f x ≡ true → Post x s'
    pres : (x : ℕ) → k ≤ x → f x ≡ true → Pre x s'
    rest : (l : ℕ) → ((x : ℕ) → f x ≡ true → F x l → ⊥) → s' l ≡ s l

  works : (k : ℕ) (s : Links) → ((x : ℕ) → f x ≡ true → Pre x s) → (s' : Links) × Worked k s s'
  unfolding tally
  works zero s p = (s, record { steps = stay net s; posts = λ x lt h. absurd (omega arith); pres = λ x le h. p x h; rest = λ l n. refl })
  works (suc k) s p = let w = works k s p in go w.0 w.1 (f k) refl
    where
      lower : (x : ℕ) → x < suc k → x ≢ k → x < k
      lower x lt ne = omega arith

      go : (s₁ : Links) → Worked k s s₁ → (b : Bool) → f k ≡ b → (s' : Links) × Worked (suc k) s s'
      go s₁ w false no-k = (
        s₁,
        record {
          steps = fewer net s s₁ (tally e f k) (tally e f (suc k)) (let z : cond (f k) e 0 ≡ 0 = ap (λ b. cond b e 0) no-k in omega arith) w.steps;
          posts = λ x lt h. w.posts x (lower x lt (λ q. false≢true (sym no-k ∙ ap f (sym q) ∙ h))) h;
          pres = λ x le h. w.pres x (omega arith) h;
          rest = w.rest;
        },
      )
      go s₁ w true is-k =
          let r : Works net (F k) e (Post k) s₁ = step k is-k s₁ (w.pres k (omega arith) is-k) in
          let s₂ : Links = r.0 in (
            s₂,
            record {
              steps = fewer net s s₂ (tally e f k + e) (tally e f (suc k)) (let z : cond (f k) e 0 ≡ e = ap (λ b. cond b e 0) is-k in omega arith)
                  (steps_then net s s₁ s₂ (tally e f k) e w.steps r.1);
              posts = λ x lt h. done s₁ s₂ w r.2 r.3 x lt h (ℕ_discrete x k);
              pres = λ x le h. pre-same x s₁ s₂ (λ l i. r.3 l (λ j. apart x k l h is-k (λ q. far x le q) i j)) (w.pres x (omega arith) h);
              rest = λ l n. r.3 l (n k is-k) ∙ w.rest l n;
            },
          )
        where
          far : (x : ℕ) → suc k ≤ x → x ≡ k → ⊥
          far x le q = omega arith

          done : (s₁ s₂ : Links) → Worked k s s₁ → Post k s₂ → ((l : ℕ) → (F k l → ⊥) → s₂ l ≡ s₁ l) → (x : ℕ) → x < suc k → f x ≡ true → Dec (x ≡ k) → Post x s₂
          done s₁ s₂ w pk fr x lt h (yes q) = subst (λ y. Post y s₂) (sym q) pk
          done s₁ s₂ w pk fr x lt h (no q) = post-same x s₁ s₂ (λ l i. fr l (λ j. apart x k l h is-k q i j)) (w.posts x (lower x lt q) h)

  -- All names below a bound.
  pub row-works : (k : ℕ) → ((x : ℕ) → f x ≡ true → x < k) → (s : Links) → ((x : ℕ) → f x ≡ true → Pre x s) →
      (s' : Links) × Steps net s (tally e f k) s' × ((x : ℕ) → f x ≡ true → Post x s') × ((l : ℕ) → ((x : ℕ) → f x ≡ true → F x l → ⊥) → s' l ≡ s l)
  row-works k small s p = let w = works k s p in (w.0, w.1.steps, λ x h. w.1.posts x (small x h) h, w.1.rest)
