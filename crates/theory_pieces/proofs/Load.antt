-- Laws of specs/Load.antt, and what only they need.
use Rattle.std.specs.Prelude.{ℕ, ◌≡◌, refl, ◌≢◌, ◌⊎◌, List, [], ◌∷◌, ◌++◌}
use Rattle.std.proofs.Common.{sym, ◌∙◌, ap, inl, inr, ⊎_elim}
use Rattle.std.proofs.Math.Path.{fun_ext}
use Rattle.std.proofs.Math.Logic.{ite}
use Rattle.std.proofs.Math.Decide.{ℕ_discrete}
use Rattle.network.specs.Net.{Token, Links}
use Rattle.theory_pieces.specs.Load.{Load, opt, set_link, put, On, Clear, Off, Apart, Nones}

pub set_same : (l : ℕ) (x : List Token) (q : Links) → set_link l x q l ≡ x
unfolding set_link
set_same l x q = go (ℕ_discrete l l)
  where
    go : (d : Dec (l ≡ l)) → ite d x (q l) ≡ x
    go (yes p) = refl
    go (no n) = absurd (n refl)

pub set_other : (l j : ℕ) (x : List Token) (q : Links) → j ≢ l → set_link l x q j ≡ q j
unfolding set_link
set_other l j x q ne = go (ℕ_discrete j l)
  where
    go : (d : Dec (j ≡ l)) → ite d x (q j) ≡ q j
    go (yes p) = absurd (ne p)
    go (no n) = refl

-- two states are one if they agree at `l` and elsewhere
pub set-ext : (l : ℕ) (x : List Token) (q q' : Links) → q' l ≡ x → ((j : ℕ) → j ≢ l → q j ≡ q' j) → set_link l x q ≡ q'
unfolding set_link
set-ext l x q q' e f = fun_ext (λ j. go j (ℕ_discrete j l))
  where
    go : (j : ℕ) (d : Dec (j ≡ l)) → ite d x (q j) ≡ q' j
    go j (yes p) = sym e ∙ ap q' (sym p)
    go j (no n) = f j n

pub set-swap : (l m : ℕ) (x y : List Token) (q : Links) → l ≢ m → set_link l x (set_link m y q) ≡ set_link m y (set_link l x q)
unfolding set_link
set-swap l m x y q ne = fun_ext (λ j. go j (ℕ_discrete j l) (ℕ_discrete j m))
  where
    go : (j : ℕ) (d : Dec (j ≡ l)) (e : Dec (j ≡ m)) → ite d x (ite e y (q j)) ≡ ite e y (ite d x (q j))
    go j (yes p) (yes r) = absurd (ne (sym p ∙ r))
    go j (yes p) (no r) = refl
    go j (no p) (yes r) = refl
    go j (no p) (no r) = refl

pub put-app : (xs ys : Load) (b : Links) → put (xs ++ ys) b ≡ put xs (put ys b)
put-app [] ys b = refl
put-app (x ∷ xs) ys b = ap (set_link x.0 (opt x.1)) (put-app xs ys b)

pub on-app : (l : ℕ) (xs ys : Load) → On l (xs ++ ys) → On l xs ⊎ On l ys
on-app l [] ys o = inr o
on-app l (x ∷ xs) ys (inl e) = inl (inl e)
on-app l (x ∷ xs) ys (inr o) = ⊎_elim (λ (p : On l xs). inl (inr p)) (λ (p : On l ys). inr p) (on-app l xs ys o)

pub put-off : (l : ℕ) (xs : Load) (b : Links) → (On l xs → ⊥) → put xs b l ≡ b l
put-off l [] b n = refl
put-off l (x ∷ xs) b n = set_other x.0 l (opt x.1) (put xs b) (λ e. n (inl e)) ∙ put-off l xs b (λ o. n (inr o))

pub put-clear : (xs : Load) (D : ℕ → Type 0) (b : Links) → Off xs D → Clear D b → Clear D (put xs b)
put-clear xs D b f c l d = put-off l xs b (λ o. f l o d) ∙ c l d

pub put-set : (l : ℕ) (x : List Token) (ys : Load) (b : Links) → (On l ys → ⊥) → set_link l x (put ys b) ≡ put ys (set_link l x b)
put-set l x [] b n = refl
put-set l x (y ∷ ys) b n =
    set-swap l y.0 x (opt y.1) (put ys b) (λ e. n (inl e)) ∙ ap (set_link y.0 (opt y.1)) (put-set l x ys b (λ o. n (inr o)))

pub put-swap : (xs ys : Load) (b : Links) → Apart xs ys → put xs (put ys b) ≡ put ys (put xs b)
put-swap [] ys b f = refl
put-swap (x ∷ xs) ys b f =
    ap (set_link x.0 (opt x.1)) (put-swap xs ys b (λ l o. f l (inr o))) ∙ put-set x.0 (opt x.1) ys (put xs b) (λ o. f x.0 (inl refl) o)

pub put-nones : (xs : Load) (b : Links) → Nones xs → ((l : ℕ) → On l xs → b l ≡ []) → put xs b ≡ b
put-nones [] b n c = refl
put-nones (x ∷ xs) b n c =
    ap (set_link x.0 (opt x.1)) (put-nones xs b n.1 (λ l o. c l (inr o)))
    ∙ set-ext x.0 (opt x.1) b b (c x.0 (inl refl) ∙ ap opt (sym n.0)) (λ j ne. refl)
