-- Laws of specs/Followed.antt, and what only they need.
use Rattle.std.specs.Prelude.{◌≡◌, ℕ, ◌⊎◌, Bool}
use Rattle.std.proofs.Math.Path.{refl}
use Rattle.std.proofs.Common.{sym, ap, ◌∙◌, inl, inr}
use Rattle.std.proofs.Math.Bool.{true, false, cond}
use Rattle.std.proofs.lemmas.Bool.{false≢true}
use mathlib.Core.List.{List, [], ◌∷◌, ◌++◌, map}
use Rattle.std.proofs.Math.Option.{some}
use Rattle.sheet_tidied.specs.Text.{sheet_text}
use Rattle.sheet_listed.specs.Small.{is_small, filtered, same, headed, following}
use Rattle.sheet_listed.specs.Search.{Rows, first_small}
use Rattle.sheet_listed.proofs.Listed.{same_true, same_self}
use Rattle.sheet_listed.specs.Followed.{told, behind_in, In}

not_same : (s g : List ℕ) → same s g ≡ false → g ≡ s → ⊥
not_same s g h e = false≢true (sym h ∙ ap (same s) e ∙ same_self s)

pub later-in : (s g : List ℕ) (A : Type 0) → same s g ≡ false → (g ≡ s) ⊎ A → A
later-in s g A h (inl e) = absurd (not_same s g h e)
later-in s g A h (inr a) = a

module _ (g : List ℕ) where
  pub behind-left : (l m : List Rows) → In g l → behind_in (l ++ m) g ≡ behind_in l g ++ m
  unfolding behind_in
  behind-left [] m a = absurd a
  behind-left (rs ∷ l) m a = go (same (sheet_text rs) g) refl (behind-left l m)
    where
      go : (b : Bool) → same (sheet_text rs) g ≡ b → (In g l → behind_in (l ++ m) g ≡ behind_in l g ++ m)
          → cond b (l ++ m) (behind_in (l ++ m) g) ≡ cond b l (behind_in l g) ++ m
      go true e ih = refl
      go false e ih = ih (later-in (sheet_text rs) g (In g l) e a)

  pub behind-right : (l m : List Rows) → (In g l → ⊥) → behind_in (l ++ m) g ≡ behind_in m g
  unfolding behind_in
  behind-right [] m h = refl
  behind-right (rs ∷ l) m h = go (same (sheet_text rs) g) refl (behind-right l m (λ a. h (inr a)))
    where
      go : (b : Bool) → same (sheet_text rs) g ≡ b → behind_in (l ++ m) g ≡ behind_in m g → cond b (l ++ m) (behind_in (l ++ m) g) ≡ behind_in m g
      go true e ih = absurd (h (inl (sym (same_true (sheet_text rs) g e))))
      go false e ih = ih

-- The first of the small sheets of a list, as text.
pub headed-first : (l : List Rows) → headed (filtered is_small (map sheet_text l)) ≡ told (first_small l)
unfolding filtered first_small
headed-first [] = refl
headed-first (rs ∷ l) = go (is_small (sheet_text rs)) (headed-first l)
  where
    go : (b : Bool) → headed (filtered is_small (map sheet_text l)) ≡ told (first_small l)
        → headed (cond b (sheet_text rs ∷ filtered is_small (map sheet_text l)) (filtered is_small (map sheet_text l))) ≡ told (cond b (some rs) (first_small l))
    go true ih = refl
    go false ih = ih

pub following-more : (x : List ℕ) (l : List (List ℕ)) (g : List ℕ) → following (x ∷ l) g ≡ cond (same x g) (headed l) (following l g)
unfolding following
following-more x l g = refl

-- What follows a small sheet of a list among its small ones is the first small one behind it.
pub following-first : (g : List ℕ) → is_small g ≡ true → (l : List Rows) → In g l → following (filtered is_small (map sheet_text l)) g ≡ told (first_small (behind_in l g))
unfolding filtered behind_in
following-first g small [] a = absurd a
following-first g small (rs ∷ l) a = go (same (sheet_text rs) g) refl (is_small (sheet_text rs)) refl (following-first g small l)
  where
    go : (b : Bool) → same (sheet_text rs) g ≡ b → (c : Bool) → is_small (sheet_text rs) ≡ c
        → (In g l → following (filtered is_small (map sheet_text l)) g ≡ told (first_small (behind_in l g)))
        → following (cond c (sheet_text rs ∷ filtered is_small (map sheet_text l)) (filtered is_small (map sheet_text l))) g ≡ told (first_small (cond b l (behind_in l g)))
    go true e true f ih = following-more (sheet_text rs) (filtered is_small (map sheet_text l)) g ∙ rw e (headed-first l)
    go true e false f ih = absurd (false≢true (sym f ∙ ap is_small (same_true (sheet_text rs) g e) ∙ small))
    go false e true f ih = following-more (sheet_text rs) (filtered is_small (map sheet_text l)) g ∙ rw e (ih (later-in (sheet_text rs) g (In g l) e a))
    go false e false f ih = ih (later-in (sheet_text rs) g (In g l) e a)
