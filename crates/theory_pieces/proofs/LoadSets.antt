-- Laws of specs/LoadSets.antt, and what only they need.
use Rattle.std.specs.Prelude.{ℕ, ◌≡◌, refl, ◌⊎◌, [], ◌∷◌}
use Rattle.std.proofs.Common.{sym, ◌∙◌, ap, subst, inl, inr, ⊎_elim}
use Rattle.std.proofs.Math.Option.{Option}
use Rattle.std.proofs.Math.Decide.{ℕ_discrete}
use Rattle.network.specs.Net.{Token, Links}
use Rattle.theory_pieces.specs.Load.{Load, opt, set_link, put, On}
use Rattle.theory_pieces.proofs.Load.{set_same, set_other}
use Rattle.theory_pieces.specs.Gate.{Distinct}
use Rattle.theory_pieces.specs.LoadSets.{Mem}

pub mem-on : (l : ℕ) (t : Option Token) (xs : Load) → Mem l t xs → On l xs
mem-on l t [] m = m
mem-on l t (x ∷ xs) (inl (e, f)) = inl (sym e)
mem-on l t (x ∷ xs) (inr m) = inr (mem-on l t xs m)

pub on-mem : (l : ℕ) (xs : Load) → On l xs → (t : Option Token) × Mem l t xs
on-mem l [] o = absurd o
on-mem l (x ∷ xs) (inl e) = (x.1, inl (sym e, refl))
on-mem l (x ∷ xs) (inr o) = let h = on-mem l xs o in (h.0, inr h.1)

pub put-mem : (l : ℕ) (t : Option Token) (xs : Load) (b : Links) → Distinct xs → Mem l t xs → put xs b l ≡ opt t
put-mem l t [] b d m = absurd m
put-mem l t (x ∷ xs) b d (inl (e, f)) = ap (λ z. set_link x.0 (opt x.1) (put xs b) z) (sym e) ∙ set_same x.0 (opt x.1) (put xs b) ∙ ap opt f
put-mem l t (x ∷ xs) b d (inr m) =
    set_other x.0 l (opt x.1) (put xs b) (λ e. d.0 (subst (λ z. On z xs) e (mem-on l t xs m))) ∙ put-mem l t xs b d.1 m

pub dec-on : (l : ℕ) (xs : Load) → Dec (On l xs)
dec-on l [] = no (λ o. o)
dec-on l (x ∷ xs) = go (ℕ_discrete l x.0) (dec-on l xs)
  where
    go : Dec (l ≡ x.0) → Dec (On l xs) → Dec ((l ≡ x.0) ⊎ On l xs)
    go (yes p) d = yes (inl p)
    go (no n) (yes p) = yes (inr p)
    go (no n) (no m) = no (λ o. ⊎_elim n m o)
