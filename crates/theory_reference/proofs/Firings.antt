-- Laws of specs/Firings.antt, and what only they need.
use Rattle.std.specs.Prelude.{ℕ, ◌≡◌, List, [], ◌∷◌}
use Rattle.std.proofs.Common.{sym, ◌∙◌, ap, subst, inl, inr, arith}
use Rattle.std.proofs.Math.Path.{fun_ext}
use Rattle.std.proofs.Math.Option.{Option, some}
use Rattle.std.proofs.Math.Decide.{ℕ_discrete}
use Rattle.network.specs.Net.{Token, Demand, Links, Able, act}
use Rattle.theory_pieces.specs.Load.{Load, opt, set_link, put, On}
use Rattle.theory_pieces.proofs.Load.{set_same, set_other, put-off}
use Rattle.theory_pieces.specs.LoadSets.{Mem}
use Rattle.theory_pieces.proofs.LoadSets.{on-mem, put-mem, dec-on}
use Rattle.theory_pieces.specs.Goes.{Net, one_place}
use Rattle.theory_pieces.proofs.Goes.{Steps}
use Rattle.theory_pieces.specs.Gate.{Distinct, emitted, Consumes}
use Rattle.theory_pieces.proofs.Gate.{consumes-does}
use Rattle.theory_reference.specs.Firings.{Wait, cleared}

on-cleared : (l : ℕ) (xs : Load) → On l (cleared xs) → On l xs
on-cleared l [] o = o
on-cleared l (x ∷ xs) (inl e) = inl e
on-cleared l (x ∷ xs) (inr o) = inr (on-cleared l xs o)

cleared-here : (l : ℕ) (xs : Load) (s : Links) → On l xs → put (cleared xs) s l ≡ []
cleared-here l [] s o = absurd o
cleared-here l (x ∷ xs) s o = go (λ p. cleared-here l xs s p) (ℕ_discrete l x.0) o
  where
    go : (On l xs → put (cleared xs) s l ≡ []) → Dec (l ≡ x.0) → On l (x ∷ xs) → set_link x.0 [] (put (cleared xs) s) l ≡ []
    go ih (yes e) p = ap (set_link x.0 [] (put (cleared xs) s)) e ∙ set_same x.0 [] (put (cleared xs) s)
    go ih (no n) (inl e) = absurd (n e)
    go ih (no n) (inr p) = set_other x.0 l [] (put (cleared xs) s) n ∙ ih p

cleared-there : (l : ℕ) (xs : Load) (s : Links) → (On l xs → ⊥) → put (cleared xs) s l ≡ s l
cleared-there l xs s n = put-off l (cleared xs) s (λ o. n (on-cleared l xs o))

wait-mem : (l : ℕ) (t : Option Token) (xs : Load) (s : Links) → Wait xs s → Mem l t xs → s l ≡ opt t
wait-mem l t [] s w m = absurd m
wait-mem l t (x ∷ xs) s w (inl (e, f)) = ap s (sym e) ∙ w.0 ∙ ap opt f
wait-mem l t (x ∷ xs) s w (inr m) = wait-mem l t xs s w.1 m

pub record Fired (net : Net) (s : Links) (xs : Load) (es : List (ℕ × Token)) : Type 0 where
  pub after : Links
  pub steps : Steps net s 1 after
  pub emits : (l : ℕ) (t : Token) → Mem l (some t) (emitted es) → after l ≡ t ∷ []
  pub takes : (l : ℕ) → On l xs → (On l (emitted es) → ⊥) → after l ≡ []
  pub keeps : (l : ℕ) → (On l xs → ⊥) → (On l (emitted es) → ⊥) → after l ≡ s l

pub fires-at : (net : Net) (d : Demand) (xs : Load) (es : List (ℕ × Token)) (s : Links) → (a : ℕ) × (net.at a ≡ d) × net.Fine (a ∷ []) → Consumes d xs es → Distinct xs → Distinct (emitted es) → Wait xs s →
    ((l : ℕ) → On l (emitted es) → (On l xs → ⊥) → s l ≡ []) → Fired net s xs es
fires-at net d xs es s (a, at, fi) e dx de w free =
    record {
      after = put (emitted es) b;
      steps = record {
        w = a ∷ [];
        runs = (subst (λ z. Able one_place z s) (sym at) (subst (Able one_place d) whole h.0), tt);
        ends = ap (λ z. act z s) at ∙ ap (act d) (sym whole) ∙ h.1;
        many = omega arith;
        fine = fi;
      };
      emits = λ l t m. put-mem l (some t) (emitted es) b de m;
      takes = λ l o n. put-off l (emitted es) b n ∙ cleared-here l xs s o;
      keeps = λ l n m. put-off l (emitted es) b m ∙ cleared-there l xs s n;
    }
  where
    b : Links
    b = put (cleared xs) s

    whole-at : (l : ℕ) → Dec (On l xs) → put xs b l ≡ s l
    whole-at l (yes o) = let m = on-mem l xs o in put-mem l m.0 xs b dx m.1 ∙ sym (wait-mem l m.0 xs s w m.1)
    whole-at l (no n) = put-off l xs b n ∙ cleared-there l xs s n

    whole : put xs b ≡ s
    whole = fun_ext (λ l. whole-at l (dec-on l xs))

    dry : (l : ℕ) → On l (emitted es) → Dec (On l xs) → b l ≡ []
    dry l o (yes p) = cleared-here l xs s p
    dry l o (no n) = cleared-there l xs s n ∙ free l o n

    h : Able one_place d (put xs b) × (act d (put xs b) ≡ put (emitted es) b)
    h = consumes-does d xs es b e dx de (λ l o. cleared-here l xs s o) (λ l o. dry l o (dec-on l xs))
