-- One turn of each loop over the names xs of a mask: the lowest name x and the others ys. Assumes nothing.
use Prim.Native.Nat.{ℕ, zero, suc, ◌+◌, ◌<◌}
use mathlib.Core.Path.{◌≡◌, refl, sym, ap, ◌∙◌}
use mathlib.Core.List.{List, [], ◌∷◌, ◌++◌, map}
use lib.ListN.{length, get_or, set, take, drop}
use native.Mathlib.Omega.{arith}
use mathlib.Core.List.{append-nil}
use Rattle.std.specs.declared.iter.Enumerate.{Enumerate}
use Rattle.names.specs.Names.{members_in}
use Rattle.names.specs.declared.Rising.{Rising}
use Rattle.maker_laid.specs.Masked.{list_of, Mask, mask-items}
use Rattle.maker_laid.specs.Emitted.{link_in, dealt, dealt-none, dealt-more, assigned, assigned-none, assigned-more}

-- a walk over a mask begins with all its names
pub begun : (m : ℕ) → Mask m → (s t : Rising) → s ≡ t → t.0 ≡ m → members_in s.0 ≡ list_of m
begun m k s t p q = ap (λ (r : Rising). members_in r.0) p ∙ ap members_in q ∙ mask-items m k

-- the same where the names are counted along
pub begun-counted : (m : ℕ) → Mask m → (s t : Enumerate Rising) (r : Rising) → s ≡ t → t.iter ≡ r → r.0 ≡ m → t.count ≡ 0
    → (members_in s.iter.0 ≡ list_of m) × (s.count ≡ 0)
begun-counted m k s t r p q e z =
    (ap (λ (u : Enumerate Rising). members_in u.iter.0) p ∙ begun m k t.iter r q e, ap (λ (u : Enumerate Rising). u.count) p ∙ z)

module _ (xs ys : List ℕ) (x : ℕ) (w : xs ≡ x ∷ ys) where
  pub deal-turn : (step l : ℕ) (e : List ℕ) → dealt step ys (l + step) (set e x l) ≡ dealt step xs l e
  deal-turn step l e = sym (ap (λ (t : List ℕ). dealt step t l e) w ∙ dealt-more step l e x ys)

  pub assign-turn : (ls e : List ℕ) (k : ℕ) → k < length ls → assigned ys (drop (k + 1) ls) (set e x (get_or ls k 0)) ≡ assigned xs (drop k ls) e
  assign-turn ls e k h = sym (ap (λ (t : List ℕ). assigned t (drop k ls) e) w ∙ assigned-more x ys ls k e h)

-- An array filled from the front: what is there and what is still to come.
pub fill-turn : (ls : List ℕ) (k y : ℕ) (ys : List ℕ) → k < length ls → take (k + 1) (set ls k y) ++ ys ≡ take k ls ++ (y ∷ ys)
fill-turn [] k y ys h = absurd (omega arith)
fill-turn (l ∷ ls) zero y ys h = refl
fill-turn (l ∷ ls) (suc k) y ys h =
    let z : suc k + 1 ≡ suc (k + 1) = omega arith in
    rw z (ap (λ (t : List ℕ). l ∷ t) (fill-turn ls k y ys (omega arith)))

pub gather-turn : (xs ys : List ℕ) (x : ℕ) → xs ≡ x ∷ ys → (ls env : List ℕ) (k : ℕ) (all : List ℕ) → k < length ls
    → take k ls ++ map (link_in env) xs ≡ all → take (k + 1) (set ls k (get_or env x 0)) ++ map (link_in env) ys ≡ all
gather-turn xs ys x w ls env k all h e =
    fill-turn ls k (get_or env x 0) (map (link_in env) ys) h ∙ sym (ap (λ (t : List ℕ). take k ls ++ map (link_in env) t) w) ∙ e

-- ---- the end of a walk

module _ (xs : List ℕ) (z : xs ≡ []) where
  pub deal-end : (step l : ℕ) (e all : List ℕ) → dealt step xs l e ≡ all → e ≡ all
  deal-end step l e all h = sym (ap (λ (t : List ℕ). dealt step t l e) z ∙ dealt-none step l e) ∙ h

  pub assign_end : (ls e all : List ℕ) → assigned xs ls e ≡ all → e ≡ all
  assign_end ls e all h = sym (ap (λ (t : List ℕ). assigned t ls e) z ∙ assigned-none ls e) ∙ h

  pub gather-end : (ls env : List ℕ) (i n : ℕ) (all : List ℕ) → i + length xs ≡ n → take i ls ++ map (link_in env) xs ≡ all → take n ls ≡ all
  gather-end ls env i n all h e =
      let l : length xs ≡ 0 = ap (length {A = ℕ}) z in
      let j : i ≡ n = omega arith in
      ap (λ (y : ℕ). take y ls) (sym j) ∙ sym (append-nil (take i ls)) ∙ sym (ap (λ (t : List ℕ). take i ls ++ map (link_in env) t) z) ∙ e
