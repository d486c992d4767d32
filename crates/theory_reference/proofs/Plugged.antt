-- Laws of specs/Plugged.antt, and what only they need.
use Prim.Native.Nat.{ℕ, zero, suc, ◌+◌, ◌≤◌, ◌<◌}
use Rattle.std.specs.Prelude.{◌≡◌, Bool, ◌&&◌, get_or}
use Rattle.std.proofs.Math.Path.{subst}
use Rattle.std.proofs.Math.Bool.{true, false}
use mathlib.Core.List.{List, [], ◌∷◌, ◌++◌}
use Rattle.std.proofs.Math.ListN.{length}
use native.Mathlib.Omega.{arith}
use Rattle.std.proofs.Common.{zero-add, one-add}
use Rattle.names.specs.Names.{Names, common, size_from, members_from, later, bit, put}
use Rattle.theory_pieces.specs.Goes.{Net}
use Rattle.graph.specs.Assembly.{name_count, Operator, Env, copy_of, copies_for, sharing, first_use, second_use, ring_gate, ring, listed, rank, total}
use Rattle.theory_reference.specs.Plugged.{demand_of}
use Rattle.theory_reference.specs.Plugged as Stated

-- What holds of each operator of a list, and of those on a list of names by name.
module _ (P : Operator → Type 0) where
  abbrev Each : List Operator → Type 0
  Each = Stated.Each P

  pub each_first : (xs ys : List Operator) → Each (xs ++ ys) → Each xs
  each_first [] ys h = tt
  each_first (x ∷ xs) ys h = (h.0, each_first xs ys h.1)

  pub each-rest : (xs ys : List Operator) → Each (xs ++ ys) → Each ys
  each-rest [] ys h = h
  each-rest (x ∷ xs) ys h = each-rest xs ys h.1

  copies_at : (k at : ℕ) (f : Names) (env e₁ e₂ : Env) → Each (copies_for (members_from k at f) env e₁ e₂) → (x : ℕ) → x < k → f x ≡ true →
      P (copy_of (env (at + x)) (e₁ (at + x)) (e₂ (at + x)))
  unfolding copies_for members_from
  copies_at zero at f env e₁ e₂ h x lt e = absurd (omega arith)
  copies_at (suc k) at f env e₁ e₂ h zero lt e =
      let z : at + 0 ≡ at = omega arith in
      let h' : Each (copies_for (put true at (members_from k (suc at) (later f))) env e₁ e₂)
      = subst (λ b. Each (copies_for (put b at (members_from k (suc at) (later f))) env e₁ e₂)) e h in
      rw z h'.0
  copies_at (suc k) at f env e₁ e₂ h (suc x) lt e =
      let z : at + suc x ≡ suc at + x = omega arith in
      rw z (copies_at k (suc at) (later f) env e₁ e₂ (rest (f 0) h) x (omega arith) e)
    where
      rest : (b : Bool) → Each (copies_for (put b at (members_from k (suc at) (later f))) env e₁ e₂) → Each (copies_for (members_from k (suc at) (later f)) env e₁ e₂)
      rest true g = g.1
      rest false g = g

  pub each_copy : (f g : Names) (n : ℕ) (env : Env) → Each (sharing f g n env) → (x : ℕ) → x < name_count → f x && g x ≡ true →
      P (copy_of (env x) (first_use f g n env x) (second_use f g n env x))
  unfolding sharing listed
  each_copy f g n env h x lt e =
      let z : 0 + x ≡ x = omega arith in
      let r = copies_at name_count 0 (common f g) env (first_use f g n env) (second_use f g n env) h x lt e in
      subst (λ y. P (copy_of (env y) (first_use f g n env y) (second_use f g n env y))) z r

  -- The gates of a loop: the control of a name is the one at its rank.
  ring-at : (k at : ℕ) (f ids : Names) (cs : List ℕ) (it st ow out : Env) → size_from k f ≤ length cs → Each (ring (members_from k at f) ids cs it st ow out) → (x : ℕ) → x < k → f x ≡ true →
      P (ring_gate (ids (at + x)) (get_or cs (size_from x f) 0) (it (at + x)) (st (at + x)) (ow (at + x)) (out (at + x)))
  unfolding ring members_from size_from
  ring-at zero at f ids cs it st ow out le h x lt e = absurd (omega arith)
  ring-at (suc k) at f ids cs it st ow out le h zero lt e =
      let z : at + 0 ≡ at = omega arith in
      let h' : Each (ring (put true at (members_from k (suc at) (later f))) ids cs it st ow out)
      = subst (λ b. Each (ring (put b at (members_from k (suc at) (later f))) ids cs it st ow out)) e h in
      let le' : 1 + size_from k (later f) ≤ length cs = subst (λ b. bit b + size_from k (later f) ≤ length cs) e le in
      rw z (go cs le' h')
    where
      go : (cs : List ℕ) → 1 + size_from k (later f) ≤ length cs → Each (ring (at ∷ members_from k (suc at) (later f)) ids cs it st ow out) →
          P (ring_gate (ids at) (get_or cs 0 0) (it at) (st at) (ow at) (out at))
      go [] l g = absurd (omega arith)
      go (c ∷ cs) l g = g.0
  ring-at (suc k) at f ids cs it st ow out le h (suc x) lt e =
      let z : at + suc x ≡ suc at + x = omega arith in
      rw z (go (f 0) cs le h (λ ds l g. ring-at k (suc at) (later f) ids ds it st ow out l g x (omega arith) e))
    where
      Goal : List ℕ → ℕ → Type 0
      Goal ds i = P (ring_gate (ids (suc at + x)) (get_or ds i 0) (it (suc at + x)) (st (suc at + x)) (ow (suc at + x)) (out (suc at + x)))

      go : (b : Bool) (cs : List ℕ) → bit b + size_from k (later f) ≤ length cs → Each (ring (put b at (members_from k (suc at) (later f))) ids cs it st ow out) →
          ((ds : List ℕ) → size_from k (later f) ≤ length ds → Each (ring (members_from k (suc at) (later f)) ids ds it st ow out) → Goal ds (size_from x (later f))) → Goal cs (bit b + size_from x (later f))
      go true [] l g ih = absurd (omega arith)
      go true (c ∷ cs) l g ih = rw (one-add (size_from x (later f))) (ih cs (omega arith) g.1)
      go false cs l g ih = rw (zero-add (size_from x (later f))) (ih cs (omega arith) g)

  pub each-ring : (f ids : Names) (cs : List ℕ) (it st ow out : Env) → total f ≤ length cs → Each (ring (listed f) ids cs it st ow out) → (x : ℕ) → x < name_count → f x ≡ true →
      P (ring_gate (ids x) (get_or cs (rank f x) 0) (it x) (st x) (ow x) (out x))
  unfolding listed total rank
  each-ring f ids cs it st ow out le h x lt e =
      let z : 0 + x ≡ x = omega arith in
      let r = ring-at name_count 0 f ids cs it st ow out le h x lt e in
      subst (λ y. P (ring_gate (ids y) (get_or cs (size_from x f) 0) (it y) (st y) (ow y) (out y))) z r

module _ (net : Net) where
  abbrev pub Somewhere : Operator → Type 0
  Somewhere o = (a : ℕ) × (net.at a ≡ demand_of o) × net.Fine (a ∷ [])

  abbrev pub Has : List Operator → Type 0
  Has = Each Somewhere

  -- By position: the operators from number m on.
  abbrev pub Numbered : ℕ → List Operator → Type 0
  Numbered m [] = Unit {0}
  Numbered m (o ∷ os) = (net.at m ≡ demand_of o) × net.Fine (m ∷ []) × Numbered (suc m) os

  pub numbered-has : (m : ℕ) (os : List Operator) → Numbered m os → Has os
  numbered-has m [] h = tt
  numbered-has m (o ∷ os) h = ((m, h.0, h.1), numbered-has (suc m) os h.2)
