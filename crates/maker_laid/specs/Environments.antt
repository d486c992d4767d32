-- Arrays of links for the 33 names, and the environments of the assembly language (graph/specs/Assembly): where names are shared, bound to a list,
-- or numbered in a row, the arrays that the code makes give each of the 33 names the link that Assembly gives it. Assumes nothing.
use Prim.Native.Nat.{ℕ, zero, suc, ◌+◌, ◌*◌, ◌≤◌, ◌<◌}
use Rattle.std.specs.Prelude.{◌≡◌, refl, Bool, cond, ◌&&◌, length, set, eqb}
use Rattle.std.proofs.Math.Path.{sym, ap, ap₂}
use Rattle.std.proofs.Common.{◌∙◌, length-set, get_or-set_same, eqb-true, eq-eqb}
use Rattle.std.proofs.Math.Bool.{true, false}
use Rattle.std.proofs.lemmas.Bool.{eqb-false}
use mathlib.Core.List.{List, [], ◌∷◌}
use Rattle.std.proofs.Math.ListN.{get_or}
use Rattle.std.proofs.Math.Seq.{get_or-set_other}
use native.Mathlib.Omega.{arith}
use Rattle.names.specs.Names.{Names, common, members, size_from, members_from, later, put, bit}
use Rattle.names.proofs.Walk.{members_from-none}
use Rattle.theory_yields.specs.Naming.{Small}
use Rattle.theory_yields.proofs.Naming.{or-neither, or_left, or_right}
use Rattle.graph.specs.Fit.{Different}
use Rattle.graph.specs.Assembly.{Env, member_of, rank, listed, first_use, second_use, named}
use Rattle.maker_laid.specs.Emitted.{link_in, dealt, dealt-none, dealt-more, assigned}

-- An environment gives each of the 33 names the link that an array gives it.
abbrev pub Agrees : Env → List ℕ → Type 0
Agrees env e = (x : ℕ) → x < 33 → env x ≡ get_or e x 0

-- ---- sets over 33 places, counted and listed over all names

members-more : (n k at : ℕ) (f : Names) → ((i : ℕ) → n ≤ i → f i ≡ false) → members_from (n + k) at f ≡ members_from n at f
unfolding members_from
members-more zero k at f h = let z : 0 + k ≡ k = omega arith in rw z (members_from-none k at f (λ i _. h i (omega arith)))
members-more (suc n) k at f h =
    let z : suc n + k ≡ suc (n + k) = omega arith in
    rw z (ap (put (f 0) at) (members-more n k (suc at) (later f) (λ i l. h (suc i) (omega arith))))

pub listed_small : (f : Names) → Small f → listed f ≡ members f
unfolding listed members
listed_small f s = members-more 33 70 0 f s

-- ---- links dealt out

module _ (step : ℕ) where
  dealt-before : (n at l k : ℕ) (f : Names) (e : List ℕ) → k < at → get_or (dealt step (members_from n at f) l e) k 0 ≡ get_or e k 0
  unfolding members_from
  dealt-before zero at l k f e h = ap (λ (r : List ℕ). get_or r k 0) (dealt-none step l e)
  dealt-before (suc n) at l k f e h = go (f 0) (λ l' e'. dealt-before n (suc at) l' k (later f) e' (omega arith))
    where
      go : (b : Bool) → ((l' : ℕ) (e' : List ℕ) → get_or (dealt step (members_from n (suc at) (later f)) l' e') k 0 ≡ get_or e' k 0)
          → get_or (dealt step (put b at (members_from n (suc at) (later f))) l e) k 0 ≡ get_or e k 0
      go true ih =
          ap (λ (r : List ℕ). get_or r k 0) (dealt-more step l e at (members_from n (suc at) (later f)))
          ∙ ih (l + step) (set e at l) ∙ get_or-set_other e at k l 0 (λ z. omega arith)
      go false ih = ih l e

  dealt-at : (n at l x : ℕ) (f : Names) (e : List ℕ) → x < n → at + n ≤ length e
      → get_or (dealt step (members_from n at f) l e) (at + x) 0 ≡ cond (f x) (l + step * size_from x f) (get_or e (at + x) 0)
  unfolding members_from size_from
  dealt-at zero at l x f e h s = absurd (omega arith)
  dealt-at (suc n) at l zero f e h s = go (f 0)
    where
      z : at + 0 ≡ at
      z = omega arith

      y : l + step * 0 ≡ l
      y = omega arith

      go : (b : Bool) → get_or (dealt step (put b at (members_from n (suc at) (later f))) l e) (at + 0) 0 ≡ cond b (l + step * 0) (get_or e (at + 0) 0)
      go true =
          rw (z, y)
          (ap (λ (r : List ℕ). get_or r at 0) (dealt-more step l e at (members_from n (suc at) (later f)))
          ∙ dealt-before n (suc at) (l + step) at (later f) (set e at l) (omega arith) ∙ get_or-set_same e at l 0 (omega arith))
      go false = dealt-before n (suc at) l (at + 0) (later f) e (omega arith)
  dealt-at (suc n) at l (suc x) f e h s = go (f 0) (λ l' e' s'. dealt-at n (suc at) l' x (later f) e' (omega arith) s')
    where
      z : at + suc x ≡ suc at + x
      z = omega arith

      go : (b : Bool)
          → ((l' : ℕ) (e' : List ℕ) → suc at + n ≤ length e'
          → get_or (dealt step (members_from n (suc at) (later f)) l' e') (suc at + x) 0 ≡ cond (f (suc x)) (l' + step * size_from x (later f)) (get_or e' (suc at + x) 0))
          → get_or (dealt step (put b at (members_from n (suc at) (later f))) l e) (at + suc x) 0
          ≡ cond (f (suc x)) (l + step * (bit b + size_from x (later f))) (get_or e (at + suc x) 0)
      go true ih =
          let m : step * (1 + size_from x (later f)) ≡ step + step * size_from x (later f) = omega arith in
          let a : l + (step + step * size_from x (later f)) ≡ l + step + step * size_from x (later f) = omega arith in
          let g : length (set e at l) ≡ length e = length-set e at l in
          rw (z, m, a)
          (ap (λ (r : List ℕ). get_or r (suc at + x) 0) (dealt-more step l e at (members_from n (suc at) (later f)))
          ∙ ih (l + step) (set e at l) (omega arith)
          ∙ ap (cond (f (suc x)) (l + step + step * size_from x (later f))) (get_or-set_other e at (suc at + x) l 0 (λ (q : suc at + x ≡ at). omega arith)))
      go false ih =
          let m : 0 + size_from x (later f) ≡ size_from x (later f) = omega arith in
          rw (z, m) (ih l e (omega arith))

  pub dealt-links : (l x : ℕ) (f : Names) (e : List ℕ) → length e ≡ 33 → x < 33
      → get_or (dealt step (members f) l e) x 0 ≡ cond (f x) (l + step * size_from x f) (get_or e x 0)
  unfolding members
  dealt-links l x f e h k =
      let z : 0 + x ≡ x = omega arith in
      rw z at (dealt-at 33 0 l x f e k (omega arith))

module _ (f g : Names) (n : ℕ) (env : Env) (e : List ℕ) (h : length e ≡ 33) (a : Agrees env e) where
  pub first-agrees : Agrees (first_use f g n env) (dealt 2 (members (common f g)) n e)
  unfolding first_use rank
  first-agrees x k = ap (cond (f x && g x) (n + 2 * size_from x (common f g))) (a x k) ∙ sym (dealt-links 2 n x (common f g) e h k)

  pub second-agrees : Agrees (second_use f g n env) (dealt 2 (members (common f g)) (n + 1) e)
  unfolding second_use rank
  second-agrees x k =
      let z : n + 2 * size_from x (common f g) + 1 ≡ n + 1 + 2 * size_from x (common f g) = omega arith in
      ap₂ (cond (f x && g x)) z (a x k) ∙ sym (dealt-links 2 (n + 1) x (common f g) e h k)

-- ---- names bound to a list of links

pub named_other : (xs ls : List ℕ) (env : Env) (k : ℕ) → member_of xs k ≡ false → named xs ls env k ≡ env k
unfolding named member_of
named_other [] ls env k h = refl
named_other (x ∷ xs) [] env k h = refl
named_other (x ∷ xs) (l ∷ ls) env k h =
    let p : (eqb x k ≡ false) × (member_of xs k ≡ false) = or-neither (eqb x k) (member_of xs k) h in
    rw p.0 (named_other xs ls env k p.1)

pub named-same : (xs ls : List ℕ) (env env' : Env) (k : ℕ) → env k ≡ env' k → named xs ls env k ≡ named xs ls env' k
unfolding named
named-same [] ls env env' k h = h
named-same (x ∷ xs) [] env env' k h = h
named-same (x ∷ xs) (l ∷ ls) env env' k h = ap (cond (eqb x k) l) (named-same xs ls env env' k h)

assigned-named : (xs ls e : List ℕ) → length e ≡ 33 → Different xs → ((x : ℕ) → member_of xs x ≡ true → x < 33) → (k : ℕ)
    → named xs ls (link_in e) k ≡ get_or (assigned xs ls e) k 0
unfolding named assigned member_of
assigned-named [] ls e g d s k = refl
assigned-named (x ∷ xs) [] e g d s k = refl
assigned-named (x ∷ xs) (l ∷ ls) e g d s k =
    go (eqb x k) refl (assigned-named xs ls (set e x l) (length-set e x l ∙ g) d.2 (λ y m. s y (or_right (eqb x y) (member_of xs y) m)) k)
  where
    inside : x < 33
    inside = s x (or_left (eqb x x) (member_of xs x) (eq-eqb x x refl))

    go : (b : Bool) → eqb x k ≡ b → named xs ls (link_in (set e x l)) k ≡ get_or (assigned xs ls (set e x l)) k 0
        → cond b l (named xs ls (link_in e) k) ≡ get_or (assigned xs ls (set e x l)) k 0
    go true p ih =
        let q : x ≡ k = eqb-true x k p in
        sym (ap (link_in (set e x l)) (sym q) ∙ get_or-set_same e x l 0 (omega (arith, inside)))
        ∙ sym (named_other xs ls (link_in (set e x l)) k (ap (member_of xs) (sym q) ∙ d.1)) ∙ ih
    go false p ih =
        named-same xs ls (link_in e) (link_in (set e x l)) k (sym (get_or-set_other e x k l 0 (λ (q : k ≡ x). eqb-false x k p (sym q)))) ∙ ih

pub named-agrees : (xs ls : List ℕ) (env : Env) (e : List ℕ) → length e ≡ 33 → Different xs → ((x : ℕ) → member_of xs x ≡ true → x < 33)
    → Agrees env e → Agrees (named xs ls env) (assigned xs ls e)
named-agrees xs ls env e g d s a x k = named-same xs ls env (link_in e) x (a x k) ∙ assigned-named xs ls e g d s x

pub named-above : (xs ls : List ℕ) (env : Env) (e : List ℕ) → ((x : ℕ) → x < 33 → member_of xs x ≡ false) → Agrees env e → Agrees (named xs ls env) e
named-above xs ls env e s a x k = named_other xs ls env x (s x k) ∙ a x k
