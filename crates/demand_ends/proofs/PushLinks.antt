-- Laws of specs/PushLinks.antt, and what only they need.
use Prim.Native.Nat.{ℕ, zero, suc, ◌+◌, ◌≤◌, ◌<◌}
use Rattle.std.specs.Prelude.{◌≡◌, refl, Bool, true, false, get_or}
use Rattle.std.proofs.Common.{ap, ap₂, ◌∙◌, arith, zero-add, length-append}
use Rattle.std.proofs.Math.Logic.{if_pos, if_neg}
use mathlib.Core.List.{List, [], ◌∷◌, ◌++◌}
use Rattle.std.proofs.Math.Decide.{ℕ_discrete}
use Rattle.std.proofs.Math.ListN.{length, get_or-append}
use Rattle.std.proofs.lemmas.List.{get_or_at}
use Rattle.names.specs.Names.{bit}
use Rattle.value.specs.declared.Value.{Value}
use Rattle.value.specs.Senses.{err}
use Rattle.network.specs.Values.{true-value}
use Rattle.network.specs.Net.{Token, val, Links, append, Room, Able, appends, act}
use Rattle.network.proofs.Net.{append-other, append-append}
use Rattle.network.specs.Ends.{capacities}
use Rattle.theory_pieces.specs.Sets.{onto}
use Rattle.graph.specs.Assembly.{up_from}
use Rattle.graph.specs.Translation.{Made}
use Rattle.theory_verdicts.specs.Owed.{credit_link}
use Rattle.theory_verdicts.specs.Running.{places, with_trigger}
use Rattle.demand_ends.specs.PushLinks.{push_into, given_from, given, cued}

-- ---- places
pub places-credit : (capacity : ℕ) → places capacity credit_link ≡ 16
unfolding capacities
places-credit capacity = if_pos (ℕ_discrete credit_link credit_link) refl 16 capacity

pub places-link : (capacity l : ℕ) → l < credit_link → places capacity l ≡ capacity
unfolding capacities
places-link capacity l h = if_neg (ℕ_discrete l credit_link) (λ e. omega arith) 16 capacity

-- ---- values in a row
given-first : (a k : ℕ) (u : Value) (v : List Value) (q : Links) → given_from (suc a) k v (append a (val u) q) ≡ given_from a (suc k) (u ∷ v) q
given-first a zero u v q = let z : a ≡ a + 0 = omega arith in ap (λ (l : ℕ). append l (val u) q) z
given-first a (suc k) u v q =
    let z : suc a + k ≡ a + suc k = omega arith in
    ap₂ (λ (l : ℕ) (p : Links). append l (val (get_or v k err)) p) z (given-first a k u v q)

appends-given : (a k : ℕ) (v : List Value) (q : Links) → length v ≡ k → appends (onto (up_from a k) v) q ≡ given_from a k v q
unfolding up_from
appends-given a zero v q e = refl
appends-given a (suc k) [] q e = absurd (omega arith)
appends-given a (suc k) (u ∷ v) q e = appends-given (suc a) k v (append a (val u) q) (omega arith) ∙ given-first a k u v q

given-from : (k : ℕ) (v : List Value) (q : Links) → given_from 0 k v q ≡ given k v q
given-from zero v q = refl
given-from (suc k) v q = ap₂ (λ (l : ℕ) (p : Links). append l (val (get_or v k err)) p) (zero-add k) (given-from k v q)

-- What lies behind the given values makes no difference.
given-more : (k : ℕ) (v w : List Value) (q : Links) → k ≤ length v → given k (v ++ w) q ≡ given k v q
given-more zero v w q h = refl
given-more (suc k) v w q h =
    ap₂ (λ (u : Value) (p : Links). append k (val u) p) (get_or-append v w err k h) (given-more k v w q (omega arith))

-- A link that is given nothing.
pub given-other : (k : ℕ) (v : List Value) (q : Links) (l : ℕ) → k ≤ l → given k v q l ≡ q l
given-other zero v q l h = refl
given-other (suc k) v q l h = append-other k l (val (get_or v k err)) (given k v q) (λ e. omega arith) ∙ given-other k v q l (omega arith)

given-append : (k : ℕ) (v : List Value) (c : ℕ) (t : Token) (q : Links) → k ≤ c → given k v (append c t q) ≡ append c t (given k v q)
given-append zero v c t q h = refl
given-append (suc k) v c t q h =
    ap (append k (val (get_or v k err))) (given-append k v c t q (omega arith))
    ∙ append-append k c (val (get_or v k err)) t (given k v q) (λ e. omega arith)

-- The values of a push, the trigger's among them.
given-cued : (b : Bool) (k : ℕ) (v : List Value) (q : Links) → length v ≡ k → given (k + bit b) (with_trigger b v) q ≡ cued b k (given k v q)
given-cued true k v q e =
    let z : k + 1 ≡ suc k = omega arith in
    ap (λ (n : ℕ). given n (v ++ (true-value ∷ [])) q) z
    ∙ ap₂ (λ (u : Value) (p : Links). append k (val u) p) (get_or_at v true-value [] err k e) (given-more k v (true-value ∷ []) q (omega (arith, e)))
given-cued false k v q e = let z : k + 0 ≡ k = omega arith in ap (λ (n : ℕ). given n v q) z

pub cued-other : (b : Bool) (k : ℕ) (q : Links) (l : ℕ) → k < l → cued b k q l ≡ q l
cued-other true k q l h = append-other k l (val true-value) q (λ e. omega arith)
cued-other false k q l h = refl

length-trigger : (b : Bool) (k : ℕ) (v : List Value) → length v ≡ k → length (with_trigger b v) ≡ k + bit b
length-trigger true k v e = length-append v (true-value ∷ []) ∙ ap (λ (n : ℕ). n + 1) e
length-trigger false k v e = e ∙ omega arith

-- ---- room
module _ (cap : ℕ → ℕ) where
  room-each : (a k : ℕ) (v : List Value) (q : Links) → length v ≡ k → Room cap (onto (up_from a k) v) q → (l : ℕ) → a ≤ l → l < a + k → length (q l) < cap l
  unfolding up_from
  room-each a zero v q e r l i h = absurd (omega arith)
  room-each a (suc k) [] q e r l i h = absurd (omega arith)
  room-each a (suc k) (u ∷ v) q e r l i h =
      go (ℕ_discrete l a) (λ p. room-each (suc a) k v (append a (val u) q) (omega arith) r.1 l p (omega arith))
    where
      go : Dec (l ≡ a) → (suc a ≤ l → length (append a (val u) q l) < cap l) → length (q l) < cap l
      go (yes p) ih = rw p r.0
      go (no n) ih = rw (append-other a l (val u) q n) at (ih (omega arith))

  each-room : (a k : ℕ) (v : List Value) (q : Links) → length v ≡ k → ((l : ℕ) → a ≤ l → l < a + k → length (q l) < cap l) → Room cap (onto (up_from a k) v) q
  unfolding up_from
  each-room a zero v q e h = tt
  each-room a (suc k) [] q e h = absurd (omega arith)
  each-room a (suc k) (u ∷ v) q e h = (
    h a (omega arith) (omega arith),
    each-room (suc a) k v (append a (val u) q) (omega arith)
        (λ l i j. rw (append-other a l (val u) q (λ p. omega arith)) (h l (omega arith) (omega arith))),
  )

-- ---- push
module _ (g : Made) (v : List Value) (q : Links) (whole : length v ≡ g.inputs) (near : g.inputs + bit g.triggered ≤ credit_link) where
  abbrev pushed-values : List Value
  pushed-values = with_trigger g.triggered v

  abbrev pushed-count : ℕ
  pushed-count = g.inputs + bit g.triggered

  counted : length pushed-values ≡ pushed-count
  counted = length-trigger g.triggered g.inputs v whole

  -- One value on each input link, the trigger's, and one set more untaken.
  pub push-acts : act (push_into g v) q ≡ append credit_link (val true-value) (cued g.triggered g.inputs (given g.inputs v q))
  push-acts =
      appends-given 0 pushed-count pushed-values (append credit_link (val true-value) q) counted
      ∙ given-from pushed-count pushed-values (append credit_link (val true-value) q)
      ∙ given-append pushed-count pushed-values credit_link (val true-value) q near
      ∙ ap (append credit_link (val true-value)) (given-cued g.triggered g.inputs v q whole)

  module _ (capacity : ℕ) where
    -- Push can be made when there is room everywhere, and then only.
    pub push-room : Able (places capacity) (push_into g v) q → (length (q credit_link) < 16) × ((l : ℕ) → l < pushed-count → length (q l) < capacity)
    push-room r = (
      rw (places-credit capacity) at r.0,
      λ l h.
          let z : length (append credit_link (val true-value) q l) < places capacity l
          = room-each (places capacity) 0 pushed-count pushed-values (append credit_link (val true-value) q) counted r.1 l (omega arith) (omega arith) in
          rw (append-other credit_link l (val true-value) q (λ e. omega (arith, near)), places-link capacity l (omega (arith, near))) at z,
    )

    pub room-push : length (q credit_link) < 16 → ((l : ℕ) → l < pushed-count → length (q l) < capacity) → Able (places capacity) (push_into g v) q
    room-push c h = (
      rw (places-credit capacity) c,
      each-room (places capacity) 0 pushed-count pushed-values (append credit_link (val true-value) q) counted
          (λ l i j. rw (append-other credit_link l (val true-value) q (λ e. omega (arith, near)), places-link capacity l (omega (arith, near))) (h l (omega arith))),
    )
