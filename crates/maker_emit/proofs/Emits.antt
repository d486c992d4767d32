-- One turn and the end of each emitter's loop. The equations say that what is written and what is still to be written are together what was to be
-- written. Assumes nothing.
use Prim.Native.Nat.{ℕ, suc, ◌+◌, ◌-◌, ◌/◌, ◌%◌, ◌^◌, ◌≤◌, ◌<◌}
use lib.Dec.{eqb}
use mathlib.Core.Path.{◌≡◌, sym, ap, ap₂, ◌∙◌}
use mathlib.Core.Bool.{Bool}
use mathlib.Core.List.{List, [], ◌∷◌, ◌++◌, append-nil}
use lib.ListN.{length, get_or, set, take, drop}
use native.Mathlib.Omega.{arith}
use Rattle.machine_layout.specs.Record.{placed}
use Rattle.machine_layout.specs.declared.Operator.{Operator as Record}
use Rattle.graph.specs.Assembly.{copies_for, chain, chain_ends, ring, ring_gate}
use Rattle.maker_laid.specs.Encode.{encode, encoded, written, written_none, written-more}
use Rattle.names.specs.Names.{names_in}
use Rattle.maker_laid.specs.Emitted.{link_in, copy_record, gate_record, copies-more, copies-none, row_records, row_outputs, row-none, row_last, row_more, outputs-more, outputs-last, chain_more, chain-few, ends_more, ends_last, ring-none, ring-more}
use Rattle.maker_emit.proofs.Turns.{fill-turn}

-- ---- arrays

put-more : (ls : List ℕ) (k y : ℕ) → k < length ls → take (k + 1) (set ls k y) ≡ take k ls ++ (y ∷ [])
put-more ls k y h = sym (append-nil (take (k + 1) (set ls k y))) ∙ fill-turn ls k y [] h

-- ---- copies

share-turn : (mem : List ℕ) (i x : ℕ) (xs env first second : List ℕ)
    → written (placed mem i (copy_record (get_or env x 0) (get_or first x 0) (get_or second x 0))) (i + 1) (encoded (copies_for xs (link_in env) (link_in first) (link_in second)))
    ≡ written mem i (encoded (copies_for (x ∷ xs) (link_in env) (link_in first) (link_in second)))
share-turn mem i x xs env first second =
    let z : i + 1 ≡ suc i = omega arith in
    rw (z, copies-more x xs (link_in env) (link_in first) (link_in second))
    (sym (written-more mem i (copy_record (get_or env x 0) (get_or first x 0) (get_or second x 0)) (encoded (copies_for xs (link_in env) (link_in first) (link_in second)))))

module _ (xs : List ℕ) (mem : List ℕ) (i : ℕ) (env first second all : List ℕ)
    (e : written mem i (encoded (copies_for xs (link_in env) (link_in first) (link_in second))) ≡ all) where
  pub share_again : (ys : List ℕ) (x : ℕ) → xs ≡ x ∷ ys → (mem' : List ℕ) (o : Record) → mem' ≡ placed mem i o
      → o ≡ copy_record (get_or env x 0) (get_or first x 0) (get_or second x 0)
      → written mem' (i + 1) (encoded (copies_for ys (link_in env) (link_in first) (link_in second))) ≡ all
  share_again ys x w mem' o p q =
      ap (λ (t : List ℕ). written t (i + 1) (encoded (copies_for ys (link_in env) (link_in first) (link_in second)))) (p ∙ ap (placed mem i) q)
      ∙ share-turn mem i x ys env first second
      ∙ ap (λ (t : List ℕ). written mem i (encoded (copies_for t (link_in env) (link_in first) (link_in second)))) (sym w) ∙ e

  pub share-end : xs ≡ [] → mem ≡ all
  share-end z =
      sym (ap (λ (t : List ℕ). written mem i (encoded (copies_for t (link_in env) (link_in first) (link_in second)))) z
      ∙ ap (written mem i) (copies-none (link_in env) (link_in first) (link_in second)) ∙ written_none mem i)
      ∙ e

-- ---- a row of gates

module _ (kind c l : ℕ) (a b : List ℕ) (i left : ℕ) (mem : List ℕ) (at : ℕ) (all : List ℕ) (e : written mem at (row_records kind c l a b i left) ≡ all) where
  pub row-again : 1 < left → (m₁ m₂ : List ℕ) (o₁ o₂ : Record) → m₁ ≡ placed mem at o₁ → o₁ ≡ copy_record c l (l + 1) → m₂ ≡ placed m₁ (at + 1) o₂
      → o₂ ≡ gate_record kind l (get_or a i 0) (get_or b i 0) (l + 2)
      → written m₂ (at + 2) (row_records kind (l + 1) (l + 3) a b (i + 1) (left - 1)) ≡ all
  row-again h m₁ m₂ o₁ o₂ p q r s =
      let z : at + 2 ≡ suc (suc at) = omega arith in
      let y : at + 1 ≡ suc at = omega arith in
      let os = row_records kind (l + 1) (l + 3) a b (i + 1) (left - 1) in
      let g = gate_record kind l (get_or a i 0) (get_or b i 0) (l + 2) in
      let d = copy_record c l (l + 1) in
      let m : m₂ ≡ placed (placed mem at d) (suc at) g = r ∙ ap₂ (placed m₁) y s ∙ ap (λ (t : List ℕ). placed t (suc at) g) (p ∙ ap (placed mem at) q) in
      rw (z, m)
      (sym (written-more (placed mem at d) (suc at) g os) ∙ sym (written-more mem at d (g ∷ os)) ∙ ap (written mem at) (sym (row_more kind c l a b i left h)) ∙ e)

  pub row_ends : left ≡ 1 → (m₁ : List ℕ) (o : Record) → m₁ ≡ placed mem at o → o ≡ gate_record kind c (get_or a i 0) (get_or b i 0) l → m₁ ≡ all
  row_ends h m₁ o p q =
      p ∙ ap (placed mem at) q ∙ sym (written_none (placed mem at g) (suc at)) ∙ sym (written-more mem at g [])
      ∙ ap (written mem at) (sym (row_last kind c l a b i) ∙ ap (row_records kind c l a b i) (sym h)) ∙ e
    where
      g : Record
      g = gate_record kind c (get_or a i 0) (get_or b i 0) l

  pub row-over : left ≤ 1 → (left ≡ 1 → ⊥) → mem ≡ all
  row-over h n =
      let z : left ≡ 0 = omega arith in
      sym (ap (written mem at) (ap (row_records kind c l a b i) z ∙ row-none kind c l a b i) ∙ written_none mem at) ∙ e

module _ (outs : List ℕ) (i k l left : ℕ) (all : List ℕ) (e : take i outs ++ row_outputs l left ≡ all) (s : i + left ≡ k) where
  pub outs-again : 1 < left → i < length outs → take (i + 1) (set outs i (l + 2)) ++ row_outputs (l + 3) (left - 1) ≡ all
  outs-again h q = fill-turn outs i (l + 2) (row_outputs (l + 3) (left - 1)) q ∙ ap (λ (t : List ℕ). take i outs ++ t) (sym (outputs-more l left h)) ∙ e

  pub outs-ends : left ≡ 1 → i < length outs → take k (set outs i l) ≡ all
  outs-ends h q =
      let z : i + 1 ≡ k = omega arith in
      ap (λ (y : ℕ). take y (set outs i l)) (sym z) ∙ put-more outs i l q
      ∙ ap (λ (t : List ℕ). take i outs ++ t) (sym (outputs-last l) ∙ ap (row_outputs l) (sym h)) ∙ e

-- ---- a chain of copies

module _ (c to left : ℕ) (mem : List ℕ) (at : ℕ) (all : List ℕ) (e : written mem at (encoded (chain c to left)) ≡ all) where
  pub chain-again : 1 < left → (m₁ : List ℕ) (o : Record) → m₁ ≡ placed mem at o → o ≡ copy_record c to (to + 1)
      → written m₁ (at + 1) (encoded (chain (to + 1) (to + 2) (left - 1))) ≡ all
  chain-again h m₁ o p q =
      let y : at + 1 ≡ suc at = omega arith in
      let os = encoded (chain (to + 1) (to + 2) (left - 1)) in
      let d = copy_record c to (to + 1) in
      let m : m₁ ≡ placed mem at d = p ∙ ap (placed mem at) q in
      rw (y, m) (sym (written-more mem at d os) ∙ ap (written mem at) (sym (chain_more c to left h)) ∙ e)

  pub chain-over : left ≤ 1 → mem ≡ all
  chain-over h = sym (ap (written mem at) (chain-few c to left h) ∙ written_none mem at) ∙ e

module _ (ends : List ℕ) (i k c to left : ℕ) (all : List ℕ) (e : take i ends ++ chain_ends c to left ≡ all) (s : i + left ≡ k) where
  pub ends-again : 1 < left → i < length ends → take (i + 1) (set ends i to) ++ chain_ends (to + 1) (to + 2) (left - 1) ≡ all
  ends-again h q = fill-turn ends i to (chain_ends (to + 1) (to + 2) (left - 1)) q ∙ ap (λ (t : List ℕ). take i ends ++ t) (sym (ends_more c to left h)) ∙ e

  pub ends-ends : left ≡ 1 → i < length ends → take k (set ends i c) ≡ all
  ends-ends h q =
      let z : i + 1 ≡ k = omega arith in
      ap (λ (y : ℕ). take y (set ends i c)) (sym z) ∙ put-more ends i c q
      ∙ ap (λ (t : List ℕ). take i ends ++ t) (sym (ends_last c to) ∙ ap (chain_ends c to) (sym h)) ∙ e

-- ---- the ring of a loop

module _ (ids : ℕ) (cs iterated started own out : List ℕ) where
  abbrev rest-of-ring : List ℕ → ℕ → List Record
  rest-of-ring xs k = encoded (ring xs (names_in ids) (drop k cs) (link_in iterated) (link_in started) (link_in own) (link_in out))

  pub ring-again : (xs ys : List ℕ) (x : ℕ) → xs ≡ x ∷ ys → (mem : List ℕ) (at k : ℕ) (mem' : List ℕ) (o : Record) (b : Bool) (all : List ℕ) → k < length cs
      → mem' ≡ placed mem (at + k) o
      → o ≡ encode (ring_gate b (get_or cs k 0) (get_or iterated x 0) (get_or started x 0) (get_or own x 0) (get_or out x 0))
      → b ≡ eqb (ids / 2 ^ x % 2) 1
      → written mem (at + k) (rest-of-ring xs k) ≡ all → written mem' (at + (k + 1)) (rest-of-ring ys (k + 1)) ≡ all
  unfolding names_in
  ring-again xs ys x w mem at k mem' o b all h p q f e =
      let z : at + (k + 1) ≡ suc (at + k) = omega arith in
      let g = encode (ring_gate (names_in ids x) (get_or cs k 0) (get_or iterated x 0) (get_or started x 0) (get_or own x 0) (get_or out x 0)) in
      let d : mem' ≡ placed mem (at + k) g = p ∙ ap (placed mem (at + k)) (q ∙ ap (λ (y : Bool). encode (ring_gate y (get_or cs k 0) (get_or iterated x 0) (get_or started x 0) (get_or own x 0) (get_or out x 0))) f) in
      rw (z, d)
      (sym (written-more mem (at + k) g (rest-of-ring ys (k + 1)))
      ∙ ap (written mem (at + k)) (sym (ring-more (names_in ids) (link_in iterated) (link_in started) (link_in own) (link_in out) x ys cs k h))
      ∙ ap (λ (t : List ℕ). written mem (at + k) (rest-of-ring t k)) (sym w) ∙ e)

  pub ring-over : (xs : List ℕ) → xs ≡ [] → (mem : List ℕ) (at k : ℕ) (all : List ℕ) → written mem at (rest-of-ring xs k) ≡ all → mem ≡ all
  ring-over xs z mem at k all e =
      sym (ap (λ (t : List ℕ). written mem at (rest-of-ring t k)) z
      ∙ ap (written mem at) (ring-none (names_in ids) (link_in iterated) (link_in started) (link_in own) (link_in out) (drop k cs)) ∙ written_none mem at)
      ∙ e
