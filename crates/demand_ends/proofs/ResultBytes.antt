-- Laws of specs/ResultBytes.antt, and what only they need.
use Rattle.std.specs.Prelude.{ℕ, zero, suc, ◌+◌, ◌-◌, ◌*◌, ◌≤◌, ◌<◌, ◌≡◌, Bool, get_or, replicate}
use Rattle.std.proofs.Math.Path.{refl, sym, ap}
use Rattle.std.proofs.Common.{ap₂, ◌∙◌, arith, ltb-true, ltb-false, length-append}
use Rattle.std.proofs.Math.Bool.{true, false}
use mathlib.Core.List.{List, [], ◌∷◌, ◌++◌, map, append_assoc, append-nil}
use Rattle.std.proofs.Math.Dec.{ltb}
use Rattle.std.proofs.Math.ListN.{length, drop, get_or-eq_default}
use Rattle.std.proofs.lemmas.List.{length-replicate}
use Rattle.value.specs.declared.Value.{Value}
use Rattle.value.specs.Operators.{pick}
use Rattle.value.specs.Bytes.{word_of, word_bytes, bytes_of}
use Rattle.value.specs.Senses.{err}
use Rattle.machine_layout.specs.Layout.{links_at, result_link}
use Rattle.machine_firing.specs.Links.{head_at}
use Rattle.machine_calls.specs.Calls.{result_word_from, result_word, written}
use Rattle.machine_calls.specs.Written.{words_out, stored_out, stored-out, written_out}
use Rattle.meaning.specs.declared.Cell.{Cell}
use Rattle.meaning.specs.Evaluate.{cell, cells_of}
use Rattle.theory_verdicts.specs.ResultSets.{result_set}
use Rattle.demand_ends.specs.ResultBytes.{spelled, result_bytes, cell_bytes}

-- ---- the sixteen places
length-bytes : (v : Value) → length (bytes_of v) ≡ 5
unfolding bytes_of word_bytes
length-bytes v = refl

length-spelled : (vs : List Value) → length (spelled vs) ≡ 5 * length vs
length-spelled [] = refl
length-spelled (v ∷ vs) = length-append (bytes_of v) (spelled vs) ∙ ap₂ (λ (a b : ℕ). a + b) (length-bytes v) (length-spelled vs) ∙ omega arith

length-places : (r : List Value) → length r ≤ 16 → length (result_set r).places ≡ 16
length-places r h =
    length-append r (replicate (16 - length r) err) ∙ ap (λ (n : ℕ). length r + n) (length-replicate (16 - length r) err) ∙ omega arith

errs-at : (n j : ℕ) → get_or (replicate n err) j err ≡ err
errs-at zero j = refl
errs-at (suc n) zero = refl
errs-at (suc n) (suc j) = errs-at n j

-- "places past the width hold err"
pub place_at : (r : List Value) (n j : ℕ) → get_or (r ++ replicate n err) j err ≡ get_or r j err
place_at [] n j = errs-at n j
place_at (v ∷ r) n zero = refl
place_at (v ∷ r) n (suc j) = place_at r n j

pub length-result : (r : List Value) → length r ≤ 16 → length (result_bytes r) ≡ 80
unfolding result_bytes
length-result r h = length-spelled (result_set r).places ∙ ap (λ (n : ℕ). 5 * n) (length-places r h)

-- ---- evaluation's cells
pub length-cell-bytes : (cs : List Cell) → length (cell_bytes cs) ≡ 5 * length cs
length-cell-bytes [] = refl
length-cell-bytes (c ∷ cs) = length-append (bytes_of c.v) (cell_bytes cs) ∙ ap₂ (λ (a b : ℕ). a + b) (length-bytes c.v) (length-cell-bytes cs) ∙ omega arith

cell-bytes-append : (cs ds : List Cell) → cell_bytes (cs ++ ds) ≡ cell_bytes cs ++ cell_bytes ds
cell-bytes-append [] ds = refl
cell-bytes-append (c ∷ cs) ds = ap (λ (z : List ℕ). bytes_of c.v ++ z) (cell-bytes-append cs ds) ∙ sym (append_assoc (bytes_of c.v) (cell_bytes cs) (cell_bytes ds))

spelled-append : (us vs : List Value) → spelled (us ++ vs) ≡ spelled us ++ spelled vs
spelled-append [] vs = refl
spelled-append (u ∷ us) vs = ap (λ (z : List ℕ). bytes_of u ++ z) (spelled-append us vs) ∙ sym (append_assoc (bytes_of u) (spelled us) (spelled vs))

cells-spelled : (vs : List Value) → cell_bytes (map cell vs) ≡ spelled vs
cells-spelled [] = refl
cells-spelled (v ∷ vs) = ap (λ (z : List ℕ). bytes_of v ++ z) (cells-spelled vs)

err-cells-spelled : (n : ℕ) → cell_bytes (replicate n (cell err)) ≡ spelled (replicate n err)
err-cells-spelled zero = refl
err-cells-spelled (suc n) = ap (λ (z : List ℕ). bytes_of err ++ z) (err-cells-spelled n)

-- The result set of direct evaluation has these bytes.
pub cells-result : (r : List Value) → cell_bytes (cells_of r) ≡ result_bytes r
unfolding cells_of result_bytes
cells-result r =
    cell-bytes-append (map cell r) (replicate (16 - length r) (cell err))
    ∙ ap₂ (λ (a b : List ℕ). a ++ b) (cells-spelled r) (err-cells-spelled (16 - length r))
    ∙ sym (spelled-append r (replicate (16 - length r) err))

-- ---- words written one after the other
out-same : (j : ℕ) (f g : ℕ → ℕ) → ((i : ℕ) → i < j → f i ≡ g i) → words_out j f ≡ words_out j g
out-same zero f g h = refl
out-same (suc j) f g h = ap₂ (λ (a b : List ℕ). a ++ b) (out-same j f g (λ i l. h i (omega arith))) (ap word_bytes (h j (omega arith)))

out_first : (j : ℕ) (f : ℕ → ℕ) → words_out (suc j) f ≡ word_bytes (f 0) ++ words_out j (λ i. f (suc i))
out_first zero f = sym (append-nil (word_bytes (f 0)))
out_first (suc j) f =
    ap (λ (z : List ℕ). z ++ word_bytes (f (suc j))) (out_first j f)
    ∙ append_assoc (word_bytes (f 0)) (words_out j (λ i. f (suc i))) (word_bytes (f (suc j)))

spelled_out : (vs : List Value) → spelled vs ≡ words_out (length vs) (λ j. word_of (get_or vs j err))
unfolding bytes_of
spelled_out [] = refl
spelled_out (v ∷ vs) =
    ap (λ (z : List ℕ). word_bytes (word_of v) ++ z) (spelled_out vs)
    ∙ sym (out_first (length vs) (λ j. word_of (get_or (v ∷ vs) j err)))

-- Evaluation's cells stored one after the other have their bytes.
cells_out : (cs : List Cell) → cell_bytes cs ≡ words_out (length cs) (λ j. word_of (get_or cs j (cell err)).v)
unfolding bytes_of
cells_out [] = refl
cells_out (c ∷ cs) =
    ap (λ (z : List ℕ). word_bytes (word_of c.v) ++ z) (cells_out cs)
    ∙ sym (out_first (length cs) (λ j. word_of (get_or (c ∷ cs) j (cell err)).v))

pub cells-stored : (cs : List Cell) (o : List ℕ) → 5 * length cs ≤ length o
    → stored_out (length cs) (λ j. word_of (get_or cs j (cell err)).v) o ≡ cell_bytes cs ++ drop (5 * length cs) o
cells-stored cs o h =
    stored-out (λ j. word_of (get_or cs j (cell err)).v) o (length cs) h ∙ ap (λ (z : List ℕ). z ++ drop (5 * length cs) o) (sym (cells_out cs))

-- Take writes these bytes where the result ports' heads are the values.
module _ (m : List ℕ) (size : ℕ) (r : List Value) (heads : (j : ℕ) → j < length r → head_at m size (result_link m j) ≡ word_of (get_or r j err)) where
  word-is : (j : ℕ) → result_word m size (length r) j ≡ word_of (get_or (result_set r).places j err)
  unfolding result_word_from
  word-is j = go (ltb j (length r)) refl ∙ ap word_of (sym (place_at r (16 - length r) j))
    where
      go : (b : Bool) → ltb j (length r) ≡ b → pick b (head_at m size (result_link m j)) (word_of err) ≡ word_of (get_or r j err)
      go true e = heads j (ltb-true j (length r) e)
      go false e = ap word_of (sym (get_or-eq_default r err (ltb-false j (length r) e)))

  pub written-result : length r ≤ 16 → (o : List ℕ) → 80 ≤ length o → written 16 m size (length r) o ≡ result_bytes r ++ drop 80 o
  unfolding result_bytes
  written-result few o h =
      written_out m links_at size (length r) 16 o h
      ∙ ap (λ (z : List ℕ). z ++ drop 80 o)
      (out-same 16 (result_word m size (length r)) (λ j. word_of (get_or (result_set r).places j err)) (λ j l. word-is j)
      ∙ ap (λ (n : ℕ). words_out n (λ j. word_of (get_or (result_set r).places j err))) (sym (length-places r few))
      ∙ sym (spelled_out (result_set r).places))
