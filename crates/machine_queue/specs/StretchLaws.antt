-- What adding a token and taking one leave as it was in a stretch. Assumes nothing.
use Rattle.std.specs.Prelude.{ℕ, ◌+◌, ◌-◌, ◌*◌, ◌≤◌, ◌≡◌, ◌≢◌, Bool, List, get_or, drop, set}
use Rattle.std.proofs.Math.Path.{refl, sym, ap}
use Rattle.std.proofs.Common.{◌∙◌, arith, length-set, length-drop, get_or-set_same, get_or-set_other}
use Rattle.std.proofs.Math.Bool.{true, false}
use borrow.Author.Tests.{le-leb, leb-true, ne_eqb, eqb-false}
use Rattle.std.proofs.Math.Dec.{leb, eqb}
use Rattle.std.proofs.Math.ListN.{length}
use Rattle.std.proofs.Math.Seq.{paste}
use Rattle.std.proofs.lemmas.List.Edits.{length-paste}
use Rattle.value.specs.Operators.{pick}
use Rattle.value.specs.Bytes.{word_at, stored}
use Rattle.value.proofs.Words.{length-stored, word-before}
use Rattle.machine_queue.specs.Stretch.{waiting, head_of, room_in, appended, removed}

first_word : (s : List ℕ) (n : ℕ) → word_at (set s 0 n) 1 ≡ word_at s 1
unfolding word_at
first_word s n =
    let z : (k : ℕ) → k ≢ 0 → get_or (set s 0 n) k 0 ≡ get_or s k 0 = λ k ne. get_or-set_other s 0 k n 0 ne in
    rw (z 1 (omega arith), z 2 (omega arith), z 3 (omega arith), z 4 (omega arith), z 5 (omega arith)) refl

-- ---- one token more

module _ (q : List ℕ) (w : ℕ) where
  abbrev longer : List ℕ
  longer = set (stored q (5 * waiting q + 1) w) 0 (waiting q + 1)

  length-longer : length longer ≡ length q
  length-longer = length-set (stored q (5 * waiting q + 1) w) 0 (waiting q + 1) ∙ length-stored q (5 * waiting q + 1) w

  pub appended-length : length (appended q w) ≡ length q
  unfolding appended
  appended-length = go (room_in q)
    where
      go : (b : Bool) → length (pick b longer q) ≡ length q
      go true = length-longer
      go false = refl

  longer-count : 1 ≤ length q → waiting longer ≡ waiting q + 1
  longer-count h =
      let e = length-stored q (5 * waiting q + 1) w in
      get_or-set_same (stored q (5 * waiting q + 1) w) 0 (waiting q + 1) 0 (omega arith)

  longer-head : waiting q ≢ 0 → 1 ≤ length q → head_of longer ≡ head_of q
  unfolding head_of
  longer-head n h =
      let some : waiting longer ≢ 0 = omega (arith, longer-count h) in
      simp (ne_eqb (waiting longer) 0 some, ne_eqb (waiting q) 0 n)
      (first_word (stored q (5 * waiting q + 1) w) (waiting q + 1) ∙ word-before q (5 * waiting q + 1) w 1 (omega arith))

  -- The first token stays where one waited before. Where none did, one waits afterwards.
  pub appended-head : waiting (appended q w) ≢ 1 → head_of (appended q w) ≡ head_of q
  unfolding appended room_in
  appended-head = go (leb (5 * waiting q + 6) (length q)) refl
    where
      go : (b : Bool) → leb (5 * waiting q + 6) (length q) ≡ b → waiting (pick b longer q) ≢ 1 → head_of (pick b longer q) ≡ head_of q
      go false e n = refl
      go true e n =
          let room = leb-true (5 * waiting q + 6) (length q) e in
          longer-head (λ z. n (longer-count (omega arith) ∙ ap (λ (k : ℕ). k + 1) z)) (omega arith)

-- ---- the oldest token gone

module _ (q : List ℕ) where
  abbrev shorter : List ℕ
  shorter = set (paste q 1 (drop 6 q) (5 * (waiting q - 1))) 0 (waiting q - 1)

  module _ (some : waiting q ≢ 0) (fits : 5 * waiting q + 1 ≤ length q) where
    length_moved : length (paste q 1 (drop 6 q) (5 * (waiting q - 1))) ≡ length q
    length_moved =
        let d : length (drop 6 q) ≡ length q - 6 = length-drop 6 q in
        length-paste q 1 (drop 6 q) (5 * (waiting q - 1)) (omega arith) (omega arith)

    length-shorter : length shorter ≡ length q
    length-shorter = length-set (paste q 1 (drop 6 q) (5 * (waiting q - 1))) 0 (waiting q - 1) ∙ length_moved

    shorter-count : waiting shorter ≡ waiting q - 1
    shorter-count =
        let e = length_moved in
        get_or-set_same (paste q 1 (drop 6 q) (5 * (waiting q - 1))) 0 (waiting q - 1) 0 (omega arith)

    shorter-room : 5 * waiting shorter + 11 ≤ length q → room_in shorter ≡ room_in q
    unfolding room_in
    shorter-room h =
        let c = shorter-count in
        let e = length-shorter in
        le-leb (5 * waiting shorter + 6) (length shorter) (omega arith) ∙ sym (le-leb (5 * waiting q + 6) (length q) (omega arith))

  -- what holds of the stretch itself and of what a removal makes of it holds of `removed`
  by-removal : (P : List ℕ → Type 0) → P q → (waiting q ≢ 0 → 5 * waiting q + 1 ≤ length q → P shorter) → P (removed q)
  unfolding removed
  by-removal P same less = go (eqb (waiting q) 0) refl (leb (5 * waiting q + 1) (length q)) refl
    where
      go : (a : Bool) → eqb (waiting q) 0 ≡ a → (b : Bool) → leb (5 * waiting q + 1) (length q) ≡ b → P (pick a q (pick b shorter q))
      go true e b f = same
      go false e false f = same
      go false e true f = less (eqb-false (waiting q) 0 e) (leb-true (5 * waiting q + 1) (length q) f)

  pub removed-length : length (removed q) ≡ length q
  removed-length = by-removal (λ r. length r ≡ length q) refl length-shorter

  -- where two places are free afterwards, one was before
  pub removed-room : 5 * waiting (removed q) + 11 ≤ length q → room_in (removed q) ≡ room_in q
  removed-room = by-removal (λ r. 5 * waiting r + 11 ≤ length q → room_in r ≡ room_in q) (λ h. refl) shorter-room
