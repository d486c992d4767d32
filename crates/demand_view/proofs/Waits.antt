-- What the queue's changes do to the tokens that wait in a stretch (document 01, "Running": "A link's waiting tokens fill one stretch of token memory ..
-- Freed places are used again"). Each law is over one stretch that is as long as its capacity asks. Assumes nothing else.
use Prim.Native.Nat.{ℕ, suc, ◌+◌, ◌-◌, ◌*◌, ◌≤◌, ◌<◌}
use Rattle.std.specs.Prelude.{◌≡◌, ◌≢◌, Bool, List, [], ◌∷◌, ◌++◌, get_or, take, drop, set}
use Rattle.std.proofs.Math.Path.{refl, ap}
use Rattle.std.proofs.Common.{sym, ◌∙◌, length-drop, length-append, length-take-le, get_or-take, get_or-drop, get_or-set_same, get_or-set_other, get_or-append-add}
use Rattle.std.proofs.Math.Bool.{true, false}
use native.Mathlib.Omega.{arith}
use Rattle.std.proofs.Math.Decide.{dec_lt}
use borrow.Author.Tests.{ltb-true, ltb-false, le-leb, lt-leb, ne_eqb, lt-ltb}
use Rattle.std.proofs.Math.Dec.{ltb, leb}
use Rattle.std.proofs.Math.ListN.{length, get_or-append}
use Rattle.std.proofs.Math.Seq.{paste, get_or-append_seam}
use Rattle.std.proofs.lemmas.List.Edits.{length-paste, take-paste}
use Rattle.value.specs.declared.Value.{Value}
use Rattle.value.specs.Bytes.{InRange, word_of, word_at, stored}
use Rattle.value.proofs.Words.{length-stored, word-stored, word-before, word_lt}
use Rattle.network.specs.Net.{Token, val, mark}
use Rattle.network.specs.Fill.{value-of}
use Rattle.machine_queue.specs.Stretch.{waiting, head_of, room_in, appended, removed}
use Rattle.demand_view.specs.Stands.{Waits}

-- ---- words whose bytes agree
pub word-agrees : (l r : List ℕ) (a b : ℕ) → ((i : ℕ) → i < 5 → get_or l (a + i) 0 ≡ get_or r (b + i) 0) → word_at l a ≡ word_at r b
unfolding word_at
word-agrees l r a b h =
    let a0 : a + 0 ≡ a = omega arith in
    let b0 : b + 0 ≡ b = omega arith in
    let e0 : get_or l a 0 ≡ get_or r b 0 = ap (λ (n : ℕ). get_or l n 0) (sym a0) ∙ h 0 (omega arith) ∙ ap (λ (n : ℕ). get_or r n 0) b0 in
    let e1 = h 1 (omega arith) in
    let e2 = h 2 (omega arith) in
    let e3 = h 3 (omega arith) in
    let e4 = h 4 (omega arith) in
    rw (e0, e1, e2, e3, e4) refl

-- a word behind the byte that is set
word-past-count : (s : List ℕ) (n at : ℕ) → 1 ≤ at → word_at (set s 0 n) at ≡ word_at s at
word-past-count s n at h =
    word-agrees (set s 0 n) s at at (λ i k. get_or-set_other s 0 (at + i) n 0 (let ne : at + i ≢ 0 = omega arith in ne))

-- ---- the tokens of a stretch
val_same : (v w : Value) → val v ≡ val w → v ≡ w
val_same v w e = ap value-of e

module _ (capacity : ℕ) (s : List ℕ) (long : length s ≡ 5 * capacity + 1) where
  pub waits-room : (ts : List Token) → Waits capacity s ts → room_in s ≡ ltb (length ts) capacity
  unfolding room_in
  waits-room ts w = go (ltb (length ts) capacity) refl
    where
      go : (b : Bool) → ltb (length ts) capacity ≡ b → leb (5 * waiting s + 6) (length s) ≡ b
      go true p =
          let a = ltb-true (length ts) capacity p in
          le-leb (5 * waiting s + 6) (length s) (omega (arith, w.counted))
      go false p =
          let a = ltb-false (length ts) capacity p in
          lt-leb (5 * waiting s + 6) (length s) (omega (arith, w.counted))

  pub waits-none : Waits capacity s [] → head_of s ≡ 0
  unfolding head_of
  waits-none w = rw w.counted refl

  pub waits-head : (v : Value) (ts : List Token) → Waits capacity s (val v ∷ ts) → head_of s ≡ word_of v
  unfolding head_of
  waits-head v ts w =
      let f = w.each 0 (omega arith) in
      let z : suc (length ts) ≢ 0 = omega arith in
      rw w.counted (simp (ne_eqb (suc (length ts)) 0 z) (f.3 ∙ ap word_of (sym (val_same v f.0 f.2))))

  -- a token that waits is a value in its range
  pub waits-value : (t : Token) (ts : List Token) → Waits capacity s (t ∷ ts) → (v : Value) × InRange v × (t ≡ val v)
  waits-value t ts w = let f = w.each 0 (omega arith) in (f.0, f.1, f.2)

  -- ---- one token more
  module _ (ts : List Token) (w : Waits capacity s ts) (room : length ts < capacity) (v : Value) (fine : InRange v) where
    abbrev place : ℕ
    place = 5 * length ts + 1

    abbrev written : List ℕ
    written = stored s place (word_of v)

    appended-is : appended s (word_of v) ≡ set written 0 (length ts + 1)
    unfolding appended
    appended-is = simp (waits-room ts w, lt-ltb (length ts) capacity room, w.counted)

    one_more : length (ts ++ (val v ∷ [])) ≡ length ts + 1
    one_more = length-append ts (val v ∷ [])

    same_length : length written ≡ length s
    same_length = length-stored s place (word_of v)

    older : (j : ℕ) → j < length ts → (u : Value) × InRange u × (get_or (ts ++ (val v ∷ [])) j mark ≡ val u) × (word_at (set written 0 (length ts + 1)) (5 * j + 1) ≡ word_of u)
    older j h =
        let f = w.each j h in (
          f.0,
          f.1,
          get_or-append ts (val v ∷ []) mark j h ∙ f.2,
          word-past-count written (length ts + 1) (5 * j + 1) (omega arith) ∙ word-before s place (word_of v) (5 * j + 1) (omega arith) ∙ f.3,
        )

    newest : (u : Value) × InRange u × (get_or (ts ++ (val v ∷ [])) (length ts) mark ≡ val u) × (word_at (set written 0 (length ts + 1)) (5 * length ts + 1) ≡ word_of u)
    newest = (
      v,
      fine,
      get_or-append_seam ts (val v) [] mark,
      word-past-count written (length ts + 1) place (omega arith) ∙ word-stored s place (word_of v) (omega arith) (word_lt v fine),
    )

    all-wait : Waits capacity (set written 0 (length ts + 1)) (ts ++ (val v ∷ []))
    all-wait = record {
      counted = get_or-set_same written 0 (length ts + 1) 0 (omega (arith, same_length)) ∙ sym one_more;
      fits = omega (arith, one_more);
      each = λ j h. go j (dec_lt j (length ts)) h;
    }
      where
        go : (j : ℕ) → Dec (j < length ts) → j < length (ts ++ (val v ∷ [])) →
            (u : Value) × InRange u × (get_or (ts ++ (val v ∷ [])) j mark ≡ val u) × (word_at (set written 0 (length ts + 1)) (5 * j + 1) ≡ word_of u)
        go j (yes p) h = older j p
        go j (no n) h = let e : j ≡ length ts = omega (arith, one_more) in rw e newest

    pub waits-appended : Waits capacity (appended s (word_of v)) (ts ++ (val v ∷ []))
    waits-appended = rw appended-is all-wait

  -- ---- the oldest token gone
  module _ (t : Token) (ts : List Token) (w : Waits capacity s (t ∷ ts)) where
    abbrev moved : List ℕ
    moved = paste s 1 (drop 6 s) (5 * length ts)

    removed-is : removed s ≡ set moved 0 (length ts)
    unfolding removed
    removed-is =
        let z : suc (length ts) ≢ 0 = omega arith in
        let f = w.fits in
        let d : suc (length ts) - 1 ≡ length ts = omega arith in
        rw w.counted (simp (ne_eqb (suc (length ts)) 0 z, le-leb (5 * suc (length ts) + 1) (length s) (omega arith), d))

    enough : 5 * length ts ≤ length (drop 6 s)
    enough = let f = w.fits in let d : length (drop 6 s) ≡ length s - 6 = length-drop 6 s in omega arith

    moved-byte : (k : ℕ) → k < 5 * length ts → get_or moved (1 + k) 0 ≡ get_or s (6 + k) 0
    moved-byte k h =
        let one : length (take 1 s) ≡ 1 = length-take-le 1 s (omega arith) in
        sym (get_or-take (1 + 5 * length ts) moved (1 + k) 0 (omega arith))
        ∙ ap (λ (l : List ℕ). get_or l (1 + k) 0) (take-paste s 1 (drop 6 s) (5 * length ts) (omega arith) enough)
        ∙ ap (λ (n : ℕ). get_or (take 1 s ++ take (5 * length ts) (drop 6 s)) (n + k) 0) (sym one)
        ∙ get_or-append-add (take 1 s) (take (5 * length ts) (drop 6 s)) k 0
        ∙ get_or-take (5 * length ts) (drop 6 s) k 0 h
        ∙ get_or-drop 6 s k 0

    moved_word : (j : ℕ) → j < length ts → word_at moved (5 * j + 1) ≡ word_at s (5 * suc j + 1)
    moved_word j h = word-agrees moved s (5 * j + 1) (5 * suc j + 1) byte
      where
        byte : (i : ℕ) → i < 5 → get_or moved (5 * j + 1 + i) 0 ≡ get_or s (5 * suc j + 1 + i) 0
        byte i k =
            let a : 5 * j + 1 + i ≡ 1 + (5 * j + i) = omega arith in
            let b : 5 * suc j + 1 + i ≡ 6 + (5 * j + i) = omega arith in
            rw (a, b) (moved-byte (5 * j + i) (omega arith))

    pub waits-removed : Waits capacity (removed s) ts
    waits-removed = rw removed-is (record {
      counted = get_or-set_same moved 0 (length ts) 0 (omega (arith, length-paste s 1 (drop 6 s) (5 * length ts) (omega (arith, w.fits)) enough));
      fits = omega (arith, w.fits);
      each = λ j h. let f = w.each (suc j) (omega arith) in (f.0, f.1, f.2, word-past-count moved (length ts) (5 * j + 1) (omega arith) ∙ moved_word j h ∙ f.3);
    })
