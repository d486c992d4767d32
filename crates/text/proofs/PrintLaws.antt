-- Laws of the printed fields: their lengths, a field from its last digit on, and bytes written one part behind another. Assumes nothing.
use Prim.Native.Nat.{ℕ, zero, suc, ◌+◌, ◌*◌, ◌-◌, ◌/◌, ◌%◌, ◌≤◌, ◌<◌}
use Rattle.std.specs.Prelude.{◌≡◌, Bool, ◌&&◌, pos, negsuc, length, take, set, replicate, eqb}
use Rattle.std.proofs.Math.Path.{refl, sym, ap}
use Rattle.std.proofs.Common.{◌∙◌, add-one, length-append, length-set, length-drop, take_at, drop_at, drop-drop, length-take-le, take-suc-set}
use Rattle.std.proofs.Math.Bool.{true, false}
use Rattle.std.proofs.lemmas.Bool.{false≢true}
use mathlib.Core.List.{List, [], ◌∷◌, ◌++◌, append_assoc, append-nil}
use Rattle.std.proofs.Math.Option.{Option, some, none}
use native.Mathlib.Omega.{arith}
use borrow.Author.Tests.{lt-ltb, le-ltb, ne_eqb, eqb-true, ltb-true}
use Rattle.std.proofs.Math.ListN.{drop}
use Rattle.std.proofs.lemmas.List.{length-replicate, replicate-append-replicate, set_split, set_at}
use Rattle.std.proofs.lemmas.List.Edits.{sets, sets-eq}
use Rattle.std.proofs.Math.Seq.{length-sets, drop-length}
use Rattle.std.proofs.Math.Dec.{ltb}
use Rattle.std.specs.Float.Ieee.{binary32, of_bits, to_bits}
use Rattle.std.specs.Float.Ieee.Scale.{finite}
use Rattle.value.specs.declared.Reason.{Reason}
use Rattle.value.specs.declared.Reason.TheVariants.{ZeroDivisor, OutOfRange, Other}
use Rattle.value.specs.declared.Value.{Value}
use Rattle.value.specs.declared.Value.TheVariants.{Whole, Truth, Err, Real}
use Rattle.value.specs.Operators.{pick}
use Rattle.value.specs.Senses.{err}
use Rattle.value.specs.Bytes.{is_some, word_of, value_of, whole_of, truth_of, err_of, float_of, word_at}
use Rattle.value.proofs.Sign.{high, low-z}
use Rattle.value.proofs.Words.{tag-four, pattern-back}
use Rattle.text.specs.Printed.{led, shown, number_field, letter_field, letter_of, value_field, option_field, word_field, result_fields, result_line, head_line, refusal_line}

-- ---- lengths
pub led-length : (before : ℕ) (w : ℕ) → length (led before w) ≡ w
unfolding led
led-length before zero = refl
led-length before (suc w) = length-append (replicate w 32) (before ∷ []) ∙ rw (length-replicate {A = ℕ} w 32) (omega arith)

ahead-length : (b : Bool) (l r : List ℕ) (w : ℕ) → length l ≡ w → length r ≡ w → length (pick b l r) ≡ w
ahead-length true l r w p q = p
ahead-length false l r w p q = q

pub shown-length : (before : ℕ) (w n : ℕ) → length (shown before w n) ≡ w
unfolding shown
shown-length before zero n = refl
shown-length before (suc w) n =
    let e = length-append (pick (ltb n 10) (led before w) (shown before w (n / 10))) ((48 + n % 10) ∷ []) in
    let a = ahead-length (ltb n 10) (led before w) (shown before w (n / 10)) w (led-length before w) (shown-length before w (n / 10)) in
    e ∙ omega arith

pub number-length : (n : ℕ) → length (number_field n) ≡ 6
unfolding number_field
number-length n = shown-length 32 6 n

pub value-length : (v : Value) → length (value_field v) ≡ 11
unfolding value_field
value-length (Whole (pos n)) = shown-length 32 11 n
value-length (Whole (negsuc n)) = shown-length 45 11 (suc n)
value-length (Truth true) = refl
value-length (Truth false) = refl
value-length (Err r) = refl
value-length (Real x) = shown-length 82 11 (to_bits binary32 x)

option-length : (o : Option Value) → length (option_field o) ≡ 11
unfolding option_field
option-length (some v) = value-length v
option-length none = value-length err

pub word-length : (w : ℕ) → length (word_field w) ≡ 11
unfolding word_field
word-length w = option-length (value_of w)

pub fields-length : (k : ℕ) (r : List ℕ) → length (result_fields k r) ≡ 11 * k
unfolding result_fields
fields-length zero r = refl
fields-length (suc k) r =
    let e = length-append (result_fields k r) (word_field (word_at r (5 * k))) in
    let a = fields-length k r in
    let b = word-length (word_at r (5 * k)) in
    e ∙ omega arith

pub line-length : (k : ℕ) (r : List ℕ) → length (result_line k r) ≡ 11 * k + 1
unfolding result_line
line-length k r = length-append (result_fields k r) (10 ∷ []) ∙ rw (fields-length k r) refl

pub refusal-length : (a b : ℕ) → length (refusal_line a b) ≡ 13
unfolding refusal_line
refusal-length a b =
    let p = length-append (number_field a) (number_field b ++ (10 ∷ [])) in
    let q = length-append (number_field b) (10 ∷ []) in
    let u = number-length a in
    let v = number-length b in
    p ∙ omega arith

pub head-length : (a b c : ℕ) → length (head_line a b c) ≡ 19
unfolding head_line refusal_line
head-length a b c =
    let p = length-append (number_field a) (refusal_line b c) in
    let q = refusal-length b c in
    let u = number-length a in
    p ∙ omega arith

-- ---- a field from its last digit on
pub shown-last : (before : ℕ) (w n : ℕ) → n < 10 → shown before (suc w) n ≡ led before w ++ ((48 + n % 10) ∷ [])
unfolding shown
shown-last before w n h = rw (lt-ltb n 10 h) refl

pub shown-more : (before : ℕ) (w n : ℕ) → 10 ≤ n → shown before (suc w) n ≡ shown before w (n / 10) ++ ((48 + n % 10) ∷ [])
unfolding shown
shown-more before w n h = rw (le-ltb n 10 h) refl

pub shown-none : (before : ℕ) (n : ℕ) → shown before 0 n ≡ []
unfolding shown
shown-none before n = refl

-- ---- a field by its word
module _ (n : ℕ) where
  pub whole-positive : n < 2147483648 → option_field (whole_of n) ≡ shown 32 11 n
  unfolding whole_of option_field value_field
  whole-positive h = rw (lt-ltb n 4294967296 (omega arith), low-z n h) refl

  pub whole-negative : 2147483648 ≤ n → n < 4294967296 → option_field (whole_of n) ≡ shown 45 11 (4294967296 - n)
  unfolding whole_of option_field value_field
  whole-negative h k =
      let s : suc (4294967295 - n) ≡ 4294967296 - n = omega arith in
      rw (lt-ltb n 4294967296 k, high n h k, s) refl

  pub whole-outside : 4294967296 ≤ n → option_field (whole_of n) ≡ letter_field 69
  unfolding whole_of option_field value_field
  whole-outside h = rw (le-ltb n 4294967296 h) refl

  pub truth-false : n ≡ 0 → option_field (truth_of n) ≡ letter_field 70
  unfolding truth_of option_field value_field
  truth-false e = rw e refl

  pub truth-true : n ≡ 1 → option_field (truth_of n) ≡ letter_field 84
  unfolding truth_of option_field value_field
  truth-true e = rw e refl

  pub truth-neither : (n ≡ 0 → ⊥) → (n ≡ 1 → ⊥) → option_field (truth_of n) ≡ letter_field 69
  unfolding truth_of option_field value_field
  truth-neither p q = rw (ne_eqb n 0 p, ne_eqb n 1 q) refl

  -- A finite float's field shows the pattern that its word has.
  float-shown : is_some (float_of n) ≡ true → option_field (float_of n) ≡ shown 82 11 n
  unfolding float_of option_field value_field
  float-shown = go (ltb n 4294967296) refl (finite (of_bits binary32 n)) refl
    where
      go : (a : Bool) → ltb n 4294967296 ≡ a → (b : Bool) → finite (of_bits binary32 n) ≡ b
          → is_some (pick (a && b) (some (Real (of_bits binary32 n))) none) ≡ true → option_field (pick (a && b) (some (Real (of_bits binary32 n))) none) ≡ shown 82 11 n
      go true p true q h = ap (shown 82 11) (pattern-back n (ltb-true n 4294967296 p) q)
      go true p false q h = absurd (false≢true h)
      go false p b q h = absurd (false≢true h)

module _ (w : ℕ) where
  pub word-whole : w % 256 ≡ 1 → word_field w ≡ option_field (whole_of (w / 256))
  unfolding word_field value_of
  word-whole e = rw e refl

  pub word-truth : w % 256 ≡ 2 → word_field w ≡ option_field (truth_of (w / 256))
  unfolding word_field value_of
  word-truth e = rw e refl

  pub word-real : w % 256 ≡ 4 → is_some (value_of w) ≡ true → word_field w ≡ shown 82 11 (w / 256)
  unfolding word_field
  word-real e h = ap option_field (tag-four w e) ∙ float-shown (w / 256) (ap is_some (sym (tag-four w e)) ∙ h)

  pub word_none : is_some (value_of w) ≡ false → word_field w ≡ letter_field 69
  unfolding word_field option_field value_field
  word_none = go (value_of w)
    where
      go : (o : Option Value) → is_some o ≡ false → option_field o ≡ letter_field 69
      go (some v) h = absurd (false≢true (sym h))
      go none h = refl

  pub word-err : (r : Reason) → w ≡ word_of (Err r) → word_field w ≡ letter_field (letter_of r)
  unfolding word_of word_field option_field value_field value_of err_of
  word-err ZeroDivisor e = rw e refl
  word-err OutOfRange e = rw e refl
  word-err Other e = rw e refl

  pub word-other : (w % 256 ≡ 1 → ⊥) → (w % 256 ≡ 2 → ⊥) → (w % 256 ≡ 4 → ⊥) → (w ≡ word_of (Err ZeroDivisor) → ⊥) → (w ≡ word_of (Err OutOfRange) → ⊥) → word_field w ≡ letter_field 69
  unfolding word_of word_field option_field value_field value_of err_of
  word-other p q f z v = rw (ne_eqb (w % 256) 1 p, ne_eqb (w % 256) 2 q, ne_eqb (w % 256) 4 f) (go (eqb (w % 256) 3) refl)
    where
      plain : (b : Bool) → option_field (pick b (some err) none) ≡ letter_field 69
      plain true = refl
      plain false = refl

      go : (a : Bool) → eqb (w % 256) 3 ≡ a → option_field (pick a (err_of (w / 256)) none) ≡ letter_field 69
      go true e =
          let t = eqb-true (w % 256) 3 e in
          rw (ne_eqb (w / 256) 1 (λ k. z (omega arith)), ne_eqb (w / 256) 2 (λ k. v (omega arith))) (plain (eqb (w / 256) 0))
      go false e = refl

-- ---- parts written one behind another
pub written-part : (l : List ℕ) (at n : ℕ) (v : List ℕ) → length v ≡ n → at + n ≤ length l → sets l at v ≡ take at l ++ v ++ drop (at + n) l
written-part l at n v e h = rw (← e) (sets-eq v l at (omega arith))

pub written_both : (l : List ℕ) (at : ℕ) (v w : List ℕ) → at + (length v + length w) ≤ length l → sets (sets l at v) (at + length v) w ≡ sets l at (v ++ w)
written_both l at [] w h = let e : at + 0 ≡ at = omega arith in rw e refl
written_both l at (x ∷ v) w h =
    let e : at + suc (length v) ≡ suc at + length v = omega arith in
    rw e (written_both (set l at x) (suc at) v w (rw (length-set l at x) (omega arith)))

pub written_byte : (l : List ℕ) (at : ℕ) (v : List ℕ) (b : ℕ) → at + (length v + 1) ≤ length l → set (sets l at v) (at + length v) b ≡ sets l at (v ++ (b ∷ []))
written_byte l at v b h = written_both l at v (b ∷ []) h

-- What stands in front of the end of a written part.
pub written-front : (l : List ℕ) (at n : ℕ) (v : List ℕ) → length v ≡ n → at + n ≤ length l → take (at + n) (sets l at v) ≡ take at l ++ v
written-front l at n v e h =
    let p : length (take at l ++ v) ≡ at + n = length-append (take at l) v ∙ rw (length-take-le at l (omega arith), e) refl in
    ap (take (at + n)) (written-part l at n v e h)
    ∙ take_at (take at l ++ v) (drop (at + n) l) (at + n) p

-- A part that was lent and written whole.
pub lent-part : (l : List ℕ) (at n : ℕ) (v : List ℕ) → length v ≡ n → at + n ≤ length l → take at l ++ (v ++ drop n (drop at l)) ≡ sets l at v
lent-part l at n v e h =
    rw (drop-drop n at l) (sym (append_assoc (take at l) v (drop (at + n) l)) ∙ sym (written-part l at n v e h))

-- ---- spaces and the character before a number, byte by byte
pub space-more : (l : List ℕ) (i : ℕ) → i < length l → take i l ≡ replicate i 32 → take (i + 1) (set l i 32) ≡ replicate (i + 1) 32
space-more l i h e =
    rw add-one
    (take-suc-set l i 32 h ∙ rw e (replicate-append-replicate i 1 32 ∙ rw add-one refl))

space-last : (n : ℕ) → replicate {A = ℕ} n 32 ++ (32 ∷ []) ≡ replicate (suc n) 32
space-last n = replicate-append-replicate n 1 32 ∙ rw add-one refl

pub led-spaces : (n : ℕ) → led 32 n ≡ replicate n 32
unfolding led
led-spaces zero = refl
led-spaces (suc n) = space-last n

led-last : (before n : ℕ) → 0 < n → set (replicate {A = ℕ} n 32) (n - 1) before ≡ led before n
unfolding led
led-last before zero h = absurd (omega arith)
led-last before (suc n) h =
    let e : suc n - 1 ≡ n = omega arith in
    ap (λ (x : List ℕ). set x (suc n - 1) before) (sym (space-last n))
    ∙ ap (λ (j : ℕ). set (replicate n 32 ++ (32 ∷ [])) j before) e
    ∙ set_at (replicate n 32) 32 [] before n (length-replicate {A = ℕ} n 32)

led-none : (before : ℕ) → led before 0 ≡ []
unfolding led
led-none before = refl

-- ---- a number from its last digit on
-- The digits behind place i are written, and what is left of the number stands in front.
module _ (before : ℕ) (l : List ℕ) (w n : ℕ) (i rest : ℕ) (h : 0 < i) (k : i ≤ length l) (e : shown before i rest ++ drop i l ≡ shown before w n) where
  one : i ≡ suc (i - 1)
  one = omega arith

  digit : List ℕ
  digit = (48 + rest % 10) ∷ []

  behind : drop (i - 1) (set l (i - 1) (48 + rest % 10)) ≡ (48 + rest % 10) ∷ drop i l
  behind =
      ap (drop (i - 1)) (set_split l (i - 1) (48 + rest % 10) (omega arith))
      ∙ drop_at (take (i - 1) l) ((48 + rest % 10) ∷ drop (suc (i - 1)) l) (i - 1) (length-take-le (i - 1) l (omega arith))
      ∙ rw (← one) refl

  front : (f : List ℕ) → shown before (suc (i - 1)) rest ≡ f ++ digit → f ++ drop (i - 1) (set l (i - 1) (48 + rest % 10)) ≡ shown before w n
  unfolding digit
  front f p =
      ap (λ (x : List ℕ). f ++ x) behind
      ∙ sym (append_assoc f digit (drop i l))
      ∙ ap (λ (x : List ℕ). x ++ drop i l) (sym p ∙ ap (λ (j : ℕ). shown before j rest) (sym one))
      ∙ e

  pub digit-last : rest < 10 → led before (i - 1) ++ drop (i - 1) (set l (i - 1) (48 + rest % 10)) ≡ shown before w n
  unfolding digit
  digit-last p = front (led before (i - 1)) (shown-last before (i - 1) rest p)

  pub digit-more : 10 ≤ rest → shown before (i - 1) (rest / 10) ++ drop (i - 1) (set l (i - 1) (48 + rest % 10)) ≡ shown before w n
  unfolding digit
  digit-more p = front (shown before (i - 1) (rest / 10)) (shown-more before (i - 1) rest p)

pub number-start : (before : ℕ) (l : List ℕ) (n : ℕ) → shown before (length l) n ++ drop (length l) l ≡ shown before (length l) n
number-start before l n = rw (drop-length l) (append-nil (shown before (length l) n))

-- ---- lines from their parts
pub refusal-parts : (l : List ℕ) (at a b : ℕ) → at + 13 ≤ length l → set (sets (sets l at (number_field a)) (at + 6) (number_field b)) (at + 12) 10 ≡ sets l at (refusal_line a b)
unfolding refusal_line
refusal-parts l at a b h =
    let u = number-length a in
    let v = number-length b in
    let w = length-append (number_field a) (number_field b) in
    let p : at + 6 ≡ at + length (number_field a) = omega arith in
    let q : at + 12 ≡ at + length (number_field a ++ number_field b) = omega arith in
    rw (p, written_both l at (number_field a) (number_field b) (omega arith), q, written_byte l at (number_field a ++ number_field b) 10 (omega arith), append_assoc (number_field a) (number_field b) (10 ∷ [])) refl

pub head-parts : (l : List ℕ) (a b c : ℕ) → 19 ≤ length l
    → set (sets (sets (sets l 0 (number_field a)) 6 (number_field b)) 12 (number_field c)) 18 10 ≡ sets l 0 (head_line a b c)
unfolding head_line refusal_line
head-parts l a b c h =
    let u = number-length a in
    let v = refusal-length b c in
    let p : 6 ≡ 0 + length (number_field a) = omega arith in
    refusal-parts (sets l 0 (number_field a)) 6 b c (rw (length-sets l 0 (number_field a)) (omega arith))
    ∙ ap (λ (j : ℕ). sets (sets l 0 (number_field a)) j (refusal_line b c)) p
    ∙ written_both l 0 (number_field a) (refusal_line b c) (omega arith)

pub letter-parts : (l : List ℕ) (at c : ℕ) → at + 11 ≤ length l → set (sets l at (replicate 10 32)) (at + 10) c ≡ sets l at (letter_field c)
unfolding letter_field
letter-parts l at c h = written_byte l at (replicate 10 32) c h

pub results-none : (l : List ℕ) (at : ℕ) (r : List ℕ) → sets l at (result_fields 0 r) ≡ l
unfolding result_fields
results-none l at r = refl

pub results-more : (l : List ℕ) (at j : ℕ) (r : List ℕ) → at + (11 * j + 11) ≤ length l
    → sets (sets l at (result_fields j r)) (at + 11 * j) (word_field (word_at r (5 * j))) ≡ sets l at (result_fields (j + 1) r)
unfolding result_fields
results-more l at j r h =
    let u = fields-length j r in
    let v = word-length (word_at r (5 * j)) in
    let p : 11 * j ≡ length (result_fields j r) = sym u in
    let e : j + 1 ≡ suc j = omega arith in
    ap (λ (x : ℕ). sets (sets l at (result_fields j r)) (at + x) (word_field (word_at r (5 * j)))) p
    ∙ written_both l at (result_fields j r) (word_field (word_at r (5 * j))) (omega arith)
    ∙ rw e refl

pub results_end : (l : List ℕ) (at k : ℕ) (r : List ℕ) → at + 11 * k + 1 ≤ length l → set (sets l at (result_fields k r)) (at + 11 * k) 10 ≡ sets l at (result_line k r)
unfolding result_line
results_end l at k r h =
    let u = fields-length k r in
    ap (λ (x : ℕ). set (sets l at (result_fields k r)) (at + x) 10) (sym u)
    ∙ written_byte l at (result_fields k r) 10 (omega arith)

-- ---- what the code leaves in a lent part
pub led-put : (before : ℕ) (l : List ℕ) (n : ℕ) → l ≡ replicate n 32 → 0 < length l → set l (length l - 1) before ≡ led before n
led-put before l n e h =
    let q : length l ≡ n = ap length e ∙ length-replicate {A = ℕ} n 32 in
    rw (q, e) (led-last before n (omega arith))

pub led-empty : (before : ℕ) (l : List ℕ) (n : ℕ) → l ≡ replicate n 32 → length l ≤ 0 → l ≡ led before n
led-empty before l n e h =
    let q : n ≡ 0 = omega (arith, ap length e ∙ length-replicate {A = ℕ} n 32, h) in
    e ∙ rw q (sym (led-none before))

mid-length : (l : List ℕ) (at n : ℕ) → at + n ≤ length l → length (take n (drop at l)) ≡ n
mid-length l at n h = length-take-le n (drop at l) (rw (length-drop at l) (omega arith))

pub number_put : (l v : List ℕ) (at n k : ℕ) (before : ℕ) → at + n ≤ length l → v ≡ shown before (length (take (at + n - at) (drop at l))) k
    → take at l ++ (v ++ drop (at + n - at) (drop at l)) ≡ sets l at (shown before n k)
number_put l v at n k before h e =
    let q : at + n - at ≡ n = omega arith in
    let w : v ≡ shown before n k = e ∙ rw (q, mid-length l at n h) refl in
    rw (q, w) (lent-part l at n (shown before n k) (shown-length before n k) h)

pub spaces-put : (l v : List ℕ) (at n : ℕ) → at + n ≤ length l → v ≡ replicate (length (take (at + n - at) (drop at l))) 32
    → take at l ++ (v ++ drop (at + n - at) (drop at l)) ≡ sets l at (replicate n 32)
spaces-put l v at n h e =
    let q : at + n - at ≡ n = omega arith in
    let w : v ≡ replicate n 32 = e ∙ rw (q, mid-length l at n h) refl in
    rw (q, w) (lent-part l at n (replicate n 32) (length-replicate {A = ℕ} n 32) h)
