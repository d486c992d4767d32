-- Laws of specs/RoundTrip.antt, and what only they need.
use Prim.Native.Nat.{ℕ, zero, suc, ◌+◌, ◌*◌, ◌-◌, ◌/◌, ◌%◌, ◌^◌, ◌≤◌, ◌<◌}
use Rattle.std.specs.Prelude.{◌≡◌, Bool, true, false, cond, pos, negsuc, Float, get_or, take, drop, replicate, Some, None}
use Rattle.std.proofs.Math.Path.{refl, sym, ap}
use Rattle.std.proofs.Common.{◌∙◌, arith, pow-suc, length-append, take_at, drop_at, take-suc}
use mathlib.Core.List.{List, [], ◌∷◌, ◌++◌, map, append_assoc, append-nil}
use Rattle.std.proofs.Math.Option.{some, none}
use Rattle.std.proofs.Math.Decide.{dec_lt}
use borrow.Author.Tests.{le-leb, eq-eqb, ne_eqb}
use Rattle.std.specs.Float.{binary32}
use Rattle.std.specs.Float.Ieee.{to_bits}
use Rattle.std.proofs.Math.ListN.{length}
use Rattle.std.proofs.Math.Seq.{get_or_at, take-length, drop-append-add}
use Rattle.value.specs.declared.Reason.TheVariants.{ZeroDivisor, OutOfRange, Other}
use Rattle.value.specs.declared.Value.{Value}
use Rattle.value.specs.declared.Value.TheVariants.{Whole, Truth, Err, Real}
use Rattle.value.specs.Operators.{is_real}
use Rattle.value.specs.Senses.{err}
use Rattle.value.specs.Kinds.{of_kind}
use Rattle.value.specs.Bytes.{InRange, word_of, value_of, float_of, word_bytes, bytes_of, word_at}
use Rattle.value.proofs.Floats.{bits_below, real-parts}
use Rattle.value.proofs.Words.{value-of-word, real-word-is, tag-four, word_lt, stored-parts, word-stored}
use Rattle.formula.specs.Sheet.{is_digit, digits_of, zero_of, field_of}
use Rattle.text.specs.Fields.{positive, negative, behind_minus, patterned, behind_r, alone, field_value}
use Rattle.text.specs.Printed.{led, shown, number_field, letter_field, value_field, option_field, word_field, result_fields, result_line}
use Rattle.text.proofs.PrintLaws.{led-spaces, shown-last, shown-more, value-length}
use Rattle.text.specs.SetLines.{lines_of, field_at, fields_well, field_bytes, is_set_line, sets, one_more, sets_from, sets_of}
use Rattle.text.proofs.SetLineLaws.{drop-take, good-line, no_line}
use Rattle.text.specs.RoundTrip.{onward, room, Led, Written, printed, spelled, printed_line, AllInRange, Suited, printed_file, Sets}

digits-onward : (d : ℕ) → d < 10 → (v : ℕ) (s : List ℕ) → digits_of v (s ++ ((48 + d) ∷ [])) ≡ onward d (digits_of v s)
unfolding digits_of
digits-onward d h v [] =
    let e : 48 + d - 48 ≡ d = omega arith in
    rw (le-leb 48 (48 + d) (omega arith), le-leb (48 + d) 57 (omega arith), e) refl
digits-onward d h v (b ∷ s) = go (is_digit b) (digits-onward d h (v * 10 + (b - 48)) s)
  where
    go : (x : Bool) → digits_of (v * 10 + (b - 48)) (s ++ ((48 + d) ∷ [])) ≡ onward d (digits_of (v * 10 + (b - 48)) s)
        → cond x (digits_of (v * 10 + (b - 48)) (s ++ ((48 + d) ∷ []))) None ≡ onward d (cond x (digits_of (v * 10 + (b - 48)) s) None)
    go true e = e
    go false e = refl

room-none : (stands : Bool) (n : ℕ) → 0 < n → n < room stands 0 → ⊥
room-none false n p h = omega arith
room-none true n p h = omega arith

room-tenth : (stands : Bool) (w n : ℕ) → 10 ≤ n → n < room stands (suc w) → n / 10 < room stands w
room-tenth false w n k h = omega (arith, pow-suc 10 w)
room-tenth true zero n k h = absurd (omega arith)
room-tenth true (suc w) n k h = omega (arith, pow-suc 10 w)

is-led : (stands : Bool) (w n : ℕ) → 0 < n → n < room stands (suc w) → Led stands w
is-led false w n p h = tt
is-led true zero n p h = absurd (omega arith)
is-led true (suc w) n p h = omega arith

written_last : (stands : Bool) (before w n : ℕ) → 0 < n → n < 10 → n < room stands (suc w) → Written stands before (suc w) n
unfolding digits_of
written_last stands before w n p k h =
    let e : 48 + n % 10 - 48 ≡ n = omega arith in
    record {
      ahead = w;
      first = 48 + n % 10;
      rest = [];
      text = shown-last before w n k;
      lead = is-led stands w n p h;
      low = omega arith;
      high = omega arith;
      number = ap Some e;
    }

written-more : (stands : Bool) (before w n : ℕ) → 10 ≤ n → Written stands before w (n / 10) → Written stands before (suc w) n
written-more stands before w n k W =
    let d : List ℕ = (48 + n % 10) ∷ [] in
    let e : n / 10 * 10 + n % 10 ≡ n = omega arith in
    record {
      ahead = W.ahead;
      first = W.first;
      rest = W.rest ++ d;
      text = shown-more before w n k ∙ ap (λ (x : List ℕ). x ++ d) W.text ∙ append_assoc (led before W.ahead) (W.first ∷ W.rest) d;
      lead = W.lead;
      low = W.low;
      high = W.high;
      number = digits-onward (n % 10) (omega arith) (W.first - 48) W.rest ∙ ap (onward (n % 10)) W.number ∙ ap Some e;
    }

written : (stands : Bool) (before w n : ℕ) → 0 < n → n < room stands w → Written stands before w n
written stands before zero n p h = absurd (room-none stands n p h)
written stands before (suc w) n p h = go (dec_lt n 10) (λ k. written stands before w (n / 10) (omega arith) (room-tenth stands w n k h))
  where
    go : Dec (n < 10) → (10 ≤ n → Written stands before w (n / 10)) → Written stands before (suc w) n
    go (yes k) shorter = written_last stands before w n p k h
    go (no k) shorter = let l : 10 ≤ n = omega arith in written-more stands before w n l (shorter l)

-- ---- a number of the sheet
spaces-skipped : (k : ℕ) (s : List ℕ) → field_of (led 32 k ++ s) ≡ field_of s
unfolding field_of
spaces-skipped k s = ap (λ (l : List ℕ). field_of (l ++ s)) (led-spaces k) ∙ go k
  where
    go : (n : ℕ) → field_of (replicate n 32 ++ s) ≡ field_of s
    go zero = refl
    go (suc n) = go n

first-digit : (b : ℕ) (s : List ℕ) → 49 ≤ b → b ≤ 57 → field_of (b ∷ s) ≡ digits_of (b - 48) s
unfolding field_of
first-digit b s l h = rw (ne_eqb b 32 (λ e. omega arith), ne_eqb b 48 (λ e. omega arith), le-leb 48 b (omega arith), le-leb b 57 h) refl

pub field-reads-back : (w n : ℕ) → n < 10 ^ suc w → field_of (shown 32 (suc w) n) ≡ Some n
unfolding field_of zero_of
field-reads-back w zero h = ap field_of (shown-last 32 w 0 (omega arith)) ∙ spaces-skipped w (48 ∷ [])
field-reads-back w (suc n) h =
    let W = written false 32 (suc w) (suc n) (omega arith) h in
    ap field_of W.text
    ∙ spaces-skipped W.ahead (W.first ∷ W.rest)
    ∙ first-digit W.first W.rest W.low W.high
    ∙ W.number

-- "six-character fields"
pub number-reads-back : (n : ℕ) → n ≤ 999999 → field_of (number_field n) ≡ Some n
unfolding number_field
number-reads-back n h = field-reads-back 5 n (omega arith)

-- ---- a value
blanks-skipped : (k : ℕ) (s : List ℕ) → field_value (replicate k 32 ++ s) ≡ field_value s
unfolding field_value
blanks-skipped zero s = refl
blanks-skipped (suc k) s = blanks-skipped k s

digit-first : (b : ℕ) (s : List ℕ) → 48 ≤ b → b ≤ 57 → field_value (b ∷ s) ≡ positive (field_of (b ∷ s))
unfolding field_value
digit-first b s l h =
    simp (ne_eqb b 32 (λ e. omega arith), ne_eqb b 84 (λ e. omega arith), ne_eqb b 70 (λ e. omega arith), ne_eqb b 69 (λ e. omega arith), ne_eqb b 90 (λ e. omega arith), ne_eqb b 86 (λ e. omega arith), ne_eqb b 82 (λ e. omega arith), ne_eqb b 45 (λ e. omega arith))

minus-first : (b : ℕ) (s : List ℕ) → 49 ≤ b → b ≤ 57 → field_value (45 ∷ b ∷ s) ≡ negative (digits_of (b - 48) s)
unfolding field_value behind_minus
minus-first b s l h = rw (le-leb 49 b l, le-leb b 57 h) refl

r-first : (b : ℕ) (s : List ℕ) → 48 ≤ b → field_value (82 ∷ b ∷ s) ≡ patterned (field_of (b ∷ s))
unfolding field_value behind_r
r-first b s l = ap (λ (t : Bool). cond t none (patterned (field_of (b ∷ s)))) (ne_eqb b 32 (λ e. omega arith))

pub positive-reads-back : (w n : ℕ) → n < 10 ^ suc w → field_value (shown 32 (suc w) n) ≡ positive (Some n)
unfolding field_of zero_of
positive-reads-back w zero h =
    ap field_value (shown-last 32 w 0 (omega arith) ∙ ap (λ (l : List ℕ). l ++ (48 ∷ [])) (led-spaces w))
    ∙ blanks-skipped w (48 ∷ [])
    ∙ digit-first 48 [] (omega arith) (omega arith)
positive-reads-back w (suc n) h =
    let W = written false 32 (suc w) (suc n) (omega arith) h in
    ap field_value (W.text ∙ ap (λ (l : List ℕ). l ++ (W.first ∷ W.rest)) (led-spaces W.ahead))
    ∙ blanks-skipped W.ahead (W.first ∷ W.rest)
    ∙ digit-first W.first W.rest (omega (arith, W.low)) W.high
    ∙ ap positive (first-digit W.first W.rest W.low W.high ∙ W.number)

led-skipped : (before k : ℕ) (s : List ℕ) → 0 < k → field_value (led before k ++ s) ≡ field_value (before ∷ s)
unfolding led
led-skipped before zero s h = absurd (omega arith)
led-skipped before (suc k) s h = ap field_value (append_assoc (replicate k 32) (before ∷ []) s) ∙ blanks-skipped k (before ∷ s)

pub negative-reads-back : (w n : ℕ) → 0 < n → n < 10 ^ w → field_value (shown 45 (suc w) n) ≡ negative (Some n)
negative-reads-back w n p h =
    let W = written true 45 (suc w) n p h in
    ap field_value W.text
    ∙ led-skipped 45 W.ahead (W.first ∷ W.rest) W.lead
    ∙ minus-first W.first W.rest W.low W.high
    ∙ ap negative W.number

pub pattern-reads-back : (w n : ℕ) → 0 < w → n < 10 ^ w → field_value (shown 82 (suc w) n) ≡ patterned (Some n)
unfolding field_of zero_of
pattern-reads-back w zero p h =
    ap field_value (shown-last 82 w 0 (omega arith)) ∙ led-skipped 82 w (48 ∷ []) p ∙ r-first 48 [] (omega arith)
pattern-reads-back w (suc n) p h =
    let W = written true 82 (suc w) (suc n) (omega arith) h in
    ap field_value W.text
    ∙ led-skipped 82 W.ahead (W.first ∷ W.rest) W.lead
    ∙ r-first W.first W.rest (omega (arith, W.low))
    ∙ ap patterned (first-digit W.first W.rest W.low W.high ∙ W.number)

-- A float's pattern is its own.
pattern-of-real : (x : Float) → is_real x ≡ true → float_of (to_bits binary32 x) ≡ some (Real x)
pattern-of-real x h =
    let n : ℕ = to_bits binary32 x in
    let t : (4 + 256 * n) % 256 ≡ 4 = omega arith in
    let b : (4 + 256 * n) / 256 ≡ n = omega arith in
    ap float_of (sym b) ∙ sym (tag-four (4 + 256 * n) t) ∙ ap value_of (sym (real-word-is x h)) ∙ value-of-word (Real x) h

-- Every value that is printed is read back as itself.
pub value-reads-back : (v : Value) → InRange v → field_value (value_field v) ≡ some v
unfolding value_field letter_field field_value alone positive negative patterned
value-reads-back (Whole (pos n)) h = positive-reads-back 10 n (omega arith) ∙ rw (le-leb n 2147483647 (omega arith)) refl
value-reads-back (Whole (negsuc n)) h = negative-reads-back 10 (suc n) (omega arith) (omega arith) ∙ rw (le-leb n 2147483647 (omega arith)) refl
value-reads-back (Truth true) h = refl
value-reads-back (Truth false) h = refl
value-reads-back (Err ZeroDivisor) h = refl
value-reads-back (Err OutOfRange) h = refl
value-reads-back (Err Other) h = refl
value-reads-back (Real x) h =
    pattern-reads-back 10 (to_bits binary32 x) (omega arith) (omega (arith, bits_below x (real-parts x h).1)) ∙ pattern-of-real x h

range_at : (vs : List Value) (j : ℕ) → AllInRange vs → InRange (get_or vs j err)
range_at [] j r = tt
range_at (v ∷ vs) zero r = r.0
range_at (v ∷ vs) (suc j) r = range_at vs j r.1

printed-length : (vs : List Value) → length (printed vs) ≡ 11 * length vs
unfolding printed
printed-length [] = refl
printed-length (v ∷ vs) = length-append (value_field v) (printed vs) ∙ omega (arith, value-length v, printed-length vs)

line-length : (vs : List Value) → length (printed_line vs) ≡ 11 * length vs + 1
unfolding printed_line
line-length vs = length-append (printed vs) (10 ∷ []) ∙ rw (printed-length vs) refl

printed-append : (vs us : List Value) → printed (vs ++ us) ≡ printed vs ++ printed us
unfolding printed
printed-append [] us = refl
printed-append (v ∷ vs) us = ap (λ (x : List ℕ). value_field v ++ x) (printed-append vs us) ∙ sym (append_assoc (value_field v) (printed vs) (printed us))

spelled-append : (vs us : List Value) → spelled (vs ++ us) ≡ spelled vs ++ spelled us
unfolding spelled
spelled-append [] us = refl
spelled-append (v ∷ vs) us = ap (λ (x : List ℕ). bytes_of v ++ x) (spelled-append vs us) ∙ sym (append_assoc (bytes_of v) (spelled vs) (spelled us))

printed-more : (vs : List Value) (k : ℕ) → k < length vs → printed (take (suc k) vs) ≡ printed (take k vs) ++ value_field (get_or vs k err)
unfolding printed
printed-more vs k h =
    ap printed (take-suc vs k err h) ∙ printed-append (take k vs) (get_or vs k err ∷ [])
    ∙ ap (λ (x : List ℕ). printed (take k vs) ++ x) (append-nil (value_field (get_or vs k err)))

spelled-more : (vs : List Value) (k : ℕ) → k < length vs → spelled (take (suc k) vs) ≡ spelled (take k vs) ++ bytes_of (get_or vs k err)
unfolding spelled
spelled-more vs k h =
    ap spelled (take-suc vs k err h) ∙ spelled-append (take k vs) (get_or vs k err ∷ [])
    ∙ ap (λ (x : List ℕ). spelled (take k vs) ++ x) (append-nil (bytes_of (get_or vs k err)))

field-part : (vs : List Value) (t : List ℕ) (j : ℕ) → j < length vs → take 11 (drop (11 * j) (printed vs ++ t)) ≡ value_field (get_or vs j err)
unfolding printed
field-part [] t j h = absurd (omega arith)
field-part (v ∷ vs) t zero h =
    ap (take 11) (append_assoc (value_field v) (printed vs) t) ∙ take_at (value_field v) (printed vs ++ t) 11 (value-length v)
field-part (v ∷ vs) t (suc j) h =
    let e : 11 * suc j ≡ length (value_field v) + 11 * j = omega (arith, value-length v) in
    ap (λ (x : List ℕ). take 11 (drop (11 * suc j) x)) (append_assoc (value_field v) (printed vs) t)
    ∙ ap (λ (n : ℕ). take 11 (drop n (value_field v ++ (printed vs ++ t)))) e
    ∙ ap (take 11) (drop-append-add (value_field v) (printed vs ++ t) (11 * j))
    ∙ field-part vs t j (omega arith)

module _ (vs : List Value) (r : AllInRange vs) where
  value-at : (j : ℕ) → j < length vs → field_value (field_at (printed_line vs) j) ≡ some (get_or vs j err)
  unfolding printed_line
  value-at j h =
      ap field_value (drop-take (11 * j) 11 (printed vs ++ (10 ∷ [])) ∙ field-part vs (10 ∷ []) j h)
      ∙ value-reads-back (get_or vs j err) (range_at vs j r)

  wells-printed : (kinds : List ℕ) → Suited kinds vs → (k : ℕ) → k ≤ length vs → fields_well kinds k (printed_line vs) ≡ true
  unfolding fields_well of_kind
  wells-printed kinds s zero h = refl
  wells-printed kinds s (suc k) h = rw (wells-printed kinds s k (omega arith), value-at k (omega arith), s.suit k (omega arith)) refl

  bytes-printed : (k : ℕ) → k ≤ length vs → field_bytes k (printed_line vs) ≡ spelled (take k vs)
  unfolding field_bytes spelled bytes_of
  bytes-printed zero h = refl
  bytes-printed (suc k) h =
      rw (bytes-printed k (omega arith), value-at k (omega arith)) (sym (spelled-more vs k (omega arith)))

  feed : get_or (printed_line vs) (11 * length vs) 0 ≡ 10
  unfolding printed_line
  feed = get_or_at (printed vs) 10 [] 0 (11 * length vs) (printed-length vs)

  pub line-is-set : (kinds : List ℕ) → Suited kinds vs → is_set_line kinds (printed_line vs) ≡ true
  unfolding is_set_line
  line-is-set kinds s =
      let n : length kinds ≡ length vs = sym s.count in
      rw (n, eq-eqb (length (printed_line vs)) (11 * length vs + 1) (line-length vs), feed, wells-printed kinds s (length vs) (omega arith)) refl

  pub line-reads-back : field_bytes (length vs) (printed_line vs) ≡ spelled vs
  line-reads-back = bytes-printed (length vs) (omega arith) ∙ ap spelled (take-length vs)

-- ---- a line of results
word_first : (w : ℕ) (t : List ℕ) → w < 1099511627776 → word_at (word_bytes w ++ t) 0 ≡ w
unfolding word_bytes
word_first w t h =
    ap (λ (l : List ℕ). word_at l 0) (sym (stored-parts (word_bytes w ++ t) 0 w (omega arith)))
    ∙ word-stored (word_bytes w ++ t) 0 w (omega arith) h

word-later : (w : ℕ) (t : List ℕ) (i : ℕ) → word_at (word_bytes w ++ t) (i + 5) ≡ word_at t i
unfolding word_bytes word_at
word-later w t i =
    rw (byte (i + 5) i refl, byte (i + 5 + 1) (i + 1) (omega arith), byte (i + 5 + 2) (i + 2) (omega arith), byte (i + 5 + 3) (i + 3) (omega arith), byte (i + 5 + 4) (i + 4) (omega arith)) refl
  where
    byte : (at j : ℕ) → at ≡ j + 5 → get_or (word_bytes w ++ t) at 0 ≡ get_or t j 0
    byte at j e =
        let f : at ≡ suc (suc (suc (suc (suc j)))) = omega arith in
        ap (λ (n : ℕ). get_or (word_bytes w ++ t) n 0) f

word-spelled : (vs : List Value) (t : List ℕ) (j : ℕ) → j < length vs → AllInRange vs → word_at (spelled vs ++ t) (5 * j) ≡ word_of (get_or vs j err)
unfolding spelled bytes_of
word-spelled [] t j h r = absurd (omega arith)
word-spelled (v ∷ vs) t zero h r =
    ap (λ (l : List ℕ). word_at l 0) (append_assoc (bytes_of v) (spelled vs) t) ∙ word_first (word_of v) (spelled vs ++ t) (word_lt v r.0)
word-spelled (v ∷ vs) t (suc j) h r =
    let e : 5 * suc j ≡ 5 * j + 5 = omega arith in
    ap (λ (l : List ℕ). word_at l (5 * suc j)) (append_assoc (bytes_of v) (spelled vs) t)
    ∙ ap (word_at (bytes_of v ++ (spelled vs ++ t))) e
    ∙ word-later (word_of v) (spelled vs ++ t) (5 * j)
    ∙ word-spelled vs t j (omega arith) r.1

field-of-word : (v : Value) → InRange v → word_field (word_of v) ≡ value_field v
unfolding word_field option_field
field-of-word v r = ap option_field (value-of-word v r)

-- A result set holds more bytes than its width's values; what follows them is not printed.
module _ (vs : List Value) (t : List ℕ) (r : AllInRange vs) where
  fields-printed : (k : ℕ) → k ≤ length vs → result_fields k (spelled vs ++ t) ≡ printed (take k vs)
  unfolding result_fields printed
  fields-printed zero h = refl
  fields-printed (suc k) h =
      rw (fields-printed k (omega arith), word-spelled vs t k (omega arith) r, field-of-word (get_or vs k err) (range_at vs k r))
      (sym (printed-more vs k (omega arith)))

  pub results-printed : result_line (length vs) (spelled vs ++ t) ≡ printed_line vs
  unfolding result_line printed_line
  results-printed = ap (λ (x : List ℕ). x ++ (10 ∷ [])) (fields-printed (length vs) (omega arith) ∙ ap printed (take-length vs))

lines-read-back : (kinds : List ℕ) (i : ℕ) (vss : List (List Value)) → Sets kinds vss → sets_from kinds i (lines_of (printed_file vss)) ≡ sets (map spelled vss)
unfolding printed_file one_more
lines-read-back kinds i [] s = no_line kinds i [] (omega arith)
lines-read-back kinds i (vs ∷ vss) s =
    let k : ℕ = length kinds in
    let n : length vs ≡ length kinds = s.0.count in
    let e : length (printed_line vs) ≡ 11 * k + 1 = line-length vs ∙ rw n refl in
    let t : take (11 * k + 1) (printed_line vs ++ printed_file vss) ≡ printed_line vs = take_at (printed_line vs) (printed_file vss) (11 * k + 1) e in
    let d : drop (11 * k + 1) (printed_line vs ++ printed_file vss) ≡ printed_file vss = drop_at (printed_line vs) (printed_file vss) (11 * k + 1) e in
    let w : is_set_line kinds (printed_line vs) ≡ true = line-is-set vs s.1.0 kinds s.0 in
    let b : field_bytes k (printed_line vs) ≡ spelled vs = ap (λ (j : ℕ). field_bytes j (printed_line vs)) (sym n) ∙ line-reads-back vs s.1.0 in
    good-line kinds i (printed_line vs ++ printed_file vss) (ap (is_set_line kinds) t ∙ w)
    ∙ rw (t, d, b, lines-read-back kinds (suc i) vss s.1.1) refl

-- Printed lines are a set file, and its sets are the values that were printed.
pub file-reads-back : (kinds : List ℕ) (vss : List (List Value)) → Sets kinds vss → sets_of kinds (printed_file vss) ≡ sets (map spelled vss)
unfolding sets_of
file-reads-back kinds vss s = lines-read-back kinds 1 vss s
