-- Laws of specs/SetLineLaws.antt, and what only they need.
use Prim.Native.Nat.{ℕ, zero, suc, ◌+◌, ◌*◌, ◌-◌, ◌≤◌, ◌<◌}
use Rattle.std.specs.Prelude.{◌≡◌, Bool, true, false, cond, ◌&&◌, List, [], ◌∷◌, ◌++◌, length, get_or, take, drop, eqb, leb, Some, None}
use Rattle.std.proofs.Math.Path.{refl}
use Rattle.std.proofs.Common.{sym, ap, ◌∙◌, append_assoc, length-append, length-take, length-drop, take-take, drop-drop, take-add, take_at, get_or-take, get_or-drop, take-suc}
use Rattle.std.proofs.Math.Option.{Option, some, none}
use native.Mathlib.Omega.{arith}
use Rattle.std.proofs.Math.Decide.{ℕ_discrete}
use borrow.Author.Tests.{eqb-true, leb-true, eq-eqb, ne_eqb}
use Rattle.std.proofs.Math.Seq.{slice, split_at, drop-append-add, take-nil}
use Rattle.value.specs.declared.Reason.TheVariants.{ZeroDivisor, OutOfRange, Other}
use Rattle.value.specs.declared.Value.{Value}
use Rattle.value.specs.declared.Value.TheVariants.{Truth, Err}
use Rattle.value.specs.Operators.{pick}
use Rattle.value.specs.Bytes.{is_some, word_bytes, stored}
use Rattle.value.specs.Kinds.{of_kind}
use Rattle.value.proofs.Words.{stored-parts}
use Rattle.formula.specs.Results.{Field}
use Rattle.formula.specs.Sheet.{digits_of, field_of, zero_of}
use Rattle.formula.specs.Tests.{well_formed}
use Rattle.text.specs.Fields.{positive, negative, behind_minus, patterned, behind_r, alone, field_value, word_by}
use Rattle.text.specs.SetLines.{before, lines_of, line_at, field_at, fields_well, field_bytes, is_set_line, SetFile, sets as setsIn, bad_line, one_more, sets_from, sets_of, count_of}
use Rattle.text.specs.SetLineLaws.{NoFeed, field_well, First, more_than, Few, Sized}

false-true : {A : Type 0} → ◌≡◌ {A = Bool} false true → A
false-true e = let z : ◌≡◌ {A = ℕ} 0 1 = cc in absurd (omega arith)

and_left : (a b : Bool) → a && b ≡ true → a ≡ true
and_left true b e = refl
and_left false b e = e

and_right : (a b : Bool) → a && b ≡ true → b ≡ true
and_right true b e = e
and_right false b e = false-true e

no-feed-append : (s t : List ℕ) → NoFeed s → NoFeed t → NoFeed (s ++ t)
no-feed-append [] t p q = q
no-feed-append (b ∷ s) t p q = (p.0, no-feed-append s t p.1 q)

digits-no-feed : (v : ℕ) (s : List ℕ) → well_formed (digits_of v s) ≡ true → NoFeed s
unfolding digits_of
digits-no-feed v [] e = tt
digits-no-feed v (b ∷ s) e = go (λ r. digits-no-feed (v * 10 + (b - 48)) s r) (leb 48 b) refl (leb b 57) refl e
  where
    go : (well_formed (digits_of (v * 10 + (b - 48)) s) ≡ true → NoFeed s) → (x : Bool) → leb 48 b ≡ x → (y : Bool) → leb b 57 ≡ y → well_formed (cond (x && y) (digits_of (v * 10 + (b - 48)) s) None) ≡ true → NoFeed (b ∷ s)
    go later true p true q r = (ne_eqb b 10 (λ z. omega (arith, z, leb-true 48 b p)), later r)
    go later true p false q r = false-true r
    go later false p y q r = false-true r

zero-no-feed : (s : List ℕ) → well_formed (zero_of s) ≡ true → NoFeed s
unfolding zero_of
zero-no-feed [] e = tt
zero-no-feed (b ∷ s) e = false-true e

field-no-feed : (s : List ℕ) → well_formed (field_of s) ≡ true → NoFeed s
unfolding field_of
field-no-feed [] e = tt
field-no-feed (b ∷ s) e = go (λ r. field-no-feed s r) (eqb b 32) refl (eqb b 48) refl (leb 48 b) refl (leb b 57) refl e
  where
    go : (well_formed (field_of s) ≡ true → NoFeed s) → (w : Bool) → eqb b 32 ≡ w → (z : Bool) → eqb b 48 ≡ z → (x : Bool) → leb 48 b ≡ x → (y : Bool) → leb b 57 ≡ y
        → well_formed (cond w (field_of s) (cond z (zero_of s) (cond (x && y) (digits_of (b - 48) s) None))) ≡ true → NoFeed (b ∷ s)
    go later true o z p x q y r f = (ne_eqb b 10 (λ h. omega (arith, h, eqb-true b 32 o)), later f)
    go later false o true p x q y r f = (ne_eqb b 10 (λ h. omega (arith, h, eqb-true b 48 p)), zero-no-feed s f)
    go later false o false p true q true r f = (ne_eqb b 10 (λ h. omega (arith, h, leb-true 48 b q)), digits-no-feed (b - 48) s f)
    go later false o false p true q false r f = false-true f
    go later false o false p false q y r f = false-true f

positive-formed : (f : Field) → is_some (positive f) ≡ true → well_formed f ≡ true
unfolding positive
positive-formed (Some n) e = refl
positive-formed None e = e

negative-formed : (f : Field) → is_some (negative f) ≡ true → well_formed f ≡ true
unfolding negative
negative-formed (Some zero) e = refl
negative-formed (Some (suc n)) e = refl
negative-formed None e = e

minus-no-feed : (s : List ℕ) → is_some (behind_minus s) ≡ true → NoFeed s
unfolding behind_minus
minus-no-feed [] e = tt
minus-no-feed (b ∷ s) e = go (leb 49 b) refl (leb b 57) refl e
  where
    go : (x : Bool) → leb 49 b ≡ x → (y : Bool) → leb b 57 ≡ y → is_some (cond (x && y) (negative (digits_of (b - 48) s)) none) ≡ true → NoFeed (b ∷ s)
    go true p true q r = (ne_eqb b 10 (λ z. omega (arith, z, leb-true 49 b p)), digits-no-feed (b - 48) s (negative-formed (digits_of (b - 48) s) r))
    go true p false q r = false-true r
    go false p y q r = false-true r

patterned-formed : (f : Field) → is_some (patterned f) ≡ true → well_formed f ≡ true
unfolding patterned
patterned-formed (Some n) e = refl
patterned-formed None e = e

real-no-feed : (s : List ℕ) → is_some (behind_r s) ≡ true → NoFeed s
unfolding behind_r
real-no-feed [] e = tt
real-no-feed (b ∷ s) e = go (eqb b 32) e
  where
    go : (x : Bool) → is_some (cond x none (patterned (field_of (b ∷ s)))) ≡ true → NoFeed (b ∷ s)
    go true r = false-true r
    go false r = field-no-feed (b ∷ s) (patterned-formed (field_of (b ∷ s)) r)

alone-no-feed : (s : List ℕ) (v : Value) → is_some (alone s v) ≡ true → NoFeed s
unfolding alone
alone-no-feed [] v e = tt
alone-no-feed (b ∷ s) v e = false-true e

value-no-feed : (s : List ℕ) → is_some (field_value s) ≡ true → NoFeed s
unfolding field_value
value-no-feed [] e = tt
value-no-feed (b ∷ s) e =
    go (λ r. value-no-feed s r) (eqb b 32) refl (eqb b 84) refl (eqb b 70) refl (eqb b 69) refl (eqb b 90) refl (eqb b 86) refl (eqb b 82) refl (eqb b 45) refl e
  where
    letter : (c : ℕ) (v : Value) → 10 < c → eqb b c ≡ true → is_some (alone s v) ≡ true → NoFeed (b ∷ s)
    letter c v h p f = (ne_eqb b 10 (λ k. omega (arith, k, h, eqb-true b c p)), alone-no-feed s v f)

    go : (is_some (field_value s) ≡ true → NoFeed s) → (space : Bool) → eqb b 32 ≡ space → (t : Bool) → eqb b 84 ≡ t → (f : Bool) → eqb b 70 ≡ f
        → (e : Bool) → eqb b 69 ≡ e → (z : Bool) → eqb b 90 ≡ z → (v : Bool) → eqb b 86 ≡ v → (r : Bool) → eqb b 82 ≡ r → (minus : Bool) → eqb b 45 ≡ minus
        → is_some (cond space (field_value s)
        (cond t (alone s (Truth true)) (cond f (alone s (Truth false))
        (cond e (alone s (Err Other)) (cond z (alone s (Err ZeroDivisor)) (cond v (alone s (Err OutOfRange))
        (cond r (behind_r s) (cond minus (behind_minus s) (positive (field_of (b ∷ s))))))))))) ≡ true
        → NoFeed (b ∷ s)
    go later true p t _ f _ e _ z _ v _ r _ m _ k = (ne_eqb b 10 (λ h. omega (arith, h, eqb-true b 32 p)), later k)
    go later false _ true p f _ e _ z _ v _ r _ m _ k = letter 84 (Truth true) (omega arith) p k
    go later false _ false _ true p e _ z _ v _ r _ m _ k = letter 70 (Truth false) (omega arith) p k
    go later false _ false _ false _ true p z _ v _ r _ m _ k = letter 69 (Err Other) (omega arith) p k
    go later false _ false _ false _ false _ true p v _ r _ m _ k = letter 90 (Err ZeroDivisor) (omega arith) p k
    go later false _ false _ false _ false _ false _ true p r _ m _ k = letter 86 (Err OutOfRange) (omega arith) p k
    go later false _ false _ false _ false _ false _ false _ true p m _ k = (ne_eqb b 10 (λ h. omega (arith, h, eqb-true b 82 p)), real-no-feed s k)
    go later false _ false _ false _ false _ false _ false _ false _ true p k = (ne_eqb b 10 (λ h. omega (arith, h, eqb-true b 45 p)), minus-no-feed s k)
    go later false _ false _ false _ false _ false _ false _ false _ false _ k = field-no-feed (b ∷ s) (positive-formed (field_of (b ∷ s)) k)

-- ---- what is of a kind is a value
kind-value : (letter : ℕ) (o : Option Value) → is_some (of_kind letter o) ≡ true → is_some o ≡ true
unfolding of_kind
kind-value letter (some v) e = refl
kind-value letter none e = e

-- ---- where a field of a line stands
pub drop-take : (m k : ℕ) (l : List ℕ) → drop m (take (m + k) l) ≡ take k (drop m l)
drop-take zero k l = let e : 0 + k ≡ k = omega arith in rw e refl
drop-take (suc m) k [] = let e : suc m + k ≡ suc (m + k) = omega arith in rw e (sym (take-nil k))
drop-take (suc m) k (x ∷ l) = let e : suc m + k ≡ suc (m + k) = omega arith in rw e (drop-take m k l)

pub field-at : (kinds s : List ℕ) (at j : ℕ) → j < length kinds → field_at (line_at kinds s at) j ≡ slice (at + 11 * j) (at + 11 * j + 11) s
field-at kinds s at j h =
    ap (drop (11 * j)) (take-take (11 * j + 11) (11 * length kinds + 1) (drop at s) (omega arith) ∙ sym (drop-take at (11 * j + 11) s))
    ∙ drop-drop (11 * j) at (take (at + (11 * j + 11)) s)
    ∙ ap (λ (n : ℕ). drop (at + 11 * j) (take n s)) (let e : at + (11 * j + 11) ≡ at + 11 * j + 11 = omega arith in e)

module _ (kinds l : List ℕ) where
  pub wells-none : fields_well kinds 0 l ≡ true
  unfolding fields_well
  wells-none = refl

  pub wells-more : (j : ℕ) → fields_well kinds j l ≡ true → field_well kinds l j ≡ true → fields_well kinds (j + 1) l ≡ true
  unfolding fields_well
  wells-more j p q = let e : j + 1 ≡ suc j = omega arith in rw (e, p, q) refl

and-false : (a b : Bool) → b ≡ false → a && b ≡ false
and-false true b e = e
and-false false b e = refl

pub wells-fail : (kinds : List ℕ) (k : ℕ) (l : List ℕ) (j : ℕ) → j < k → field_well kinds l j ≡ false → fields_well kinds k l ≡ false
unfolding fields_well
wells-fail kinds zero l j h e = absurd (omega arith)
wells-fail kinds (suc k) l j h e = go (λ n. wells-fail kinds k l j (omega (arith, n, h)) e) (ℕ_discrete j k)
  where
    go : ((j ≡ k → ⊥) → fields_well kinds k l ≡ false) → Dec (j ≡ k) → fields_well kinds k l && field_well kinds l k ≡ false
    go later (yes q) = and-false (fields_well kinds k l) (field_well kinds l k) (rw q at e)
    go later (no n) = ap (λ (b : Bool). b && field_well kinds l k) (later n)

pub wells-at : (kinds : List ℕ) (k : ℕ) (l : List ℕ) → fields_well kinds k l ≡ true → (j : ℕ) → j < k → field_well kinds l j ≡ true
unfolding fields_well
wells-at kinds k l e j h = go (field_well kinds l j) refl
  where
    go : (b : Bool) → field_well kinds l j ≡ b → field_well kinds l j ≡ true
    go true q = q
    go false q = false-true (sym (wells-fail kinds k l j h q) ∙ e)

pub bytes-none : (l o : List ℕ) → o ≡ field_bytes 0 l ++ drop (5 * 0) o
unfolding field_bytes
bytes-none l o = refl

pub bytes-length : (k : ℕ) (l : List ℕ) → length (field_bytes k l) ≡ 5 * k
unfolding field_bytes word_bytes
bytes-length zero l = refl
bytes-length (suc k) l =
    let e = length-append (field_bytes k l) (word_bytes (word_by (field_value (field_at l k)))) in
    let h = bytes-length k l in
    e ∙ omega arith

pub bytes-more : (l o : List ℕ) (j : ℕ) (q : List ℕ) → q ≡ field_bytes j l ++ drop (5 * j) o → 5 * j + 5 ≤ length o
    → stored q (5 * j) (word_by (field_value (field_at l j))) ≡ field_bytes (j + 1) l ++ drop (5 * (j + 1)) o
unfolding field_bytes
bytes-more l o j q e h =
    let p : List ℕ = field_bytes j l in
    let w : List ℕ = word_bytes (word_by (field_value (field_at l j))) in
    let n : length p ≡ 5 * j = bytes-length j l in
    let m : length q ≡ length o = ap length e ∙ length-append p (drop (5 * j) o) ∙ rw (length-drop (5 * j) o) (omega arith) in
    let t : take (5 * j) q ≡ p = ap (take (5 * j)) e ∙ take_at p (drop (5 * j) o) (5 * j) n in
    let d : drop (5 * j + 5) q ≡ drop (5 * (j + 1)) o =
    ap (drop (5 * j + 5)) e ∙ ap (λ (x : ℕ). drop (x + 5) (p ++ drop (5 * j) o)) (sym n) ∙ drop-append-add p (drop (5 * j) o) 5
    ∙ drop-drop 5 (5 * j) o ∙ ap (λ (x : ℕ). drop x o) (let z : 5 * j + 5 ≡ 5 * (j + 1) = omega arith in z) in
    let s : j + 1 ≡ suc j = omega arith in
    stored-parts q (5 * j) (word_by (field_value (field_at l j))) (omega arith)
    ∙ rw (t, d) (sym (append_assoc p w (drop (5 * (j + 1)) o)))
    ∙ ap (λ (x : ℕ). field_bytes x l ++ drop (5 * (j + 1)) o) (sym s)

-- ---- whether a line is a set
pub short-line : (kinds s : List ℕ) (at : ℕ) → length s - at < 11 * length kinds + 1 → is_set_line kinds (line_at kinds s at) ≡ false
unfolding is_set_line
short-line kinds s at h =
    let e : length (line_at kinds s at) ≡ length s - at = length-take (11 * length kinds + 1) (drop at s) ∙ rw (length-drop at s) (omega arith) in
    rw (ne_eqb (length (line_at kinds s at)) (11 * length kinds + 1) (λ q. omega (arith, q, e, h))) refl

module _ (kinds s : List ℕ) (at : ℕ) (h : 11 * length kinds + 1 ≤ length s - at) where
  abbrev fed-at : ℕ
  fed-at = 11 * length kinds

  abbrev line : List ℕ
  line = line_at kinds s at

  whole : length line ≡ fed-at + 1
  whole = length-take (fed-at + 1) (drop at s) ∙ rw (length-drop at s) (omega arith)

  feed : get_or line fed-at 0 ≡ get_or s (at + fed-at) 0
  feed = get_or-take (fed-at + 1) (drop at s) fed-at 0 (omega arith) ∙ get_or-drop at s fed-at 0

  pub unended-line : (get_or s (at + 11 * length kinds) 0 ≡ 10 → ⊥) → is_set_line kinds (line_at kinds s at) ≡ false
  unfolding is_set_line
  unended-line n = rw (eq-eqb (length line) (fed-at + 1) whole, feed, ne_eqb (get_or s (at + fed-at) 0) 10 n) refl

  pub ended-line : get_or s (at + 11 * length kinds) 0 ≡ 10 → is_set_line kinds (line_at kinds s at) ≡ fields_well kinds (length kinds) (line_at kinds s at)
  unfolding is_set_line
  ended-line e = rw (eq-eqb (length line) (fed-at + 1) whole, feed, eq-eqb (get_or s (at + fed-at) 0) 10 e) refl

-- ---- the lines of the file
line-splits : (w r : List ℕ) → NoFeed w → lines_of (w ++ (10 ∷ r)) ≡ (w ++ (10 ∷ [])) ∷ lines_of r
unfolding lines_of
line-splits [] r p = refl
line-splits (b ∷ w) r p = rw (p.0, line-splits w r p.1) refl

fields-no-feed : (kinds : List ℕ) (k : ℕ) (l : List ℕ) → fields_well kinds k l ≡ true → NoFeed (take (11 * k) l)
unfolding fields_well
fields-no-feed kinds zero l e = tt
fields-no-feed kinds (suc k) l e =
    let n : 11 * suc k ≡ 11 * k + 11 = omega arith in
    let v : is_some (field_value (field_at l k)) ≡ true =
    kind-value (get_or kinds k 0) (field_value (field_at l k)) (and_right (fields_well kinds k l) (field_well kinds l k) e) in
    let f : is_some (field_value (take 11 (drop (11 * k) l))) ≡ true = ap (λ (x : List ℕ). is_some (field_value x)) (sym (drop-take (11 * k) 11 l)) ∙ v in
    rw (n, take-add (11 * k) 11 l)
    (no-feed-append (take (11 * k) l) (take 11 (drop (11 * k) l)) (fields-no-feed kinds k l (and_left (fields_well kinds k l) (field_well kinds l k) e))
    (value-no-feed (take 11 (drop (11 * k) l)) f))

-- What a set line is.
module _ (kinds l : List ℕ) (e : is_set_line kinds l ≡ true) where
  abbrev long : Bool
  long = eqb (length l) (11 * length kinds + 1)

  abbrev ended : Bool
  ended = eqb (get_or l (11 * length kinds) 0) 10

  both : long && ended ≡ true
  unfolding is_set_line
  both = and_left (long && ended) (fields_well kinds (length kinds) l) e

  sized : length l ≡ 11 * length kinds + 1
  sized = eqb-true (length l) (11 * length kinds + 1) (and_left long ended both)

  fed : get_or l (11 * length kinds) 0 ≡ 10
  fed = eqb-true (get_or l (11 * length kinds) 0) 10 (and_right long ended both)

  pub set-line-wells : fields_well kinds (length kinds) l ≡ true
  unfolding is_set_line
  set-line-wells = and_right (long && ended) (fields_well kinds (length kinds) l) e

-- A set line in front of a file is its first line.
module _ (kinds r : List ℕ) (e : is_set_line kinds (take (11 * length kinds + 1) r) ≡ true) where
  abbrev at : ℕ
  at = 11 * length kinds

  abbrev front : List ℕ
  front = take (at + 1) r

  pub set-line-fits : 11 * length kinds + 1 ≤ length r
  set-line-fits = let n : length front ≡ at + 1 = sized kinds front e in omega (arith, n, length-take (at + 1) r)

  byte : get_or r at 0 ≡ 10
  byte = sym (get_or-take (at + 1) r at 0 (omega arith)) ∙ fed kinds front e

  text : NoFeed (take at r)
  text = let p : NoFeed (take at front) = fields-no-feed kinds (length kinds) front (set-line-wells kinds front e) in rw (take-take at (at + 1) r (omega arith)) at p

  parts : r ≡ take at r ++ (10 ∷ drop (at + 1) r)
  parts =
      let n : at + 1 ≡ suc at = omega arith in
      split_at r at 0 (omega (arith, set-line-fits)) ∙ rw (byte, n) refl

  first : front ≡ take at r ++ (10 ∷ [])
  first =
      let n : at + 1 ≡ suc at = omega arith in
      rw n (take-suc r at 0 (omega (arith, set-line-fits)) ∙ rw byte refl)

  pub set-line-first : lines_of r ≡ take (11 * length kinds + 1) r ∷ lines_of (drop (11 * length kinds + 1) r)
  set-line-first =
      ap lines_of parts
      ∙ line-splits (take at r) (drop (at + 1) r) text
      ∙ ap (λ (x : List ℕ). x ∷ lines_of (drop (at + 1) r)) (sym first)

first-before : (b : ℕ) (s : List ℕ) (ls : List (List ℕ)) → First s ls → First (b ∷ s) (before b ls)
unfolding before
first-before b s [] p = refl
first-before b s (l ∷ ls) p = ap (λ (x : List ℕ). b ∷ x) p

first-line : (r : List ℕ) → First r (lines_of r)
unfolding lines_of
first-line [] = tt
first-line (b ∷ s) = go (first-line s) (eqb b 10) refl
  where
    go : First s (lines_of s) → (x : Bool) → eqb b 10 ≡ x → First (b ∷ s) (cond x ((10 ∷ []) ∷ lines_of s) (before b (lines_of s)))
    go p true e = ap (λ (n : ℕ). n ∷ []) (eqb-true b 10 e)
    go p false e = first-before b s (lines_of s) p

bad-first : (kinds : List ℕ) (i : ℕ) (r : List ℕ) (ls : List (List ℕ)) → First r ls → (ls ≡ [] → ⊥) → is_set_line kinds (take (11 * length kinds + 1) r) ≡ false
    → sets_from kinds i ls ≡ bad_line i
unfolding sets_from
bad-first kinds i r [] p n e = absurd (n refl)
bad-first kinds i r (l ∷ ls) p n e = go (is_set_line kinds l) refl
  where
    go : (x : Bool) → is_set_line kinds l ≡ x → pick x (one_more (field_bytes (length kinds) l) (sets_from kinds (suc i) ls)) (bad_line i) ≡ bad_line i
    go true q =
        let t : take (11 * length kinds + 1) r ≡ l = ap (λ (x : ℕ). take x r) (sym (sized kinds l q)) ∙ p in
        false-true (sym e ∙ ap (is_set_line kinds) t ∙ q)
    go false q = refl

no_lines : (r : List ℕ) → lines_of r ≡ [] → r ≡ []
unfolding lines_of before
no_lines [] e = refl
no_lines (b ∷ s) e = go (eqb b 10) (lines_of s) e
  where
    go : (x : Bool) (ls : List (List ℕ)) → cond x ((10 ∷ []) ∷ lines_of s) (before b ls) ≡ [] → b ∷ s ≡ []
    go true ls q = absurd (let z : ◌≡◌ {A = ℕ} 1 0 = cc (ap length q) in omega arith)
    go false [] q = absurd (let z : ◌≡◌ {A = ℕ} 1 0 = cc (ap length q) in omega arith)
    go false (l ∷ ls) q = absurd (let z : length ((b ∷ l) ∷ ls) ≡ 0 = ap length q in omega arith)

module _ (kinds : List ℕ) (i : ℕ) (r : List ℕ) where
  pub bad-line : 0 < length r → is_set_line kinds (take (11 * length kinds + 1) r) ≡ false → sets_from kinds i (lines_of r) ≡ bad_line i
  bad-line h e = bad-first kinds i r (lines_of r) (first-line r) (λ q. omega (arith, h, ap length (no_lines r q))) e

  pub good-line : is_set_line kinds (take (11 * length kinds + 1) r) ≡ true
      → sets_from kinds i (lines_of r)
      ≡ one_more (field_bytes (length kinds) (take (11 * length kinds + 1) r)) (sets_from kinds (suc i) (lines_of (drop (11 * length kinds + 1) r)))
  unfolding sets_from
  good-line e = rw (set-line-first kinds r e, e) refl

pub no_line : (kinds : List ℕ) (i : ℕ) (r : List ℕ) → length r ≤ 0 → sets_from kinds i (lines_of r) ≡ setsIn []
unfolding sets_from lines_of
no_line kinds i [] h = refl
no_line kinds i (b ∷ s) h = absurd (omega arith)

pub none_read : (f : SetFile) → more_than 0 f ≡ count_of f
none_read (setsIn ss) = let e : 0 + length ss ≡ length ss = omega arith in rw e refl
none_read (bad_line i) = refl

pub one-read : (n : ℕ) (b : List ℕ) (f : SetFile) → more_than n (one_more b f) ≡ more_than (n + 1) f
unfolding one_more
one-read n b (setsIn ss) = let e : n + suc (length ss) ≡ n + 1 + length ss = omega arith in rw e refl
one-read n b (bad_line i) = refl

-- ---- no more lines than bytes
before-few : (b : ℕ) (ls : List (List ℕ)) → length (before b ls) ≤ suc (length ls)
unfolding before
before-few b [] = omega arith
before-few b (l ∷ ls) = omega arith

lines-few : (s : List ℕ) → length (lines_of s) ≤ length s
unfolding lines_of
lines-few [] = omega arith
lines-few (b ∷ s) = go (eqb b 10) (lines-few s)
  where
    go : (x : Bool) → length (lines_of s) ≤ length s → length (cond x ((10 ∷ []) ∷ lines_of s) (before b (lines_of s))) ≤ suc (length s)
    go true h = omega arith
    go false h = omega (arith, before-few b (lines_of s), h)

few : (f : SetFile) (n : ℕ) → Sized f 1 n → Few f n
few (setsIn ss) n h = omega arith
few (bad_line j) n h = h

one-sized : (b : List ℕ) (f : SetFile) (i n : ℕ) → Sized f (suc i) n → Sized (one_more b f) i n
unfolding one_more
one-sized b (setsIn ss) i n p = omega arith
one-sized b (bad_line j) i n p = p

sets-few : (kinds : List ℕ) (i n : ℕ) (ls : List (List ℕ)) → i + length ls ≤ n + 1 → Sized (sets_from kinds i ls) i n
unfolding sets_from
sets-few kinds i n [] h = omega arith
sets-few kinds i n (l ∷ ls) h = go (is_set_line kinds l) (sets-few kinds (suc i) n ls (omega arith))
  where
    go : (x : Bool) → Sized (sets_from kinds (suc i) ls) (suc i) n
        → Sized (pick x (one_more (field_bytes (length kinds) l) (sets_from kinds (suc i) ls)) (bad_line i)) i n
    go true p = one-sized (field_bytes (length kinds) l) (sets_from kinds (suc i) ls) i n p
    go false p = omega arith

pub file-few : (kinds s : List ℕ) → Few (sets_of kinds s) (length s)
unfolding sets_of
file-few kinds s = few (sets_from kinds 1 (lines_of s)) (length s) (sets-few kinds 1 (length s) (lines_of s) (omega (arith, lines-few s)))
