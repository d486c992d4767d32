-- A step of one plane: the first operator with a mark fires or loses its mark, and the first with a mark is found anew. Between steps all marks stand in their sixteen
-- words. Assumes that the memory is as long as its links need and that they begin behind the registers.
use Rattle.std.specs.Prelude.{ℕ, ◌+◌, ◌-◌, ◌*◌, ◌/◌, ◌%◌, ◌^◌, ◌≤◌, ◌<◌, ◌≡◌, refl, ◌≢◌, Bool, true, false, List, length, get_or}
use Rattle.std.proofs.Math.Path.{sym}
use Rattle.std.proofs.Common.{ap, ◌∙◌, arith, length-set}
use Rattle.std.proofs.lemmas.Bool.{false≢true}
use Rattle.std.proofs.Math.Decide.{ℕ_discrete, dec_lt}
use Rattle.std.specs.Int.Bits.{bit_and, and_self}
use Rattle.std.proofs.lemmas.Nat.{and_shr, and_mod, and_le_r}
use Rattle.std.specs.Int.Count.{count_trailing_zeros}
use Rattle.std.proofs.Math.ListN.{set}
use Rattle.std.proofs.lemmas.List.{set-get_or}
use Rattle.machine_layout.specs.Layout.{links_at, least_size, need_from}
use Rattle.machine_firing.specs.Fire.{able_from, fired_from}
use Rattle.machine_marks.specs.declared.Marks.{Marks}
use Rattle.machine_marks.specs.Words.{bit, mark, slept, and-less, lowest_set, lowest-within, mark-set-word, mark-slept-other}
use Rattle.machine_marks.specs.Held.{held, Bare, Stands, Lowest, Cleared, first-marked, none_below, held-cleared}
use Rattle.machine_marks.specs.Users.{Filled}
use Rattle.machine_runs.specs.RunLaws.{fired-idle}
use Rattle.machine_runs.specs.Marks.{Woken, Resting, resting-cleared, resting-fired}

-- i is the first operator with a mark, or 1,024 where none has one
pub record FirstMark (w : List ℕ) (i : ℕ) : Type 0 where
  pub upto : i ≤ 1024
  pub marked : i < 1024 → mark w i ≡ 1
  pub none : (x : ℕ) → x < i → mark w x ≡ 0

-- ---- the marks of a block taken out of its word

-- a word of 64 bits that are all 0 is 0
word_blank : (v : ℕ) → v < 2 ^ 64 → ((k : ℕ) → k < 64 → bit v k ≡ 0) → v ≡ 0
word_blank v h z = go (ℕ_discrete v 0)
  where
    go : Dec (v ≡ 0) → v ≡ 0
    go (yes e) = e
    go (no n) =
        let p : 0 < v = omega arith in
        absurd (omega (arith, lowest_set 64 v p h, z (count_trailing_zeros 64 v) (lowest-within v p h)))

mark-bit : (w : List ℕ) (b k : ℕ) → k < 64 → mark w (64 * b + k) ≡ bit (get_or w b 0) k
unfolding mark
mark-bit w b k h =
    let d : (64 * b + k) / 64 ≡ b = omega arith in
    let r : (64 * b + k) % 64 ≡ k = omega arith in
    rw (d, r) refl

abbrev pub marks_at : List ℕ → ℕ → Marks
marks_at w i = record { here = get_or w (i / 64) 0; block = i / 64; low = i / 64 }

pub held_at : (w : List ℕ) (i : ℕ) → held w (marks_at w i) ≡ w
held_at w i = set-get_or w (i / 64) 0

module _ (w : List ℕ) (i : ℕ) (len : length w ≡ 16) (wide : (b : ℕ) → get_or w b 0 < 2 ^ 64) (few : i < 1024) (first : FirstMark w i) where
  pub stands_at : Stands w (marks_at w i)
  stands_at = record {
    len = len;
    inside = omega arith;
    below = omega arith;
    blank = λ b p q. word_blank (get_or w b 0) (wide b) (λ k h. sym (mark-bit w b k h) ∙ first.none (64 * b + k) (omega arith));
  }

  pub lowest-here : Lowest (marks_at w i) i
  unfolding mark
  lowest-here = record {
    block = refl;
    set = first.marked few;
    first = λ k h. sym (mark-bit w (i / 64) k (omega arith)) ∙ first.none (64 * (i / 64) + k) (omega arith);
  }

-- the first of those marks put back
pub first_found : (w : List ℕ) (a : Marks) → Stands w a → a.low ≡ a.block → (i : ℕ) → i < 1024 → Lowest a i → FirstMark (held w a) i
first_found w a s level i few l = record { upto = omega arith; marked = λ h. first-marked w a s level i l; none = none_below w a s level i l }

pub first-none : (w : List ℕ) → Bare w → FirstMark w 1024
first-none w bare = record { upto = omega arith; marked = λ h. absurd (omega arith); none = bare }

-- ---- a mark that is cleared is gone, so the next is a later one

-- the word of all bits but one
bit-but : (u : ℕ) → bit ((2 ^ 64 - 1) - 2 ^ (u % 64)) (u % 64) ≡ 0
unfolding bit
bit-but u = go (ℕ_discrete (bit but (u % 64)) 1)
  where
    but : ℕ
    but = (2 ^ 64 - 1) - 2 ^ (u % 64)

    go : Dec (bit but (u % 64) ≡ 1) → bit but (u % 64) ≡ 0
    go (yes e) = absurd (omega (arith, and-less but u e, and_self but))
    go (no n) = omega arith

bit-and-none : (a c k : ℕ) → bit c k ≡ 0 → bit (bit_and a c) k ≡ 0
unfolding bit
bit-and-none a c k z =
    let e : bit_and a c / 2 ^ k % 2 ≡ bit_and (a / 2 ^ k % 2) (c / 2 ^ k % 2) = ap (λ (x : ℕ). x % 2) (and_shr a c k) ∙ and_mod (a / 2 ^ k) (c / 2 ^ k) 1 in
    omega (arith, and_le_r (a / 2 ^ k % 2) (c / 2 ^ k % 2))

mark-slept : (w : List ℕ) (u : ℕ) → u / 64 < length w → mark (slept w u) u ≡ 0
unfolding slept
mark-slept w u h =
    mark-set-word w (u / 64) h (bit_and (get_or w (u / 64) 0) ((2 ^ 64 - 1) - 2 ^ (u % 64))) u refl ∙ bit-and-none (get_or w (u / 64) 0) ((2 ^ 64 - 1) - 2 ^ (u % 64)) (u % 64) (bit-but u)

slept-later : (w : List ℕ) (i : ℕ) → i / 64 < length w → FirstMark w i → (k : ℕ) → FirstMark (slept w i) k → i < 1024 → i < k
slept-later w i h f k g few = go (dec_lt i k)
  where
    go : Dec (i < k) → i < k
    go (yes p) = p
    go (no p) = both (ℕ_discrete k i)
      where
        both : Dec (k ≡ i) → i < k
        both (yes e) = let z : mark (slept w i) k ≡ 0 = (rw e (mark-slept w i h)) in absurd (omega (arith, g.marked (omega arith)))
        both (no d) = absurd (omega (arith, g.marked (omega arith), mark-slept-other w i h k d, f.none k (omega arith)))

-- ---- the step

-- What a step of operator i tells and leaves: whether it fired, the memory, and the marks, right for any n operators where they were.
pub record Stepped (u m : List ℕ) (base i : ℕ) (w m' w' : List ℕ) (fired : Bool) (next : ℕ) : Type 0 where
  pub fires : fired ≡ able_from m base least_size i
  pub memory : m' ≡ fired_from m base least_size i
  pub len : length w' ≡ 16
  pub first : FirstMark w' next
  pub later : fired ≡ false → i < next
  pub rests : (n : ℕ) → n ≤ 1024 → i < n → Filled u m (6 * n) → Resting m base least_size n w → Resting m' base least_size n w'

module _ (u m : List ℕ) (base i : ℕ) (w : List ℕ) (behind : links_at ≤ base) (fits : need_from base least_size ≤ length m) (len : length w ≡ 16) (wide : (b : ℕ) → get_or w b 0 < 2 ^ 64)
    (few : i < 1024) (first : FirstMark w i) (w' : List ℕ) (next : ℕ) (found : FirstMark w' next) where
  abbrev a : Marks
  a = marks_at w i

  pub stepped-fired : able_from m base least_size i ≡ true → (w1 : List ℕ) (a1 : Marks) → Woken u (fired_from m base least_size i) base least_size i w a w1 a1 → w' ≡ held w1 a1 →
      Stepped u m base i w (fired_from m base least_size i) w' true next
  stepped-fired able w1 a1 woken e = record {
    fires = sym able;
    memory = refl;
    len = ap length e ∙ length-set w1 a1.block a1.here ∙ woken.stands.len;
    first = found;
    later = λ f. absurd (false≢true (sym f));
    rests = λ n nb lt filled q. rw e (resting-fired u m base least_size n behind fits nb i lt filled able w a w1 a1 woken (rw (held_at w i) q));
  }

  pub stepped-idle : able_from m base least_size i ≡ false → (r : Marks) → Cleared a i r → w' ≡ held w r → Stepped u m base i w (fired_from m base least_size i) w' false next
  stepped-idle idle r cleared e = record {
    fires = sym idle;
    memory = refl;
    len = ap length e ∙ length-set w r.block r.here ∙ len;
    first = found;
    later = λ f. slept-later w i (omega arith) first next (rw same at found) few;
    rests = λ n nb lt filled q. rw (e, fired-idle m base least_size i idle) (resting-cleared m base least_size n w a stands i lowest r cleared idle (rw (held_at w i) q));
  }
    where
      stands : Stands w a
      stands = stands_at w i len wide few first

      lowest : Lowest a i
      lowest = lowest-here w i len wide few first

      same : w' ≡ slept w i
      same = e ∙ held-cleared w a stands i lowest r cleared ∙ ap (λ (x : List ℕ). slept x i) (held_at w i)
