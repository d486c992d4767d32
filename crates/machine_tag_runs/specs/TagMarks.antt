-- The marks of a run with tags: sixteen words for each of sixteen tags, and for each tag its first pair with a mark. An operator without a mark under a tag is not able under it
-- (machine_runs/specs/Marks, a plane); the least of the first pairs is as far as a scan of all pairs would have come. Assumes that the memory has its planes.
use Rattle.std.specs.Prelude.{ℕ, zero, suc, ◌+◌, ◌-◌, ◌*◌, ◌/◌, ◌%◌, ◌≤◌, ◌<◌, ◌≡◌, refl, ◌≢◌, Bool, true, false, List, [], ◌∷◌, length, get_or, set}
use Rattle.std.proofs.Common.{sym, ap, ◌∙◌, arith, length-set, get_or-set_same, get_or-set_other}
use Rattle.std.proofs.Math.Decide.{ℕ_discrete, dec_lt}
use Rattle.machine_layout.specs.Layout.{least_size, part, put}
use Rattle.machine_firing.specs.Parts.{length-put, part-put-same, part-put-below, part-put-above}
use Rattle.machine_marks.specs.Users.{Filled}
use Rattle.machine_planes.specs.Planes.{most_tags, plane_at, tagged_need}
use Rattle.machine_planes.proofs.PlaneOthers.{fired-length}
use Rattle.machine_runs.specs.Run.{ran}
use Rattle.machine_runs.specs.RunLaws.{fired-idle}
use Rattle.machine_runs.specs.Marks.{Resting, filled-fired}
use Rattle.machine_tags.specs.TagRun.{fired_under, tag_runs}
use Rattle.machine_tag_runs.specs.TagRunLaws.{QuietBelow, Going, going_start, going-fire, going_end}
use Rattle.machine_tag_runs.specs.PlainFirings.{PlainBelow, other-able, plain-fired}
use Rattle.machine_tag_marks.specs.FirstMarks.{FirstMark, Stepped}

-- a tag's words
abbrev pub words_of : List ℕ → ℕ → List ℕ
words_of w t = part w (16 * t) 16

-- ---- the tables

pub record Marked (m : List ℕ) (n : ℕ) (w f : List ℕ) (t : ℕ) : Type 0 where
  pub pair : get_or f t 0 % 16 ≡ t
  pub first : FirstMark (words_of w t) (get_or f t 0 / 16)
  pub rest : Resting m (plane_at t) least_size n (words_of w t)

-- what the run's loop keeps of users u, memory, words w and first pairs f
pub record Tables (u m : List ℕ) (n : ℕ) (w f : List ℕ) : Type 0 where
  pub words : length w ≡ 256
  pub firsts : length f ≡ 16
  pub marked : (t : ℕ) → t < most_tags → Marked m n w f t
  pub filled : Filled u m (6 * n)
  pub plain : PlainBelow m n

-- ---- a tag's words and first pair put back

module _ (w f : List ℕ) (words : length w ≡ 256) (firsts : length f ≡ 16) (t : ℕ) (tag : t < most_tags) (own : List ℕ) (len : length own ≡ 16) (next : ℕ) where
  abbrev pub wordsWith : List ℕ
  wordsWith = put w (16 * t) 16 own

  abbrev pub firstsWith : List ℕ
  firstsWith = set f t (16 * next + t)

  pub words-length : length wordsWith ≡ 256
  words-length = length-put w (16 * t) 16 own (omega arith) len ∙ words

  pub firsts-length : length firstsWith ≡ 16
  firsts-length = length-set f t (16 * next + t) ∙ firsts

  own-words : words_of wordsWith t ≡ own
  own-words = part-put-same w (16 * t) 16 own (omega arith) len

  other-words : (o : ℕ) → o ≢ t → words_of wordsWith o ≡ words_of w o
  other-words o ne = go (dec_lt o t)
    where
      go : Dec (o < t) → words_of wordsWith o ≡ words_of w o
      go (yes h) = part-put-below w (16 * t) 16 own (omega arith) len (16 * o) 16 (omega arith)
      go (no h) = part-put-above w (16 * t) 16 own (omega arith) len (16 * o) 16 (omega arith)

  pub own-marked : (m : List ℕ) (n : ℕ) → FirstMark own next → Resting m (plane_at t) least_size n own → Marked m n wordsWith firstsWith t
  own-marked m n first rest =
      let p = get_or-set_same f t (16 * next + t) 0 (omega arith) in
      let d : get_or firstsWith t 0 / 16 ≡ next = omega arith in
      record { pair = omega arith; first = rw (own-words, d) first; rest = rw own-words rest }

  pub other-marked : (m m' : List ℕ) (n o : ℕ) → o ≢ t → (Resting m (plane_at o) least_size n (words_of w o) → Resting m' (plane_at o) least_size n (words_of w o)) → Marked m n w f o →
      Marked m' n wordsWith firstsWith o
  other-marked m m' n o ne rests g =
      let p = get_or-set_other f t o (16 * next + t) 0 ne in
      record { pair = rw p g.pair; first = rw (other-words o ne, p) g.first; rest = rw (other-words o ne) (rests g.rest) }

  -- the tags up to t
  pub marked_more : (m : List ℕ) (n : ℕ) → ((o : ℕ) → o < t → Marked m n w f o) → FirstMark own next → Resting m (plane_at t) least_size n own →
      (o : ℕ) → o < t + 1 → Marked m n wordsWith firstsWith o
  marked_more m n before first rest o h = go (ℕ_discrete o t)
    where
      go : Dec (o ≡ t) → Marked m n wordsWith firstsWith o
      go (yes e) = rw e (own-marked m n first rest)
      go (no ne) = other-marked m m n o ne (λ q. q) (before o (omega arith))

-- ---- the least first pair

-- v is the least of the first k numbers of f
pub record LeastOf (f : List ℕ) (k v : ℕ) : Type 0 where
  pub at : ℕ
  pub inside : at < k
  pub is : v ≡ get_or f at 0
  pub least : (t : ℕ) → t < k → v ≤ get_or f t 0

abbrev pub LeastPair : List ℕ → ℕ → Type 0
LeastPair f v = LeastOf f most_tags v

pub least-one : (f : List ℕ) → LeastOf f 1 (get_or f 0 0)
least-one f = record { at = 0; inside = omega arith; is = refl; least = λ t h. (let e : t ≡ 0 = omega arith in rw e (omega arith)) }

module _ (f : List ℕ) (k v : ℕ) (l : LeastOf f k v) where
  more : (x : ℕ) → x ≤ v → x ≤ get_or f k 0 → (t : ℕ) → t < k + 1 → x ≤ get_or f t 0
  more x xv xk t h = go (ℕ_discrete t k)
    where
      go : Dec (t ≡ k) → x ≤ get_or f t 0
      go (yes e) = rw e xk
      go (no n) = omega (arith, l.least t (omega arith))

  pub least-new : get_or f k 0 < v → LeastOf f (k + 1) (get_or f k 0)
  least-new h = record { at = k; inside = omega arith; is = refl; least = more (get_or f k 0) (omega arith) (omega arith) }

  pub least_kept : v ≤ get_or f k 0 → LeastOf f (k + 1) v
  least_kept h = record { at = l.at; inside = omega (arith, l.inside); is = l.is; least = more v (omega arith) h }

module _ (u m : List ℕ) (n : ℕ) (w f : List ℕ) (tables : Tables u m n w f) (v : ℕ) (l : LeastPair f v) where
  pub pair-first : v ≡ get_or f (v % 16) 0
  pair-first =
      let e : v % 16 ≡ l.at = ap (λ (x : ℕ). x % 16) l.is ∙ (tables.marked l.at l.inside).pair in
      rw e l.is

  -- no pair below it is able
  pub quiet-least : (k : ℕ) → k ≤ v → k ≤ 16 * n → QuietBelow m k
  quiet-least k kv kn i t tag h =
      let g = tables.marked t tag in
      g.rest i (omega arith) (g.first.none i (omega (arith, l.least t tag, g.pair)))

-- ---- a step of the pair v

-- what it tells and leaves: a step of its tag's plane, with the tag's words and first pair put back
pub record PairStep (u m : List ℕ) (v : ℕ) (w f m' w' f' : List ℕ) (fired : Bool) : Type 0 where
  pub next : ℕ
  pub own : List ℕ
  pub stepped : Stepped u m (plane_at (v % 16)) (v / 16) (words_of w (v % 16)) m' own fired next
  pub words : w' ≡ put w (16 * (v % 16)) 16 own
  pub firsts : f' ≡ set f (v % 16) (16 * next + v % 16)
  pub bytes : (j : ℕ) → get_or m j 0 < 256

module _ (u m : List ℕ) (n : ℕ) (w f : List ℕ) (tables : Tables u m n w f) (long : tagged_need ≤ length m) (nb : n ≤ 1024) (v : ℕ) (few : v / 16 < n)
    (m' w' f' : List ℕ) (fired : Bool) (s : PairStep u m v w f m' w' f' fired) where
  abbrev mine : ℕ
  mine = v % 16

  memory : m' ≡ fired_under m (v / 16) mine
  memory = s.stepped.memory

  all-marked : (o : ℕ) → o < most_tags → Dec (o ≡ mine) →
      Marked m' n (wordsWith w f tables.words tables.firsts mine (omega arith) s.own s.stepped.len s.next)
      (firstsWith w f tables.words tables.firsts mine (omega arith) s.own s.stepped.len s.next) o
  all-marked o tag (yes e) =
      rw e
      (own-marked w f tables.words tables.firsts mine (omega arith) s.own s.stepped.len s.next m' n s.stepped.first
      (s.stepped.rests n nb few tables.filled (tables.marked mine (omega arith)).rest))
  all-marked o tag (no ne) =
      other-marked w f tables.words tables.firsts mine (omega arith) s.own s.stepped.len s.next m m' n o ne
      (rw memory (λ q j h z. other-able m mine long (omega arith) s.bytes (v / 16) (omega arith) (tables.plain (v / 16) few) o tag ne j (omega arith) ∙ q j h z))
      (tables.marked o tag)

  -- THE TABLES HOLD after the step.
  pub tables-stepped : Tables u m' n w' f'
  tables-stepped = record {
    words = ap length s.words ∙ words-length w f tables.words tables.firsts mine (omega arith) s.own s.stepped.len s.next;
    firsts = ap length s.firsts ∙ firsts-length w f tables.words tables.firsts mine (omega arith) s.own s.stepped.len s.next;
    marked = λ o tag. rw (s.words, s.firsts) (all-marked o tag (ℕ_discrete o mine));
    filled = rw memory (filled-fired u m (plane_at mine) least_size n (omega arith) (omega arith) nb (v / 16) few tables.filled);
    plain = λ j h. rw memory (plain-fired m mine long (omega arith) s.bytes (v / 16) (omega arith) (tables.plain (v / 16) few) j (omega arith) (tables.plain j h));
  }

-- ---- what is left to try before the next firing

unfoldable pub spare : List ℕ → ℕ
spare [] = 0
spare (x ∷ f) = (16400 - x) + spare f

pub spare-most : (f : List ℕ) → spare f ≤ 16400 * length f
unfolding spare
spare-most [] = omega arith
spare-most (x ∷ f) = omega (arith, spare-most f)

spare-set : (f : List ℕ) (t v : ℕ) → t < length f → get_or f t 0 < v → get_or f t 0 < 16400 → spare (set f t v) < spare f
unfolding spare
spare-set [] t v h a b = absurd (omega arith)
spare-set (x ∷ f) zero v h a b = omega arith
spare-set (x ∷ f) (suc t) v h a b = omega (arith, spare-set f t v (omega arith) a b)

-- ---- the run

pub record Fast (u m₀ : List ℕ) (n b : ℕ) (m w f : List ℕ) (c : ℕ) : Type 0 where
  pub going : Going m₀ n b m c
  pub tables : Tables u m n w f

pub fast-start : (u m₀ : List ℕ) (n b : ℕ) (w f : List ℕ) → Tables u m₀ n w f → Fast u m₀ n b m₀ w f 0
fast-start u m₀ n b w f tables = record { going = going_start m₀ n b; tables = tables }

module _ (u m₀ : List ℕ) (n b : ℕ) (m w f : List ℕ) (c : ℕ) (fast : Fast u m₀ n b m w f c) where
  module _ (v : ℕ) (l : LeastPair f v) where
    -- nothing has a mark below n
    pub fast-end : n ≤ v / 16 → ran m c ≡ tag_runs n b m₀ 0
    fast-end h = going_end m₀ n b m c fast.going (quiet-least u m n w f fast.tables v l (16 * n) (omega arith) (omega arith))

    -- the pair's operator is its tag's first with a mark
    pub first-pair : v / 16 < 1024 → FirstMark (words_of w (v % 16)) (v / 16)
    first-pair h = (rw (sym (pair-first u m n w f fast.tables v l)) at (fast.tables.marked (v % 16) (omega arith)).first)

    module _ (long : tagged_need ≤ length m) (nb : n ≤ 1024) (few : v / 16 < n) (m' w' f' : List ℕ) (fired : Bool) (s : PairStep u m v w f m' w' f' fired) where
      pub fast-fired : c < b → fired ≡ true → Fast u m₀ n b m' w' f' (c + 1)
      fast-fired lt yes! = record {
        going =
            rw s.stepped.memory
            (going-fire m₀ n b m c fast.going (v / 16) (v % 16) lt few (omega arith) (quiet-least u m n w f fast.tables v l (16 * (v / 16) + v % 16) (omega arith) (omega arith))
            (sym s.stepped.fires ∙ yes!) (fired-length m (plane_at (v % 16)) least_size (omega arith) (v / 16)));
        tables = tables-stepped u m n w f fast.tables long nb v few m' w' f' fired s;
      }

      pub fast-idle : fired ≡ false → Fast u m₀ n b m' w' f' c
      fast-idle no! = record {
        going = rw (s.stepped.memory ∙ fired-idle m (plane_at (v % 16)) least_size (v / 16) (sym s.stepped.fires ∙ no!)) fast.going;
        tables = tables-stepped u m n w f fast.tables long nb v few m' w' f' fired s;
      }

      pub fewer-left : fired ≡ false → spare f' < spare f
      fewer-left no! =
          let e = pair-first u m n w f fast.tables v l in
          let k = s.stepped.later no! in
          rw s.firsts (spare-set f (v % 16) (16 * s.next + v % 16) (omega (arith, fast.tables.firsts)) (omega arith) (omega arith))
