-- What a memory in good standing is and how many kinds it stores, what push and take leave as it was below the links, and that a push keeps the memory's length. Assumes nothing.
use Prim.Native.Nat.{ℕ, zero, suc, ◌+◌, ◌*◌, ◌≤◌, ◌<◌}
use Rattle.std.specs.Prelude.{◌≡◌, Bool, true, false, ◌&&◌, List, ◌≢◌, ltb, eqb, get_or}
use Rattle.std.proofs.Math.Path.{refl}
use Rattle.std.proofs.Common.{sym, ap, subst, ◌∙◌, arith, add-one}
use Rattle.std.proofs.Math.Decide.{ℕ_discrete}
use borrow.Author.Tests.{ltb-true, ltb-false, ne_eqb, le-ltb, lt-ltb}
use Rattle.std.proofs.Math.ListN.{length, length-set}
use Rattle.value.specs.Operators.{pick}
use Rattle.value.specs.Bytes.{word_of, word_at}
use Rattle.network.specs.Values.{true-value}
use Rattle.machine_layout.specs.Layout.{links_at, number16, name_at, need, need_from, untaken_at, input_kinds_at, operators_of, inputs_of, results_of, untaken_of, trigger_of, input_link, result_link, stored_kinds}
use Rattle.machine_firing.specs.Parts.{part_length}
use Rattle.machine_firing.specs.Links.{removed_from, appended_from}
use Rattle.machine_firing.specs.LinkLaws.{length_removed, low-removed, length-appended, low-appended}
use Rattle.machine_firing.specs.Fire.{able_at, fired_at}
use Rattle.machine_valid.specs.Below.{all_below}
use Rattle.machine_valid.specs.Valid.{valid}
use Rattle.machine_valid.specs.Figures.{valid-figures}
use Rattle.machine_runs.specs.Run as Run
use Rattle.machine_runs.specs.Run.{runs, still_at}
use Rattle.machine_runs.specs.RunLaws.{runs-below}
use Rattle.formula.specs.declared.Refusal.TheVariants.{Memory, Set, Untaken, Full, NotAble, NoResult, Unfinished}
use Rattle.formula.specs.Refusals.{number_of}
use Rattle.value.specs.Bytes.{stored}
use Rattle.machine_calls.specs.Calls.{Outcome, Handed, outcome, handed, answers, refusal, size_in, standing, rooms_ok, entered_from, entered, triggered_from, triggered, pushed_memory, pushed, fired, ended, ran, result_ready, emptied_from, written_from, written, result_word_from, taken_memory, taken}
use Rattle.value_sets.specs.Sets.{set_ok}

pub standing-good : (m : List ℕ) → standing m ≡ 0 → (need (size_in m) ≤ length m) × (valid m ≡ true)
unfolding standing
standing-good m e = go (ltb (length m) (need (size_in m))) refl (valid m) refl e
  where
    go : (a : Bool) → ltb (length m) (need (size_in m)) ≡ a → (b : Bool) → valid m ≡ b → ◌≡◌ {A = ℕ} (pick a 11 (pick b 0 31)) 0 →
        (need (size_in m) ≤ length m) × (valid m ≡ true)
    go true p b q h = absurd (omega arith)
    go false p true q h = (ltb-false (length m) (need (size_in m)) p, q)
    go false p false q h = absurd (omega arith)

-- as many stored kinds as inputs
pub kinds-length : (m : List ℕ) → standing m ≡ 0 → length (stored_kinds m) ≡ inputs_of m
kinds-length m st =
    let g = standing-good m st in
    part_length m input_kinds_at (inputs_of m) (omega (arith, g.0, (valid-figures m g.1).inputs))

-- names stand below the links
pub same_names : (m m' : List ℕ) → ((x : ℕ) → x < 21760 → get_or m' x 0 ≡ get_or m x 0) → (at j : ℕ) → at + 2 * j + 1 < 21760 → name_at m' at j ≡ name_at m at j
unfolding name_at number16
same_names m m' h at j k = rw (h (at + 2 * j) (omega arith), h (at + 2 * j + 1) k) refl

-- what a change of links keeps
pub record Kept (m m' : List ℕ) : Type 0 where
  pub size : length m' ≡ length m
  pub low : (x : ℕ) → x < 21760 → get_or m' x 0 ≡ get_or m x 0

module _ (m : List ℕ) (base size : ℕ) (behind : links_at ≤ base) (h : need_from base size ≤ length m) where
  pub entered-keeps : (s : List ℕ) (j : ℕ) → Kept m (entered_from j m base size s)
  unfolding entered_from
  entered-keeps s zero = record { size = refl; low = λ x k. refl }
  entered-keeps s (suc j) =
      let p = entered-keeps s j in
      let z : need_from base size ≤ length (entered_from j m base size s) = omega (arith, p.size) in
      record {
        size = length-appended (entered_from j m base size s) base size z (input_link m j) (word_at s (5 * j)) ∙ p.size;
        low = λ x k. low-appended (entered_from j m base size s) base size z (input_link m j) (word_at s (5 * j)) x (omega arith) ∙ p.low x k;
      }

  pub emptied-keeps : (j : ℕ) → Kept m (emptied_from j m base size)
  unfolding emptied_from
  emptied-keeps zero = record { size = refl; low = λ x k. refl }
  emptied-keeps (suc j) =
      let p = emptied-keeps j in
      let z : need_from base size ≤ length (emptied_from j m base size) = omega (arith, p.size) in
      record {
        size = length_removed (emptied_from j m base size) base size z (result_link m j) ∙ p.size;
        low = λ x k. low-removed (emptied_from j m base size) base size z (result_link m j) x (omega arith) ∙ p.low x k;
      }

-- one value more
pub entered-more : (m : List ℕ) (base size : ℕ) (s : List ℕ) (j : ℕ) → entered_from (j + 1) m base size s ≡ appended_from (entered_from j m base size s) base size (input_link m j) (word_at s (5 * j))
unfolding entered_from
entered-more m base size s j = rw (add-one j) refl

pub emptied-more : (m : List ℕ) (base size j : ℕ) → emptied_from (j + 1) m base size ≡ removed_from (emptied_from j m base size) base size (result_link m j)
unfolding emptied_from
emptied-more m base size j = rw (add-one j) refl

pub written-more : (m : List ℕ) (base size k : ℕ) (o : List ℕ) (j : ℕ) → written_from (j + 1) m base size k o ≡ stored (written_from j m base size k o) (5 * j) (result_word_from m base size k j)
unfolding written_from
written-more m base size k o j = rw (add-one j) refl

pub written_none : (m : List ℕ) (base size k : ℕ) (o : List ℕ) → o ≡ written_from 0 m base size k o
unfolding written_from
written_none m base size k o = refl

pub emptied-none : (m : List ℕ) (base size : ℕ) → m ≡ emptied_from 0 m base size
unfolding emptied_from
emptied-none m base size = refl

pub entered-none : (m : List ℕ) (base size : ℕ) (s : List ℕ) → m ≡ entered_from 0 m base size s
unfolding entered_from
entered-none m base size s = refl

-- ---- each call by the tests that it meets, in their order

module _ (m : List ℕ) where
  pub pushed-refused : (s : List ℕ) → standing m ≢ 0 → pushed m s ≡ outcome (answers (standing m) 0) m
  unfolding pushed
  pushed-refused s n = simp (ne_eqb (standing m) 0 n)

  pub fired-refused : (i : ℕ) → standing m ≢ 0 → fired m i ≡ outcome (answers (standing m) 0) m
  unfolding fired
  fired-refused i n = simp (ne_eqb (standing m) 0 n)

  pub ran-refused : (b : ℕ) → standing m ≢ 0 → ran m b ≡ outcome (answers (standing m) 0) m
  unfolding ran
  ran-refused b n = simp (ne_eqb (standing m) 0 n)

  pub taken-short : (o : List ℕ) → length o < 80 → taken m o ≡ handed (refusal Memory) m o
  unfolding taken
  taken-short o l = simp (lt-ltb (length o) 80 l)

  pub taken_refused : (o : List ℕ) → 80 ≤ length o → standing m ≢ 0 → taken m o ≡ handed (answers (standing m) 0) m o
  unfolding taken
  taken_refused o l n = simp (le-ltb (length o) 80 l, ne_eqb (standing m) 0 n)

  module _ (st : standing m ≡ 0) where
    module _ (s : List ℕ) where
      pub pushed-no-set : set_ok (stored_kinds m) s ≡ false → pushed m s ≡ outcome (refusal Set) m
      unfolding pushed
      pushed-no-set a = rw (st, a) refl

      module _ (a : set_ok (stored_kinds m) s ≡ true) where
        pub pushed-untaken : ltb (untaken_of m) 16 ≡ false → pushed m s ≡ outcome (refusal Untaken) m
        unfolding pushed
        pushed-untaken b = rw (st, a, b) refl

        pub pushed-full : ltb (untaken_of m) 16 ≡ true → rooms_ok m (size_in m) (inputs_of m) ≡ false → pushed m s ≡ outcome (refusal Full) m
        unfolding pushed
        pushed-full b c = rw (st, a, b, c) refl

        pub pushed-accepted : ltb (untaken_of m) 16 ≡ true → rooms_ok m (size_in m) (inputs_of m) ≡ true → pushed m s ≡ outcome (answers 0 0) (pushed_memory m s)
        unfolding pushed
        pushed-accepted b c = rw (st, a, b, c) refl

    module _ (i : ℕ) where
      pub fired-absent : ltb i (operators_of m) ≡ false → fired m i ≡ outcome (refusal NotAble) m
      unfolding fired
      fired-absent a = rw (st, a) refl

      pub fired-idle : ltb i (operators_of m) ≡ true → able_at m (size_in m) i ≡ false → fired m i ≡ outcome (refusal NotAble) m
      unfolding fired
      fired-idle a b = rw (st, a, b) refl

      pub fired-accepted : ltb i (operators_of m) ≡ true → able_at m (size_in m) i ≡ true → fired m i ≡ outcome (answers 0 0) (fired_at m (size_in m) i)
      unfolding fired
      fired-accepted a b = rw (st, a, b) refl

    pub ran-ended : (b : ℕ) → ran m b ≡ ended (runs (size_in m) (operators_of m) b m 0) (size_in m) (operators_of m)
    unfolding ran
    ran-ended b = rw st refl

    module _ (o : List ℕ) (l : 80 ≤ length o) where
      pub taken_none : ltb 0 (untaken_of m) ≡ false → taken m o ≡ handed (refusal NoResult) m o
      unfolding taken
      taken_none a = rw (le-ltb (length o) 80 l, st, a) refl

      pub taken-empty : ltb 0 (untaken_of m) ≡ true → all_below (results_of m) (result_ready m (size_in m)) ≡ false → taken m o ≡ handed (refusal NoResult) m o
      unfolding taken
      taken-empty a b = rw (le-ltb (length o) 80 l, st, a, b) refl

      pub taken-accepted : ltb 0 (untaken_of m) ≡ true → all_below (results_of m) (result_ready m (size_in m)) ≡ true →
          taken m o ≡ handed (answers 0 (results_of m)) (taken_memory m) (written 16 m (size_in m) (results_of m) o)
      unfolding taken
      taken-accepted a b = rw (le-ltb (length o) 80 l, st, a, b) refl

    -- a run's answer by what it left
    module _ (b c : ℕ) (m' : List ℕ) (e : Run.ran m' c ≡ runs (size_in m) (operators_of m) b m 0) where
      pub ran-still : still_at m' (size_in m) (operators_of m) ≡ true → ran m b ≡ outcome (answers 0 c) m'
      unfolding ended
      ran-still t = ran-ended b ∙ rw (← e, t) refl

      pub ran-unfinished : still_at m' (size_in m) (operators_of m) ≡ false → ran m b ≡ outcome (answers (number_of Unfinished) c) m'
      unfolding ended
      ran-unfinished t = ran-ended b ∙ rw (← e, t) refl

      -- fewer firings than lent: nothing can fire
      pub ran-early : c < b → ran m b ≡ outcome (answers 0 c) m'
      ran-early h = ran-still (rw (← e) at (runs-below links_at (size_in m) (operators_of m) b m 0 (rw (← e) (omega arith))))

-- ---- every push, accepted or not, keeps the memory's length and counts none

module _ (m s : List ℕ) where
  abbrev Plain : Outcome → Type 0
  Plain o = (length o.mem ≡ length m) × (o.answer.count ≡ 0)

  plain-accepted : need (size_in m) ≤ length m → Plain (outcome (answers 0 0) (pushed_memory m s))
  unfolding pushed_memory triggered_from
  plain-accepted h =
      let k = (entered-keeps m links_at (size_in m) (omega arith) h s (inputs_of m)).size in
      let z : need (size_in m) ≤ length (entered (inputs_of m) m (size_in m) s) = omega (arith, k) in (
        length-set (triggered m s) untaken_at (untaken_of m + 1)
            ∙ length-appended (entered (inputs_of m) m (size_in m) s) links_at (size_in m) z (trigger_of m) (word_of true-value) ∙ k,
        refl,
      )

  plain-refused : (r : ℕ) → pushed m s ≡ outcome (answers r 0) m → Plain (pushed m s)
  plain-refused r e = subst Plain (sym e) (refl, refl)

  plain-tested : standing m ≡ 0 → (a : Bool) → set_ok (stored_kinds m) s ≡ a → (b : Bool) → ltb (untaken_of m) 16 ≡ b
      → (c : Bool) → rooms_ok m (size_in m) (inputs_of m) ≡ c → Plain (pushed m s)
  plain-tested st false e b f c g = plain-refused (number_of Set) (pushed-no-set m st s e)
  plain-tested st true e false f c g = plain-refused (number_of Untaken) (pushed-untaken m st s e f)
  plain-tested st true e true f false g = plain-refused (number_of Full) (pushed-full m st s e f g)
  plain-tested st true e true f true g = subst Plain (sym (pushed-accepted m st s e f g)) (plain-accepted (standing-good m st).0)

  plain : Plain (pushed m s)
  plain = go (ℕ_discrete (standing m) 0)
    where
      go : Dec (standing m ≡ 0) → Plain (pushed m s)
      go (yes st) = plain-tested st (set_ok (stored_kinds m) s) refl (ltb (untaken_of m) 16) refl (rooms_ok m (size_in m) (inputs_of m)) refl
      go (no n) = plain-refused (standing m) (pushed-refused m s n)

  pub pushed-length : length (pushed m s).mem ≡ length m
  pushed-length = plain.0

  pub pushed-count : (pushed m s).answer.count ≡ 0
  pushed-count = plain.1
