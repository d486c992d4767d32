-- What the start of the machine with tags gives in each of its cases, how its loops go, and that it goes by the start of a machine at capacity 1 where the sheet has no for.
-- Assumes nothing.
use Rattle.std.specs.Prelude.{ℕ, suc, ◌+◌, ◌-◌, ◌*◌, ◌≤◌, ◌<◌, ◌≡◌, Bool, List, ltb, length, get_or, set, take, Ok, Err}
use Rattle.std.proofs.Math.Path.{refl, sym}
use Rattle.std.proofs.Common.{ap, ap₂, ◌∙◌, arith, get_or-take, get_or-append-add, length-take-le, lt-ltb, le-ltb, ltb-true, ltb-false}
use Rattle.std.proofs.Math.Bool.{true, false}
use Rattle.formula.specs.declared.Refusal.{Refusal}
use Rattle.formula.specs.declared.Refusal.TheVariants.{Memory, Loop}
use Rattle.formula.specs.Results.{Verdict, refused}
use Rattle.formula.proofs.Refusals.{number-positive}
use Rattle.formula.specs.Sheet.{row_count, lines_of, field_of, number_in, fields_of, field}
use Rattle.formula.specs.SheetLaws.{line_fields, text_at}
use Rattle.formula.proofs.SheetLaws.{fields-length, fields-more, line-fields-at}
use Rattle.formula.specs.Tree.{formula_of}
use Rattle.formula.specs.Tests.{line_at, verdict_of}
use Rattle.formula.specs.Faults.{letters_of}
use Rattle.formula.specs.Acceptance.{Admissible, Kinded}
use Rattle.formula.proofs.Acceptance.{passed-admissible, passed-kinded}
use Rattle.machine_layout.specs.Layout.{capacity_at, most_links, least_size, links_of, size_of}
use Rattle.graph.specs.Translation.{made_of}
use Rattle.maker_laid.specs.Encode.{encoded, written, length-written}
use Rattle.theory_verdicts.proofs.Verdicts.{accepted-graph}
use Rattle.machine_start.specs.Start.{Begun, begun, refusal, accepted, headed, cleared_from, emptied, started_memory, by_verdict, started}
use Rattle.machine_start.specs.StartLaws.{AcceptedStart, accepted-start, capacity-in, started-read, verdict-refused, verdict-passed}
use Rattle.machine_start.specs.ReadBack.{number-kept, emptied-kept}
use Rattle.machine_start.specs.HeaderLaws.{headed-links}
use Rattle.machine_planes.specs.Planes.{most_tags, plane_at, tags_at, tagged_need}
use Rattle.machine_tags.specs.TagValid.{tag_mark}
use Rattle.machine_tag_start.specs.TagStart.{has_for, emptied_tags, tag_started_memory, loop_answer, tag_by_verdict, tag_started}

-- ---- the kind of a row as it is written

pub kind-written : (s : List ℕ) (i : ℕ) → i < row_count s → field (fields_of s) (i + 1) 0 ≡ number_in (field_of (text_at s (31 * i)))
kind-written s i h =
    let n = fields-length s in
    let l : length (take (5 * i) (fields_of s)) ≡ 5 * i = length-take-le (5 * i) (fields_of s) (omega arith) in
    let e : 5 * (i + 1 - 1) + 0 ≡ length (take (5 * i) (fields_of s)) + 0 = omega arith in
    sym (get_or-take (5 * (i + 1)) (fields_of s) (5 * (i + 1 - 1) + 0) 0 (omega arith))
    ∙ ap₂ (λ (x : List ℕ) (k : ℕ). get_or x k 0) (fields-more s i h) e
    ∙ get_or-append-add (take (5 * i) (fields_of s)) (line_fields (line_at (lines_of s) (i + 1))) 0 0
    ∙ ap (λ (x : List ℕ). get_or x 0 0) (line-fields-at s i h)

-- ---- the tags one by one

pub emptied-tags-none : (k : ℕ) (m : List ℕ) → emptied_tags 0 k m ≡ m
unfolding emptied_tags
emptied-tags-none k m = refl

pub emptied-tags-more : (t k : ℕ) (m : List ℕ) → set (cleared_from k (plane_at t) least_size (emptied_tags t k m)) (tags_at + t) 0 ≡ emptied_tags (t + 1) k m
unfolding emptied_tags
emptied-tags-more t k m = let e : t + 1 ≡ suc t = omega arith in rw e refl

-- ---- the outcomes of start

module _ (s line m : List ℕ) where
  -- 11
  pub tag-started-short : length m < tagged_need → tag_started s line m ≡ begun (refusal Memory 0) m
  unfolding tag_started
  tag-started-short h = rw (lt-ltb (length m) tagged_need h) refl

  module _ (long : tagged_need ≤ length m) where
    started-by : (v : Verdict) → verdict_of s line ≡ v → (b : Bool) → has_for s ≡ b → tag_started s line m ≡ tag_by_verdict v b (formula_of s) (letters_of (formula_of s) line) m
    unfolding tag_started
    started-by v e b f = rw (le-ltb (length m) tagged_need long, e, f) refl

    -- the sheet's, with a for or without
    pub tag-started-refused : (r : Refusal) (row : ℕ) → verdict_of s line ≡ refused r row → tag_started s line m ≡ begun (refusal r row) m
    unfolding tag_by_verdict
    tag-started-refused r row e = started-by (refused r row) e (has_for s) refl

    -- 19
    pub tag-started-loop : verdict_of s line ≡ Ok tt → has_for s ≡ true → tag_started s line m ≡ begun (refusal Loop 0) m
    unfolding tag_by_verdict
    tag-started-loop e h = started-by (Ok tt) e true h

    pub tag-started-with-for : has_for s ≡ true → tag_started s line m ≡ begun (loop_answer (verdict_of s line)) m
    tag-started-with-for h = go (verdict_of s line) refl
      where
        go : (v : Verdict) → verdict_of s line ≡ v → tag_started s line m ≡ begun (loop_answer v) m
        go (Ok _) e = tag-started-loop e h
        go (Err why) e = tag-started-refused why.refusal why.row e

    pub tag-started-accepted : verdict_of s line ≡ Ok tt → has_for s ≡ false
        → tag_started s line m ≡ begun (accepted (made_of (formula_of s))) (tag_started_memory (made_of (formula_of s)) (letters_of (formula_of s) line) m)
    unfolding tag_by_verdict
    tag-started-accepted e h = started-by (Ok tt) e false h

-- ---- an accepted start

pub record AcceptedTagStart (s line m : List ℕ) : Type 0 where
  pub long : tagged_need ≤ length m
  pub passed : verdict_of s line ≡ Ok tt
  pub admissible : Admissible s
  pub kinded : Kinded s line
  pub loopless-rows : has_for s ≡ false
  pub whole : tag_started s line m ≡ begun (accepted (made_of (formula_of s))) (tag_started_memory (made_of (formula_of s)) (letters_of (formula_of s) line) m)

-- "19 when the sheet has a for, after 10": an answer without a refusal is one of an accepted sheet without a for and enough memory.
pub accepted-tag-start : (s line m : List ℕ) → (tag_started s line m).answer.refusal ≡ 0 → AcceptedTagStart s line m
accepted-tag-start s line m e = go (ltb (length m) tagged_need) refl (verdict_of s line) refl (has_for s) refl
  where
    refuses : (b : Begun) → tag_started s line m ≡ b → b.answer.refusal ≡ 0
    refuses b p = ap (λ (x : Begun). x.answer.refusal) (sym p) ∙ e

    go : (a : Bool) → ltb (length m) tagged_need ≡ a → (v : Verdict) → verdict_of s line ≡ v → (f : Bool) → has_for s ≡ f → AcceptedTagStart s line m
    go true p v q f r = absurd (omega (arith, refuses _ (tag-started-short s line m (ltb-true (length m) tagged_need p))))
    go false p (Err why) q f r = absurd (omega (arith, number-positive why.refusal, refuses _ (tag-started-refused s line m (ltb-false (length m) tagged_need p) why.refusal why.row q)))
    go false p (Ok _) q true r = absurd (omega (arith, refuses _ (tag-started-loop s line m (ltb-false (length m) tagged_need p) q r)))
    go false p (Ok _) q false r =
        let long = ltb-false (length m) tagged_need p in
        record {
          long = long;
          passed = q;
          admissible = passed-admissible s line q;
          kinded = passed-kinded s line q;
          loopless-rows = r;
          whole = tag-started-accepted s line m long q r;
        }

-- ---- by way of a machine at capacity 1

-- The links that a started machine tells.
pub started-links : (s line : List ℕ) (c : ℕ) (m : List ℕ) → AcceptedStart s line c m → links_of (started s line c m).mem ≡ (made_of (formula_of s)).links
unfolding started_memory
started-links s line c m A =
    let g = made_of (formula_of s) in
    let kinds = letters_of (formula_of s) line in
    let operated = written m 0 (encoded g.operators) in
    let header = headed g kinds c operated in
    ap (λ (b : Begun). links_of b.mem) A.whole
    ∙ number-kept header (emptied g.links (size_of c) header) 3 (emptied-kept g.links (size_of c) header 3 (omega arith)) (emptied-kept g.links (size_of c) header 4 (omega arith))
    ∙ headed-links g kinds c operated (omega (arith, length-written (encoded g.operators) m 0, A.long))

pub started-few-links : (s line : List ℕ) (c : ℕ) (m : List ℕ) → (started s line c m).answer.refusal ≡ 0 → links_of (started s line c m).mem ≤ most_links
started-few-links s line c m e =
    let A = accepted-start s line c m e in
    omega (arith, started-links s line c m A, (accepted-graph s A.admissible).1)

module _ (s line m : List ℕ) (long : tagged_need ≤ length m) (loopless : has_for s ≡ false) where
  one-read : started s line 1 m ≡ by_verdict (verdict_of s line) (formula_of s) (letters_of (formula_of s) line) 1 m
  one-read = started-read s line 1 m (omega (arith, capacity-in 1 (omega arith) (omega arith))) (omega arith) (omega arith)

  -- a refusal is the other machine's
  pub tag-started-as : ((started s line 1 m).answer.refusal ≡ 0 → ⊥) → tag_started s line m ≡ started s line 1 m
  tag-started-as n = go (verdict_of s line) refl
    where
      go : (v : Verdict) → verdict_of s line ≡ v → tag_started s line m ≡ started s line 1 m
      go (Err why) p = tag-started-refused s line m long why.refusal why.row p ∙ sym (one-read ∙ verdict-refused (verdict_of s line) (formula_of s) (letters_of (formula_of s) line) 1 m why.refusal why.row p)
      go (Ok _) p =
          absurd (n (ap (λ (b : Begun). b.answer.refusal) (one-read ∙ verdict-passed (verdict_of s line) (formula_of s) (letters_of (formula_of s) line) 1 m p)))

  -- an acceptance too, with tags
  pub tag-started-on : (started s line 1 m).answer.refusal ≡ 0
      → tag_started s line m ≡ begun (started s line 1 m).answer (emptied_tags most_tags (links_of (started s line 1 m).mem) (set (started s line 1 m).mem capacity_at tag_mark))
  unfolding tag_started_memory
  tag-started-on e =
      let A = accepted-start s line 1 m e in
      let x = started-links s line 1 m A in
      tag-started-accepted s line m long A.passed loopless
      ∙ sym (ap₂ (λ (b : Begun) (k : ℕ). begun b.answer (emptied_tags most_tags k (set b.mem capacity_at tag_mark))) A.whole x)
