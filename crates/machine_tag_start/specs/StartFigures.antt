-- What an accepted start of the machine with tags leaves in the header and of each tag (document 02, Job 12): as many bytes as it was lent, the mark, and no set untaken
-- under any tag. Assumes an accepted start.
use Rattle.std.specs.Prelude.{ℕ, ◌≤◌, ◌<◌, ◌≡◌, ◌≢◌, List, length, get_or, set}
use Rattle.std.proofs.Common.{sym, ◌∙◌, arith, length-set, get_or-set_same, get_or-set_other}
use Rattle.std.proofs.Math.Path.{ap}
use Rattle.formula.specs.Tree.{formula_of}
use Rattle.formula.specs.Faults.{letters_of}
use Rattle.machine_layout.specs.Layout.{capacity_at, untaken_at, capacity_byte, untaken_of, least_size}
use Rattle.graph.specs.Translation.{made_of}
use Rattle.maker_laid.specs.Encode.{encoded, written, length-written}
use Rattle.theory_verdicts.proofs.Verdicts.{accepted-graph}
use Rattle.machine_start.specs.Start.{Begun, headed, started_memory, started}
use Rattle.machine_start.specs.StartLaws.{accepted-start, start-accepts}
use Rattle.machine_start.specs.ReadBack.{length-emptied}
use Rattle.machine_start.specs.HeaderLaws.{length-headed}
use Rattle.machine_start.specs.Untaken.{started-untaken}
use Rattle.machine_planes.specs.Planes.{most_tags, tags_at, untaken_under, tagged_need}
use Rattle.machine_tags.specs.TagValid.{tag_mark}
use Rattle.machine_tag_start.specs.TagStart.{emptied_tags, tag_started_memory, tag_started}
use Rattle.machine_tag_start.specs.TagStartLaws.{AcceptedTagStart}
use Rattle.machine_tag_start.specs.EmptiedTags.{length-emptied-tags, emptied-tags-missed, emptied-tags-byte}

pub record TagFigures (s line m : List ℕ) : Type 0 where
  pub size : length (tag_started s line m).mem ≡ length m
  pub mark : capacity_byte (tag_started s line m).mem ≡ tag_mark
  pub none-untaken : untaken_of (tag_started s line m).mem ≡ 0
  pub tags : (t : ℕ) → t < most_tags → untaken_under (tag_started s line m).mem t ≡ 0

module _ (s line m : List ℕ) (A : AcceptedTagStart s line m) where
  -- the first machine's start at capacity 1, and the same with the mark
  abbrev One : List ℕ
  One = started_memory (made_of (formula_of s)) (letters_of (formula_of s) line) 1 m

  abbrev Marked : List ℕ
  Marked = set One capacity_at tag_mark

  abbrev All : List ℕ
  All = emptied_tags most_tags (made_of (formula_of s)).links Marked

  accepts : (started s line 1 m).answer.refusal ≡ 0
  accepts = start-accepts s line 1 m A.passed (omega arith) (omega arith) (omega (arith, A.long))

  one : (started s line 1 m).mem ≡ One
  one = ap (λ (b : Begun). b.mem) (accepted-start s line 1 m accepts).whole

  all : (tag_started s line m).mem ≡ All
  unfolding tag_started_memory
  all = ap (λ (b : Begun). b.mem) A.whole

  length-one : length One ≡ length m
  unfolding started_memory
  length-one =
      let g = made_of (formula_of s) in
      let kinds = letters_of (formula_of s) line in
      let operated = written m 0 (encoded g.operators) in
      let w = length-written (encoded g.operators) m 0 in
      length-emptied g.links least_size (headed g kinds 1 operated) ∙ length-headed g kinds 1 operated (omega (arith, w, A.long)) ∙ w

  length_marked : length Marked ≡ length m
  length_marked = length-set One capacity_at tag_mark ∙ length-one

  -- a byte of the header but for the capacity
  header : (at : ℕ) → at < 10 → at ≢ capacity_at → get_or All at 0 ≡ get_or One at 0
  header at h n =
      emptied-tags-missed (made_of (formula_of s)).links Marked most_tags at (omega arith) (λ t l a b. omega arith)
      ∙ get_or-set_other One capacity_at at tag_mark 0 n

  pub tag-started-figures : TagFigures s line m
  tag-started-figures =
      let low = (accepted-graph s A.admissible).1 in
      record {
        size = ap length all ∙ length-emptied-tags (made_of (formula_of s)).links Marked most_tags ∙ length_marked;
        mark =
            ap capacity_byte all
            ∙ emptied-tags-missed (made_of (formula_of s)).links Marked most_tags capacity_at (omega arith) (λ t l a b. omega arith)
            ∙ get_or-set_same One capacity_at tag_mark 0 (omega (arith, length-one, A.long));
        none-untaken = ap untaken_of all ∙ header untaken_at (omega arith) (omega arith) ∙ sym (ap untaken_of one) ∙ started-untaken s line 1 m (accepted-start s line 1 m accepts);
        tags = λ t h. ap (λ (x : List ℕ). untaken_under x t) all ∙ emptied-tags-byte (made_of (formula_of s)).links Marked low (omega (arith, length_marked, A.long)) most_tags t (omega arith) h;
      }
