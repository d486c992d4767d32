-- Laws of specs/Changes.antt, and what only they need.
use Rattle.std.specs.Prelude.{ℕ, ◌+◌, ◌≤◌, ◌<◌, ◌≡◌, List, length, get_or}
use Rattle.std.proofs.Common.{arith}
use Rattle.machine_layout.specs.Layout.{operators_of, register_at}
use Rattle.machine_planes.specs.Planes.{most_tags, tagged_need}
use Rattle.machine_tags.specs.TagRun.{fired_under}
use Rattle.machine_tags.specs.TagCalls.{tag_standing, tag_pushed_memory, tag_taken_memory}
use Rattle.machine_tags.proofs.PlaneStanding.{tag-standing-good, tag-byte-small}
use Rattle.machine_tags.proofs.PlanePush.{beside-pushed-links, pushed-tag-length, pushed-tag-low, pushed-tag-byte, pushed-tag-others}
use Rattle.machine_tags.proofs.PlaneFire.{beside-fire, fired-tag-length, fired-tag-low, fired-tag-bytes}
use Rattle.machine_tags.proofs.PlaneTake.{beside-taken, taken-tag-length, taken-tag-low, taken-tag-byte, taken-tag-others}
use Rattle.machine_tags.specs.Changes.{Changed}

-- ---- the calls
module _ (m : List ℕ) (st : tag_standing m ≡ 0) (t : ℕ) (tag : t < most_tags) where
  long : tagged_need ≤ length m
  long = (tag-standing-good m st).0

  pub push-changes : (s : List ℕ) → Changed t m (tag_pushed_memory m s t)
  push-changes s =
      record {
        size = pushed-tag-length m t long tag s;
        low = pushed-tag-low m t long tag s;
        byte = omega (arith, pushed-tag-byte m t long tag s);
        bytes = pushed-tag-others m t long tag s;
        beside = beside-pushed-links m t long tag s;
      }

  pub fire-changes : (i : ℕ) → i < operators_of m → ((j : ℕ) → j < 5 → get_or m (register_at i + j) 0 < 256) → Changed t m (fired_under m i t)
  fire-changes i few small =
      record {
        size = fired-tag-length m st i few t tag;
        low = fired-tag-low m st i few t tag small;
        byte = omega (arith, fired-tag-bytes m st i few t tag t, tag-byte-small m st t tag);
        bytes = λ u other. fired-tag-bytes m st i few t tag u;
        beside = beside-fire m st i few t tag small;
      }

  pub take-changes : Changed t m (tag_taken_memory m t)
  take-changes =
      record {
        size = taken-tag-length m t long tag;
        low = taken-tag-low m t long tag;
        byte = omega (arith, taken-tag-byte m t long tag);
        bytes = taken-tag-others m t long tag;
        beside = beside-taken m st t tag;
      }
