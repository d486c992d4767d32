-- What a memory of the machine with tags has where it stands well: its length, and the figures and kinds of a valid one. Assumes nothing.
use Rattle.std.specs.Prelude.{ℕ, ◌≤◌, ◌≡◌, refl, Bool, true, false, List, ltb, length}
use Rattle.std.proofs.Common.{arith, ltb-false}
use Rattle.value.specs.Operators.{pick}
use Rattle.machine_layout.specs.Layout.{input_kinds_at, inputs_of, stored_kinds}
use Rattle.machine_firing.specs.Parts.{part_length}
use Rattle.machine_valid.specs.Figures.{Counts}
use Rattle.machine_planes.specs.Planes.{tagged_need}
use Rattle.machine_tags.specs.TagValid.{tag_valid}
use Rattle.machine_tags.specs.TagCalls.{tag_standing}
use Rattle.machine_tag_valid.specs.TagParts.{TagParts, tag-parts, tag-counts}

pub record Standing (m : List ℕ) : Type 0 where
  pub long : tagged_need ≤ length m
  pub parts : TagParts m
  pub counts : Counts m

pub tag-standing-good : (m : List ℕ) → tag_standing m ≡ 0 → Standing m
unfolding tag_standing
tag-standing-good m e = go (ltb (length m) tagged_need) refl (tag_valid m) refl e
  where
    go : (a : Bool) → ltb (length m) tagged_need ≡ a → (b : Bool) → tag_valid m ≡ b → ◌≡◌ {A = ℕ} (pick a 11 (pick b 0 31)) 0 → Standing m
    go true p b q h = absurd (omega arith)
    go false p true q h =
        let s = tag-parts m q in
        record { long = ltb-false (length m) tagged_need p; parts = s; counts = tag-counts m s.figures }
    go false p false q h = absurd (omega arith)

-- as many stored kinds as inputs
pub tag-kinds-length : (m : List ℕ) → Standing m → length (stored_kinds m) ≡ inputs_of m
tag-kinds-length m g = part_length m input_kinds_at (inputs_of m) (omega (arith, g.long, g.counts.inputs))
