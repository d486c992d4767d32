-- What is known of a file that was read part by part. No contract can say which bytes a read gives; these say how the parts belong together. Assumes nothing.
use Rattle.std.specs.Prelude.{ℕ, ◌+◌, ◌≤◌, ◌<◌, ◌≡◌, refl, ◌⊎◌, List, [], ◌++◌, length, take}
use Rattle.text.specs.declared.Seen.{Seen}
use Rattle.text.specs.Scan.{unseen, scanned, seen_of}
use Rattle.session.specs.declared.Sheet.{Sheet}
use Rattle.session.specs.Opening.{Whole}

-- What was kept after some bytes more.
pub record Continued (x y : Seen) : Type 0 where
  pub more : List ℕ
  pub seen-is : y ≡ scanned x more

-- A sheet of which the first bytes are at hand.
pub record SheetRead (first : List ℕ) (r : Sheet) : Type 0 where
  pub within : r.length ≤ length first
  pub more : List ℕ
  pub whole : Whole (take r.length first) r.seen more
