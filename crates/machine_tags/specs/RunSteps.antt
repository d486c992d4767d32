-- A run of the machine with tags (TagRun's tag_runs) as the list of its firings, each of the least-numbered able operator under its lowest able tag, and what it says that nothing can
-- fire (document 02, Job 12: "when nothing can fire"). Assumes nothing.
use Rattle.std.specs.Prelude.{ℕ, zero, suc, ◌+◌, ◌≤◌, ◌<◌, ◌≡◌, refl, Bool, true, false, List, [], ◌∷◌, ltb, length}
use Rattle.value.specs.Operators.{pick}
use Rattle.machine_runs.specs.Run.{Ran, ran}
use Rattle.machine_planes.specs.Planes.{most_tags}
use Rattle.machine_tags.specs.TagRun.{able_under, fired_under, lowest_tag, least_operator}

-- ---- the firings of a run
-- an operator and a tag, as fire names them
pub record TagFiring : Type 0 where
  pub operator : ℕ
  pub tag : ℕ

abbrev pub tag_firing : ℕ → ℕ → TagFiring
tag_firing i t = record { operator = i; tag = t }

-- the run's with b firings left, by the recursion of tag_runs
unfoldable pub tag_firings : ℕ → ℕ → List ℕ → List TagFiring
tag_firings n zero m = []
tag_firings n (suc b) m =
    pick (ltb (least_operator m n) n)
    (tag_firing (least_operator m n) (lowest_tag m (least_operator m n)) ∷ tag_firings n b (fired_under m (least_operator m n) (lowest_tag m (least_operator m n)))) []

-- the memory after a list of firings
abbrev pub fired_all : List ℕ → List TagFiring → List ℕ
fired_all m [] = m
fired_all m (f ∷ fs) = fired_all (fired_under m f.operator f.tag) fs

-- each is accepted where it is made, by n operators
pub record FiringAccepted (n : ℕ) (m : List ℕ) (f : TagFiring) : Type 0 where
  pub there : f.operator < n
  pub tagged : f.tag < most_tags
  pub able : able_under m f.operator f.tag ≡ true

abbrev pub FiringsAccepted : ℕ → List ℕ → List TagFiring → Type 0
FiringsAccepted n m [] = Unit {0}
FiringsAccepted n m (f ∷ fs) = FiringAccepted n m f × FiringsAccepted n (fired_under m f.operator f.tag) fs

pub record Steps (n b : ℕ) (m : List ℕ) (c : ℕ) (r : Ran) (fs : List TagFiring) : Type 0 where
  pub accepted : FiringsAccepted n m fs
  pub memory : fired_all m fs ≡ r.mem
  pub count : length fs + c ≡ r.count
  pub few : length fs ≤ b
