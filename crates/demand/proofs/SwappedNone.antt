-- Two runs with the same sets, as Swapped has it of runs whose sets differ at a group of positions.
use Rattle.std.specs.Prelude.{ℕ, ◌<◌, ◌≡◌, refl, false, List, [], length, get_or}
use Rattle.demand.specs.MemoryCalls.{result}
use Rattle.demand.specs.Claim.{Ends}
use Rattle.demand.specs.Swapped.{Run, sets, results}
use Rattle.demand.proofs.Swapped.{swapped}

-- The empty group: where two runs have the same sets and evaluation of each ends, every position taken in both has the same result. Of the group of all nothing is claimed.
pub swapped-none : (sheet : List ℕ) (a b : Run sheet)
    → ((k : ℕ) → k < length (sets a) → k < length (sets b) → get_or (sets a) k [] ≡ get_or (sets b) k [])
    → ((k : ℕ) → k < length (sets a) → k < length (sets b) → Ends sheet a.line (get_or (sets a) k []))
    → (k : ℕ) → k < length (results a) → k < length (results b) → get_or (results a) k (result 0 []) ≡ get_or (results b) k (result 0 [])
swapped-none sheet a b same ends k = swapped sheet a b (λ j. false) (λ j out. same j) (λ j out. ends j) k refl
