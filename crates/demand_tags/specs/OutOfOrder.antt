-- Document 02, Job 12, as one record, for a list of calls from the memory that a start of the machine with tags left. Direct evaluation is meaning/specs/Evaluate
-- `evaluation_of`, as in demand 3 (demand/specs/Claim). A field on a take or a push speaks of one more call after the list; as the record holds of every list, this
-- covers each take and push inside one. Definitions only; assumes nothing.
use Rattle.std.specs.Prelude.{ℕ, zero, suc, ◌+◌, ◌≤◌, ◌<◌, ◌≡◌, true, false, ◌⊎◌, ◌≢◌, ◌↔◌, List, [], ◌∷◌, ◌++◌, length, get_or}
use Rattle.network.specs.Histories.{silence}
use Rattle.network.specs.Net.{Links}
use Rattle.network.specs.FiringHistory.{to-come}
use Rattle.formula.specs.declared.Refusal.TheVariants.{Set, Altered, NotAble, NoTag}
use Rattle.formula.specs.Refusals.{number_of}
use Rattle.formula.specs.Tree.{formula_of}
use Rattle.formula.specs.Faults.{letters_of}
use Rattle.graph.specs.Assembly.{Operator}
use Rattle.graph.specs.Translation.{made_of}
use Rattle.meaning.specs.Evaluate.{evaluation_of}
use Rattle.theory_reference.specs.Plugged.{ports_of}
use Rattle.machine_queue.specs.Stretch.{waiting}
use Rattle.machine_layout.specs.Layout.{operators_of, links_of, results_of, port_of, least_size}
use Rattle.machine_firing.specs.Links.{room_from}
use Rattle.machine_firing.specs.LinkLaws.{link_part_from}
use Rattle.machine_calls.specs.Calls.{answers, result_ready_from}
use Rattle.machine_planes.specs.Planes.{most_tags, plane_at, tagged_need, plane_of}
use Rattle.machine_tags.specs.TagCalls.{free_tag}
use Rattle.demand_view.specs.Sound.{Ith}
use Rattle.demand_view.specs.Stands.{Stands}
use Rattle.demand_view.specs.FiredHistory.{Fires-in-memory}
use Rattle.demand.specs.Claim.{Enough, yielded}
use Rattle.demand_tags.specs.TagLists.{Call, push, fire, run, take, answer_of, memory_after, memory_after_all, answers_of, result_under, sets_under, results_under}

-- A firing of operator i under tag t by Brock's rule on the tokens of its tag: on the tag's machine, in which these tokens wait on its links, it is the rule's
-- (demand_view/specs/FiredHistory), and no other tag's machine changes.
abbrev pub FiresUnder : (sheet line : List ℕ) → List ℕ → ℕ → ℕ → List ℕ → Type 0
FiresUnder sheet line m i t m' =
    (q : Links) × Stands (made_of (formula_of sheet)) (letters_of (formula_of sheet) line) 1 (plane_of m t) q
    × (o : Operator) × Ith (made_of (formula_of sheet)).operators i o
    × Fires-in-memory (made_of (formula_of sheet)) (letters_of (formula_of sheet) line) 1 (plane_of m t) q i o (plane_of m' t)
    × ((u : ℕ) → u < most_tags → u ≢ t → plane_of m' u ≡ plane_of m u)

-- So many such firings lead from one memory to another.
abbrev pub FiringsUnder : (sheet line : List ℕ) → ℕ → List ℕ → List ℕ → Type 0
FiringsUnder sheet line zero m m' = m' ≡ m
FiringsUnder sheet line (suc k) m m' = (i : ℕ) × (t : ℕ) × (next : List ℕ) × (t < most_tags) × FiresUnder sheet line m i t next × FiringsUnder sheet line k next m'

-- Each output link of operator i, of its ports 3 to 5, has a free place under tag t.
abbrev pub RoomUnder : List ℕ → ℕ → ℕ → Type 0
RoomUnder m i t = (p : ℕ) → 3 ≤ p → p < 6 → room_from m (plane_at t) least_size (port_of m i p) ≡ true

-- Brock's rule of operator i gives nothing for the tokens of tag t that wait: on the tag's machine, in which these tokens wait on its links, and with the register
-- that the operator has there.
abbrev pub SilentUnder : (sheet line : List ℕ) → List ℕ → ℕ → ℕ → Type 0
SilentUnder sheet line m i t =
    (q : Links) × (H : Stands (made_of (formula_of sheet)) (letters_of (formula_of sheet) line) 1 (plane_of m t) q)
    × (o : Operator) × (at : Ith (made_of (formula_of sheet)).operators i o)
    × (to-come o.kind (H.registered i o at).register (ports_of o) q ≡ silence)

-- Tag t is free, or it has its whole result: a take of it that is lent enough and has room would be accepted.
abbrev pub FreeOrWhole : List ℕ → ℕ → Type 0
FreeOrWhole m t = (free_tag m t ≡ true) ⊎ ((lent : ℕ) (out : List ℕ) → tagged_need ≤ lent → 80 ≤ length out → (answer_of (take lent t out) m).refusal ≡ 0)

pub record OutOfOrder (sheet line start : List ℕ) (calls : List Call) : Type 0 where
  -- "Each set gets the lowest free tag, 0 to 15, and push gives it back"
  pub lowest : (lent : ℕ) (set : List ℕ) → (answer_of (push lent set) (memory_after_all calls start)).refusal ≡ 0
      → ((answer_of (push lent set) (memory_after_all calls start)).count < most_tags)
      × (free_tag (memory_after_all calls start) (answer_of (push lent set) (memory_after_all calls start)).count ≡ true)
      × ((u : ℕ) → u < (answer_of (push lent set) (memory_after_all calls start)).count → free_tag (memory_after_all calls start) u ≡ false)
  -- Each firing is by Brock's rule on the tokens of its tag, and a run is as many such firings as it counts.
  pub fires-by-rule : (lent i t : ℕ) → (answer_of (fire lent i t) (memory_after_all calls start)).refusal ≡ 0
      → FiresUnder sheet line (memory_after_all calls start) i t (memory_after (fire lent i t) (memory_after_all calls start))
  pub runs-by-rule : (lent firings : ℕ)
      → FiringsUnder sheet line (answer_of (run lent firings) (memory_after_all calls start)).count (memory_after_all calls start) (memory_after (run lent firings) (memory_after_all calls start))
  -- Demand 2's "just what his history rules say for the next tokens" from the other side: where a fire that is lent enough is refused with 34 though each output link
  -- of the operator has a free place, the rule gives nothing.
  pub silent-by-rule : (lent i t : ℕ) → tagged_need ≤ lent → i < operators_of (memory_after_all calls start) → t < most_tags
      → (answer_of (fire lent i t) (memory_after_all calls start)).refusal ≡ number_of NotAble → RoomUnder (memory_after_all calls start) i t
      → SilentUnder sheet line (memory_after_all calls start) i t
  -- "A tag is free again as soon as, and not before, its result is taken and no token with it is left on any link, for a gate may still have to absorb one."
  pub free-exactly : (t : ℕ) → t < most_tags → (free_tag (memory_after_all calls start) t ≡ true)
      ↔ ((length (results_under t calls start) ≡ length (sets_under t calls start))
      × ((l : ℕ) → l < links_of (memory_after_all calls start) → waiting (link_part_from (memory_after_all calls start) (plane_at t) least_size l) ≡ 0))
  -- "each taken result is that of the set last pushed under its tag": an accepted take hands out what direct evaluation yields for that set; without a for,
  -- evaluation ends with any number of rounds
  pub own : (lent t : ℕ) (out : List ℕ) → (answer_of (take lent t out) (memory_after_all calls start)).refusal ≡ 0
      → (before : List (List ℕ)) × (set : List ℕ) × (sets_under t calls start ≡ before ++ (set ∷ []))
      × ((rounds : ℕ) → Enough sheet line set rounds
      × (result_under t (take lent t out) (memory_after_all calls start) ≡ yielded (evaluation_of sheet line set rounds) ∷ []))
  -- Under a tag pushes and takes alternate: every result is that of a pushed set, and one set at most is untaken.
  pub in-turn : (t : ℕ) → t < most_tags → (length (results_under t calls start) ≤ length (sets_under t calls start))
      × (length (sets_under t calls start) ≤ length (results_under t calls start) + 1)
  -- "when nothing can fire every tag is free or has its whole result"; "Nothing can fire when each operator would get 34; a whole result is ready when a take
  -- would be accepted", here under each tag
  pub settled : ((i t : ℕ) → i < operators_of (memory_after_all calls start) → t < most_tags
      → (answer_of (fire (length (memory_after_all calls start)) i t) (memory_after_all calls start)).refusal ≡ number_of NotAble)
      → (t : ℕ) → t < most_tags → FreeOrWhole (memory_after_all calls start) t
  -- So "every tag is free or has its whole result" behind an accepted run, for one after which "something can still fire" is refused with 36.
  pub run-settles : (lent firings : ℕ) → (answer_of (run lent firings) (memory_after_all calls start)).refusal ≡ 0
      → (t : ℕ) → t < most_tags → FreeOrWhole (memory_after (run lent firings) (memory_after_all calls start)) t
  -- "37 when no tag is free": of a push that is lent enough and a set that fits
  pub none_free : (lent : ℕ) (set : List ℕ) → tagged_need ≤ lent → (answer_of (push lent set) (memory_after_all calls start)).refusal ≢ number_of Set
      → ((answer_of (push lent set) (memory_after_all calls start)).refusal ≡ number_of NoTag)
      ↔ ((t : ℕ) → t < most_tags → free_tag (memory_after_all calls start) t ≡ false)
  -- "38 when take's tag has no whole result": a take is accepted exactly where its tag's last set is untaken and a token of it waits on each result port, whatever
  -- the other tags do
  pub whole-exactly : (lent t : ℕ) (out : List ℕ) → t < most_tags → tagged_need ≤ lent → 80 ≤ length out
      → ((answer_of (take lent t out) (memory_after_all calls start)).refusal ≡ 0)
      ↔ ((length (sets_under t calls start) ≡ length (results_under t calls start) + 1)
      × ((j : ℕ) → j < results_of (memory_after_all calls start) → result_ready_from (memory_after_all calls start) (plane_at t) least_size j ≡ true))
  -- 31 "never given for a machine that start made and nothing but its calls has touched since"
  pub never-altered : (k : ℕ) → k < length (answers_of calls start) → (get_or (answers_of calls start) k (answers 0 0)).refusal ≢ number_of Altered
