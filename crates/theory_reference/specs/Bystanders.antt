-- Two facts about every schedule that is possible with one place a link: a link that no operator uses may hold anything meanwhile, and where
-- no link held more than one token, none does afterwards. Know of no graph.
use Rattle.std.specs.Prelude.{ℕ, ◌<◌, ◌≤◌, ◌≡◌, refl, List, [], ◌∷◌, ◌++◌, length}
use Rattle.network.specs.Net.{Token, Demand, ask, fire, halt, Links, head, pop, append, Room, Able, appends, act}
use Rattle.network.specs.Commute.{Never-asks, Never-emits}
use Rattle.theory_pieces.specs.Load.{set_link}
use Rattle.theory_pieces.specs.Goes.{Net, one_place}

-- No operator takes from the link or puts onto it.
pub record Unused (net : ℕ → Demand) (l : ℕ) : Type 0 where
  pub asks : (a : ℕ) → Never-asks (net a) l
  pub emits : (a : ℕ) → Never-emits (net a) l

-- At most one token on each link.
abbrev pub Single : Links → Type 0
Single q = (l : ℕ) → length (q l) ≤ 1
