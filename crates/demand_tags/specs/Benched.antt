-- A memory with tags as start made it and its calls left it (`Benched`): the machine of each tag is the sheet's, with some tokens on its links, and what stands once is
-- the machine's with tags. Such a memory is in good standing. Assumes an accepted sheet.
use Rattle.std.specs.Prelude.{ℕ, ◌+◌, ◌≤◌, ◌<◌, ◌≡◌, true, List, ◌++◌, length, get_or, take}
use borrow.Author.Tests.{le-leb}
use Rattle.network.specs.Net.{Links}
use Rattle.formula.specs.Tree.{formula_of}
use Rattle.formula.specs.Faults.{letters_of}
use Rattle.formula.specs.Acceptance.{Admissible}
use Rattle.graph.specs.Translation.{Made, made_of}
use Rattle.machine_layout.specs.Layout.{capacity_byte, untaken_of, operators_of, links_of, operator_count_at, link_count_at, links_at, most_operators, most_links, register_at, number16, operator_at, kind_byte}
use Rattle.machine_planes.specs.Planes.{most_tags, tags_at, untaken_under, tagged_need, plane_of}
use Rattle.machine_tags.specs.TagValid.{tag_mark, plain_kind, untaken_under_ok}
use Rattle.machine_tags.specs.TagCalls.{tag_standing}
use Rattle.demand_view.specs.Sound.{Sound}
use Rattle.demand_view.specs.Stands.{Stands}

-- The machine of the sheet stands in this memory, with one place a link.
abbrev pub StandsOne : (sheet line m : List ℕ) → Links → Type 0
StandsOne sheet line m q = Stands (made_of (formula_of sheet)) (letters_of (formula_of sheet) line) 1 m q

pub record Benched (sheet line m : List ℕ) : Type 0 where
  pub long : tagged_need ≤ length m
  pub mark : capacity_byte m ≡ tag_mark
  pub none-untaken : untaken_of m ≡ 0
  pub plain : (i : ℕ) → i < operators_of m → plain_kind m i ≡ true
  pub registers : (i : ℕ) → i < operators_of m → (j : ℕ) → j < 5 → get_or m (register_at i + j) 0 < 256
  pub bytes : (t : ℕ) → t < most_tags → untaken_under m t ≤ 1
  pub planes : (t : ℕ) → t < most_tags → (q : Links) × StandsOne sheet line (plane_of m t) q
