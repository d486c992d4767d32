-- What a start of the machine with tags leaves (`Begins`), as the claim needs it: the sheet is accepted and has no for, and the machine of each tag is one that the first
-- machine's start left at capacity 1. Such a memory is benched (Benched). Assumes nothing.
use Rattle.std.specs.Prelude.{ℕ, ◌+◌, ◌≤◌, ◌<◌, ◌≡◌, true, List, length, get_or}
use borrow.Author.Tests.{le-leb}
use Rattle.network.specs.Rules.{M-gate}
use Rattle.formula.specs.Tree.{formula_of}
use Rattle.formula.specs.Acceptance.{Admissible, Kinded}
use Rattle.graph.specs.Translation.{made_of}
use Rattle.meaning.specs.Loopless.{Loopless}
use Rattle.theory_verdicts.specs.Running.{start_of}
use Rattle.theory_tags.specs.PlainGraphs.{Plain}
use Rattle.machine_layout.specs.Layout.{capacity_byte, untaken_of, operators_of, kind_byte, register_at}
use Rattle.machine_layout.specs.Kinds.{byte_of}
use Rattle.machine_planes.specs.Planes.{most_tags, untaken_under, tagged_need, plane_of}
use Rattle.machine_tags.specs.TagValid.{tag_mark, plain_kind}
use Rattle.machine_start.specs.Start.{started}

pub record Begins (sheet line start : List ℕ) : Type 0 where
  pub admissible : Admissible sheet
  pub kinded : Kinded sheet line
  pub loopless : Loopless (formula_of sheet)
  pub long : tagged_need ≤ length start
  pub mark : capacity_byte start ≡ tag_mark
  pub none-untaken : untaken_of start ≡ 0
  pub tags : (t : ℕ) → t < most_tags → untaken_under start t ≡ 0
  pub planes : (t : ℕ) → t < most_tags → (lent : List ℕ) × ((started sheet line 1 lent).answer.refusal ≡ 0) × (plane_of start t ≡ (started sheet line 1 lent).mem)
