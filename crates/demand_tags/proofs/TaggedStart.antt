-- DOCUMENT 02, JOB 12, ON REAL MEMORY. What the claim says of a list of calls is the record `OutOfOrder`; what the calls do to the lent bytes are the definitions that the contracts of
-- bench_tagged_push, bench_tagged_fire, bench_tagged_run and bench_tagged_take cite; start is machine_tag_start/specs/TagStart `tag_started`. Assumes an accepted start and nothing else.
use Rattle.std.specs.Prelude.{ℕ, ◌+◌, ◌<◌, ◌≡◌, List, ◌++◌, get_or}
use Rattle.std.proofs.Common.{◌∙◌, arith, length-append}
use Rattle.std.proofs.Math.ListN.{get_or-append}
use Rattle.machine_planes.specs.Planes.{tags_at, tagged_need, plane_of}
use Rattle.machine_tag_start.specs.TagStart.{tag_started}
use Rattle.machine_tag_start.specs.TagStartLaws.{accepted-tag-start}
use Rattle.machine_tag_start.specs.TagGraphs.{accepted-loopless}
use Rattle.machine_tag_start.specs.PlanesStarted.{plane-started}
use Rattle.machine_tag_start.specs.StartFigures.{tag-started-figures}
use Rattle.demand_tags.specs.TagLists.{Call}
use Rattle.demand_tags.specs.OutOfOrder.{OutOfOrder}
use Rattle.demand_tags.proofs.LentPlanes.{plane-behind}
use Rattle.demand_tags.specs.Begins.{Begins}
use Rattle.demand_tags.proofs.Claimed.{out-of-order-from}

-- What an accepted start leaves.
pub start-begins : (sheet line memory : List ℕ) → (tag_started sheet line memory).answer.refusal ≡ 0 → Begins sheet line (tag_started sheet line memory).mem
start-begins sheet line memory h =
    let a = accepted-tag-start sheet line memory h in
    let l = tag-started-figures sheet line memory a in
    record {
      admissible = a.admissible;
      kinded = a.kinded;
      loopless = accepted-loopless sheet line memory a;
      long = omega (arith, l.size, a.long);
      mark = l.mark;
      none-untaken = l.none-untaken;
      tags = l.tags;
      planes = λ t tag. let p = plane-started sheet line memory a t tag in (plane_of memory t, p.accepted, p.plane);
    }

-- With any bytes behind.
begins-behind : (sheet line start : List ℕ) → Begins sheet line start → (rest : List ℕ) → Begins sheet line (start ++ rest)
begins-behind sheet line start b rest =
    let same : (i : ℕ) → i < tagged_need → get_or (start ++ rest) i 0 ≡ get_or start i 0 = λ i l. get_or-append start rest 0 i (omega (arith, b.long)) in
    record {
      admissible = b.admissible;
      kinded = b.kinded;
      loopless = b.loopless;
      long = omega (arith, length-append start rest, b.long);
      mark = same 0 (omega arith) ∙ b.mark;
      none-untaken = same 7 (omega arith) ∙ b.none-untaken;
      tags = λ t h. same (tags_at + t) (omega arith) ∙ b.tags t h;
      planes = λ t h. let p = b.planes t h in (p.0, p.1, plane-behind start rest b.long t h ∙ p.2);
    }

-- The calls may be lent more than start was.
pub out-of-order-behind : (sheet line memory : List ℕ) → (tag_started sheet line memory).answer.refusal ≡ 0
    → (rest : List ℕ) (calls : List Call) → OutOfOrder sheet line ((tag_started sheet line memory).mem ++ rest) calls
out-of-order-behind sheet line memory h rest calls =
    out-of-order-from sheet line ((tag_started sheet line memory).mem ++ rest) (begins-behind sheet line (tag_started sheet line memory).mem (start-begins sheet line memory h) rest) calls

-- "Over lists of its calls as in demand 3, each taken result is that of the set last pushed under its tag, and when nothing can fire every tag is free or has its
-- whole result."
pub out_of_order : (sheet line memory : List ℕ) → (tag_started sheet line memory).answer.refusal ≡ 0
    → (calls : List Call) → OutOfOrder sheet line (tag_started sheet line memory).mem calls
out_of_order sheet line memory h calls =
    out-of-order-from sheet line (tag_started sheet line memory).mem (start-begins sheet line memory h) calls
