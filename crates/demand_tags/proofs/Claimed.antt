-- THE CLAIM OF THE MACHINE WITH TAGS (document 02, Job 12) from any memory that is as a start leaves it (Begins), over every list of calls: the record OutOfOrder, field
-- by field. Assumes what a start leaves and nothing else.
use Rattle.std.specs.Prelude.{List, ℕ}
use Rattle.demand_tags.specs.TagLists.{Call, memory_after_all}
use Rattle.demand_tags.specs.OutOfOrder.{OutOfOrder}
use Rattle.demand_tags.proofs.CallSteps.{calls-unaltered}
use Rattle.demand_tags.specs.Begins.{Begins}
use Rattle.demand_tags.proofs.Begins.{bench-begins}
use Rattle.demand_tags.proofs.UnderTags.{benched}
use Rattle.demand_tags.proofs.OwnResults.{in-turn, own}
use Rattle.demand_tags.proofs.FreeTags.{lowest-free, none-is-free, free-exactly}
use Rattle.demand_tags.proofs.WholeResults.{whole-exactly}
use Rattle.demand_tags.proofs.Settled.{settled, run-settles}
use Rattle.demand_tags.proofs.ByRule.{fires-by-rule, runs-by-rule, silent-by-rule}

pub out-of-order-from : (sheet line start : List ℕ) → Begins sheet line start → (calls : List Call) → OutOfOrder sheet line start calls
out-of-order-from sheet line start b calls =
    let ok = b.admissible in
    let now = memory_after_all calls start in
    let B = benched sheet line start b calls in
    record {
      lowest = lowest-free sheet line ok now B;
      fires-by-rule = fires-by-rule sheet line ok now B;
      runs-by-rule = runs-by-rule sheet line ok now B;
      silent-by-rule = silent-by-rule sheet line ok now B;
      free-exactly = free-exactly sheet line start b calls;
      own = own sheet line start b calls;
      in-turn = in-turn sheet line start b calls;
      settled = settled sheet line start b calls;
      run-settles = run-settles sheet line start b calls;
      none_free = none-is-free sheet line ok now B;
      whole-exactly = λ lent t out tag. whole-exactly sheet line start b calls t tag lent out;
      never-altered = calls-unaltered sheet line ok calls start (bench-begins sheet line start b);
    }
