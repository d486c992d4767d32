-- Laws of specs/LesserTally.antt, and what only they need.
use Rattle.std.specs.Prelude.{◌≡◌, refl, List}
use Rattle.examples.specs.Sheets.{bytes, lesser}
use Rattle.formula.specs.Tests.{verdict_of}
use Rattle.machine_layout.specs.Layout.{capacity_in}
use Rattle.machine_calls.specs.Calls.{standing, pushed, taken}
use Rattle.machine_tray.specs.Tray.{trayed}
use Rattle.machine_start.specs.Start.{started}
use Rattle.machine_tally.specs.declared.Tally.{Tally}
use Rattle.machine_tally.specs.Tallied.{tallies, after_start, after_push, after_tray, after_take}
use Rattle.demand.specs.MemoryCalls.{Call, answer_of}
use Rattle.demand.specs.LesserStarts.{zeros}
use Rattle.demand.proofs.LesserStarts.{lesser-starts}
use Rattle.demand_tally.specs.TallyCounts.{tally_after, tally_after_all, firings_of_all, accepted_takes, refused_pushes, shown}
use Rattle.demand_tally.specs.TallyShows.{recordAfter}
use Rattle.demand_tally.proofs.TallyShows.{tally-shows}
use Rattle.demand_tally.specs.LesserTally.{begun, trial}

pub lesser-shows : (calls : List Call) (before : Tally)
    → recordAfter (bytes lesser) (bytes "WW\n") 1 (zeros 40390) lesser-starts calls before ≡ shown (firings_of_all calls begun) (accepted_takes calls begun) (refused_pushes calls begun)
lesser-shows calls before = tally-shows (bytes lesser) (bytes "WW\n") 1 (zeros 40390) lesser-starts calls before

pub lesser-trial : (before : Tally) → recordAfter (bytes lesser) (bytes "WW\n") 1 (zeros 40390) lesser-starts trial before ≡ tallies 0 0 2
unfolding tally_after_all tally_after answer_of pushed trayed taken standing after_push after_tray after_take after_start started zeros capacity_in verdict_of bytes lesser
lesser-trial before = refl
