-- Laws of specs/LesserStarts.antt, and what only they need.
use Rattle.std.specs.Prelude.{◌≡◌, refl, List}
use Rattle.examples.specs.Sheets.{bytes, lesser}
use Rattle.formula.specs.declared.Refusal.TheVariants.{Memory, Capacity}
use Rattle.formula.specs.Refusals.{number_of}
use Rattle.formula.specs.Tests.{verdict_of}
use Rattle.machine_layout.specs.Layout.{capacity_in}
use Rattle.machine_start.specs.Start.{started}
use Rattle.demand.specs.MemoryCalls.{Call}
use Rattle.demand.specs.Claim.{OwnVerdicts}
use Rattle.demand.proofs.Demand3.{demand-3}
use Rattle.demand.specs.LesserStarts.{zeros}

pub lesser-starts : (started (bytes lesser) (bytes "WW\n") 1 (zeros 40390)).answer.refusal ≡ 0
unfolding started zeros capacity_in verdict_of bytes lesser
lesser-starts = refl

pub lesser-lent-too-little : (started (bytes lesser) (bytes "WW\n") 1 (zeros 40389)).answer.refusal ≡ number_of Memory
unfolding started zeros capacity_in
lesser-lent-too-little = refl

pub lesser-without-places : (started (bytes lesser) (bytes "WW\n") 0 (zeros 40390)).answer.refusal ≡ number_of Capacity
unfolding started zeros capacity_in
lesser-without-places = refl

pub lesser-own-verdicts : (calls : List Call) → OwnVerdicts (bytes lesser) (bytes "WW\n") 1 (started (bytes lesser) (bytes "WW\n") 1 (zeros 40390)).mem calls
lesser-own-verdicts calls = demand-3 (bytes lesser) (bytes "WW\n") 1 (zeros 40390) lesser-starts calls
