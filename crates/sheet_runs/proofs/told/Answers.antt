use mathlib.Core.Path.{◌∙◌, ap}
use Rattle.sheet_runs.specs.Lines.{line_of}
use Rattle.sheet_runs.proofs.told.Goals as goal

pub returns : goal.returns
returns c = c.line.ensures ∙ ap line_of c.bench_read.ensures
