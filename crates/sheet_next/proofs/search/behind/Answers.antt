use Prim.Native.Nat.{suc, ◌-◌}
use mathlib.Core.Path.{sym, ap, ◌∙◌}
use mathlib.Core.Bool.{Bool}
use mathlib.Core.Option.{Option}
use Rattle.sheet_listed.specs.Search.{Rows, or_else, up_from}
use Rattle.sheet_stands.specs.Fronts.{rows_to}
use Rattle.sheet_next.specs.Found.{found}
use Rattle.sheet_next.proofs.DownLaws.{long-found}
use Rattle.sheet_next.proofs.search.behind.Goals as goal

pub returns-then-as_long : goal.returns-then-as_long
returns-then-as_long c = (long-found c.args.n (rows_to c.args.n c.as_long.new.t) (rows_to c.args.n c.args.t.now) (up_from (suc c.args.n) (5 - c.args.n)) (ap (λ (b : Bool). found b (rows_to c.args.n c.as_long.new.t)) (sym c.if-as_long.true) ∙ c.as_long.ensures), c.requires.few)

pub longer-requires : goal.longer-requires
longer-requires c = (c.as_long.auto.t ∙ c.requires.size, c.requires.few)

pub returns : goal.returns
returns c = (c.longer.ensures.0 ∙ ap (λ (o : Option Rows). or_else o (up_from (suc c.args.n) (5 - c.args.n))) (ap (λ (b : Bool). found b (rows_to c.args.n c.as_long.new.t)) (sym c.if-as_long.false) ∙ c.as_long.ensures), c.longer.ensures.1)
