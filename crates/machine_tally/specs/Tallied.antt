-- What each call makes of the record that it is lent (document 02, Job 10): "The hatch shows firings, takes and refused pushes." From the record before and the call's answer
-- to the record after; the memory has no part in it. Assumes nothing.
use Rattle.std.specs.Prelude.{ℕ, ◌+◌, min, eqb}
use Rattle.value.specs.Operators.{pick}
use Rattle.machine_calls.specs.declared.Answer.{Answer}
use Rattle.machine_rounds.specs.declared.RoundsAnswer.{RoundsAnswer}
use Rattle.machine_start.specs.declared.StartAnswer.{StartAnswer}
use Rattle.machine_tally.specs.declared.Tally.{Tally}

abbrev pub tallies : ℕ → ℕ → ℕ → Tally
tallies firings takes refused = record { firings = firings; takes = takes; refused = refused }

-- "Each number stops at 4,294,967,295."
abbrev pub most : ℕ
most = 4294967295

unfoldable pub capped : ℕ → ℕ → ℕ
capped a n = min (a + n) most

unfoldable pub more_firings : Tally → ℕ → Tally
unfolding capped
more_firings t n = tallies (capped t.firings n) t.takes t.refused

unfoldable pub one_take : Tally → Tally
unfolding capped
one_take t = tallies t.firings (capped t.takes 1) t.refused

unfoldable pub one_refused : Tally → Tally
unfolding capped
one_refused t = tallies t.firings t.takes (capped t.refused 1)

-- "It is set to zeros by an accepted start": a refused one leaves it.
unfoldable pub after_start : Tally → StartAnswer → Tally
after_start t a = pick (eqb a.refusal 0) (tallies 0 0 0) t

-- "A refused push is counted there", whichever its refusal
unfoldable pub after_push : Tally → Answer → Tally
unfolding one_refused
after_push t a = pick (eqb a.refusal 0) t (one_refused t)

-- a tray stops at its one refused set; a tray of none can be refused too
unfoldable pub after_tray : Tally → Answer → Tally
unfolding one_refused
after_tray t a = pick (eqb a.refusal 0) t (one_refused t)

unfoldable pub after_fire : Tally → Answer → Tally
unfolding more_firings
after_fire t a = pick (eqb a.refusal 0) (more_firings t 1) t

-- 36 keeps its firings, so they count as well; the other refusals have none
unfoldable pub after_run : Tally → Answer → Tally
unfolding more_firings
after_run t a = more_firings t a.count

unfoldable pub after_rounds : Tally → RoundsAnswer → Tally
unfolding more_firings
after_rounds t a = more_firings t a.firings

unfoldable pub after_take : Tally → Answer → Tally
unfolding one_take
after_take t a = pick (eqb a.refusal 0) (one_take t) t
