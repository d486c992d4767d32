use Rattle.sheet_drift.proofs.moves.+row_moves.Given as goal

abbrev pub decreases-row_moves : goal.decreases-row_moves
decreases-row_moves l = l.r
