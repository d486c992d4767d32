-- An accepted start leaves no set untaken (document 01, "Running": "Start a machine empty"). Assumes nothing.
use Rattle.std.specs.Prelude.{ℕ, ◌≡◌, List}
use Rattle.std.proofs.Common.{ap, ◌∙◌, arith}
use Rattle.formula.specs.Tree.{formula_of}
use Rattle.formula.specs.Faults.{letters_of}
use Rattle.machine_layout.specs.Layout.{size_of, untaken_at, untaken_of}
use Rattle.graph.specs.Translation.{made_of}
use Rattle.maker_laid.specs.Encode.{encoded, written, length-written}
use Rattle.machine_start.specs.Start.{Begun, headed, started_memory, started}
use Rattle.machine_start.specs.ReadBack.{emptied-kept}
use Rattle.machine_start.specs.HeaderLaws.{headed-untaken}
use Rattle.machine_start.specs.StartLaws.{AcceptedStart}

pub started-untaken : (s line : List ℕ) (c : ℕ) (m : List ℕ) → AcceptedStart s line c m → untaken_of (started s line c m).mem ≡ 0
unfolding started_memory
started-untaken s line c m A =
    let g = made_of (formula_of s) in
    let kinds = letters_of (formula_of s) line in
    let operated = written m 0 (encoded g.operators) in
    ap (λ (b : Begun). untaken_of b.mem) A.whole
    ∙ emptied-kept g.links (size_of c) (headed g kinds c operated) untaken_at (omega arith)
    ∙ headed-untaken g kinds c operated (omega (arith, length-written (encoded g.operators) m 0, A.long))
