use native.Mathlib.Omega.{arith}
use mathlib.Core.Path.{◌≡◌, sym, ◌∙◌}
use mathlib.Core.Bool.{true, false}
use Prim.Native.Nat.{◌+◌}
use Rattle.machine_layout.specs.Layout.{links_of, name_at, operator_at, kind_byte}
use Rattle.machine_valid.specs.Ports.{well_ported, operator-ported}
use Rattle.machine_valid.proofs.operator_ok.Goals as goal

pub returns-else-ports_ok : goal.returns-else-ports_ok
returns-else-ports_ok c =
    let p : well_ported (kind_byte c.args.mem.now c.args.i) (links_of c.args.mem.now) (name_at c.args.mem.now (operator_at c.args.i + 2)) ≡ false = (rw (c.operator_at-at.ensures, c.requires.2) at (sym c.ports_ok.ensures)) ∙ c.if-ports_ok.false in
    rw (operator-ported c.args.mem.now c.args.i (omega arith), p) c.if-ports_ok.false

pub returns-then-ports_ok : goal.returns-then-ports_ok
returns-then-ports_ok c =
    let p : well_ported (kind_byte c.args.mem.now c.args.i) (links_of c.args.mem.now) (name_at c.args.mem.now (operator_at c.args.i + 2)) ≡ true = (rw (c.operator_at-at.ensures, c.requires.2) at (sym c.ports_ok.ensures)) ∙ c.if-ports_ok.true in
    rw (operator-ported c.args.mem.now c.args.i (omega arith), p) (rw (c.load.ensures.0, c.register_at.ensures, c.operator_at-at.ensures) at c.register_ok.ensures)
