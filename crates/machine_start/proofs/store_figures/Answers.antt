use native.Mathlib.Omega.{arith}
use mathlib.Core.Path.{ap, ◌∙◌}
use mathlib.Core.List.{List}
use Prim.Native.Nat.{ℕ}
use lib.ListN.{set, length-set}
use Rattle.machine_layout.specs.Layout.{stored16}
use Rattle.machine_start.specs.StartLaws.{figures-written}
use Rattle.machine_start.proofs.store_figures.Goals as goal

pub store_number-requires : goal.store_number-requires
store_number-requires c = simp length-set (omega arith)

pub store_number-requires-2 : goal.store_number-requires-2
store_number-requires-2 c = omega (arith, c.mem-1.given, length-set c.args.mem.now 0 c.args.capacity)

pub bounds-mem-5 : goal.bounds-mem-5
bounds-mem-5 c = omega (arith, c.mem-2-1.given, c.mem-1.given, length-set c.args.mem.now 0 c.args.capacity)

pub bounds-mem-6 : goal.bounds-mem-6
bounds-mem-6 c = simp length-set (omega (arith, c.mem-2-1.given, c.mem-1.given, length-set c.args.mem.now 0 c.args.capacity))

pub bounds-mem-7 : goal.bounds-mem-7
bounds-mem-7 c = simp length-set (omega (arith, c.mem-2-1.given, c.mem-1.given, length-set c.args.mem.now 0 c.args.capacity))

pub store_number-requires-3 : goal.store_number-requires-3
store_number-requires-3 c = simp length-set (omega (arith, c.mem-2-1.given, c.mem-1.given, length-set c.args.mem.now 0 c.args.capacity))

pub shape_of-mem : goal.shape_of-mem
shape_of-mem c = c.mem-3-1.given ∙ length-set (set (set c.store_number-2.new.mem 5 c.args.inputs) 6 c.args.results) 7 0 ∙ length-set (set c.store_number-2.new.mem 5 c.args.inputs) 6 c.args.results ∙ length-set c.store_number-2.new.mem 5 c.args.inputs ∙ c.mem-2-1.given ∙ c.mem-1.given ∙ length-set c.args.mem.now 0 c.args.capacity

pub returns : goal.returns
returns c =
    c.store_number-3.ensures
    ∙ ap (λ (m : List ℕ). stored16 (set (set (set m 5 c.args.inputs) 6 c.args.results) 7 0) 8 c.args.trigger)
    (c.store_number-2.ensures ∙ ap (λ (m : List ℕ). stored16 m 3 c.args.links) c.store_number.ensures)
    ∙ figures-written c.args.mem.now c.args.capacity c.args.operators c.args.links c.args.inputs c.args.results c.args.trigger
