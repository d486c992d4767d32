use mathlib.Core.Path.{sym, ◌∙◌, ap}
use mathlib.Core.List.{List}
use Prim.Native.Nat.{ℕ, ◌+◌}
use Rattle.machine_layout.specs.Layout.{stored16}
use Rattle.machine_layout.specs.Record.{by-figures}
use native.Mathlib.Omega.{arith}
use Rattle.machine_layout.proofs.store_links.Goals as goal

pub returns : goal.returns
returns c = c.store_number-8.ensures ∙ ap (λ (m : List ℕ). stored16 m (c.args.at + 14) 0) (c.store_number-7.ensures ∙ ap (λ (m : List ℕ). stored16 m (c.args.at + 12) c.args.o.out3) (c.store_number-6.ensures ∙ ap (λ (m : List ℕ). stored16 m (c.args.at + 10) c.args.o.out2) (c.store_number-5.ensures ∙ ap (λ (m : List ℕ). stored16 m (c.args.at + 8) c.args.o.out1) (c.store_number-4.ensures ∙ ap (λ (m : List ℕ). stored16 m (c.args.at + 6) c.args.o.in3) (c.store_number-3.ensures ∙ ap (λ (m : List ℕ). stored16 m (c.args.at + 4) c.args.o.in2) (c.store_number-2.ensures ∙ ap (λ (m : List ℕ). stored16 m (c.args.at + 2) c.args.o.in1) c.store_number.ensures)))))) ∙ sym (by-figures c.args.mem.now c.args.at c.args.o (omega arith))
