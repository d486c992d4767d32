use native.Mathlib.Omega.{arith}
use mathlib.Core.Path.{◌≡◌}
use mathlib.Core.Bool.{false, not}
use Prim.Native.Nat.{ℕ, suc, ◌≤◌}
use mathlib.Core.Logic.{inl, inr, ◌≢◌}
use borrow.Author.Tests.{ne_eqb}
use Rattle.machine_gates.proofs.Tables.{decide-binary, decide-unary, decide-constant, decide-copy, decide_T, decide-F, decide-M, decide-E, decide-IC, decide-FM, decide-none}
use Rattle.machine_gates.proofs.GateLaws.{unary-leaves, binary-leaves, constant-leaves, copy-leaves, T-leaves, F-leaves, M-leaves, E-leaves, IC-leaves, FM-leaves, idle-leaves}
use Rattle.machine_firing.specs.Fire.{register_of}
use Rattle.machine_firing.specs.Moves.{input, next_register}
use Rattle.machine_firing.specs.MoveLaws.{moves-idle}
use Rattle.machine_operators.proofs.move_tokens.Goals as goal

-- a number that is not n is past it

past : (n k : ℕ) → n ≤ k → (k ≡ n → ⊥) → suc n ≤ k
past n k h ne = omega arith

pub returns-in-12 : goal.returns-in-12
unfolding next_register
returns-in-12 c = rw (c.in-12.is, decide-constant (input c.args.mem.now c.args.links.base c.args.links.size c.args.i 0) (input c.args.mem.now c.args.links.base c.args.links.size c.args.i 1) (input c.args.mem.now c.args.links.base c.args.links.size c.args.i 2) (register_of c.args.mem.now c.args.i)) (c.constant.ensures, constant-leaves (input c.args.mem.now c.args.links.base c.args.links.size c.args.i 0) (input c.args.mem.now c.args.links.base c.args.links.size c.args.i 1) (input c.args.mem.now c.args.links.base c.args.links.size c.args.i 2) (register_of c.args.mem.now c.args.i))

pub returns-in-13 : goal.returns-in-13
unfolding next_register
returns-in-13 c = rw (c.in-13.is, decide-copy (input c.args.mem.now c.args.links.base c.args.links.size c.args.i 0) (input c.args.mem.now c.args.links.base c.args.links.size c.args.i 1) (input c.args.mem.now c.args.links.base c.args.links.size c.args.i 2) (register_of c.args.mem.now c.args.i)) (c.copy.ensures, copy-leaves (input c.args.mem.now c.args.links.base c.args.links.size c.args.i 0) (input c.args.mem.now c.args.links.base c.args.links.size c.args.i 1) (input c.args.mem.now c.args.links.base c.args.links.size c.args.i 2) (register_of c.args.mem.now c.args.i))

pub returns-in-14 : goal.returns-in-14
unfolding next_register
returns-in-14 c = rw (c.in-14.is, decide_T (input c.args.mem.now c.args.links.base c.args.links.size c.args.i 0) (input c.args.mem.now c.args.links.base c.args.links.size c.args.i 1) (input c.args.mem.now c.args.links.base c.args.links.size c.args.i 2) (register_of c.args.mem.now c.args.i)) (c.t_gate.ensures, T-leaves (input c.args.mem.now c.args.links.base c.args.links.size c.args.i 0) (input c.args.mem.now c.args.links.base c.args.links.size c.args.i 1) (input c.args.mem.now c.args.links.base c.args.links.size c.args.i 2) (register_of c.args.mem.now c.args.i))

pub returns-in-15 : goal.returns-in-15
unfolding next_register
returns-in-15 c = rw (c.in-15.is, decide-F (input c.args.mem.now c.args.links.base c.args.links.size c.args.i 0) (input c.args.mem.now c.args.links.base c.args.links.size c.args.i 1) (input c.args.mem.now c.args.links.base c.args.links.size c.args.i 2) (register_of c.args.mem.now c.args.i)) (c.f_gate.ensures, F-leaves (input c.args.mem.now c.args.links.base c.args.links.size c.args.i 0) (input c.args.mem.now c.args.links.base c.args.links.size c.args.i 1) (input c.args.mem.now c.args.links.base c.args.links.size c.args.i 2) (register_of c.args.mem.now c.args.i))

pub returns-in-16 : goal.returns-in-16
unfolding next_register
returns-in-16 c = rw (c.in-16.is, decide-M (input c.args.mem.now c.args.links.base c.args.links.size c.args.i 0) (input c.args.mem.now c.args.links.base c.args.links.size c.args.i 1) (input c.args.mem.now c.args.links.base c.args.links.size c.args.i 2) (register_of c.args.mem.now c.args.i)) ((c.m_gate.ensures (register_of c.args.mem.now c.args.i)), M-leaves (input c.args.mem.now c.args.links.base c.args.links.size c.args.i 0) (input c.args.mem.now c.args.links.base c.args.links.size c.args.i 1) (input c.args.mem.now c.args.links.base c.args.links.size c.args.i 2) (register_of c.args.mem.now c.args.i))

pub returns-in-17 : goal.returns-in-17
unfolding next_register
returns-in-17 c = rw (c.in-17.is, decide-E (input c.args.mem.now c.args.links.base c.args.links.size c.args.i 0) (input c.args.mem.now c.args.links.base c.args.links.size c.args.i 1) (input c.args.mem.now c.args.links.base c.args.links.size c.args.i 2) (register_of c.args.mem.now c.args.i)) (c.e_gate.ensures, E-leaves (input c.args.mem.now c.args.links.base c.args.links.size c.args.i 0) (input c.args.mem.now c.args.links.base c.args.links.size c.args.i 1) (input c.args.mem.now c.args.links.base c.args.links.size c.args.i 2) (register_of c.args.mem.now c.args.i))

pub returns-in-18 : goal.returns-in-18
unfolding next_register
returns-in-18 c = rw (c.in-18.is, decide-IC (input c.args.mem.now c.args.links.base c.args.links.size c.args.i 0) (input c.args.mem.now c.args.links.base c.args.links.size c.args.i 1) (input c.args.mem.now c.args.links.base c.args.links.size c.args.i 2) (register_of c.args.mem.now c.args.i)) (c.ic_gate.ensures, IC-leaves (input c.args.mem.now c.args.links.base c.args.links.size c.args.i 0) (input c.args.mem.now c.args.links.base c.args.links.size c.args.i 1) (input c.args.mem.now c.args.links.base c.args.links.size c.args.i 2) (register_of c.args.mem.now c.args.i))

pub returns-in-19 : goal.returns-in-19
unfolding next_register
returns-in-19 c = rw (c.in-19.is, decide-FM (input c.args.mem.now c.args.links.base c.args.links.size c.args.i 0) (input c.args.mem.now c.args.links.base c.args.links.size c.args.i 1) (input c.args.mem.now c.args.links.base c.args.links.size c.args.i 2) (register_of c.args.mem.now c.args.i)) (c.fm_gate.ensures, FM-leaves (input c.args.mem.now c.args.links.base c.args.links.size c.args.i 0) (input c.args.mem.now c.args.links.base c.args.links.size c.args.i 1) (input c.args.mem.now c.args.links.base c.args.links.size c.args.i 2) (register_of c.args.mem.now c.args.i))

pub returns-in-1-to-9 : goal.returns-in-1-to-9
unfolding next_register
returns-in-1-to-9 c =
    let n : c.args.kind ≢ 19 = omega arith in
    rw (ne_eqb c.args.kind 19 n, decide-binary (input c.args.mem.now c.args.links.base c.args.links.size c.args.i 0) (input c.args.mem.now c.args.links.base c.args.links.size c.args.i 1) (input c.args.mem.now c.args.links.base c.args.links.size c.args.i 2) (register_of c.args.mem.now c.args.i) c.args.kind c.in-1-to-9.if-kind-lt1-own.false (omega arith)) (c.binary.ensures, binary-leaves (input c.args.mem.now c.args.links.base c.args.links.size c.args.i 0) (input c.args.mem.now c.args.links.base c.args.links.size c.args.i 1) (input c.args.mem.now c.args.links.base c.args.links.size c.args.i 2) (register_of c.args.mem.now c.args.i) c.args.kind)

pub returns-in-10-to-11 : goal.returns-in-10-to-11
unfolding next_register
returns-in-10-to-11 c =
    let n : c.args.kind ≢ 19 = omega arith in
    rw (ne_eqb c.args.kind 19 n, decide-unary (input c.args.mem.now c.args.links.base c.args.links.size c.args.i 0) (input c.args.mem.now c.args.links.base c.args.links.size c.args.i 1) (input c.args.mem.now c.args.links.base c.args.links.size c.args.i 2) (register_of c.args.mem.now c.args.i) c.args.kind c.in-10-to-11.if-kind-lt10-own.false (omega arith)) (c.unary.ensures, unary-leaves (input c.args.mem.now c.args.links.base c.args.links.size c.args.i 0) (input c.args.mem.now c.args.links.base c.args.links.size c.args.i 1) (input c.args.mem.now c.args.links.base c.args.links.size c.args.i 2) (register_of c.args.mem.now c.args.i) c.args.kind)

pub returns-in_default : goal.returns-in_default
returns-in_default c = rw (decide-none (input c.args.mem.now c.args.links.base c.args.links.size c.args.i 0) (input c.args.mem.now c.args.links.base c.args.links.size c.args.i 1) (input c.args.mem.now c.args.links.base c.args.links.size c.args.i 2) (register_of c.args.mem.now c.args.i) c.args.kind (inl (omega arith))) (moves-idle c.args.mem.now c.args.links.base c.args.links.size c.args.i c.args.dry, idle-leaves _)

pub returns-in_default-2 : goal.returns-in_default-2
returns-in_default-2 c = rw (decide-none (input c.args.mem.now c.args.links.base c.args.links.size c.args.i 0) (input c.args.mem.now c.args.links.base c.args.links.size c.args.i 1) (input c.args.mem.now c.args.links.base c.args.links.size c.args.i 2) (register_of c.args.mem.now c.args.i) c.args.kind (inr (past 20 c.args.kind (past 19 c.args.kind (past 18 c.args.kind (past 17 c.args.kind (past 16 c.args.kind (past 15 c.args.kind (past 14 c.args.kind (past 13 c.args.kind (past 12 c.args.kind c.in_default.if-kind-lt12-own.false c.in_default.in_default-own.rest.0.0.0.0.0.0.0.1) c.in_default.in_default-own.rest.0.0.0.0.0.0.1) c.in_default.in_default-own.rest.0.0.0.0.0.1) c.in_default.in_default-own.rest.0.0.0.0.1) c.in_default.in_default-own.rest.0.0.0.1) c.in_default.in_default-own.rest.0.0.1) c.in_default.in_default-own.rest.0.1) c.in_default.in_default-own.rest.1) c.requires.3))) (moves-idle c.args.mem.now c.args.links.base c.args.links.size c.args.i c.args.dry, idle-leaves _)
