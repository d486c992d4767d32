use Rattle.std.proofs.Common.{◌≡◌, ◌+◌, ◌-◌, length, append_assoc, sym, arith, rules}
use Rattle.std.proofs.lemmas.List.{drop-drop}
use Rattle.std.proofs.lemmas.List.Edits.{sets-eq}
use Rattle.machine_start.specs.Start.{lettered}
use Rattle.machine_start.proofs.store_kinds.Goals as goal

pub returns : goal.returns
unfolding lettered
returns c =
    let n : 106 + length c.args.kinds.now - 106 ≡ length c.args.kinds.now = omega arith in
    let e : c.copy_from_slice.new.self ≡ c.args.kinds.now = search rules in
    rw (n, e) (simp drop-drop (simp append_assoc at (sym (sets-eq c.args.kinds.now c.args.mem.now 106 (omega arith)))))
