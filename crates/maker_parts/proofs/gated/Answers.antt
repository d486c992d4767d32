use mathlib.Core.Path.{◌≡◌, sym, ap, ap₂, ◌∙◌, subst}
use Prim.Native.Nat.{ℕ, ◌+◌, ◌*◌, ◌-◌}
use lib.ListN.{get_or-replicate, take, replicate}
use Rattle.maker_laid.specs.Encode.{written}
use Rattle.maker_laid.specs.Emitted.{row_records, row_outputs}
use Rattle.maker_parts.specs.Parts.{side_kind}
use Rattle.maker_parts.proofs.gated.Goals.{then-yes, else-yes}
use Rattle.maker_parts.proofs.gated.Goals as goal

pub returns : goal.returns
returns c =
    let kind : c.if-yes.kind ≡ side_kind c.args.yes =
    elim c.if-yes.branch [
      | then-yes w ↦ w.kind-is ∙ ap side_kind (sym w.if-yes.true)
      | else-yes w ↦ w.kind-is ∙ ap side_kind (sym w.if-yes.false)
    ]
    in
    record { names = c.gather-links.result; none = replicate 33 65535; outs = c.gates-x.result.outs; gathered = c.gather-links.ensures; nowhere = λ i l. get_or-replicate 33 i 65535 0 l; memory = c.gates-x.ensures.0 ∙ ap₂ (λ (a b : ℕ). written c.args.mem.now c.args.next.operator (row_records a c.args.control c.args.next.link c.gather-links.result (replicate 33 65535) 0 b)) kind c.names_in-k.ensures.0; gives = subst (λ (b : ℕ). take b c.gates-x.result.outs ≡ row_outputs c.args.next.link b) c.names_in-k.ensures.0 c.gates-x.ensures.1; links = c.gates-x.ensures.4 ∙ ap (λ (b : ℕ). c.args.next.link + (3 * b - 2)) c.names_in-k.ensures.0; operators = c.gates-x.ensures.5 ∙ ap (λ (b : ℕ). c.args.next.operator + (2 * b - 1)) c.names_in-k.ensures.0; behind = c.assign-inner.ensures }
