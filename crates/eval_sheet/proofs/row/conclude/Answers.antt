use native.Mathlib.Omega.{arith}
use Prim.Native.Nat.{ℕ, ◌<◌}
use mathlib.Core.Path.{◌≡◌, refl, sym, ◌∙◌}
use mathlib.Core.List.{map}
use lib.ListN.{length, get_or}
use Rattle.std.proofs.Common.{rules}
use Rattle.std.proofs.Math.ListN.{get_or-map}
use Rattle.std.proofs.lemmas.List.{length-map, same_lists, get_or_default}
use Rattle.eval_words.specs.Words.{held_of}
use Rattle.meaning.specs.declared.Cell.{Cell}
use Rattle.meaning.specs.Evaluate.{cell}
use Rattle.eval_sheet.proofs.row.conclude.Goals as goal

pub returns : goal.returns
returns c =
    let n : length c.map.result ≡ length (map (λ z. cell (held_of z)) c.args.out.now) = c.map.ensures.items.long ∙ sym c.requires ∙ sym (length-map c.args.out.now (λ z. cell (held_of z))) in
    let each : (k : ℕ) (d : Cell) → k < length c.map.result → get_or c.map.result k d ≡ get_or (map (λ z. cell (held_of z)) c.args.out.now) k d =
    λ k d h. let m = c.map.ensures.items.at k 0 d (omega (arith, h, c.map.ensures.items.long)) in
    let e : get_or c.map.result k d ≡ cell (held_of (get_or c.args.out.now k 0)) = search rules in
    e ∙ sym (get_or-map (λ z. cell (held_of z)) c.args.out.now k 0) ∙ get_or_default (map (λ z. cell (held_of z)) c.args.out.now) k (cell (held_of 0)) d (omega (arith, h, n))
    in
    (same_lists _ _ n each, refl, refl, refl)
