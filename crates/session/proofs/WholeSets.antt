-- Laws of specs/WholeSets.antt, and what only they need.
use Rattle.std.specs.Prelude.{ℕ, suc, ◌≡◌, refl, Bool, true, false, List, [], ◌∷◌, length}
use Rattle.std.proofs.Common.{arith}
use Rattle.value.specs.Operators.{pick}
use Rattle.value_sets.specs.Sets.{set_ok}
use Rattle.value_sets.proofs.Sets.{fields-set}
use Rattle.text.specs.SetLines.{lines_of, is_set_line, field_bytes, sets, bad_line, one_more, sets_from, sets_of}
use Rattle.text.proofs.SetLineLaws.{bytes-length, set-line-wells}
use Rattle.text.proofs.ValueBytes.{bytes-valued}
use Rattle.session.proofs.FeedLaws.{one-more-sets}
use Rattle.session.specs.WholeSets.{EachWhole}

line-whole : (kinds l : List ℕ) → is_set_line kinds l ≡ true → set_ok kinds (field_bytes (length kinds) l) ≡ true
line-whole kinds l e =
    fields-set kinds (field_bytes (length kinds) l) (bytes-length (length kinds) l) (bytes-valued kinds (length kinds) l (set-line-wells kinds l e))

lines-whole : (kinds : List ℕ) (i : ℕ) (ls : List (List ℕ)) (ss : List (List ℕ)) → sets_from kinds i ls ≡ sets ss → EachWhole kinds ss
unfolding sets_from
lines-whole kinds i [] [] e = tt
lines-whole kinds i [] (s ∷ ss) e = let z : ◌≡◌ {A = ℕ} 0 1 = cc in absurd (omega arith)
lines-whole kinds i (l ∷ ls) ss e = go (is_set_line kinds l) refl e (lines-whole kinds (suc i) ls)
  where
    go : (b : Bool) → is_set_line kinds l ≡ b → pick b (one_more (field_bytes (length kinds) l) (sets_from kinds (suc i) ls)) (bad_line i) ≡ sets ss
        → ((ts : List (List ℕ)) → sets_from kinds (suc i) ls ≡ sets ts → EachWhole kinds ts) → EachWhole kinds ss
    go true p q later =
        let o = one-more-sets (field_bytes (length kinds) l) (sets_from kinds (suc i) ls) ss q in
        rw o.2 (line-whole kinds l p, later o.0 o.1)
    go false p q later = let z : ◌≡◌ {A = ℕ} 0 1 = cc in absurd (omega arith)

pub file-whole : (kinds file : List ℕ) (ss : List (List ℕ)) → sets_of kinds file ≡ sets ss → EachWhole kinds ss
unfolding sets_of
file-whole kinds file ss e = lines-whole kinds 1 (lines_of file) ss e
