-- Laws of specs/Reading.antt, and what only they need.
use Rattle.std.specs.Prelude.{ℕ, ◌+◌, ◌≤◌, ◌≡◌, refl, List, [], ◌++◌, length, take}
use Rattle.std.proofs.Common.{sym, ap, ◌∙◌, inl, inr, append-nil, arith, length-take-le}
use Rattle.text.specs.declared.Seen.{Seen}
use Rattle.text.specs.Scan.{unseen, scanned, seen_of}
use Rattle.text.proofs.ScanLaws.{scan-parts}
use Rattle.session.specs.Output.{most_sheet_bytes}
use Rattle.session.specs.Reading.{Continued, SheetRead}

pub nothing-more : (x : Seen) → Continued x x
unfolding scanned
nothing-more x = record { more = []; seen-is = refl }

pub part-more : (x y z : Seen) (part : List ℕ) → Continued x y → z ≡ scanned y part → Continued x z
part-more x y z part c e =
    record { more = c.more ++ part; seen-is = e ∙ ap (λ (w : Seen). scanned w part) c.seen-is ∙ scan-parts x c.more part }

pub no-sheet : (first : List ℕ) (x : Seen) → x ≡ unseen → SheetRead first (record { length = 0; seen = x })
unfolding scanned
no-sheet first x e = record { within = omega arith; more = []; whole = record { seen-is = e; at-hand = inl refl } }

pub short-sheet : (first : List ℕ) (n : ℕ) (u x : Seen) → n ≤ length first → u ≡ unseen → x ≡ scanned u (take n first) → SheetRead first (record { length = n; seen = x })
short-sheet first n u x h e p =
    record {
      within = h;
      more = [];
      whole = record { seen-is = p ∙ ap (λ (w : Seen). scanned w (take n first)) e ∙ ap seen_of (sym (append-nil (take n first))); at-hand = inl refl };
    }

pub long-sheet : (first : List ℕ) (n : ℕ) (u x y : Seen) → n ≤ length first → most_sheet_bytes ≤ n → u ≡ unseen → x ≡ scanned u (take n first) → Continued x y
    → SheetRead first (record { length = n; seen = y })
long-sheet first n u x y h k e p c =
    record {
      within = h;
      more = c.more;
      whole = record {
        seen-is = c.seen-is ∙ ap (λ (w : Seen). scanned w c.more) (p ∙ ap (λ (w : Seen). scanned w (take n first)) e) ∙ scan-parts unseen (take n first) c.more;
        at-hand = inr (rw (length-take-le n first h) k);
      };
    }

pub seen-on : (x y z : Seen) → Continued x y → Continued y z → Continued x z
seen-on x y z c d = part-more x y z d.more c d.seen-is
