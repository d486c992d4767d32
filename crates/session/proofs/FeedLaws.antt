-- Laws of specs/FeedLaws.antt, and what only they need.
use Rattle.std.specs.Prelude.{ℕ, suc, ◌+◌, ◌-◌, ◌*◌, ◌≤◌, ◌<◌, ◌≡◌, refl, true, false, List, [], ◌∷◌, ◌++◌, length, take, drop}
use Rattle.std.proofs.Common.{sym, ap, subst, ◌∙◌, arith, eq-eqb, ne_eqb, length-drop, drop-drop, take_at}
use Rattle.machine_calls.specs.Calls.{pushed}
use Rattle.text.specs.SetLines.{lines_of, line_at, is_set_line, field_bytes, SetFile, sets, bad_line, one_more, sets_from}
use Rattle.text.proofs.SetLineLaws.{bad-line, good-line, no_line, bytes-length}
use Rattle.session.specs.Passes.{Fed, fed, feeding}
use Rattle.session.specs.Waiting.{Waiting, FeedsTo}
use Rattle.session.specs.FeedLaws.{FedOn}

-- ---- feeding, push by push
pub feed-refused : (s : List ℕ) (ss : List (List ℕ)) (m : List ℕ) → ((pushed m s).answer.refusal ≡ 0 → ⊥) → feeding (s ∷ ss) m ≡ fed (pushed m s).mem (s ∷ ss)
unfolding feeding
feed-refused s ss m n = rw (ne_eqb (pushed m s).answer.refusal 0 n) refl

pub feed-accepted : (s : List ℕ) (ss : List (List ℕ)) (m : List ℕ) → (pushed m s).answer.refusal ≡ 0 → feeding (s ∷ ss) m ≡ feeding ss (pushed m s).mem
unfolding feeding
feed-accepted s ss m e = rw (eq-eqb (pushed m s).answer.refusal 0 e) refl

pub feed-none : (m : List ℕ) → feeding [] m ≡ fed m []
unfolding feeding
feed-none m = refl

-- ---- the sets that wait, line by line
pub one-more-sets : (b : List ℕ) (f : SetFile) (ss : List (List ℕ)) → one_more b f ≡ sets ss → (ts : List (List ℕ)) × (f ≡ sets ts) × (ss ≡ b ∷ ts)
unfolding one_more
one-more-sets b (sets ts) ss e = (ts, refl, let z : sets (b ∷ ts) ≡ sets ss = e in cc)
one-more-sets b (bad_line i) ss e = let z : ◌≡◌ {A = ℕ} 0 1 = cc in absurd (omega arith)

module _ (kinds s : List ℕ) (at : ℕ) where
  abbrev line : List ℕ
  line = line_at kinds s at

  pub waiting-set : (rest : List (List ℕ)) → Waiting kinds s at rest → is_set_line kinds line ≡ true
      → (ts : List (List ℕ)) × Waiting kinds s (at + (11 * length kinds + 1)) ts × (rest ≡ field_bytes (length kinds) line ∷ ts)
  waiting-set rest w e =
      let g = good-line kinds w.line (drop at s) e in
      let o = one-more-sets (field_bytes (length kinds) line) (sets_from kinds (suc w.line) (lines_of (drop (11 * length kinds + 1) (drop at s)))) rest (sym g ∙ w.lines_are) in (
        o.0,
        record { line = suc w.line; lines_are = ap (λ (x : List ℕ). sets_from kinds (suc w.line) (lines_of x)) (sym (drop-drop (11 * length kinds + 1) at s)) ∙ o.1 },
        o.2,
      )

  pub waiting-bad : (rest : List (List ℕ)) → Waiting kinds s at rest → at < length s → is_set_line kinds line ≡ false → ⊥
  waiting-bad rest w h e =
      let g = bad-line kinds w.line (drop at s) (rw (length-drop at s) (omega arith)) e in
      let z : bad_line w.line ≡ sets rest = sym g ∙ w.lines_are in
      let y : ◌≡◌ {A = ℕ} 0 1 = cc in omega arith

  pub waiting_none : (rest : List (List ℕ)) → Waiting kinds s at rest → length s ≤ at → rest ≡ []
  waiting_none rest w h =
      let g = no_line kinds w.line (drop at s) (rw (length-drop at s) (omega arith)) in
      let z : sets [] ≡ sets rest = sym g ∙ w.lines_are in
      cc

pub fed-start : (kinds s : List ℕ) (at : ℕ) (m : List ℕ) → FedOn kinds s at m at m
fed-start kinds s at m = record { on = λ rest w. (rest, w, refl) }

module _ (kinds s : List ℕ) (at : ℕ) (m₀ : List ℕ) (next : ℕ) (m : List ℕ) (f : FedOn kinds s at m₀ next m) where
  pub fed-more : is_set_line kinds (line_at kinds s next) ≡ true → (pushed m (field_bytes (length kinds) (line_at kinds s next))).answer.refusal ≡ 0
      → FedOn kinds s at m₀ (next + (11 * length kinds + 1)) (pushed m (field_bytes (length kinds) (line_at kinds s next))).mem
  fed-more e a =
      record {
        on = λ rest w.
            let o = f.on rest w in
            let p = waiting-set kinds s next o.0 o.1 e in
            (p.0, p.1, o.2 ∙ ap (λ (x : List (List ℕ)). feeding x m) p.2 ∙ feed-accepted (field_bytes (length kinds) (line_at kinds s next)) p.0 m a);
      }

  pub fed-stop : is_set_line kinds (line_at kinds s next) ≡ true → ((pushed m (field_bytes (length kinds) (line_at kinds s next))).answer.refusal ≡ 0 → ⊥)
      → FeedsTo kinds s at m₀ next (pushed m (field_bytes (length kinds) (line_at kinds s next))).mem
  fed-stop e n rest w =
      let o = f.on rest w in
      let p = waiting-set kinds s next o.0 o.1 e in
      let r : feeding rest m₀ ≡ fed (pushed m (field_bytes (length kinds) (line_at kinds s next))).mem o.0 =
      o.2 ∙ ap (λ (x : List (List ℕ)). feeding x m) p.2 ∙ feed-refused (field_bytes (length kinds) (line_at kinds s next)) p.0 m n
      ∙ ap (fed (pushed m (field_bytes (length kinds) (line_at kinds s next))).mem) (sym p.2) in
      (ap (λ (x : Fed). x.mem) (sym r), subst (λ (x : Fed). Waiting kinds s next x.rest) (sym r) o.1)

  pub fed-bad : next < length s → is_set_line kinds (line_at kinds s next) ≡ false → FeedsTo kinds s at m₀ next m
  fed-bad h e rest w = let o = f.on rest w in absurd (waiting-bad kinds s next o.0 o.1 h e)

  pub fed-end : length s ≤ next → FeedsTo kinds s at m₀ next m
  fed-end h rest w =
      let o = f.on rest w in
      let r : feeding rest m₀ ≡ fed m o.0 =
      o.2 ∙ ap (λ (x : List (List ℕ)). feeding x m) (waiting_none kinds s next o.0 o.1 h) ∙ feed-none m
      ∙ ap (fed m) (sym (waiting_none kinds s next o.0 o.1 h)) in
      (ap (λ (x : Fed). x.mem) (sym r), subst (λ (x : Fed). Waiting kinds s next x.rest) (sym r) o.1)

-- The bytes that are lent to push are the line's.
pub set-lent : (k : ℕ) (l o t : List ℕ) → t ≡ field_bytes k l ++ o → take (5 * k) t ≡ field_bytes k l
set-lent k l o t e = ap (take (5 * k)) e ∙ take_at (field_bytes k l) o (5 * k) (bytes-length k l)
