-- Laws of specs/NextRefused.antt, and what only they need.
use Rattle.std.specs.Prelude.{ℕ, ◌≡◌, refl, Bool, true, false, not, ◌||◌, ◌≢◌, List, [], ◌∷◌}
use Rattle.std.proofs.Common.{sym, ap, ◌∙◌}
use Rattle.std.proofs.lemmas.Bool.{false≢true}
use Rattle.value.specs.Operators.{pick}
use Rattle.formula.specs.declared.Refusal.TheVariants.{Memory, Unlisted, LastListed}
use Rattle.sheet_listed.specs.Small.{is_small, Behind, next, none-behind, unlisted, next_of}
use Rattle.sheet_listed.proofs.Listed.{next-unlisted, unlisted-next}
use Rattle.sheet_next.specs.Next.{handed, answers, by_behind, next_into}
use Rattle.refusals.specs.FirstRefusal.{first-refusal}
use Rattle.refusals.specs.Conditions.{no-room-for-next, is-empty, not_listed, is_last, next_table}
use Rattle.machine_tray.specs.OneByOne.{either}
use Rattle.refusals.specs.NextRefused.{is-unlisted, NextKeeps}

listed-behind : (b : Behind) → (b ≡ unlisted → ⊥) → false ≡ is-unlisted b
listed-behind (next u) n = refl
listed-behind none-behind n = refl
listed-behind unlisted n = absurd (n refl)

-- The list has not got a sheet exactly where that is neither empty nor small.
not-listed-behind : (s : List ℕ) (small : Bool) → is_small s ≡ small → not (is-empty s || small) ≡ is-unlisted (next_of s)
not-listed-behind [] small e = listed-behind (next_of []) (λ h. (unlisted-next [] h).0 refl)
not-listed-behind (x ∷ s) true e = listed-behind (next_of (x ∷ s)) (λ h. false≢true (sym (unlisted-next (x ∷ s) h).1 ∙ e))
not-listed-behind (x ∷ s) false e = ap is-unlisted (sym (next-unlisted (x ∷ s) (λ p. false≢true (ap is-empty p)) e))

next-order : (short outside : Bool) (b : Behind) (out : List ℕ) → outside ≡ is-unlisted b
    → (pick short (handed (answers 11 0 0) out) (by_behind b out)).answer.refusal
    ≡ first-refusal ((short, Memory) ∷ (outside, Unlisted) ∷ (is_last b, LastListed) ∷ [])
unfolding by_behind first-refusal
next-order true outside b out e = refl
next-order false outside (next u) out e = rw e refl
next-order false outside none-behind out e = rw e refl
next-order false outside unlisted out e = rw e refl

-- 11, 22, 23
pub next-exact : (s out : List ℕ) → (next_into s out).answer.refusal ≡ first-refusal (next_table s out)
unfolding next_into
next-exact s out = next-order (no-room-for-next out) (not_listed s) (next_of s) out (not-listed-behind s (is_small s) refl)

next-by : (s out : List ℕ) (b : Behind) → NextKeeps s out (by_behind b out)
unfolding by_behind
next-by s out (next u) h = absurd (h refl)
next-by s out none-behind h = ((LastListed, refl, refl), refl, refl)
next-by s out unlisted h = ((Unlisted, refl, refl), refl, refl)

pub next-keeps : (s out : List ℕ) → NextKeeps s out (next_into s out)
unfolding next_into
next-keeps s out = either (NextKeeps s out) (no-room-for-next out) _ _ (λ h. ((Memory, refl, refl), refl, refl)) (next-by s out (next_of s))
