-- The code's answers on words: what it tells of a token by the token's word. Assumes nothing.
use Rattle.std.specs.Prelude.{ℕ, ◌≡◌, Bool, Option}
use Rattle.value.specs.declared.Value.{Value}
use Rattle.value.specs.Bytes.{word_or}

abbrev pub Tells : (Option Value → Bool) → ℕ → Bool → Type 0
Tells test word r = (t : Option Value) → word ≡ word_or t → r ≡ test t
