-- Document 02, Job 6: the rows that break the kinds, "lowest row given", and the kinds line. The kinds of a row's identifiers come
-- from the rows that name it, and those of a let's row c from the rows below that, so the rows are gone through as the tree of the
-- formula has them; each is met once, since each is named once. The rule is a parameter, as a later request holds rows to another
-- rule. Assumes nothing.
use Rattle.std.specs.Prelude.{ℕ, zero, suc, Bool, true, false, cond, ◌&&◌, List, [], ◌∷◌, ◌++◌, get_or, length, take, eqb, leb, Ok, Err}
use Rattle.value.specs.Kinds.{is_letter, kind_of_letter}
use Rattle.names.specs.Names.{Names, below, size_from}
use Rattle.formula.specs.declared.Shape.{Shape}
use Rattle.formula.specs.declared.Shape.TheVariants.{Identifier, Constant, Pair, Operator, Let, If, For, Iter}
use Rattle.formula.specs.Results.{Check}
use Rattle.formula.specs.Sheet.{shape_at}
use Rattle.formula.specs.Tree.{Exp, exp_of}
use Rattle.formula.specs.Free.{inputs_of}
use Rattle.formula.specs.Places.{node_in}
use Rattle.formula.specs.Kinds.{Kinds, Rule, bind_kinds, kinds_e}

-- The rows at fault below a row, from those of the rows that it names, each in its place with the kinds of its identifiers.
unfoldable pub faults_below : (Bool → Kinds → ℕ → List ℕ) → List ℕ → Bool → Kinds → Shape → List ℕ
unfolding bind_kinds kinds_e exp_of
faults_below F t in_body kinds (Identifier a) = []
faults_below F t in_body kinds (Constant k a) = []
faults_below F t in_body kinds (Pair a b) = F false kinds a ++ F false kinds b
faults_below F t in_body kinds (Operator a b) = F false kinds b
faults_below F t in_body kinds (Let a b c d) = F false kinds c ++ F in_body (bind_kinds a b (kinds_e (exp_of t c) kinds) kinds) d
faults_below F t in_body kinds (If a b c) = F false kinds a ++ (F in_body kinds b ++ F in_body kinds c)
faults_below F t in_body kinds (For a b c d) = F false kinds c ++ F true (bind_kinds a b (kinds_e (exp_of t c) kinds) kinds) d
faults_below F t in_body kinds (Iter a) = F false kinds a

-- A row's own fault, where the rule is kept or not.
abbrev pub own_fault : ℕ → Bool → List ℕ
own_fault r kept = cond kept [] (r ∷ [])

-- Row r and the rows below it that break the rule. A row's own number is depth enough.
unfoldable pub faults_in : Rule → ℕ → List ℕ → Bool → Kinds → ℕ → List ℕ
unfolding faults_below node_in shape_at
faults_in rule zero t in_body kinds r = []
faults_in rule (suc depth) t in_body kinds r =
    own_fault r (rule (node_in in_body t r) kinds) ++ faults_below (λ b ks k. faults_in rule depth t b ks k) t in_body kinds (shape_at t r)

-- "lowest row given"
abbrev pub lower : ℕ → Check → Check
lower r (Ok _) = Err r
lower r (Err k) = Err (cond (leb r k) r k)

unfoldable pub lowest_of : List ℕ → Check
lowest_of [] = Ok tt
lowest_of (r ∷ rs) = lower r (lowest_of rs)

-- 18 "when a row breaks the kinds": of the formula, row n, whose inputs have these kinds.
unfoldable pub kind_check : Rule → List ℕ → ℕ → Kinds → Check
unfolding faults_in lowest_of
kind_check rule t n kinds = lowest_of (faults_in rule n t false kinds n)

-- ---- the kinds line: "one letter an input, W or T, and a line feed", with Job 9 "kind letter R"

-- The letters of this many inputs, then a line feed, and no more.
unfoldable pub line_well : ℕ → List ℕ → Bool
line_well zero [] = false
line_well zero (b ∷ []) = eqb b 10
line_well zero (b ∷ c ∷ s) = false
line_well (suc inputs) [] = false
line_well (suc inputs) (b ∷ s) = is_letter b && line_well inputs s

-- The inputs, rising, have the line's kinds in its order.
unfoldable pub input_kinds : Names → List ℕ → Kinds
unfolding below size_from
input_kinds f line k = kind_of_letter (get_or line (below f k) 0)

-- The letters of a formula's inputs.
unfoldable pub letters_of : Exp → List ℕ → List ℕ
unfolding inputs_of
letters_of x line = take (length (inputs_of x)) line
