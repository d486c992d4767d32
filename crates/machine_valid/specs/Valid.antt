-- Refusal 31 of document 01: "a stored figure or token outside its range, or a link named twice by one operator, the inputs or the results".
-- A memory is valid where neither is so. Only the part that the graph uses is looked at: the operators, links, inputs and results that the
-- header counts. Two operators may share a link. Assumes nothing.
use Rattle.std.specs.Prelude.{ℕ, ◌+◌, ◌*◌, Bool, ◌&&◌, ◌||◌, not, List, length, get_or, leb, ltb, eqb}
use Rattle.value.specs.Operators.{pick}
use Rattle.value.specs.Bytes.{is_some, value_of, word_at}
use Rattle.value.specs.Constants.{in_constant_range}
use Rattle.machine_queue.specs.Stretch.{waiting}
use Rattle.value.specs.Kinds.{is_letter}
use Rattle.machine_layout.specs.Layout.{input_kinds_at, most_operators, most_links, most_capacity, most_inputs, most_results, most_untaken, trigger_at, result_links_at, ports_at, capacity_byte, operators_of, links_of, inputs_of, results_of, untaken_of, no_link, name_at, trigger_of, operator_at, kind_byte, register_at, links_at, size_of, link_from, part}
use Rattle.network.specs.Rules.{constant, FM-gate, FS-gate}
use Rattle.machine_layout.specs.Kinds.{byte_of, has_port, may_lack}
use Rattle.machine_valid.specs.Below.{all_below}

-- ---- the figures of the header

-- the graph's: up to 1,024 operators, 3,105 links and 32 inputs; 1 to 16 results; a trigger's link or none
unfoldable pub counts_ok : List ℕ → Bool
counts_ok m =
    leb (operators_of m) most_operators && (leb (links_of m) most_links && (leb (inputs_of m) most_inputs
    && (leb 1 (results_of m) && (leb (results_of m) most_results && (ltb (trigger_of m) (links_of m) || eqb (trigger_of m) no_link)))))

-- and the machine's: capacity 1 to 16, up to 16 sets untaken
unfoldable pub figures_ok : List ℕ → Bool
figures_ok m = leb 1 (capacity_byte m) && (leb (capacity_byte m) most_capacity && (leb (untaken_of m) most_untaken && counts_ok m))

-- ---- names in a row: each names a link, and none is named twice

-- a name, against one before it in the row: no link, or another
unfoldable pub unlike : ℕ → ℕ → Bool
unlike x y = not (eqb x y) || eqb x no_link

unfoldable pub unlike_at : List ℕ → ℕ → ℕ → ℕ → Bool
unlike_at m at p q = unlike (name_at m at p) (name_at m at q)

unfoldable pub fresh_at : List ℕ → ℕ → ℕ → Bool
fresh_at m at p = all_below p (unlike_at m at p)

-- every result names a link, and so does every input; the trigger stands before the inputs and may be none
unfoldable pub result_ok : List ℕ → ℕ → ℕ → Bool
result_ok m at p = ltb (name_at m at p) (links_of m) && fresh_at m at p

unfoldable pub input_ok : List ℕ → ℕ → Bool
input_ok m p = (ltb (name_at m trigger_at p) (links_of m) || eqb p 0) && fresh_at m trigger_at p

-- the kind of each input is stored as its letter (document 02, Job 6)
unfoldable pub letter_ok : List ℕ → ℕ → Bool
letter_ok m j = is_letter (get_or m (input_kinds_at + j) 0)

-- ---- operators

-- a port of a kind: a link where the kind has that port; none where it has not, or may lack it
unfoldable pub port_ok : ℕ → ℕ → ℕ → ℕ → Bool
port_ok kind links p x = pick (has_port kind p) (ltb x links || (may_lack kind p && eqb x no_link)) (eqb x no_link)

unfoldable pub named_ok : List ℕ → ℕ → ℕ → ℕ → Bool
named_ok m at kind p = port_ok kind (links_of m) p (name_at m at p) && fresh_at m at p

-- a constant holds a value in the range of a sheet's constants, FM and FS a value or nothing yet (0), every other kind nothing
unfoldable pub register_ok : ℕ → ℕ → Bool
register_ok kind w = pick (eqb kind (byte_of constant)) (in_constant_range (value_of w)) (eqb w 0 || (leb (byte_of FM-gate) kind && is_some (value_of w)))

unfoldable pub kind_ok : ℕ → Bool
kind_ok kind = leb 1 kind && leb kind (byte_of FS-gate)

unfoldable pub operator_ok : List ℕ → ℕ → Bool
operator_ok m i =
    kind_ok (kind_byte m i)
    && (all_below 6 (named_ok m (operator_at i + ports_at) (kind_byte m i)) && register_ok (kind_byte m i) (word_at m (register_at i)))

-- ---- links: no more tokens than the capacity, and each token a value; "Patterns that are not finite are refused with 12, in a stored token with 31"

unfoldable pub token_ok : List ℕ → ℕ → Bool
token_ok q j = is_some (value_of (word_at q (5 * j + 1)))

unfoldable pub stretch_ok : List ℕ → Bool
stretch_ok q = leb (5 * waiting q + 1) (length q) && all_below (waiting q) (token_ok q)

-- link l of those that begin at a byte `base`, and of the machine's
unfoldable pub link_ok_from : List ℕ → ℕ → ℕ → ℕ → Bool
link_ok_from m base size l = stretch_ok (part m (link_from base size l) size)

abbrev pub link_ok : List ℕ → ℕ → ℕ → Bool
link_ok m size l = link_ok_from m links_at size l

-- ---- the whole

unfoldable pub valid : List ℕ → Bool
valid m =
    figures_ok m
    && (all_below (operators_of m) (operator_ok m)
    && (all_below (links_of m) (link_ok m (size_of (capacity_byte m)))
    && (all_below (inputs_of m + 1) (input_ok m) && (all_below (inputs_of m) (letter_ok m) && all_below (results_of m) (result_ok m result_links_at)))))
