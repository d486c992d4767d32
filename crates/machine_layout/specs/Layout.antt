-- The layout of the machine's memory. Document 01, "Running", leaves it to us, within refusal 11: "at most 65,536 bytes at capacities 1 and
-- 2 and 32,768 more for each place above 2". All is at a fixed offset for a capacity: 256 bytes of header, 1,024 operator records of 16, as
-- many registers of 5, and 3,105 stretches, one a link. An accepted graph has at most 3 * 1024 + 33 = 3,105 links: three outputs an operator and
-- one link for each of the 33 names. Figures of two bytes lie lowest byte first. Assumes nothing.
use Rattle.std.specs.Prelude.{ℕ, ◌+◌, ◌*◌, ◌/◌, ◌%◌, Bool, true, false, ◌&&◌, List, [], ◌∷◌, ◌++◌, length, get_or, take, drop, set, leb}
use Rattle.value.specs.Operators.{pick}

-- The figure of two bytes at a place, and the memory with one written there.
unfoldable pub number16 : List ℕ → ℕ → ℕ
number16 m at = get_or m at 0 + 256 * get_or m (at + 1) 0

unfoldable pub stored16 : List ℕ → ℕ → ℕ → List ℕ
stored16 m at x = set (set m at (x % 256)) (at + 1) (x / 256)

-- ---- the header: bytes 138 to 255 are free for what later requests store

abbrev pub capacity_at : ℕ
capacity_at = 0

abbrev pub operator_count_at : ℕ
operator_count_at = 1

abbrev pub link_count_at : ℕ
link_count_at = 3

abbrev pub input_count_at : ℕ
input_count_at = 5

abbrev pub result_count_at : ℕ
result_count_at = 6

abbrev pub untaken_at : ℕ
untaken_at = 7

abbrev pub trigger_at : ℕ
trigger_at = 8

abbrev pub input_links_at : ℕ
input_links_at = 10

abbrev pub result_links_at : ℕ
result_links_at = 74

abbrev pub input_kinds_at : ℕ
input_kinds_at = 106

abbrev pub capacity_byte : List ℕ → ℕ
capacity_byte m = get_or m capacity_at 0

abbrev pub operators_of : List ℕ → ℕ
operators_of m = number16 m operator_count_at

abbrev pub links_of : List ℕ → ℕ
links_of m = number16 m link_count_at

abbrev pub inputs_of : List ℕ → ℕ
inputs_of m = get_or m input_count_at 0

abbrev pub results_of : List ℕ → ℕ
results_of m = get_or m result_count_at 0

abbrev pub untaken_of : List ℕ → ℕ
untaken_of m = get_or m untaken_at 0

-- The number 65535 names no link: a port without one, or no trigger.
abbrev pub no_link : ℕ
no_link = 65535

-- Link numbers in a row from a place on.
unfoldable pub name_at : List ℕ → ℕ → ℕ → ℕ
name_at m at j = number16 m (at + 2 * j)

-- The trigger's link, up to 32 input links and up to 16 result links; trigger and inputs stand in one row.
abbrev pub trigger_of : List ℕ → ℕ
trigger_of m = number16 m trigger_at

abbrev pub input_link : List ℕ → ℕ → ℕ
input_link m j = name_at m input_links_at j

abbrev pub result_link : List ℕ → ℕ → ℕ
result_link m j = name_at m result_links_at j

-- The most places of a link, inputs, results and sets untaken.
abbrev pub most_capacity : ℕ
most_capacity = 16

abbrev pub most_inputs : ℕ
most_inputs = 32

abbrev pub most_results : ℕ
most_results = 16

abbrev pub most_untaken : ℕ
most_untaken = 16

-- ---- the parts behind the header: the most operators and links, and where records, registers and links begin

abbrev pub most_operators : ℕ
most_operators = 1024

abbrev pub most_links : ℕ
most_links = 3105

abbrev pub records_at : ℕ
records_at = 256

abbrev pub registers_at : ℕ
registers_at = 16640

abbrev pub links_at : ℕ
links_at = 21760

-- ---- operator i: its kind's byte, a free byte, three input and three output links, two free bytes; and its register, one token

abbrev pub operator_at : ℕ → ℕ
operator_at i = records_at + 16 * i

abbrev pub kind_byte : List ℕ → ℕ → ℕ
kind_byte m i = get_or m (operator_at i) 0

abbrev pub ports_at : ℕ
ports_at = 2

-- port 0 to 2 an input, 3 to 5 an output
abbrev pub port_of : List ℕ → ℕ → ℕ → ℕ
port_of m i p = name_at m (operator_at i + ports_at) p

abbrev pub register_at : ℕ → ℕ
register_at i = registers_at + 5 * i

-- ---- link l: a stretch of `size` bytes, the count of waiting tokens and `capacity` tokens of five bytes

abbrev pub size_of : ℕ → ℕ
size_of capacity = 5 * capacity + 1

-- the stretch of a link with one place, and with sixteen
abbrev pub least_size : ℕ
least_size = 6

abbrev pub most_size : ℕ
most_size = 81

-- Its place where the links begin at a byte `base`, and what the links there need; a firing is stated over that byte.
abbrev pub link_from : ℕ → ℕ → ℕ → ℕ
link_from base size l = base + l * size

abbrev pub need_from : ℕ → ℕ → ℕ
need_from base size = base + most_links * size

-- a memory that can be lent is shorter
abbrev pub addresses : ℕ
addresses = 18446744073709551616

abbrev pub link_at : ℕ → ℕ → ℕ
link_at size l = link_from links_at size l

-- What a machine needs: 40,390 bytes at capacity 1, 55,915 at 2, 15,525 for each place above.
abbrev pub need : ℕ → ℕ
need size = need_from links_at size

-- "the capacity asked or stored (1 where outside 1..16)"
unfoldable pub capacity_in : ℕ → ℕ
capacity_in c = pick (leb 1 c && leb c most_capacity) c 1

-- a memory without a capacity byte counts as one that holds 0 there
abbrev pub capacity_of : List ℕ → ℕ
capacity_of m = capacity_in (capacity_byte m)

-- ---- a part of memory, and the memory with another in its place; the kind of each input is stored as its letter of the kinds line

abbrev pub part : List ℕ → ℕ → ℕ → List ℕ
part m base size = take size (drop base m)

abbrev pub stored_kinds : List ℕ → List ℕ
stored_kinds m = part m input_kinds_at (inputs_of m)

abbrev pub put : List ℕ → ℕ → ℕ → List ℕ → List ℕ
put m base size ys = take base m ++ (ys ++ drop (base + size) m)
