-- The links of a memory: each is the stretch at its place (machine_layout's specs/Layout, machine_queue's specs/Stretch), counted from the byte `base` on
-- where links begin. A number from 3105 on is no link: nothing waits there, there is always room, and nothing happens to it; so each of these holds for
-- all contents of the memory.
use Rattle.std.specs.Prelude.{ℕ, Bool, true, false, List, ltb, Option}
use Rattle.value.specs.declared.Value.{Value}
use Rattle.value.specs.Operators.{pick}
use Rattle.value.specs.Bytes.{decoded, value_of}
use Rattle.machine_queue.specs.Stretch.{head_of, room_in, appended, removed}
use Rattle.machine_layout.specs.Layout.{links_at, link_from, part, put}

-- the word of the first token that waits, or 0
unfoldable pub head_from : List ℕ → ℕ → ℕ → ℕ → ℕ
head_from m base size l = pick (ltb l 3105) (head_of (part m (link_from base size l) size)) 0

-- that token, none where the word is no value
unfoldable pub token_from : List ℕ → ℕ → ℕ → ℕ → Option Value
token_from m base size l = decoded (value_of (head_from m base size l))

-- a place is free
unfoldable pub room_from : List ℕ → ℕ → ℕ → ℕ → Bool
room_from m base size l = pick (ltb l 3105) (room_in (part m (link_from base size l) size)) true

-- a link changed, and nothing else
abbrev pub on_link_from : List ℕ → ℕ → ℕ → ℕ → (List ℕ → List ℕ) → List ℕ
on_link_from m base size l f = pick (ltb l 3105) (put m (link_from base size l) size (f (part m (link_from base size l) size))) m

unfoldable pub removed_from : List ℕ → ℕ → ℕ → ℕ → List ℕ
removed_from m base size l = on_link_from m base size l removed

unfoldable pub appended_from : List ℕ → ℕ → ℕ → ℕ → ℕ → List ℕ
appended_from m base size l w = on_link_from m base size l (λ q. appended q w)

-- ---- the same for the links of a machine, from `links_at` on

abbrev pub head_at : List ℕ → ℕ → ℕ → ℕ
head_at m size l = head_from m links_at size l

abbrev pub token_at : List ℕ → ℕ → ℕ → Option Value
token_at m size l = token_from m links_at size l

abbrev pub room_at : List ℕ → ℕ → ℕ → Bool
room_at m size l = room_from m links_at size l

abbrev pub on_link : List ℕ → ℕ → ℕ → (List ℕ → List ℕ) → List ℕ
on_link m size l f = on_link_from m links_at size l f

abbrev pub removed_at : List ℕ → ℕ → ℕ → List ℕ
removed_at m size l = removed_from m links_at size l

abbrev pub appended_at : List ℕ → ℕ → ℕ → ℕ → List ℕ
appended_at m size l w = appended_from m links_at size l w
