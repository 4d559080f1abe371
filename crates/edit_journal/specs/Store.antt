-- The bytes of a store, and the list of bodies that they stand for. Numbers are big-endian.
use Rattle.std.specs.Prelude.{◌≡◌, ℕ, zero, suc, ◌+◌, ◌^◌, ◌≤◌, List, [], ◌∷◌, ◌++◌, length, take, drop, Bool, ◌&&◌, ◌==◌, nat_eq, nat_lt, nat_le, if◌then◌else◌, Result, Ok, Err}
use Rattle.std.specs.Int.{w32, from_be_bytes, to_be_bytes}
use Rattle.std.specs.Cmp.Lexicographic.{pointwise}
use Rattle.emu_names.specs.declared.limits.TheConstants.{STORE_BYTES}
use Rattle.edit_journal.specs.declared.body.Body.{Body}

-- the most bytes of a store
abbrev pub limit : ℕ
limit = STORE_BYTES

-- the eight bytes `EMUSTORE`, with which a store begins
abbrev pub head : List ℕ
head = 69 ∷ 77 ∷ 85 ∷ 83 ∷ 84 ∷ 79 ∷ 82 ∷ 69 ∷ []

-- a body and the place of its gate
unfoldable pub body_at : ℕ → List ℕ → Body
body_at at bytes = record { at = at; bytes = bytes }

-- a length of four bytes
unfoldable pub size_of : ℕ → ℕ → ℕ → ℕ → ℕ
size_of a b c d = from_be_bytes w32 (a ∷ b ∷ c ∷ d ∷ [])

-- a body has a byte, and is all there
abbrev pub is_whole : ℕ → List ℕ → Bool
is_whole size rest = nat_lt 0 size && nat_le size (length rest)

-- the bodies in front of these
abbrev pub with_front : List Body → Result (List Body) ℕ → Result (List Body) ℕ
with_front front (Ok more) = Ok (front ++ more)
with_front front (Err at) = Err at

-- The bodies from a place on, up to the first gate that is not open (1), or the place of the
-- damage: where a gate is missing, or where the gate stands behind which the length is cut, is 0 or
-- passes the end. Each step needs a byte, so as many steps as there are bytes are enough.
abbrev pub walk : ℕ → ℕ → List ℕ → Result (List Body) ℕ
walk zero at bytes = Err at
walk (suc steps) at [] = Err at
walk (suc steps) at (gate ∷ a ∷ b ∷ c ∷ d ∷ rest) =
    if gate == 1 then (
    if is_whole (size_of a b c d) rest
    then with_front (body_at at (take (size_of a b c d) rest) ∷ [])
    (walk steps (at + 5 + size_of a b c d) (drop (size_of a b c d) rest))
    else Err at
    ) else Ok []
walk (suc steps) at (gate ∷ rest) = if gate == 1 then Err at else Ok []

-- the list of bodies with their gates' places, or the place of the damage
abbrev pub bodies : List ℕ → Result (List Body) ℕ
bodies bytes =
    if nat_le (length bytes) limit then (
    if nat_le (length bytes) 9 then Ok []
    else (
    if pointwise nat_eq (take 8 bytes) head then walk (length bytes) 8 (drop 8 bytes) else Err 0
    )
    ) else Err limit

-- a body behind an open gate, as it is written
abbrev pub frame : List ℕ → List ℕ
frame body = 1 ∷ (to_be_bytes w32 (length body) ++ body)

-- such bodies, one after the other
abbrev pub frames : List (List ℕ) → List ℕ
frames [] = []
frames (body ∷ more) = frame body ++ frames more

-- a store's bytes in front of the gate that ends its list
abbrev pub start : List (List ℕ) → List ℕ
start texts = head ++ frames texts

-- the bodies with their gates' places, from a place on
abbrev pub placed : ℕ → List (List ℕ) → List Body
placed at [] = []
placed at (body ∷ more) = body_at at body ∷ placed (at + 5 + length body) more

-- a body has 1 to 2^28 bytes
abbrev pub IsSized : List ℕ → Type 0
IsSized body = (1 ≤ length body) × (length body ≤ 2 ^ 28)

-- each of these bodies has 1 to 2^28 bytes
abbrev pub AreSized : List (List ℕ) → Type 0
AreSized [] = Unit {0}
AreSized (body ∷ more) = IsSized body × AreSized more

-- these bytes stand for the list of these bodies
abbrev pub StandsFor : List (List ℕ) → List ℕ → Type 0
StandsFor texts c = bodies c ≡ Ok (placed 8 texts)
