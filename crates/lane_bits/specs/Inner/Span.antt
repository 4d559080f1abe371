-- Rows of bits of which only a stretch is held.
use Rattle.std.specs.Prelude.{◌≡◌, ℕ, ◌+◌, ◌-◌, ◌<◌, ◌≤◌, ◌&&◌, Bool, true, false, List, length, get_or, map, nat_le}
use Rattle.std.specs.List.{range_with_len}

-- the bit at a place, of bits that stand from a place on
abbrev pub span_bit : ℕ → List Bool → ℕ → Bool
span_bit start bits i = nat_le start i && get_or bits (i - start) false

-- so many bits, of which those of the stretch are these, and no other is set
abbrev pub span_of : ℕ → List Bool → ℕ → List Bool
span_of start bits n = map (span_bit start bits) (range_with_len 0 n)

-- a stretch lies in a row of so many bits
abbrev pub Fits : ℕ → List Bool → ℕ → Type 0
Fits start bits n = start + length bits ≤ n

-- the places from one to before another are among those of a stretch
abbrev pub HasRoom : ℕ → List Bool → ℕ → ℕ → Type 0
HasRoom start bits from to = (start ≤ from) × (to ≤ start + length bits)
