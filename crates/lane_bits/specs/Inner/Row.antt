-- What is asked of a row of bits, and of a column of numbers.
use Rattle.std.specs.Prelude.{◌≡◌, ℕ, ◌<◌, ◌≤◌, ◌&&◌, Bool, true, false, List, length, nat_le, slice_get, Option, None, Some}

-- the number is from `low` to `high`
abbrev pub is_between : ℕ → ℕ → ℕ → Bool
is_between low high x = nat_le low x && nat_le x high

-- no bit of the row is set at a place for which the test holds
abbrev pub NoneWhere : List Bool → (ℕ → Type 0) → Type 0
NoneWhere bits P = (i : ℕ) → i < length bits → P i → slice_get bits i ≡ Some false

-- the first place at which a bit is set, or none, where no bit is
abbrev pub IsFirst : List Bool → Option ℕ → Type 0
IsFirst bits None = NoneWhere bits (λ i. Unit {0})
IsFirst bits (Some at) = (slice_get bits at ≡ Some true) × NoneWhere bits (λ i. i < at)

-- the first place from one on at which a bit is set, or none, where no bit is
abbrev pub IsNext : ℕ → List Bool → Option ℕ → Type 0
IsNext from bits None = NoneWhere bits (λ i. from ≤ i)
IsNext from bits (Some at) = (from ≤ at) × (slice_get bits at ≡ Some true) × NoneWhere bits (λ i. (from ≤ i) × (i < at))

-- the last place at which a bit is set, or none, where no bit is
abbrev pub IsLast : List Bool → Option ℕ → Type 0
IsLast bits None = NoneWhere bits (λ i. Unit {0})
IsLast bits (Some at) = (slice_get bits at ≡ Some true) × NoneWhere bits (λ i. at < i)
