-- Whole numbers from 0 to 65,536, as decimals: the number of tiers, and of entries of a tier.
use Rattle.std.specs.Prelude.{ℕ, suc, ◌*◌, ◌/◌, ◌%◌, ◌^◌, ◌==◌, nat_le, if◌then◌else◌, ℤ, pos, negsuc, Option, Some, None}
use Rattle.emu_names.specs.declared.limits.TheConstants.{GRID_ENTRIES}
use Rattle.sample_time.specs.declared.decimal.Decimal.{Decimal}
use Rattle.sample_time.specs.Sample.{is_negative}

-- digits * 10^exponent, where that is whole
abbrev pub whole_of : ℕ → ℤ → Option ℕ
whole_of digits (pos n) = Some (digits * 10 ^ n)
whole_of digits (negsuc n) = if digits % 10 ^ suc n == 0 then Some (digits / 10 ^ suc n) else None

-- a number, where it is at most 65,536
abbrev pub at_most : Option ℕ → Option ℕ
at_most None = None
at_most (Some n) = if nat_le n GRID_ENTRIES then Some n else None

-- the whole number that the decimal is, where it is one from 0 to 65,536
abbrev pub count_of : Decimal → Option ℕ
count_of number = if is_negative number then None else at_most (whole_of number.digits number.exponent)
