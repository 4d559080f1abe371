-- How many edits a list of two or more has: a number of four bytes, the highest first, from 2 to 65,536. It is read byte
-- by byte: a byte may stand only where some such number goes on with it.
use Rattle.std.specs.Prelude.{ℕ, zero, suc, ◌+◌, ◌*◌, ◌^◌, ◌≤◌, Bool, ◌&&◌, nat_le, nat_lt, List, Result, Ok}
use Rattle.std.specs.Int.{w32, to_be_bytes}
use Rattle.emu_names.specs.declared.limits.TheConstants.{LIST_EDITS}
use Rattle.byte_forms.specs.Forms.{Form, ◌>>=◌}
use Rattle.byte_forms.specs.Parts.{byte_at}

-- with so many bytes more, some count begins with this number
abbrev pub is_begun : ℕ → ℕ → Bool
is_begun more n = nat_lt 2 ((n + 1) * 256 ^ more) && nat_le (n * 256 ^ more) LIST_EDITS

-- the byte may stand behind this number, before so many more
abbrev pub may_follow : ℕ → ℕ → ℕ → Bool
may_follow more n b = nat_lt b 256 && is_begun more (n * 256 + b)

-- the count whose first bytes make this number, from so many more
abbrev pub count_at : ℕ → ℕ → List ℕ → Result (ℕ × List ℕ) ℕ
count_at zero n bytes = Ok (n, bytes)
count_at (suc more) n bytes = byte_at (may_follow more n) bytes >>= λ x. count_at more (n * 256 + x.0) x.1

-- a count of edits
unfoldable pub count_form : Form ℕ
count_form = record { fits = λ n. (2 ≤ n) × (n ≤ LIST_EDITS); code = to_be_bytes w32; read = count_at 4 0 }
