-- How a disk in memory goes on with a call.
use Rattle.std.specs.Prelude.{◌≡◌, ◌⊎◌, [], ◌∷◌, ◌++◌, Bool, true, false, Result, Ok, Err}
use Rattle.emu_disk.specs.declared.call.Call.{Call}
use Rattle.emu_disk.specs.declared.log.Log.{Log}

-- one call more
pub record Adds (call : Call) (old new : Log) : Type 0 where
  pub first : new.first.items ≡ old.first.items
  pub calls : new.calls.items ≡ old.calls.items ++ call ∷ []

-- no call more
pub record Stays (old new : Log) : Type 0 where
  pub first : new.first.items ≡ old.first.items
  pub calls : new.calls.items ≡ old.calls.items

-- The call is kept as done. One that failed is kept as such, or, for want of memory, it isn't kept
-- and changed nothing.
abbrev pub Keeps : {T E : Type 0} → (Bool → Call) → Result T E → Log → Log → Type 0
Keeps call (Ok v) old new = Adds (call true) old new
Keeps call (Err e) old new = Adds (call false) old new ⊎ Stays old new
