-- What callers see of a disk in memory.
use Rattle.std.specs.Prelude.{◌≡◌, ◌⊎◌, ℕ, ◌+◌, ◌-◌, ◌^◌, min, List, [], ◌∷◌, ◌++◌, length, Bool, true, false, Option, Some, Result, Ok, Err, OnOk, OnErr}
use Rattle.emu_disk.specs.declared.call.Call.{Call}
use Rattle.emu_disk.specs.declared.memory.MemoryDisk.{MemoryDisk}
use Rattle.emu_disk.specs.Inner.Memory.{IsImage, WasImage}
use Rattle.emu_disk.specs.Inner.Plan.{IsDue}

-- the bytes that a read gives
abbrev pub bytes_of : MemoryDisk → List ℕ
bytes_of disk = disk.log.bytes.items

-- the calls so far
abbrev pub calls_of : MemoryDisk → List Call
calls_of disk = disk.log.calls.items

-- the bytes before the first call
abbrev pub first_of : MemoryDisk → List ℕ
first_of disk = disk.log.first.items

-- what a read gives, as a disk tells it
abbrev pub reads_of : MemoryDisk → Option (List ℕ)
reads_of disk = Some (bytes_of disk)

-- what a crash may leave now
abbrev pub images_of : MemoryDisk → List ℕ → Type 0
images_of disk = IsImage disk.log.first.items disk.log.calls.items

-- the moment: how many calls it has kept
abbrev pub moment_of : MemoryDisk → ℕ
moment_of disk = length disk.log.calls.items

-- what a crash at some moment since then might have left
abbrev pub past_of : MemoryDisk → ℕ → List ℕ → Type 0
past_of disk = WasImage disk.log.first.items disk.log.calls.items

-- how often it has failed
abbrev pub faults_of : MemoryDisk → ℕ
faults_of disk = disk.faults

-- the places of the calls that are to fail
abbrev pub failing_of : MemoryDisk → List ℕ
failing_of disk = disk.plan.failing.items

-- the number of calls after which it stops
abbrev pub stop_of : MemoryDisk → Option ℕ
stop_of disk = disk.plan.stop

-- the number of calls that were made
abbrev pub made_of : MemoryDisk → ℕ
made_of disk = disk.plan.made

-- the calls after one that answered a result: it stands there as done or as failed, or, for want of
-- memory alone, not at all
abbrev pub CallsAfter : {T E : Type 0} → (Bool → Call) → Result T E → List Call → List Call → Type 0
CallsAfter call (Ok v) old new = new ≡ old ++ call true ∷ []
CallsAfter call (Err e) old new = (new ≡ old ++ call false ∷ []) ⊎ (new ≡ old)

-- a call was made; one that failed was to fail, or is not kept
pub record IsMade {T E : Type 0} (call : Bool → Call) (result : Result T E)
    (old new : MemoryDisk) : Type 0 where
  pub due : OnOk result (IsDue old.plan)
  pub failed : OnErr result ((IsDue old.plan → ⊥) ⊎ (calls_of new ≡ calls_of old))
  pub calls : CallsAfter call result (calls_of old) (calls_of new)
  pub first : first_of new ≡ first_of old
  pub failing : failing_of new ≡ failing_of old
  pub stop : stop_of new ≡ stop_of old
  pub made : made_of new ≡ min (made_of old + 1) (2 ^ 64 - 1)
