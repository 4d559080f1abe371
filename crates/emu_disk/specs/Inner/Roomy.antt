-- What callers see of a disk with its own room.
use Rattle.std.specs.Prelude.{◌≡◌, ℕ, ◌-◌, List, length, Option, Some}
use Rattle.emu_disk.specs.declared.sure.SureDisk.{SureDisk}
use Rattle.emu_disk.specs.Inner.Sure.{Held}

-- the bytes that a read gives
abbrev pub bytes_of : SureDisk → List ℕ
bytes_of disk = disk.bytes.items

-- how many bytes may still be written
abbrev pub room_of : SureDisk → ℕ
room_of disk = disk.room - length disk.written.items

-- what a read gives, as a disk tells it
abbrev pub reads_of : SureDisk → Option (List ℕ)
reads_of disk = Some (bytes_of disk)

-- what a crash may leave now: what a read gives
abbrev pub images_of : SureDisk → List ℕ → Type 0
images_of disk c = c ≡ disk.bytes.items

-- the moment: how many changes it has had
abbrev pub moment_of : SureDisk → ℕ
moment_of disk = length disk.marks.items

-- what a crash at some moment since then might have left
abbrev pub past_of : SureDisk → ℕ → List ℕ → Type 0
past_of disk = Held disk.marks.items disk.written.items

-- how often it has failed
abbrev pub faults_of : SureDisk → ℕ
faults_of disk = disk.faults
