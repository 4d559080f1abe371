-- What a disk in memory holds after its calls, and what a crash may leave of it.
use Rattle.std.specs.Prelude.{◌≡◌, ℕ, ◌/◌, ◌≤◌, List, [], ◌∷◌, length, take, Bool, true, false}
use Rattle.emu_disk.specs.Disk.{put, Torn, Shorter, Scrambled}
use Rattle.emu_disk.specs.declared.call.Call.{Call}
use Rattle.emu_disk.specs.declared.call.Call.TheVariants.{Read, Write, Cut, Sync}

-- the bytes of a write that land: all, or where it failed the first half
abbrev pub landed : Bool → List ℕ → List ℕ
landed true bytes = bytes
landed false bytes = take (length bytes / 2) bytes

-- the first n bytes where the cut is done
abbrev pub kept : Bool → ℕ → List ℕ → List ℕ
kept true n xs = take n xs
kept false n xs = xs

-- what a read gives after a call
abbrev pub effect : Call → List ℕ → List ℕ
effect (Read at len done) xs = xs
effect (Write at bytes done) xs = put at (landed done bytes) xs
effect (Cut len done) xs = kept done len xs
effect (Sync done) xs = xs

-- what a read gives after these calls
abbrev pub content : List ℕ → List Call → List ℕ
content xs [] = xs
content xs (call ∷ calls) = content (effect call xs) calls

-- what a crash may leave after a cut, in place of an image
abbrev pub CutLeaves : Bool → ℕ → List ℕ → List ℕ → Type 0
CutLeaves true len = Shorter len
CutLeaves false len = Scrambled len

-- and after a sync, where a read gives xs
abbrev pub SyncLeaves : Bool → List ℕ → List ℕ → List ℕ → Type 0
SyncLeaves true xs old new = new ≡ xs
SyncLeaves false xs old new = new ≡ old

-- what a crash may leave after a call, in place of an image from before it, where a read gave xs
abbrev pub Step : Call → List ℕ → List ℕ → List ℕ → Type 0
Step (Read at len done) xs old new = new ≡ old
Step (Write at bytes done) xs old new = Torn at (length bytes) old new
Step (Cut len done) xs old new = CutLeaves done len old new
Step (Sync done) xs old new = SyncLeaves done xs old new

-- some image from before the call, and the step
abbrev pub Leaves : Call → List ℕ → (List ℕ → Type 0) → List ℕ → Type 0
Leaves call xs P c = (d : List ℕ) × P d × Step call xs d c

-- what a crash may leave after these calls, where before it might have left P and a read gave xs
abbrev pub LeavesAfter : (List ℕ → Type 0) → List ℕ → List Call → List ℕ → Type 0
LeavesAfter P xs [] c = P c
LeavesAfter P xs (call ∷ calls) c = LeavesAfter (Leaves call xs P) (effect call xs) calls c

-- the images of a disk that held these bytes, all of them safe, before these calls
abbrev pub IsImage : List ℕ → List Call → List ℕ → Type 0
IsImage first calls c = LeavesAfter (λ d. d ≡ first) first calls c

-- the images at some moment when at least t of the calls had been made
abbrev pub WasImage : List ℕ → List Call → ℕ → List ℕ → Type 0
WasImage first calls t c = (k : ℕ) × (t ≤ k) × (k ≤ length calls) × IsImage first (take k calls) c
