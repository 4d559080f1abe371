-- What a disk that keeps its changes in room of its own has held.
use Rattle.std.specs.Prelude.{◌≡◌, ℕ, ◌+◌, ◌≤◌, List, [], ◌∷◌, length, take, drop}
use Rattle.emu_disk.specs.Disk.{put}
use Rattle.emu_disk.specs.declared.sure.Mark.{Mark}
use Rattle.emu_disk.specs.declared.sure.Mark.TheVariants.{Wrote, Cut}

-- the bytes after these changes, where the writes put these bytes one after the other
abbrev pub replay : List Mark → List ℕ → List ℕ → List ℕ
replay [] written xs = xs
replay (Wrote at len ∷ marks) written xs =
    replay marks (drop len written) (put at (take len written) xs)
replay (Cut len ∷ marks) written xs = replay marks written (take len xs)

-- how many bytes they write
abbrev pub total : List Mark → ℕ
total [] = 0
total (Wrote at len ∷ marks) = len + total marks
total (Cut len ∷ marks) = total marks

-- the bytes at some moment when at least t changes had been made
abbrev pub Held : List Mark → List ℕ → ℕ → List ℕ → Type 0
Held marks written t c =
    (k : ℕ) × (t ≤ k) × (k ≤ length marks) × (c ≡ replay (take k marks) written [])
