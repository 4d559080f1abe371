-- Words of contracts and loops beside `specs/Names.antt`; no promise of the program rests on them.
use Rattle.std.specs.Prelude.{Bool, if◌then◌else◌, Option, Some, None}

-- the value, if it passes the test
abbrev pub if_so : {A : Type 0} → (A → Bool) → A → Option A
if_so test v = if test v then Some v else None
