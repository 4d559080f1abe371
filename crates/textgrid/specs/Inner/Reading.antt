-- Words of contracts and loops beside `specs/Reading.antt`; no promise of the program rests on them.
use Rattle.std.specs.Prelude.{◌≡◌, List, [], ◌∷◌, ◌++◌, None, Result, Ok, Err}
use Rattle.textgrid.specs.declared.fault.GridWhat.{GridWhat}
use Rattle.textgrid.specs.declared.values.Placed.{Placed}
use Rattle.textgrid.specs.declared.entries.Halt.{Halt}
use Rattle.textgrid.specs.declared.entries.Halt.TheVariants.{Stopped, Memory}
use Rattle.textgrid.specs.Reading.{Answer}

-- any value
abbrev pub next_at : GridWhat → List Placed → Answer Placed
next_at what [] = Err (None, what)
next_at what (p ∷ ps) = Ok (p, ps)

-- what a call answers is what is told of the values, and these are left
abbrev pub Reads : {A : Type 0} → Result A Halt → Answer A → List Placed → Type 0
Reads (Ok a) told left = told ≡ Ok (a, left)
Reads (Err (Stopped place what)) told left = told ≡ Err (place, what)
Reads (Err Memory) told left = Unit {0}

-- list elements that were read, in front of others
abbrev pub behind : {A : Type 0} → List A → Answer (List A) → Answer (List A)
behind done (Ok r) = Ok (done ++ r.0, r.1)
behind done (Err e) = Err e
