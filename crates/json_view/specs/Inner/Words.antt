-- Words of contracts and loops beside `specs/Words.antt`; no promise of the program rests on them.
use Rattle.std.specs.Prelude.{ℕ, List, ◌++◌, codes}
use Rattle.json_view.specs.declared.faults.Shape.{Shape}
use Rattle.json_view.specs.declared.faults.ViewFault.{ViewFault}
use Rattle.json_view.specs.declared.faults.ViewFault.TheVariants as fault
use Rattle.json_view.specs.declared.wants.Wanted.TheVariants as wanted
use Rattle.json_view.specs.Words.{word_of}

-- what a fault prints: the path, and the word of what was wanted there
abbrev pub shape_text : Shape → List ℕ
shape_text s = s.path ++ (codes ": " ++ (word_of s.wanted ++ codes " wanted"))

-- what each fault prints
abbrev pub fault_text : ViewFault → List ℕ
fault_text (fault.Shape s) = shape_text s
fault_text fault.Memory = codes "out of memory"
