-- In which order the lines of what is kept stand. No promise of the program rests on these words.
use Rattle.std.specs.Prelude.{◌≡◌, ◌<◌, Bool, true, List}
use Rattle.std.specs.List.{AllPairs}
use Rattle.session_core.specs.declared.kept_acts.KeptAct.{KeptAct}

-- each line is above all those before it
abbrev pub AreRising : List KeptAct → Type 0
AreRising acts = AllPairs (λ earlier later. earlier.line < later.line) acts

-- they rise where it is said
abbrev pub RiseWhere : Bool → List KeptAct → Type 0
RiseWhere rising acts = rising ≡ true → AreRising acts
