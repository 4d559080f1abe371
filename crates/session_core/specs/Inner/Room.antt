-- What contracts see of the acts that are kept. No promise of the program rests on this word.
use Rattle.std.specs.Prelude.{ℕ, List}
use Rattle.session_core.specs.declared.kept_acts.KeptAct.{KeptAct}

-- what is kept, and the room for more
pub record KeptParts : Type 0 where
  pub acts : List KeptAct
  pub room : ℕ
