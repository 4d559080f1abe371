-- What the code keeps to take lines back, beside the marks of what was accepted. No promise of the program rests on
-- these words.
use Rattle.std.specs.Prelude.{◌≡◌, List, [], ◌∷◌}
use Rattle.db_config.specs.declared.parts.ConfigParts.{ConfigParts}
use Rattle.edit_undo.specs.edit_rules.declared.acts.Entry.{Entry}
use Rattle.session_core.specs.declared.kept_acts.KeptAct.{KeptAct}
use Rattle.session_core.specs.Legal.{Mark, IsInverseOf}

-- what is kept is of the mark's line, and takes back the entry of its number
pub record IsKeptOf (c : ConfigParts) (H : List Entry) (mark : Mark) (kept : KeptAct) : Type 0 where
  pub session : kept.session ≡ mark.session
  pub line : kept.line ≡ mark.line
  pub takes : IsInverseOf c H mark.n kept.inverse

-- what is kept is what takes back the entries of these marks, in their order
abbrev pub AreKept : ConfigParts → List Entry → List Mark → List KeptAct → Type 0
AreKept c H [] [] = Unit {0}
AreKept c H [] (kept ∷ rest) = ⊥
AreKept c H (mark ∷ marks) [] = ⊥
AreKept c H (mark ∷ marks) (kept ∷ rest) = IsKeptOf c H mark kept × AreKept c H marks rest
