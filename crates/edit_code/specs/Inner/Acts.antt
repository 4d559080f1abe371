-- The code of an act, behind what tells its body.
use Rattle.std.specs.Prelude.{ℕ, List}
use Rattle.edit_rules.specs.declared.acts.Act.{Act}
use Rattle.edit_code.specs.Edits.{act_form, body_of}

-- the act in the form of its own body
abbrev pub act_code : Act → List ℕ
act_code act = (act_form (body_of act)).code act

-- the act has a code in that form
abbrev pub ActFits : Act → Type 0
ActFits act = (act_form (body_of act)).fits act
