-- What takes an act back leads to the database before it.
use Rattle.std.specs.Prelude.{◌≡◌, Ok}
use Rattle.edit_rules.specs.declared.acts.Act.{Act}
use Rattle.edit_rules.specs.Database.{DatabaseParts, KeepsDatabaseRules}
use Rattle.edit_rules.specs.Effects.{effect}
use Rattle.edit_undo.specs.Before.{IsOfOneBundle}
use Rattle.edit_undo.specs.Inverse.{inverse_at}

-- an act that breaks no rule is taken back by its inverse
abbrev pub ActsAreTakenBack : Type 0
ActsAreTakenBack =
    (database next : DatabaseParts) (act back : Act) →
    KeepsDatabaseRules database → IsOfOneBundle act → effect database act ≡ Ok next →
    inverse_at database act ≡ Ok back → effect next back ≡ Ok database
