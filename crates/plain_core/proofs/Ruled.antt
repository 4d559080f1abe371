-- What a history makes, without the place of an edit in its entry.
use Rattle.std.proofs.Common.{◌≡◌, ap}
use Rattle.std.specs.Prelude.{Result, Ok, Err}
use Rattle.edit_undo.specs.edit_rules.Database.{DatabaseParts}
use Rattle.edit_undo.specs.edit_rules.declared.acts.Breach.{Breach}
use Rattle.session_core.specs.Inner.Kept.{ruled}

-- what is made stays
pub ruled_made : (made : Result DatabaseParts Breach) (database : DatabaseParts) → made ≡ Ok database → ruled made ≡ Ok database
ruled_made made database is = ap ruled is

-- the rule of a breach
pub ruled_broken : (made : Result DatabaseParts Breach) (breach : Breach) → made ≡ Err breach → ruled made ≡ Err breach.rule
ruled_broken made breach is = ap ruled is

-- what was made
pub made_ruled : (made : Result DatabaseParts Breach) (database : DatabaseParts) → ruled made ≡ Ok database → made ≡ Ok database
made_ruled (Ok next) database is = cc
made_ruled (Err breach) database is = absurd (cc)
