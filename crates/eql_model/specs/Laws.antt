-- What the tuples and the results of a query come to (EMU-SDMS Manual, "The EMU Query Language (EQL)"), each law
-- said by itself.
use Rattle.db_config.specs.declared.parts.ConfigParts.{ConfigParts}
use Rattle.bundle_state.specs.Bundle.{BundleParts}
use Rattle.eql_resolve.specs.Asked.{AskedQuery, level_of, result_level, AreOnOneLevel}
use Rattle.eql_resolve.specs.Sound.{IsQueryOf}
use Rattle.eql_model.specs.Meaning.{tuples, LieOn}
use Rattle.eql_model.specs.Results.{results}
use Rattle.eql_rows.specs.Spans.{AreThere}

-- the tuples of a query lie on its level
abbrev pub TuplesLieOnLevel : Type 0
TuplesLieOnLevel =
    (c : ConfigParts) (b : BundleParts) (q : AskedQuery) →
    AreOnOneLevel q → LieOn b.levels (level_of q) (tuples c b q)

-- the results of a query are there in its bundle, on the level of the results
abbrev pub ResultsAreThere : Type 0
ResultsAreThere =
    (c : ConfigParts) (b : BundleParts) (q : AskedQuery) →
    IsQueryOf c q → AreOnOneLevel q → AreThere c b (result_level q) (results c b q)
