-- Words of contracts and loops beside `specs/Sound.antt`; no promise of the program rests on them.
use Rattle.std.specs.Prelude.{◌≡◌, ℕ, ◌<◌, true, length, IfSome}
use Rattle.db_config.specs.declared.parts.ConfigParts.{ConfigParts}
use Rattle.eql_resolve.specs.Asked.{AskedQuery, AskedParts, AreOnOneLevel}
use Rattle.eql_resolve.specs.Resolve.{is_item_level, is_segment_level, gives_times}
use Rattle.eql_resolve.specs.Sound.{IsQueryOf}

-- the levels and attributes of a query are there, and the levels agree that have to
pub record IsSound (c : ConfigParts) (q : AskedQuery) : Type 0 where
  pub within : IsQueryOf c q
  pub one_level : AreOnOneLevel q

-- a SEGMENT level, from which results on an ITEM level can have their times
pub record IsTimeLevel (c : ConfigParts) (time : ℕ) : Type 0 where
  pub within : time < length c.levels
  pub segment : is_segment_level c time ≡ true

-- the level of the results is an ITEM level, and the level of the times a SEGMENT level below it
pub record IsTimeOf (c : ConfigParts) (level time : ℕ) : Type 0 where
  pub within : time < length c.levels
  pub item : is_item_level c level ≡ true
  pub below : gives_times c level time ≡ true

-- The query was resolved by the configuration: its levels and attributes are there, the levels agree
-- that have to, and the level of the times is a SEGMENT level.
pub record IsResolvedBy (c : ConfigParts) (a : AskedParts) : Type 0 where
  pub within : IsQueryOf c a.query
  pub one_level : AreOnOneLevel a.query
  pub time : IfSome a.time (IsTimeLevel c)
