-- What a query asks of a database: each name is looked up, from the left, the operands before their
-- operator and the time last; the first fault is the answer. (EMU-SDMS Manual, "The EMU Query Language
-- version 2".)
use Rattle.std.specs.Prelude.{ℕ, Bool, true, false, ◌&&◌, ◌||◌, ◌==◌, List, [], ◌∷◌, length, filter, Option, Some, None, option_map, Result, Ok, Err, if◌then◌else◌, ok_or}
use Rattle.std.specs.List.{list_all, range_with_len, slice_get}
use Rattle.std.specs.Option.{option_map_or}
use Rattle.json_view.specs.Steps.{◌>>=◌, with_front}
use Rattle.emu_names.specs.declared.kinds.LevelKind.{LevelKind}
use Rattle.emu_names.specs.declared.kinds.LevelKind.TheVariants.{Item, Segment, Event}
use Rattle.db_config.specs.declared.parts.AttributePlace.{AttributePlace}
use Rattle.db_config.specs.declared.parts.ConfigParts.{ConfigParts}
use Rattle.db_config.specs.Above.{is_above}
use Rattle.db_config.specs.Lookups.{level_named, name_place}
use Rattle.eql_syntax.specs.declared.query.Term.{Term}
use Rattle.eql_syntax.specs.declared.query.Term.TheVariants as source
use Rattle.eql_syntax.specs.Tree.{Tree, Conjunction, Sequence, Dominance}
use Rattle.eql_resolve.specs.declared.faults.AskFault.{AskFault}
use Rattle.eql_resolve.specs.declared.faults.AskFault.TheVariants.{UnknownName, MixedLevels, SequenceLevels, NoPath, AmbiguousTime, BadTimeLevel}
use Rattle.eql_resolve.specs.Asked.{AskedTerm, test, position, number, AskedQuery, terms, sequence, dominance, AskedParts, term_level, is_on, level_of, result_level}

-- ---- names

-- the attribute that a name stands for: its own, else the first of the level of this name
abbrev pub named : ConfigParts → List ℕ → Result AttributePlace AskFault
named c name = ok_or (name_place name c.levels) (UnknownName name)

-- the upper level has to be above the lower one
abbrev pub path_between : ConfigParts → ℕ → ℕ → Result Bool AskFault
path_between c upper lower = if is_above c.links upper lower then Ok true else Err NoPath

-- the places of the two names of a function, of which the first level is above the second
abbrev pub places_between : ConfigParts → List ℕ → List ℕ →
    Result (AttributePlace × AttributePlace) AskFault
places_between c upper lower = do
  above ← named c upper
  below ← named c lower
  _ ← path_between c above.level below.level
  Ok (above, below)

-- a condition
abbrev pub asked_term : ConfigParts → Term → Result AskedTerm AskFault
asked_term c (source.Test marked name op labels) = do
  place ← named c name
  Ok (test marked place op labels)
asked_term c (source.Place marked place upper lower wanted) = do
  places ← places_between c upper lower
  Ok (position marked place places.0.level places.1 wanted)
asked_term c (source.Num marked upper lower compare count) = do
  places ← places_between c upper lower
  Ok (number marked places.0 places.1.level compare count)

-- conditions, one after another
abbrev pub asked_terms : ConfigParts → List Term → Result (List AskedTerm) AskFault
asked_terms c [] = Ok []
asked_terms c (term ∷ others) =
    asked_term c term >>= λ first. with_front (first ∷ []) (asked_terms c others)

-- ---- levels that have to agree

-- there is a condition, and all are on its level
abbrev pub are_alike : List AskedTerm → Bool
are_alike [] = false
are_alike (term ∷ others) = list_all (is_on (term_level term)) (term ∷ others)

-- the conditions of a conjunction are on one level; no text spells a conjunction of none
abbrev pub conjunction_of : List AskedTerm → Result AskedQuery AskFault
conjunction_of ts = if are_alike ts then Ok (terms ts) else Err MixedLevels

-- the parts of a sequence are on one level
abbrev pub sequence_of : AskedQuery → AskedQuery → Result AskedQuery AskFault
sequence_of left right =
    if level_of left == level_of right then Ok (sequence left right) else Err SequenceLevels

-- one of the two levels is above the other
abbrev pub are_joined : ConfigParts → ℕ → ℕ → Bool
are_joined c left right = is_above c.links left right || is_above c.links right left

-- of the parts of a dominance one is on a level above the other's
abbrev pub dominance_of : ConfigParts → AskedQuery → AskedQuery → Result AskedQuery AskFault
dominance_of c left right =
    if are_joined c (level_of left) (level_of right) then Ok (dominance left right)
    else Err NoPath

-- a query without the time of its results
abbrev pub asked_query : ConfigParts → Tree → Result AskedQuery AskFault
asked_query c (Conjunction all) = asked_terms c all >>= conjunction_of
asked_query c (Sequence p q) = do
  left ← asked_query c p
  right ← asked_query c q
  sequence_of left right
asked_query c (Dominance p q) = do
  left ← asked_query c p
  right ← asked_query c q
  dominance_of c left right

-- ---- the time

-- whether it is the type of an ITEM level
abbrev pub is_item_kind : LevelKind → Bool
is_item_kind Item = true
is_item_kind Segment = false
is_item_kind Event = false

-- whether it is the type of a SEGMENT level
abbrev pub is_segment_kind : LevelKind → Bool
is_segment_kind Item = false
is_segment_kind Segment = true
is_segment_kind Event = false

-- the type of a level
abbrev pub kind_at : ConfigParts → ℕ → Option LevelKind
kind_at c level = option_map (λ d. d.kind) (slice_get c.levels level)

-- whether the level is an ITEM level
abbrev pub is_item_level : ConfigParts → ℕ → Bool
is_item_level c level = option_map_or is_item_kind (kind_at c level) false

-- whether the level is a SEGMENT level
abbrev pub is_segment_level : ConfigParts → ℕ → Bool
is_segment_level c level = option_map_or is_segment_kind (kind_at c level) false

-- whether the one level is a SEGMENT level below the other
abbrev pub gives_times : ConfigParts → ℕ → ℕ → Bool
gives_times c upper level = is_segment_level c level && is_above c.links upper level

-- the SEGMENT levels below a level
abbrev pub segments_below : ConfigParts → ℕ → List ℕ
segments_below c level = filter (gives_times c level) (range_with_len 0 (length c.levels))

-- the level, where there is one alone; two or more leave it open which is meant
abbrev pub one_alone : List ℕ → Result (Option ℕ) AskFault
one_alone [] = Ok None
one_alone (level ∷ []) = Ok (Some level)
one_alone (level ∷ other ∷ others) = Err AmbiguousTime

-- a level that was named for the times of results on this level
abbrev pub time_named : ConfigParts → ℕ → List ℕ → Result (Option ℕ) AskFault
time_named c level name =
    if is_item_level c level
    && option_map_or (gives_times c level) (level_named name c.levels) false
    then Ok (level_named name c.levels) else Err BadTimeLevel

-- The level that gives results on this level their times: the named one, else the one SEGMENT level
-- below an ITEM level. Items of other levels have times of their own.
abbrev pub time_level : ConfigParts → ℕ → Option (List ℕ) → Result (Option ℕ) AskFault
time_level c level (Some name) = time_named c level name
time_level c level None =
    if is_item_level c level then one_alone (segments_below c level) else Ok None

-- ---- the whole

-- a query whose names are replaced, with the level that gives its results their times
abbrev pub timed : ConfigParts → AskedQuery → Option (List ℕ) → Result AskedParts AskFault
timed c query time = do
  level ← time_level c (result_level query) time
  Ok (record { query = query; time = level })

-- what a query asks of a database, with the name of a level for the times where one is given
unfoldable pub asked : ConfigParts → Tree → Option (List ℕ) → Result AskedParts AskFault
asked c q time = asked_query c q >>= λ query. timed c query time

-- the same without a level that gives its results their times
unfoldable pub untimed : ConfigParts → Tree → Result AskedParts AskFault
untimed c q = asked_query c q >>= λ query. Ok (record { query = query; time = None })
