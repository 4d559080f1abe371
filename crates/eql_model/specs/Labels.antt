-- Which labels a label test is after (EMU-SDMS Manual, "The EMU Query Language (EQL)": the operators of
-- simple queries; label groups).
use Rattle.std.specs.Prelude.{ℕ, Bool, true, false, not, List, [], ◌∷◌, unwrap_or, option_and_then}
use Rattle.std.specs.List.{flat_map, list_any, slice_get}
use Rattle.level_items.specs.declared.items.Item.{Item}
use Rattle.db_config.specs.declared.parts.AttributePlace.{AttributePlace}
use Rattle.db_config.specs.declared.parts.ConfigParts.{ConfigParts}
use Rattle.db_config.specs.Lookups.{attribute_at, group_values}
use Rattle.emu_names.specs.Texts.{same_text}
use Rattle.label_match.specs.Pattern.{matches_label}
use Rattle.eql_syntax.specs.declared.query.Op.{Op}
use Rattle.eql_syntax.specs.declared.query.Op.TheVariants.{Is, IsNot, Like, NotLike}

-- what a written label stands for at an attribute: the values of the label group of this name, where
-- the attribute's groups come before the database's, else the label alone
abbrev pub stands_for : ConfigParts → AttributePlace → List ℕ → List (List ℕ)
stands_for config place written =
    unwrap_or
    (option_and_then (λ a. group_values written a.groups config.groups)
    (attribute_at place config.levels))
    (written ∷ [])

-- the labels that are wanted, where these are written
abbrev pub wanted_labels : ConfigParts → AttributePlace → List (List ℕ) → List (List ℕ)
wanted_labels config place written = flat_map (stands_for config place) written

-- a label is among those that are wanted
abbrev pub is_wanted : ConfigParts → AttributePlace → List (List ℕ) → List ℕ → Bool
is_wanted config place written label = list_any (same_text label) (wanted_labels config place written)

-- some pattern matches the whole label
abbrev pub is_matched : List (List ℕ) → List ℕ → Bool
is_matched patterns label = list_any (λ pattern. matches_label pattern label) patterns

-- what a test finds, or its opposite
abbrev pub is_as : Bool → Bool → Bool
is_as true is = is
is_as false is = not is

-- a label passes a test
abbrev pub passes : ConfigParts → AttributePlace → Op → List (List ℕ) → List ℕ → Bool
passes config place Is written label = is_wanted config place written label
passes config place IsNot written label = is_as false (is_wanted config place written label)
passes config place Like patterns label = is_matched patterns label
passes config place NotLike patterns label = is_as false (is_matched patterns label)
