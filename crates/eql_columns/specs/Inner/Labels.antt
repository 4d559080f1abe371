-- Labels of items by rows and by numbers.
use Rattle.std.specs.Prelude.{◌≡◌, ◌≢◌, ℕ, ◌<◌, ◌++◌, Bool, List, [], Option, Some, length, get_or, map}
use Rattle.level_items.specs.declared.items.Item.{Item}
use Rattle.std.specs.List.{list_any, slice_get}
use Rattle.db_config.specs.declared.parts.AttributePlace.{AttributePlace}
use Rattle.emu_names.specs.Texts.{same_text}
use Rattle.bundle_state.specs.Bundle.{BundleParts}
use Rattle.bundle_index.specs.Inner.Index.{attributes_on}
use Rattle.bundle_index.specs.Inner.Keys.{IsKeyOf}
use Rattle.label_match.specs.Pattern.{matches_label}
use Rattle.level_items.specs.Levels.{label_of, items_at}
use Rattle.eql_columns.specs.declared.answers.Known.{Known}

-- the level of an attribute is there, and the attribute is
pub record HasColumn (b : BundleParts) (place : AttributePlace) : Type 0 where
  pub level : place.level < length b.levels
  pub attribute : place.attribute < attributes_on b place.level

-- for each item of the attribute's level whether its label is this one
abbrev pub label_row : BundleParts → AttributePlace → List ℕ → List Bool
label_row b place label =
    map (λ item. same_text (label_of place.attribute item) label) (items_at b.levels place.level)

-- for each item of the attribute's level whether its label is one of these
abbrev pub labels_row : BundleParts → AttributePlace → List (List ℕ) → List Bool
labels_row b place labels =
    map (λ item. list_any (same_text (label_of place.attribute item)) labels) (items_at b.levels place.level)

-- two rows have a bit for each item of a level
pub record AreLong (b : BundleParts) (level : ℕ) (spare row : List Bool) : Type 0 where
  pub first : length spare ≡ length (items_at b.levels level)
  pub second : length row ≡ length (items_at b.levels level)

-- a row that had the items of some labels has those of further ones too
pub record AddsLabels (b : BundleParts) (place : AttributePlace) (more : List (List ℕ)) (old new : List Bool) : Type 0 where
  pub adds : (labels : List (List ℕ)) → old ≡ labels_row b place labels → new ≡ labels_row b place (labels ++ more)

-- there is a number for each label, and labels of one number are the same
pub record AreNumbersOf (column : List ℕ) (labels : List (List ℕ)) : Type 0 where
  pub count : length column ≡ length labels
  pub alike : (i j : ℕ) → i < length labels → j < length labels →
      get_or column i 0 ≡ get_or column j 0 → get_or labels i [] ≡ get_or labels j []

-- what is noted at the number of a label is whether the pattern matches the label
pub record AreAnswers (pattern : List ℕ) (column : List ℕ) (labels : List (List ℕ)) (answers : List (Option Bool)) : Type 0 where
  pub right : (k : ℕ) (is : Bool) → k < length labels →
      slice_get answers (get_or column k 0) ≡ Some (Some is) → is ≡ matches_label pattern (get_or labels k [])

-- a label is one of these
abbrev pub is_among : List (List ℕ) → List ℕ → Bool
is_among labels label = list_any (same_text label) labels

-- this is whether the labels of a key pass a test; of the key 0 it says nothing
abbrev pub IsAnswerTo : (List ℕ → Bool) → ℕ → Bool → Type 0
IsAnswerTo test key is = (label : List ℕ) → key ≢ 0 → IsKeyOf label key → is ≡ test label

-- there are 512 places, and what is known at each is whether the labels of its key pass a test
pub record AreKnownOf (test : List ℕ → Bool) (known : List Known) : Type 0 where
  pub count : length known ≡ 512
  pub right : (place : ℕ) (one : Known) → slice_get known place ≡ Some one → IsAnswerTo test one.key one.is

-- the label of the item at a position
abbrev pub label_at : ℕ → List Item → ℕ → List ℕ
label_at attribute items at = get_or (map (label_of attribute) items) at []
