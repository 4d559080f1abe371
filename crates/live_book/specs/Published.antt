-- The versions that a book has published: each is the state after some of its entries.
use Rattle.std.specs.Prelude.{◌≡◌, List, [], ◌∷◌, ◌++◌, length, Option, None, Some, Ok}
use Rattle.db_config.specs.declared.parts.ConfigParts.{ConfigParts}
use Rattle.version_steps.specs.edit_rules.declared.acts.Entry.{Entry}
use Rattle.version_steps.specs.edit_rules.Effects.{after}
use Rattle.version_gate.specs.declared.entry.Entry.{Entry as Numbered}
use Rattle.version_steps.specs.version_tree.Version.{VersionParts, state_of}
use Rattle.live_book.specs.declared.published.Published.{Published}

-- a version shows the database after a history, and counts its entries
pub record IsStateAfter (config : ConfigParts) (history : List Entry) (version : VersionParts) : Type 0 where
  pub state : after config history ≡ Ok (state_of version)
  pub number : version.number ≡ length history

-- a published version is that after a history, under the number of its entries, with the last entry past
-- the opening
pub record IsShown (config : ConfigParts) (history : List Entry) (before : Option Entry)
    (shown : Numbered Published) : Type 0 where
  pub number : shown.number ≡ length history
  pub version : IsStateAfter config history shown.version.version
  pub last : shown.version.last ≡ before

-- behind the version after a history there is one for each of these entries
abbrev pub AreShownBehind : ConfigParts → List Entry → List Entry → List (Numbered Published) → Type 0
AreShownBehind config history [] list = list ≡ []
AreShownBehind config history (entry ∷ more) [] = ⊥
AreShownBehind config history (entry ∷ more) (shown ∷ list) =
    IsShown config (history ++ entry ∷ []) (Some entry) shown
    × AreShownBehind config (history ++ entry ∷ []) more list

-- the published list: the opening, and then, for each entry past it, the version after that entry together
-- with the entry
abbrev pub AreShown : ConfigParts → List Entry → List Entry → List (Numbered Published) → Type 0
AreShown config opening later [] = ⊥
AreShown config opening later (first ∷ list) =
    IsShown config opening None first × AreShownBehind config opening later list
