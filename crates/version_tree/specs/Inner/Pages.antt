-- Pages of indexed bundles in the order of their keys.
use Rattle.std.specs.Prelude.{◌≡◌, ◌≤◌, ◌<◌, ◌+◌, ℕ, suc, Bool, true, false, not, nat_le, List, [], ◌∷◌, ◌++◌, length, take, drop}
use Rattle.emu_names.specs.declared.names.BundleKey.{BundleKey}
use Rattle.bundle_index.specs.Index.{IndexParts}
use Rattle.edit_rules.specs.Database.{is_before}
use Rattle.version_tree.specs.declared.sizes.TheConstants.{PAGE, HALF}
use Rattle.version_tree.specs.declared.change.Change.{Change}

-- P holds of each element
abbrev pub Each : {A : Type 0} → (A → Type 0) → List A → Type 0
Each P [] = Unit {0}
Each P (x ∷ xs) = P x × Each P xs

-- the keys of these bundles stand before this one
abbrev pub AreBefore : BundleKey → List IndexParts → Type 0
AreBefore key xs = Each (λ x. is_before x.bundle.key key ≡ true) xs

-- the keys of these bundles stand behind this one
abbrev pub AreBehind : BundleKey → List IndexParts → Type 0
AreBehind key xs = Each (λ x. is_before key x.bundle.key ≡ true) xs

-- each key stands before all that come later
abbrev pub AreRising : List IndexParts → Type 0
AreRising [] = Unit {0}
AreRising (x ∷ xs) = AreBehind x.bundle.key xs × AreRising xs

-- the bundles of pages, one page behind another
abbrev pub bundles_on : List (List IndexParts) → List IndexParts
bundles_on [] = []
bundles_on (page ∷ pages) = page ++ bundles_on pages

-- a page has 1 to 128 bundles
pub record IsPage (page : List IndexParts) : Type 0 where
  pub some : 1 ≤ length page
  pub most : length page ≤ PAGE

-- a page and the next one, if there is one, have more than 64 bundles together
abbrev pub IsFullBeside : List IndexParts → List (List IndexParts) → Type 0
IsFullBeside page [] = Unit {0}
IsFullBeside page (next ∷ pages) = HALF < length page + length next

-- any two neighbouring pages have more than 64 bundles together
abbrev pub AreFull : List (List IndexParts) → Type 0
AreFull [] = Unit {0}
AreFull (page ∷ pages) = IsFullBeside page pages × AreFull pages

-- what pages keep: their sizes, and that keys rise through all of them
pub record KeepPages (pages : List (List IndexParts)) : Type 0 where
  pub sizes : Each IsPage pages
  pub full : AreFull pages
  pub rising : AreRising (bundles_on pages)

-- whether the first key of a page is this one or stands before it
abbrev pub starts_by : BundleKey → List IndexParts → Bool
starts_by key [] = false
starts_by key (x ∷ xs) = not (is_before key x.bundle.key)

-- bundles on one page, or cut into two
abbrev pub cut_unless : Bool → List IndexParts → List (List IndexParts)
cut_unless true bundles = bundles ∷ []
cut_unless false bundles = take HALF bundles ∷ drop HALF bundles ∷ []

-- bundles as pages: none for no bundle, one, or two where one cannot hold them
abbrev pub pages_of : List IndexParts → List (List IndexParts)
pages_of [] = []
pages_of (x ∷ xs) = cut_unless (nat_le (length (x ∷ xs)) PAGE) (x ∷ xs)

-- the pages that a change leaves: its bundles stand in the place of some pages
abbrev pub pages_behind : List (List IndexParts) → Change → List (List IndexParts)
pages_behind pages change = take change.from pages ++ (pages_of change.bundles ++ drop change.to pages)

-- the bundles that a change leaves
abbrev pub bundles_behind : List (List IndexParts) → Change → List IndexParts
bundles_behind pages change =
    bundles_on (take change.from pages) ++ (change.bundles ++ bundles_on (drop change.to pages))

-- a change of these pages can be made: its bundles fill at most two pages, and behind it any two
-- neighbouring pages have more than 64 bundles together
pub record IsChangeOf (pages : List (List IndexParts)) (change : Change) : Type 0 where
  pub ordered : change.from ≤ change.to
  pub within : change.to ≤ length pages
  pub few : length change.bundles ≤ suc PAGE
  pub full : AreFull (pages_behind pages change)

-- the change that puts a bundle at its place, where there are no pages yet
abbrev pub first_change : IndexParts → Change
first_change new = record { from = 0; to = 0; bundles = new ∷ [] }
