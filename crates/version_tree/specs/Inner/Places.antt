-- The places of keys, among bundles and among pages.
use Rattle.std.specs.Prelude.{◌≡◌, ◌≤◌, ◌<◌, ◌+◌, ◌-◌, ℕ, suc, Bool, true, false, nat_le, List, [], ◌∷◌, ◌++◌, length, take, drop, Option, Some, None}
use Rattle.std.specs.List.{slice_get}
use Rattle.emu_names.specs.declared.names.BundleKey.{BundleKey}
use Rattle.bundle_index.specs.Index.{IndexParts}
use Rattle.version_tree.specs.declared.pages.Neighbour.{Neighbour}
use Rattle.version_tree.specs.declared.pages.Neighbour.TheVariants.{Before, Behind, Neither}
use Rattle.version_tree.specs.declared.sizes.TheConstants.{HALF}
use Rattle.version_tree.specs.Inner.Version.{has_key, indexed_with, others, put_indexed}
use Rattle.version_tree.specs.Inner.Pages.{AreBefore, AreBehind, bundles_on}

-- an indexed bundle, if there is one, has the key
abbrev pub is_of_key : BundleKey → Option IndexParts → Bool
is_of_key key None = false
is_of_key key (Some x) = has_key key x

-- whether the indexed bundle at a place has the key
abbrev pub has_key_at : BundleKey → List IndexParts → ℕ → Bool
has_key_at key list place = is_of_key key (slice_get list place)

-- the bundle of the key stands from one place to before the other one, which are the same place where there
-- is none: so one that is put there, or that is taken out from there, leaves the others
pub record IsGap (key : BundleKey) (list : List IndexParts) (from to : ℕ) : Type 0 where
  pub ordered : from ≤ to
  pub narrow : to ≤ suc from
  pub within : to ≤ length list
  pub there : from < to → indexed_with key list ≡ slice_get list from
  pub absent : to ≤ from → indexed_with key list ≡ None
  pub put : (new : IndexParts) → new.bundle.key ≡ key →
      put_indexed new list ≡ take from list ++ new ∷ drop to list
  pub taken : others key list ≡ take from list ++ drop to list

-- the bundle of the key stands on the page at this place, or nowhere: all pages before it have keys before
-- that one, and all pages behind it have keys behind it
pub record IsPageFor (key : BundleKey) (pages : List (List IndexParts)) (place : ℕ) : Type 0 where
  pub within : place < length pages
  pub before : AreBefore key (bundles_on (take place pages))
  pub behind : AreBehind key (bundles_on (drop (suc place) pages))

-- a page, if there is one, has room for so many bundles more, up to 64
abbrev pub has_room : ℕ → Option (List IndexParts) → Bool
has_room count None = false
has_room count (Some page) = nat_le (length page + count) HALF

-- the neighbour of a page with which so many bundles are joined: one that has room for them
abbrev pub IsNeighbour : List (List IndexParts) → ℕ → ℕ → Neighbour → Type 0
IsNeighbour pages place count Before =
    (0 < place) × (has_room count (slice_get pages (place - 1)) ≡ true)
IsNeighbour pages place count Behind = has_room count (slice_get pages (place + 1)) ≡ true
IsNeighbour pages place count Neither =
    (0 < place → has_room count (slice_get pages (place - 1)) ≡ false)
    × (has_room count (slice_get pages (place + 1)) ≡ false)

-- there are as many bundles as before, or one more
pub record IsAtMostOneMore (old new : List IndexParts) : Type 0 where
  pub low : length old ≤ length new
  pub high : length new ≤ suc (length old)

-- there is a page at this place, and these are one bundle less than it has
pub record AreOneLess (pages : List (List IndexParts)) (place : ℕ) (left : List IndexParts) : Type 0 where
  pub within : place < length pages
  pub less : (page : List IndexParts) → slice_get pages place ≡ Some page → suc (length left) ≡ length page

-- the bundles of these pages with others in the place of those of one page
abbrev pub bundles_but : List (List IndexParts) → ℕ → List IndexParts → List IndexParts
bundles_but pages place left =
    bundles_on (take place pages) ++ (left ++ bundles_on (drop (suc place) pages))
