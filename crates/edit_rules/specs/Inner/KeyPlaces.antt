-- The places of bundles in a list whose keys rise.
use Rattle.std.specs.Prelude.{◌≡◌, ◌≤◌, ◌<◌, ℕ, Bool, false, List, Option, Some, None, length, insert, remove, slice_set}
use Rattle.std.specs.List.{slice_get}
use Rattle.emu_names.specs.declared.names.BundleKey.{BundleKey}
use Rattle.bundle_state.specs.Bundle.{BundleParts}
use Rattle.edit_rules.specs.declared.database.KeyPlace.{KeyPlace}
use Rattle.edit_rules.specs.declared.database.KeyPlace.TheVariants.{At, Free}
use Rattle.edit_rules.specs.Database.{same_key, bundle_with, put_for}

-- a bundle, if there is one, has the key
abbrev pub is_of_key : BundleKey → Option BundleParts → Bool
is_of_key key None = false
is_of_key key (Some b) = same_key b.key key

-- whether the bundle at a place has the key
abbrev pub has_key_at : BundleKey → List BundleParts → ℕ → Bool
has_key_at key bundles place = is_of_key key (slice_get bundles place)

-- the bundle of the key stands at this place: another one of the key comes into its place, and without it
-- those behind it move up
pub record IsAt (key : BundleKey) (bundles : List BundleParts) (place : ℕ) : Type 0 where
  pub bundle : BundleParts
  pub there : slice_get bundles place ≡ Some bundle
  pub own : bundle.key ≡ key
  pub found : bundle_with key bundles ≡ Some bundle
  pub within : place < length bundles
  pub put : (new : BundleParts) → new.key ≡ key → put_for key (Some new) bundles ≡ slice_set bundles place new
  pub taken : put_for key None bundles ≡ remove bundles place

-- no bundle has the key, and one that has it goes to this place
pub record IsFree (key : BundleKey) (bundles : List BundleParts) (place : ℕ) : Type 0 where
  pub absent : bundle_with key bundles ≡ None
  pub within : place ≤ length bundles
  pub put : (new : BundleParts) → new.key ≡ key → put_for key (Some new) bundles ≡ insert bundles place new
  pub same : put_for key None bundles ≡ bundles

-- where the bundle of a key stands, or would stand
abbrev pub IsKeyPlace : BundleKey → List BundleParts → KeyPlace → Type 0
IsKeyPlace key bundles (At place) = IsAt key bundles place
IsKeyPlace key bundles (Free place) = IsFree key bundles place

-- a place of a bundle is that of one of these, a place for one is that of one of these or the end
abbrev pub IsPlaceIn : List BundleParts → KeyPlace → Type 0
IsPlaceIn bundles (At place) = place < length bundles
IsPlaceIn bundles (Free place) = place ≤ length bundles

-- the bundle at a place
abbrev pub found_at : List BundleParts → KeyPlace → Option BundleParts
found_at bundles (At place) = slice_get bundles place
found_at bundles (Free place) = None

-- the bundles with this one, or none, at a place
abbrev pub put_at : List BundleParts → KeyPlace → Option BundleParts → List BundleParts
put_at bundles (At place) (Some new) = slice_set bundles place new
put_at bundles (At place) None = remove bundles place
put_at bundles (Free place) (Some new) = insert bundles place new
put_at bundles (Free place) None = bundles
