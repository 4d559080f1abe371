-- Words of loops over links.
use Rattle.std.specs.Prelude.{◌≡◌, ◌≢◌, ℕ, Bool, not, List, [], ◌∷◌, map, reverse, Some, if◌then◌else◌}
use Rattle.std.specs.List.{enumerate_from, filter, slice_get}
use Rattle.emu_names.specs.declared.kinds.ItemId.{ItemId}
use Rattle.emu_names.specs.declared.kinds.LevelKind.TheVariants as kinds
use Rattle.emu_names.specs.declared.names.BundleKey.{BundleKey}
use Rattle.level_items.specs.declared.annot.AnnotLink.{AnnotLink}
use Rattle.level_items.specs.Levels.{Level}
use Rattle.link_graph.specs.declared.link.Link.{Link}
use Rattle.link_graph.specs.Link.{names_item}
use Rattle.bundle_edits.specs.declared.edit.Edit.{Edit}
use Rattle.bundle_edits.specs.Changes.{is_linked}
use Rattle.edit_undo.specs.Inverse.{link_again, pair_out}

-- a link put back at its place, where it names an item
abbrev pub if_named : BundleKey → ItemId → ℕ × Link → List Edit
if_named key id placed = if names_item id placed.1 then link_again key placed ∷ [] else []

-- the links that pass a test, of those from a place on, put back at their places
abbrev pub again_from : BundleKey → (Link → Bool) → ℕ → List Link → List Edit
again_from key test place links =
    map (link_again key) (filter (λ placed. test placed.1) (enumerate_from place links))

-- the link of a pair taken out, where it was none
abbrev pub if_new : BundleKey → List Link → AnnotLink → List Edit
if_new key links pair = if is_linked links pair then [] else pair_out key pair ∷ []

-- the links of those of some pairs that were none, taken out
abbrev pub pairs_from : BundleKey → List Link → List AnnotLink → List Edit
pairs_from key links pairs = map (pair_out key) (filter (λ pair. not (is_linked links pair)) pairs)

-- the same, the last one first
abbrev pub new_out : BundleKey → List Link → List AnnotLink → List Edit
new_out key links pairs = map (pair_out key) (reverse (filter (λ pair. not (is_linked links pair)) pairs))

-- times of the one level may hold those of the other
abbrev pub HaveTimes : List Level → ℕ → ℕ → Type 0
HaveTimes levels upper lower =
    (one other : Level) → slice_get levels upper ≡ Some one → slice_get levels lower ≡ Some other →
    (one.kind ≡ kinds.Segment) × (other.kind ≢ kinds.Item)
