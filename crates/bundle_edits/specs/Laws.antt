-- Laws over the definitions: what an edit makes of the ids and of the links of its bundle.
use Rattle.std.specs.Prelude.{◌≡◌, ◌≤◌, ℕ, not, List, [], ◌∷◌, ◌++◌, length, insert, map, Some, Ok, IsTrue}
use Rattle.std.specs.List.{filter, position}
use Rattle.emu_names.specs.declared.kinds.ItemId.{ItemId}
use Rattle.level_items.specs.declared.annot.AnnotLink.{AnnotLink}
use Rattle.level_items.specs.Levels.{items_at}
use Rattle.link_builder.specs.Timed.{timed_pairs}
use Rattle.link_graph.specs.declared.link.Link.{Link}
use Rattle.link_graph.specs.Link.{names_item, joins, link_of}
use Rattle.db_config.specs.declared.parts.ConfigParts.{ConfigParts}
use Rattle.db_config.specs.Lookups.{level_named, leads}
use Rattle.bundle_state.specs.Bundle.{BundleParts, all_ids}
use Rattle.bundle_state.specs.Built.{FitsConfig}
use Rattle.bundle_state.specs.Valid.{KeepsBundleRules}
use Rattle.bundle_edits.specs.declared.bundle_change.Counts.{Counts}
use Rattle.bundle_edits.specs.declared.edit.Edit.{Edit}
use Rattle.bundle_edits.specs.declared.edit.Edit.TheVariants as edits
use Rattle.bundle_edits.specs.Changes.{is_linked, times_linked, bundle_changed}

-- the one list is the other with a number put in
pub record HasOneMore (id : ℕ) (short long : List ℕ) : Type 0 where
  pub front : List ℕ
  pub back : List ℕ
  pub short_is : short ≡ front ++ back
  pub long_is : long ≡ front ++ id ∷ back

-- the ids of a bundle behind an edit: those before it with one put in, with one taken out, or the same
abbrev pub NewIds : Edit → List ℕ → List ℕ → Type 0
NewIds (edits.AddItem key level position item) old new = HasOneMore item.id.0 old new
NewIds (edits.PutItem key level position item) old new = HasOneMore item.id.0 old new
NewIds (edits.Split key id new_id start) old new = HasOneMore new_id.0 old new
NewIds (edits.RemoveItem key id) old new = HasOneMore id.0 new old
NewIds (edits.Merge key id) old new = (other : ItemId) × HasOneMore other.0 new old
NewIds (edits.AddBundle key annot) old new = new ≡ old
NewIds (edits.DropBundle key) old new = new ≡ old
NewIds (edits.SetLabel key id attribute label) old new = new ≡ old
NewIds (edits.SetSegment key id start dur) old new = new ≡ old
NewIds (edits.MoveBoundary key id start) old new = new ≡ old
NewIds (edits.SetPoint key id at) old new = new ≡ old
NewIds (edits.AddLink key from to) old new = new ≡ old
NewIds (edits.RemoveLink key from to) old new = new ≡ old
NewIds (edits.LinkTimes key upper lower) old new = new ≡ old
NewIds (edits.PutLabel key id attribute label) old new = new ≡ old
NewIds (edits.PutLink key from to place) old new = new ≡ old

-- the links of a bundle behind an edit: those that the edit does not take out stay in their order, and a
-- new one stands last, or at the place that is given; those that times give stand last
abbrev pub NewLinks : Edit → List Link → List Link → Type 0
NewLinks (edits.RemoveItem key id) old new = new ≡ filter (λ link. not (names_item id link)) old
NewLinks (edits.Merge key id) old new =
    (other : ItemId) × (new ≡ filter (λ link. not (names_item other link)) old)
NewLinks (edits.AddLink key from to) old new =
    (link : Link) × IsTrue (joins from to link) × (new ≡ old ++ link ∷ [])
NewLinks (edits.LinkTimes key upper lower) old new = (more : List Link) × (new ≡ old ++ more)
NewLinks (edits.PutLink key from to place) old new =
    (link : Link) × IsTrue (joins from to link) × (place ≤ length old) × (new ≡ insert old place link)
NewLinks (edits.RemoveLink key from to) old new = new ≡ filter (λ link. not (joins from to link)) old
NewLinks (edits.AddBundle key annot) old new = new ≡ old
NewLinks (edits.DropBundle key) old new = new ≡ old
NewLinks (edits.AddItem key level position item) old new = new ≡ old
NewLinks (edits.SetLabel key id attribute label) old new = new ≡ old
NewLinks (edits.SetSegment key id start dur) old new = new ≡ old
NewLinks (edits.MoveBoundary key id start) old new = new ≡ old
NewLinks (edits.SetPoint key id at) old new = new ≡ old
NewLinks (edits.Split key id new_id start) old new = new ≡ old
NewLinks (edits.PutItem key level position item) old new = new ≡ old
NewLinks (edits.PutLabel key id attribute label) old new = new ≡ old

-- what an edit that breaks no rule makes of the links of a bundle
abbrev pub EditsKeepLinks : Type 0
EditsKeepLinks =
    (config : ConfigParts) (counts : Counts) (edit : Edit) (bundle next : BundleParts) →
    bundle_changed config counts edit bundle ≡ Ok next → NewLinks edit bundle.links next.links

-- what an edit that breaks no rule makes of the ids of a bundle that keeps the rules and fits the
-- configuration
abbrev pub EditsKeepIds : Type 0
EditsKeepIds =
    (config : ConfigParts) (counts : Counts) (edit : Edit) (bundle next : BundleParts) →
    KeepsBundleRules bundle → FitsConfig config bundle → bundle_changed config counts edit bundle ≡ Ok next →
    NewIds edit (all_ids bundle.levels) (all_ids next.levels)

-- a pair of items as a link of the definition of a number
abbrev pub link_for : ℕ → AnnotLink → Link
link_for definition pair = link_of definition pair.from pair.to

-- the pairs of a segment of the one level and an item of the other that stands within it, which are no
-- links yet
abbrev pub new_pairs : BundleParts → ℕ → ℕ → List AnnotLink
new_pairs b upper lower =
    filter (λ pair. not (is_linked b.links pair)) (timed_pairs (items_at b.levels upper) (items_at b.levels lower))

-- behind the links of a bundle stand exactly the pairs that the times of two levels give and that were
-- none, as links of the definition that leads from the one level to the other
pub record HasTimedLinks (config : ConfigParts) (upper lower : List ℕ) (b : BundleParts) (links : List Link) : Type 0 where
  pub upper_level : ℕ
  pub lower_level : ℕ
  pub definition : ℕ
  pub upper_is : level_named upper config.levels ≡ Some upper_level
  pub lower_is : level_named lower config.levels ≡ Some lower_level
  pub definition_is : position (leads upper_level lower_level) b.definitions ≡ Some definition
  pub links_are : links ≡ b.links ++ map (link_for definition) (new_pairs b upper_level lower_level)

-- what links from times add to the links of a bundle that keeps the rules and fits the configuration
abbrev pub TimesLinkExactly : Type 0
TimesLinkExactly =
    (config : ConfigParts) (upper lower : List ℕ) (bundle next : BundleParts) →
    KeepsBundleRules bundle → FitsConfig config bundle → times_linked config upper lower bundle ≡ Ok next →
    HasTimedLinks config upper lower bundle next.links
