-- The edits that take an edit back: there are some, they are edits of its bundle, and they may stand in one list.
use Rattle.std.proofs.Common.{◌≡◌, ◌≤◌, ℕ, suc, ◌+◌, Bool, true, false, cond, not, ◌&&◌, ◌||◌, List, [], ◌∷◌, ◌++◌, length, map, reverse, All, Option, Some, None, Ok, ok_or, option_map, refl, sym, ◌∙◌, ap, subst, arith}
use Rattle.std.specs.List.{enumerate_from, filter, list_any, list_all, slice_get, position}
use Rattle.std.specs.Option.{option_or, option_and_then}
use Rattle.std.proofs.lemmas.Bool.{true≢false}
use Rattle.std.proofs.lemmas.List.{length-map, length-reverse}
use Rattle.std.proofs.lemmas.List.Elements.{All-append, All-cons, All-nil}
use Rattle.emu_names.specs.declared.kinds.ItemId.{ItemId}
use Rattle.emu_names.specs.declared.kinds.LevelKind.{LevelKind}
use Rattle.emu_names.specs.declared.kinds.LevelKind.TheVariants as kinds
use Rattle.emu_names.specs.declared.names.BundleKey.{BundleKey}
use Rattle.emu_names.specs.declared.rules.Broken.{Broken}
use Rattle.emu_names.specs.declared.rules.Broken.TheVariants as rules
use Rattle.emu_names.specs.Steps.{onward}
use Rattle.level_items.specs.declared.annot.AnnotLink.{AnnotLink}
use Rattle.level_items.specs.declared.times.Time.{Time}
use Rattle.level_items.specs.declared.times.Time.TheVariants.{NoTime, Span, Point}
use Rattle.level_items.specs.Faults.{time_fault, retime_fault}
use Rattle.level_items.specs.Levels.{Level, KeepsLevelRule, items_at, retimed}
use Rattle.level_items.specs.Times.{fits_kind, ends_in_time}
use Rattle.level_items.proofs.Changes.{fit_at}
use Rattle.link_graph.specs.declared.link.Link.{Link}
use Rattle.link_graph.specs.Link.{joins, names_item}
use Rattle.link_builder.specs.Timed.{timed_pairs}
use Rattle.db_config.specs.declared.parts.ConfigParts.{ConfigParts}
use Rattle.db_config.specs.declared.parts.LevelDef.{LevelDef}
use Rattle.db_config.specs.Lookups.{level_named, attribute_named}
use Rattle.bundle_state.specs.Bundle.{BundleParts, place_of}
use Rattle.bundle_state.specs.Built.{FitsConfig}
use Rattle.bundle_state.specs.Linked.{unless_broken}
use Rattle.bundle_state.specs.Valid.{KeepsBundleRules}
use Rattle.bundle_state.specs.Changed.{with_links, with_change, without, links_but, place_for, missing_fault, new_time_fault, item_retimed, link_removed}
use Rattle.bundle_state.proofs.BuiltKept.{unbroken}
use Rattle.bundle_state.proofs.ChangedKept.{place_there}
use Rattle.bundle_state.proofs.ChangedLevels.{rule_at}
use Rattle.bundle_state.proofs.LinksKept.{goes_on, ok_same, fine_value}
use Rattle.bundle_state.proofs.Tests.{cond_none, or_none}
use Rattle.bundle_edits.specs.declared.bundle_change.Counts.{Counts}
use Rattle.bundle_edits.specs.declared.edit.Edit.{Edit}
use Rattle.bundle_edits.specs.declared.edit.Edit.TheVariants as edits
use Rattle.bundle_edits.specs.Edits.{key_of}
use Rattle.bundle_edits.specs.Laws.{new_pairs}
use Rattle.bundle_edits.specs.Changes.{NumberedLevel, NumberedAttribute, numbered, level_found, attribute_of, labelled, label_given, segment_at, segment_of, next_of, cut_fault, last_of, moved, joined, timed_kinds_fault, definition_fault, is_linked, linked_fault, timed_fault, pairs_linked, levels_linked, times_linked, bundle_changed, is_kept_by}
use Rattle.bundle_edits.proofs.Cuts.{ArePair, segment_parts, segment_found, pair_found}
use Rattle.bundle_edits.proofs.Spans.{some_same}
use Rattle.bundle_edits.proofs.TimedLinks.{from_segments}
use Rattle.bundle_edits.proofs.TimedSteps.{to_timed}
use Rattle.annot_json.specs.Given.{given_labels}
use Rattle.edit_rules.specs.Inner.Acts.{is_inner}
use Rattle.edit_undo.specs.Inverse.{PlacedItem, item_of, item_behind, if_there, link_again, links_again, pair_out, pairs_out, item_again, label_again, time_of_item, time_again, boundary_again, is_labelled, put_label, labels_again, cut_again, own_inverse}
use Rattle.edit_undo.specs.Inner.Items.{placed}
use Rattle.edit_undo.specs.Inner.Links.{again_from}
use Rattle.edit_undo.specs.Inner.Turns.{HasTimes, IsOwnEdit}
use Rattle.edit_undo.proofs.Found.{IsFound, found_at, HasDef, def_of, behind_is}

-- what a function takes
abbrev pub taken_by : {A B : Type 0} → (A → B) → Type 0
taken_by {A = A} {B = B} f = A

-- a segment of a bundle, as the definitions of edits have it
abbrev pub Segment : Type 0
Segment = taken_by last_of

-- All of them.

pub all_mapped : {A B : Type 0} (P : B → Type 0) (f : A → B) → ((x : A) → P (f x)) → (xs : List A) → All P (map f xs)
all_mapped P f each [] = All-nil P
all_mapped P f each (x ∷ xs) = All-cons P (f x) (map f xs) (each x) (all_mapped P f each xs)

all_there : {A : Type 0} (P : Edit → Type 0) (f : A → List Edit) (o : Option A) → ((x : A) → All P (f x)) → All P (if_there f o)
all_there P f None each = All-nil P
all_there P f (Some x) each = each x

-- an edit alone
own_one : (key : BundleKey) (e : Edit) → key_of e ≡ key → is_inner e ≡ true → All (IsOwnEdit key) (e ∷ [])
own_one key e own inner = All-cons (IsOwnEdit key) e [] (record { own = own; inner = inner }) (All-nil (IsOwnEdit key))

links_own : (key : BundleKey) (test : Link → Bool) (links : List Link) → All (IsOwnEdit key) (links_again key test links)
links_own key test links =
    all_mapped (IsOwnEdit key) (link_again key) (λ p. record { own = refl; inner = refl }) (filter (λ (p : ℕ × Link). test p.1) (enumerate_from 0 links))

time_own : (key : BundleKey) (id : ItemId) (time : Time) → All (IsOwnEdit key) (time_of_item key id time)
time_own key id NoTime = All-nil (IsOwnEdit key)
time_own key id (Span start dur) = own_one key (edits.SetSegment key id start dur) refl refl
time_own key id (Point at) = own_one key (edits.SetPoint key id at) refl refl

label_own : (key : BundleKey) (name : List ℕ) (p : PlacedItem) → All (IsOwnEdit key) (label_again key name p)
label_own key name p = all_there (IsOwnEdit key) _ (attribute_named name p.def.attributes) (λ number. own_one key _ refl refl)

cut_own : (b : BundleParts) (key : BundleKey) (id : ItemId) (p : PlacedItem) → All (IsOwnEdit key) (cut_again b key id p)
cut_own b key id p =
    All-cons (IsOwnEdit key) _ _ (record { own = refl; inner = refl })
    (All-append (IsOwnEdit key) (labels_again key p) (links_again key (names_item p.item.id) b.links)
    (all_mapped (IsOwnEdit key) (put_label key p.item.id) (λ l. record { own = refl; inner = refl }) (filter is_labelled (given_labels p.def.attributes p.item.labels)))
    (links_own key (names_item p.item.id) b.links))

pairs_own : (config : ConfigParts) (b : BundleParts) (key : BundleKey) (upper lower : List ℕ) → All (IsOwnEdit key) (pairs_out config b key upper lower)
pairs_own config b key upper lower =
    all_there (IsOwnEdit key) _ (level_named upper config.levels) (λ u.
    all_there (IsOwnEdit key) _ (level_named lower config.levels) (λ l.
    all_mapped (IsOwnEdit key) (pair_out key) (λ p. record { own = refl; inner = refl }) (reverse (new_pairs b u l))))

-- what takes an edit back that keeps its bundle may stand in one list
pub own_all : (config : ConfigParts) (b : BundleParts) (e : Edit) → is_kept_by e ≡ true → All (IsOwnEdit (key_of e)) (own_inverse config b e)
own_all config b (edits.AddBundle key annot) kept = All-nil (IsOwnEdit key)
own_all config b (edits.DropBundle key) kept = absurd (true≢false (sym kept))
own_all config b (edits.AddItem key level position item) kept = own_one key (edits.RemoveItem key item.id) refl refl
own_all config b (edits.RemoveItem key id) kept =
    All-append (IsOwnEdit key) (if_there (item_again key) (item_of config b id)) (links_again key (names_item id) b.links)
    (all_there (IsOwnEdit key) (item_again key) (item_of config b id) (λ p. own_one key _ refl refl)) (links_own key (names_item id) b.links)
own_all config b (edits.SetLabel key id attribute label) kept = all_there (IsOwnEdit key) (label_again key attribute) (item_of config b id) (label_own key attribute)
own_all config b (edits.SetSegment key id start dur) kept = all_there (IsOwnEdit key) (time_again key) (item_of config b id) (λ p. time_own key p.item.id p.item.time)
own_all config b (edits.MoveBoundary key id start) kept = all_there (IsOwnEdit key) (boundary_again key id) (item_behind config b id) (λ p. own_one key _ refl refl)
own_all config b (edits.SetPoint key id at) kept = all_there (IsOwnEdit key) (time_again key) (item_of config b id) (λ p. time_own key p.item.id p.item.time)
own_all config b (edits.Split key id new_id start) kept = own_one key (edits.Merge key id) refl refl
own_all config b (edits.Merge key id) kept = all_there (IsOwnEdit key) (cut_again b key id) (item_behind config b id) (cut_own b key id)
own_all config b (edits.AddLink key from to) kept = own_one key (edits.RemoveLink key from to) refl refl
own_all config b (edits.RemoveLink key from to) kept = links_own key (joins from to) b.links
own_all config b (edits.LinkTimes key upper lower) kept = pairs_own config b key upper lower
own_all config b (edits.PutItem key level position item) kept = own_one key (edits.RemoveItem key item.id) refl refl
own_all config b (edits.PutLabel key id attribute label) kept = all_there (IsOwnEdit key) (label_again key attribute) (item_of config b id) (label_own key attribute)
own_all config b (edits.PutLink key from to place) kept = own_one key (edits.RemoveLink key from to) refl refl

-- There are some.

one_there : {A : Type 0} (f : A → List Edit) (o : Option A) (x : A) → o ≡ Some x → 1 ≤ length (f x) → 1 ≤ length (if_there f o)
one_there f o x is some = subst (λ (p : Option _). 1 ≤ length (if_there f p)) (sym is) some

some_joined : (xs ys : List Edit) → 1 ≤ length xs → 1 ≤ length (xs ++ ys)
some_joined [] ys some = let no : ⊥ = omega (arith, some) in absurd no
some_joined (x ∷ xs) ys some = omega arith

some_again : (key : BundleKey) (test : Link → Bool) (n : ℕ) (links : List Link) → list_any test links ≡ true → 1 ≤ length (again_from key test n links)
some_again key test n [] any = absurd (true≢false (sym any))
some_again key test n (link ∷ links) any = by (λ h. some_again key test (n + 1) links h) (test link) any
  where
    by : (list_any test links ≡ true → 1 ≤ length (again_from key test (n + 1) links)) → (t : Bool) → (t || list_any test links) ≡ true →
        1 ≤ length (map (link_again key) (cond t ((n, link) ∷ filter (λ (p : ℕ × Link). test p.1) (enumerate_from (n + 1) links)) (filter (λ (p : ℕ × Link). test p.1) (enumerate_from (n + 1) links))))
    by rest true h = omega arith
    by rest false h = rest h

some_new : (links : List Link) (pairs : List AnnotLink) → list_all (is_linked links) pairs ≡ false → 1 ≤ length (filter (λ (p : AnnotLink). not (is_linked links p)) pairs)
some_new links [] none = absurd (true≢false none)
some_new links (p ∷ pairs) none = by (λ h. some_new links pairs h) (is_linked links p) none
  where
    by : (list_all (is_linked links) pairs ≡ false → 1 ≤ length (filter (λ (q : AnnotLink). not (is_linked links q)) pairs)) → (t : Bool) → (t && list_all (is_linked links) pairs) ≡ false →
        1 ≤ length (cond (not t) (p ∷ filter (λ (q : AnnotLink). not (is_linked links q)) pairs) (filter (λ (q : AnnotLink). not (is_linked links q)) pairs))
    by rest true h = rest h
    by rest false h = omega arith

-- an item whose level has times has one
timed_some : (key : BundleKey) (id : ItemId) (kind : LevelKind) (own other : Time) → fits_kind kind own ≡ true → fits_kind kind other ≡ true → (other ≡ NoTime → ⊥) →
    1 ≤ length (time_of_item key id own)
timed_some key id kind (Span start dur) other fits fitting timed = omega arith
timed_some key id kind (Point at) other fits fitting timed = omega arith
timed_some key id kinds.Segment NoTime other fits fitting timed = absurd (true≢false (sym fits))
timed_some key id kinds.Event NoTime other fits fitting timed = absurd (true≢false (sym fits))
timed_some key id kinds.Item NoTime NoTime fits fitting timed = absurd (timed refl)
timed_some key id kinds.Item NoTime (Span start dur) fits fitting timed = absurd (true≢false (sym fitting))
timed_some key id kinds.Item NoTime (Point at) fits fitting timed = absurd (true≢false (sym fitting))

-- a time that breaks no rule has the form of its level
form_of_time : (kind : LevelKind) (time : Time) → time_fault kind time ≡ None → fits_kind kind time ≡ true
form_of_time kind time free = by (fits_kind kind time) free
  where
    by : (t : Bool) → cond (not t) (Some rules.TimeKind) (cond (not (ends_in_time time)) (Some rules.TimeOut) None) ≡ None → t ≡ true
    by true h = refl
    by false h = absurd cc

-- The steps of an edit that breaks no rule.

pub ok_there : {A : Type 0} (o : Option A) (rule : Broken) (x : A) → ok_or o rule ≡ Ok x → o ≡ Some x
ok_there None rule x is = absurd cc
ok_there (Some y) rule x is = ap Some (ok_same y x is)

numbered_at : {A : Type 0} (k : ℕ) (o : Option A) (rule : Broken) (m : ℕ × A) → ok_or (option_map (λ (x : A). (k, x)) o) rule ≡ Ok m → (k ≡ m.0) × (o ≡ Some m.1)
numbered_at k None rule m is = absurd cc
numbered_at {A = A} k (Some x) rule m is =
    let same : (k, x) ≡ m = ok_same (k, x) m is in
    (ap (λ (p : ℕ × A). p.0) same, ap (λ (p : ℕ × A). Some p.1) same)

-- what is found by a name, with its number
pub numbered_is : {A : Type 0} (found : Option ℕ) (xs : List A) (rule : Broken) (m : ℕ × A) → ok_or (option_and_then (numbered xs) found) rule ≡ Ok m →
    (found ≡ Some m.0) × (slice_get xs m.0 ≡ Some m.1)
numbered_is None xs rule m is = absurd cc
numbered_is (Some k) xs rule m is =
    let both = numbered_at k (slice_get xs k) rule m is in
    (ap Some both.0, ap (λ (n : ℕ). slice_get xs n) (sym both.0) ∙ both.1)

-- the item, the level and the attribute of a label that is given
pub record IsLabelled (tested : Bool) (config : ConfigParts) (b next : BundleParts) (id : ItemId) (name label : List ℕ) : Type 0 where
  pub place : ℕ × ℕ
  pub here : place_of b.levels id.0 ≡ Some place
  pub found : IsFound config b id place
  pub attribute : NumberedAttribute
  pub named : attribute_named name found.def.attributes ≡ Some attribute.0
  pub defined : slice_get found.def.attributes attribute.0 ≡ Some attribute.1
  pub given : attribute_of name (slice_get config.levels place.0) ≡ Ok attribute
  pub done : labelled tested id label b attribute ≡ Ok next

pub labelled_parts : (tested : Bool) (config : ConfigParts) (b next : BundleParts) (id : ItemId) (name label : List ℕ) → FitsConfig config b →
    label_given tested config id name label b ≡ Ok next → IsLabelled tested config b next id name label
labelled_parts tested config b next id name label fits is =
    let on = goes_on (place_for id b.levels) (λ place. onward (attribute_of name (slice_get config.levels place.0)) (labelled tested id label b)) next is in
    let here = place_there id b.levels on.middle on.first in
    let f : IsFound config b id on.middle = found_at config b id on.middle fits here in
    let two = goes_on (attribute_of name (slice_get config.levels on.middle.0)) (labelled tested id label b) next on.second in
    let m = two.middle in
    let both = numbered_is (attribute_named name f.def.attributes) f.def.attributes (rules.NoAttribute name) m (ap (attribute_of name) (sym f.defined) ∙ two.first) in
    record { place = on.middle; here = here; found = f; attribute = m; named = both.0; defined = both.1; given = two.first; done = two.second }

-- the item whose time changes
pub record IsRetimed (config : ConfigParts) (b next : BundleParts) (id : ItemId) (time : Time) : Type 0 where
  pub place : ℕ × ℕ
  pub here : place_of b.levels id.0 ≡ Some place
  pub found : IsFound config b id place
  pub free : retime_fault found.level.kind found.level.items place.1 time ≡ None
  pub done : with_change (retimed time) place b ≡ next

pub retimed_parts : (config : ConfigParts) (b next : BundleParts) (id : ItemId) (time : Time) → FitsConfig config b → item_retimed id time b ≡ Ok next → IsRetimed config b next id time
retimed_parts config b next id time fits is =
    let on = goes_on (place_for id b.levels) (λ place. unless_broken (new_time_fault place time b.levels) (with_change (retimed time) place b)) next is in
    let place = on.middle in
    let here = place_there id b.levels place on.first in
    let f : IsFound config b id place = found_at config b id place fits here in
    let passed = unbroken (new_time_fault place time b.levels) (with_change (retimed time) place b) next on.second in
    record {
      place = place;
      here = here;
      found = f;
      free = sym (ap (λ (o : Option Level). option_and_then (λ (l : Level). retime_fault l.kind l.items place.1 time) o) f.there) ∙ passed.0;
      done = passed.1;
    }

-- two segments that touch, with the definition of their level
pub record IsBehind (config : ConfigParts) (b : BundleParts) (id : ItemId) (s next : Segment) : Type 0 where
  pub here : place_of b.levels id.0 ≡ Some (s.level, s.position)
  pub pair : ArePair b.levels s next
  pub def : LevelDef
  pub defined : slice_get config.levels s.level ≡ Some def
  pub kind : pair.level.kind ≡ def.kind
  pub attributes : pair.level.attributes ≡ length def.attributes
  pub is : item_behind config b id ≡ Some (placed def (suc s.position) pair.second)

pub behind_parts : (config : ConfigParts) (b : BundleParts) (id : ItemId) (s next : Segment) → KeepsBundleRules b → FitsConfig config b → segment_of id b.levels ≡ Ok s →
    next_of b.levels s ≡ Ok next → IsBehind config b id s next
behind_parts config b id s next keeps fits own touch =
    let on = goes_on (place_for id b.levels) (λ place. ok_or (segment_at b.levels place) rules.TimeKind) s own in
    let place = on.middle in
    let sp = segment_parts b.levels place s (ok_there (segment_at b.levels place) rules.TimeKind s on.second) in
    let p : ArePair b.levels s next = pair_found b s next keeps (segment_found id b s keeps own) touch in
    let d : HasDef config s.level p.level = def_of config b s.level p.level fits p.there in
    let here : place_of b.levels id.0 ≡ Some (s.level, s.position) =
    place_there id b.levels place on.first ∙ ap (λ (k : ℕ). some_place k place.1) (sym sp.number) ∙ ap (λ (i : ℕ). some_place s.level i) (sym sp.position) in
    record {
      here = here;
      pair = p;
      def = d.def;
      defined = d.defined;
      kind = d.kind;
      attributes = d.attributes;
      is = behind_is config b id s.level s.position p.level p.second d.def here d.defined p.there p.next_at;
    }
  where
    some_place : ℕ → ℕ → Option (ℕ × ℕ)
    some_place k i = Some (k, i)

-- the levels of links that times give
pub record AreTimed (config : ConfigParts) (b next : BundleParts) (upper lower : List ℕ) : Type 0 where
  pub one : NumberedLevel
  pub other : NumberedLevel
  pub upper_is : level_named upper config.levels ≡ Some one.0
  pub lower_is : level_named lower config.levels ≡ Some other.0
  pub upper_def : slice_get config.levels one.0 ≡ Some one.1
  pub lower_def : slice_get config.levels other.0 ≡ Some other.1
  pub kinds_free : timed_kinds_fault one.1.kind other.1.kind ≡ None
  pub some : list_all (is_linked b.links) (timed_pairs (items_at b.levels one.0) (items_at b.levels other.0)) ≡ false
  pub done : pairs_linked (timed_pairs (items_at b.levels one.0) (items_at b.levels other.0)) b ≡ Ok next

pub timed_parts : (config : ConfigParts) (b next : BundleParts) (upper lower : List ℕ) → times_linked config upper lower b ≡ Ok next → AreTimed config b next upper lower
timed_parts config b next upper lower is =
    let first = goes_on (level_found upper config.levels) (λ k. onward (level_found lower config.levels) (levels_linked b k)) next is in
    let second = goes_on (level_found lower config.levels) (levels_linked b first.middle) next first.second in
    let m = first.middle in
    let n = second.middle in
    let one = numbered_is (level_named upper config.levels) config.levels (rules.NoLevel upper) m first.first in
    let other = numbered_is (level_named lower config.levels) config.levels (rules.NoLevel lower) n second.first in
    let pairs = timed_pairs (items_at b.levels m.0) (items_at b.levels n.0) in
    let step = goes_on (unless_broken (timed_fault b (m.0, m.1) (n.0, n.1)) b) (pairs_linked pairs) next second.second in
    let passed = unbroken (timed_fault b (m.0, m.1) (n.0, n.1)) b step.middle step.first in
    let all = or_none (timed_kinds_fault m.1.kind n.1.kind) (option_or (definition_fault b.definitions m.0 n.0) (linked_fault pairs b.links)) passed.0 in
    let left = or_none (definition_fault b.definitions m.0 n.0) (linked_fault pairs b.links) all.1 in
    record {
      one = m;
      other = n;
      upper_is = one.0;
      lower_is = other.0;
      upper_def = one.1;
      lower_def = other.1;
      kinds_free = all.0;
      some = (cond_none (list_all (is_linked b.links) pairs) rules.NothingToLink None left.1).0;
      done = ap (pairs_linked pairs) passed.1 ∙ step.second;
    }

-- a link that is taken out is there
pub record IsUnlinked (b next : BundleParts) (from to : ItemId) : Type 0 where
  pub there : list_any (joins from to) b.links ≡ true
  pub done : with_links b (links_but from to b.links) ≡ next

pub unlinked_parts : (b next : BundleParts) (from to : ItemId) → link_removed from to b ≡ Ok next → IsUnlinked b next from to
unlinked_parts b next from to is =
    let passed = unbroken (missing_fault from to b.links) (with_links b (links_but from to b.links)) next is in
    record { there = by (list_any (joins from to) b.links) passed.0; done = passed.1 }
  where
    by : (t : Bool) → cond t None (Some rules.NoLink) ≡ None → t ≡ true
    by true h = refl
    by false h = absurd cc

-- Each edit that breaks no rule has an inverse of some edits.

label_some : (tested : Bool) (config : ConfigParts) (b next : BundleParts) (key : BundleKey) (id : ItemId) (name label : List ℕ) → FitsConfig config b →
    label_given tested config id name label b ≡ Ok next → 1 ≤ length (if_there (label_again key name) (item_of config b id))
label_some tested config b next key id name label fits is =
    let p : IsLabelled tested config b next id name label = labelled_parts tested config b next id name label fits is in
    one_there (label_again key name) (item_of config b id) (placed p.found.def p.place.1 p.found.item) p.found.is
    (one_there _ (attribute_named name p.found.def.attributes) p.attribute.0 p.named (omega arith))

pub time_some : (config : ConfigParts) (b next : BundleParts) (key : BundleKey) (id : ItemId) (time : Time) → KeepsBundleRules b → FitsConfig config b → (time ≡ NoTime → ⊥) →
    item_retimed id time b ≡ Ok next → 1 ≤ length (if_there (time_again key) (item_of config b id))
time_some config b next key id time keeps fits timed is =
    let p : IsRetimed config b next id time = retimed_parts config b next id time fits is in
    let f = p.found in
    let rule : KeepsLevelRule f.level = rule_at p.place.0 b.levels f.level f.there keeps.levels in
    let fit = fit_at f.level.kind f.level.attributes f.level.items p.place.1 f.item rule f.at in
    let free = (or_none (time_fault f.level.kind time) _ p.free).0 in
    one_there (time_again key) (item_of config b id) (placed f.def p.place.1 f.item) f.is
    (timed_some key f.item.id f.level.kind f.item.time time fit.form (form_of_time f.level.kind time free) timed)

pub some_own : (config : ConfigParts) (counts : Counts) (b next : BundleParts) (e : Edit) → KeepsBundleRules b → FitsConfig config b → bundle_changed config counts e b ≡ Ok next →
    1 ≤ length (own_inverse config b e)
some_own config counts b next (edits.AddBundle key annot) keeps fits is = absurd cc
some_own config counts b next (edits.DropBundle key) keeps fits is = omega arith
some_own config counts b next (edits.AddItem key level position item) keeps fits is = omega arith
some_own config counts b next (edits.RemoveItem key id) keeps fits is =
    let on = goes_on (place_for id b.levels) (λ place. Ok (without id place b)) next is in
    let f : IsFound config b id on.middle = found_at config b id on.middle fits (place_there id b.levels on.middle on.first) in
    some_joined (if_there (item_again key) (item_of config b id)) (links_again key (names_item id) b.links)
    (one_there (item_again key) (item_of config b id) (placed f.def on.middle.1 f.item) f.is (omega arith))
some_own config counts b next (edits.SetLabel key id attribute label) keeps fits is = label_some true config b next key id attribute label fits is
some_own config counts b next (edits.SetSegment key id start dur) keeps fits is = time_some config b next key id (Span start dur) keeps fits (λ no. cc) is
some_own config counts b next (edits.MoveBoundary key id start) keeps fits is =
    let one = goes_on (segment_of id b.levels) (λ s. onward (next_of b.levels s) (λ n. unless_broken (cut_fault s (last_of n) start) (moved start s n b))) next is in
    let two = goes_on (next_of b.levels one.middle) (λ n. unless_broken (cut_fault one.middle (last_of n) start) (moved start one.middle n b)) next one.second in
    let p = behind_parts config b id one.middle two.middle keeps fits one.first two.first in
    one_there (boundary_again key id) (item_behind config b id) _ p.is (omega arith)
some_own config counts b next (edits.SetPoint key id at) keeps fits is = time_some config b next key id (Point at) keeps fits (λ no. cc) is
some_own config counts b next (edits.Split key id new_id start) keeps fits is = omega arith
some_own config counts b next (edits.Merge key id) keeps fits is =
    let one = goes_on (segment_of id b.levels) (λ s. onward (next_of b.levels s) (λ n. fine_value (joined b s n))) next is in
    let two = goes_on (next_of b.levels one.middle) (λ n. fine_value (joined b one.middle n)) next one.second in
    let p = behind_parts config b id one.middle two.middle keeps fits one.first two.first in
    one_there (cut_again b key id) (item_behind config b id) _ p.is (omega arith)
some_own config counts b next (edits.AddLink key from to) keeps fits is = omega arith
some_own config counts b next (edits.RemoveLink key from to) keeps fits is = some_again key (joins from to) 0 b.links (unlinked_parts b next from to is).there
some_own config counts b next (edits.LinkTimes key upper lower) keeps fits is =
    let p : AreTimed config b next upper lower = timed_parts config b next upper lower is in
    let pairs = new_pairs b p.one.0 p.other.0 in
    let some = some_new b.links (timed_pairs (items_at b.levels p.one.0) (items_at b.levels p.other.0)) p.some in
    let one = length-map (reverse pairs) (pair_out key) in
    let two = length-reverse pairs in
    one_there _ (level_named upper config.levels) p.one.0 p.upper_is
    (one_there _ (level_named lower config.levels) p.other.0 p.lower_is (omega (arith, some, one, two)))
some_own config counts b next (edits.PutItem key level position item) keeps fits is = omega arith
some_own config counts b next (edits.PutLabel key id attribute label) keeps fits is = label_some false config b next key id attribute label fits is
some_own config counts b next (edits.PutLink key from to place) keeps fits is = omega arith

-- Levels whose times may be asked.

kinds_right : (config : ConfigParts) (b : BundleParts) (k : ℕ) (level : Level) (def : LevelDef) → FitsConfig config b → slice_get b.levels k ≡ Some level →
    slice_get config.levels k ≡ Some def → level.kind ≡ def.kind
kinds_right config b k level def fits there defined =
    let own : HasDef config k level = def_of config b k level fits there in
    own.kind ∙ ap (λ (d : LevelDef). d.kind) (some_same own.def def (sym own.defined ∙ defined))

pub times_of : (config : ConfigParts) (counts : Counts) (b next : BundleParts) (e : Edit) → FitsConfig config b → bundle_changed config counts e b ≡ Ok next → HasTimes config b e
times_of config counts b next (edits.LinkTimes key upper lower) fits is =
    λ one other first second own below there under.
    let p : AreTimed config b next upper lower = timed_parts config b next upper lower is in
    let same : p.one.0 ≡ one = some_same p.one.0 one (sym p.upper_is ∙ first) in
    let alike : p.other.0 ≡ other = some_same p.other.0 other (sym p.lower_is ∙ second) in
    let upper_kind : own.kind ≡ p.one.1.kind = kinds_right config b one own p.one.1 fits there (ap (λ (k : ℕ). slice_get config.levels k) (sym same) ∙ p.upper_def) in
    let lower_kind : below.kind ≡ p.other.1.kind = kinds_right config b other below p.other.1 fits under (ap (λ (k : ℕ). slice_get config.levels k) (sym alike) ∙ p.lower_def) in (
      upper_kind ∙ from_segments p.one.1.kind p.other.1.kind p.kinds_free,
      λ no. to_timed p.one.1.kind p.other.1.kind p.kinds_free (sym lower_kind ∙ no),
    )
times_of config counts b next (edits.AddBundle key annot) fits is = tt
times_of config counts b next (edits.DropBundle key) fits is = tt
times_of config counts b next (edits.AddItem key level position item) fits is = tt
times_of config counts b next (edits.RemoveItem key id) fits is = tt
times_of config counts b next (edits.SetLabel key id attribute label) fits is = tt
times_of config counts b next (edits.SetSegment key id start dur) fits is = tt
times_of config counts b next (edits.MoveBoundary key id start) fits is = tt
times_of config counts b next (edits.SetPoint key id at) fits is = tt
times_of config counts b next (edits.Split key id new_id start) fits is = tt
times_of config counts b next (edits.Merge key id) fits is = tt
times_of config counts b next (edits.AddLink key from to) fits is = tt
times_of config counts b next (edits.RemoveLink key from to) fits is = tt
times_of config counts b next (edits.PutItem key level position item) fits is = tt
times_of config counts b next (edits.PutLabel key id attribute label) fits is = tt
times_of config counts b next (edits.PutLink key from to place) fits is = tt
