-- The value that an annotation is printed as is read as that annotation.
use Rattle.std.proofs.Common.{◌≡◌, ℕ, ◌+◌, Bool, true, ◌&&◌, List, [], ◌∷◌, map, codes, refl, ap}
use Rattle.std.specs.Prelude.{Result, Ok, nat_le}
use Rattle.std.specs.List.{list_all}
use Rattle.std.proofs.lemmas.Bool.{and_parts}
use Rattle.serde_json.specs.Data.{Data, string}
use Rattle.serde_json.specs.View.{items_of}
use Rattle.json_view.specs.declared.faults.Shape.{Shape}
use Rattle.json_view.specs.declared.wants.Wanted.TheVariants as wanted
use Rattle.json_view.specs.Seen.{Seen, seen}
use Rattle.json_view.specs.Paths.{element_path, member_path}
use Rattle.json_view.specs.Parts.{member_of, optional_of, object_of, text_at, whole_at, elements, elements_at}
use Rattle.json_view.specs.Lists.{readings, each_from, each_of}
use Rattle.emu_names.specs.declared.kinds.ItemId.{ItemId}
use Rattle.emu_names.specs.declared.kinds.LevelKind.{LevelKind}
use Rattle.emu_names.specs.declared.kinds.LevelKind.TheVariants as kinds
use Rattle.level_items.specs.declared.times.Time.{Time}
use Rattle.level_items.specs.declared.times.Time.TheVariants.{NoTime, Span, Point}
use Rattle.level_items.specs.declared.annot.AnnotLabel.{AnnotLabel}
use Rattle.level_items.specs.declared.annot.AnnotItem.{AnnotItem}
use Rattle.level_items.specs.declared.annot.AnnotLevel.{AnnotLevel}
use Rattle.level_items.specs.declared.annot.AnnotLink.{AnnotLink}
use Rattle.level_items.specs.declared.annot.Annot.{Annot}
use Rattle.config_json.specs.Forms.{text_member, optional_text, level_kind_at, level_kind_in}
use Rattle.emu_names.specs.declared.limits.TheConstants.{TOP_ID, TOP_WHOLE}
use Rattle.annot_json.specs.Forms.{whole_member}
use Rattle.annot_json.specs.Read.{label_in, labels_in, span_in, point_in, time_in, item_in, items_in, level_in, levels_in, link_in, links_in, annot_of}
use Rattle.annot_json.specs.Texts.{whole, list_data, label_data, item_data, level_data, link_data, annot_data}
use Rattle.annot_json.specs.Laws.{is_read_time, is_read_item, is_read_level, is_read_link, is_read_annot}

-- parts

whole_here : (name : List ℕ) (most n : ℕ) (s : Seen) (p : List ℕ) → member_of name wanted.Whole s ≡ Ok (seen (whole n) p) → nat_le n most ≡ true → whole_member name most s ≡ Ok n
unfolding whole_member whole_at
whole_here name most n s p here low = rw (here, low) refl

text_here : (name t : List ℕ) (s : Seen) (p : List ℕ) → member_of name wanted.Text s ≡ Ok (seen (string t) p) → text_member name s ≡ Ok t
unfolding text_member text_at
text_here name t s p here = rw here refl

-- lists

elements_map : (ds : List Data) → elements (items_of ds) ≡ ds
elements_map [] = refl
elements_map (d ∷ ds) = ap (λ es. d ∷ es) (elements_map ds)

module _ {A : Type 0} (read : Seen → Result A Shape) (f : A → Data) (P : A → Bool) (each : (x : A) (p : List ℕ) → P x ≡ true → read (seen (f x) p) ≡ Ok x) where
  readings_back : (path : List ℕ) (place : ℕ) (xs : List A) → list_all P xs ≡ true → readings read path place (map f xs) ≡ Ok xs
  readings_back path place [] h = refl
  readings_back path place (x ∷ xs) h =
      let both = and_parts (P x) (list_all P xs) h in
      rw (each x (element_path path place) both.0, readings_back path (place + 1) xs both.1) refl

  each_back : (path : List ℕ) (xs : List A) → list_all P xs ≡ true → each_of read (seen (list_data (map f xs)) path) ≡ Ok xs
  unfolding each_of elements_at each_from
  each_back path xs h = rw (elements_map (map f xs)) (readings_back path 0 xs h)

all_true : {A : Type 0} (xs : List A) → list_all (λ x. true) xs ≡ true
all_true [] = refl
all_true (x ∷ xs) = all_true xs

-- labels

label_back : (l : AnnotLabel) (path : List ℕ) → label_in (seen (label_data l) path) ≡ Ok l
unfolding label_in object_of text_member member_of text_at
label_back l path = refl

labels_back : (i : AnnotItem) (path : List ℕ) → labels_in (seen (item_data i) path) ≡ Ok i.labels
unfolding labels_in optional_of
labels_back i path = each_back label_in label_data (λ l. true) (λ l p h. label_back l p) (member_path path (codes "labels")) i.labels (all_true i.labels)

-- items

abbrev item_of : ItemId → Time → List AnnotLabel → AnnotItem
item_of id time labels = record { id = id; time = time; labels = labels }

id_back : (i : AnnotItem) (path : List ℕ) → nat_le i.id.0 TOP_ID ≡ true → whole_member (codes "id") TOP_ID (seen (item_data i) path) ≡ Ok i.id.0
unfolding member_of
id_back i path low = whole_here (codes "id") TOP_ID i.id.0 (seen (item_data i) path) (member_path path (codes "id")) refl low

time_back : (kind : LevelKind) (id : ItemId) (labels : List AnnotLabel) (time : Time) (path : List ℕ) → is_read_time kind time ≡ true →
    time_in kind (seen (item_data (item_of id time labels)) path) ≡ Ok time
unfolding span_in point_in member_of
time_back kinds.Item id labels NoTime path h = refl
time_back kinds.Item id labels (Span start dur) path h = cc
time_back kinds.Item id labels (Point sample) path h = cc
time_back kinds.Segment id labels (Span start dur) path h =
    let low = and_parts (nat_le start TOP_WHOLE) (nat_le dur TOP_WHOLE) h in
    let s = seen (item_data (item_of id (Span start dur) labels)) path in
    rw (
      whole_here (codes "sampleStart") TOP_WHOLE start s (member_path path (codes "sampleStart")) refl low.0,
      whole_here (codes "sampleDur") TOP_WHOLE dur s (member_path path (codes "sampleDur")) refl low.1,
    ) refl
time_back kinds.Segment id labels NoTime path h = cc
time_back kinds.Segment id labels (Point sample) path h = cc
time_back kinds.Event id labels (Point sample) path h =
    let s = seen (item_data (item_of id (Point sample) labels)) path in
    rw (whole_here (codes "samplePoint") TOP_WHOLE sample s (member_path path (codes "samplePoint")) refl h) refl
time_back kinds.Event id labels NoTime path h = cc
time_back kinds.Event id labels (Span start dur) path h = cc

item_back : (kind : LevelKind) (i : AnnotItem) (path : List ℕ) → is_read_item kind i ≡ true → item_in kind (seen (item_data i) path) ≡ Ok i
unfolding item_in object_of
item_back kind i path h =
    let both = and_parts (nat_le i.id.0 TOP_ID) (is_read_time kind i.time) h in
    rw (id_back i path both.0, labels_back i path, time_back kind i.id i.labels i.time path both.1) refl

items_back : (l : AnnotLevel) (path : List ℕ) → is_read_level l ≡ true → items_in l.kind (seen (level_data l) path) ≡ Ok l.items
unfolding items_in optional_of
items_back l path h = each_back (item_in l.kind) item_data (is_read_item l.kind) (item_back l.kind) (member_path path (codes "items")) l.items h

-- levels

kind_back : (l : AnnotLevel) (path : List ℕ) → level_kind_at (seen (level_data l) path) ≡ Ok l.kind
unfolding level_kind_at level_kind_in member_of
kind_back l path = by_kind l.kind
  where
    by_kind : (kind : LevelKind) → level_kind_at (seen (level_data (record { name = l.name; kind = kind; items = l.items })) path) ≡ Ok kind
    by_kind kinds.Item = refl
    by_kind kinds.Segment = refl
    by_kind kinds.Event = refl

level_back : (l : AnnotLevel) (path : List ℕ) → is_read_level l ≡ true → level_in (seen (level_data l) path) ≡ Ok l
unfolding level_in object_of text_member member_of text_at
level_back l path h = rw (kind_back l path, items_back l path h) refl

levels_back : (name : List ℕ) (a : Annot) (path : List ℕ) → list_all is_read_level a.levels ≡ true → levels_in (seen (annot_data name a) path) ≡ Ok a.levels
unfolding levels_in optional_of
levels_back name a path h = each_back level_in level_data is_read_level level_back (member_path path (codes "levels")) a.levels h

-- links

link_back : (l : AnnotLink) (path : List ℕ) → is_read_link l ≡ true → link_in (seen (link_data l) path) ≡ Ok l
unfolding link_in object_of member_of
link_back l path h =
    let low = and_parts (nat_le l.from.0 TOP_ID) (nat_le l.to.0 TOP_ID) h in
    let s = seen (link_data l) path in
    rw (
      whole_here (codes "fromID") TOP_ID l.from.0 s (member_path path (codes "fromID")) refl low.0,
      whole_here (codes "toID") TOP_ID l.to.0 s (member_path path (codes "toID")) refl low.1,
    ) refl

links_back : (name : List ℕ) (a : Annot) (path : List ℕ) → list_all is_read_link a.links ≡ true → links_in (seen (annot_data name a) path) ≡ Ok a.links
unfolding links_in optional_of
links_back name a path h = each_back link_in link_data is_read_link link_back (member_path path (codes "links")) a.links h

-- the annotation

rate_back : (name : List ℕ) (a : Annot) (path : List ℕ) → nat_le a.rate TOP_WHOLE ≡ true → whole_member (codes "sampleRate") TOP_WHOLE (seen (annot_data name a) path) ≡ Ok a.rate
unfolding member_of
rate_back name a path low = whole_here (codes "sampleRate") TOP_WHOLE a.rate (seen (annot_data name a) path) (member_path path (codes "sampleRate")) refl low

pub annot_back : (name path : List ℕ) (a : Annot) → is_read_annot a ≡ true → annot_of (seen (annot_data name a) path) ≡ Ok a
unfolding annot_of object_of optional_text optional_of text_at
annot_back name path a h =
    let links = and_parts (nat_le a.rate TOP_WHOLE && list_all is_read_level a.levels) (list_all is_read_link a.links) h in
    let first = and_parts (nat_le a.rate TOP_WHOLE) (list_all is_read_level a.levels) links.0 in
    rw (rate_back name a path first.0, levels_back name a path first.1, links_back name a path links.1) refl
