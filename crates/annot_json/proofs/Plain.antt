-- The value of a bundle has no float and nests little, so its text is known, and reads as that value.
use Rattle.std.proofs.Common.{◌≡◌, ◌≤◌, ℕ, max, List, [], ◌∷◌, map, false, refl, ap, ◌∙◌, arith}
use Rattle.std.specs.Prelude.{Some}
use Rattle.serde_json.specs.Data.{Data, depth, items_depth}
use Rattle.serde_json.specs.Read.{read, max_depth}
use Rattle.serde_json.specs.View.{items_of}
use Rattle.serde_json.specs.Written.{compact_text, has_float, items_have_float, members_have_float}
use Rattle.level_items.specs.declared.times.Time.{Time}
use Rattle.level_items.specs.declared.times.Time.TheVariants.{NoTime, Span, Point}
use Rattle.level_items.specs.declared.annot.AnnotItem.{AnnotItem}
use Rattle.level_items.specs.declared.annot.AnnotLevel.{AnnotLevel}
use Rattle.level_items.specs.declared.annot.Annot.{Annot}
use Rattle.db_config.specs.declared.parts.ConfigParts.{ConfigParts}
use Rattle.bundle_state.specs.Bundle.{BundleParts}
use Rattle.annot_json.specs.Given.{given}
use Rattle.annot_json.specs.Texts.{label_data, time_members, item_data, level_data, link_data, annot_data, bundle_data, printed}

-- lists

list_plain : {A : Type 0} (f : A → Data) → ((x : A) → has_float (f x) ≡ false) → (xs : List A) → items_have_float (items_of (map f xs)) ≡ false
list_plain f each [] = refl
list_plain f each (x ∷ xs) = rw (each x) (list_plain f each xs)

more : (a b n : ℕ) → a ≤ n → b ≤ n → max a b ≤ n
more a b n h k = omega (arith, h, k)

list_low : {A : Type 0} (f : A → Data) (n : ℕ) → ((x : A) → depth (f x) ≤ n) → (xs : List A) → items_depth (items_of (map f xs)) ≤ n
list_low f n each [] = omega arith
list_low f n each (x ∷ xs) = more (depth (f x)) (items_depth (items_of (map f xs))) n (each x) (list_low f n each xs)

-- no float

item_plain : (i : AnnotItem) → has_float (item_data i) ≡ false
item_plain i = rw (list_plain label_data (λ l. refl) i.labels) (by_time i.time)
  where
    by_time : (time : Time) → members_have_float (time_members time) ≡ false
    by_time NoTime = refl
    by_time (Span start dur) = refl
    by_time (Point sample) = refl

level_plain : (l : AnnotLevel) → has_float (level_data l) ≡ false
level_plain l = rw (list_plain item_data item_plain l.items) refl

annot_plain : (name : List ℕ) (a : Annot) → has_float (annot_data name a) ≡ false
annot_plain name a = rw (list_plain level_data level_plain a.levels, list_plain link_data (λ l. refl) a.links) refl

-- the depth

item_low : (i : AnnotItem) → depth (item_data i) ≤ 3
item_low i = by_time i.time
  where
    labels_low : items_depth (items_of (map label_data i.labels)) ≤ 1
    labels_low = list_low label_data 1 (λ l. omega arith) i.labels

    by_time : (time : Time) → depth (item_data (record { id = i.id; time = time; labels = i.labels })) ≤ 3
    by_time NoTime = omega (arith, labels_low)
    by_time (Span start dur) = omega (arith, labels_low)
    by_time (Point sample) = omega (arith, labels_low)

level_low : (l : AnnotLevel) → depth (level_data l) ≤ 5
level_low l = let items = list_low item_data 3 item_low l.items in omega (arith, items)

annot_low : (name : List ℕ) (a : Annot) → depth (annot_data name a) ≤ max_depth
annot_low name a =
    let levels = list_low level_data 5 level_low a.levels in
    let links = list_low link_data 1 (λ l. omega arith) a.links in
    omega (arith, levels, links)

-- the text

pub bundle_text : (text : List ℕ) (d : Data) (config : ConfigParts) (bundle : BundleParts) → d ≡ bundle_data config bundle →
    (has_float d ≡ false → text ≡ compact_text d) → text ≡ printed config bundle
unfolding printed
bundle_text text d config bundle same is =
    is (ap has_float same ∙ annot_plain bundle.key.bundle (given config bundle)) ∙ ap compact_text same

pub bundle_reads : (text : List ℕ) (d : Data) (config : ConfigParts) (bundle : BundleParts) → d ≡ bundle_data config bundle →
    (depth d ≤ max_depth → read text ≡ Some d) → read text ≡ Some (bundle_data config bundle)
bundle_reads text d config bundle same is =
    is (rw same (annot_low bundle.key.bundle (given config bundle))) ∙ ap Some same
