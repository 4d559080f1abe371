-- What the values of a bundle's parts are.
use Rattle.std.proofs.Common.{◌≡◌, ◌≤◌, ◌<◌, ℕ, zero, suc, ◌+◌, List, [], ◌∷◌, ◌++◌, map, take, length, get_or, codes, refl, ap, sym, ◌∙◌, append_assoc, subst, add-one}
use Rattle.std.specs.Prelude.{Some, Bool, true, nat_le}
use Rattle.std.specs.List.{slice_get, list_all}
use Rattle.std.proofs.lemmas.Bool.{and_parts, and_from, le-leb}
use Rattle.emu_names.specs.declared.limits.TheConstants.{TOP_ID}
use Rattle.annot_json.specs.Inner.Laws.{has_read_id, has_read_ids}
use Rattle.std.proofs.lemmas.List.{map-append, length-map, take_all}
use Rattle.std.proofs.lemmas.Option.{slice_get_read}
use Rattle.std.proofs.lemmas.Simd.{map-map}
use Rattle.serde_json.specs.Data.{Data, array, Members, no_members, member, put}
use Rattle.serde_json.specs.declared.value.Value.{Value}
use Rattle.serde_json.specs.View.{view, items_of}
use Rattle.level_items.specs.declared.times.Time.{Time}
use Rattle.level_items.specs.declared.times.Time.TheVariants.{NoTime, Span, Point}
use Rattle.level_items.specs.declared.items.Item.{Item}
use Rattle.level_items.specs.Levels.{Level}
use Rattle.link_graph.specs.declared.link.Link.{Link}
use Rattle.db_config.specs.declared.attributes.AttributeDef.{AttributeDef}
use Rattle.db_config.specs.declared.parts.LevelDef.{LevelDef}
use Rattle.db_config.specs.declared.parts.ConfigParts.{ConfigParts}
use Rattle.bundle_state.specs.Bundle.{BundleParts}
use Rattle.bundle_state.specs.Built.{FitsConfig, form_of, form_asked}
use Rattle.bundle_state.specs.Linked.{pair_of}
use Rattle.annot_json.specs.Given.{given_item, given_level, given_levels}
use Rattle.annot_json.specs.Texts.{whole, time_members, list_data, item_data, level_data, link_data}
use Rattle.annot_json.specs.Inner.Texts.{with_time}

-- the time stands behind the id and the labels
pub timed : (time : Time) (id labels : Data) →
    with_time time (member (codes "id") id (member (codes "labels") labels no_members))
    ≡ member (codes "id") id (member (codes "labels") labels (time_members time))
timed NoTime id labels = refl
timed (Span start dur) id labels = refl
timed (Point at) id labels = refl

-- the members of a time are put behind others
pub span_put : (time : Time) (start dur : ℕ) (s d : Data) (old mid new : Members) → time ≡ Span start dur → s ≡ whole start → d ≡ whole dur →
    mid ≡ put (codes "sampleStart") s old → new ≡ put (codes "sampleDur") d mid → new ≡ with_time time old
span_put time start dur s d old mid new is first second put_first put_second = rw (is, put_second, put_first, first, second) refl

pub point_put : (time : Time) (at : ℕ) (d : Data) (old new : Members) → time ≡ Point at → d ≡ whole at → new ≡ put (codes "samplePoint") d old → new ≡ with_time time old
point_put time at d old new is first put_first = rw (is, put_first, first) refl

-- a value is put last, and then others
pub put_before : {A B : Type 0} (f : A → B) (old mid new : List A) (x : A) (d : B) (rest : List B) → mid ≡ old ++ x ∷ [] → f x ≡ d →
    map f new ≡ map f mid ++ rest → map f new ≡ map f old ++ d ∷ rest
put_before f old mid new x d rest put is after =
    after ∙ ap (λ ys. map f ys ++ rest) put ∙ ap (λ ys. ys ++ rest) (map-append f old (x ∷ [])) ∙ append_assoc (map f old) (f x ∷ []) rest
    ∙ ap (λ y. map f old ++ y ∷ rest) is

-- one element more of those that stand before a place
pub take_one : {A : Type 0} (xs : List A) (place : ℕ) (x : A) → slice_get xs place ≡ Some x → take (suc place) xs ≡ take place xs ++ x ∷ []
take_one [] place x here = cc
take_one (y ∷ ys) zero x here = cc
take_one (y ∷ ys) (suc place) x here = ap (λ zs. y ∷ zs) (take_one ys place x here)

-- one value more
pub value_more : {A B V : Type 0} (f : V → B) (g : A → B) (xs : List A) (place : ℕ) (x : A) (old new : List V) (v : V) → map f old ≡ map g (take place xs) →
    slice_get xs place ≡ Some x → f v ≡ g x → new ≡ old ++ v ∷ [] → map f new ≡ map g (take (place + 1) xs)
value_more f g xs place x old new v before here is put =
    ap (map f) put ∙ map-append f old (v ∷ []) ∙ ap (λ ys. ys ++ f v ∷ []) before ∙ ap (λ y. map g (take place xs) ++ y ∷ []) is
    ∙ sym (map-append g (take place xs) (x ∷ [])) ∙ ap (map g) (sym (take_one xs place x here)) ∙ ap (λ n. map g (take n xs)) (sym (add-one place))

-- the items of a level
pub items_shown : (d : Data) (values : List Value) (defs : List AttributeDef) (items : List Item) (n : ℕ) → d ≡ array (items_of (map view values)) →
    map view values ≡ map (λ i. item_data (given_item defs i)) (take n items) → length items ≤ n → d ≡ list_data (map item_data (map (given_item defs) items))
items_shown d values defs items n is before past =
    is ∙ ap (λ ds. array (items_of ds)) (before ∙ ap (map (λ i. item_data (given_item defs i))) (take_all n items past) ∙ sym (map-map item_data (given_item defs) items))

-- the links of a bundle

pub link_more : (links : List Link) (place : ℕ) (link : Link) (old new : List Value) (v : Value) → map view old ≡ map (λ k. link_data (pair_of k)) (take place links) →
    slice_get links place ≡ Some link → view v ≡ link_data (pair_of link) → new ≡ old ++ v ∷ [] →
    map view new ≡ map (λ k. link_data (pair_of k)) (take (place + 1) links)
link_more links place link old new v before here is put = value_more view (λ k. link_data (pair_of k)) links place link old new v before here is put

pub links_shown : (d : Data) (values : List Value) (links : List Link) (place : ℕ) → d ≡ array (items_of (map view values)) →
    map view values ≡ map (λ k. link_data (pair_of k)) (take place links) → length links ≤ place → d ≡ list_data (map link_data (map pair_of links))
links_shown d values links place is before past =
    is ∙ ap (λ ds. array (items_of ds)) (before ∙ ap (map (λ k. link_data (pair_of k))) (take_all place links past) ∙ sym (map-map link_data pair_of links))

-- the levels of a bundle

-- one level more
levels_at : (defs : List LevelDef) (levels : List Level) (place : ℕ) (def : LevelDef) (level : Level) → slice_get defs place ≡ Some def → slice_get levels place ≡ Some level →
    given_levels (take (suc place) defs) levels ≡ given_levels (take place defs) levels ++ given_level def level ∷ []
levels_at [] levels place def level d l = cc
levels_at (e ∷ defs) [] place def level d l = cc
levels_at (e ∷ defs) (m ∷ levels) zero def level d l = cc
levels_at (e ∷ defs) (m ∷ levels) (suc place) def level d l = ap (λ ys. given_level e m ∷ ys) (levels_at defs levels place def level d l)

pub level_more : (defs : List LevelDef) (levels : List Level) (place : ℕ) (def : LevelDef) (level : Level) (old new : List Value) (v : Value) →
    map view old ≡ map level_data (given_levels (take place defs) levels) → place < length defs →
    def ≡ get_or defs place def → slice_get levels place ≡ Some level → view v ≡ level_data (given_level def level) → new ≡ old ++ v ∷ [] →
    map view new ≡ map level_data (given_levels (take (place + 1) defs) levels)
level_more defs levels place def level old new v before within d l is put =
    let here = slice_get_read defs (length defs) place def refl within d in
    ap (map view) put ∙ map-append view old (v ∷ []) ∙ ap (λ ys. ys ++ view v ∷ []) before
    ∙ ap (λ y. map level_data (given_levels (take place defs) levels) ++ y ∷ []) is
    ∙ sym (map-append level_data (given_levels (take place defs) levels) (given_level def level ∷ []))
    ∙ ap (map level_data) (sym (levels_at defs levels place def level here l))
    ∙ ap (λ n. map level_data (given_levels (take n defs) levels)) (sym (add-one place))

-- a bundle has as many levels as its configuration
pub level_there : (config : ConfigParts) (bundle : BundleParts) (place : ℕ) → FitsConfig config bundle → place < length config.levels → place < length bundle.levels
level_there config bundle place fits within =
    let same : length bundle.levels ≡ length config.levels =
    sym (length-map bundle.levels form_of) ∙ ap length fits.levels ∙ length-map config.levels form_asked in
    subst (λ n. place < n) (sym same) within

-- ids that may be read

pub id_reads : (n : ℕ) → n ≤ TOP_ID → nat_le n TOP_ID ≡ true
id_reads n h = le-leb n TOP_ID h

all_take : {A : Type 0} (test : A → Bool) (xs : List A) (place : ℕ) (x : A) → slice_get xs place ≡ Some x → test x ≡ true →
    list_all test (take place xs) ≡ true → list_all test (take (suc place) xs) ≡ true
all_take test [] place x here passes before = cc
all_take test (y ∷ ys) zero x here passes before = let same : y ≡ x = cc in rw (same, passes) refl
all_take test (y ∷ ys) (suc place) x here passes before =
    let both = and_parts (test y) (list_all test (take place ys)) before in
    and_from (test y) (list_all test (take (suc place) ys)) both.0 (all_take test ys place x here passes both.1)

pub all_more : {A : Type 0} (test : A → Bool) (xs : List A) (place : ℕ) (x : A) → slice_get xs place ≡ Some x → test x ≡ true →
    list_all test (take place xs) ≡ true → list_all test (take (place + 1) xs) ≡ true
all_more test xs place x here passes before = rw add-one (all_take test xs place x here passes before)

pub all_end : {A : Type 0} (test : A → Bool) (xs : List A) (place : ℕ) → length xs ≤ place → list_all test (take place xs) ≡ true → list_all test xs ≡ true
all_end test xs place past before = rw (take_all place xs past) at before

-- the items of a level, so far
pub record AreShown (defs : List AttributeDef) (values : List Value) (items : List Item) (place : ℕ) : Type 0 where
  pub shown : map view values ≡ map (λ i. item_data (given_item defs i)) (take place items)
  pub ids : list_all has_read_id (take place items) ≡ true

pub items_more : (defs : List AttributeDef) (old new : List Value) (v : Value) (items : List Item) (place : ℕ) (item : Item) → AreShown defs old items place →
    place < length items → item ≡ get_or items place item → view v ≡ item_data (given_item defs item) → has_read_id item ≡ true → new ≡ old ++ v ∷ [] →
    AreShown defs new items (place + 1)
items_more defs old new v items place item before within is shown id put =
    let here = slice_get_read items (length items) place item refl within is in
    record {
      shown = value_more view (λ i. item_data (given_item defs i)) items place item old new v before.shown here shown put;
      ids = all_more has_read_id items place item here id before.ids;
    }

-- the levels of a bundle, so far
pub record AreLevelsShown (defs : List LevelDef) (values : List Value) (levels : List Level) (place : ℕ) : Type 0 where
  pub shown : map view values ≡ map level_data (given_levels (take place defs) levels)
  pub ids : list_all has_read_ids (take place levels) ≡ true

pub levels_more : (defs : List LevelDef) (levels : List Level) (place : ℕ) (def : LevelDef) (level : Level) (old new : List Value) (v : Value) →
    AreLevelsShown defs old levels place → place < length defs →
    def ≡ get_or defs place def → slice_get levels place ≡ Some level → view v ≡ level_data (given_level def level) → has_read_ids level ≡ true → new ≡ old ++ v ∷ [] →
    AreLevelsShown defs new levels (place + 1)
levels_more defs levels place def level old new v before within d l shown ids put = record {
  shown = level_more defs levels place def level old new v before.shown within d l shown put;
  ids = all_more has_read_ids levels place level l ids before.ids;
}

-- a bundle has no more levels than its configuration
pub levels_end : (config : ConfigParts) (bundle : BundleParts) (place : ℕ) → FitsConfig config bundle → length config.levels ≤ place → length bundle.levels ≤ place
levels_end config bundle place fits past =
    let same : length bundle.levels ≡ length config.levels =
    sym (length-map bundle.levels form_of) ∙ ap length fits.levels ∙ length-map config.levels form_asked in
    subst (λ n. n ≤ place) (sym same) past
