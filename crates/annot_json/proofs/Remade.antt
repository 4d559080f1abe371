-- The text of a bundle is read as its annotation, which makes the bundle again.
use Rattle.std.proofs.Common.{◌≡◌, ◌<◌, ℕ, suc, ◌+◌, Bool, true, false, ◌&&◌, List, [], ◌∷◌, map, length, Some, nat_eq, nat_le, refl, arith, All, eqb-true}
use Rattle.std.specs.List.{list_all, list_any}
use Rattle.std.proofs.lemmas.Bool.{and_parts, and_from, le-leb, leb-true, ltb-true}
use Rattle.std.proofs.lemmas.List.Elements.{All-head, All-tail}
use Rattle.serde_json.specs.Read.{read}
use Rattle.json_view.specs.Paths.{root_path}
use Rattle.emu_names.specs.declared.kinds.LevelKind.{LevelKind}
use Rattle.emu_names.specs.declared.kinds.LevelKind.TheVariants as kinds
use Rattle.emu_names.specs.declared.limits.TheConstants.{SAMPLES, TOP_ID, TOP_RATE, TOP_WHOLE}
use Rattle.level_items.specs.declared.times.Time.{Time}
use Rattle.level_items.specs.declared.times.Time.TheVariants.{NoTime, Span, Point}
use Rattle.level_items.specs.declared.items.Item.{Item}
use Rattle.level_items.specs.Levels.{Level, fits_level, are_labels_for}
use Rattle.level_items.specs.Times.{fits_kind, ends_in_time}
use Rattle.link_graph.specs.declared.link.Link.{Link}
use Rattle.db_config.specs.declared.parts.LevelDef.{LevelDef}
use Rattle.db_config.specs.declared.parts.LinkDef.{LinkDef}
use Rattle.db_config.specs.declared.parts.ConfigParts.{ConfigParts}
use Rattle.db_config.specs.Valid.{is_valid}
use Rattle.bundle_state.specs.Bundle.{BundleParts, has_id, level_from, level_of_id}
use Rattle.bundle_state.specs.Built.{FitsConfig}
use Rattle.bundle_state.specs.Faults.{is_rate}
use Rattle.bundle_state.specs.Linked.{IsBetween, pair_of}
use Rattle.bundle_state.specs.Valid.{KeepsBundleRules}
use Rattle.annot_json.specs.Given.{given, given_item, given_level, given_levels}
use Rattle.annot_json.specs.Texts.{bundle_data}
use Rattle.annot_json.specs.Laws.{is_read_time, is_read_item, is_read_level, is_read_link, is_read_annot}
use Rattle.annot_json.specs.Inner.Laws.{has_read_id, has_read_ids, remade}
use Rattle.annot_json.proofs.Fits.{sound, levels_named, levels_as, AreAs}
use Rattle.annot_json.proofs.ReadBack.{annot_back}
use Rattle.annot_json.proofs.Built.{given_builds}

-- ---- times

low : (n : ℕ) → n < SAMPLES → nat_le n TOP_WHOLE ≡ true
low n h = le-leb n TOP_WHOLE (omega (arith, h))

time_reads : (kind : LevelKind) (time : Time) → fits_kind kind time ≡ true → ends_in_time time ≡ true → is_read_time kind time ≡ true
time_reads kinds.Item NoTime fits ends = refl
time_reads kinds.Item (Span start dur) fits ends = cc
time_reads kinds.Item (Point sample) fits ends = cc
time_reads kinds.Segment (Span start dur) fits ends =
    let below = ltb-true (start + dur) SAMPLES ends in
    and_from (nat_le start TOP_WHOLE) (nat_le dur TOP_WHOLE) (low start (omega (arith, below))) (low dur (omega (arith, below)))
time_reads kinds.Segment NoTime fits ends = cc
time_reads kinds.Segment (Point sample) fits ends = cc
time_reads kinds.Event (Point sample) fits ends = low sample (ltb-true sample SAMPLES ends)
time_reads kinds.Event NoTime fits ends = cc
time_reads kinds.Event (Span start dur) fits ends = cc

-- ---- items and levels

items_read : (def : LevelDef) (items : List Item) → list_all (fits_level def.kind (length def.attributes)) items ≡ true → list_all has_read_id items ≡ true →
    list_all (is_read_item def.kind) (map (given_item def.attributes) items) ≡ true
items_read def [] fits ids = refl
items_read def (i ∷ is) fits ids =
    let both = and_parts (fits_level def.kind (length def.attributes) i) (list_all (fits_level def.kind (length def.attributes)) is) fits in
    let id = and_parts (has_read_id i) (list_all has_read_id is) ids in
    let timed = and_parts (fits_kind def.kind i.time && ends_in_time i.time) (are_labels_for (length def.attributes) i.labels) both.0 in
    let time = and_parts (fits_kind def.kind i.time) (ends_in_time i.time) timed.0 in
    and_from (is_read_item def.kind (given_item def.attributes i)) (list_all (is_read_item def.kind) (map (given_item def.attributes) is))
    (and_from (has_read_id i) (is_read_time def.kind i.time) id.0 (time_reads def.kind i.time time.0 time.1)) (items_read def is both.1 id.1)

levels_read : (defs : List LevelDef) (levels : List Level) → AreAs defs levels → list_all has_read_ids levels ≡ true →
    list_all is_read_level (given_levels defs levels) ≡ true
levels_read [] [] like ids = refl
levels_read [] (l ∷ ls) like ids = absurd like
levels_read (d ∷ ds) [] like ids = absurd like
levels_read (d ∷ ds) (l ∷ ls) like ids =
    let both = and_parts (has_read_ids l) (list_all has_read_ids ls) ids in
    and_from (is_read_level (given_level d l)) (list_all is_read_level (given_levels ds ls)) (items_read d l.items like.0.fitting both.0) (levels_read ds ls like.1 both.1)

-- ---- links

-- an id that an item has may be read
id_of_item : (id : ℕ) (items : List Item) → list_any (nat_eq id) (map (λ (i : Item). i.id.0) items) ≡ true → list_all has_read_id items ≡ true → nat_le id TOP_ID ≡ true
id_of_item id [] h ids = cc
id_of_item id (i ∷ is) h ids = at (nat_eq id i.id.0) refl (λ rest. id_of_item id is rest both.1)
  where
    both : (has_read_id i ≡ true) × (list_all has_read_id is ≡ true)
    both = and_parts (has_read_id i) (list_all has_read_id is) ids

    at : (b : Bool) → nat_eq id i.id.0 ≡ b → (list_any (nat_eq id) (map (λ (k : Item). k.id.0) is) ≡ true → nat_le id TOP_ID ≡ true) → nat_le id TOP_ID ≡ true
    at true e later = rw (eqb-true id i.id.0 e) both.0
    at false e later = later (rw e at h)

id_of_level : (number id n : ℕ) (levels : List Level) → level_from number id levels ≡ Some n → list_all has_read_ids levels ≡ true → nat_le id TOP_ID ≡ true
id_of_level number id n [] found ids = cc
id_of_level number id n (l ∷ ls) found ids = at (has_id id l) refl (λ rest. id_of_level (suc number) id n ls rest both.1)
  where
    both : (has_read_ids l ≡ true) × (list_all has_read_ids ls ≡ true)
    both = and_parts (has_read_ids l) (list_all has_read_ids ls) ids

    at : (b : Bool) → has_id id l ≡ b → (level_from (suc number) id ls ≡ Some n → nat_le id TOP_ID ≡ true) → nat_le id TOP_ID ≡ true
    at true e later = id_of_item id l.items e both.0
    at false e later = later (rw e at found)

links_read : (defs : List LinkDef) (levels : List Level) (links : List Link) → All (IsBetween defs (level_of_id levels)) links → list_all has_read_ids levels ≡ true →
    list_all is_read_link (map pair_of links) ≡ true
links_read defs levels [] between ids = refl
links_read defs levels (g ∷ rest) between ids =
    let here = All-head (IsBetween defs (level_of_id levels)) g rest between in
    and_from (is_read_link (pair_of g)) (list_all is_read_link (map pair_of rest))
    (and_from (nat_le g.from.0 TOP_ID) (nat_le g.to.0 TOP_ID)
    (id_of_level 0 g.from.0 here.def.upper levels here.from ids) (id_of_level 0 g.to.0 here.def.lower levels here.to ids))
    (links_read defs levels rest (All-tail (IsBetween defs (level_of_id levels)) g rest between) ids)

-- ---- the bundle

rate_reads : (rate : ℕ) → is_rate rate ≡ true → nat_le rate TOP_WHOLE ≡ true
rate_reads rate h =
    let most = leb-true rate TOP_RATE (and_parts (nat_le 1 rate) (nat_le rate TOP_RATE) h).1 in
    le-leb rate TOP_WHOLE (omega (arith, most))

given_reads : (config : ConfigParts) (bundle : BundleParts) → is_valid config ≡ true → FitsConfig config bundle → KeepsBundleRules bundle →
    list_all has_read_ids bundle.levels ≡ true → is_read_annot (given config bundle) ≡ true
given_reads config bundle valid fits rules ids =
    let like = levels_as config.levels bundle.levels fits.levels (levels_named config.levels (sound config valid).names) rules.levels in
    let levels = given_levels config.levels bundle.levels in
    and_from (nat_le bundle.rate TOP_WHOLE && list_all is_read_level levels) (list_all is_read_link (map pair_of bundle.links))
    (and_from (nat_le bundle.rate TOP_WHOLE) (list_all is_read_level levels) (rate_reads bundle.rate rules.rate) (levels_read config.levels bundle.levels like ids))
    (links_read bundle.definitions bundle.levels bundle.links rules.linked.between ids)

pub text_makes : (text : List ℕ) (config : ConfigParts) (bundle : BundleParts) → is_valid config ≡ true → FitsConfig config bundle → KeepsBundleRules bundle →
    list_all has_read_ids bundle.levels ≡ true → read text ≡ Some (bundle_data config bundle) → remade config bundle.key text ≡ Some bundle
text_makes text config bundle valid fits rules ids is =
    rw (is, annot_back bundle.key.bundle root_path (given config bundle) (given_reads config bundle valid fits rules ids), given_builds config bundle valid fits rules) refl
