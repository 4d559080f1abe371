-- The levels of an annotation that breaks no rule keep the level rule, and their ids differ.
use Rattle.std.proofs.Common.{◌≡◌, ℕ, ◌+◌, ◌≤◌, Bool, true, false, cond, not, ◌&&◌, List, [], ◌∷◌, ◌++◌, length, map, Option, Some, None, nat_eq, nat_lt, ◌==◌, refl, sym, ◌∙◌, ap, subst, arith, eq-eqb, if◌then◌else◌, All}
use Rattle.std.specs.List.{list_any, list_all}
use Rattle.std.proofs.lemmas.Bool.{false≢true, true≢false, not-true, not-false, and_parts, and_from, or_parts, ltb-false, le-leb}
use Rattle.std.proofs.lemmas.List.{length-map}
use Rattle.std.proofs.lemmas.List.Sums.{sum_by-cons}
use Rattle.std.proofs.lemmas.List.Elements.{All-nil, All-cons}
use Rattle.emu_names.specs.declared.limits.TheConstants.{BUNDLE_ITEMS, LABEL_BYTES}
use Rattle.emu_names.specs.declared.kinds.ItemId.{ItemId}
use Rattle.emu_names.specs.declared.kinds.LevelKind.{LevelKind}
use Rattle.emu_names.specs.declared.kinds.LevelKind.TheVariants as kinds
use Rattle.emu_names.specs.declared.rules.Broken.{Broken}
use Rattle.emu_names.specs.declared.rules.Broken.TheVariants as rules
use Rattle.emu_names.specs.declared.rules.What.TheVariants as counted
use Rattle.level_items.specs.declared.times.Time.{Time}
use Rattle.level_items.specs.declared.items.Item.{Item}
use Rattle.level_items.specs.declared.annot.AnnotLabel.{AnnotLabel}
use Rattle.level_items.specs.declared.annot.AnnotItem.{AnnotItem}
use Rattle.level_items.specs.declared.annot.AnnotLevel.{AnnotLevel}
use Rattle.level_items.specs.declared.annot.Annot.{Annot}
use Rattle.level_items.specs.Times.{fits_kind, ends_in_time, is_before}
use Rattle.level_items.specs.Levels.{Level, level_of, ids_of, are_different, is_short, are_labels_for, fits_level, are_apart, are_in_order, KeepsLevelRule}
use Rattle.level_items.specs.Faults.{time_fault, order_rule, order_fault}
use Rattle.std.specs.Option.{option_or}
use Rattle.db_config.specs.declared.attributes.AttributeDef.{AttributeDef}
use Rattle.db_config.specs.declared.parts.LevelDef.{LevelDef}
use Rattle.db_config.specs.declared.parts.ConfigParts.{ConfigParts}
use Rattle.db_config.specs.Above.{leads_round}
use Rattle.db_config.specs.Names.{names_of, attribute_names, without_first, all_names, are_distinct}
use Rattle.emu_names.specs.Texts.{same_text}
use Rattle.db_config.specs.Valid.{are_within_limits, is_in_range, are_apart as links_apart, keeps_rules, is_valid}
use Rattle.bundle_state.specs.Bundle.{all_ids, item_count}
use Rattle.bundle_state.specs.Lookups.{level_for, has_attribute}
use Rattle.bundle_state.specs.Faults.{is_rate, labels_fault, behind_fault, item_fault, items_fault, same_kind, known_level_fault, found_level_fault, level_fault, levels_fault, given_ids, given_count, annot_fault}
use Rattle.bundle_state.specs.Made.{label_named, made_labels, made_item, items_named, made_level, made_levels}
use Rattle.bundle_state.proofs.Tests.{Each, each_map, each_two, text_true, text_same, text_apart, some_none, or_none, cond_none, any_append, Misses, misses_flip, misses_left, misses_right, misses_both, misses_nothing, different_cons, different_append}

-- Labels.

short_cond : (b : Bool) (x y : List ℕ) → is_short x ≡ true → is_short y ≡ true → is_short (cond b x y) ≡ true
short_cond true x y left right = left
short_cond false x y left right = right

label_short : (defs : List AttributeDef) (named : List (List ℕ)) (labels : List AnnotLabel) (name : List ℕ) → labels_fault defs named labels ≡ None → is_short (label_named name labels) ≡ true
label_short defs named [] name fine = refl
label_short defs named (l ∷ ls) name fine =
    let first : (not (has_attribute defs l.name) ≡ false) × (cond (list_any (same_text l.name) named) (Some (rules.TwoLabels l.name)) (cond (nat_lt LABEL_BYTES (length l.value)) (Some rules.LabelTooLong) (labels_fault defs (named ++ l.name ∷ []) ls)) ≡ None)
    = cond_none (not (has_attribute defs l.name)) (rules.NoAttribute l.name) (cond (list_any (same_text l.name) named) (Some (rules.TwoLabels l.name)) (cond (nat_lt LABEL_BYTES (length l.value)) (Some rules.LabelTooLong) (labels_fault defs (named ++ l.name ∷ []) ls))) fine in
    let second : (list_any (same_text l.name) named ≡ false) × (cond (nat_lt LABEL_BYTES (length l.value)) (Some rules.LabelTooLong) (labels_fault defs (named ++ l.name ∷ []) ls) ≡ None)
    = cond_none (list_any (same_text l.name) named) (rules.TwoLabels l.name) (cond (nat_lt LABEL_BYTES (length l.value)) (Some rules.LabelTooLong) (labels_fault defs (named ++ l.name ∷ []) ls)) first.1 in
    let third : (nat_lt LABEL_BYTES (length l.value) ≡ false) × (labels_fault defs (named ++ l.name ∷ []) ls ≡ None)
    = cond_none (nat_lt LABEL_BYTES (length l.value)) rules.LabelTooLong (labels_fault defs (named ++ l.name ∷ []) ls) second.1 in
    short_cond (same_text l.name name) l.value (label_named name ls) (le-leb (length l.value) LABEL_BYTES (ltb-false LABEL_BYTES (length l.value) third.0)) (label_short defs (named ++ l.name ∷ []) ls name third.1)

labels_short : (all : List AttributeDef) (labels : List AnnotLabel) (defs : List AttributeDef) → labels_fault all [] labels ≡ None → list_all is_short (made_labels defs labels) ≡ true
labels_short all labels [] fine = refl
labels_short all labels (def ∷ defs) fine =
    and_from (is_short (label_named def.name labels)) (list_all is_short (made_labels defs labels))
    (label_short all [] labels def.name fine) (labels_short all labels defs fine)

-- Items.

pub record IsFineItem (def : LevelDef) (taken : List ℕ) (before : Option AnnotItem) (item : AnnotItem) : Type 0 where
  pub fresh : list_any (nat_eq item.id.0) taken ≡ false
  pub fits : fits_kind def.kind item.time ≡ true
  pub in_time : ends_in_time item.time ≡ true
  pub labels : labels_fault def.attributes [] item.labels ≡ None
  pub order : behind_fault def.kind before item ≡ None

-- a time that passes
pub time_parts : (kind : LevelKind) (time : Time) → time_fault kind time ≡ None → (fits_kind kind time ≡ true) × (ends_in_time time ≡ true)
time_parts kind time = by (fits_kind kind time) (ends_in_time time)
  where
    by : (fits ends : Bool) → (if not fits then Some rules.TimeKind else if not ends then Some rules.TimeOut else None) ≡ None → (fits ≡ true) × (ends ≡ true)
    by false ends h = cc
    by true false h = cc
    by true true h = (refl, refl)

fine_item : (def : LevelDef) (taken : List ℕ) (before : Option AnnotItem) (item : AnnotItem) → item_fault def taken before item ≡ None → IsFineItem def taken before item
fine_item def taken before item fine =
    let rest : Option Broken = option_or (labels_fault def.attributes [] item.labels) (behind_fault def.kind before item) in
    let first : (list_any (nat_eq item.id.0) taken ≡ false) × (option_or (time_fault def.kind item.time) rest ≡ None)
    = cond_none (list_any (nat_eq item.id.0) taken) (rules.IdTaken item.id) (option_or (time_fault def.kind item.time) rest) fine in
    let second : (time_fault def.kind item.time ≡ None) × (rest ≡ None) = or_none (time_fault def.kind item.time) rest first.1 in
    let time : (fits_kind def.kind item.time ≡ true) × (ends_in_time item.time ≡ true) = time_parts def.kind item.time second.0 in
    let third : (labels_fault def.attributes [] item.labels ≡ None) × (behind_fault def.kind before item ≡ None) = or_none (labels_fault def.attributes [] item.labels) (behind_fault def.kind before item) second.1 in
    record { fresh = first.0; fits = time.0; in_time = time.1; labels = third.0; order = third.1 }

pub items_parts : (def : LevelDef) (taken : List ℕ) (before : Option AnnotItem) (item : AnnotItem) (items : List AnnotItem) → items_fault def taken before (item ∷ items) ≡ None
    → IsFineItem def taken before item × (items_fault def (taken ++ item.id.0 ∷ []) (Some item) items ≡ None)
items_parts def taken before item items fine =
    let parts : (item_fault def taken before item ≡ None) × (items_fault def (taken ++ item.id.0 ∷ []) (Some item) items ≡ None)
    = or_none (item_fault def taken before item) (items_fault def (taken ++ item.id.0 ∷ []) (Some item) items) fine in
    (fine_item def taken before item parts.0, parts.1)

item_fits : (def : LevelDef) (taken : List ℕ) (before : Option AnnotItem) (item : AnnotItem) → IsFineItem def taken before item → fits_level def.kind (length def.attributes) (made_item def.attributes item) ≡ true
item_fits def taken before item fine =
    let labels : List (List ℕ) = made_labels def.attributes item.labels in
    and_from (fits_kind def.kind item.time && ends_in_time item.time) (are_labels_for (length def.attributes) labels)
    (and_from (fits_kind def.kind item.time) (ends_in_time item.time) fine.fits fine.in_time)
    (and_from (length labels == length def.attributes) (list_all is_short labels)
    (eq-eqb (length labels) (length def.attributes) (length-map def.attributes (λ (d : AttributeDef). label_named d.name item.labels)))
    (labels_short def.attributes item.labels def.attributes fine.labels))

all_fit : (def : LevelDef) (taken : List ℕ) (before : Option AnnotItem) (items : List AnnotItem) → items_fault def taken before items ≡ None
    → list_all (fits_level def.kind (length def.attributes)) (map (made_item def.attributes) items) ≡ true
all_fit def taken before [] fine = refl
all_fit def taken before (item ∷ items) fine =
    let parts : IsFineItem def taken before item × (items_fault def (taken ++ item.id.0 ∷ []) (Some item) items ≡ None) = items_parts def taken before item items fine in
    and_from (fits_level def.kind (length def.attributes) (made_item def.attributes item)) (list_all (fits_level def.kind (length def.attributes)) (map (made_item def.attributes) items))
    (item_fits def taken before item parts.0) (all_fit def (taken ++ item.id.0 ∷ []) (Some item) items parts.1)

-- Order.

-- items of the kind have times
abbrev pub IsTimed : LevelKind → Type 0
IsTimed kind = (named : ItemId) → order_rule kind named ≡ None → ⊥

passed : (t : Bool) (rule : Option Broken) → (rule ≡ None → ⊥) → cond t None rule ≡ None → t ≡ true
passed true rule broken none = refl
passed false rule broken none = absurd (broken none)

pub order_before : (kind : LevelKind) (named : ItemId) (a b : Time) → IsTimed kind → order_fault kind named a b ≡ None → is_before a b ≡ true
order_before kind named a b timed fine = passed (is_before a b) (order_rule kind named) (timed named) fine

apart_from : (def : LevelDef) → IsTimed def.kind → (taken : List ℕ) (a : AnnotItem) (items : List AnnotItem) → items_fault def taken (Some a) items ≡ None
    → are_apart (map (made_item def.attributes) (a ∷ items)) ≡ true
apart_from def timed taken a [] fine = refl
apart_from def timed taken a (b ∷ items) fine =
    let parts : IsFineItem def taken (Some a) b × (items_fault def (taken ++ b.id.0 ∷ []) (Some b) items ≡ None) = items_parts def taken (Some a) b items fine in
    and_from (is_before a.time b.time) (are_apart (map (made_item def.attributes) (b ∷ items)))
    (order_before def.kind a.id a.time b.time timed parts.0.order) (apart_from def timed (taken ++ b.id.0 ∷ []) b items parts.1)

all_apart : (def : LevelDef) (taken : List ℕ) (items : List AnnotItem) → items_fault def taken None items ≡ None → IsTimed def.kind → are_apart (map (made_item def.attributes) items) ≡ true
all_apart def taken [] fine timed = refl
all_apart def taken (a ∷ items) fine timed = apart_from def timed (taken ++ a.id.0 ∷ []) a items (items_parts def taken None a items fine).1

pub in_order : (kind : LevelKind) (items : List Item) → (IsTimed kind → are_apart items ≡ true) → are_in_order kind items ≡ true
in_order kinds.Item items apart = refl
in_order kinds.Segment items apart = apart (λ named none. some_none (rules.Overlap named) none)
in_order kinds.Event items apart = apart (λ named none. some_none (rules.NotRising named) none)

-- the ids are new
pub items_fresh : (def : LevelDef) (taken : List ℕ) (before : Option AnnotItem) (items : List AnnotItem) → items_fault def taken before items ≡ None → Misses taken (given_ids items)
items_fresh def taken before [] fine = tt
items_fresh def taken before (item ∷ items) fine =
    let parts : IsFineItem def taken before item × (items_fault def (taken ++ item.id.0 ∷ []) (Some item) items ≡ None) = items_parts def taken before item items fine in
    (parts.0.fresh, misses_left taken (item.id.0 ∷ []) (given_ids items) (items_fresh def (taken ++ item.id.0 ∷ []) (Some item) items parts.1))

-- and differ
pub items_different : (def : LevelDef) (taken : List ℕ) (before : Option AnnotItem) (items : List AnnotItem) → items_fault def taken before items ≡ None → are_different (given_ids items) ≡ true
items_different def taken before [] fine = refl
items_different def taken before (item ∷ items) fine =
    let parts : IsFineItem def taken before item × (items_fault def (taken ++ item.id.0 ∷ []) (Some item) items ≡ None) = items_parts def taken before item items fine in
    let flipped : Misses (given_ids items) (item.id.0 ∷ []) = misses_flip (item.id.0 ∷ []) (given_ids items)
    (misses_right taken (item.id.0 ∷ []) (given_ids items) (items_fresh def (taken ++ item.id.0 ∷ []) (Some item) items parts.1)) in
    different_cons item.id.0 (given_ids items) flipped.0 (items_different def (taken ++ item.id.0 ∷ []) (Some item) items parts.1)

-- the level rule
made_ids : (defs : List AttributeDef) (items : List AnnotItem) → ids_of (map (made_item defs) items) ≡ given_ids items
made_ids defs [] = refl
made_ids defs (item ∷ items) = ap (λ (ids : List ℕ). item.id.0 ∷ ids) (made_ids defs items)

-- these items, made, keep the rule of their level
abbrev Keeps : LevelDef → List AnnotItem → Type 0
Keeps def items = KeepsLevelRule (level_of def.kind (length def.attributes) (map (made_item def.attributes) items))

items_keep : (def : LevelDef) (taken : List ℕ) (items : List AnnotItem) → items_fault def taken None items ≡ None → Keeps def items
items_keep def taken items fine = record {
  distinct = ap are_different (made_ids def.attributes items) ∙ items_different def taken None items fine;
  fitting = all_fit def taken None items fine;
  ordered = in_order def.kind (map (made_item def.attributes) items) (all_apart def taken items fine);
}

-- Levels.

record IsFineLevel (defs : List LevelDef) (taken : List ℕ) (level : AnnotLevel) : Type 0 where
  def : LevelDef
  found : level_for level.name defs ≡ Some def
  items : items_fault def taken None level.items ≡ None

known_fine : (def : LevelDef) (named : List (List ℕ)) (taken : List ℕ) (level : AnnotLevel) → known_level_fault def named taken level ≡ None → items_fault def taken None level.items ≡ None
known_fine def named taken level fine =
    let first : (list_any (same_text level.name) named ≡ false) × (cond (not (same_kind def.kind level.kind)) (Some (rules.LevelKind level.name)) (items_fault def taken None level.items) ≡ None)
    = cond_none (list_any (same_text level.name) named) (rules.TwoLevels level.name) (cond (not (same_kind def.kind level.kind)) (Some (rules.LevelKind level.name)) (items_fault def taken None level.items)) fine in
    (cond_none (not (same_kind def.kind level.kind)) (rules.LevelKind level.name) (items_fault def taken None level.items) first.1).1

found_fine : (defs : List LevelDef) (o : Option LevelDef) (named : List (List ℕ)) (taken : List ℕ) (level : AnnotLevel) → level_for level.name defs ≡ o → found_level_fault o named taken level ≡ None → IsFineLevel defs taken level
found_fine defs None named taken level is fine = absurd (some_none (rules.NoLevel level.name) fine)
found_fine defs (Some def) named taken level is fine = record { def = def; found = is; items = known_fine def named taken level fine }

levels_parts : (defs : List LevelDef) (named : List (List ℕ)) (taken : List ℕ) (level : AnnotLevel) (levels : List AnnotLevel) → levels_fault defs named taken (level ∷ levels) ≡ None
    → IsFineLevel defs taken level × (levels_fault defs (named ++ level.name ∷ []) (taken ++ given_ids level.items) levels ≡ None)
levels_parts defs named taken level levels fine =
    let parts : (level_fault defs named taken level ≡ None) × (levels_fault defs (named ++ level.name ∷ []) (taken ++ given_ids level.items) levels ≡ None)
    = or_none (level_fault defs named taken level) (levels_fault defs (named ++ level.name ∷ []) (taken ++ given_ids level.items) levels) fine in
    (found_fine defs (level_for level.name defs) named taken level refl parts.0, parts.1)

-- a level of the configuration finds itself by its name
abbrev Finds : List LevelDef → LevelDef → Type 0
Finds all def = level_for def.name all ≡ Some def

some_same : {A : Type 0} (x y : A) → Some x ≡ Some y → x ≡ y
some_same {A = A} x y e = ap (λ (o : Option A). inside o x) e
  where
    inside : {B : Type 0} → Option B → B → B
    inside None d = d
    inside (Some v) d = v

module _ (all : List LevelDef) where
  list_step : (def : LevelDef) → Finds all def → (taken : List ℕ) (level : AnnotLevel) (rest : List AnnotItem) → IsFineLevel all taken level
      → Keeps def rest → (b : Bool) → same_text level.name def.name ≡ b → Keeps def (cond b level.items rest)
  list_step def finds taken level rest fine there true is =
      let same : fine.def ≡ def = some_same fine.def def (sym fine.found ∙ ap (λ (n : List ℕ). level_for n all) (text_true level.name def.name is) ∙ finds) in
      items_keep def taken level.items (subst (λ (d : LevelDef). items_fault d taken None level.items ≡ None) same fine.items)
  list_step def finds taken level rest fine there false is = there

  list_keeps : (def : LevelDef) → Finds all def → (named : List (List ℕ)) (taken : List ℕ) (levels : List AnnotLevel) → levels_fault all named taken levels ≡ None → Keeps def (items_named def.name levels)
  list_keeps def finds named taken [] fine = record { distinct = refl; fitting = refl; ordered = in_order def.kind [] (λ timed. refl) }
  list_keeps def finds named taken (level ∷ levels) fine =
      let parts : IsFineLevel all taken level × (levels_fault all (named ++ level.name ∷ []) (taken ++ given_ids level.items) levels ≡ None) = levels_parts all named taken level levels fine in
      list_step def finds taken level (items_named def.name levels) parts.0 (list_keeps def finds (named ++ level.name ∷ []) (taken ++ given_ids level.items) levels parts.1) (same_text level.name def.name) refl

  lists_keep : (defs : List LevelDef) → Each (Finds all) defs → (levels : List AnnotLevel) → levels_fault all [] [] levels ≡ None → All KeepsLevelRule (made_levels defs levels)
  lists_keep [] finds levels fine = All-nil KeepsLevelRule
  lists_keep (def ∷ defs) finds levels fine =
      All-cons KeepsLevelRule (made_level levels def) (made_levels defs levels) (list_keeps def finds.0 [] [] levels fine) (lists_keep defs finds.1 levels fine)

  -- Ids.

  ids_cond : (b : Bool) (P : List ℕ → Type 0) (xs ys : List AnnotItem) → P (given_ids xs) → P (given_ids ys) → P (given_ids (cond b xs ys))
  ids_cond true P xs ys left right = left
  ids_cond false P xs ys left right = right

  own_different : (name : List ℕ) (named : List (List ℕ)) (taken : List ℕ) (levels : List AnnotLevel) → levels_fault all named taken levels ≡ None → are_different (given_ids (items_named name levels)) ≡ true
  own_different name named taken [] fine = refl
  own_different name named taken (level ∷ levels) fine =
      let parts : IsFineLevel all taken level × (levels_fault all (named ++ level.name ∷ []) (taken ++ given_ids level.items) levels ≡ None) = levels_parts all named taken level levels fine in
      ids_cond (same_text level.name name) (λ ids. are_different ids ≡ true) level.items (items_named name levels)
      (items_different parts.0.def taken None level.items parts.0.items) (own_different name (named ++ level.name ∷ []) (taken ++ given_ids level.items) levels parts.1)

  own_fresh : (name : List ℕ) (named : List (List ℕ)) (taken : List ℕ) (levels : List AnnotLevel) → levels_fault all named taken levels ≡ None → Misses taken (given_ids (items_named name levels))
  own_fresh name named taken [] fine = tt
  own_fresh name named taken (level ∷ levels) fine =
      let parts : IsFineLevel all taken level × (levels_fault all (named ++ level.name ∷ []) (taken ++ given_ids level.items) levels ≡ None) = levels_parts all named taken level levels fine in
      ids_cond (same_text level.name name) (λ ids. Misses taken ids) level.items (items_named name levels)
      (items_fresh parts.0.def taken None level.items parts.0.items)
      (misses_left taken (given_ids level.items) (given_ids (items_named name levels)) (own_fresh name (named ++ level.name ∷ []) (taken ++ given_ids level.items) levels parts.1))

  apart_step : (one other : List ℕ) (level : AnnotLevel) (ones others : List AnnotItem) → same_text one other ≡ false
      → Misses (given_ids level.items) (given_ids ones) → Misses (given_ids level.items) (given_ids others) → Misses (given_ids others) (given_ids ones)
      → (a b : Bool) → same_text level.name one ≡ a → same_text level.name other ≡ b
      → Misses (given_ids (cond b level.items others)) (given_ids (cond a level.items ones))
  apart_step one other level ones others apart first second rest true true is_one is_other =
      absurd (false≢true (sym apart ∙ ap (λ (n : List ℕ). same_text n other) (sym (text_true level.name one is_one)) ∙ is_other))
  apart_step one other level ones others apart first second rest true false is_one is_other = misses_flip (given_ids level.items) (given_ids others) second
  apart_step one other level ones others apart first second rest false true is_one is_other = first
  apart_step one other level ones others apart first second rest false false is_one is_other = rest

  ids_apart : (one other : List ℕ) → same_text one other ≡ false → (named : List (List ℕ)) (taken : List ℕ) (levels : List AnnotLevel) → levels_fault all named taken levels ≡ None
      → Misses (given_ids (items_named other levels)) (given_ids (items_named one levels))
  ids_apart one other apart named taken [] fine = tt
  ids_apart one other apart named taken (level ∷ levels) fine =
      let parts : IsFineLevel all taken level × (levels_fault all (named ++ level.name ∷ []) (taken ++ given_ids level.items) levels ≡ None) = levels_parts all named taken level levels fine in
      apart_step one other level (items_named one levels) (items_named other levels) apart
      (misses_right taken (given_ids level.items) (given_ids (items_named one levels)) (own_fresh one (named ++ level.name ∷ []) (taken ++ given_ids level.items) levels parts.1))
      (misses_right taken (given_ids level.items) (given_ids (items_named other levels)) (own_fresh other (named ++ level.name ∷ []) (taken ++ given_ids level.items) levels parts.1))
      (ids_apart one other apart (named ++ level.name ∷ []) (taken ++ given_ids level.items) levels parts.1)
      (same_text level.name one) (same_text level.name other) refl refl

-- The names of a valid configuration's levels differ.

abbrev pub Apart : List LevelDef → Type 0
Apart [] = Unit {0}
Apart (def ∷ defs) = Each (λ (other : LevelDef). same_text def.name other.name ≡ false) defs × Apart defs

each_differs : (name : List ℕ) (defs : List LevelDef) → list_any (same_text name) (all_names defs) ≡ false → Each (λ (other : LevelDef). same_text name other.name ≡ false) defs
each_differs name [] none = tt
each_differs name (def ∷ defs) none =
    let parts : (list_any (same_text name) (names_of def) ≡ false) × (list_any (same_text name) (all_names defs) ≡ false) = any_append (same_text name) (names_of def) (all_names defs) none in
    let own : (same_text name def.name ≡ false) × (list_any (same_text name) (without_first def.name (attribute_names def.attributes)) ≡ false)
    = or_parts (same_text name def.name) (list_any (same_text name) (without_first def.name (attribute_names def.attributes))) parts.0 in
    (own.0, each_differs name defs parts.1)

distinct_rest : (xs ys : List (List ℕ)) → are_distinct (xs ++ ys) ≡ true → are_distinct ys ≡ true
distinct_rest [] ys distinct = distinct
distinct_rest (x ∷ xs) ys distinct = distinct_rest xs ys (and_parts (not (list_any (same_text x) (xs ++ ys))) (are_distinct (xs ++ ys)) distinct).1

names_apart : (defs : List LevelDef) → are_distinct (all_names defs) ≡ true → Apart defs
names_apart [] distinct = tt
names_apart (def ∷ defs) distinct =
    let others : List (List ℕ) = without_first def.name (attribute_names def.attributes) in
    let first : list_any (same_text def.name) (others ++ all_names defs) ≡ false
    = not-true (list_any (same_text def.name) (others ++ all_names defs)) (and_parts (not (list_any (same_text def.name) (others ++ all_names defs))) (are_distinct (others ++ all_names defs)) distinct).0 in
    (each_differs def.name defs (any_append (same_text def.name) others (all_names defs) first).1, names_apart defs (distinct_rest (names_of def) (all_names defs) distinct))

find_other : (def other : LevelDef) (defs : List LevelDef) (b : Bool) → b ≡ false → level_for other.name defs ≡ Some other → cond b (Some def) (level_for other.name defs) ≡ Some other
find_other def other defs true is finds = absurd (true≢false is)
find_other def other defs false is finds = finds

finds_all : (defs : List LevelDef) → Apart defs → Each (Finds defs) defs
finds_all [] apart = tt
finds_all (def ∷ defs) apart = (
  ap (λ b. cond b (Some def) (level_for def.name defs)) (text_same def.name),
  each_two (λ (other : LevelDef). same_text def.name other.name ≡ false) (Finds defs) (Finds (def ∷ defs))
      (λ other away finds. find_other def other defs (same_text def.name other.name) away finds) defs apart.0 (finds_all defs apart.1),
)

-- All ids.

-- the ids of the levels with these definitions
abbrev ids_for : List LevelDef → List AnnotLevel → List ℕ
ids_for [] levels = []
ids_for (def ∷ defs) levels = given_ids (items_named def.name levels) ++ ids_for defs levels

made_all_ids : (defs : List LevelDef) (levels : List AnnotLevel) → all_ids (made_levels defs levels) ≡ ids_for defs levels
made_all_ids [] levels = refl
made_all_ids (def ∷ defs) levels =
    ap (λ (ids : List ℕ). ids ++ all_ids (made_levels defs levels)) (made_ids def.attributes (items_named def.name levels))
    ∙ ap (λ (ids : List ℕ). given_ids (items_named def.name levels) ++ ids) (made_all_ids defs levels)

misses_rest : (all : List LevelDef) (name : List ℕ) (defs : List LevelDef) (levels : List AnnotLevel) → levels_fault all [] [] levels ≡ None
    → Each (λ (other : LevelDef). same_text name other.name ≡ false) defs → Misses (ids_for defs levels) (given_ids (items_named name levels))
misses_rest all name [] levels fine apart = misses_nothing (given_ids (items_named name levels))
misses_rest all name (def ∷ defs) levels fine apart =
    misses_both (given_ids (items_named def.name levels)) (ids_for defs levels) (given_ids (items_named name levels))
    (ids_apart all name def.name apart.0 [] [] levels fine) (misses_rest all name defs levels fine apart.1)

different_for : (all defs : List LevelDef) (levels : List AnnotLevel) → levels_fault all [] [] levels ≡ None → Apart defs → are_different (ids_for defs levels) ≡ true
different_for all [] levels fine apart = refl
different_for all (def ∷ defs) levels fine apart =
    different_append (given_ids (items_named def.name levels)) (ids_for defs levels)
    (own_different all def.name [] [] levels fine) (different_for all defs levels fine apart.1) (misses_rest all def.name defs levels fine apart.0)

-- How many items there are.

abbrev count_for : List LevelDef → List AnnotLevel → ℕ
count_for [] levels = 0
count_for (def ∷ defs) levels = length (items_named def.name levels) + count_for defs levels

made_count : (defs : List LevelDef) (levels : List AnnotLevel) → item_count (made_levels defs levels) ≡ count_for defs levels
made_count [] levels = refl
made_count (def ∷ defs) levels =
    sum_by-cons (λ (level : Level). length level.items) (made_level levels def) (made_levels defs levels)
    ∙ ap (λ k. k + item_count (made_levels defs levels)) (length-map (items_named def.name levels) (made_item def.attributes))
    ∙ ap (λ k. length (items_named def.name levels) + k) (made_count defs levels)

absent_cond : (b : Bool) (xs ys : List AnnotItem) → b ≡ false → length (cond b xs ys) ≡ length ys
absent_cond true xs ys is = absurd (true≢false is)
absent_cond false xs ys is = refl

count_absent : (defs : List LevelDef) (level : AnnotLevel) (levels : List AnnotLevel) → Each (λ (def : LevelDef). same_text level.name def.name ≡ false) defs
    → count_for defs (level ∷ levels) ≡ count_for defs levels
count_absent [] level levels apart = refl
count_absent (def ∷ defs) level levels apart =
    ap (λ k. k + count_for defs (level ∷ levels)) (absent_cond (same_text level.name def.name) level.items (items_named def.name levels) apart.0)
    ∙ ap (λ k. length (items_named def.name levels) + k) (count_absent defs level levels apart.1)

count_step : (def : LevelDef) (defs : List LevelDef) (level : AnnotLevel) (levels : List AnnotLevel) → Apart (def ∷ defs)
    → count_for defs (level ∷ levels) ≤ length level.items + count_for defs levels
    → (b : Bool) → same_text level.name def.name ≡ b
    → length (cond b level.items (items_named def.name levels)) + count_for defs (level ∷ levels) ≤ length level.items + (length (items_named def.name levels) + count_for defs levels)
count_step def defs level levels apart rest true is =
    let absent : count_for defs (level ∷ levels) ≡ count_for defs levels = count_absent defs level levels
    (each_map (λ (other : LevelDef). same_text def.name other.name ≡ false) (λ (other : LevelDef). same_text level.name other.name ≡ false)
    (λ other away. text_apart level.name def.name other.name (text_true level.name def.name is) away) defs apart.0) in
    omega arith
count_step def defs level levels apart rest false is = omega arith

count_more : (defs : List LevelDef) (level : AnnotLevel) (levels : List AnnotLevel) → Apart defs → count_for defs (level ∷ levels) ≤ length level.items + count_for defs levels
count_more [] level levels apart = omega arith
count_more (def ∷ defs) level levels apart = count_step def defs level levels apart (count_more defs level levels apart.1) (same_text level.name def.name) refl

count_nothing : (defs : List LevelDef) → count_for defs [] ≡ 0
count_nothing [] = refl
count_nothing (def ∷ defs) = ap (λ k. 0 + k) (count_nothing defs)

count_within : (defs : List LevelDef) (levels : List AnnotLevel) → Apart defs → count_for defs levels ≤ given_count levels
count_within defs [] apart =
    let nothing : count_for defs [] ≡ 0 = count_nothing defs in
    omega arith
count_within defs (level ∷ levels) apart =
    let all : given_count (level ∷ levels) ≡ length level.items + given_count levels = sum_by-cons (λ (l : AnnotLevel). length l.items) level levels in
    let more : count_for defs (level ∷ levels) ≤ length level.items + count_for defs levels = count_more defs level levels apart in
    let rest : count_for defs levels ≤ given_count levels = count_within defs levels apart in
    omega arith

-- The whole annotation.

pub record IsFineAnnot (defs : List LevelDef) (annot : Annot) : Type 0 where
  pub rate : is_rate annot.rate ≡ true
  pub count : given_count annot.levels ≤ BUNDLE_ITEMS
  pub levels : levels_fault defs [] [] annot.levels ≡ None

pub fine_annot : (defs : List LevelDef) (annot : Annot) → annot_fault defs annot ≡ None → IsFineAnnot defs annot
fine_annot defs annot fine =
    let last : Option Broken = levels_fault defs [] [] annot.levels in
    let first : (not (is_rate annot.rate) ≡ false) × (cond (nat_lt BUNDLE_ITEMS (given_count annot.levels)) (Some (rules.TooMany counted.BundleItems)) last ≡ None)
    = cond_none (not (is_rate annot.rate)) rules.RateOut (cond (nat_lt BUNDLE_ITEMS (given_count annot.levels)) (Some (rules.TooMany counted.BundleItems)) last) fine in
    let second : (nat_lt BUNDLE_ITEMS (given_count annot.levels) ≡ false) × (last ≡ None)
    = cond_none (nat_lt BUNDLE_ITEMS (given_count annot.levels)) (rules.TooMany counted.BundleItems) last first.1 in
    record {
      rate = not-false (is_rate annot.rate) first.0;
      count = ltb-false BUNDLE_ITEMS (given_count annot.levels) second.0;
      levels = second.1;
    }

pub config_apart : (config : ConfigParts) → is_valid config ≡ true → Apart config.levels
config_apart config valid =
    let rules : keeps_rules config ≡ true = (and_parts (keeps_rules config) (not (leads_round config.links)) valid).0 in
    let three : (are_within_limits config && are_distinct (all_names config.levels) && list_all (is_in_range (length config.levels)) config.links ≡ true) × (links_apart config.links ≡ true)
    = and_parts (are_within_limits config && are_distinct (all_names config.levels) && list_all (is_in_range (length config.levels)) config.links) (links_apart config.links) rules in
    let two : (are_within_limits config && are_distinct (all_names config.levels) ≡ true) × (list_all (is_in_range (length config.levels)) config.links ≡ true)
    = and_parts (are_within_limits config && are_distinct (all_names config.levels)) (list_all (is_in_range (length config.levels)) config.links) three.0 in
    names_apart config.levels (and_parts (are_within_limits config) (are_distinct (all_names config.levels)) two.0).1

-- the levels of an annotation that breaks no rule keep the level rule, their ids differ, and there are not
-- too many items
pub record AreFine (levels : List Level) : Type 0 where
  pub few : item_count levels ≤ BUNDLE_ITEMS
  pub apart : are_different (all_ids levels) ≡ true
  pub rules : All KeepsLevelRule levels

pub made_fine : (config : ConfigParts) (annot : Annot) → is_valid config ≡ true → annot_fault config.levels annot ≡ None → AreFine (made_levels config.levels annot.levels)
made_fine config annot valid fine =
    let parts : IsFineAnnot config.levels annot = fine_annot config.levels annot fine in
    let apart : Apart config.levels = config_apart config valid in
    let count : item_count (made_levels config.levels annot.levels) ≡ count_for config.levels annot.levels = made_count config.levels annot.levels in
    let within : count_for config.levels annot.levels ≤ given_count annot.levels = count_within config.levels annot.levels apart in
    let most : given_count annot.levels ≤ BUNDLE_ITEMS = parts.count in
    record {
      few = omega (arith, count, within, most);
      apart = ap are_different (made_all_ids config.levels annot.levels) ∙ different_for config.levels config.levels annot.levels parts.levels apart;
      rules = lists_keep config.levels config.levels (finds_all config.levels apart) annot.levels parts.levels;
    }
