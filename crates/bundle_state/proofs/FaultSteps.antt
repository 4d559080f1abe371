-- The first broken rule, a label, an item and a level at a time; and which ids are taken says no
-- more than a test for each id.
use Rattle.std.proofs.Common.{◌≡◌, ℕ, ◌+◌, ◌<◌, Bool, true, false, ◌||◌, not, List, [], ◌∷◌, ◌++◌, length, map, get_or, take, drop, nat_eq, nat_lt, refl, sym, ap, ◌∙◌, Option, Some, None, Err, if◌then◌else◌, append_assoc}
use Rattle.std.proofs.lemmas.List.Folds.{list_any-append}
use Rattle.std.specs.List.{list_any}
use Rattle.std.proofs.lemmas.List.{map-append}
use Rattle.bundle_state.proofs.Walks.{drop_at, take_at}
use Rattle.emu_names.specs.declared.rules.Broken.{Broken}
use Rattle.emu_names.specs.declared.rules.Broken.TheVariants as rules
use Rattle.emu_names.specs.declared.rules.Fault.{Fault}
use Rattle.emu_names.specs.declared.rules.Fault.TheVariants as faults
use Rattle.emu_names.specs.Inner.Gives.{FindsFault}
use Rattle.level_items.specs.declared.annot.AnnotLabel.{AnnotLabel}
use Rattle.level_items.specs.declared.annot.AnnotItem.{AnnotItem}
use Rattle.level_items.specs.declared.annot.AnnotLevel.{AnnotLevel}
use Rattle.db_config.specs.declared.attributes.AttributeDef.{AttributeDef}
use Rattle.db_config.specs.declared.parts.LevelDef.{LevelDef}
use Rattle.std.specs.Option.{option_or}
use Rattle.bundle_state.specs.Faults.{labels_fault, item_fault, items_fault, level_fault, found_level_fault, levels_fault, given_ids}
use Rattle.emu_names.specs.Texts.{same_text}
use Rattle.bundle_state.specs.Lookups.{level_for, has_attribute}

-- a whole that begins with a part: the part's fault comes first
pub first_fault : (part later : Option Broken) (r : Broken) → part ≡ Some r → option_or part later ≡ Some r
first_fault part later r h = rw h refl

pub no_fault : (part later : Option Broken) → part ≡ None → option_or part later ≡ later
no_fault part later h = rw h refl

-- a fault of a part is a fault of the whole
pub stops : (A B : Type 0) (e : Fault) (part whole : Option Broken) → ((r : Broken) → part ≡ Some r → whole ≡ Some r) → FindsFault {A = A} (Err e) part → FindsFault {A = B} (Err e) whole
stops A B (faults.Broken rule) part whole first h = first rule h
stops A B faults.Memory part whole first h = tt

-- the labels of an item

pub labels_step : (defs : List AttributeDef) (named : List (List ℕ)) (l : AnnotLabel) (ls : List AnnotLabel) →
    labels_fault defs named (l ∷ ls) ≡ option_or (labels_fault defs named (l ∷ [])) (labels_fault defs (named ++ l.name ∷ []) ls)
labels_step defs named l ls =
    by (has_attribute defs l.name) (list_any (same_text l.name) named) (nat_lt 4096 (length l.value)) (labels_fault defs (named ++ l.name ∷ []) ls)
  where
    by : (has two long : Bool) (later : Option Broken) →
        (if not has then Some (rules.NoAttribute l.name) else if two then Some (rules.TwoLabels l.name) else if long then Some rules.LabelTooLong else later)
        ≡ option_or (if not has then Some (rules.NoAttribute l.name) else if two then Some (rules.TwoLabels l.name) else if long then Some rules.LabelTooLong else None) later
    by false two long later = refl
    by true true long later = refl
    by true false true later = refl
    by true false false later = refl

pub labels_walk : (defs : List AttributeDef) (labels : List AnnotLabel) (i : ℕ) (l : AnnotLabel) →
    i < length labels → l ≡ get_or labels i l →
    labels_fault defs (map (λ (a : AnnotLabel). a.name) (take i labels)) (l ∷ []) ≡ None →
    labels_fault defs (map (λ (a : AnnotLabel). a.name) (take (i + 1) labels)) (drop (i + 1) labels)
    ≡ labels_fault defs (map (λ (a : AnnotLabel). a.name) (take i labels)) (drop i labels)
labels_walk defs labels i l low is good =
    let named : List (List ℕ) = map (λ (a : AnnotLabel). a.name) (take i labels) in
    ap (λ front. labels_fault defs front (drop (i + 1) labels))
    (ap (map (λ (a : AnnotLabel). a.name)) (take_at labels i l low is) ∙ map-append (λ (a : AnnotLabel). a.name) (take i labels) (l ∷ []))
    ∙ sym (labels_step defs named l (drop (i + 1) labels) ∙ no_fault (labels_fault defs named (l ∷ [])) (labels_fault defs (named ++ l.name ∷ []) (drop (i + 1) labels)) good)
    ∙ ap (λ back. labels_fault defs named back) (sym (drop_at labels i l low is))

pub labels_stop : (defs : List AttributeDef) (labels : List AnnotLabel) (i : ℕ) (l : AnnotLabel) (r : Broken) →
    i < length labels → l ≡ get_or labels i l →
    labels_fault defs (map (λ (a : AnnotLabel). a.name) (take i labels)) (l ∷ []) ≡ Some r →
    labels_fault defs (map (λ (a : AnnotLabel). a.name) (take i labels)) (drop i labels) ≡ Some r
labels_stop defs labels i l r low is bad =
    let named : List (List ℕ) = map (λ (a : AnnotLabel). a.name) (take i labels) in
    ap (λ back. labels_fault defs named back) (drop_at labels i l low is)
    ∙ labels_step defs named l (drop (i + 1) labels)
    ∙ first_fault (labels_fault defs named (l ∷ [])) (labels_fault defs (named ++ l.name ∷ []) (drop (i + 1) labels)) r bad

-- the items of a level

-- two lists that have the same numbers
pub record SameIds (a b : List ℕ) : Type 0 where
  pub at : (q : ℕ) → list_any (nat_eq q) a ≡ list_any (nat_eq q) b

pub same_more : (a b c : List ℕ) → SameIds a b → SameIds (a ++ c) (b ++ c)
same_more a b c h = record { at = λ q. list_any-append (nat_eq q) a c ∙ ap (λ t. t || list_any (nat_eq q) c) (h.at q) ∙ sym (list_any-append (nat_eq q) b c) }

-- an item whose id is free
pub item_free : (def : LevelDef) (taken : List ℕ) (before : Option AnnotItem) (item : AnnotItem) →
    list_any (nat_eq item.id.0) taken ≡ false → item_fault def taken before item ≡ item_fault def [] before item
item_free def taken before item free = rw free refl

pub item_taken : (def : LevelDef) (taken : List ℕ) (before : Option AnnotItem) (item : AnnotItem) →
    list_any (nat_eq item.id.0) taken ≡ true → item_fault def taken before item ≡ Some (rules.IdTaken item.id)
item_taken def taken before item there = rw there refl

pub item_same : (def : LevelDef) (a b : List ℕ) (before : Option AnnotItem) (item : AnnotItem) → SameIds a b → item_fault def a before item ≡ item_fault def b before item
item_same def a b before item h = rw (h.at item.id.0) refl

pub items_same : (def : LevelDef) (a b : List ℕ) (before : Option AnnotItem) (items : List AnnotItem) → SameIds a b → items_fault def a before items ≡ items_fault def b before items
items_same def a b before [] h = refl
items_same def a b before (item ∷ items) h =
    rw (item_same def a b before item h, items_same def (a ++ item.id.0 ∷ []) (b ++ item.id.0 ∷ []) (Some item) items (same_more a b (item.id.0 ∷ []) h)) refl

pub items_more : (def : LevelDef) (taken now : List ℕ) (before : Option AnnotItem) (item : AnnotItem) (items : List AnnotItem) →
    list_any (nat_eq item.id.0) taken ≡ false → item_fault def [] before item ≡ None → SameIds now (taken ++ item.id.0 ∷ []) →
    items_fault def now (Some item) items ≡ items_fault def taken before (item ∷ items)
items_more def taken now before item items free good same =
    items_same def now (taken ++ item.id.0 ∷ []) (Some item) items same
    ∙ sym (no_fault (item_fault def taken before item) (items_fault def (taken ++ item.id.0 ∷ []) (Some item) items) (item_free def taken before item free ∙ good))

pub items_stop : (def : LevelDef) (taken : List ℕ) (before : Option AnnotItem) (item : AnnotItem) (items : List AnnotItem) →
    list_any (nat_eq item.id.0) taken ≡ false → (r : Broken) → item_fault def [] before item ≡ Some r → items_fault def taken before (item ∷ items) ≡ Some r
items_stop def taken before item items free r bad =
    first_fault (item_fault def taken before item) (items_fault def (taken ++ item.id.0 ∷ []) (Some item) items) r (item_free def taken before item free ∙ bad)

pub items_taken : (def : LevelDef) (taken : List ℕ) (before : Option AnnotItem) (item : AnnotItem) (items : List AnnotItem) →
    list_any (nat_eq item.id.0) taken ≡ true → items_fault def taken before (item ∷ items) ≡ Some (rules.IdTaken item.id)
items_taken def taken before item items there =
    first_fault (item_fault def taken before item) (items_fault def (taken ++ item.id.0 ∷ []) (Some item) items) (rules.IdTaken item.id) (item_taken def taken before item there)

-- the levels of an annotation

pub found_same : (found : Option LevelDef) (named : List (List ℕ)) (a b : List ℕ) (level : AnnotLevel) → SameIds a b → found_level_fault found named a level ≡ found_level_fault found named b level
found_same None named a b level h = refl
found_same (Some def) named a b level h = rw (items_same def a b None level.items h) refl

pub levels_same : (defs : List LevelDef) (named : List (List ℕ)) (a b : List ℕ) (levels : List AnnotLevel) → SameIds a b → levels_fault defs named a levels ≡ levels_fault defs named b levels
levels_same defs named a b [] h = refl
levels_same defs named a b (level ∷ levels) h =
    rw (
      found_same (level_for level.name defs) named a b level h,
      levels_same defs (named ++ level.name ∷ []) (a ++ given_ids level.items) (b ++ given_ids level.items) levels (same_more a b (given_ids level.items) h),
    ) refl

pub levels_more : (defs : List LevelDef) (named : List (List ℕ)) (taken now : List ℕ) (level : AnnotLevel) (levels : List AnnotLevel) →
    level_fault defs named taken level ≡ None → SameIds now (taken ++ given_ids level.items) →
    levels_fault defs (named ++ level.name ∷ []) now levels ≡ levels_fault defs named taken (level ∷ levels)
levels_more defs named taken now level levels good same =
    levels_same defs (named ++ level.name ∷ []) now (taken ++ given_ids level.items) levels same
    ∙ sym (no_fault (level_fault defs named taken level) (levels_fault defs (named ++ level.name ∷ []) (taken ++ given_ids level.items) levels) good)

pub levels_stop : (defs : List LevelDef) (named : List (List ℕ)) (taken : List ℕ) (level : AnnotLevel) (levels : List AnnotLevel) (r : Broken) →
    level_fault defs named taken level ≡ Some r → levels_fault defs named taken (level ∷ levels) ≡ Some r
levels_stop defs named taken level levels r bad =
    first_fault (level_fault defs named taken level) (levels_fault defs (named ++ level.name ∷ []) (taken ++ given_ids level.items) levels) r bad

-- a level more in a walk along the levels
pub levels_walk : (defs : List LevelDef) (levels : List AnnotLevel) (i : ℕ) (level : AnnotLevel) (taken now : List ℕ) →
    i < length levels → level ≡ get_or levels i level →
    level_fault defs (map (λ (a : AnnotLevel). a.name) (take i levels)) taken level ≡ None → SameIds now (taken ++ given_ids level.items) →
    levels_fault defs (map (λ (a : AnnotLevel). a.name) (take (i + 1) levels)) now (drop (i + 1) levels)
    ≡ levels_fault defs (map (λ (a : AnnotLevel). a.name) (take i levels)) taken (drop i levels)
levels_walk defs levels i level taken now low is good same =
    ap (λ front. levels_fault defs front now (drop (i + 1) levels))
    (ap (map (λ (a : AnnotLevel). a.name)) (take_at levels i level low is) ∙ map-append (λ (a : AnnotLevel). a.name) (take i levels) (level ∷ []))
    ∙ levels_more defs (map (λ (a : AnnotLevel). a.name) (take i levels)) taken now level (drop (i + 1) levels) good same
    ∙ ap (λ back. levels_fault defs (map (λ (a : AnnotLevel). a.name) (take i levels)) taken back) (sym (drop_at levels i level low is))

-- an item more in a walk along the items of a level
pub items_walk : (def : LevelDef) (items : List AnnotItem) (i : ℕ) (item : AnnotItem) (before : Option AnnotItem) (taken now : List ℕ) →
    i < length items → item ≡ get_or items i item → list_any (nat_eq item.id.0) taken ≡ false → item_fault def [] before item ≡ None →
    SameIds now (taken ++ item.id.0 ∷ []) →
    items_fault def now (Some item) (drop (i + 1) items) ≡ items_fault def taken before (drop i items)
items_walk def items i item before taken now low is free good same =
    items_more def taken now before item (drop (i + 1) items) free good same
    ∙ ap (λ back. items_fault def taken before back) (sym (drop_at items i item low is))

pub ids_walk : (first : List ℕ) (items : List AnnotItem) (i : ℕ) (item : AnnotItem) (taken now : List ℕ) →
    i < length items → item ≡ get_or items i item → SameIds taken (first ++ given_ids (take i items)) → SameIds now (taken ++ item.id.0 ∷ []) →
    SameIds now (first ++ given_ids (take (i + 1) items))
ids_walk first items i item taken now low is before same = record {
  at = λ q. same.at q
      ∙ (same_more taken (first ++ given_ids (take i items)) (item.id.0 ∷ []) before).at q
      ∙ ap (list_any (nat_eq q))
      (append_assoc first (given_ids (take i items)) (item.id.0 ∷ [])
      ∙ ap (λ ids. first ++ ids) (sym (map-append (λ (a : AnnotItem). a.id.0) (take i items) (item ∷ [])) ∙ ap given_ids (sym (take_at items i item low is))));
}

pub not_taken : (fresh there : Bool) → fresh ≡ not there → fresh ≡ true → there ≡ false
not_taken fresh false is new = refl
not_taken fresh true is new = cc
