-- The walk that looks for the first broken rule of the levels of an annotation finds none exactly where
-- all are kept.
use Rattle.std.proofs.Common.{◌≡◌, ℕ, Bool, true, false, cond, not, ◌&&◌, List, [], ◌∷◌, ◌++◌, length, map, Option, Some, None, nat_eq, nat_lt, nat_le, refl, sym, ◌∙◌, ap}
use Rattle.std.specs.List.{list_any, list_all}
use Rattle.std.specs.Option.{is_none, option_or}
use Rattle.std.proofs.lemmas.Bool.{false≢true, true≢false, not-true, not-false, not_from_true, not_from_false, and_parts, and_from, or_parts, or_from, ltb-false, le-leb, leb-true, le-ltb, false_from_ne_true}
use Rattle.emu_names.specs.declared.limits.TheConstants.{BUNDLE_ITEMS, LABEL_BYTES}
use Rattle.emu_names.specs.declared.kinds.ItemId.{ItemId}
use Rattle.emu_names.specs.declared.kinds.LevelKind.{LevelKind}
use Rattle.emu_names.specs.declared.kinds.LevelKind.TheVariants as kinds
use Rattle.emu_names.specs.declared.rules.Broken.{Broken}
use Rattle.emu_names.specs.declared.rules.Broken.TheVariants as rules
use Rattle.emu_names.specs.declared.rules.What.TheVariants as counted
use Rattle.level_items.specs.declared.times.Time.{Time}
use Rattle.level_items.specs.declared.items.Item.{Item}
use Rattle.level_items.specs.declared.annot.AnnotLabel.{AnnotLabel}
use Rattle.level_items.specs.declared.annot.AnnotItem.{AnnotItem}
use Rattle.level_items.specs.declared.annot.AnnotLevel.{AnnotLevel}
use Rattle.level_items.specs.declared.annot.Annot.{Annot}
use Rattle.level_items.specs.Times.{fits_kind, ends_in_time, is_before}
use Rattle.level_items.specs.Levels.{are_different, is_short, are_apart, are_in_order}
use Rattle.level_items.specs.Faults.{time_fault, order_rule, order_fault}
use Rattle.db_config.specs.declared.parts.LevelDef.{LevelDef}
use Rattle.db_config.specs.Names.{are_distinct}
use Rattle.emu_names.specs.Texts.{same_text}
use Rattle.bundle_state.specs.Lookups.{level_for, has_attribute}
use Rattle.bundle_state.specs.Faults.{is_rate, labels_fault, behind_fault, item_fault, items_fault, same_kind, found_level_fault, level_fault, given_ids, levels_fault, given_count, annot_fault}
use Rattle.bundle_state.specs.Made.{made_item}
use Rattle.bundle_state.specs.Rules.{label_names, is_label_of, are_labels_of, is_item_of, are_given_in_order, is_level_of, is_level_in, level_names, all_given_ids, keeps_rules}
use Rattle.bundle_state.proofs.Tests.{Each, each_map, each_two, text_true, text_same, some_none, or_none, cond_none, any_append, append_any, eqb_flip, different_cons, different_append}
use Rattle.bundle_state.proofs.LevelsKept.{IsFineItem, items_parts, IsTimed, in_order, order_before, IsFineAnnot, fine_annot}

-- Tests, and faults that are not there.

cond_else : (b : Bool) (r : Broken) (rest : Option Broken) → b ≡ false → rest ≡ None → cond b (Some r) rest ≡ None
cond_else true r rest is fine = absurd (true≢false is)
cond_else false r rest is fine = fine

cond_then : (b : Bool) (r : Broken) → b ≡ true → cond b None (Some r) ≡ None
cond_then true r is = refl
cond_then false r is = absurd (false≢true is)

or_nothing : (a b : Option Broken) → a ≡ None → b ≡ None → option_or a b ≡ None
or_nothing None b first second = second
or_nothing (Some r) b first second = absurd (some_none r first)

none_of : (o : Option Broken) → is_none o ≡ true → o ≡ None
none_of None is = refl
none_of (Some r) is = absurd (false≢true is)

-- two tests that imply each other are the same
same_test : (a b : Bool) → (a ≡ true → b ≡ true) → (b ≡ true → a ≡ true) → a ≡ b
same_test true b to from = sym (to refl)
same_test false true to from = absurd (false≢true (from refl))
same_test false false to from = refl

-- Lists that have nothing in common.

text_flip : (a b : List ℕ) → same_text a b ≡ false → same_text b a ≡ false
text_flip a b apart =
    false_from_ne_true (same_text b a)
    (λ same. true≢false (sym (text_same a) ∙ sym (ap (λ (k : List ℕ). same_text a k) (text_true b a same)) ∙ apart))

-- nothing of the second list is in the first
abbrev Away : {A : Type 0} → (A → A → Bool) → List A → List A → Type 0
Away same xs ys = Each (λ y. list_any (same y) xs ≡ false) ys

away_left : {A : Type 0} (same : A → A → Bool) (xs zs ys : List A) → Away same (xs ++ zs) ys → Away same xs ys
away_left same xs zs ys away = each_map (λ y. list_any (same y) (xs ++ zs) ≡ false) (λ y. list_any (same y) xs ≡ false) (λ y e. (any_append (same y) xs zs e).0) ys away

away_right : {A : Type 0} (same : A → A → Bool) (xs zs ys : List A) → Away same (xs ++ zs) ys → Away same zs ys
away_right same xs zs ys away = each_map (λ y. list_any (same y) (xs ++ zs) ≡ false) (λ y. list_any (same y) zs ≡ false) (λ y e. (any_append (same y) xs zs e).1) ys away

away_both : {A : Type 0} (same : A → A → Bool) (xs zs ys : List A) → Away same xs ys → Away same zs ys → Away same (xs ++ zs) ys
away_both same xs zs ys left right =
    each_two (λ y. list_any (same y) xs ≡ false) (λ y. list_any (same y) zs ≡ false) (λ y. list_any (same y) (xs ++ zs) ≡ false) (λ y a b. append_any (same y) xs zs a b) ys left right

away_nothing : {A : Type 0} (same : A → A → Bool) (ys : List A) → Away same [] ys
away_nothing same [] = tt
away_nothing same (y ∷ ys) = (refl, away_nothing same ys)

away_cons : {A : Type 0} (same : A → A → Bool) (x : A) (xs ys : List A) → Each (λ y. same y x ≡ false) ys → Away same xs ys → Away same (x ∷ xs) ys
away_cons same x xs ys first rest =
    each_two (λ y. same y x ≡ false) (λ y. list_any (same y) xs ≡ false) (λ y. list_any (same y) (x ∷ xs) ≡ false) (λ y a b. or_from (same y x) (list_any (same y) xs) a b) ys first rest

each_apart : {A : Type 0} (same : A → A → Bool) → ((a b : A) → same a b ≡ false → same b a ≡ false) → (x : A) (ys : List A) → list_any (same x) ys ≡ false → Each (λ y. same y x ≡ false) ys
each_apart same flip x [] none = tt
each_apart same flip x (y ∷ ys) none =
    let parts : (same x y ≡ false) × (list_any (same x) ys ≡ false) = or_parts (same x y) (list_any (same x) ys) none in
    (flip x y parts.0, each_apart same flip x ys parts.1)

away_flip : {A : Type 0} (same : A → A → Bool) → ((a b : A) → same a b ≡ false → same b a ≡ false) → (xs ys : List A) → Away same xs ys → Away same ys xs
away_flip same flip xs [] away = away_nothing same xs
away_flip same flip xs (y ∷ ys) away =
    away_cons same y ys xs (each_apart same flip y xs away.0) (away_flip same flip xs ys away.1)

-- one behind a list is away from what the list and it are away from
away_one : {A : Type 0} (same : A → A → Bool) → ((a b : A) → same a b ≡ false → same b a ≡ false) → (xs : List A) (x : A) (ys : List A) → Away same (xs ++ x ∷ []) ys → list_any (same x) ys ≡ false
away_one same flip xs x ys away = (away_flip same flip (x ∷ []) ys (away_right same xs (x ∷ []) ys away)).0

away_push : {A : Type 0} (same : A → A → Bool) → ((a b : A) → same a b ≡ false → same b a ≡ false) → (xs : List A) (x : A) (ys : List A) → Away same xs ys → list_any (same x) ys ≡ false → Away same (xs ++ x ∷ []) ys
away_push same flip xs x ys away none = away_both same xs (x ∷ []) ys away (away_flip same flip ys (x ∷ []) (none, tt))

each_append : {A : Type 0} (P : A → Type 0) (xs ys : List A) → Each P xs → Each P ys → Each P (xs ++ ys)
each_append P [] ys left right = right
each_append P (x ∷ xs) ys left right = (left.0, each_append P xs ys left.1 right)

each_split : {A : Type 0} (P : A → Type 0) (xs ys : List A) → Each P (xs ++ ys) → Each P xs × Each P ys
each_split P [] ys each = (tt, each)
each_split P (x ∷ xs) ys each =
    let rest : Each P xs × Each P ys = each_split P xs ys each.1 in
    ((each.0, rest.0), rest.1)

-- Lists in which nothing stands twice.

distinct_cons : (name : List ℕ) (names : List (List ℕ)) → list_any (same_text name) names ≡ false → are_distinct names ≡ true → are_distinct (name ∷ names) ≡ true
distinct_cons name names fresh rest = and_from (not (list_any (same_text name) names)) (are_distinct names) (not_from_false (list_any (same_text name) names) fresh) rest

distinct_parts : (name : List ℕ) (names : List (List ℕ)) → are_distinct (name ∷ names) ≡ true → (list_any (same_text name) names ≡ false) × (are_distinct names ≡ true)
distinct_parts name names distinct =
    let parts : (not (list_any (same_text name) names) ≡ true) × (are_distinct names ≡ true) = and_parts (not (list_any (same_text name) names)) (are_distinct names) distinct in
    (not-true (list_any (same_text name) names) parts.0, parts.1)

different_one : (n : ℕ) (ns : List ℕ) → are_different (n ∷ ns) ≡ true → (list_any (nat_eq n) ns ≡ false) × (are_different ns ≡ true)
different_one n ns different =
    let parts : (not (list_any (nat_eq n) ns) ≡ true) × (are_different ns ≡ true) = and_parts (not (list_any (nat_eq n) ns)) (are_different ns) different in
    (not-true (list_any (nat_eq n) ns) parts.0, parts.1)

-- two lists of which each has nothing twice, and that have nothing in common
record AreDifferent (xs ys : List ℕ) : Type 0 where
  left : are_different xs ≡ true
  right : are_different ys ≡ true
  away : Away nat_eq ys xs

different_parts : (xs ys : List ℕ) → are_different (xs ++ ys) ≡ true → AreDifferent xs ys
different_parts [] ys different = record { left = refl; right = different; away = tt }
different_parts (x ∷ xs) ys different =
    let one : (list_any (nat_eq x) (xs ++ ys) ≡ false) × (are_different (xs ++ ys) ≡ true) = different_one x (xs ++ ys) different in
    let apart : (list_any (nat_eq x) xs ≡ false) × (list_any (nat_eq x) ys ≡ false) = any_append (nat_eq x) xs ys one.0 in
    let rest : AreDifferent xs ys = different_parts xs ys one.1 in
    record { left = different_cons x xs apart.0 rest.left; right = rest.right; away = (apart.1, rest.away) }

-- Labels.

record AreFineLabels (def : LevelDef) (named : List (List ℕ)) (labels : List AnnotLabel) : Type 0 where
  each : list_all (is_label_of def) labels ≡ true
  distinct : are_distinct (label_names labels) ≡ true
  fresh : Away same_text named (label_names labels)

labels_keep : (def : LevelDef) (named : List (List ℕ)) (labels : List AnnotLabel) → labels_fault def.attributes named labels ≡ None → AreFineLabels def named labels
labels_keep def named [] fine = record { each = refl; distinct = refl; fresh = tt }
labels_keep def named (l ∷ ls) fine =
    let last : Option Broken = labels_fault def.attributes (named ++ l.name ∷ []) ls in
    let first : (not (has_attribute def.attributes l.name) ≡ false) × (cond (list_any (same_text l.name) named) (Some (rules.TwoLabels l.name)) (cond (nat_lt LABEL_BYTES (length l.value)) (Some rules.LabelTooLong) last) ≡ None)
    = cond_none (not (has_attribute def.attributes l.name)) (rules.NoAttribute l.name) (cond (list_any (same_text l.name) named) (Some (rules.TwoLabels l.name)) (cond (nat_lt LABEL_BYTES (length l.value)) (Some rules.LabelTooLong) last)) fine in
    let second : (list_any (same_text l.name) named ≡ false) × (cond (nat_lt LABEL_BYTES (length l.value)) (Some rules.LabelTooLong) last ≡ None)
    = cond_none (list_any (same_text l.name) named) (rules.TwoLabels l.name) (cond (nat_lt LABEL_BYTES (length l.value)) (Some rules.LabelTooLong) last) first.1 in
    let third : (nat_lt LABEL_BYTES (length l.value) ≡ false) × (last ≡ None) = cond_none (nat_lt LABEL_BYTES (length l.value)) rules.LabelTooLong last second.1 in
    let rest : AreFineLabels def (named ++ l.name ∷ []) ls = labels_keep def (named ++ l.name ∷ []) ls third.1 in
    record {
      each = and_from (is_label_of def l) (list_all (is_label_of def) ls)
          (and_from (has_attribute def.attributes l.name) (is_short l.value) (not-false (has_attribute def.attributes l.name) first.0) (le-leb (length l.value) LABEL_BYTES (ltb-false LABEL_BYTES (length l.value) third.0)))
          rest.each;
      distinct = distinct_cons l.name (label_names ls) (away_one same_text text_flip named l.name (label_names ls) rest.fresh) rest.distinct;
      fresh = (second.0, away_left same_text named (l.name ∷ []) (label_names ls) rest.fresh);
    }

labels_none : (def : LevelDef) (named : List (List ℕ)) (labels : List AnnotLabel) → AreFineLabels def named labels → labels_fault def.attributes named labels ≡ None
labels_none def named [] fine = refl
labels_none def named (l ∷ ls) fine =
    let last : Option Broken = labels_fault def.attributes (named ++ l.name ∷ []) ls in
    let each : (is_label_of def l ≡ true) × (list_all (is_label_of def) ls ≡ true) = and_parts (is_label_of def l) (list_all (is_label_of def) ls) fine.each in
    let one : (has_attribute def.attributes l.name ≡ true) × (is_short l.value ≡ true) = and_parts (has_attribute def.attributes l.name) (is_short l.value) each.0 in
    let apart : (list_any (same_text l.name) (label_names ls) ≡ false) × (are_distinct (label_names ls) ≡ true) = distinct_parts l.name (label_names ls) fine.distinct in
    cond_else (not (has_attribute def.attributes l.name)) (rules.NoAttribute l.name) (cond (list_any (same_text l.name) named) (Some (rules.TwoLabels l.name)) (cond (nat_lt LABEL_BYTES (length l.value)) (Some rules.LabelTooLong) last))
    (not_from_true (has_attribute def.attributes l.name) one.0)
    (cond_else (list_any (same_text l.name) named) (rules.TwoLabels l.name) (cond (nat_lt LABEL_BYTES (length l.value)) (Some rules.LabelTooLong) last) fine.fresh.0
    (cond_else (nat_lt LABEL_BYTES (length l.value)) rules.LabelTooLong last (le-ltb LABEL_BYTES (length l.value) (leb-true (length l.value) LABEL_BYTES one.1))
    (labels_none def (named ++ l.name ∷ []) ls (record {
      each = each.1;
      distinct = apart.1;
      fresh = away_push same_text text_flip named l.name (label_names ls) fine.fresh.1 apart.0;
    }))))

-- Order.

order_cons : (kind : LevelKind) (x y : Item) (ys : List Item) → (IsTimed kind → is_before x.time y.time ≡ true) → are_in_order kind (y ∷ ys) ≡ true → are_in_order kind (x ∷ y ∷ ys) ≡ true
order_cons kinds.Item x y ys before rest = refl
order_cons kinds.Segment x y ys before rest = and_from (is_before x.time y.time) (are_apart (y ∷ ys)) (before (λ named none. some_none (rules.Overlap named) none)) rest
order_cons kinds.Event x y ys before rest = and_from (is_before x.time y.time) (are_apart (y ∷ ys)) (before (λ named none. some_none (rules.NotRising named) none)) rest

order_parts : (kind : LevelKind) (named : ItemId) (x y : Item) (ys : List Item) → are_in_order kind (x ∷ y ∷ ys) ≡ true → (order_fault kind named x.time y.time ≡ None) × (are_in_order kind (y ∷ ys) ≡ true)
order_parts kinds.Item named x y ys rest = (nothing (is_before x.time y.time), refl)
  where
    nothing : (b : Bool) → cond b None (order_rule kinds.Item named) ≡ None
    nothing true = refl
    nothing false = refl
order_parts kinds.Segment named x y ys rest =
    let parts : (is_before x.time y.time ≡ true) × (are_apart (y ∷ ys) ≡ true) = and_parts (is_before x.time y.time) (are_apart (y ∷ ys)) rest in
    (cond_then (is_before x.time y.time) (rules.Overlap named) parts.0, parts.1)
order_parts kinds.Event named x y ys rest =
    let parts : (is_before x.time y.time ≡ true) × (are_apart (y ∷ ys) ≡ true) = and_parts (is_before x.time y.time) (are_apart (y ∷ ys)) rest in
    (cond_then (is_before x.time y.time) (rules.NotRising named) parts.0, parts.1)

one_in_order : (kind : LevelKind) (x : Item) → are_in_order kind (x ∷ []) ≡ true
one_in_order kind x = in_order kind (x ∷ []) (λ timed. refl)

none_in_order : (kind : LevelKind) → are_in_order kind [] ≡ true
none_in_order kind = in_order kind [] (λ timed. refl)

-- Items.

-- these items stand in order, behind the item before them
abbrev rise_behind : LevelDef → Option AnnotItem → List AnnotItem → Bool
rise_behind def None items = are_given_in_order def items
rise_behind def (Some a) items = are_given_in_order def (a ∷ items)

rise_nothing : (def : LevelDef) (before : Option AnnotItem) → rise_behind def before [] ≡ true
rise_nothing def None = none_in_order def.kind
rise_nothing def (Some a) = one_in_order def.kind (made_item def.attributes a)

rise_more : (def : LevelDef) (before : Option AnnotItem) (item : AnnotItem) (items : List AnnotItem) → behind_fault def.kind before item ≡ None → rise_behind def (Some item) items ≡ true → rise_behind def before (item ∷ items) ≡ true
rise_more def None item items fine rising = rising
rise_more def (Some a) item items fine rising =
    order_cons def.kind (made_item def.attributes a) (made_item def.attributes item) (map (made_item def.attributes) items)
    (λ timed. order_before def.kind a.id a.time item.time timed fine) rising

rise_parts : (def : LevelDef) (before : Option AnnotItem) (item : AnnotItem) (items : List AnnotItem) → rise_behind def before (item ∷ items) ≡ true → (behind_fault def.kind before item ≡ None) × (rise_behind def (Some item) items ≡ true)
rise_parts def None item items rising = (refl, rising)
rise_parts def (Some a) item items rising =
    order_parts def.kind a.id (made_item def.attributes a) (made_item def.attributes item) (map (made_item def.attributes) items) rising

item_keeps : (def : LevelDef) (taken : List ℕ) (before : Option AnnotItem) (item : AnnotItem) → IsFineItem def taken before item → is_item_of def item ≡ true
item_keeps def taken before item fine =
    let labels : AreFineLabels def [] item.labels = labels_keep def [] item.labels fine.labels in
    and_from (fits_kind def.kind item.time && ends_in_time item.time) (are_labels_of def item.labels)
    (and_from (fits_kind def.kind item.time) (ends_in_time item.time) fine.fits fine.in_time)
    (and_from (list_all (is_label_of def) item.labels) (are_distinct (label_names item.labels)) labels.each labels.distinct)

time_none : (kind : LevelKind) (time : Time) → fits_kind kind time ≡ true → ends_in_time time ≡ true → time_fault kind time ≡ None
time_none kind time fits ends = rw (fits, ends) refl

item_none : (def : LevelDef) (taken : List ℕ) (before : Option AnnotItem) (item : AnnotItem) → list_any (nat_eq item.id.0) taken ≡ false → is_item_of def item ≡ true → behind_fault def.kind before item ≡ None → item_fault def taken before item ≡ None
item_none def taken before item fresh fine order =
    let last : Option Broken = option_or (labels_fault def.attributes [] item.labels) (behind_fault def.kind before item) in
    let parts : (fits_kind def.kind item.time && ends_in_time item.time ≡ true) × (are_labels_of def item.labels ≡ true) = and_parts (fits_kind def.kind item.time && ends_in_time item.time) (are_labels_of def item.labels) fine in
    let time : (fits_kind def.kind item.time ≡ true) × (ends_in_time item.time ≡ true) = and_parts (fits_kind def.kind item.time) (ends_in_time item.time) parts.0 in
    let labels : (list_all (is_label_of def) item.labels ≡ true) × (are_distinct (label_names item.labels) ≡ true) = and_parts (list_all (is_label_of def) item.labels) (are_distinct (label_names item.labels)) parts.1 in
    cond_else (list_any (nat_eq item.id.0) taken) (rules.IdTaken item.id) (option_or (time_fault def.kind item.time) last) fresh
    (or_nothing (time_fault def.kind item.time) last (time_none def.kind item.time time.0 time.1)
    (or_nothing (labels_fault def.attributes [] item.labels) (behind_fault def.kind before item)
    (labels_none def [] item.labels (record { each = labels.0; distinct = labels.1; fresh = away_nothing same_text (label_names item.labels) })) order))

record AreFineItems (def : LevelDef) (taken : List ℕ) (before : Option AnnotItem) (items : List AnnotItem) : Type 0 where
  each : list_all (is_item_of def) items ≡ true
  rising : rise_behind def before items ≡ true
  different : are_different (given_ids items) ≡ true
  fresh : Away nat_eq taken (given_ids items)

items_keep : (def : LevelDef) (taken : List ℕ) (before : Option AnnotItem) (items : List AnnotItem) → items_fault def taken before items ≡ None → AreFineItems def taken before items
items_keep def taken before [] fine = record { each = refl; rising = rise_nothing def before; different = refl; fresh = tt }
items_keep def taken before (item ∷ items) fine =
    let parts : IsFineItem def taken before item × (items_fault def (taken ++ item.id.0 ∷ []) (Some item) items ≡ None) = items_parts def taken before item items fine in
    let rest : AreFineItems def (taken ++ item.id.0 ∷ []) (Some item) items = items_keep def (taken ++ item.id.0 ∷ []) (Some item) items parts.1 in
    record {
      each = and_from (is_item_of def item) (list_all (is_item_of def) items) (item_keeps def taken before item parts.0) rest.each;
      rising = rise_more def before item items parts.0.order rest.rising;
      different = different_cons item.id.0 (given_ids items) (away_one nat_eq eqb_flip taken item.id.0 (given_ids items) rest.fresh) rest.different;
      fresh = (parts.0.fresh, away_left nat_eq taken (item.id.0 ∷ []) (given_ids items) rest.fresh);
    }

items_none : (def : LevelDef) (taken : List ℕ) (before : Option AnnotItem) (items : List AnnotItem) → AreFineItems def taken before items → items_fault def taken before items ≡ None
items_none def taken before [] fine = refl
items_none def taken before (item ∷ items) fine =
    let each : (is_item_of def item ≡ true) × (list_all (is_item_of def) items ≡ true) = and_parts (is_item_of def item) (list_all (is_item_of def) items) fine.each in
    let rises : (behind_fault def.kind before item ≡ None) × (rise_behind def (Some item) items ≡ true) = rise_parts def before item items fine.rising in
    let apart : (list_any (nat_eq item.id.0) (given_ids items) ≡ false) × (are_different (given_ids items) ≡ true) = different_one item.id.0 (given_ids items) fine.different in
    or_nothing (item_fault def taken before item) (items_fault def (taken ++ item.id.0 ∷ []) (Some item) items)
    (item_none def taken before item fine.fresh.0 each.0 rises.0)
    (items_none def (taken ++ item.id.0 ∷ []) (Some item) items (record {
      each = each.1;
      rising = rises.1;
      different = apart.1;
      fresh = away_push nat_eq eqb_flip taken item.id.0 (given_ids items) fine.fresh.1 apart.0;
    }))

-- Levels.

record IsFineLevelOf (o : Option LevelDef) (named : List (List ℕ)) (taken : List ℕ) (level : AnnotLevel) : Type 0 where
  kept : is_level_of level o ≡ true
  name : list_any (same_text level.name) named ≡ false
  different : are_different (given_ids level.items) ≡ true
  fresh : Away nat_eq taken (given_ids level.items)

level_keeps : (o : Option LevelDef) (named : List (List ℕ)) (taken : List ℕ) (level : AnnotLevel) → found_level_fault o named taken level ≡ None → IsFineLevelOf o named taken level
level_keeps None named taken level fine = absurd (some_none (rules.NoLevel level.name) fine)
level_keeps (Some def) named taken level fine =
    let last : Option Broken = items_fault def taken None level.items in
    let first : (list_any (same_text level.name) named ≡ false) × (cond (not (same_kind def.kind level.kind)) (Some (rules.LevelKind level.name)) last ≡ None)
    = cond_none (list_any (same_text level.name) named) (rules.TwoLevels level.name) (cond (not (same_kind def.kind level.kind)) (Some (rules.LevelKind level.name)) last) fine in
    let second : (not (same_kind def.kind level.kind) ≡ false) × (last ≡ None) = cond_none (not (same_kind def.kind level.kind)) (rules.LevelKind level.name) last first.1 in
    let items : AreFineItems def taken None level.items = items_keep def taken None level.items second.1 in
    record {
      kept = and_from (same_kind def.kind level.kind && list_all (is_item_of def) level.items) (are_given_in_order def level.items)
          (and_from (same_kind def.kind level.kind) (list_all (is_item_of def) level.items) (not-false (same_kind def.kind level.kind) second.0) items.each) items.rising;
      name = first.0;
      different = items.different;
      fresh = items.fresh;
    }

level_none : (o : Option LevelDef) (named : List (List ℕ)) (taken : List ℕ) (level : AnnotLevel) → IsFineLevelOf o named taken level → found_level_fault o named taken level ≡ None
level_none None named taken level fine = absurd (false≢true fine.kept)
level_none (Some def) named taken level fine =
    let last : Option Broken = items_fault def taken None level.items in
    let parts : (same_kind def.kind level.kind && list_all (is_item_of def) level.items ≡ true) × (are_given_in_order def level.items ≡ true)
    = and_parts (same_kind def.kind level.kind && list_all (is_item_of def) level.items) (are_given_in_order def level.items) fine.kept in
    let kind : (same_kind def.kind level.kind ≡ true) × (list_all (is_item_of def) level.items ≡ true) = and_parts (same_kind def.kind level.kind) (list_all (is_item_of def) level.items) parts.0 in
    cond_else (list_any (same_text level.name) named) (rules.TwoLevels level.name) (cond (not (same_kind def.kind level.kind)) (Some (rules.LevelKind level.name)) last) fine.name
    (cond_else (not (same_kind def.kind level.kind)) (rules.LevelKind level.name) last (not_from_true (same_kind def.kind level.kind) kind.0)
    (items_none def taken None level.items (record { each = kind.1; rising = parts.1; different = fine.different; fresh = fine.fresh })))

record AreFineLevels (defs : List LevelDef) (named : List (List ℕ)) (taken : List ℕ) (levels : List AnnotLevel) : Type 0 where
  each : list_all (is_level_in defs) levels ≡ true
  names : are_distinct (level_names levels) ≡ true
  new_names : Away same_text named (level_names levels)
  ids : are_different (all_given_ids levels) ≡ true
  new_ids : Away nat_eq taken (all_given_ids levels)

-- a number is not in a list
abbrev is_free : List ℕ → ℕ → Type 0
is_free taken n = list_any (nat_eq n) taken ≡ false

levels_keep : (defs : List LevelDef) (named : List (List ℕ)) (taken : List ℕ) (levels : List AnnotLevel) → levels_fault defs named taken levels ≡ None → AreFineLevels defs named taken levels
levels_keep defs named taken [] fine = record { each = refl; names = refl; new_names = tt; ids = refl; new_ids = tt }
levels_keep defs named taken (level ∷ levels) fine =
    let own : List ℕ = given_ids level.items in
    let parts : (level_fault defs named taken level ≡ None) × (levels_fault defs (named ++ level.name ∷ []) (taken ++ own) levels ≡ None)
    = or_none (level_fault defs named taken level) (levels_fault defs (named ++ level.name ∷ []) (taken ++ own) levels) fine in
    let here : IsFineLevelOf (level_for level.name defs) named taken level = level_keeps (level_for level.name defs) named taken level parts.0 in
    let rest : AreFineLevels defs (named ++ level.name ∷ []) (taken ++ own) levels = levels_keep defs (named ++ level.name ∷ []) (taken ++ own) levels parts.1 in
    record {
      each = and_from (is_level_in defs level) (list_all (is_level_in defs) levels) here.kept rest.each;
      names = distinct_cons level.name (level_names levels) (away_one same_text text_flip named level.name (level_names levels) rest.new_names) rest.names;
      new_names = (here.name, away_left same_text named (level.name ∷ []) (level_names levels) rest.new_names);
      ids = different_append own (all_given_ids levels) here.different rest.ids
          (away_flip nat_eq eqb_flip own (all_given_ids levels) (away_right nat_eq taken own (all_given_ids levels) rest.new_ids));
      new_ids = each_append (is_free taken) own (all_given_ids levels) here.fresh (away_left nat_eq taken own (all_given_ids levels) rest.new_ids);
    }

levels_none : (defs : List LevelDef) (named : List (List ℕ)) (taken : List ℕ) (levels : List AnnotLevel) → AreFineLevels defs named taken levels → levels_fault defs named taken levels ≡ None
levels_none defs named taken [] fine = refl
levels_none defs named taken (level ∷ levels) fine =
    let own : List ℕ = given_ids level.items in
    let each : (is_level_in defs level ≡ true) × (list_all (is_level_in defs) levels ≡ true) = and_parts (is_level_in defs level) (list_all (is_level_in defs) levels) fine.each in
    let apart : (list_any (same_text level.name) (level_names levels) ≡ false) × (are_distinct (level_names levels) ≡ true) = distinct_parts level.name (level_names levels) fine.names in
    let ids : AreDifferent own (all_given_ids levels) = different_parts own (all_given_ids levels) fine.ids in
    let new : Each (is_free taken) own × Each (is_free taken) (all_given_ids levels) = each_split (is_free taken) own (all_given_ids levels) fine.new_ids in
    or_nothing (level_fault defs named taken level) (levels_fault defs (named ++ level.name ∷ []) (taken ++ own) levels)
    (level_none (level_for level.name defs) named taken level (record { kept = each.0; name = fine.new_names.0; different = ids.left; fresh = new.0 }))
    (levels_none defs (named ++ level.name ∷ []) (taken ++ own) levels (record {
      each = each.1;
      names = apart.1;
      new_names = away_push same_text text_flip named level.name (level_names levels) fine.new_names.1 apart.0;
      ids = ids.right;
      new_ids = away_both nat_eq taken own (all_given_ids levels) new.1 (away_flip nat_eq eqb_flip (all_given_ids levels) own ids.away);
    }))

-- The whole annotation.

annot_keeps : (defs : List LevelDef) (annot : Annot) → annot_fault defs annot ≡ None → keeps_rules defs annot ≡ true
annot_keeps defs annot fine =
    let parts : IsFineAnnot defs annot = fine_annot defs annot fine in
    let levels : AreFineLevels defs [] [] annot.levels = levels_keep defs [] [] annot.levels parts.levels in
    and_from (is_rate annot.rate && nat_le (given_count annot.levels) BUNDLE_ITEMS && list_all (is_level_in defs) annot.levels && are_distinct (level_names annot.levels)) (are_different (all_given_ids annot.levels))
    (and_from (is_rate annot.rate && nat_le (given_count annot.levels) BUNDLE_ITEMS && list_all (is_level_in defs) annot.levels) (are_distinct (level_names annot.levels))
    (and_from (is_rate annot.rate && nat_le (given_count annot.levels) BUNDLE_ITEMS) (list_all (is_level_in defs) annot.levels)
    (and_from (is_rate annot.rate) (nat_le (given_count annot.levels) BUNDLE_ITEMS) parts.rate (le-leb (given_count annot.levels) BUNDLE_ITEMS parts.count))
    levels.each) levels.names) levels.ids

annot_none : (defs : List LevelDef) (annot : Annot) → keeps_rules defs annot ≡ true → annot_fault defs annot ≡ None
annot_none defs annot kept =
    let last : Option Broken = levels_fault defs [] [] annot.levels in
    let ids : (is_rate annot.rate && nat_le (given_count annot.levels) BUNDLE_ITEMS && list_all (is_level_in defs) annot.levels && are_distinct (level_names annot.levels) ≡ true) × (are_different (all_given_ids annot.levels) ≡ true)
    = and_parts (is_rate annot.rate && nat_le (given_count annot.levels) BUNDLE_ITEMS && list_all (is_level_in defs) annot.levels && are_distinct (level_names annot.levels)) (are_different (all_given_ids annot.levels)) kept in
    let names : (is_rate annot.rate && nat_le (given_count annot.levels) BUNDLE_ITEMS && list_all (is_level_in defs) annot.levels ≡ true) × (are_distinct (level_names annot.levels) ≡ true)
    = and_parts (is_rate annot.rate && nat_le (given_count annot.levels) BUNDLE_ITEMS && list_all (is_level_in defs) annot.levels) (are_distinct (level_names annot.levels)) ids.0 in
    let each : (is_rate annot.rate && nat_le (given_count annot.levels) BUNDLE_ITEMS ≡ true) × (list_all (is_level_in defs) annot.levels ≡ true)
    = and_parts (is_rate annot.rate && nat_le (given_count annot.levels) BUNDLE_ITEMS) (list_all (is_level_in defs) annot.levels) names.0 in
    let rate : (is_rate annot.rate ≡ true) × (nat_le (given_count annot.levels) BUNDLE_ITEMS ≡ true) = and_parts (is_rate annot.rate) (nat_le (given_count annot.levels) BUNDLE_ITEMS) each.0 in
    cond_else (not (is_rate annot.rate)) rules.RateOut (cond (nat_lt BUNDLE_ITEMS (given_count annot.levels)) (Some (rules.TooMany counted.BundleItems)) last) (not_from_true (is_rate annot.rate) rate.0)
    (cond_else (nat_lt BUNDLE_ITEMS (given_count annot.levels)) (rules.TooMany counted.BundleItems) last (le-ltb BUNDLE_ITEMS (given_count annot.levels) (leb-true (given_count annot.levels) BUNDLE_ITEMS rate.1))
    (levels_none defs [] [] annot.levels (record {
      each = each.1;
      names = names.1;
      new_names = away_nothing same_text (level_names annot.levels);
      ids = ids.1;
      new_ids = away_nothing nat_eq (all_given_ids annot.levels);
    })))

pub refuses_exactly : (defs : List LevelDef) (annot : Annot) → is_none (annot_fault defs annot) ≡ keeps_rules defs annot
refuses_exactly defs annot =
    same_test (is_none (annot_fault defs annot)) (keeps_rules defs annot)
    (λ is. annot_keeps defs annot (none_of (annot_fault defs annot) is))
    (λ kept. ap (λ (o : Option Broken). is_none o) (annot_none defs annot kept))
