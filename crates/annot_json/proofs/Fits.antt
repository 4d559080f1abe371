-- What a bundle that fits a configuration has of each level, attribute by attribute.
use Rattle.std.proofs.Common.{◌≡◌, ℕ, Bool, true, false, not, ◌&&◌, ◌==◌, List, [], ◌∷◌, ◌++◌, map, length, refl, ap, subst, All, eqb-true}
use Rattle.std.specs.List.{list_all, list_any}
use Rattle.emu_names.specs.declared.kinds.LevelKind.{LevelKind}
use Rattle.std.proofs.lemmas.Bool.{and_parts, and_from, or_parts, or_from, not-true, not_from_false}
use Rattle.std.proofs.lemmas.List.Elements.{All-head, All-tail}
use Rattle.level_items.specs.declared.items.Item.{Item}
use Rattle.level_items.specs.Levels.{Level, KeepsLevelRule, fits_level, are_labels_for, is_short, are_in_order}
use Rattle.level_items.specs.Times.{fits_kind, ends_in_time}
use Rattle.db_config.specs.declared.attributes.AttributeDef.{AttributeDef}
use Rattle.db_config.specs.declared.parts.LevelDef.{LevelDef}
use Rattle.db_config.specs.declared.parts.ConfigParts.{ConfigParts}
use Rattle.db_config.specs.Names.{attribute_names, without_first, names_of, all_names, are_distinct}
use Rattle.emu_names.specs.Texts.{same_text}
use Rattle.db_config.specs.Above.{leads_round}
use Rattle.db_config.specs.Valid.{is_valid, keeps_rules, are_within_limits, is_in_range, are_apart}
use Rattle.bundle_state.specs.Built.{form_of, form_asked}
use Rattle.bundle_state.proofs.Tests.{Each, any_append, text_true}

-- ---- names

-- no attribute has the name of one before it
abbrev pub AreNamed : List AttributeDef → Type 0
AreNamed [] = Unit {0}
AreNamed (def ∷ defs) = Each (λ (other : AttributeDef). same_text def.name other.name ≡ false) defs × AreNamed defs

distinct_left : (xs ys : List (List ℕ)) → are_distinct (xs ++ ys) ≡ true → are_distinct xs ≡ true
distinct_left [] ys h = refl
distinct_left (x ∷ xs) ys h =
    let both = and_parts (not (list_any (same_text x) (xs ++ ys))) (are_distinct (xs ++ ys)) h in
    and_from (not (list_any (same_text x) xs)) (are_distinct xs)
    (not_from_false (list_any (same_text x) xs) (any_append (same_text x) xs ys (not-true (list_any (same_text x) (xs ++ ys)) both.0)).0)
    (distinct_left xs ys both.1)

distinct_right : (xs ys : List (List ℕ)) → are_distinct (xs ++ ys) ≡ true → are_distinct ys ≡ true
distinct_right [] ys h = h
distinct_right (x ∷ xs) ys h = distinct_right xs ys (and_parts (not (list_any (same_text x) (xs ++ ys))) (are_distinct (xs ++ ys)) h).1

without_apart : (name x : List ℕ) (ns : List (List ℕ)) → list_any (same_text x) (without_first name ns) ≡ false → same_text x name ≡ false → list_any (same_text x) ns ≡ false
without_apart name x [] h k = refl
without_apart name x (n ∷ ns) h k = at (same_text n name) refl (λ rest. without_apart name x ns rest k)
  where
    at : (b : Bool) → same_text n name ≡ b → (list_any (same_text x) (without_first name ns) ≡ false → list_any (same_text x) ns ≡ false) →
        list_any (same_text x) (n ∷ ns) ≡ false
    at true e later = or_from (same_text x n) (list_any (same_text x) ns) (rw (text_true n name e) k) (rw e at h)
    at false e later =
        let parts = or_parts (same_text x n) (list_any (same_text x) (without_first name ns)) (rw e at h) in
        or_from (same_text x n) (list_any (same_text x) ns) parts.0 (later parts.1)

-- names are distinct where they are so without the first of a name that is not among the others
attributes_distinct : (name : List ℕ) (ns : List (List ℕ)) → list_any (same_text name) (without_first name ns) ≡ false →
    are_distinct (without_first name ns) ≡ true → are_distinct ns ≡ true
attributes_distinct name [] h k = refl
attributes_distinct name (n ∷ ns) h k = at (same_text n name) refl (λ free rest. attributes_distinct name ns free rest)
  where
    at : (b : Bool) → same_text n name ≡ b →
        (list_any (same_text name) (without_first name ns) ≡ false → are_distinct (without_first name ns) ≡ true → are_distinct ns ≡ true) →
        are_distinct (n ∷ ns) ≡ true
    at true e later =
        let free : list_any (same_text name) ns ≡ false = rw e at h in
        let here : list_any (same_text n) ns ≡ false = rw (text_true n name e) free in
        and_from (not (list_any (same_text n) ns)) (are_distinct ns) (not_from_false (list_any (same_text n) ns) here) (rw e at k)
    at false e later =
        let free = or_parts (same_text name n) (list_any (same_text name) (without_first name ns)) (rw e at h) in
        let both = and_parts (not (list_any (same_text n) (without_first name ns))) (are_distinct (without_first name ns)) (rw e at k) in
        let here = without_apart name n ns (not-true (list_any (same_text n) (without_first name ns)) both.0) e in
        and_from (not (list_any (same_text n) ns)) (are_distinct ns) (not_from_false (list_any (same_text n) ns) here)
        (later free.1 both.1)

any_map : {A : Type 0} (test : List ℕ → Bool) (f : A → List ℕ) (xs : List A) → list_any test (map f xs) ≡ false → Each (λ x. test (f x) ≡ false) xs
any_map test f [] h = tt
any_map test f (x ∷ xs) h = let both = or_parts (test (f x)) (list_any test (map f xs)) h in (both.0, any_map test f xs both.1)

named_from : (defs : List AttributeDef) → are_distinct (attribute_names defs) ≡ true → AreNamed defs
named_from [] h = tt
named_from (d ∷ ds) h =
    let both = and_parts (not (list_any (same_text d.name) (attribute_names ds))) (are_distinct (attribute_names ds)) h in
    (any_map (same_text d.name) (λ a. a.name) ds (not-true (list_any (same_text d.name) (attribute_names ds)) both.0), named_from ds both.1)

level_named : (d : LevelDef) → are_distinct (names_of d) ≡ true → AreNamed d.attributes
level_named d h =
    let rest = without_first d.name (attribute_names d.attributes) in
    let both = and_parts (not (list_any (same_text d.name) rest)) (are_distinct rest) h in
    named_from d.attributes (attributes_distinct d.name (attribute_names d.attributes) (not-true (list_any (same_text d.name) rest) both.0) both.1)

pub levels_named : (defs : List LevelDef) → are_distinct (all_names defs) ≡ true → Each (λ (d : LevelDef). AreNamed d.attributes) defs
levels_named [] h = tt
levels_named (d ∷ ds) h = (level_named d (distinct_left (names_of d) (all_names ds) h), levels_named ds (distinct_right (names_of d) (all_names ds) h))

-- the parts of a valid configuration that are needed
pub record IsSound (config : ConfigParts) : Type 0 where
  pub names : are_distinct (all_names config.levels) ≡ true
  pub links : are_apart config.links ≡ true

pub sound : (config : ConfigParts) → is_valid config ≡ true → IsSound config
sound config valid =
    let rules = and_parts (keeps_rules config) (not (leads_round config.links)) valid in
    let three = and_parts (are_within_limits config && are_distinct (all_names config.levels) && list_all (is_in_range (length config.levels)) config.links) (are_apart config.links) rules.0 in
    let two = and_parts (are_within_limits config && are_distinct (all_names config.levels)) (list_all (is_in_range (length config.levels)) config.links) three.0 in
    record {
      names = (and_parts (are_within_limits config) (are_distinct (all_names config.levels)) two.0).1;
      links = three.1;
    }

-- ---- levels

-- a level as its definition asks
pub record IsAs (def : LevelDef) (level : Level) : Type 0 where
  pub kind : level.kind ≡ def.kind
  pub attributes : level.attributes ≡ length def.attributes
  pub named : AreNamed def.attributes
  pub labels : Each (λ (i : Item). length i.labels ≡ length def.attributes) level.items
  pub fitting : list_all (fits_level def.kind (length def.attributes)) level.items ≡ true
  pub ordered : are_in_order def.kind level.items ≡ true

-- the levels, each as its definition asks
abbrev pub AreAs : List LevelDef → List Level → Type 0
AreAs [] [] = Unit {0}
AreAs [] (l ∷ ls) = ⊥
AreAs (d ∷ ds) [] = ⊥
AreAs (d ∷ ds) (l ∷ ls) = IsAs d l × AreAs ds ls

labels_counted : (kind : LevelKind) (n : ℕ) (items : List Item) → list_all (fits_level kind n) items ≡ true → Each (λ (i : Item). length i.labels ≡ n) items
labels_counted kind n [] h = tt
labels_counted kind n (i ∷ is) h =
    let both = and_parts (fits_level kind n i) (list_all (fits_level kind n) is) h in
    let labels = and_parts (fits_kind kind i.time && ends_in_time i.time) (are_labels_for n i.labels) both.0 in
    let count = and_parts (length i.labels == n) (list_all is_short i.labels) labels.1 in
    (eqb-true (length i.labels) n count.0, labels_counted kind n is both.1)

level_as : (d : LevelDef) (l : Level) → form_of l ≡ form_asked d → AreNamed d.attributes → KeepsLevelRule l → IsAs d l
level_as d l form named rule =
    let kind : l.kind ≡ d.kind = ap (λ p. p.0) form in
    let attributes : l.attributes ≡ length d.attributes = ap (λ p. p.1) form in
    let fitting : list_all (fits_level d.kind (length d.attributes)) l.items ≡ true =
    subst (λ k. list_all (fits_level k (length d.attributes)) l.items ≡ true) kind
    (subst (λ n. list_all (fits_level l.kind n) l.items ≡ true) attributes rule.fitting) in
    record {
      kind = kind;
      attributes = attributes;
      named = named;
      labels = labels_counted d.kind (length d.attributes) l.items fitting;
      fitting = fitting;
      ordered = subst (λ k. are_in_order k l.items ≡ true) kind rule.ordered;
    }

firsts : {A : Type 0} (x y : A) (xs ys : List A) → x ∷ xs ≡ y ∷ ys → x ≡ y
firsts x y xs ys same = cc

rests : {A : Type 0} (x y : A) (xs ys : List A) → x ∷ xs ≡ y ∷ ys → xs ≡ ys
rests x y xs ys same = cc

pub levels_as : (defs : List LevelDef) (levels : List Level) → map form_of levels ≡ map form_asked defs → Each (λ (d : LevelDef). AreNamed d.attributes) defs →
    All KeepsLevelRule levels → AreAs defs levels
levels_as [] [] forms named rules = tt
levels_as [] (l ∷ ls) forms named rules = let no : ⊥ = cc in absurd no
levels_as (d ∷ ds) [] forms named rules = let no : ⊥ = cc in absurd no
levels_as (d ∷ ds) (l ∷ ls) forms named rules =
    let first : form_of l ≡ form_asked d = firsts (form_of l) (form_asked d) (map form_of ls) (map form_asked ds) forms in
    let rest : map form_of ls ≡ map form_asked ds = rests (form_of l) (form_asked d) (map form_of ls) (map form_asked ds) forms in
    (level_as d l first named.0 (All-head KeepsLevelRule l ls rules), levels_as ds ls rest named.1 (All-tail KeepsLevelRule l ls rules))
