-- A configuration to which something is added has names and lists as they have to be.
use Rattle.std.proofs.Common.{◌≡◌, ℕ, zero, suc, ◌+◌, Bool, true, false, ◌&&◌, cond, List, [], ◌∷◌, ◌++◌, length, nat_le, refl, sym, ap, ◌∙◌, Option, Some, None, Result, Ok, Err, ok_or, arith}
use Rattle.std.specs.List.{list_all, list_any, slice_get, slice_set}
use Rattle.std.specs.Option.{option_and_then, option_map}
use Rattle.std.proofs.lemmas.Bool.{and_parts, and_from}
use Rattle.std.proofs.lemmas.Bool.Decides.{nat_tests}
use Rattle.std.proofs.lemmas.List.{length-append}
use Rattle.std.proofs.lemmas.List.Folds.{list_all-append}
use Rattle.emu_names.specs.Name.{is_name}
use Rattle.emu_names.specs.Steps.{onward}
use Rattle.emu_names.specs.declared.kinds.LinkKind.{LinkKind}
use Rattle.emu_names.specs.declared.limits.TheConstants.{LEVELS, ATTRIBUTES, LINK_DEFINITIONS}
use Rattle.emu_names.specs.declared.rules.Broken.{Broken}
use Rattle.emu_names.specs.declared.rules.Broken.TheVariants as rules
use Rattle.emu_names.specs.declared.rules.What.TheVariants as counted
use Rattle.db_config.specs.declared.attributes.AttributeDef.{AttributeDef}
use Rattle.db_config.specs.declared.parts.ConfigParts.{ConfigParts}
use Rattle.db_config.specs.declared.parts.LevelDef.{LevelDef}
use Rattle.db_config.specs.Above.{leads_round}
use Rattle.config_additions.specs.Added.{unless_double, level_added, new_names, with_attribute, level_with, attribute_put, attribute_added, definition_of, definition_between, unless_round, definition_added, end_named}
use Rattle.db_config.specs.Lookups.{level_named}
use Rattle.db_config.specs.Made.{is_attribute, are_attributes, is_level, are_levels, are_groups, is_made}
use Rattle.db_config.specs.Names.{names_of, all_names, first_double}
use Rattle.db_config.specs.Valid.{same_levels, is_valid, is_config}
use Rattle.config_additions.proofs.Grown.{level_valid, attribute_valid, definition_valid}
use Rattle.config_laws.specs.Laws.{LevelsMakeConfigs, AttributesMakeConfigs, DefinitionsMakeConfigs}

-- ---- what lets a change pass

passed_double : (found : Option (List ℕ)) (c next : ConfigParts) → unless_double found c ≡ Ok next → c ≡ next
passed_double None c next is = cc
passed_double (Some name) c next is = absurd cc

passed_test : {A : Type 0} (test : Bool) (rule : Broken) (rest : Result A Broken) (next : A) → cond test (Err rule) rest ≡ Ok next →
    (test ≡ false) × (rest ≡ Ok next)
passed_test true rule rest next is = absurd cc
passed_test false rule rest next is = (refl, is)

passed_onward : {A B : Type 0} (first : Result A Broken) (second : A → Result B Broken) (next : B) → onward first second ≡ Ok next →
    (x : A) × ((first ≡ Ok x) × (second x ≡ Ok next))
passed_onward (Ok x) second next is = (x, (refl, is))
passed_onward (Err rule) second next is = absurd cc

passed_look : {A : Type 0} (found : Option A) (rule : Broken) (x : A) → ok_or found rule ≡ Ok x → found ≡ Some x
passed_look None rule x is = absurd cc
passed_look (Some y) rule x is = let same : y ≡ x = cc in ap Some same

-- ---- lists

-- all of a list with one more element
all_behind : {A : Type 0} (p : A → Bool) (xs : List A) (x : A) → list_all p xs ≡ true → p x ≡ true → list_all p (xs ++ x ∷ []) ≡ true
all_behind p xs x all own = list_all-append p xs (x ∷ []) ∙ and_from _ _ all (and_from _ _ own refl)

-- the element at a place
all_at : {A : Type 0} (p : A → Bool) (xs : List A) (i : ℕ) (x : A) → list_all p xs ≡ true → slice_get xs i ≡ Some x → p x ≡ true
all_at p [] i x all is = absurd cc
all_at p (y ∷ ys) zero x all is =
    let same : y ≡ x = cc in ap p (sym same) ∙ (and_parts (p y) (list_all p ys) all).0
all_at p (y ∷ ys) (suc i) x all is = all_at p ys i x (and_parts (p y) (list_all p ys) all).1 is

-- all of a list in which one element is another
all_put : {A : Type 0} (p : A → Bool) (xs : List A) (i : ℕ) (x : A) → list_all p xs ≡ true → p x ≡ true → list_all p (slice_set xs i x) ≡ true
all_put p [] i x all own = refl
all_put p (y ∷ ys) zero x all own = and_from _ _ own (and_parts (p y) (list_all p ys) all).1
all_put p (y ∷ ys) (suc i) x all own =
    let parts = and_parts (p y) (list_all p ys) all in
    and_from _ _ parts.0 (all_put p ys i x parts.1 own)

-- the level that a name finds stands at its number
abbrev numbered : ℕ → LevelDef → ℕ × LevelDef
numbered n d = (n, d)

there_with : (name : List ℕ) (levels : List LevelDef) (number : ℕ) (def : LevelDef) → level_with name levels ≡ Some (number, def) →
    slice_get levels number ≡ Some def
there_with name levels number def is = by_number (level_named name levels) is
  where
    by_def : (n : ℕ) (found : Option LevelDef) → found ≡ slice_get levels n → option_map (numbered n) found ≡ Some (number, def) →
        slice_get levels number ≡ Some def
    by_def n None same h = absurd cc
    by_def n (Some d) same h =
        let pair : ◌≡◌ {A = ℕ × LevelDef} (numbered n d) (numbered number def) = cc in
        let first : n ≡ number = ap (λ (p : ℕ × LevelDef). p.0) pair in
        let second : d ≡ def = ap (λ (p : ℕ × LevelDef). p.1) pair in
        ap (slice_get levels) (sym first) ∙ sym same ∙ ap Some second

    by_number : (found : Option ℕ) → option_and_then (λ n. option_map (numbered n) (slice_get levels n)) found ≡ Some (number, def) →
        slice_get levels number ≡ Some def
    by_number None h = absurd cc
    by_number (Some n) h = by_def n (slice_get levels n) refl h

-- ---- a level with one attribute more

one_more : (n most : ℕ) → nat_le 1 n ≡ true → nat_le most n ≡ false → (nat_le 1 (n + 1) ≡ true) × (nat_le (n + 1) most ≡ true)
one_more n most some room = (grind (arith, nat_tests), grind (arith, nat_tests))

level_more : (attribute : AttributeDef) (def : LevelDef) → is_attribute attribute ≡ true → is_level def ≡ true →
    nat_le ATTRIBUTES (length def.attributes) ≡ false → is_level (with_attribute attribute def) ≡ true
level_more attribute def own is room =
    let level = and_parts (is_name def.name) (are_attributes def.attributes) is in
    let all = and_parts (nat_le 1 (length def.attributes) && nat_le (length def.attributes) ATTRIBUTES) (list_all is_attribute def.attributes) level.1 in
    let counts = and_parts (nat_le 1 (length def.attributes)) (nat_le (length def.attributes) ATTRIBUTES) all.0 in
    let size = length-append def.attributes (attribute ∷ []) in
    let more = one_more (length def.attributes) ATTRIBUTES counts.0 room in
    and_from _ _ level.0
    (and_from _ _
    (and_from _ _ (ap (nat_le 1) size ∙ more.0) (ap (λ n. nat_le n ATTRIBUTES) size ∙ more.1))
    (all_behind is_attribute def.attributes attribute all.1 own))

-- ---- names and lists

-- the parts of a configuration one by one
record AreMade (c : ConfigParts) : Type 0 where
  name : is_name c.name ≡ true
  levels : are_levels c.levels ≡ true
  groups : are_groups c.groups ≡ true

made_parts : (c : ConfigParts) → is_made c ≡ true → AreMade c
made_parts c made =
    let last = and_parts (is_name c.name && are_levels c.levels) (are_groups c.groups) made in
    let first = and_parts (is_name c.name) (are_levels c.levels) last.0 in
    record { name = first.0; levels = first.1; groups = last.1 }

parts_made : (c : ConfigParts) → AreMade c → is_made c ≡ true
parts_made c made = and_from _ _ (and_from _ _ made.name made.levels) made.groups

-- other levels leave the name and the label groups as they are
levels_made : (c : ConfigParts) (levels : List LevelDef) → is_made c ≡ true → are_levels levels ≡ true → is_made (record c { levels = levels }) ≡ true
levels_made c levels made own =
    let parts = made_parts c made in
    parts_made (record c { levels = levels }) (record { name = parts.name; levels = own; groups = parts.groups })

level_made : (def : LevelDef) (c next : ConfigParts) → is_level def ≡ true → is_made c ≡ true → level_added def c ≡ Ok next → is_made next ≡ true
level_made def c next own made is =
    let wide = record c { levels = c.levels ++ def ∷ [] } in
    let room = passed_test (nat_le LEVELS (length c.levels)) (rules.TooMany counted.Levels) _ next is in
    let same = passed_double (first_double (all_names c.levels) (names_of def)) wide next room.1 in
    ap is_made (sym same)
    ∙ levels_made c (c.levels ++ def ∷ []) made (all_behind is_level c.levels def (made_parts c made).levels own)

attribute_made : (level : List ℕ) (attribute : AttributeDef) (c next : ConfigParts) → is_attribute attribute ≡ true → is_made c ≡ true →
    attribute_added level attribute c ≡ Ok next → is_made next ≡ true
attribute_made level attribute c next own made is =
    let found = passed_onward (ok_or (level_with level c.levels) (rules.NoLevel level)) (attribute_put attribute c) next is in
    let number = found.0.0 in
    let def = found.0.1 in
    let there = there_with level c.levels number def (passed_look _ (rules.NoLevel level) found.0 found.1.0) in
    let levels = slice_set c.levels number (with_attribute attribute def) in
    let room = passed_test (nat_le ATTRIBUTES (length def.attributes)) (rules.TooMany counted.Attributes) _ next found.1.1 in
    let same = passed_double (first_double (all_names c.levels) (new_names def attribute.name)) (record c { levels = levels }) next room.1 in
    let old = (made_parts c made).levels in
    let grown = level_more attribute def own (all_at is_level c.levels number def old there) room.0 in
    ap is_made (sym same) ∙ levels_made c levels made (all_put is_level c.levels number (with_attribute attribute def) old grown)

definition_made : (kind : LinkKind) (upper lower : List ℕ) (c next : ConfigParts) → is_made c ≡ true → definition_added kind upper lower c ≡ Ok next →
    is_made next ≡ true
definition_made kind upper lower c next made is =
    let found = passed_onward (definition_between kind upper lower c) unless_round next is in
    let round = passed_test (leads_round found.0.links) rules.LevelCycle (Ok found.0) next found.1.1 in
    let first = passed_onward (end_named upper c) _ found.0 found.1.0 in
    let second = passed_onward (end_named lower c) _ found.0 first.1.1 in
    let def = definition_of kind first.0 second.0 in
    let more = record c { links = c.links ++ def ∷ [] } in
    let room = passed_test (nat_le LINK_DEFINITIONS (length c.links)) (rules.TooMany counted.LinkDefinitions) _ found.0 second.1.1 in
    let fresh = passed_test (list_any (same_levels def) c.links) rules.DoubleLink (Ok more) found.0 room.1 in
    let put : more ≡ found.0 = cc (fresh.1) in
    let same : found.0 ≡ next = cc (round.1) in
    ap is_made (sym (put ∙ same)) ∙ made

-- ---- the laws

-- a change that keeps both halves makes configurations
both_kept : (before after : ConfigParts) → is_config before ≡ true →
    (is_made before ≡ true → is_made after ≡ true) → (is_valid before ≡ true → is_valid after ≡ true) → is_config after ≡ true
both_kept before after is made valid =
    let halves = and_parts (is_made before) (is_valid before) is in
    and_from _ _ (made halves.0) (valid halves.1)

pub levels_make : LevelsMakeConfigs
levels_make def own before after is change =
    both_kept before after is
    (λ made. level_made def before after own made change)
    (λ valid. level_valid def before after valid change)

pub attributes_make : AttributesMakeConfigs
attributes_make level attribute own before after is change =
    both_kept before after is
    (λ made. attribute_made level attribute before after own made change)
    (λ valid. attribute_valid level attribute before after valid change)

pub definitions_make : DefinitionsMakeConfigs
definitions_make kind upper lower before after is change =
    both_kept before after is
    (λ made. definition_made kind upper lower before after made change)
    (λ valid. definition_valid kind upper lower before after valid change)
