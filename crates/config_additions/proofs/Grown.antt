-- A configuration to which something is added keeps the rules, and extends the old one.
use Rattle.std.proofs.Common.{◌≡◌, ℕ, zero, suc, ◌<◌, ◌≤◌, Bool, true, false, not, ◌&&◌, ◌||◌, cond, List, [], ◌∷◌, ◌++◌, length, take, drop, nat_le, nat_lt, refl, sym, ap, subst, ◌∙◌, Option, Some, None, is_none, Result, Ok, Err, ok_or, arith}
use Rattle.std.specs.List.{list_any, list_all, slice_get, slice_set}
use Rattle.std.specs.Option.{option_or, option_and_then, option_map}
use Rattle.std.proofs.lemmas.Bool.{and_parts, and_from, or_parts, or_from, not-true, not_from_false}
use Rattle.std.proofs.lemmas.Bool.Decides.{nat_tests}
use Rattle.std.proofs.lemmas.Cmp.{nat_list_eq_equiv}
use Rattle.std.proofs.lemmas.List.{append-nil, append_assoc, map-append, length-append, length-set}
use Rattle.std.proofs.lemmas.List.Folds.{list_any-append, list_all-append}
use Rattle.std.proofs.lemmas.Grind.{flat_map-append}
use Rattle.std.proofs.lemmas.List.Quantifiers.{position-Some}
use Rattle.std.specs.Cmp.Lexicographic.{same_text as text_is}
use Rattle.emu_names.specs.declared.kinds.LevelKind.TheVariants as kinds
use Rattle.emu_names.specs.declared.limits.TheConstants.{LEVELS, ATTRIBUTES, LINK_DEFINITIONS, TRACKS}
use Rattle.emu_names.specs.declared.kinds.LinkKind.{LinkKind}
use Rattle.emu_names.specs.declared.rules.Broken.{Broken}
use Rattle.emu_names.specs.declared.rules.Broken.TheVariants as rules
use Rattle.emu_names.specs.declared.rules.What.TheVariants as counted
use Rattle.emu_names.specs.declared.rules.Fault.{Fault}
use Rattle.emu_names.specs.declared.rules.Fault.TheVariants as faults
use Rattle.emu_names.specs.Inner.Gives.{IsFaultOf, broken_in}
use Rattle.emu_names.specs.Steps.{onward}
use Rattle.emu_names.specs.Texts.{same_text}
use Rattle.db_config.specs.declared.attributes.AttributeDef.{AttributeDef}
use Rattle.db_config.specs.declared.parts.LevelDef.{LevelDef}
use Rattle.db_config.specs.declared.parts.LinkDef.{LinkDef}
use Rattle.db_config.specs.declared.parts.ConfigParts.{ConfigParts}
use Rattle.db_config.specs.Names.{attribute_names, without_first, names_of, all_names, first_double, are_distinct}
use Rattle.db_config.specs.Lookups.{level_named}
use Rattle.db_config.specs.Above.{leads_round}
use Rattle.db_config.specs.Valid.{are_within_limits, is_in_range, same_levels, are_apart, keeps_rules, is_valid}
use Rattle.db_config.specs.Extends.{Begins, ExtendsLevel, ExtendLevels, Extends}
use Rattle.config_additions.specs.Added.{unless_double, level_added, has_attribute, new_names, with_attribute, level_with, attribute_put, attribute_added, definition_of, definition_between, unless_round, definition_added, end_named}
use Rattle.config_additions.specs.Laws.{AdditionsKeepRules, AdditionsExtend}
use Rattle.db_config.proofs.Doubles.{doubles_found, no_double}

-- ---- lists

-- a list about one of its elements
around : {A : Type 0} (xs : List A) (i : ℕ) (x : A) → slice_get xs i ≡ Some x → take i xs ++ x ∷ drop (suc i) xs ≡ xs
around [] i x is = absurd cc
around (y ∷ ys) zero x is = let same : y ≡ x = cc in ap (λ z. z ∷ ys) (sym same)
around (y ∷ ys) (suc i) x is = ap (λ zs. y ∷ zs) (around ys i x is)

set_around : {A : Type 0} (xs : List A) (i : ℕ) (x y : A) → slice_get xs i ≡ Some x → slice_set xs i y ≡ take i xs ++ y ∷ drop (suc i) xs
set_around [] i x y is = absurd cc
set_around (z ∷ zs) zero x y is = refl
set_around (z ∷ zs) (suc i) x y is = ap (λ us. z ∷ us) (set_around zs i x y is)

-- ---- names

-- the names of two lists together
double_split : (seen xs ys : List (List ℕ)) → first_double seen (xs ++ ys) ≡ option_or (first_double seen xs) (first_double (seen ++ xs) ys)
double_split seen [] ys = ap (λ zs. first_double zs ys) (sym (append-nil seen))
double_split seen (x ∷ xs) ys = by_test (list_any (same_text x) seen) (double_split (seen ++ x ∷ []) xs ys)
  where
    by_test : (b : Bool) →
        first_double (seen ++ x ∷ []) (xs ++ ys) ≡ option_or (first_double (seen ++ x ∷ []) xs) (first_double ((seen ++ x ∷ []) ++ xs) ys) →
        cond b (Some x) (first_double (seen ++ x ∷ []) (xs ++ ys))
        ≡ option_or (cond b (Some x) (first_double (seen ++ x ∷ []) xs)) (first_double (seen ++ x ∷ xs) ys)
    by_test true rest = refl
    by_test false rest = rest ∙ ap (λ zs. option_or (first_double (seen ++ x ∷ []) xs) (first_double zs ys)) (append_assoc seen (x ∷ []) xs)

none_is : (o : Option (List ℕ)) → is_none o ≡ true → o ≡ None
none_is None h = refl
none_is (Some x) h = absurd cc

-- names behind others, of which none stands earlier
distinct_behind : (xs ys : List (List ℕ)) → are_distinct xs ≡ true → first_double xs ys ≡ None → are_distinct (xs ++ ys) ≡ true
distinct_behind xs ys apart fresh =
    let first = none_is (first_double [] xs) (doubles_found xs ∙ apart) in
    no_double (xs ++ ys) (first_double [] (xs ++ ys)) refl
    (double_split [] xs ys ∙ ap (λ o. option_or o (first_double xs ys)) first ∙ fresh)

any_middle : {A : Type 0} (p : A → Bool) (xs : List A) (y : A) (ys : List A) → list_any p (xs ++ y ∷ ys) ≡ (p y || list_any p (xs ++ ys))
any_middle p [] y ys = refl
any_middle p (x ∷ xs) y ys = ap (λ b. p x || b) (any_middle p xs y ys) ∙ swap (p x) (p y) (list_any p (xs ++ ys))
  where
    swap : (a b c : Bool) → (a || (b || c)) ≡ (b || (a || c))
    swap true true c = refl
    swap true false c = refl
    swap false true c = refl
    swap false false c = refl

-- a name among others, of which none is it
distinct_among : (xs : List (List ℕ)) (n : List ℕ) (ys : List (List ℕ)) →
    are_distinct (xs ++ ys) ≡ true → list_any (same_text n) (xs ++ ys) ≡ false → are_distinct (xs ++ n ∷ ys) ≡ true
distinct_among [] n ys apart fresh = and_from _ _ (not_from_false _ fresh) apart
distinct_among (x ∷ xs) n ys apart fresh =
    let parts = and_parts (not (list_any (same_text x) (xs ++ ys))) (are_distinct (xs ++ ys)) apart in
    let news = or_parts (same_text n x) (list_any (same_text n) (xs ++ ys)) fresh in
    let other : same_text x n ≡ false = nat_list_eq_equiv.symm x n ∙ news.0 in
    let away : list_any (same_text x) (xs ++ n ∷ ys) ≡ false =
    any_middle (same_text x) xs n ys ∙ or_from _ _ other (not-true _ parts.0) in
    and_from _ _ (not_from_false _ away) (distinct_among xs n ys parts.1 news.1)

-- ---- the names of a level with one attribute more

without_there : (n : List ℕ) (xs ys : List (List ℕ)) → list_any (λ x. same_text x n) xs ≡ true → without_first n (xs ++ ys) ≡ without_first n xs ++ ys
without_there n [] ys there = absurd cc
without_there n (x ∷ xs) ys there = by_test (same_text x n) (without_there n xs ys) there
  where
    by_test : (b : Bool) → (list_any (λ y. same_text y n) xs ≡ true → without_first n (xs ++ ys) ≡ without_first n xs ++ ys) →
        (b || list_any (λ y. same_text y n) xs) ≡ true →
        cond b (xs ++ ys) (x ∷ without_first n (xs ++ ys)) ≡ cond b xs (x ∷ without_first n xs) ++ ys
    by_test true rest h = refl
    by_test false rest h = ap (λ zs. x ∷ zs) (rest h)

without_none : (n : List ℕ) (xs ys : List (List ℕ)) → list_any (λ x. same_text x n) xs ≡ false → without_first n (xs ++ ys) ≡ xs ++ without_first n ys
without_none n [] ys none = refl
without_none n (x ∷ xs) ys none = by_test (same_text x n) (without_none n xs ys) none
  where
    by_test : (b : Bool) → (list_any (λ y. same_text y n) xs ≡ false → without_first n (xs ++ ys) ≡ xs ++ without_first n ys) →
        (b || list_any (λ y. same_text y n) xs) ≡ false →
        cond b (xs ++ ys) (x ∷ without_first n (xs ++ ys)) ≡ x ∷ (xs ++ without_first n ys)
    by_test true rest h = absurd cc
    by_test false rest h = ap (λ zs. x ∷ zs) (rest h)

any_names : (n : List ℕ) (defs : List AttributeDef) → list_any (λ x. same_text x n) (attribute_names defs) ≡ list_any (λ a. same_text a.name n) defs
any_names n [] = refl
any_names n (d ∷ defs) = ap (λ b. same_text d.name n || b) (any_names n defs)

names_more : (def : LevelDef) (attribute : AttributeDef) →
    names_of (with_attribute attribute def) ≡ names_of def ++ new_names def attribute.name
names_more def attribute =
    ap (λ ns. def.name ∷ without_first def.name ns) (map-append (λ a. a.name) def.attributes (attribute ∷ []))
    ∙ ap (λ ns. def.name ∷ ns) (by_own (list_any (λ x. same_text x def.name) names) (same_text def.name attribute.name) refl refl)
  where
    names : List (List ℕ)
    names = attribute_names def.attributes

    without_all : list_any (λ x. same_text x def.name) names ≡ false → without_first def.name names ≡ names
    without_all none = ap (without_first def.name) (sym (append-nil names)) ∙ without_none def.name names [] none ∙ append-nil names

    -- an attribute has the level's name, which is the new one's
    had : same_text def.name attribute.name ≡ true → has_attribute attribute.name def ≡ list_any (λ x. same_text x def.name) names
    had same = sym (any_names attribute.name def.attributes) ∙ ap (λ n. list_any (λ x. same_text x n) names) (sym (text_is def.name attribute.name (sym same)))

    by_own : (there same : Bool) → list_any (λ x. same_text x def.name) names ≡ there → same_text def.name attribute.name ≡ same →
        without_first def.name (names ++ attribute.name ∷ []) ≡ without_first def.name names ++ cond (same && not (has_attribute attribute.name def)) [] (attribute.name ∷ [])
    by_own true true there same =
        without_there def.name names (attribute.name ∷ []) there
        ∙ ap (λ b. without_first def.name names ++ cond (not b) [] (attribute.name ∷ [])) (sym (had same ∙ there))
    by_own true false there same = without_there def.name names (attribute.name ∷ []) there
    by_own false true there same =
        without_none def.name names (attribute.name ∷ []) there
        ∙ ap (λ b. names ++ cond b [] (attribute.name ∷ [])) (nat_list_eq_equiv.symm attribute.name def.name ∙ same)
        ∙ ap (λ ns. ns ++ []) (sym (without_all there))
        ∙ ap (λ b. without_first def.name names ++ cond (not b) [] (attribute.name ∷ [])) (sym (had same ∙ there))
    by_own false false there same =
        without_none def.name names (attribute.name ∷ []) there
        ∙ ap (λ b. names ++ cond b [] (attribute.name ∷ [])) (nat_list_eq_equiv.symm attribute.name def.name ∙ same)
        ∙ ap (λ ns. ns ++ attribute.name ∷ []) (sym (without_all there))

-- ---- a level in the middle

module _ (levels : List LevelDef) (number : ℕ) (def next : LevelDef) (there : slice_get levels number ≡ Some def) where
  parted : all_names levels ≡ all_names (take number levels) ++ (names_of def ++ all_names (drop (suc number) levels))
  parted =
      ap all_names (sym (around levels number def there))
      ∙ flat_map-append names_of (take number levels) (def ∷ drop (suc number) levels)

  parted_next : all_names (slice_set levels number next) ≡ all_names (take number levels) ++ (names_of next ++ all_names (drop (suc number) levels))
  parted_next =
      ap all_names (set_around levels number def next there)
      ∙ flat_map-append names_of (take number levels) (next ∷ drop (suc number) levels)

  -- the names stay distinct where those of the level in the middle grow by one that is new, or by none
  distinct_at : (new : List (List ℕ)) (n : List ℕ) (b : Bool) → new ≡ cond b [] (n ∷ []) → names_of next ≡ names_of def ++ new →
      are_distinct (all_names levels) ≡ true → first_double (all_names levels) new ≡ None → are_distinct (all_names (slice_set levels number next)) ≡ true
  distinct_at new n true is more apart fresh =
      ap are_distinct (parted_next ∙ ap (λ ns. all_names (take number levels) ++ (ns ++ all_names (drop (suc number) levels))) (more ∙ ap (λ ns. names_of def ++ ns) is ∙ append-nil (names_of def)) ∙ sym parted)
      ∙ apart
  distinct_at new n false is more apart fresh =
      let front = all_names (take number levels) in
      let behind = all_names (drop (suc number) levels) in
      let inside = append_assoc (names_of def) (n ∷ []) behind in
      let whole : all_names (slice_set levels number next) ≡ (front ++ names_of def) ++ n ∷ behind =
      parted_next
      ∙ ap (λ ns. front ++ (ns ++ behind)) (more ∙ ap (λ ns. names_of def ++ ns) is)
      ∙ ap (λ ns. front ++ ns) inside
      ∙ sym (append_assoc front (names_of def) (n ∷ behind)) in
      let old : all_names levels ≡ (front ++ names_of def) ++ behind = parted ∙ sym (append_assoc front (names_of def) behind) in
      ap are_distinct whole
      ∙ distinct_among (front ++ names_of def) n behind (ap are_distinct (sym old) ∙ apart)
      (ap (list_any (same_text n)) (sym old) ∙ not_there (list_any (same_text n) (all_names levels)) (ap (first_double (all_names levels)) (sym is) ∙ fresh))
    where
      not_there : (b : Bool) → cond b (Some n) None ≡ None → b ≡ false
      not_there true h = absurd cc
      not_there false h = refl

-- ---- link definitions

range_grows : (few many : ℕ) (defs : List LinkDef) → few ≤ many → list_all (is_in_range few) defs ≡ true → list_all (is_in_range many) defs ≡ true
range_grows few many [] within all = refl
range_grows few many (d ∷ defs) within all =
    let parts = and_parts (is_in_range few d) (list_all (is_in_range few) defs) all in
    let ends = and_parts (nat_lt d.upper few) (nat_lt d.lower few) parts.0 in
    and_from _ _ (and_from _ _ (more d.upper ends.0) (more d.lower ends.1)) (range_grows few many defs within parts.1)
  where
    more : (n : ℕ) → nat_lt n few ≡ true → nat_lt n many ≡ true
    more n h = grind (arith, nat_tests)

same_levels_flip : (d e : LinkDef) → same_levels d e ≡ same_levels e d
same_levels_flip d e = grind (arith, nat_tests)

apart_more : (defs : List LinkDef) (def : LinkDef) → are_apart defs ≡ true → list_any (same_levels def) defs ≡ false → are_apart (defs ++ def ∷ []) ≡ true
apart_more [] def apart fresh = refl
apart_more (d ∷ defs) def apart fresh =
    let parts = and_parts (not (list_any (same_levels d) defs)) (are_apart defs) apart in
    let news = or_parts (same_levels def d) (list_any (same_levels def) defs) fresh in
    let away : list_any (same_levels d) (defs ++ def ∷ []) ≡ false =
    list_any-append (same_levels d) defs (def ∷ [])
    ∙ or_from _ _ (not-true _ parts.0) (or_from _ _ (same_levels_flip d def ∙ news.0) refl) in
    and_from _ _ (not_from_false _ away) (apart_more defs def parts.1 news.1)

-- ---- rules

-- the rules of a configuration but for paths, one by one
pub record Keeps (c : ConfigParts) : Type 0 where
  pub levels : length c.levels ≤ LEVELS
  pub links : length c.links ≤ LINK_DEFINITIONS
  pub tracks : nat_le (length c.tracks) TRACKS ≡ true
  pub distinct : are_distinct (all_names c.levels) ≡ true
  pub range : list_all (is_in_range (length c.levels)) c.links ≡ true
  pub apart : are_apart c.links ≡ true

within_is : (n most : ℕ) → nat_le n most ≡ true → n ≤ most
within_is n most h = grind (arith, nat_tests)

is_within : (n most : ℕ) → n ≤ most → nat_le n most ≡ true
is_within n most h = grind (arith, nat_tests)

room_is : (n most : ℕ) → nat_le most n ≡ false → n < most
room_is n most h = grind (arith, nat_tests)

pub kept_parts : (c : ConfigParts) → keeps_rules c ≡ true → Keeps c
kept_parts c keeps =
    let last = and_parts (are_within_limits c && are_distinct (all_names c.levels) && list_all (is_in_range (length c.levels)) c.links) (are_apart c.links) keeps in
    let third = and_parts (are_within_limits c && are_distinct (all_names c.levels)) (list_all (is_in_range (length c.levels)) c.links) last.0 in
    let second = and_parts (are_within_limits c) (are_distinct (all_names c.levels)) third.0 in
    let limits = and_parts (nat_le (length c.levels) LEVELS && nat_le (length c.links) LINK_DEFINITIONS) (nat_le (length c.tracks) TRACKS) second.0 in
    let first = and_parts (nat_le (length c.levels) LEVELS) (nat_le (length c.links) LINK_DEFINITIONS) limits.0 in
    record {
      levels = within_is _ _ first.0;
      links = within_is _ _ first.1;
      tracks = limits.1;
      distinct = second.1;
      range = third.1;
      apart = last.1;
    }

pub parts_kept : (c : ConfigParts) → Keeps c → keeps_rules c ≡ true
parts_kept c keeps =
    and_from _ _ (and_from _ _ (and_from _ _ (and_from _ _ (and_from _ _ (is_within _ _ keeps.levels) (is_within _ _ keeps.links)) keeps.tracks) keeps.distinct) keeps.range) keeps.apart

-- what a test of room and of doubles lets pass
passed_double : (found : Option (List ℕ)) (c next : ConfigParts) → unless_double found c ≡ Ok next → (found ≡ None) × (c ≡ next)
passed_double None c next is = (refl, cc)
passed_double (Some name) c next is = absurd cc

passed_room : {A : Type 0} (full : Bool) (rule : Broken) (rest : Result A Broken) (next : A) → cond full (Err rule) rest ≡ Ok next → (full ≡ false) × (rest ≡ Ok next)
passed_room true rule rest next is = absurd cc
passed_room false rule rest next is = (refl, is)

passed_onward : {A B : Type 0} (first : Result A Broken) (second : A → Result B Broken) (next : B) → onward first second ≡ Ok next → (x : A) × ((first ≡ Ok x) × (second x ≡ Ok next))
passed_onward (Ok x) second next is = (x, (refl, is))
passed_onward (Err rule) second next is = absurd cc

passed_lookup : {A : Type 0} (found : Option A) (rule : Broken) (x : A) → ok_or found rule ≡ Ok x → found ≡ Some x
passed_lookup None rule x is = absurd cc
passed_lookup (Some y) rule x is = let same : y ≡ x = cc in ap Some same

-- a level is added
pub level_keeps : (def : LevelDef) (c next : ConfigParts) → keeps_rules c ≡ true → level_added def c ≡ Ok next → (keeps_rules next ≡ true) × (next.links ≡ c.links)
level_keeps def c next keeps is =
    let room = passed_room (nat_le LEVELS (length c.levels)) (rules.TooMany counted.Levels) _ next is in
    let fresh = passed_double (first_double (all_names c.levels) (names_of def)) (record c { levels = c.levels ++ def ∷ [] }) next room.1 in
    let parts = kept_parts c keeps in
    let free = room_is _ _ room.0 in
    let size = length-append c.levels (def ∷ []) in
    let names : all_names (c.levels ++ def ∷ []) ≡ all_names c.levels ++ names_of def =
    flat_map-append names_of c.levels (def ∷ []) ∙ ap (λ ns. all_names c.levels ++ ns) (append-nil (names_of def)) in
    let made : Keeps (record c { levels = c.levels ++ def ∷ [] }) = record {
      levels = omega arith;
      links = parts.links;
      tracks = parts.tracks;
      distinct = ap are_distinct names ∙ distinct_behind (all_names c.levels) (names_of def) parts.distinct fresh.0;
      range = range_grows (length c.levels) (length (c.levels ++ def ∷ [])) c.links (omega arith) parts.range;
      apart = parts.apart;
    } in
    (ap keeps_rules (sym fresh.1) ∙ parts_kept (record c { levels = c.levels ++ def ∷ [] }) made, sym (ap (λ (x : ConfigParts). x.links) fresh.1))

-- an attribute is added
abbrev numbered : ℕ → LevelDef → ℕ × LevelDef
numbered n d = (n, d)

there_with : (name : List ℕ) (levels : List LevelDef) (number : ℕ) (def : LevelDef) → level_with name levels ≡ Some (number, def) → slice_get levels number ≡ Some def
there_with name levels number def is = by_number (level_named name levels) is
  where
    by_def : (n : ℕ) (found : Option LevelDef) → found ≡ slice_get levels n → option_map (numbered n) found ≡ Some (number, def) → slice_get levels number ≡ Some def
    by_def n None same h = absurd cc
    by_def n (Some d) same h =
        let pair : ◌≡◌ {A = ℕ × LevelDef} (numbered n d) (numbered number def) = cc in
        let first : n ≡ number = ap (λ (p : ℕ × LevelDef). p.0) pair in
        let second : d ≡ def = ap (λ (p : ℕ × LevelDef). p.1) pair in
        ap (slice_get levels) (sym first) ∙ sym same ∙ ap Some second

    by_number : (found : Option ℕ) → option_and_then (λ n. option_map (numbered n) (slice_get levels n)) found ≡ Some (number, def) → slice_get levels number ≡ Some def
    by_number None h = absurd cc
    by_number (Some n) h = by_def n (slice_get levels n) refl h

pub attribute_keeps : (attribute : AttributeDef) (c next : ConfigParts) (number : ℕ) (def : LevelDef) → slice_get c.levels number ≡ Some def →
    keeps_rules c ≡ true → attribute_put attribute c (number, def) ≡ Ok next → (keeps_rules next ≡ true) × (next.links ≡ c.links)
attribute_keeps attribute c next number def there keeps is =
    let wide = record c { levels = slice_set c.levels number (with_attribute attribute def) } in
    let room = passed_room (nat_le ATTRIBUTES (length def.attributes)) (rules.TooMany counted.Attributes) _ next is in
    let fresh = passed_double (first_double (all_names c.levels) (new_names def attribute.name)) wide next room.1 in
    let parts = kept_parts c keeps in
    let size = length-set c.levels number (with_attribute attribute def) in
    let made : Keeps wide = record {
      levels = subst (λ n. n ≤ LEVELS) (sym size) parts.levels;
      links = parts.links;
      tracks = parts.tracks;
      distinct = distinct_at c.levels number def (with_attribute attribute def) there (new_names def attribute.name) attribute.name
          (same_text def.name attribute.name && not (has_attribute attribute.name def)) refl (names_more def attribute) parts.distinct fresh.0;
      range = ap (λ n. list_all (is_in_range n) c.links) size ∙ parts.range;
      apart = parts.apart;
    } in
    (ap keeps_rules (sym fresh.1) ∙ parts_kept wide made, sym (ap (λ (x : ConfigParts). x.links) fresh.1))

-- a link definition is added
named_within : (name : List ℕ) (levels : List LevelDef) (number : ℕ) → level_named name levels ≡ Some number → number < length levels
named_within name levels number is = (position-Some (λ (d : LevelDef). same_text d.name name) levels number no_level is).0
  where
    no_level : LevelDef
    no_level = record { name = []; kind = kinds.Item; attributes = [] }

pub definition_keeps : (kind : LinkKind) (upper lower : List ℕ) (c next : ConfigParts) → keeps_rules c ≡ true → definition_between kind upper lower c ≡ Ok next →
    keeps_rules next ≡ true
definition_keeps kind upper lower c next keeps is =
    let first = passed_onward (end_named upper c) _ next is in
    let second = passed_onward (end_named lower c) _ next first.1.1 in
    let from = named_within upper c.levels first.0 (passed_lookup _ (rules.UnknownLevel upper) first.0 first.1.0) in
    let to = named_within lower c.levels second.0 (passed_lookup _ (rules.UnknownLevel lower) second.0 second.1.0) in
    let def = definition_of kind first.0 second.0 in
    let more = record c { links = c.links ++ def ∷ [] } in
    let room = passed_room (nat_le LINK_DEFINITIONS (length c.links)) (rules.TooMany counted.LinkDefinitions) _ next second.1.1 in
    let fresh = passed_room (list_any (same_levels def) c.links) rules.DoubleLink (Ok more) next room.1 in
    let same : more ≡ next = cc (fresh.1) in
    let parts = kept_parts c keeps in
    let free = room_is _ _ room.0 in
    let size = length-append c.links (def ∷ []) in
    let ends : is_in_range (length c.levels) def ≡ true = and_from _ _ (is_below first.0 (length c.levels) from) (is_below second.0 (length c.levels) to) in
    let made : Keeps more = record {
      levels = parts.levels;
      links = omega arith;
      tracks = parts.tracks;
      distinct = parts.distinct;
      range = list_all-append (is_in_range (length c.levels)) c.links (def ∷ []) ∙ and_from _ _ parts.range (and_from _ _ ends refl);
      apart = apart_more c.links def parts.apart fresh.0;
    } in
    ap keeps_rules (sym same) ∙ parts_kept more made
  where
    is_below : (n most : ℕ) → n < most → nat_lt n most ≡ true
    is_below n most h = grind (arith, nat_tests)

-- ---- laws

valid_of : (before after : ConfigParts) → is_valid before ≡ true → (keeps_rules before ≡ true → (keeps_rules after ≡ true) × (after.links ≡ before.links)) → is_valid after ≡ true
valid_of before after valid keeps =
    let parts = and_parts (keeps_rules before) (not (leads_round before.links)) valid in
    let now = keeps parts.0 in
    and_from _ _ now.0 (ap (λ ls. not (leads_round ls)) now.1 ∙ parts.1)

pub level_valid : (def : LevelDef) → AdditionsKeepRules (level_added def)
level_valid def before after valid is = valid_of before after valid (λ keeps. level_keeps def before after keeps is)

pub attribute_valid : (level : List ℕ) (attribute : AttributeDef) → AdditionsKeepRules (attribute_added level attribute)
attribute_valid level attribute before after valid is =
    let found = passed_onward (ok_or (level_with level before.levels) (rules.NoLevel level)) (attribute_put attribute before) after is in
    let there = there_with level before.levels found.0.0 found.0.1 (passed_lookup _ (rules.NoLevel level) found.0 found.1.0) in
    valid_of before after valid (λ keeps. attribute_keeps attribute before after found.0.0 found.0.1 there keeps found.1.1)

pub definition_valid : (kind : LinkKind) (upper lower : List ℕ) → AdditionsKeepRules (definition_added kind upper lower)
definition_valid kind upper lower before after valid is =
    let found = passed_onward (definition_between kind upper lower before) unless_round after is in
    let round = passed_room (leads_round found.0.links) rules.LevelCycle (Ok found.0) after found.1.1 in
    let same : found.0 ≡ after = cc (round.1) in
    let parts = and_parts (keeps_rules before) (not (leads_round before.links)) valid in
    ap is_valid (sym same) ∙ and_from _ _ (definition_keeps kind upper lower before found.0 parts.0 found.1.0) (not_from_false _ round.0)

-- ---- what was there stays

begins_self : {A : Type 0} (xs : List A) → Begins xs xs
begins_self xs = ([], sym (append-nil xs))

extends_self : (d : LevelDef) → ExtendsLevel d d
extends_self d = record { name = refl; kind = refl; attributes = begins_self d.attributes }

levels_self : (levels more : List LevelDef) → ExtendLevels levels (levels ++ more)
levels_self [] more = tt
levels_self (d ∷ levels) more = (extends_self d, levels_self levels more)

levels_set : (levels : List LevelDef) (number : ℕ) (def next : LevelDef) → slice_get levels number ≡ Some def → ExtendsLevel def next → ExtendLevels levels (slice_set levels number next)
levels_set [] number def next there more = absurd cc
levels_set (d ∷ levels) zero def next there more =
    let same : d ≡ def = cc in
    (subst (λ x. ExtendsLevel x next) (sym same) more, subst (ExtendLevels levels) (append-nil levels) (levels_self levels []))
levels_set (d ∷ levels) (suc number) def next there more = (extends_self d, levels_set levels number def next there more)

extends_levels : (c : ConfigParts) (levels : List LevelDef) → ExtendLevels c.levels levels → Extends c (record c { levels = levels })
extends_levels c levels more = record {
  name = refl;
  uuid = refl;
  extension = refl;
  tracks = refl;
  groups = refl;
  levels = more;
  links = begins_self c.links;
}

pub level_extends : (def : LevelDef) → AdditionsExtend (level_added def)
level_extends def before after is =
    let room = passed_room (nat_le LEVELS (length before.levels)) (rules.TooMany counted.Levels) _ after is in
    let fresh = passed_double (first_double (all_names before.levels) (names_of def)) (record before { levels = before.levels ++ def ∷ [] }) after room.1 in
    subst (Extends before) fresh.1 (extends_levels before (before.levels ++ def ∷ []) (levels_self before.levels (def ∷ [])))

pub attribute_extends : (level : List ℕ) (attribute : AttributeDef) → AdditionsExtend (attribute_added level attribute)
attribute_extends level attribute before after is =
    let found = passed_onward (ok_or (level_with level before.levels) (rules.NoLevel level)) (attribute_put attribute before) after is in
    let there = there_with level before.levels found.0.0 found.0.1 (passed_lookup _ (rules.NoLevel level) found.0 found.1.0) in
    let def = found.0.1 in
    let wide = slice_set before.levels found.0.0 (with_attribute attribute def) in
    let room = passed_room (nat_le ATTRIBUTES (length def.attributes)) (rules.TooMany counted.Attributes) _ after found.1.1 in
    let fresh = passed_double (first_double (all_names before.levels) (new_names def attribute.name)) (record before { levels = wide }) after room.1 in
    subst (Extends before) fresh.1
    (extends_levels before wide
    (levels_set before.levels found.0.0 def (with_attribute attribute def) there (record { name = refl; kind = refl; attributes = (attribute ∷ [], refl) })))

pub definition_extends : (kind : LinkKind) (upper lower : List ℕ) → AdditionsExtend (definition_added kind upper lower)
definition_extends kind upper lower before after is =
    let found = passed_onward (definition_between kind upper lower before) unless_round after is in
    let round = passed_room (leads_round found.0.links) rules.LevelCycle (Ok found.0) after found.1.1 in
    let same : found.0 ≡ after = cc (round.1) in
    let first = passed_onward (end_named upper before) _ found.0 found.1.0 in
    let second = passed_onward (end_named lower before) _ found.0 first.1.1 in
    let def = definition_of kind first.0 second.0 in
    let more = record before { links = before.links ++ def ∷ [] } in
    let room = passed_room (nat_le LINK_DEFINITIONS (length before.links)) (rules.TooMany counted.LinkDefinitions) _ found.0 second.1.1 in
    let fresh = passed_room (list_any (same_levels def) before.links) rules.DoubleLink (Ok more) found.0 room.1 in
    let put : more ≡ found.0 = cc (fresh.1) in
    subst (Extends before) (put ∙ same)
    (record {
      name = refl;
      uuid = refl;
      extension = refl;
      tracks = refl;
      groups = refl;
      levels = subst (ExtendLevels before.levels) (append-nil before.levels) (levels_self before.levels []);
      links = (def ∷ [], refl);
    })

-- ---- the same, for the calls

pub level_valid_by : (def : LevelDef) (before after : ConfigParts) → is_valid before ≡ true → level_added def before ≡ Ok after → is_valid after ≡ true
level_valid_by def before after valid is = level_valid def before after valid is

pub attribute_valid_by : (level : List ℕ) (attribute : AttributeDef) (before after : ConfigParts) → is_valid before ≡ true → attribute_added level attribute before ≡ Ok after → is_valid after ≡ true
attribute_valid_by level attribute before after valid is = attribute_valid level attribute before after valid is

pub between_keeps : (kind : LinkKind) (upper lower : List ℕ) (before after : ConfigParts) → is_valid before ≡ true → definition_between kind upper lower before ≡ Ok after → keeps_rules after ≡ true
between_keeps kind upper lower before after valid is =
    definition_keeps kind upper lower before after (and_parts (keeps_rules before) (not (leads_round before.links)) valid).0 is

pub added_sound : (kind : LinkKind) (upper lower : List ℕ) (before after made : ConfigParts) → definition_between kind upper lower before ≡ Ok after → leads_round after.links ≡ false → made ≡ after →
    definition_added kind upper lower before ≡ Ok made
added_sound kind upper lower before after made is sound same =
    ap (λ r. onward r unless_round) is ∙ ap (λ b. cond b (Err rules.LevelCycle) (Ok after)) sound ∙ ap (λ c. Ok c) (sym same)

pub added_round : (kind : LinkKind) (upper lower : List ℕ) (before after : ConfigParts) → definition_between kind upper lower before ≡ Ok after → leads_round after.links ≡ true →
    definition_added kind upper lower before ≡ Err rules.LevelCycle
added_round kind upper lower before after is round = ap (λ r. onward r unless_round) is ∙ ap (λ b. cond b (Err rules.LevelCycle) (Ok after)) round

pub added_refused : (kind : LinkKind) (upper lower : List ℕ) (before : ConfigParts) (fault : Fault) → IsFaultOf (broken_in fault) (definition_between kind upper lower before) →
    IsFaultOf (broken_in fault) (definition_added kind upper lower before)
added_refused kind upper lower before (faults.Broken rule) is = ap (λ r. onward r unless_round) is
added_refused kind upper lower before faults.Memory is = tt

-- an attribute that is the first to share its level's name takes no name
pub shares_none : (seen : List (List ℕ)) (def : LevelDef) (name : List ℕ) → true ≡ (same_text def.name name && not (has_attribute name def)) → None ≡ first_double seen (new_names def name)
shares_none seen def name is = ap (λ b. first_double seen (cond b [] (name ∷ []))) is

pub one_double : (seen : List (List ℕ)) (def : LevelDef) (name made : List ℕ) → false ≡ (same_text def.name name && not (has_attribute name def)) → true ≡ list_any (same_text name) seen → made ≡ name →
    Some made ≡ first_double seen (new_names def name)
one_double seen def name made own is same =
    ap (λ n. Some n) same ∙ ap (λ b. cond b (Some name) None) is ∙ ap (λ b. first_double seen (cond b [] (name ∷ []))) own

pub one_fresh : (seen : List (List ℕ)) (def : LevelDef) (name : List ℕ) → false ≡ (same_text def.name name && not (has_attribute name def)) → false ≡ list_any (same_text name) seen →
    None ≡ first_double seen (new_names def name)
one_fresh seen def name own is = ap (λ b. cond b (Some name) None) is ∙ ap (λ b. first_double seen (cond b [] (name ∷ []))) own
