-- A configuration that was read keeps the rules of configurations.
use Rattle.std.proofs.Common.{◌≡◌, ◌+◌, ◌<◌, ◌≤◌, ℕ, suc, Bool, true, false, cond, List, [], ◌∷◌, length, Option, Some, None, Result, Ok, Err, nat_lt, codes, refl, sym, ◌∙◌, ap, subst, arith}
use Rattle.std.specs.Prelude.{is_some, ok_or, ◌&&◌, not}
use Rattle.std.specs.List.{list_all}
use Rattle.std.proofs.lemmas.Bool.{and_from}
use Rattle.std.proofs.lemmas.Bool.Decides.{nat_tests}
use Rattle.std.proofs.lemmas.List.Quantifiers.{position-Some}
use Rattle.serde_json.specs.Data.{Data}
use Rattle.serde_json.specs.Find.{as_array}
use Rattle.json_view.specs.declared.wants.Wanted.TheVariants as wanted
use Rattle.json_view.specs.Seen.{Seen, seen}
use Rattle.json_view.specs.Paths.{element_path}
use Rattle.json_view.specs.Parts.{shape, member_of, optional_of, elements_at, list_in}
use Rattle.json_view.specs.Lists.{readings, each_from}
use Rattle.json_view.specs.Steps.{◌>>=◌, with_front}
use Rattle.emu_names.specs.declared.limits.TheConstants.{LEVELS, LINK_DEFINITIONS, TRACKS}
use Rattle.config_json.specs.declared.faults.ConfigFault.{ConfigFault}
use Rattle.config_json.specs.declared.faults.ConfigFault.TheVariants.{TooMany, UnknownLevel, DoubleLink, LevelCycle}
use Rattle.config_json.specs.declared.faults.ConfigWhat.{ConfigWhat}
use Rattle.config_json.specs.declared.faults.ConfigWhat.TheVariants as whats
use Rattle.db_config.specs.declared.parts.LevelDef.{LevelDef}
use Rattle.db_config.specs.declared.parts.LinkDef.{LinkDef}
use Rattle.db_config.specs.declared.parts.ConfigParts.{ConfigParts}
use Rattle.config_json.specs.Faults.{form}
use Rattle.config_json.specs.Forms.{object_of, name_at, optional_text}
use Rattle.db_config.specs.Names.{all_names, are_distinct, first_double}
use Rattle.emu_names.specs.Texts.{same_text}
use Rattle.db_config.specs.Lookups.{level_named}
use Rattle.db_config.specs.Above.{leads_round}
use Rattle.db_config.specs.Valid.{is_in_range, are_apart, keeps_rules, is_valid}
use Rattle.config_json.specs.Read.{limited, track_in, level_in, link_in, tracks_member, listed_tracks, tracks_or_none, levels_member, listed_levels, links_member, listed_links, links_or_none, groups_member, named_parts, unless_double, level_of_name, placed, all_placed, parts_with, unless_cycle, sound_links, linked_parts, sound_parts, config_of}
use Rattle.config_json.specs.Inner.Read.{AreBounded}
use Rattle.db_config.proofs.Doubles.{no_double}
use Rattle.config_json.proofs.Sound.{kept_rules}
use Rattle.script_lines.proofs.Taken.{taken, config_form_ok, config_same, ok_config}

-- ---- limits

front_length : {A : Type 0} (x : A) (rest : Result (List A) ConfigFault) (n : ℕ) (xs : List A) → ((ys : List A) → rest ≡ Ok ys → length ys ≡ n)
    → with_front (x ∷ []) rest ≡ Ok xs → length xs ≡ suc n
front_length x (Ok ys) n xs known told = ap length (sym (config_same (x ∷ ys) xs told)) ∙ ap suc (known ys refl)
front_length x (Err e) n xs known told = absurd (cc)

readings_length : {A : Type 0} (read : Seen → Result A ConfigFault) (path : List ℕ) (place : ℕ) (ds : List Data) (xs : List A)
    → readings read path place ds ≡ Ok xs → length xs ≡ length ds
readings_length read path place [] xs told = ap length (sym (config_same [] xs told))
readings_length read path place (d ∷ ds) xs told =
    let first : _ = taken (read (seen d (element_path path place))) (λ x. with_front (x ∷ []) (readings read path (place + 1) ds)) xs told in
    front_length first.value (readings read path (place + 1) ds) (length ds) xs (readings_length read path (place + 1) ds) first.rest_is

each_length : {A : Type 0} (read : Seen → Result A ConfigFault) (s : Seen) (xs : List A) → each_from read 0 s ≡ Ok xs → length xs ≡ length (list_in s.value)
unfolding each_from
each_length read s xs told = readings_length read s.path 0 (list_in s.value) xs told

elements_are : (s : Seen) (b : Bool) (ds : List Data) → cond b (Ok (list_in s.value)) (Err (shape s.path wanted.List)) ≡ Ok ds → list_in s.value ≡ ds
elements_are s true ds told = cc
elements_are s false ds told = absurd (cc)

listed : (s : Seen) (ds : List Data) → elements_at s ≡ Ok ds → list_in s.value ≡ ds
unfolding elements_at
listed s ds told = elements_are s (is_some (as_array s.value)) ds told

within : {A : Type 0} (what : ConfigWhat) (most n : ℕ) (b : Bool) (r : Result (List A) ConfigFault) (xs : List A) → nat_lt most n ≡ b
    → ((ys : List A) → r ≡ Ok ys → length ys ≡ n) → cond b (Err (TooMany what)) r ≡ Ok xs → length xs ≤ most
within what most n true r xs is counted told = absurd (cc)
within what most n false r xs is counted told =
    let same : length xs ≡ n = counted xs told in
    grind (arith, nat_tests)

limited_most : {A : Type 0} (what : ConfigWhat) (most : ℕ) (read : Seen → Result A ConfigFault) (s : Seen) (ds : List Data) (xs : List A)
    → list_in s.value ≡ ds → limited what most read s ds ≡ Ok xs → length xs ≤ most
limited_most what most read s ds xs same told =
    within what most (length ds) (nat_lt most (length ds)) (each_from read 0 s) xs refl
    (λ ys is. each_length read s ys is ∙ ap length same) told

listed_most : {A : Type 0} (what : ConfigWhat) (most : ℕ) (read : Seen → Result A ConfigFault) (s : Seen) (xs : List A)
    → (form (elements_at s) >>= limited what most read s) ≡ Ok xs → length xs ≤ most
listed_most what most read s xs told =
    let list : _ = taken (form (elements_at s)) (limited what most read s) xs told in
    limited_most what most read s list.value xs (listed s list.value (config_form_ok (elements_at s) list.value list.first_is)) list.rest_is

levels_most : (s : Seen) (xs : List LevelDef) → levels_member s ≡ Ok xs → length xs ≤ LEVELS
unfolding levels_member listed_levels
levels_most s xs told =
    let member : _ = taken (form (member_of (codes "levelDefinitions") wanted.List s)) listed_levels xs told in
    listed_most whats.Levels LEVELS level_in member.value xs member.rest_is

some_links_most : (m : Option Seen) (xs : List _) → links_or_none m ≡ Ok xs → length xs ≤ LINK_DEFINITIONS
unfolding listed_links
some_links_most None xs told = let none : length xs ≡ 0 = ap length (sym (config_same [] xs told)) in omega arith
some_links_most (Some m) xs told = listed_most whats.Links LINK_DEFINITIONS link_in m xs told

links_most : (s : Seen) (xs : List _) → links_member s ≡ Ok xs → length xs ≤ LINK_DEFINITIONS
unfolding links_member
links_most s xs told =
    let member : _ = taken (form (optional_of (codes "linkDefinitions") s)) links_or_none xs told in
    some_links_most member.value xs member.rest_is

some_tracks_most : (m : Option Seen) (xs : List (List ℕ)) → tracks_or_none m ≡ Ok xs → length xs ≤ TRACKS
unfolding listed_tracks
some_tracks_most None xs told = let none : length xs ≡ 0 = ap length (sym (config_same [] xs told)) in omega arith
some_tracks_most (Some m) xs told = listed_most whats.Tracks TRACKS track_in m xs told

tracks_most : (s : Seen) (xs : List (List ℕ)) → tracks_member s ≡ Ok xs → length xs ≤ TRACKS
unfolding tracks_member
tracks_most s xs told =
    let member : _ = taken (form (optional_of (codes "ssffTrackDefinitions") s)) tracks_or_none xs told in
    some_tracks_most member.value xs member.rest_is

parts_bounded : (s : Seen) (n : _) → named_parts s ≡ Ok n → AreBounded n
unfolding named_parts
parts_bounded s n told =
    let whole : _ = taken (form (object_of s)) _ n told in
    let name : _ = taken (form (name_at (codes "name") s)) _ n whole.rest_is in
    let uuid : _ = taken (form (optional_text (codes "UUID") s)) _ n name.rest_is in
    let extension : _ = taken (form (optional_text (codes "mediafileExtension") s)) _ n uuid.rest_is in
    let tracks : _ = taken (tracks_member s) _ n extension.rest_is in
    let levels : _ = taken (levels_member s) _ n tracks.rest_is in
    let links : _ = taken (links_member s) _ n levels.rest_is in
    let groups : _ = taken (groups_member s) _ n links.rest_is in
    subst (λ m. AreBounded m) (config_same _ n groups.rest_is)
    (record {
      levels = levels_most s levels.value levels.first_is;
      links = links_most s links.value links.first_is;
      tracks = tracks_most s tracks.value tracks.first_is;
    })

-- ---- link definitions by numbers

some_there : (found : Option ℕ) (e : ConfigFault) (k : ℕ) → ok_or found e ≡ Ok k → found ≡ Some k
some_there (Some n) e k told = cc
some_there None e k told = absurd (cc)

level_there : (levels : List LevelDef) (name : List ℕ) (k : ℕ) → level_of_name levels name ≡ Ok k → k < length levels
level_there [] name k told = absurd (cc)
level_there (l ∷ levels) name k told =
    (position-Some (λ (d : LevelDef). same_text d.name name) (l ∷ levels) k l (some_there (level_named name (l ∷ levels)) (UnknownLevel name) k told)).0

below_both : (upper lower count : ℕ) → upper < count → lower < count → (nat_lt upper count && nat_lt lower count) ≡ true
below_both upper lower count high low = grind (arith, nat_tests)

link_there : (levels : List LevelDef) (link : _) (def : LinkDef) → placed levels link ≡ Ok def → is_in_range (length levels) def ≡ true
link_there levels link def told =
    let upper : _ = taken (level_of_name levels link.upper) _ def told in
    let lower : _ = taken (level_of_name levels link.lower) _ def upper.rest_is in
    subst (λ d. is_in_range (length levels) d ≡ true) (config_same _ def lower.rest_is)
    (below_both upper.value lower.value (length levels) (level_there levels link.upper upper.value upper.first_is) (level_there levels link.lower lower.value lower.first_is))

-- the definitions name levels that are there, and are so many
record AreThere (levels : List LevelDef) (count : ℕ) (defs : List LinkDef) : Type 0 where
  range : list_all (is_in_range (length levels)) defs ≡ true
  counted : length defs ≡ count

one_there : (levels : List LevelDef) (count : ℕ) (def : LinkDef) (rest : Result (List LinkDef) ConfigFault) (defs : List LinkDef)
    → is_in_range (length levels) def ≡ true → ((ds : List LinkDef) → rest ≡ Ok ds → AreThere levels count ds)
    → with_front (def ∷ []) rest ≡ Ok defs → AreThere levels (suc count) defs
one_there levels count def (Ok ds) defs first others told =
    let before : AreThere levels count ds = others ds refl in
    subst (λ xs. AreThere levels (suc count) xs) (config_same (def ∷ ds) defs told)
    (record { range = and_from _ _ first before.range; counted = ap suc before.counted })
one_there levels count def (Err e) defs first others told = absurd (cc)

all_there : (levels : List LevelDef) (links : List _) (defs : List LinkDef) → all_placed levels links ≡ Ok defs → AreThere levels (length links) defs
all_there levels [] defs told = subst (λ xs. AreThere levels 0 xs) (config_same [] defs told) (record { range = refl; counted = refl })
all_there levels (link ∷ links) defs told =
    let first : _ = taken (placed levels link) (λ def. with_front (def ∷ []) (all_placed levels links)) defs told in
    one_there levels (length links) first.value (all_placed levels links) defs (link_there levels link first.value first.first_is) (all_there levels links) first.rest_is

-- ---- rules

-- nothing stands twice, and the rest is the answer
record Passed (found : Option (List ℕ)) (rest : Result ConfigParts ConfigFault) (p : ConfigParts) : Type 0 where
  none : found ≡ None
  goes_on : rest ≡ Ok p

passed : (found : Option (List ℕ)) (rest : Result ConfigParts ConfigFault) (p : ConfigParts) → unless_double found rest ≡ Ok p → Passed found rest p
passed None rest p told = record { none = refl; goes_on = told }
passed (Some name) rest p told = absurd (cc)

not_round : (parts p : ConfigParts) (round : Bool) → leads_round parts.links ≡ round → keeps_rules parts ≡ true
    → cond round (Err LevelCycle) (ok_config parts) ≡ Ok p → is_valid p ≡ true
not_round parts p true is kept told = absurd (cc)
not_round parts p false is kept told =
    subst (λ q. is_valid q ≡ true) (config_same parts p told) (and_from _ _ kept (ap not is))

apart_valid : (n : _) (links : List LinkDef) (p : ConfigParts) (apart : Bool) → are_apart links ≡ apart
    → AreBounded n → are_distinct (all_names n.levels) ≡ true → AreThere n.levels (length n.links) links
    → cond apart (unless_cycle (parts_with n links)) (Err DoubleLink) ≡ Ok p → is_valid p ≡ true
apart_valid n links p false is bounds distinct there told = absurd (cc)
apart_valid n links p true is bounds distinct there told =
    not_round (parts_with n links) p (leads_round links) refl
    (kept_rules n links bounds distinct there.range there.counted is) told

sound_valid : (n : _) (p : ConfigParts) → AreBounded n → sound_parts n ≡ Ok p → is_valid p ≡ true
unfolding sound_parts
sound_valid n p bounds told =
    let names : _ = passed (first_double [] (all_names n.levels)) (linked_parts n) p told in
    let links : _ = taken (all_placed n.levels n.links) (sound_links n) p names.goes_on in
    apart_valid n links.value p (are_apart links.value) refl bounds
    (no_double (all_names n.levels) (first_double [] (all_names n.levels)) refl names.none)
    (all_there n.levels n.links links.value links.first_is) links.rest_is

-- a configuration that was read is valid
pub config_valid : (s : Seen) (p : ConfigParts) → config_of s ≡ Ok p → is_valid p ≡ true
unfolding config_of
config_valid s p told =
    let parts : _ = taken (named_parts s) sound_parts p told in
    sound_valid parts.value p (parts_bounded s parts.value parts.first_is) parts.rest_is
