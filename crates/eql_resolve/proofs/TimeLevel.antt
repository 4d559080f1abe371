-- The level of the times is one that gives the results times.
use Rattle.std.proofs.Common.{◌≡◌, ℕ, ◌<◌, Bool, true, false, cond, ◌&&◌, List, [], ◌∷◌, length, Option, Some, None, Result, Ok, Err, IfOk, IfSome, refl, sym, subst}
use Rattle.std.specs.List.{slice_get, filter, range_with_len}
use Rattle.std.specs.Option.{option_map, option_map_or}
use Rattle.std.proofs.lemmas.Option.{slice_get_within}
use Rattle.emu_names.specs.declared.kinds.LevelKind.{LevelKind}
use Rattle.db_config.specs.declared.parts.LevelDef.{LevelDef}
use Rattle.db_config.specs.declared.parts.ConfigParts.{ConfigParts}
use Rattle.db_config.specs.Above.{is_above}
use Rattle.db_config.specs.Lookups.{level_named}
use Rattle.eql_resolve.specs.declared.faults.AskFault.{AskFault}
use Rattle.eql_resolve.specs.declared.faults.AskFault.TheVariants.{BadTimeLevel}
use Rattle.eql_resolve.specs.Asked.{AskedQuery, result_level}
use Rattle.eql_resolve.specs.Resolve.{is_item_level, is_segment_kind, is_segment_level, gives_times, segments_below, one_alone, time_level, timed}
use Rattle.eql_resolve.specs.Inner.Sound.{IsSound, IsTimeLevel, IsTimeOf, IsResolvedBy}
use Rattle.eql_resolve.specs.Inner.View.{Gives}
use Rattle.eql_resolve.proofs.Choices.{ok_if}

both_of : (a b : Bool) → (a && b) ≡ true → (a ≡ true) × (b ≡ true)
both_of true true are = (refl, refl)
both_of true false are = cc
both_of false b are = cc

within_if : (levels : List LevelDef) (level : ℕ) (test : LevelKind → Bool) (o : Option LevelDef) → slice_get levels level ≡ o → option_map_or test (option_map (λ d. d.kind) o) false ≡ true → level < length levels
within_if levels level test None is passes = cc
within_if levels level test (Some d) is passes = slice_get_within levels level d is

time_of : (c : ConfigParts) (level time : ℕ) → is_item_level c level ≡ true → gives_times c level time ≡ true → IsTimeOf c level time
time_of c level time item gives = record {
  within = within_if c.levels time is_segment_kind (slice_get c.levels time) refl (both_of (is_segment_level c time) (is_above c.links level time) gives).0;
  item = item;
  below = gives;
}

named_if : (c : ConfigParts) (level : ℕ) (o t : Option ℕ) → (is_item_level c level ≡ true) × (option_map_or (gives_times c level) o false ≡ true) → o ≡ t → IfSome t (IsTimeOf c level)
named_if c level None t both is = subst (λ (x : Option ℕ). IfSome x (IsTimeOf c level)) is tt
named_if c level (Some time) t both is =
    subst (λ (x : Option ℕ). IfSome x (IsTimeOf c level)) is (time_of c level time both.0 both.1)

front_if : (p : ℕ → Bool) (b : Bool) (x : ℕ) (xs : List ℕ) (s : ℕ) (rest : List ℕ) → p x ≡ b → cond b (x ∷ xs) xs ≡ s ∷ rest → (xs ≡ s ∷ rest → p s ≡ true) → p s ≡ true
front_if p true x xs s rest passes is later = let same : x ≡ s = cc in subst (λ (y : ℕ). p y ≡ true) same passes
front_if p false x xs s rest passes is later = later is

-- the front of what a filter keeps passes
front_passes : (p : ℕ → Bool) (xs : List ℕ) (s : ℕ) (rest : List ℕ) → filter p xs ≡ s ∷ rest → p s ≡ true
front_passes p [] s rest is = cc
front_passes p (x ∷ xs) s rest is = front_if p (p x) x (filter p xs) s rest refl is (front_passes p xs s rest)

alone_if : (c : ConfigParts) (level : ℕ) (segments : List ℕ) (t : Option ℕ) → is_item_level c level ≡ true → segments_below c level ≡ segments → one_alone segments ≡ Ok t → IfSome t (IsTimeOf c level)
alone_if c level [] t item is alone =
    let none : None ≡ t = cc in subst (λ (x : Option ℕ). IfSome x (IsTimeOf c level)) none tt
alone_if c level (s ∷ []) t item is alone =
    let one : Some s ≡ t = cc in
    subst (λ (x : Option ℕ). IfSome x (IsTimeOf c level)) one (
    time_of c level s item (front_passes (gives_times c level) (range_with_len 0 (length c.levels)) s [] is))
alone_if c level (s ∷ other ∷ others) t item is alone = cc

unnamed_if : (c : ConfigParts) (level : ℕ) (item : Bool) (t : Option ℕ) → is_item_level c level ≡ item → cond item (one_alone (segments_below c level)) (Ok None) ≡ Ok t → IfSome t (IsTimeOf c level)
unnamed_if c level true t is made = alone_if c level (segments_below c level) t is refl made
unnamed_if c level false t is made =
    let none : None ≡ t = cc in subst (λ (x : Option ℕ). IfSome x (IsTimeOf c level)) none tt

-- a level that was found for the times is a SEGMENT level below an ITEM level
pub time_sound : (c : ConfigParts) (level : ℕ) (time : Option (List ℕ)) (t : Option ℕ) → time_level c level time ≡ Ok t → IfSome t (IsTimeOf c level)
time_sound c level (Some name) t is =
    let made = ok_if (is_item_level c level && option_map_or (gives_times c level) (level_named name c.levels) false) (level_named name c.levels) t BadTimeLevel is in
    named_if c level (level_named name c.levels) t (both_of (is_item_level c level) _ made.0) made.1
time_sound c level None t is = unnamed_if c level (is_item_level c level) t refl is

-- the same of an answer
pub time_below : (c : ConfigParts) (level : ℕ) (time : Option (List ℕ)) (r : Result (Option ℕ) AskFault) →
    Gives (λ t. t) r (time_level c level time) → IfOk r (λ t. IfSome t (IsTimeOf c level))
time_below c level time (Ok t) given = time_sound c level time t given
time_below c level time (Err e) given = tt

-- the one SEGMENT level below an ITEM level
pub alone_below : (c : ConfigParts) (level : ℕ) (r : Result (Option ℕ) AskFault) → is_item_level c level ≡ true →
    Gives (λ t. t) r (one_alone (segments_below c level)) → IfOk r (λ t. IfSome t (IsTimeOf c level))
alone_below c level (Ok t) item given = alone_if c level (segments_below c level) t item refl given
alone_below c level (Err e) item given = tt

-- ---- the query with its level of times

pub timed_ok : (c : ConfigParts) (q : AskedQuery) (time : Option (List ℕ)) (level : ℕ) (t : Option ℕ) → level ≡ result_level q → time_level c level time ≡ Ok t → timed c q time ≡ Ok (record { query = q; time = t })
timed_ok c q time level t is found = rw (sym is, found) refl

pub timed_err : (c : ConfigParts) (q : AskedQuery) (time : Option (List ℕ)) (level : ℕ) (e : AskFault) → level ≡ result_level q → time_level c level time ≡ Err e → timed c q time ≡ Err e
timed_err c q time level e is fails = rw (sym is, fails) refl

time_level_if : (c : ConfigParts) (level : ℕ) (t : Option ℕ) → IfSome t (IsTimeOf c level) → IfSome t (IsTimeLevel c)
time_level_if c level None is = tt
time_level_if c level (Some time) is = record {
  within = is.within;
  segment = (both_of (is_segment_level c time) (is_above c.links level time) is.below).0;
}

pub timed_sound : (c : ConfigParts) (q : AskedQuery) (time : Option (List ℕ)) (level : ℕ) (t : Option ℕ) → IsSound c q → time_level c level time ≡ Ok t → IsResolvedBy c (record { query = q; time = t })
timed_sound c q time level t sound found = record {
  within = sound.within;
  one_level = sound.one_level;
  time = time_level_if c level t (time_sound c level time t found);
}

pub timed_below : (c : ConfigParts) (q : AskedQuery) (time : Option (List ℕ)) (level : ℕ) (t : Option ℕ) → level ≡ result_level q → time_level c level time ≡ Ok t → IfSome t (IsTimeOf c (result_level q))
timed_below c q time level t is found =
    subst (λ (l : ℕ). IfSome t (IsTimeOf c l)) is (time_sound c level time t found)
