-- The levels of a bundle by their places in the configuration.
use Rattle.std.proofs.Common.{◌≡◌, ℕ, zero, suc, ◌+◌, ◌<◌, ◌≤◌, List, [], ◌∷◌, ◌++◌, length, map, drop, get_or, max, All, Option, Some, None, add-one, append_assoc, arith, refl, sym, ap, ◌∙◌, subst}
use Rattle.std.specs.Prelude.{option_map}
use Rattle.std.specs.List.{slice_get}
use Rattle.std.proofs.lemmas.List.{length-map}
use Rattle.std.proofs.lemmas.List.Elements.{All-nil, All-cons, All-head, All-tail}
use Rattle.emu_names.specs.declared.limits.TheConstants.{SAMPLES}
use Rattle.emu_names.specs.declared.kinds.LevelKind.{LevelKind}
use Rattle.emu_names.specs.declared.kinds.LevelKind.TheVariants as kinds
use Rattle.level_items.specs.Levels.{Level, KeepsLevelRule}
use Rattle.db_config.specs.declared.parts.LevelDef.{LevelDef}
use Rattle.db_config.specs.declared.parts.ConfigParts.{ConfigParts}
use Rattle.bundle_state.specs.Bundle.{BundleParts}
use Rattle.bundle_state.specs.Built.{FitsConfig, form_of, form_asked}
use Rattle.grid_writing.specs.declared.levels.TimeLevel.{TimeLevel}
use Rattle.grid_writing.specs.Levels.{reach_of, end_of, time_level, where_timed, time_levels, entries_of, is_segments}
use Rattle.grid_writing.specs.Inner.Within.{IsLevelInTime}
use Rattle.grid_writing.proofs.Fitting.{level_can_be_written, entries_in_time}

-- the element at a place, and those behind it
there_suc : {A : Type 0} (xs : List A) (i : ℕ) (x : A) → slice_get xs i ≡ Some x → drop i xs ≡ x ∷ drop (suc i) xs
there_suc [] i x is = cc
there_suc (y ∷ ys) zero x is = let same : y ≡ x = cc in ap (λ z. z ∷ ys) same
there_suc (y ∷ ys) (suc i) x is = there_suc ys i x is

pub there : {A : Type 0} (xs : List A) (i : ℕ) (x : A) → slice_get xs i ≡ Some x → drop i xs ≡ x ∷ drop (i + 1) xs
there xs i x is = there_suc xs i x is ∙ ap (λ n. x ∷ drop n xs) (sym (add-one i))

pub same_count : (config : ConfigParts) (bundle : BundleParts) → FitsConfig config bundle → length bundle.levels ≡ length config.levels
same_count config bundle fits =
    sym (length-map bundle.levels form_of) ∙ ap length fits.levels ∙ length-map config.levels form_asked

kind_at : (levels : List Level) (defs : List LevelDef) (i : ℕ) (l : Level) (d : LevelDef) → map form_of levels ≡ map form_asked defs → slice_get levels i ≡ Some l → slice_get defs i ≡ Some d → l.kind ≡ d.kind
kind_at [] defs i l d same a b = cc
kind_at (m ∷ ms) [] i l d same a b = cc
kind_at (m ∷ ms) (e ∷ es) zero l d same a b =
    let head : form_of m ≡ form_asked e = cc in
    let left : m ≡ l = cc in
    let right : e ≡ d = cc in
    ap (λ x. x.kind) (sym left) ∙ ap (λ p. p.0) head ∙ ap (λ x. x.kind) right
kind_at (m ∷ ms) (e ∷ es) (suc i) l d same a b =
    let rest : map form_of ms ≡ map form_asked es = cc in
    kind_at ms es i l d rest a b

pub kind_there : (config : ConfigParts) (bundle : BundleParts) (i : ℕ) (l : Level) (d : LevelDef) → FitsConfig config bundle → slice_get bundle.levels i ≡ Some l → slice_get config.levels i ≡ Some d → l.kind ≡ d.kind
kind_there config bundle i l d fits a b = kind_at bundle.levels config.levels i l d fits.levels a b

asked_kind : (o : Option LevelDef) (k : LevelKind) → option_map (λ d. d.kind) o ≡ Some k → (d : LevelDef) × ((o ≡ Some d) × (d.kind ≡ k))
asked_kind None k is = absurd cc
asked_kind (Some d) k is = (d, (refl, cc))

pub kind_asked : (config : ConfigParts) (bundle : BundleParts) (i : ℕ) (l : Level) (k : LevelKind) → FitsConfig config bundle → slice_get bundle.levels i ≡ Some l → option_map (λ d. d.kind) (slice_get config.levels i) ≡ Some k → l.kind ≡ k
kind_asked config bundle i l k fits a b =
    let asked = asked_kind (slice_get config.levels i) k b in
    kind_there config bundle i l asked.0 fits a asked.1.0 ∙ asked.1.1

-- no level reaches past the end
pub reach_low : (levels : List Level) (i : ℕ) (l : Level) → slice_get levels i ≡ Some l → reach_of l.kind l.items ≤ end_of levels
reach_low [] i l is = absurd cc
reach_low (m ∷ ms) zero l is =
    let same : m ≡ l = cc in
    subst (λ x. reach_of x.kind x.items ≤ end_of (m ∷ ms)) same (omega arith)
reach_low (m ∷ ms) (suc i) l is =
    let rest = reach_low ms i l is in omega arith

pub end_some : (levels : List Level) → 1 ≤ end_of levels
end_some [] = omega arith
end_some (l ∷ ls) = let rest = end_some ls in omega arith

-- the end so far
pub end_more : (i : ℕ) (levels : List Level) (l : Level) (kind : LevelKind) (old new all : ℕ) → slice_get levels i ≡ Some l → l.kind ≡ kind → new ≡ max (reach_of kind l.items) old → max old (end_of (drop i levels)) ≡ all → max new (end_of (drop (i + 1) levels)) ≡ all
end_more i levels l kind old new all is same grown before =
    let whole : max old (end_of (l ∷ drop (i + 1) levels)) ≡ all = ap (λ ys. max old (end_of ys)) (sym (there levels i l is)) ∙ before in
    let own : new ≡ max (reach_of l.kind l.items) old = grown ∙ ap (λ k. max (reach_of k l.items) old) (sym same) in
    omega (arith, own, whole)

-- the levels so far
timed_before : (kind : LevelKind) (l : TimeLevel) (rest : List TimeLevel) → where_timed kind l [] ++ rest ≡ where_timed kind l rest
timed_before kinds.Item l rest = refl
timed_before kinds.Segment l rest = refl
timed_before kinds.Event l rest = refl

pub levels_more : (end i : ℕ) (defs : List LevelDef) (levels : List Level) (d : LevelDef) (l : Level) (old new all : List TimeLevel) → slice_get defs i ≡ Some d → slice_get levels i ≡ Some l → new ≡ old ++ where_timed l.kind (time_level end d.name l) [] → old ++ time_levels end (drop i defs) (drop i levels) ≡ all → new ++ time_levels end (drop (i + 1) defs) (drop (i + 1) levels) ≡ all
levels_more end i defs levels d l old new all a b put before =
    let rest : List TimeLevel = time_levels end (drop (i + 1) defs) (drop (i + 1) levels) in
    ap (λ ys. ys ++ rest) put ∙ append_assoc old (where_timed l.kind (time_level end d.name l) []) rest
    ∙ ap (λ ys. old ++ ys) (timed_before l.kind (time_level end d.name l) rest)
    ∙ ap (λ ys. old ++ time_levels end ys (l ∷ drop (i + 1) levels)) (sym (there defs i d a))
    ∙ ap (λ ys. old ++ time_levels end (drop i defs) ys) (sym (there levels i l b)) ∙ before

-- their entries are over in time
in_time_with : (kind : LevelKind) (l : TimeLevel) (ls : List TimeLevel) → IsLevelInTime l → All IsLevelInTime ls → All IsLevelInTime (where_timed kind l ls)
in_time_with kinds.Item l ls own rest = rest
in_time_with kinds.Segment l ls own rest = All-cons IsLevelInTime l ls own rest
in_time_with kinds.Event l ls own rest = All-cons IsLevelInTime l ls own rest

pub levels_in_time : (end : ℕ) (defs : List LevelDef) (levels : List Level) → end ≤ SAMPLES → All KeepsLevelRule levels → end_of levels ≤ end → All IsLevelInTime (time_levels end defs levels)
levels_in_time end [] levels within rules low = All-nil IsLevelInTime
levels_in_time end (def ∷ defs) [] within rules low = All-nil IsLevelInTime
levels_in_time end (def ∷ defs) (l ∷ ls) within rules low =
    in_time_with l.kind (time_level end def.name l) (time_levels end defs ls)
    (entries_in_time (is_segments l.kind) end (entries_of l.kind end l.items) within (level_can_be_written end l (All-head KeepsLevelRule l ls rules) (omega arith)))
    (levels_in_time end defs ls within (All-tail KeepsLevelRule l ls rules) (omega arith))

pub end_begins : (levels : List Level) → max 1 (end_of levels) ≡ end_of levels
end_begins levels = let some = end_some levels in omega arith
