-- The levels of a bundle come back.
use Rattle.std.proofs.Common.{◌≡◌, ℕ, zero, suc, ◌+◌, ◌<◌, ◌≤◌, Bool, true, false, cond, ltb, not, ◌&&◌, nat_le, List, [], ◌∷◌, ◌++◌, length, take, drop, map, All, IsTrue, Option, Some, None, Result, Ok, Err, refl, sym, ap, ◌∙◌, subst, arith}
use Rattle.std.specs.Prelude.{IfOk}
use Rattle.std.specs.List.{list_all}
use Rattle.std.specs.Str.{IsUtf8}
use Rattle.std.specs.Str.Lossy.{utf8_valid_len}
use Rattle.std.proofs.lemmas.Bool.Decides.{nat_tests}
use Rattle.std.proofs.lemmas.Bool.{and_parts, leb-true}
use Rattle.std.proofs.lemmas.List.Elements.{All-nil, All-cons, All-head, All-tail}
use Rattle.std.proofs.lemmas.Str.{utf8_valid_len-IsUtf8}
use Rattle.emu_names.specs.declared.limits.TheConstants.{GRID_ENTRIES, LEVELS, LINK_DEFINITIONS, TRACKS, SAMPLES, TOP_RATE}
use Rattle.emu_names.specs.declared.kinds.LevelKind.{LevelKind}
use Rattle.emu_names.specs.declared.kinds.LevelKind.TheVariants as kinds
use Rattle.level_items.specs.declared.items.Item.{Item}
use Rattle.level_items.specs.Levels.{Level, KeepsLevelRule}
use Rattle.db_config.specs.declared.parts.LevelDef.{LevelDef}
use Rattle.db_config.specs.declared.parts.ConfigParts.{ConfigParts}
use Rattle.db_config.specs.Above.{leads_round}
use Rattle.db_config.specs.Names.{all_names, are_distinct}
use Rattle.db_config.specs.Valid.{are_within_limits, is_in_range, are_apart, keeps_rules, is_valid}
use Rattle.bundle_state.specs.Bundle.{BundleParts}
use Rattle.bundle_state.specs.Faults.{is_rate}
use Rattle.bundle_state.specs.Valid.{KeepsBundleRules}
use Rattle.sample_time.specs.Inner.Printed.{TimesReadBack, CountsReadBack}
use Rattle.textgrid.specs.declared.fault.GridFault.{GridFault}
use Rattle.textgrid.specs.Encodings.{mark_of, utf8_of, text_of}
use Rattle.textgrid.specs.Grids.{grid_of_decoded, grid_of_text, grid_of}
use Rattle.grid_writing.specs.declared.levels.TimeLevel.{TimeLevel}
use Rattle.grid_writing.specs.declared.write.WriteFault.{WriteFault}
use Rattle.grid_writing.specs.declared.write.WriteFault.TheVariants.{TooManyEntries, Memory}
use Rattle.grid_writing.specs.Filled.{filled, IsFilled}
use Rattle.grid_writing.specs.Levels.{reach, reach_of, end_of, entries_of, is_segments, time_level, where_timed, time_levels}
use Rattle.grid_writing.specs.Layout.{grid_text, line}
use Rattle.grid_writing.specs.Written.{written_levels, crowded, unless_crowded, written}
use Rattle.grid_writing.specs.Inner.Answers.{Writes}
use Rattle.grid_writing.specs.Back.{IsFilledList, IsFilledLevel, ComesBack}
use Rattle.grid_writing.specs.Inner.Within.{IsLevelInTime}
use Rattle.grid_writing.proofs.TokenLines.{AreTimesIn, CanBeWritten}
use Rattle.grid_writing.proofs.Fitting.{level_can_be_written, end_is_in_time, level_is_filled}
use Rattle.grid_writing.proofs.ReadAgain.{WrittenIsRead, grids_come_back}

-- no level has too many entries
abbrev AreFew : List TimeLevel → Type 0
AreFew [] = Unit {0}
AreFew (l ∷ ls) = (length l.entries ≤ GRID_ENTRIES) × AreFew ls

few_if : (b : Bool) (l : TimeLevel) (ls : List TimeLevel) → ltb GRID_ENTRIES (length l.entries) ≡ b → cond b (Some l.name) (crowded ls) ≡ None → (crowded ls ≡ None → AreFew ls) → AreFew (l ∷ ls)
few_if true l ls test is rest = absurd cc
few_if false l ls test is rest = (grind (arith, nat_tests), rest is)

few : (ls : List TimeLevel) → crowded ls ≡ None → AreFew ls
few [] is = tt
few (l ∷ ls) is = few_if (ltb GRID_ENTRIES (length l.entries)) l ls refl is (few ls)

can_with : (kind : LevelKind) (end : ℕ) (l : TimeLevel) (ls : List TimeLevel) → AreTimesIn l.segments end l.entries → AreFew (where_timed kind l ls) → (AreFew ls → CanBeWritten end ls) → CanBeWritten end (where_timed kind l ls)
can_with kinds.Item end l ls times few rest = rest few
can_with kinds.Segment end l ls times few rest = (times, few.0, rest few.1)
can_with kinds.Event end l ls times few rest = (times, few.0, rest few.1)

can_all : (end : ℕ) (defs : List LevelDef) (levels : List Level) → All KeepsLevelRule levels → end_of levels ≤ end → AreFew (time_levels end defs levels) → CanBeWritten end (time_levels end defs levels)
can_all end [] levels rules low few = tt
can_all end (def ∷ defs) [] rules low few = tt
can_all end (def ∷ defs) (l ∷ ls) rules low few =
    can_with l.kind end (time_level end def.name l) (time_levels end defs ls) (level_can_be_written end l (All-head KeepsLevelRule l ls rules) (omega arith)) few
    (λ others. can_all end defs ls (All-tail KeepsLevelRule l ls rules) (omega arith) others)

end_small : (levels : List Level) → All KeepsLevelRule levels → end_of levels ≤ SAMPLES
end_small [] rules = omega arith
end_small (l ∷ ls) rules =
    let one = end_is_in_time l (All-head KeepsLevelRule l ls rules) in
    let rest = end_small ls (All-tail KeepsLevelRule l ls rules) in omega arith

size_with : (kind : LevelKind) (l : TimeLevel) (ls : List TimeLevel) → length (where_timed kind l ls) ≤ suc (length ls)
size_with kinds.Item l ls = omega arith
size_with kinds.Segment l ls = omega arith
size_with kinds.Event l ls = omega arith

size_all : (end : ℕ) (defs : List LevelDef) (levels : List Level) → length (time_levels end defs levels) ≤ length defs
size_all end [] levels = omega arith
size_all end (def ∷ defs) [] = omega arith
size_all end (def ∷ defs) (l ∷ ls) =
    let rest = size_all end defs ls in
    let one = size_with l.kind (time_level end def.name l) (time_levels end defs ls) in omega arith

filled_all : (end : ℕ) (levels : List Level) → All KeepsLevelRule levels → end_of levels ≤ end → All (IsFilledLevel end) levels
filled_all end [] rules low = All-nil (IsFilledLevel end)
filled_all end (l ∷ ls) rules low =
    All-cons (IsFilledLevel end) l ls (level_is_filled end l (All-head KeepsLevelRule l ls rules) (omega arith))
    (filled_all end ls (All-tail KeepsLevelRule l ls rules) (omega arith))

-- the bytes of a text are the text
valid : (bs : List ℕ) → utf8_valid_len bs ≡ length bs → utf8_of bs 0 ≡ Ok bs
valid bs is = grind (arith, nat_tests)

unmarked : (rate end : ℕ) (levels : List TimeLevel) → IsUtf8 (grid_text rate end levels) → grid_of (grid_text rate end levels) ≡ grid_of_text (grid_text rate end levels)
unfolding grid_of text_of grid_text line
unmarked rate end levels utf8 =
    ap grid_of_decoded (valid (grid_text rate end levels) (utf8_valid_len-IsUtf8 (grid_text rate end levels) utf8))

back : TimesReadBack → CountsReadBack → WrittenIsRead → (config : ConfigParts) (bundle : BundleParts) → 1 ≤ bundle.rate → bundle.rate ≤ TOP_RATE → length config.levels ≤ LEVELS → All KeepsLevelRule bundle.levels → crowded (written_levels config bundle) ≡ None → IsUtf8 (grid_text bundle.rate (end_of bundle.levels) (written_levels config bundle)) → ComesBack config bundle (grid_text bundle.rate (end_of bundle.levels) (written_levels config bundle))
back times counts written config bundle some high levels rules none utf8 =
    let end : ℕ = end_of bundle.levels in
    let ls : List TimeLevel = written_levels config bundle in
    let size = size_all end config.levels bundle.levels in
    let can = can_all end config.levels bundle.levels rules (omega arith) (few ls none) in
    let back = grids_come_back times counts written bundle.rate end ls some high (end_small bundle.levels rules) (omega arith) can in
    record {
      grid = back.grid;
      annot = back.annot;
      read = unmarked bundle.rate end ls utf8 ∙ back.read;
      gives = back.gives;
      same = back.same;
      filled = filled_all end bundle.levels rules (omega arith);
    }

-- the answer of the whole call
says_parts : (o : Option (List ℕ)) (t text : List ℕ) → unless_crowded o t ≡ Ok text → (o ≡ None) × (t ≡ text)
says_parts None t text is = (refl, cc)
says_parts (Some name) t text is = absurd cc

pub written_is : (config : ConfigParts) (bundle : BundleParts) (text : List ℕ) → written config bundle ≡ Ok text → (crowded (written_levels config bundle) ≡ None) × (grid_text bundle.rate (end_of bundle.levels) (written_levels config bundle) ≡ text)
unfolding written
written_is config bundle text is = says_parts (crowded (written_levels config bundle)) (grid_text bundle.rate (end_of bundle.levels) (written_levels config bundle)) text is

-- a configuration has few levels, and a bundle's rate is a rate
pub few_levels : (config : ConfigParts) → is_valid config ≡ true → length config.levels ≤ LEVELS
few_levels config valid =
    let named = are_within_limits config && are_distinct (all_names config.levels) in
    let ranged = named && list_all (is_in_range (length config.levels)) config.links in
    let rules = (and_parts (keeps_rules config) (not (leads_round config.links)) valid).0 in
    let three = (and_parts ranged (are_apart config.links) rules).0 in
    let two = (and_parts named (list_all (is_in_range (length config.levels)) config.links) three).0 in
    let limits = (and_parts (are_within_limits config) (are_distinct (all_names config.levels)) two).0 in
    let counts = nat_le (length config.levels) LEVELS && nat_le (length config.links) LINK_DEFINITIONS in
    let first = (and_parts counts (nat_le (length config.tracks) TRACKS) limits).0 in
    leb-true (length config.levels) LEVELS (and_parts (nat_le (length config.levels) LEVELS) (nat_le (length config.links) LINK_DEFINITIONS) first).0

pub rate_some : (rate : ℕ) → is_rate rate ≡ true → 1 ≤ rate
rate_some rate is = leb-true 1 rate (and_parts (nat_le 1 rate) (nat_le rate TOP_RATE) is).0

pub rate_low : (rate : ℕ) → is_rate rate ≡ true → rate ≤ TOP_RATE
rate_low rate is = leb-true rate TOP_RATE (and_parts (nat_le 1 rate) (nat_le rate TOP_RATE) is).1

pub comes_back : TimesReadBack → CountsReadBack → WrittenIsRead → (config : ConfigParts) (bundle : BundleParts) (text : List ℕ) → IsTrue (is_valid config) → KeepsBundleRules bundle → IsUtf8 text → written config bundle ≡ Ok text → ComesBack config bundle text
comes_back times counts written config bundle text valid rules utf8 is =
    let parts = written_is config bundle text is in
    subst (λ t. ComesBack config bundle t) parts.1
    (back times counts written config bundle (rate_some bundle.rate rules.rate) (rate_low bundle.rate rules.rate) (few_levels config valid) rules.levels parts.0
    (subst IsUtf8 (sym parts.1) utf8))

-- the answer of the call that writes
pub says_written : (config : ConfigParts) (bundle : BundleParts) (rate end : ℕ) (ls : List TimeLevel) (r : Result (List ℕ) WriteFault) → ls ≡ written_levels config bundle → rate ≡ bundle.rate → end ≡ end_of bundle.levels → Writes r (unless_crowded (crowded ls) (grid_text rate end ls)) → Writes r (written config bundle)
unfolding written
says_written config bundle rate end ls r is_ls is_rate is_end says =
    let same : unless_crowded (crowded ls) (grid_text rate end ls) ≡ written config bundle =
    ap (λ xs. unless_crowded (crowded xs) (grid_text rate end xs)) is_ls
    ∙ ap (λ n. unless_crowded (crowded (written_levels config bundle)) (grid_text n end (written_levels config bundle))) is_rate
    ∙ ap (λ n. unless_crowded (crowded (written_levels config bundle)) (grid_text bundle.rate n (written_levels config bundle))) is_end in
    subst (λ there. Writes r there) same says

pub if_written : (P : List ℕ → Type 0) (r : Result (List ℕ) WriteFault) (there : Result (List ℕ) (List ℕ)) → Writes r there → IfOk r IsUtf8 → ((text : List ℕ) → IsUtf8 text → there ≡ Ok text → P text) → IfOk r P
if_written P (Ok text) there says utf8 holds = holds text utf8 says
if_written P (Err fault) there says utf8 holds = tt
