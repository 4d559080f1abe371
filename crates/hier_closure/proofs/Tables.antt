-- A table of rows that grows, rank by rank.
use Rattle.std.proofs.Common.{◌≡◌, ◌≢◌, ℕ, zero, suc, ◌+◌, ◌<◌, ◌≤◌, ◌&&◌, ◌||◌, Bool, true, false, List, [], ◌∷◌, length, get_or, take, sym, ap, ◌∙◌, arith}
use Rattle.std.specs.List.{list_any, range_with_len}
use Rattle.std.proofs.lemmas.List.{take_all}
use Rattle.std.proofs.lemmas.List.Folds.{list_any_at, list_any_more}
use Rattle.std.proofs.lemmas.List.FromFn.{length-range_with_len}
use Rattle.db_config.specs.declared.parts.LinkDef.{LinkDef}
use Rattle.db_config.specs.declared.parts.ConfigParts.{ConfigParts}
use Rattle.db_config.specs.Above.{is_above}
use Rattle.bundle_state.specs.Bundle.{BundleParts}
use Rattle.bundle_state.specs.Built.{FitsConfig}
use Rattle.hier_closure.specs.Inner.Ranks.{IsUnder, rank_of, is_between, any_between, AreMadeBelow, AreMadeTo}
use Rattle.hier_closure.proofs.Heights.{above_trans, not_above_self, same_count, rank_lt, at_place}

-- the rank of a level of a bundle
abbrev pub rank_in : BundleParts → ℕ → ℕ
rank_in bundle n = rank_of bundle.definitions (length bundle.levels) n

pub rank_is : (config : ConfigParts) (bundle : BundleParts) (n : ℕ) → FitsConfig config bundle →
    rank_of config.links (length config.levels) n ≡ rank_in bundle n
rank_is config bundle n fits =
    ap (λ k. rank_of config.links k n) (same_count config bundle fits)
    ∙ ap (λ defs. rank_of defs (length bundle.levels) n) (sym fits.definitions)

rank_falls : (config : ConfigParts) (bundle : BundleParts) (n m : ℕ) → IsUnder config bundle → m < length bundle.levels →
    is_above bundle.definitions n m ≡ true → rank_in bundle m < rank_in bundle n
rank_falls config bundle n m under within above =
    rank_lt bundle.definitions (length bundle.levels) n m within
    (ap (λ defs. is_above defs m m) under.fits.definitions ∙ not_above_self config m under.valid) above

-- the two bits are not the same
pub is_apart : true ≡ false → ⊥
is_apart same = cc

-- nothing is wanted yet
pub made_start : (bundle : BundleParts) (upper lower : ℕ) (table : List (List (List Bool))) → AreMadeTo bundle upper lower 0 0 table
made_start bundle upper lower table = λ n within up down low before.
    let same : rank_in bundle n ≡ 0 = omega arith in
    let never : n < 0 = before same in
    absurd (omega arith)

-- a level that is not wanted
pub made_skip : (bundle : BundleParts) (upper lower rank level : ℕ) (table : List (List (List Bool))) →
    AreMadeTo bundle upper lower rank level table →
    (is_above bundle.definitions upper level ≡ true → is_above bundle.definitions level lower ≡ true → rank_in bundle level ≡ rank → ⊥) →
    AreMadeTo bundle upper lower rank (level + 1) table
made_skip bundle upper lower rank level table made never = λ n within up down low before.
    made n within up down low (λ same.
    let here : n < level + 1 = before same in
    let other : n ≢ level = λ own. never
    (ap (is_above bundle.definitions upper) (sym own) ∙ up)
    (ap (λ k. is_above bundle.definitions k lower) (sym own) ∙ down)
    (ap (rank_in bundle) (sym own) ∙ same) in
    below n level here other)
  where
    below : (n level : ℕ) → n < level + 1 → n ≢ level → n < level
    below n level here other = omega arith

-- all levels of a rank
pub made_rank : (bundle : BundleParts) (upper lower rank number : ℕ) (table : List (List (List Bool))) → length bundle.levels ≤ number →
    AreMadeTo bundle upper lower rank number table → AreMadeTo bundle upper lower (rank + 1) 0 table
made_rank bundle upper lower rank number table past made = λ n within up down low before.
    let apart : rank_in bundle n ≢ rank + 1 = λ same. let never : n < 0 = before same in omega arith in
    made n within up down (below (rank_in bundle n) rank low apart) (λ same. omega arith)
  where
    below : (r rank : ℕ) → r ≤ rank + 1 → r ≢ rank + 1 → r ≤ rank
    below r rank low apart = omega arith

-- what is wanted for the rows of a level of the rank
pub made_below : (config : ConfigParts) (bundle : BundleParts) (upper lower rank level : ℕ) (table : List (List (List Bool))) →
    IsUnder config bundle → AreMadeTo bundle upper lower rank level table → rank_in bundle level ≡ rank →
    is_above bundle.definitions upper level ≡ true → AreMadeBelow bundle lower table level
made_below config bundle upper lower rank level table under made own up = λ n within above down.
    let falls : rank_in bundle n < rank_in bundle level = rank_falls config bundle level n under within above in
    made n within (above_trans bundle.definitions upper level n up above) down (omega arith) (λ same. absurd (omega arith))

-- what is wanted for the rows of the upper level
pub made_all : (config : ConfigParts) (bundle : BundleParts) (upper lower rank : ℕ) (table : List (List (List Bool))) →
    IsUnder config bundle → rank_in bundle upper ≤ rank → AreMadeTo bundle upper lower rank 0 table → AreMadeBelow bundle lower table upper
made_all config bundle upper lower rank table under own made = λ n within above down.
    let falls : rank_in bundle n < rank_in bundle upper = rank_falls config bundle upper n under within above in
    made n within above down (omega arith) (λ same. absurd (omega arith))

-- ---- no level between

-- a row is of a level of the table
pub within_table : (table : List (List (List Bool))) (level position : ℕ) → position < length (get_or table level []) → level < length table
within_table [] level position here = absurd (omega arith)
within_table (rows ∷ table) zero position here = omega arith
within_table (rows ∷ table) (suc level) position here =
    let rest : level < length table = within_table table level position here in
    omega arith

pub lies_between : (defs : List LinkDef) (upper lower level : ℕ) → is_above defs upper level ≡ true → is_above defs level lower ≡ true →
    is_between defs upper lower level ≡ true
lies_between defs upper lower level up down = λ i. up i && down i

pub some_between : (defs : List LinkDef) (count upper lower level : ℕ) → level < count → is_between defs upper lower level ≡ true →
    any_between defs count upper lower ≡ true
some_between defs count upper lower level within there =
    list_any_at (is_between defs upper lower) (range_with_len 0 count) level 0 (omega (arith, length-range_with_len 0 count))
    (ap (is_between defs upper lower) (at_place count level within) ∙ there)

-- whether some level lies between, of the first so many
abbrev pub between_to : List LinkDef → ℕ → ℕ → ℕ → ℕ → Bool
between_to defs count upper lower level = list_any (is_between defs upper lower) (take level (range_with_len 0 count))

pub none_more : (defs : List LinkDef) (count upper lower level : ℕ) → level < count → between_to defs count upper lower level ≡ false →
    is_between defs upper lower level ≡ false → between_to defs count upper lower (level + 1) ≡ false
none_more defs count upper lower level within none aside =
    list_any_more (is_between defs upper lower) (range_with_len 0 count) level 0 (omega (arith, length-range_with_len 0 count))
    ∙ (λ i. none i || (ap (is_between defs upper lower) (at_place count level within) ∙ aside) i)

pub none_at_all : (defs : List LinkDef) (count upper lower level : ℕ) → count ≤ level → between_to defs count upper lower level ≡ false →
    any_between defs count upper lower ≡ false
none_at_all defs count upper lower level past none =
    ap (list_any (is_between defs upper lower)) (sym (take_all level (range_with_len 0 count) (omega (arith, length-range_with_len 0 count)))) ∙ none

-- nothing is wanted where no level lies between
pub made_none : (config : ConfigParts) (bundle : BundleParts) (upper lower : ℕ) (table : List (List (List Bool))) → FitsConfig config bundle →
    any_between config.links (length config.levels) upper lower ≡ false → AreMadeBelow bundle lower table upper
made_none config bundle upper lower table fits none = λ n within above down.
    let count : length config.levels ≡ length bundle.levels = same_count config bundle fits in
    let some : any_between config.links (length config.levels) upper lower ≡ true =
    some_between config.links (length config.levels) upper lower n (omega arith)
    (lies_between config.links upper lower n (ap (λ defs. is_above defs upper n) (sym fits.definitions) ∙ above)
    (ap (λ defs. is_above defs n lower) (sym fits.definitions) ∙ down)) in
    absurd cc
