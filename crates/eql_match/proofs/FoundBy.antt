-- What a sequence and a dominance find, where both of their parts are rows of items, or are lists.
use Rattle.std.proofs.Common.{◌≡◌, ℕ, ◌≤◌, Bool, true, false, ◌||◌, List, length, Ok, Err, refl, sym, ap, subst, ◌∙◌}
use Rattle.emu_names.specs.declared.limits.TheConstants.{BUNDLE_ITEMS}
use Rattle.db_config.specs.declared.parts.ConfigParts.{ConfigParts}
use Rattle.bundle_state.specs.Bundle.{BundleParts}
use Rattle.bundle_state.specs.Valid.{KeepsBundleRules}
use Rattle.hier_closure.specs.Dominance.{ids_at, closure_of}
use Rattle.eql_resolve.specs.Asked.{AskedQuery, AskedTerm, terms, sequence, dominance, is_marked, level_of}
use Rattle.eql_tuples.specs.declared.tuple.Tuple.{Tuple}
use Rattle.eql_tuples.specs.declared.faults.MatchFault.{MatchFault}
use Rattle.eql_tuples.specs.declared.faults.MatchFault.TheVariants.{TooManyTuples, Memory}
use Rattle.eql_model.specs.Meaning.{has_too_many, singles, tuples}
use Rattle.level_items.specs.Levels.{items_at}
use Rattle.eql_tuples.specs.Sets.{is_over}
use Rattle.eql_tuples.specs.Inner.Sets.{GivesSet}
use Rattle.eql_tuples.specs.Tuples.{follows, both, left_with, joined}
use Rattle.eql_model.specs.Covers.{one_covers}
use Rattle.eql_model.proofs.Between.{ids_count}
use Rattle.eql_model.proofs.Fitting.{conjunction_finds}
use Rattle.eql_match.specs.Inner.Found.{followed, items_of, tuples_in, AreDominant, AreFoundFor, FindsAll, IsRowOf, IsShort}
use Rattle.eql_match.specs.declared.found.Found.{Found}
use Rattle.eql_match.specs.declared.found.Found.TheVariants.{Items, Tuples}
use Rattle.eql_match.proofs.ByRows.{dominating_gives, followed_gives}
use Rattle.eql_match.proofs.RowsBetween.{row_few}

pub none_of_three : (a b c : Bool) → a ≡ false → b ≡ false → c ≡ false → ((a || b) || c) ≡ false
none_of_three a b c first second third = (λ i. (first i || second i) || third i)

pub sequence_of_rows : (c : ConfigParts) (b : BundleParts) (p q : AskedQuery) (l r : List Bool) (made : List Tuple) →
    AreFoundFor (Items l) c b p → AreFoundFor (Items r) c b q → length l ≤ BUNDLE_ITEMS → made ≡ followed l r →
    AreFoundFor (Tuples made) c b (sequence p q)
sequence_of_rows c b p q l r made left right few is =
    let gives = followed_gives l r made few is in
    let same : joined follows both (items_of l) (items_of r) ≡ tuples c b (sequence p q) = λ i. joined follows both (left.0 i) (right.0 i) in (
      gives.0 ∙ same,
      none_of_three (has_too_many c b p) (has_too_many c b q) (is_over (tuples c b (sequence p q))) left.1 right.1 (ap is_over (sym same) ∙ gives.1),
      tt,
    )

pub dominance_of_rows : (c : ConfigParts) (b : BundleParts) (p q : AskedQuery) (left_level right_level : ℕ) (l r made : List Bool) →
    left_level ≡ level_of p → right_level ≡ level_of q → AreFoundFor (Items l) c b p → AreFoundFor (Items r) c b q → length l ≤ BUNDLE_ITEMS →
    AreDominant (closure_of b right_level left_level) (closure_of b left_level right_level) l r made →
    AreFoundFor (Items made) c b (dominance p q)
dominance_of_rows c b p q left_level right_level l r made on_left on_right left right few dominant =
    let there : AreDominant (closure_of b (level_of q) (level_of p)) (closure_of b (level_of p) (level_of q)) l r made =
    subst (λ (m : ℕ). AreDominant (closure_of b (level_of q) m) (closure_of b m (level_of q)) l r made) on_left
    (subst (λ (n : ℕ). AreDominant (closure_of b n left_level) (closure_of b left_level n) l r made) on_right dominant) in
    let gives = dominating_gives b (level_of p) (level_of q) l r made (left.2.0 ∙ ids_count b.levels (level_of p))
    (right.2.0 ∙ ids_count b.levels (level_of q)) few there in
    let same : joined (one_covers b.links (ids_at b.levels (level_of p)) (ids_at b.levels (level_of q))) left_with (items_of l) (items_of r)
    ≡ tuples c b (dominance p q) =
    λ i. joined (one_covers b.links (ids_at b.levels (level_of p)) (ids_at b.levels (level_of q))) left_with (left.0 i) (right.0 i) in
    let marks : is_marked (dominance p q) ≡ false = λ i. left.2.1 i || right.2.1 i in (
      gives.0 ∙ same,
      none_of_three (has_too_many c b p) (has_too_many c b q) (is_over (tuples c b (dominance p q))) left.1 right.1 (ap is_over (sym same) ∙ gives.1),
      (there.count ∙ left.2.0, marks),
    )

-- ---- where one part is a list, the set is made as before

or_last : (a b : Bool) → b ≡ true → (a || b) ≡ true
or_last true b is = refl
or_last false b is = is

pub sequence_of_lists : (c : ConfigParts) (b : BundleParts) (p q : AskedQuery) (ls rs made : List Tuple) →
    AreFoundFor (Tuples ls) c b p → AreFoundFor (Tuples rs) c b q → GivesSet (Ok made) (joined follows both ls rs) →
    AreFoundFor (Tuples made) c b (sequence p q)
sequence_of_lists c b p q ls rs made left right gives =
    let same : joined follows both ls rs ≡ tuples c b (sequence p q) = λ i. joined follows both (left.0 i) (right.0 i) in (
      gives.0 ∙ same,
      none_of_three (has_too_many c b p) (has_too_many c b q) (is_over (tuples c b (sequence p q))) left.1 right.1 (ap is_over (sym same) ∙ gives.1),
      tt,
    )

pub sequence_over : (c : ConfigParts) (b : BundleParts) (p q : AskedQuery) (ls rs : List Tuple) (fault : MatchFault) →
    AreFoundFor (Tuples ls) c b p → AreFoundFor (Tuples rs) c b q → GivesSet (Err fault) (joined follows both ls rs) →
    FindsAll (Err fault) c b (sequence p q)
sequence_over c b p q ls rs TooManyTuples left right over =
    let same : joined follows both ls rs ≡ tuples c b (sequence p q) = λ i. joined follows both (left.0 i) (right.0 i) in
    or_last (has_too_many c b p || has_too_many c b q) (is_over (tuples c b (sequence p q))) (ap is_over (sym same) ∙ over)
sequence_over c b p q ls rs Memory left right told = tt

-- the set of a dominance, by the levels of its parts
abbrev dominant : BundleParts → ℕ → ℕ → List Tuple → List Tuple → List Tuple
dominant b m n ls rs = joined (one_covers b.links (ids_at b.levels m) (ids_at b.levels n)) left_with ls rs

pub dominance_of_lists : (c : ConfigParts) (b : BundleParts) (p q : AskedQuery) (m n : ℕ) (ls rs made : List Tuple) → m ≡ level_of p → n ≡ level_of q →
    AreFoundFor (Tuples ls) c b p → AreFoundFor (Tuples rs) c b q → GivesSet (Ok made) (dominant b m n ls rs) →
    AreFoundFor (Tuples made) c b (dominance p q)
dominance_of_lists c b p q m n ls rs made on_left on_right left right gives =
    let same : dominant b m n ls rs ≡ tuples c b (dominance p q) = λ i. dominant b (on_left i) (on_right i) (left.0 i) (right.0 i) in (
      gives.0 ∙ same,
      none_of_three (has_too_many c b p) (has_too_many c b q) (is_over (tuples c b (dominance p q))) left.1 right.1 (ap is_over (sym same) ∙ gives.1),
      tt,
    )

pub dominance_over : (c : ConfigParts) (b : BundleParts) (p q : AskedQuery) (m n : ℕ) (ls rs : List Tuple) (fault : MatchFault) →
    m ≡ level_of p → n ≡ level_of q → AreFoundFor (Tuples ls) c b p → AreFoundFor (Tuples rs) c b q → GivesSet (Err fault) (dominant b m n ls rs) →
    FindsAll (Err fault) c b (dominance p q)
dominance_over c b p q m n ls rs TooManyTuples on_left on_right left right over =
    let same : dominant b m n ls rs ≡ tuples c b (dominance p q) = λ i. dominant b (on_left i) (on_right i) (left.0 i) (right.0 i) in
    or_last (has_too_many c b p || has_too_many c b q) (is_over (tuples c b (dominance p q))) (ap is_over (sym same) ∙ over)
dominance_over c b p q m n ls rs Memory on_left on_right left right told = tt

-- ---- a conjunction, and the two parts of a query side by side

pub conjunction_is : (c : ConfigParts) (b : BundleParts) (ts : List AskedTerm) (level : ℕ) (marked : Bool) (made : Found) →
    level ≡ level_of (terms ts) → marked ≡ is_marked (terms ts) → KeepsBundleRules b →
    tuples_in made ≡ singles c b ts 0 (items_at b.levels level) → IsRowOf (length (items_at b.levels level)) marked made →
    AreFoundFor made c b (terms ts)
conjunction_is c b ts level marked made same mark rules is row =
    let finds = conjunction_finds c b ts level (tuples_in made) same rules is in (
      finds.0,
      finds.1,
      subst (λ (m : Bool). IsRowOf (length (items_at b.levels (level_of (terms ts)))) m made) mark
          (subst (λ (n : ℕ). IsRowOf (length (items_at b.levels n)) marked made) same row),
    )

pub found_short : (found : Found) (c : ConfigParts) (b : BundleParts) (q : AskedQuery) → KeepsBundleRules b → AreFoundFor found c b q → IsShort found
found_short (Items row) c b q rules found = row_few b (level_of q) (length row) rules found.2.0
found_short (Tuples ts) c b q rules found = tt
