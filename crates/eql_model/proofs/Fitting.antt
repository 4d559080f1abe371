-- Tuples lie on the level of their query.
use Rattle.std.proofs.Common.{◌≡◌, ℕ, ◌+◌, ◌<◌, ◌≤◌, Bool, true, false, cond, ◌&&◌, List, [], ◌∷◌, length, map, Result, sym, ap, subst, ◌∙◌, arith, nat_lt, nat_le}
use Rattle.std.specs.Prelude.{All}
use Rattle.std.specs.List.{filter, list_all, enumerate_from}
use Rattle.std.proofs.lemmas.Bool.{and_parts, leb-true, ltb-true, eqb-true}
use Rattle.std.proofs.lemmas.Bool.Decides.{nat_tests}
use Rattle.std.proofs.lemmas.List.{length-map}
use Rattle.std.proofs.lemmas.List.Elements.{All-nil, All-cons}
use Rattle.emu_names.specs.declared.limits.TheConstants.{BUNDLE_ITEMS}
use Rattle.level_items.specs.declared.items.Item.{Item}
use Rattle.db_config.specs.declared.parts.ConfigParts.{ConfigParts}
use Rattle.bundle_state.specs.Bundle.{BundleParts}
use Rattle.bundle_state.specs.Valid.{KeepsBundleRules}
use Rattle.bundle_state.specs.Built.{FitsConfig, form_of, form_asked}
use Rattle.hier_closure.specs.Dominance.{ids_at, closure_of}
use Rattle.eql_resolve.specs.Asked.{AskedTerm, AskedQuery, terms, sequence, dominance, is_on, term_level, level_of, AreOnOneLevel}
use Rattle.eql_resolve.specs.Sound.{AreTermsOf, IsQueryOf}
use Rattle.eql_resolve.proofs.Kept.{level_within}
use Rattle.eql_tuples.specs.declared.tuple.Tuple.{Tuple}
use Rattle.eql_model.specs.declared.joins.Join.{Join}
use Rattle.eql_tuples.specs.declared.faults.MatchFault.{MatchFault}
use Rattle.eql_tuples.specs.Sets.{is_over}
use Rattle.eql_tuples.specs.Inner.Sets.{GivesSet}
use Rattle.eql_tuples.specs.Tuples.{fits_in, follows, both, left_with, joined}
use Rattle.eql_tuples.proofs.AllOf.{all_joined}
use Rattle.eql_model.specs.Covers.{one_covers}
use Rattle.eql_model.specs.Inner.Joins.{AreWide, goes_with, makes, both_ways}
use Rattle.eql_model.specs.Meaning.{meets_all, single, singles, tuples, has_too_many, LieOn}
use Rattle.level_items.specs.Levels.{items_at}
use Rattle.eql_model.specs.Inner.Meaning.{IsTermOn}
use Rattle.eql_model.proofs.Between.{ids_count, rows_count, rows_wide}
use Rattle.eql_model.proofs.Conditions.{level_few, singles_few}
use Rattle.eql_model.proofs.Covers.{dominance_is}

-- ---- what holds of all tuples of a set

-- ---- within a level

abbrev Fits : ℕ → Tuple → Type 0
Fits n t = fits_in n t ≡ true

fits_from : (n a b : ℕ) → a ≤ b → b < n → nat_le a b && nat_lt b n ≡ true
fits_from n a b rises within = grind (arith, nat_tests)

fits_parts : (n : ℕ) (t : Tuple) → Fits n t → (t.first ≤ t.last) × (t.last < n)
fits_parts n t fits =
    let parts = and_parts (nat_le t.first t.last) (nat_lt t.last n) fits in
    (leb-true t.first t.last parts.0, ltb-true t.last n parts.1)

both_fit : (n : ℕ) (l r : Tuple) → Fits n l → Fits n r → follows l r ≡ true → Fits n (both l r)
both_fit n l r left right next =
    let on_left = fits_parts n l left in
    let on_right = fits_parts n r right in
    let same : l.last + 1 ≡ r.first = eqb-true (l.last + 1) r.first next in
    fits_from n l.first r.last (omega (arith, on_left.0, on_right.0, same)) on_right.1

kept_singles : (b : Bool) (n : ℕ) (marked : Bool) (at : ℕ × Item) (kept : List (ℕ × Item)) → at.0 < n →
    All (Fits n) (map (λ (e : ℕ × Item). single marked e.0) kept) →
    All (Fits n) (map (λ (e : ℕ × Item). single marked e.0) (cond b (at ∷ kept) kept))
kept_singles true n marked at kept h rest =
    All-cons (Fits n) (single marked at.0) (map (λ (e : ℕ × Item). single marked e.0) kept) (fits_from n at.0 at.0 (omega arith) h) rest
kept_singles false n marked at kept h rest = rest

singles_fit : (n : ℕ) (marked : Bool) (p : ℕ × Item → Bool) (k : ℕ) (items : List Item) → k + length items ≤ n →
    All (Fits n) (map (λ (e : ℕ × Item). single marked e.0) (filter p (enumerate_from k items)))
singles_fit n marked p k [] h = All-nil (Fits n)
singles_fit n marked p k (x ∷ items) h =
    kept_singles (p (k, x)) n marked (k, x) (filter p (enumerate_from (k + 1) items)) (omega arith)
    (singles_fit n marked p (k + 1) items (omega arith))

-- the tuples of a query lie on its level
pub tuples_fit : (c : ConfigParts) (b : BundleParts) (q : AskedQuery) → AreOnOneLevel q → LieOn b.levels (level_of q) (tuples c b q)
tuples_fit c b (terms ts) one =
    singles_fit (length (items_at b.levels (level_of (terms ts)))) _ (λ at. meets_all c b ts at.1) 0
    (items_at b.levels (level_of (terms ts))) (omega arith)
tuples_fit c b (sequence p q) one =
    let n : ℕ = length (items_at b.levels (level_of p)) in
    let right : LieOn b.levels (level_of p) (tuples c b q) =
    subst (λ (level : ℕ). LieOn b.levels level (tuples c b q)) (sym one.2) (tuples_fit c b q one.1) in
    all_joined follows both (Fits n) (Fits n) (Fits n) (both_fit n) (tuples c b p) (tuples c b q) (tuples_fit c b p one.0) right
tuples_fit c b (dominance p q) one =
    all_joined (one_covers b.links (ids_at b.levels (level_of p)) (ids_at b.levels (level_of q))) left_with
    (Fits (length (items_at b.levels (level_of p)))) (Fits (length (items_at b.levels (level_of q))))
    (Fits (length (items_at b.levels (level_of p)))) (λ l r left right goes. left)
    (tuples c b p) (tuples c b q) (tuples_fit c b p one.0) (tuples_fit c b q one.1)

-- ---- dominance

pub wide_both : (b : BundleParts) (left right : ℕ) (join : Join) → join ≡ both_ways b left right → AreWide join
wide_both b left right join e =
    subst AreWide (sym e) (
      subst (λ (n : ℕ). All (λ row. length row ≡ n) (closure_of b right left)) (sym (rows_count b left right)) (rows_wide b right left),
      subst (λ (n : ℕ). All (λ row. length row ≡ n) (closure_of b left right)) (sym (rows_count b right left)) (rows_wide b left right),
    )

by_ids : (b : BundleParts) (level : ℕ) (ts : List Tuple) → LieOn b.levels level ts →
    All (λ t. fits_in (length (ids_at b.levels level)) t ≡ true) ts
by_ids b level ts lie = subst (λ (n : ℕ). All (Fits n) ts) (ids_count b.levels level) lie

pub dominance_exit : (b : BundleParts) (left right : ℕ) (join : Join) (ls rs : List Tuple) (r : Result (List Tuple) MatchFault) →
    join ≡ both_ways b left right → LieOn b.levels left ls → LieOn b.levels right rs →
    GivesSet r (joined (goes_with join) (makes join) ls rs) →
    GivesSet r (joined (one_covers b.links (ids_at b.levels left) (ids_at b.levels right)) left_with ls rs)
dominance_exit b left right join ls rs r e on_left on_right told =
    subst (GivesSet r)
    (ap (λ j. joined (goes_with j) (makes j) ls rs) e ∙ dominance_is b left right ls rs (by_ids b left ls on_left) (by_ids b right rs on_right))
    told

-- ---- levels that are there

pub levels_same : (c : ConfigParts) (b : BundleParts) → FitsConfig c b → length b.levels ≡ length c.levels
levels_same c b fits =
    sym (length-map b.levels form_of) ∙ ap length fits.levels ∙ length-map c.levels form_asked

pub level_fits : (c : ConfigParts) (b : BundleParts) (level : ℕ) → FitsConfig c b → level < length c.levels → level < length b.levels
level_fits c b level fits there = let count = levels_same c b fits in omega arith

pub terms_on : {A : Type 0} (c : ConfigParts) (level : ℕ) (view : A → AskedTerm) (xs : List A) → AreTermsOf c (map view xs) →
    list_all (is_on level) (map view xs) ≡ true → All (λ x. IsTermOn c level (view x)) xs
terms_on c level view [] sound one = All-nil (λ x. IsTermOn c level (view x))
terms_on c level view (x ∷ xs) sound one =
    let parts = and_parts (is_on level (view x)) (list_all (is_on level) (map view xs)) one in
    All-cons (λ y. IsTermOn c level (view y)) x xs (sound.0, eqb-true (term_level (view x)) level parts.0)
    (terms_on c level view xs sound.1 parts.1)

-- the conditions of a conjunction, by its own level
pub conditions_on : {A : Type 0} (c : ConfigParts) (level : ℕ) (view : A → AskedTerm) (xs : List A) → level ≡ level_of (terms (map view xs)) →
    IsQueryOf c (terms (map view xs)) → AreOnOneLevel (terms (map view xs)) → All (λ x. IsTermOn c level (view x)) xs
conditions_on c level view xs same within one =
    terms_on c level view xs within.1 (ap (λ n. list_all (is_on n) (map view xs)) same ∙ one)

not_over : (ts : List Tuple) → length ts ≤ BUNDLE_ITEMS → is_over ts ≡ false
not_over ts few = grind (arith, nat_tests)

-- what a conjunction finds
pub conjunction_finds : (c : ConfigParts) (b : BundleParts) (ts : List AskedTerm) (level : ℕ) (made : List Tuple) →
    level ≡ level_of (terms ts) → KeepsBundleRules b → made ≡ singles c b ts 0 (items_at b.levels level) →
    (made ≡ tuples c b (terms ts)) × (has_too_many c b (terms ts) ≡ false)
conjunction_finds c b ts level made same rules is =
    (is ∙ ap (λ n. singles c b ts 0 (items_at b.levels n)) same, not_over (tuples c b (terms ts)) few)
  where
    few : length (tuples c b (terms ts)) ≤ BUNDLE_ITEMS
    few =
        let kept = singles_few c b ts 0 (items_at b.levels (level_of (terms ts))) in
        let here = level_few b.levels (level_of (terms ts)) in
        let all = rules.few_items in
        omega arith

-- tuples that were found lie on the level of their query
pub found_fit : (c : ConfigParts) (b : BundleParts) (q : AskedQuery) (level : ℕ) (found : List Tuple) → AreOnOneLevel q →
    level ≡ level_of q → found ≡ tuples c b q → LieOn b.levels level found
found_fit c b q level found one same is =
    subst (λ (n : ℕ). LieOn b.levels n found) (sym same) (subst (LieOn b.levels (level_of q)) (sym is) (tuples_fit c b q one))

pub level_there : (c : ConfigParts) (b : BundleParts) (q : AskedQuery) (level : ℕ) → FitsConfig c b → IsQueryOf c q → level ≡ level_of q →
    level < length b.levels
level_there c b q level fits within same =
    let there = level_within c q within in let count = levels_same c b fits in omega arith

pub joined_at : (b : BundleParts) (p q left right : ℕ) (ls rs : List Tuple) (r : Result (List Tuple) MatchFault) → left ≡ p → right ≡ q →
    GivesSet r (joined (one_covers b.links (ids_at b.levels left) (ids_at b.levels right)) left_with ls rs) →
    GivesSet r (joined (one_covers b.links (ids_at b.levels p) (ids_at b.levels q)) left_with ls rs)
joined_at b p q left right ls rs r on_left on_right told =
    subst (GivesSet r)
    (λ i. joined (one_covers b.links (ids_at b.levels (on_left i)) (ids_at b.levels (on_right i))) left_with ls rs) told
