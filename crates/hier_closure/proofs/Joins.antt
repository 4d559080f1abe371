-- Rows that are joined, one child after another.
use Rattle.std.proofs.Common.{◌≡◌, ◌≢◌, ℕ, zero, suc, ◌<◌, Bool, true, false, not, ◌||◌, ◌==◌, List, [], ◌∷◌, ◌++◌, length, map, get_or, nat_eq, refl, sym, ap, ◌∙◌, Some, arith, ⊎_elim, slice_set, option_map, replicate, Option, take, ◌≤◌}
use Rattle.std.specs.Prelude.{IsSome, is_some}
use Rattle.std.specs.List.{list_any, slice_get}
use Rattle.std.specs.Option.{option_map_or}
use Rattle.std.specs.Simd.Lanes.{zip2}
use Rattle.std.proofs.lemmas.Bool.{and_parts, not-true, cases_Bool, eqb-true, eq-eqb}
use Rattle.std.proofs.lemmas.Bool.Decides.{nat_tests}
use Rattle.std.proofs.lemmas.Simd.{zip2-map, splat_is_map}
use Rattle.std.proofs.lemmas.List.{length-map, append_assoc, append-nil, take_all}
use Rattle.std.proofs.lemmas.Option.{slice_get-map, slice_get-get_or}
use Rattle.std.proofs.lemmas.List.Folds.{list_any-append}
use Rattle.emu_names.specs.declared.kinds.ItemId.{ItemId}
use Rattle.level_items.specs.declared.items.Item.{Item}
use Rattle.level_items.specs.Levels.{Level, ids_of, are_different}
use Rattle.link_graph.specs.Link.{children_of}
use Rattle.link_graph.specs.declared.link.Link.{Link}
use Rattle.bundle_state.specs.Bundle.{BundleParts, level_of_id}
use Rattle.bundle_state.proofs.IdLevels.{number_within}
use Rattle.bundle_state.specs.Valid.{KeepsBundleRules}
use Rattle.db_config.specs.Above.{is_above}
use Rattle.hier_closure.specs.Dominance.{links_to, dominates, is_or_dominates, ids_at, closure_row, closure_rows, closure_of}
use Rattle.hier_closure.specs.Inner.Ranks.{AreMadeAtItem, AreMadeBelow, AreMadeBelowItem}
use Rattle.hier_closure.proofs.Ways.{Child, child_of, or_left, or_right, by_first_links}
use Rattle.hier_closure.proofs.Ids.{is_in, level_is, ids_different}
use Rattle.hier_closure.proofs.Heights.{AreAbove, links_above, none_below}

-- either of two bits
abbrev pub either : List Bool → List Bool → List Bool
either row other = zip2 (λ a b. a || b) row other

-- ---- rows

nat_same : (x : ℕ) → nat_eq x x ≡ true
nat_same x = grind (arith, nat_tests)

pub same_row : {Y : Type 0} (f g : ℕ → Y) (xs : List ℕ) → ((x : ℕ) → is_in x xs ≡ true → f x ≡ g x) → map f xs ≡ map g xs
same_row f g [] each = refl
same_row f g (x ∷ xs) each =
    let first : f x ≡ g x = each x (or_left (nat_eq x x) (is_in x xs) (nat_same x)) in
    let rest : map f xs ≡ map g xs = same_row f g xs (λ y there. each y (or_right (nat_eq y x) (is_in y xs) there)) in
    cc

or_false : (b : Bool) → (b || false) ≡ b
or_false true = refl
or_false false = refl

or_true : (b : Bool) → (b || true) ≡ true
or_true true = refl
or_true false = refl

pub no_bits : (row : List Bool) (xs : List ℕ) → length row ≡ length xs → either row (map (λ _. false) xs) ≡ row
no_bits [] xs same = refl
no_bits (b ∷ row) [] same = absurd (omega arith)
no_bits (b ∷ row) (x ∷ xs) same =
    let first : (b || false) ≡ b = or_false b in
    let rest : either row (map (λ _. false) xs) ≡ row = no_bits row xs (omega arith) in
    cc

pub is_there : (xs : List ℕ) (p q : ℕ) → slice_get xs p ≡ Some q → is_in q xs ≡ true
is_there [] p q at = absurd cc
is_there (y ∷ xs) zero q at = let own : y ≡ q = cc in or_left (nat_eq q y) (is_in q xs) (ap (nat_eq q) own ∙ nat_same q)
is_there (y ∷ xs) (suc p) q at = or_right (nat_eq q y) (is_in q xs) (is_there xs p q at)

pub one_bit : (row : List Bool) (xs : List ℕ) (p q : ℕ) → are_different xs ≡ true → slice_get xs p ≡ Some q → length row ≡ length xs →
    slice_set row p true ≡ either row (map (λ x. q == x) xs)
one_bit [] xs p q apart at same = refl
one_bit (b ∷ row) [] p q apart at same = absurd (omega arith)
one_bit (b ∷ row) (x ∷ xs) zero q apart at same =
    let parts = and_parts (not (is_in x xs)) (are_different xs) apart in
    let own : x ≡ q = cc in
    let out : is_in x xs ≡ false = not-true _ parts.0 in
    let bit : (q == x) ≡ true = eq-eqb q x (sym own) in
    let others : map (λ y. q == y) xs ≡ map (λ _. false) xs = same_row (λ y. q == y) (λ _. false) xs (λ y there. other x q y xs own out there) in
    let first : (b || (q == x)) ≡ true = ap (λ c. b || c) bit ∙ or_true b in
    let rest : either row (map (λ y. q == y) xs) ≡ row = ap (either row) others ∙ no_bits row xs (omega arith) in
    sym (ap (λ c. c ∷ either row (map (λ y. q == y) xs)) first ∙ ap (λ r. true ∷ r) rest)
  where
    other : (x q y : ℕ) (xs : List ℕ) → x ≡ q → is_in x xs ≡ false → is_in y xs ≡ true → (q == y) ≡ false
    other x q y xs own out there =
        ⊎_elim
        (λ (h : (q == y) ≡ true).
        let same : x ≡ y = own ∙ eqb-true q y h in
        let never : is_in x xs ≡ true = ap (λ n. is_in n xs) same ∙ there in
        absurd cc)
        (λ (h : (q == y) ≡ false). h) (cases_Bool (q == y))
one_bit (b ∷ row) (x ∷ xs) (suc p) q apart at same =
    let parts = and_parts (not (is_in x xs)) (are_different xs) apart in
    let out : is_in x xs ≡ false = not-true _ parts.0 in
    let there : is_in q xs ≡ true = is_there xs p q at in
    let bit : (q == x) ≡ false = other x q xs out there in
    let first : (b || (q == x)) ≡ b = ap (λ c. b || c) bit ∙ or_false b in
    let rest : slice_set row p true ≡ either row (map (λ y. q == y) xs) = one_bit row xs p q parts.1 at (omega arith) in
    sym (ap (λ c. c ∷ either row (map (λ y. q == y) xs)) first ∙ ap (λ r. b ∷ r) (sym rest))
  where
    other : (x q : ℕ) (xs : List ℕ) → is_in x xs ≡ false → is_in q xs ≡ true → (q == x) ≡ false
    other x q xs out there =
        ⊎_elim
        (λ (h : (q == x) ≡ true).
        let same : q ≡ x = eqb-true q x h in
        let never : is_in x xs ≡ true = ap (λ n. is_in n xs) (sym same) ∙ there in
        absurd cc)
        (λ (h : (q == x) ≡ false). h) (cases_Bool (q == x))

-- ---- one child

-- the bits of an item and of those that it dominates
abbrev pub child_row : BundleParts → ℕ → ItemId → List Bool
child_row bundle lower child = map (λ b. is_or_dominates bundle.links b child) (ids_at bundle.levels lower)

-- an item of the lower level itself
pub child_here : (bundle : BundleParts) (lower p : ℕ) (child : ItemId) (row : List Bool) → KeepsBundleRules bundle →
    is_above bundle.definitions lower lower ≡ false → level_of_id bundle.levels child.0 ≡ Some lower →
    slice_get (ids_at bundle.levels lower) p ≡ Some child.0 → length row ≡ length (ids_at bundle.levels lower) →
    slice_set row p true ≡ either row (child_row bundle lower child)
child_here bundle lower p child row rules self level at wide =
    one_bit row (ids_at bundle.levels lower) p child.0 (ids_different bundle.levels lower rules.apart) at wide
    ∙ ap (either row) (same_row (λ b. child.0 == b) (λ b. is_or_dominates bundle.links b child) (ids_at bundle.levels lower)
    (λ b there. sym (ap (λ x. (child.0 == b) || x)
    (none_below bundle.definitions (level_of_id bundle.levels) bundle.links child.0 b lower lower rules.linked.between level
    (level_is bundle.levels lower b rules.apart there) self)
    ∙ or_false (child.0 == b))))

-- no item of another level
elsewhere : (bundle : BundleParts) (n lower : ℕ) (child : ItemId) (b : ℕ) → KeepsBundleRules bundle →
    level_of_id bundle.levels child.0 ≡ Some n → n ≢ lower → is_in b (ids_at bundle.levels lower) ≡ true → (child.0 == b) ≡ false
elsewhere bundle n lower child b rules level other there =
    ⊎_elim
    (λ (h : (child.0 == b) ≡ true).
    let own : level_of_id bundle.levels b ≡ Some lower = level_is bundle.levels lower b rules.apart there in
    let moved : level_of_id bundle.levels child.0 ≡ Some lower = ap (level_of_id bundle.levels) (eqb-true child.0 b h) ∙ own in
    let same : n ≡ lower = cc in
    absurd (other same))
    (λ (h : (child.0 == b) ≡ false). h) (cases_Bool (child.0 == b))

-- an item of a level above the lower one
pub child_above : (bundle : BundleParts) (n lower : ℕ) (child : ItemId) → KeepsBundleRules bundle →
    level_of_id bundle.levels child.0 ≡ Some n → n ≢ lower →
    closure_row bundle.links (ids_at bundle.levels lower) child.0 ≡ child_row bundle lower child
child_above bundle n lower child rules level other =
    same_row (dominates bundle.links child.0) (λ b. is_or_dominates bundle.links b child) (ids_at bundle.levels lower)
    (λ b there. sym (ap (λ x. x || dominates bundle.links child.0 b) (elsewhere bundle n lower child b rules level other there)))

-- an item of any other level
pub child_aside : (bundle : BundleParts) (n lower : ℕ) (child : ItemId) (row : List Bool) → KeepsBundleRules bundle →
    level_of_id bundle.levels child.0 ≡ Some n → n ≢ lower → is_above bundle.definitions n lower ≡ false →
    length row ≡ length (ids_at bundle.levels lower) → row ≡ either row (child_row bundle lower child)
child_aside bundle n lower child row rules level other aside wide =
    sym (ap (either row) (same_row (λ b. is_or_dominates bundle.links b child) (λ _. false) (ids_at bundle.levels lower)
    (λ b there. ap (λ x. x || dominates bundle.links child.0 b) (elsewhere bundle n lower child b rules level other there)
    ∙ none_below bundle.definitions (level_of_id bundle.levels) bundle.links child.0 b n lower rules.linked.between level
    (level_is bundle.levels lower b rules.apart there) aside))
    ∙ no_bits row (ids_at bundle.levels lower) wide)

-- the row that is kept of an item
pub kept_row : (links : List Link) (lowers ids : List ℕ) (p q : ℕ) (row : List Bool) → slice_get (closure_rows links lowers ids) p ≡ Some row →
    slice_get ids p ≡ Some q → row ≡ closure_row links lowers q
kept_row links lowers ids p q row got at =
    some_row row (closure_row links lowers q)
    (sym got ∙ slice_get-map (closure_row links lowers) ids p ∙ ap (option_map (closure_row links lowers)) at)
  where
    some_row : (x y : List Bool) → Some x ≡ Some y → x ≡ y
    some_row x y e = cc

-- ---- children one after another

-- the bits of some children and of those that they dominate
abbrev pub children_row : BundleParts → ℕ → List ItemId → List Bool
children_row bundle lower children =
    map (λ b. list_any (is_or_dominates bundle.links b) children) (ids_at bundle.levels lower)

pub child_more : (bundle : BundleParts) (lower : ℕ) (children : List ItemId) (child : ItemId) (row new : List Bool) →
    row ≡ children_row bundle lower children → new ≡ either row (child_row bundle lower child) →
    new ≡ children_row bundle lower (children ++ child ∷ [])
child_more bundle lower children child row new is step =
    step ∙ ap (λ r. either r (child_row bundle lower child)) is
    ∙ zip2-map (λ a b. a || b) (λ b. list_any (is_or_dominates bundle.links b) children) (λ b. is_or_dominates bundle.links b child)
    (ids_at bundle.levels lower)
    ∙ same_row (λ b. list_any (is_or_dominates bundle.links b) children || is_or_dominates bundle.links b child)
    (λ b. list_any (is_or_dominates bundle.links b) (children ++ child ∷ [])) (ids_at bundle.levels lower)
    (λ b there. sym (list_any-append (is_or_dominates bundle.links b) children (child ∷ [])
    ∙ ap (λ x. list_any (is_or_dominates bundle.links b) children || x) (or_false (is_or_dominates bundle.links b child))))

-- no child yet
pub first_row : (bundle : BundleParts) (lower n : ℕ) → length (ids_at bundle.levels lower) ≡ n → replicate n false ≡ children_row bundle lower []
first_row bundle lower n long = splat_is_map (ids_at bundle.levels lower) n false long

-- all children
pub whole_row : (bundle : BundleParts) (lower : ℕ) (item : ItemId) (row : List Bool) → row ≡ children_row bundle lower (children_of item bundle.links) →
    row ≡ closure_row bundle.links (ids_at bundle.levels lower) item.0
whole_row bundle lower item row is =
    is ∙ same_row (λ b. list_any (is_or_dominates bundle.links b) (children_of item bundle.links)) (dominates bundle.links item.0)
    (ids_at bundle.levels lower) (λ b there. sym (by_first_links bundle.links item b))

pub ids_count : (levels : List Level) (n : ℕ) (level : Level) → slice_get levels n ≡ Some level → length (ids_at levels n) ≡ length level.items
ids_count levels n level at =
    ap (λ o. length (option_map_or (λ (l : Level). ids_of l.items) o [])) at ∙ length-map level.items (λ (i : Item). i.id.0)

-- the levels of an item and of one of its children
pub child_levels : (bundle : BundleParts) (item child : ItemId) (before rest : List ItemId) → KeepsBundleRules bundle →
    before ++ child ∷ rest ≡ children_of item bundle.links →
    AreAbove bundle.definitions (level_of_id bundle.levels) item.0 child.0
child_levels bundle item child before rest rules is =
    let among : list_any (λ (i : ItemId). i.0 == child.0) (before ++ child ∷ rest) ≡ true =
    list_any-append (λ (i : ItemId). i.0 == child.0) before (child ∷ rest)
    ∙ or_right _ _ (or_left (child.0 == child.0) _ (eq-eqb child.0 child.0 refl)) in
    let found : Child bundle.links item.0 (λ i. i.0 == child.0) =
    child_of bundle.links item (λ i. i.0 == child.0) (ap (list_any (λ (i : ItemId). i.0 == child.0)) (sym is) ∙ among) in
    links_above bundle.definitions (level_of_id bundle.levels) bundle.links item.0 child.0 rules.linked.between
    (ap (links_to bundle.links item.0) (sym (eqb-true found.id.0 child.0 found.passes)) ∙ found.there)

-- the children so far and those that are left
pub children_split : (before left rest : List ItemId) (child : ItemId) → left ≡ child ∷ rest → before ++ child ∷ rest ≡ before ++ left
children_split before left rest child is = ap (λ ids. before ++ ids) (sym is)

pub children_end : (before left rest : List ItemId) (child : ItemId) → left ≡ child ∷ rest → (before ++ child ∷ []) ++ rest ≡ before ++ left
children_end before left rest child is = append_assoc before (child ∷ []) rest ∙ ap (λ ids. before ++ ids) (sym is)

pub is_some_at : (o : Option ℕ) (n : ℕ) → o ≡ Some n → IsSome o
is_some_at o n is = ap is_some is

-- what is there below an item's level is there at the level of its child
pub made_at_child : (bundle : BundleParts) (lower : ℕ) (table : List (List (List Bool))) (a b : ℕ) →
    AreAbove bundle.definitions (level_of_id bundle.levels) a b → AreMadeBelowItem bundle lower table a → AreMadeAtItem bundle lower table b
made_at_child bundle lower table a b levels made = λ n at above.
    let same : levels.lower ≡ n = some_same levels.lower n (sym levels.to ∙ at) in
    let within : n < length bundle.levels = number_within b bundle.levels (Some n) (sym at) in
    made levels.upper levels.from n within (ap (is_above bundle.definitions levels.upper) (sym same) ∙ levels.above) above
  where
    some_same : (x y : ℕ) → Some x ≡ Some y → x ≡ y
    some_same x y e = cc

pub no_more : (before left : List ItemId) → left ≡ [] → before ≡ before ++ left
no_more before left is = sym (ap (λ ids. before ++ ids) is ∙ append-nil before)

-- ---- the rows of a level

-- the level of an item that stands on it
pub id_level : (bundle : BundleParts) (n : ℕ) (level : Level) (items : List Item) (k : ℕ) (item : Item) → KeepsBundleRules bundle →
    slice_get bundle.levels n ≡ Some level → items ≡ level.items → k < length items → item ≡ get_or items k item →
    level_of_id bundle.levels item.id.0 ≡ Some n
id_level bundle n level items k item rules at same within is =
    let there : slice_get items k ≡ Some item = slice_get-get_or items k item within ∙ ap (λ x. Some x) (sym is) in
    let own : slice_get (ids_at bundle.levels n) k ≡ Some item.id.0 =
    ap (λ o. slice_get (option_map_or (λ (l : Level). ids_of l.items) o []) k) at
    ∙ slice_get-map (λ (i : Item). i.id.0) level.items k
    ∙ ap (λ xs. option_map (λ (i : Item). i.id.0) (slice_get xs k)) (sym same)
    ∙ ap (option_map (λ (i : Item). i.id.0)) there in
    level_is bundle.levels n item.id.0 rules.apart (is_there (ids_at bundle.levels n) k item.id.0 own)

-- what is there below a level is there below its items
pub made_at_item : (bundle : BundleParts) (lower : ℕ) (table : List (List (List Bool))) (level q : ℕ) →
    AreMadeBelow bundle lower table level → level_of_id bundle.levels q ≡ Some level → AreMadeBelowItem bundle lower table q
made_at_item bundle lower table level q made at = λ n own m within above below.
    let same : n ≡ level = same_some n level (sym own ∙ at) in
    made m within (ap (λ k. is_above bundle.definitions k m) (sym same) ∙ above) below
  where
    same_some : (x y : ℕ) → Some x ≡ Some y → x ≡ y
    same_some x y e = cc

rows_by_ids : (f : ℕ → List Bool) (items : List Item) → map (λ i. f i.id.0) items ≡ map f (ids_of items)
rows_by_ids f [] = refl
rows_by_ids f (i ∷ items) = ap (λ rows. f i.id.0 ∷ rows) (rows_by_ids f items)

pub whole_level : (bundle : BundleParts) (lower n : ℕ) (level : Level) (items : List Item) (k : ℕ) →
    slice_get bundle.levels n ≡ Some level → items ≡ level.items → length items ≤ k →
    map (λ i. closure_row bundle.links (ids_at bundle.levels lower) i.id.0) (take k items) ≡ closure_of bundle lower n
whole_level bundle lower n level items k at same past =
    ap (map (λ i. closure_row bundle.links (ids_at bundle.levels lower) i.id.0)) (take_all k items past ∙ same)
    ∙ rows_by_ids (closure_row bundle.links (ids_at bundle.levels lower)) level.items
    ∙ sym (ap (λ o. closure_rows bundle.links (ids_at bundle.levels lower) (option_map_or (λ (l : Level). ids_of l.items) o [])) at)
