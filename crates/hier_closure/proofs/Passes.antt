-- The rows of links between two levels: a pass over the links of a bundle, which sets their bits.
use Rattle.std.proofs.Common.{◌≡◌, ◌≢◌, ℕ, zero, suc, ◌+◌, ◌<◌, Bool, true, false, not, ◌&&◌, ◌||◌, ◌==◌, List, [], ◌∷◌, length, map, get_or, take, replicate, refl, sym, ap, ◌∙◌, subst, Option, Some, None, arith, ⊎_elim, slice_set, option_map, Result, Ok, Err, IfOk, IfSome, Bor}
use Rattle.std.specs.Prelude.{IsSome}
use Rattle.std.specs.List.{slice_get, All}
use Rattle.std.proofs.lemmas.Bool.{and_parts, not-true, cases_Bool, eqb-true, eq-eqb}
use Rattle.std.proofs.lemmas.Simd.{zip2-map, splat_is_map}
use Rattle.std.proofs.lemmas.List.{length-map}
use Rattle.std.proofs.lemmas.List.Elements.{All-head, All-nil, All-tail}
use Rattle.std.proofs.lemmas.List.Folds.{list_any_more}
use Rattle.std.proofs.lemmas.Option.{slice_get-map, slice_get_within, get_or_from_slice_get}
use Rattle.link_graph.specs.declared.link.Link.{Link}
use Rattle.link_graph.specs.Index.{is_pair}
use Rattle.db_config.specs.declared.parts.ConfigParts.{ConfigParts}
use Rattle.db_config.specs.Above.{is_above}
use Rattle.level_items.specs.Levels.{Level, are_different}
use Rattle.bundle_state.specs.Bundle.{BundleParts, level_of_id, place_of}
use Rattle.bundle_state.specs.Built.{FitsConfig}
use Rattle.bundle_state.specs.Linked.{IsBetween}
use Rattle.bundle_state.specs.Valid.{KeepsBundleRules}
use Rattle.bundle_state.proofs.IdLevels.{number_within}
use Rattle.hier_closure.specs.Dominance.{links_to, dominates, ids_at, closure_row, closure_of}
use Rattle.hier_closure.specs.Inner.Ranks.{any_between}
use Rattle.hier_closure.specs.Inner.Linked.{AreLinkedIn, LeadsAside, linked_row, linked_of}
use Rattle.hier_closure.specs.declared.linked.LinkedLevels.{LinkedLevels}
use Rattle.hier_closure.proofs.Ways.{Way, pair_from, pair_to, same_truth}
use Rattle.hier_closure.proofs.Ways as ways
use Rattle.hier_closure.proofs.Ids.{is_in, level_is, ids_different, Stands, some_place, stands, missing}
use Rattle.hier_closure.proofs.Heights.{AreAbove, links_above, way_above, same_count}
use Rattle.hier_closure.proofs.Joins.{same_row, one_bit, is_there, is_some_at}
use Rattle.hier_closure.proofs.Tables.{lies_between, some_between}

some_number : (n m : ℕ) (o : Option ℕ) → o ≡ Some n → o ≡ Some m → n ≡ m
some_number n m o p q = cc

-- ---- a link more

pub at_place : (links same : List Link) (place : ℕ) (link : Link) → same ≡ links → slice_get same place ≡ Some link → slice_get links place ≡ Some link
at_place links same place link is at = ap (λ l. slice_get l place) (sym is) ∙ at

no_pair : (bundle : BundleParts) (upper lower : ℕ) (link : Link) (a b : ℕ) → KeepsBundleRules bundle → LeadsAside bundle upper lower link →
    is_in a (ids_at bundle.levels upper) ≡ true → is_in b (ids_at bundle.levels lower) ≡ true → is_pair a b link ≡ false
no_pair bundle upper lower link a b rules aside above below =
    ⊎_elim
    (λ (h : is_pair a b link ≡ true).
    absurd (aside
    (ap (level_of_id bundle.levels) (pair_from link a b h) ∙ level_is bundle.levels upper a rules.apart above)
    (ap (level_of_id bundle.levels) (pair_to link a b h) ∙ level_is bundle.levels lower b rules.apart below)))
    (λ (h : is_pair a b link ≡ false). h)
    (cases_Bool (is_pair a b link))

all_at : {A : Type 0} (P : A → Type 0) (xs : List A) (k : ℕ) (x : A) → All P xs → slice_get xs k ≡ Some x → P x
all_at P [] k x all at = absurd cc
all_at P (y ∷ xs) zero x all at = let own : y ≡ x = cc in subst (λ z. P z) own (All-head P y xs all)
all_at P (y ∷ xs) (suc k) x all at = all_at P xs k x (All-tail P y xs all) at

-- both ends of a link are items
pub is_between : (bundle : BundleParts) (place : ℕ) (link : Link) → KeepsBundleRules bundle → slice_get bundle.links place ≡ Some link →
    IsBetween bundle.definitions (level_of_id bundle.levels) link
is_between bundle place link rules at =
    all_at (IsBetween bundle.definitions (level_of_id bundle.levels)) bundle.links place link rules.linked.between at

pub ends_there : (bundle : BundleParts) (place : ℕ) (link : Link) → KeepsBundleRules bundle → slice_get bundle.links place ≡ Some link →
    IsSome (level_of_id bundle.levels link.from.0) × IsSome (level_of_id bundle.levels link.to.0)
ends_there bundle place link rules at =
    let between : IsBetween bundle.definitions (level_of_id bundle.levels) link = is_between bundle place link rules at in (
      is_some_at (level_of_id bundle.levels link.from.0) between.def.upper between.from,
      is_some_at (level_of_id bundle.levels link.to.0) between.def.lower between.to,
    )

-- an item that is looked up stands on its level
pub on_level : (levels : List Level) (n q m p : ℕ) → IsSome (level_of_id levels q) → some_place m p ≡ place_of levels q → m ≡ n →
    slice_get (ids_at levels n) p ≡ Some q
on_level levels n q m p there place same = subst (λ k. slice_get (ids_at levels k) p ≡ Some q) same (stands levels q m p there place).at

pub elsewhere : (levels : List Level) (n q m p : ℕ) → some_place m p ≡ place_of levels q → m ≢ n → level_of_id levels q ≢ Some n
elsewhere levels n q m p place other = λ level.
    let found : Stands levels q m p = stands levels q m p (is_some_at (level_of_id levels q) n level) place in
    other (some_number m n (level_of_id levels q) found.level level)

pub nowhere : (levels : List Level) (n q : ℕ) → place_of levels q ≡ None → level_of_id levels q ≢ Some n
nowhere levels n q place = λ level. missing levels q (is_some_at (level_of_id levels q) n level) place

or_none : (b : Bool) → (b || false) ≡ b
or_none true = refl
or_none false = refl

link_more : (links : List Link) (place : ℕ) (link : Link) (a b : ℕ) → slice_get links place ≡ Some link →
    links_to (take (place + 1) links) a b ≡ (links_to (take place links) a b || is_pair a b link)
link_more links place link a b at =
    list_any_more (is_pair a b) links place link (slice_get_within links place link at)
    ∙ ap (λ l. links_to (take place links) a b || is_pair a b l) (get_or_from_slice_get links place link link at)

-- no bit, where the link does not lead from the one level to the other
pub pass_by : (bundle : BundleParts) (upper lower place : ℕ) (link : Link) → KeepsBundleRules bundle →
    slice_get bundle.links place ≡ Some link → LeadsAside bundle upper lower link →
    linked_of bundle upper lower (take place bundle.links) ≡ linked_of bundle upper lower (take (place + 1) bundle.links)
pass_by bundle upper lower place link rules at aside =
    same_row (linked_row (take place bundle.links) (ids_at bundle.levels lower))
    (linked_row (take (place + 1) bundle.links) (ids_at bundle.levels lower)) (ids_at bundle.levels upper)
    (λ a above. same_row (links_to (take place bundle.links) a) (links_to (take (place + 1) bundle.links) a) (ids_at bundle.levels lower)
    (λ b below. sym (link_more bundle.links place link a b at
    ∙ ap (λ x. links_to (take place bundle.links) a b || x) (no_pair bundle upper lower link a b rules aside above below)
    ∙ or_none (links_to (take place bundle.links) a b))))

differ : (x y : ℕ) (xs : List ℕ) → is_in x xs ≡ false → is_in y xs ≡ true → (x == y) ≡ false
differ x y xs out there =
    ⊎_elim
    (λ (h : (x == y) ≡ true).
    let never : is_in x xs ≡ true = ap (λ n. is_in n xs) (eqb-true x y h) ∙ there in
    absurd cc)
    (λ (h : (x == y) ≡ false). h) (cases_Bool (x == y))

differ_back : (x y : ℕ) (xs : List ℕ) → is_in x xs ≡ false → is_in y xs ≡ true → (y == x) ≡ false
differ_back x y xs out there =
    ⊎_elim
    (λ (h : (y == x) ≡ true).
    let never : is_in x xs ≡ true = ap (λ n. is_in n xs) (sym (eqb-true y x h)) ∙ there in
    absurd cc)
    (λ (h : (y == x) ≡ false). h) (cases_Bool (y == x))

-- one row of all changes
one_row : (f g : ℕ → List Bool) (xs : List ℕ) (p q : ℕ) → are_different xs ≡ true → slice_get xs p ≡ Some q →
    ((x : ℕ) → (q == x) ≡ false → f x ≡ g x) → slice_set (map f xs) p (g q) ≡ map g xs
one_row f g [] p q apart at each = absurd cc
one_row f g (x ∷ xs) zero q apart at each =
    let parts = and_parts (not (is_in x xs)) (are_different xs) apart in
    let own : x ≡ q = cc in
    let out : is_in q xs ≡ false = subst (λ n. is_in n xs ≡ false) own (not-true _ parts.0) in
    let first : g q ≡ g x = ap g (sym own) in
    let rest : map f xs ≡ map g xs = same_row f g xs (λ y there. each y (differ q y xs out there)) in
    ap (λ r. r ∷ map f xs) first ∙ ap (λ rows. g x ∷ rows) rest
one_row f g (x ∷ xs) (suc p) q apart at each =
    let parts = and_parts (not (is_in x xs)) (are_different xs) apart in
    let out : is_in x xs ≡ false = not-true _ parts.0 in
    let first : f x ≡ g x = each x (differ_back x q xs out (is_there xs p q at)) in
    let rest : slice_set (map f xs) p (g q) ≡ map g xs = one_row f g xs p q parts.1 at each in
    ap (λ r. r ∷ slice_set (map f xs) p (g q)) first ∙ ap (λ rows. g x ∷ rows) rest

same_pair_from : (link : Link) (b : ℕ) → is_pair link.from.0 b link ≡ (link.to.0 == b)
same_pair_from link b = ap (λ x. x && (link.to.0 == b)) (eq-eqb link.from.0 link.from.0 refl)

other_pair : (link : Link) (a b : ℕ) → (link.from.0 == a) ≡ false → is_pair a b link ≡ false
other_pair link a b other = ap (λ x. x && (link.to.0 == b)) other

-- the row of the upper item of a link
own_row : (links : List Link) (lowers : List ℕ) (place q : ℕ) (link : Link) → slice_get links place ≡ Some link → are_different lowers ≡ true →
    slice_get lowers q ≡ Some link.to.0 →
    slice_set (linked_row (take place links) lowers link.from.0) q true ≡ linked_row (take (place + 1) links) lowers link.from.0
own_row links lowers place q link at apart there =
    one_bit (linked_row (take place links) lowers link.from.0) lowers q link.to.0 apart there
    (length-map lowers (links_to (take place links) link.from.0))
    ∙ zip2-map (λ a b. a || b) (links_to (take place links) link.from.0) (λ b. link.to.0 == b) lowers
    ∙ same_row (λ b. links_to (take place links) link.from.0 b || (link.to.0 == b)) (links_to (take (place + 1) links) link.from.0) lowers
    (λ b below. sym (link_more links place link link.from.0 b at
    ∙ ap (λ x. links_to (take place links) link.from.0 b || x) (same_pair_from link b)))

-- the row that stands at a position
pub row_at : (bundle : BundleParts) (upper lower : ℕ) (links : List Link) (p a : ℕ) → slice_get (ids_at bundle.levels upper) p ≡ Some a →
    get_or (linked_of bundle upper lower links) p [] ≡ linked_row links (ids_at bundle.levels lower) a
row_at bundle upper lower links p a at =
    get_or_from_slice_get (linked_of bundle upper lower links) p (linked_row links (ids_at bundle.levels lower) a) []
    (slice_get-map (linked_row links (ids_at bundle.levels lower)) (ids_at bundle.levels upper) p
    ∙ ap (option_map (linked_row links (ids_at bundle.levels lower))) at)

-- some rows, of which one has a bit more
abbrev pub with_bit : ℕ → ℕ → List (List Bool) → List (List Bool)
with_bit p q rows = slice_set rows p (slice_set (get_or rows p []) q true)

pub row_within : (bundle : BundleParts) (upper lower : ℕ) (place p a : ℕ) (rows : List (List Bool)) →
    rows ≡ linked_of bundle upper lower (take place bundle.links) → slice_get (ids_at bundle.levels upper) p ≡ Some a → p < length rows
row_within bundle upper lower place p a rows made at =
    let long : length rows ≡ length (ids_at bundle.levels upper) =
    ap length made ∙ length-map (ids_at bundle.levels upper) (linked_row (take place bundle.links) (ids_at bundle.levels lower)) in
    let within : p < length (ids_at bundle.levels upper) = slice_get_within (ids_at bundle.levels upper) p a at in
    omega arith

pub bit_within : (bundle : BundleParts) (upper lower : ℕ) (place p q a b : ℕ) (rows : List (List Bool)) →
    rows ≡ linked_of bundle upper lower (take place bundle.links) → slice_get (ids_at bundle.levels upper) p ≡ Some a →
    slice_get (ids_at bundle.levels lower) q ≡ Some b → q < length (get_or rows p [])
bit_within bundle upper lower place p q a b rows made at below =
    let wide : length (get_or rows p []) ≡ length (ids_at bundle.levels lower) =
    ap (λ (r : List (List Bool)). length (get_or r p [])) made ∙ ap length (row_at bundle upper lower (take place bundle.links) p a at)
    ∙ length-map (ids_at bundle.levels lower) (links_to (take place bundle.links) a) in
    let within : q < length (ids_at bundle.levels lower) = slice_get_within (ids_at bundle.levels lower) q b below in
    omega arith

-- one bit, where the link is of the definition
pub pass_one : (bundle : BundleParts) (upper lower : ℕ) (place p q : ℕ) (link : Link) → KeepsBundleRules bundle →
    slice_get bundle.links place ≡ Some link → slice_get (ids_at bundle.levels upper) p ≡ Some link.from.0 →
    slice_get (ids_at bundle.levels lower) q ≡ Some link.to.0 →
    with_bit p q (linked_of bundle upper lower (take place bundle.links)) ≡ linked_of bundle upper lower (take (place + 1) bundle.links)
pass_one bundle upper lower place p q link rules at above below =
    let lowers = ids_at bundle.levels lower in
    ap (λ row. slice_set (linked_of bundle upper lower (take place bundle.links)) p (slice_set row q true))
    (row_at bundle upper lower (take place bundle.links) p link.from.0 above)
    ∙ ap (slice_set (linked_of bundle upper lower (take place bundle.links)) p)
    (own_row bundle.links lowers place q link at (ids_different bundle.levels lower rules.apart) below)
    ∙ one_row (linked_row (take place bundle.links) lowers) (linked_row (take (place + 1) bundle.links) lowers) (ids_at bundle.levels upper)
    p link.from.0 (ids_different bundle.levels upper rules.apart) above
    (λ a other. same_row (links_to (take place bundle.links) a) (links_to (take (place + 1) bundle.links) a) lowers
    (λ b there. sym (link_more bundle.links place link a b at
    ∙ ap (λ x. links_to (take place bundle.links) a b || x) (other_pair link a b other)
    ∙ or_none (links_to (take place bundle.links) a b))))

-- ---- no link, and all links

pub no_link : (bundle : BundleParts) (upper lower : ℕ) (count width : ℕ) → length (ids_at bundle.levels upper) ≡ count →
    length (ids_at bundle.levels lower) ≡ width → replicate count (replicate width false) ≡ linked_of bundle upper lower []
no_link bundle upper lower count width long wide =
    ap (replicate count) (splat_is_map (ids_at bundle.levels lower) width false wide)
    ∙ splat_is_map (ids_at bundle.levels upper) count (map (λ _. false) (ids_at bundle.levels lower)) long

-- where no level lies between, an item dominates those that it links to, and no other of the lower level
only_linked : (bundle : BundleParts) (upper lower a b : ℕ) → KeepsBundleRules bundle →
    any_between bundle.definitions (length bundle.levels) upper lower ≡ false → level_of_id bundle.levels a ≡ Some upper →
    level_of_id bundle.levels b ≡ Some lower → Way bundle.links a b → links_to bundle.links a b ≡ true
only_linked bundle upper lower a b rules none from to (ways.linked h) = h
only_linked bundle upper lower a b rules none from to (ways.further {b = m} h rest) =
    let step : AreAbove bundle.definitions (level_of_id bundle.levels) a m =
    links_above bundle.definitions (level_of_id bundle.levels) bundle.links a m rules.linked.between h in
    let onward : AreAbove bundle.definitions (level_of_id bundle.levels) m b =
    way_above bundle.definitions (level_of_id bundle.levels) bundle.links m b rules.linked.between rest in
    let first : step.upper ≡ upper = some_number step.upper upper (level_of_id bundle.levels a) step.from from in
    let mid : onward.upper ≡ step.lower = some_number onward.upper step.lower (level_of_id bundle.levels m) onward.from step.to in
    let last : onward.lower ≡ lower = some_number onward.lower lower (level_of_id bundle.levels b) onward.to to in
    let up : is_above bundle.definitions upper step.lower ≡ true =
    ap (λ n. is_above bundle.definitions n step.lower) (sym first) ∙ step.above in
    let down : is_above bundle.definitions step.lower lower ≡ true =
    ap (λ n. is_above bundle.definitions n lower) (sym mid) ∙ ap (is_above bundle.definitions onward.upper) (sym last) ∙ onward.above in
    let within : step.lower < length bundle.levels = number_within m bundle.levels (Some step.lower) (sym step.to) in
    let some : any_between bundle.definitions (length bundle.levels) upper lower ≡ true =
    some_between bundle.definitions (length bundle.levels) upper lower step.lower within
    (lies_between bundle.definitions upper lower step.lower up down) in
    absurd cc

same_bit : (bundle : BundleParts) (upper lower a b : ℕ) → KeepsBundleRules bundle →
    any_between bundle.definitions (length bundle.levels) upper lower ≡ false → level_of_id bundle.levels a ≡ Some upper →
    level_of_id bundle.levels b ≡ Some lower → links_to bundle.links a b ≡ dominates bundle.links a b
same_bit bundle upper lower a b rules none from to =
    same_truth (links_to bundle.links a b) (dominates bundle.links a b)
    (λ h. ways.complete bundle.links a b (ways.linked h))
    (λ h. only_linked bundle upper lower a b rules none from to (ways.sound bundle.links a b h))

-- ---- the rows of two levels between which no level lies

pub all_links : (config : ConfigParts) (bundle : BundleParts) (upper lower : ℕ) → FitsConfig config bundle →
    KeepsBundleRules bundle → any_between config.links (length config.levels) upper lower ≡ false →
    linked_of bundle upper lower bundle.links ≡ closure_of bundle lower upper
all_links config bundle upper lower fits rules none =
    let lowers = ids_at bundle.levels lower in
    let aside : any_between bundle.definitions (length bundle.levels) upper lower ≡ false =
    ap (λ defs. any_between defs (length bundle.levels) upper lower) fits.definitions
    ∙ ap (λ count. any_between config.links count upper lower) (sym (same_count config bundle fits)) ∙ none in
    same_row (linked_row bundle.links lowers) (closure_row bundle.links lowers) (ids_at bundle.levels upper)
    (λ a above. same_row (links_to bundle.links a) (dominates bundle.links a) lowers
    (λ b below. same_bit bundle upper lower a b rules aside (level_is bundle.levels upper a rules.apart above)
    (level_is bundle.levels lower b rules.apart below)))

-- where no rows are kept
pub linked_none : (bundle : BundleParts) → KeepsBundleRules bundle → AreLinkedIn bundle []
linked_none bundle rules = record {
  rules = rules;
  each = All-nil (λ (one : LinkedLevels). one.closure ≡ linked_of bundle one.upper one.lower bundle.links);
}

pub kept_rows : (config : ConfigParts) (all : List LinkedLevels) (upper lower : ℕ) (r : Option (Bor (List (List Bool)))) →
    any_between config.links (length config.levels) upper lower ≡ false →
    IfSome r (λ rows. (bundle : BundleParts) → AreLinkedIn bundle all → rows.now ≡ linked_of bundle upper lower bundle.links) →
    IfSome r (λ rows. (bundle : BundleParts) → FitsConfig config bundle → AreLinkedIn bundle all → rows.now ≡ closure_of bundle lower upper)
kept_rows config all upper lower None none is = tt
kept_rows config all upper lower (Some rows) none is =
    λ bundle fits linked. is bundle linked ∙ all_links config bundle upper lower fits linked.rules none

pub made_as : {T E : Type 0} (r : Result T E) (x y : T) → IfOk r (λ made. made ≡ x) → x ≡ y → IfOk r (λ made. made ≡ y)
made_as (Ok made) x y is same = is ∙ same
made_as (Err e) x y is same = tt
