-- The place of the link of a pair, in a block and among all links.
use Rattle.std.proofs.Common.{◌≡◌, ℕ, zero, suc, ◌+◌, ◌<◌, ◌≤◌, Bool, true, false, ◌||◌, not, cond, nat_lt, List, [], ◌∷◌, ◌++◌, length, take, drop, get_or, Option, Some, None, is_some, refl, sym, ap, ◌∙◌, length-append, add-one, arith}
use Rattle.std.specs.List.{list_any, slice_get, position, position_or_len}
use Rattle.std.proofs.lemmas.List.{drop_all}
use Rattle.std.proofs.lemmas.List.Folds.{list_any-append}
use Rattle.std.proofs.lemmas.List.Quantifiers.{position-Some}
use Rattle.std.proofs.lemmas.Bool.{ltb-false}
use Rattle.std.proofs.lemmas.Option.{slice_get-get_or, slice_get_within}
use Rattle.emu_names.specs.declared.kinds.ItemId.{ItemId}
use Rattle.link_graph.specs.declared.link.Link.{Link}
use Rattle.link_graph.specs.Inner.Blocks.{joined}
use Rattle.link_graph.specs.Inner.Link.{IsPairPlace}
use Rattle.link_graph.specs.Link.{joins, link_of}
use Rattle.link_graph.proofs.Joined.{front_is, joined_at, get_left, get_right}
use Rattle.link_graph.proofs.Placed.{get_any}

-- what passes at a place passes in the list
any_at : {A : Type 0} (p : A → Bool) (xs : List A) (k : ℕ) (x : A) → slice_get xs k ≡ Some x → p x ≡ true → list_any p xs ≡ true
any_at p [] k x at passes = absurd cc
any_at p (y ∷ ys) zero x at passes =
    let same : y ≡ x = cc in
    ap (λ b. b || list_any p ys) (ap p same ∙ passes)
any_at p (y ∷ ys) (suc k) x at passes = ap (λ b. p y || b) (any_at p ys k x at passes) ∙ or_last (p y)
  where
    or_last : (b : Bool) → (b || true) ≡ true
    or_last true = refl
    or_last false = refl

-- where the first place is past the end, nothing passes
none_behind : {A : Type 0} (p : A → Bool) (xs : List A) → length xs ≤ position_or_len p xs → list_any p xs ≡ false
none_behind p [] past = refl
none_behind p (x ∷ xs) past = by (p x) refl (none_behind p xs)
  where
    at : (b : Bool) → p x ≡ b → position_or_len p (x ∷ xs) ≡ cond (not b) (1 + position_or_len p xs) 0
    at b is = ap (λ c. cond (not c) (1 + position_or_len p xs) 0) is

    by : (b : Bool) → p x ≡ b → (length xs ≤ position_or_len p xs → list_any p xs ≡ false) → list_any p (x ∷ xs) ≡ false
    by true is rest =
        let first = at true is in
        absurd (omega (arith, first, past))
    by false is rest =
        let later = at false is in
        ap (λ b. b || list_any p xs) is ∙ rest (omega (arith, later, past))

none_passes : {A : Type 0} (p : A → Bool) (xs : List A) → position p xs ≡ None → list_any p xs ≡ false
none_passes p xs none = none_behind p xs (by (nat_lt (position_or_len p xs) (length xs)) refl none)
  where
    by : (b : Bool) → nat_lt (position_or_len p xs) (length xs) ≡ b → cond b (Some (position_or_len p xs)) None ≡ None → length xs ≤ position_or_len p xs
    by true is none = absurd cc
    by false is none = ltb-false (position_or_len p xs) (length xs) is

-- the first link that passes gives the place
pub pair_place : (from to : ItemId) (links : List Link) (o : Option ℕ) → o ≡ position (joins from to) links → IsPairPlace from to links o
pair_place from to links None is = none_passes (joins from to) links (sym is)
pair_place from to links (Some place) is =
    let found = position-Some (joins from to) links place (link_of 0 from to) (sym is) in
    (get_or links place (link_of 0 from to), slice_get-get_or links place (link_of 0 from to) found.0, found.1)

-- a pair has a place where it is there
pub is_placed : (from to : ItemId) (links : List Link) (o : Option ℕ) → IsPairPlace from to links o → is_some o ≡ list_any (joins from to) links
is_placed from to links None none = sym none
is_placed from to links (Some place) there = sym (any_at (joins from to) links place there.0 there.1 there.2)

-- the same of the first place of a link of the pair
pub is_found : (from to : ItemId) (links : List Link) (o : Option ℕ) → o ≡ position (joins from to) links → is_some o ≡ list_any (joins from to) links
is_found from to links o is = is_placed from to links o (pair_place from to links o is)

-- the links before a block are not too many
pub few_before : (blocks before : List (List Link)) (at most : ℕ) → at < length blocks → before ≡ take at blocks → length (joined blocks) ≤ most → length (joined before) ≤ most
few_before blocks before at most within is few =
    let whole = ap length (joined_at blocks at within) ∙ length-append (joined (take at blocks)) (get_or blocks at [] ++ joined (drop (suc at) blocks)) in
    let same : length (joined before) ≡ length (joined (take at blocks)) = ap (λ bs. length (joined bs)) is in
    omega (arith, whole, same, few)

-- nor with those before a link of the block
pub places_fit : (from to : ItemId) (blocks before : List (List Link)) (block : List Link) (at place total most : ℕ) → at < length blocks → block ≡ get_or blocks at block →
    IsPairPlace from to block (Some place) → before ≡ take at blocks → total ≡ length (joined before) → length (joined blocks) ≤ most → total + place ≤ most
places_fit from to blocks before block at place total most within here there is counted few =
    let front = joined (take at blocks) in
    let behind = joined (drop (suc at) blocks) in
    let whole = ap length (joined_at blocks at within) ∙ length-append front (get_or blocks at [] ++ behind) in
    let right = length-append (get_or blocks at []) behind in
    let same : length (joined before) ≡ length front = ap (λ bs. length (joined bs)) is in
    let own : length (get_or blocks at []) ≡ length block = ap length (get_any blocks at [] block within ∙ sym here) in
    let inside = slice_get_within block place there.0 there.1 in
    omega (arith, whole, right, same, own, inside, counted, few)

-- the place in a block, behind the links of the blocks before it
pub pair_in_all : (from to : ItemId) (blocks before : List (List Link)) (block : List Link) (at place total : ℕ) → at < length blocks → block ≡ get_or blocks at block →
    IsPairPlace from to block (Some place) → before ≡ take at blocks → total ≡ length (joined before) → IsPairPlace from to (joined blocks) (Some (total + place))
pair_in_all from to blocks before block at place total within here there is counted =
    let front = joined (take at blocks) in
    let behind = joined (drop (suc at) blocks) in
    let own : get_or blocks at [] ≡ block = get_any blocks at [] block within ∙ sym here in
    let so_far : length front + place ≡ total + place = ap (λ n. n + place) (sym (counted ∙ ap (λ bs. length (joined bs)) is)) in (
      there.0,
      ap (λ ls. slice_get ls (total + place)) (joined_at blocks at within ∙ ap (λ b. front ++ (b ++ behind)) own)
          ∙ get_right front (block ++ behind) (total + place) place so_far
          ∙ get_left block behind place (slice_get_within block place there.0 there.1)
          ∙ there.1,
      there.2,
    )

-- a block that has the link gives its place
pub no_pair_there : (from to : ItemId) (blocks : List (List Link)) (block all : List Link) (at : ℕ) → at < length blocks → block ≡ get_or blocks at block →
    list_any (joins from to) (get_or blocks at []) ≡ true → IsPairPlace from to block None → IsPairPlace from to all None
no_pair_there from to blocks block all at within here there none =
    absurd (clash (sym none ∙ ap (list_any (joins from to)) (here ∙ sym (get_any blocks at [] block within)) ∙ there))
  where
    clash : false ≡ true → ⊥
    clash h = cc

-- behind all blocks there is none
pub pair_past : (from to : ItemId) (blocks : List (List Link)) (at : ℕ) (b : Bool) → length blocks ≤ at → list_any (joins from to) (joined (drop at blocks)) ≡ b → b ≡ false
pair_past from to blocks at b past is = sym is ∙ ap (λ bs. list_any (joins from to) (joined bs)) (drop_all at blocks past)

-- a block without it is passed
pub pair_passed : (from to : ItemId) (blocks : List (List Link)) (block seen : List Link) (at : ℕ) (o : Option ℕ) → at < length blocks → block ≡ get_or blocks at block → seen ≡ block →
    o ≡ position (joins from to) seen → is_some o ≡ false → list_any (joins from to) (joined (drop (at + 1) blocks)) ≡ list_any (joins from to) (joined (drop at blocks))
pair_passed from to blocks block seen at o within here same is none =
    let j = joins from to in
    let absent : list_any j block ≡ false = sym (is_found from to block o (is ∙ ap (position j) same)) ∙ none in
    ap (λ n. list_any j (joined (drop n blocks))) (add-one at)
    ∙ sym (ap (λ bs. list_any j (joined bs)) (front_is blocks at block within here)
    ∙ list_any-append j block (joined (drop (suc at) blocks))
    ∙ ap (λ b. b || list_any j (joined (drop (suc at) blocks))) absent)
