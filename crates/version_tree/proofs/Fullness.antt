-- Neighbouring pages have more than 64 bundles together, also behind a change.
use Rattle.std.proofs.Common.{◌≡◌, ℕ, zero, suc, ◌-◌, ◌+◌, ◌<◌, ◌≤◌, Bool, true, false, nat_le, List, [], ◌∷◌, ◌++◌, length, take, drop, slice_get, Option, Some, None, refl, sym, ◌∙◌, ap, subst, arith, append_assoc, leb-true, leb-false, length-take, length-drop, length-append, le-leb}
use Rattle.bundle_index.specs.Index.{IndexParts}
use Rattle.version_tree.specs.Inner.Pages.{Each, IsPage, IsFullBeside, AreFull, pages_of, cut_unless}
use Rattle.version_tree.specs.Inner.Places.{has_room}
use Rattle.version_tree.proofs.Elements.{each_take, each_drop, each_at, split_at, take_next, drop_next}

-- Bundles as pages, by their number.

pub pages_none : (bundles : List IndexParts) → length bundles ≡ 0 → pages_of bundles ≡ []
pages_none [] is = refl
pages_none (x ∷ xs) is = absurd (omega (arith, is))

pub pages_one : (bundles : List IndexParts) → 1 ≤ length bundles → length bundles ≤ 128 → pages_of bundles ≡ bundles ∷ []
pages_one [] some few = absurd (omega (arith, some))
pages_one (x ∷ xs) some few = ap (λ (b : Bool). cut_unless b (x ∷ xs)) (le-leb (length (x ∷ xs)) 128 few)

pub pages_two : (bundles : List IndexParts) → 128 < length bundles → pages_of bundles ≡ take 64 bundles ∷ drop 64 bundles ∷ []
pages_two [] many = absurd (omega (arith, many))
pages_two (x ∷ xs) many = by (nat_le (length (x ∷ xs)) 128) refl
  where
    by : (b : Bool) → nat_le (length (x ∷ xs)) 128 ≡ b → cut_unless b (x ∷ xs) ≡ take 64 (x ∷ xs) ∷ drop 64 (x ∷ xs) ∷ []
    by true is = let few : length (x ∷ xs) ≤ 128 = leb-true (length (x ∷ xs)) 128 is in absurd (omega (arith, many, few))
    by false is = refl

-- Pages behind the same front.

pub full_behind : (front old new : List (List IndexParts)) → Each IsPage front →
    ((p : List IndexParts) → IsPage p → IsFullBeside p old → IsFullBeside p new) → (AreFull old → AreFull new) → AreFull (front ++ old) → AreFull (front ++ new)
full_behind [] old new sizes beside rest full = rest full
full_behind (p ∷ []) old new sizes beside rest full = (beside p sizes.0 full.0, rest full.1)
full_behind (p ∷ q ∷ front) old new sizes beside rest full = (full.0, full_behind (q ∷ front) old new sizes.1 beside rest full.1)

-- a page that is no smaller may stand in the place of another one
beside_more : (old new : List IndexParts) (pages : List (List IndexParts)) → length old ≤ length new → IsFullBeside old pages → IsFullBeside new pages
beside_more old new [] le full = tt
beside_more old new (a ∷ pages) le full = omega (arith, le, full)

-- what stands in the place of one page

pub full_put : (pages : List (List IndexParts)) (k : ℕ) (page bundles : List IndexParts) → slice_get pages k ≡ Some page → Each IsPage pages → AreFull pages →
    length page ≤ length bundles → length bundles ≤ 129 → AreFull (take k pages ++ (pages_of bundles ++ drop (suc k) pages))
full_put pages k page bundles at sizes full low few = by (nat_le (length bundles) 128) refl
  where
    front : Each IsPage (take k pages)
    front = each_take IsPage k pages sizes

    back : Each IsPage (drop (suc k) pages)
    back = each_drop IsPage (suc k) pages sizes

    some : 1 ≤ length page
    some = (each_at IsPage pages k page at sizes).some

    before : AreFull (take k pages ++ (page ∷ drop (suc k) pages))
    before = subst AreFull (split_at pages k page at) full

    one : AreFull (take k pages ++ ((bundles ∷ []) ++ drop (suc k) pages))
    one = full_behind (take k pages) (page ∷ drop (suc k) pages) (bundles ∷ drop (suc k) pages) front
        (λ p size is. omega (arith, low, is))
        (λ is. (beside_more page bundles (drop (suc k) pages) low is.0, is.1)) before

    last : (many : 128 < length bundles) (rest : List (List IndexParts)) → Each IsPage rest → IsFullBeside (drop 64 bundles) rest
    last many [] sized = tt
    last many (a ∷ rest) sized = let size = length-drop 64 bundles in let more = sized.0.some in omega (arith, many, size, more)

    two : 128 < length bundles → AreFull (take k pages ++ ((take 64 bundles ∷ drop 64 bundles ∷ []) ++ drop (suc k) pages))
    two many =
        let first = length-take 64 bundles in
        let second = length-drop 64 bundles in
        full_behind (take k pages) (page ∷ drop (suc k) pages) (take 64 bundles ∷ drop 64 bundles ∷ drop (suc k) pages) front
        (λ p size is. let more = size.some in omega (arith, many, first, more))
        (λ is. (omega (arith, many, first, second), (last many (drop (suc k) pages) back, is.1))) before

    by : (b : Bool) → nat_le (length bundles) 128 ≡ b → AreFull (take k pages ++ (pages_of bundles ++ drop (suc k) pages))
    by true is =
        subst (λ (ps : List (List IndexParts)). AreFull (take k pages ++ (ps ++ drop (suc k) pages)))
        (sym (pages_one bundles (omega (arith, some, low)) (leb-true (length bundles) 128 is))) one
    by false is =
        let many : 128 < length bundles = leb-false (length bundles) 128 is in
        subst (λ (ps : List (List IndexParts)). AreFull (take k pages ++ (ps ++ drop (suc k) pages))) (sym (pages_two bundles many)) (two many)

-- the page is joined with the one before it
pub full_before : (pages : List (List IndexParts)) (j : ℕ) (prev page left : List IndexParts) → slice_get pages j ≡ Some prev → slice_get pages (suc j) ≡ Some page →
    Each IsPage pages → AreFull pages → suc (length left) ≡ length page → length prev + length left ≤ 64 →
    AreFull (take j pages ++ (pages_of (prev ++ left) ++ drop (suc (suc j)) pages))
full_before pages j prev page left at there sizes full less room =
    subst (λ (ps : List (List IndexParts)). AreFull (take j pages ++ (ps ++ drop (suc (suc j)) pages)))
    (sym (pages_one (prev ++ left) (let long = length-append prev left in omega (arith, long, some)) (let long = length-append prev left in omega (arith, long, room))))
    (full_behind (take j pages) (prev ∷ page ∷ drop (suc (suc j)) pages) ((prev ++ left) ∷ drop (suc (suc j)) pages) (each_take IsPage j pages sizes)
    (λ p size is. let long = length-append prev left in omega (arith, long, is))
    (λ is. (beside_more page (prev ++ left) (drop (suc (suc j)) pages) (let long = length-append prev left in omega (arith, long, some, less)) is.1.0, is.1.1))
    before)
  where
    some : 1 ≤ length prev
    some = (each_at IsPage pages j prev at sizes).some

    before : AreFull (take j pages ++ (prev ∷ page ∷ drop (suc (suc j)) pages))
    before = subst AreFull (split_at pages j prev at ∙ ap (λ (ps : List (List IndexParts)). take j pages ++ prev ∷ ps) (drop_next pages (suc j) page there)) full

-- the page is joined with the one behind it
pub full_after : (pages : List (List IndexParts)) (k : ℕ) (page next left : List IndexParts) → slice_get pages k ≡ Some page → slice_get pages (suc k) ≡ Some next →
    Each IsPage pages → AreFull pages → suc (length left) ≡ length page → length next + length left ≤ 64 →
    AreFull (take k pages ++ (pages_of (left ++ next) ++ drop (suc (suc k)) pages))
full_after pages k page next left at there sizes full less room =
    subst (λ (ps : List (List IndexParts)). AreFull (take k pages ++ (ps ++ drop (suc (suc k)) pages)))
    (sym (pages_one (left ++ next) (let long = length-append left next in omega (arith, long, some)) (let long = length-append left next in omega (arith, long, room))))
    (full_behind (take k pages) (page ∷ next ∷ drop (suc (suc k)) pages) ((left ++ next) ∷ drop (suc (suc k)) pages) (each_take IsPage k pages sizes)
    (λ p size is. let long = length-append left next in omega (arith, long, is, less, some))
    (λ is. (beside_more next (left ++ next) (drop (suc (suc k)) pages) (let long = length-append left next in omega (arith, long)) is.1.0, is.1.1))
    before)
  where
    some : 1 ≤ length next
    some = (each_at IsPage pages (suc k) next there sizes).some

    before : AreFull (take k pages ++ (page ∷ next ∷ drop (suc (suc k)) pages))
    before = subst AreFull (split_at pages k page at ∙ ap (λ (ps : List (List IndexParts)). take k pages ++ page ∷ ps) (drop_next pages (suc k) next there)) full

-- no neighbour has room for the page

beside_no_room : (left : List IndexParts) (pages : List (List IndexParts)) (k : ℕ) → has_room (length left) (slice_get pages k) ≡ false → IsFullBeside left (drop k pages)
beside_no_room left [] zero is = tt
beside_no_room left [] (suc k) is = tt
beside_no_room left (a ∷ pages) zero is = let more : 64 < length a + length left = leb-false (length a + length left) 64 is in omega (arith, more)
beside_no_room left (a ∷ pages) (suc k) is = beside_no_room left pages k is

-- the pages behind, with those of what is left before them
full_left : (left : List IndexParts) (back : List (List IndexParts)) → length left ≤ 128 → IsFullBeside left back → AreFull back → AreFull (pages_of left ++ back)
full_left [] back few beside full = full
full_left (x ∷ xs) back few beside full =
    subst (λ (ps : List (List IndexParts)). AreFull (ps ++ back)) (sym (pages_one (x ∷ xs) (omega arith) few)) (beside, full)

beside_left : (prev left : List IndexParts) (back : List (List IndexParts)) → length left ≤ 128 → Each IsPage back → 64 < length prev + length left →
    IsFullBeside prev (pages_of left ++ back)
beside_left prev [] [] few sizes more = tt
beside_left prev [] (a ∷ back) few sizes more = omega (arith, more)
beside_left prev (x ∷ xs) back few sizes more =
    subst (λ (ps : List (List IndexParts)). IsFullBeside prev (ps ++ back)) (sym (pages_one (x ∷ xs) (omega arith) few)) more

tail_full : (page : List IndexParts) (front back : List (List IndexParts)) → AreFull (front ++ (page ∷ back)) → AreFull back
tail_full page [] back full = full.1
tail_full page (p ∷ front) back full = tail_full page front back full.1

pub full_alone : (pages : List (List IndexParts)) (k : ℕ) (page left : List IndexParts) → slice_get pages k ≡ Some page → Each IsPage pages → AreFull pages →
    suc (length left) ≡ length page → ((j : ℕ) → k ≡ suc j → has_room (length left) (slice_get pages j) ≡ false) →
    has_room (length left) (slice_get pages (suc k)) ≡ false → AreFull (take k pages ++ (pages_of left ++ drop (suc k) pages))
full_alone pages zero page left at sizes full less first second =
    full_left left (drop 1 pages) few (beside_no_room left pages 1 second) (tail_full page [] (drop 1 pages) (subst AreFull (split_at pages 0 page at) full))
  where
    few : length left ≤ 128
    few = let most = (each_at IsPage pages 0 page at sizes).most in omega (arith, most, less)
full_alone pages (suc j) page left at sizes full less first second = by (slice_get pages j) refl
  where
    few : length left ≤ 128
    few = let most = (each_at IsPage pages (suc j) page at sizes).most in omega (arith, most, less)

    back : List (List IndexParts)
    back = drop (suc (suc j)) pages

    after : Each IsPage back
    after = each_drop IsPage (suc (suc j)) pages sizes

    none_there : (ps : List (List IndexParts)) (m : ℕ) → slice_get ps (suc m) ≡ Some page → slice_get ps m ≡ None → ⊥
    none_there [] m there is = cc
    none_there (p ∷ ps) zero there is = cc
    none_there (p ∷ ps) (suc m) there is = none_there ps m there is

    with_prev : (prev : List IndexParts) → slice_get pages j ≡ Some prev → AreFull (take (suc j) pages ++ (pages_of left ++ back))
    with_prev prev is =
        let room : has_room (length left) (Some prev) ≡ false = ap (has_room (length left)) (sym is) ∙ first j refl in
        let more : 64 < length prev + length left = leb-false (length prev + length left) 64 room in
        let before : AreFull (take j pages ++ (prev ∷ page ∷ back)) =
        subst AreFull (split_at pages j prev is ∙ ap (λ (ps : List (List IndexParts)). take j pages ++ prev ∷ ps) (drop_next pages (suc j) page at)) full in
        let made : AreFull (take j pages ++ (prev ∷ (pages_of left ++ back))) =
        full_behind (take j pages) (prev ∷ page ∷ back) (prev ∷ (pages_of left ++ back)) (each_take IsPage j pages sizes) (λ p size beside. beside)
        (λ old. (beside_left prev left back few after more, full_left left back few (beside_no_room left pages (suc (suc j)) second) old.1.1)) before in
        subst AreFull (sym (ap (λ (ps : List (List IndexParts)). ps ++ (pages_of left ++ back)) (take_next pages j prev is)
        ∙ append_assoc (take j pages) (prev ∷ []) (pages_of left ++ back))) made

    by : (o : Option (List IndexParts)) → slice_get pages j ≡ o → AreFull (take (suc j) pages ++ (pages_of left ++ back))
    by None is = absurd (none_there pages j at is)
    by (Some prev) is = with_prev prev is
