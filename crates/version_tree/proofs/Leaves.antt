-- Pages: on which of them a key stands, and what they hold when one is changed.
use Rattle.std.proofs.Common.{◌≡◌, ℕ, zero, suc, ◌-◌, ◌+◌, ◌<◌, ◌≤◌, Bool, true, false, cond, not, nat_le, List, [], ◌∷◌, ◌++◌, length, take, drop, slice_get, Option, Some, None, refl, sym, ◌∙◌, ap, subst, arith, append_assoc, leb-true, leb-false, length-take, length-drop, length-append, le-leb}
use Rattle.std.specs.List.Sorted.{IsPartitionedBy}
use Rattle.std.proofs.lemmas.Bool.{true≢false, false≢true, not-true}
use Rattle.std.proofs.lemmas.List.{append-nil}
use Rattle.emu_names.specs.declared.names.BundleKey.{BundleKey}
use Rattle.bundle_index.specs.Index.{IndexParts}
use Rattle.edit_rules.specs.Database.{is_before}
use Rattle.edit_rules.proofs.KeyPlaces.{before_trans}
use Rattle.version_tree.specs.declared.change.Change.{Change}
use Rattle.version_tree.specs.Inner.Version.{indexed_with, others, put_indexed}
use Rattle.version_tree.specs.Inner.Pages.{Each, AreBefore, AreBehind, AreRising, IsPage, bundles_on, starts_by, pages_of, cut_unless, bundles_behind, pages_behind, KeepPages, IsChangeOf}
use Rattle.version_tree.specs.Inner.Places.{IsPageFor}
use Rattle.version_tree.proofs.Elements.{each_append, each_parts, each_map, each_take, each_drop, each_at, Pairs, split_by, split_at, take_next, drop_next, whole, get_first, get_second, drop_end}
use Rattle.version_tree.proofs.Orders.{AreParts, below, behind_of, rising_parts, others_between, put_between, found_between}

-- What pages hold.

pub on_append : (ps qs : List (List IndexParts)) → bundles_on (ps ++ qs) ≡ bundles_on ps ++ bundles_on qs
on_append [] qs = refl
on_append (p ∷ ps) qs =
    ap (λ (zs : List IndexParts). p ++ zs) (on_append ps qs) ∙ sym (append_assoc p (bundles_on ps) (bundles_on qs))

-- the bundles before a page, on it and behind it
pub on_split : (pages : List (List IndexParts)) (k : ℕ) (page : List IndexParts) → slice_get pages k ≡ Some page →
    bundles_on pages ≡ bundles_on (take k pages) ++ (page ++ bundles_on (drop (suc k) pages))
on_split pages k page at = ap bundles_on (split_at pages k page at) ∙ on_append (take k pages) (page ∷ drop (suc k) pages)

pub on_three : (ps : List (List IndexParts)) (bundles : List IndexParts) (rest : List (List IndexParts)) →
    bundles_on (pages_of bundles) ≡ bundles → bundles_on (ps ++ (pages_of bundles ++ rest)) ≡ bundles_on ps ++ (bundles ++ bundles_on rest)
on_three ps bundles rest same =
    on_append ps (pages_of bundles ++ rest)
    ∙ ap (λ (zs : List IndexParts). bundles_on ps ++ zs) (on_append (pages_of bundles) rest ∙ ap (λ (zs : List IndexParts). zs ++ bundles_on rest) same)

cut_holds : (b : Bool) (bundles : List IndexParts) → bundles_on (cut_unless b bundles) ≡ bundles
cut_holds true bundles = append-nil bundles
cut_holds false bundles =
    ap (λ (zs : List IndexParts). take 64 bundles ++ zs) (append-nil (drop 64 bundles)) ∙ sym (whole 64 bundles)

-- bundles as pages are these bundles
pub pages_hold : (bundles : List IndexParts) → bundles_on (pages_of bundles) ≡ bundles
pages_hold [] = refl
pages_hold (x ∷ xs) = cut_holds (nat_le (length (x ∷ xs)) 128) (x ∷ xs)

-- the bundles behind a change
pub change_holds : (pages : List (List IndexParts)) (change : Change) → bundles_on (pages_behind pages change) ≡ bundles_behind pages change
change_holds pages change =
    on_three (take change.from pages) change.bundles (drop change.to pages) (pages_hold change.bundles)

-- The sizes of pages.

cut_sized : (b : Bool) (bundles : List IndexParts) → nat_le (length bundles) 128 ≡ b → 1 ≤ length bundles → length bundles ≤ 129 → Each IsPage (cut_unless b bundles)
cut_sized true bundles is some few = (record { some = some; most = leb-true (length bundles) 128 is }, tt)
cut_sized false bundles is some few =
    let many : 128 < length bundles = leb-false (length bundles) 128 is in
    let front = length-take 64 bundles in
    let back = length-drop 64 bundles in
    (record { some = omega arith; most = omega arith }, (record { some = omega arith; most = omega arith }, tt))

pub pages_sized : (bundles : List IndexParts) → length bundles ≤ 129 → Each IsPage (pages_of bundles)
pages_sized [] few = tt
pages_sized (x ∷ xs) few = cut_sized (nat_le (length (x ∷ xs)) 128) (x ∷ xs) refl (omega arith) few

pub change_sized : (pages : List (List IndexParts)) (change : Change) → Each IsPage pages → length change.bundles ≤ 129 →
    Each IsPage (pages_behind pages change)
change_sized pages change sizes few =
    each_append IsPage (take change.from pages) (pages_of change.bundles ++ drop change.to pages)
    (each_take IsPage change.from pages sizes)
    (each_append IsPage (pages_of change.bundles) (drop change.to pages) (pages_sized change.bundles few) (each_drop IsPage change.to pages sizes))

-- The page of a key.

-- pages of which each key of the first stands before each key of the second
abbrev pub AreInTurn : List IndexParts → List IndexParts → Type 0
AreInTurn p q = (1 ≤ length p) × Each (λ x. AreBehind x.bundle.key q) p

spread : (p : List IndexParts) (ps : List (List IndexParts)) → 1 ≤ length p → Each (λ x. AreBehind x.bundle.key (bundles_on ps)) p → Each (AreInTurn p) ps
spread p [] some each = tt
spread p (q ∷ qs) some each = (
  (
    some,
    each_map (λ (x : IndexParts). AreBehind x.bundle.key (q ++ bundles_on qs)) (λ (x : IndexParts). AreBehind x.bundle.key q)
        (λ x all. (each_parts (λ (y : IndexParts). is_before x.bundle.key y.bundle.key ≡ true) q (bundles_on qs) all).0) p each,
  ),
  spread p qs some (each_map (λ (x : IndexParts). AreBehind x.bundle.key (q ++ bundles_on qs)) (λ (x : IndexParts). AreBehind x.bundle.key (bundles_on qs))
      (λ x all. (each_parts (λ (y : IndexParts). is_before x.bundle.key y.bundle.key ≡ true) q (bundles_on qs) all).1) p each),
)

in_turn : (pages : List (List IndexParts)) → Each IsPage pages → AreRising (bundles_on pages) → Pairs AreInTurn pages
in_turn [] sizes up = tt
in_turn (p ∷ ps) sizes up =
    let parts : AreParts p (bundles_on ps) = rising_parts p (bundles_on ps) up in
    (spread p ps sizes.0.some parts.across, in_turn ps sizes.1 parts.second)

starts_sooner : (key : BundleKey) (p q : List IndexParts) → AreInTurn p q → starts_by key q ≡ true → starts_by key p ≡ true
starts_sooner key [] q turn is = let low = turn.0 in absurd (omega (arith, low))
starts_sooner key (x ∷ xs) [] turn is = absurd (false≢true is)
starts_sooner key (x ∷ xs) (y ∷ ys) turn is = by (is_before key x.bundle.key) refl
  where
    by : (b : Bool) → is_before key x.bundle.key ≡ b → not b ≡ true
    by true back =
        absurd (true≢false (sym (before_trans key x.bundle.key y.bundle.key back turn.1.0.0) ∙ not-true (is_before key y.bundle.key) is))
    by false back = refl

-- pages whose keys rise are split by whether they start by a key
pub pages_halved : (key : BundleKey) (pages : List (List IndexParts)) → Each IsPage pages → AreRising (bundles_on pages) → IsPartitionedBy (starts_by key) pages
pages_halved key pages sizes up = split_by AreInTurn (starts_by key) (starts_sooner key) pages (in_turn pages sizes up)

-- all bundles before the last page that starts by a key have keys before it
low_before : (key : BundleKey) (p : List IndexParts) (q : List IndexParts) → starts_by key q ≡ true → Each (λ x. AreBehind x.bundle.key q) p → AreBefore key p
low_before key p [] is each = absurd (false≢true is)
low_before key p (y ∷ ys) is each =
    each_map (λ (x : IndexParts). AreBehind x.bundle.key (y ∷ ys)) (λ (x : IndexParts). is_before x.bundle.key key ≡ true)
    (λ x all. below x.bundle.key y.bundle.key key all.0 (not-true (is_before key y.bundle.key) is)) p each

front_before : (key : BundleKey) (pages : List (List IndexParts)) (m : ℕ) → Pairs AreInTurn pages →
    m < length pages → Each (λ p. starts_by key p ≡ true) (take (suc m) pages) → AreBefore key (bundles_on (take m pages))
front_before key pages zero turns lt starts = tt
front_before key [] (suc m) turns lt starts = absurd (omega (arith, lt))
front_before key (p ∷ []) (suc m) turns lt starts = absurd (omega (arith, lt))
front_before key (p ∷ q ∷ qs) (suc m) turns lt starts =
    each_append (λ (x : IndexParts). is_before x.bundle.key key ≡ true) p (bundles_on (take m (q ∷ qs)))
    (low_before key p q starts.1.0 turns.0.0.1)
    (front_before key (q ∷ qs) m turns.1 (omega (arith, lt)) starts.1)

true_of : (b : Bool) → not b ≡ false → b ≡ true
true_of true is = refl
true_of false is = absurd (true≢false is)

-- where no page starts by a key, all bundles have keys behind it
back_behind : (key : BundleKey) (pages : List (List IndexParts)) → AreRising (bundles_on pages) →
    Each IsPage pages → Each (λ p. starts_by key p ≡ false) pages → AreBehind key (bundles_on pages)
back_behind key [] up sizes starts = tt
back_behind key ([] ∷ ps) up sizes starts = let low = sizes.0.some in absurd (omega (arith, low))
back_behind key ((x ∷ xs) ∷ ps) up sizes starts =
    let own : is_before key x.bundle.key ≡ true = true_of (is_before key x.bundle.key) starts.0 in
    (own, behind_of key x (xs ++ bundles_on ps) own up.0)

rising_drop : (n : ℕ) (pages : List (List IndexParts)) → AreRising (bundles_on pages) → AreRising (bundles_on (drop n pages))
rising_drop zero pages up = up
rising_drop (suc n) [] up = tt
rising_drop (suc n) (p ∷ ps) up = rising_drop n ps (rising_parts p (bundles_on ps) up).second

behind_next : (key : BundleKey) (pages : List (List IndexParts)) → AreBehind key (bundles_on pages) → AreBehind key (bundles_on (drop 1 pages))
behind_next key [] each = tt
behind_next key (p ∷ ps) each = (each_parts (λ (x : IndexParts). is_before key x.bundle.key ≡ true) p (bundles_on ps) each).1

pub page_found : (key : BundleKey) (pages : List (List IndexParts)) (n place : ℕ) → place ≡ n - 1 → Each IsPage pages → AreRising (bundles_on pages) →
    0 < length pages → n ≤ length pages → Each (λ p. starts_by key p ≡ true) (take n pages) → Each (λ p. starts_by key p ≡ false) (drop n pages) →
    IsPageFor key pages place
page_found key pages zero place is sizes up some le starts later =
    subst (IsPageFor key pages) (sym is) record {
      within = some;
      before = tt;
      behind = behind_next key pages (back_behind key pages up sizes later);
    }
page_found key pages (suc n) place is sizes up some le starts later =
    let own : place ≡ n = omega (arith, is) in
    subst (IsPageFor key pages) (sym own) record {
      within = omega (arith, le);
      before = front_before key pages n (in_turn pages sizes up) (omega (arith, le)) starts;
      behind = back_behind key (drop (suc n) pages) (rising_drop (suc n) pages up) (each_drop IsPage (suc n) pages sizes) later;
    }

-- the page at a place has keys that rise
pub page_rising : (pages : List (List IndexParts)) (k : ℕ) (page : List IndexParts) → slice_get pages k ≡ Some page → AreRising (bundles_on pages) → AreRising page
page_rising pages k page at up =
    (rising_parts page (bundles_on (drop (suc k) pages))
    (rising_parts (bundles_on (take k pages)) (page ++ bundles_on (drop (suc k) pages)) (subst AreRising (on_split pages k page at) up)).second).first

-- What is found, put and taken out on the page of a key.

pub found_on : (key : BundleKey) (pages : List (List IndexParts)) (k : ℕ) (page : List IndexParts) → IsPageFor key pages k → slice_get pages k ≡ Some page →
    indexed_with key (bundles_on pages) ≡ indexed_with key page
found_on key pages k page is at =
    ap (indexed_with key) (on_split pages k page at)
    ∙ found_between key (bundles_on (take k pages)) page (bundles_on (drop (suc k) pages)) is.before is.behind

pub put_on : (new : IndexParts) (pages : List (List IndexParts)) (k : ℕ) (page : List IndexParts) → IsPageFor new.bundle.key pages k → slice_get pages k ≡ Some page →
    put_indexed new (bundles_on pages) ≡ bundles_on (take k pages) ++ (put_indexed new page ++ bundles_on (drop (suc k) pages))
put_on new pages k page is at =
    ap (put_indexed new) (on_split pages k page at)
    ∙ put_between new (bundles_on (take k pages)) page (bundles_on (drop (suc k) pages)) is.before is.behind

pub others_on : (key : BundleKey) (pages : List (List IndexParts)) (k : ℕ) (page : List IndexParts) → IsPageFor key pages k → slice_get pages k ≡ Some page →
    others key (bundles_on pages) ≡ bundles_on (take k pages) ++ (others key page ++ bundles_on (drop (suc k) pages))
others_on key pages k page is at =
    ap (others key) (on_split pages k page at)
    ∙ others_between key (bundles_on (take k pages)) page (bundles_on (drop (suc k) pages)) is.before is.behind

-- the bundles where a page is joined with the one before it, or with the one behind it

pub joined_before : (pages : List (List IndexParts)) (j : ℕ) (prev left : List IndexParts) (rest : List IndexParts) → slice_get pages j ≡ Some prev →
    bundles_on (take j pages) ++ ((prev ++ left) ++ rest) ≡ bundles_on (take (suc j) pages) ++ (left ++ rest)
joined_before pages j prev left rest at =
    ap (λ (zs : List IndexParts). bundles_on (take j pages) ++ zs) (append_assoc prev left rest)
    ∙ sym (append_assoc (bundles_on (take j pages)) prev (left ++ rest))
    ∙ ap (λ (zs : List IndexParts). zs ++ (left ++ rest)) (sym front)
  where
    front : bundles_on (take (suc j) pages) ≡ bundles_on (take j pages) ++ prev
    front = ap bundles_on (take_next pages j prev at) ∙ on_append (take j pages) (prev ∷ [])
        ∙ ap (λ (zs : List IndexParts). bundles_on (take j pages) ++ zs) (append-nil prev)

pub joined_behind : (pages : List (List IndexParts)) (k : ℕ) (next left : List IndexParts) (front : List IndexParts) → slice_get pages k ≡ Some next →
    front ++ ((left ++ next) ++ bundles_on (drop (suc k) pages)) ≡ front ++ (left ++ bundles_on (drop k pages))
joined_behind pages k next left front at =
    ap (λ (zs : List IndexParts). front ++ zs)
    (append_assoc left next (bundles_on (drop (suc k) pages))
    ∙ ap (λ (zs : List (List IndexParts)). left ++ bundles_on zs) (sym (drop_next pages k next at)))

-- A walk over the pages to the bundle at a place.

-- the bundle is that at the place `left` of the pages from `index` on
pub record IsLeft (pages : List (List IndexParts)) (place index left : ℕ) : Type 0 where
  pub same : slice_get (bundles_on pages) place ≡ slice_get (bundles_on (drop index pages)) left
  pub within : left < length (bundles_on (drop index pages))

pub left_found : (pages : List (List IndexParts)) (place index left : ℕ) (page : List IndexParts) → IsLeft pages place index left →
    slice_get pages index ≡ Some page → left < length page → slice_get (bundles_on pages) place ≡ slice_get page left
left_found pages place index left page is at low =
    is.same ∙ ap (λ (ps : List (List IndexParts)). slice_get (bundles_on ps) left) (drop_next pages index page at)
    ∙ get_first page (bundles_on (drop (suc index) pages)) left low

pub left_next : (pages : List (List IndexParts)) (place index left next less : ℕ) (page : List IndexParts) → IsLeft pages place index left →
    slice_get pages index ≡ Some page → length page ≤ left → next ≡ suc index → length page + less ≡ left → IsLeft pages place next less
left_next pages place index left next less page is at high more rest =
    subst (λ (n : ℕ). IsLeft pages place n less) (sym more) record {
      same = is.same ∙ ap (λ (ps : List (List IndexParts)). slice_get (bundles_on ps) left) (drop_next pages index page at)
          ∙ get_second page (bundles_on (drop (suc index) pages)) less left (sym rest);
      within = low;
    }
  where
    low : less < length (bundles_on (drop (suc index) pages))
    low =
        let long = length-append page (bundles_on (drop (suc index) pages)) in
        let all : left < length (page ++ bundles_on (drop (suc index) pages)) =
        subst (λ (ps : List (List IndexParts)). left < length (bundles_on ps)) (drop_next pages index page at) is.within in
        omega (arith, long, all, rest)

pub left_end : (pages : List (List IndexParts)) (place index left : ℕ) → index ≡ length pages → IsLeft pages place index left → ⊥
left_end pages place index left all is =
    let none : drop index pages ≡ [] = ap (λ (n : ℕ). drop n pages) all ∙ drop_end pages in
    let low : left < 0 = subst (λ (ps : List (List IndexParts)). left < length (bundles_on ps)) none is.within in
    omega (arith, low)
