-- A list in blocks.
use Rattle.std.proofs.Common.{◌≡◌, ℕ, zero, suc, ◌+◌, ◌-◌, ◌<◌, ◌≤◌, Bool, true, false, not, ◌||◌, List, [], ◌∷◌, ◌++◌, length, take, drop, get_or, refl, sym, ap, ◌∙◌, subst, append_assoc, append-nil, length-append, arith, ⊎_elim, add-one, drop-cons, Some, Result, Ok, Err, OnOk}
use Rattle.std.specs.List.{filter, list_any, slice_get, slice_set, IsDistinct, AllByRecursion}
use Rattle.std.proofs.lemmas.Bool.{cases_Bool, or_from}
use Rattle.std.proofs.lemmas.Bool.Decides.{nat_tests}
use Rattle.std.proofs.lemmas.List.{take_more, length-set}
use Rattle.std.proofs.lemmas.Grind.{flat_map-append}
use Rattle.std.proofs.lemmas.List.Folds.{list_any-append, length-flat_map-take}
use Rattle.std.proofs.Math.Seq.{take-append_seam}
use Rattle.std.proofs.lemmas.List.Elements.{filter-append}
use Rattle.emu_names.specs.declared.kinds.ItemId.{ItemId}
use Rattle.link_graph.specs.declared.link.Link.{Link}
use Rattle.link_graph.specs.Inner.Blocks.{joined}
use Rattle.link_graph.specs.Link.{ArePairsApart, joins}
use Rattle.link_graph.proofs.Filters.{filter_all}

-- a link so far behind these blocks is that at a place of all
pub record IsBehind (blocks : List (List Link)) (rest : ℕ) (all : List (List Link)) (place : ℕ) : Type 0 where
  pub same : slice_get (joined blocks) rest ≡ slice_get (joined all) place
  pub within : rest < length (joined blocks)

-- ---- a block written

pub joined_set : (blocks : List (List Link)) (at : ℕ) (block : List Link) → at < length blocks →
    joined (slice_set blocks at block) ≡ joined (take at blocks) ++ (block ++ joined (drop (suc at) blocks))
joined_set [] at block within = let no : ⊥ = omega arith in absurd no
joined_set (b ∷ blocks) zero block within = refl
joined_set (b ∷ blocks) (suc at) block within =
    ap (λ ls. b ++ ls) (joined_set blocks at block (omega arith)) ∙ sym (append_assoc b (joined (take at blocks)) (block ++ joined (drop (suc at) blocks)))

pub joined_at : (blocks : List (List Link)) (at : ℕ) → at < length blocks →
    joined blocks ≡ joined (take at blocks) ++ (get_or blocks at [] ++ joined (drop (suc at) blocks))
joined_at [] at within = let no : ⊥ = omega arith in absurd no
joined_at (b ∷ blocks) zero within = refl
joined_at (b ∷ blocks) (suc at) within =
    ap (λ ls. b ++ ls) (joined_at blocks at (omega arith)) ∙ sym (append_assoc b (joined (take at blocks)) (get_or blocks at [] ++ joined (drop (suc at) blocks)))

pub written : (old new : List (List Link)) (len : ℕ) → len ≡ length old → length new ≡ length old → take len (new ++ drop (length new) old) ≡ new
written old new len all same = ap (λ n. take n (new ++ drop (length new) old)) (all ∙ sym same) ∙ take-append_seam new (drop (length new) old)

pub on_ok : {T E : Type 0} (r : Result T E) (P Q : Type 0) → (P → Q) → OnOk r P → OnOk r Q
on_ok (Ok x) P Q f h = f h
on_ok (Err e) P Q f h = h

-- ---- walks over the blocks

pub front_is : (blocks : List (List Link)) (i : ℕ) (block : List Link) → i < length blocks → block ≡ get_or blocks i block → drop i blocks ≡ block ∷ drop (suc i) blocks
front_is blocks i block within is = drop-cons blocks i block within ∙ ap (λ b. b ∷ drop (suc i) blocks) (sym is)

pub count_more : (blocks : List (List Link)) (i : ℕ) (block : List Link) (total len : ℕ) → i < length blocks → block ≡ get_or blocks i block →
    total ≡ length (joined (take i blocks)) → len ≡ length block → total + len ≡ length (joined (take (i + 1) blocks))
count_more blocks i block total len within is so_far size =
    let more : joined (take (i + 1) blocks) ≡ joined (take i blocks) ++ get_or blocks i block =
    ap joined (take_more blocks i block within) ∙ flat_map-append (λ (b : List Link). b) (take i blocks) (get_or blocks i block ∷ [])
    ∙ ap (λ ls. joined (take i blocks) ++ ls) (append-nil (get_or blocks i block)) in
    let whole = ap length more ∙ length-append (joined (take i blocks)) (get_or blocks i block) in
    let here = ap length is in
    omega arith

pub count_fits : (blocks : List (List Link)) (i : ℕ) (block : List Link) → i < length blocks → block ≡ get_or blocks i block →
    length (joined (take i blocks)) + length block ≤ length (joined blocks)
count_fits blocks i block within is =
    let fits = length-flat_map-take (λ (b : List Link). b) blocks i block within in
    let here = ap length is in
    omega arith

pub get_left : (xs ys : List Link) (n : ℕ) → n < length xs → slice_get (xs ++ ys) n ≡ slice_get xs n
get_left [] ys n within = let no : ⊥ = omega arith in absurd no
get_left (x ∷ xs) ys zero within = refl
get_left (x ∷ xs) ys (suc n) within = get_left xs ys n (omega arith)

pub get_right : (xs ys : List Link) (n m : ℕ) → length xs + m ≡ n → slice_get (xs ++ ys) n ≡ slice_get ys m
get_right [] ys n m is = ap (slice_get ys) (omega arith)
get_right (x ∷ xs) ys zero m is = let no : ⊥ = omega arith in absurd no
get_right (x ∷ xs) ys (suc n) m is = get_right xs ys n m (omega arith)

pub found_here : (blocks : List (List Link)) (i : ℕ) (block : List Link) (rest place : ℕ) (link : Link) → i < length blocks → block ≡ get_or blocks i block →
    IsBehind (drop i blocks) rest blocks place → rest < length block → slice_get block rest ≡ Some link → slice_get (joined blocks) place ≡ Some link
found_here blocks i block rest place link within is behind inside got =
    sym behind.same ∙ ap (λ bs. slice_get (joined bs) rest) (front_is blocks i block within is) ∙ get_left block (joined (drop (suc i) blocks)) rest inside ∙ got

pub found_behind : (blocks : List (List Link)) (i : ℕ) (block : List Link) (rest place len : ℕ) → i < length blocks → block ≡ get_or blocks i block →
    IsBehind (drop i blocks) rest blocks place → length block ≤ rest → len ≡ length block → IsBehind (drop (i + 1) blocks) (rest - len) blocks place
found_behind blocks i block rest place len within is behind past size =
    let front = front_is blocks i block within is in
    let whole = ap (λ bs. length (joined bs)) front ∙ length-append block (joined (drop (suc i) blocks)) in
    let inside = behind.within in
    subst (λ n. IsBehind (drop n blocks) (rest - len) blocks place) (sym (add-one i))
    (record {
      same = sym (get_right block (joined (drop (suc i) blocks)) rest (rest - len) (omega arith)) ∙ sym (ap (λ bs. slice_get (joined bs) rest) front) ∙ behind.same;
      within = omega arith;
    })

-- ---- a pair in one block is in no other

all_none : (j : Link → Bool) (x : Link) (ys : List Link) → ((y : Link) → joins x.from x.to y ≡ false → j y ≡ false) →
    AllByRecursion (λ y. joins x.from x.to y ≡ false) ys → list_any j ys ≡ false
all_none j x [] tells h = refl
all_none j x (y ∷ ys) tells h = or_from (j y) (list_any j ys) (tells y h.0) (all_none j x ys tells h.1)

all_right : (P : Link → Type 0) (xs ys : List Link) → AllByRecursion P (xs ++ ys) → AllByRecursion P ys
all_right P [] ys h = h
all_right P (x ∷ xs) ys h = all_right P xs ys h.1

module _ (from to : ItemId) where
  tells : (x : Link) → joins from to x ≡ true → (y : Link) → joins x.from x.to y ≡ false → joins from to y ≡ false
  tells x passes y apart = grind (arith, nat_tests)

  sides_at : (x : Link) (xs ys : List Link) (b : Bool) → joins from to x ≡ b → AllByRecursion (λ y. joins x.from x.to y ≡ false) (xs ++ ys) →
      list_any (joins from to) (x ∷ xs) ≡ true → (list_any (joins from to) xs ≡ true → list_any (joins from to) ys ≡ false) → list_any (joins from to) ys ≡ false
  sides_at x xs ys true e all some rest = all_none (joins from to) x ys (tells x e) (all_right _ xs ys all)
  sides_at x xs ys false e all some rest = rest (rw e at some)

  sides : (xs ys : List Link) → IsDistinct (λ a b. joins a.from a.to b) (xs ++ ys) → list_any (joins from to) xs ≡ true → list_any (joins from to) ys ≡ false
  unfolding IsDistinct
  sides [] ys apart some = absurd cc
  sides (x ∷ xs) ys apart some = sides_at x xs ys (joins from to x) refl apart.0 some (sides xs ys apart.1)

  other_side : (xs ys : List Link) → IsDistinct (λ a b. joins a.from a.to b) (xs ++ ys) → list_any (joins from to) ys ≡ true → list_any (joins from to) xs ≡ false
  other_side xs ys apart some =
      ⊎_elim
      (λ (there : list_any (joins from to) xs ≡ true). let none : list_any (joins from to) ys ≡ false = sides xs ys apart there in absurd (clash none some))
      (λ (none : list_any (joins from to) xs ≡ false). none)
      (cases_Bool (list_any (joins from to) xs))
    where
      clash : {b : Bool} → b ≡ false → b ≡ true → ⊥
      clash p q = cc

  any_left : (xs ys : List Link) → list_any (joins from to) xs ≡ true → list_any (joins from to) (xs ++ ys) ≡ true
  any_left xs ys some = list_any-append (joins from to) xs ys ∙ ap (λ b. b || list_any (joins from to) ys) some

  -- the pair is taken out of the one block where it is
  pub taken_block : (blocks : List (List Link)) (at : ℕ) → ArePairsApart (joined blocks) → at < length blocks →
      list_any (joins from to) (get_or blocks at []) ≡ true →
      joined (slice_set blocks at (filter (λ l. not (joins from to l)) (get_or blocks at [])))
      ≡ filter (λ l. not (joins from to l)) (joined blocks)
  taken_block blocks at apart within some =
      let front = joined (take at blocks) in
      let block = get_or blocks at [] in
      let behind = joined (drop (suc at) blocks) in
      let whole : joined blocks ≡ front ++ (block ++ behind) = joined_at blocks at within in
      let split : ArePairsApart (front ++ (block ++ behind)) = subst ArePairsApart whole apart in
      let front_none : list_any (joins from to) front ≡ false = other_side front (block ++ behind) split (any_left block behind some) in
      let split_right : ArePairsApart ((front ++ block) ++ behind) = subst ArePairsApart (sym (append_assoc front block behind)) split in
      let block_some : list_any (joins from to) (front ++ block) ≡ true =
      list_any-append (joins from to) front block ∙ ap (λ b. list_any (joins from to) front || b) some ∙ or_true (list_any (joins from to) front) in
      let behind_none : list_any (joins from to) behind ≡ false = sides (front ++ block) behind split_right block_some in
      joined_set blocks at (filter (λ l. not (joins from to l)) block) within
      ∙ sym (ap (filter (λ l. not (joins from to l))) whole
      ∙ filter-append (λ l. not (joins from to l)) front (block ++ behind)
      ∙ ap (λ ls. ls ++ filter (λ l. not (joins from to l)) (block ++ behind)) (filter_all (joins from to) front front_none)
      ∙ ap (λ ls. front ++ ls) (filter-append (λ l. not (joins from to l)) block behind
      ∙ ap (λ ls. filter (λ l. not (joins from to l)) block ++ ls) (filter_all (joins from to) behind behind_none)))
    where
      or_true : (a : Bool) → (a || true) ≡ true
      or_true true = refl
      or_true false = refl

pub taken_written : (from to : ItemId) (items seen old new : List (List Link)) (len at : ℕ) → len ≡ length items → seen ≡ items → old ≡ items →
    ArePairsApart (joined items) → at < length seen → list_any (joins from to) (get_or seen at []) ≡ true →
    new ≡ slice_set old at (filter (λ l. not (joins from to l)) (get_or old at [])) →
    joined (take len (new ++ drop (length new) items)) ≡ filter (λ l. not (joins from to l)) (joined items)
taken_written from to items seen old new len at all same_seen same apart within there made =
    let made_of : new ≡ slice_set items at (filter (λ l. not (joins from to l)) (get_or items at [])) =
    made ∙ ap (λ bs. slice_set bs at (filter (λ l. not (joins from to l)) (get_or bs at []))) same in
    let size : length new ≡ length items = ap length made_of ∙ length-set items at (filter (λ l. not (joins from to l)) (get_or items at [])) in
    ap joined (written items new len all size ∙ made_of)
    ∙ taken_block from to items at apart (subst (λ bs. at < length bs) same_seen within) (subst (λ bs. list_any (joins from to) (get_or bs at []) ≡ true) same_seen there)
