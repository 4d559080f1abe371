-- Where a link at a place of all blocks stands, and a link that is put there.
use Rattle.std.proofs.Common.{◌≡◌, ℕ, zero, suc, ◌+◌, ◌-◌, ◌<◌, ◌≤◌, ◌≢◌, List, [], ◌∷◌, ◌++◌, length, take, drop, get_or, insert, refl, sym, ap, subst, ◌∙◌, arith, Result, OnOk}
use Rattle.std.specs.List.{slice_set}
use Rattle.std.proofs.lemmas.List.{take_all, length-set}
use Rattle.link_graph.specs.declared.link.Link.{Link}
use Rattle.link_graph.specs.declared.blocks.BlockPlace.{BlockPlace}
use Rattle.link_graph.specs.Inner.Blocks.{joined, IsBlockPlace}
use Rattle.link_graph.proofs.Inserted.{block_inserted, block_cut}
use Rattle.link_graph.proofs.Joined.{on_ok, written}

-- an element that is there, whatever stands for one that is not
pub get_any : {A : Type 0} (xs : List A) (i : ℕ) (d e : A) → i < length xs → get_or xs i d ≡ get_or xs i e
get_any [] i d e within = let no : ⊥ = omega arith in absurd no
get_any (x ∷ xs) zero d e within = refl
get_any (x ∷ xs) (suc i) d e within = get_any xs i d e (omega arith)

-- ---- the walk over the blocks, from the last one on

-- the links before a block, where a place is not behind the block
pub record StandsBefore (blocks : List (List Link)) (place block before : ℕ) : Type 0 where
  pub within : block ≤ length blocks
  pub sum : before ≡ length (joined (take block blocks))
  pub inside : block < length blocks → place ≤ before + length (get_or blocks block [])

pub stands_there : (blocks : List (List Link)) (place block before : ℕ) → StandsBefore blocks place block before → before ≤ place →
    IsBlockPlace blocks place (record { block = block; place = place - before })
stands_there blocks place block before h past =
    let sum = h.sum in
    record {
      within = h.within;
      sum = omega (arith, sum, past);
      inside = λ low. let inside = h.inside low in omega (arith, inside, past);
    }

-- ---- a link put at a place

pub insert_last : (links : List Link) (link : Link) → insert links (length links) link ≡ links ++ link ∷ []
insert_last [] link = refl
insert_last (x ∷ links) link = ap (λ ls. x ∷ ls) (insert_last links link)

-- behind all blocks
pub last_inserted : {T E : Type 0} (r : Result T E) (blocks seen : List (List Link)) (place : ℕ) (found : BlockPlace) (link : Link) (new : List Link) → seen ≡ blocks →
    IsBlockPlace seen place found → found.block ≡ length blocks → place ≤ length (joined blocks) → OnOk r (new ≡ joined blocks ++ link ∷ []) → OnOk r (new ≡ insert (joined blocks) place link)
last_inserted r blocks seen place found link new same is last low =
    on_ok r _ _ (λ put.
    let sum = is.sum in
    let all : length (joined (take found.block seen)) ≡ length (joined blocks) =
    ap (λ n. length (joined (take n seen))) last ∙ ap (λ bs. length (joined (take (length blocks) bs))) same ∙ ap (λ bs. length (joined bs)) (take_all (length blocks) blocks (omega arith)) in
    let end : place ≡ length (joined blocks) = omega (arith, sum, all, low) in
    put ∙ sym (ap (λ n. insert (joined blocks) n link) end ∙ insert_last (joined blocks) link))

-- at a place of a block
pub block_put : {T E : Type 0} (r : Result T E) (blocks seen : List (List Link)) (place : ℕ) (found : BlockPlace) (link : Link) (new : List Link) → seen ≡ blocks →
    IsBlockPlace seen place found → OnOk r (new ≡ insert (joined blocks) (length (joined (take found.block blocks)) + found.place) link) → OnOk r (new ≡ insert (joined blocks) place link)
block_put r blocks seen place found link new same is =
    on_ok r _ _ (λ put. put ∙ ap (λ n. insert (joined blocks) n link) (sym (is.sum ∙ ap (λ bs. length (joined (take found.block bs)) + found.place) same)))

-- what `put_in` asks of a block that was found
pub found_block : (blocks seen : List (List Link)) (place : ℕ) (found : BlockPlace) → seen ≡ blocks → IsBlockPlace seen place found → found.block ≢ length blocks → found.block < length blocks
found_block blocks seen place found same is apart =
    let low : found.block ≤ length blocks = subst (λ bs. found.block ≤ length bs) same is.within in
    omega (arith, low, apart)

pub found_place : (blocks seen : List (List Link)) (place : ℕ) (found : BlockPlace) → seen ≡ blocks → IsBlockPlace seen place found → found.block < length blocks →
    found.place ≤ length (get_or blocks found.block [])
found_place blocks seen place found same is low =
    subst (λ bs. found.place ≤ length (get_or bs found.block [])) same (is.inside (subst (λ bs. found.block < length bs) (sym same) low))

-- the blocks with a link put into one, as they are written
pub inserted_written : (items old new : List (List Link)) (len at place : ℕ) (link : Link) → len ≡ length items → old ≡ items → at < length items → place ≤ length (get_or items at []) →
    new ≡ slice_set old at (insert (get_or old at []) place link) →
    joined (take len (new ++ drop (length new) items)) ≡ insert (joined items) (length (joined (take at items)) + place) link
inserted_written items old new len at place link all same within inside made =
    let made_of : new ≡ slice_set items at (insert (get_or items at []) place link) =
    made ∙ ap (λ bs. slice_set bs at (insert (get_or bs at []) place link)) same in
    let size : length new ≡ length items = ap length made_of ∙ length-set items at (insert (get_or items at []) place link) in
    ap joined (written items new len all size ∙ made_of) ∙ block_inserted items at place link within inside

-- the blocks with one cut in two, as they are written
pub cut_written : (items more old new : List (List Link)) (len at half : ℕ) (behind : List Link) → more ≡ insert items (at + 1) behind → behind ≡ drop half (get_or items at []) → at < length items →
    len ≡ length more → old ≡ more → new ≡ slice_set old at (take half (get_or old at [])) →
    joined (take len (new ++ drop (length new) more)) ≡ joined items
cut_written items more old new len at half behind put is within all same made =
    let next : at + 1 ≡ suc at = omega arith in
    let put_next : more ≡ insert items (suc at) behind = put ∙ ap (λ n. insert items n behind) next in
    let here : get_or more at [] ≡ get_or items at [] = ap (λ bs. get_or bs at []) put_next ∙ before items at behind within in
    let made_of : new ≡ slice_set more at (take half (get_or items at [])) =
    made ∙ ap (λ bs. slice_set bs at (take half (get_or bs at []))) same ∙ ap (λ b. slice_set more at (take half b)) here in
    let size : length new ≡ length more = ap length made_of ∙ length-set more at (take half (get_or items at [])) in
    ap joined (written more new len all size ∙ made_of)
    ∙ ap (λ bs. joined (slice_set bs at (take half (get_or items at [])))) (put_next ∙ ap (insert items (suc at)) is)
    ∙ block_cut items at half within
  where
    before : (bs : List (List Link)) (i : ℕ) (x : List Link) → i < length bs → get_or (insert bs (suc i) x) i [] ≡ get_or bs i []
    before [] i x low = let no : ⊥ = omega arith in absurd no
    before (b ∷ bs) zero x low = refl
    before (b ∷ bs) (suc i) x low = before bs i x (omega arith)
