-- How many links of a list pass a test, one by one and block by block.
use Rattle.std.proofs.Common.{◌≡◌, ℕ, zero, suc, ◌+◌, ◌-◌, ◌<◌, ◌≤◌, min, Bool, true, false, not, cond, List, [], ◌∷◌, ◌++◌, length, take, drop, insert, get_or, refl, sym, ap, subst, ◌∙◌, length-append, arith}
use Rattle.std.specs.List.{filter}
use Rattle.std.proofs.lemmas.List.{take_all, take_more}
use Rattle.std.proofs.lemmas.List.Elements.{filter-append}
use Rattle.std.proofs.lemmas.List.Filters.{length-filter_both}
use Rattle.link_graph.specs.declared.link.Link.{Link}
use Rattle.link_graph.specs.Inner.Blocks.{joined, IsRank}
use Rattle.link_graph.proofs.Inserted.{insert_none, take_both}
use Rattle.link_graph.proofs.Joined.{front_is}

-- one link more
pub counted_more : (p : Link → Bool) (links : List Link) (at count one : ℕ) (x : Link) (b : Bool) → at < length links → x ≡ get_or links at x → b ≡ p x → one ≡ cond b 1 0 →
    count ≡ length (filter p (take at links)) → count + one ≡ length (filter p (take (at + 1) links))
counted_more p links at count one x b within here is own before =
    let more : filter p (take (at + 1) links) ≡ filter p (take at links) ++ cond (p (get_or links at x)) (get_or links at x ∷ []) [] =
    ap (filter p) (take_more links at x within) ∙ filter-append p (take at links) (get_or links at x ∷ []) in
    let last : length (cond (p (get_or links at x)) (get_or links at x ∷ []) []) ≡ one =
    ap (λ y. length (cond (p y) (y ∷ []) [])) (sym here) ∙ by (p x) ∙ sym (own ∙ ap (λ t. cond t 1 0) is) in
    let size = ap length more ∙ length-append (filter p (take at links)) (cond (p (get_or links at x)) (get_or links at x ∷ []) []) in
    omega (arith, size, last, before)
  where
    by : (t : Bool) → length (cond t (x ∷ []) []) ≡ cond t 1 0
    by true = refl
    by false = refl

take_min : (place : ℕ) (links : List Link) → take (min place (length links)) links ≡ take place links
take_min zero links = let none : min 0 (length links) ≡ 0 = omega arith in ap (λ n. take n links) none
take_min (suc place) [] = let none : min (suc place) 0 ≡ 0 = omega arith in ap (λ n. take {A = Link} n []) none
take_min (suc place) (x ∷ links) =
    let more : min (suc place) (suc (length links)) ≡ suc (min place (length links)) = omega arith in
    ap (λ n. take n (x ∷ links)) more ∙ ap (λ ls. x ∷ ls) (take_min place links)

-- all that are asked for
pub counted_all : (p : Link → Bool) (links : List Link) (place last at count : ℕ) → last ≡ min place (length links) → at ≡ last → count ≡ length (filter p (take at links)) →
    count ≡ length (filter p (take place links))
counted_all p links place last at count is end before =
    before ∙ ap (λ n. length (filter p (take n links))) (end ∙ is) ∙ ap (λ ls. length (filter p ls)) (take_min place links)

-- one block more
pub block_counted : (p : Link → Bool) (blocks : List (List Link)) (i : ℕ) (block : List Link) (place rest total own less all : ℕ) → i < length blocks → block ≡ get_or blocks i block →
    own ≡ length (filter p (take rest block)) → less ≡ rest - length block →
    total + length (filter p (take rest (joined (drop i blocks)))) ≡ all →
    (total + own) + length (filter p (take less (joined (drop (i + 1) blocks)))) ≡ all
block_counted p blocks i block place rest total own less all within here is left before =
    let behind = joined (drop (suc i) blocks) in
    let whole : take rest (joined (drop i blocks)) ≡ take rest block ++ take (rest - length block) behind =
    ap (λ bs. take rest (joined bs)) (front_is blocks i block within here) ∙ take_both rest block behind in
    let size : length (filter p (take rest (joined (drop i blocks)))) ≡ length (filter p (take rest block)) + length (filter p (take (rest - length block) behind)) =
    ap (λ ls. length (filter p ls)) whole ∙ ap length (filter-append p (take rest block) (take (rest - length block) behind))
    ∙ length-append (filter p (take rest block)) (filter p (take (rest - length block) behind)) in
    let tail : length (filter p (take less behind)) ≡ length (filter p (take (rest - length block) behind)) = ap (λ n. length (filter p (take n behind))) left in
    let next : i + 1 ≡ suc i = omega arith in
    let sum : (total + own) + length (filter p (take less behind)) ≡ all = omega (arith, size, tail, is, before) in
    subst (λ n. (total + own) + length (filter p (take less (joined (drop n blocks)))) ≡ all) (sym next) sum

take_few : (n : ℕ) (links : List Link) → length (take n links) ≤ length links
take_few zero links = omega arith
take_few (suc n) [] = omega arith
take_few (suc n) (x ∷ links) = let rest = take_few n links in omega (arith, rest)

-- no more than all
pub filter_few : (p : Link → Bool) (n : ℕ) (links : List Link) → length (filter p (take n links)) ≤ length links
filter_few p n links =
    let both = length-filter_both p (λ x. not (p x)) (λ x. refl) (take n links) in
    let few = take_few n links in
    omega (arith, both, few)

-- ---- before how many of those that pass a test a link is put

insert_past : (links : List Link) (n : ℕ) (link : Link) → length links ≤ n → insert links n link ≡ links ++ link ∷ []
insert_past [] n link past = sym (insert_none n link)
insert_past (x ∷ links) zero link past = let no : ⊥ = omega (arith, past) in absurd no
insert_past (x ∷ links) (suc n) link past = ap (λ ls. x ∷ ls) (insert_past links n link (omega (arith, past)))

-- at the end, any number that is large enough
pub ranked_last : (p : Link → Bool) (links : List Link) (place rank : ℕ) → length links ≤ place → length links ≤ rank → IsRank p links place rank
ranked_last p links place rank past large link =
    let both = length-filter_both p (λ x. not (p x)) (λ x. refl) links in
    let all : filter p (take place links) ≡ filter p links = ap (filter p) (take_all place links past) in
    insert_past (filter p links) rank link (omega (arith, both, large))
    ∙ sym (ap (λ ls. insert (filter p links) (length ls) link) all ∙ insert_past (filter p links) (length (filter p links)) link (omega arith))

pub ranked : (p : Link → Bool) (links : List Link) (place rank : ℕ) → rank ≡ length (filter p (take place links)) → IsRank p links place rank
ranked p links place rank counted link = ap (λ n. insert (filter p links) n link) counted
