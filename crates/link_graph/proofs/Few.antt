-- A list of few links, which has no maps.
use Rattle.std.proofs.Common.{◌≡◌, ◌<◌, ℕ, zero, suc, ◌+◌, Bool, false, List, [], ◌∷◌, ◌++◌, Some, insert, take, length, get_or, refl, sym, ap, subst, ◌∙◌, not, Result, Ok, Err, OnOk, OnErr, arith}
use Rattle.std.specs.List.{filter, list_any, slice_get, IsDistinct, AllByRecursion}
use Rattle.std.proofs.lemmas.Bool.{or_from}
use Rattle.std.proofs.lemmas.List.{take_more}
use Rattle.std.proofs.lemmas.List.Filters.{length-filter_both}
use Rattle.link_graph.specs.declared.forms.TheConstants.{FEW_LINKS}
use Rattle.link_graph.specs.declared.link.Link.{Link}
use Rattle.link_graph.specs.Inner.Forms.{AreFew}
use Rattle.link_graph.specs.Link.{ArePairsApart, joins}
use Rattle.link_graph.proofs.Inserted.{joins_flip, length_insert, pairs_inserted}
use Rattle.link_graph.proofs.Kept.{distinct_filter}
use Rattle.link_graph.proofs.Placed.{insert_last}

pub few_none : (links : List Link) → links ≡ [] → AreFew links
unfolding IsDistinct
few_none links is = rw is (record { apart = tt; few = omega arith })

-- few links and one more, or without some
pub few_more : (link : Link) (place : ℕ) (links after : List Link) → AreFew links → length links < FEW_LINKS → list_any (joins link.from link.to) links ≡ false →
    after ≡ insert links place link → AreFew after
few_more link place links after h room free is =
    let size = ap length is ∙ length_insert links place link in
    record {
      apart = subst ArePairsApart (sym is) (pairs_inserted link place links free h.apart);
      few = omega (arith, size, room);
    }

-- the same, whether there was memory or not
pub few_put : {T E : Type 0} (r : Result T E) (link : Link) (place : ℕ) (links after : List Link) → AreFew links → length links < FEW_LINKS →
    list_any (joins link.from link.to) links ≡ false → OnOk r (after ≡ insert links place link) → OnErr r (after ≡ links) → AreFew after
few_put (Ok x) link place links after h room free ok err = few_more link place links after h room free ok
few_put (Err e) link place links after h room free ok err = subst AreFew (sym err) h

pub few_left : (test : Link → Bool) (links after : List Link) → AreFew links → after ≡ filter test links → AreFew after
few_left test links after h is =
    let size = ap length is in
    let both = length-filter_both test (λ x. not (test x)) (λ x. refl) links in
    let few = h.few in
    record {
      apart = subst ArePairsApart (sym is) (distinct_filter _ test links h.apart);
      few = omega (arith, size, both, few);
    }

-- ---- the same links with maps, put in one by one

all_at : (P : Link → Type 0) (xs : List Link) (n : ℕ) (x : Link) → AllByRecursion P xs → slice_get xs n ≡ Some x → P x
all_at P [] n x all at = absurd cc
all_at P (y ∷ xs) zero x all at = let same : y ≡ x = cc in subst P same all.0
all_at P (y ∷ xs) (suc n) x all at = all_at P xs n x all.1 at

-- the pair of a link is not among the links before it
pub free_before : (links : List Link) (place : ℕ) (link : Link) → ArePairsApart links → slice_get links place ≡ Some link →
    list_any (joins link.from link.to) (take place links) ≡ false
unfolding IsDistinct
free_before [] place link apart at = absurd cc
free_before (y ∷ links) zero link apart at = refl
free_before (y ∷ links) (suc place) link apart at =
    or_from (joins link.from link.to y) (list_any (joins link.from link.to) (take place links))
    (joins_flip link y ∙ all_at (λ z. joins y.from y.to z ≡ false) links place link apart.0 at) (free_before links place link apart.1 at)

pub size_before : (links many : List Link) (place : ℕ) → many ≡ take place links → place < length links → length many ≡ place
size_before links many place is within = ap length is ∙ size links place within
  where
    size : (xs : List Link) (n : ℕ) → n < length xs → length (take n xs) ≡ n
    size [] n low = let no : ⊥ = omega (arith, low) in absurd no
    size (x ∷ xs) zero low = refl
    size (x ∷ xs) (suc n) low = ap suc (size xs n (omega (arith, low)))

-- one link more is put in
pub one_more : (links many : List Link) (place : ℕ) (link : Link) → many ≡ take place links → place < length links → slice_get links place ≡ Some link →
    insert many place link ≡ take (place + 1) links
one_more links many place link is within at =
    let size = size_before links many place is within in
    ap (λ n. insert many n link) (sym size) ∙ insert_last many link ∙ ap (λ ls. ls ++ link ∷ []) is
    ∙ ap (λ l. take place links ++ l ∷ []) (sym (here links place at)) ∙ sym (take_more links place link within)
  where
    here : (xs : List Link) (n : ℕ) → slice_get xs n ≡ Some link → get_or xs n link ≡ link
    here [] n got = absurd cc
    here (x ∷ xs) zero got = cc
    here (x ∷ xs) (suc n) got = here xs n got
