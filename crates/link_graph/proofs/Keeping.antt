-- What the list of links and its index keep through each change, and the first rule that a link breaks.
use Rattle.std.proofs.Common.{◌≡◌, Bool, true, false, List, [], Option, refl, sym, ap, ◌∙◌, cond, not, ◌&&◌, arith}
use Rattle.std.specs.List.{filter, find, IsDistinct}
use Rattle.std.specs.Cmp.{IsEquivalence}
use Rattle.std.proofs.lemmas.Bool.Decides.{nat_tests}
use Rattle.std.proofs.lemmas.List.Filters.{length-filter_both}
use Rattle.link_graph.specs.declared.index.Index.{Index}
use Rattle.link_graph.specs.declared.link.Link.{Link}
use Rattle.link_graph.specs.Inner.Index.{Indexes}
use Rattle.link_graph.specs.Link.{joins}
use Rattle.link_graph.specs.Inner.Links.{AreLinks}
use Rattle.link_graph.proofs.Filters.{find_both}
use Rattle.link_graph.proofs.Kept.{distinct_filter}

pub none_kept : (links : List Link) (index : Index) → links ≡ [] → Indexes index [] → AreLinks links index
unfolding IsDistinct
none_kept links index is h = rw is (record { apart = tt; limit = omega arith; indexed = h })

pub joins_like : IsEquivalence (λ (a b : Link). joins a.from a.to b)
joins_like = record {
  refl = λ x. grind (arith, nat_tests);
  symm = λ x y. grind (arith, nat_tests);
  congr = λ x y z e. grind (arith, nat_tests);
}

pub filter_kept : (test : Link → Bool) (links after : List Link) (old new : Index) → AreLinks links old → after ≡ filter test links →
    Indexes new (filter test links) → AreLinks after new
filter_kept test links after old new h is indexed =
    rw is
    (record {
      apart = distinct_filter _ test links h.apart;
      limit = let limit = h.limit in omega (arith, length-filter_both test (λ x. not (test x)) (λ x. refl) links);
      indexed = indexed;
    })

and_cond : (a b : Bool) → (b && a) ≡ cond a b false
and_cond true true = refl
and_cond true false = refl
and_cond false true = refl
and_cond false false = refl

-- the first link that passes two tests, looked for among links that have all that pass one of them
pub first_near : (p q : Link → Bool) (links near : List Link) (o : Option Link) → filter p near ≡ filter p links → o ≡ find (λ link. q link && p link) near →
    o ≡ find (λ link. q link && p link) links
first_near p q links near o same first =
    first ∙ sym (find_both p q (λ link. q link && p link) (λ x. and_cond (p x) (q x)) near) ∙ ap (find q) same
    ∙ find_both p q (λ link. q link && p link) (λ x. and_cond (p x) (q x)) links
