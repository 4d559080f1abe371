-- Links are refused exactly where they break a rule.
use Rattle.std.proofs.Common.{◌≡◌, ℕ, ◌<◌, ◌≤◌, Bool, true, false, List, [], ◌∷◌, ◌++◌, length, map, Option, Some, None, Ok, refl, sym, ◌∙◌, ap, subst, arith, All, append_assoc, ok_or, unwrap_or, option_and_then, IsSome, ◌==◌, if◌then◌else◌}
use Rattle.std.specs.List.{list_any, filter, position, IsDistinct, AllByRecursion}
use Rattle.std.proofs.lemmas.List.{map-append, length-append, length-map}
use Rattle.std.proofs.lemmas.List.Elements.{All-nil, All-cons, All-head, All-tail, filter-append}
use Rattle.emu_names.specs.declared.limits.TheConstants.{BUNDLE_LINKS}
use Rattle.emu_names.specs.declared.kinds.LinkKind.{LinkKind}
use Rattle.emu_names.specs.declared.kinds.LinkKind.TheVariants.{OneToOne, OneToMany, ManyToMany}
use Rattle.emu_names.specs.declared.rules.Broken.{Broken}
use Rattle.emu_names.specs.declared.rules.Broken.TheVariants as rules
use Rattle.level_items.specs.declared.annot.AnnotLink.{AnnotLink}
use Rattle.link_graph.specs.declared.link.Link.{Link}
use Rattle.link_graph.specs.Link.{link_of, joins, add_fault}
use Rattle.link_graph.specs.Kind.{KeepKind, of_definition}
use Rattle.link_graph.proofs.Kept.{free_added}
use Rattle.db_config.specs.declared.parts.LinkDef.{LinkDef}
use Rattle.db_config.specs.Lookups.{leads}
use Rattle.bundle_state.specs.Linked.{unless_broken, kind_of, definition_for, put_by, put_link, put_links, first_places, pair_of}
use Rattle.bundle_state.specs.Rules.{definition_of, link_for, KeepLinkRules}
use Rattle.bundle_state.proofs.LinksKept.{AreFineLinks, fine_none, links_fine, ok_same, fine_value, goes_on, onward_goes, Put, Passed, Added, put_one, IsNew, filter_every, all_given, passed_tail, added_tail}

-- The two ways to say which definition a link has.

some_of : (o : Option ℕ) (number : ℕ) → ok_or o rules.NoLinkDefinition ≡ Ok number → o ≡ Some number
some_of None number is = cc
some_of (Some n) number is = ap Some (ok_same n number is)

defined : (defs : List LinkDef) (level : ℕ → Option ℕ) (given : AnnotLink) (number : ℕ) →
    definition_for defs given (level given.from.0) (level given.to.0) ≡ Ok number → definition_of defs level given ≡ Some number
defined defs level given number = by (level given.from.0) (level given.to.0)
  where
    by : (upper lower : Option ℕ) → definition_for defs given upper lower ≡ Ok number →
        option_and_then (λ u. option_and_then (λ l. position (leads u l) defs) lower) upper ≡ Some number
    by None lower is = cc
    by (Some u) None is = cc
    by (Some u) (Some l) is = some_of (position (leads u l) defs) number is

found_for : (defs : List LinkDef) (level : ℕ → Option ℕ) (given : AnnotLink) (number : ℕ) →
    definition_of defs level given ≡ Some number → definition_for defs given (level given.from.0) (level given.to.0) ≡ Ok number
found_for defs level given number = by (level given.from.0) (level given.to.0)
  where
    by : (upper lower : Option ℕ) → option_and_then (λ u. option_and_then (λ l. position (leads u l) defs) lower) upper ≡ Some number →
        definition_for defs given upper lower ≡ Ok number
    by None lower is = cc
    by (Some u) None is = cc
    by (Some u) (Some l) is = ap (λ o. ok_or o rules.NoLinkDefinition) is

is_some_of : (o : Option ℕ) (number : ℕ) → o ≡ Some number → IsSome o
is_some_of (Some n) number is = refl
is_some_of None number is = cc

-- Links that are put are those of their pairs.

module _ (defs : List LinkDef) (level : ℕ → Option ℕ) where
  abbrev Own : List Link → Type 0
  Own links = map (link_for defs level) (map pair_of links) ≡ links

  own_more : (links : List Link) (given : AnnotLink) (built : List Link) → Put defs level links given built → Own links → Own built
  own_more links given built (Passed there) own = own
  own_more links given built (Added number grows) own =
      let link : Link = link_of number given.from given.to in
      ap (map (link_for defs level)) (map-append pair_of links (link ∷ []))
      ∙ map-append (link_for defs level) (map pair_of links) (given ∷ [])
      ∙ ap (λ front. front ++ link_for defs level given ∷ []) own
      ∙ ap (λ (o : Option ℕ). links ++ link_of (unwrap_or o 0) given.from given.to ∷ []) (defined defs level given number grows.own)

  own_all : (given : List AnnotLink) (links built : List Link) → put_links defs level given links ≡ Ok built → Own links → Own built
  own_all [] links built is own = subst Own (ok_same links built is) own
  own_all (g ∷ gs) links built is own =
      let on = goes_on (put_link defs level links g) (put_links defs level gs) built is in
      own_all gs on.middle built on.second (own_more links g on.middle (put_one defs level links g on.middle on.first) own)

  all_defined : (given : List AnnotLink) (links built : List Link) → put_links defs level given links ≡ Ok built → All (λ g. IsSome (definition_of defs level g)) given
  all_defined [] links built is = All-nil (λ g. IsSome (definition_of defs level g))
  all_defined (g ∷ gs) links built is =
      let on = goes_on (put_link defs level links g) (put_links defs level gs) built is in
      let first = goes_on (definition_for defs g (level g.from.0) (level g.to.0)) (put_by defs links g) on.middle on.first in
      All-cons (λ h. IsSome (definition_of defs level h)) g gs
      (is_some_of (definition_of defs level g) first.middle (defined defs level g first.middle first.first))
      (all_defined gs on.middle built on.second)

  pub links_keep : (given : List AnnotLink) (built : List Link) → put_links defs level given [] ≡ Ok built → KeepLinkRules defs level given
  links_keep given built is =
      let fine : AreFineLinks defs level built = links_fine defs level given [] built is (fine_none defs level) in
      let pairs : map pair_of built ≡ first_places given = all_given defs level given built is in
      let own : map (link_for defs level) (first_places given) ≡ built = ap (map (link_for defs level)) (sym pairs) ∙ own_all given [] built is refl in
      let count : length (first_places given) ≡ length built = ap length (sym pairs) ∙ length-map built pair_of in
      let few : length built ≤ BUNDLE_LINKS = fine.few in
      record {
        defined = all_defined given [] built is;
        few = omega arith;
        kinds = λ number. subst (KeepKind (kind_of defs number) number) (sym own) (fine.linked.kinds number);
      }

-- Links that keep the rules are put.

front_all : {X : Type 0} (P : X → Type 0) (xs ys : List X) → AllByRecursion P (xs ++ ys) → AllByRecursion P xs
front_all P [] ys all = tt
front_all P (x ∷ xs) ys all = (all.0, front_all P xs ys all.1)

front_distinct : {X : Type 0} (e : X → X → Bool) (xs ys : List X) → IsDistinct e (xs ++ ys) → IsDistinct e xs
unfolding IsDistinct
front_distinct e [] ys apart = tt
front_distinct e (x ∷ xs) ys apart = (front_all _ xs ys apart.0, front_distinct e xs ys apart.1)

front_of : (e : Link → Link → Bool) (number : ℕ) (xs ys : List Link) → IsDistinct e (of_definition number (xs ++ ys)) → IsDistinct e (of_definition number xs)
front_of e number xs ys apart =
    front_distinct e (of_definition number xs) (of_definition number ys)
    (subst (IsDistinct e) (filter-append (λ (link : Link). link.definition == number) xs ys) apart)

front_kind : (kind : LinkKind) (number : ℕ) (xs ys : List Link) → KeepKind kind number (xs ++ ys) → KeepKind kind number xs
front_kind OneToOne number xs ys keeps =
    (front_of (λ a b. a.to.0 == b.to.0) number xs ys keeps.0, front_of (λ a b. a.from.0 == b.from.0) number xs ys keeps.1)
front_kind OneToMany number xs ys keeps = front_of (λ a b. a.to.0 == b.to.0) number xs ys keeps
front_kind ManyToMany number xs ys keeps = keeps

module _ (defs : List LinkDef) (level : ℕ → Option ℕ) where
  -- what the links come to
  abbrev Whole : List Link → List AnnotLink → List Link
  Whole links given = links ++ map (link_for defs level) (filter (IsNew links) (first_places given))

  record Fits (links : List Link) (given : List AnnotLink) : Type 0 where
    defined : All (λ g. IsSome (definition_of defs level g)) given
    few : length (Whole links given) ≤ BUNDLE_LINKS
    kinds : (number : ℕ) → KeepKind (kind_of defs number) number (Whole links given)

  record IsPut (links : List Link) (given : List AnnotLink) : Type 0 where
    built : List Link
    is : put_links defs level given links ≡ Ok built

  number_of : (o : Option ℕ) → IsSome o → (number : ℕ) × (o ≡ Some number)
  number_of (Some n) is = (n, refl)
  number_of None is = cc

  fits_passed : (links : List Link) (g : AnnotLink) (gs : List AnnotLink) → list_any (joins g.from g.to) links ≡ true → Fits links (g ∷ gs) → Fits links gs
  fits_passed links g gs there fits =
      let same : Whole links (g ∷ gs) ≡ Whole links gs = ap (λ rest. links ++ map (link_for defs level) rest) (passed_tail links g (first_places gs) there) in
      record {
        defined = All-tail (λ h. IsSome (definition_of defs level h)) g gs fits.defined;
        few = subst (λ (ls : List Link). length ls ≤ BUNDLE_LINKS) same fits.few;
        kinds = λ number. subst (KeepKind (kind_of defs number) number) same (fits.kinds number);
      }

  whole_added : (links : List Link) (g : AnnotLink) (gs : List AnnotLink) (number : ℕ) → list_any (joins g.from g.to) links ≡ false → definition_of defs level g ≡ Some number →
      Whole links (g ∷ gs) ≡ Whole (links ++ link_of number g.from g.to ∷ []) gs
  whole_added links g gs number apart own =
      let link : Link = link_of number g.from g.to in
      let rest : List AnnotLink = filter (IsNew (links ++ link ∷ [])) (first_places gs) in
      ap (λ ps. links ++ map (link_for defs level) ps) (added_tail links number g (first_places gs) apart)
      ∙ ap (λ (o : Option ℕ). links ++ link_of (unwrap_or o 0) g.from g.to ∷ map (link_for defs level) rest) own
      ∙ sym (append_assoc links (link ∷ []) (map (link_for defs level) rest))

  fits_added : (links : List Link) (g : AnnotLink) (gs : List AnnotLink) (number : ℕ) → list_any (joins g.from g.to) links ≡ false → definition_of defs level g ≡ Some number →
      Fits links (g ∷ gs) → Fits (links ++ link_of number g.from g.to ∷ []) gs
  fits_added links g gs number apart own fits =
      let same = whole_added links g gs number apart own in
      record {
        defined = All-tail (λ h. IsSome (definition_of defs level h)) g gs fits.defined;
        few = subst (λ (ls : List Link). length ls ≤ BUNDLE_LINKS) same fits.few;
        kinds = λ n. subst (KeepKind (kind_of defs n) n) same (fits.kinds n);
      }

  free : (links : List Link) (g : AnnotLink) (gs : List AnnotLink) (number : ℕ) → list_any (joins g.from g.to) links ≡ false →
      Fits (links ++ link_of number g.from g.to ∷ []) gs → add_fault (kind_of defs number) number g.from g.to links ≡ None
  free links g gs number apart fits =
      let link : Link = link_of number g.from g.to in
      let rest : List Link = map (link_for defs level) (filter (IsNew (links ++ link ∷ [])) (first_places gs)) in
      let few : length ((links ++ link ∷ []) ++ rest) ≤ BUNDLE_LINKS = fits.few in
      let room : length links < BUNDLE_LINKS = omega (arith, length-append (links ++ link ∷ []) rest, length-append links (link ∷ [])) in
      free_added (kind_of defs number) link links apart room (front_kind (kind_of defs number) number (links ++ link ∷ []) rest (fits.kinds number))

  put_passed : (links : List Link) (g : AnnotLink) (number : ℕ) → definition_of defs level g ≡ Some number → list_any (joins g.from g.to) links ≡ true → put_link defs level links g ≡ Ok links
  put_passed links g number own there = rw (found_for defs level g number own, there) refl

  by_added : (has : Bool) (fault : Option Broken) (old new : List Link) → has ≡ false → fault ≡ None → (if has then fine_value old else unless_broken fault new) ≡ Ok new
  by_added false None old new is none = refl
  by_added false (Some rule) old new is none = cc
  by_added true fault old new is none = cc

  put_added : (links : List Link) (g : AnnotLink) (number : ℕ) → definition_of defs level g ≡ Some number → list_any (joins g.from g.to) links ≡ false →
      add_fault (kind_of defs number) number g.from g.to links ≡ None → put_link defs level links g ≡ Ok (links ++ link_of number g.from g.to ∷ [])
  put_added links g number own apart none =
      onward_goes (definition_for defs g (level g.from.0) (level g.to.0)) (put_by defs links g) number (found_for defs level g number own)
      ∙ by_added (list_any (joins g.from g.to) links) (add_fault (kind_of defs number) number g.from g.to links) links (links ++ link_of number g.from g.to ∷ []) apart none

  all_put : (given : List AnnotLink) (links : List Link) → Fits links given → IsPut links given
  all_put [] links fits = record { built = links; is = refl }
  all_put (g ∷ gs) links fits =
      let found : (number : ℕ) × (definition_of defs level g ≡ Some number) = number_of (definition_of defs level g) (All-head (λ h. IsSome (definition_of defs level h)) g gs fits.defined) in
      by found.0 found.1 (list_any (joins g.from g.to) links) refl (λ there. all_put gs links (fits_passed links g gs there fits))
      (λ apart. all_put gs (links ++ link_of found.0 g.from g.to ∷ []) (fits_added links g gs found.0 apart found.1 fits))
      (λ apart. free links g gs found.0 apart (fits_added links g gs found.0 apart found.1 fits))
    where
      by : (number : ℕ) → definition_of defs level g ≡ Some number → (has : Bool) → list_any (joins g.from g.to) links ≡ has →
          (list_any (joins g.from g.to) links ≡ true → IsPut links gs) →
          (list_any (joins g.from g.to) links ≡ false → IsPut (links ++ link_of number g.from g.to ∷ []) gs) →
          (list_any (joins g.from g.to) links ≡ false → add_fault (kind_of defs number) number g.from g.to links ≡ None) → IsPut links (g ∷ gs)
      by number own true there passed added none =
          let rest = passed there in
          record { built = rest.built; is = onward_goes (put_link defs level links g) (put_links defs level gs) links (put_passed links g number own there) ∙ rest.is }
      by number own false there passed added none =
          let rest = added there in
          record {
            built = rest.built;
            is = onward_goes (put_link defs level links g) (put_links defs level gs) (links ++ link_of number g.from g.to ∷ []) (put_added links g number own there (none there)) ∙ rest.is;
          }

  pub record ArePut (given : List AnnotLink) : Type 0 where
    pub built : List Link
    pub is : put_links defs level given [] ≡ Ok built

  pub links_put : (given : List AnnotLink) → KeepLinkRules defs level given → ArePut given
  links_put given keeps =
      let same : Whole [] given ≡ map (link_for defs level) (first_places given) = ap (map (link_for defs level)) (filter_every (first_places given)) in
      let put : IsPut [] given = all_put given [] (record {
        defined = keeps.defined;
        few = subst (λ (ls : List Link). length ls ≤ BUNDLE_LINKS) (sym same) (rw length-map keeps.few);
        kinds = λ number. subst (KeepKind (kind_of defs number) number) (sym same) (keeps.kinds number);
      }) in
      record { built = put.built; is = put.is }
