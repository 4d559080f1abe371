-- Links that are put one after another keep the link rule, and are the pairs that are given.
use Rattle.std.proofs.Common.{◌≡◌, ℕ, ◌<◌, ◌≤◌, Bool, true, false, cond, not, ◌&&◌, ◌||◌, List, [], ◌∷◌, ◌++◌, length, map, get_or, Option, Some, None, Result, Ok, Err, nat_eq, nat_le, ◌==◌, refl, sym, ◌∙◌, ap, subst, arith, if◌then◌else◌, ok_or, eqb-true}
use Rattle.std.specs.List.{list_any, filter, position, slice_get, IsDistinct}
use Rattle.std.proofs.Common.{append_assoc}
use Rattle.std.proofs.lemmas.List.{append-nil}
use Rattle.std.proofs.lemmas.Bool.{eqb-false}
use Rattle.bundle_state.proofs.Tests.{cond_none}
use Rattle.std.proofs.lemmas.Bool.{and_parts}
use Rattle.std.proofs.lemmas.List.Folds.{list_any-append}
use Rattle.std.proofs.lemmas.List.Quantifiers.{position-Some}
use Rattle.std.proofs.lemmas.Option.{slice_get-get_or}
use Rattle.std.proofs.lemmas.Bool.Decides.{nat_tests}
use Rattle.std.proofs.lemmas.List.{map-append, length-append}
use Rattle.std.proofs.lemmas.List.Elements.{All-nil, All-push}
use Rattle.std.proofs.lemmas.Map.Keys.{IsDistinct-push}
use Rattle.std.specs.Cmp.{IsEquivalence}
use Rattle.emu_names.specs.declared.limits.TheConstants.{BUNDLE_LINKS}
use Rattle.emu_names.specs.declared.kinds.LinkKind.TheVariants.{ManyToMany}
use Rattle.emu_names.specs.declared.rules.Fault.{Fault}
use Rattle.emu_names.specs.declared.rules.Fault.TheVariants as faults
use Rattle.emu_names.specs.Inner.Gives.{GivesOrBroken}
use Rattle.emu_names.specs.declared.rules.Broken.{Broken}
use Rattle.emu_names.specs.declared.rules.Broken.TheVariants as rules
use Rattle.emu_names.specs.declared.rules.What.TheVariants as counted
use Rattle.level_items.specs.declared.annot.AnnotLink.{AnnotLink}
use Rattle.link_graph.specs.declared.link.Link.{Link}
use Rattle.link_graph.specs.Link.{link_of, joins, ArePairsApart, add_fault, kind_fault}
use Rattle.link_graph.specs.Kind.{KeepKind}
use Rattle.link_graph.proofs.Kept.{keep_added, keep_other, keep_none}
use Rattle.db_config.specs.declared.parts.LinkDef.{LinkDef}
use Rattle.db_config.specs.Lookups.{leads}
use Rattle.bundle_state.specs.Linked.{unless_broken, kind_of, definition_for, put_by, put_link, put_links, IsBetween, KeepLinkRule, same_pair, first_places, pair_of}
use Rattle.emu_names.specs.Steps.{onward}

-- what holds of links while they are put
pub record AreFineLinks (defs : List LinkDef) (level : ℕ → Option ℕ) (links : List Link) : Type 0 where
  pub few : length links ≤ BUNDLE_LINKS
  pub pairs : ArePairsApart links
  pub linked : KeepLinkRule defs level links

joins_like : IsEquivalence (λ (a b : Link). joins a.from a.to b)
joins_like = record {
  refl = λ x. grind (arith, nat_tests);
  symm = λ x y. grind (arith, nat_tests);
  congr = λ x y z e. grind (arith, nat_tests);
}

pub fine_none : (defs : List LinkDef) (level : ℕ → Option ℕ) → AreFineLinks defs level []
unfolding IsDistinct
fine_none defs level = record {
  few = omega arith;
  pairs = tt;
  linked = record { between = All-nil (IsBetween defs level); kinds = λ number. keep_none (kind_of defs number) number };
}

-- a definition that is found leads between the two levels
record IsFound (defs : List LinkDef) (upper lower number : ℕ) : Type 0 where
  def : LinkDef
  there : slice_get defs number ≡ Some def
  leads_down : leads upper lower def ≡ true

-- any definition
no_def : LinkDef
no_def = record { kind = ManyToMany; upper = 0; lower = 0 }

found_at : (upper lower : ℕ) (defs : List LinkDef) (number : ℕ) → position (leads upper lower) defs ≡ Some number → IsFound defs upper lower number
found_at upper lower defs number is =
    let at = position-Some (leads upper lower) defs number no_def is in
    record { def = get_or defs number no_def; there = slice_get-get_or defs number no_def at.0; leads_down = at.1 }

leads_parts : (upper lower : ℕ) (def : LinkDef) → leads upper lower def ≡ true → (def.upper ≡ upper) × (def.lower ≡ lower)
leads_parts upper lower def h =
    let parts : ((def.upper == upper) ≡ true) × ((def.lower == lower) ≡ true) = and_parts (def.upper == upper) (def.lower == lower) h in
    (eqb-true def.upper upper parts.0, eqb-true def.lower lower parts.1)

pub level_parts : (defs : List LinkDef) (level : ℕ → Option ℕ) (given : AnnotLink) (upper lower : Option ℕ) (number : ℕ) →
    level given.from.0 ≡ upper → level given.to.0 ≡ lower → definition_for defs given upper lower ≡ Ok number →
    IsBetween defs level (link_of number given.from given.to)
level_parts defs level given None lower number is_upper is_lower found = cc
level_parts defs level given (Some upper) None number is_upper is_lower found = cc
level_parts defs level given (Some upper) (Some lower) number is_upper is_lower found =
    by (position (leads upper lower) defs) refl found
  where
    by : (o : Option ℕ) → position (leads upper lower) defs ≡ o → ok_or o rules.NoLinkDefinition ≡ Ok number → IsBetween defs level (link_of number given.from given.to)
    by None is h = cc
    by (Some n) is h =
        let same : n ≡ number = cc in
        let f : IsFound defs upper lower number = found_at upper lower defs number (is ∙ ap Some same) in
        let both : (f.def.upper ≡ upper) × (f.def.lower ≡ lower) = leads_parts upper lower f.def f.leads_down in
        record {
          def = f.def;
          defined = f.there;
          from = is_upper ∙ ap Some (sym both.0);
          to = is_lower ∙ ap Some (sym both.1);
        }

-- A link more.

pub below_limit : (count : ℕ) → nat_le BUNDLE_LINKS count ≡ false → count < BUNDLE_LINKS
below_limit count is = grind (arith, nat_tests)

module _ (defs : List LinkDef) (level : ℕ → Option ℕ) where
  kinds_more : (link : Link) (links : List Link) → add_fault (kind_of defs link.definition) link.definition link.from link.to links ≡ None →
      KeepLinkRule defs level links → (number : ℕ) → KeepKind (kind_of defs number) number (links ++ link ∷ [])
  kinds_more link links free rule number = by (nat_eq link.definition number) refl
    where
      by : (b : Bool) → nat_eq link.definition number ≡ b → KeepKind (kind_of defs number) number (links ++ link ∷ [])
      by true is =
          let P : ℕ → Type 0 = λ n. KeepKind (kind_of defs n) n (links ++ link ∷ []) in
          subst P (eqb-true link.definition number is) (keep_added (kind_of defs link.definition) link links free (rule.kinds link.definition))
      by false is = keep_other (kind_of defs number) number link links (eqb-false link.definition number is) (rule.kinds number)

  pub grown : (link : Link) (links : List Link) → list_any (joins link.from link.to) links ≡ false →
      add_fault (kind_of defs link.definition) link.definition link.from link.to links ≡ None → IsBetween defs level link →
      AreFineLinks defs level links → AreFineLinks defs level (links ++ link ∷ [])
  grown link links apart free between fine =
      let first = cond_none (list_any (joins link.from link.to) links) rules.LinkExists
      (cond (nat_le BUNDLE_LINKS (length links)) (Some (rules.TooMany counted.BundleLinks)) (kind_fault (kind_of defs link.definition) link.definition link.from link.to links)) free in
      let room : nat_le BUNDLE_LINKS (length links) ≡ false = (cond_none (nat_le BUNDLE_LINKS (length links)) (rules.TooMany counted.BundleLinks)
      (kind_fault (kind_of defs link.definition) link.definition link.from link.to links) first.1).0 in
      record {
        few = omega (arith, length-append links (link ∷ []), below_limit (length links) room);
        pairs = IsDistinct-push joins_like links link fine.pairs apart;
        linked = record {
          between = All-push (IsBetween defs level) links link fine.linked.between between;
          kinds = kinds_more link links free fine.linked;
        };
      }

-- What goes on without a broken rule.

-- a value without a broken rule
abbrev pub fine_value : {A : Type 0} → A → Result A Broken
fine_value x = Ok x

pub ok_same : {A : Type 0} (x y : A) → fine_value x ≡ Ok y → x ≡ y
ok_same x y e = cc

pub record GoesOn {A B : Type 0} (r : Result A Broken) (next : A → Result B Broken) (value : B) : Type 0 where
  pub middle : A
  pub first : r ≡ Ok middle
  pub second : next middle ≡ Ok value

pub goes_on : {A B : Type 0} (r : Result A Broken) (next : A → Result B Broken) (value : B) → onward r next ≡ Ok value → GoesOn r next value
goes_on (Ok middle) next value is = record { middle = middle; first = refl; second = is }
goes_on (Err rule) next value is = cc

-- how links grow by a link that is given: not at all where its pair is there, else by a link between the
-- levels of its definition that breaks no rule
pub record Grows (defs : List LinkDef) (level : ℕ → Option ℕ) (links : List Link) (given : AnnotLink) (number : ℕ) : Type 0 where
  pub apart : list_any (joins given.from given.to) links ≡ false
  pub free : add_fault (kind_of defs number) number given.from given.to links ≡ None
  pub between : IsBetween defs level (link_of number given.from given.to)
  pub own : definition_for defs given (level given.from.0) (level given.to.0) ≡ Ok number

pub data Put (defs : List LinkDef) (level : ℕ → Option ℕ) (links : List Link) (given : AnnotLink) : List Link → Type 0 where
  Passed : list_any (joins given.from given.to) links ≡ true → Put defs level links given links
  Added : (number : ℕ) → Grows defs level links given number → Put defs level links given (links ++ link_of number given.from given.to ∷ [])

pub put_one : (defs : List LinkDef) (level : ℕ → Option ℕ) (links : List Link) (given : AnnotLink) (built : List Link) →
    put_link defs level links given ≡ Ok built → Put defs level links given built
put_one defs level links given built is =
    let on = goes_on (definition_for defs given (level given.from.0) (level given.to.0)) (put_by defs links given) built is in
    by on.middle (list_any (joins given.from given.to) links) (add_fault (kind_of defs on.middle) on.middle given.from given.to links) refl refl
    (level_parts defs level given (level given.from.0) (level given.to.0) on.middle refl refl on.first) on.first on.second
  where
    by : (number : ℕ) (has : Bool) (fault : Option Broken) → list_any (joins given.from given.to) links ≡ has →
        add_fault (kind_of defs number) number given.from given.to links ≡ fault →
        IsBetween defs level (link_of number given.from given.to) →
        definition_for defs given (level given.from.0) (level given.to.0) ≡ Ok number →
        (if has then Ok links else unless_broken fault (links ++ link_of number given.from given.to ∷ [])) ≡ Ok built →
        Put defs level links given built
    by number true fault there free between own is =
        subst (Put defs level links given) (ok_same links built is) (Passed there)
    by number false None there free between own is =
        subst (Put defs level links given) (ok_same (links ++ link_of number given.from given.to ∷ []) built is)
        (Added number (record { apart = there; free = free; between = between; own = own }))
    by number false (Some rule) there free between own is = cc

one_fine : (defs : List LinkDef) (level : ℕ → Option ℕ) (links : List Link) (given : AnnotLink) (built : List Link) →
    Put defs level links given built → AreFineLinks defs level links → AreFineLinks defs level built
one_fine defs level links given built (Passed there) fine = fine
one_fine defs level links given built (Added number grows) fine =
    grown defs level (link_of number given.from given.to) links grows.apart grows.free grows.between fine

pub links_fine : (defs : List LinkDef) (level : ℕ → Option ℕ) (given : List AnnotLink) (links built : List Link) →
    put_links defs level given links ≡ Ok built → AreFineLinks defs level links → AreFineLinks defs level built
links_fine defs level [] links built is fine = subst (AreFineLinks defs level) (ok_same links built is) fine
links_fine defs level (g ∷ gs) links built is fine =
    let on = goes_on (put_link defs level links g) (put_links defs level gs) built is in
    links_fine defs level gs on.middle built on.second
    (one_fine defs level links g on.middle (put_one defs level links g on.middle on.first) fine)

-- The pairs that are given.

-- a pair that no link has
abbrev pub IsNew : List Link → AnnotLink → Bool
IsNew links given = not (list_any (joins given.from given.to) links)

filter_twice : {X : Type 0} (p q r : X → Bool) → ((x : X) → r x ≡ (q x && p x)) → (xs : List X) → filter p (filter q xs) ≡ filter r xs
filter_twice p q r same [] = refl
filter_twice {X = X} p q r same (x ∷ xs) =
    push (q x) (x ∷ filter q xs) (filter q xs)
    ∙ by (q x) (p x) (r x) (filter p (filter q xs)) (filter r xs) (filter_twice p q r same xs) (same x)
  where
    push : (b : Bool) (us vs : List X) → filter p (cond b us vs) ≡ cond b (filter p us) (filter p vs)
    push true us vs = refl
    push false us vs = refl

    by : (b c d : Bool) (twice once : List X) → twice ≡ once → d ≡ (b && c) → cond b (cond c (x ∷ twice) twice) twice ≡ cond d (x ∷ once) once
    by true true true twice once rest e = ap (λ ys. x ∷ ys) rest
    by true true false twice once rest e = cc
    by true false true twice once rest e = cc
    by true false false twice once rest e = rest
    by false c true twice once rest e = cc
    by false c false twice once rest e = rest

pub filter_every : {X : Type 0} (xs : List X) → filter (λ x. true) xs ≡ xs
filter_every [] = refl
filter_every (x ∷ xs) = ap (λ ys. x ∷ ys) (filter_every xs)

-- a pair that is there: those that are the same are not new either
passed_new : (links : List Link) (given later : AnnotLink) → list_any (joins given.from given.to) links ≡ true →
    IsNew links later ≡ (not (same_pair given later) && IsNew links later)
passed_new links given later there = by (same_pair given later) refl
  where
    pairs : List Link → ℕ → ℕ → Bool
    pairs ls a b = list_any (λ l. (l.from.0 == a) && (l.to.0 == b)) ls

    by : (b : Bool) → same_pair given later ≡ b → IsNew links later ≡ (not b && IsNew links later)
    by false is = refl
    by true is =
        let parts : ((given.from.0 == later.from.0) ≡ true) × ((given.to.0 == later.to.0) ≡ true) = and_parts (given.from.0 == later.from.0) (given.to.0 == later.to.0) is in
        let from : given.from.0 ≡ later.from.0 = eqb-true given.from.0 later.from.0 parts.0 in
        let to : given.to.0 ≡ later.to.0 = eqb-true given.to.0 later.to.0 parts.1 in
        ap not (subst (λ (a : ℕ). list_any (λ l. (l.from.0 == a) && (l.to.0 == later.to.0)) links ≡ true) from
        (subst (λ (b : ℕ). list_any (λ l. (l.from.0 == given.from.0) && (l.to.0 == b)) links ≡ true) to there))

added_new : (links : List Link) (number : ℕ) (given later : AnnotLink) →
    IsNew (links ++ link_of number given.from given.to ∷ []) later ≡ (not (same_pair given later) && IsNew links later)
added_new links number given later =
    ap not (list_any-append (joins later.from later.to) links (link_of number given.from given.to ∷ []))
    ∙ by (list_any (joins later.from later.to) links) (same_pair given later)
  where
    by : (a b : Bool) → not (a || (b || false)) ≡ (not b && not a)
    by true true = refl
    by true false = refl
    by false true = refl
    by false false = refl

pub passed_tail : (links : List Link) (given : AnnotLink) (later : List AnnotLink) → list_any (joins given.from given.to) links ≡ true →
    filter (IsNew links) (given ∷ filter (λ h. not (same_pair given h)) later) ≡ filter (IsNew links) later
passed_tail links given later there =
    ap (λ (b : Bool). cond (not b) (given ∷ filter (IsNew links) (filter (λ h. not (same_pair given h)) later)) (filter (IsNew links) (filter (λ h. not (same_pair given h)) later))) there
    ∙ filter_twice (IsNew links) (λ h. not (same_pair given h)) (IsNew links) (λ h. passed_new links given h there) later

pub added_tail : (links : List Link) (number : ℕ) (given : AnnotLink) (later : List AnnotLink) → list_any (joins given.from given.to) links ≡ false →
    filter (IsNew links) (given ∷ filter (λ h. not (same_pair given h)) later) ≡ given ∷ filter (IsNew (links ++ link_of number given.from given.to ∷ [])) later
added_tail links number given later apart =
    ap (λ (b : Bool). cond (not b) (given ∷ filter (IsNew links) (filter (λ h. not (same_pair given h)) later)) (filter (IsNew links) (filter (λ h. not (same_pair given h)) later))) apart
    ∙ ap (λ back. given ∷ back)
    (filter_twice (IsNew links) (λ h. not (same_pair given h)) (IsNew (links ++ link_of number given.from given.to ∷ [])) (λ h. added_new links number given h) later)

one_given : (defs : List LinkDef) (level : ℕ → Option ℕ) (links : List Link) (given : AnnotLink) (built : List Link) (later : List AnnotLink) →
    Put defs level links given built →
    map pair_of built ++ filter (IsNew built) later
    ≡ map pair_of links ++ filter (IsNew links) (given ∷ filter (λ h. not (same_pair given h)) later)
one_given defs level links given built later (Passed there) =
    ap (λ back. map pair_of links ++ back) (sym (passed_tail links given later there))
one_given defs level links given built later (Added number grows) =
    let link : Link = link_of number given.from given.to in
    ap (λ front. front ++ filter (IsNew (links ++ link ∷ [])) later) (map-append pair_of links (link ∷ []))
    ∙ append_assoc (map pair_of links) (given ∷ []) (filter (IsNew (links ++ link ∷ [])) later)
    ∙ ap (λ back. map pair_of links ++ back) (sym (added_tail links number given later grows.apart))

links_given : (defs : List LinkDef) (level : ℕ → Option ℕ) (given : List AnnotLink) (links built : List Link) →
    put_links defs level given links ≡ Ok built → map pair_of built ≡ map pair_of links ++ filter (IsNew links) (first_places given)
links_given defs level [] links built is = ap (map pair_of) (sym (ok_same links built is)) ∙ sym (append-nil (map pair_of links))
links_given defs level (g ∷ gs) links built is =
    let on = goes_on (put_link defs level links g) (put_links defs level gs) built is in
    links_given defs level gs on.middle built on.second
    ∙ one_given defs level links g on.middle (first_places gs) (put_one defs level links g on.middle on.first)

pub all_given : (defs : List LinkDef) (level : ℕ → Option ℕ) (given : List AnnotLink) (links : List Link) →
    put_links defs level given [] ≡ Ok links → map pair_of links ≡ first_places given
all_given defs level given links is = links_given defs level given [] links is ∙ filter_every (first_places given)

-- A loop along the links.

-- a broken rule in place of a value
abbrev stopped : (A : Type 0) → Broken → Result A Broken
stopped A rule = Err rule

err_same : (A : Type 0) (a b : Broken) → stopped A a ≡ Err b → a ≡ b
err_same A a b e = cc

-- a rule that a link breaks is the first one of all links
pub onward_stops : {A B : Type 0} (r : Result A Broken) (next : A → Result B Broken) (rule : Broken) → r ≡ Err rule → onward r next ≡ Err rule
onward_stops (Ok x) next rule is = cc
onward_stops {A = A} (Err other) next rule is = ap Err (err_same A other rule is)

pub onward_goes : {A B : Type 0} (r : Result A Broken) (next : A → Result B Broken) (value : A) → r ≡ Ok value → onward r next ≡ next value
onward_goes r next value is = rw is refl

-- the answer of a link that ends with a fault
abbrev ends_with : Fault → Result (Unit {0}) Fault
ends_with e = Err e

-- a fault that a link ends with ends the whole
pub broken_ends : (e : Fault) (step whole : Result (List Link) Broken) →
    ((rule : Broken) → ends_with e ≡ Err (faults.Broken rule) → step ≡ Err rule) →
    ((rule : Broken) → step ≡ Err rule → whole ≡ Err rule) → GivesOrBroken {A = List Link} (Err e) whole
broken_ends (faults.Broken rule) step whole first on = on rule (first rule refl)
broken_ends faults.Memory step whole first on = tt
