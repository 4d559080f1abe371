-- Links that times gave are taken out again, the last one first.
use Rattle.std.proofs.Common.{◌≡◌, ℕ, Bool, true, false, cond, not, ◌&&◌, ◌||◌, List, [], ◌∷◌, ◌++◌, reverse, nat_eq, refl, sym, ◌∙◌, ap, Result, Ok}
use Rattle.std.specs.List.{filter, list_any, AllByRecursion, IsDistinct}
use Rattle.std.proofs.lemmas.List.{reverse-append}
use Rattle.std.proofs.lemmas.List.Folds.{list_any-append}
use Rattle.std.proofs.lemmas.Map.Keys.{IsDistinct-head, IsDistinct-tail}
use Rattle.emu_names.specs.declared.rules.Broken.{Broken}
use Rattle.emu_names.specs.Steps.{onward}
use Rattle.level_items.specs.declared.annot.AnnotLink.{AnnotLink}
use Rattle.link_graph.specs.declared.link.Link.{Link}
use Rattle.link_graph.specs.Link.{joins, link_of, add_fault}
use Rattle.link_builder.proofs.Single.{have_one_lower}
use Rattle.bundle_state.specs.Bundle.{BundleParts, level_of_id}
use Rattle.bundle_state.specs.Linked.{definition_for, kind_of}
use Rattle.bundle_state.specs.Changed.{with_links, link_put, link_added, link_removed}
use Rattle.bundle_state.proofs.BuiltKept.{unbroken}
use Rattle.bundle_state.proofs.LinksKept.{goes_on, ok_same, fine_value}
use Rattle.bundle_edits.specs.Changes.{is_linked, pair_linked, pairs_linked}
use Rattle.undo_laws.proofs.Steps.{in_turn, in_turn-append}
use Rattle.undo_laws.proofs.Links.{linked_back}

-- the link of a pair is taken out
abbrev pub unlink : AnnotLink → BundleParts → Result BundleParts Broken
unlink pair b = link_removed pair.from pair.to b

-- which of these pairs are no links
abbrev pub unlinked : List Link → List AnnotLink → List AnnotLink
unlinked links pairs = filter (λ pair. not (is_linked links pair)) pairs

and_false : (a b : Bool) → b ≡ false → (a && b) ≡ false
and_false true b is = is
and_false false b is = refl

same_linked : (n : ℕ) (pair other : AnnotLink) (links : List Link) → have_one_lower pair other ≡ false → is_linked (links ++ link_of n pair.from pair.to ∷ []) other ≡ is_linked links other
same_linked n pair other links apart =
    let away : joins other.from other.to (link_of n pair.from pair.to) ≡ false = and_false (nat_eq pair.from.0 other.from.0) (nat_eq pair.to.0 other.to.0) apart in
    list_any-append (joins other.from other.to) links (link_of n pair.from pair.to ∷ [])
    ∙ ap (λ (t : Bool). is_linked links other || (t || false)) away ∙ or_false (is_linked links other)
  where
    or_false : (t : Bool) → (t || false) ≡ t
    or_false true = refl
    or_false false = refl

same_unlinked : (n : ℕ) (pair : AnnotLink) (links : List Link) (pairs : List AnnotLink) → AllByRecursion (λ other. have_one_lower pair other ≡ false) pairs →
    unlinked (links ++ link_of n pair.from pair.to ∷ []) pairs ≡ unlinked links pairs
same_unlinked n pair links [] apart = refl
same_unlinked n pair links (other ∷ pairs) apart =
    ap (λ (t : Bool). cond (not t) (other ∷ unlinked (links ++ link_of n pair.from pair.to ∷ []) pairs) (unlinked (links ++ link_of n pair.from pair.to ∷ []) pairs))
    (same_linked n pair other links apart.0)
    ∙ ap (λ (ps : List AnnotLink). cond (not (is_linked links other)) (other ∷ ps) ps) (same_unlinked n pair links pairs apart.1)

-- the links of a bundle behind a new one
record IsMore (b mid : BundleParts) (pair : AnnotLink) : Type 0 where
  number : ℕ
  is : with_links b (b.links ++ link_of number pair.from pair.to ∷ []) ≡ mid

more_links : (b mid : BundleParts) (pair : AnnotLink) → link_added pair.from pair.to b ≡ Ok mid → IsMore b mid pair
more_links b mid pair added =
    let given : AnnotLink = record { from = pair.from; to = pair.to } in
    let found = goes_on (definition_for b.definitions given (level_of_id b.levels pair.from.0) (level_of_id b.levels pair.to.0)) (link_put pair.from pair.to b) mid added in
    let n = found.middle in
    record {
      number = n;
      is = (unbroken (add_fault (kind_of b.definitions n) n pair.from pair.to b.links) (with_links b (b.links ++ link_of n pair.from pair.to ∷ [])) mid found.second).1;
    }

pub pairs_back : (pairs : List AnnotLink) → IsDistinct have_one_lower pairs → (b c : BundleParts) → pairs_linked pairs b ≡ Ok c →
    in_turn unlink (reverse (unlinked b.links pairs)) c ≡ Ok b
pairs_back [] apart b c is = sym is
pairs_back (pair ∷ pairs) apart b c is =
    let step = goes_on (pair_linked pair b) (pairs_linked pairs) c is in
    by step.middle (λ m more. pairs_back pairs (IsDistinct-tail have_one_lower pair pairs apart) m c more) (is_linked b.links pair) step.first step.second
  where
    by : (mid : BundleParts) → ((m : BundleParts) → pairs_linked pairs m ≡ Ok c → in_turn unlink (reverse (unlinked m.links pairs)) c ≡ Ok m) → (t : Bool) →
        cond t (fine_value b) (link_added pair.from pair.to b) ≡ Ok mid → pairs_linked pairs mid ≡ Ok c →
        in_turn unlink (reverse (cond (not t) (pair ∷ unlinked b.links pairs) (unlinked b.links pairs))) c ≡ Ok b
    by mid rest true same more = rest b (ap (λ (m : BundleParts). pairs_linked pairs m) (ok_same b mid same) ∙ more)
    by mid rest false added more =
        let m : IsMore b mid pair = more_links b mid pair added in
        let ps : unlinked mid.links pairs ≡ unlinked b.links pairs =
        ap (λ (z : BundleParts). unlinked z.links pairs) (sym m.is) ∙ same_unlinked m.number pair b.links pairs (IsDistinct-head have_one_lower pair pairs apart) in
        ap (λ (qs : List AnnotLink). in_turn unlink qs c) (reverse-append (pair ∷ []) (unlinked b.links pairs))
        ∙ in_turn-append unlink (reverse (unlinked b.links pairs)) (pair ∷ []) c
        ∙ ap (λ (qs : List AnnotLink). onward (in_turn unlink (reverse qs) c) (λ z. in_turn unlink (pair ∷ []) z)) (sym ps)
        ∙ ap (λ (r : Result BundleParts Broken). onward r (λ z. in_turn unlink (pair ∷ []) z)) (rest mid more)
        ∙ ap (λ (r : Result BundleParts Broken). onward r (λ z. fine_value z)) (linked_back b mid pair.from pair.to added)
