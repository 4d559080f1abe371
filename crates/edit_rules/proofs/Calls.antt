-- The calls on one bundle.
use Rattle.std.proofs.Common.{◌≡◌, ℕ, suc, ◌+◌, ◌-◌, ◌≤◌, Bool, true, List, [], ◌∷◌, length, Option, Some, None, Result, Ok, Err, refl, sym, ◌∙◌, ap, subst, arith}
use Rattle.std.specs.List.{list_all, slice_get}
use Rattle.std.proofs.Common.{take, drop, get_or}
use Rattle.std.proofs.Math.Seq.{take-length}
use Rattle.std.proofs.lemmas.Bool.{and_parts, true≢false}
use Rattle.emu_names.specs.declared.rules.Broken.{Broken}
use Rattle.emu_names.specs.declared.rules.Broken.TheVariants as rules
use Rattle.db_config.specs.declared.parts.ConfigParts.{ConfigParts}
use Rattle.bundle_state.specs.Bundle.{BundleParts, item_count}
use Rattle.emu_names.specs.Steps.{onward}
use Rattle.bundle_edits.specs.declared.bundle_change.Counts.{Counts}
use Rattle.bundle_edits.specs.declared.edit.Edit.{Edit}
use Rattle.bundle_edits.specs.declared.edit.Edit.TheVariants as edits
use Rattle.bundle_edits.specs.Changes.{bundle_changed, changed, if_kept}
use Rattle.edit_rules.specs.declared.acts.Breach.{Breach}
use Rattle.edit_rules.specs.declared.acts.ChangeFault.{ChangeFault}
use Rattle.edit_rules.specs.declared.acts.ChangeFault.TheVariants as places
use Rattle.edit_rules.specs.Inner.Acts.{is_inner}
use Rattle.edit_rules.specs.Inner.Effects.{GivesOrBreach, kept}
use Rattle.edit_rules.specs.Effects.{at_place}
use Rattle.edit_rules.specs.Turns.{with_own, changed_in_turn}
use Rattle.edit_rules.specs.Inner.Turns.{beside, HasOwn, IsCounted, own_in_turn}
use Rattle.edit_rules.proofs.Turns.{told, fine, broken_at}
use Rattle.bundle_edits.proofs.Spans.{some_same}

abbrev counts_as : ℕ → ℕ → Counts
counts_as bundles items = record { bundles = bundles; items = items }

-- the counts of all others with this one are those of all
pub own_beside : (counts : Counts) (b : BundleParts) → HasOwn counts b → with_own (beside counts (Some b)) (Some b) ≡ counts
own_beside counts b own =
    let one = own.bundles in
    let low = own.items in
    let bundles : suc (counts.bundles - 1) ≡ counts.bundles = omega (arith, one) in
    let items : counts.items - item_count b.levels + item_count b.levels ≡ counts.items = omega (arith, low) in
    ap (λ (n : ℕ). counts_as n (counts.items - item_count b.levels + item_count b.levels)) bundles ∙ ap (λ (n : ℕ). counts_as counts.bundles n) items

-- an edit of a bundle that stays, as one of a bundle that may be missing
abbrev some_of : BundleParts → Result (Option BundleParts) Broken
some_of b = Ok (Some b)

pub inner_kept : (config : ConfigParts) (counts : Counts) (e : Edit) (b : BundleParts) → is_inner e ≡ true → changed config counts (Some b) e ≡ onward (bundle_changed config counts e b) some_of
inner_kept config counts (edits.AddBundle key annot) b is = absurd (true≢false (sym is))
inner_kept config counts (edits.DropBundle key) b is = absurd (true≢false (sym is))
inner_kept config counts (edits.AddItem key level position item) b is = refl
inner_kept config counts (edits.RemoveItem key id) b is = refl
inner_kept config counts (edits.SetLabel key id attribute label) b is = refl
inner_kept config counts (edits.SetSegment key id start dur) b is = refl
inner_kept config counts (edits.MoveBoundary key id start) b is = refl
inner_kept config counts (edits.SetPoint key id at) b is = refl
inner_kept config counts (edits.Split key id new_id start) b is = refl
inner_kept config counts (edits.Merge key id) b is = refl
inner_kept config counts (edits.AddLink key from to) b is = refl
inner_kept config counts (edits.RemoveLink key from to) b is = refl
inner_kept config counts (edits.LinkTimes key upper lower) b is = absurd (true≢false (sym is))
inner_kept config counts (edits.PutItem key level position item) b is = refl
inner_kept config counts (edits.PutLabel key id attribute label) b is = refl
inner_kept config counts (edits.PutLink key from to place) b is = refl

pub inner_missing : (config : ConfigParts) (counts : Counts) (e : Edit) → is_inner e ≡ true → changed config counts None e ≡ Err rules.NoBundle
inner_missing config counts (edits.AddBundle key annot) is = absurd (true≢false (sym is))
inner_missing config counts (edits.DropBundle key) is = absurd (true≢false (sym is))
inner_missing config counts (edits.AddItem key level position item) is = refl
inner_missing config counts (edits.RemoveItem key id) is = refl
inner_missing config counts (edits.SetLabel key id attribute label) is = refl
inner_missing config counts (edits.SetSegment key id start dur) is = refl
inner_missing config counts (edits.MoveBoundary key id start) is = refl
inner_missing config counts (edits.SetPoint key id at) is = refl
inner_missing config counts (edits.Split key id new_id start) is = refl
inner_missing config counts (edits.Merge key id) is = refl
inner_missing config counts (edits.AddLink key from to) is = refl
inner_missing config counts (edits.RemoveLink key from to) is = refl
inner_missing config counts (edits.LinkTimes key upper lower) is = absurd (true≢false (sym is))
inner_missing config counts (edits.PutItem key level position item) is = refl
inner_missing config counts (edits.PutLabel key id attribute label) is = refl
inner_missing config counts (edits.PutLink key from to place) is = refl

-- edits of a bundle that stays, as edits of one that may be missing
abbrev told_some : BundleParts → Result (Option BundleParts) Breach
told_some b = Ok (Some b)

one_kept : (place : ℕ) (r : Result BundleParts Broken) (f : Option BundleParts → Result (Option BundleParts) Breach) (g : BundleParts → Result BundleParts Breach) →
    ((b : BundleParts) → f (Some b) ≡ onward (g b) told_some) → onward (at_place place (onward r some_of)) f ≡ onward (onward (at_place place r) g) told_some
one_kept place (Ok b) f g alike = alike b
one_kept place (Err rule) f g alike = refl

pub own_kept : (config : ConfigParts) (others : Counts) (es : List Edit) (place : ℕ) (b : BundleParts) → list_all is_inner es ≡ true →
    changed_in_turn config others place (Some b) es ≡ onward (own_in_turn config others place b es) told_some
own_kept config others [] place b inner = refl
own_kept config others (e ∷ es) place b inner =
    let parts = and_parts (is_inner e) (list_all is_inner es) inner in
    ap (λ (r : Result (Option BundleParts) Broken). onward (at_place place r) (λ next. changed_in_turn config others (suc place) next es))
    (inner_kept config (with_own others (Some b)) e b parts.0)
    ∙ one_kept place (bundle_changed config (with_own others (Some b)) e b) (λ next. changed_in_turn config others (suc place) next es)
    (λ next. own_in_turn config others (suc place) next es) (λ next. own_kept config others es (suc place) next parts.1)

pub kept_gives : (r : Result BundleParts ChangeFault) (there : Result BundleParts Breach) → GivesOrBreach r there → GivesOrBreach (kept r) (onward there told_some)
kept_gives (Ok b) there gives = ap (λ (t : Result BundleParts Breach). onward t told_some) gives
kept_gives (Err (places.Broken breach)) there gives = ap (λ (t : Result BundleParts Breach). onward t told_some) gives
kept_gives (Err places.Memory) there gives = tt

-- several edits of a copy
pub many : (config : ConfigParts) (counts others : Counts) (b copy : BundleParts) (es : List Edit) (r : Result BundleParts ChangeFault) (k : Result (Option BundleParts) ChangeFault) →
    copy ≡ b → others ≡ beside counts (Some b) → k ≡ kept r → list_all is_inner es ≡ true → GivesOrBreach r (own_in_turn config others 1 copy es) →
    GivesOrBreach k (changed_in_turn config (beside counts (Some b)) 1 (Some b) es)
many config counts others b copy es r k copied same is inner gives =
    subst (λ (q : Result (Option BundleParts) ChangeFault). GivesOrBreach q (changed_in_turn config (beside counts (Some b)) 1 (Some b) es)) (sym is)
    (subst (λ (t : Result (Option BundleParts) Breach). GivesOrBreach (kept r) t) (sym (own_kept config (beside counts (Some b)) es 1 b inner))
    (kept_gives r (own_in_turn config (beside counts (Some b)) 1 b es)
    (subst (λ (o : Counts). GivesOrBreach r (own_in_turn config o 1 b es)) same
    (subst (λ (c : BundleParts). GivesOrBreach r (own_in_turn config others 1 c es)) copied gives))))

-- A step of the loop.

pub cut_first : (xs : List Edit) (x : Edit) → 1 ≤ length xs → x ≡ get_or xs 0 x → xs ≡ x ∷ take (length xs - 1) (drop 1 xs)
cut_first [] x some is = absurd (omega (arith, some))
cut_first (y ∷ ys) x some is =
    let less : suc (length ys) - 1 ≡ length ys = omega arith in
    ap (λ (z : Edit). z ∷ ys) (sym is) ∙ ap (λ (zs : List Edit). x ∷ zs) (sym (ap (λ (n : ℕ). take n ys) less ∙ take-length ys))

pub turn_on : (config : ConfigParts) (others : Counts) (place : ℕ) (b next : BundleParts) (e : Edit) (rest after : List Edit) (whole : Result BundleParts Breach) →
    rest ≡ e ∷ after → at_place place (bundle_changed config (with_own others (Some b)) e b) ≡ Ok next → own_in_turn config others place b rest ≡ whole →
    own_in_turn config others (place + 1) next after ≡ whole
turn_on config others place b next e rest after whole split made is =
    let up : place + 1 ≡ suc place = omega arith in
    ap (λ (n : ℕ). own_in_turn config others n next after) up
    ∙ sym (ap (λ (r : Result BundleParts Breach). onward r (λ n. own_in_turn config others (suc place) n after)) made)
    ∙ ap (λ (xs : List Edit). own_in_turn config others place b xs) (sym split) ∙ is

pub inner_rest : (rest after : List Edit) (e : Edit) → rest ≡ e ∷ after → list_all is_inner rest ≡ true → list_all is_inner after ≡ true
inner_rest rest after e split inner =
    (and_parts (is_inner e) (list_all is_inner after) (sym (ap (list_all is_inner) split) ∙ inner)).1

pub length_rest : (rest after : List Edit) (e : Edit) → rest ≡ e ∷ after → length rest ≡ suc (length after)
length_rest rest after e split = ap length split

-- One edit alone, and none for several.

pub counted_own : (counts : Counts) (o : Option BundleParts) → IsCounted counts o → with_own (beside counts o) o ≡ counts
counted_own counts None counted = refl
counted_own counts (Some b) counted = own_beside counts b counted

onward_told : (r : Result (Option BundleParts) Breach) → onward r (λ next. told next) ≡ r
onward_told (Ok x) = refl
onward_told (Err fault) = refl

pub alone : (es : List Edit) (e : Edit) → length es ≤ 1 → slice_get es 0 ≡ Some e → es ≡ e ∷ []
alone [] e few at = absurd cc
alone (x ∷ []) e few at = ap (λ (y : Edit). y ∷ []) (some_same x e at)
alone (x ∷ y ∷ es) e few at = absurd (omega (arith, few))

pub one_gives : (config : ConfigParts) (counts : Counts) (o : Option BundleParts) (es : List Edit) (e : Edit) (r : Result (Option BundleParts) ChangeFault) →
    IsCounted counts o → length es ≤ 1 → slice_get es 0 ≡ Some e → GivesOrBreach r (at_place 1 (changed config counts o e)) →
    GivesOrBreach r (changed_in_turn config (beside counts o) 1 o es)
one_gives config counts o es e r counted few at gives =
    subst (λ (t : Result (Option BundleParts) Breach). GivesOrBreach r t)
    (sym (ap (changed_in_turn config (beside counts o) 1 o) (alone es e few at)
    ∙ onward_told (at_place 1 (changed config (with_own (beside counts o) o) o e))
    ∙ ap (λ (c : Counts). at_place 1 (changed config c o e)) (counted_own counts o counted))) gives

pub missing_first : (config : ConfigParts) (counts : Counts) (es : List Edit) → 1 ≤ length es → list_all is_inner es ≡ true → changed_in_turn config counts 1 None es ≡ broken_at 1 rules.NoBundle
missing_first config counts [] some inner = absurd (omega (arith, some))
missing_first config counts (e ∷ es) some inner =
    ap (λ (r : Result (Option BundleParts) Broken). onward (at_place 1 r) (λ next. changed_in_turn config counts 2 next es))
    (inner_missing config counts e (and_parts (is_inner e) (list_all is_inner es) inner).0)

pub missing_gives : (config : ConfigParts) (counts : Counts) (o : Option BundleParts) (es : List Edit) → o ≡ None → 1 ≤ length es → list_all is_inner es ≡ true →
    changed_in_turn config (beside counts o) 1 o es ≡ broken_at 1 rules.NoBundle
missing_gives config counts None es none some inner = missing_first config counts es some inner
missing_gives config counts (Some b) es none some inner = absurd cc
