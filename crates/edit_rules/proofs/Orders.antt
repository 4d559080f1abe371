-- Edits of different bundles, in either order.
use Rattle.std.proofs.Common.{◌≡◌, ℕ, Bool, true, false, cond, not, List, [], ◌∷◌, Option, Some, None, Result, Ok, nat_le, nat_lt, ◌+◌, refl, sym, ◌∙◌, ap, subst}
use Rattle.std.proofs.lemmas.Bool.{true≢false}
use Rattle.emu_names.specs.declared.limits.TheConstants.{ALL_ITEMS, BUNDLES}
use Rattle.emu_names.specs.declared.names.BundleKey.{BundleKey}
use Rattle.emu_names.specs.declared.kinds.ItemId.{ItemId}
use Rattle.emu_names.specs.declared.rules.Broken.{Broken}
use Rattle.emu_names.specs.declared.rules.Broken.TheVariants as rules
use Rattle.emu_names.specs.declared.rules.What.TheVariants as counted
use Rattle.level_items.specs.declared.annot.Annot.{Annot}
use Rattle.level_items.specs.declared.annot.AnnotItem.{AnnotItem}
use Rattle.std.specs.Option.{option_or}
use Rattle.db_config.specs.declared.parts.ConfigParts.{ConfigParts}
use Rattle.bundle_state.specs.Bundle.{BundleParts, item_count}
use Rattle.bundle_state.specs.Built.{built}
use Rattle.bundle_state.specs.Linked.{unless_broken}
use Rattle.emu_names.specs.Steps.{onward}
use Rattle.bundle_state.specs.Made.{made_item}
use Rattle.bundle_state.specs.Changed.{with_levels, change_level, item_added}
use Rattle.bundle_state.proofs.LinksKept.{goes_on, ok_same, fine_value}
use Rattle.bundle_state.proofs.BuiltKept.{unbroken}
use Rattle.bundle_edits.specs.declared.bundle_change.Counts.{Counts}
use Rattle.bundle_edits.specs.declared.edit.Edit.{Edit}
use Rattle.bundle_edits.specs.declared.edit.Edit.TheVariants as edits
use Rattle.bundle_edits.specs.Edits.{key_of}
use Rattle.bundle_edits.specs.Changes.{unless_too_many, bundle_added, level_found, NumberedLevel, room_fault, id_fault, given_item_fault, put_on, item_put, segment_of, last_of, cut_fault, cut_at, split_in, segment_split, bundle_changed, if_kept, changed}
use Rattle.edit_rules.specs.Database.{DatabaseParts, with_bundles, same_key, is_before, bundle_with, without, put_in_order, put_for, counts_of, are_keys_rising, KeepsDatabaseRules}
use Rattle.edit_rules.specs.Effects.{put_back, edit_effect}
use Rattle.edit_rules.specs.Laws.{OrderDoesNotMatter}
use Rattle.edit_rules.proofs.KeyPlaces.{Apart, above_own, apart_all, apart_find, key_same, same_itself, before_or, rising_tail}
use Rattle.edit_rules.proofs.Stays.{apart_left, limit_passed, limit_before, changed_stored, old_is, edits_keep_rules}
use Rattle.bundle_edits.proofs.Spans.{some_same}

-- Look-ups in a list that was changed.

-- keys that are the same as a third one are the same
pub same_to : (a b c : BundleKey) → same_key a b ≡ true → same_key b c ≡ same_key a c
same_to a b c is = ap (λ (k : BundleKey). same_key k c) (sym (key_same a b is))

not_both : (a b c : BundleKey) → same_key a b ≡ false → same_key a c ≡ true → same_key b c ≡ true → ⊥
not_both a b c apart first second =
    let same : a ≡ b = key_same a c first ∙ sym (key_same b c second) in
    true≢false (sym (same_itself b) ∙ ap (λ (k : BundleKey). same_key k b) (sym same) ∙ apart)

pub found_without : (k key : BundleKey) (bs : List BundleParts) → bundle_with k (without key bs) ≡ cond (same_key key k) None (bundle_with k bs)
found_without k key [] = none (same_key key k)
  where
    none : (t : Bool) → bundle_with k [] ≡ cond t None (bundle_with k [])
    none true = refl
    none false = refl
found_without k key (b ∷ bs) = by (same_key b.key key) refl (same_key b.key k) refl (same_key key k) refl (found_without k key bs)
  where
    by : (t : Bool) → same_key b.key key ≡ t → (u : Bool) → same_key b.key k ≡ u → (v : Bool) → same_key key k ≡ v → bundle_with k (without key bs) ≡ cond v None (bundle_with k bs) →
        bundle_with k (cond (not t) (b ∷ without key bs) (without key bs)) ≡ cond v None (cond u (Some b) (bundle_with k bs))
    by true e u f true g rest = rest
    by true e true f false g rest = absurd (true≢false (sym f ∙ sym (same_to b.key key k e) ∙ g))
    by true e false f false g rest = rest
    by false e true f true g rest = absurd (true≢false (sym (same_itself b.key) ∙ ap (λ (q : BundleKey). same_key b.key q) (key_same b.key k f ∙ sym (key_same key k g)) ∙ e))
    by false e true f false g rest = ap (λ (t : Bool). cond t (Some b) (bundle_with k (without key bs))) f
    by false e false f v g rest = ap (λ (t : Bool). cond t (Some b) (bundle_with k (without key bs))) f ∙ rest

pub found_put : (k : BundleKey) (new : BundleParts) (bs : List BundleParts) → Apart new.key bs → bundle_with k (put_in_order new bs) ≡ cond (same_key new.key k) (Some new) (bundle_with k bs)
found_put k new [] apart = refl
found_put k new (b ∷ bs) apart = by (is_before new.key b.key) (same_key b.key k) refl (same_key new.key k) refl (found_put k new bs apart.1)
  where
    by : (t u : Bool) → same_key b.key k ≡ u → (v : Bool) → same_key new.key k ≡ v → bundle_with k (put_in_order new bs) ≡ cond v (Some new) (bundle_with k bs) →
        bundle_with k (cond t (new ∷ b ∷ bs) (b ∷ put_in_order new bs)) ≡ cond v (Some new) (cond u (Some b) (bundle_with k bs))
    by true u f v g rest = ap (λ (t : Bool). cond t (Some new) (bundle_with k (b ∷ bs))) g ∙ ap (λ (t : Bool). cond v (Some new) (cond t (Some b) (bundle_with k bs))) f
    by false true f true g rest = absurd (not_both b.key new.key k apart.0 f g)
    by false true f false g rest = ap (λ (t : Bool). cond t (Some b) (bundle_with k (put_in_order new bs))) f
    by false false f v g rest = ap (λ (t : Bool). cond t (Some b) (bundle_with k (put_in_order new bs))) f ∙ rest

-- the bundle, if there is one, has this key
abbrev pub IsOfKey : BundleKey → Option BundleParts → Type 0
IsOfKey key next = (new : BundleParts) → next ≡ Some new → new.key ≡ key

pub found_for : (k key : BundleKey) (next : Option BundleParts) (bs : List BundleParts) → IsOfKey key next → bundle_with k (put_for key next bs) ≡ cond (same_key key k) next (bundle_with k bs)
found_for k key None bs own = found_without k key bs
found_for k key (Some new) bs own =
    let same : new.key ≡ key = own new refl in
    found_put k new (without key bs) (subst (λ (q : BundleKey). Apart q (without key bs)) (sym same) (apart_left key bs))
    ∙ ap (λ (q : BundleKey). cond (same_key q k) (Some new) (bundle_with k (without key bs))) same
    ∙ ap (λ (o : Option BundleParts). cond (same_key key k) (Some new) o) (found_without k key bs)
    ∙ twice (same_key key k)
  where
    twice : (t : Bool) → cond t (Some new) (cond t None (bundle_with k bs)) ≡ cond t (Some new) (bundle_with k bs)
    twice true = refl
    twice false = refl

-- Lists whose keys rise are the same where each look-up is.

none_some : (b : BundleParts) → None ≡ Some b → ⊥
none_some b e = cc

own_found : (b : BundleParts) (bs : List BundleParts) → bundle_with b.key (b ∷ bs) ≡ Some b
own_found b bs = ap (λ (t : Bool). cond t (Some b) (bundle_with b.key bs)) (same_itself b.key)

-- a key before the first of a list is in it nowhere
nowhere : (k : BundleKey) (b : BundleParts) (bs : List BundleParts) → are_keys_rising (b ∷ bs) ≡ true → is_before k b.key ≡ true → bundle_with k (b ∷ bs) ≡ None
nowhere k b bs up is = apart_find k (b ∷ bs) (apart_all k (b ∷ bs) up is)

heads_same : (x y : BundleParts) (xs ys : List BundleParts) → are_keys_rising (x ∷ xs) ≡ true → are_keys_rising (y ∷ ys) ≡ true →
    ((k : BundleKey) → bundle_with k (x ∷ xs) ≡ bundle_with k (y ∷ ys)) → x ≡ y
heads_same x y xs ys up upper alike = by (same_key y.key x.key) refl (is_before x.key y.key) refl
  where
    by : (t : Bool) → same_key y.key x.key ≡ t → (u : Bool) → is_before x.key y.key ≡ u → x ≡ y
    by true e u f = some_same x y (sym (own_found x xs) ∙ alike x.key ∙ ap (λ (t : Bool). cond t (Some y) (bundle_with x.key ys)) e)
    by false e true f = absurd (none_some x (sym (nowhere x.key y ys upper f) ∙ sym (alike x.key) ∙ own_found x xs))
    by false e false f = absurd (none_some y (sym (nowhere y.key x xs up (before_or x.key y.key f e)) ∙ alike y.key ∙ own_found y ys))

pub lists_same : (xs ys : List BundleParts) → are_keys_rising xs ≡ true → are_keys_rising ys ≡ true → ((k : BundleKey) → bundle_with k xs ≡ bundle_with k ys) → xs ≡ ys
lists_same [] [] up upper alike = refl
lists_same [] (y ∷ ys) up upper alike = absurd (none_some y (alike y.key ∙ own_found y ys))
lists_same (x ∷ xs) [] up upper alike = absurd (none_some x (sym (alike x.key) ∙ own_found x xs))
lists_same (x ∷ xs) (y ∷ ys) up upper alike =
    let head : x ≡ y = heads_same x y xs ys up upper alike in
    let rest : xs ≡ ys = lists_same xs ys (rising_tail x xs up) (rising_tail y ys upper) (λ k. tails_same k (same_key x.key k) refl head) in
    ap (λ (z : BundleParts). z ∷ xs) head ∙ ap (λ (zs : List BundleParts). y ∷ zs) rest
  where
    tails_same : (k : BundleKey) (t : Bool) → same_key x.key k ≡ t → x ≡ y → bundle_with k xs ≡ bundle_with k ys
    tails_same k true e head =
        let own : x.key ≡ k = key_same x.key k e in
        let other : y.key ≡ k = ap (λ (z : BundleParts). z.key) (sym head) ∙ own in
        let left : bundle_with k xs ≡ None = subst (λ (q : BundleKey). bundle_with q xs ≡ None) own (apart_find x.key xs (apart_all x.key xs (rising_tail x xs up) (above_own x xs up))) in
        let right : bundle_with k ys ≡ None = subst (λ (q : BundleKey). bundle_with q ys ≡ None) other (apart_find y.key ys (apart_all y.key ys (rising_tail y ys upper) (above_own y ys upper))) in
        left ∙ sym right
    tails_same k false e head =
        ap (λ (t : Bool). cond t (Some x) (bundle_with k xs)) (sym e) ∙ alike k
        ∙ ap (λ (t : Bool). cond t (Some y) (bundle_with k ys)) (ap (λ (z : BundleParts). same_key z.key k) (sym head) ∙ e)

-- How many bundles and items there are decides only whether an edit is taken.

both_same : {A : Type 0} (r : Result A Broken) (x y : A) → r ≡ Ok x → r ≡ Ok y → x ≡ y
both_same r x y first second = ok_same x y (sym first ∙ second)

put_alike : (tested : Bool) (one two : Counts) (position : Option ℕ) (item : AnnotItem) (b x y : BundleParts) (m : NumberedLevel) → put_on tested one position item b m ≡ Ok x → put_on tested two position item b m ≡ Ok y → x ≡ y
put_alike tested one two position item b x y (number, def) first second =
    let f = goes_on (unless_broken (given_item_fault tested one b.levels def item) b) (item_added number position (made_item def.attributes item)) x first in
    let g = goes_on (unless_broken (given_item_fault tested two b.levels def item) b) (item_added number position (made_item def.attributes item)) y second in
    let left = unbroken (given_item_fault tested one b.levels def item) b f.middle f.first in
    let right = unbroken (given_item_fault tested two b.levels def item) b g.middle g.first in
    both_same (item_added number position (made_item def.attributes item) b) x y
    (ap (λ (c : BundleParts). item_added number position (made_item def.attributes item) c) left.1 ∙ f.second)
    (ap (λ (c : BundleParts). item_added number position (made_item def.attributes item) c) right.1 ∙ g.second)

item_alike : (tested : Bool) (config : ConfigParts) (one two : Counts) (level : List ℕ) (position : Option ℕ) (item : AnnotItem) (b x y : BundleParts) →
    item_put tested config one level position item b ≡ Ok x → item_put tested config two level position item b ≡ Ok y → x ≡ y
item_alike tested config one two level position item b x y first second =
    let f = goes_on (level_found level config.levels) (put_on tested one position item b) x first in
    let g = goes_on (level_found level config.levels) (put_on tested two position item b) y second in
    let same : f.middle ≡ g.middle = ok_same f.middle g.middle (sym f.first ∙ g.first) in
    put_alike tested one two position item b x y f.middle f.second (ap (λ (m : NumberedLevel). put_on tested two position item b m) same ∙ g.second)

split_alike : (one two : Counts) (id new_id : ItemId) (start : ℕ) (b x y : BundleParts) → segment_split one id new_id start b ≡ Ok x → segment_split two id new_id start b ≡ Ok y → x ≡ y
split_alike one two id new_id start b x y first second =
    let f = goes_on (segment_of id b.levels) (split_in one new_id start b) x first in
    let g = goes_on (segment_of id b.levels) (split_in two new_id start b) y second in
    let same : f.middle ≡ g.middle = ok_same f.middle g.middle (sym f.first ∙ g.first) in
    let s = f.middle in
    let other : split_in two new_id start b s ≡ Ok y = ap (split_in two new_id start b) same ∙ g.second in
    let whole : BundleParts = with_levels b (change_level (cut_at new_id start s) s.level b.levels) in
    sym (unbroken (option_or (room_fault one b.levels) (option_or (id_fault new_id b.levels) (cut_fault s (last_of s) start))) whole x f.second).1
    ∙ (unbroken (option_or (room_fault two b.levels) (option_or (id_fault new_id b.levels) (cut_fault s (last_of s) start))) whole y other).1

bundle_alike : (config : ConfigParts) (one two : Counts) (edit : Edit) (b x y : BundleParts) → bundle_changed config one edit b ≡ Ok x → bundle_changed config two edit b ≡ Ok y → x ≡ y
bundle_alike config one two (edits.AddBundle key annot) b x y first second = absurd cc
bundle_alike config one two (edits.DropBundle key) b x y first second = sym (ok_same b x first) ∙ ok_same b y second
bundle_alike config one two (edits.AddItem key level position item) b x y first second = item_alike true config one two level position item b x y first second
bundle_alike config one two (edits.RemoveItem key id) b x y first second = ok_same x y (sym first ∙ second)
bundle_alike config one two (edits.SetLabel key id attribute label) b x y first second = ok_same x y (sym first ∙ second)
bundle_alike config one two (edits.SetSegment key id start dur) b x y first second = ok_same x y (sym first ∙ second)
bundle_alike config one two (edits.MoveBoundary key id start) b x y first second = ok_same x y (sym first ∙ second)
bundle_alike config one two (edits.SetPoint key id at) b x y first second = ok_same x y (sym first ∙ second)
bundle_alike config one two (edits.Split key id new_id start) b x y first second = split_alike one two id new_id start b x y first second
bundle_alike config one two (edits.Merge key id) b x y first second = ok_same x y (sym first ∙ second)
bundle_alike config one two (edits.AddLink key from to) b x y first second = ok_same x y (sym first ∙ second)
bundle_alike config one two (edits.RemoveLink key from to) b x y first second = ok_same x y (sym first ∙ second)
bundle_alike config one two (edits.LinkTimes key upper lower) b x y first second = ok_same x y (sym first ∙ second)
bundle_alike config one two (edits.PutItem key level position item) b x y first second = item_alike false config one two level position item b x y first second
bundle_alike config one two (edits.PutLabel key id attribute label) b x y first second = ok_same x y (sym first ∙ second)
bundle_alike config one two (edits.PutLink key from to place) b x y first second = ok_same x y (sym first ∙ second)

added_alike : (config : ConfigParts) (one two : Counts) (key : BundleKey) (annot : Annot) (x y : Option BundleParts) → bundle_added config one key annot ≡ Ok x → bundle_added config two key annot ≡ Ok y → x ≡ y
added_alike config one two key annot x y first second =
    let a = limit_before (nat_le BUNDLES one.bundles) (rules.TooMany counted.Bundles) (onward (built config key annot) (unless_too_many one)) x first in
    let b = limit_before (nat_le BUNDLES two.bundles) (rules.TooMany counted.Bundles) (onward (built config key annot) (unless_too_many two)) y second in
    let f = goes_on (built config key annot) (unless_too_many one) x a.1 in
    let g = goes_on (built config key annot) (unless_too_many two) y b.1 in
    let same : f.middle ≡ g.middle = ok_same f.middle g.middle (sym f.first ∙ g.first) in
    sym (limit_passed (nat_lt ALL_ITEMS (one.items + item_count f.middle.levels)) (rules.TooMany counted.AllItems) (Some f.middle) x f.second).1
    ∙ ap Some same ∙ (limit_passed (nat_lt ALL_ITEMS (two.items + item_count g.middle.levels)) (rules.TooMany counted.AllItems) (Some g.middle) y g.second).1

pub changed_alike : (config : ConfigParts) (one two : Counts) (old : Option BundleParts) (edit : Edit) (x y : Option BundleParts) → changed config one old edit ≡ Ok x → changed config two old edit ≡ Ok y → x ≡ y
changed_alike config one two None (edits.AddBundle key annot) x y first second = added_alike config one two key annot x y first second
changed_alike config one two None (edits.DropBundle key) x y first second = absurd cc
changed_alike config one two None (edits.AddItem key level position item) x y first second = absurd cc
changed_alike config one two None (edits.RemoveItem key id) x y first second = absurd cc
changed_alike config one two None (edits.SetLabel key id attribute label) x y first second = absurd cc
changed_alike config one two None (edits.SetSegment key id start dur) x y first second = absurd cc
changed_alike config one two None (edits.MoveBoundary key id start) x y first second = absurd cc
changed_alike config one two None (edits.SetPoint key id at) x y first second = absurd cc
changed_alike config one two None (edits.Split key id new_id start) x y first second = absurd cc
changed_alike config one two None (edits.Merge key id) x y first second = absurd cc
changed_alike config one two None (edits.AddLink key from to) x y first second = absurd cc
changed_alike config one two None (edits.RemoveLink key from to) x y first second = absurd cc
changed_alike config one two None (edits.LinkTimes key upper lower) x y first second = absurd cc
changed_alike config one two None (edits.PutItem key level position item) x y first second = absurd cc
changed_alike config one two None (edits.PutLabel key id attribute label) x y first second = absurd cc
changed_alike config one two None (edits.PutLink key from to place) x y first second = absurd cc
changed_alike config one two (Some b) edit x y first second =
    let f = goes_on (bundle_changed config one edit b) (if_kept edit) x first in
    let g = goes_on (bundle_changed config two edit b) (if_kept edit) y second in
    let same : f.middle ≡ g.middle = bundle_alike config one two edit b f.middle g.middle f.first g.first in
    ok_same x y (sym f.second ∙ ap (if_kept edit) same ∙ g.second)

-- Two edits.

pub record Goes (d next : DatabaseParts) (edit : Edit) : Type 0 where
  pub new : Option BundleParts
  pub made : changed d.config (counts_of d.bundles) (bundle_with (key_of edit) d.bundles) edit ≡ Ok new
  pub own : IsOfKey (key_of edit) new
  pub is : with_bundles d (put_for (key_of edit) new d.bundles) ≡ next

pub goes : (d next : DatabaseParts) (edit : Edit) → KeepsDatabaseRules d → edit_effect d edit ≡ Ok next → Goes d next edit
goes d next edit keeps is =
    let old : Option BundleParts = bundle_with (key_of edit) d.bundles in
    let on = goes_on (changed d.config (counts_of d.bundles) old edit) (put_back d edit) next is in
    record {
      new = on.middle;
      made = on.first;
      own = λ new same. (changed_stored d.config (counts_of d.bundles) edit old new keeps.config (old_is d (key_of edit) old keeps refl) (on.first ∙ ap fine_value same)).own;
      is = ok_same (with_bundles d (put_for (key_of edit) on.middle d.bundles)) next on.second;
    }

-- an edit behind one of another bundle makes the same of its own bundle
again : (d one other both : DatabaseParts) (first second : Edit) → same_key (key_of first) (key_of second) ≡ false → (f : Goes d one first) (g : Goes one both second) (h : Goes d other second) → g.new ≡ h.new
again d one other both first second apart f g h =
    let there : bundle_with (key_of second) one.bundles ≡ bundle_with (key_of second) d.bundles =
    ap (λ (e : DatabaseParts). bundle_with (key_of second) e.bundles) (sym f.is)
    ∙ found_for (key_of second) (key_of first) f.new d.bundles f.own
    ∙ ap (λ (t : Bool). cond t f.new (bundle_with (key_of second) d.bundles)) apart in
    let config : one.config ≡ d.config = ap (λ (e : DatabaseParts). e.config) (sym f.is) in
    changed_alike d.config (counts_of one.bundles) (counts_of d.bundles) (bundle_with (key_of second) d.bundles) second g.new h.new
    (ap (λ (c : ConfigParts). changed c (counts_of one.bundles) (bundle_with (key_of second) d.bundles) second) (sym config)
    ∙ ap (λ (o : Option BundleParts). changed one.config (counts_of one.bundles) o second) (sym there) ∙ g.made) h.made

-- what is found behind both
found_both : (d one both : DatabaseParts) (first second : Edit) (f : Goes d one first) (g : Goes one both second) (k : BundleKey) →
    bundle_with k both.bundles ≡ cond (same_key (key_of second) k) g.new (cond (same_key (key_of first) k) f.new (bundle_with k d.bundles))
found_both d one both first second f g k =
    ap (λ (e : DatabaseParts). bundle_with k e.bundles) (sym g.is) ∙ found_for k (key_of second) g.new one.bundles g.own
    ∙ ap (λ (o : Option BundleParts). cond (same_key (key_of second) k) g.new o)
    (ap (λ (e : DatabaseParts). bundle_with k e.bundles) (sym f.is) ∙ found_for k (key_of first) f.new d.bundles f.own)

swap : (a b : BundleKey) (k : BundleKey) → same_key a b ≡ false → (x y z : Option BundleParts) → cond (same_key b k) y (cond (same_key a k) x z) ≡ cond (same_key a k) x (cond (same_key b k) y z)
swap a b k apart x y z = by (same_key b k) refl (same_key a k) refl
  where
    by : (t : Bool) → same_key b k ≡ t → (u : Bool) → same_key a k ≡ u → cond t y (cond u x z) ≡ cond u x (cond t y z)
    by true e true f = absurd (not_both a b k apart f e)
    by true e false f = refl
    by false e u f = refl

flipped : (a b : BundleKey) → same_key a b ≡ false → same_key b a ≡ false
flipped a b apart = by (same_key b a) refl
  where
    by : (t : Bool) → same_key b a ≡ t → t ≡ false
    by true e = absurd (true≢false (sym (same_itself a) ∙ ap (λ (k : BundleKey). same_key a k) (sym (key_same b a e)) ∙ apart))
    by false e = refl

-- a database of these parts
abbrev parts_as : ConfigParts → List BundleParts → DatabaseParts
parts_as config bundles = record { config = config; bundles = bundles }

pub order_does_not_matter : OrderDoesNotMatter
order_does_not_matter d one other both same first second keeps apart one_is both_is other_is same_is =
    let keeps_one : KeepsDatabaseRules one = edits_keep_rules d one first keeps one_is in
    let keeps_other : KeepsDatabaseRules other = edits_keep_rules d other second keeps other_is in
    let keeps_both : KeepsDatabaseRules both = edits_keep_rules one both second keeps_one both_is in
    let keeps_same : KeepsDatabaseRules same = edits_keep_rules other same first keeps_other same_is in
    let f : Goes d one first = goes d one first keeps one_is in
    let g : Goes one both second = goes one both second keeps_one both_is in
    let h : Goes d other second = goes d other second keeps other_is in
    let j : Goes other same first = goes other same first keeps_other same_is in
    let second_same : g.new ≡ h.new = again d one other both first second apart f g h in
    let first_same : j.new ≡ f.new = again d other one same second first (flipped (key_of first) (key_of second) apart) h j f in
    let bundles : both.bundles ≡ same.bundles =
    lists_same both.bundles same.bundles keeps_both.rising keeps_same.rising
    (λ k. found_both d one both first second f g k
    ∙ ap (λ (o : Option BundleParts). cond (same_key (key_of second) k) o (cond (same_key (key_of first) k) f.new (bundle_with k d.bundles))) second_same
    ∙ ap (λ (o : Option BundleParts). cond (same_key (key_of second) k) h.new (cond (same_key (key_of first) k) o (bundle_with k d.bundles))) (sym first_same)
    ∙ swap (key_of first) (key_of second) k apart j.new h.new (bundle_with k d.bundles)
    ∙ sym (found_both d other same second first h j k)) in
    let config : both.config ≡ same.config =
    ap (λ (e : DatabaseParts). e.config) (sym g.is) ∙ ap (λ (e : DatabaseParts). e.config) (sym f.is)
    ∙ ap (λ (e : DatabaseParts). e.config) h.is ∙ ap (λ (e : DatabaseParts). e.config) j.is in
    ap (λ (c : ConfigParts). parts_as c both.bundles) config ∙ ap (λ (bs : List BundleParts). parts_as same.config bs) bundles
