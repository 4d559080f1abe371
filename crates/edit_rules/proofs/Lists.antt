-- Lists of edits of one bundle.
use Rattle.std.proofs.Common.{◌≡◌, ℕ, suc, ◌+◌, ◌≤◌, ◌<◌, Bool, true, List, [], ◌∷◌, ◌++◌, length, IsTrue, refl, sym, ◌∙◌, ap, subst, arith, length-append}
use Rattle.std.specs.Prelude.{insert, OnOk, OnErr, Result, Ok, Err, Some}
use Rattle.std.specs.List.{list_all, slice_get}
use Rattle.std.proofs.lemmas.Bool.{and_parts, and_from, true≢false}
use Rattle.emu_names.specs.declared.names.BundleKey.{BundleKey}
use Rattle.bundle_edits.specs.declared.edit.Edit.{Edit}
use Rattle.bundle_edits.specs.Edits.{key_of}
use Rattle.edit_rules.proofs.KeyPlaces.{key_same, same_itself}
use Rattle.bundle_edits.proofs.Spans.{some_same}
use Rattle.edit_rules.specs.Acts.{has_key}
use Rattle.edit_rules.specs.Inner.Acts.{is_inner, is_edit_of, are_together, AreTogether}
use Rattle.emu_names.specs.declared.limits.TheConstants.{LIST_EDITS}

-- edits of the key of the last are edits of the key of the first
pub together : (xs : List Edit) (e : Edit) → list_all (is_edit_of (key_of e)) (xs ++ e ∷ []) ≡ true → are_together (xs ++ e ∷ []) ≡ true
together [] e all = refl
together (x ∷ []) e all = subst (λ (k : BundleKey). list_all (is_edit_of k) (x ∷ e ∷ []) ≡ true) (sym (own x (e ∷ []) (key_of e) all)) all
  where
    own : (x : Edit) (rest : List Edit) (k : BundleKey) → list_all (is_edit_of k) (x ∷ rest) ≡ true → key_of x ≡ k
    own x rest k all = key_same (key_of x) k (and_parts (is_inner x) (has_key k x) (and_parts (is_edit_of k x) (list_all (is_edit_of k) rest) all).0).1
together (x ∷ y ∷ xs) e all = subst (λ (k : BundleKey). list_all (is_edit_of k) (x ∷ y ∷ (xs ++ e ∷ [])) ≡ true) (sym (own x (y ∷ (xs ++ e ∷ [])) (key_of e) all)) all
  where
    own : (x : Edit) (rest : List Edit) (k : BundleKey) → list_all (is_edit_of k) (x ∷ rest) ≡ true → key_of x ≡ k
    own x rest k all = key_same (key_of x) k (and_parts (is_inner x) (has_key k x) (and_parts (is_edit_of k x) (list_all (is_edit_of k) rest) all).0).1

pub insert_last : {A : Type 0} (xs : List A) (x : A) → insert xs (length xs) x ≡ xs ++ x ∷ []
insert_last [] x = refl
insert_last (y ∷ xs) x = ap (λ (zs : List _). y ∷ zs) (insert_last xs x)

-- all edits of a list have the key of the first, and those of two and more are inner
pub keys_of : (e : Edit) (es : List Edit) → are_together (e ∷ es) ≡ true → list_all (has_key (key_of e)) (e ∷ es) ≡ true
keys_of e [] is = and_from (has_key (key_of e) e) true (same_itself (key_of e)) refl
keys_of e (f ∷ es) is = each (e ∷ f ∷ es) is
  where
    each : (xs : List Edit) → list_all (is_edit_of (key_of e)) xs ≡ true → list_all (has_key (key_of e)) xs ≡ true
    each [] is = refl
    each (x ∷ xs) is =
        let parts = and_parts (is_edit_of (key_of e) x) (list_all (is_edit_of (key_of e)) xs) is in
        and_from (has_key (key_of e) x) (list_all (has_key (key_of e)) xs) (and_parts (is_inner x) (has_key (key_of e) x) parts.0).1 (each xs parts.1)

pub inner_of : (e f : Edit) (es : List Edit) → are_together (e ∷ f ∷ es) ≡ true → list_all is_inner (e ∷ f ∷ es) ≡ true
inner_of e f es is = each (e ∷ f ∷ es) is
  where
    each : (xs : List Edit) → list_all (is_edit_of (key_of e)) xs ≡ true → list_all is_inner xs ≡ true
    each [] is = refl
    each (x ∷ xs) is =
        let parts = and_parts (is_edit_of (key_of e) x) (list_all (is_edit_of (key_of e)) xs) is in
        and_from (is_inner x) (list_all is_inner xs) (and_parts (is_inner x) (has_key (key_of e) x) parts.0).0 (each xs parts.1)

pub keys_at : (es : List Edit) (e : Edit) (k : BundleKey) → are_together es ≡ true → slice_get es 0 ≡ Some e → k ≡ key_of e → list_all (has_key k) es ≡ true
keys_at [] e k is at same = absurd cc
keys_at (x ∷ es) e k is at same =
    subst (λ (q : BundleKey). list_all (has_key q) (x ∷ es) ≡ true) (ap key_of (some_same x e at) ∙ sym same) (keys_of x es is)

pub inner_many : (es : List Edit) → are_together es ≡ true → 1 < length es → list_all is_inner es ≡ true
inner_many [] is more = absurd (omega (arith, more))
inner_many (e ∷ []) is more = absurd (omega (arith, more))
inner_many (e ∷ f ∷ es) is more = inner_of e f es is

pub some_edit : (es : List Edit) → are_together es ≡ true → 1 ≤ length es
some_edit [] is = absurd (true≢false (sym is))
some_edit (e ∷ es) is = omega arith

-- a list behind `push`
pub pushed : {A E : Type 0} (r : Result A E) (old new : List Edit) (end : ℕ) (e : Edit) → AreTogether old → length old < LIST_EDITS →
    list_all (is_edit_of (key_of e)) (old ++ e ∷ []) ≡ true → end ≡ length old → OnOk r (new ≡ insert old end e) → OnErr r (new ≡ old) → AreTogether new
pushed (Ok x) old new end e is room all last ok err =
    let put : new ≡ old ++ e ∷ [] = ok ∙ ap (λ (n : ℕ). insert old n e) last ∙ insert_last old e in
    let longer : length (old ++ e ∷ []) ≡ length old + 1 = length-append old (e ∷ []) in
    subst AreTogether (sym put) (record { few = omega (arith, longer, room); together = together old e all })
pushed (Err x) old new end e is room all last ok err = subst AreTogether (sym err) is

pub pushed_last : {A E : Type 0} (r : Result A E) (old new : List Edit) (end : ℕ) (e : Edit) → end ≡ length old → OnOk r (new ≡ insert old end e) → OnOk r (new ≡ old ++ e ∷ [])
pushed_last (Ok x) old new end e last ok = ok ∙ ap (λ (n : ℕ). insert old n e) last ∙ insert_last old e
pushed_last (Err x) old new end e last ok = tt
