-- Steps of the loops over the edits of a list.
use Rattle.std.proofs.Common.{◌≡◌, ℕ, zero, suc, ◌+◌, ◌-◌, ◌<◌, ◌≤◌, ◌^◌, ◌∙◌, Bool, true, false, List, [], ◌∷◌, ◌++◌, length, get_or, min, refl, sym, ap, subst, arith, IsTrue, Some, length-append}
use Rattle.std.specs.Prelude.{◌&&◌, Option, None, Result, Ok, Err}
use Rattle.std.specs.Int.{w32, to_be_bytes}
use Rattle.std.specs.List.{list_all, slice_get}
use Rattle.std.proofs.lemmas.Bool.{and_parts, and_from, false≢true}
use Rattle.emu_names.specs.declared.limits.TheConstants.{LIST_EDITS}
use Rattle.emu_names.specs.declared.names.BundleKey.{BundleKey}
use Rattle.bundle_edits.specs.declared.edit.Edit.{Edit}
use Rattle.bundle_edits.specs.Edits.{key_of}
use Rattle.edit_rules.specs.Acts.{has_key}
use Rattle.edit_rules.specs.Inner.Acts.{is_inner, is_edit_of, are_together, AreTogether}
use Rattle.edit_rules.specs.Database.{same_key}
use Rattle.edit_rules.proofs.KeyPlaces.{key_same, same_itself}
use Rattle.byte_forms.specs.Forms.{Form, ◌>>=◌}
use Rattle.byte_forms.specs.declared.rest.ReadFault.{ReadFault}
use Rattle.byte_forms.specs.declared.rest.ReadFault.TheVariants as faults
use Rattle.byte_forms.specs.Inner.Reading.{Gives}
use Rattle.byte_forms.specs.Parts.{led, imaged, u32_form, led_on, read_as}
use Rattle.byte_forms.specs.Lists.{items_at, items_code, consed, list_of, times}
use Rattle.value_codes.specs.Annots.{key_form}
use Rattle.value_codes.proofs.Loops.{put_front, read_first, read_more, read_stops, read_done}
use Rattle.edit_code.specs.declared.fields.Fields.{Fields}
use Rattle.edit_code.specs.declared.kinds.Kind.{Kind}
use Rattle.value_codes.specs.Counts.{count_form}
use Rattle.edit_code.specs.Edits.{first_key, inner_form, several_form, told_form}
use Rattle.edit_code.specs.Fields.{fields_of, edit_of, fields_form}
use Rattle.edit_code.specs.Kinds.{inner_kinds, kind_number}
use Rattle.edit_code.specs.Tags.{kind_at, tag_form}
use Rattle.edit_code.specs.Inner.Reading.{Skips}
use Rattle.edit_code.proofs.FieldLaws.{edit_there, inner_is, key_is, kind_read}
use Rattle.edit_code.proofs.TagLaws.{tag_found}

-- Elements that all pass.

pub each_at : {A : Type 0} (test : A → Bool) (xs : List A) (i : ℕ) (x : A) → list_all test xs ≡ true → i < length xs
    → x ≡ get_or xs i x → test x ≡ true
each_at test [] i x all h is = absurd (omega arith)
each_at test (y ∷ ys) zero x all h is = ap test is ∙ (and_parts (test y) (list_all test ys) all).0
each_at test (y ∷ ys) (suc i) x all h is = each_at test ys i x (and_parts (test y) (list_all test ys) all).1 (omega arith) is

pub all_and : {A : Type 0} (test : A → Bool) (xs : List A) (x : A) → list_all test xs ≡ true → test x ≡ true
    → list_all test (xs ++ x ∷ []) ≡ true
all_and test [] x all is = and_from (test x) true is refl
all_and test (y ∷ ys) x all is =
    let parts = and_parts (test y) (list_all test ys) all in
    and_from (test y) (list_all test (ys ++ x ∷ [])) parts.0 (all_and test ys x parts.1 is)

-- An edit of a key.

pub inner_here : (key : BundleKey) (e : Edit) → is_edit_of key e ≡ true → is_inner e ≡ true
inner_here key e is = (and_parts (is_inner e) (has_key key e) is).0

pub key_here : (key : BundleKey) (e : Edit) → is_edit_of key e ≡ true → key_of e ≡ key
key_here key e is = key_same (key_of e) key (and_parts (is_inner e) (has_key key e) is).1

-- it is made of the key and its fields
pub made_here : (key : BundleKey) (e : Edit) → is_edit_of key e ≡ true → e ≡ edit_of key (fields_of e)
made_here key e is = sym (edit_there e) ∙ ap (λ k. edit_of k (fields_of e)) (key_here key e is)

pub is_edit : (key : BundleKey) (e : Edit) → is_inner e ≡ true → key_of e ≡ key → is_edit_of key e ≡ true
is_edit key e inner same =
    and_from (is_inner e) (has_key key e) inner (subst (λ (k : BundleKey). same_key (key_of e) k ≡ true) same (same_itself (key_of e)))

pub together_and : (key : BundleKey) (es : List Edit) (e : Edit) → list_all (is_edit_of key) es ≡ true → is_edit_of key e ≡ true
    → list_all (is_edit_of (key_of e)) (es ++ e ∷ []) ≡ true
together_and key es e all is =
    subst (λ (k : BundleKey). list_all (is_edit_of k) (es ++ e ∷ []) ≡ true) (sym (key_here key e is))
    (all_and (is_edit_of key) es e all is)

-- A list of edits.

pub some_edits : (es : List Edit) → AreTogether es → 1 ≤ length es
some_edits [] h = absurd (false≢true h.together)
some_edits (e ∷ es) h = omega arith

pub all_edits : (es : List Edit) → AreTogether es → 2 ≤ length es → list_all (is_edit_of (first_key es)) es ≡ true
all_edits [] h some = absurd (omega (arith, some))
all_edits (e ∷ []) h some = absurd (omega (arith, some))
all_edits (e ∷ next ∷ es) h some = h.together

pub first_got : (es : List Edit) (e : Edit) (k : BundleKey) → slice_get es 0 ≡ Some e → k ≡ key_of e → k ≡ first_key es
first_got [] e k at is = absurd cc
first_got (x ∷ es) e k at is = let same : x ≡ e = cc in is ∙ ap key_of (sym same)

pub only_got : (es : List Edit) (e : Edit) → length es ≡ 1 → slice_get es 0 ≡ Some e → es ≡ e ∷ []
only_got [] e one at = absurd cc
only_got (x ∷ []) e one at = let same : x ≡ e = cc in ap (λ y. y ∷ []) same
only_got (x ∷ y ∷ es) e one at = absurd (omega (arith, one))

-- What is read has the key first.

first_made : (key : BundleKey) (f : Fields) (r : Result (List Edit × List ℕ) ℕ) (es : List Edit) (rest : List ℕ)
    → (r >>= consed (edit_of key f)) ≡ Ok (es, rest) → first_key es ≡ key
first_made key f (Ok y) es rest e =
    let same : (edit_of key f ∷ y.0, y.1) ≡ (es, rest) = cc in
    ap (λ (z : List Edit × List ℕ). first_key z.0) (sym same) ∙ key_is key f
first_made key f (Err n) es rest e = absurd cc

first_in : (key : BundleKey) (n : ℕ) (r : Result (Fields × List ℕ) ℕ) (es : List Edit) (rest : List ℕ)
    → ((r >>= read_as (edit_of key)) >>= λ x. items_at (inner_form key) n x.1 >>= consed x.0) ≡ Ok (es, rest)
    → first_key es ≡ key
first_in key n (Ok f) es rest e = first_made key f.0 (items_at (inner_form key) n f.1) es rest e
first_in key n (Err left) es rest e = absurd cc

pub first_read : (key : BundleKey) (n : ℕ) (bytes : List ℕ) (es : List Edit) (rest : List ℕ) → 1 ≤ n
    → (times (inner_form key) n).read bytes ≡ Ok (es, rest) → first_key es ≡ key
unfolding times inner_form imaged
first_read key zero bytes es rest some e = absurd (omega (arith, some))
first_read key (suc n) bytes es rest some e = first_in key n (told_form.read bytes) es rest e

-- Several edits, read part by part.

pub several_read : (bytes behind left : List ℕ) (key : BundleKey) (n : ℕ) (r : Result (List Edit × List ℕ) ℕ)
    → key_form.read bytes ≡ Ok (key, behind) → count_form.read behind ≡ Ok (n, left)
    → (times (inner_form key) n).read left ≡ r → several_form.read bytes ≡ r
unfolding several_form led
several_read bytes behind left key n r first second third = rw (first, second) third

-- The loop that reads the edits of a key.

pub begun_edits : (key : BundleKey) (count : ℕ) (bytes behind : List ℕ) (e : Edit) (es : List Edit) → 1 ≤ count
    → (inner_form key).read bytes ≡ Ok (e, behind) → is_edit_of key e ≡ true → es ≡ e ∷ []
    → (put_front es (items_at (inner_form key) (count - 1) behind) ≡ items_at (inner_form key) count bytes)
    × (list_all (is_edit_of key) es ≡ true) × (length es ≡ 1)
begun_edits key count bytes behind e es some read is one = (
  read_more (inner_form key) (items_at (inner_form key) count bytes) [] es count 0 bytes behind e
      (read_first (inner_form key) (items_at (inner_form key) count bytes) count bytes refl) (omega (arith, some)) read one,
  subst (λ (l : List Edit). list_all (is_edit_of key) l ≡ true) (sym one) (and_from (is_edit_of key e) true is refl),
  ap length one,
)

pub more_edits : (key : BundleKey) (count place : ℕ) (bytes from behind : List ℕ) (es next : List Edit) (e : Edit)
    → put_front es (items_at (inner_form key) (count - place) from) ≡ items_at (inner_form key) count bytes
    → list_all (is_edit_of key) es ≡ true → length es ≡ place → place < count
    → (inner_form key).read from ≡ Ok (e, behind) → is_edit_of key e ≡ true → next ≡ es ++ e ∷ []
    → (put_front next (items_at (inner_form key) (count - (place + 1)) behind) ≡ items_at (inner_form key) count bytes)
    × (list_all (is_edit_of key) next ≡ true) × (length next ≡ place + 1)
more_edits key count place bytes from behind es next e whole all len h read is put = (
  read_more (inner_form key) (items_at (inner_form key) count bytes) es next count place from behind e whole h read put,
  subst (λ (l : List Edit). list_all (is_edit_of key) l ≡ true) (sym put) (all_and (is_edit_of key) es e all is),
  ap length put ∙ length-append es (e ∷ []) ∙ ap (λ n. n + 1) len,
)

-- The loop that passes over edits.

-- an edit of any key is read where its fields are
pub told_read : (key : BundleKey) (bytes behind : List ℕ) (f : Fields) → told_form.read bytes ≡ Ok (f, behind)
    → (inner_form key).read bytes ≡ Ok (edit_of key f, behind)
unfolding inner_form imaged
told_read key bytes behind f read = rw read refl

pub told_stops : (key : BundleKey) (bytes : List ℕ) (left : ℕ) → told_form.read bytes ≡ Err left
    → (inner_form key).read bytes ≡ Err left
unfolding inner_form imaged
told_stops key bytes left read = rw read refl

-- edits that were passed over, and those that are still to be read
abbrev pub Passes : ℕ → ℕ → List ℕ → List ℕ → Type 0
Passes count left from bytes =
    (key : BundleKey) → (passed : List Edit)
    × (put_front passed (items_at (inner_form key) left from) ≡ items_at (inner_form key) count bytes)

pub passes_first : (count : ℕ) (bytes : List ℕ) → Passes count (count - 0) bytes bytes
passes_first count bytes key = ([], read_first (inner_form key) (items_at (inner_form key) count bytes) count bytes refl)

pub passes_more : (count place : ℕ) (bytes from behind : List ℕ) (f : Fields) → Passes count (count - place) from bytes
    → place < count → told_form.read from ≡ Ok (f, behind) → Passes count (count - (place + 1)) behind bytes
passes_more count place bytes from behind f whole h read key =
    let w = whole key in (
      w.0 ++ edit_of key f ∷ [],
      read_more (inner_form key) (items_at (inner_form key) count bytes) w.0 (w.0 ++ edit_of key f ∷ []) count place from behind
          (edit_of key f) w.1 h (told_read key from behind f read) refl,
    )

pub passes_stop : (count place : ℕ) (bytes from : List ℕ) (left : ℕ) → Passes count (count - place) from bytes
    → place < count → told_form.read from ≡ Err left → (key : BundleKey) → items_at (inner_form key) count bytes ≡ Err left
passes_stop count place bytes from left whole h read key =
    let w = whole key in
    read_stops (inner_form key) (items_at (inner_form key) count bytes) w.0 count place from left w.1 h (told_stops key from left read)

pub passes_fail : (count place : ℕ) (bytes from new : List ℕ) (fault : ReadFault) → Passes count (count - place) from bytes
    → place < count → Gives {A = Fields} (Err fault) new (told_form.read from)
    → (key : BundleKey) → Skips {A = List Edit} {U = Unit {0}} (Err fault) new ((times (inner_form key) count).read bytes)
unfolding times
passes_fail count place bytes from new (faults.Left n) whole h read key = passes_stop count place bytes from n whole h read key
passes_fail count place bytes from new faults.Memory whole h read key = tt

pub passes_done : (count place : ℕ) (bytes from : List ℕ) → Passes count (count - place) from bytes → count ≤ place
    → (key : BundleKey) → Skips {A = List Edit} {U = Unit {0}} (Ok tt) from ((times (inner_form key) count).read bytes)
unfolding times
passes_done count place bytes from whole h key =
    let w = whole key in
    (w.0, read_done (inner_form key) (items_at (inner_form key) count bytes) w.0 count place from w.1 h)

-- The size of several edits is that of their key, their count and the edits.

pub sized_several : (key : BundleKey) (es : List Edit) (a b c : ℕ) → key ≡ first_key es → 2 ≤ length es → length es ≤ LIST_EDITS
    → a ≡ min (2 ^ 32) (length (key_form.code key)) → 0 < a → (a < 2 ^ 32 → key_form.fits key)
    → b ≡ min (2 ^ 32) (length ((list_of (inner_form (first_key es))).code es))
    → (b < 2 ^ 32 → (list_of (inner_form (first_key es))).fits es) → c ≡ min (2 ^ 32) (a + b)
    → (c ≡ min (2 ^ 32) (length (several_form.code es))) × (0 < c) × (c < 2 ^ 32 → several_form.fits es)
unfolding several_form led list_of times count_form u32_form
sized_several key es a b c same some few first least first_fits second second_fits sum =
    let behind : List ℕ = to_be_bytes w32 (length es) ++ items_code (inner_form (first_key es)) es in
    let lengths : length (key_form.code (first_key es) ++ behind) ≡ length (key_form.code (first_key es)) + length behind =
    length-append (key_form.code (first_key es)) behind in
    let own : length (key_form.code key) ≡ length (key_form.code (first_key es)) = ap (λ k. length (key_form.code k)) same in (
      omega (arith, first, second, sum, lengths, own),
      omega (arith, sum, least),
      λ small. (
        subst (λ (k : BundleKey). key_form.fits k) same (first_fits (omega (arith, sum, small))),
        ((some, few), (second_fits (omega (arith, sum, small))).1),
      ),
    )

-- Fields that were read as those of a list's edit are of a kind that may stand beside others.

told_of : (key : BundleKey) (r : Result (Kind × List ℕ) ℕ) (bytes new : List ℕ) (f : Fields)
    → (tag_form inner_kinds kind_number).read bytes ≡ r → (r >>= led_on fields_form) ≡ Ok (f, new) → is_inner (edit_of key f) ≡ true
told_of key (Err n) bytes new f e is = absurd cc
told_of key (Ok x) bytes new f e is =
    let same = kind_read x.0 x.1 f new is in
    let found = tag_found inner_kinds kind_number bytes x.1 x.0 e in
    inner_is key f (subst (λ (k : Kind). kind_at inner_kinds kind_number (kind_number k) ≡ Some k) (sym same) found)

pub told_inner : (key : BundleKey) (bytes new : List ℕ) (f : Fields) → told_form.read bytes ≡ Ok (f, new)
    → is_inner (edit_of key f) ≡ true
unfolding told_form led
told_inner key bytes new f e = told_of key ((tag_form inner_kinds kind_number).read bytes) bytes new f refl e

-- the edit that was read
pub record IsInner (key : BundleKey) (bytes new : List ℕ) (e : Edit) : Type 0 where
  pub edit : (inner_form key).read bytes ≡ Ok (e, new)
  pub inner : is_edit_of key e ≡ true

pub inner_made : (key copy : BundleKey) (bytes new : List ℕ) (f : Fields) (e : Edit) → told_form.read bytes ≡ Ok (f, new)
    → copy ≡ key → e ≡ edit_of copy f → IsInner key bytes new e
inner_made key copy bytes new f e read same is =
    let whole : e ≡ edit_of key f = is ∙ ap (λ k. edit_of k f) same in record {
      edit = told_read key bytes new f read ∙ ap (λ (x : Edit). Ok (x, new)) (sym whole);
      inner = subst (λ (x : Edit). is_edit_of key x ≡ true) (sym whole)
          (is_edit key (edit_of key f) (told_inner key bytes new f read) (key_is key f));
    }
