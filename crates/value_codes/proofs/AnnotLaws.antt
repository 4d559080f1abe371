-- The laws of the forms of annotations.
use Rattle.std.proofs.Common.{◌≡◌, ℕ, zero, suc, ◌<◌, true, ◌∙◌, refl, ap, arith}
use Rattle.std.specs.Prelude.{nat_lt, ◌==◌, Option, Some, None}
use Rattle.std.proofs.lemmas.Bool.Decides.{nat_tests}
use Rattle.level_items.specs.declared.times.Time.{Time}
use Rattle.level_items.specs.declared.times.Time.TheVariants.{NoTime, Span, Point}
use Rattle.byte_forms.specs.Forms.{Form, IsForm}
use Rattle.byte_forms.specs.Parts.{pair, imaged, just, byte_in, byte_below, u32_form, u64_form, FitsAs}
use Rattle.byte_forms.specs.Lists.{list_of}
use Rattle.byte_forms.specs.Utf8.{text_form}
use Rattle.byte_forms.proofs.Laws.{just_law, imaged_law, shaped_law, pair_law, led_law}
use Rattle.byte_forms.proofs.Numbers.{u32_law, u64_law}
use Rattle.byte_forms.proofs.Lists.{list_law, below_law}
use Rattle.byte_forms.proofs.TextLaws.{text_law}
use Rattle.value_codes.specs.Annots.{session_form, id_form, key_form, level_place, level_kind_at, level_kind_form, time_tag, span_of, point_of, time_at, time_form, label_form, item_form, level_form, link_form, annot_form}

pub session_law : IsForm session_form
unfolding session_form
session_law = shaped_law u32_form _ _ (λ v. refl) (λ a. refl) u32_law

pub id_law : IsForm id_form
unfolding id_form
id_law = shaped_law u32_form _ _ (λ v. refl) (λ a. refl) u32_law

pub key_law : IsForm key_form
unfolding key_form
key_law = shaped_law (pair text_form text_form) _ _ (λ v. refl) (λ a. refl) (pair_law text_form text_form text_law text_law)

-- a byte that passed the test is below the number
pub below_is : (b count : ℕ) → nat_lt b count ≡ true → b < count
below_is b count h = grind (arith, nat_tests)

-- a number that equals another is that one
pub same_number : (a b : ℕ) → (a == b) ≡ true → b ≡ a
same_number a b h = grind (arith, nat_tests)

-- a value that is made of one that fits is so made
pub made_is : {A B : Type 0} (f : Form A) (of : A → B) (v : B) (o : Option A) → FitsAs f of v o → (a : A) × (v ≡ of a)
made_is f of v None k = absurd k
made_is f of v (Some a) k = (a, k.0)

level_place_is : (n : ℕ) → n < 3 → level_place (level_kind_at n) ≡ n
level_place_is zero h = refl
level_place_is (suc zero) h = refl
level_place_is (suc (suc zero)) h = refl
level_place_is (suc (suc (suc n))) h = absurd (omega arith)

pub level_kind_law : IsForm level_kind_form
unfolding level_kind_form just byte_in
level_kind_law =
    led_law (byte_below 3) level_place (λ n. just (level_kind_at n)) (below_law 3 (omega arith) (omega arith))
    (λ n k. just_law (level_kind_at n)) (λ n v k l. ap level_place l ∙ level_place_is n (below_is n 3 k.1))

time_each : (n : ℕ) → IsForm (time_at n)
time_each zero = just_law NoTime
time_each (suc zero) = imaged_law (pair u64_form u64_form) (λ p. Span p.0 p.1) span_of (pair_law u64_form u64_form u64_law u64_law) (λ a k. refl)
time_each (suc (suc n)) = imaged_law u64_form Point point_of u64_law (λ a k. refl)

time_is : (n : ℕ) (v : Time) → n < 3 → (time_at n).fits v → time_tag v ≡ n
unfolding just imaged
time_is zero v h k = ap time_tag k
time_is (suc zero) v h k = ap time_tag (made_is (pair u64_form u64_form) (λ p. Span p.0 p.1) v (span_of v) k).1
time_is (suc (suc zero)) v h k = ap time_tag (made_is u64_form Point v (point_of v) k).1
time_is (suc (suc (suc n))) v h k = absurd (omega arith)

pub time_law : IsForm time_form
unfolding time_form byte_in
time_law =
    led_law (byte_below 3) time_tag time_at (below_law 3 (omega arith) (omega arith)) (λ n k. time_each n)
    (λ n v k l. time_is n v (below_is n 3 k.1) l)

pub label_law : IsForm label_form
unfolding label_form
label_law = shaped_law (pair text_form text_form) _ _ (λ v. refl) (λ a. refl) (pair_law text_form text_form text_law text_law)

pub item_law : IsForm item_form
unfolding item_form
item_law =
    shaped_law (pair id_form (pair time_form (list_of label_form))) _ _ (λ v. refl) (λ a. refl)
    (pair_law id_form (pair time_form (list_of label_form)) id_law
    (pair_law time_form (list_of label_form) time_law (list_law label_form label_law)))

pub level_law : IsForm level_form
unfolding level_form
level_law =
    shaped_law (pair text_form (pair level_kind_form (list_of item_form))) _ _ (λ v. refl) (λ a. refl)
    (pair_law text_form (pair level_kind_form (list_of item_form)) text_law
    (pair_law level_kind_form (list_of item_form) level_kind_law (list_law item_form item_law)))

pub link_law : IsForm link_form
unfolding link_form
link_law = shaped_law (pair id_form id_form) _ _ (λ v. refl) (λ a. refl) (pair_law id_form id_form id_law id_law)

pub annot_law : IsForm annot_form
unfolding annot_form
annot_law =
    shaped_law (pair text_form (pair u64_form (pair (list_of level_form) (list_of link_form)))) _ _ (λ v. refl) (λ a. refl)
    (pair_law text_form (pair u64_form (pair (list_of level_form) (list_of link_form))) text_law
    (pair_law u64_form (pair (list_of level_form) (list_of link_form)) u64_law
    (pair_law (list_of level_form) (list_of link_form) (list_law level_form level_law) (list_law link_form link_law))))
