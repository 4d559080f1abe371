-- The laws of the forms of configurations.
use Rattle.std.proofs.Common.{◌≡◌, ℕ, zero, suc, ◌<◌, ◌∙◌, refl, ap, arith}
use Rattle.byte_forms.specs.Forms.{IsForm}
use Rattle.byte_forms.specs.Parts.{pair, just, byte_in, byte_is, byte_below, option_of, u32_form}
use Rattle.byte_forms.specs.Lists.{list_of}
use Rattle.byte_forms.specs.Utf8.{text_form}
use Rattle.byte_forms.proofs.Laws.{just_law, shaped_law, pair_law, led_law}
use Rattle.byte_forms.proofs.Numbers.{u32_law}
use Rattle.byte_forms.proofs.Lists.{list_law, option_law, below_law, is_law}
use Rattle.byte_forms.proofs.TextLaws.{text_law}
use Rattle.value_codes.specs.Annots.{level_kind_form}
use Rattle.value_codes.specs.Heads.{group_form, attribute_form, level_def_form, link_place, link_kind_at, link_kind_form, link_def_form, parts_form, head_form}
use Rattle.value_codes.proofs.AnnotLaws.{below_is, level_kind_law, same_number}

pub group_law : IsForm group_form
unfolding group_form
group_law =
    shaped_law (pair text_form (list_of text_form)) _ _ (λ v. refl) (λ a. refl)
    (pair_law text_form (list_of text_form) text_law (list_law text_form text_law))

legal_law : IsForm (option_of (list_of text_form))
legal_law = option_law (list_of text_form) (list_law text_form text_law)

pub attribute_law : IsForm attribute_form
unfolding attribute_form
attribute_law =
    shaped_law (pair text_form (pair (option_of (list_of text_form)) (list_of group_form))) _ _ (λ v. refl) (λ a. refl)
    (pair_law text_form (pair (option_of (list_of text_form)) (list_of group_form)) text_law
    (pair_law (option_of (list_of text_form)) (list_of group_form) legal_law (list_law group_form group_law)))

pub level_def_law : IsForm level_def_form
unfolding level_def_form
level_def_law =
    shaped_law (pair text_form (pair level_kind_form (list_of attribute_form))) _ _ (λ v. refl) (λ a. refl)
    (pair_law text_form (pair level_kind_form (list_of attribute_form)) text_law
    (pair_law level_kind_form (list_of attribute_form) level_kind_law (list_law attribute_form attribute_law)))

link_place_is : (n : ℕ) → n < 3 → link_place (link_kind_at n) ≡ n
link_place_is zero h = refl
link_place_is (suc zero) h = refl
link_place_is (suc (suc zero)) h = refl
link_place_is (suc (suc (suc n))) h = absurd (omega arith)

pub link_kind_law : IsForm link_kind_form
unfolding link_kind_form just byte_in
link_kind_law =
    led_law (byte_below 3) link_place (λ n. just (link_kind_at n)) (below_law 3 (omega arith) (omega arith))
    (λ n k. just_law (link_kind_at n)) (λ n v k l. ap link_place l ∙ link_place_is n (below_is n 3 k.1))

pub link_def_law : IsForm link_def_form
unfolding link_def_form
link_def_law =
    shaped_law (pair link_kind_form (pair u32_form u32_form)) _ _ (λ v. refl) (λ a. refl)
    (pair_law link_kind_form (pair u32_form u32_form) link_kind_law (pair_law u32_form u32_form u32_law u32_law))

pub parts_law : IsForm parts_form
unfolding parts_form
parts_law =
    let last = pair_law (list_of group_form) (list_of link_def_form) (list_law group_form group_law) (list_law link_def_form link_def_law) in
    let levels = pair_law (list_of level_def_form) _ (list_law level_def_form level_def_law) last in
    let tracks = pair_law (list_of text_form) _ (list_law text_form text_law) levels in
    let extension = pair_law text_form _ text_law tracks in
    let uuid = pair_law text_form _ text_law extension in
    shaped_law _ _ _ (λ v. refl) (λ a. refl) (pair_law text_form _ text_law uuid)

pub head_law : IsForm head_form
unfolding head_form byte_in
head_law =
    led_law (byte_is 0) (λ c. 0) (λ n. parts_form) (is_law 0 (omega arith)) (λ n k. parts_law) (λ n v k l. same_number n 0 k.1)
