-- Three parts, no two of which have one key.
use Rattle.std.proofs.Common.{◌≡◌, List, [], ◌∷◌, true, false, Some, length, refl, ap, ◌∙◌, arith}
use Rattle.std.specs.List.{slice_get, IsDistinct}
use Rattle.std.specs.declared.cmp.Ordering.{Ordering}
use Rattle.std.specs.declared.cmp.Ordering.TheVariants.{Less, Equal, Greater}
use Rattle.std.specs.Ordering.{eq_by_cmp, is_eq, is_ne}
use Rattle.std.proofs.lemmas.Option.{same_Some}
use Rattle.emu_names.specs.Order.{key_cmp}
use Rattle.segment_list.specs.declared.parts.Part.{Part}
use Rattle.segment_list.specs.Inner.Merged.{AreApart}

is_other : (o : Ordering) → is_ne o ≡ true → is_eq o ≡ false
is_other Less ne = refl
is_other Equal ne = absurd cc
is_other Greater ne = refl

others : (x y a b : Part) → Some x ≡ Some a → Some y ≡ Some b → is_ne (key_cmp a.key b.key) ≡ true
    → eq_by_cmp key_cmp x.key y.key ≡ false
others x y a b first second ne =
    is_other (key_cmp x.key y.key)
    (ap (λ (p : Part). is_ne (key_cmp p.key y.key)) (same_Some x a first)
    ∙ ap (λ (p : Part). is_ne (key_cmp a.key p.key)) (same_Some y b second) ∙ ne)

pub apart_three : (parts : List Part) (a b c : Part) → length parts ≡ 3 → slice_get parts 0 ≡ Some a → slice_get parts 1 ≡ Some b
    → slice_get parts 2 ≡ Some c → is_ne (key_cmp a.key b.key) ≡ true → is_ne (key_cmp a.key c.key) ≡ true
    → is_ne (key_cmp b.key c.key) ≡ true → AreApart parts
unfolding IsDistinct
apart_three [] a b c three first second third ab ac bc = absurd (omega (arith, three))
apart_three (x ∷ []) a b c three first second third ab ac bc = absurd (omega (arith, three))
apart_three (x ∷ (y ∷ [])) a b c three first second third ab ac bc = absurd (omega (arith, three))
apart_three (x ∷ (y ∷ (z ∷ []))) a b c three first second third ab ac bc =
    ((others x y a b first second ab, (others x z a c first third ac, tt)), ((others y z b c second third bc, tt), (tt, tt)))
apart_three (x ∷ (y ∷ (z ∷ (w ∷ rest)))) a b c three first second third ab ac bc = absurd (omega (arith, three))
