-- The first sample of a stretch and its last one.
use Rattle.std.proofs.Common.{◌≡◌, ℕ, zero, suc, ◌+◌, ◌-◌, ◌<◌, ◌≤◌, List, length, map, get_or, Some, sym, ap, ◌∙◌, arith}
use Rattle.std.specs.Prelude.{option_map}
use Rattle.std.specs.List.{range_with_len}
use Rattle.std.proofs.lemmas.List.{get_or_default}
use Rattle.level_items.specs.declared.items.Item.{Item}
use Rattle.level_items.specs.Times.{first_sample, last_sample}
use Rattle.eql_tuples.specs.Tuples.{from_to}
use Rattle.eql_rows.specs.Rows.{end_to_end}
use Rattle.eql_tuples.proofs.Stretches.{taken_by}
use Rattle.eql_rows.proofs.InOrder.{start, end}

ends_along : (g : ℕ → Item) (k n : ℕ) →
    end_to_end (map g (range_with_len k (suc n))) ≡ Some (first_sample (g k).time, last_sample (g (k + n)).time)
ends_along g k zero = let e : k ≡ k + 0 = omega arith in ap (λ m. Some (first_sample (g k).time, last_sample (g m).time)) e
ends_along g k (suc n) =
    ap (option_map (λ (s : ℕ × ℕ). (first_sample (g k).time, s.1))) (ends_along g (k + 1) n)
    ∙ (let e : k + 1 + n ≡ k + suc n = omega arith in ap (λ m. Some (first_sample (g k).time, last_sample (g m).time)) e)

pub ends_are : (items : List Item) (first last : ℕ) (d : Item) → first ≤ last → last < length items →
    end_to_end (from_to items first last)
    ≡ Some (first_sample (get_or items first d).time, last_sample (get_or items last d).time)
ends_are items first last d rises within =
    let n : last + 1 - first ≡ suc (last - first) = omega arith in
    let m : first + (last - first) ≡ last = omega arith in
    ap end_to_end (taken_by items d first (last + 1 - first) (omega arith))
    ∙ ap (λ k. end_to_end (map (λ i. get_or items i d) (range_with_len first k))) n
    ∙ ends_along (λ i. get_or items i d) first (last - first)
    ∙ ap (λ k. Some (first_sample (get_or items first d).time, last_sample (get_or items k d).time)) m

pub ends_answer : (items : List Item) (first last : ℕ) (d e : Item) (f l : ℕ) → first ≤ last → last < length items →
    f ≡ start (get_or items first d) → l ≡ end (get_or items last e) → Some (f, l) ≡ end_to_end (from_to items first last)
ends_answer items first last d e f l rises within from to =
    (λ i. Some (from i, (to ∙ ap end (get_or_default items last e d within)) i)) ∙ sym (ends_are items first last d rises within)
