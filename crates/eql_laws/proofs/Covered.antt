-- What items cover from end to end.
use Rattle.std.proofs.Common.{◌≡◌, ℕ, List, [], ◌∷◌, Some, option_map, refl, ap, ◌∙◌}
use Rattle.level_items.specs.declared.items.Item.{Item}
use Rattle.level_items.specs.Levels.{first_of, last_of}
use Rattle.level_items.specs.Times.{first_sample, last_sample}
use Rattle.eql_rows.specs.Rows.{end_to_end}
use Rattle.eql_laws.specs.Laws.{EndToEndIsFirstToLast}

-- from the first item of a list on, up to its last one
covered : (item : Item) (items : List Item) (last : Item) → last_of (item ∷ items) ≡ Some last →
    end_to_end (item ∷ items) ≡ Some (first_sample item.time, last_sample last.time)
covered item [] last is = let same : item ≡ last = cc in ap (λ (i : Item). Some (first_sample item.time, last_sample i.time)) same
covered item (next ∷ items) last is =
    ap (option_map (λ (samples : ℕ × ℕ). (first_sample item.time, samples.1))) (covered next items last is)

from_first : (items : List Item) (first last : Item) → first_of items ≡ Some first → last_of items ≡ Some last →
    end_to_end items ≡ Some (first_sample first.time, last_sample last.time)
from_first [] first last begins ends = absurd cc
from_first (item ∷ items) first last begins ends =
    let same : item ≡ first = cc in
    covered item items last ends ∙ ap (λ (i : Item). Some (first_sample i.time, last_sample last.time)) same

pub first_to_last : EndToEndIsFirstToLast
first_to_last = (refl, from_first)
