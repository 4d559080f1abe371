use Rattle.std.proofs.Common.{rules, ◌≡◌, ◌+◌, ◌++◌, ◌∷◌, [], ℕ, List, length, true, ap, sym, ◌∙◌}
use Rattle.std.proofs.lemmas.List.{length-append}
use Rattle.eql_rows.specs.declared.row.Row.{Row}
use Rattle.segment_list.specs.Inner.Listing.{in_turn}
use Rattle.segment_list.specs.Inner.Pieces.{row_texts}
use Rattle.segment_list.proofs.Parted.{behind_rows, one_more}
use Rattle.segment_list.proofs.growing.with_more.Goals as goal

pub invariant_of-result : goal.invariant_of-result
invariant_of-result c =
    let parts = c.args.results in
    let more = c.args.more in
    let all : c.push.new.self ≡ parts ++ more ∷ [] = search rules in
    let joined = one_more parts more c.push.new.self all in
    let sum : c.in-Some.count ≡ c.args.count + c.args.others = search rules in
    record {
      counted = sum ∙ ap (λ (n : ℕ). n + c.args.others) c.requires.count
          ∙ ap (λ (n : ℕ). length (in_turn parts) + n) c.requires.others
          ∙ sym (ap (λ (rows : List Row). length rows) joined ∙ length-append (in_turn parts) more);
      printed = c.requires.text
          ∙ sym (ap (λ (rows : List Row). row_texts true rows) joined ∙ behind_rows (in_turn parts) more);
    }
