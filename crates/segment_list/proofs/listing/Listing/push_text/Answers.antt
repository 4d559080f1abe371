use Rattle.std.proofs.Common.{◌++◌, ap, ◌∙◌, ℕ, List, codes, false, string_bytes}
use Rattle.eql_rows.specs.declared.row.Row.{Row}
use Rattle.segment_list.specs.Inner.Listing.{in_turn}
use Rattle.segment_list.specs.Inner.Pieces.{row_texts}
use Rattle.segment_list.proofs.Listed.{whole_list}
use Rattle.segment_list.proofs.Pushed.{three}
use Rattle.segment_list.proofs.listing.Listing.push_text.Goals as goal

pub returns : goal.returns
returns c =
    let rows = c.args.self.now in
    let parts = ap in_turn c.as_slice.ensures ∙ c.self.view_is in
    three (string_bytes c.args.out.now) (codes "[") (row_texts false rows) (codes "]") c.in_ok-push_str.ensures.bytes
    (c.in_ok-push_parts.ensures ∙ ap (λ (rs : List Row). string_bytes c.push_str.new.self ++ row_texts false rs) parts)
    c.in_ok-push_str-2.ensures.bytes
    ∙ ap (λ (t : List ℕ). string_bytes c.args.out.now ++ t) (whole_list rows)
