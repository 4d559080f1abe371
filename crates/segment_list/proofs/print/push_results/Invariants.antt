use Rattle.std.proofs.Common.{◌≡◌, ◌++◌, drop, map, true, string_bytes}
use Rattle.std.specs.Prelude.{option_map}
use Rattle.eql_model.specs.Rows.{row_of}
use Rattle.segment_list.specs.Inner.Pieces.{names_at, row_texts}
use Rattle.segment_list.proofs.print.push_results.Given as goal

-- the pieces are those for the attribute that was shown last, and the rows so far are written
abbrev pub invariant-loop-span : goal.invariant-loop-span
invariant-loop-span l =
    record {
      pieces : l.pieces ≡ names_at l.config l.bundle l.level l.number;
      text : string_bytes l.out ++ row_texts true (map (row_of l.config l.bundle (option_map (λ b. b.time) l.below))
          (drop l.span-index l.spans))
          ≡ string_bytes l.fn.out ++ row_texts true (map (row_of l.config l.bundle (option_map (λ b. b.time) l.below))
          l.spans);
    }
