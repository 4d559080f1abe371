use Rattle.std.proofs.Common.{rules, ◌++◌, map, arith, string_bytes, true}
use Rattle.std.specs.Prelude.{option_map}
use Rattle.eql_model.specs.Rows.{row_of}
use Rattle.segment_list.specs.Inner.Pieces.{row_texts}
use Rattle.segment_list.proofs.Listed.{next_result, results_done}
use Rattle.segment_list.proofs.print.push_results.Goals as goal

pub loop-span-preserved : goal.loop-span-preserved
loop-span-preserved c =
    let row = row_of c.args.config.now c.args.bundle.now (option_map (λ b. b.time) c.args.below.now) in
    record {
      pieces = search rules;
      text = next_result row (string_bytes c.loop-span.out) (string_bytes c.push_result.new.out)
          (string_bytes c.args.out.now ++ row_texts true (map row c.args.spans.now)) c.args.spans.now
          c.loop-span.span-index _ c.loop-span-test.true c.in_ok-push_result.ensures c.loop-span.invariant.text;
    }

pub returns : goal.returns
returns c =
    let row = row_of c.args.config.now c.args.bundle.now (option_map (λ b. b.time) c.args.below.now) in
    results_done row (string_bytes c.loop-span.out) (string_bytes c.args.out.now
    ++ row_texts true (map row c.args.spans.now)) c.args.spans.now c.loop-span.span-index (omega arith)
    c.loop-span.invariant.text
