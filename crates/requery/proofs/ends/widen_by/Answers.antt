use Rattle.std.proofs.Common.{◌≡◌, ◌≢◌, ◌<◌, ℕ, length, get_or, None, Some, ap, ◌∙◌, arith}
use Rattle.std.proofs.lemmas.List.{length-set, get_or-set_same, get_or-set_other}
use Rattle.std.proofs.lemmas.Option.{slice_get_within}
use Rattle.requery.specs.Inner.Ways.{union}
use Rattle.requery.proofs.RowEnds.{widened_more}
use Rattle.requery.proofs.ends.widen_by.Goals as goal

pub loop-place-preserved : goal.loop-place-preserved
loop-place-preserved c =
    let row = c.args.row.now in
    let now = c.loop-place.stretches in
    let place = c.in-Some.place in
    let within : place < length row = slice_get_within row place _ c.in-Some.ensures.1 in
    let long : length now ≡ length c.args.stretches.now = c.loop-place.invariant.so_far.count in
    let wide : length row ≡ length c.args.stretches.now = c.requires in
    record {
      within = omega arith;
      so_far = widened_more row c.args.at c.loop-place.from place c.in-Some.ensures c.args.stretches.now now _ wide c.loop-place.invariant.so_far
          (length-set now place c.union.result)
          (get_or-set_same now place c.union.result None (omega arith) ∙ c.union.ensures
          ∙ ap (λ t. union (get_or now place None) (Some t)) c.bare.ensures)
          (λ i h other. get_or-set_other now place i c.union.result None other);
    }
