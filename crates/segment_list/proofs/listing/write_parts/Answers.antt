use Rattle.std.proofs.Common.{rules, ◌<◌, length, arith, false, subst, ◌∙◌, List, ℕ}
use Rattle.std.specs.Io.KnownBytes.{Appends}
use Rattle.emu_io.specs.Fronts.{WritesFront}
use Rattle.emu_io.proofs.Fronts.{front_all}
use Rattle.segment_list.specs.Inner.Listing.{in_turn}
use Rattle.segment_list.specs.Inner.Pieces.{row_texts}
use Rattle.segment_list.proofs.Written.{all_taken, more_taken, part_broke}
use Rattle.segment_list.proofs.listing.write_parts.Goals as goal

pub returns-in_err-write_all-clause-front : goal.returns-in_err-write_all-clause-front
returns-in_err-write_all-clause-front g c =
    let parts = c.args.parts.now in
    let lt : c.loop-part.part-index < length parts = omega arith in
    let text = c.as_bytes.ensures.value ∙ c.text.ensures in
    part_broke _ _ _ (row_texts false (in_turn parts)) parts c.loop-part.part-index c.part-item.result c.loop-part.later
    lt c.part-item.is c.loop-part.invariant.taken
    (subst (λ (t : List ℕ). WritesFront (g.K.Sink.written c.loop-part.out) (g.K.Sink.written c.write_all.new.sink) t) text
    c.in_err-write_all.ensures.front)

pub loop-part-preserved : goal.loop-part-preserved
loop-part-preserved g c =
    let parts = c.args.parts.now in
    let lt : c.loop-part.part-index < length parts = omega arith in
    let text = c.as_bytes.ensures.value ∙ c.text.ensures in
    record {
      taken = more_taken _ _ _ (row_texts false (in_turn parts)) parts c.loop-part.part-index c.part-item.result c.loop-part.later
          c.stands_now-later.result lt c.part-item.is c.stands_now-later.ensures c.loop-part.invariant.taken
          (subst (λ (t : List ℕ). Appends (g.K.Sink.written c.loop-part.out) (g.K.Sink.written c.write_all.new.sink) t) text
          c.in_ok-write_all.ensures.ok);
      later = search rules;
    }

pub returns-clause-front : goal.returns-clause-front
returns-clause-front g c =
    let parts = c.args.parts.now in
    front_all _ _ (row_texts false (in_turn parts))
    (all_taken _ _ (row_texts false (in_turn parts)) parts c.loop-part.part-index c.loop-part.later (omega arith)
    c.loop-part.invariant.taken)
