use Rattle.std.proofs.Common.{◌≡◌, ℕ, ◌+◌, ◌*◌, List, ap, ◌∙◌}
use Rattle.level_items.specs.declared.times.Time.TheVariants.{Span}
use Rattle.work_script.specs.Script.{item_of, phonetic, segment_of}
use Rattle.work_script.proofs.Lists.{each_step}
use Rattle.work_script.proofs.annotation.segments.Goals as goal

pub loop-segment-preserved : goal.loop-segment-preserved
loop-segment-preserved c =
    let item : c.in_ok-item_of.field-0 ≡ segment_of c.args.number c.args.bundle c.loop-segment.segment =
    c.in_ok-item_of.ensures
    ∙ ap (λ (t : ℕ). item_of (c.loop-segment.segment + 1) (Span (400 * t) 399) phonetic c.label_of-label.result.now) c.from.ensures
    ∙ ap (λ (text : List ℕ). item_of (c.loop-segment.segment + 1) (Span (400 * c.loop-segment.segment) 399) phonetic text) c.label_of-label.ensures in
    record {
      made = each_step (segment_of c.args.number c.args.bundle) c.loop-segment.segment c.loop-segment.items c.push.new.self c.in_ok-item_of.field-0 c.loop-segment.invariant.made item c.in_ok-push.ensures.ok;
    }
