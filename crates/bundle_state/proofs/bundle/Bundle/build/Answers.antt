use Rattle.std.proofs.Common.{◌≤◌, ◌∙◌, length, sym, ap, subst, []}
use Rattle.emu_names.specs.declared.limits.TheConstants.{LEVELS}
use Rattle.bundle_state.specs.Built.{built}
use Rattle.bundle_state.specs.Faults.{annot_fault}
use Rattle.bundle_state.specs.Made.{made_levels}
use Rattle.bundle_state.specs.Linked.{put_links}
use Rattle.bundle_state.specs.Bundle.{level_of_id}
use Rattle.bundle_state.proofs.LinksKept.{fine_value}
use Rattle.bundle_state.proofs.BuiltKept.{unbroken, linked_by, build_rules, build_gives, build_breaks, build_stops}
use Rattle.bundle_state.proofs.FewLevels.{made_few}
use Rattle.bundle_state.proofs.bundle.Bundle.build.Goals as goal

pub of-requires : goal.of-requires
of-requires c =
    subst (λ ls. length ls ≤ LEVELS) (sym c.as_slice-lists.ensures)
    (made_few c.args.config.now c.args.annot.now c.in_ok-levels.levels c.parts-parts.ensures.valid c.in_ok-levels.ensures)

pub returns-in_err-links : goal.returns-in_err-links
returns-in_err-links c =
    let config = c.args.config.now in
    let annot = c.args.annot.now in
    let made = (unbroken (annot_fault config.levels annot) (made_levels config.levels annot.levels) c.in_ok-levels.levels c.in_ok-levels.ensures).1 in
    build_stops c.from_residual-in_err-links.result c.in_err-links.field-0.0
    (put_links config.links (level_of_id c.as_slice-lists.result.now) c.as_slice.result.now []) (built config c.args.key annot)
    c.from_residual-in_err-links.ensures.1 c.in_err-links.ensures
    (λ rule bad. build_breaks config c.args.key annot c.in_ok-levels.levels rule c.in_ok-levels.ensures
    (linked_by config annot c.in_ok-levels.levels c.as_slice-lists.result.now c.as_slice.result.now made c.as_slice-lists.ensures c.as_slice.ensures ∙ bad))

pub of-requires-2-clause-rules : goal.of-requires-2-clause-rules
of-requires-2-clause-rules c =
    let config = c.args.config.now in
    let annot = c.args.annot.now in
    let made = (unbroken (annot_fault config.levels annot) (made_levels config.levels annot.levels) c.in_ok-levels.levels c.in_ok-levels.ensures).1 in
    build_rules config c.args.key annot c.in_ok-levels.levels c.in_ok-links.links c.parts-parts.ensures.valid c.in_ok-levels.ensures
    (linked_by config annot c.in_ok-levels.levels c.as_slice-lists.result.now c.as_slice.result.now made c.as_slice-lists.ensures c.as_slice.ensures ∙ c.in_ok-links.ensures)

pub returns : goal.returns
returns c =
    let config = c.args.config.now in
    let annot = c.args.annot.now in
    let made = (unbroken (annot_fault config.levels annot) (made_levels config.levels annot.levels) c.in_ok-levels.levels c.in_ok-levels.ensures).1 in
    build_gives config c.args.key annot c.in_ok-levels.levels c.in_ok-links.links c.in_ok-levels.ensures
    (linked_by config annot c.in_ok-levels.levels c.as_slice-lists.result.now c.as_slice.result.now made c.as_slice-lists.ensures c.as_slice.ensures ∙ c.in_ok-links.ensures)
    ∙ ap fine_value (sym c.in_ok-bundle.ensures)
