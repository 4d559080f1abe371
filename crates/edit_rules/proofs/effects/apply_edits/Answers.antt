use Rattle.std.proofs.Common.{◌≡◌, true, Ok, sym, ◌∙◌, ap, subst, option_copied}
use Rattle.std.specs.List.{list_all}
use Rattle.emu_names.specs.declared.names.BundleKey.{BundleKey}
use Rattle.edit_rules.specs.Database.{DatabaseParts, with_bundles, counts_of}
use Rattle.edit_rules.specs.Inner.KeyPlaces.{IsKeyPlace, found_at, put_at}
use Rattle.edit_rules.specs.Effects.{in_turn}
use Rattle.edit_rules.proofs.Turns.{told, turn_keeps}
use Rattle.edit_rules.specs.declared.acts.ChangeFault.{ChangeFault}
use Rattle.edit_rules.specs.Inner.Effects.{IsFirstBreach}
use Rattle.edit_rules.proofs.Puts.{changed_as, put_done, put_refused, counted_at, handed_on}
use Rattle.edit_rules.proofs.effects.apply_edits.Goals as goal

pub change-requires-clause-counted : goal.change-requires-clause-counted
change-requires-clause-counted c =
    counted_at c.args.database.now c.key.result.now c.place_of-place.result c.counts.result (option_copied c.bundle_at-old.result) c.len-count.ensures.rules c.place_of-place.ensures.place
    c.counts.ensures c.bundle_at-old.ensures.bundle

pub put-requires-clause-rules : goal.put-requires-clause-rules
put-requires-clause-rules c =
    let d : DatabaseParts = c.args.database.now in
    let place = c.place_of-place.result in
    turn_keeps c.args.edits.now 1 d (with_bundles d (put_at d.bundles place c.in_ok-next.next)) c.len-count.ensures.rules
    (put_done d c.key.result.now c.args.edits.now place c.in_ok-next.next c.len-count.ensures.rules c.key.ensures c.place_of-place.ensures.place
    (changed_as d.config c.config.result.now (counts_of d.bundles) c.counts.result (found_at d.bundles place) (option_copied c.bundle_at-old.result) c.args.edits.now (told c.in_ok-next.next)
    c.config.ensures c.counts.ensures c.bundle_at-old.ensures.bundle c.in_ok-next.ensures))

pub returns-clause-ok : goal.returns-clause-ok
returns-clause-ok c =
    let d : DatabaseParts = c.args.database.now in
    let place = c.place_of-place.result in
    put_done d c.key.result.now c.args.edits.now place c.in_ok-next.next c.len-count.ensures.rules c.key.ensures c.place_of-place.ensures.place
    (changed_as d.config c.config.result.now (counts_of d.bundles) c.counts.result (found_at d.bundles place) (option_copied c.bundle_at-old.result) c.args.edits.now (told c.in_ok-next.next)
    c.config.ensures c.counts.ensures c.bundle_at-old.ensures.bundle c.in_ok-next.ensures)
    ∙ ap told (sym c.in_ok-put.ensures.ok)

pub returns-in_err-next-clause-broken : goal.returns-in_err-next-clause-broken
returns-in_err-next-clause-broken c =
    handed_on c.from_residual.result c.in_err-next.field-0.0 (λ (fault : ChangeFault). IsFirstBreach fault (in_turn 1 c.args.database.now c.args.edits.now)) c.from_residual.ensures.1
    (put_refused c.args.database.now c.key.result.now c.args.edits.now c.place_of-place.result c.config.result.now c.counts.result (option_copied c.bundle_at-old.result) c.in_err-next.field-0.0
    c.len-count.ensures.rules c.key.ensures c.place_of-place.ensures.place c.config.ensures c.counts.ensures c.bundle_at-old.ensures.bundle c.in_err-next.ensures)
