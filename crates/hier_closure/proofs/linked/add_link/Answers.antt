use Rattle.std.proofs.Common.{ap, ◌∙◌}
use Rattle.hier_closure.proofs.Passes.{ends_there, is_between, pass_by, pass_one, with_bit, row_within, bit_within, at_place}
use Rattle.hier_closure.proofs.linked.add_link.Goals as goal

pub position_on-requires-clause-there : goal.position_on-requires-clause-there
position_on-requires-clause-there c =
    (ends_there c.args.bundle.now c.args.place c.get-link.result.now c.requires.rules
    (at_place c.args.bundle.now.links c.links.result.now c.args.place c.get-link.result.now c.links.ensures c.get-link.ensures)).0

pub position_on-requires-in-Some-clause-there : goal.position_on-requires-in-Some-clause-there
position_on-requires-in-Some-clause-there c =
    (ends_there c.args.bundle.now c.args.place c.get-link.result.now c.requires.rules
    (at_place c.args.bundle.now.links c.links.result.now c.args.place c.get-link.result.now c.links.ensures c.get-link.ensures)).1

pub returns-then-not-may_lead : goal.returns-then-not-may_lead
returns-then-not-may_lead c =
    c.requires.made ∙ pass_by c.args.bundle.now c.args.upper c.args.lower c.args.place c.get-link.result.now c.requires.rules
    (at_place c.args.bundle.now.links c.links.result.now c.args.place c.get-link.result.now c.links.ensures c.get-link.ensures)
    (c.may_lead.ensures c.if-not-may_lead.true (is_between c.args.bundle.now c.args.place c.get-link.result.now c.requires.rules
    (at_place c.args.bundle.now.links c.links.result.now c.args.place c.get-link.result.now c.links.ensures c.get-link.ensures)))

pub returns-in-None : goal.returns-in-None
returns-in-None c =
    c.requires.made ∙ pass_by c.args.bundle.now c.args.upper c.args.lower c.args.place c.get-link.result.now c.requires.rules
    (at_place c.args.bundle.now.links c.links.result.now c.args.place c.get-link.result.now c.links.ensures c.get-link.ensures)
    (λ from to. c.in-None.ensures.none from)

pub returns-in-None-position_on : goal.returns-in-None-position_on
returns-in-None-position_on c =
    c.requires.made ∙ pass_by c.args.bundle.now c.args.upper c.args.lower c.args.place c.get-link.result.now c.requires.rules
    (at_place c.args.bundle.now.links c.links.result.now c.args.place c.get-link.result.now c.links.ensures c.get-link.ensures)
    (λ from to. c.in-None-position_on.ensures.none to)

pub set_bit-requires-clause-row : goal.set_bit-requires-clause-row
set_bit-requires-clause-row c =
    row_within c.args.bundle.now c.args.upper c.args.lower c.args.place c.in-Some.row c.get-link.result.now.from.0 c.args.rows.now
    c.requires.made c.in-Some.ensures.there

pub set_bit-requires-clause-at : goal.set_bit-requires-clause-at
set_bit-requires-clause-at c =
    bit_within c.args.bundle.now c.args.upper c.args.lower c.args.place c.in-Some.row c.in-Some-position_on.at c.get-link.result.now.from.0
    c.get-link.result.now.to.0 c.args.rows.now c.requires.made c.in-Some.ensures.there c.in-Some-position_on.ensures.there

pub returns-in_ok-more-in-Some-position_on : goal.returns-in_ok-more-in-Some-position_on
returns-in_ok-more-in-Some-position_on c =
    c.in_ok-more-in-Some-position_on.ensures
    ∙ ap (with_bit c.in-Some.row c.in-Some-position_on.at) c.requires.made
    ∙ pass_one c.args.bundle.now c.args.upper c.args.lower c.args.place c.in-Some.row c.in-Some-position_on.at c.get-link.result.now c.requires.rules
    (at_place c.args.bundle.now.links c.links.result.now c.args.place c.get-link.result.now c.links.ensures c.get-link.ensures)
    c.in-Some.ensures.there c.in-Some-position_on.ensures.there
