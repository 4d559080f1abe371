use Rattle.std.proofs.Common.{◌≡◌, List, ℕ, [], ap, subst, sym, ◌∙◌}
use Rattle.std.proofs.lemmas.List.{get_or-map}
use Rattle.bundle_index.specs.Inner.Keys.{IsKeyOf}
use Rattle.level_items.specs.Levels.{label_of}
use Rattle.eql_columns.specs.Inner.Labels.{label_at}
use Rattle.eql_columns.proofs.groups.holds_at.Goals as goal

pub returns-in-Some-clause-answer : goal.returns-in-Some-clause-answer
returns-in-Some-clause-answer c =
    c.in-Some.ensures.answer (label_at c.args.attribute c.args.items.now c.args.at) c.in-Some.ensures.key
    (c.label_key-key.ensures (label_at c.args.attribute c.args.items.now c.args.at) c.requires.number c.in-Some.ensures.key)

pub learn-requires : goal.learn-requires
learn-requires c some =
    let own : c.label_of.result.now ≡ label_at c.args.attribute c.args.items.now c.args.at =
    c.label_of.ensures ∙ ap (label_of c.args.attribute) c.index-items-at.is
    ∙ sym (get_or-map (label_of c.args.attribute) c.args.items.now c.args.at c.index-items-at.result [] c.requires.at) in
    subst (λ (label : List ℕ). IsKeyOf label c.label_key-key.result) (sym own)
    (c.label_key-key.ensures (label_at c.args.attribute c.args.items.now c.args.at) c.requires.number some)
