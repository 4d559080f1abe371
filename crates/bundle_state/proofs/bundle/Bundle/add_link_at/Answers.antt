use Rattle.std.proofs.Common.{◌≡◌, ◌∙◌, Ok, sym, ap, subst, option_map}
use Rattle.std.specs.List.{slice_get}
use Rattle.emu_names.specs.Inner.Gives.{FindsFault}
use Rattle.level_items.specs.declared.annot.AnnotLink.{AnnotLink}
use Rattle.link_graph.specs.Link.{add_fault}
use Rattle.std.specs.Option.{option_or}
use Rattle.bundle_state.specs.Changed.{place_fault}
use Rattle.bundle_state.specs.Bundle.{BundleParts, level_of_id}
use Rattle.bundle_state.specs.Linked.{kind_of, definition_for}
use Rattle.bundle_state.proofs.ChangedKept.{kind_is}
use Rattle.bundle_state.proofs.LinkPlaces.{placed_kept}
use Rattle.bundle_state.proofs.bundle.Bundle.add_link_at.Goals as goal

pub invariant_of-self : goal.invariant_of-self
invariant_of-self c =
    let from = c.args.from in
    let to = c.args.to in
    let pair : AnnotLink = record { from = from; to = to } in
    let number = c.in_ok-number.number in
    let links = c.args.config.now.links in
    let same : c.self.inside.definitions ≡ links = ap (λ (b : BundleParts). b.definitions) c.self.view_is ∙ c.requires.definitions in
    let levels = c.self.inside.levels in
    let found : definition_for c.self.inside.definitions pair (level_of_id levels from.0) (level_of_id levels to.0) ≡ Ok number =
    ap (λ ds. definition_for ds pair (level_of_id levels from.0) (level_of_id levels to.0)) same
    ∙ ap (λ ls. definition_for links pair (level_of_id ls from.0) (level_of_id ls to.0)) (sym c.as_slice.ensures) ∙ c.in_ok-number.ensures.definition in
    let kind : kind_of c.self.inside.definitions number ≡ c.link_kind-kind.result =
    kind_is c.self.inside.definitions number c.link_kind-kind.result (ap (λ ds. option_map (λ d. d.kind) (slice_get ds number)) same ∙ c.link_kind-kind.ensures) in
    let finds : FindsFault c.add_at.result (option_or (add_fault (kind_of c.self.inside.definitions number) number from to c.self.inside.links) (place_fault c.args.place c.self.inside.links)) =
    subst (λ k. FindsFault c.add_at.result (option_or (add_fault k number from to c.self.inside.links) (place_fault c.args.place c.self.inside.links))) (sym kind) c.add_at.ensures.fault in
    placed_kept _ c.args.place from to number c.add_at.new.links c.self.inside.places c.add_at.result found c.self.invariant finds c.add_at.ensures.added c.add_at.ensures.kept
