use Rattle.std.proofs.Common.{◌∙◌, sym, ap, ◌+◌, ◌++◌, ◌∷◌, [], None, drop, arith}
use Rattle.std.specs.List.{list_any}
use Rattle.std.proofs.Common.{nat_eq}
use Rattle.std.specs.Option.{option_copied}
use Rattle.bundle_state.proofs.FaultSteps.{SameIds, items_walk, ids_walk, items_stop, not_taken, stops}
use Rattle.bundle_state.proofs.Walks.{drop_at}
use Rattle.bundle_state.specs.Faults.{item_fault, items_fault}
use Rattle.bundle_state.proofs.annot_rules.items_pass.Goals as goal

pub loop-item-preserved : goal.loop-item-preserved
loop-item-preserved c =
    let same : SameIds c.take.new.self (c.loop-item.taken ++ c.item-item.result.id.0 ∷ []) = record { at = c.in_ok-take.ensures.taken } in record {
      fault = items_walk c.args.def.now c.args.items.now c.loop-item.item-index c.item-item.result (option_copied c.loop-item.before) c.loop-item.taken c.take.new.self
          (omega arith) c.item-item.is
          (not_taken c.in_ok-take.field-0 (list_any (nat_eq c.item-item.result.id.0) c.loop-item.taken) c.in_ok-take.ensures.fresh c.if-not-branch.false)
          c.in-Ok.ensures same
          ∙ c.loop-item.invariant.fault;
      same = (ids_walk c.args.taken.now c.args.items.now c.loop-item.item-index c.item-item.result c.loop-item.taken c.take.new.self
          (omega arith) c.item-item.is (record { at = c.loop-item.invariant.same }) same).at;
    }

pub returns-in-Err-clause-fault : goal.returns-in-Err-clause-fault
returns-in-Err-clause-fault c =
    stops (Unit {0}) (Unit {0}) c.in-Err.fault
    (item_fault c.args.def.now [] (option_copied c.loop-item.before) c.item-item.result)
    (items_fault c.args.def.now c.args.taken.now None c.args.items.now)
    (λ r bad. sym c.loop-item.invariant.fault
    ∙ ap (items_fault c.args.def.now c.loop-item.taken (option_copied c.loop-item.before)) (drop_at c.args.items.now c.loop-item.item-index c.item-item.result (omega arith) c.item-item.is)
    ∙ items_stop c.args.def.now c.loop-item.taken (option_copied c.loop-item.before) c.item-item.result (drop (c.loop-item.item-index + 1) c.args.items.now)
    (not_taken c.in_ok-take.field-0 (list_any (nat_eq c.item-item.result.id.0) c.loop-item.taken) c.in_ok-take.ensures.fresh c.if-not-branch.false) r bad)
    c.in-Err.ensures
