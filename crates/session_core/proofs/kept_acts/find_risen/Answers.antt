use Rattle.std.proofs.Common.{rules, sym, ◌∙◌, nat_lt}
use Rattle.std.proofs.lemmas.List.Sorted.{IsPartitionPoint-from_clause}
use Rattle.session_core.specs.declared.kept_acts.KeptAct.{KeptAct}
use Rattle.session_core.proofs.Rising.{PartsAt, lower_first, found_risen, other_risen, none_risen}
use Rattle.session_core.proofs.kept_acts.find_risen.Goals as goal
use Rattle.session_core.proofs.kept_acts.find_risen.Goals.{in_default-via-in-Some+else-is_of, in_default-via-in_default}

pub returns-in-Some : goal.returns-in-Some
returns-in-Some c =
    let at = c.partition_point-place.result in
    let parts : PartsAt c.args.list.now c.args.line at = IsPartitionPoint-from_clause (λ (kept : KeptAct). nat_lt kept.line c.args.line) c.args.list.now at
    c.partition_point-place.ensures.partitioned (lower_first c.args.list.now c.args.line c.requires) (λ a r f called. search rules) in
    found_risen c.args.session.0 c.args.line c.args.list.now at c.in-Some.kept.now c.requires parts
    c.in-Some.ensures.lookup.3.0 c.in-Some.ensures.lookup.3.1 (sym c.is_of.ensures ∙ c.if-is_of.true)

pub returns-in_default : goal.returns-in_default
returns-in_default c =
    let at = c.partition_point-place.result in
    let parts : PartsAt c.args.list.now c.args.line at = IsPartitionPoint-from_clause (λ (kept : KeptAct). nat_lt kept.line c.args.line) c.args.list.now at
    c.partition_point-place.ensures.partitioned (lower_first c.args.list.now c.args.line c.requires) (λ a r f called. search rules) in
    elim c.in_default.branch [
      | in_default-via-in-Some+else-is_of w ↦
          other_risen c.args.session.0 c.args.line c.args.list.now at w.in-Some.kept.now c.requires parts
          w.in-Some.ensures.lookup.3.0 w.in-Some.ensures.lookup.3.1 (sym w.is_of.ensures ∙ w.if-is_of.false)
      | in_default-via-in_default w ↦ none_risen c.args.session.0 c.args.line c.args.list.now at parts w.in_default.ensures.lookup.3
    ]
