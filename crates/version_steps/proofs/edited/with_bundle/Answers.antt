use Rattle.version_steps.proofs.StepChanges.{indexed_rules, put_effect}
use Rattle.version_steps.proofs.edited.with_bundle.Goals as goal

pub with_indexed-requires : goal.with_indexed-requires
with_indexed-requires c =
    indexed_rules c.args.version.now c.args.key.now c.args.edits.now c.requires.keeps c.requires.key c.args.bundle c.in_ok-indexed.indexed c.requires.made c.in_ok-indexed.ensures

pub returns-clause-state : goal.returns-clause-state
returns-clause-state c =
    put_effect c.args.version.now c.args.key.now c.args.edits.now c.requires.keeps c.requires.key c.args.bundle c.in_ok-indexed.indexed c.requires.made c.in_ok-indexed.ensures
    c.in_ok-next.next c.in_ok-next.ensures.state
