use Rattle.bundle_state.proofs.Walks.{id_more}
use Rattle.bundle_state.proofs.used_ids.UsedIds.take.Goals as goal

pub returns-clause-taken : goal.returns-clause-taken
returns-clause-taken c = λ q. rw (← c.self.view_is) (id_more c.self.inside.ids.keys c.insert.new.self.keys c.args.id.0 q (c.in_ok-fresh.ensures.updates.0 q))
