use Rattle.live_seats.proofs.line.try_act.Goals as goal

pub returns-clause-tried : goal.returns-clause-tried
returns-clause-tried g c = record {
  seen = c.seen-seen.result;
  numbered = c.seen-seen.ensures;
  edits = c.edit_kept.ensures.edits;
  counted = c.edit_kept.ensures.counted;
}
