use Rattle.std.proofs.Common.{eqb, sym, ◌∙◌}
use Rattle.link_graph.specs.Inner.Blocks.{joined}
use Rattle.link_graph.proofs.Inserted.{inserted_for, inserted_pair, untaken_at}
use Rattle.link_graph.proofs.Steps.{at_ok, at_err, undone_pair}
use Rattle.link_graph.proofs.index.Index.add.Goals as goal

pub returns-then-is_err-2-clause-err : goal.returns-then-is_err-2-clause-err
returns-then-is_err-2-clause-err c =
    let link = c.args.link in
    let links = joined c.args.links.now in
    let place = c.args.place in
    let apart = c.requires.apart in
    let put = at_ok c.insert-2.result _ (sym c.is_err.ensures.value ∙ c.if-is_err.false) c.insert-2.ensures.ok in
    let kept = at_err c.insert-3.result _ (sym c.is_err-2.ensures.value ∙ c.if-is_err-2.true) c.insert-3.ensures.err in
    record {
      down = λ id.
          untaken_at (λ l. eqb l.from.0 id) link place links _ _ apart
          (inserted_for (λ l. l.from.0) links _ _ place c.rank-down.result id link (c.requires.indexed.down id) c.rank-down.ensures (put id))
          (c.remove-then-is_err-2-2.ensures id);
      up = λ id. kept id ∙ c.requires.indexed.up id;
      pairs = λ a b. undone_pair link links apart a b _ _ _ (c.requires.indexed.pairs a b) (c.in_ok-insert.ensures.ok a b) (c.remove-then-is_err-2.ensures a b);
    }

pub returns-clause-ok : goal.returns-clause-ok
returns-clause-ok c =
    let link = c.args.link in
    let links = joined c.args.links.now in
    let place = c.args.place in
    let down = at_ok c.insert-2.result _ (sym c.is_err.ensures.value ∙ c.if-is_err.false) c.insert-2.ensures.ok in
    let up = at_ok c.insert-3.result _ (sym c.is_err-2.ensures.value ∙ c.if-is_err-2.false) c.insert-3.ensures.ok in
    record {
      down = λ id. inserted_for (λ l. l.from.0) links _ _ place c.rank-down.result id link (c.requires.indexed.down id) c.rank-down.ensures (down id);
      up = λ id. inserted_for (λ l. l.to.0) links _ _ place c.rank-up.result id link (c.requires.indexed.up id) c.rank-up.ensures (up id);
      pairs = λ a b. inserted_pair a b links place link _ _ (c.requires.indexed.pairs a b) (c.in_ok-insert.ensures.ok a b);
    }
