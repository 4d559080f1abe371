use Rattle.std.proofs.Common.{◌≡◌, length, rules}
use Rattle.hier_closure.proofs.Places.{stands_copy, stands_stay}
use Rattle.hier_closure.proofs.relinked.stands_again.Goals as goal

pub returns-then-level_count : goal.returns-then-level_count
returns-then-level_count c =
    let count : length c.args.bundle.now.levels ≡ length c.args.old.now.levels = search rules in
    stands_copy c.args.bundle.now c.args.stands.now c.copy.result c.copy.ensures
    (stands_stay c.args.old.now c.args.bundle.now c.args.marked.now c.args.stands.now c.item_count-items.ensures.rules count
    c.requires.same (c.requires.alike c.if-alike.true) c.requires.stands)
