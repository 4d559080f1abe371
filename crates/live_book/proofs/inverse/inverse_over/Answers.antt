use Rattle.live_book.proofs.Inverses.{before_of}
use Rattle.live_book.proofs.inverse.inverse_over.Goals as goal

pub inverse-requires-clause-before : goal.inverse-requires-clause-before
inverse-requires-clause-before c =
    before_of c.args.version.now c.args.act.now c.config.result.now _ c.requires.keeps c.requires.breaks_none c.bundle_for-old.ensures.together c.config.ensures c.bundle_for-old.ensures.bundle
