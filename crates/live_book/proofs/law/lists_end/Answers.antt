use Rattle.live_book.proofs.Lists.{lists_end}
use Rattle.live_book.proofs.law.lists_end.Goals as goal

pub returns : goal.returns
returns c = lists_end
