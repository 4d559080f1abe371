use Rattle.std.proofs.Common.{[]}
use Rattle.bundle_state.proofs.LinksKept.{fine_none, links_fine}
use Rattle.bundle_state.proofs.laws.built_keep_link_rule.Goals as goal

pub returns : goal.returns
returns c defs level given links is = (links_fine defs level given [] links is (fine_none defs level)).linked
