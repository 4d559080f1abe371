use Rattle.eql_laws.proofs.Checkable.{rows_kept}
use Rattle.eql_laws.proofs.laws.bundles_keep_their_rows.Goals as goal

pub returns : goal.returns
returns c = rows_kept
