use Rattle.requery.proofs.Checkable.{kin_mutual}
use Rattle.requery.proofs.laws.kin_is_mutual.Goals as goal

pub returns : goal.returns
returns c = kin_mutual
