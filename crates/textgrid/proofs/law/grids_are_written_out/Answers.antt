use Rattle.textgrid.proofs.Grids.{written_is_read}
use Rattle.textgrid.proofs.law.grids_are_written_out.Goals as goal

pub returns-clause-written : goal.returns-clause-written
returns-clause-written c = λ vs grid is. written_is_read vs grid is
