use Rattle.grid_writing.proofs.Bundles.{comes_back}
use Rattle.grid_writing.proofs.laws.written_comes_back.Goals as goal

pub returns : goal.returns
returns c = comes_back c.times_read_back.ensures.times c.times_read_back.ensures.counts c.grids_are_written_out.ensures.written
