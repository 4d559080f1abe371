use Rattle.textgrid.proofs.Kept.{grid_short}
use Rattle.textgrid.proofs.reader.grid_of_text.Goals as goal

pub returns-in-Ok-clause-short : goal.returns-in-Ok-clause-short
returns-in-Ok-clause-short c =
    grid_short c.in_ok-values.values c.grid.new.values c.in-Ok.grid c.in_ok-values.ensures.short c.in-Ok.ensures
