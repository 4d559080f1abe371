-- Words of contracts and loops beside `specs/Lives.antt`; no promise of the program rests on them.
use Rattle.std.specs.Prelude.{◌≤◌}
use Rattle.script_runs.specs.declared.spread.Spread.{Spread}

-- a live run can be spread so: over 1 to 16 passes, with 1 to 8 workers for a query
pub record IsSpread (spread : Spread) : Type 0 where
  pub readers : (1 ≤ spread.readers) × (spread.readers ≤ 16)
  pub workers : (1 ≤ spread.workers) × (spread.workers ≤ 8)
