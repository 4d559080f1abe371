-- What a row has beside texts, by itself; no promise of the program rests on it.
use Rattle.eql_rows.specs.declared.row.Row.{Row}
use Rattle.eql_rows.specs.declared.row.RowNumbers.{RowNumbers}

-- the numbers of a row
abbrev pub numbers_of : Row → RowNumbers
numbers_of r = record {
  start = r.start;
  end = r.end;
  sample_start = r.sample_start;
  sample_end = r.sample_end;
  rate = r.rate;
  start_item = r.start_item;
  end_item = r.end_item;
  start_pos = r.start_pos;
  end_pos = r.end_pos;
}
