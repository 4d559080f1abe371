-- Words of contracts and loops beside `specs/Texts.antt`; no promise of the program rests on them.
use Rattle.std.specs.Prelude.{ℕ, List}
use Rattle.serde_json.specs.Written.{compact_text}
use Rattle.eql_rows.specs.declared.row.Row.{Row}
use Rattle.segment_list.specs.Texts.{rows_data}

-- the text of a segment list
unfoldable pub rows_text : List Row → List ℕ
rows_text rows = compact_text (rows_data rows)
