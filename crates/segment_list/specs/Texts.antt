-- The text of a segment list: a list of JSON objects (RFC 8259) with no white space, one for each row, whose
-- members stand in the order of their names' bytes.
use Rattle.std.specs.Prelude.{ℕ, List, [], ◌∷◌, Option, Some, None, codes}
use Rattle.serde_json.specs.Data.{Data, null, number, string, array, object, unsigned, Items, no_items, item, no_members, member}
use Rattle.eql_rows.specs.declared.row.Row.{Row}

-- a whole number
abbrev pub whole : ℕ → Data
whole n = number (unsigned n)

-- a whole number, or `null` where there is none
abbrev pub whole_or_null : Option ℕ → Data
whole_or_null None = null
whole_or_null (Some n) = whole n

-- a row of a segment list
abbrev pub row_data : Row → Data
row_data r = object
    (member (codes "attribute") (string r.attribute)
    (member (codes "bundle") (string r.bundle)
    (member (codes "end") (whole_or_null r.end)
    (member (codes "endItem") (whole r.end_item.0)
    (member (codes "endPos") (whole r.end_pos)
    (member (codes "labels") (string r.labels)
    (member (codes "level") (string r.level)
    (member (codes "sampleEnd") (whole_or_null r.sample_end)
    (member (codes "sampleRate") (whole r.rate)
    (member (codes "sampleStart") (whole_or_null r.sample_start)
    (member (codes "session") (string r.session)
    (member (codes "start") (whole_or_null r.start)
    (member (codes "startItem") (whole r.start_item.0)
    (member (codes "startPos") (whole r.start_pos)
    no_members))))))))))))))

-- the rows as the elements of a list
abbrev pub rows_items : List Row → Items
rows_items [] = no_items
rows_items (r ∷ rs) = item (row_data r) (rows_items rs)

-- the list of the rows
abbrev pub rows_data : List Row → Data
rows_data rows = array (rows_items rows)
