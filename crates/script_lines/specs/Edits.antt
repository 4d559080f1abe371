-- The edits that the lines of a script ask for, one equation a command: the members are read in the order
-- below, and the first fault is the answer.
use Rattle.std.specs.Prelude.{ℕ, List, [], ◌∷◌, Result, Ok, Err, codes}
use Rattle.json_view.specs.declared.wants.Wanted.TheVariants as wanted
use Rattle.json_view.specs.declared.faults.Shape.{Shape}
use Rattle.json_view.specs.Seen.{Seen}
use Rattle.json_view.specs.Parts.{member_of}
use Rattle.json_view.specs.Steps.{◌>>=◌}
use Rattle.emu_names.specs.declared.limits.TheConstants.{TOP_WHOLE}
use Rattle.emu_names.specs.declared.names.BundleKey.{BundleKey}
use Rattle.level_items.specs.declared.annot.Annot.{Annot}
use Rattle.config_json.specs.Forms.{text_member}
use Rattle.annot_json.specs.Forms.{whole_member}
use Rattle.annot_json.specs.Read.{annot_of, labels_in}
use Rattle.textgrid.specs.declared.fault.GridFault.{GridFault}
use Rattle.textgrid.specs.Grids.{grid_of}
use Rattle.textgrid.specs.Levels as levels
use Rattle.bundle_edits.specs.declared.edit.Edit.{Edit}
use Rattle.bundle_edits.specs.declared.edit.Edit.TheVariants as edits
use Rattle.edit_rules.specs.declared.acts.Act.{Act}
use Rattle.edit_rules.specs.declared.acts.Act.TheVariants as acts
use Rattle.session_core.specs.declared.line.Request.{Request}
use Rattle.session_core.specs.declared.line.Request.TheVariants as requests
use Rattle.script_lines.specs.Forms.{key_at, id_at, position_at, rate_at, time_at}

-- the request of an act
abbrev pub asks : Act → Request
asks act = requests.Edit (Ok act)

-- an edit alone
abbrev pub alone : Edit → Act
alone edit = acts.Edits (edit ∷ [])

-- Edits that add or drop a bundle, and links from times: each stands alone.

-- `add_bundle`
unfoldable pub bundle_request : Seen → Result Request Shape
bundle_request s = do
  key ← key_at s
  member ← member_of (codes "annot") wanted.Object s
  annot ← annot_of member
  Ok (asks (alone (edits.AddBundle key annot)))

-- the annotation of a TextGrid's text at a rate, or the TextGrid's first fault
abbrev pub grid_annot : ℕ → List ℕ → Result Annot GridFault
grid_annot rate text = grid_of text >>= levels.annot_of rate

-- the act that adds the annotation of a TextGrid, or the TextGrid's fault
abbrev pub grid_act : BundleKey → Result Annot GridFault → Result Act GridFault
grid_act key (Ok annot) = Ok (alone (edits.AddBundle key annot))
grid_act key (Err fault) = Err fault

-- `add_textgrid`
unfoldable pub textgrid_request : Seen → Result Request Shape
textgrid_request s = do
  key ← key_at s
  rate ← rate_at s
  text ← text_member (codes "text") s
  Ok (requests.Edit (grid_act key (grid_annot rate text)))

-- `drop_bundle`
unfoldable pub drop_request : Seen → Result Request Shape
drop_request s = do
  key ← key_at s
  Ok (asks (alone (edits.DropBundle key)))

-- `link_times`
unfoldable pub times_request : Seen → Result Request Shape
times_request s = do
  key ← key_at s
  upper ← text_member (codes "upper") s
  lower ← text_member (codes "lower") s
  Ok (asks (alone (edits.LinkTimes key upper lower)))

-- Edits of a bundle that is there, by the bundle's key and the other members. They may stand in a list too.

-- `add_item`
unfoldable pub item_edit : BundleKey → Seen → Result Edit Shape
item_edit key s = do
  level ← text_member (codes "level") s
  position ← position_at s
  id ← id_at (codes "id") s
  time ← time_at s
  labels ← labels_in s
  Ok (edits.AddItem key level position (record { id = id; time = time; labels = labels }))

-- `remove_item`
unfoldable pub remove_edit : BundleKey → Seen → Result Edit Shape
remove_edit key s = do
  id ← id_at (codes "id") s
  Ok (edits.RemoveItem key id)

-- `set_label`
unfoldable pub label_edit : BundleKey → Seen → Result Edit Shape
label_edit key s = do
  id ← id_at (codes "id") s
  attribute ← text_member (codes "attribute") s
  label ← text_member (codes "value") s
  Ok (edits.SetLabel key id attribute label)

-- `set_segment`
unfoldable pub segment_edit : BundleKey → Seen → Result Edit Shape
segment_edit key s = do
  id ← id_at (codes "id") s
  start ← whole_member (codes "sampleStart") TOP_WHOLE s
  dur ← whole_member (codes "sampleDur") TOP_WHOLE s
  Ok (edits.SetSegment key id start dur)

-- `move_boundary`
unfoldable pub boundary_edit : BundleKey → Seen → Result Edit Shape
boundary_edit key s = do
  id ← id_at (codes "id") s
  start ← whole_member (codes "sampleStart") TOP_WHOLE s
  Ok (edits.MoveBoundary key id start)

-- `set_point`
unfoldable pub point_edit : BundleKey → Seen → Result Edit Shape
point_edit key s = do
  id ← id_at (codes "id") s
  at ← whole_member (codes "samplePoint") TOP_WHOLE s
  Ok (edits.SetPoint key id at)

-- `split`
unfoldable pub split_edit : BundleKey → Seen → Result Edit Shape
split_edit key s = do
  id ← id_at (codes "id") s
  new_id ← id_at (codes "newId") s
  start ← whole_member (codes "sampleStart") TOP_WHOLE s
  Ok (edits.Split key id new_id start)

-- `merge`
unfoldable pub merge_edit : BundleKey → Seen → Result Edit Shape
merge_edit key s = do
  id ← id_at (codes "id") s
  Ok (edits.Merge key id)

-- `add_link`
unfoldable pub link_edit : BundleKey → Seen → Result Edit Shape
link_edit key s = do
  from ← id_at (codes "fromID") s
  to ← id_at (codes "toID") s
  Ok (edits.AddLink key from to)

-- `remove_link`
unfoldable pub unlink_edit : BundleKey → Seen → Result Edit Shape
unlink_edit key s = do
  from ← id_at (codes "fromID") s
  to ← id_at (codes "toID") s
  Ok (edits.RemoveLink key from to)
