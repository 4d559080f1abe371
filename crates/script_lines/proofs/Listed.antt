-- Lists of edits: how many there are, and that all are edits of the bundle of one key that a list may have.
use Rattle.std.proofs.Common.{◌≡◌, ◌≢◌, ◌≤◌, ℕ, ◌+◌, Bool, true, false, List, [], ◌∷◌, ◌++◌, length, length-append, codes, refl, sym, ap, subst, ◌∙◌}
use Rattle.std.specs.Prelude.{Result, Ok, Err, Some}
use Rattle.std.specs.List.{list_all}
use Rattle.std.specs.Result.{IsErrAnd}
use Rattle.std.proofs.lemmas.Bool.{and_from, and_parts}
use Rattle.serde_json.specs.Data.{Data}
use Rattle.json_view.specs.declared.wants.Wanted.TheVariants as wanted
use Rattle.json_view.specs.declared.faults.Shape.{Shape}
use Rattle.json_view.specs.Seen.{Seen, seen}
use Rattle.json_view.specs.Parts.{list_in, shape}
use Rattle.json_view.specs.Paths.{element_path}
use Rattle.json_view.specs.Lists.{each_from, readings}
use Rattle.json_view.specs.Inner.Lists.{element_of}
use Rattle.json_view.specs.Steps.{with_front, ◌>>=◌}
use Rattle.json_view.proofs.Each.{with_front_nil, each_more, each_fault, each_end}
use Rattle.emu_names.specs.declared.names.BundleKey.{BundleKey}
use Rattle.bundle_edits.specs.declared.edit.Edit.{Edit}
use Rattle.bundle_edits.specs.declared.edit.Edit.TheVariants as edits
use Rattle.bundle_edits.specs.Edits.{key_of}
use Rattle.edit_rules.specs.Acts.{has_key}
use Rattle.edit_rules.specs.Inner.Acts.{is_inner, is_edit_of}
use Rattle.edit_rules.specs.Database.{same_key}
use Rattle.edit_rules.proofs.KeyPlaces.{key_same, same_itself}
use Rattle.session_core.specs.declared.line.Command.{Command}
use Rattle.session_core.specs.declared.line.Command.TheVariants as commands
use Rattle.session_core.specs.Commands.{does_edit, is_listed}
use Rattle.annot_json.specs.Forms.{whole_member}
use Rattle.annot_json.specs.Read.{labels_in}
use Rattle.config_json.specs.Forms.{text_member}
use Rattle.emu_names.specs.declared.limits.TheConstants.{TOP_WHOLE}
use Rattle.script_lines.specs.declared.faults.LineFault.{LineFault}
use Rattle.script_lines.specs.declared.faults.LineFault.TheVariants as faults
use Rattle.script_lines.specs.Inner.Faults.{Reads}
use Rattle.script_lines.specs.Faults.{form}
use Rattle.script_lines.specs.Forms.{id_at, position_at, time_at}
use Rattle.script_lines.specs.Values.{word_of_line}
use Rattle.script_lines.specs.CommandWords.{command_named, if_command}
use Rattle.script_lines.specs.Edits.{item_edit, remove_edit, label_edit, segment_edit, boundary_edit, point_edit, split_edit, merge_edit, link_edit, unlink_edit}
use Rattle.script_lines.specs.Acts.{may_be_listed, if_listed, edit_of, edits_at, listed_edit, listed_edits}
use Rattle.script_lines.proofs.Taken.{taken}

-- How many there are.

pub listed_read : (s : Seen) (list : List Data) (n : ℕ) (b : Bool) → n ≡ length list → b ≡ may_be_listed n → b ≡ true
    → if_listed s list ≡ Ok list
listed_read s list n b count test may =
    let there : may_be_listed (length list) ≡ true = ap may_be_listed (sym count) ∙ sym test ∙ may in
    rw there refl

pub unlisted_read : (s : Seen) (list : List Data) (n : ℕ) (b : Bool) → n ≡ length list → b ≡ may_be_listed n → b ≡ false
    → if_listed s list ≡ Err (shape s.path wanted.FilledList)
unlisted_read s list n b count test may =
    let there : may_be_listed (length list) ≡ false = ap may_be_listed (sym count) ∙ sym test ∙ may in
    rw there refl

-- Edits of a key.

-- an edit that a command makes, and that a list may have beside others of its key
pub record IsMade (command : Command) (key : BundleKey) (e : Edit) : Type 0 where
  pub does : does_edit command e ≡ true
  pub listed : is_listed e ≡ true
  pub inner : is_inner e ≡ true
  pub own : key_of e ≡ key

abbrev ok_edit : Edit → Result Edit Shape
ok_edit e = Ok e

ok_edit_is : {x y : Edit} → ok_edit x ≡ ok_edit y → x ≡ y
ok_edit_is h = cc

form_ok : (r : Result Edit Shape) (x : Edit) → form r ≡ Ok x → r ≡ Ok x
form_ok (Ok y) x h = cc
form_ok (Err s) x h = absurd (cc)

-- each edit that a reading gives is so
abbrev Makes : Command → BundleKey → Result Edit Shape → Type 0
Makes command key r = (e : Edit) → r ≡ Ok e → IsMade command key e

goes_on : {A : Type 0} (command : Command) (key : BundleKey) (first : Result A Shape) (rest : A → Result Edit Shape)
    → ((x : A) → Makes command key (rest x)) → Makes command key (first >>= rest)
goes_on command key (Ok x) rest each = each x
goes_on command key (Err fault) rest each = λ e h. absurd (cc)

ends : (command : Command) (key : BundleKey) (x : Edit) → IsMade command key x → Makes command key (Ok x)
ends command key x made = λ e h. subst (λ (y : Edit). IsMade command key y) (ok_edit_is h) made

item_made : (key : BundleKey) (s : Seen) → Makes commands.AddItem key (item_edit key s)
unfolding item_edit
item_made key s =
    goes_on commands.AddItem key (text_member (codes "level") s) _ (λ level.
    goes_on commands.AddItem key (position_at s) _ (λ position.
    goes_on commands.AddItem key (id_at (codes "id") s) _ (λ id.
    goes_on commands.AddItem key (time_at s) _ (λ time.
    goes_on commands.AddItem key (labels_in s) _ (λ labels.
    ends commands.AddItem key (edits.AddItem key level position (record { id = id; time = time; labels = labels })) (record { does = refl; listed = refl; inner = refl; own = refl }))))))

remove_made : (key : BundleKey) (s : Seen) → Makes commands.RemoveItem key (remove_edit key s)
unfolding remove_edit
remove_made key s =
    goes_on commands.RemoveItem key (id_at (codes "id") s) _ (λ id.
    ends commands.RemoveItem key (edits.RemoveItem key id) (record { does = refl; listed = refl; inner = refl; own = refl }))

label_made : (key : BundleKey) (s : Seen) → Makes commands.SetLabel key (label_edit key s)
unfolding label_edit
label_made key s =
    goes_on commands.SetLabel key (id_at (codes "id") s) _ (λ id.
    goes_on commands.SetLabel key (text_member (codes "attribute") s) _ (λ attribute.
    goes_on commands.SetLabel key (text_member (codes "value") s) _ (λ label.
    ends commands.SetLabel key (edits.SetLabel key id attribute label) (record { does = refl; listed = refl; inner = refl; own = refl }))))

segment_made : (key : BundleKey) (s : Seen) → Makes commands.SetSegment key (segment_edit key s)
unfolding segment_edit
segment_made key s =
    goes_on commands.SetSegment key (id_at (codes "id") s) _ (λ id.
    goes_on commands.SetSegment key (whole_member (codes "sampleStart") TOP_WHOLE s) _ (λ start.
    goes_on commands.SetSegment key (whole_member (codes "sampleDur") TOP_WHOLE s) _ (λ dur.
    ends commands.SetSegment key (edits.SetSegment key id start dur) (record { does = refl; listed = refl; inner = refl; own = refl }))))

boundary_made : (key : BundleKey) (s : Seen) → Makes commands.MoveBoundary key (boundary_edit key s)
unfolding boundary_edit
boundary_made key s =
    goes_on commands.MoveBoundary key (id_at (codes "id") s) _ (λ id.
    goes_on commands.MoveBoundary key (whole_member (codes "sampleStart") TOP_WHOLE s) _ (λ start.
    ends commands.MoveBoundary key (edits.MoveBoundary key id start) (record { does = refl; listed = refl; inner = refl; own = refl })))

point_made : (key : BundleKey) (s : Seen) → Makes commands.SetPoint key (point_edit key s)
unfolding point_edit
point_made key s =
    goes_on commands.SetPoint key (id_at (codes "id") s) _ (λ id.
    goes_on commands.SetPoint key (whole_member (codes "samplePoint") TOP_WHOLE s) _ (λ at.
    ends commands.SetPoint key (edits.SetPoint key id at) (record { does = refl; listed = refl; inner = refl; own = refl })))

split_made : (key : BundleKey) (s : Seen) → Makes commands.Split key (split_edit key s)
unfolding split_edit
split_made key s =
    goes_on commands.Split key (id_at (codes "id") s) _ (λ id.
    goes_on commands.Split key (id_at (codes "newId") s) _ (λ new_id.
    goes_on commands.Split key (whole_member (codes "sampleStart") TOP_WHOLE s) _ (λ start.
    ends commands.Split key (edits.Split key id new_id start) (record { does = refl; listed = refl; inner = refl; own = refl }))))

merge_made : (key : BundleKey) (s : Seen) → Makes commands.Merge key (merge_edit key s)
unfolding merge_edit
merge_made key s =
    goes_on commands.Merge key (id_at (codes "id") s) _ (λ id.
    ends commands.Merge key (edits.Merge key id) (record { does = refl; listed = refl; inner = refl; own = refl }))

link_made : (key : BundleKey) (s : Seen) → Makes commands.AddLink key (link_edit key s)
unfolding link_edit
link_made key s =
    goes_on commands.AddLink key (id_at (codes "fromID") s) _ (λ from.
    goes_on commands.AddLink key (id_at (codes "toID") s) _ (λ to.
    ends commands.AddLink key (edits.AddLink key from to) (record { does = refl; listed = refl; inner = refl; own = refl })))

unlink_made : (key : BundleKey) (s : Seen) → Makes commands.RemoveLink key (unlink_edit key s)
unfolding unlink_edit
unlink_made key s =
    goes_on commands.RemoveLink key (id_at (codes "fromID") s) _ (λ from.
    goes_on commands.RemoveLink key (id_at (codes "toID") s) _ (λ to.
    ends commands.RemoveLink key (edits.RemoveLink key from to) (record { does = refl; listed = refl; inner = refl; own = refl })))

pub edit_made : (command : Command) (key : BundleKey) (s : Seen) (e : Edit) → edit_of command key s ≡ Ok e → IsMade command key e
edit_made commands.AddItem key s e h = item_made key s e (form_ok (item_edit key s) e h)
edit_made commands.RemoveItem key s e h = remove_made key s e (form_ok (remove_edit key s) e h)
edit_made commands.SetLabel key s e h = label_made key s e (form_ok (label_edit key s) e h)
edit_made commands.SetSegment key s e h = segment_made key s e (form_ok (segment_edit key s) e h)
edit_made commands.MoveBoundary key s e h = boundary_made key s e (form_ok (boundary_edit key s) e h)
edit_made commands.SetPoint key s e h = point_made key s e (form_ok (point_edit key s) e h)
edit_made commands.Split key s e h = split_made key s e (form_ok (split_edit key s) e h)
edit_made commands.Merge key s e h = merge_made key s e (form_ok (merge_edit key s) e h)
edit_made commands.AddLink key s e h = link_made key s e (form_ok (link_edit key s) e h)
edit_made commands.RemoveLink key s e h = unlink_made key s e (form_ok (unlink_edit key s) e h)
edit_made commands.Config key s e h = absurd (cc)
edit_made commands.AddBundle key s e h = absurd (cc)
edit_made commands.AddTextgrid key s e h = absurd (cc)
edit_made commands.DropBundle key s e h = absurd (cc)
edit_made commands.LinkTimes key s e h = absurd (cc)
edit_made commands.Edits key s e h = absurd (cc)
edit_made commands.AddLevel key s e h = absurd (cc)
edit_made commands.AddAttribute key s e h = absurd (cc)
edit_made commands.AddLinkDefinition key s e h = absurd (cc)
edit_made commands.Undo key s e h = absurd (cc)
edit_made commands.Query key s e h = absurd (cc)
edit_made commands.Look key s e h = absurd (cc)
edit_made commands.Finish key s e h = absurd (cc)
edit_made commands.After key s e h = absurd (cc)

own_edit : (command : Command) (key : BundleKey) (e : Edit) → IsMade command key e → is_edit_of key e ≡ true
own_edit command key e made =
    and_from (is_inner e) (has_key key e) made.inner
    (subst (λ (k : BundleKey). same_key (key_of e) k ≡ true) made.own (same_itself (key_of e)))

-- an edit of a list
pub record IsListed (key : BundleKey) (e : Edit) : Type 0 where
  pub listed : is_listed e ≡ true
  pub own : is_edit_of key e ≡ true

pub listed_made : (key : BundleKey) (s : Seen) (e : Edit) → listed_edit key s ≡ Ok e → IsListed key e
unfolding listed_edit
listed_made key s e h =
    let word : _ = taken (form (word_of_line s)) _ e h in
    let command : _ = taken (if_command (command_named word.value)) _ e word.rest_is in
    let made : IsMade command.value key e = edit_made command.value key s e command.rest_is in
    record { listed = made.listed; own = own_edit command.value key e made }

-- Elements that all pass.

all_and : {A : Type 0} (test : A → Bool) (xs : List A) (x : A) → list_all test xs ≡ true → test x ≡ true
    → list_all test (xs ++ x ∷ []) ≡ true
all_and test [] x all is = and_from (test x) true is refl
all_and test (y ∷ ys) x all is =
    let parts = and_parts (test y) (list_all test ys) all in
    and_from (test y) (list_all test (ys ++ x ∷ [])) parts.0 (all_and test ys x parts.1 is)

-- one edit more may be put behind those that are there
pub together_more : (key : BundleKey) (front : List Edit) (part : Seen) (e : Edit) → list_all (is_edit_of key) front ≡ true
    → listed_edit key part ≡ Ok e → list_all (is_edit_of (key_of e)) (front ++ e ∷ []) ≡ true
together_more key front part e all got =
    let here : IsListed key e = listed_made key part e got in
    let same : key_of e ≡ key = key_same (key_of e) key (and_parts (is_inner e) (has_key key e) here.own).1 in
    subst (λ (k : BundleKey). list_all (is_edit_of k) (front ++ e ∷ []) ≡ true) (sym same)
    (all_and (is_edit_of key) front e all here.own)

-- How far a list has been read.

-- what was read before a place stands in front of the rest, and all of it are edits of the key
pub record IsRead (key : BundleKey) (s : Seen) (front : List Edit) (place : ℕ) : Type 0 where
  pub whole : with_front front (each_from (listed_edit key) place s) ≡ each_from (listed_edit key) 0 s
  pub own : list_all (is_edit_of key) front ≡ true
  pub counted : length front ≡ place

pub read_first : (key : BundleKey) (s part : Seen) (e : Edit) (new : List Edit) → element_of 0 s ≡ Some part
    → listed_edit key part ≡ Ok e → new ≡ e ∷ [] → IsRead key s new 1
read_first key s part e new here got is =
    subst (λ (es : List Edit). IsRead key s es 1) (sym is)
    (record {
      whole = each_more (listed_edit key) 0 s part [] e (each_from (listed_edit key) 0 s)
          (with_front_nil (each_from (listed_edit key) 0 s)) here got;
      own = all_and (is_edit_of key) [] e refl (listed_made key part e got).own;
      counted = refl;
    })

pub read_more : (key : BundleKey) (s part : Seen) (front new : List Edit) (e : Edit) (place : ℕ) → IsRead key s front place
    → element_of place s ≡ Some part → listed_edit key part ≡ Ok e → new ≡ front ++ e ∷ [] → IsRead key s new (place + 1)
read_more key s part front new e place before here got is =
    subst (λ (es : List Edit). IsRead key s es (place + 1)) (sym is)
    (record {
      whole = each_more (listed_edit key) place s part front e (each_from (listed_edit key) 0 s) before.whole here got;
      own = all_and (is_edit_of key) front e before.own (listed_made key part e got).own;
      counted = length-append front (e ∷ []) ∙ ap (λ (n : ℕ). n + 1) before.counted;
    })

-- an element is at fault, and so is the list
pub read_stops : (key : BundleKey) (s part : Seen) (front : List Edit) (fault : LineFault) (place : ℕ) (list : List Data)
    → edits_at s ≡ Ok list → with_front front (each_from (listed_edit key) place s) ≡ each_from (listed_edit key) 0 s
    → element_of place s ≡ Some part → listed_edit key part ≡ Err fault → listed_edits key s ≡ Err fault
unfolding listed_edits
read_stops key s part front fault place list counted before here got =
    rw counted (each_fault (listed_edit key) place s part front fault (each_from (listed_edit key) 0 s) before here got)

-- the first one is, and the reading ends with its fault
pub first_stops : (answer : Result (List Edit) LineFault) (fault : LineFault) (key : BundleKey) (s part : Seen) (list : List Data)
    → IsErrAnd answer (λ x. x ≡ fault) → edits_at s ≡ Ok list → element_of 0 s ≡ Some part
    → (fault ≢ faults.Memory → listed_edit key part ≡ Err fault) → Reads answer (listed_edits key s)
first_stops (Ok es) fault key s part list same counted here tells = absurd same
first_stops (Err x) fault key s part list same counted here tells =
    subst (λ (y : LineFault). y ≢ faults.Memory → listed_edits key s ≡ Err y) (sym same)
    (λ told. read_stops key s part [] fault 0 list counted (with_front_nil (each_from (listed_edit key) 0 s)) here (tells told))

-- all were read
pub read_ends : (key : BundleKey) (s : Seen) (front : List Edit) (place : ℕ) (list : List Data) → edits_at s ≡ Ok list
    → IsRead key s front place → length (list_in s.value) ≤ place → listed_edits key s ≡ Ok front
unfolding listed_edits
read_ends key s front place list counted before past =
    rw counted (each_end (listed_edit key) place s front (each_from (listed_edit key) 0 s) before.whole past)

-- Edits that a list may have.

abbrev ok_list : List Edit → Result (List Edit) LineFault
ok_list es = Ok es

ok_list_is : {xs ys : List Edit} → ok_list xs ≡ ok_list ys → xs ≡ ys
ok_list_is h = cc

front_listed : (e : Edit) (rest : Result (List Edit) LineFault) (es : List Edit) → is_listed e ≡ true
    → ((more : List Edit) → rest ≡ Ok more → list_all is_listed more ≡ true) → with_front (e ∷ []) rest ≡ Ok es
    → list_all is_listed es ≡ true
front_listed e (Ok more) es here each h =
    subst (λ (xs : List Edit). list_all is_listed xs ≡ true) (ok_list_is h)
    (and_from (is_listed e) (list_all is_listed more) here (each more refl))
front_listed e (Err fault) es here each h = absurd (cc)

each_listed : (key : BundleKey) (path : List ℕ) (place : ℕ) (ds : List Data) (es : List Edit)
    → readings (listed_edit key) path place ds ≡ Ok es → list_all is_listed es ≡ true
each_listed key path place [] es h = subst (λ (xs : List Edit). list_all is_listed xs ≡ true) (ok_list_is h) refl
each_listed key path place (d ∷ ds) es h =
    let first : _ = taken (listed_edit key (seen d (element_path path place)))
    (λ e. with_front (e ∷ []) (readings (listed_edit key) path (place + 1) ds)) es h in
    front_listed first.value (readings (listed_edit key) path (place + 1) ds) es
    (listed_made key (seen d (element_path path place)) first.value first.first_is).listed
    (λ more is. each_listed key path (place + 1) ds more is) first.rest_is

pub all_listed : (key : BundleKey) (s : Seen) (es : List Edit) → listed_edits key s ≡ Ok es → list_all is_listed es ≡ true
unfolding listed_edits each_from
all_listed key s es h =
    let list : _ = taken (form (edits_at s)) (λ found. each_from (listed_edit key) 0 s) es h in
    each_listed key s.path 0 (list_in s.value) es list.rest_is
