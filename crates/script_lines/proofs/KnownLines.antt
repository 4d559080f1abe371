-- What is known of a line that was read: the kind that was wanted, and a request that the core takes.
use Rattle.std.proofs.Common.{◌≡◌, ℕ, ◌<◌, ◌≤◌, Bool, true, false, cond, List, Option, Some, None, Result, Ok, Err, refl, ap, subst, arith, nat_eq, nat_le, codes}
use Rattle.std.proofs.lemmas.Bool.{leb-true}
use Rattle.std.specs.List.{list_any}
use Rattle.std.specs.Prelude.{ok_or, option_and_then}
use Rattle.serde_json.specs.Data.{Data}
use Rattle.json_view.specs.declared.faults.Shape.{Shape}
use Rattle.json_view.specs.declared.wants.Wanted.TheVariants as wanted
use Rattle.json_view.specs.Seen.{Seen, seen}
use Rattle.json_view.specs.Paths.{root_path}
use Rattle.json_view.specs.Parts.{shape, member_of, whole_at, whole_in, at_most}
use Rattle.json_view.specs.Steps.{◌>>=◌}
use Rattle.emu_names.specs.declared.limits.TheConstants.{TOP_ID}
use Rattle.emu_names.specs.declared.kinds.SessionNo.{SessionNo}
use Rattle.emu_names.specs.declared.names.BundleKey.{BundleKey}
use Rattle.level_items.specs.declared.annot.Annot.{Annot}
use Rattle.config_json.specs.declared.faults.ConfigFault.{ConfigFault}
use Rattle.config_json.specs.Forms.{or_shape, text_member}
use Rattle.emu_names.specs.Texts.{same_text}
use Rattle.config_json.specs.Read.{attribute_in, config_of, level_in, link_in}
use Rattle.annot_json.specs.Forms.{whole_member}
use Rattle.annot_json.specs.Read.{annot_of}
use Rattle.bundle_edits.specs.declared.edit.Edit.{Edit}
use Rattle.bundle_edits.specs.declared.edit.Edit.TheVariants as edits
use Rattle.textgrid.specs.declared.fault.GridFault.{GridFault}
use Rattle.session_core.specs.declared.line.Ask.{Ask}
use Rattle.session_core.specs.declared.line.Command.{Command}
use Rattle.session_core.specs.declared.line.Command.TheVariants as commands
use Rattle.session_core.specs.declared.line.Request.{Request}
use Rattle.session_core.specs.declared.line.Request.TheVariants as requests
use Rattle.session_core.specs.declared.line.Line.{Line}
use Rattle.session_core.specs.Steps.{session_places}
use Rattle.session_core.specs.Commands.{is_command_of}
use Rattle.script_lines.specs.declared.faults.LineFault.{LineFault}
use Rattle.script_lines.specs.declared.faults.LineFault.TheVariants as faults
use Rattle.script_lines.specs.declared.faults.ReadLine.{ReadLine}
use Rattle.script_lines.specs.declared.faults.ReadLine.TheVariants as reads
use Rattle.script_lines.specs.Faults.{form, config_form}
use Rattle.script_lines.specs.Forms.{session_at, session_in, if_session, key_at, rate_at}
use Rattle.script_lines.specs.Acts.{edit_of, one_request, listed_edits, edits_request, level_request, attribute_request, definition_request}
use Rattle.script_lines.specs.CommandWords.{command_named, if_command}
use Rattle.script_lines.specs.Edits.{alone, asks, grid_act, grid_annot, bundle_request, textgrid_request, drop_request, times_request}
use Rattle.script_lines.specs.Values.{is_blank, json_of, word_of_line}
use Rattle.script_lines.specs.Requeries.{requery_at}
use Rattle.script_lines.specs.Questions.{Question, question_at, question_command, time_name_at}
use Rattle.eql_resolve.specs.Made.{Made}
use Rattle.script_lines.specs.Lines.{request_of, blank_line, json_line, value_line, told_line, asking_line, question_request, placed_line, config_line, line_in, members_of, after_request, undo_request, if_earlier, if_change}
use Rattle.script_lines.specs.declared.line_set.EarlierLine.{EarlierLine}
use Rattle.script_lines.specs.Earlier.{is_change_of, is_line}
use Rattle.script_lines.specs.Known.{Known, NamesOneOf}
use Rattle.script_lines.proofs.Listed.{all_listed, edit_made}
use Rattle.script_lines.proofs.Taken.{taken}
use Rattle.script_lines.proofs.ValidConfigs.{config_valid}

abbrev ok_shape : Request → Result Request Shape
ok_shape x = Ok x

abbrev ok_line : Request → Result Request LineFault
ok_line x = Ok x

abbrev ok_read : ReadLine → Result ReadLine LineFault
ok_read x = Ok x

abbrev ok_question : Question → Result Question Shape
ok_question x = Ok x

abbrev some_command : Command → Option Command
some_command x = Some x

line_ok_is : {x y : Request} → ok_line x ≡ ok_line y → x ≡ y
line_ok_is h = cc

read_is : {x y : ReadLine} → ok_read x ≡ ok_read y → x ≡ y
read_is h = cc

form_ok : {A : Type 0} (r : Result A Shape) (x : A) → form r ≡ Ok x → r ≡ Ok x
form_ok (Ok y) x h = cc
form_ok (Err s) x h = absurd (cc)

or_shape_ok : {A : Type 0} (s : Shape) (r : Result A Shape) (x : A) → or_shape s r ≡ Ok x → r ≡ Ok x
or_shape_ok s (Ok y) x h = h
or_shape_ok s (Err other) x h = absurd (cc)

ok_or_ok : {A E : Type 0} (o : Option A) (e : E) (x : A) → ok_or o e ≡ Ok x → o ≡ Some x
ok_or_ok (Some y) e x h = cc
ok_or_ok None e x h = absurd (cc)

and_then_some : {A B : Type 0} (f : A → Option B) (o : Option A) (y : B) → option_and_then f o ≡ Some y → (x : A) × (f x ≡ Some y)
and_then_some f (Some x) y h = (x, h)
and_then_some f None y h = absurd (cc)

ok_is : {x y : Request} → ok_shape x ≡ ok_shape y → x ≡ y
ok_is h = cc

-- sessions

kept_most : (most m n : ℕ) (b : Bool) → (b ≡ true → m ≤ most) → cond b (Some m) None ≡ Some n → n ≤ most
kept_most most m n true within h = let same : m ≡ n = cc in let low : m ≤ most = within refl in omega arith
kept_most most m n false within h = absurd (cc)

whole_most : (most : ℕ) (s : Seen) (n : ℕ) → whole_at most s ≡ Ok n → n ≤ most
unfolding whole_at
whole_most most s n h =
    let found = and_then_some (at_most most) (whole_in s.value) n (ok_or_ok _ (shape s.path wanted.Whole) n h) in
    kept_most most found.0 n (nat_le found.0 most) (leb-true found.0 most) found.1

number_in : Result SessionNo Shape → ℕ
number_in (Ok session) = session.0
number_in (Err e) = 0

session_same : (s : Seen) (b : Bool) (n : ℕ) (session : SessionNo) → cond b (Ok (record { 0 = n })) (Err (shape s.path wanted.Session)) ≡ Ok session → n ≡ session.0
unfolding number_in
session_same s true n session h = ap number_in h
session_same s false n session h = absurd (cc)

-- the session of a member that was read

within_place : (at : Seen) (whole : Result ℕ Shape) (session : SessionNo) → ((n : ℕ) → whole ≡ Ok n → n ≤ 16) → (whole >>= λ n. if_session at n) ≡ Ok session → session.0 < session_places
within_place at (Ok n) session most h =
    let low : n ≤ 16 = most n refl in
    let same : n ≡ session.0 = session_same at (nat_le 1 n) n session h in
    omega arith
within_place at (Err e) session most h = absurd (cc)

member_place : (member : Result Seen Shape) (session : SessionNo) → (member >>= session_in) ≡ Ok session → session.0 < session_places
unfolding session_in
member_place (Ok at) session h = within_place at (whole_at 16 at) session (whole_most 16 at) (or_shape_ok (shape at.path wanted.Session) (whole_at 16 at >>= λ n. if_session at n) session h)
member_place (Err e) session h = absurd (cc)

session_place : (s : Seen) (session : SessionNo) → session_at s ≡ Ok session → session.0 < session_places
unfolding session_at
session_place s session h = member_place (member_of (codes "s") wanted.Session s) session h

-- members

-- the session of a line, and the lines before it
record Before : Type 0 where
  session : ℕ
  lines : List EarlierLine

record IsRequestOf (word : Command) (earlier : Before) (r : Request) : Type 0 where
  command : is_command_of word r ≡ true
  names : NamesOneOf earlier.lines earlier.session r

-- each request that a reading gives is one of the command
abbrev Makes : Command → Before → Result Request Shape → Type 0
Makes word earlier r = (q : Request) → r ≡ Ok q → IsRequestOf word earlier q

goes_on : {A : Type 0} (word : Command) (earlier : Before) (first : Result A Shape) (rest : A → Result Request Shape)
    → ((x : A) → Makes word earlier (rest x)) → Makes word earlier (first >>= rest)
goes_on word earlier (Ok x) rest each = each x
goes_on word earlier (Err e) rest each = λ q h. absurd (cc)

ends : (word : Command) (earlier : Before) (x : Request) → IsRequestOf word earlier x → Makes word earlier (Ok x)
ends word earlier x made = λ q h. let same : x ≡ q = ok_is h in subst (λ r. IsRequestOf word earlier r) same made

bundle_made : (earlier : Before) (s : Seen) → Makes commands.AddBundle earlier (bundle_request s)
unfolding bundle_request
bundle_made earlier s =
    goes_on commands.AddBundle earlier (key_at s) _ (λ key.
    goes_on commands.AddBundle earlier (member_of (codes "annot") wanted.Object s) _ (λ member.
    goes_on commands.AddBundle earlier (annot_of member) _ (λ annot.
    ends commands.AddBundle earlier (asks (alone (edits.AddBundle key annot))) (record { command = refl; names = tt }))))

grid_made : (earlier : Before) (key : BundleKey) (annot : Result Annot GridFault) → IsRequestOf commands.AddTextgrid earlier (requests.Edit (grid_act key annot))
grid_made earlier key (Ok annot) = record { command = refl; names = tt }
grid_made earlier key (Err fault) = record { command = refl; names = tt }

textgrid_made : (earlier : Before) (s : Seen) → Makes commands.AddTextgrid earlier (textgrid_request s)
unfolding textgrid_request
textgrid_made earlier s =
    goes_on commands.AddTextgrid earlier (key_at s) _ (λ key.
    goes_on commands.AddTextgrid earlier (rate_at s) _ (λ rate.
    goes_on commands.AddTextgrid earlier (text_member (codes "text") s) _ (λ text.
    ends commands.AddTextgrid earlier (requests.Edit (grid_act key (grid_annot rate text))) (grid_made earlier key (grid_annot rate text)))))

drop_made : (earlier : Before) (s : Seen) → Makes commands.DropBundle earlier (drop_request s)
unfolding drop_request
drop_made earlier s =
    goes_on commands.DropBundle earlier (key_at s) _ (λ key.
    ends commands.DropBundle earlier (asks (alone (edits.DropBundle key))) (record { command = refl; names = tt }))

times_made : (earlier : Before) (s : Seen) → Makes commands.LinkTimes earlier (times_request s)
unfolding times_request
times_made earlier s =
    goes_on commands.LinkTimes earlier (key_at s) _ (λ key.
    goes_on commands.LinkTimes earlier (text_member (codes "upper") s) _ (λ upper.
    goes_on commands.LinkTimes earlier (text_member (codes "lower") s) _ (λ lower.
    ends commands.LinkTimes earlier (asks (alone (edits.LinkTimes key upper lower))) (record { command = refl; names = tt }))))

-- One edit alone, and lists.

one_does : (command : Command) (key : BundleKey) (s : Seen) (e : Edit) → edit_of command key s ≡ Ok e
    → is_command_of command (asks (alone e)) ≡ true
one_does commands.AddItem key s e h = (edit_made commands.AddItem key s e h).does
one_does commands.RemoveItem key s e h = (edit_made commands.RemoveItem key s e h).does
one_does commands.SetLabel key s e h = (edit_made commands.SetLabel key s e h).does
one_does commands.SetSegment key s e h = (edit_made commands.SetSegment key s e h).does
one_does commands.MoveBoundary key s e h = (edit_made commands.MoveBoundary key s e h).does
one_does commands.SetPoint key s e h = (edit_made commands.SetPoint key s e h).does
one_does commands.Split key s e h = (edit_made commands.Split key s e h).does
one_does commands.Merge key s e h = (edit_made commands.Merge key s e h).does
one_does commands.AddLink key s e h = (edit_made commands.AddLink key s e h).does
one_does commands.RemoveLink key s e h = (edit_made commands.RemoveLink key s e h).does
one_does commands.Config key s e h = absurd (cc)
one_does commands.AddBundle key s e h = absurd (cc)
one_does commands.AddTextgrid key s e h = absurd (cc)
one_does commands.DropBundle key s e h = absurd (cc)
one_does commands.LinkTimes key s e h = absurd (cc)
one_does commands.Edits key s e h = absurd (cc)
one_does commands.AddLevel key s e h = absurd (cc)
one_does commands.AddAttribute key s e h = absurd (cc)
one_does commands.AddLinkDefinition key s e h = absurd (cc)
one_does commands.Undo key s e h = absurd (cc)
one_does commands.Query key s e h = absurd (cc)
one_does commands.Look key s e h = absurd (cc)
one_does commands.Finish key s e h = absurd (cc)
one_does commands.After key s e h = absurd (cc)

one_made : (command : Command) (earlier : Before) (s : Seen) (r : Request) → one_request command s ≡ Ok r → IsRequestOf command earlier r
unfolding one_request
one_made command earlier s r h =
    let key : _ = taken (form (key_at s)) _ r h in
    let edit : _ = taken (edit_of command key.value s) _ r key.rest_is in
    subst (λ q. IsRequestOf command earlier q) (line_ok_is edit.rest_is)
    (record { command = one_does command key.value s edit.value edit.first_is; names = tt })

edits_made : (earlier : Before) (s : Seen) (r : Request) → edits_request s ≡ Ok r → IsRequestOf commands.Edits earlier r
unfolding edits_request
edits_made earlier s r h =
    let key : _ = taken (form (key_at s)) _ r h in
    let member : _ = taken (form (member_of (codes "edits") wanted.FilledList s)) _ r key.rest_is in
    let list : _ = taken (listed_edits key.value member.value) _ r member.rest_is in
    subst (λ q. IsRequestOf commands.Edits earlier q) (line_ok_is list.rest_is)
    (record { command = all_listed key.value member.value list.value list.first_is; names = tt })

-- Additions to the configuration.

level_made : (earlier : Before) (s : Seen) (r : Request) → level_request s ≡ Ok r → IsRequestOf commands.AddLevel earlier r
unfolding level_request
level_made earlier s r h =
    let member : _ = taken (form (member_of (codes "level") wanted.Object s)) _ r h in
    let level : _ = taken (config_form (level_in member.value)) _ r member.rest_is in
    subst (λ q. IsRequestOf commands.AddLevel earlier q) (line_ok_is level.rest_is) (record { command = refl; names = tt })

attribute_made : (earlier : Before) (s : Seen) (r : Request) → attribute_request s ≡ Ok r → IsRequestOf commands.AddAttribute earlier r
unfolding attribute_request
attribute_made earlier s r h =
    let level : _ = taken (form (text_member (codes "level") s)) _ r h in
    let member : _ = taken (form (member_of (codes "attribute") wanted.Object s)) _ r level.rest_is in
    let attribute : _ = taken (config_form (attribute_in member.value)) _ r member.rest_is in
    subst (λ q. IsRequestOf commands.AddAttribute earlier q) (line_ok_is attribute.rest_is) (record { command = refl; names = tt })

definition_made : (earlier : Before) (s : Seen) (r : Request) → definition_request s ≡ Ok r → IsRequestOf commands.AddLinkDefinition earlier r
unfolding definition_request
definition_made earlier s r h =
    let member : _ = taken (form (member_of (codes "definition") wanted.Object s)) _ r h in
    let link : _ = taken (config_form (link_in member.value)) _ r member.rest_is in
    subst (λ q. IsRequestOf commands.AddLinkDefinition earlier q) (line_ok_is link.rest_is) (record { command = refl; names = tt })

earlier_made : (earlier : Before) (line : ℕ) (b : Bool) (r : Request) → list_any (is_line line) earlier.lines ≡ b → cond b (Ok (requests.After line)) (Err faults.BadAfter) ≡ ok_line r → IsRequestOf commands.After earlier r
earlier_made earlier line true r any h = let same : requests.After line ≡ r = line_ok_is h in subst (λ q. IsRequestOf commands.After earlier q) same (record { command = refl; names = any })
earlier_made earlier line false r any h = absurd (cc)

line_made : (earlier : Before) (line : Result ℕ LineFault) (r : Request) → (line >>= if_earlier earlier.lines) ≡ Ok r → IsRequestOf commands.After earlier r
line_made earlier (Ok line) r h = earlier_made earlier line (list_any (is_line line) earlier.lines) r refl h
line_made earlier (Err e) r h = absurd (cc)

after_made : (earlier : Before) (s : Seen) (r : Request) → after_request earlier.lines s ≡ Ok r → IsRequestOf commands.After earlier r
unfolding after_request
after_made earlier s r h = line_made earlier (form (whole_member (codes "line") TOP_ID s)) r h

change_made : (earlier : Before) (line : ℕ) (b : Bool) (r : Request) → list_any (is_change_of earlier.session line) earlier.lines ≡ b → cond b (Ok (requests.Undo line)) (Err faults.BadUndo) ≡ ok_line r → IsRequestOf commands.Undo earlier r
change_made earlier line true r any h = let same : requests.Undo line ≡ r = line_ok_is h in subst (λ q. IsRequestOf commands.Undo earlier q) same (record { command = refl; names = any })
change_made earlier line false r any h = absurd (cc)

change_line_made : (earlier : Before) (line : Result ℕ LineFault) (r : Request) → (line >>= if_change earlier.lines earlier.session) ≡ Ok r → IsRequestOf commands.Undo earlier r
change_line_made earlier (Ok line) r h = change_made earlier line (list_any (is_change_of earlier.session line) earlier.lines) r refl h
change_line_made earlier (Err e) r h = absurd (cc)

undo_made : (earlier : Before) (s : Seen) (r : Request) → undo_request earlier.lines earlier.session s ≡ Ok r → IsRequestOf commands.Undo earlier r
unfolding undo_request
undo_made earlier s r h = change_line_made earlier (form (whole_member (codes "line") TOP_ID s)) r h

members_made : (command : Command) (earlier : Before) (s : Seen) (r : Request) → members_of command earlier.lines earlier.session s ≡ Ok r → IsRequestOf command earlier r
members_made commands.AddBundle earlier s r h = bundle_made earlier s r (form_ok (bundle_request s) r h)
members_made commands.AddTextgrid earlier s r h = textgrid_made earlier s r (form_ok (textgrid_request s) r h)
members_made commands.DropBundle earlier s r h = drop_made earlier s r (form_ok (drop_request s) r h)
members_made commands.AddItem earlier s r h = one_made commands.AddItem earlier s r h
members_made commands.RemoveItem earlier s r h = one_made commands.RemoveItem earlier s r h
members_made commands.SetLabel earlier s r h = one_made commands.SetLabel earlier s r h
members_made commands.SetSegment earlier s r h = one_made commands.SetSegment earlier s r h
members_made commands.MoveBoundary earlier s r h = one_made commands.MoveBoundary earlier s r h
members_made commands.SetPoint earlier s r h = one_made commands.SetPoint earlier s r h
members_made commands.Split earlier s r h = one_made commands.Split earlier s r h
members_made commands.Merge earlier s r h = one_made commands.Merge earlier s r h
members_made commands.AddLink earlier s r h = one_made commands.AddLink earlier s r h
members_made commands.RemoveLink earlier s r h = one_made commands.RemoveLink earlier s r h
members_made commands.LinkTimes earlier s r h = times_made earlier s r (form_ok (times_request s) r h)
members_made commands.Edits earlier s r h = edits_made earlier s r h
members_made commands.AddLevel earlier s r h = level_made earlier s r h
members_made commands.AddAttribute earlier s r h = attribute_made earlier s r h
members_made commands.AddLinkDefinition earlier s r h = definition_made earlier s r h
members_made commands.Query earlier s r h = absurd (cc)
members_made commands.Look earlier s r h = absurd (cc)
members_made commands.Finish earlier s r h = let same : requests.Finish ≡ r = line_ok_is h in subst (λ q. IsRequestOf commands.Finish earlier q) same (record { command = refl; names = tt })
members_made commands.After earlier s r h = after_made earlier s r h
members_made commands.Undo earlier s r h = undo_made earlier s r h
members_made commands.Config earlier s r h = absurd (cc)

-- lines

abbrev request_line : ℕ → SessionNo → Command → Request → Line
request_line number session command request = record { line = number; session = session; command = command; request = request }

-- the session of a line, and the lines before it
abbrev before : SessionNo → List EarlierLine → Before
before session earlier = record { session = session.0; lines = earlier }

requested : (number : ℕ) (earlier : List EarlierLine) (command : Command) (session : SessionNo) (request : Result Request LineFault) (read : ReadLine) → ((r : Request) → request ≡ Ok r → IsRequestOf command (before session earlier) r) → session.0 < session_places → (request >>= λ r. Ok (reads.Request (request_line number session command r))) ≡ Ok read → Known number false earlier read
requested number earlier command session (Ok r) read made place h =
    let same : reads.Request (request_line number session command r) ≡ read = read_is h in
    let ours : IsRequestOf command (before session earlier) r = made r refl in
    subst (λ q. Known number false earlier q) same (record { number = refl; place = place; command = ours.command; names = ours.names })
requested number earlier command session (Err e) read made place h = absurd (cc)

in_session : (number : ℕ) (earlier : List EarlierLine) (command : Command) (s : Seen) (session : Result SessionNo LineFault) (read : ReadLine) → ((n : SessionNo) → session ≡ Ok n → n.0 < session_places) → (session >>= λ n. members_of command earlier n.0 s >>= λ r. Ok (reads.Request (request_line number n command r))) ≡ Ok read → Known number false earlier read
in_session number earlier command s (Ok n) read place h = requested number earlier command n (members_of command earlier n.0 s) read (members_made command (before n earlier) s) (place n refl) h
in_session number earlier command s (Err e) read place h = absurd (cc)

commanded : (number : ℕ) (earlier : List EarlierLine) (s : Seen) (command : Result Command LineFault) (read : ReadLine) → (command >>= λ c. form (session_at s) >>= λ n. members_of c earlier n.0 s >>= λ r. Ok (reads.Request (request_line number n c r))) ≡ Ok read → Known number false earlier read
commanded number earlier s (Ok c) read h = in_session number earlier c s (form (session_at s)) read (λ n e. session_place s n (form_ok (session_at s) n e)) h
commanded number earlier s (Err e) read h = absurd (cc)

request_known : (number : ℕ) (earlier : List EarlierLine) (word : List ℕ) (s : Seen) (read : ReadLine) → line_in number earlier word s ≡ Ok read → Known number false earlier read
unfolding line_in
request_known number earlier word s read h = commanded number earlier s (if_command (command_named word)) read h

config_form_ok : {A : Type 0} (r : Result A ConfigFault) (x : A) → config_form r ≡ Ok x → r ≡ Ok x
config_form_ok (Ok y) x h = cc
config_form_ok (Err e) x h = absurd (cc)

config_known : (number : ℕ) (earlier : List EarlierLine) (s : Seen) (read : ReadLine) → config_line s ≡ Ok read → Known number true earlier read
unfolding config_line
config_known number earlier s read h =
    let member : _ = taken (form (member_of (codes "config") wanted.Object s)) _ read h in
    let config : _ = taken (config_form (config_of member.value)) _ read member.rest_is in
    subst (λ q. Known number true earlier q) (read_is config.rest_is)
    (config_valid member.value config.value (config_form_ok (config_of member.value) config.value config.first_is))

placed_known : (wants is_config : Bool) (number : ℕ) (earlier : List EarlierLine) (word : List ℕ) (s : Seen) (read : ReadLine) → placed_line wants is_config number earlier word s ≡ Ok read → Known number wants earlier read
placed_known true true number earlier word s read h = config_known number earlier s read h
placed_known true false number earlier word s read h = absurd (cc)
placed_known false true number earlier word s read h = absurd (cc)
placed_known false false number earlier word s read h = request_known number earlier word s read h

-- questions

some_is : {x y : Command} → some_command x ≡ some_command y → x ≡ y
some_is h = cc

question_is : {x y : Question} → ok_question x ≡ ok_question y → x ≡ y
question_is h = cc

question_place : (s : Seen) (q : Question) → question_at s ≡ Ok q → q.session.0 < session_places
unfolding question_at
question_place s q h =
    let session : _ = taken (session_at s) _ q h in
    let eql : _ = taken (text_member (codes "eql") s) _ q session.rest_is in
    let time : _ = taken (time_name_at s) _ q eql.rest_is in
    let requery : _ = taken (requery_at s) _ q time.rest_is in
    subst (λ (x : Question). x.session.0 < session_places) (question_is requery.rest_is)
    (session_place s session.value session.first_is)

-- a question's command brings the request
abbrev Asks : Command → Type 0
Asks command = (earlier : Before) (ask : Ask) → IsRequestOf command earlier (question_request command ask)

word_asks : (query look : Bool) (command : Command) → cond query (Some commands.Query) (cond look (Some commands.Look) None) ≡ Some command → Asks command
word_asks true look command h = λ earlier ask. subst (λ c. IsRequestOf c earlier (question_request c ask)) (some_is h) (record { command = refl; names = tt })
word_asks false true command h = λ earlier ask. subst (λ c. IsRequestOf c earlier (question_request c ask)) (some_is h) (record { command = refl; names = tt })
word_asks false false command h = absurd (cc)

asked_known : (number : ℕ) (earlier : List EarlierLine) (command : Command) (made : Made) (question : Result Question Shape) (read : ReadLine) → Asks command → ((q : Question) → question ≡ Ok q → q.session.0 < session_places) → asking_line false number command made question ≡ Ok read → Known number false earlier read
asked_known number earlier command made (Ok q) read asks place h =
    let ours : IsRequestOf command (before q.session earlier) (question_request command (record { prepared = made; time = q.time; requery = q.requery })) = asks _ _ in
    subst (λ r. Known number false earlier r) (read_is h) (record { number = refl; place = place q refl; command = ours.command; names = ours.names })
asked_known number earlier command made (Err fault) read asks place h = absurd (cc)

asking_known : (number : ℕ) (wants : Bool) (earlier : List EarlierLine) (command : Command) (made : Made) (s : Seen) (read : ReadLine) → Asks command → asking_line wants number command made (question_at s) ≡ Ok read → Known number wants earlier read
asking_known number true earlier command made s read asks h = absurd (cc)
asking_known number false earlier command made s read asks h = asked_known number earlier command made (question_at s) read asks (question_place s) h

told_known : (number : ℕ) (wants : Bool) (earlier : List EarlierLine) (made : Made) (word : List ℕ) (s : Seen) (o : Option Command) (read : ReadLine) → question_command word ≡ o → told_line o number wants earlier made word s ≡ Ok read → Known number wants earlier read
told_known number wants earlier made word s None read is h = placed_known wants (same_text word (codes "config")) number earlier word s read h
told_known number wants earlier made word s (Some command) read is h =
    asking_known number wants earlier command made s read (word_asks (same_text word (codes "query")) (same_text word (codes "look")) command is) h

word_known : (number : ℕ) (wants : Bool) (earlier : List EarlierLine) (made : Made) (s : Seen) (word : Result (List ℕ) LineFault) (read : ReadLine) → (word >>= λ w. told_line (question_command w) number wants earlier made w s) ≡ Ok read → Known number wants earlier read
word_known number wants earlier made s (Ok w) read h = told_known number wants earlier made w s (question_command w) read refl h
word_known number wants earlier made s (Err e) read h = absurd (cc)

value_known : (number : ℕ) (wants : Bool) (earlier : List EarlierLine) (made : Made) (s : Seen) (read : ReadLine) → value_line number wants earlier made s ≡ Ok read → Known number wants earlier read
unfolding value_line
value_known number wants earlier made s read h = word_known number wants earlier made s (form (word_of_line s)) read h

json_known : (number : ℕ) (wants : Bool) (earlier : List EarlierLine) (made : Made) (d : Option Data) (read : ReadLine) → json_line number wants earlier made d ≡ Ok read → Known number wants earlier read
json_known number wants earlier made None read h = absurd (cc)
json_known number wants earlier made (Some d) read h = value_known number wants earlier made (seen d root_path) read h

blank_known : (number : ℕ) (wants : Bool) (earlier : List EarlierLine) (read : ReadLine) → blank_line wants ≡ Ok read → Known number wants earlier read
blank_known number true earlier read h = absurd (cc)
blank_known number false earlier read h = let same : reads.Blank ≡ read = read_is h in subst (λ q. Known number false earlier q) same tt

either_known : (number : ℕ) (wants blank : Bool) (earlier : List EarlierLine) (made : Made) (line : List ℕ) (read : ReadLine) → cond blank (blank_line wants) (json_line number wants earlier made (json_of line)) ≡ Ok read → Known number wants earlier read
either_known number wants true earlier made line read h = blank_known number wants earlier read h
either_known number wants false earlier made line read h = json_known number wants earlier made (json_of line) read h

-- a line that was read is of the kind that was wanted, and a request can be taken by the core
pub known : (line : List ℕ) (number : ℕ) (wants : Bool) (earlier : List EarlierLine) (made : Made) (read : ReadLine) → request_of line number wants earlier made ≡ Ok read → Known number wants earlier read
unfolding request_of
known line number wants earlier made read h = either_known number wants (is_blank line) earlier made line read h
