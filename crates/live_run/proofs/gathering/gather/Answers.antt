use Rattle.std.proofs.Common.{◌≡◌, ◌+◌, ℕ, List, Ok, ◌∙◌, ap, drop, length, map, subst, sym, vec_capacity, vec_len}
use Rattle.live_seats.specs.session_core.Legal.{lines_in}
use Rattle.live_seats.specs.session_core.Worlds.{Each}
use Rattle.live_seats.specs.live_book.Histories.{IsHistory}
use Rattle.live_seats.specs.live_book.Kept.{BookParts}
use Rattle.live_seats.specs.live_book.Live.{HasGrown, Shows}
use Rattle.edit_rules.specs.declared.acts.Entry.{Entry}
use Rattle.live_seats.specs.live_laws.Lanes.{Agrees, Step, all_steps, all_turns}
use Rattle.live_seats.specs.Inner.Notes.{noted_in}
use Rattle.live_run.specs.Inner.Running.{EndsOver, HaveLanes, accepts_in, refuses_in}
use Rattle.live_seats.specs.Marks.{marks_from}
use Rattle.live_seats.specs.Inner.Seats.{IsAsked}
use Rattle.live_run.proofs.Gathers.{gathers_grown, gathers_lanes, gathers_room, gathers_shown}
use Rattle.live_run.proofs.Joining.{ran_asked, ran_ends, ran_few, ran_named, ran_placed, ran_rooms}
use Rattle.live_run.proofs.gathering.gather.Goals as goal

pub add_lanes-requires : goal.add_lanes-requires
add_lanes-requires g c =
    let ran : List (List Step) = map (λ v. v.items) c.finish_all-lanes.result.items in
    let rests : List (List Step) = map (λ r. r.steps) c.args.rests.items in
    subst (λ l. Each (IsAsked (length c.args.joint.table)) (lines_in (all_turns (map (λ v. v.items) l)))) (sym c.as_slice.ensures.value)
    (ran_asked (vec_len c.args.rests) c.args.lines.now ran (gathers_lanes (vec_len c.args.rests) c.args.lines.now rests ran c.finish_all-lanes.ensures.steps c.requires.lanes)
    (length c.args.joint.table) c.requires.asked)

pub group-replies-requires-clause-room : goal.group-replies-requires-clause-room
group-replies-requires-clause-room g c =
    let ran : List (List Step) = map (λ v. v.items) c.finish_all-lanes.result.items in
    let rests : List (List Step) = map (λ r. r.steps) c.args.rests.items in
    let lanes : HaveLanes (vec_len c.args.rests) c.args.lines.now ran =
    gathers_lanes (vec_len c.args.rests) c.args.lines.now rests ran c.finish_all-lanes.ensures.steps c.requires.lanes in
    let shown : Shows g.K.Opening.opened c.args.book.history c.args.book.list =
    gathers_shown g.D.Disk.may_leave g.D.Disk.faults g.K.Opening.opened c.args.book rests ran c.finish_all-lanes.ensures.steps c.requires.grown c.finish_all-lanes.new.book
    c.finish_all-lanes.ensures.same c.tell.ensures.shown in
    let agrees : Each (Agrees (noted_in c.add_lanes.new.self)) (all_steps ran) =
    subst (λ l. Each (Agrees (noted_in c.add_lanes.new.self)) (all_steps (map (λ v. v.items) l))) c.as_slice.ensures.value c.add_lanes.ensures in
    ran_rooms g.K.Opening.opened c.args.book.history c.args.book.list (vec_len c.args.rests) c.args.lines.now ran lanes c.finish_all-lanes.ensures.ended shown
    (noted_in c.add_lanes.new.self) agrees c.args.joint.replies.queues.items c.args.joint.replies.joined c.requires.replies

pub group-replies-requires-clause-named : goal.group-replies-requires-clause-named
group-replies-requires-clause-named g c =
    let ran : List (List Step) = map (λ v. v.items) c.finish_all-lanes.result.items in
    let rests : List (List Step) = map (λ r. r.steps) c.args.rests.items in
    let lanes : HaveLanes (vec_len c.args.rests) c.args.lines.now ran =
    gathers_lanes (vec_len c.args.rests) c.args.lines.now rests ran c.finish_all-lanes.ensures.steps c.requires.lanes in
    let shown : Shows g.K.Opening.opened c.args.book.history c.args.book.list =
    gathers_shown g.D.Disk.may_leave g.D.Disk.faults g.K.Opening.opened c.args.book rests ran c.finish_all-lanes.ensures.steps c.requires.grown c.finish_all-lanes.new.book
    c.finish_all-lanes.ensures.same c.tell.ensures.shown in
    ran_named g.K.Opening.opened c.args.book.history c.args.book.list (vec_len c.args.rests) c.args.lines.now ran lanes c.finish_all-lanes.ensures.ended shown

pub group-replies-requires-clause-placed : goal.group-replies-requires-clause-placed
group-replies-requires-clause-placed g c =
    let ran : List (List Step) = map (λ v. v.items) c.finish_all-lanes.result.items in
    let rests : List (List Step) = map (λ r. r.steps) c.args.rests.items in
    ran_placed (vec_len c.args.rests) c.args.lines.now ran (gathers_lanes (vec_len c.args.rests) c.args.lines.now rests ran c.finish_all-lanes.ensures.steps c.requires.lanes) c.requires.lines

pub marks_of-marks-requires-clause-room : goal.marks_of-marks-requires-clause-room
marks_of-marks-requires-clause-room g c =
    let ran : List (List Step) = map (λ v. v.items) c.finish_all-lanes.result.items in
    let rests : List (List Step) = map (λ r. r.steps) c.args.rests.items in
    let lanes : HaveLanes (vec_len c.args.rests) c.args.lines.now ran =
    gathers_lanes (vec_len c.args.rests) c.args.lines.now rests ran c.finish_all-lanes.ensures.steps c.requires.lanes in
    let shown : Shows g.K.Opening.opened c.args.book.history c.args.book.list =
    gathers_shown g.D.Disk.may_leave g.D.Disk.faults g.K.Opening.opened c.args.book rests ran c.finish_all-lanes.ensures.steps c.requires.grown c.finish_all-lanes.new.book
    c.finish_all-lanes.ensures.same c.tell.ensures.shown in
    let agrees : Each (Agrees (noted_in c.add_lanes.new.self)) (all_steps ran) =
    subst (λ l. Each (Agrees (noted_in c.add_lanes.new.self)) (all_steps (map (λ v. v.items) l))) c.as_slice.ensures.value c.add_lanes.ensures in
    let grown : HasGrown g.D.Disk.may_leave g.D.Disk.faults g.K.Opening.opened (accepts_in ran) (refuses_in ran) c.args.book =
    gathers_grown g.D.Disk.may_leave g.D.Disk.faults g.K.Opening.opened c.args.book rests ran c.finish_all-lanes.ensures.steps c.requires.grown in
    let same : c.tell.new.self ≡ c.args.book = c.tell.ensures.same ∙ c.finish_all-lanes.ensures.same in
    gathers_room c.history-2.result.now c.args.book.history g.K.Opening.opened.entries c.args.from (length c.args.lines.now) (vec_capacity c.args.joint.marks)
    (c.history-2.ensures.entries ∙ ap (λ (b : BookParts _). b.history) same) c.requires.from.0
    (ran_few g.D.Disk.may_leave g.D.Disk.faults g.K.Opening.opened c.args.book c.args.lines.now (vec_len c.args.rests) ran lanes c.finish_all-lanes.ensures.ended shown c.requires.lines grown
    (noted_in c.add_lanes.new.self) agrees)
    c.requires.marks.1

pub returns : goal.returns
returns g c =
    let ran : List (List Step) = map (λ v. v.items) c.finish_all-lanes.result.items in
    let rests : List (List Step) = map (λ r. r.steps) c.args.rests.items in
    let lanes : HaveLanes (vec_len c.args.rests) c.args.lines.now ran =
    gathers_lanes (vec_len c.args.rests) c.args.lines.now rests ran c.finish_all-lanes.ensures.steps c.requires.lanes in
    let shown : Shows g.K.Opening.opened c.args.book.history c.args.book.list =
    gathers_shown g.D.Disk.may_leave g.D.Disk.faults g.K.Opening.opened c.args.book rests ran c.finish_all-lanes.ensures.steps c.requires.grown c.finish_all-lanes.new.book
    c.finish_all-lanes.ensures.same c.tell.ensures.shown in
    let agrees : Each (Agrees (noted_in c.add_lanes.new.self)) (all_steps ran) =
    subst (λ l. Each (Agrees (noted_in c.add_lanes.new.self)) (all_steps (map (λ v. v.items) l))) c.as_slice.ensures.value c.add_lanes.ensures in
    let grown : HasGrown g.D.Disk.may_leave g.D.Disk.faults g.K.Opening.opened (accepts_in ran) (refuses_in ran) c.args.book =
    gathers_grown g.D.Disk.may_leave g.D.Disk.faults g.K.Opening.opened c.args.book rests ran c.finish_all-lanes.ensures.steps c.requires.grown in
    let same : c.tell.new.self ≡ c.args.book = c.tell.ensures.same ∙ c.finish_all-lanes.ensures.same in
    subst (λ b. EndsOver g.D.Disk.may_leave g.D.Disk.faults g.K.Opening.opened c.args.lines.now
    (Ok (record { from = c.args.from; replies = c.group-replies.result; marks = c.marks_of-marks.result })) b) (sym same)
    (ran_ends g.D.Disk.may_leave g.D.Disk.faults g.K.Opening.opened c.args.book c.args.lines.now (vec_len c.args.rests) ran lanes c.finish_all-lanes.ensures.ended shown c.requires.lines grown
    (noted_in c.add_lanes.new.self) agrees (subst (λ b. IsHistory b.config b.history) same c.history.ensures.legal)
    (record { from = c.args.from; replies = c.group-replies.result; marks = c.marks_of-marks.result }) c.requires.from.0 c.group-replies.ensures.replies
    (c.marks_of-marks.ensures
    ∙ ap (λ (h : List Entry). marks_from (c.args.from + 1) (drop c.args.from h)) (c.history-2.ensures.entries ∙ ap (λ (b : BookParts _). b.history) same)
    ∙ ap (λ (n : ℕ). marks_from (n + 1) (drop n c.args.book.history)) c.requires.from.0))
