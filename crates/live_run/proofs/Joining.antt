-- From lanes that have ended to a live run.
use Rattle.std.proofs.Common.{◌≡◌, ℕ, ◌+◌, ◌-◌, ◌<◌, ◌≤◌, ◌%◌, min, List, [], ◌++◌, length, drop, Ok, sym, ◌∙◌, ap, subst, arith, length-append}
use Rattle.std.proofs.Math.Seq.{drop-append_seam}
use Rattle.emu_names.specs.declared.limits.TheConstants.{HISTORY_EDITS}
use Rattle.emu_names.specs.Count.{RoseBy}
use Rattle.db_config.specs.declared.parts.ConfigParts.{ConfigParts}
use Rattle.edit_rules.specs.declared.acts.Entry.{Entry}
use Rattle.edit_rules.specs.Effects.{IsLegal}
use Rattle.version_gate.specs.declared.entry.Entry.{Entry as Numbered}
use Rattle.live_seats.specs.session_core.declared.line.Line.{Line}
use Rattle.live_seats.specs.session_core.declared.line.Reply.{Reply}
use Rattle.live_seats.specs.session_core.InOrder.{ComeInOrder}
use Rattle.live_seats.specs.session_core.Inner.Kept.{opened_in}
use Rattle.live_seats.specs.session_core.Legal.{IsNamed, Legal, disk_replies, lines_in, replies_in}
use Rattle.live_seats.specs.session_core.Worlds.{Each}
use Rattle.live_seats.proofs.of_session_core.Turns.{each_map}
use Rattle.live_seats.specs.live_book.declared.published.Published.{Published}
use Rattle.live_seats.specs.live_book.Commits.{IsSameBook, has_journal}
use Rattle.live_seats.specs.live_book.Histories.{IsHistory}
use Rattle.live_seats.specs.live_book.Kept.{BookParts, faults_in}
use Rattle.live_seats.specs.live_book.Laws.{ShowsBeginning}
use Rattle.live_seats.specs.live_book.Live.{HasGrown, Opened, Shows, opening_of}
use Rattle.live_seats.proofs.of_live_book.Lists.{lists_begin}
use Rattle.live_seats.specs.live_laws.Lanes.{Agrees, HasKept, Step, accepts, all_steps, all_turns, grouped}
use Rattle.live_seats.proofs.of_live_laws.Grouping.{disks_grouped}
use Rattle.live_seats.proofs.of_live_laws.Homes.{IsWhole, kept_whole}
use Rattle.live_seats.proofs.of_live_laws.Joined.{lanes_legal}
use Rattle.live_run.specs.declared.run.Ended.{Ended}
use Rattle.live_run.specs.Inner.Grouping.{HasRooms, IsPlaced, QueueParts}
use Rattle.live_run.specs.Inner.Running.{EndsOver, HasEnded, HaveLanes, accepts_in, refuses_in}
use Rattle.live_run.specs.Runs.{AreGrouped}
use Rattle.live_run.specs.Inner.Runs.{RunsLive}
use Rattle.live_seats.specs.Marks.{marks_from}
use Rattle.live_seats.specs.Inner.Seats.{IsAsked, KeepsLane, lane_of}
use Rattle.live_run.proofs.Regrouped.{ordered}
use Rattle.live_run.proofs.Wholes.{AreAlike, all_accepted, all_alike, all_named, all_placed, all_refused, each_line, few_accepted, rooms_alike}

-- a seat's list shows a beginning of the history, beside which it keeps what a lane keeps
kept_seat : (o : Opened) (H : List Entry) (list : List (Numbered Published)) → Shows o H list → (steps : List Step) → HasEnded o list steps
    → HasKept o.config (length o.entries) o.stored H steps
kept_seat o H list shown steps ended =
    let part : ShowsBeginning o H ended.seat.list ended.is.number =
    lists_begin o H ended.seat.list list ended.is.number shown ended.begins ended.is.numbered ended.is.past in
    let keeps : KeepsLane o part.beginning ended.seat.looks ended.seat.acts ended.seat.steps = ended.is.keeps part.beginning part.shown in
    subst (λ (l : List Step). HasKept o.config (length o.entries) o.stored H l) ended.lines
    (record { seen = part.beginning; begins = part.begins; looks = opened_in ended.seat.looks; lane = keeps.lane })

-- each session is in one of the lanes
within : (count made : ℕ) (ran : List (List Step)) → length ran ≡ count → made < count → (s : ℕ) → lane_of count made s < length ran
within count made ran number few s =
    let least : min (s % count) made ≤ made = omega arith in
    omega (arith, number, few)

module _ (count : ℕ) (lines : List Line) (ran : List (List Step)) (lanes : HaveLanes count lines ran) where
  -- a lane can answer each line that was answered
  pub ran_asked : (cells : ℕ) → Each (IsAsked cells) lines → Each (IsAsked cells) (lines_in (all_turns ran))
  ran_asked cells each = each_line (IsAsked cells) (lane_of count lanes.made) lines 0 ran each lanes.lanes

  -- each is of one of the sessions
  pub ran_placed : ComeInOrder [] lines → Each IsPlaced (all_turns ran)
  ran_placed come = all_placed (lane_of count lanes.made) lines ran come lanes.lanes

-- Lanes that have ended, beside a history that a list shows.
module _ (o : Opened) (H : List Entry) (list : List (Numbered Published)) (count : ℕ) (lines : List Line) (ran : List (List Step)) (lanes : HaveLanes count lines ran)
    (ended : Each (HasEnded o list) ran) (shown : Shows o H list) where
  ran_kept : Each (HasKept o.config (length o.entries) o.stored H) ran
  ran_kept = each_map (HasEnded o list) (HasKept o.config (length o.entries) o.stored H) (kept_seat o H list shown) ran ended

  ran_whole : Each (IsWhole o.config (length o.entries) o.stored H) ran
  ran_whole = kept_whole o.config (length o.entries) o.stored H ran ran_kept

  -- each reply names its line
  pub ran_named : Each IsNamed (all_turns ran)
  ran_named = all_named o.config (length o.entries) o.stored H lines (lane_of count lanes.made) (λ n. n) ran ran_whole

  module _ (value : ℕ → ℕ) (agrees : Each (Agrees value) (all_steps ran)) where
    ran_alike : AreAlike (lines_in (all_turns ran)) lines
    ran_alike =
        all_alike o.config (length o.entries) o.stored H lines (lane_of count lanes.made) value ran lanes.lanes ran_whole agrees
        (within count lanes.made ran lanes.number lanes.few)

    -- the room for the replies to the lines serves
    pub ran_rooms : (queues : List QueueParts) (joined : QueueParts) → HasRooms lines queues joined → HasRooms (lines_in (all_turns ran)) queues joined
    ran_rooms queues joined rooms = rooms_alike (lines_in (all_turns ran)) lines queues joined ran_alike rooms

    -- no more edits are accepted than there are lines
    few_accepts : ComeInOrder [] lines → accepts_in ran ≤ length lines
    few_accepts come =
        let few : accepts (all_turns ran) ≤ length lines = few_accepted (all_turns ran) lines (ran_placed count lines ran lanes come) ran_alike in
        let all : accepts (all_turns ran) ≡ accepts_in ran = all_accepted ran in
        omega arith

-- The end of a live run: the settled book, of which the lanes tell how it has grown since the opening.
module _ {D : Type 0} (may_leave : D → List ℕ → Type 0) (faults : D → ℕ) (o : Opened) (book : BookParts D) (lines : List Line) (count : ℕ) (ran : List (List Step))
    (lanes : HaveLanes count lines ran) (ended : Each (HasEnded o book.list) ran) (shown : Shows o book.history book.list) (come : ComeInOrder [] lines)
    (grown : HasGrown may_leave faults o (accepts_in ran) (refuses_in ran) book) where
  -- the new entries are no more than the lines
  pub ran_few : (value : ℕ → ℕ) → Each (Agrees value) (all_steps ran) → length book.history - length o.entries ≤ length lines
  ran_few value agrees =
      let few : accepts_in ran ≤ length lines = few_accepts o book.history book.list count lines ran lanes ended shown value agrees come in
      let many : length grown.more ≡ accepts_in ran = grown.count in
      let long : length book.history ≡ length o.entries + length grown.more =
      ap (λ (l : List Entry). length l) grown.history ∙ length-append o.entries grown.more in
      omega arith

  module _ (value : ℕ → ℕ) (agrees : Each (Agrees value) (all_steps ran)) (history : IsHistory book.config book.history) where
    legal_run : Legal o.config o.entries lines (replies_in (grouped (all_turns ran))) (o.entries ++ grown.more) o.stored o.faults (faults_in faults book.journal)
    legal_run =
        lanes_legal o.config o.entries grown.more lines (lane_of count lanes.made) ran value o.stored o.faults (faults_in faults book.journal)
        (subst (λ (H : List Entry). IsLegal o.config H) grown.history (subst (λ (c : ConfigParts). IsLegal c book.history) grown.config history.legal))
        (subst (λ (H : List Entry). length H ≤ HISTORY_EDITS) grown.history history.few)
        come (within count lanes.made ran lanes.number lanes.few) lanes.lanes
        (subst (λ (H : List Entry). Each (HasKept o.config (length o.entries) o.stored H) ran) grown.history
        (ran_kept o book.history book.list count lines ran lanes ended shown))
        agrees (all_accepted ran ∙ sym grown.count)
        (subst (λ (k : ℕ). RoseBy k o.faults (faults_in faults book.journal)) (sym (all_refused ran)) grown.rose)

    -- as many replies are that the disk failed as the shares count
    disks : disk_replies (replies_in (grouped (all_turns ran))) ≡ refuses_in ran
    disks = disks_grouped (all_turns ran) (ran_placed count lines ran lanes come) ∙ all_refused ran

    module _ (result : Ended) (from : result.from ≡ length o.entries) (replies : result.replies ≡ replies_in (grouped (all_turns ran)))
        (marks : result.marks ≡ marks_from (length o.entries + 1) (drop (length o.entries) book.history)) where
      -- the replies are legal beside the book's history
      legal_replies : Legal o.config o.entries lines result.replies book.history o.stored o.faults (faults_in faults book.journal)
      legal_replies =
          subst (λ (rs : List Reply). Legal o.config o.entries lines rs book.history o.stored o.faults (faults_in faults book.journal)) (sym replies)
          (subst (λ (H : List Entry). Legal o.config o.entries lines (replies_in (grouped (all_turns ran))) H o.stored o.faults (faults_in faults book.journal))
          (sym grown.history) legal_run)

      grouped_replies : AreGrouped result.replies
      grouped_replies =
          subst (λ (rs : List Reply). AreGrouped rs) (sym replies)
          (ordered (all_turns ran) (ran_named o book.history book.list count lines ran lanes ended shown) (ran_placed count lines ran lanes come))

      more_marks : result.marks ≡ marks_from (length o.entries + 1) grown.more
      more_marks =
          marks ∙ ap (λ (H : List Entry). marks_from (length o.entries + 1) (drop (length o.entries) H)) grown.history
          ∙ ap (λ (l : List Entry). marks_from (length o.entries + 1) l) (drop-append_seam o.entries grown.more)

      no_refusal : disk_replies result.replies ≡ 0 → refuses_in ran ≡ 0
      no_refusal none = sym disks ∙ ap (λ (rs : List Reply). disk_replies rs) (sym replies) ∙ none

      same_book : (old : BookParts D) → o ≡ opening_of faults old → IsSameBook old book
      same_book old opening = record {
        config = subst (λ (p : Opened). book.config ≡ p.config) opening grown.config;
        opened = subst (λ (p : Opened). book.opened ≡ p.from) opening grown.from;
        gate = subst (λ (p : Opened). book.gate ≡ p.gate) opening grown.gate;
        stored = subst (λ (p : Opened). has_journal book.journal ≡ p.stored) opening grown.stored;
      }

      runs_live : (old : BookParts D) → o ≡ opening_of faults old → RunsLive may_leave faults old lines result book
      runs_live old opening = record {
        from = subst (λ (p : Opened). result.from ≡ length p.entries) opening from;
        legal = subst (λ (p : Opened). Legal p.config p.entries lines result.replies book.history p.stored p.faults (faults_in faults book.journal)) opening legal_replies;
        order = grouped_replies;
        more = grown.more;
        prefix = subst (λ (p : Opened). book.history ≡ p.entries ++ grown.more) opening grown.history;
        marks = subst (λ (p : Opened). result.marks ≡ marks_from (length p.entries + 1) grown.more) opening more_marks;
        in_doubt = λ none. grown.in_doubt (no_refusal none);
      }

      -- the lines were run
      pub ran_ends : EndsOver may_leave faults o lines (Ok result) book
      ran_ends old opening = (same_book old opening, runs_live old opening)
