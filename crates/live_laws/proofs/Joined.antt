-- Lanes that have ended make a legal run.
use Rattle.std.proofs.Common.{◌≡◌, ℕ, ◌<◌, Bool, List, [], ◌++◌, length, None, refl, sym, ◌∙◌, subst}
use Rattle.db_config.specs.declared.parts.ConfigParts.{ConfigParts}
use Rattle.edit_rules.specs.declared.acts.Entry.{Entry}
use Rattle.edit_rules.specs.Effects.{IsLegal}
use Rattle.emu_names.specs.Count.{RoseBy}
use Rattle.session_core.specs.declared.line.Line.{Line}
use Rattle.session_core.specs.InOrder.{ComeInOrder}
use Rattle.session_core.specs.Steps.{session_places}
use Rattle.session_core.specs.Worlds.{Turn, Each}
use Rattle.session_core.specs.Legal.{HasSeenTurn, IsNamed, IsRightTurn, KeepsSession, Legal, LooksFit, NeverFalls, UndosFit, accepted, accepting, disk_replies, is_line_of, of_session, replies_in}
use Rattle.session_core.proofs.Turns.{each_map, each_of_map, each_to_map}
use Rattle.live_laws.specs.Lanes.{Agrees, AreLanes, HasHeardStep, IsPast, Step, accepts, all_steps, all_turns, grouped, turns_of}
use Rattle.live_laws.specs.Laws.{LanesAreLegal}
use Rattle.live_laws.proofs.Eaches.{each_both, each_flat}
use Rattle.live_laws.proofs.Grouping.{IsBefore, accepts_grouped, disks_grouped, each_grouped, of_grouped}
use Rattle.live_laws.proofs.Heard.{step_seen}
use Rattle.live_laws.proofs.Homes.{HasHome, IsWhole, home, home_same, in_order, kept_whole, steps_placed}
use Rattle.live_laws.proofs.Marks.{TurnsApart, accepted_each, each_accepted, one_entry}
use Rattle.live_laws.proofs.Rising.{Rises, come_placed, come_rising, grouped_apart, rises_filter, rising_apart}

-- what holds of each step of each lane holds of each turn
all_of : (P : Turn → Type 0) (ran : List (List Step)) → Each (λ (steps : List Step). Each P (turns_of steps)) ran → Each P (all_turns ran)
all_of P ran each =
    each_to_map P (λ (st : Step). st.turn) (all_steps ran)
    (each_flat (λ (st : Step). P st.turn) ran
    (each_map (λ (steps : List Step). Each P (turns_of steps)) (λ (steps : List Step). Each (λ (st : Step). P st.turn) steps)
    (λ steps is. each_of_map P (λ (st : Step). st.turn) steps is) ran each))

module _ (c : ConfigParts) (opening more : List Entry) (script : List Line) (lane_of : ℕ → ℕ) (ran : List (List Step)) (value : ℕ → ℕ) (store : Bool)
    (come : ComeInOrder [] script) (lanes : AreLanes lane_of script 0 ran) (whole : Each (IsWhole c (length opening) store (opening ++ more)) ran)
    (agrees : Each (Agrees value) (all_steps ran)) (within : (s : ℕ) → lane_of s < length ran) where
  abbrev Holds : (Turn → Type 0) → Type 0
  Holds P = (steps : List Step) → IsWhole c (length opening) store (opening ++ more) steps → Each P (turns_of steps)

  each_turn : (P : Turn → Type 0) → Holds P → Each P (all_turns ran)
  each_turn P holds =
      all_of P ran (each_map (IsWhole c (length opening) store (opening ++ more)) (λ (steps : List Step). Each P (turns_of steps)) holds ran whole)

  placed : Each (IsBefore session_places) (all_turns ran)
  placed = all_of (IsBefore session_places) ran (steps_placed lane_of script 0 ran (come_placed [] script come) lanes)

  rises : Rises script
  rises = come_rising [] script come

  home_of : (s : ℕ) → HasHome c (length opening) store (opening ++ more) script lane_of value (all_turns ran) s
  home_of s = home c (length opening) store (opening ++ more) script lane_of value ran s lanes whole agrees (within s)

  grouped_home : (s : ℕ) → HasHome c (length opening) store (opening ++ more) script lane_of value (grouped (all_turns ran)) s
  grouped_home s =
      home_same c (length opening) store (opening ++ more) script lane_of value (all_turns ran) (grouped (all_turns ran)) s
      (of_grouped s (all_turns ran) placed) (home_of s)

  session_kept : (s : ℕ) → KeepsSession c (length opening) (opening ++ more) store script (grouped (all_turns ran)) s
  session_kept s =
      let own : HasHome c (length opening) store (opening ++ more) script lane_of value (grouped (all_turns ran)) s = grouped_home s in
      record {
        in_order = in_order c (length opening) store (opening ++ more) script lane_of value (grouped (all_turns ran)) s own;
        never_falls = subst (λ (ts : List Turn). NeverFalls (length opening) ts) (sym own.same) (own.lane.sessions s).never_falls;
        looks = subst (λ (ts : List Turn). LooksFit c (opening ++ more) None ts) (sym own.same) (own.lane.sessions s).looks;
        undos = subst (λ (ts : List Turn). UndosFit c (opening ++ more) store [] ts) (sym own.same) (own.lane.sessions s).undos;
      }

  own_apart : (s : ℕ) → TurnsApart (of_session s (all_turns ran))
  own_apart s =
      rising_apart (of_session s (all_turns ran))
      (subst (λ (ls : List Line). Rises ls) (sym (in_order c (length opening) store (opening ++ more) script lane_of value (all_turns ran) s (home_of s)))
      (rises_filter (is_line_of s) script rises))

  turns_apart : TurnsApart (grouped (all_turns ran))
  turns_apart = grouped_apart 0 session_places (all_turns ran) own_apart

  named : Each IsNamed (grouped (all_turns ran))
  named = each_grouped IsNamed 0 session_places (all_turns ran) (each_turn IsNamed (λ steps is. is.lane.named))

  right : Each (IsRightTurn c (length opening) (opening ++ more) store) (grouped (all_turns ran))
  right =
      each_grouped (IsRightTurn c (length opening) (opening ++ more) store) 0 session_places (all_turns ran)
      (each_turn (IsRightTurn c (length opening) (opening ++ more) store) (λ steps is. is.lane.right))

  -- an acceptance is of a new entry
  abbrev IsFresh : Turn → Type 0
  IsFresh t = Each (IsPast (length opening)) (accepting t.line t.line.request t.reply.n t.reply.answer)

  fresh : Each (IsPast (length opening)) (accepted (grouped (all_turns ran)))
  fresh =
      each_accepted (IsPast (length opening)) (grouped (all_turns ran))
      (each_grouped IsFresh 0 session_places (all_turns ran)
      (each_turn IsFresh (λ steps is. accepted_each (IsPast (length opening)) (turns_of steps) is.lane.fresh)))

  -- what holds of a step in its lane
  abbrev IsStepThere : Step → Type 0
  IsStepThere st = IsRightTurn c (length opening) (opening ++ more) store st.turn × HasHeardStep st

  steps_there : Each IsStepThere (all_steps ran)
  steps_there =
      each_flat IsStepThere ran
      (each_map (IsWhole c (length opening) store (opening ++ more)) (λ (steps : List Step). Each IsStepThere steps)
      (λ steps is. each_both (λ (st : Step). IsRightTurn c (length opening) (opening ++ more) store st.turn) HasHeardStep steps
      (each_of_map (IsRightTurn c (length opening) (opening ++ more) store) (λ (st : Step). st.turn) steps is.lane.right) is.lane.heard)
      ran whole)

  seen_there : Each (HasSeenTurn (length opening) (grouped (all_turns ran))) (grouped (all_turns ran))
  seen_there =
      each_grouped (HasSeenTurn (length opening) (grouped (all_turns ran))) 0 session_places (all_turns ran)
      (each_to_map (HasSeenTurn (length opening) (grouped (all_turns ran))) (λ (st : Step). st.turn) (all_steps ran)
      (each_map (λ (st : Step). IsStepThere st × Agrees value st) (λ (st : Step). HasSeenTurn (length opening) (grouped (all_turns ran)) st.turn)
      (λ st is. step_seen c (length opening) store (opening ++ more) script lane_of value (grouped (all_turns ran)) rises grouped_home st is.0.0 is.0.1 is.1)
      (all_steps ran) (each_both IsStepThere (Agrees value) (all_steps ran) steps_there agrees)))

  joined : (before now : ℕ) → IsLegal c (opening ++ more) → accepts (all_turns ran) ≡ length more → RoseBy (disk_replies (replies_in (all_turns ran))) before now
      → Legal c opening script (replies_in (grouped (all_turns ran))) (opening ++ more) store before now
  joined before now legal count rose = record {
    more = more;
    prefix = refl;
    legal = legal;
    turns = grouped (all_turns ran);
    replied = refl;
    sessions = session_kept;
    whole = record {
      named = named;
      one_entry = one_entry c opening more store (grouped (all_turns ran)) right fresh turns_apart (accepts_grouped (all_turns ran) placed ∙ count);
      right = right;
      seen_there = seen_there;
      disk = subst (λ (k : ℕ). RoseBy k before now) (sym (disks_grouped (all_turns ran) placed)) rose;
    };
  }

pub lanes_legal : LanesAreLegal
lanes_legal c opening more lines lane_of ran value store before now legal most come within lanes kept agrees count rose =
    joined c opening more lines lane_of ran value store come lanes
    (kept_whole c (length opening) store (opening ++ more) ran kept) agrees within before now legal count rose
