-- The lane of a session: all turns of the session stand there, in the order of its lines.
use Rattle.std.proofs.Common.{◌≡◌, ◌≢◌, ⊎_elim, ℕ, suc, ◌+◌, ◌<◌, ◌≤◌, Bool, true, false, cond, List, [], ◌∷◌, ◌++◌, length, Option, refl, sym, ◌∙◌, ap, subst, arith, eqb-true, eq-eqb}
use Rattle.std.proofs.lemmas.Bool.{both_ways, cases_eq, ne_eqb}
use Rattle.std.proofs.lemmas.List.{append-nil, map-append}
use Rattle.std.proofs.lemmas.List.Elements.{filter-append}
use Rattle.db_config.specs.declared.parts.ConfigParts.{ConfigParts}
use Rattle.edit_rules.specs.declared.acts.Entry.{Entry}
use Rattle.session_core.specs.declared.line.Line.{Line}
use Rattle.session_core.specs.Steps.{Opened, session_places}
use Rattle.session_core.specs.Worlds.{Turn, Each}
use Rattle.session_core.specs.Legal.{is_line_of, is_of, lines_in, lines_of_session, of_session}
use Rattle.session_core.proofs.Turns.{each_filter, each_map, each_of_map}
use Rattle.live_laws.specs.Lanes.{Agrees, AreLanes, HasKept, IsLane, Step, all_steps, all_turns, is_in_lane, lane_lines, turns_of}
use Rattle.live_laws.proofs.Eaches.{each_left, each_right, filter_passes}
use Rattle.live_laws.proofs.Grouping.{none_of}
use Rattle.live_laws.proofs.Steps.{sees_more}

-- a lane kept what a lane keeps, beside the whole history
pub record IsWhole (c : ConfigParts) (m : ℕ) (store : Bool) (H : List Entry) (steps : List Step) : Type 0 where
  pub looks : List (Option Opened)
  pub lane : IsLane c m store H looks steps

pub kept_whole : (c : ConfigParts) (m : ℕ) (store : Bool) (H : List Entry) (ran : List (List Step)) → Each (HasKept c m store H) ran → Each (IsWhole c m store H) ran
kept_whole c m store H ran kept =
    each_map (HasKept c m store H) (IsWhole c m store H)
    (λ steps is. record { looks = is.looks; lane = sees_more c m store is.seen H is.looks steps is.lane is.begins }) ran kept

-- The lines of a session.

lines_cond : (b : Bool) (t : Turn) (rest : List Turn) (ls : List Line) → lines_in rest ≡ ls → lines_in (cond b (t ∷ rest) rest) ≡ cond b (t.line ∷ ls) ls
lines_cond true t rest ls same = ap (λ (ks : List Line). t.line ∷ ks) same
lines_cond false t rest ls same = same

lines_of : (s : ℕ) (ts : List Turn) → lines_in (of_session s ts) ≡ lines_of_session s (lines_in ts)
lines_of s [] = refl
lines_of s (t ∷ ts) = lines_cond (is_of s t) t (of_session s ts) (lines_of_session s (lines_in ts)) (lines_of s ts)

module _ (lane_of : ℕ → ℕ) (s : ℕ) where
  not_own : (l : Line) → is_in_lane lane_of (lane_of s) l ≡ false → is_line_of s l ≡ false
  not_own l is = ne_eqb l.session.0 s (λ same. both_ways (is_in_lane lane_of (lane_of s) l) is (eq-eqb (lane_of l.session.0) (lane_of s) (ap lane_of same)))

  own_step : (b : Bool) (l : Line) (kept ls : List Line) → is_in_lane lane_of (lane_of s) l ≡ b → lines_of_session s kept ≡ lines_of_session s ls
      → lines_of_session s (cond b (l ∷ kept) kept) ≡ lines_of_session s (l ∷ ls)
  own_step true l kept ls is same = ap (λ (ks : List Line). cond (is_line_of s l) (l ∷ ks) ks) same
  own_step false l kept ls is same = same ∙ ap (λ b. cond b (l ∷ lines_of_session s ls) (lines_of_session s ls)) (sym (not_own l is))

  own_lines : (ls : List Line) → lines_of_session s (lane_lines lane_of (lane_of s) ls) ≡ lines_of_session s ls
  own_lines [] = refl
  own_lines (l ∷ ls) = own_step (is_in_lane lane_of (lane_of s) l) l (lane_lines lane_of (lane_of s) ls) ls refl (own_lines ls)

-- All lanes but that of a session.

split_turns : (s : ℕ) (steps : List Step) (ran : List (List Step)) → of_session s (all_turns (steps ∷ ran)) ≡ of_session s (turns_of steps) ++ of_session s (all_turns ran)
split_turns s steps ran =
    ap (λ (ts : List Turn). of_session s ts) (map-append (λ (st : Step). st.turn) steps (all_steps ran)) ∙ filter-append (is_of s) (turns_of steps) (all_turns ran)

module _ (lane_of : ℕ → ℕ) (script : List Line) (s : ℕ) where
  away : (k : ℕ) (steps : List Step) → lines_in (turns_of steps) ≡ lane_lines lane_of k script → k ≢ lane_of s → of_session s (turns_of steps) ≡ []
  away k steps lines ne =
      none_of s (turns_of steps)
      (each_map (λ (t : Turn). is_in_lane lane_of k t.line ≡ true) (λ t. t.line.session.0 ≢ s)
      (λ t is same. ne (sym (eqb-true (lane_of t.line.session.0) k is) ∙ ap lane_of same)) (turns_of steps)
      (each_of_map (λ l. is_in_lane lane_of k l ≡ true) (λ (t : Turn). t.line) (turns_of steps)
      (subst (λ (ls : List Line). Each (λ l. is_in_lane lane_of k l ≡ true) ls) (sym lines) (filter_passes (is_in_lane lane_of k) script))))

  none_later : (k : ℕ) (ran : List (List Step)) → AreLanes lane_of script k ran → lane_of s < k → of_session s (all_turns ran) ≡ []
  none_later k [] lanes past = refl
  none_later k (steps ∷ ran) lanes past =
      let ne : k ≢ lane_of s = λ same. absurd (omega arith) in
      let next : lane_of s < suc k = omega arith in
      split_turns s steps ran
      ∙ ap (λ (ts : List Turn). ts ++ of_session s (all_turns ran)) (away k steps lanes.0 ne)
      ∙ none_later (suc k) ran lanes.1 next

-- a session's lane, whose turns of the session are those of all lanes
pub record HasHome (c : ConfigParts) (m : ℕ) (store : Bool) (H : List Entry) (script : List Line) (lane_of value : ℕ → ℕ) (turns : List Turn) (s : ℕ) : Type 0 where
  pub steps : List Step
  pub looks : List (Option Opened)
  pub lane : IsLane c m store H looks steps
  pub lines : lines_in (turns_of steps) ≡ lane_lines lane_of (lane_of s) script
  pub agrees : Each (Agrees value) steps
  pub same : of_session s turns ≡ of_session s (turns_of steps)

module _ (c : ConfigParts) (m : ℕ) (store : Bool) (H : List Entry) (script : List Line) (lane_of value : ℕ → ℕ) where
  home_here : (k : ℕ) (steps : List Step) (ran : List (List Step)) (s : ℕ) → AreLanes lane_of script k (steps ∷ ran) → IsWhole c m store H steps → Each (Agrees value) (all_steps (steps ∷ ran))
      → k ≡ lane_of s → HasHome c m store H script lane_of value (all_turns (steps ∷ ran)) s
  home_here k steps ran s lanes whole agrees here =
      let past : lane_of s < suc k = omega arith in
      record {
        steps = steps;
        looks = whole.looks;
        lane = whole.lane;
        lines = lanes.0 ∙ ap (λ (lane : ℕ). lane_lines lane_of lane script) here;
        agrees = each_left (Agrees value) steps (all_steps ran) agrees;
        same =
            split_turns s steps ran
            ∙ ap (λ (ts : List Turn). of_session s (turns_of steps) ++ ts) (none_later lane_of script s (suc k) ran lanes.1 past)
            ∙ append-nil (of_session s (turns_of steps));
      }

  -- the same of other turns, where those of the session are the same
  pub home_same : (turns others : List Turn) (s : ℕ) → of_session s others ≡ of_session s turns
      → HasHome c m store H script lane_of value turns s → HasHome c m store H script lane_of value others s
  home_same turns others s same home = record {
    steps = home.steps;
    looks = home.looks;
    lane = home.lane;
    lines = home.lines;
    agrees = home.agrees;
    same = same ∙ home.same;
  }

  home_there : (k : ℕ) (steps : List Step) (ran : List (List Step)) (s : ℕ) → AreLanes lane_of script k (steps ∷ ran) → k ≢ lane_of s
      → HasHome c m store H script lane_of value (all_turns ran) s → HasHome c m store H script lane_of value (all_turns (steps ∷ ran)) s
  home_there k steps ran s lanes ne home =
      home_same (all_turns ran) (all_turns (steps ∷ ran)) s
      (split_turns s steps ran ∙ ap (λ (ts : List Turn). ts ++ of_session s (all_turns ran)) (away lane_of script s k steps lanes.0 ne)) home

  home_from : (k : ℕ) (ran : List (List Step)) (s : ℕ) → AreLanes lane_of script k ran → Each (IsWhole c m store H) ran → Each (Agrees value) (all_steps ran)
      → k ≤ lane_of s → lane_of s < k + length ran → HasHome c m store H script lane_of value (all_turns ran) s
  home_from k [] s lanes whole agrees low high = absurd (omega arith)
  home_from k (steps ∷ ran) s lanes whole agrees low high =
      ⊎_elim
      (λ here. home_here k steps ran s lanes whole.0 agrees here)
      (λ ne.
      let next : suc k ≤ lane_of s = omega arith in
      let rest : lane_of s < suc k + length ran = omega arith in
      home_there k steps ran s lanes ne
      (home_from (suc k) ran s lanes.1 whole.1 (each_right (Agrees value) steps (all_steps ran) agrees) next rest))
      (cases_eq k (lane_of s))

  pub home : (ran : List (List Step)) (s : ℕ) → AreLanes lane_of script 0 ran → Each (IsWhole c m store H) ran → Each (Agrees value) (all_steps ran)
      → lane_of s < length ran → HasHome c m store H script lane_of value (all_turns ran) s
  home ran s lanes whole agrees high = home_from 0 ran s lanes whole agrees (omega arith) (omega arith)

  -- a session's turns answer its lines in their order
  pub in_order : (turns : List Turn) (s : ℕ) → HasHome c m store H script lane_of value turns s → lines_in (of_session s turns) ≡ lines_of_session s script
  in_order turns s home =
      ap (λ (ts : List Turn). lines_in ts) home.same
      ∙ lines_of s (turns_of home.steps)
      ∙ ap (λ (ls : List Line). lines_of_session s ls) home.lines
      ∙ own_lines lane_of s script

-- The sessions of lines are those of turns.

pub steps_placed : (lane_of : ℕ → ℕ) (script : List Line) (k : ℕ) (ran : List (List Step)) → Each (λ (l : Line). l.session.0 < session_places) script → AreLanes lane_of script k ran
    → Each (λ (steps : List Step). Each (λ (t : Turn). t.line.session.0 < session_places) (turns_of steps)) ran
steps_placed lane_of script k [] placed lanes = tt
steps_placed lane_of script k (steps ∷ ran) placed lanes = (
  each_of_map (λ (l : Line). l.session.0 < session_places) (λ (t : Turn). t.line) (turns_of steps)
      (subst (λ (ls : List Line). Each (λ (l : Line). l.session.0 < session_places) ls) (sym lanes.0)
      (each_filter (λ (l : Line). l.session.0 < session_places) (is_in_lane lane_of k) script placed)),
  steps_placed lane_of script (suc k) ran placed lanes.1,
)
