-- What an `after` has heard is at least what its line's session had seen.
use Rattle.std.proofs.Common.{◌≡◌, ⊎_elim, ℕ, ◌≤◌, ◌<◌, Bool, true, false, cond, ◌&&◌, List, [], ◌∷◌, length, Option, Some, None, nat_eq, nat_le, refl, sym, ◌∙◌, ap, subst, arith, eqb-true, eq-eqb}
use Rattle.std.proofs.lemmas.Bool.{and_left, false≢true, leb-true, or_cases, or_left, or_right}
use Rattle.std.proofs.lemmas.Option.{none-some, same_Some}
use Rattle.std.proofs.Math.Nat.{max-le}
use Rattle.db_config.specs.declared.parts.ConfigParts.{ConfigParts}
use Rattle.edit_rules.specs.declared.acts.Entry.{Entry}
use Rattle.session_core.specs.declared.line.Answer.{Answer}
use Rattle.session_core.specs.declared.line.Line.{Line}
use Rattle.session_core.specs.declared.line.Request.{Request}
use Rattle.session_core.specs.declared.line.Request.TheVariants as requests
use Rattle.session_core.specs.Worlds.{Turn, Each, is_answered}
use Rattle.session_core.specs.Legal.{HasSeen, HasSeenTurn, IsRight, IsRightTurn, is_of, lines_in, number_or, of_session, seen_by, seen_in, session_of}
use Rattle.session_core.proofs.Turns.{each_map, each_of_map, each_to_map}
use Rattle.live_laws.specs.Lanes.{Agrees, AreNoted, HasHeard, HasHeardStep, IsUpTo, Step, is_in_lane, turns_of}
use Rattle.live_laws.proofs.Homes.{HasHome}
use Rattle.live_laws.proofs.Rising.{IsLater, Rises, rises_filter}

up_more : (low high : ℕ) (n : Option ℕ) → low ≤ high → IsUpTo low n → IsUpTo high n
up_more low high None up to = tt
up_more low high (Some n) up to = let le : n ≤ low = to in omega arith

-- A lane: the numbers up to a line are at most what was noted for it.

module _ (value : ℕ → ℕ) (line : ℕ) where
  own_value : (st : Step) → Agrees value st → nat_eq st.turn.line.line line ≡ true → st.noted ≡ value line
  own_value st agrees is = agrees.noted ∙ ap value (eqb-true st.turn.line.line line is)

  noted_answered : (low high : ℕ) (steps : List Step) → AreNoted low high steps → Each (Agrees value) steps → is_answered line (turns_of steps) ≡ true → low ≤ value line
  noted_answered low high [] noted agrees known = absurd (false≢true known)
  noted_answered low high (st ∷ steps) noted agrees known =
      let first : low ≤ st.noted = noted.0 in
      ⊎_elim
      (λ here. let same : st.noted ≡ value line = own_value st agrees.0 here in omega arith)
      (λ there. let rest : st.noted ≤ value line = noted_answered st.noted high steps noted.2 agrees.1 there in omega arith)
      (or_cases (nat_eq st.turn.line.line line) (is_answered line (turns_of steps)) known)

  -- up to the line, a step's number is at most what was noted for the line
  abbrev IsUpToLine : Step → Type 0
  IsUpToLine st = st.turn.line.line ≤ line → IsUpTo (value line) st.turn.reply.n

  none_up_to : (st : Step) (steps : List Step) → nat_eq st.turn.line.line line ≡ true → Each (IsLater st.turn.line.line) (lines_in (turns_of steps)) → Each IsUpToLine steps
  none_up_to st steps is later =
      let same : st.turn.line.line ≡ line = eqb-true st.turn.line.line line is in
      each_map (λ (u : Step). IsLater st.turn.line.line u.turn.line) IsUpToLine
      (λ u past up. let low : st.turn.line.line < u.turn.line.line = past in absurd (omega arith)) steps
      (each_of_map (λ (t : Turn). IsLater st.turn.line.line t.line) (λ (u : Step). u.turn) steps
      (each_of_map (IsLater st.turn.line.line) (λ (t : Turn). t.line) (turns_of steps) later))

  up_to_line : (low high : ℕ) (steps : List Step) → Rises (lines_in (turns_of steps)) → AreNoted low high steps → Each (Agrees value) steps
      → is_answered line (turns_of steps) ≡ true → Each IsUpToLine steps
  up_to_line low high [] rises noted agrees known = tt
  up_to_line low high (st ∷ steps) rises noted agrees known =
      ⊎_elim
      (λ here.
      let same : st.noted ≡ value line = own_value st agrees.0 here in
      let up : st.noted ≤ value line = omega arith in
      ((λ le. up_more st.noted (value line) st.turn.reply.n up noted.1), none_up_to st steps here rises.0))
      (λ there.
      let up : st.noted ≤ value line = noted_answered st.noted high steps noted.2 agrees.1 there in
      ((λ le. up_more st.noted (value line) st.turn.reply.n up noted.1), up_to_line st.noted high steps rises.1 noted.2 agrees.1 there))
      (or_cases (nat_eq st.turn.line.line line) (is_answered line (turns_of steps)) known)

-- What a session had seen up to a line.

seen_step : (a b : Bool) (k high : ℕ) (n : Option ℕ) → k ≤ high → (b ≡ true → IsUpTo high n) → cond (a && b) (number_or k n) k ≤ high
seen_step false b k high n low to = low
seen_step true false k high n low to = low
seen_step true true k high None low to = low
seen_step true true k high (Some n) low to = max-le low (to refl)

seen_to : (m s line high : ℕ) (ts : List Turn) → m ≤ high → Each (λ t. t.line.line ≤ line → IsUpTo high t.reply.n) ts → seen_by m s line ts ≤ high
seen_to m s line high [] from to = from
seen_to m s line high (t ∷ ts) from to =
    seen_step (nat_eq t.line.session.0 s) (nat_le t.line.line line) (seen_by m s line ts) high t.reply.n (seen_to m s line high ts from to.1)
    (λ is. to.0 (leb-true t.line.line line is))

seen_own_step : (m s line : ℕ) (t : Turn) (ts rest : List Turn) (b : Bool) → is_of s t ≡ b → seen_by m s line ts ≡ seen_by m s line rest
    → seen_by m s line (t ∷ ts) ≡ seen_by m s line (cond b (t ∷ rest) rest)
seen_own_step m s line t ts rest true is same = ap (λ (k : ℕ). cond (nat_eq t.line.session.0 s && nat_le t.line.line line) (number_or k t.reply.n) k) same
seen_own_step m s line t ts rest false is same =
    ap (λ b. cond b (number_or (seen_by m s line ts) t.reply.n) (seen_by m s line ts)) (and_left (nat_eq t.line.session.0 s) (nat_le t.line.line line) is) ∙ same

seen_own : (m s line : ℕ) (ts : List Turn) → seen_by m s line ts ≡ seen_by m s line (of_session s ts)
seen_own m s line [] = refl
seen_own m s line (t ∷ ts) = seen_own_step m s line t ts (of_session s ts) (is_of s t) refl (seen_own m s line ts)

-- Where a line was answered.

answered_cond : (line : ℕ) (b : Bool) (t : Turn) (rest : List Turn) → is_answered line rest ≡ true → is_answered line (cond b (t ∷ rest) rest) ≡ true
answered_cond line true t rest known = or_right (nat_eq t.line.line line) (is_answered line rest) known
answered_cond line false t rest known = known

found_step : (line s : ℕ) (t : Turn) (ts : List Turn) (b : Bool) → nat_eq t.line.line line ≡ b → cond b (Some t.line.session.0) (session_of line ts) ≡ Some s
    → (session_of line ts ≡ Some s → is_answered line (of_session s ts) ≡ true) → is_answered line (of_session s (t ∷ ts)) ≡ true
found_step line s t ts true is found rest =
    let same : t.line.session.0 ≡ s = same_Some t.line.session.0 s found in
    subst (λ b. is_answered line (cond b (t ∷ of_session s ts) (of_session s ts)) ≡ true) (sym (eq-eqb t.line.session.0 s same))
    (or_left (nat_eq t.line.line line) (is_answered line (of_session s ts)) is)
found_step line s t ts false is found rest = answered_cond line (is_of s t) t (of_session s ts) (rest found)

found_own : (line s : ℕ) (ts : List Turn) → session_of line ts ≡ Some s → is_answered line (of_session s ts) ≡ true
found_own line s [] found = absurd (none-some s found)
found_own line s (t ∷ ts) found = found_step line s t ts (nat_eq t.line.line line) refl found (λ rest. found_own line s ts rest)

kept_answered : (line : ℕ) (b : Bool) (t : Turn) (kept ts : List Turn) → is_answered line (cond b (t ∷ kept) kept) ≡ true → (is_answered line kept ≡ true → is_answered line ts ≡ true)
    → is_answered line (t ∷ ts) ≡ true
kept_answered line true t kept ts known rest =
    ⊎_elim
    (λ here. or_left (nat_eq t.line.line line) (is_answered line ts) here)
    (λ there. or_right (nat_eq t.line.line line) (is_answered line ts) (rest there))
    (or_cases (nat_eq t.line.line line) (is_answered line kept) known)
kept_answered line false t kept ts known rest = or_right (nat_eq t.line.line line) (is_answered line ts) (rest known)

own_answered : (line s : ℕ) (ts : List Turn) → is_answered line (of_session s ts) ≡ true → is_answered line ts ≡ true
own_answered line s [] known = absurd (false≢true known)
own_answered line s (t ∷ ts) known = kept_answered line (is_of s t) t (of_session s ts) ts known (λ rest. own_answered line s ts rest)

-- What an `after` has seen.

-- a number, where there is one, is at least this
abbrev IsAtLeast : ℕ → Option ℕ → Type 0
IsAtLeast m None = Unit {0}
IsAtLeast m (Some n) = m ≤ n

right_from : (c : ConfigParts) (m : ℕ) (H : List Entry) (store : Bool) (l : Line) (n : Option ℕ) (answer : Answer) → IsRight c m H store l n answer → IsAtLeast m n
right_from c m H store l None answer right = tt
right_from c m H store l (Some n) answer right = right.0

module _ (c : ConfigParts) (m : ℕ) (store : Bool) (H : List Entry) (script : List Line) (lane_of value : ℕ → ℕ) (turns : List Turn) (rises : Rises script)
    (homes : (s : ℕ) → HasHome c m store H script lane_of value turns s) where
  lane_seen : (line s : ℕ) → session_of line turns ≡ Some s → HasHome c m store H script lane_of value turns s → seen_by m s line turns ≤ value line
  lane_seen line s found home =
      let known : is_answered line (turns_of home.steps) ≡ true =
      own_answered line s (turns_of home.steps) (subst (λ (ts : List Turn). is_answered line ts ≡ true) home.same (found_own line s turns found)) in
      let rising : Rises (lines_in (turns_of home.steps)) =
      subst (λ (ls : List Line). Rises ls) (sym home.lines) (rises_filter (is_in_lane lane_of (lane_of s)) script rises) in
      subst (λ (k : ℕ). k ≤ value line)
      (seen_own m s line (turns_of home.steps) ∙ ap (λ (ts : List Turn). seen_by m s line ts) (sym home.same) ∙ sym (seen_own m s line turns))
      (seen_to m s line (value line) (turns_of home.steps)
      (noted_answered value line m (length H) home.steps home.lane.noted home.agrees known)
      (each_to_map (λ (t : Turn). t.line.line ≤ line → IsUpTo (value line) t.reply.n) (λ (st : Step). st.turn) home.steps
      (up_to_line value line m (length H) home.steps rising home.lane.noted home.agrees known)))

  seen_value : (line n : ℕ) (o : Option ℕ) → session_of line turns ≡ o → m ≤ n → value line ≤ n → seen_in m line o turns ≤ n
  seen_value line n None is from up = from
  seen_value line n (Some s) is from up = let low : seen_by m s line turns ≤ value line = lane_seen line s is (homes s) in omega arith

  has_seen : (r : Request) (n heard : Option ℕ) → IsAtLeast m n → HasHeard r n heard
      → ((earlier high : ℕ) → r ≡ requests.After earlier → heard ≡ Some high → high ≡ value earlier) → HasSeen m turns r n
  has_seen (requests.After earlier) (Some n) (Some high) from has agrees =
      let same : high ≡ value earlier = agrees earlier high refl refl in
      let le : high ≤ n = has in
      let up : value earlier ≤ n = omega arith in
      seen_value earlier n (session_of earlier turns) refl from up
  has_seen (requests.After earlier) (Some n) None from has agrees = absurd has
  has_seen (requests.After earlier) None heard from has agrees = tt
  has_seen (requests.Edit given) n heard from has agrees = tt
  has_seen (requests.Undo earlier) n heard from has agrees = tt
  has_seen (requests.Query ask) n heard from has agrees = tt
  has_seen (requests.Look ask) n heard from has agrees = tt
  has_seen requests.Finish n heard from has agrees = tt

  pub step_seen : (st : Step) → IsRightTurn c m H store st.turn → HasHeardStep st → Agrees value st → HasSeenTurn m turns st.turn
  step_seen st right heard agrees =
      has_seen st.turn.line.request st.turn.reply.n st.heard
      (right_from c m H store st.turn.line st.turn.reply.n st.turn.reply.answer right) heard agrees.heard
