-- Lists of seats whose lanes have ended.
use Rattle.std.proofs.Common.{◌≡◌, ℕ, suc, ◌+◌, ◌-◌, ◌<◌, ◌≤◌, min, List, [], ◌∷◌, ◌++◌, length, map, get_or, Bool, true, false, cond, nat_eq, nat_le, nat_lt, refl, sym, ap, subst, below_more, ◌%◌, zero, length-append, append-nil, append_assoc, ◌∙◌, arith}
use Rattle.std.specs.List.{filter}
use Rattle.std.proofs.lemmas.List.{length-map, map-append}
use Rattle.std.proofs.Math.ListN.{get_or-append}
use Rattle.std.proofs.Math.Seq.{get_or-append_seam}
use Rattle.std.proofs.lemmas.Bool.Decides.{nat_tests}
use Rattle.live_seats.specs.session_core.declared.line.Line.{Line}
use Rattle.live_seats.specs.declared.lane.Lane.{Lane}
use Rattle.live_seats.specs.declared.lane.Lane.TheVariants as lanes
use Rattle.live_seats.specs.session_core.Legal.{disk_replies, lines_in, replies_in}
use Rattle.live_seats.specs.session_core.Worlds.{Each}
use Rattle.live_seats.specs.live_laws.Lanes.{AreLanes, Step, accepts, is_in_lane, lane_lines, turns_of}
use Rattle.live_seats.specs.Inner.Seats.{SeatParts, lines_of, lane_of, takes}
use Rattle.live_run.specs.declared.lanes.LaneOf.{LaneOf}
use Rattle.live_run.specs.Inner.Running.{accepts_in, refuses_in, AreFree, AreIdle, IsFree, HasTaken, HaveTaken, HaveLanes, IsThread, parts_of, thread_lines}

-- two tests that agree give the same elements
same_filter : (p q : Line → Bool) (xs : List Line) → ((x : Line) → p x ≡ q x) → filter p xs ≡ filter q xs
same_filter p q [] same = refl
same_filter p q (x ∷ xs) same =
    let rest : filter p xs ≡ filter q xs = same_filter p q xs same in
    rw (same x) (ap (λ (ys : List Line). cond (q x) (x ∷ ys) ys) rest)

short_at : (b : Bool) (x : Line) (some all : List Line) → length some ≤ length all
    → length (cond b (x ∷ some) some) ≤ length (x ∷ all)
short_at true x some all short = omega arith
short_at false x some all short = omega arith

-- a test gives no more elements than there are
filter_short : (p : Line → Bool) (xs : List Line) → length (filter p xs) ≤ length xs
filter_short p [] = omega arith
filter_short p (x ∷ xs) = short_at (p x) x (filter p xs) xs (filter_short p xs)

-- a test that never holds gives no element
none_filter : (p : Line → Bool) (xs : List Line) → ((x : Line) → p x ≡ false) → filter p xs ≡ []
none_filter p [] none = refl
none_filter p (x ∷ xs) none = rw (none x) (none_filter p xs none)

child_test : (v made k : ℕ) → k < made → nat_eq v k ≡ nat_eq (min v made) k
child_test v made k below = grind (arith, nat_tests)

rest_test : (v made : ℕ) → nat_le made v ≡ nat_eq (min v made) made
rest_test v made = grind (arith, nat_tests)

idle_test : (v made k : ℕ) → made < k → nat_eq (min v made) k ≡ false
idle_test v made k past = grind (arith, nat_tests)

-- the lines of a seat with a thread are those of its lane
pub child_lines : (seats made k : ℕ) (lines : List Line) → k < made
    → lines_of (lanes.Seat seats k) lines ≡ lane_lines (lane_of seats made) k lines
child_lines seats made k lines below =
    same_filter (takes (lanes.Seat seats k)) (is_in_lane (lane_of seats made) k) lines
    (λ l. child_test (l.session.0 % seats) made k below)

-- the lines of the caller are those of its lane
pub rest_lines : (seats made : ℕ) (lines : List Line)
    → lines_of (lanes.Rest seats made) lines ≡ lane_lines (lane_of seats made) made lines
rest_lines seats made lines =
    same_filter (takes (lanes.Rest seats made)) (is_in_lane (lane_of seats made) made) lines
    (λ l. rest_test (l.session.0 % seats) made)

-- no line is of a lane past the caller's
pub idle_lines : (seats made k : ℕ) (lines : List Line) → made < k → lane_lines (lane_of seats made) k lines ≡ []
idle_lines seats made k lines past =
    none_filter (is_in_lane (lane_of seats made) k) lines (λ l. idle_test (l.session.0 % seats) made k past)

is_below : (a b : ℕ) → a < b → nat_lt a b ≡ true
is_below a b below = grind (arith, nat_tests)

is_not_below : (a : ℕ) → nat_lt a a ≡ false
is_not_below a = grind (arith, nat_tests)

-- a seat whose thread was made has answered the lines of its lane
pub thread_done : (start seats made k m : ℕ) (lines : List Line) (lane : LaneOf) (s : SeatParts)
    → IsThread start seats lines k lane → HasTaken (thread_lines lane.seats lane.seat m lane.lines.now) s
    → m ≡ made → k < made → HasTaken (lane_lines (lane_of seats made) k lines) s
thread_done start seats made k m lines lane s thread taken same below =
    let one : HasTaken (thread_lines seats lane.seat m lane.lines.now) s =
    subst (λ (n : ℕ). HasTaken (thread_lines n lane.seat m lane.lines.now) s) thread.2 taken in
    let two : HasTaken (thread_lines seats k m lane.lines.now) s =
    subst (λ (n : ℕ). HasTaken (thread_lines seats n m lane.lines.now) s) thread.3 one in
    let three : HasTaken (thread_lines seats k made lane.lines.now) s =
    subst (λ (n : ℕ). HasTaken (thread_lines seats k n lane.lines.now) s) same two in
    let four : HasTaken (thread_lines seats k made lines) s =
    subst (λ (ls : List Line). HasTaken (thread_lines seats k made ls) s) thread.1 three in
    let all : thread_lines seats k made lines ≡ lines_of (lanes.Seat seats k) lines = rw (is_below k made below) refl in
    subst (λ (ls : List Line). HasTaken ls s) (all ∙ child_lines seats made k lines below) four

-- a thread that was not made has answered no line
pub thread_idle : (seats made k : ℕ) (lines : List Line) (s : SeatParts)
    → HasTaken (thread_lines seats k made lines) s → k ≡ made → HasTaken [] s
thread_idle seats made k lines s taken same =
    let one : HasTaken (thread_lines seats made made lines) s =
    subst (λ (n : ℕ). HasTaken (thread_lines seats n made lines) s) same taken in
    let none : thread_lines seats made made lines ≡ [] = rw (is_not_below made) refl in
    subst (λ (ls : List Line). HasTaken ls s) none one

-- one seat more has answered the lines of its lane
pub taken_more : (seats made n : ℕ) (lines : List Line) (taken more : List SeatParts) (s : SeatParts)
    → HaveTaken seats made lines taken → more ≡ taken ++ s ∷ [] → n ≡ length taken
    → lines_in (turns_of s.steps) ≡ lane_lines (lane_of seats made) n lines → HaveTaken seats made lines more
taken_more seats made n lines taken more s old is number new k d below =
    let P : ℕ → Type 0 = λ at. lines_in (turns_of (get_or more at d).steps) ≡ lane_lines (lane_of seats made) at lines in
    let low : (at : ℕ) → at < length taken → P at =
    λ at under. rw (is, get_or-append taken (s ∷ []) d at under) (old at d under) in
    let last : lines_in (turns_of s.steps) ≡ lane_lines (lane_of seats made) (length taken) lines =
    subst (λ (at : ℕ). lines_in (turns_of s.steps) ≡ lane_lines (lane_of seats made) at lines) number new in
    let here : P (length taken) = rw (is, get_or-append_seam taken s [] d) last in
    let all : length more ≡ length taken + 1 = ap length is ∙ length-append taken (s ∷ []) in
    below_more P (length taken) low here k (omega arith)

-- its part is counted
pub parts_more : (taken more : List SeatParts) (s : SeatParts) → more ≡ taken ++ s ∷ []
    → parts_of more ≡ parts_of taken + s.count.parts
parts_more [] more s is = let all : parts_of more ≡ parts_of (s ∷ []) = ap parts_of is in omega arith
parts_more (x ∷ taken) more s is =
    let all : parts_of more ≡ parts_of (x ∷ (taken ++ s ∷ [])) = ap parts_of is in
    let rest : parts_of (taken ++ s ∷ []) ≡ parts_of taken + s.count.parts = parts_more taken (taken ++ s ∷ []) s refl in
    omega arith

lanes_from : (seats made lane : ℕ) (lines : List Line) (taken : List SeatParts)
    → ((k : ℕ) (d : SeatParts) → k < length taken
    → lines_in (turns_of (get_or taken k d).steps) ≡ lane_lines (lane_of seats made) (lane + k) lines)
    → AreLanes (lane_of seats made) lines lane (map (λ s. s.steps) taken)
lanes_from seats made lane lines [] all = tt
lanes_from seats made lane lines (s ∷ more) all =
    let none : lane + 0 ≡ lane = omega arith in
    let one : (k : ℕ) → lane + suc k ≡ suc lane + k = λ k. omega arith in (
      subst (λ (at : ℕ). lines_in (turns_of s.steps) ≡ lane_lines (lane_of seats made) at lines) none
          (all zero s (omega arith)),
      lanes_from seats made (suc lane) lines more (λ k d below.
          subst (λ (at : ℕ). lines_in (turns_of (get_or more k d).steps) ≡ lane_lines (lane_of seats made) at lines)
          (one k) (all (suc k) d (omega arith))),
    )

pub have_lanes : (seats made : ℕ) (lines : List Line) (taken : List SeatParts) → made < seats
    → HaveTaken seats made lines taken → length taken ≡ seats → HaveLanes seats lines (map (λ s. s.steps) taken)
have_lanes seats made lines taken below all number =
    let from : (k : ℕ) → k ≡ 0 + k = λ k. omega arith in record {
      number = length-map taken (λ (s : SeatParts). s.steps) ∙ number;
      made = made;
      few = below;
      lanes = lanes_from seats made 0 lines taken (λ k d under.
          subst (λ (at : ℕ). lines_in (turns_of (get_or taken k d).steps) ≡ lane_lines (lane_of seats made) at lines)
          (from k) (all k d under));
    }

-- the first of seats that have answered no line is one, and so are those behind it
pub next_idle : {n : ℕ} {old rest : List SeatParts} (s : SeatParts) → old ≡ s ∷ rest
    → ((k : ℕ) (d : SeatParts) → k < n → HasTaken [] (get_or old k d))
    → (0 < n → HasTaken [] s) × ((k : ℕ) (d : SeatParts) → suc k < n → HasTaken [] (get_or rest k d))
next_idle s is idle = (
  (λ some. subst (λ (xs : List SeatParts). HasTaken [] (get_or xs zero s)) is (idle zero s some)),
  (λ k d below. subst (λ (xs : List SeatParts). HasTaken [] (get_or xs (suc k) d)) is (idle (suc k) d below)),
)

-- the last of free seats is free for the next lane
pub next_free : (seats made : ℕ) (lines : List Line) (old rest : List SeatParts) (s : SeatParts) → AreFree seats lines old
    → old ≡ rest ++ s ∷ [] → made + length old + 1 ≡ seats → IsFree (lanes.Seat seats made) lines s
next_free seats made lines old rest s free is number =
    let long : length old ≡ length rest + 1 = ap length is ∙ length-append rest (s ∷ []) in
    let at : seats - 2 - length rest ≡ made = omega arith in
    let here : get_or old (length rest) s ≡ s = rw is (get_or-append_seam rest s [] s) in
    subst (λ (x : SeatParts). IsFree (lanes.Seat seats made) lines x) here
    (subst (λ (n : ℕ). IsFree (lanes.Seat seats n) lines (get_or old (length rest) s)) at
    (free (length rest) s (omega arith)))

-- those before it stay free
pub rest_free : (seats : ℕ) (lines : List Line) (old rest : List SeatParts) (s : SeatParts) → AreFree seats lines old
    → old ≡ rest ++ s ∷ [] → AreFree seats lines rest
rest_free seats lines old rest s free is k d below =
    let long : length old ≡ length rest + 1 = ap length is ∙ length-append rest (s ∷ []) in
    let here : get_or old k d ≡ get_or rest k d = rw is (get_or-append rest (s ∷ []) d k below) in
    subst (λ (x : SeatParts). IsFree (lanes.Seat seats (seats - 2 - k)) lines x) here (free k d (omega arith))

-- free seats have answered no line
pub free_idle : (seats : ℕ) (lines : List Line) (free : List SeatParts) → AreFree seats lines free → AreIdle free
free_idle seats lines free are k d below =
    let it : IsFree (lanes.Seat seats (seats - 2 - k)) lines (get_or free k d) = are k d below in
    record { lines = ap (λ (steps : List Step). lines_in (turns_of steps)) it.steps; part = it.part }

-- one more seat that has answered no line
pub idle_more : (idle more : List SeatParts) (s : SeatParts) → AreIdle idle → more ≡ idle ++ s ∷ [] → HasTaken [] s
    → AreIdle more
idle_more idle more s old is new k d below =
    let P : ℕ → Type 0 = λ at. HasTaken [] (get_or more at d) in
    let low : (at : ℕ) → at < length idle → P at =
    λ at under. rw (is, get_or-append idle (s ∷ []) d at under) (old at d under) in
    let here : P (length idle) = rw (is, get_or-append_seam idle s [] d) new in
    let long : length more ≡ length idle + 1 = ap length is ∙ length-append idle (s ∷ []) in
    below_more P (length idle) low here k (omega arith)

-- one more thread
pub thread_more : {A : Type 0} (start seats made : ℕ) (lines : List Line) (old more : List A) (child : A) (lane : A → LaneOf)
    → ((k : ℕ) (d : A) → k < made → IsThread start seats lines k (lane (get_or old k d))) → made ≡ length old
    → more ≡ old ++ child ∷ [] → IsThread start seats lines made (lane child)
    → (k : ℕ) (d : A) → k < made + 1 → IsThread start seats lines k (lane (get_or more k d))
thread_more {A = A} start seats made lines old more child lane are number is new k d below =
    let P : ℕ → Type 0 = λ at. IsThread start seats lines at (lane (get_or more at d)) in
    let low : (at : ℕ) → at < length old → P at =
    λ at under. rw (is, get_or-append old (child ∷ []) d at under) (are at d (omega arith)) in
    let last : IsThread start seats lines (length old) (lane child) =
    subst (λ (at : ℕ). IsThread start seats lines at (lane child)) number new in
    let here : P (length old) = rw (is, get_or-append_seam old child [] d) last in
    below_more P (length old) low here k (omega arith)

-- a lane has no more lines than there are
pub few_of : (lane : Lane) (lines : List Line) → length (lines_of lane lines) ≤ length lines
few_of lane lines = filter_short (takes lane) lines

-- an element goes from one list to another
pub moved : {A B X : Type 0} (all : List X) (done more : List A) (a : A) (old rest : List B) (b : B) (f : A → X) (g : B → X)
    → more ≡ done ++ a ∷ [] → old ≡ b ∷ rest → f a ≡ g b → map f done ++ map g old ≡ all → map f more ++ map g rest ≡ all
moved {A = A} {B = B} {X = X} all done more a old rest b f g grown step same was =
    let one : map f more ≡ map f done ++ f a ∷ [] =
    ap (λ (xs : List A). map f xs) grown ∙ map-append f done (a ∷ []) in
    let two : map g old ≡ g b ∷ map g rest = ap (λ (xs : List B). map g xs) step in
    let three : (map f done ++ f a ∷ []) ++ map g rest ≡ map f done ++ (f a ∷ map g rest) =
    append_assoc (map f done) (f a ∷ []) (map g rest) in
    ap (λ (xs : List X). xs ++ map g rest) one ∙ three ∙ ap (λ (x : X). map f done ++ (x ∷ map g rest)) same
    ∙ sym (ap (λ (xs : List X). map f done ++ xs) two) ∙ was

-- all elements went to the other list
pub all_moved : {A B X : Type 0} (all : List X) (done : List A) (old : List B) (f : A → X) (g : B → X) → old ≡ []
    → map f done ++ map g old ≡ all → map f done ≡ all
all_moved {A = A} {B = B} {X = X} all done old f g none was =
    sym (append-nil (map f done)) ∙ ap (λ (xs : List B). map f done ++ map g xs) (sym none) ∙ was

-- no element went yet
pub none_moved : {A B X : Type 0} (done : List A) (old : List B) (f : A → X) (g : B → X) → done ≡ []
    → map f done ++ map g old ≡ map g old
none_moved {A = A} done old f g none = ap (λ (xs : List A). map f xs ++ map g old) none

-- one lane more
pub accepts_more : (ran : List (List Step)) (steps : List Step)
    → accepts_in (ran ++ steps ∷ []) ≡ accepts_in ran + accepts (turns_of steps)
accepts_more [] steps = omega arith
accepts_more (x ∷ ran) steps =
    let rest : accepts_in (ran ++ steps ∷ []) ≡ accepts_in ran + accepts (turns_of steps) = accepts_more ran steps in omega arith

pub refuses_more : (ran : List (List Step)) (steps : List Step)
    → refuses_in (ran ++ steps ∷ []) ≡ refuses_in ran + disk_replies (replies_in (turns_of steps))
refuses_more [] steps = omega arith
refuses_more (x ∷ ran) steps =
    let rest : refuses_in (ran ++ steps ∷ []) ≡ refuses_in ran + disk_replies (replies_in (turns_of steps)) = refuses_more ran steps in
    omega arith

-- the steps of seats behind one seat more
pub steps_more : (seats all : List SeatParts) (s : SeatParts) → all ≡ seats ++ s ∷ []
    → map (λ (x : SeatParts). x.steps) all ≡ map (λ (x : SeatParts). x.steps) seats ++ s.steps ∷ []
steps_more seats all s is =
    ap (λ (xs : List SeatParts). map (λ (x : SeatParts). x.steps) xs) is ∙ map-append (λ (x : SeatParts). x.steps) seats (s ∷ [])

-- one element more has it
pub each_more : {A : Type 0} (P : A → Type 0) (xs : List A) (x : A) → Each P xs → P x → Each P (xs ++ x ∷ [])
each_more P [] x each here = (here, tt)
each_more P (y ∷ xs) x each here = (each.0, each_more P xs x each.1 here)

-- a list behind one element more, seen through a function
pub map_more : {A X : Type 0} (xs all : List A) (x : A) (f : A → X) → all ≡ xs ++ x ∷ [] → map f all ≡ map f xs ++ f x ∷ []
map_more {A = A} xs all x f is = ap (λ (l : List A). map f l) is ∙ map-append f xs (x ∷ [])

-- two lists that are alike stay so
pub both_more : {A B X : Type 0} (xs xall : List A) (x : A) (ys yall : List B) (y : B) (f : A → X) (g : B → X)
    → xall ≡ xs ++ x ∷ [] → yall ≡ ys ++ y ∷ [] → f x ≡ g y → map f xs ≡ map g ys → map f xall ≡ map g yall
both_more {A = A} {B = B} {X = X} xs xall x ys yall y f g x_is y_is same alike =
    map_more xs xall x f x_is ∙ ap (λ (l : List X). l ++ f x ∷ []) alike ∙ ap (λ (z : X). map g ys ++ z ∷ []) same
    ∙ sym (map_more ys yall y g y_is)

-- a list of no element
pub nothing : {A : Type 0} (xs : List A) → length xs ≡ 0 → xs ≡ []
nothing [] none = refl
nothing (x ∷ xs) none = absurd (omega arith)

-- a seat whose thread was not made has answered no line
pub thread_none : (start seats made m : ℕ) (lines : List Line) (lane : LaneOf) (s : SeatParts)
    → IsThread start seats lines made lane → HasTaken (thread_lines lane.seats lane.seat m lane.lines.now) s
    → m ≡ made → HasTaken [] s
thread_none start seats made m lines lane s thread taken same =
    let one : HasTaken (thread_lines lane.seats made m lane.lines.now) s =
    subst (λ (n : ℕ). HasTaken (thread_lines lane.seats n m lane.lines.now) s) thread.3 taken in
    let two : HasTaken (thread_lines lane.seats made made lane.lines.now) s =
    subst (λ (n : ℕ). HasTaken (thread_lines lane.seats made n lane.lines.now) s) same one in
    thread_idle lane.seats made made lane.lines.now s two refl
