-- Runs of the core, one event after another.
use Rattle.std.proofs.Common.{◌≡◌, ◌⊎◌, inl, inr, ◌<◌, ℕ, suc, List, [], ◌∷◌, ◌++◌, Result, Ok, Err, OnErr, refl, subst, append_assoc, append-nil, arith}
use Rattle.std.specs.List.{All}
use Rattle.session_core.specs.declared.event.Event.{Event}
use Rattle.session_core.specs.declared.line.Reply.{Reply}
use Rattle.session_core.specs.Steps.{State, core_step, core_fails, option_list, session_places, steps}
use Rattle.session_core.specs.Inner.Steps.{place_of}
use Rattle.session_core.specs.Inner.Stops.{state_at, FailsAt, StopsAt}

-- the replies that are there already, before those that follow
abbrev pub behind : List Reply → List Reply × State → List Reply × State
behind done (replies, st) = (done ++ replies, st)

-- one event more was taken
pub made_more : (done done2 : List Reply) (st st2 : State) (e : Event) (es : List Event) (all : List Reply × State) → behind done (steps st (e ∷ es)) ≡ all → st2 ≡ (core_step st e).1 → done2 ≡ done ++ option_list (core_step st e).0 → behind done2 (steps st2 es) ≡ all
made_more done done2 st st2 e es all made new told =
    rw (new, told, append_assoc done (option_list (core_step st e).0) (steps (core_step st e).1 es).0) made

-- all events were taken
pub made_all : (done : List Reply) (st : State) (all : List Reply × State) → behind done (steps st []) ≡ all → (done, st) ≡ all
made_all done st all made = rw append-nil at made

-- Where a run stops.

pub stops_before : (st new : State) (e : Event) (es : List Event) → new ≡ (core_fails st e).1 → StopsAt st (e ∷ es) new
stops_before st new e es fails = record {
  count = 0;
  within = omega arith;
  state = inr (record { event = e; is_next = refl; closed = fails });
}

pub stops_behind : (st new : State) (e : Event) (es : List Event) → new ≡ (core_step st e).1 → StopsAt st (e ∷ es) new
stops_behind st new e es steps_on = record {
  count = suc 0;
  within = omega arith;
  state = inl steps_on;
}

pub stops_one : (st new : State) (e : Event) (es : List Event) → (new ≡ (core_step st e).1) ⊎ (new ≡ (core_fails st e).1) → StopsAt st (e ∷ es) new
stops_one st new e es (inl steps_on) = stops_behind st new e es steps_on
stops_one st new e es (inr fails) = stops_before st new e es fails

later_state : (st st2 new : State) (e : Event) (es : List Event) (count : ℕ) → st2 ≡ (core_step st e).1 → (new ≡ state_at st2 es count) ⊎ FailsAt st2 es count new → (new ≡ state_at st (e ∷ es) (suc count)) ⊎ FailsAt st (e ∷ es) (suc count) new
later_state st st2 new e es count step (inl there) = inl (rw (state_at, ← step) there)
later_state st st2 new e es count step (inr f) = inr (record { event = f.event; is_next = f.is_next; closed = rw (state_at, ← step) f.closed })

pub stops_later : (st st2 new : State) (e : Event) (es : List Event) → st2 ≡ (core_step st e).1 → StopsAt st2 es new → StopsAt st (e ∷ es) new
stops_later st st2 new e es step s = record {
  count = suc s.count;
  within = omega (arith, s.within);
  state = later_state st st2 new e es s.count step s.state;
}

-- The same at the front of a list of events that is shown by an equation.

pub places_rest : (e : Event) (es old : List Event) → old ≡ e ∷ es → All (λ (event : Event). place_of event < session_places) old → All (λ (event : Event). place_of event < session_places) es
places_rest e es old items places =
    let P : List Event → Type 0 = λ events. All (λ (event : Event). place_of event < session_places) events in
    let whole : P (e ∷ es) = subst P items places in
    λ k d h. whole (suc k) d (omega arith)

pub made_next : (done done2 : List Reply) (st st2 : State) (e : Event) (es old : List Event) (all : List Reply × State) → old ≡ e ∷ es → behind done (steps st old) ≡ all → st2 ≡ (core_step st e).1 → done2 ≡ done ++ option_list (core_step st e).0 → behind done2 (steps st2 es) ≡ all
made_next done done2 st st2 e es old all items made new told =
    let P : List Event → Type 0 = λ events. behind done (steps st events) ≡ all in
    made_more done done2 st st2 e es all (subst P items made) new told

pub stops_next : (st st2 new : State) (e : Event) (es old : List Event) → old ≡ e ∷ es → st2 ≡ (core_step st e).1 → StopsAt st2 es new → StopsAt st old new
stops_next st st2 new e es old items step s = rw items (stops_later st st2 new e es step s)

pub stops_now : (st new : State) (e : Event) (es old : List Event) → old ≡ e ∷ es → (new ≡ (core_step st e).1) ⊎ (new ≡ (core_fails st e).1) → StopsAt st old new
stops_now st new e es old items end = rw items (stops_one st new e es end)

pub on_err : {T E : Type 0} → (r : Result T E) (P : Type 0) → P → OnErr r P
on_err (Ok x) P h = tt
on_err (Err x) P h = h
