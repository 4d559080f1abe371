-- Grouping what is grouped changes nothing.
use Rattle.std.proofs.Common.{◌≡◌, ℕ, zero, suc, ◌<◌, List, [], ◌∷◌, ◌++◌, refl, sym, ◌∙◌, ap, subst}
use Rattle.live_seats.specs.session_core.Steps.{session_places}
use Rattle.live_seats.specs.session_core.Worlds.{Each, Turn}
use Rattle.live_seats.specs.session_core.Legal.{IsNamed, of_session, replies_in}
use Rattle.live_seats.specs.live_laws.Lanes.{grouped, grouped_from}
use Rattle.live_seats.proofs.of_live_laws.Grouping.{each_grouped, of_grouped}
use Rattle.live_run.specs.Runs.{AreGrouped}
use Rattle.live_run.specs.Inner.Grouping.{HasPlace, IsPlaced}
use Rattle.live_run.proofs.Sessions.{grouped_replies}

-- replies are of the sessions of their lines
pub places_of : (ts : List Turn) → Each IsNamed ts → Each IsPlaced ts → Each HasPlace (replies_in ts)
places_of [] named placed = tt
places_of (t ∷ ts) named placed = (subst (λ s. s.0 < session_places) (sym named.0.session) placed.0, places_of ts named.1 placed.1)

regrouped_from : (s count : ℕ) (ts : List Turn) → Each IsPlaced ts → grouped_from s count (grouped ts) ≡ grouped_from s count ts
regrouped_from s zero ts placed = refl
regrouped_from s (suc count) ts placed =
    ap (λ (l : List Turn). l ++ grouped_from (suc s) count (grouped ts)) (of_grouped s ts placed)
    ∙ ap (λ (l : List Turn). of_session s ts ++ l) (regrouped_from (suc s) count ts placed)

-- the replies of grouped turns are grouped
pub ordered : (ts : List Turn) → Each IsNamed ts → Each IsPlaced ts → AreGrouped (replies_in (grouped ts))
ordered ts named placed =
    grouped_replies 0 session_places (grouped ts) (each_grouped IsNamed 0 session_places ts named)
    ∙ ap (λ (l : List Turn). replies_in l) (regrouped_from 0 session_places ts placed)
