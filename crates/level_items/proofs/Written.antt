-- A level that was changed in its place among all levels.
use Rattle.std.proofs.Common.{◌≡◌, ℕ, zero, suc, ◌<◌, List, [], ◌∷◌, length, get_or, Some, Result, Ok, Err, OnOk, sym, ◌∙◌, ap, slice_set}
use Rattle.std.specs.List.{slice_get}
use Rattle.std.proofs.lemmas.Option.{slice_get-get_or}
use Rattle.level_items.specs.Levels.{Level}
use Rattle.level_items.specs.Changed.{change_level}

-- a level that is put in the place of another
set_level : (f : Level → Level) (k : ℕ) (levels : List Level) (l new : Level) → slice_get levels k ≡ Some l → new ≡ f l → slice_set levels k new ≡ change_level f k levels
set_level f k [] l new at is = absurd cc
set_level f zero (x ∷ levels) l new at is =
    let same : l ≡ x = cc in
    ap (λ z. z ∷ levels) (is ∙ ap f same)
set_level f (suc k) (x ∷ levels) l new at is = ap (λ zs. x ∷ zs) (set_level f k levels l new at is)

-- a level that was changed in its place, where that went well
pub written_level : {T E : Type 0} (f : Level → Level) (k : ℕ) (levels all : List Level) (old new : Level) (r : Result T E) → levels ≡ all → k < length levels →
    old ≡ get_or levels k old → OnOk r (new ≡ f old) → OnOk r (slice_set levels k new ≡ change_level f k all)
written_level f k levels all old new (Ok x) same low is ok =
    set_level f k levels old new (slice_get-get_or levels k old low ∙ ap Some (sym is)) ok ∙ ap (change_level f k) same
written_level f k levels all old new (Err e) same low is ok = tt
