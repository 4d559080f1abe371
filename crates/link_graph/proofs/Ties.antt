-- What an entry at a pair of ids that is put in or taken out says of the pairs that have one.
use Rattle.std.proofs.Common.{◌≡◌, ℕ, Bool, true, false, Option, None, Some, refl, ap, ◌∙◌, cond, eqb, not, ◌&&◌, ◌||◌}
use Rattle.std.specs.Option.{is_some}

put_at : {V : Type 0} (t : Bool) (value : V) (old : Option V) → is_some (cond t (Some value) old) ≡ (is_some old || t)
put_at true value (Some x) = refl
put_at true value None = refl
put_at false value (Some x) = refl
put_at false value None = refl

gone_at : {V : Type 0} (t : Bool) (old : Option V) → is_some (cond t None old) ≡ (not t && is_some old)
gone_at true old = refl
gone_at false old = refl

-- what an entry that was put in adds
pub some_in : {V : Type 0} (from to a b : ℕ) (value : V) (old new : Option V) →
    new ≡ cond (eqb from a && eqb to b) (Some value) old → is_some new ≡ (is_some old || (eqb from a && eqb to b))
some_in from to a b value old new h = ap is_some h ∙ put_at (eqb from a && eqb to b) value old

-- what an entry that was taken out takes away
pub none_in : {V : Type 0} (from to a b : ℕ) (old new : Option V) →
    new ≡ cond (eqb from a && eqb to b) None old → is_some new ≡ (not (eqb from a && eqb to b) && is_some old)
none_in from to a b old new h = ap is_some h ∙ gone_at (eqb from a && eqb to b) old
