-- What a call makes, under two names.
use Rattle.std.proofs.Common.{◌≡◌, Result, Ok, Err, IfOk, ◌∙◌}

-- for a last call whose answer is returned as it is
pub made_same : {T E : Type 0} (r : Result T E) (x y : T) → IfOk r (λ made. made ≡ x) → x ≡ y → IfOk r (λ made. made ≡ y)
made_same (Ok made) x y is same = is ∙ same
made_same (Err fault) x y is same = tt
