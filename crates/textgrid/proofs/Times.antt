-- The same reading again and again.
use Rattle.std.proofs.Common.{◌≡◌, ℕ, suc, List, [], ◌∷◌, ◌++◌, Result, Ok, Err, Option, refl, sym, ap, ◌∙◌, subst, append_assoc}
use Rattle.textgrid.specs.declared.values.Placed.{Placed}
use Rattle.textgrid.specs.declared.fault.GridWhat.{GridWhat}
use Rattle.std.specs.Result.{IsErrAnd}
use Rattle.textgrid.specs.declared.entries.Halt.{Halt}
use Rattle.textgrid.specs.declared.entries.Halt.TheVariants.{Stopped, Memory}
use Rattle.textgrid.specs.Reading.{Answer, and_then, times_at}
use Rattle.textgrid.specs.Inner.Reading.{Reads, behind}

behind_more : {A : Type 0} (done : List A) (a : A) (r : Answer (List A)) → behind done (and_then r (λ more after. Ok (a ∷ more, after))) ≡ behind (done ++ a ∷ []) r
behind_more done a (Ok r) = ap (λ xs. Ok (xs, r.1)) (sym (append_assoc done (a ∷ []) r.0))
behind_more done a (Err e) = refl

-- one more was read
pub times_next : {A : Type 0} (one : List Placed → Answer A) (old new : List A) (a : A) (left next : ℕ) (vs rest : List Placed) (all : Answer (List A)) → left ≡ suc next → one vs ≡ Ok (a, rest) → new ≡ old ++ a ∷ [] → behind old (times_at one left vs) ≡ all → behind new (times_at one next rest) ≡ all
times_next one old new a left next vs rest all more is grown was =
    let step : times_at one (suc next) vs ≡ and_then (times_at one next rest) (λ ls after. Ok (a ∷ ls, after)) = rw is refl in
    rw grown (sym (behind_more old a (times_at one next rest)) ∙ ap (λ r. behind old r) (sym step) ∙ subst (λ (k : ℕ). behind old (times_at one k vs) ≡ all) more was)

-- one more could not be read
pub times_stop : {A : Type 0} (one : List Placed → Answer A) (old : List A) (e : Option ℕ × GridWhat) (left next : ℕ) (vs : List Placed) (all : Answer (List A)) → left ≡ suc next → one vs ≡ Err e → behind old (times_at one left vs) ≡ all → all ≡ Err e
times_stop one old e left next vs all more is was =
    let step : times_at one (suc next) vs ≡ Err e = rw is refl in
    sym (subst (λ (k : ℕ). behind old (times_at one k vs) ≡ all) more was) ∙ ap (λ r. behind old r) step

-- reading ends where one of the readings ends
pub times_end : {A : Type 0} (one : List Placed → Answer A) (old : List A) (answer : Result (List A) Halt) (e : Halt) (left next n : ℕ) (vs start new : List Placed) → left ≡ suc next → Reads {A = A} (Err e) (one vs) new → behind old (times_at one left vs) ≡ times_at one n start → IsErrAnd answer (λ x. x ≡ e) → Reads answer (times_at one n start) new
times_end {A = A} one old (Ok made) e left next n vs start new more told was same = absurd same
times_end {A = A} one old (Err (Stopped place what)) e left next n vs start new more told was same =
    let here : Reads {A = A} (Err (Stopped place what)) (one vs) new = subst (λ (x : Halt). Reads {A = A} (Err x) (one vs) new) (sym same) told in
    times_stop one old (place, what) left next vs (times_at one n start) more here was
times_end {A = A} one old (Err Memory) e left next n vs start new more told was same = tt
