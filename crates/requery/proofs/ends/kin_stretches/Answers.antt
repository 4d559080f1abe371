use Rattle.std.proofs.Common.{◌≡◌, ℕ, List, ◌++◌, length, take, drop, refl, sym, ap, ◌∙◌, subst, arith}
use Rattle.std.proofs.lemmas.List.{take-append-le, take_all}
use Rattle.requery.specs.Inner.Ways.{AreKinStretches}
use Rattle.requery.proofs.Kin.{kin_made}
use Rattle.requery.proofs.ends.kin_stretches.Goals as goal

-- what was written stands before what was not
front : {A : Type 0} (n : ℕ) (xs ys : List A) → n ≡ length xs → take n (xs ++ ys) ≡ xs
front n xs ys is = take-append-le n xs ys (omega arith) ∙ take_all n xs (omega arith)

pub returns : goal.returns
returns c =
    let made = c.widen_above.new.stretches in
    let long : c.in_ok-stretches.stretches.len ≡ length made =
    c.in_ok-stretches.stretches.ok.0 ∙ sym (ap length c.as_mut_slice.ensures.value) ∙ sym c.widen_above.ensures.count_is in
    subst (AreKinStretches c.args.down.now c.args.up.now) (sym (front c.in_ok-stretches.stretches.len made _ long))
    (kin_made c.args.down.now c.args.up.now c.args.width c.args.width c.as_mut_slice.result.now made c.requires.width refl c.requires.down
    (c.as_mut_slice.ensures.value ∙ c.in_ok-stretches.ensures) c.widen_above.ensures)
