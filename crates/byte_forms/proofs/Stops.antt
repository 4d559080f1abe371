-- What follows from the law of a form: no code begins another, and where reading stops the codes stop.
use Rattle.std.proofs.Common.{◌≡◌, ℕ, suc, ◌-◌, List, [], ◌∷◌, ◌++◌, length, take, refl, sym, ap, subst, ◌∙◌, arith, append_assoc, append-nil, length-append}
use Rattle.std.specs.Prelude.{Ok, Err}
use Rattle.std.proofs.lemmas.List.{take_at, take_all}
use Rattle.byte_forms.specs.Forms.{Form, Begins, IsPrefixFree, IsShut, IsStuck, IsForm}
use Rattle.byte_forms.specs.Inner.Forms.{StopsAt}

module _ {A : Type 0} (f : Form A) (h : IsForm f) where
  -- a code is read as its value
  pub code_is_read : (bytes : List ℕ) (v : A) → f.fits v → bytes ≡ f.code v → f.read bytes ≡ Ok (v, [])
  code_is_read bytes v k e = ap f.read (e ∙ sym (append-nil (f.code v))) ∙ h.again v [] k

  -- a code with more behind it is read as its value
  pub front_is_read : (bytes rest : List ℕ) (v : A) → f.fits v → bytes ≡ f.code v ++ rest → f.read bytes ≡ Ok (v, rest)
  front_is_read bytes rest v k e = ap f.read e ∙ h.again v rest k

  pub prefix_free : IsPrefixFree f
  prefix_free a rest v w is is_more =
      let first = front_is_read (a ++ rest) rest v is.0 (ap (λ l. l ++ rest) is.1) in
      let second = code_is_read (a ++ rest) w is_more.0 is_more.1 in
      let same : (v, rest) ≡ (w, []) = cc in
      (ap (λ (x : A × List ℕ). x.1) same, ap (λ (x : A × List ℕ). x.0) same)

  -- a place where the codes stop
  one_more : (front back : List ℕ) (b : ℕ) → take (suc (length front)) (front ++ b ∷ back) ≡ front ++ b ∷ []
  one_more front back b =
      let len : length (front ++ b ∷ []) ≡ suc (length front) = omega (arith, length-append front (b ∷ [])) in
      ap (take (suc (length front))) (sym (append_assoc front (b ∷ []) back))
      ∙ take_at (front ++ b ∷ []) back (suc (length front)) len

  stops_where : (bytes front back : List ℕ) → bytes ≡ front ++ back → Begins f front
      → ((b : ℕ) (behind : List ℕ) → back ≡ b ∷ behind → Begins f (front ++ b ∷ []) → ⊥) → StopsAt f bytes (length front)
  stops_where bytes front [] split begun shut = (
    omega (arith, ap length split, length-append front []),
    subst (Begins f) (sym (ap (take (length front)) split ∙ take_at front [] (length front) refl)) begun,
    λ more. absurd (omega (arith, ap length split, length-append front [])),
  )
  stops_where bytes front (b ∷ back) split begun shut = (
    omega (arith, ap length split, length-append front (b ∷ back)),
    subst (Begins f) (sym (ap (take (length front)) split ∙ take_at front (b ∷ back) (length front) refl)) begun,
    λ more on. shut b back refl (subst (Begins f) (ap (take (suc (length front))) split ∙ one_more front back b) on),
  )

  -- what goes on from a front is read from it
  goes_on_read : (front : List ℕ) (b : ℕ) (on : Begins f (front ++ b ∷ [])) → f.read (front ++ b ∷ on.1) ≡ Ok (on.0, [])
  goes_on_read front b on =
      code_is_read (front ++ b ∷ on.1) on.0 on.2 (sym (append_assoc front (b ∷ []) on.1) ∙ sym on.3)

  shut_is_shut : (front back : List ℕ) → IsShut f.read front back → (b : ℕ) (behind : List ℕ) → back ≡ b ∷ behind
      → Begins f (front ++ b ∷ []) → ⊥
  shut_is_shut front [] shut b behind e on = absurd cc
  shut_is_shut front (d ∷ back) shut b behind e on =
      let same : d ≡ b = cc in
      let stop : f.read (front ++ b ∷ on.1) ≡ Err (suc (length on.1)) = subst (λ c. f.read (front ++ c ∷ on.1) ≡ Err (suc (length on.1))) same (shut on.1) in
      let read = goes_on_read front b on in
      absurd cc

  -- where reading stops
  pub stuck_stops : (bytes : List ℕ) (left : ℕ) → IsStuck f bytes left → StopsAt f bytes (length bytes - left)
  stuck_stops bytes left s =
      let at : length s.front ≡ length bytes - left =
      omega (arith, ap length s.split, length-append s.front s.back, s.len) in
      subst (StopsAt f bytes) at (stops_where bytes s.front s.back s.split s.begun (shut_is_shut s.front s.back s.shut))

  -- where a code ends, and more follows
  pub more_stops : (bytes rest : List ℕ) (v : A) → f.fits v → bytes ≡ f.code v ++ rest
      → StopsAt f bytes (length bytes - length rest)
  more_stops bytes rest v k split =
      let at : length (f.code v) ≡ length bytes - length rest =
      omega (arith, ap length split, length-append (f.code v) rest) in
      subst (StopsAt f bytes) at
      (stops_where bytes (f.code v) rest split (v, [], k, sym (append-nil (f.code v)))
      (λ b behind e on.
      let first = h.again v (b ∷ on.1) k in
      let second = goes_on_read (f.code v) b on in
      let same : (v, b ∷ on.1) ≡ (on.0, []) = cc in
      let none : b ∷ on.1 ≡ [] = ap (λ (x : A × List ℕ). x.1) same in
      absurd cc))

  -- a code's end
  pub end_stops : (bytes : List ℕ) (v : A) → f.fits v → bytes ≡ f.code v → StopsAt f bytes (length bytes)
  end_stops bytes v k e = (
    omega arith,
    subst (Begins f) (sym (take_all (length bytes) bytes (omega arith))) (v, [], k, sym e ∙ sym (append-nil bytes)),
    λ more. absurd (omega arith),
  )
