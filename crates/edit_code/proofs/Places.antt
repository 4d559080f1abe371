-- What the reading of whole codes answers, in the words of codes.
use Rattle.std.proofs.Common.{◌≡◌, ℕ, ◌-◌, Bool, true, false, List, [], ◌++◌, length, refl, ap, subst, ◌∙◌, arith, append-nil}
use Rattle.std.specs.Prelude.{Result, Ok, Err, nat_lt, IfOk, IfErr}
use Rattle.std.proofs.lemmas.Bool.Decides.{nat_tests}
use Rattle.std.proofs.lemmas.List.{nil_from_length}
use Rattle.byte_forms.specs.Forms.{Form, AreBytes, IsCode, IsForm}
use Rattle.byte_forms.specs.Inner.Forms.{StopsAt}
use Rattle.byte_forms.proofs.Stops.{code_is_read, stuck_stops, more_stops, end_stops}
use Rattle.edit_code.specs.declared.fault.CodeFault.{CodeFault}
use Rattle.edit_code.specs.declared.fault.CodeFault.TheVariants as faults
use Rattle.edit_code.specs.Inner.Codes.{whole, tested, Answers, IsReadAs, IsPlace}

-- the bytes are the code of the value, which passes the test
abbrev pub IsSo : {A : Type 0} → Form A → (A → Bool) → List ℕ → A → Type 0
IsSo f test bytes v = IsCode f bytes v × (test v ≡ true)

module _ {A : Type 0} (f : Form A) (h : IsForm f) (test : A → Bool) (bytes : List ℕ) (b : AreBytes bytes) where
  -- nothing is left
  none_left : (rest : List ℕ) → nat_lt 0 (length rest) ≡ false → rest ≡ []
  none_left rest e = nil_from_length rest (grind (arith, nat_tests))

  so_found : (v : A) (x : A × List ℕ) → f.read bytes ≡ Ok x → (more : Bool) → nat_lt 0 (length x.1) ≡ more → (passes : Bool)
      → test x.0 ≡ passes → tested test bytes (whole bytes (Ok x)) ≡ Ok v → IsSo f test bytes v
  so_found v x e true left passes is made =
      let there : whole bytes (Ok x) ≡ Err (length bytes - length x.1) = rw left refl in
      let all : tested test bytes (whole bytes (Ok x)) ≡ Err (length bytes - length x.1) = ap (tested test bytes) there in
      absurd cc
  so_found v x e false left false is made =
      let there : whole bytes (Ok x) ≡ Ok x.0 = rw left refl in
      let all : tested test bytes (whole bytes (Ok x)) ≡ Err (length bytes) = ap (tested test bytes) there ∙ rw is refl in
      absurd cc
  so_found v x e false left true is made =
      let there : whole bytes (Ok x) ≡ Ok x.0 = rw left refl in
      let all : tested test bytes (whole bytes (Ok x)) ≡ Ok x.0 = ap (tested test bytes) there ∙ rw is refl in
      let same : x.0 ≡ v = cc in
      let o = h.only bytes x b e in
      let end : bytes ≡ f.code x.0 = o.1 ∙ ap (λ l. f.code x.0 ++ l) (none_left x.1 left) ∙ append-nil (f.code x.0) in
      subst (IsSo f test bytes) same ((o.0, end), is)

  found_in : (v : A) (r : Result (A × List ℕ) ℕ) → f.read bytes ≡ r → tested test bytes (whole bytes r) ≡ Ok v
      → IsSo f test bytes v
  found_in v (Ok x) e made = so_found v x e (nat_lt 0 (length x.1)) refl (test x.0) refl made
  found_in v (Err n) e made = absurd cc

  only_in : (v : A) → IsSo f test bytes v → tested test bytes (whole bytes (f.read bytes)) ≡ Ok v
  only_in v is =
      let read = code_is_read f h bytes v is.0.0 is.0.1 in
      ap (λ r. tested test bytes (whole bytes r)) read ∙ rw is.1 refl

  so_placed : (at : ℕ) (x : A × List ℕ) → f.read bytes ≡ Ok x → (more : Bool) → nat_lt 0 (length x.1) ≡ more → (passes : Bool)
      → test x.0 ≡ passes → tested test bytes (whole bytes (Ok x)) ≡ Err at → StopsAt f bytes at
  so_placed at x e true left passes is made =
      let there : whole bytes (Ok x) ≡ Err (length bytes - length x.1) = rw left refl in
      let all : tested test bytes (whole bytes (Ok x)) ≡ Err (length bytes - length x.1) = ap (tested test bytes) there in
      let same : length bytes - length x.1 ≡ at = cc in
      let o = h.only bytes x b e in
      subst (StopsAt f bytes) same (more_stops f h bytes x.1 x.0 o.0 o.1)
  so_placed at x e false left false is made =
      let there : whole bytes (Ok x) ≡ Ok x.0 = rw left refl in
      let all : tested test bytes (whole bytes (Ok x)) ≡ Err (length bytes) = ap (tested test bytes) there ∙ rw is refl in
      let same : length bytes ≡ at = cc in
      let o = h.only bytes x b e in
      let end : bytes ≡ f.code x.0 = o.1 ∙ ap (λ l. f.code x.0 ++ l) (none_left x.1 left) ∙ append-nil (f.code x.0) in
      subst (StopsAt f bytes) same (end_stops f h bytes x.0 o.0 end)
  so_placed at x e false left true is made =
      let there : whole bytes (Ok x) ≡ Ok x.0 = rw left refl in
      let all : tested test bytes (whole bytes (Ok x)) ≡ Ok x.0 = ap (tested test bytes) there ∙ rw is refl in
      absurd cc

  placed_in : (at : ℕ) (r : Result (A × List ℕ) ℕ) → f.read bytes ≡ r → tested test bytes (whole bytes r) ≡ Err at
      → StopsAt f bytes at
  placed_in at (Ok x) e made = so_placed at x e (nat_lt 0 (length x.1)) refl (test x.0) refl made
  placed_in at (Err n) e made =
      let same : length bytes - n ≡ at = cc in
      subst (StopsAt f bytes) same (stuck_stops f h bytes n (h.stuck bytes n b e))

  pub answers_found : (r : Result A CodeFault) → Answers r (tested test bytes (whole bytes (f.read bytes)))
      → IfOk r (IsSo f test bytes)
  answers_found (Ok v) e = found_in v (f.read bytes) refl e
  answers_found (Err fault) e = tt

  pub answers_only : (r : Result A CodeFault) → Answers r (tested test bytes (whole bytes (f.read bytes)))
      → (v : A) → IsSo f test bytes v → IsReadAs v r
  answers_only (Ok w) e v is = let there = only_in v is in let same : w ≡ v = cc in same
  answers_only (Err (faults.NotAnEntry at)) e v is = let there = only_in v is in absurd cc
  answers_only (Err faults.Memory) e v is = tt

  pub answers_place : (r : Result A CodeFault) → Answers r (tested test bytes (whole bytes (f.read bytes)))
      → IfErr r (IsPlace f (IsSo f test) bytes)
  answers_place (Ok w) e = tt
  answers_place (Err (faults.NotAnEntry at)) e =
      (placed_in at (f.read bytes) refl e, λ v is. let there = only_in v is in absurd cc)
  answers_place (Err faults.Memory) e = tt
