-- The laws of the forms of kinds.
use Rattle.std.proofs.Common.{◌≡◌, ◌≢◌, ℕ, suc, ◌<◌, ◌∙◌, Bool, true, false, List, [], ◌∷◌, ◌++◌, length, refl, sym, ap, subst, arith, Some, None}
use Rattle.std.specs.Prelude.{◌==◌, ◌&&◌, nat_le, Option, Result, Ok, Err}
use Rattle.std.specs.List.{find}
use Rattle.std.proofs.lemmas.Bool.Decides.{nat_tests}
use Rattle.byte_forms.specs.Forms.{Form, ◌>>=◌, AreBytes, IsStuck, IsForm}
use Rattle.byte_forms.proofs.Steps.{bind_ok}
use Rattle.byte_forms.specs.declared.rest.ReadFault.{ReadFault}
use Rattle.byte_forms.specs.declared.rest.ReadFault.TheVariants as faults
use Rattle.byte_forms.specs.Inner.Reading.{Gives}
use Rattle.byte_forms.specs.Parts.{byte_at, byte_from_to, byte_in}
use Rattle.edit_code.specs.Inner.Reading.{or_left}
use Rattle.edit_code.specs.Tags.{kind_at, tag_at, tag_form, tagged}

equal : (a b : ℕ) → (a == b) ≡ true → a ≡ b
equal a b h = grind (arith, nat_tests)

-- A kind that is found has the number.

found_first : {K : Type 0} (number : K → ℕ) (x : K) (ks : List K) (n : ℕ) (k : K)
    → (kind_at ks number n ≡ Some k → number k ≡ n) → (same : Bool) → (number x == n) ≡ same
    → kind_at (x ∷ ks) number n ≡ Some k → number k ≡ n
found_first number x ks n k behind true is e =
    let there : kind_at (x ∷ ks) number n ≡ Some x = rw is refl in
    let one : x ≡ k = cc in
    ap number (sym one) ∙ equal (number x) n is
found_first number x ks n k behind false is e =
    let there : kind_at (x ∷ ks) number n ≡ kind_at ks number n = rw is refl in
    behind (sym there ∙ e)

pub found_number : {K : Type 0} (number : K → ℕ) (ks : List K) (n : ℕ) (k : K) → kind_at ks number n ≡ Some k → number k ≡ n
found_number number [] n k e = absurd cc
found_number number (x ∷ ks) n k e =
    found_first number x ks n k (λ h. found_number number ks n k h) (number x == n) refl e

-- The law.

-- a byte is read
byte_here : (b : ℕ) (rest : List ℕ) → b < 256 → (byte_from_to 0 255).read (b ∷ rest) ≡ Ok (b, rest)
unfolding byte_in
byte_here b rest h = let t : (nat_le 0 b && nat_le b 255) ≡ true = grind (arith, nat_tests) in rw t refl

module _ {K : Type 0} (ks : List K) (number : K → ℕ) (some : (k : K) × ((number k < 256) × (kind_at ks number (number k) ≡ Some k))) where
  -- and then its kind
  tag_here : (b : ℕ) (rest : List ℕ) → b < 256 → tag_at ks number (b ∷ rest) ≡ tagged rest (kind_at ks number b)
  tag_here b rest h = bind_ok _ _ (λ (x : ℕ × List ℕ). tagged x.1 (kind_at ks number x.0)) (byte_here b rest h)

  tag_only : (b : ℕ) (rest : List ℕ) (x : K × List ℕ) → AreBytes (b ∷ rest) → (o : Option K) → kind_at ks number b ≡ o
      → tagged rest o ≡ Ok x
      → ((number x.0 < 256) × (kind_at ks number (number x.0) ≡ Some x.0)) × (b ∷ rest ≡ (number x.0 ∷ []) ++ x.1) × AreBytes x.1
  tag_only b rest x h None is e = absurd cc
  tag_only b rest x h (Some k) is e =
      let same : (k, rest) ≡ x = cc in
      let found = found_number number ks b k is in
      subst (λ (y : K × List ℕ). ((number y.0 < 256) × (kind_at ks number (number y.0) ≡ Some y.0)) × (b ∷ rest ≡ (number y.0 ∷ []) ++ y.1) × AreBytes y.1) same
      ((omega (arith, h 0, found), ap (kind_at ks number) found ∙ is), ap (λ n. n ∷ rest) (sym found), λ i. h (suc i))

  tag_stuck : (b : ℕ) (rest : List ℕ) (left : ℕ) → b < 256 → (o : Option K) → kind_at ks number b ≡ o → tagged rest o ≡ Err left
      → IsStuck (tag_form ks number) (b ∷ rest) left
  unfolding tag_form
  tag_stuck b rest left h None is e = record {
    front = [];
    back = b ∷ rest;
    split = refl;
    len = cc;
    begun = (some.0, number some.0 ∷ [], some.1, refl);
    shut = λ behind. tag_here b behind h ∙ ap (tagged behind) is;
  }
  tag_stuck b rest left h (Some k) is e = absurd cc

  none_here : (left : ℕ) → tag_at ks number [] ≡ Err left → left ≡ 0
  unfolding byte_in
  none_here left e = cc

  tag_nothing : (x : K × List ℕ) → tag_at ks number [] ≡ Ok x → ⊥
  unfolding byte_in
  tag_nothing x e = absurd cc

  pub tag_law : IsForm (tag_form ks number)
  unfolding tag_form
  tag_law = record {
    some = some;
    again = λ v rest k. tag_here (number v) rest k.0 ∙ ap (tagged rest) k.1;
    only = λ bytes x h e. read_only bytes x h e;
    stuck = λ bytes left h e. read_stuck bytes left h e;
  }
    where
      read_only : (bytes : List ℕ) (x : K × List ℕ) → AreBytes bytes → tag_at ks number bytes ≡ Ok x
          → ((number x.0 < 256) × (kind_at ks number (number x.0) ≡ Some x.0)) × (bytes ≡ (number x.0 ∷ []) ++ x.1) × AreBytes x.1
      read_only [] x h e = absurd (tag_nothing x e)
      read_only (b ∷ bytes) x h e = tag_only b bytes x h (kind_at ks number b) refl (sym (tag_here b bytes (h 0)) ∙ e)

      read_stuck : (bytes : List ℕ) (left : ℕ) → AreBytes bytes → tag_at ks number bytes ≡ Err left → IsStuck (tag_form ks number) bytes left
      read_stuck [] left h e = record {
        front = [];
        back = [];
        split = refl;
        len = none_here left e;
        begun = (some.0, number some.0 ∷ [], some.1, refl);
        shut = tt;
      }
      read_stuck (b ∷ bytes) left h e =
          tag_stuck b bytes left (h 0) (kind_at ks number b) refl (sym (tag_here b bytes (h 0)) ∙ e)

-- What is read, byte by byte.

-- the first byte and those behind it
byte_first : (test : ℕ → Bool) (b : ℕ) (bytes : List ℕ) (x : ℕ × List ℕ) → (passes : Bool) → test b ≡ passes
    → byte_at test (b ∷ bytes) ≡ Ok x → b ∷ bytes ≡ x.0 ∷ x.1
byte_first test b bytes x true is e =
    let there : byte_at test (b ∷ bytes) ≡ Ok (b, bytes) = rw is refl in
    let same : (b, bytes) ≡ x = cc in
    ap (λ (y : ℕ × List ℕ). y.0 ∷ y.1) same
byte_first test b bytes x false is e =
    let there : byte_at test (b ∷ bytes) ≡ Err (suc (length bytes)) = rw is refl in
    absurd cc

byte_is_first : (test : ℕ → Bool) (bytes : List ℕ) (x : ℕ × List ℕ) → byte_at test bytes ≡ Ok x → bytes ≡ x.0 ∷ x.1
byte_is_first test [] x e = absurd cc
byte_is_first test (b ∷ bytes) x e = byte_first test b bytes x (test b) refl e

-- no kind stands behind a byte that was read
pub tag_none : {K : Type 0} (ks : List K) (number : K → ℕ) (bytes new : List ℕ) (n left : ℕ)
    → (byte_from_to 0 255).read bytes ≡ Ok (n, new) → None ≡ kind_at ks number n → left ≡ length bytes
    → (tag_form ks number).read bytes ≡ Err left
unfolding byte_in tag_form
tag_none {K = K} ks number bytes new n left read is len =
    let first = byte_is_first (λ c. nat_le 0 c && nat_le c 255) bytes (n, new) read in
    bind_ok _ _ (λ (x : ℕ × List ℕ). tagged x.1 (kind_at ks number x.0)) read ∙ ap (tagged new) (sym is)
    ∙ ap (λ m. Err m) (sym (len ∙ ap length first))

-- From the reading of a longer list to that of a shorter one.

module _ {K : Type 0} (ks js : List K) (number : K → ℕ) where
  tag_kept : (bytes new : List ℕ) (k : K) → (r : Result (ℕ × List ℕ) ℕ) → (o : Option K)
      → (x : ℕ × List ℕ) → r ≡ Ok x → kind_at ks number x.0 ≡ o → tagged x.1 o ≡ Ok (k, new)
      → (number k ≡ x.0) × (x.1 ≡ new)
  tag_kept bytes new k r None x e at is = absurd cc
  tag_kept bytes new k r (Some j) x e at is =
      let same : (j, x.1) ≡ (k, new) = cc in
      let one : j ≡ k = ap (λ (y : K × List ℕ). y.0) same in
      (ap number (sym one) ∙ found_number number ks x.0 j at, ap (λ (y : K × List ℕ). y.1) same)

  tag_in : (bytes new : List ℕ) (k : K) → (r : Result (ℕ × List ℕ) ℕ) → (byte_from_to 0 255).read bytes ≡ r
      → (r >>= λ x. tagged x.1 (kind_at ks number x.0)) ≡ Ok (k, new) → (byte_from_to 0 255).read bytes ≡ Ok (number k, new)
  tag_in bytes new k (Err n) e is = absurd cc
  tag_in bytes new k (Ok x) e is =
      let w = tag_kept bytes new k (Ok x) (kind_at ks number x.0) x refl refl is in
      e ∙ ap (λ (n : ℕ). Ok (n, x.1)) (sym w.0) ∙ ap (λ (l : List ℕ). Ok (number k, l)) w.1

  pub tag_inner : (bytes new : List ℕ) (k : K) (left : ℕ) (made : Result K ReadFault) → (tag_form ks number).read bytes ≡ Ok (k, new)
      → left ≡ length bytes → made ≡ or_left left (kind_at js number (number k))
      → Gives made new ((tag_form js number).read bytes)
  unfolding tag_form
  tag_inner bytes new k left made read len is =
      inner_by bytes new k left made (tag_in bytes new k ((byte_from_to 0 255).read bytes) refl read) len (kind_at js number (number k)) refl is
    where
      inner_by : (bytes new : List ℕ) (k : K) (left : ℕ) (made : Result K ReadFault) → (byte_from_to 0 255).read bytes ≡ Ok (number k, new)
          → left ≡ length bytes → (o : Option K) → kind_at js number (number k) ≡ o → made ≡ or_left left o
          → Gives made new (tag_at js number bytes)
      inner_by bytes new k left made read len (Some j) at is =
          subst (λ (r : Result K ReadFault). Gives r new (tag_at js number bytes)) (sym is)
          (bind_ok _ _ (λ (x : ℕ × List ℕ). tagged x.1 (kind_at js number x.0)) read ∙ ap (tagged new) at)
      inner_by bytes new k left made read len None at is =
          subst (λ (r : Result K ReadFault). Gives r new (tag_at js number bytes)) (sym is)
          (tag_none js number bytes new (number k) left read (sym at) len)

  tag_missing : (there : (k : K) → kind_at ks number (number k) ≡ Some k) (x : ℕ × List ℕ) (n : ℕ) → (o p : Option K) → kind_at ks number x.0 ≡ o
      → tagged x.1 o ≡ Err n → kind_at js number x.0 ≡ p → tagged x.1 p ≡ Err n
  tag_missing there x n (Some k) p at is is_more = absurd cc
  tag_missing there x n None None at is is_more = is
  tag_missing there x n None (Some j) at is is_more =
      let found : kind_at ks number x.0 ≡ Some j =
      ap (kind_at ks number) (sym (found_number number js x.0 j is_more)) ∙ there j in
      absurd cc

  tag_out : (there : (k : K) → kind_at ks number (number k) ≡ Some k) (n : ℕ) → (r : Result (ℕ × List ℕ) ℕ)
      → (r >>= λ x. tagged x.1 (kind_at ks number x.0)) ≡ Err n → (r >>= λ x. tagged x.1 (kind_at js number x.0)) ≡ Err n
  tag_out there n (Err m) is = is
  tag_out there n (Ok x) is = tag_missing there x n (kind_at ks number x.0) (kind_at js number x.0) refl is refl

  -- where the longer list has none, the shorter has none
  pub tag_fewer : (there : (k : K) → kind_at ks number (number k) ≡ Some k) (bytes new : List ℕ) (fault : ReadFault)
      → Gives {A = K} (Err fault) new ((tag_form ks number).read bytes)
      → Gives {A = K} (Err fault) new ((tag_form js number).read bytes)
  unfolding tag_form
  tag_fewer there bytes new (faults.Left n) is = tag_out there n ((byte_from_to 0 255).read bytes) is
  tag_fewer there bytes new faults.Memory is = tt

-- A kind that was read is found by its number.

found_again : {K : Type 0} (ks : List K) (number : K → ℕ) (x : ℕ × List ℕ) (k : K) (new : List ℕ) → (o : Option K)
    → kind_at ks number x.0 ≡ o → tagged x.1 o ≡ Ok (k, new) → kind_at ks number (number k) ≡ Some k
found_again ks number x k new None at is = absurd cc
found_again {K = K} ks number x k new (Some j) at is =
    let same : (j, x.1) ≡ (k, new) = cc in
    let one : j ≡ k = ap (λ (y : K × List ℕ). y.0) same in
    ap (λ (i : K). kind_at ks number (number i)) (sym one) ∙ ap (kind_at ks number) (found_number number ks x.0 j at) ∙ at
    ∙ ap (λ (i : K). Some i) one

found_by : {K : Type 0} (ks : List K) (number : K → ℕ) (r : Result (ℕ × List ℕ) ℕ) (k : K) (new : List ℕ)
    → (r >>= λ x. tagged x.1 (kind_at ks number x.0)) ≡ Ok (k, new) → kind_at ks number (number k) ≡ Some k
found_by ks number (Err n) k new is = absurd cc
found_by ks number (Ok x) k new is = found_again ks number x k new (kind_at ks number x.0) refl is

pub tag_found : {K : Type 0} (ks : List K) (number : K → ℕ) (bytes new : List ℕ) (k : K)
    → (tag_form ks number).read bytes ≡ Ok (k, new) → kind_at ks number (number k) ≡ Some k
unfolding tag_form
tag_found ks number bytes new k read = found_by ks number ((byte_from_to 0 255).read bytes) k new read
