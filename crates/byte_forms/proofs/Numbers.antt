-- The laws of bytes and of numbers.
use Rattle.std.proofs.Common.{◌≡◌, ℕ, zero, suc, ◌+◌, ◌-◌, ◌<◌, ◌≤◌, ◌^◌, Bool, true, false, List, [], ◌∷◌, ◌++◌, length, take, drop, refl, sym, ap, subst, ◌∙◌, inl, inr, arith, append-nil, length-append}
use Rattle.std.specs.Prelude.{Ok, Err, nat_le}
use Rattle.std.specs.Int.{w32, w64, to_be_bytes, from_be_bytes}
use Rattle.std.proofs.lemmas.Bool.{cases_lt}
use Rattle.std.proofs.lemmas.Bool.Decides.{nat_tests}
use Rattle.std.proofs.lemmas.List.{take_at, drop_at, take-append-drop, get_or-drop, length-take-le}
use Rattle.std.proofs.lemmas.Nat.{be_bytes_4, be_bytes_8, from_be_bytes-to_be_bytes_4, from_be_bytes-to_be_bytes_8}
use Rattle.byte_forms.specs.Forms.{Form, AreBytes, IsStuck, IsForm}
use Rattle.byte_forms.specs.Parts.{byte_in, byte_at, number_in, u32_form, u64_form}

-- A byte that passes a test.

module _ (test : ℕ → Bool) where
  byte_again : (b : ℕ) (rest : List ℕ) → test b ≡ true → byte_at test (b ∷ rest) ≡ Ok (b, rest)
  byte_again b rest h = rw h refl

  byte_only : (b : ℕ) (bytes : List ℕ) (x : ℕ × List ℕ) → AreBytes (b ∷ bytes) → (passes : Bool) → test b ≡ passes
      → byte_at test (b ∷ bytes) ≡ Ok x → ((x.0 < 256) × (test x.0 ≡ true)) × (b ∷ bytes ≡ (x.0 ∷ []) ++ x.1) × AreBytes x.1
  byte_only b bytes x h true is e =
      let there : byte_at test (b ∷ bytes) ≡ Ok (b, bytes) = byte_again b bytes is in
      let same : (b, bytes) ≡ x = cc in
      subst (λ (y : ℕ × List ℕ). ((y.0 < 256) × (test y.0 ≡ true)) × (b ∷ bytes ≡ (y.0 ∷ []) ++ y.1) × AreBytes y.1) same
      ((h 0, is), refl, λ i. h (suc i))
  byte_only b bytes x h false is e =
      let there : byte_at test (b ∷ bytes) ≡ Err (suc (length bytes)) = rw is refl in
      absurd cc

  byte_stuck : (b : ℕ) (bytes : List ℕ) (left : ℕ) (some : (v : ℕ) × ((v < 256) × (test v ≡ true))) → (passes : Bool)
      → test b ≡ passes → byte_at test (b ∷ bytes) ≡ Err left → IsStuck (byte_in test) (b ∷ bytes) left
  unfolding byte_in
  byte_stuck b bytes left some true is e =
      let there : byte_at test (b ∷ bytes) ≡ Ok (b, bytes) = byte_again b bytes is in
      absurd cc
  byte_stuck b bytes left some false is e =
      let there : byte_at test (b ∷ bytes) ≡ Err (suc (length bytes)) = rw is refl in record {
        front = [];
        back = b ∷ bytes;
        split = refl;
        len = cc;
        begun = (some.0, some.0 ∷ [], some.1, refl);
        shut = λ rest. rw is refl;
      }

  pub byte_law : (v : ℕ) × ((v < 256) × (test v ≡ true)) → IsForm (byte_in test)
  unfolding byte_in
  byte_law some = record {
    some = some;
    again = λ v rest k. byte_again v rest k.1;
    only = λ bytes x h e. read_only bytes x h e;
    stuck = λ bytes left h e. read_stuck bytes left e;
  }
    where
      read_only : (bytes : List ℕ) (x : ℕ × List ℕ) → AreBytes bytes → byte_at test bytes ≡ Ok x
          → ((x.0 < 256) × (test x.0 ≡ true)) × (bytes ≡ (x.0 ∷ []) ++ x.1) × AreBytes x.1
      read_only [] x h e = absurd cc
      read_only (b ∷ bytes) x h e = byte_only b bytes x h (test b) refl e

      read_stuck : (bytes : List ℕ) (left : ℕ) → byte_at test bytes ≡ Err left → IsStuck (byte_in test) bytes left
      read_stuck [] left e = record {
        front = [];
        back = [];
        split = refl;
        len = cc;
        begun = (some.0, some.0 ∷ [], some.1, refl);
        shut = tt;
      }
      read_stuck (b ∷ bytes) left e = byte_stuck b bytes left some (test b) refl e

-- A number of so many bytes.

-- zeros behind bytes
zeros : ℕ → List ℕ
zeros zero = []
zeros (suc n) = 0 ∷ zeros n

length-zeros : (n : ℕ) → length (zeros n) ≡ n
unfolding zeros
length-zeros zero = refl
length-zeros (suc n) = omega (arith, length-zeros n)

zeros_are_bytes : (n : ℕ) → AreBytes (zeros n)
unfolding zeros
zeros_are_bytes zero i = omega arith
zeros_are_bytes (suc n) zero = omega arith
zeros_are_bytes (suc n) (suc i) = zeros_are_bytes n i

bytes_then : (front back : List ℕ) → AreBytes front → AreBytes back → AreBytes (front ++ back)
bytes_then [] back f b i = b i
bytes_then (x ∷ front) back f b zero = f 0
bytes_then (x ∷ front) back f b (suc i) = bytes_then front back (λ j. f (suc j)) b i

first_bytes : (n : ℕ) (bytes : List ℕ) → AreBytes bytes → AreBytes (take n bytes)
first_bytes zero bytes h i = omega arith
first_bytes (suc n) [] h i = omega arith
first_bytes (suc n) (b ∷ bytes) h zero = h 0
first_bytes (suc n) (b ∷ bytes) h (suc i) = first_bytes n bytes (λ j. h (suc j)) i

bytes_after : (n : ℕ) (bytes : List ℕ) → AreBytes bytes → AreBytes (drop n bytes)
bytes_after n bytes h i = rw get_or-drop (h (n + i))

module _ (count limit : ℕ) (to : ℕ → List ℕ) (from : List ℕ → ℕ) (some : 0 < limit) (len : (n : ℕ) → length (to n) ≡ count) (there : (n : ℕ) → n < limit → from (to n) ≡ n) (here : (bytes : List ℕ) → length bytes ≡ count → AreBytes bytes → (from bytes < limit) × (to (from bytes) ≡ bytes)) where
  abbrev number_form : Form ℕ
  number_form = record { fits = λ n. n < limit; code = to; read = number_in count from }

  enough : (bytes : List ℕ) → count ≤ length bytes → number_in count from bytes ≡ Ok (from (take count bytes), drop count bytes)
  enough bytes h = let t : nat_le count (length bytes) ≡ true = grind (arith, nat_tests) in rw t refl

  too_few : (bytes : List ℕ) → length bytes < count → number_in count from bytes ≡ Err 0
  too_few bytes h = let t : nat_le count (length bytes) ≡ false = grind (arith, nat_tests) in rw t refl

  number_again : (n : ℕ) (rest : List ℕ) → n < limit → number_in count from (to n ++ rest) ≡ Ok (n, rest)
  number_again n rest h =
      enough (to n ++ rest) (omega (arith, length-append (to n) rest, len n))
      ∙ rw (take_at (to n) rest count (len n), drop_at (to n) rest count (len n), there n h) refl

  number_only : (bytes : List ℕ) (x : ℕ × List ℕ) → AreBytes bytes → number_in count from bytes ≡ Ok x
      → (x.0 < limit) × (bytes ≡ to x.0 ++ x.1) × AreBytes x.1
  number_only bytes x b e = elim (cases_lt (length bytes) count) [
    | inl few ↦ let t = too_few bytes few in absurd cc
    | inr many ↦
        let t = enough bytes many in
        let same : (from (take count bytes), drop count bytes) ≡ x = cc in
        let h = here (take count bytes) (length-take-le count bytes many) (first_bytes count bytes b) in
        subst (λ (y : ℕ × List ℕ). (y.0 < limit) × (bytes ≡ to y.0 ++ y.1) × AreBytes y.1) same
        (h.0, sym (ap (λ l. l ++ drop count bytes) h.1 ∙ take-append-drop count bytes), bytes_after count bytes b)
  ]

  number_stuck : (bytes : List ℕ) (left : ℕ) → AreBytes bytes → number_in count from bytes ≡ Err left → IsStuck number_form bytes left
  number_stuck bytes left b e = elim (cases_lt (length bytes) count) [
    | inl few ↦
        let t = too_few bytes few in
        let more = zeros (count - length bytes) in
        let h = here (bytes ++ more) (omega (arith, length-append bytes more, length-zeros (count - length bytes)))
        (bytes_then bytes more b (zeros_are_bytes (count - length bytes))) in record {
          front = bytes;
          back = [];
          split = sym (append-nil bytes);
          len = cc;
          begun = (from (bytes ++ more), more, h.0, h.1);
          shut = tt;
        }
    | inr many ↦ let t = enough bytes many in absurd cc
  ]

  number_law : IsForm number_form
  number_law = record { some = (0, some); again = number_again; only = number_only; stuck = number_stuck }

limit_4 : (bytes : List ℕ) → length bytes ≡ 4 → AreBytes bytes → from_be_bytes w32 bytes < 2 ^ 32
limit_4 bytes len b = omega (arith, b 0, b 1, b 2, b 3)

limit_8 : (bytes : List ℕ) → length bytes ≡ 8 → AreBytes bytes → from_be_bytes w64 bytes < 2 ^ 64
limit_8 bytes len b = omega (arith, b 0, b 1, b 2, b 3, b 4, b 5, b 6, b 7)

pub u32_law : IsForm u32_form
unfolding u32_form
u32_law =
    number_law 4 (2 ^ 32) (to_be_bytes w32) (from_be_bytes w32) (omega arith) (λ n. refl) from_be_bytes-to_be_bytes_4
    (λ bytes len b. (limit_4 bytes len b, be_bytes_4 bytes (from_be_bytes w32 bytes) len b refl))

pub u64_law : IsForm u64_form
unfolding u64_form
u64_law =
    number_law 8 (2 ^ 64) (to_be_bytes w64) (from_be_bytes w64) (omega arith) (λ n. refl) from_be_bytes-to_be_bytes_8
    (λ bytes len b. (limit_8 bytes len b, be_bytes_8 bytes (from_be_bytes w64 bytes) len b refl))
