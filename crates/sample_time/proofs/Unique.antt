-- A text is spelled in one way, and has one reading.
use Rattle.std.proofs.Common.{◌≡◌, ◌≢◌, ℕ, zero, suc, ◌+◌, ◌*◌, ◌%◌, ◌^◌, ◌<◌, ◌⊎◌, inl, inr, Bool, true, false, IsTrue, List, Result, Ok, Err, ℤ, pos, ◌+ℤ◌, arith, refl, sym, ap, ◌∙◌, subst}
use Rattle.std.proofs.Math.Nat.{pow-suc, eq_of_mul-eq-mul_right}
use Rattle.std.proofs.lemmas.Nat.{mod-mul-add}
use Rattle.sample_time.proofs.Powers.{ten_positive}
use Rattle.sample_time.specs.declared.decimal.Decimal.{Decimal}
use Rattle.sample_time.specs.declared.decimal.NumberFault.{NumberFault}
use Rattle.sample_time.specs.declared.decimal.NumberFault.TheVariants.{NotANumber, TooManyDigits}
use Rattle.sample_time.specs.Spelling.{DecimalText, power_of}
use Rattle.sample_time.specs.Inner.Spelling.{Spells, IsTrimmed, IsValue, IsReading, number_of}
use Rattle.sample_time.proofs.Spelled.{parts_spelled}

pub one_spelling : (text : List ℕ) (p q : DecimalText) → Spells text p → Spells text q → p ≡ q
one_spelling text p q left right =
    let first = parts_spelled text p left in
    let second = parts_spelled text q right in
    cc

-- a number that ends in a zero, and of which no zero can be dropped, is 0
last_zero : (d m z : ℕ) → d ≡ m * 10 → (d % 10 ≢ 0) ⊎ ((d ≡ 0) × (z ≡ 0)) → d ≡ 0
last_zero d m z is (inl last) =
    let zero_last : (m * 10 + 0) % 10 ≡ 0 = mod-mul-add m 10 0 (omega arith) in
    let same : d ≡ m * 10 + 0 = omega arith in
    absurd (last (rw same zero_last))
last_zero d m z is (inr none) = none.0

no_factor : (d p : ℕ) → 0 < p → d * p ≡ 0 → d ≡ 0
no_factor d p some is = eq_of_mul-eq-mul_right p some d 0 (omega arith)

shorter : (n d z : ℕ) → IsTrimmed n d (suc z) → IsTrimmed (d * 10 ^ z) d z
shorter n d z long = record {
  product = refl;
  trimmed = elim long.trimmed [ inl last ↦ inl last | inr none ↦ absurd (omega (arith, none.1)) ];
}

not_both : (n d m z : ℕ) → IsTrimmed n d 0 → IsTrimmed n m (suc z) → ⊥
not_both n d m z short long =
    let ten = pow-suc 10 z in
    let long_is : n ≡ m * (10 ^ z * 10) = subst (λ (x : ℕ). n ≡ m * x) ten long.product in
    let none : d ≡ 0 = last_zero d (m * 10 ^ z) 0 (omega (arith, short.product, long_is)) short.trimmed in
    let nothing : m * 10 ^ suc z ≡ 0 = omega (arith, short.product, long.product, none) in
    let no : m ≡ 0 = no_factor m (10 ^ suc z) (ten_positive (suc z)) nothing in
    elim long.trimmed [ inl last ↦ last (rw no refl) | inr zeros ↦ omega (arith, zeros.1) ]

one_trimming : (z y n d m : ℕ) → IsTrimmed n d z → IsTrimmed n m y → (d ≡ m) × (z ≡ y)
one_trimming zero zero n d m left right = (omega (arith, left.product, right.product), refl)
one_trimming zero (suc y) n d m left right = absurd (not_both n d m y left right)
one_trimming (suc z) zero n d m left right = absurd (not_both n m d z right left)
one_trimming (suc z) (suc y) n d m left right =
    let left_is : n ≡ d * (10 ^ z * 10) = subst (λ (x : ℕ). n ≡ d * x) (pow-suc 10 z) left.product in
    let right_is : n ≡ m * (10 ^ y * 10) = subst (λ (x : ℕ). n ≡ m * x) (pow-suc 10 y) right.product in
    let same : m * 10 ^ y ≡ d * 10 ^ z = omega (arith, left_is, right_is) in
    let less = subst (λ (x : ℕ). IsTrimmed x m y) same (shorter n m y right) in
    let rest = one_trimming z y (d * 10 ^ z) d m (shorter n d z left) less in
    (rest.0, ap (λ x. suc x) rest.1)

same_bool : (a b : Bool) → (IsTrue a → IsTrue b) → (IsTrue b → IsTrue a) → a ≡ b
same_bool true true to from = refl
same_bool true false to from = sym (to refl)
same_bool false true to from = from refl
same_bool false false to from = refl

same_exponent : (d : ℕ) (e f base : ℤ) (z y : ℕ) → z ≡ y → (0 < d → e ≡ base +ℤ pos z) → (d ≡ 0 → e ≡ pos 0) → (0 < d → f ≡ base +ℤ pos y) → (d ≡ 0 → f ≡ pos 0) → e ≡ f
same_exponent zero e f base z y same some_e none_e some_f none_f = none_e refl ∙ sym (none_f refl)
same_exponent (suc d) e f base z y same some_e none_e some_f none_f =
    some_e (omega arith) ∙ (ap (λ x. base +ℤ pos x) same ∙ sym (some_f (omega arith)))

same_decimal : (a b : Decimal) → a.negative ≡ b.negative → a.digits ≡ b.digits → a.exponent ≡ b.exponent → a ≡ b
same_decimal a b negative digits exponent =
    λ i. record { negative = negative i; digits = digits i; exponent = exponent i }

one_value : (parts : DecimalText) (a b : Decimal) → IsValue parts a → IsValue parts b → a ≡ b
one_value parts a b left right =
    let trimming = one_trimming left.zeros right.zeros (number_of parts) a.digits b.digits left.trimmed right.trimmed in
    let digits = trimming.0 in
    same_decimal a b
    (same_bool a.negative b.negative
    (λ h. let is = left.negative.0 h in right.negative.1 (is.0, omega (arith, is.1)))
    (λ h. let is = right.negative.0 h in left.negative.1 (is.0, omega (arith, is.1))))
    digits
    (same_exponent a.digits a.exponent b.exponent (power_of parts) left.zeros right.zeros trimming.1
    left.exponent left.no_exponent
    (λ some. right.exponent (omega arith)) (λ none. right.no_exponent (omega arith)))

not_long : (bytes : ℕ) (parts : DecimalText) (a : Decimal) → IsReading bytes parts (Ok a) → IsReading bytes parts (Err TooManyDigits) → ⊥
not_long bytes parts a read (inl long) = omega (arith, read.0)
not_long bytes parts a read (inr (inl large)) = omega (arith, read.1)
not_long bytes parts a read (inr (inr many)) =
    let value = read.3 in
    let trimming = one_trimming value.zeros many.zeros (number_of parts) a.digits many.digits value.trimmed many.trimmed in
    omega (arith, read.2, many.many, trimming.0)

pub one_reading : (bytes : ℕ) (parts : DecimalText) (a b : Result Decimal NumberFault) → IsReading bytes parts a → IsReading bytes parts b → a ≡ b
one_reading bytes parts (Ok a) (Ok b) left right = ap (λ x. Ok x) (one_value parts a b left.3 right.3)
one_reading bytes parts (Ok a) (Err TooManyDigits) left right = absurd (not_long bytes parts a left right)
one_reading bytes parts (Ok a) (Err NotANumber) left right = absurd right
one_reading bytes parts (Err TooManyDigits) (Ok b) left right = absurd (not_long bytes parts b right left)
one_reading bytes parts (Err TooManyDigits) (Err TooManyDigits) left right = refl
one_reading bytes parts (Err TooManyDigits) (Err NotANumber) left right = absurd right
one_reading bytes parts (Err NotANumber) b left right = absurd left
