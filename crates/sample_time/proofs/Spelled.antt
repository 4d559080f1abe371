-- The parts that are read of a text are those that spell it, and no others do.
use Rattle.std.proofs.Common.{◌≡◌, ℕ, ◌<◌, ◌≤◌, ◌⊎◌, inl, inr, Bool, true, false, cond, eqb, ltb, ◌&&◌, ◌||◌, List, [], ◌∷◌, ◌++◌, length, take, drop, Option, Some, None, arith, refl, sym, ap, ◌∙◌, subst}
use Rattle.std.specs.Option.{option_map}
use Rattle.std.specs.Char.{digit_value, is_ascii_digit}
use Rattle.std.specs.Str.Parse.{AllDigits, IsNumeral}
use Rattle.std.proofs.lemmas.Bool.Decides.{nat_tests}
use Rattle.std.proofs.lemmas.List.{take_at, drop_at, take-append-drop}
use Rattle.std.proofs.lemmas.List.Folds.{prefix_len-append, length-prefix_len}
use Rattle.std.proofs.lemmas.Option.{option_and_then_some}
use Rattle.sample_time.proofs.Digits.{all_digits_taken, all_digits}
use Rattle.sample_time.specs.Spelling.{DecimalText}
use Rattle.sample_time.specs.Inner.Spelling.{IsSign, IsFraction, IsPower, Spells}
use Rattle.sample_time.specs.Reading.{has_minus, after_sign, digit_count, numeral_at, fraction_at, after_fraction, power_at, with_power, parts_behind, parts_at}

-- digits are neither signs nor points nor markers
digit_is : (d : ℕ) → digit_value d < 10 → (48 ≤ d) × (d ≤ 57)
digit_is d digit = (grind (arith, nat_tests), grind (arith, nat_tests))

digit_passes : (d : ℕ) → digit_value d < 10 → is_ascii_digit d ≡ true
digit_passes d digit = grind (arith, nat_tests)

marker_fails : (m : ℕ) → (m ≡ 101) ⊎ (m ≡ 69) → is_ascii_digit m ≡ false
marker_fails m is = grind (arith, nat_tests)

marker_apart : (m : ℕ) → (m ≡ 101) ⊎ (m ≡ 69) → eqb m 46 ≡ false
marker_apart m is = grind (arith, nat_tests)

marker_passes : (m : ℕ) → (m ≡ 101) ⊎ (m ≡ 69) → (eqb m 101 || eqb m 69) ≡ true
marker_passes m is = grind (arith, nat_tests)

count_of_digits : (ds : List ℕ) → AllDigits 10 ds → digit_count ds ≡ length ds
count_of_digits [] all = refl
count_of_digits (d ∷ ds) all =
    let first : is_ascii_digit d ≡ true = digit_passes d all.0 in
    let rest = count_of_digits ds all.1 in
    rw first (omega arith)

-- digits in front of what begins with none
count_in_front : (ds rest : List ℕ) → AllDigits 10 ds → digit_count rest ≡ 0 → digit_count (ds ++ rest) ≡ length ds
count_in_front ds rest all stops =
    let front = count_of_digits ds all in
    prefix_len-append is_ascii_digit ds rest ∙ grind (arith, nat_tests)

numeral_in_front : (ds rest : List ℕ) → IsNumeral 10 ds → digit_count rest ≡ 0 → numeral_at (ds ++ rest) ≡ Some ds
unfolding numeral_at
numeral_in_front ds rest numeral stops =
    let count : digit_count (ds ++ rest) ≡ length ds = count_in_front ds rest numeral.1 stops in
    let some : eqb (length ds) 0 ≡ false = grind (arith, nat_tests) in
    rw (count, some) (ap Some (take_at ds rest (length ds) refl))

-- a sign in front of a digit
sign_in_front : (s : List ℕ) (negative : Bool) (d : ℕ) (ds : List ℕ) → IsSign s negative → digit_value d < 10 → (after_sign (s ++ (d ∷ ds)) ≡ d ∷ ds) × (has_minus (s ++ (d ∷ ds)) ≡ negative)
sign_in_front s negative d ds (inl none) digit =
    let minus : eqb d 45 ≡ false = grind (arith, nat_tests) in
    let plus : eqb d 43 ≡ false = grind (arith, nat_tests) in
    rw (none.0, none.1, minus, plus) (refl, refl)
sign_in_front s negative d ds (inr (inl plus)) digit = rw (plus.0, plus.1) (refl, refl)
sign_in_front s negative d ds (inr (inr minus)) digit = rw (minus.0, minus.1) (refl, refl)

no_digit_of_power : (text : List ℕ) (negative : Bool) (ds : List ℕ) → IsPower text negative ds → digit_count text ≡ 0
no_digit_of_power text negative ds (inl none) = rw none.0 refl
no_digit_of_power text negative ds (inr marked) =
    let no : is_ascii_digit marked.marker ≡ false = marker_fails marked.marker marked.is_marker in
    rw (marked.written, no) refl

fraction_in_front : (f ds e : List ℕ) (negative : Bool) (power : List ℕ) → IsFraction f ds → IsPower e negative power → (fraction_at (f ++ e) ≡ Some ds) × (after_fraction (f ++ e) ≡ e)
unfolding fraction_at after_fraction
fraction_in_front f ds e negative power (inl none) (inl nothing) = rw (none.0, none.1, nothing.0) (refl, refl)
fraction_in_front f ds e negative power (inl none) (inr marked) =
    let no : eqb marked.marker 46 ≡ false = marker_apart marked.marker marked.is_marker in
    rw (none.0, none.1, marked.written, no) (refl, refl)
fraction_in_front f ds e negative power (inr point) is =
    let stops = no_digit_of_power e negative power is in
    let count : digit_count (ds ++ e) ≡ length ds = count_in_front ds e point.1.1 stops in
    rw (point.0, numeral_in_front ds e point.1 stops, count) (refl, drop_at ds e (length ds) refl)

power_in_front : (e : List ℕ) (negative : Bool) (ds : List ℕ) → IsPower e negative ds → power_at e ≡ Some (negative, ds)
unfolding power_at
power_in_front e negative ds (inl none) = rw (none.0, none.1, none.2) refl
power_in_front e negative [] (inr marked) = absurd (omega (arith, marked.numeral.0))
power_in_front e negative (d ∷ ds) (inr marked) =
    let is : (eqb marked.marker 101 || eqb marked.marker 69) ≡ true = marker_passes marked.marker marked.is_marker in
    let sign = sign_in_front marked.sign_text negative d ds marked.sign marked.numeral.1.0 in
    let count : digit_count (d ∷ ds) ≡ length (d ∷ ds) = count_of_digits (d ∷ ds) marked.numeral.1 in
    rw (marked.written, is, sign.0, sign.1, count) (grind (arith, nat_tests))

no_digit_behind : (f ds e : List ℕ) (negative : Bool) (power : List ℕ) → IsFraction f ds → IsPower e negative power → digit_count (f ++ e) ≡ 0
no_digit_behind f ds e negative power (inl none) is = rw none.0 (no_digit_of_power e negative power is)
no_digit_behind f ds e negative power (inr point) is = rw point.0 refl

parts_from : (s : List ℕ) (negative : Bool) (w f fraction e : List ℕ) (shrinks : Bool) (power : List ℕ) → IsSign s negative → IsNumeral 10 w → IsFraction f fraction → IsPower e shrinks power → parts_at (s ++ (w ++ (f ++ e))) ≡ Some (record { negative = negative; whole = w; fraction = fraction; shrinks = shrinks; power = power })
unfolding parts_at parts_behind with_power
parts_from s negative [] f fraction e shrinks power sign numeral point marked = absurd (omega (arith, numeral.0))
parts_from s negative (d ∷ ds) f fraction e shrinks power sign numeral point marked =
    let signs = sign_in_front s negative d (ds ++ (f ++ e)) sign numeral.1.0 in
    let whole : numeral_at (d ∷ (ds ++ (f ++ e))) ≡ Some (d ∷ ds) = numeral_in_front (d ∷ ds) (f ++ e) numeral (no_digit_behind f fraction e shrinks power point marked) in
    let behind : drop (length (d ∷ ds)) (d ∷ (ds ++ (f ++ e))) ≡ f ++ e = drop_at (d ∷ ds) (f ++ e) (length (d ∷ ds)) refl in
    let fractions = fraction_in_front f fraction e shrinks power point marked in
    let powers = power_in_front e shrinks power marked in
    rw (signs.0, whole, behind, fractions.0, fractions.1, powers, signs.1) refl

-- the parts that spell a text are read of it
pub parts_spelled : (text : List ℕ) (parts : DecimalText) → Spells text parts → parts_at text ≡ Some parts
parts_spelled text parts spells =
    rw spells.written (parts_from spells.sign_text parts.negative parts.whole spells.fraction_text parts.fraction spells.power_text parts.shrinks parts.power spells.sign spells.whole spells.fraction spells.power)

-- the sign that a text begins with
sign_read_if : (plus minus : Bool) (b : ℕ) (bs : List ℕ) → eqb b 43 ≡ plus → eqb b 45 ≡ minus → (s : List ℕ) × ((b ∷ bs ≡ s ++ cond (plus || minus) bs (b ∷ bs)) × IsSign s minus)
sign_read_if true true b bs plus minus =
    let is : b ≡ 45 = grind (arith, nat_tests) in (45 ∷ [], (ap (λ x. x ∷ bs) is, inr (inr (refl, refl))))
sign_read_if false true b bs plus minus =
    let is : b ≡ 45 = grind (arith, nat_tests) in (45 ∷ [], (ap (λ x. x ∷ bs) is, inr (inr (refl, refl))))
sign_read_if true false b bs plus minus =
    let is : b ≡ 43 = grind (arith, nat_tests) in (43 ∷ [], (ap (λ x. x ∷ bs) is, inr (inl (refl, refl))))
sign_read_if false false b bs plus minus = ([], (refl, inl (refl, refl)))

sign_read : (text : List ℕ) → (s : List ℕ) × ((text ≡ s ++ after_sign text) × IsSign s (has_minus text))
sign_read [] = ([], (refl, inl (refl, refl)))
sign_read (b ∷ bs) = sign_read_if (eqb b 43) (eqb b 45) b bs refl refl

-- the numeral that a text begins with
pub record BeginsWith (bs w : List ℕ) : Type 0 where
  pub front : bs ≡ w ++ drop (length w) bs
  pub numeral : IsNumeral 10 w
  pub count : digit_count bs ≡ length w

taken : (bs : List ℕ) → eqb (digit_count bs) 0 ≡ false → BeginsWith bs (take (digit_count bs) bs)
taken bs some =
    let count : length (take (digit_count bs) bs) ≡ digit_count bs = length-prefix_len is_ascii_digit bs in
    record {
      front = rw count (sym (take-append-drop (digit_count bs) bs));
      numeral = (rw count (grind (arith, nat_tests)), all_digits_taken bs);
      count = sym count;
    }

numeral_read_if : (none : Bool) (bs w : List ℕ) → eqb (digit_count bs) 0 ≡ none → cond none None (Some (take (digit_count bs) bs)) ≡ Some w → BeginsWith bs w
numeral_read_if true bs w test is = cc
numeral_read_if false bs w test is =
    let same : take (digit_count bs) bs ≡ w = cc in subst (BeginsWith bs) same (taken bs test)

numeral_read : (bs w : List ℕ) → numeral_at bs ≡ Some w → BeginsWith bs w
unfolding numeral_at
numeral_read bs w is = numeral_read_if (eqb (digit_count bs) 0) bs w refl is

-- the fraction that a text begins with
fraction_read_if : (point : Bool) (b : ℕ) (bs f : List ℕ) → eqb b 46 ≡ point → cond point (numeral_at bs) (Some []) ≡ Some f → (t : List ℕ) × ((b ∷ bs ≡ t ++ cond point (drop (digit_count bs) bs) (b ∷ bs)) × IsFraction t f)
fraction_read_if true b bs f test is =
    let point : b ≡ 46 = grind (arith, nat_tests) in
    let begins = numeral_read bs f is in
    (46 ∷ f, (rw (point, begins.count) (ap (λ x. 46 ∷ x) begins.front), inr (refl, begins.numeral)))
fraction_read_if false b bs f test is = let none : f ≡ [] = cc in ([], (refl, inl (refl, none)))

fraction_read : (rest f : List ℕ) → fraction_at rest ≡ Some f → (t : List ℕ) × ((rest ≡ t ++ after_fraction rest) × IsFraction t f)
unfolding fraction_at after_fraction
fraction_read [] f is = let none : f ≡ [] = cc in ([], (refl, inl (refl, none)))
fraction_read (b ∷ bs) f is = fraction_read_if (eqb b 46) b bs f refl is

-- the exponent that a text is
power_read_if : (b : ℕ) (bs : List ℕ) → ((eqb b 101 || eqb b 69) && ltb 0 (length (after_sign bs)) && eqb (digit_count (after_sign bs)) (length (after_sign bs))) ≡ true → IsPower (b ∷ bs) (has_minus bs) (after_sign bs)
power_read_if b bs test =
    let signed = sign_read bs in
    let marker : (b ≡ 101) ⊎ (b ≡ 69) = grind (arith, nat_tests) in
    let some : 0 < length (after_sign bs) = grind (arith, nat_tests) in
    let whole : digit_count (after_sign bs) ≡ length (after_sign bs) = grind (arith, nat_tests) in
    inr (record { marker = b; sign_text = signed.0; written = ap (λ x. b ∷ x) signed.1.0; is_marker = marker; sign = signed.1.1; numeral = (some, all_digits (after_sign bs) whole) })

power_given : (test : Bool) (e : List ℕ) (negative : Bool) (ds : List ℕ) (q : Bool × List ℕ) → cond test (Some (negative, ds)) None ≡ Some q → (test ≡ true → IsPower e negative ds) → IsPower e q.0 q.1
power_given true e negative ds q is given =
    let same : (negative, ds) ≡ q = cc in
    subst (λ (x : Bool × List ℕ). IsPower e x.0 x.1) same (given refl)
power_given false e negative ds q is given = cc

power_read : (e : List ℕ) (q : Bool × List ℕ) → power_at e ≡ Some q → IsPower e q.0 q.1
unfolding power_at
power_read [] q is =
    let same : (false, []) ≡ q = cc in
    subst (λ (x : Bool × List ℕ). IsPower [] x.0 x.1) same (inl (refl, refl, refl))
power_read (b ∷ bs) q is = power_given _ (b ∷ bs) (has_minus bs) (after_sign bs) q is (power_read_if b bs)

mapped : {A B : Type 0} (f : A → B) (o : Option A) (y : B) → option_map f o ≡ Some y → (x : A) × ((o ≡ Some x) × (f x ≡ y))
mapped f None y is = cc
mapped f (Some x) y is = (x, (refl, cc))

behind_read : (text w : List ℕ) (parts : DecimalText) → BeginsWith (after_sign text) w → parts_behind text w (drop (length w) (after_sign text)) ≡ Some parts → Spells text parts
unfolding parts_behind with_power
behind_read text w parts begins is =
    let rest : List ℕ = drop (length w) (after_sign text) in
    option_and_then_some (λ (fraction : List ℕ). option_map (with_power text w fraction) (power_at (after_fraction rest))) (fraction_at rest) parts is
    (λ f at given.
    let power = mapped (with_power text w f) (power_at (after_fraction rest)) parts given in
    let signed = sign_read text in
    let point = fraction_read rest f at in
    let spells : Spells text (with_power text w f power.0) = record {
      sign_text = signed.0;
      fraction_text = point.0;
      power_text = after_fraction rest;
      written = signed.1.0 ∙ ap (λ x. signed.0 ++ x) (begins.front ∙ ap (λ x. w ++ x) point.1.0);
      sign = signed.1.1;
      whole = begins.numeral;
      fraction = point.1.1;
      power = power_read (after_fraction rest) power.0 power.1.0;
    } in
    subst (Spells text) power.1.1 spells)

-- the parts that are read of a text spell it
pub parts_read : (text : List ℕ) (parts : DecimalText) → parts_at text ≡ Some parts → Spells text parts
unfolding parts_at
parts_read text parts is =
    option_and_then_some (λ (whole : List ℕ). parts_behind text whole (drop (length whole) (after_sign text))) (numeral_at (after_sign text)) parts is
    (λ w at behind. behind_read text w parts (numeral_read (after_sign text) w at) behind)
