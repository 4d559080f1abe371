-- Texts byte by byte: bytes that stand where they may.
use Rattle.std.proofs.Common.{◌≡◌, ℕ, zero, suc, ◌<◌, ◌≤◌, Bool, true, false, List, [], ◌∷◌, length, refl, ap, ◌∙◌, arith, lt-ltb, le-ltb}
use Rattle.std.specs.Prelude.{nat_lt, if◌then◌else◌}
use Rattle.std.proofs.lemmas.Bool.{cond-true, cond-false}
use Rattle.std.proofs.lemmas.Bool.Decides.{nat_tests}
use Rattle.byte_forms.specs.declared.utf8.Range.{Range}
use Rattle.byte_forms.specs.Forms.{Form, IsForm}
use Rattle.byte_forms.specs.Parts.{imaged, byte_in, FitsAs}
use Rattle.byte_forms.specs.Utf8.{from_to, any_more, is_first, asked, may_stand, then_asked, first_of, rest_of, walk}
use Rattle.byte_forms.proofs.Laws.{just_law, imaged_law, led_law}
use Rattle.byte_forms.proofs.Numbers.{byte_law}

-- a byte lies in each range
abbrev pub AreRanges : List Range → Type 0
AreRanges [] = Unit {0}
AreRanges (range ∷ ranges) = (range.low ≤ range.high) × (range.high < 256) × AreRanges ranges

-- a byte stands where these ranges are asked for
abbrev pub Stands : List Range → ℕ → Type 0
Stands [] b = is_first b ≡ true
Stands (range ∷ ranges) b = (range.low ≤ b) × (b ≤ range.high)

-- each byte stands where it may, and at the end nothing is asked for
abbrev pub Runs : List Range → List ℕ → Type 0
Runs [] [] = Unit {0}
Runs (range ∷ ranges) [] = ⊥
Runs [] (b ∷ bs) = Stands [] b × Runs (asked b) bs
Runs (range ∷ ranges) (b ∷ bs) = Stands (range ∷ ranges) b × Runs ranges bs

-- What a first byte asks for, by cases.

pub asked_one : (b : ℕ) → b < 0x80 → asked b ≡ []
asked_one b h = cond-true _ _ _ (lt-ltb b 0x80 h)

pub asked_two : (b : ℕ) → 0x80 ≤ b → b < 0xe0 → asked b ≡ any_more ∷ []
asked_two b l h = cond-false _ _ _ (le-ltb b 0x80 l) ∙ cond-true _ _ _ (lt-ltb b 0xe0 h)

-- behind the tests that fail
past_two : (b : ℕ) → 0xe0 ≤ b → asked b ≡ (if nat_lt b 0xe1 then from_to 0xa0 0xbf ∷ any_more ∷ []
    else (if nat_lt b 0xed then any_more ∷ any_more ∷ []
    else (if nat_lt b 0xee then from_to 0x80 0x9f ∷ any_more ∷ []
    else (if nat_lt b 0xf0 then any_more ∷ any_more ∷ []
    else (if nat_lt b 0xf1 then from_to 0x90 0xbf ∷ any_more ∷ any_more ∷ []
    else (if nat_lt b 0xf4 then any_more ∷ any_more ∷ any_more ∷ []
    else from_to 0x80 0x8f ∷ any_more ∷ any_more ∷ []))))))
past_two b l = cond-false _ _ _ (le-ltb b 0x80 (omega arith)) ∙ cond-false _ _ _ (le-ltb b 0xe0 l)

pub asked_e0 : (b : ℕ) → 0xe0 ≤ b → b < 0xe1 → asked b ≡ from_to 0xa0 0xbf ∷ any_more ∷ []
asked_e0 b l h = past_two b l ∙ cond-true _ _ _ (lt-ltb b 0xe1 h)

pub asked_e1 : (b : ℕ) → 0xe1 ≤ b → b < 0xed → asked b ≡ any_more ∷ any_more ∷ []
asked_e1 b l h = past_two b (omega arith) ∙ cond-false _ _ _ (le-ltb b 0xe1 l) ∙ cond-true _ _ _ (lt-ltb b 0xed h)

pub asked_ed : (b : ℕ) → 0xed ≤ b → b < 0xee → asked b ≡ from_to 0x80 0x9f ∷ any_more ∷ []
asked_ed b l h =
    past_two b (omega arith) ∙ cond-false _ _ _ (le-ltb b 0xe1 (omega arith)) ∙ cond-false _ _ _ (le-ltb b 0xed l)
    ∙ cond-true _ _ _ (lt-ltb b 0xee h)

pub asked_ee : (b : ℕ) → 0xee ≤ b → b < 0xf0 → asked b ≡ any_more ∷ any_more ∷ []
asked_ee b l h =
    past_two b (omega arith) ∙ cond-false _ _ _ (le-ltb b 0xe1 (omega arith)) ∙ cond-false _ _ _ (le-ltb b 0xed (omega arith))
    ∙ cond-false _ _ _ (le-ltb b 0xee l) ∙ cond-true _ _ _ (lt-ltb b 0xf0 h)

-- behind the first bytes of three
past_three : (b : ℕ) → 0xf0 ≤ b → asked b ≡ (if nat_lt b 0xf1 then from_to 0x90 0xbf ∷ any_more ∷ any_more ∷ []
    else (if nat_lt b 0xf4 then any_more ∷ any_more ∷ any_more ∷ []
    else from_to 0x80 0x8f ∷ any_more ∷ any_more ∷ []))
past_three b l =
    past_two b (omega arith) ∙ cond-false _ _ _ (le-ltb b 0xe1 (omega arith)) ∙ cond-false _ _ _ (le-ltb b 0xed (omega arith))
    ∙ cond-false _ _ _ (le-ltb b 0xee (omega arith)) ∙ cond-false _ _ _ (le-ltb b 0xf0 l)

pub asked_f0 : (b : ℕ) → 0xf0 ≤ b → b < 0xf1 → asked b ≡ from_to 0x90 0xbf ∷ any_more ∷ any_more ∷ []
asked_f0 b l h = past_three b l ∙ cond-true _ _ _ (lt-ltb b 0xf1 h)

pub asked_f1 : (b : ℕ) → 0xf1 ≤ b → b < 0xf4 → asked b ≡ any_more ∷ any_more ∷ any_more ∷ []
asked_f1 b l h = past_three b (omega arith) ∙ cond-false _ _ _ (le-ltb b 0xf1 l) ∙ cond-true _ _ _ (lt-ltb b 0xf4 h)

pub asked_f4 : (b : ℕ) → 0xf4 ≤ b → asked b ≡ from_to 0x80 0x8f ∷ any_more ∷ any_more ∷ []
asked_f4 b l = past_three b (omega arith) ∙ cond-false _ _ _ (le-ltb b 0xf1 (omega arith)) ∙ cond-false _ _ _ (le-ltb b 0xf4 l)

-- one of two lists of ranges
ranges_either : (c : Bool) (a b : List Range) → AreRanges a → AreRanges b → AreRanges (if c then a else b)
ranges_either true a b h k = h
ranges_either false a b h k = k

any_range : AreRanges (any_more ∷ [])
any_range = (omega arith, omega arith, tt)

two_ranges : AreRanges (any_more ∷ any_more ∷ [])
two_ranges = (omega arith, omega arith, any_range)

three_ranges : AreRanges (any_more ∷ any_more ∷ any_more ∷ [])
three_ranges = (omega arith, omega arith, two_ranges)

pub asked_ranges : (b : ℕ) → AreRanges (asked b)
asked_ranges b =
    ranges_either (nat_lt b 0x80) _ _ tt (ranges_either (nat_lt b 0xe0) _ _ any_range
    (ranges_either (nat_lt b 0xe1) _ _ (omega arith, omega arith, any_range)
    (ranges_either (nat_lt b 0xed) _ _ two_ranges
    (ranges_either (nat_lt b 0xee) _ _ (omega arith, omega arith, any_range)
    (ranges_either (nat_lt b 0xf0) _ _ two_ranges
    (ranges_either (nat_lt b 0xf1) _ _ (omega arith, omega arith, two_ranges)
    (ranges_either (nat_lt b 0xf4) _ _ three_ranges (omega arith, omega arith, two_ranges))))))))

-- The law of a text byte by byte.

-- a byte that may stand
some_byte : (n : ℕ) (ranges : List Range) → AreRanges ranges → (b : ℕ) × ((b < 256) × (may_stand ranges n b ≡ true))
some_byte n [] r = (32, (omega arith, grind (arith, nat_tests)))
some_byte n (range ∷ ranges) r = (range.low, (omega arith, grind (arith, nat_tests)))

pub then_ranges : (ranges : List Range) (b : ℕ) → AreRanges ranges → AreRanges (then_asked ranges b)
then_ranges [] b r = asked_ranges b
then_ranges (range ∷ ranges) b r = r.2

first_fits : (n b : ℕ) → may_stand [] n b ≡ true → length (asked b) ≤ n
first_fits n b h = grind (arith, nat_tests)

pub then_few : (ranges : List Range) (n b : ℕ) → length ranges ≤ suc n → may_stand ranges n b ≡ true
    → length (then_asked ranges b) ≤ n
then_few [] n b few h = first_fits n b h
then_few (range ∷ ranges) n b few h = omega arith

first_is : (f : Form (List ℕ)) (b : ℕ) (v : List ℕ) → FitsAs f (λ bs. b ∷ bs) v (rest_of v) → first_of v ≡ b
first_is f b [] k = absurd k
first_is f b (c ∷ cs) k = ap first_of k.0

pub walk_law : (n : ℕ) (ranges : List Range) → length ranges ≤ n → AreRanges ranges → IsForm (walk n ranges)
unfolding byte_in imaged
walk_law zero ranges few r = just_law []
walk_law (suc n) ranges few r =
    led_law (byte_in (may_stand ranges n)) first_of
    (λ b. imaged (walk n (then_asked ranges b)) (λ bs. b ∷ bs) rest_of)
    (byte_law (may_stand ranges n) (some_byte n ranges r))
    (λ b k. imaged_law (walk n (then_asked ranges b)) (λ bs. b ∷ bs) rest_of
    (walk_law n (then_asked ranges b) (then_few ranges n b few k.1) (then_ranges ranges b r)) (λ bs m. refl))
    (λ b v k l. first_is (walk n (then_asked ranges b)) b v l)
