-- The law of counts: a count is four digits, each within the bounds that those before it leave.
use Rattle.std.proofs.Common.{◌≡◌, ℕ, zero, suc, ◌+◌, ◌-◌, ◌*◌, ◌/◌, ◌%◌, ◌^◌, ◌<◌, ◌≤◌, ◌∙◌, Bool, true, false, List, [], ◌∷◌, length, refl, sym, ap, subst, arith}
use Rattle.std.specs.Prelude.{◌&&◌, ◌==◌, nat_le, nat_lt, IfOk, Result, Ok, Err}
use Rattle.std.proofs.lemmas.Bool.{true≢false}
use Rattle.std.specs.Int.{w32, to_be_bytes}
use Rattle.std.proofs.lemmas.Bool.Decides.{nat_tests}
use Rattle.emu_names.specs.declared.limits.TheConstants.{LIST_EDITS}
use Rattle.byte_forms.specs.declared.rest.ReadFault.{ReadFault}
use Rattle.byte_forms.specs.declared.rest.ReadFault.TheVariants as faults
use Rattle.byte_forms.specs.Inner.Reading.{Gives}
use Rattle.byte_forms.specs.Forms.{Form, ◌>>=◌, IsForm}
use Rattle.byte_forms.specs.Parts.{byte_at, byte_in, just, led}
use Rattle.byte_forms.proofs.Laws.{just_law, led_law}
use Rattle.byte_forms.proofs.Numbers.{byte_law}
use Rattle.byte_forms.proofs.Steps.{alike, bind_ok, bind_err}
use Rattle.value_codes.specs.Counts.{is_begun, may_follow, count_at, count_form}

-- a number that begins with this one, from so many digits more
abbrev digits : ℕ → ℕ → Form ℕ
digits zero n = just n
digits (suc more) n = led (byte_in (may_follow more n)) (λ v. v / 256 ^ more - n * 256) (λ b. digits more (n * 256 + b))

begun_is : (more n : ℕ) → is_begun more n ≡ true → (2 < (n + 1) * 256 ^ more) × (n * 256 ^ more ≤ LIST_EDITS)
begun_is more n h = (grind (arith, nat_tests), grind (arith, nat_tests))

is_begun_so : (more n : ℕ) → 2 < (n + 1) * 256 ^ more → n * 256 ^ more ≤ LIST_EDITS → is_begun more n ≡ true
is_begun_so more n low high = grind (arith, nat_tests)

follow_is : (more n b : ℕ) → may_follow more n b ≡ true → (b < 256) × (is_begun more (n * 256 + b) ≡ true)
follow_is more n b h = (grind (arith, nat_tests), grind (arith, nat_tests))

may_follow_so : (more n b : ℕ) → b < 256 → is_begun more (n * 256 + b) ≡ true → may_follow more n b ≡ true
may_follow_so more n b low begun = grind (arith, nat_tests)

-- Where the numbers lie that fit.

within_1 : (n v : ℕ) → (digits 1 n).fits v → (n * 256 ≤ v) × (v < n * 256 + 256)
unfolding led byte_in just
within_1 n v k = (omega (arith, k.0.0, k.1), omega (arith, k.0.0, k.1))

within_2 : (n v : ℕ) → (digits 2 n).fits v → (n * 65536 ≤ v) × (v < n * 65536 + 65536)
unfolding led byte_in
within_2 n v k =
    let w = within_1 (n * 256 + (v / 256 - n * 256)) v k.1 in
    (omega (arith, k.0.0, w.0, w.1), omega (arith, k.0.0, w.0, w.1))

within_3 : (n v : ℕ) → (digits 3 n).fits v → (n * 16777216 ≤ v) × (v < n * 16777216 + 16777216)
unfolding led byte_in
within_3 n v k =
    let w = within_2 (n * 256 + (v / 65536 - n * 256)) v k.1 in
    (omega (arith, k.0.0, w.0, w.1), omega (arith, k.0.0, w.0, w.1))

-- Some digit goes on.

first_0 : (n : ℕ) → is_begun 1 n ≡ true → (v : ℕ) × ((v < 256) × (may_follow 0 n v ≡ true))
first_0 n h =
    let w = begun_is 1 n h in
    let low : 2 - n * 256 < 256 = omega arith in
    (2 - n * 256, (low, may_follow_so 0 n (2 - n * 256) low (is_begun_so 0 (n * 256 + (2 - n * 256)) (omega arith) (omega (arith, w.1)))))

first_1 : (n : ℕ) → is_begun 2 n ≡ true → (v : ℕ) × ((v < 256) × (may_follow 1 n v ≡ true))
first_1 n h =
    let w = begun_is 2 n h in
    (0, (omega arith, may_follow_so 1 n 0 (omega arith) (is_begun_so 1 (n * 256 + 0) (omega arith) (omega (arith, w.1)))))

first_2 : (n : ℕ) → is_begun 3 n ≡ true → (v : ℕ) × ((v < 256) × (may_follow 2 n v ≡ true))
first_2 n h =
    let w = begun_is 3 n h in
    (0, (omega arith, may_follow_so 2 n 0 (omega arith) (is_begun_so 2 (n * 256 + 0) (omega arith) (omega (arith, w.1)))))

first_3 : (v : ℕ) × ((v < 256) × (may_follow 3 0 v ≡ true))
first_3 = (0, (omega arith, refl))

-- The laws of the digits.

law_1 : (n : ℕ) → is_begun 1 n ≡ true → IsForm (digits 1 n)
unfolding byte_in just
law_1 n h =
    led_law (byte_in (may_follow 0 n)) (λ v. v / 256 ^ 0 - n * 256) (λ b. digits 0 (n * 256 + b))
    (byte_law (may_follow 0 n) (first_0 n h)) (λ b k. just_law (n * 256 + b)) (λ b v k l. omega (arith, l))

law_2 : (n : ℕ) → is_begun 2 n ≡ true → IsForm (digits 2 n)
unfolding byte_in
law_2 n h =
    led_law (byte_in (may_follow 1 n)) (λ v. v / 256 ^ 1 - n * 256) (λ b. digits 1 (n * 256 + b))
    (byte_law (may_follow 1 n) (first_1 n h)) (λ b k. law_1 (n * 256 + b) (follow_is 1 n b k.1).1)
    (λ b v k l. let w = within_1 (n * 256 + b) v l in omega (arith, w.0, w.1))

law_3 : (n : ℕ) → is_begun 3 n ≡ true → IsForm (digits 3 n)
unfolding byte_in
law_3 n h =
    led_law (byte_in (may_follow 2 n)) (λ v. v / 256 ^ 2 - n * 256) (λ b. digits 2 (n * 256 + b))
    (byte_law (may_follow 2 n) (first_2 n h)) (λ b k. law_2 (n * 256 + b) (follow_is 2 n b k.1).1)
    (λ b v k l. let w = within_2 (n * 256 + b) v l in omega (arith, w.0, w.1))

law_4 : IsForm (digits 4 0)
unfolding byte_in
law_4 =
    led_law (byte_in (may_follow 3 0)) (λ v. v / 256 ^ 3 - 0 * 256) (λ b. digits 3 (0 * 256 + b))
    (byte_law (may_follow 3 0) first_3) (λ b k. law_3 (0 * 256 + b) (follow_is 3 0 b k.1).1)
    (λ b v k l. let w = within_3 (0 * 256 + b) v l in omega (arith, w.0, w.1))

-- They are the counts.

fits_last : (n v : ℕ) → (digits 1 n).fits v → (2 ≤ v) × (v ≤ LIST_EDITS)
unfolding led byte_in just
fits_last n v k =
    let last = follow_is 0 n (v / 1 - n * 256) k.0.1 in
    let w = begun_is 0 (n * 256 + (v / 1 - n * 256)) last.1 in
    (omega (arith, w.0, k.1), omega (arith, w.1, k.1))

fits_there : (v : ℕ) → (digits 4 0).fits v → (2 ≤ v) × (v ≤ LIST_EDITS)
unfolding led byte_in
fits_there v k =
    let n = 0 * 256 + (v / 16777216 - 0 * 256) in
    let m = n * 256 + (v / 65536 - n * 256) in
    fits_last (m * 256 + (v / 256 - m * 256)) v k.1.1.1

back_1 : (n v : ℕ) → 2 ≤ v → v ≤ LIST_EDITS → n * 256 ≤ v → v < n * 256 + 256 → (digits 1 n).fits v
unfolding led byte_in just
back_1 n v some most low high =
    let q = v / 1 - n * 256 in
    let below : q < 256 = omega arith in
    let is : n * 256 + q ≡ v = omega arith in
    ((below, may_follow_so 0 n q below (is_begun_so 0 (n * 256 + q) (omega arith) (omega arith))), sym is)

back_2 : (n v : ℕ) → 2 ≤ v → v ≤ LIST_EDITS → n * 65536 ≤ v → v < n * 65536 + 65536 → (digits 2 n).fits v
unfolding led byte_in
back_2 n v some most low high =
    let q = v / 256 - n * 256 in
    let below : q < 256 = omega arith in
    let from : (n * 256 + q) * 256 ≤ v = omega arith in
    let to : v < (n * 256 + q) * 256 + 256 = omega arith in
    ((below, may_follow_so 1 n q below (is_begun_so 1 (n * 256 + q) (omega arith) (omega arith))), back_1 (n * 256 + q) v some most from to)

back_3 : (n v : ℕ) → 2 ≤ v → v ≤ LIST_EDITS → n * 16777216 ≤ v → v < n * 16777216 + 16777216 → (digits 3 n).fits v
unfolding led byte_in
back_3 n v some most low high =
    let q = v / 65536 - n * 256 in
    let below : q < 256 = omega arith in
    let from : (n * 256 + q) * 65536 ≤ v = omega arith in
    let to : v < (n * 256 + q) * 65536 + 65536 = omega arith in
    ((below, may_follow_so 2 n q below (is_begun_so 2 (n * 256 + q) (omega arith) (omega arith))), back_2 (n * 256 + q) v some most from to)

fits_back : (v : ℕ) → (2 ≤ v) × (v ≤ LIST_EDITS) → (digits 4 0).fits v
unfolding led byte_in
fits_back v k =
    let some = k.0 in
    let most = k.1 in
    let q = v / 16777216 - 0 * 256 in
    let below : q < 256 = omega (arith, some, most) in
    let from : (0 * 256 + q) * 16777216 ≤ v = omega arith in
    let to : v < (0 * 256 + q) * 16777216 + 16777216 = omega arith in
    ((below, may_follow_so 3 0 q below (is_begun_so 3 (0 * 256 + q) (omega (arith, some)) (omega (arith, most)))), back_3 (0 * 256 + q) v some most from to)

-- four numbers that are others
four : (a b c d e f g h : ℕ) → a ≡ e → b ≡ f → c ≡ g → d ≡ h → a ∷ b ∷ c ∷ d ∷ [] ≡ e ∷ f ∷ g ∷ h ∷ []
four a b c d e f g h p q r s = cc

code_same : (v : ℕ) → v ≤ LIST_EDITS → to_be_bytes w32 v ≡ (digits 4 0).code v
unfolding led byte_in just
code_same v most =
    let q = v / 16777216 - 0 * 256 in
    let none : q ≡ 0 = omega arith in
    four (v / 16777216 % 256) (v / 65536 % 256) (v / 256 % 256) (v % 256) q (v / 65536 - (0 * 256 + q) * 256)
    (v / 256 - ((0 * 256 + q) * 256 + (v / 65536 - (0 * 256 + q) * 256)) * 256)
    (v / 1 - (((0 * 256 + q) * 256 + (v / 65536 - (0 * 256 + q) * 256)) * 256 + (v / 256 - ((0 * 256 + q) * 256 + (v / 65536 - (0 * 256 + q) * 256)) * 256)) * 256)
    (omega arith) (omega arith) (omega arith) (omega arith)

pub count_law : IsForm count_form
unfolding led byte_in just count_form
count_law = alike (digits 4 0) count_form fits_there fits_back (λ v k. code_same v (fits_there v k).1) (λ bytes. refl) law_4

-- How a count is read, byte by byte.

same_tests : (x y : Bool) → (x ≡ true → y ≡ true) → (y ≡ true → x ≡ true) → x ≡ y
same_tests true true f g = refl
same_tests true false f g = absurd (true≢false (sym (f refl)))
same_tests false true f g = absurd (true≢false (sym (g refl)))
same_tests false false f g = refl

byte_same : (test other : ℕ → Bool) → ((b : ℕ) → test b ≡ other b) → (bytes : List ℕ) → byte_at test bytes ≡ byte_at other bytes
byte_same test other same [] = refl
byte_same test other same (b ∷ bytes) = rw (same b) refl

-- a byte within its bounds, and where none is
module _ (more n : ℕ) (test : ℕ → Bool) (same : (b : ℕ) → may_follow more n b ≡ test b) where
  pub count_step : (bytes new : List ℕ) (b : ℕ) → byte_at test bytes ≡ Ok (b, new)
      → count_at (suc more) n bytes ≡ count_at more (n * 256 + b) new
  count_step bytes new b read =
      bind_ok _ _ (λ (x : ℕ × List ℕ). count_at more (n * 256 + x.0) x.1) (byte_same (may_follow more n) test same bytes ∙ read)

  pub count_stop : (bytes : List ℕ) (left : ℕ) → byte_at test bytes ≡ Err left → count_at (suc more) n bytes ≡ Err left
  count_stop bytes left read =
      bind_err _ _ (λ (x : ℕ × List ℕ). count_at more (n * 256 + x.0) x.1) (byte_same (may_follow more n) test same bytes ∙ read)

-- the bounds of each byte
pub zero_first : (b : ℕ) → may_follow 3 0 b ≡ (b == 0)
zero_first b = same_tests (may_follow 3 0 b) (b == 0) (λ h. grind (arith, nat_tests)) (λ h. grind (arith, nat_tests))

pub below_two : (b : ℕ) → may_follow 2 0 b ≡ nat_lt b 2
below_two b = same_tests (may_follow 2 0 b) (nat_lt b 2) (λ h. grind (arith, nat_tests)) (λ h. grind (arith, nat_tests))

pub zero_third : (b : ℕ) → may_follow 1 1 b ≡ (b == 0)
zero_third b = same_tests (may_follow 1 1 b) (b == 0) (λ h. grind (arith, nat_tests)) (λ h. grind (arith, nat_tests))

pub zero_last : (b : ℕ) → may_follow 0 256 b ≡ (b == 0)
zero_last b = same_tests (may_follow 0 256 b) (b == 0) (λ h. grind (arith, nat_tests)) (λ h. grind (arith, nat_tests))

pub any_third : (b : ℕ) → may_follow 1 0 b ≡ (nat_le 0 b && nat_le b 255)
any_third b =
    same_tests (may_follow 1 0 b) (nat_le 0 b && nat_le b 255) (λ h. grind (arith, nat_tests)) (λ h. grind (arith, nat_tests))

pub from_least : (n least : ℕ) → n < 256 → (n ≡ 0 → least ≡ 2) → ((n ≡ 0 → ⊥) → least ≡ 0) → (b : ℕ)
    → may_follow 0 n b ≡ (nat_le least b && nat_le b 255)
from_least zero least low zero_is more_is b =
    let two = zero_is refl in
    rw two (same_tests (may_follow 0 0 b) (nat_le 2 b && nat_le b 255) (λ h. grind (arith, nat_tests)) (λ h. grind (arith, nat_tests)))
from_least (suc n) least low zero_is more_is b =
    let none = more_is (λ h. omega arith) in
    rw none (same_tests (may_follow 0 (suc n) b) (nat_le 0 b && nat_le b 255) (λ h. grind (arith, nat_tests)) (λ h. grind (arith, nat_tests)))

-- What the reading of a byte answers, as that of the count.

module _ (more n : ℕ) (test : ℕ → Bool) (same : (b : ℕ) → may_follow more n b ≡ test b) where
  pub step_gives : (bytes mid new : List ℕ) (b next : ℕ) (r : Result ℕ ReadFault) → byte_at test bytes ≡ Ok (b, mid)
      → next ≡ n * 256 + b → Gives r new (count_at more next mid) → Gives r new (count_at (suc more) n bytes)
  step_gives bytes mid new b next r read is gives =
      subst (Gives r new) (ap (λ m. count_at more m mid) is ∙ sym (count_step more n test same bytes mid b read)) gives

  pub stop_gives : (bytes new : List ℕ) (fault : ReadFault) → Gives {A = ℕ} (Err fault) new (byte_at test bytes)
      → Gives {A = ℕ} (Err fault) new (count_at (suc more) n bytes)
  stop_gives bytes new (faults.Left left) read = count_stop more n test same bytes left read
  stop_gives bytes new faults.Memory read = tt

-- A count that was read lies within the bounds.

byte_passes : (test : ℕ → Bool) (b : ℕ) (bytes : List ℕ) (x : ℕ × List ℕ) → (passes : Bool) → test b ≡ passes
    → byte_at test (b ∷ bytes) ≡ Ok x → test x.0 ≡ true
byte_passes test b bytes x true is e =
    let there : byte_at test (b ∷ bytes) ≡ Ok (b, bytes) = rw is refl in
    let same : (b, bytes) ≡ x = cc in
    subst (λ (y : ℕ × List ℕ). test y.0 ≡ true) same is
byte_passes test b bytes x false is e =
    let there : byte_at test (b ∷ bytes) ≡ Err (suc (length bytes)) = rw is refl in
    absurd cc

byte_ok : (test : ℕ → Bool) (bytes : List ℕ) (x : ℕ × List ℕ) → byte_at test bytes ≡ Ok x → test x.0 ≡ true
byte_ok test [] x e = absurd cc
byte_ok test (b ∷ bytes) x e = byte_passes test b bytes x (test b) refl e

last_bounds : (n : ℕ) (bytes : List ℕ) (y x : ℕ × List ℕ) → byte_at (may_follow 0 n) bytes ≡ Ok y → (n * 256 + y.0, y.1) ≡ x
    → (2 ≤ x.0) × (x.0 ≤ LIST_EDITS)
last_bounds n bytes y x read is =
    let w = begun_is 0 (n * 256 + y.0) (follow_is 0 n y.0 (byte_ok (may_follow 0 n) bytes y read)).1 in
    let same : n * 256 + y.0 ≡ x.0 = ap (λ (z : ℕ × List ℕ). z.0) is in
    (omega (arith, w.0, same), omega (arith, w.1, same))

bounds_in : (more n : ℕ) (bytes : List ℕ) (x : ℕ × List ℕ) → count_at (suc more) n bytes ≡ Ok x → (2 ≤ x.0) × (x.0 ≤ LIST_EDITS)
bounds_in zero n bytes x e = bounds_last (byte_at (may_follow 0 n) bytes) refl e
  where
    bounds_last : (r : Result (ℕ × List ℕ) ℕ) → byte_at (may_follow 0 n) bytes ≡ r
        → (r >>= λ y. Ok (n * 256 + y.0, y.1)) ≡ Ok x → (2 ≤ x.0) × (x.0 ≤ LIST_EDITS)
    bounds_last (Ok y) read is = let same : (n * 256 + y.0, y.1) ≡ x = cc in last_bounds n bytes y x read same
    bounds_last (Err left) read is = absurd cc
bounds_in (suc more) n bytes x e = bounds_on (λ y h. bounds_in more (n * 256 + y.0) y.1 x h) (byte_at (may_follow (suc more) n) bytes) e
  where
    bounds_on : ((y : ℕ × List ℕ) → count_at (suc more) (n * 256 + y.0) y.1 ≡ Ok x → (2 ≤ x.0) × (x.0 ≤ LIST_EDITS))
        → (r : Result (ℕ × List ℕ) ℕ) → (r >>= λ y. count_at (suc more) (n * 256 + y.0) y.1) ≡ Ok x
        → (2 ≤ x.0) × (x.0 ≤ LIST_EDITS)
    bounds_on behind (Ok y) is = behind y is
    bounds_on behind (Err left) is = absurd cc

pub count_ranged : (bytes new : List ℕ) (r : Result ℕ ReadFault) → Gives r new (count_form.read bytes)
    → IfOk r (λ n. 2 ≤ n) × IfOk r (λ n. n ≤ LIST_EDITS)
unfolding count_form
count_ranged bytes new (Ok n) read = bounds_in 3 0 bytes (n, new) read
count_ranged bytes new (Err fault) read = (tt, tt)
