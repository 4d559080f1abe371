-- The law of texts, and where one that is no text goes wrong.
use Rattle.std.proofs.Common.{◌≡◌, ℕ, zero, suc, ◌+◌, ◌-◌, ◌<◌, ◌≤◌, true, false, List, [], ◌∷◌, length, take, drop, get_or, refl, sym, ap, ap₂, subst, ◌∙◌, arith, IsUtf8, drop-cons, length-append, length-drop, drop_of_length-le, take_all}
use Rattle.std.specs.Prelude.{Result, Ok, Err}
use Rattle.std.proofs.lemmas.Bool.Decides.{nat_tests}
use Rattle.std.proofs.lemmas.List.{take_at, take-append-drop, length-take-le}
use Rattle.byte_forms.specs.declared.utf8.Range.{Range}
use Rattle.byte_forms.specs.Forms.{◌>>=◌, AreBytes, IsForm}
use Rattle.byte_forms.specs.Parts.{just, imaged, led, byte_in, read_as, led_on, byte_at, u32_form}
use Rattle.byte_forms.specs.Utf8.{is_first, lies_in, asked, may_stand, then_asked, rest_of, walk, utf8_form, text_form}
use Rattle.byte_forms.proofs.Steps.{alike}
use Rattle.byte_forms.proofs.Laws.{led_law}
use Rattle.byte_forms.proofs.Numbers.{u32_law}
use Rattle.byte_forms.proofs.Ranges.{AreRanges, Runs, then_few, then_ranges, walk_law}
use Rattle.byte_forms.proofs.Texts.{utf8_of_runs, runs_of_utf8}

-- What a walk takes.

stands_of : (n b : ℕ) (bs : List ℕ) (ranges : List Range) → may_stand ranges n b ≡ true → Runs (then_asked ranges b) bs
    → Runs ranges (b ∷ bs)
stands_of n b bs [] h k = (first_of_stand n b h, k)
  where
    first_of_stand : (n b : ℕ) → may_stand [] n b ≡ true → is_first b ≡ true
    first_of_stand n b h = grind (arith, nat_tests)
stands_of n b bs (range ∷ ranges) h k = ((grind (arith, nat_tests), grind (arith, nat_tests)), k)

runs_of_walk : (n : ℕ) (ranges : List Range) (v : List ℕ) → length ranges ≤ n → (walk n ranges).fits v
    → (length v ≡ n) × Runs ranges v
unfolding just led byte_in imaged
runs_of_walk zero [] v few k = subst (λ w. (length w ≡ 0) × Runs [] w) (sym k) (refl, tt)
runs_of_walk zero (range ∷ ranges) v few k = absurd (omega arith)
runs_of_walk (suc n) ranges [] few k = absurd k.1
runs_of_walk (suc n) ranges (b ∷ bs) few k =
    let rest = runs_of_walk n (then_asked ranges b) bs (then_few ranges n b few k.0.1) k.1.1 in
    (ap suc rest.0, stands_of n b bs ranges k.0.1 rest.1)

-- at least as many bytes as are asked for
runs_len : (ranges : List Range) (v : List ℕ) → Runs ranges v → length ranges ≤ length v
runs_len [] v k = omega arith
runs_len (range ∷ ranges) [] k = absurd k
runs_len (range ∷ ranges) (b ∷ bs) k = omega (arith, runs_len ranges bs k.1)

may_of : (n b : ℕ) (bs : List ℕ) (ranges : List Range) → length bs ≡ n → AreRanges ranges → Runs ranges (b ∷ bs)
    → ((b < 256) × (may_stand ranges n b ≡ true)) × Runs (then_asked ranges b) bs
may_of n b bs [] len r k =
    let few = runs_len (asked b) bs k.1 in
    ((below b k.0, first_may n b k.0 (omega arith)), k.1)
  where
    below : (b : ℕ) → is_first b ≡ true → b < 256
    below b h = grind (arith, nat_tests)

    first_may : (n b : ℕ) → is_first b ≡ true → length (asked b) ≤ n → may_stand [] n b ≡ true
    first_may n b h few = grind (arith, nat_tests)
may_of n b bs (range ∷ ranges) len r k = ((omega (arith, k.0.1, r.1), lies range b k.0.0 k.0.1), k.1)
  where
    lies : (range : Range) (b : ℕ) → range.low ≤ b → b ≤ range.high → lies_in b range ≡ true
    lies range b low high = grind (arith, nat_tests)

walk_of_runs : (n : ℕ) (ranges : List Range) (v : List ℕ) → AreRanges ranges → length v ≡ n → Runs ranges v
    → (walk n ranges).fits v
unfolding just led byte_in imaged
walk_of_runs zero ranges [] r len k = refl
walk_of_runs zero ranges (b ∷ bs) r len k = absurd (omega arith)
walk_of_runs (suc n) ranges [] r len k = absurd (omega arith)
walk_of_runs (suc n) ranges (b ∷ bs) r len k =
    let m = may_of n b bs ranges (omega arith) r k in
    (m.0, (refl, walk_of_runs n (then_asked ranges b) bs (then_ranges ranges b r) (omega arith) m.1))

walk_code : (n : ℕ) (ranges : List Range) (v : List ℕ) → (walk n ranges).fits v → v ≡ (walk n ranges).code v
unfolding just led byte_in imaged
walk_code zero ranges v k = k
walk_code (suc n) ranges [] k = absurd k.1
walk_code (suc n) ranges (b ∷ bs) k = ap (λ l. b ∷ l) (walk_code n (then_asked ranges b) bs k.1.1)

-- The laws.

utf8_law : (n : ℕ) → IsForm (utf8_form n)
unfolding utf8_form
utf8_law n =
    alike (walk n []) (utf8_form n)
    (λ v k. let r = runs_of_walk n [] v (omega arith) k in (r.0, utf8_of_runs v r.1))
    (λ v k. walk_of_runs n [] v tt k.0 (runs_of_utf8 v k.1))
    (λ v k. walk_code n [] v k) (λ bytes. refl) (walk_law n [] (omega arith) tt)

pub text_law : IsForm text_form
unfolding text_form utf8_form
text_law = led_law u32_form length utf8_form u32_law (λ n k. utf8_law n) (λ n v k l. l.0)

-- What the reading of a text answers.

pub text_is_read : (n : ℕ) (bytes : List ℕ) → n ≤ length bytes → IsUtf8 (take n bytes)
    → (utf8_form n).read bytes ≡ Ok (take n bytes, drop n bytes)
unfolding utf8_form
text_is_read n bytes few u =
    let again = (utf8_law n).again (take n bytes) (drop n bytes) (length-take-le n bytes few, u) in
    ap (utf8_form n).read (sym (take-append-drop n bytes)) ∙ again

-- the text, and what is left behind it
pub text_done : (n : ℕ) (bytes text : List ℕ) → n ≤ length bytes → text ≡ take n bytes → IsUtf8 (take n bytes)
    → (utf8_form n).read bytes ≡ Ok (text, take (length bytes - n) (drop n bytes))
text_done n bytes text few is u =
    let all : take (length bytes - n) (drop n bytes) ≡ drop n bytes =
    take_all (length bytes - n) (drop n bytes) (omega (arith, length-drop n bytes)) in
    text_is_read n bytes few u ∙ ap₂ (λ a b. Ok (a, b)) (sym is) (sym all)

pub no_text_is_read : (n : ℕ) (bytes : List ℕ) → AreBytes bytes → (n ≤ length bytes → IsUtf8 (take n bytes) → ⊥)
    → (x : List ℕ × List ℕ) → (utf8_form n).read bytes ≡ Ok x → ⊥
unfolding utf8_form
no_text_is_read n bytes b never x e =
    let o = (utf8_law n).only bytes x b e in
    never (omega (arith, ap length o.1, length-append x.0 x.1, o.0.0))
    (subst IsUtf8 (sym (ap (take n) o.1 ∙ take_at x.0 x.1 n o.0.0)) o.0.1)

-- a reading stops where another one, from a place on, stops
abbrev pub Ends : {A B : Type 0} → Result (A × List ℕ) ℕ → Result (B × List ℕ) ℕ → Type 0
Ends all (Err n) = all ≡ Err n
Ends {A = A} all (Ok x) = (y : A × List ℕ) × (all ≡ Ok y)

ends_self : {A : Type 0} (r : Result (A × List ℕ) ℕ) → Ends r r
ends_self (Ok x) = (x, refl)
ends_self (Err n) = refl

ends_inner : {X A B : Type 0} (all : Result (X × List ℕ) ℕ) (r : Result (A × List ℕ) ℕ) (of : A → B)
    → Ends all (r >>= read_as of) → Ends all r
ends_inner all (Ok x) of h = h
ends_inner all (Err n) of h = h

pub begins_whole : (n : ℕ) (bytes : List ℕ) → Ends ((utf8_form n).read bytes) ((walk (n - 0) []).read (drop 0 bytes))
unfolding utf8_form
begins_whole n bytes =
    let same : n ≡ n - 0 = omega arith in
    subst (λ m. Ends ((walk n []).read bytes) ((walk m []).read bytes)) same (ends_self ((walk n []).read bytes))

module _ {X : Type 0} (all : Result (X × List ℕ) ℕ) where
  goes_on : (n : ℕ) (ranges : List Range) (b : ℕ) (bs : List ℕ) → may_stand ranges n b ≡ true
      → Ends all ((walk (suc n) ranges).read (b ∷ bs)) → Ends all ((walk n (then_asked ranges b)).read bs)
  unfolding led byte_in imaged
  goes_on n ranges b bs h ends =
      let passes : byte_at (may_stand ranges n) (b ∷ bs) ≡ Ok (b, bs) = rw h refl in
      let on : (walk (suc n) ranges).read (b ∷ bs) ≡ ((walk n (then_asked ranges b)).read bs >>= read_as (λ cs. b ∷ cs)) =
      ap (λ r. r >>= led_on (λ c. imaged (walk n (then_asked ranges c)) (λ cs. c ∷ cs) rest_of)) passes in
      ends_inner all ((walk n (then_asked ranges b)).read bs) (λ cs. b ∷ cs) (subst (Ends all) on ends)

  stops : (n : ℕ) (ranges : List Range) (b : ℕ) (bs : List ℕ) → may_stand ranges n b ≡ false
      → Ends all ((walk (suc n) ranges).read (b ∷ bs)) → all ≡ Err (suc (length bs))
  unfolding led byte_in imaged
  stops n ranges b bs h ends =
      let fails : byte_at (may_stand ranges n) (b ∷ bs) ≡ Err (suc (length bs)) = rw h refl in
      let on : (walk (suc n) ranges).read (b ∷ bs) ≡ Err (suc (length bs)) =
      ap (λ r. r >>= led_on (λ c. imaged (walk n (then_asked ranges c)) (λ cs. c ∷ cs) rest_of)) fails in
      subst (Ends all) on ends

  cut : (n : ℕ) (ranges : List Range) → Ends all ((walk (suc n) ranges).read []) → all ≡ Err 0
  unfolding led byte_in imaged
  cut n ranges ends = ends

  module _ (bytes : List ℕ) (len place : ℕ) (ranges : List Range) (ends : Ends all ((walk (len - place) ranges).read (drop place bytes))) where
    before_end : place < len → Ends all ((walk (suc (len - place - 1)) ranges).read (drop place bytes))
    before_end h =
        let k : len - place ≡ suc (len - place - 1) = omega arith in
        subst (λ m. Ends all ((walk m ranges).read (drop place bytes))) k ends

    at_byte : place < len → place < length bytes
        → Ends all ((walk (suc (len - place - 1)) ranges).read (get_or bytes place 0 ∷ drop (suc place) bytes))
    at_byte h l =
        subst (λ bs. Ends all ((walk (suc (len - place - 1)) ranges).read bs)) (drop-cons bytes place 0 l) (before_end h)

    pub goes_on_at : place < len → place < length bytes → may_stand ranges (len - place - 1) (get_or bytes place 0) ≡ true
        → Ends all ((walk (len - (place + 1)) (then_asked ranges (get_or bytes place 0))).read (drop (place + 1) bytes))
    goes_on_at h l may =
        let on = goes_on (len - place - 1) ranges (get_or bytes place 0) (drop (suc place) bytes) may (at_byte h l) in
        let n : len - place - 1 ≡ len - (place + 1) = omega arith in
        let p : suc place ≡ place + 1 = omega arith in
        let asks = then_asked ranges (get_or bytes place 0) in
        subst (λ q. Ends all ((walk (len - (place + 1)) asks).read (drop q bytes))) p
        (subst (λ m. Ends all ((walk m asks).read (drop (suc place) bytes))) n on)

    pub stops_at : place < len → place < length bytes → may_stand ranges (len - place - 1) (get_or bytes place 0) ≡ false
        → all ≡ Err (length bytes - place)
    stops_at h l may =
        let e = stops (len - place - 1) ranges (get_or bytes place 0) (drop (suc place) bytes) may (at_byte h l) in
        let n : suc (length (drop (suc place) bytes)) ≡ length bytes - place = omega (arith, length-drop (suc place) bytes) in
        e ∙ ap Err n

    pub cut_at : place < len → length bytes ≤ place → all ≡ Err 0
    cut_at h l =
        let none : drop place bytes ≡ [] = drop_of_length-le bytes l in
        cut (len - place - 1) ranges
        (subst (λ bs. Ends all ((walk (suc (len - place - 1)) ranges).read bs)) none (before_end h))

    pub done_at : len ≤ place → ((x : X × List ℕ) → all ≡ Ok x → ⊥) → all ≡ Err 0
    unfolding just
    done_at h never =
        let none : len - place ≡ 0 = omega arith in
        let read = subst (λ m. Ends all ((walk m ranges).read (drop place bytes))) none ends in
        absurd (never read.0 read.1)
