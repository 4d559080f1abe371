-- Bytes that stand where they may are the UTF-8 of characters, and no others are (The Unicode Standard, table 3-7).
use Rattle.std.proofs.Common.{◌≡◌, ℕ, zero, suc, ◌+◌, ◌-◌, ◌*◌, ◌/◌, ◌%◌, ◌<◌, ◌≤◌, Bool, true, false, ◌⊎◌, ⊎_elim, List, [], ◌∷◌, ◌++◌, length, refl, sym, ap, ap₂, subst, ◌∙◌, arith, lt-ltb, le-ltb, IsUtf8}
use Rattle.std.specs.Prelude.{◌&&◌}
use Rattle.std.proofs.Math.Utf8.{scalar, scalars, encode, encodes, scalar_cases, low_scalar}
use Rattle.std.proofs.lemmas.Bool.{cond-true, cond-false, cases_lt}
use Rattle.std.proofs.lemmas.Bool.Decides.{nat_tests}
use Rattle.std.proofs.lemmas.Nat.{div-mul-add, mod-mul-add}
use Rattle.std.proofs.lemmas.Str.{IsUtf8-nil, IsUtf8-append, IsUtf8-encode, encode_ascii}
use Rattle.byte_forms.specs.Utf8.{from_to, any_more, is_first, asked}
use Rattle.byte_forms.proofs.Ranges.{Runs, asked_one, asked_two, asked_e0, asked_e1, asked_ed, asked_ee, asked_f0, asked_f1, asked_f4}

-- How characters are spelled.

div_at : (p k r n : ℕ) → n ≡ p * k + r → r < k → n / k ≡ p
div_at p k r n e h = ap (λ m. m / k) e ∙ div-mul-add p k r h

mod_at : (p k r n : ℕ) → n ≡ p * k + r → r < k → n % k ≡ r
mod_at p k r n e h = ap (λ m. m % k) e ∙ mod-mul-add p k r h

encode_two : (c : ℕ) → 0x80 ≤ c → c < 0x800 → encode c ≡ (192 + c / 64) ∷ (128 + c % 64) ∷ []
unfolding encode
encode_two c low high = cond-false _ _ _ (le-ltb c 128 low) ∙ cond-true _ _ _ (lt-ltb c 2048 high)

encode_three : (c : ℕ) → 0x800 ≤ c → c < 0x10000
    → encode c ≡ (224 + c / 4096) ∷ (128 + (c / 64) % 64) ∷ (128 + c % 64) ∷ []
unfolding encode
encode_three c low high =
    cond-false _ _ _ (le-ltb c 128 (omega arith)) ∙ cond-false _ _ _ (le-ltb c 2048 low) ∙ cond-true _ _ _ (lt-ltb c 65536 high)

encode_four : (c : ℕ) → 0x10000 ≤ c
    → encode c ≡ (240 + c / 262144) ∷ (128 + (c / 4096) % 64) ∷ (128 + (c / 64) % 64) ∷ (128 + c % 64) ∷ []
unfolding encode
encode_four c low =
    cond-false _ _ _ (le-ltb c 128 (omega arith)) ∙ cond-false _ _ _ (le-ltb c 2048 (omega arith))
    ∙ cond-false _ _ _ (le-ltb c 65536 low)

high_scalar : (c : ℕ) → 57344 ≤ c → c < 1114112 → scalar c ≡ true
high_scalar c low high = grind (arith, nat_tests)

-- the bytes of a character, from its digits of six bits
spell_two : (p q c : ℕ) → c ≡ p * 64 + q → q < 64 → 0x80 ≤ c → c < 0x800 → encode c ≡ (192 + p) ∷ (128 + q) ∷ []
spell_two p q c e q' low high =
    encode_two c low high
    ∙ ap₂ (λ x y. (192 + x) ∷ (128 + y) ∷ []) (div_at p 64 q c e q') (mod_at p 64 q c e q')

spell_three : (p q r c : ℕ) → c ≡ (p * 64 + q) * 64 + r → q < 64 → r < 64 → 0x800 ≤ c → c < 0x10000
    → encode c ≡ (224 + p) ∷ (128 + q) ∷ (128 + r) ∷ []
spell_three p q r c e q' r' low high =
    let upper : c / 64 ≡ p * 64 + q = div_at (p * 64 + q) 64 r c e r' in
    let first : c / 4096 ≡ p = div_at p 4096 (q * 64 + r) c (omega arith) (omega arith) in
    let second : (c / 64) % 64 ≡ q = mod_at p 64 q (c / 64) upper q' in
    let third : c % 64 ≡ r = mod_at (p * 64 + q) 64 r c e r' in
    encode_three c low high
    ∙ ap (λ x. (224 + x) ∷ (128 + (c / 64) % 64) ∷ (128 + c % 64) ∷ []) first
    ∙ ap₂ (λ x y. (224 + p) ∷ (128 + x) ∷ (128 + y) ∷ []) second third

spell_four : (p q r s c : ℕ) → c ≡ ((p * 64 + q) * 64 + r) * 64 + s → q < 64 → r < 64 → s < 64 → 0x10000 ≤ c
    → encode c ≡ (240 + p) ∷ (128 + q) ∷ (128 + r) ∷ (128 + s) ∷ []
spell_four p q r s c e q' r' s' low =
    let upper : c / 64 ≡ (p * 64 + q) * 64 + r = div_at ((p * 64 + q) * 64 + r) 64 s c e s' in
    let top : c / 4096 ≡ p * 64 + q = div_at (p * 64 + q) 4096 (r * 64 + s) c (omega arith) (omega arith) in
    let first : c / 262144 ≡ p = div_at p 262144 (q * 4096 + r * 64 + s) c (omega arith) (omega arith) in
    let second : (c / 4096) % 64 ≡ q = mod_at p 64 q (c / 4096) top q' in
    let third : (c / 64) % 64 ≡ r = mod_at (p * 64 + q) 64 r (c / 64) upper r' in
    let fourth : c % 64 ≡ s = mod_at ((p * 64 + q) * 64 + r) 64 s c e s' in
    encode_four c low
    ∙ ap₂ (λ x y. (240 + x) ∷ (128 + y) ∷ (128 + (c / 64) % 64) ∷ (128 + c % 64) ∷ []) first second
    ∙ ap₂ (λ x y. (240 + p) ∷ (128 + q) ∷ (128 + x) ∷ (128 + y) ∷ []) third fourth

-- a character in front of a list of bytes
record Front (bytes : List ℕ) : Type 0 where
  char : ℕ
  back : List ℕ
  is_char : scalar char ≡ true
  split : bytes ≡ encode char ++ back
  shorter : length back < length bytes
  runs : Runs [] back

two_bytes : (b c : ℕ) (cs : List ℕ) → 0xc2 ≤ b → b < 0xe0 → 0x80 ≤ c → c ≤ 0xbf → Runs [] cs → Front (b ∷ c ∷ cs)
two_bytes b c cs low high low' high' runs =
    let x = (b - 192) * 64 + (c - 128) in
    let first : b ≡ 192 + (b - 192) = omega arith in
    let second : c ≡ 128 + (c - 128) = omega arith in
    let spelled = spell_two (b - 192) (c - 128) x refl (omega arith) (omega arith) (omega arith) in record {
      char = x;
      back = cs;
      is_char = low_scalar x (omega arith);
      split = ap₂ (λ p q. p ∷ q ∷ cs) first second ∙ ap (λ l. l ++ cs) (sym spelled);
      shorter = omega arith;
      runs = runs;
    }

three_bytes : (b c d : ℕ) (ds : List ℕ) → 0xe0 ≤ b → b < 0xf0 → 0x80 ≤ c → c ≤ 0xbf → 0x80 ≤ d → d ≤ 0xbf
    → (b < 0xe1 → 0xa0 ≤ c) → (0xed ≤ b → b < 0xee → c ≤ 0x9f) → Runs [] ds → Front (b ∷ c ∷ d ∷ ds)
three_bytes b c d ds low high c' c'' d' d'' least most runs =
    let x = ((b - 224) * 64 + (c - 128)) * 64 + (d - 128) in
    let first : b ≡ 224 + (b - 224) = omega arith in
    let second : c ≡ 128 + (c - 128) = omega arith in
    let third : d ≡ 128 + (d - 128) = omega arith in
    let from : 0x800 ≤ x = ⊎_elim (λ (e : b < 0xe1). let l = least e in omega arith) (λ (e : 0xe1 ≤ b). omega arith) (cases_lt b 0xe1) in
    let spelled = spell_three (b - 224) (c - 128) (d - 128) x refl (omega arith) (omega arith) from (omega arith) in record {
      char = x;
      back = ds;
      is_char = ⊎_elim
          (λ (e : b < 0xed). low_scalar x (omega arith))
          (λ (e : 0xed ≤ b). ⊎_elim
          (λ (l : b < 0xee). let m = most e l in low_scalar x (omega arith))
          (λ (l : 0xee ≤ b). high_scalar x (omega arith) (omega arith))
          (cases_lt b 0xee))
          (cases_lt b 0xed);
      split = ap₂ (λ p q. p ∷ q ∷ d ∷ ds) first second ∙ ap (λ r. (224 + (b - 224)) ∷ (128 + (c - 128)) ∷ r ∷ ds) third
          ∙ ap (λ l. l ++ ds) (sym spelled);
      shorter = omega arith;
      runs = runs;
    }

four_bytes : (b c d e : ℕ) (es : List ℕ) → 0xf0 ≤ b → b ≤ 0xf4 → 0x80 ≤ c → c ≤ 0xbf → 0x80 ≤ d → d ≤ 0xbf
    → 0x80 ≤ e → e ≤ 0xbf → (b < 0xf1 → 0x90 ≤ c) → (0xf4 ≤ b → c ≤ 0x8f) → Runs [] es → Front (b ∷ c ∷ d ∷ e ∷ es)
four_bytes b c d e es low high c' c'' d' d'' e' e'' least most runs =
    let x = (((b - 240) * 64 + (c - 128)) * 64 + (d - 128)) * 64 + (e - 128) in
    let first : b ≡ 240 + (b - 240) = omega arith in
    let second : c ≡ 128 + (c - 128) = omega arith in
    let third : d ≡ 128 + (d - 128) = omega arith in
    let fourth : e ≡ 128 + (e - 128) = omega arith in
    let from : 0x10000 ≤ x = ⊎_elim (λ (f : b < 0xf1). let l = least f in omega arith) (λ (f : 0xf1 ≤ b). omega arith) (cases_lt b 0xf1) in
    let to : x < 1114112 = ⊎_elim (λ (f : b < 0xf4). omega arith) (λ (f : 0xf4 ≤ b). let m = most f in omega arith) (cases_lt b 0xf4) in
    let spelled = spell_four (b - 240) (c - 128) (d - 128) (e - 128) x refl (omega arith) (omega arith) (omega arith) from in record {
      char = x;
      back = es;
      is_char = high_scalar x (omega arith) to;
      split = ap₂ (λ p q. p ∷ q ∷ d ∷ e ∷ es) first second
          ∙ ap₂ (λ p q. (240 + (b - 240)) ∷ (128 + (c - 128)) ∷ p ∷ q ∷ es) third fourth ∙ ap (λ l. l ++ es) (sym spelled);
      shorter = omega arith;
      runs = runs;
    }

-- the bytes that a first byte asks for, one by one
one_more : (low high b : ℕ) (bs : List ℕ) → 0xe0 ≤ b → b < 0xf0 → 0x80 ≤ low → high ≤ 0xbf → (b < 0xe1 → 0xa0 ≤ low)
    → (0xed ≤ b → b < 0xee → high ≤ 0x9f) → Runs (from_to low high ∷ any_more ∷ []) bs → Front (b ∷ bs)
one_more low high b [] b' b'' l h least most k = absurd k
one_more low high b (c ∷ []) b' b'' l h least most k = absurd k.1
one_more low high b (c ∷ d ∷ ds) b' b'' l h least most k =
    three_bytes b c d ds b' b'' (omega (arith, k.0.0)) (omega (arith, k.0.1)) k.1.0.0 k.1.0.1
    (λ e. let m = least e in omega (arith, k.0.0)) (λ e f. let m = most e f in omega (arith, k.0.1)) k.1.1

two_more : (low high b : ℕ) (bs : List ℕ) → 0xf0 ≤ b → b ≤ 0xf4 → 0x80 ≤ low → high ≤ 0xbf → (b < 0xf1 → 0x90 ≤ low)
    → (0xf4 ≤ b → high ≤ 0x8f) → Runs (from_to low high ∷ any_more ∷ any_more ∷ []) bs → Front (b ∷ bs)
two_more low high b [] b' b'' l h least most k = absurd k
two_more low high b (c ∷ []) b' b'' l h least most k = absurd k.1
two_more low high b (c ∷ d ∷ []) b' b'' l h least most k = absurd k.1.1
two_more low high b (c ∷ d ∷ e ∷ es) b' b'' l h least most k =
    four_bytes b c d e es b' b'' (omega (arith, k.0.0)) (omega (arith, k.0.1)) k.1.0.0 k.1.0.1 k.1.1.0.0 k.1.1.0.1
    (λ f. let m = least f in omega (arith, k.0.0)) (λ f. let m = most f in omega (arith, k.0.1)) k.1.1.1

one_byte : (b : ℕ) (bs : List ℕ) → b < 0x80 → Runs (asked b) bs → Front (b ∷ bs)
one_byte b bs h k = record {
  char = b;
  back = bs;
  is_char = low_scalar b (omega arith);
  split = ap (λ l. l ++ bs) (sym (encode_ascii b h));
  shorter = omega arith;
  runs = subst (λ rs. Runs rs bs) (asked_one b h) k;
}

last_one : (b : ℕ) (bs : List ℕ) → 0xc2 ≤ b → b < 0xe0 → Runs (any_more ∷ []) bs → Front (b ∷ bs)
last_one b [] low high k = absurd k
last_one b (c ∷ cs) low high k = two_bytes b c cs low high k.0.0 k.0.1 k.1

-- the bytes of the other first bytes
many_bytes : (b : ℕ) (bs : List ℕ) → 0xe0 ≤ b → b ≤ 0xf4 → Runs (asked b) bs → Front (b ∷ bs)
many_bytes b bs low high k = ⊎_elim
    (λ (h : b < 0xe1). one_more 0xa0 0xbf b bs low (omega arith) (omega arith) (omega arith) (λ e. omega arith) (λ e f. omega arith)
    (subst (λ rs. Runs rs bs) (asked_e0 b low h) k))
    (λ (l : 0xe1 ≤ b). ⊎_elim
    (λ (h : b < 0xed). one_more 0x80 0xbf b bs low (omega arith) (omega arith) (omega arith) (λ e. omega arith) (λ e f. omega arith)
    (subst (λ rs. Runs rs bs) (asked_e1 b l h) k))
    (λ (l : 0xed ≤ b). ⊎_elim
    (λ (h : b < 0xee). one_more 0x80 0x9f b bs low (omega arith) (omega arith) (omega arith) (λ e. omega arith) (λ e f. omega arith)
    (subst (λ rs. Runs rs bs) (asked_ed b l h) k))
    (λ (l : 0xee ≤ b). ⊎_elim
    (λ (h : b < 0xf0). one_more 0x80 0xbf b bs low (omega arith) (omega arith) (omega arith) (λ e. omega arith) (λ e f. omega arith)
    (subst (λ rs. Runs rs bs) (asked_ee b l h) k))
    (λ (l : 0xf0 ≤ b). ⊎_elim
    (λ (h : b < 0xf1). two_more 0x90 0xbf b bs l high (omega arith) (omega arith) (λ e. omega arith) (λ e. omega arith)
    (subst (λ rs. Runs rs bs) (asked_f0 b l h) k))
    (λ (l' : 0xf1 ≤ b). ⊎_elim
    (λ (h : b < 0xf4). two_more 0x80 0xbf b bs l high (omega arith) (omega arith) (λ e. omega arith) (λ e. omega arith)
    (subst (λ rs. Runs rs bs) (asked_f1 b l' h) k))
    (λ (l' : 0xf4 ≤ b). two_more 0x80 0x8f b bs l high (omega arith) (omega arith) (λ e. omega arith) (λ e. omega arith)
    (subst (λ rs. Runs rs bs) (asked_f4 b l') k))
    (cases_lt b 0xf4))
    (cases_lt b 0xf1))
    (cases_lt b 0xf0))
    (cases_lt b 0xee))
    (cases_lt b 0xed))
    (cases_lt b 0xe1)

-- a first byte is low, or begins a character of more bytes
first_cases : (b : ℕ) → is_first b ≡ true → (b < 0x80) ⊎ ((0xc2 ≤ b) × (b ≤ 0xf4))
first_cases b h = grind (arith, nat_tests)

front_of : (b : ℕ) (bs : List ℕ) → is_first b ≡ true → Runs (asked b) bs → Front (b ∷ bs)
front_of b bs h k = ⊎_elim
    (λ (low : b < 0x80). one_byte b bs low k)
    (λ (high : (0xc2 ≤ b) × (b ≤ 0xf4)). ⊎_elim
    (λ (two : b < 0xe0). last_one b bs high.0 two (subst (λ rs. Runs rs bs) (asked_two b (omega (arith, high.0)) two) k))
    (λ (more : 0xe0 ≤ b). many_bytes b bs more high.1 k)
    (cases_lt b 0xe0))
    (first_cases b h)

utf8_within : (n : ℕ) (v : List ℕ) → length v ≤ n → Runs [] v → IsUtf8 v
utf8_within n [] h k = IsUtf8-nil
utf8_within zero (b ∷ bs) h k = absurd (omega arith)
utf8_within (suc n) (b ∷ bs) h k =
    let f = front_of b bs k.0 k.1 in
    subst IsUtf8 (sym f.split)
    (IsUtf8-append (encode f.char) f.back (IsUtf8-encode f.char f.is_char)
    (utf8_within n f.back (omega (arith, f.shorter)) f.runs))

pub utf8_of_runs : (v : List ℕ) → Runs [] v → IsUtf8 v
utf8_of_runs v k = utf8_within (length v) v (omega arith) k

-- Characters stand where they may.

first_low : (b : ℕ) → b < 0x80 → is_first b ≡ true
first_low b h = grind (arith, nat_tests)

first_high : (b : ℕ) → 0xc2 ≤ b → b ≤ 0xf4 → is_first b ≡ true
first_high b low high = grind (arith, nat_tests)

-- three bytes
run_three : (p q r : ℕ) (rest : List ℕ) → p < 16 → q < 64 → r < 64 → (p ≡ 0 → 32 ≤ q) → (p ≡ 13 → q < 32) → Runs [] rest
    → Runs [] ((224 + p) ∷ (128 + q) ∷ (128 + r) ∷ rest)
run_three p q r rest p' q' r' least most k =
    let b = 224 + p in
    let bytes = (128 + q) ∷ (128 + r) ∷ rest in (
      first_high b (omega arith) (omega arith),
      ⊎_elim
          (λ (h : b < 0xe1). let l = least (omega arith) in subst (λ rs. Runs rs bytes) (sym (asked_e0 b (omega arith) h))
          ((omega arith, omega arith), ((omega arith, omega arith), k)))
          (λ (l : 0xe1 ≤ b). ⊎_elim
          (λ (h : b < 0xed). subst (λ rs. Runs rs bytes) (sym (asked_e1 b l h)) ((omega arith, omega arith), ((omega arith, omega arith), k)))
          (λ (l : 0xed ≤ b). ⊎_elim
          (λ (h : b < 0xee). let m = most (omega arith) in subst (λ rs. Runs rs bytes) (sym (asked_ed b l h))
          ((omega arith, omega arith), ((omega arith, omega arith), k)))
          (λ (l : 0xee ≤ b). subst (λ rs. Runs rs bytes) (sym (asked_ee b l (omega arith)))
          ((omega arith, omega arith), ((omega arith, omega arith), k)))
          (cases_lt b 0xee))
          (cases_lt b 0xed))
          (cases_lt b 0xe1),
    )

-- four bytes
run_four : (p q r s : ℕ) (rest : List ℕ) → p ≤ 4 → q < 64 → r < 64 → s < 64 → (p ≡ 0 → 16 ≤ q) → (p ≡ 4 → q < 16)
    → Runs [] rest → Runs [] ((240 + p) ∷ (128 + q) ∷ (128 + r) ∷ (128 + s) ∷ rest)
run_four p q r s rest p' q' r' s' least most k =
    let b = 240 + p in
    let bytes = (128 + q) ∷ (128 + r) ∷ (128 + s) ∷ rest in (
      first_high b (omega arith) (omega arith),
      ⊎_elim
          (λ (h : b < 0xf1). let l = least (omega arith) in subst (λ rs. Runs rs bytes) (sym (asked_f0 b (omega arith) h))
          ((omega arith, omega arith), ((omega arith, omega arith), ((omega arith, omega arith), k))))
          (λ (l : 0xf1 ≤ b). ⊎_elim
          (λ (h : b < 0xf4). subst (λ rs. Runs rs bytes) (sym (asked_f1 b l h))
          ((omega arith, omega arith), ((omega arith, omega arith), ((omega arith, omega arith), k))))
          (λ (l : 0xf4 ≤ b). let m = most (omega arith) in subst (λ rs. Runs rs bytes) (sym (asked_f4 b l))
          ((omega arith, omega arith), ((omega arith, omega arith), ((omega arith, omega arith), k))))
          (cases_lt b 0xf4))
          (cases_lt b 0xf1),
    )

run_two : (p q : ℕ) (rest : List ℕ) → 2 ≤ p → p < 32 → q < 64 → Runs [] rest → Runs [] ((192 + p) ∷ (128 + q) ∷ rest)
run_two p q rest p' p'' q' k =
    let b = 192 + p in
    let bytes = (128 + q) ∷ rest in (
      first_high b (omega arith) (omega arith),
      subst (λ rs. Runs rs bytes) (sym (asked_two b (omega arith) (omega arith)))
          ((omega arith, omega arith), k),
    )

-- the digits of six bits of a number
digits_two : (c : ℕ) → (c ≡ (c / 64) * 64 + c % 64) × (c % 64 < 64)
digits_two c = (omega arith, omega arith)

digits_three : (c : ℕ) → (c / 64 ≡ (c / 4096) * 64 + (c / 64) % 64) × ((c / 64) % 64 < 64)
digits_three c = (omega arith, omega arith)

digits_four : (c : ℕ) → (c / 4096 ≡ (c / 262144) * 64 + (c / 4096) % 64) × ((c / 4096) % 64 < 64)
digits_four c = (omega arith, omega arith)

runs_char : (c : ℕ) (rest : List ℕ) → scalar c ≡ true → Runs [] rest → Runs [] (encode c ++ rest)
runs_char c rest h k = ⊎_elim
    (λ (one : c < 0x80). subst (λ l. Runs [] (l ++ rest)) (sym (encode_ascii c one))
    (first_low c one, subst (λ rs. Runs rs rest) (sym (asked_one c one)) k))
    (λ (low : 0x80 ≤ c). ⊎_elim
    (λ (two : c < 0x800).
    let d = digits_two c in
    subst (λ l. Runs [] (l ++ rest)) (sym (encode_two c low two))
    (run_two (c / 64) (c % 64) rest (omega arith) (omega arith) d.1 k))
    (λ (low : 0x800 ≤ c). ⊎_elim
    (λ (three : c < 0x10000).
    let d = digits_two c in
    let e = digits_three c in
    subst (λ l. Runs [] (l ++ rest)) (sym (encode_three c low three))
    (run_three (c / 4096) ((c / 64) % 64) (c % 64) rest (omega arith) e.1 d.1 (λ z. omega arith)
    (λ z. ⊎_elim (λ (f : c < 55296). omega arith) (λ (f : (57344 ≤ c) × (c < 1114112)). omega arith) (scalar_cases c h)) k))
    (λ (low : 0x10000 ≤ c).
    let top : c < 1114112 = ⊎_elim (λ (f : c < 55296). omega arith) (λ (f : (57344 ≤ c) × (c < 1114112)). f.1) (scalar_cases c h) in
    let d = digits_two c in
    let e = digits_three c in
    let f = digits_four c in
    subst (λ l. Runs [] (l ++ rest)) (sym (encode_four c low))
    (run_four (c / 262144) ((c / 4096) % 64) ((c / 64) % 64) (c % 64) rest (omega arith) f.1 e.1 d.1 (λ z. omega arith)
    (λ z. omega arith) k))
    (cases_lt c 0x10000))
    (cases_lt c 0x800))
    (cases_lt c 0x80)

and_left : (a b : Bool) → (a && b) ≡ true → a ≡ true
and_left true b h = refl
and_left false b h = absurd cc

and_right : (a b : Bool) → (a && b) ≡ true → b ≡ true
and_right true b h = h
and_right false b h = absurd cc

runs_chars : (cs : List ℕ) → scalars cs ≡ true → Runs [] (encodes cs)
runs_chars [] h = tt
runs_chars (c ∷ cs) h =
    runs_char c (encodes cs) (and_left (scalar c) (scalars cs) h) (runs_chars cs (and_right (scalar c) (scalars cs) h))

pub runs_of_utf8 : (v : List ℕ) → IsUtf8 v → Runs [] v
runs_of_utf8 v u = subst (Runs []) u.1.1 (runs_chars u.0 u.1.0)
