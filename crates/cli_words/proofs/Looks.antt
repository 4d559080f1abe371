-- How each word looks that is not `--`.
use Rattle.std.proofs.Common.{◌≡◌, ◌≢◌, ◌∙◌, ap, sym, subst, refl, arith, ℕ, suc, Bool, true, false, cond, ◌==◌, ◌&&◌, List, [], ◌∷◌, length, Option, Some, None, eqb-true}
use Rattle.std.specs.Prelude.{slice_get, IsUtf8, encode_utf8_all, nat_le}
use Rattle.std.specs.Str.{bytes_eq, chars}
use Rattle.std.specs.Char.{encode_utf8}
use Rattle.std.proofs.lemmas.Str.{encodes-chars}
use Rattle.std.proofs.lemmas.Bool.Decides.{nat_tests}
use Rattle.clap.specs.Lexer.{long_of, short_of}
use Rattle.cli_words.specs.Lines.{Text, behind_dashes, is_dashed, name_in, value_in}

-- no flag and no option
pub record IsPlain (word : Text) : Type 0 where
  pub no_end : bytes_eq word (45 ∷ 45 ∷ []) ≡ false
  pub no_long : long_of word ≡ None
  pub no_short : short_of word ≡ None
  pub dashed : is_dashed word ≡ false

-- `--text`
pub record IsLong (word text : Text) : Type 0 where
  pub no_end : bytes_eq word (45 ∷ 45 ∷ []) ≡ false
  pub long : long_of word ≡ Some (name_in text, value_in text)
  pub dashed : is_dashed word ≡ true
  pub behind : behind_dashes word ≡ Some text

-- `-abc`, of which the first character is x
pub record IsShort (word : Text) (x flag : ℕ) (flags : Text) : Type 0 where
  pub no_end : bytes_eq word (45 ∷ 45 ∷ []) ≡ false
  pub no_long : long_of word ≡ None
  pub short : short_of word ≡ Some (flag ∷ flags)
  pub first : slice_get (chars (flag ∷ flags)) 0 ≡ Some x
  pub dashed : is_dashed word ≡ true
  pub behind : behind_dashes word ≡ None

pub data Look (word : Text) : Type 0 where
  plain : IsPlain word → Look word
  long : (text : Text) → IsLong word text → Look word
  short : (x flag : ℕ) → (flags : Text) → IsShort word x flag flags → Look word

abbrev pub Looks : List Text → Type 0
Looks [] = Unit {0}
Looks (w ∷ ws) = Look w × Looks ws

dashed_long : (c : ℕ) (rest : Text) → is_dashed (45 ∷ c ∷ rest) ≡ true
dashed_long c rest = grind (arith, nat_tests)

chars_behind : (c : ℕ) (cs : Text) → chars (45 ∷ c ∷ cs) ≡ 45 ∷ chars (c ∷ cs)
unfolding chars
chars_behind c cs = refl

one_byte : encode_utf8_all (45 ∷ []) ≡ 45 ∷ []
unfolding encode_utf8
one_byte = refl

-- what stands behind the hyphen of a text has a character
first_char : (c : ℕ) (cs : Text) → IsUtf8 (45 ∷ c ∷ cs) → (x : ℕ) × (slice_get (chars (c ∷ cs)) 0 ≡ Some x)
first_char c cs u = go (chars (c ∷ cs)) refl
  where
    go : (xs : Text) → chars (c ∷ cs) ≡ xs → (x : ℕ) × (slice_get (chars (c ∷ cs)) 0 ≡ Some x)
    go [] e =
        let whole : 45 ∷ [] ≡ 45 ∷ c ∷ cs = sym one_byte ∙ ap (λ xs. encode_utf8_all (45 ∷ xs)) (sym e)
        ∙ ap encode_utf8_all (sym (chars_behind c cs)) ∙ encodes-chars (45 ∷ c ∷ cs) u in
        let bad : 1 ≡ suc (suc (length cs)) = ap length whole in
        absurd (omega (arith, bad))
    go (x ∷ xs) e = (x, rw e refl)

no_second : (a : Bool) → (a && false) ≡ false
no_second true = refl
no_second false = refl

other_first : (b : ℕ) (rest : Text) → (b == 45) ≡ false → Look (b ∷ rest)
other_first b rest e = plain (record { no_end = rw e refl; no_long = rw e refl; no_short = rw e refl; dashed = rw e (no_second (nat_le 2 (length (b ∷ rest)))) })

behind_hyphen : (c : ℕ) (cs : Text) → IsUtf8 (45 ∷ c ∷ cs) → (b : Bool) → (c == 45) ≡ b → 45 ∷ c ∷ cs ≢ 45 ∷ 45 ∷ [] → Look (45 ∷ c ∷ cs)
behind_hyphen c cs u false e no_end =
    let first = first_char c cs u in
    short first.0 c cs (record { no_end = rw e refl; no_long = rw e refl; short = rw e refl; first = first.1; dashed = dashed_long c cs; behind = rw e refl })
behind_hyphen c [] u true e no_end = absurd (no_end (ap (λ x. 45 ∷ x ∷ []) (eqb-true c 45 e)))
behind_hyphen c (d ∷ ds) u true e no_end =
    subst (λ x. Look (45 ∷ x ∷ d ∷ ds)) (sym (eqb-true c 45 e)) (long (d ∷ ds) (record { no_end = refl; long = refl; dashed = dashed_long 45 (d ∷ ds); behind = refl }))

hyphen : (rest : Text) → IsUtf8 (45 ∷ rest) → 45 ∷ rest ≢ 45 ∷ 45 ∷ [] → Look (45 ∷ rest)
hyphen [] u no_end = plain (record { no_end = refl; no_long = refl; no_short = refl; dashed = refl })
hyphen (c ∷ cs) u no_end = behind_hyphen c cs u (c == 45) refl no_end

first_is : (b : ℕ) (rest : Text) → IsUtf8 (b ∷ rest) → (c : Bool) → (b == 45) ≡ c → b ∷ rest ≢ 45 ∷ 45 ∷ [] → Look (b ∷ rest)
first_is b rest u false e no_end = other_first b rest e
first_is b rest u true e no_end =
    let is = eqb-true b 45 e in
    subst (λ x. Look (x ∷ rest)) (sym is) (hyphen rest (subst (λ x. IsUtf8 (x ∷ rest)) is u) (λ h. no_end (ap (λ x. x ∷ rest) is ∙ h)))

-- each text other than `--` has a look
pub looks : (word : Text) → IsUtf8 word → word ≢ 45 ∷ 45 ∷ [] → Look word
looks [] u no_end = plain (record { no_end = refl; no_long = refl; no_short = refl; dashed = refl })
looks (b ∷ rest) u no_end = first_is b rest u (b == 45) refl no_end
