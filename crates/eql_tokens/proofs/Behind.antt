-- The tokens behind the first one.
use Rattle.std.proofs.Common.{◌≡◌, ℕ, zero, suc, ◌+◌, ◌-◌, ◌<◌, ◌≤◌, Bool, true, false, cond, eqb, ltb, ◌&&◌, List, [], ◌∷◌, ◌++◌, length, drop, take, Option, Some, None, refl, sym, ap, ◌∙◌, subst, arith, append_assoc}
use Rattle.eql_tokens.specs.declared.token.Token.{Token}
use Rattle.eql_tokens.specs.declared.token.Token.TheVariants.{Word, Wrong}
use Rattle.eql_tokens.specs.declared.token.Placed.{Placed}
use Rattle.eql_tokens.specs.Tokens.{front, symbol, symbol_or_word, quoted, quoted_len, bare, token_at, is_space, tokens_from}

-- a symbol has a byte or two
abbrev IsLong : Option (Token × ℕ) → Type 0
IsLong None = Unit {0}
IsLong (Some found) = 0 < found.1

long_if : (c : Bool) (x y : Option (Token × ℕ)) → IsLong x → IsLong y → IsLong (cond c x y)
long_if true x y left right = left
long_if false x y left right = right

symbol_len : (b next : ℕ) → IsLong (symbol b next)
symbol_len b next =
    long_if (eqb b 91) _ _ (omega arith) (
    long_if (eqb b 93) _ _ (omega arith) (
    long_if (eqb b 40) _ _ (omega arith) (
    long_if (eqb b 41) _ _ (omega arith) (
    long_if (eqb b 44) _ _ (omega arith) (
    long_if (eqb b 38) _ _ (omega arith) (
    long_if (eqb b 124) _ _ (omega arith) (
    long_if (eqb b 94) _ _ (omega arith) (
    long_if (eqb b 35) _ _ (omega arith) (
    long_if (eqb b 45 && eqb next 62) _ _ (omega arith) (
    long_if (eqb b 61 && eqb next 61) _ _ (omega arith) (
    long_if (eqb b 61 && eqb next 126) _ _ (omega arith) (
    long_if (eqb b 61) _ _ (omega arith) (
    long_if (eqb b 33 && eqb next 61) _ _ (omega arith) (
    long_if (eqb b 33 && eqb next 126) _ _ (omega arith) (
    long_if (eqb b 33) _ _ (omega arith) (
    long_if (eqb b 60 && eqb next 61) _ _ (omega arith) (
    long_if (eqb b 60) _ _ (omega arith) (
    long_if (eqb b 62 && eqb next 61) _ _ (omega arith) (
    long_if (eqb b 62) _ _ (omega arith) (
    tt))))))))))))))))))))

quoted_some : (bs : List ℕ) (closes : Bool) → 0 < (cond {A = Token × ℕ} closes ((Word false (take (quoted_len bs) bs)), quoted_len bs + 2) (Wrong, length bs + 1)).1
quoted_some bs true = omega arith
quoted_some bs false = omega arith

quoted_long : (bs : List ℕ) → 0 < (quoted bs).1
unfolding quoted
quoted_long bs = quoted_some bs (ltb (quoted_len bs) (length bs))

word_some : (quote : Bool) (b : ℕ) (bs : List ℕ) → 0 < (cond {A = Token × ℕ} quote (quoted bs) (bare b bs)).1
unfolding bare
word_some true b bs = quoted_long bs
word_some false b bs = omega arith

some_len : (o : Option (Token × ℕ)) (b : ℕ) (bs : List ℕ) → IsLong o → 0 < (symbol_or_word o b bs).1
some_len (Some found) b bs long = long
some_len None b bs long = word_some (eqb b 39) b bs

pub token_len : (b : ℕ) (bs : List ℕ) → 0 < (token_at b bs).1
unfolding token_at
token_len b bs = some_len (symbol b (front bs)) b bs (symbol_len b (front bs))

-- skipping bytes is dropping them
skipped : (bs : List ℕ) (n place : ℕ) → n ≤ length bs → tokens_from bs n place ≡ tokens_from (drop n bs) 0 (place + n)
skipped bs zero place within = let same : place + 0 ≡ place = omega arith in ap (λ (p : ℕ). tokens_from bs 0 p) (sym same)
skipped [] (suc n) place within = absurd (omega arith)
skipped (b ∷ bs) (suc n) place within =
    let rest = skipped bs n (place + 1) (omega arith) in
    let sum : place + 1 + n ≡ place + suc n = omega arith in
    rest ∙ ap (λ (p : ℕ). tokens_from (drop n bs) 0 p) sum

pub space_step : (text : List ℕ) (place : ℕ) → 0 < length text → is_space (front text) ≡ true → tokens_from text 0 place ≡ tokens_from (drop 1 text) 0 (place + 1)
space_step [] place some space = absurd (omega arith)
space_step (b ∷ bs) place some space = rw space refl

from_one : (b : ℕ) (bs : List ℕ) (n place : ℕ) → 0 < n → n ≤ suc (length bs) → tokens_from bs (n - 1) (place + 1) ≡ tokens_from (drop n (b ∷ bs)) 0 (place + n)
from_one b bs zero place some within = absurd (omega arith)
from_one b bs (suc n) place some within =
    let less : suc n - 1 ≡ n = omega arith in
    let sum : place + 1 + n ≡ place + suc n = omega arith in
    rw less (skipped bs n (place + 1) (omega arith) ∙ ap (λ (p : ℕ). tokens_from (drop n bs) 0 p) sum)

pub token_step : (text : List ℕ) (place : ℕ) → 0 < length text → is_space (front text) ≡ false → (token_at (front text) (drop 1 text)).1 ≤ length text → tokens_from text 0 place ≡ record { at = place; token = (token_at (front text) (drop 1 text)).0 } ∷ tokens_from (drop ((token_at (front text) (drop 1 text)).1) text) 0 (place + (token_at (front text) (drop 1 text)).1)
token_step [] place some space within = absurd (omega arith)
token_step (b ∷ bs) place some space within =
    let rest = from_one b bs ((token_at b bs).1) place (token_len b bs) within in
    rw space (ap (λ (xs : List Placed). record { at = place; token = (token_at b bs).0 } ∷ xs) rest)

pub token_next : (old new : List Placed) (text : List ℕ) (place : ℕ) (t : Token) (n : ℕ) → 0 < length text → is_space (front text) ≡ false → token_at (front text) (drop 1 text) ≡ (t, n) → n ≤ length text → new ≡ old ++ record { at = place; token = t } ∷ [] → old ++ tokens_from text 0 place ≡ new ++ tokens_from (drop n text) 0 (place + n)
token_next old new text place t n some space is within grown =
    let found : Token × ℕ = token_at (front text) (drop 1 text) in
    let size : (token_at (front text) (drop 1 text)).1 ≡ n = ap (λ (x : Token × ℕ). x.1) is in
    let step = token_step text place some space (subst (λ (k : ℕ). k ≤ length text) (sym size) within) in
    let whole = subst (λ (x : Token × ℕ). tokens_from text 0 place ≡ record { at = place; token = x.0 } ∷ tokens_from (drop x.1 text) 0 (place + x.1)) is step in
    rw grown (ap (λ (xs : List Placed). old ++ xs) whole ∙ sym (append_assoc old (record { at = place; token = t } ∷ []) (tokens_from (drop n text) 0 (place + n))))
