-- Texts with each quote twice, piece after piece.
use Rattle.std.proofs.Common.{◌≡◌, ◌≢◌, ℕ, zero, suc, ◌+◌, ◌<◌, ◌≤◌, Bool, true, false, cond, eqb, not, List, [], ◌∷◌, ◌++◌, length, take, drop, get_or, refl, sym, ap, ◌∙◌, subst, arith, append_assoc}
use Rattle.std.specs.Str.{IsCharBoundary, IsUtf8}
use Rattle.std.proofs.lemmas.Bool.{eqb-true}
use Rattle.std.proofs.lemmas.Str.{IsCharBoundary-after_ascii, IsUtf8-drop}
use Rattle.textgrid.specs.Inner.Quoted.{is_unquoted, quoted_len}
use Rattle.grid_writing.specs.Layout.{doubled}

-- a text without a quote
none_if : (q : Bool) (b : ℕ) (bs : List ℕ) → cond (not q) (1 + quoted_len bs) 0 ≡ suc (length bs) → (quoted_len bs ≡ length bs → doubled bs ≡ bs) → cond q (34 ∷ 34 ∷ doubled bs) (b ∷ doubled bs) ≡ b ∷ bs
none_if true b bs is rest = absurd (omega arith)
none_if false b bs is rest = ap (λ (x : List ℕ). b ∷ x) (rest (omega arith))

pub no_quote : (bs : List ℕ) → quoted_len bs ≡ length bs → doubled bs ≡ bs
no_quote [] is = refl
no_quote (b ∷ bs) is = none_if (eqb b 34) b bs is (no_quote bs)

-- a text up to its first quote and with it
to_if : (q : Bool) (b : ℕ) (bs : List ℕ) (n : ℕ) → eqb b 34 ≡ q → cond (not q) (1 + quoted_len bs) 0 ≡ n → n < suc (length bs) → ((k : ℕ) → quoted_len bs ≡ k → k < length bs → (doubled bs ≡ take (k + 1) bs ++ (34 ∷ doubled (drop (k + 1) bs))) × (get_or bs k 0 ≡ 34)) → (cond q (34 ∷ 34 ∷ doubled bs) (b ∷ doubled bs) ≡ take (n + 1) (b ∷ bs) ++ (34 ∷ doubled (drop (n + 1) (b ∷ bs)))) × (get_or (b ∷ bs) n 0 ≡ 34)
to_if true b bs zero test is within rest =
    let quote : b ≡ 34 = eqb-true b 34 test in
    (ap (λ (x : ℕ). x ∷ 34 ∷ doubled bs) (sym quote), quote)
to_if true b bs (suc n) test is within rest = absurd (omega arith)
to_if false b bs zero test is within rest = absurd (omega arith)
to_if false b bs (suc n) test is within rest =
    let sum : suc n + 1 ≡ suc (n + 1) = omega arith in
    let more = rest n (omega arith) (omega arith) in
    (rw sum (ap (λ (x : List ℕ). b ∷ x) more.0), more.1)

pub to_quote : (bs : List ℕ) (n : ℕ) → quoted_len bs ≡ n → n < length bs → (doubled bs ≡ take (n + 1) bs ++ (34 ∷ doubled (drop (n + 1) bs))) × (get_or bs n 0 ≡ 34)
to_quote [] n is within = absurd (omega arith)
to_quote (b ∷ bs) n is within = to_if (eqb b 34) b bs n refl is within (to_quote bs)

pub behind_quote : (bs : List ℕ) (n : ℕ) → IsUtf8 bs → quoted_len bs ≡ n → n < length bs → IsCharBoundary bs (n + 1)
behind_quote bs n utf8 is within =
    let quote = (to_quote bs n is within).1 in IsCharBoundary-after_ascii bs n utf8 within (omega (arith, quote))

pub goes_on : (made new rest front back all : List ℕ) (n : ℕ) → quoted_len rest ≡ n → n < length rest → front ≡ take (n + 1) rest → back ≡ drop (n + 1) rest → new ≡ (made ++ front) ++ (34 ∷ []) → made ++ doubled rest ≡ all → new ++ doubled back ≡ all
goes_on made new rest front back all n is within first second grown was =
    let step = (to_quote rest n is within).0 in
    rw (grown, second, first)
    (append_assoc (made ++ take (n + 1) rest) (34 ∷ []) (doubled (drop (n + 1) rest))
    ∙ append_assoc made (take (n + 1) rest) (34 ∷ doubled (drop (n + 1) rest))
    ∙ ap (λ (x : List ℕ). made ++ x) (sym step) ∙ was)
