-- What a vector's comparison says of its lanes.
use Rattle.std.proofs.Common.{◌≡◌, ◌+◌, ◌-◌, ◌%◌, ◌^◌, ◌<◌, ◌≤◌, ℕ, cond, List, [], ◌∷◌, length, map, leb, Fits, refl, ap, ◌∙◌, arith}
use Rattle.std.proofs.lemmas.Bool.Decides.{nat_tests}
use Rattle.std.proofs.lemmas.Simd.{zip2_splat, bitmask_splat, length-zip2}
use lib.Lanes.{Each1, mask_l, zip2, top}
use lib.ListN.{replicate}
use mir.Syntax.{w64}
use Rattle.lane_bits.specs.Inner.Row.{is_between}

-- a lane after `low` was taken off, which wraps
abbrev less : ℕ → ℕ → ℕ
less x low = (x + (2 ^ 64 - low)) % 2 ^ 64

one_lane : (low high x : ℕ) → low ≤ high → high < 2 ^ 64 → x < 2 ^ 64 → leb (less x low) (high - low) ≡ is_between low high x
one_lane low high x order top fits = grind (arith, nat_tests)

each_lane : (low high : ℕ) (xs : List ℕ) → low ≤ high → high < 2 ^ 64 → Each1 (Fits w64) xs →
    map (λ y. leb y (high - low)) (map (λ x. less x low) xs) ≡ map (is_between low high) xs
each_lane low high [] order top fits = refl
each_lane low high (x ∷ xs) order top fits =
    let here = one_lane low high x order top fits.0.fits in
    let there = each_lane low high xs order top fits.1 in cc

-- one comparison of the lanes less the lowest number says which are between
pub between_by_one : (xs : List ℕ) (low high : ℕ) → length xs ≡ 8 → low ≤ high → high < 2 ^ 64 → Each1 (Fits w64) xs →
    mask_l (map (top 63) (zip2 (λ a b. cond (leb a b) (2 ^ 64 - 1) 0) (zip2 less xs (replicate 8 low)) (replicate 8 (high - low)))) % 2 ^ 64
    ≡ mask_l (map (is_between low high) xs)
between_by_one xs low high long order top fits =
    let lanes : List ℕ = zip2 less xs (replicate 8 low) in
    bitmask_splat w64 leb lanes 8 (high - low) (length-zip2 less xs (replicate 8 low) long ∙ long) (omega arith)
    ∙ ap (λ ys. mask_l (map (λ y. leb y (high - low)) ys)) (zip2_splat less xs 8 low long)
    ∙ ap mask_l (each_lane low high xs order top fits)
