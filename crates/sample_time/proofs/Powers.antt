-- Powers of ten on either side of a bound.
use Rattle.std.proofs.Common.{ℕ, ◌^◌, ◌<◌, ◌≤◌, ◌*◌, arith}
use Rattle.std.proofs.Math.Nat.{one-le-pow, pow-le-pow_right}
use Rattle.std.proofs.lemmas.Nat.{mul-le}

pub ten_positive : (n : ℕ) → 0 < 10 ^ n
ten_positive n = one-le-pow n 10 (omega arith)

pub ten_to_26 : (n : ℕ) → n ≤ 26 → 10 ^ n ≤ 100000000000000000000000000
ten_to_26 n small = pow-le-pow_right (omega arith) small

pub ten_past_26 : (n : ℕ) → 26 < n → 1000000000000000000000000000 ≤ 10 ^ n
ten_past_26 n large = pow-le-pow_right (omega arith) large

pub ten_past_12 : (n : ℕ) → 12 < n → 10000000000000 ≤ 10 ^ n
ten_past_12 n large = pow-le-pow_right (omega arith) large

-- a count of samples times a small power of ten fits 128 bits
pub product_fits : (count n : ℕ) → count < 10 ^ 26 → n ≤ 12 → count * 10 ^ n < 2 ^ 128
product_fits count n low small =
    let power : 10 ^ n ≤ 10 ^ 12 = pow-le-pow_right (omega arith) small in
    let product : count * 10 ^ n ≤ 10 ^ 26 * 10 ^ 12 = mul-le count (10 ^ n) (10 ^ 26) (10 ^ 12) (omega arith) power in
    omega arith

-- and times a large one, unless it is 0, it is past 2 ^ 40
pub product_large : (count n : ℕ) → 0 < count → 12 < n → 2 ^ 40 < count * 10 ^ n
product_large count n some large =
    let power = ten_past_12 n large in
    let product : 1 * 10000000000000 ≤ count * 10 ^ n = mul-le 1 10000000000000 count (10 ^ n) some power in
    omega arith

pub ten_to_38 : (n : ℕ) → n ≤ 38 → 10 ^ n ≤ 100000000000000000000000000000000000000
ten_to_38 n small = pow-le-pow_right (omega arith) small

-- some digits with more than 38 zeros do not fit 128 bits
pub product_past : (digits n : ℕ) → 0 < digits → 38 < n → 2 ^ 128 ≤ digits * 10 ^ n
product_past digits n some large =
    let power : 10 ^ 39 ≤ 10 ^ n = pow-le-pow_right (omega arith) large in
    let product : 1 * 10 ^ 39 ≤ digits * 10 ^ n = mul-le 1 (10 ^ 39) digits (10 ^ n) some power in
    omega arith
