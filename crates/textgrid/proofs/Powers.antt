-- Powers of ten on either side of a bound.
use Rattle.std.proofs.Common.{ℕ, ◌^◌, ◌<◌, ◌≤◌, ◌*◌, arith}
use Rattle.std.proofs.Math.Nat.{one-le-pow, pow-le-pow_right}
use Rattle.std.proofs.lemmas.Nat.{mul-le}

pub ten_positive : (n : ℕ) → 0 < 10 ^ n
ten_positive n = one-le-pow n 10 (omega arith)

pub ten_to_38 : (n : ℕ) → n ≤ 38 → 10 ^ n ≤ 100000000000000000000000000000000000000
ten_to_38 n small = pow-le-pow_right (omega arith) small

pub ten_past_38 : (n : ℕ) → 38 < n → 1000000000000000000000000000000000000000 ≤ 10 ^ n
ten_past_38 n large = pow-le-pow_right (omega arith) large

pub ten_past_4 : (n : ℕ) → 4 < n → 100000 ≤ 10 ^ n
ten_past_4 n large = pow-le-pow_right (omega arith) large

pub ten_to_4 : (n : ℕ) → n ≤ 4 → 10 ^ n ≤ 10000
ten_to_4 n small = pow-le-pow_right (omega arith) small

-- a number times a power of ten is no smaller, and with a large power it is past 65,536
pub product_grows : (digits n : ℕ) → digits ≤ digits * 10 ^ n
product_grows digits n =
    let whole : digits * 1 ≤ digits * 10 ^ n = mul-le digits 1 digits (10 ^ n) (omega arith) (ten_positive n) in
    omega arith

pub product_large : (digits n : ℕ) → 0 < digits → 4 < n → 65536 < digits * 10 ^ n
product_large digits n some large =
    let product : 1 * 100000 ≤ digits * 10 ^ n = mul-le 1 100000 digits (10 ^ n) some (ten_past_4 n large) in
    omega arith

pub product_fits : (digits n : ℕ) → digits ≤ 65536 → n ≤ 4 → digits * 10 ^ n < 2 ^ 128
product_fits digits n low small =
    let product : digits * 10 ^ n ≤ 65536 * 10000 = mul-le digits (10 ^ n) 65536 10000 low (ten_to_4 n small) in
    omega arith
