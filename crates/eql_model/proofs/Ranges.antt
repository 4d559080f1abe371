-- Tests of the numbers from one to another, in a loop.
use Rattle.std.proofs.Common.{◌≡◌, ℕ, suc, ◌+◌, ◌-◌, ◌<◌, ◌≤◌, Bool, true, false, ◌||◌, ◌&&◌, List, [], ◌∷◌, sym, ap, ◌∙◌, arith}
use Rattle.std.specs.List.{list_all, list_any, range_with_len}

from_length : (i n m : ℕ) → n - i ≡ suc m → range_with_len i (n - i) ≡ i ∷ range_with_len (i + 1) m
from_length i n m e = ap (range_with_len i) e

range_step : (i n : ℕ) → i < n → range_with_len i (n - i) ≡ i ∷ range_with_len (i + 1) (n - (i + 1))
range_step i n h = from_length i n (n - (i + 1)) (omega arith)

range_end : (i n : ℕ) → n ≤ i → range_with_len i (n - i) ≡ []
range_end i n h = let none : n - i ≡ 0 = omega arith in ap (range_with_len i) none

any_front : (p : ℕ → Bool) (i : ℕ) (is : List ℕ) (b : Bool) → p i ≡ b → list_any p (i ∷ is) ≡ (b || list_any p is)
any_front p i is b e = ap (λ x. x || list_any p is) e

all_front : (p : ℕ → Bool) (i : ℕ) (is : List ℕ) (b : Bool) → p i ≡ b → list_all p (i ∷ is) ≡ (b && list_all p is)
all_front p i is b e = ap (λ x. x && list_all p is) e

pub any_passes : (p : ℕ → Bool) (i n : ℕ) (whole : Bool) → list_any p (range_with_len i (n - i)) ≡ whole → i < n → p i ≡ false →
    list_any p (range_with_len (i + 1) (n - (i + 1))) ≡ whole
any_passes p i n whole so_far h e =
    sym (any_front p i (range_with_len (i + 1) (n - (i + 1))) false e) ∙ sym (ap (list_any p) (range_step i n h)) ∙ so_far

pub any_found : (p : ℕ → Bool) (i n : ℕ) (whole : Bool) → list_any p (range_with_len i (n - i)) ≡ whole → i < n → p i ≡ true →
    true ≡ whole
any_found p i n whole so_far h e =
    sym (any_front p i (range_with_len (i + 1) (n - (i + 1))) true e) ∙ sym (ap (list_any p) (range_step i n h)) ∙ so_far

pub any_none : (p : ℕ → Bool) (i n : ℕ) (whole : Bool) → list_any p (range_with_len i (n - i)) ≡ whole → n ≤ i → false ≡ whole
any_none p i n whole so_far h = sym (ap (list_any p) (range_end i n h)) ∙ so_far

pub all_passes : (p : ℕ → Bool) (i n : ℕ) (whole : Bool) → list_all p (range_with_len i (n - i)) ≡ whole → i < n → p i ≡ true →
    list_all p (range_with_len (i + 1) (n - (i + 1))) ≡ whole
all_passes p i n whole so_far h e =
    sym (all_front p i (range_with_len (i + 1) (n - (i + 1))) true e) ∙ sym (ap (list_all p) (range_step i n h)) ∙ so_far

pub all_broken : (p : ℕ → Bool) (i n : ℕ) (whole : Bool) → list_all p (range_with_len i (n - i)) ≡ whole → i < n → p i ≡ false →
    false ≡ whole
all_broken p i n whole so_far h e =
    sym (all_front p i (range_with_len (i + 1) (n - (i + 1))) false e) ∙ sym (ap (list_all p) (range_step i n h)) ∙ so_far

pub all_end : (p : ℕ → Bool) (i n : ℕ) (whole : Bool) → list_all p (range_with_len i (n - i)) ≡ whole → n ≤ i → true ≡ whole
all_end p i n whole so_far h = sym (ap (list_all p) (range_end i n h)) ∙ so_far
