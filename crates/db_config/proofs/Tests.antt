-- Steps of the loops that test each element of a list.
use Rattle.std.proofs.Common.{◌≡◌, ℕ, suc, ◌+◌, ◌<◌, ◌≤◌, Bool, true, false, List, length, drop, get_or, sym, ap, ◌∙◌, arith, drop-cons, drop_of_length-le}
use Rattle.std.specs.Prelude.{◌&&◌}
use Rattle.std.specs.List.{list_all}

module _ {A : Type 0} (test : A → Bool) (items : List A) (all : Bool) (place : ℕ) (whole : list_all test (drop place items) ≡ all) where
  all_here : (x : A) → place < length items → x ≡ get_or items place x → (test x && list_all test (drop (place + 1) items)) ≡ all
  all_here x h is =
      let p : suc place ≡ place + 1 = omega arith in
      ap (λ n. test x && list_all test (drop n items)) (sym p)
      ∙ ap (λ y. test y && list_all test (drop (suc place) items)) is
      ∙ ap (list_all test) (sym (drop-cons items place x h)) ∙ whole

  pub all_more : (x : A) → place < length items → x ≡ get_or items place x → test x ≡ true
      → list_all test (drop (place + 1) items) ≡ all
  all_more x h is passes = ap (λ b. b && list_all test (drop (place + 1) items)) (sym passes) ∙ all_here x h is

  pub all_fails : (x : A) → place < length items → x ≡ get_or items place x → test x ≡ false → all ≡ false
  all_fails x h is fails = sym (ap (λ b. b && list_all test (drop (place + 1) items)) (sym fails) ∙ all_here x h is)

  pub all_done : length items ≤ place → all ≡ true
  all_done h = sym whole ∙ ap (list_all test) (drop_of_length-le items h)
