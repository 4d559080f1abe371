-- Numbers of entries that rise by one.
use Rattle.std.proofs.Common.{◌≡◌, ◌≢◌, ℕ, suc, false, nat_eq, IsTrue, ◌+◌, ◌<◌, ◌≤◌, List, [], ◌∷◌, ◌++◌, length, refl, ap, sym, ◌∙◌, subst, arith, length-append, append-nil}
use Rattle.std.proofs.lemmas.Bool.Decides.{nat_tests}
use mathlib.Core.List.{IsPrefix}
use Rattle.version_gate.specs.declared.entry.Entry.{Entry}
use Rattle.version_gate.specs.Lists.{Rises, Numbered}
use Rattle.version_gate.proofs.Beginnings.{prefix_shorter, prefix_whole}

module _ {T : Type 0} where
  pub rises_more : (n : ℕ) (xs : List (Entry T)) (e : Entry T) → Rises n xs → e.number ≡ n + length xs → Rises n (xs ++ e ∷ [])
  rises_more n [] e r is = (omega (arith, is), tt)
  rises_more n (x ∷ xs) e r is = (r.0, rises_more (suc n) xs e r.1 (omega (arith, is)))

  -- two beginnings of one list start with one number
  pub same_start : (n m : ℕ) (xs ys zs : List (Entry T)) → 0 < length xs → 0 < length ys → IsPrefix xs zs → IsPrefix ys zs → Rises n xs → Rises m ys → n ≡ m
  same_start n m [] ys zs one two p q r s = absurd (omega arith)
  same_start n m (x ∷ xs) [] zs one two p q r s = absurd (omega arith)
  same_start n m (x ∷ xs) (y ∷ ys) [] one two p q r s = absurd (cc (p.1))
  same_start n m (x ∷ xs) (y ∷ ys) (z ∷ zs) one two p q r s =
      let heads : x ≡ y = cc (p.1, q.1) in
      sym r.0 ∙ (ap (λ (e : Entry T). e.number) heads ∙ s.0)

  -- of two beginnings of one list the one with the lower number begins the other
  pub lower_begins : (k m : ℕ) (xs ys zs : List (Entry T)) → Numbered k xs → Numbered m ys → IsPrefix xs zs → IsPrefix ys zs → k ≤ m → IsPrefix xs ys
  lower_begins k m xs ys zs a b p q le =
      let start = same_start a.0 b.0 xs ys zs a.3 b.3 p q a.1 b.1 in
      prefix_shorter xs ys zs p q (omega (arith, start, a.2, b.2, le))

  pub numbered_more : (k : ℕ) (xs : List (Entry T)) (e : Entry T) → Numbered k xs → e.number ≡ k + 1 → Numbered e.number (xs ++ e ∷ [])
  numbered_more k xs e a is = (
    a.0,
    rises_more a.0 xs e a.1 (omega (arith, a.2, is)),
    omega (arith, a.2, is, length-append xs (e ∷ [])),
    omega (arith, length-append xs (e ∷ [])),
  )

  -- a list has one number
  pub numbered_once : (k m : ℕ) (xs : List (Entry T)) → Numbered k xs → Numbered m xs → k ≡ m
  numbered_once k m [] a b = absurd (omega (arith, a.3))
  numbered_once k m (x ∷ xs) a b = omega (arith, sym a.1.0 ∙ b.1.0, a.2, b.2)

  -- a beginning with the number of the whole is the whole
  pub same_number : (k : ℕ) (xs ys : List (Entry T)) → Numbered k xs → Numbered k ys → IsPrefix xs ys → xs ≡ ys
  same_number k xs ys a b p =
      let rest = p.0 in
      let start = same_start a.0 b.0 xs ys ys a.3 b.3 p ([], app_nil ys) a.1 b.1 in
      prefix_whole xs ys p (omega (arith, start, a.2, b.2))
    where
      app_nil : (zs : List (Entry T)) → zs ++ [] ≡ zs
      app_nil [] = refl
      app_nil (z ∷ zs) = ap (λ w. z ∷ w) (app_nil zs)

  -- of a list with the published list's number, which the published list begins: it is that list
  pub caught_up : (k m : ℕ) (published now before : List (Entry T)) → IsTrue (nat_eq k m) → Numbered k now → Numbered m published → IsPrefix published now → IsPrefix before now
      → (now ≡ published) × IsPrefix before published
  caught_up k m published now before same a b p q =
      let is : k ≡ m = grind (arith, nat_tests) in
      let whole : published ≡ now = same_number m published now b (subst (λ (i : ℕ). Numbered i now) is a) p in
      (sym whole, subst (IsPrefix before) (sym whole) q)

  -- a list with another number than the published list's, which begins it: its number is the greater
  pub went_past : (k m n : ℕ) (published now : List (Entry T)) → nat_eq k m ≡ false → Numbered k now → Numbered m published → IsPrefix published now → Numbered n now → m < n
  went_past k m n published now other a b p own =
      let start = same_start b.0 a.0 published now now b.3 a.3 p ([], append-nil now) b.1 a.1 in
      let same = numbered_once n k now own a in
      let long : length published + length p.0 ≡ length now = sym (length-append published p.0) ∙ ap length p.1 in
      let differ : k ≢ m = grind (arith, nat_tests) in
      omega (arith, start, a.2, b.2, same, long, differ)

  pub numbered_one : (e : Entry T) → Numbered e.number (e ∷ [])
  numbered_one e = (e.number, (refl, tt), refl, omega arith)
