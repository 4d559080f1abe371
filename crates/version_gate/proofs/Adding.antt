-- The step that adds an entry keeps the law of the published list.
use Rattle.std.proofs.Common.{◌≡◌, ℕ, ◌+◌, ◌<◌, ◌==◌, Bool, true, false, List, [], ◌∷◌, ◌++◌, length, refl, ap, sym, ◌∙◌, subst, arith, inl, length-append, None}
use Rattle.std.proofs.lemmas.List.{append-nil}
use Rattle.std.proofs.lemmas.Bool.Decides.{nat_tests}
use mathlib.Core.List.{IsPrefix}
use prog.Atomic.{either}
use Rattle.logbook.specs.Pages.{Cell, cell, keeps, no_nib, step, Moves, Goes}
use Rattle.version_gate.specs.declared.entry.Entry.{Entry}
use Rattle.version_gate.specs.Lists.{Rises}
use Rattle.version_gate.specs.Inner.Law.{IsKept, Adds}
use Rattle.version_gate.proofs.Beginnings.{prefix_whole}
use Rattle.version_gate.proofs.Numbers.{rises_more}

module _ {T : Type 0} where
  abbrev pub shown : List (Entry T) → List (Entry T)
  shown log = []

  abbrev pub moved : List (Entry T) → List (Entry T) → ℕ → Type 0
  moved xs ys n = Unit {0}

  pub adds_goes : (log v : List (Entry T)) (e : Entry T) (old w first n : ℕ) → length v ≡ old + 1 → Rises n v → e.number ≡ n + length v
      → length log ≡ w + 1 → Rises first log → IsPrefix v log → (b : Bool) → (w == old) ≡ b
      → Goes IsKept shown moved 0 (v, (no_nib, None)) (λ k. either (k == old) (old + 1) k) (Adds (step 0 old (old + 1) e) (v, (no_nib, None))) ((w, true) ∷ []) log
  adds_goes log v e old w first n len rises next counted from pre true is =
      let here : w ≡ old = grind (arith, nat_tests) in
      let same : v ≡ log = prefix_whole v log pre (omega (arith, here, len, counted)) in
      let more : Rises n (log ++ e ∷ []) = subst (λ (l : List (Entry T)). Rises n (l ++ e ∷ [])) same (rises_more n v e rises next) in
      let word : either (w == old) (old + 1) w ≡ old + 1 = rw is refl in (
        keeps,
        e ∷ [],
        None,
        tt,
        record { published = old + 1; first = n; word = ap (λ (k : ℕ). (k, true) ∷ []) word; counted = omega (arith, here, counted, length-append log (e ∷ [])); rises = more },
        inl (refl, refl),
        rw is (ap (λ l. l ++ e ∷ []) (sym same)),
      )
  adds_goes log v e old w first n len rises next counted from pre false is =
      let all : log ++ [] ≡ log = append-nil log in
      let more : Rises first (log ++ []) = subst (Rises first) (sym all) from in
      let word : either (w == old) (old + 1) w ≡ w = rw is refl in (
        keeps,
        [],
        None,
        tt,
        record { published = w; first = first; word = ap (λ (k : ℕ). (k, true) ∷ []) word; counted = ap length all ∙ counted; rises = more },
        inl (refl, refl),
        rw is tt,
      )

  -- whatever the published list is, the step adds the entry to all that was seen, or finds that the list is longer
  pub adds_moves : (v : List (Entry T)) (e : Entry T) (old n : ℕ) → length v ≡ old + 1 → Rises n v → e.number ≡ n + length v
      → Moves IsKept shown moved 0 (v, (no_nib, None)) (λ k. either (k == old) (old + 1) k) (Adds (step 0 old (old + 1) e) (v, (no_nib, None)))
  adds_moves v e old n len rises next cs log kept pre away =
      let P : List Cell → Type 0 = λ c. (0 < length c) × ((cell c 0).1 ≡ true) × Goes IsKept shown moved 0 (v, (no_nib, None)) (λ k. either (k == old) (old + 1) k) (Adds (step 0 old (old + 1) e) (v, (no_nib, None))) c log in
      subst P (sym kept.word) (omega arith, refl, adds_goes log v e old kept.published kept.first n len rises next kept.counted kept.rises pre (kept.published == old) refl)
