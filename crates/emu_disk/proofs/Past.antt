-- How the bytes of a disk with its own room follow from its changes.
use Rattle.std.proofs.Common.{◌≡◌, ◌⊎◌, inl, inr, ℕ, zero, suc, ◌+◌, ◌≤◌, List, [], ◌∷◌, ◌++◌, length, take, drop, refl, sym, ◌∙◌, ap, subst, arith, length-append, length-drop}
use Rattle.std.proofs.lemmas.Bool.{cases_lt}
use Rattle.std.proofs.lemmas.List.{take_all, drop_at, drop-drop, take-append-le, drop-append-le}
use Rattle.emu_disk.specs.Disk.{put, Elapses}
use Rattle.emu_disk.specs.declared.sure.Mark.{Mark}
use Rattle.emu_disk.specs.declared.sure.Mark.TheVariants.{Wrote, Cut}
use Rattle.emu_disk.specs.Inner.Sure.{replay, total, Held}

replay-append : (marks more : List Mark) (written xs : List ℕ) → replay (marks ++ more) written xs ≡ replay more (drop (total marks) written) (replay marks written xs)
replay-append [] more written xs = refl
replay-append (Wrote at len ∷ marks) more written xs =
    replay-append marks more (drop len written) (put at (take len written) xs)
    ∙ ap (λ (l : List ℕ). replay more l (replay marks (drop len written) (put at (take len written) xs))) (drop-drop (total marks) len written)
replay-append (Cut len ∷ marks) more written xs = replay-append marks more written (take len xs)

replay-longer : (marks : List Mark) (written more xs : List ℕ) → total marks ≤ length written → replay marks (written ++ more) xs ≡ replay marks written xs
replay-longer [] written more xs le = refl
replay-longer (Wrote at len ∷ marks) written more xs le =
    let fits : len ≤ length written = omega arith in
    ap (λ (l : List ℕ). replay marks (drop len (written ++ more)) (put at l xs)) (take-append-le len written more fits)
    ∙ ap (λ (l : List ℕ). replay marks l (put at (take len written) xs)) (drop-append-le len written more fits)
    ∙ replay-longer marks (drop len written) more (put at (take len written) xs) (omega (arith, length-drop len written))
replay-longer (Cut len ∷ marks) written more xs le = replay-longer marks written more (take len xs) le

pub total-append : (marks more : List Mark) → total (marks ++ more) ≡ total marks + total more
total-append [] more = omega arith
total-append (Wrote at len ∷ marks) more = omega (arith, total-append marks more)
total-append (Cut len ∷ marks) more = total-append marks more

total-take : (k : ℕ) (marks : List Mark) → total (take k marks) ≤ total marks
total-take zero marks = omega arith
total-take (suc k) [] = omega arith
total-take (suc k) (Wrote at len ∷ marks) = omega (arith, total-take k marks)
total-take (suc k) (Cut len ∷ marks) = total-take k marks

pub wrote : (marks : List Mark) (written bytes with_bytes : List ℕ) (at n : ℕ) → bytes ≡ replay marks written [] → total marks ≡ length written → n ≡ length with_bytes → put at with_bytes bytes ≡ replay (marks ++ Wrote at n ∷ []) (written ++ with_bytes) []
wrote marks written bytes with_bytes at n replays all is =
    sym (
    replay-append marks (Wrote at n ∷ []) (written ++ with_bytes) []
    ∙ ap (λ (l : List ℕ). put at (take n l) (replay marks (written ++ with_bytes) [])) (drop_at written with_bytes (total marks) (sym all))
    ∙ ap (λ (l : List ℕ). put at l (replay marks (written ++ with_bytes) [])) (take_all n with_bytes (omega arith))
    ∙ ap (λ (l : List ℕ). put at with_bytes l) (replay-longer marks written with_bytes [] (omega arith) ∙ sym replays)
    )

pub shortened : (marks : List Mark) (written bytes : List ℕ) (n : ℕ) → bytes ≡ replay marks written [] → take n bytes ≡ replay (marks ++ Cut n ∷ []) written []
shortened marks written bytes n replays = sym (replay-append marks (Cut n ∷ []) written [] ∙ ap (take n) (sym replays))

module _ (marks : List Mark) (mark : Mark) (written more bytes : List ℕ) (all : total marks ≡ length written) (is : bytes ≡ replay (marks ++ mark ∷ []) (written ++ more) []) where
  long : length (marks ++ mark ∷ []) ≡ length marks + 1
  long = length-append marks (mark ∷ [])

  in_front : (k : ℕ) → k ≤ length marks → replay (take k (marks ++ mark ∷ [])) (written ++ more) [] ≡ replay (take k marks) written []
  in_front k le =
      ap (λ (l : List Mark). replay l (written ++ more) []) (take-append-le k marks (mark ∷ []) le)
      ∙ replay-longer (take k marks) written more [] (omega (arith, total-take k marks))

  since : (t : ℕ) (c : List ℕ) → Held (marks ++ mark ∷ []) (written ++ more) t c → Held marks written t c ⊎ (c ≡ bytes)
  since t c held = elim (cases_lt (length marks) held.0) [
    | inl past ↦
        inr (held.3 ∙ ap (λ (l : List Mark). replay l (written ++ more) []) (take_all held.0 (marks ++ mark ∷ []) (omega (arith, long))) ∙ sym is)
    | inr within ↦ inl (held.0, held.1, within, held.3 ∙ in_front held.0 within)
  ]

  keeps_held : (t : ℕ) (c : List ℕ) → Held marks written t c → Held (marks ++ mark ∷ []) (written ++ more) t c
  keeps_held t c held = (held.0, held.1, omega (arith, held.2, long), held.3 ∙ sym (in_front held.0 held.2))

  pub time_changed : Elapses (length marks) (length (marks ++ mark ∷ [])) (Held marks written) (Held (marks ++ mark ∷ []) (written ++ more)) (λ c. c ≡ bytes)
  time_changed = record {
    later = omega (arith, long);
    nothing_else = λ t c le held. since t c held;
    keeps = λ t c le held. keeps_held t c held;
  }

-- the same, where the new changes and bytes have names of their own
pub time_to : (marks marks' : List Mark) (mark : Mark) (written more written' bytes : List ℕ) → total marks ≡ length written → marks' ≡ marks ++ mark ∷ [] → written' ≡ written ++ more → bytes ≡ replay marks' written' [] → Elapses (length marks) (length marks') (Held marks written) (Held marks' written') (λ c. c ≡ bytes)
time_to marks marks' mark written more written' bytes all pushed extended is =
    let there : bytes ≡ replay (marks ++ mark ∷ []) (written ++ more) [] =
    is ∙ ap (λ (l : List Mark). replay l written' []) pushed ∙ ap (λ (l : List ℕ). replay (marks ++ mark ∷ []) l []) extended in
    subst (λ (l : List ℕ). Elapses (length marks) (length marks') (Held marks written) (Held marks' l) (λ c. c ≡ bytes)) (sym extended)
    (subst (λ (l : List Mark). Elapses (length marks) (length l) (Held marks written) (Held l (written ++ more)) (λ c. c ≡ bytes)) (sym pushed) (time_changed marks mark written more bytes all there))

pub wrote_to : (marks marks' : List Mark) (written written' bytes bytes' with_bytes : List ℕ) (at n : ℕ) → bytes ≡ replay marks written [] → total marks ≡ length written → n ≡ length with_bytes → bytes' ≡ put at with_bytes bytes → written' ≡ written ++ with_bytes → marks' ≡ marks ++ Wrote at n ∷ [] → bytes' ≡ replay marks' written' []
wrote_to marks marks' written written' bytes bytes' with_bytes at n replays all is put_is extended pushed =
    put_is ∙ wrote marks written bytes with_bytes at n replays all is ∙ ap (λ (l : List Mark). replay l (written ++ with_bytes) []) (sym pushed)
    ∙ ap (λ (l : List ℕ). replay marks' l []) (sym extended)

pub total_to : (marks marks' : List Mark) (written written' with_bytes : List ℕ) (at n : ℕ) → total marks ≡ length written → n ≡ length with_bytes → written' ≡ written ++ with_bytes → marks' ≡ marks ++ Wrote at n ∷ [] → total marks' ≡ length written'
total_to marks marks' written written' with_bytes at n all is extended pushed =
    ap total pushed ∙ omega (arith, total-append marks (Wrote at n ∷ []), length-append written with_bytes) ∙ ap length (sym extended)

pub shortened_to : (marks marks' : List Mark) (written bytes bytes' : List ℕ) (n : ℕ) → bytes ≡ replay marks written [] → bytes' ≡ take n bytes → marks' ≡ marks ++ Cut n ∷ [] → bytes' ≡ replay marks' written []
shortened_to marks marks' written bytes bytes' n replays is pushed = is ∙ shortened marks written bytes n replays ∙ ap (λ (l : List Mark). replay l written []) (sym pushed)

pub total_cut : (marks marks' : List Mark) (written : List ℕ) (n : ℕ) → total marks ≡ length written → marks' ≡ marks ++ Cut n ∷ [] → total marks' ≡ length written
total_cut marks marks' written n all pushed = ap total pushed ∙ omega (arith, total-append marks (Cut n ∷ []))
