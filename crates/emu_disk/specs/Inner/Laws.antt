-- The laws of a disk that keeps its calls.
use Rattle.std.specs.Prelude.{◌≡◌, ℕ, ◌+◌, ◌-◌, ◌/◌, ◌≤◌, min, List, [], ◌∷◌, ◌++◌, length, take, drop, Bool, true, false, None, Some}
use Rattle.std.proofs.Common.{refl, sym, ◌∙◌, ap, subst, arith, append_assoc, inl, inr, length-append, length-take, length-drop}
use Rattle.std.proofs.lemmas.List.{take_all, drop_all, take_at, take_min}
use Rattle.std.proofs.lemmas.Bool.{cases_lt}
use Rattle.std.proofs.lemmas.Slice.{drop-append-drop}
use Rattle.emu_disk.specs.declared.call.Call.{Call}
use Rattle.emu_disk.specs.declared.call.Call.TheVariants.{Read, Write, Cut, Sync}
use Rattle.emu_disk.specs.declared.sure.Mark.{Mark}
use Rattle.emu_disk.specs.Inner.Sure.{replay, Held}
use Rattle.emu_disk.specs.Disk.{put, Torn, Scrambled, Becomes}
use Rattle.emu_disk.specs.Inner.Memory.{landed, kept, content, effect, Step, Leaves, CutLeaves, SyncLeaves, LeavesAfter, IsImage, WasImage}

-- a write's three parts, from the last one on
put_parts : (at : ℕ) (bytes xs : List ℕ) → put at bytes xs ≡ take at xs ++ (bytes ++ drop (at + length bytes) xs)
put_parts at bytes xs = append_assoc (take at xs) bytes (drop (at + length bytes) xs)

-- how long the bytes are after a write
length-put : (at : ℕ) (bytes xs : List ℕ) → length (put at bytes xs) ≡ min at (length xs) + length bytes + (length xs - (at + length bytes))
length-put at bytes xs =
    omega (arith, ap length (put_parts at bytes xs), length-append (take at xs) (bytes ++ drop (at + length bytes) xs), length-append bytes (drop (at + length bytes) xs), length-take at xs, length-drop (at + length bytes) xs)

-- a write leaves what stands in front of its place
put_before : (at : ℕ) (bytes xs : List ℕ) → take (min at (length xs)) (put at bytes xs) ≡ take at xs
put_before at bytes xs = ap (λ (l : List ℕ). take (min at (length xs)) l) (put_parts at bytes xs) ∙ take_at (take at xs) (bytes ++ drop (at + length bytes) xs) (min at (length xs)) (length-take at xs)

-- and what stands behind its range
put_after : (at n : ℕ) (bytes xs : List ℕ) → length bytes ≤ n → drop (at + n) (put at bytes xs) ≡ drop (at + n) xs
put_after at n bytes xs fits = elim (cases_lt (length xs) at) [
  | inl past ↦
      drop_all (at + n) (put at bytes xs) (omega (arith, length-put at bytes xs)) ∙ sym (drop_all (at + n) xs (omega arith))
  | inr within ↦
      drop-append-drop (at + length bytes) xs (take at xs ++ bytes) (at + n) (omega arith) (omega (arith, length-append (take at xs) bytes, length-take at xs))
]

-- a write past the end is one at the end
pub put_min : (at : ℕ) (bytes xs : List ℕ) → put (min at (length xs)) bytes xs ≡ put at bytes xs
put_min at bytes xs = elim (cases_lt (length xs) at) [
  | inl past ↦
      let here : min at (length xs) ≡ length xs = omega arith in
      ap (λ (n : ℕ). put n bytes xs) here
      ∙ ap (λ (l : List ℕ). l ++ bytes ++ drop (length xs + length bytes) xs) (take_all (length xs) xs (omega arith) ∙ sym (take_all at xs (omega arith)))
      ∙ ap (λ (l : List ℕ). take at xs ++ bytes ++ l) (drop_all (length xs + length bytes) xs (omega arith) ∙ sym (drop_all (at + length bytes) xs (omega arith)))
  | inr within ↦ let here : min at (length xs) ≡ at = omega arith in ap (λ (n : ℕ). put n bytes xs) here
]

-- a part of a write, put in its range
pub torn_put : (at n : ℕ) (bytes xs : List ℕ) → length bytes ≤ n → Torn at n xs (put at bytes xs)
torn_put at n bytes xs fits = record {
  before = put_before at bytes xs;
  after = put_after at n bytes xs fits;
  no_shorter = omega (arith, length-put at bytes xs);
  no_longer = omega (arith, length-put at bytes xs);
}

-- a write of which nothing lands
pub torn_same : (at n : ℕ) (xs : List ℕ) → Torn at n xs xs
torn_same at n xs = record { before = take_min at xs; after = refl; no_shorter = omega arith; no_longer = omega arith }

-- what lands of a write is no longer than it
pub landed_fits : (done : Bool) (bytes : List ℕ) → length (landed done bytes) ≤ length bytes
landed_fits true bytes = omega arith
landed_fits false bytes = omega (arith, length-take (length bytes / 2) bytes)

-- a cut that fails may leave all
pub scrambled_same : (n : ℕ) (xs : List ℕ) → Scrambled n xs xs
scrambled_same n xs = record { no_shorter = omega arith; no_longer = omega arith; front = refl }

-- what a read gives after a cut is what a crash may leave after it
cut_kept : (done : Bool) (n : ℕ) (xs : List ℕ) → CutLeaves done n xs (kept done n xs)
cut_kept true n xs = record {
  no_shorter = omega (arith, length-take n xs);
  front = sym (take_min n xs) ∙ ap (λ (k : ℕ). take k xs) (sym (length-take n xs));
}
cut_kept false n xs = scrambled_same n xs

-- and after a sync
sync_kept : (done : Bool) (xs : List ℕ) → SyncLeaves done xs xs xs
sync_kept true xs = refl
sync_kept false xs = refl

-- what a read gives, before a call and after it
reads_step : (call : Call) (xs : List ℕ) → Step call xs xs (effect call xs)
reads_step (Read at len done) xs = refl
reads_step (Write at bytes done) xs = torn_put at (length bytes) (landed done bytes) xs (landed_fits done bytes)
reads_step (Cut len done) xs = cut_kept done len xs
reads_step (Sync done) xs = sync_kept done xs

-- and after any calls
reads_after : (calls : List Call) (xs : List ℕ) (P : List ℕ → Type 0) → P xs → LeavesAfter P xs calls (content xs calls)
reads_after [] xs P has = has
reads_after (call ∷ calls) xs P has = reads_after calls (effect call xs) (Leaves call xs P) (xs, has, reads_step call xs)

-- what a read gives is an image
pub reads_image : (first : List ℕ) (calls : List Call) → IsImage first calls (content first calls)
reads_image first calls = reads_after calls first (λ d. d ≡ first) refl

-- the bytes that a disk tells are one of its images
pub as_read_of : (first : List ℕ) (calls : List Call) (bytes xs : List ℕ) → bytes ≡ content first calls → Some bytes ≡ Some xs → IsImage first calls xs
as_read_of first calls bytes xs replays is = let same : content first calls ≡ xs = cc in subst (IsImage first calls) same (reads_image first calls)

-- a disk that tells nothing
pub not_told : (xs : List ℕ) → None ≡ Some xs → ⊥
not_told xs is = cc

-- an image of now is one since each earlier moment
pub image_now : (first : List ℕ) (calls : List Call) (t : ℕ) (c : List ℕ) → t ≤ length calls → IsImage first calls c → WasImage first calls t c
image_now first calls t c le image = (length calls, le, omega arith, subst (λ (l : List Call). IsImage first l c) (sym (take_all (length calls) calls (omega arith))) image)

-- since now there is no image but those of now
pub image_only_now : (first : List ℕ) (calls : List Call) (c : List ℕ) → WasImage first calls (length calls) c → IsImage first calls c
image_only_now first calls c was = subst (λ (l : List Call). IsImage first l c) (take_all was.0 calls was.1) was.3

module _ (marks : List Mark) (written bytes : List ℕ) (replays : bytes ≡ replay marks written []) where
  -- the bytes of now were held since each earlier moment
  pub held_now : (t : ℕ) (c : List ℕ) → t ≤ length marks → c ≡ bytes → Held marks written t c
  held_now t c le is =
      (length marks, le, omega arith, is ∙ replays ∙ ap (λ (l : List Mark). replay l written []) (sym (take_all (length marks) marks (omega arith))))

  -- since now no other bytes were held
  pub held_only_now : (c : List ℕ) → Held marks written (length marks) c → c ≡ bytes
  held_only_now c held = held.3 ∙ ap (λ (l : List Mark). replay l written []) (take_all held.0 marks held.1) ∙ sym replays

-- bytes that are told twice are the same
pub some_same : (xs ys : List ℕ) → Some xs ≡ Some ys → ys ≡ xs
some_same xs ys is = cc

-- a step of the bytes, where they are told
pub becomes_some : (step : List ℕ → List ℕ → Type 0) (xs ys : List ℕ) → step xs ys → Becomes step (Some xs) (Some ys)
becomes_some step xs ys goes zs is = (ys, refl, subst (λ (l : List ℕ). step l ys) (sym (some_same xs zs is)) goes)
