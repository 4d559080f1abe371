-- The images of a disk that keeps its calls, from call to call.
use Rattle.std.proofs.Common.{◌≡◌, ◌⊎◌, inl, inr, ⊎_elim, ℕ, ◌+◌, ◌<◌, ◌≤◌, List, [], ◌∷◌, ◌++◌, length, take, Bool, true, false, Some, IsTrue, if◌then◌else◌, refl, sym, ◌∙◌, ap, subst, arith, get_or, length-append}
use Rattle.std.proofs.lemmas.Bool.{cases_lt}
use Rattle.std.proofs.lemmas.List.{take_all, take_more, take-append-le}
use Rattle.emu_disk.specs.Disk.{Torn, Shorter, Scrambled, Becomes, Follows, Within, Only, Elapses}
use Rattle.emu_disk.specs.declared.call.Call.{Call}
use Rattle.emu_disk.specs.declared.call.Call.TheVariants.{Write, Cut, Sync}
use Rattle.emu_disk.specs.declared.log.Log.{Log}
use Rattle.emu_disk.specs.Inner.Memory.{landed, content, effect, CutLeaves, Step, Leaves, LeavesAfter, IsImage, WasImage}
use Rattle.emu_disk.specs.Inner.Moves.{Adds, Stays}
use Rattle.emu_disk.specs.Inner.Laws.{torn_put, torn_same, landed_fits, scrambled_same, reads_image, becomes_some}

content-push : (xs : List ℕ) (calls : List Call) (call : Call) → content xs (calls ++ call ∷ []) ≡ effect call (content xs calls)
content-push xs [] call = refl
content-push xs (x ∷ calls) call = content-push (effect x xs) calls call

-- the bytes after a push that changes none, done or not
pub noted_if : (ok : Bool) (first bytes : List ℕ) (old new : List Call) (call : Call) → bytes ≡ content first old → effect call bytes ≡ bytes → new ≡ (if ok then old ++ call ∷ [] else old) → bytes ≡ content first new
noted_if true first bytes old new call replays same is = sym same ∙ ap (effect call) replays ∙ sym (content-push first old call) ∙ ap (content first) (sym is)
noted_if false first bytes old new call replays same is = replays ∙ ap (content first) (sym is)

-- the bytes after a push that changes them
pub changed : (first bytes next : List ℕ) (old new : List Call) (call : Call) → bytes ≡ content first old → next ≡ effect call bytes → new ≡ old ++ call ∷ [] → next ≡ content first new
changed first bytes next old new call replays is pushed = is ∙ ap (effect call) replays ∙ sym (content-push first old call) ∙ ap (content first) (sym pushed)

left_by : (P : List ℕ → Type 0) (xs : List ℕ) (calls : List Call) (call : Call) (c : List ℕ) → LeavesAfter P xs (calls ++ call ∷ []) c → Leaves call (content xs calls) (LeavesAfter P xs calls) c
left_by P xs [] call c left = left
left_by P xs (x ∷ calls) call c left = left_by (Leaves x xs P) (effect x xs) calls call c left

left_of : (P : List ℕ → Type 0) (xs : List ℕ) (calls : List Call) (call : Call) (c : List ℕ) → Leaves call (content xs calls) (LeavesAfter P xs calls) c → LeavesAfter P xs (calls ++ call ∷ []) c
left_of P xs [] call c left = left
left_of P xs (x ∷ calls) call c left = left_of (Leaves x xs P) (effect x xs) calls call c left

-- an image after one call more, and before
pub image_by : (call : Call) (old new : Log) (c : List ℕ) → Adds call old new → IsImage new.first.items new.calls.items c → Leaves call (content old.first.items old.calls.items) (IsImage old.first.items old.calls.items) c
image_by call old new c adds image =
    let there = subst (λ (l : List Call). IsImage new.first.items l c) adds.calls image in
    left_by (λ d. d ≡ old.first.items) old.first.items old.calls.items call c (subst (λ (f : List ℕ). IsImage f (old.calls.items ++ call ∷ []) c) adds.first there)

pub image_of : (call : Call) (old new : Log) (c : List ℕ) → Adds call old new → Leaves call (content old.first.items old.calls.items) (IsImage old.first.items old.calls.items) c → IsImage new.first.items new.calls.items c
image_of call old new c adds left =
    let there = left_of (λ d. d ≡ old.first.items) old.first.items old.calls.items call c left in
    subst (λ (f : List ℕ). IsImage f new.calls.items c) (sym adds.first) (subst (λ (l : List Call). IsImage old.first.items l c) (sym adds.calls) there)

-- no call more
pub image_before : (old new : Log) (c : List ℕ) → Stays old new → IsImage new.first.items new.calls.items c → IsImage old.first.items old.calls.items c
image_before old new c stays image = subst (λ (f : List ℕ). IsImage f old.calls.items c) stays.first (subst (λ (l : List Call). IsImage new.first.items l c) stays.calls image)

pub image_after : (old new : Log) (c : List ℕ) → Stays old new → IsImage old.first.items old.calls.items c → IsImage new.first.items new.calls.items c
image_after old new c stays image = subst (λ (f : List ℕ). IsImage f new.calls.items c) (sym stays.first) (subst (λ (l : List Call). IsImage old.first.items l c) (sym stays.calls) image)

-- what was left up to a moment doesn't change by one call more
abbrev Time : List ℕ → List Call → List ℕ → List Call → Type 0
Time first calls first' calls' = Elapses (length calls) (length calls') (WasImage first calls) (WasImage first' calls') (IsImage first' calls')

module _ (first : List ℕ) (calls : List Call) (call : Call) where
  long : length (calls ++ call ∷ []) ≡ length calls + 1
  long = length-append calls (call ∷ [])

  in_front : (k : ℕ) → k ≤ length calls → take k (calls ++ call ∷ []) ≡ take k calls
  in_front k le = take-append-le k calls (call ∷ []) le

  since : (t : ℕ) (c : List ℕ) → WasImage first (calls ++ call ∷ []) t c → WasImage first calls t c ⊎ IsImage first (calls ++ call ∷ []) c
  since t c was = elim (cases_lt (length calls) was.0) [
    | inl past ↦
        inr (subst (λ (l : List Call). IsImage first l c) (take_all was.0 (calls ++ call ∷ []) (omega (arith, long))) was.3)
    | inr within ↦
        inl (was.0, was.1, within, subst (λ (l : List Call). IsImage first l c) (in_front was.0 within) was.3)
  ]

  keeps_was : (t : ℕ) (c : List ℕ) → WasImage first calls t c → WasImage first (calls ++ call ∷ []) t c
  keeps_was t c was = (was.0, was.1, omega (arith, was.2, long), subst (λ (l : List Call). IsImage first l c) (sym (in_front was.0 was.2)) was.3)

  time_more : Time first calls first (calls ++ call ∷ [])
  time_more = record {
    later = omega (arith, long);
    nothing_else = λ t c le was. since t c was;
    keeps = λ t c le was. keeps_was t c was;
  }

module _ (old new : Log) where
  abbrev pub LogTime : Type 0
  LogTime = Time old.first.items old.calls.items new.first.items new.calls.items

  pub time_adds : (call : Call) → Adds call old new → LogTime
  time_adds call adds =
      subst (λ (f : List ℕ). Time old.first.items old.calls.items f new.calls.items) (sym adds.first)
      (subst (λ (l : List Call). Time old.first.items old.calls.items old.first.items l) (sym adds.calls) (time_more old.first.items old.calls.items call))

  time_stays : Stays old new → LogTime
  time_stays stays =
      subst (λ (f : List ℕ). Time old.first.items old.calls.items f new.calls.items) (sym stays.first)
      (subst (λ (l : List Call). Time old.first.items old.calls.items old.first.items l) (sym stays.calls) (record { later = omega arith; nothing_else = λ t c le was. inl was; keeps = λ t c le was. was }))

  pub time_failed : (call : Call) → Adds call old new ⊎ Stays old new → LogTime
  time_failed call moves = ⊎_elim (time_adds call) time_stays moves

  pub bytes_by : (call : Call) → Adds call old new → new.bytes.items ≡ effect call old.bytes.items
  bytes_by call adds =
      new.replays ∙ ap (λ (f : List ℕ). content f new.calls.items) adds.first ∙ ap (content old.first.items) adds.calls
      ∙ content-push old.first.items old.calls.items call ∙ ap (effect call) (sym old.replays)

  bytes_stay : Stays old new → new.bytes.items ≡ old.bytes.items
  bytes_stay stays = new.replays ∙ ap (λ (f : List ℕ). content f new.calls.items) stays.first ∙ ap (content old.first.items) stays.calls ∙ sym old.replays

  -- a call that changes no byte
  pub same_failed : (call : Call) → effect call old.bytes.items ≡ old.bytes.items → Adds call old new ⊎ Stays old new → new.bytes.items ≡ old.bytes.items
  same_failed call same moves = ⊎_elim (λ adds. bytes_by call adds ∙ same) bytes_stay moves

  -- a call that changes no image
  pub within_adds : (call : Call) → ((xs d c : List ℕ) → Step call xs d c → c ≡ d) → Adds call old new → Within (IsImage old.first.items old.calls.items) (IsImage new.first.items new.calls.items)
  within_adds call quiet adds c image =
      let from = image_by call old new c adds image in
      subst (IsImage old.first.items old.calls.items) (sym (quiet (content old.first.items old.calls.items) from.0 c from.2)) from.1

  pub all_adds : (call : Call) → ((xs d : List ℕ) → Step call xs d d) → Adds call old new → Within (IsImage new.first.items new.calls.items) (IsImage old.first.items old.calls.items)
  all_adds call quiet adds c image = image_of call old new c adds (c, image, quiet (content old.first.items old.calls.items) c)

  pub within_failed : (call : Call) → ((xs d c : List ℕ) → Step call xs d c → c ≡ d) → Adds call old new ⊎ Stays old new → Within (IsImage old.first.items old.calls.items) (IsImage new.first.items new.calls.items)
  within_failed call quiet moves c image =
      ⊎_elim (λ adds. within_adds call quiet adds c image) (λ stays. image_before old new c stays image) moves

  pub all_failed : (call : Call) → ((xs d : List ℕ) → Step call xs d d) → Adds call old new ⊎ Stays old new → Within (IsImage new.first.items new.calls.items) (IsImage old.first.items old.calls.items)
  all_failed call quiet moves c image = ⊎_elim (λ adds. all_adds call quiet adds c image) (λ stays. image_after old new c stays image) moves

  pub torn_failed : (at : ℕ) (bytes : List ℕ) → Adds (Write at bytes false) old new ⊎ Stays old new → Follows (Torn at (length bytes)) (IsImage old.first.items old.calls.items) (IsImage new.first.items new.calls.items)
  torn_failed at bytes moves c image =
      ⊎_elim (λ adds. image_by (Write at bytes false) old new c adds image) (λ stays. (c, image_before old new c stays image, torn_same at (length bytes) c)) moves

  -- what a read gives after a write that failed
  pub torn_reads : (at : ℕ) (bytes : List ℕ) → Adds (Write at bytes false) old new ⊎ Stays old new → Becomes (Torn at (length bytes)) (Some old.bytes.items) (Some new.bytes.items)
  torn_reads at bytes moves =
      let P : List ℕ → Type 0 = Torn at (length bytes) old.bytes.items in
      let put_half = torn_put at (length bytes) (landed false bytes) old.bytes.items (landed_fits false bytes) in
      becomes_some (Torn at (length bytes)) old.bytes.items new.bytes.items
      (⊎_elim (λ adds. subst P (sym (bytes_by (Write at bytes false) adds)) put_half) (λ stays. subst P (sym (bytes_stay stays)) (torn_same at (length bytes) old.bytes.items)) moves)

  -- and after a cut that failed
  pub scrambled_reads : (len : ℕ) → Adds (Cut len false) old new ⊎ Stays old new → Becomes (Scrambled len) (Some old.bytes.items) (Some new.bytes.items)
  scrambled_reads len moves =
      becomes_some (Scrambled len) old.bytes.items new.bytes.items
      (subst (Scrambled len old.bytes.items) (sym (same_failed (Cut len false) refl moves)) (scrambled_same len old.bytes.items))

  pub scrambled_failed : (len : ℕ) → Adds (Cut len false) old new ⊎ Stays old new → Follows (Scrambled len) (IsImage old.first.items old.calls.items) (IsImage new.first.items new.calls.items)
  scrambled_failed len moves c image =
      ⊎_elim (λ adds. image_by (Cut len false) old new c adds image) (λ stays. (c, image_before old new c stays image, scrambled_same len c)) moves

  pub synced : Adds (Sync true) old new → Only (Some old.bytes.items) (IsImage new.first.items new.calls.items)
  synced adds c image = ap Some (old.replays ∙ sym ((image_by (Sync true) old new c adds image).2))

  pub synced_within : Adds (Sync true) old new → Within (IsImage old.first.items old.calls.items) (IsImage new.first.items new.calls.items)
  synced_within adds c image =
      subst (IsImage old.first.items old.calls.items) (sym ((image_by (Sync true) old new c adds image).2)) (reads_image old.first.items old.calls.items)

  pub calls_failed : (call : Call) → Adds call old new ⊎ Stays old new → (new.calls.items ≡ old.calls.items ++ call ∷ []) ⊎ (new.calls.items ≡ old.calls.items)
  calls_failed call moves = ⊎_elim (λ adds. inl adds.calls) (λ stays. inr stays.calls) moves

  pub first_failed : (call : Call) → Adds call old new ⊎ Stays old new → new.first.items ≡ old.first.items
  first_failed call moves = ⊎_elim (λ adds. adds.first) (λ stays. stays.first) moves

-- one call more of a replay
pub replayed : (first : List ℕ) (calls : List Call) (i : ℕ) (call : Call) (bytes bytes' image image' : List ℕ) → i < length calls → call ≡ get_or calls i call → bytes ≡ content first (take i calls) → IsImage first (take i calls) image → bytes' ≡ effect call bytes → Step call bytes image image' → (bytes' ≡ content first (take (i + 1) calls)) × IsImage first (take (i + 1) calls) image'
replayed first calls i call bytes bytes' image image' lt is so_far was by step =
    let taken : take (i + 1) calls ≡ take i calls ++ call ∷ [] = take_more calls i call lt ∙ ap (λ (x : Call). take i calls ++ x ∷ []) (sym is) in (
      by ∙ ap (effect call) so_far ∙ sym (content-push first (take i calls) call) ∙ ap (content first) (sym taken),
      subst (λ (l : List Call). IsImage first l image') (sym taken)
          (left_of (λ d. d ≡ first) first (take i calls) call image' (image, was, subst (λ (xs : List ℕ). Step call xs image image') so_far step)),
    )

-- what fits both a cut that was done and one that failed
pub cut_leaves : (done : Bool) (n : ℕ) (old new : List ℕ) → Shorter n old new → Scrambled n old new → CutLeaves done n old new
cut_leaves true n old new shorter scrambled = shorter
cut_leaves false n old new shorter scrambled = scrambled

not_both : (done : Bool) → done ≡ true → done ≡ false → ⊥
not_both done t f = cc

-- a call that failed was to fail, or is not kept
pub not_due : {P : Type 0} (done : Bool) (old new : Log) → (P → IsTrue done) → (done ≡ false) ⊎ Stays old new → (P → ⊥) ⊎ (new.calls.items ≡ old.calls.items)
not_due done old new all (inl not) = inl (λ due. not_both done (all due) not)
not_due done old new all (inr stays) = inr stays.calls
