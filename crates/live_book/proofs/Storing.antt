-- What a journal keeps of a history before and behind one more entry.
use Rattle.std.proofs.Common.{◌≡◌, ◌↔◌, inl, inr, ⊎_elim, true, false, Bool, ℕ, ◌+◌, ◌-◌, ◌<◌, ◌≤◌, List, [], ◌∷◌, ◌++◌, length, Option, None, Some, refl, sym, ◌∙◌, ap, subst, arith}
use Rattle.std.specs.Prelude.{nat_lt}
use Rattle.std.specs.Option.{option_map}
use Rattle.std.proofs.lemmas.List.{map-append}
use Rattle.std.proofs.lemmas.Bool.{ltb-true, ltb-false, cases_lt}
use Rattle.db_config.specs.declared.parts.ConfigParts.{ConfigParts}
use Rattle.version_steps.specs.edit_rules.declared.acts.Entry.{Entry}
use Rattle.edit_code.specs.Codes.{entry_code, head_code}
use Rattle.emu_disk.proofs.Moments.{started, weaker}
use Rattle.edit_journal.specs.declared.journal.Journal.{Journal}
use Rattle.edit_journal.specs.Store.{limit, StandsFor}
use Rattle.edit_journal.specs.Held.{disk_of, Holds, LeavesIn}
use Rattle.edit_journal.specs.Inner.Held.{ForHeld, IsHeld, MayHave, DuringAppend}
use Rattle.edit_journal.specs.Inner.Held.{PassesLimit as PassesJournal, IsAsBefore as IsJournalAsBefore}
use Rattle.edit_journal.proofs.Kept.{stands_may}
use Rattle.edit_journal.proofs.Walk.{length-start}
use Rattle.live_book.specs.Histories.{codes_of, AreCoded, IsCoded, IsStorable, Stands, size, entry_size}
use Rattle.live_book.specs.Kept.{MayFollow, LostMayFollow, Keeps, KeepsIn, IsAsBefore, StandsOrLost, CrashLeaves}
use Rattle.live_book.specs.Inner.Kept.{DuringStore}
use Rattle.live_book.specs.Commits.{has_journal, IsTooMuch}
use Rattle.live_book.specs.Inner.Prepared.{ForStore, IsFrameOf, IsTest, HasRoomFor, HoldsSome}

-- the codes of one entry more
pub codes-push : (config : ConfigParts) (history : List Entry) (next : Entry) → codes_of config (history ++ next ∷ []) ≡ codes_of config history ++ entry_code next ∷ []
codes-push config history next = ap (λ (l : List (List ℕ)). head_code config ∷ l) (map-append entry_code history (next ∷ []))

coded-push : (history : List Entry) (next : Entry) → AreCoded history → IsCoded next → AreCoded (history ++ next ∷ [])
coded-push [] next all is = (is, tt)
coded-push (e ∷ history) next all is = (all.0, coded-push history next all.1 is)

pub storable-push : (config : ConfigParts) (history : List Entry) (next : Entry) → IsStorable config history → MayFollow config history next → IsStorable config (history ++ next ∷ [])
storable-push config history next storable follows = record {
  head = storable.head;
  coded = coded-push history next storable.coded follows.coded;
  is_history = follows.is_history;
}

-- an image of a store that keeps a history
stands_more : (config : ConfigParts) (history : List Entry) (next : Entry) (c : List ℕ) → IsStorable config history → MayFollow config history next → StandsFor (codes_of config history ++ entry_code next ∷ []) c → Stands config (history ++ next ∷ []) c
stands_more config history next c storable follows stands = record {
  storable = storable-push config history next storable follows;
  stands = subst (λ (t : List (List ℕ)). StandsFor t c) (sym (codes-push config history next)) stands;
}

may_stand : (config : ConfigParts) (history : List Entry) (lost : Option Entry) (c : List ℕ) → IsStorable config history → LostMayFollow config history lost → MayHave (codes_of config history) (option_map entry_code lost) c → StandsOrLost config history lost c
may_stand config history None c storable follows has = record { storable = storable; stands = has }
may_stand config history (Some next) c storable follows has =
    ⊎_elim (λ before. inl (record { storable = storable; stands = before })) (λ more. inr (stands_more config history next c storable follows more)) has

during : (config : ConfigParts) (history : List Entry) (lost : Option Entry) (next : Entry) (body c : List ℕ) → IsStorable config history → LostMayFollow config history lost → MayFollow config history next → body ≡ entry_code next
    → DuringAppend (codes_of config history) (option_map entry_code lost) body c → DuringStore config history lost next c
during config history lost next body c storable in_doubt follows is has =
    ⊎_elim (λ may. inl (may_stand config history lost c storable in_doubt may))
    (λ more. inr (stands_more config history next c storable follows (subst (λ (b : List ℕ). StandsFor (codes_of config history ++ b ∷ []) c) is more))) has

-- the limit, tested before the disk is called
over : (t : Bool) (config : ConfigParts) (history : List Entry) (next : Entry) (end len : ℕ) → t ≡ nat_lt (limit - end) (6 + len) → end ≡ size config history → end ≤ limit → len ≡ entry_size next → IsTest t (IsTooMuch true config history next)
over true config history next end len test place small is = (refl, (omega (arith, ltb-true (limit - end) (6 + len) (sym test), place, small, is)))
over false config history next end len test place small is = λ much. omega (arith, ltb-false (limit - end) (6 + len) (sym test), place, small, is, much.1)

pub no_store : (config : ConfigParts) (history : List Entry) (next : Entry) → IsTooMuch false config history next → ⊥
no_store config history next much = absurd cc

pub is_over : (config : ConfigParts) (history : List Entry) (next : Entry) (end len : ℕ) → end ≡ size config history → end ≤ limit → len ≡ entry_size next → IsTest (nat_lt (limit - end) (6 + len)) (IsTooMuch true config history next)
is_over config history next end len place small is = over (nat_lt (limit - end) (6 + len)) config history next end len refl place small is

-- a code that passes the limit is counted as one
pub passes : (config : ConfigParts) (history : List Entry) (next : Entry) (body : List ℕ) → body ≡ entry_code next → PassesJournal (codes_of config history) body → IsTooMuch true config history next
passes config history next body is over =
    let long : limit < size config history + 6 + length (entry_code next) = subst (λ (b : List ℕ). limit < size config history + 6 + length b) is over in
    (refl, (omega (arith, long)))

module _ {D : Type 0} (may_leave : D → List ℕ → Type 0) where
  -- a journal that keeps a history holds its codes
  pub held_of : (next : Entry) (journal : Journal D) → HasRoomFor may_leave true next (Some journal) → IsHeld may_leave journal
  held_of next journal room = ∣ (codes_of room.0 room.1, option_map entry_code room.2, room.3.held) ∣₁

  pub small_of : (journal : Journal D) → HoldsSome may_leave (Some journal) → journal.end ≤ limit
  small_of journal some = some.2.1.held.small

  module _ (config : ConfigParts) (history : List Entry) (lost : Option Entry) (next : Entry) (body : List ℕ) (is : body ≡ entry_code next) (new : Journal D) (follows : MayFollow config history next) where
    pub kept_ok : IsStorable config history → Holds may_leave (codes_of config history ++ body ∷ []) None new → Keeps may_leave config (history ++ next ∷ []) None new
    kept_ok storable holds = record {
      storable = storable-push config history next storable follows;
      lost_fits = tt;
      held = subst (λ (t : List (List ℕ)). Holds may_leave t None new) (ap (λ (b : List ℕ). codes_of config history ++ b ∷ []) is ∙ sym (codes-push config history next)) holds;
    }

    left_as : IsStorable config history → (left : Option Entry) → LostMayFollow config history left → (text : Option (List ℕ)) → text ≡ option_map entry_code left → Holds may_leave (codes_of config history) text new → Keeps may_leave config history left new
    left_as storable left fits text same holds = record { storable = storable; lost_fits = fits; held = subst (λ (l : Option (List ℕ)). Holds may_leave (codes_of config history) l new) same holds }

    pub kept_err : IsStorable config history → LostMayFollow config history lost → IsJournalAsBefore may_leave (codes_of config history) (option_map entry_code lost) body new → IsAsBefore may_leave config history lost next (Some new)
    kept_err storable in_doubt before =
        ⊎_elim (λ none. record { left = None; keeps = left_as storable None tt before.left none before.holds; which = inl refl })
        (λ some. ⊎_elim (λ same. record { left = lost; keeps = left_as storable lost in_doubt before.left same before.holds; which = inr (inl refl) })
        (λ own. record { left = Some next; keeps = left_as storable (Some next) follows before.left (own ∙ ap (λ (b : List ℕ). Some b) is) before.holds; which = inr (inr refl) }) some)
        before.which

    pub leaves_store : (moment : D → ℕ) (left_since : D → ℕ → List ℕ → Type 0) (old : Journal D) → IsStorable config history → LostMayFollow config history lost
        → LeavesIn moment left_since old new (DuringAppend (codes_of config history) (option_map entry_code lost) body) → LeavesIn moment left_since old new (DuringStore config history lost next)
    leaves_store moment left_since old storable in_doubt leaves =
        weaker moment left_since (disk_of old) (disk_of new) (DuringAppend (codes_of config history) (option_map entry_code lost) body) (DuringStore config history lost next)
        (λ c has. during config history lost next body c storable in_doubt follows is has) leaves

  -- each image of a journal that keeps a history
  pub images : (config : ConfigParts) (history : List Entry) (lost : Option Entry) (journal : Journal D) → Keeps may_leave config history lost journal → (c : List ℕ) → may_leave (disk_of journal) c → StandsOrLost config history lost c
  images config history lost journal keeps c image = may_stand config history lost c keeps.storable keeps.lost_fits (stands_may may_leave (codes_of config history) (option_map entry_code lost) journal keeps.held c image)

  -- where the disk is not called
  pub quiet : (moment : D → ℕ) (left_since : D → ℕ → List ℕ → Type 0) (only_now : (disk : D) (c : List ℕ) → left_since disk (moment disk) c → may_leave disk c) (config : ConfigParts) (history : List Entry) (lost : Option Entry)
      (journal : Option (Journal D)) (P : List ℕ → Type 0) → KeepsIn may_leave config history lost journal → ((c : List ℕ) → StandsOrLost config history lost c → P c) → CrashLeaves moment left_since journal journal P
  quiet moment left_since only_now config history lost None P keeps weaken = tt
  quiet moment left_since only_now config history lost (Some journal) P keeps weaken =
      started moment left_since (disk_of journal) P (λ c left. weaken c (images config history lost journal keeps c (only_now (disk_of journal) c left)))

  -- The clauses of an append, at a history.

  pub append_ok : (entry : Entry) (body : List ℕ) (old new : Journal D) → body ≡ entry_code entry → ForHeld may_leave old (λ texts lost. Holds may_leave (texts ++ body ∷ []) None new)
      → ForStore may_leave old entry (λ config history lost. Keeps may_leave config (history ++ entry ∷ []) None new)
  append_ok entry body old new is ok config history lost keeps follows =
      kept_ok config history lost entry body is new follows keeps.storable (ok (codes_of config history) (option_map entry_code lost) keeps.held)

  pub append_err : (entry : Entry) (body : List ℕ) (old new : Journal D) → body ≡ entry_code entry → ForHeld may_leave old (λ texts lost. IsJournalAsBefore may_leave texts lost body new)
      → ForStore may_leave old entry (λ config history lost. IsAsBefore may_leave config history lost entry (Some new))
  append_err entry body old new is err config history lost keeps follows =
      kept_err config history lost entry body is new follows keeps.storable keeps.lost_fits (err (codes_of config history) (option_map entry_code lost) keeps.held)

  pub append_moment : (moment : D → ℕ) (left_since : D → ℕ → List ℕ → Type 0) (entry : Entry) (body : List ℕ) (old new : Journal D) → body ≡ entry_code entry → ForHeld may_leave old (λ texts lost. LeavesIn moment left_since old new (DuringAppend texts lost body))
      → ForStore may_leave old entry (λ config history lost. LeavesIn moment left_since old new (DuringStore config history lost entry))
  append_moment moment left_since entry body old new is any config history lost keeps follows =
      leaves_store config history lost entry body is new follows moment left_since old keeps.storable keeps.lost_fits (any (codes_of config history) (option_map entry_code lost) keeps.held)

  -- an append for which there is room is not refused for want of it
  pub not_full : (entry : Entry) (body : List ℕ) (journal : Journal D) (full : Type 0) → body ≡ entry_code entry → HasRoomFor may_leave true entry (Some journal) → ForHeld may_leave journal (λ texts lost. full ↔ PassesJournal texts body) → full → ⊥
  not_full entry body journal full is room exactly now =
      room.4 (passes room.0 room.1 entry body is ((exactly (codes_of room.0 room.1) (option_map entry_code room.2) room.3.held).0 now))

  -- a code for which there is room
  pub room_size : (next : Entry) (journal : Option (Journal D)) (x : Journal D) → journal ≡ Some x → HasRoomFor may_leave (has_journal journal) next journal → entry_size next + 14 ≤ limit
  room_size next journal x is room =
      let stored : has_journal journal ≡ true = ap has_journal is in
      let fits : limit < size room.0 room.1 + 6 + entry_size next → ⊥ = λ over. room.4 (stored, over) in
      let begun : 8 ≤ size room.0 room.1 = omega (arith, length-start (codes_of room.0 room.1)) in
      elim (cases_lt limit (size room.0 room.1 + 6 + entry_size next)) [
        | inl over ↦ absurd (fits over)
        | inr low ↦ omega (arith, low, begun)
      ]

pub frame_some : {D : Type 0} (next : Entry) (journal : Option (Journal D)) (frame : List ℕ) → frame ≡ entry_code next → IsFrameOf next journal (Some frame)
frame_some next None frame is = tt
frame_some next (Some x) frame is = ap (λ (l : List ℕ). Some l) is

pub frame_none : {D : Type 0} (next : Entry) (journal : Option (Journal D)) → journal ≡ None → IsFrameOf next journal None
frame_none next None is = tt
frame_none next (Some x) is = absurd cc

pub none_stored : {D P : Type 0} (journal : Option (Journal D)) → journal ≡ None → has_journal journal ≡ true → P
none_stored None is stored = absurd cc
none_stored (Some x) is stored = absurd cc
