-- What a journal holds after each of its writes.
use Rattle.std.proofs.Common.{◌≡◌, ◌⊎◌, inl, inr, ⊎_elim, ℕ, ◌+◌, ◌≤◌, List, [], ◌∷◌, ◌++◌, length, Bool, Option, None, Some, Result, Ok, Err, OnOk, OnErr, refl, sym, ◌∙◌, ap, subst, arith, length-append}
use Rattle.std.proofs.Math.Logic.{∥∥₁_elim, ∥∥₁_map}
use Rattle.std.proofs.Props.{props}
use Rattle.emu_disk.specs.Disk.{put, Torn, Follows}
use Rattle.edit_journal.specs.declared.journal.Journal.{Journal}
use Rattle.edit_journal.specs.declared.journal.Gate.{Gate}
use Rattle.edit_journal.specs.declared.journal.Gate.TheVariants.{Missing, Closed, InDoubt}
use Rattle.edit_journal.specs.Store.{limit, head, frame, start, IsSized, AreSized, StandsFor}
use Rattle.edit_journal.specs.Inner.Staged.{staged_of}
use Rattle.edit_journal.specs.Held.{Stands, IsHeldBy, FitsGate, Holds}
use Rattle.edit_journal.specs.Inner.Held.{IsHeld, IsStagedIn, MayHave, DuringAppend, IsAsBefore}
use Rattle.edit_journal.proofs.Walk.{bodies-short, stands_back, may_have, sized_push, start-push}
use Rattle.edit_journal.proofs.Steps.{staging, staged, gate_torn, opened, shut_again, end_within, head_put, head_torn}

module _ {D : Type 0} (may_leave : D → List ℕ → Type 0) where
  -- a list that ends at a closed gate
  holds_closed : (texts : List (List ℕ)) (new : Journal D) → AreSized texts → new.gate ≡ Closed → new.end ≡ length (start texts) → new.end ≤ limit → ((c : List ℕ) → may_leave new.disk c → Stands texts None c) → Holds may_leave texts None new
  holds_closed texts new sized closed end small images = record {
    sized = sized;
    end = end;
    small = small;
    by_gate = subst (λ (g : Gate). FitsGate g texts None) (sym closed) refl;
    images = λ c image. subst (λ (g : Gate). IsHeldBy g texts None c) (sym closed) (images c image);
  }

  -- a list behind which a body is in doubt
  holds_in_doubt : (texts : List (List ℕ)) (body : List ℕ) (new : Journal D) → AreSized texts → IsSized body → new.gate ≡ InDoubt → new.end ≡ length (start texts) → new.end ≤ limit → ((c : List ℕ) → may_leave new.disk c → Stands texts (Some body) c) → Holds may_leave texts (Some body) new
  holds_in_doubt texts body new sized is doubt end small images = record {
    sized = sized;
    end = end;
    small = small;
    by_gate = subst (λ (g : Gate). FitsGate g texts (Some body)) (sym doubt) (body, refl, is);
    images = λ c image. subst (λ (g : Gate). IsHeldBy g texts (Some body) c) (sym doubt) (images c image);
  }

  -- a store with no gate yet
  holds_missing : (new : Journal D) → new.gate ≡ Missing → new.end ≡ length (start []) → new.end ≤ limit → ((c : List ℕ) → may_leave new.disk c → length c ≤ 9) → Holds may_leave [] None new
  holds_missing new missing end small images = record {
    sized = tt;
    end = end;
    small = small;
    by_gate = subst (λ (g : Gate). FitsGate g [] None) (sym missing) (refl, refl);
    images = λ c image. subst (λ (g : Gate). IsHeldBy g [] None c) (sym missing) (images c image);
  }

  module _ (texts : List (List ℕ)) (lost : Option (List ℕ)) (old new : Journal D) (holds : Holds may_leave texts lost old) (same_end : new.end ≡ old.end) where
    at_gate : (g : Gate) → old.gate ≡ g → FitsGate g texts lost
    at_gate g is = subst (λ (h : Gate). FitsGate h texts lost) is holds.by_gate

    image_at : (g : Gate) → old.gate ≡ g → (c : List ℕ) → may_leave old.disk c → IsHeldBy g texts lost c
    image_at g is c image = subst (λ (h : Gate). IsHeldBy h texts lost c) is (holds.images c image)

    new_end : new.end ≡ length (start texts)
    new_end = same_end ∙ holds.end

    new_small : new.end ≤ limit
    new_small = omega (arith, same_end, holds.small)

    -- from a store with no gate
    module _ (missing : old.gate ≡ Missing) where
      no_text : texts ≡ []
      no_text = (at_gate Missing missing).0

      none_lost : lost ≡ None
      none_lost = (at_gate Missing missing).1

      pub begun_ok : new.gate ≡ Closed → Follows (λ d c. c ≡ put 0 (head ++ 0 ∷ []) d) (may_leave old.disk) (may_leave new.disk) → Holds may_leave texts None new
      begun_ok closed follows = holds_closed texts new holds.sized closed new_end new_small (λ c image.
          let from = follows c image in
          subst (λ (t : List (List ℕ)). Stands t None c) (sym no_text) (head_put from.0 c (image_at Missing missing from.0 from.1) from.2))

      pub begun_err : new.gate ≡ Missing → Follows (Torn 0 9) (may_leave old.disk) (may_leave new.disk) → Holds may_leave texts lost new
      begun_err still follows = record {
        sized = holds.sized;
        end = new_end;
        small = new_small;
        by_gate = subst (λ (g : Gate). FitsGate g texts lost) (sym still) (at_gate Missing missing);
        images = λ c image.
            let from = follows c image in
            subst (λ (g : Gate). IsHeldBy g texts lost c) (sym still) (head_torn from.0 c (image_at Missing missing from.0 from.1) from.2);
      }

      pub begun_may : (c : List ℕ) → ((d : List ℕ) × may_leave old.disk d × Torn 0 9 d c) → MayHave texts lost c
      begun_may c from =
          let short = head_torn from.0 c (image_at Missing missing from.0 from.1) from.2 in
          subst (λ (l : Option (List ℕ)). MayHave texts l c) (sym none_lost) (subst (λ (t : List (List ℕ)). StandsFor t c) (sym no_text) (bodies-short c short))

    -- from a gate in doubt
    module _ (doubt : old.gate ≡ InDoubt) where
      in_doubt : (body : List ℕ) × (lost ≡ Some body) × IsSized body
      in_doubt = at_gate InDoubt doubt

      stands_in : (c : List ℕ) → may_leave old.disk c → Stands texts (Some in_doubt.0) c
      stands_in c image = subst (λ (l : Option (List ℕ)). Stands texts l c) in_doubt.1 (image_at InDoubt doubt c image)

      one_more : old.end + 1 ≤ limit → old.end + 1 ≤ limit
      one_more le = le

      pub shut_ok : new.gate ≡ Closed → Follows (λ d c. c ≡ put old.end (0 ∷ []) d) (may_leave old.disk) (may_leave new.disk) → Holds may_leave texts None new
      shut_ok closed follows = holds_closed texts new holds.sized closed new_end new_small (λ c image.
          let from = follows c image in
          shut_again texts old.end holds.end in_doubt.0 from.0 c (stands_in from.0 from.1) from.2)

      torn_in : (c : List ℕ) → ((d : List ℕ) × may_leave old.disk d × Torn old.end 1 d c) → Stands texts (Some in_doubt.0) c
      torn_in c from =
          let stands = stands_in from.0 from.1 in
          gate_torn texts old.end holds.end in_doubt.0 from.0 c (omega (arith, end_within texts old.end holds.end (Some in_doubt.0) from.0 stands, stands.fits)) stands from.2

      pub shut_err : new.gate ≡ InDoubt → Follows (Torn old.end 1) (may_leave old.disk) (may_leave new.disk) → Holds may_leave texts lost new
      shut_err still follows =
          subst (λ (l : Option (List ℕ)). Holds may_leave texts l new) (sym in_doubt.1)
          (holds_in_doubt texts in_doubt.0 new holds.sized in_doubt.2 still new_end new_small (λ c image. torn_in c (follows c image)))

      pub shut_may : (c : List ℕ) → ((d : List ℕ) × may_leave old.disk d × Torn old.end 1 d c) → MayHave texts lost c
      shut_may c from = subst (λ (l : Option (List ℕ)). MayHave texts l c) (sym in_doubt.1) (may_have texts in_doubt.0 c holds.sized in_doubt.2 (torn_in c from))

  module _ (texts : List (List ℕ)) (body : List ℕ) (old new : Journal D) (room : old.end + 6 + length body ≤ limit) where
    -- a body is staged behind a closed gate
    module _ (holds : Holds may_leave texts None old) (closed : old.gate ≡ Closed) where
      stands_at : (c : List ℕ) → may_leave old.disk c → Stands texts None c
      stands_at c image = subst (λ (h : Gate). IsHeldBy h texts None c) closed (holds.images c image)

      torn_at : (c : List ℕ) → ((d : List ℕ) × may_leave old.disk d × Torn (old.end + 1) (length (staged_of body)) d c) → Stands texts None c
      torn_at c from = staging texts old.end holds.end body from.0 c room (stands_at from.0 from.1) from.2

      pub stage_err : new.gate ≡ Closed → new.end ≡ old.end → Follows (Torn (old.end + 1) (length (staged_of body))) (may_leave old.disk) (may_leave new.disk) → Holds may_leave texts None new
      stage_err still same_end follows =
          holds_closed texts new holds.sized still (same_end ∙ holds.end) (omega (arith, same_end, holds.small)) (λ c image. torn_at c (follows c image))

      pub stage_ok : IsSized body → new.gate ≡ Closed → new.end ≡ old.end → Follows (Torn (old.end + 1) (length (staged_of body))) (may_leave old.disk) (may_leave new.disk) → Follows (λ d c. c ≡ put (old.end + 1) (staged_of body) d) (may_leave old.disk) (may_leave new.disk) → IsStagedIn may_leave texts body new
      stage_ok is still same_end follows done = record {
        sized = is;
        holds = stage_err still same_end follows;
        staged = λ c image. let from = done c image in staged texts old.end holds.end body from.0 c room (stands_at from.0 from.1) from.2;
      }

      pub stage_may : (c : List ℕ) → ((d : List ℕ) × may_leave old.disk d × Torn (old.end + 1) (length (staged_of body)) d c) → StandsFor texts c
      stage_may c from = stands_back texts c holds.sized (torn_at c from)

    -- the gate before it is opened
    module _ (is_staged : IsStagedIn may_leave texts body old) where
      torn_open : (c : List ℕ) → ((d : List ℕ) × may_leave old.disk d × Torn old.end 1 d c) → Stands texts (Some body) c
      torn_open c from = gate_torn texts old.end is_staged.holds.end body from.0 c (omega arith) (is_staged.staged from.0 from.1) from.2

      pub open_err : new.gate ≡ InDoubt → new.end ≡ old.end → Follows (Torn old.end 1) (may_leave old.disk) (may_leave new.disk) → Holds may_leave texts (Some body) new
      open_err doubt same_end follows =
          let h = is_staged.holds in
          holds_in_doubt texts body new h.sized is_staged.sized doubt (same_end ∙ h.end) (omega (arith, same_end, h.small)) (λ c image. torn_open c (follows c image))

      pub open_ok : new.gate ≡ Closed → new.end ≡ old.end + (5 + length body) → Follows (λ d c. c ≡ put old.end (1 ∷ []) d) (may_leave old.disk) (may_leave new.disk) → Holds may_leave (texts ++ body ∷ []) None new
      open_ok closed end follows =
          let h = is_staged.holds in
          let far : new.end ≡ length (start (texts ++ body ∷ [])) = omega (arith, end, h.end, ap length (start-push texts body), length-append (start texts) (frame body)) in
          holds_closed (texts ++ body ∷ []) new (sized_push texts body h.sized is_staged.sized) closed far (omega (arith, end)) (λ c image.
          let from = follows c image in
          opened texts old.end h.end body from.0 c (is_staged.staged from.0 from.1) from.2)

      pub open_may : (c : List ℕ) → ((d : List ℕ) × may_leave old.disk d × Torn old.end 1 d c) → MayHave texts (Some body) c
      open_may c from = may_have texts body c is_staged.holds.sized is_staged.sized (torn_open c from)

  -- each image is what may be had
  pub stands_may : (texts : List (List ℕ)) (lost : Option (List ℕ)) (journal : Journal D) → Holds may_leave texts lost journal → (c : List ℕ) → may_leave journal.disk c → MayHave texts lost c
  stands_may texts lost journal holds c image = by_gate journal.gate refl
    where
      at : (g : Gate) → journal.gate ≡ g → FitsGate g texts lost
      at g is = subst (λ (h : Gate). FitsGate h texts lost) is holds.by_gate

      held : (g : Gate) → journal.gate ≡ g → IsHeldBy g texts lost c
      held g is = subst (λ (h : Gate). IsHeldBy h texts lost c) is (holds.images c image)

      by_gate : (g : Gate) → journal.gate ≡ g → MayHave texts lost c
      by_gate Missing is =
          subst (λ (l : Option (List ℕ)). MayHave texts l c) (sym (at Missing is).1) (subst (λ (t : List (List ℕ)). StandsFor t c) (sym (at Missing is).0) (bodies-short c (held Missing is)))
      by_gate Closed is = subst (λ (l : Option (List ℕ)). MayHave texts l c) (sym (at Closed is)) (stands_back texts c holds.sized (held Closed is))
      by_gate InDoubt is =
          let doubt = at InDoubt is in
          subst (λ (l : Option (List ℕ)). MayHave texts l c) (sym doubt.1) (may_have texts doubt.0 c holds.sized doubt.2 (subst (λ (l : Option (List ℕ)). Stands texts l c) doubt.1 (held InDoubt is)))

  -- the gate is within each image
  gate_within : (texts : List (List ℕ)) (lost : Option (List ℕ)) (journal : Journal D) → Holds may_leave texts lost journal → (journal.gate ≡ Closed) ⊎ (journal.gate ≡ InDoubt) → (c : List ℕ) → may_leave journal.disk c → journal.end + 1 ≤ length c
  gate_within texts lost journal holds (inl closed) c image = end_within texts journal.end holds.end None c (subst (λ (h : Gate). IsHeldBy h texts lost c) closed (holds.images c image))
  gate_within texts lost journal holds (inr doubt) c image = end_within texts journal.end holds.end lost c (subst (λ (h : Gate). IsHeldBy h texts lost c) doubt (holds.images c image))

  pub reaches : (journal : Journal D) → IsHeld may_leave journal → (journal.gate ≡ Closed) ⊎ (journal.gate ≡ InDoubt) → (c : List ℕ) → may_leave journal.disk c → journal.end + 1 ≤ length c
  reaches journal held gate c image = ∥∥₁_elim held (hlevel props) (λ (texts, lost, holds). gate_within texts lost journal holds gate c image)

  pub small_end : (journal : Journal D) → IsHeld may_leave journal → journal.end ≤ limit
  small_end journal held = ∥∥₁_elim held (hlevel props) (λ (texts, lost, holds). holds.small)

  -- what an answer leaves it
  pub held_after : {T E : Type 0} (r : Result T E) (texts more : List (List ℕ)) (left : Option (List ℕ)) (new : Journal D) → OnOk r (Holds may_leave more None new) → OnErr r (Holds may_leave texts left new) → (t : List (List ℕ)) × (l : Option (List ℕ)) × Holds may_leave t l new
  held_after (Ok v) texts more left new ok err = (more, None, ok)
  held_after (Err e) texts more left new ok err = (texts, left, err)

  -- the note of the last answer changes nothing of that
  pub noted : (texts : List (List ℕ)) (lost : Option (List ℕ)) (old : Journal D) (failed : Bool) → Holds may_leave texts lost old → Holds may_leave texts lost (record old { failed = failed })
  noted texts lost old failed h = record { sized = h.sized; end = h.end; small = h.small; by_gate = h.by_gate; images = h.images }

  pub noted_held : (old : Journal D) (failed : Bool) → IsHeld may_leave old → IsHeld may_leave (record old { failed = failed })
  noted_held old failed held = ∥∥₁_map held (λ (texts, lost, h). (texts, lost, noted texts lost old failed h))

  pub noted_before : (texts : List (List ℕ)) (lost : Option (List ℕ)) (body : List ℕ) (old : Journal D) (failed : Bool) → IsAsBefore may_leave texts lost body old → IsAsBefore may_leave texts lost body (record old { failed = failed })
  noted_before texts lost body old failed before = record { left = before.left; holds = noted texts before.left old failed before.holds; which = before.which }

pub on_err : {T E P : Type 0} (r : Result T E) → P → OnErr r P
on_err (Ok v) p = tt
on_err (Err e) p = p

none_may : (texts : List (List ℕ)) (lost : Option (List ℕ)) (c : List ℕ) → StandsFor texts c → MayHave texts lost c
none_may texts None c stands = stands
none_may texts (Some body) c stands = inl stands

pub during_before : (texts : List (List ℕ)) (lost : Option (List ℕ)) (body c : List ℕ) → StandsFor texts c → DuringAppend texts lost body c
during_before texts lost body c stands = inl (none_may texts lost c stands)

pub during_open : (texts : List (List ℕ)) (lost : Option (List ℕ)) (body c : List ℕ) → MayHave texts (Some body) c → DuringAppend texts lost body c
during_open texts lost body c may = ⊎_elim (λ stands. during_before texts lost body c stands) (λ stands. inr stands) may
