-- What making a book owes.
use Rattle.std.proofs.Common.{◌≡◌, inl, inr, ⊎_elim, true, false, Bool, ℕ, ◌+◌, ◌-◌, ◌<◌, ◌≤◌, List, [], ◌∷◌, length, take, drop, Option, None, Some, IsTrue, refl, sym, ◌∙◌, ap, subst, arith}
use Rattle.std.specs.Prelude.{nat_lt}
use Rattle.std.proofs.lemmas.List.{take_all, drop_all}
use Rattle.std.proofs.lemmas.Bool.{ltb-true, ltb-false}
use Rattle.emu_names.specs.declared.limits.TheConstants.{HISTORY_EDITS}
use Rattle.db_config.specs.declared.parts.ConfigParts.{ConfigParts}
use Rattle.db_config.specs.Valid.{is_valid}
use Rattle.version_tree.specs.edit_rules.declared.acts.Entry.{Entry}
use Rattle.version_tree.specs.edit_rules.Database.{empty_database}
use Rattle.live_book.specs.edit_code.Codes.{head_code, IsHeadCode}
use Rattle.emu_disk.proofs.Moments.{started, weaker}
use Rattle.edit_journal.specs.declared.journal.Journal.{Journal}
use Rattle.edit_journal.specs.Store.{limit, start, StandsFor}
use Rattle.edit_journal.specs.Held.{disk_of, Holds, LeavesIn}
use Rattle.edit_journal.specs.Inner.Held.{DuringAppend}
use Rattle.edit_journal.specs.Inner.Held.{PassesLimit as PassesJournal, IsAsBefore as IsJournalAsBefore}
use Rattle.edit_journal.proofs.Kept.{stands_may}
use Rattle.version_gate.specs.declared.entry.Entry.{Entry as Numbered}
use Rattle.version_gate.specs.Lists.{entry}
use Rattle.version_gate.specs.Inner.Lists.{Board}
use Rattle.version_tree.specs.Version.{VersionParts}
use Rattle.live_book.specs.declared.published.Published.{Published}
use Rattle.live_book.specs.Histories.{head_size, HeadPassesLimit, IsBare, IsStorable}
use Rattle.live_book.specs.Published.{IsStateAfter, AreShown}
use Rattle.live_book.specs.Kept.{CrashLeaves, Keeps}
use Rattle.live_book.specs.Inner.Kept.{HasConfigSince, Holding, IsBookOf}
use Rattle.live_book.proofs.Configs.{settled_first}
use Rattle.book_opening.specs.Opens.{DuringNew, IsEmptyOrLost, IsHeadTooMuch, LeavesNew}
use Rattle.book_opening.specs.Inner.Opens.{IsEmpty}
use Rattle.live_book.specs.Inner.Prepared.{IsTest}

-- The first book.

module _ {D : Type 0} (may_leave : D → List ℕ → Type 0) where
  pub first_book : (own : ConfigParts) (version : VersionParts) (current : Published) (entries : List Entry) (opened since : ℕ) (board : Board Published) (journal : Option (Journal D)) → IsTrue (is_valid own)
      → length entries ≤ HISTORY_EDITS → IsStateAfter own entries version → current ≡ record { version = version; last = None } → opened ≡ length entries → since ≡ length entries → board.number ≡ length entries → board.list ≡ entry (length entries) current ∷ []
      → Holding may_leave own entries journal → IsBookOf may_leave own current entries opened since board journal
  first_book own version current entries opened since board journal valid few state is all from number list held =
      let first : Published = record { version = version; last = None } in
      let low : length entries ≤ opened = omega (arith, all) in
      let front : take opened entries ≡ entries = take_all opened entries low in
      let back : drop opened entries ≡ [] = drop_all opened entries low in
      let shown : AreShown own entries [] (entry (length entries) first ∷ []) = (record { number = refl; version = state; last = refl }, refl) in
      subst (λ (p : Published). IsBookOf may_leave own p entries opened since board journal) (sym is) (record {
        valid = valid;
        few = few;
        opened_some = omega (arith, all);
        settled = subst (λ (n : ℕ). HasConfigSince own entries n version.config) (sym from) (settled_first own entries version state);
        number = number;
        state = state;
        shown = subst (λ (l : List (Numbered Published)). AreShown own (take opened entries) (drop opened entries) l) (sym (list ∙ ap (λ (p : Published). entry (length entries) p ∷ []) is))
            (subst (λ (h : List Entry). AreShown own h (drop opened entries) (entry (length entries) first ∷ [])) (sym front)
            (subst (λ (h : List Entry). AreShown own entries h (entry (length entries) first ∷ [])) (sym back) shown));
        last = ([], list ∙ ap (λ (p : Published). entry (length entries) p ∷ []) is);
        held = held;
      })

  -- Writing the configuration.

  new_storable : (config : ConfigParts) → IsHeadCode (head_code config) config → IsStorable config []
  new_storable config code = record { head = code; coded = tt; is_history = record { legal = (empty_database config, refl); few = omega arith } }

  module _ (config : ConfigParts) (code : IsHeadCode (head_code config) config) (body : List ℕ) (is : body ≡ head_code config) (new : Journal D) where
    pub head_ok : Holds may_leave (body ∷ []) None new → Keeps may_leave config [] None new
    head_ok holds = record {
      storable = new_storable config code;
      lost_fits = tt;
      held = subst (λ (b : List ℕ). Holds may_leave (b ∷ []) None new) is holds;
    }

    pub head_err : IsJournalAsBefore may_leave [] None body new → IsEmptyOrLost may_leave config (Some new)
    head_err before =
        ⊎_elim (λ none. inl (subst (λ (l : Option (List ℕ)). Holds may_leave [] l new) none before.holds))
        (λ some. ⊎_elim (λ none. inl (subst (λ (l : Option (List ℕ)). Holds may_leave [] l new) none before.holds))
        (λ own. inr (subst (λ (l : Option (List ℕ)). Holds may_leave [] l new) (own ∙ ap (λ (b : List ℕ). Some b) is) before.holds)) some)
        before.which

    pub head_leaves : (moment : D → ℕ) (left_since : D → ℕ → List ℕ → Type 0) (old : Journal D) → LeavesIn moment left_since old new (DuringAppend [] None body) → LeavesIn moment left_since old new (DuringNew config)
    head_leaves moment left_since old leaves =
        weaker moment left_since (disk_of old) (disk_of new) (DuringAppend [] None body) (DuringNew config)
        (λ c has. ⊎_elim (λ bare. inl bare) (λ stands. inr (record { storable = new_storable config code; stands = subst (λ (b : List ℕ). StandsFor (b ∷ []) c) is stands })) has) leaves

    -- so does each image of now
    pub head_left : (moment : D → ℕ) (left_since : D → ℕ → List ℕ → Type 0) (counts_now : (disk : D) (t : ℕ) (c : List ℕ) → t ≤ moment disk → may_leave disk c → left_since disk t c) (old : Journal D) → LeavesIn moment left_since old new (DuringAppend [] None body) → LeavesNew may_leave config (Some new)
    head_left moment left_since counts_now old leaves =
        let during = head_leaves moment left_since old leaves in
        λ c image. during.each c (counts_now (disk_of new) (moment (disk_of old)) c during.later image)

  -- where the disk is not called
  pub still_bare : (moment : D → ℕ) (left_since : D → ℕ → List ℕ → Type 0) (only_now : (disk : D) (c : List ℕ) → left_since disk (moment disk) c → may_leave disk c) (journal : Option (Journal D)) → IsEmpty may_leave journal → CrashLeaves moment left_since journal journal IsBare
  still_bare moment left_since only_now None empty = tt
  still_bare moment left_since only_now (Some journal) empty =
      started moment left_since (disk_of journal) IsBare (λ c left. stands_may may_leave [] None journal empty c (only_now (disk_of journal) c left))

-- the limit, tested before the disk is called
head_over : (t : Bool) (config : ConfigParts) (end len : ℕ) → t ≡ nat_lt (limit - end) (6 + len) → end ≡ length (start []) → end ≤ limit → len ≡ head_size config → IsTest t (IsHeadTooMuch true config)
head_over true config end len test place small is = (refl, omega (arith, ltb-true (limit - end) (6 + len) (sym test), place, small, is))
head_over false config end len test place small is = λ much. omega (arith, ltb-false (limit - end) (6 + len) (sym test), place, small, is, much.1)

pub is_head_over : (config : ConfigParts) (end len : ℕ) → end ≡ length (start []) → end ≤ limit → len ≡ head_size config → IsTest (nat_lt (limit - end) (6 + len)) (IsHeadTooMuch true config)
is_head_over config end len place small is = head_over (nat_lt (limit - end) (6 + len)) config end len refl place small is

pub head_passes : (config : ConfigParts) (body : List ℕ) → body ≡ head_code config → PassesJournal [] body → HeadPassesLimit config
head_passes config body is over = let long : limit < length (start []) + 6 + length (head_code config) = subst (λ (b : List ℕ). limit < length (start []) + 6 + length b) is over in omega (arith, long)
