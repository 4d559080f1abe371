-- What reading a history of its codes owes.
use Rattle.std.proofs.Common.{◌≡◌, ℕ, suc, ◌+◌, ◌<◌, List, [], ◌∷◌, ◌++◌, length, map, take, drop, Result, Ok, Err, IfErr, IsTrue, inl, inr, refl, sym, ◌∙◌, ap, subst, arith, get_or, length-append, take-append-drop, drop-cons}
use Rattle.std.specs.Prelude.{IsErrAnd}
use Rattle.std.proofs.lemmas.List.{take_more}
use Rattle.db_config.specs.declared.parts.ConfigParts.{ConfigParts}
use Rattle.db_config.specs.Valid.{is_valid}
use Rattle.version_tree.specs.edit_rules.declared.acts.Breach.{Breach}
use Rattle.version_tree.specs.edit_rules.declared.acts.Entry.{Entry}
use Rattle.version_tree.specs.edit_rules.Effects.{effect}
use Rattle.live_book.specs.edit_code.Codes.{entry_code, head_code, IsEntryCode, IsHeadCode}
use Rattle.edit_journal.specs.declared.body.Body.{Body}
use Rattle.edit_journal.specs.Held.{texts_of}
use Rattle.edit_journal.proofs.Found.{texts_of-push}
use Rattle.version_tree.specs.Version.{VersionParts, state_of}
use Rattle.version_tree.specs.Inner.Version.{next_number, first_version}
use Rattle.book_opening.specs.declared.fault.OpenFault.{OpenFault}
use Rattle.book_opening.specs.declared.fault.OpenFault.TheVariants.{Disk, Damaged, StoreFull, Memory}
use Rattle.book_opening.specs.declared.replay.Replayed.{Replayed}
use Rattle.live_book.specs.Histories.{codes_of, AreCoded, AreEntryCodes, IsBrokenEntry, IsHistory, IsNoHead, IsNoNext, IsStorable}
use Rattle.live_book.specs.Published.{IsStateAfter}
use Rattle.live_book.specs.Commits.{HasRoom}
use Rattle.book_opening.specs.Inner.Opens.{IsReplay, IsWrong, IsWrongIn}
use Rattle.book_opening.specs.Inner.Prepared.{BreaksRule, IsWrongTail}
use Rattle.book_opening.proofs.HeadCodes.{entry_is, head_is}
use Rattle.live_book.proofs.States.{next_state, edited_as}

-- a weaker reason
pub wrong_weaker : (P Q : ℕ → Type 0) → ((at : ℕ) → P at → Q at) → (fault : OpenFault) → IsWrong P fault → IsWrong Q fault
wrong_weaker P Q change Disk is = absurd is
wrong_weaker P Q change (Damaged at) is = change at is
wrong_weaker P Q change StoreFull is = absurd is
wrong_weaker P Q change Memory is = tt

-- what a failed call says, handed on
pub still_wrong : {T : Type 0} (answer : Result T OpenFault) (fault : OpenFault) (P Q : ℕ → Type 0) → IsErrAnd answer (λ x. x ≡ fault) → ((at : ℕ) → P at → Q at) → IsWrong P fault → IfErr answer (λ f. IsWrong Q f)
still_wrong (Ok v) fault P Q same change is = absurd same
still_wrong (Err x) fault P Q same change is = subst (IsWrong Q) (sym same) (wrong_weaker P Q change fault is)

-- Codes that were read.

codes-push : (texts : List (List ℕ)) (entries : List Entry) (text : List ℕ) (e : Entry) → AreEntryCodes texts entries → IsEntryCode text e → AreEntryCodes (texts ++ text ∷ []) (entries ++ e ∷ [])
codes-push [] [] text e all is = (is, tt)
codes-push [] (x ∷ entries) text e all is = absurd all
codes-push (t ∷ texts) [] text e all is = absurd all
codes-push (t ∷ texts) (x ∷ entries) text e all is = (all.0, codes-push texts entries text e all.1 is)

codes_are : (texts : List (List ℕ)) (entries : List Entry) → AreEntryCodes texts entries → texts ≡ map entry_code entries
codes_are [] [] all = refl
codes_are [] (x ∷ entries) all = absurd all
codes_are (t ∷ texts) [] all = absurd all
codes_are (t ∷ texts) (x ∷ entries) all = ap (λ (l : List ℕ). l ∷ texts) (entry_is t x all.0) ∙ ap (λ (l : List (List ℕ)). entry_code x ∷ l) (codes_are texts entries all.1)

coded_are : (texts : List (List ℕ)) (entries : List Entry) → AreEntryCodes texts entries → AreCoded entries
coded_are [] [] all = tt
coded_are [] (x ∷ entries) all = absurd all
coded_are (t ∷ texts) [] all = absurd all
coded_are (t ∷ texts) (x ∷ entries) all = (subst (λ (l : List ℕ). IsEntryCode l x) (entry_is t x all.0) all.0, coded_are texts entries all.1)

-- One entry more.

module _ (config : ConfigParts) (texts : List (List ℕ)) (old : Replayed) (is : IsReplay config texts old) where
  pub replay_history : IsHistory config old.entries
  replay_history = record { legal = (state_of old.version, is.state.state); few = is.few }

  pub replay_next : (text : List ℕ) (e : Entry) (new : Replayed) → HasRoom old.entries → IsEntryCode text e → new.entries ≡ old.entries ++ e ∷ [] → new.opening ≡ old.opening → new.version.number ≡ next_number old.version.number
      → effect (state_of old.version) e.act ≡ Ok (state_of new.version) → IsReplay config (texts ++ text ∷ []) new
  replay_next text e new room code pushed same number effects =
      let state = next_state config old.entries e old.version is.state new.version room effects number in
      let long = length-append old.entries (e ∷ []) in
      record {
        valid = is.valid;
        opening = same ∙ is.opening;
        entries = subst (AreEntryCodes (texts ++ text ∷ [])) (sym pushed) (codes-push texts old.entries text e is.entries code);
        few = omega (arith, ap length pushed, long, room);
        state = subst (λ (h : List Entry). IsStateAfter config h new.version) (sym pushed) state;
      }

  pub broken_entry : (text : List ℕ) (e : Entry) (breach : Breach) → IsEntryCode text e → effect (state_of old.version) e.act ≡ Err breach → IsBrokenEntry config old.entries text
  broken_entry text e breach code broken = record { entry = e; code = code; breach = breach; broken = edited_as config old.entries e old.version is.state (Err breach) broken }

  pub broken_next : (body : Body) (e : Entry) → IsEntryCode body.bytes e → (at : ℕ) → (at ≡ body.at) × BreaksRule old.version e.act → (at ≡ body.at) × IsNoNext config old.entries body.bytes
  broken_next body e code at is = (is.0, inr (inl (broken_entry body.bytes e is.1.0 code is.1.1)))

  pub wrong_tail : (all front behind : List Body) (wrong : Body) (at : ℕ) → all ≡ front ++ wrong ∷ behind → texts ≡ texts_of front → at ≡ wrong.at → IsNoNext config old.entries wrong.bytes → IsWrongTail config all at
  wrong_tail all front behind wrong at split same place no_next = record {
    front = front;
    wrong = wrong;
    behind = behind;
    entries = old.entries;
    split = split;
    place = place;
    read = subst (λ (t : List (List ℕ)). AreEntryCodes t old.entries) same is.entries;
    history = replay_history;
    no_next = no_next;
  }

  pub replay_storable : (head : List ℕ) → IsHeadCode head config → IsStorable config old.entries
  replay_storable head code = record {
    head = subst (λ (l : List ℕ). IsHeadCode l config) (head_is head config code) code;
    coded = coded_are texts old.entries is.entries;
    is_history = replay_history;
  }

  pub replay_codes : (head : List ℕ) → IsHeadCode head config → head ∷ texts ≡ codes_of config old.entries
  replay_codes head code = ap (λ (l : List ℕ). l ∷ texts) (head_is head config code) ∙ ap (λ (l : List (List ℕ)). head_code config ∷ l) (codes_are texts old.entries is.entries)

-- the first replay
pub replay_first : (config : ConfigParts) (new : Replayed) → IsTrue (is_valid config) → new.opening ≡ config → new.version ≡ first_version config → new.entries ≡ [] → IsReplay config [] new
replay_first config new valid opening version none = record {
  valid = valid;
  opening = opening;
  entries = subst (AreEntryCodes []) (sym none) tt;
  few = omega (arith, ap length none);
  state = subst (λ (h : List Entry). IsStateAfter config h new.version) (sym none)
      (subst (IsStateAfter config []) (sym version) (record { state = refl; number = refl }));
}

-- a body behind the configuration
pub wrong_in : (config : ConfigParts) (head : Body) (rest : List Body) (at : ℕ) → IsHeadCode head.bytes config → IsWrongTail config rest at → IsWrongIn (head ∷ rest) at
wrong_in config head rest at code w = record {
  front = head ∷ w.front;
  wrong = w.wrong;
  behind = w.behind;
  split = ap (λ (l : List Body). head ∷ l) w.split;
  place = w.place;
  is_wrong = (config, w.entries, record { is_head = code; are_entries = w.read; is_history = w.history }, w.no_next);
}

pub wrong_head : (head : Body) (rest : List Body) (at : ℕ) → at ≡ head.at → IsNoHead head.bytes → IsWrongIn (head ∷ rest) at
wrong_head head rest at place none_is = record { front = []; wrong = head; behind = rest; split = refl; place = place; is_wrong = none_is }

-- The bodies of a loop.

module _ (all : List Body) (i : ℕ) (body : Body) (low : i < length all) (is : body ≡ get_or all i body) where
  pub texts_next : texts_of (take (i + 1) all) ≡ texts_of (take i all) ++ body.bytes ∷ []
  texts_next = ap texts_of (take_more all i body low ∙ ap (λ (b : Body). take i all ++ b ∷ []) (sym is)) ∙ texts_of-push (take i all) body

  pub split_here : all ≡ take i all ++ body ∷ drop (suc i) all
  split_here =
      sym (take-append-drop i all)
      ∙ ap (λ (l : List Body). take i all ++ l) (drop-cons all i body low ∙ ap (λ (b : Body). b ∷ drop (suc i) all) (sym is))
