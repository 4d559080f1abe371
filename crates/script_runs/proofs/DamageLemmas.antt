-- A store that is bare or stands for a history is not damaged.
use Rattle.std.proofs.Common.{◌≡◌, inl, inr, ℕ, ◌+◌, ◌≤◌, List, [], ◌∷◌, ◌++◌, length, map, Result, Ok, Err, refl, sym, ◌∙◌, ap, subst, arith, length-append, append_assoc}
use Rattle.std.proofs.Math.Seq.{take-append_seam}
use Rattle.emu_names.specs.declared.limits.TheConstants.{HISTORY_EDITS}
use Rattle.live_run.specs.edit_rules.declared.acts.Breach.{Breach}
use Rattle.db_config.specs.declared.parts.ConfigParts.{ConfigParts}
use Rattle.live_run.specs.edit_rules.declared.acts.Entry.{Entry}
use Rattle.live_run.specs.edit_rules.Database.{DatabaseParts}
use Rattle.live_run.specs.edit_rules.Effects.{IsLegal, edited}
use Rattle.live_run.proofs.of_edit_rules.Replay.{prefixes_are_legal, replay_goes_on}
use Rattle.byte_forms.specs.Forms.{Form, IsCode, IsForm}
use Rattle.edit_code.specs.Codes.{entry_code, IsEntryCode, IsHeadCode}
use Rattle.edit_code.proofs.EditLaws.{entry_law}
use Rattle.value_codes.proofs.HeadLaws.{head_law}
use Rattle.edit_journal.specs.declared.body.Body.{Body}
use Rattle.edit_journal.specs.Store.{bodies, placed, body_at}
use Rattle.edit_journal.specs.Held.{texts_of}
use Rattle.live_run.specs.live_book.Histories.{IsBare, Stands, IsStorable, AreCoded, IsDamagedAt, IsWrongAt, IsWrongBehind, AreEntryCodes, IsNoNext, codes_of}

abbrev ok_read : {A : Type 0} → A × List ℕ → Result (A × List ℕ) ℕ
ok_read x = Ok x

read_same : {A : Type 0} {x y : A × List ℕ} → ok_read x ≡ ok_read y → x.0 ≡ y.0
read_same e = cc

-- a code is that of one value
one_value : {A : Type 0} (f : Form A) → IsForm f → (text : List ℕ) (v w : A) → IsCode f text v → IsCode f text w → v ≡ w
one_value f law text v w a b =
    let same : f.code v ≡ f.code w = sym a.1 ∙ b.1 in
    read_same (sym (law.again v [] a.0) ∙ ap (λ c. f.read (c ++ [])) same ∙ law.again w [] b.0)

one_entry : (text : List ℕ) (e k : Entry) → IsEntryCode text e → IsEntryCode text k → e ≡ k
one_entry text e k a b = one_value _ entry_law text e k a.0 b.0

one_head : (text : List ℕ) (c d : ConfigParts) → IsHeadCode text c → IsHeadCode text d → c ≡ d
one_head text c d a b = one_value _ head_law text c d a.0 b.0

-- The texts of bodies at their places.

texts_placed : (texts : List (List ℕ)) (at : ℕ) → texts_of (placed at texts) ≡ texts
unfolding body_at
texts_placed [] at = refl
texts_placed (text ∷ texts) at = ap (λ ts. text ∷ ts) (texts_placed texts (at + 5 + length text))

texts_split : (front : List Body) (wrong : Body) (behind : List Body) → texts_of (front ++ wrong ∷ behind) ≡ texts_of front ++ wrong.bytes ∷ texts_of behind
texts_split [] wrong behind = refl
texts_split (b ∷ front) wrong behind = ap (λ ts. b.bytes ∷ ts) (texts_split front wrong behind)

abbrev ok_bodies : List Body → Result (List Body) ℕ
ok_bodies found = Ok found

bodies_same : {xs ys : List Body} → ok_bodies xs ≡ ok_bodies ys → xs ≡ ys
bodies_same e = cc

no_error : (found : List Body) (at : ℕ) → ok_bodies found ≡ Err at → ⊥
no_error found at h = cc

-- what would be wrong among the bodies of a store is one of its texts
wrong_text : (texts : List (List ℕ)) (c : List ℕ) (at : ℕ) → bodies c ≡ Ok (placed 8 texts) → (w : IsWrongAt c at) → texts ≡ texts_of w.front ++ w.wrong.bytes ∷ texts_of w.behind
wrong_text texts c at h w =
    sym (texts_placed texts 8) ∙ ap texts_of (bodies_same (sym h ∙ w.read)) ∙ texts_split w.front w.wrong w.behind

no_texts : (front : List (List ℕ)) (text : List ℕ) (rest : List (List ℕ)) → [] ≡ front ++ text ∷ rest → ⊥
no_texts [] text rest h = cc
no_texts (x ∷ front) text rest h = cc

pub not_damaged_bare : (c : List ℕ) (at : ℕ) → IsBare c → IsDamagedAt c at → ⊥
not_damaged_bare c at bare (inl h) = no_error [] at (sym bare ∙ h)
not_damaged_bare c at bare (inr w) = no_texts (texts_of w.front) w.wrong.bytes (texts_of w.behind) (wrong_text [] c at bare w)

-- A history whose texts go on.

first_same : {x y : List ℕ} {xs ys : List (List ℕ)} → x ∷ xs ≡ y ∷ ys → x ≡ y
first_same e = cc

rest_same : {x y : List ℕ} {xs ys : List (List ℕ)} → x ∷ xs ≡ y ∷ ys → xs ≡ ys
rest_same e = cc

-- the entry behind those that were read of the first texts
record Next (history front : List Entry) (text : List ℕ) : Type 0 where
  entry : Entry
  more : List Entry
  split : history ≡ front ++ entry ∷ more
  code : IsEntryCode text entry

next_of : (history front : List Entry) (texts : List (List ℕ)) (text : List ℕ) (rest : List (List ℕ)) → AreCoded history → map entry_code history ≡ texts ++ text ∷ rest → AreEntryCodes texts front → Next history front text
next_of [] front [] text rest coded h codes = absurd (cc)
next_of [] front (t ∷ texts) text rest coded h codes = absurd (cc)
next_of (e ∷ history) [] [] text rest coded h codes = record { entry = e; more = history; split = refl; code = subst (λ t. IsEntryCode t e) (first_same h) coded.0 }
next_of (e ∷ history) (k ∷ front) [] text rest coded h codes = absurd codes
next_of (e ∷ history) [] (t ∷ texts) text rest coded h codes = absurd codes
next_of (e ∷ history) (k ∷ front) (t ∷ texts) text rest coded h codes =
    let same : e ≡ k = one_entry t e k (subst (λ x. IsEntryCode x e) (first_same h) coded.0) codes.0 in
    let n = next_of history front texts text rest coded.1 (rest_same h) codes.1 in
    record { entry = n.entry; more = n.more; split = ap (λ x. x ∷ history) same ∙ ap (λ xs. k ∷ xs) n.split; code = n.code }

-- it breaks no rule
abbrev ok_database : DatabaseParts → Result DatabaseParts Breach
ok_database d = Ok d

no_rule : (d : DatabaseParts) (breach : Breach) → ok_database d ≡ Err breach → ⊥
no_rule d breach h = cc

front_legal : (config : ConfigParts) (front : List Entry) (e : Entry) (more : List Entry) → IsLegal config (front ++ e ∷ more) → IsLegal config (front ++ e ∷ [])
front_legal config front e more legal =
    subst (λ h. IsLegal config h) (take-append_seam (front ++ e ∷ []) more)
    (prefixes_are_legal config ((front ++ e ∷ []) ++ more) (subst (λ h. IsLegal config h) (sym (append_assoc front (e ∷ []) more)) legal) (length (front ++ e ∷ [])))

next_right : (config : ConfigParts) (front : List Entry) (e : Entry) (more : List Entry) (breach : Breach) → IsLegal config (front ++ e ∷ more) → edited config front e.act ≡ Err breach → ⊥
next_right config front e more breach legal broken =
    let l = front_legal config front e more legal in
    no_rule l.0 breach (sym l.1 ∙ replay_goes_on config front e ∙ broken)

next_fits : (config : ConfigParts) (history front : List Entry) (text : List ℕ) → IsLegal config history → length history ≤ HISTORY_EDITS → Next history front text → IsNoNext config front text → ⊥
next_fits config history front text legal few n (inl none) = none n.entry n.code
next_fits config history front text legal few n (inr (inl b)) =
    next_right config front n.entry n.more b.breach (subst (λ h. IsLegal config h) n.split legal)
    (ap (λ (e : Entry). edited config front e.act) (one_entry text n.entry b.entry n.code b.code) ∙ b.broken)
next_fits config history front text legal few n (inr (inr full)) =
    let long : length history ≡ length front + length (n.entry ∷ n.more) = ap length n.split ∙ length-append front (n.entry ∷ n.more) in
    omega (arith, long, few, full)

wrong_store : (config : ConfigParts) (history : List Entry) (front : List (List ℕ)) (text : List ℕ) (rest : List (List ℕ)) → IsStorable config history → codes_of config history ≡ front ++ text ∷ rest → IsWrongBehind front text → ⊥
wrong_store config history [] text rest s h none = none config (subst (λ t. IsHeadCode t config) (first_same h) s.head)
wrong_store config history (head ∷ texts) text rest s h w =
    let codes = w.2 in
    let same : w.0 ≡ config = one_head head w.0 config codes.is_head (subst (λ t. IsHeadCode t config) (first_same h) s.head) in
    let n = next_of history w.1 texts text rest s.coded (rest_same h) codes.are_entries in
    next_fits config history w.1 text s.is_history.legal s.is_history.few n (subst (λ c. IsNoNext c w.1 text) same w.3)

pub not_damaged_store : (c : List ℕ) (config : ConfigParts) (history : List Entry) (at : ℕ) → Stands config history c → IsDamagedAt c at → ⊥
not_damaged_store c config history at stands (inl h) = no_error (placed 8 (codes_of config history)) at (sym stands.stands ∙ h)
not_damaged_store c config history at stands (inr w) =
    wrong_store config history (texts_of w.front) w.wrong.bytes (texts_of w.behind) stands.storable (wrong_text (codes_of config history) c at stands.stands w) w.is_wrong
