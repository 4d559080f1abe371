-- Where nothing is wrong outside or in the script, a run ends well or for want of memory.
use Rattle.std.proofs.Common.{◌≡◌, ◌⊎◌, inl, inr, ℕ, ◌<◌, ◌-◌, ◌^◌, Bool, true, false, List, [], ◌∷◌, Option, Some, None, Result, Ok, refl, sym, ◌∙◌, subst, arith}
use Rattle.emu_names.specs.Count.{Rose}
use Rattle.emu_io.specs.Fronts.{Tells}
use Rattle.db_config.specs.declared.parts.ConfigParts.{ConfigParts}
use Rattle.live_run.specs.edit_rules.declared.acts.Entry.{Entry}
use Rattle.edit_journal.specs.declared.body.Body.{Body}
use Rattle.live_run.specs.live_book.Histories.{OfRead, IsBare, Stands, IsDamagedAt}
use Rattle.program_output.specs.declared.status.Status.{Status}
use Rattle.program_output.specs.declared.status.Status.TheVariants as statuses
use Rattle.script_runs.specs.Scripts.{IsSound, Stop, limit, at_fault}
use Rattle.script_runs.specs.Bases.{Base, no_store, bare_store, store_of, wants_by, is_stored, IsBaseOf}
use Rattle.script_runs.specs.Says.{Call, Says, EndedEarly, TooLong, IsDamage, IsFaultless, IsSoundFor, IsStoreTold}
use Rattle.script_runs.specs.Lives.{SaysLive, StoppedFirst}
use Rattle.script_runs.proofs.DamageLemmas.{not_damaged_bare, not_damaged_store}

abbrev some_bytes : List ℕ → Option (List ℕ)
some_bytes x = Some x

abbrev no_bytes : Option (List ℕ)
no_bytes = None

no_text : (known : List ℕ) → no_bytes ≡ some_bytes known → ⊥
no_text known h = cc

text_same : {x known text : List ℕ} → some_bytes x ≡ some_bytes known → x ≡ text → known ≡ text
text_same h t = cc

told_is : (left : Option (List ℕ)) (known text : List ℕ) → left ≡ Some known → Tells left text → known ≡ text
told_is None known text h t = absurd (no_text known h)
told_is (Some x) known text h t = text_same h t

-- What the disk tells.

bytes_same : {x y z : List ℕ} → some_bytes y ≡ some_bytes z → x ≡ y → x ≡ z
bytes_same h t = cc

of_told : (stored : Option (List ℕ)) (bytes : List ℕ) (P : List ℕ → Type 0) → stored ≡ Some bytes → OfRead stored P → P bytes
of_told None bytes P h o = absurd (no_text bytes h)
of_told (Some y) bytes P h o = subst P (bytes_same h o.1) o.2

abbrev ok_bodies : List Body → Result (List Body) ℕ
ok_bodies found = Ok found

none_some : (x : Body) (xs : List Body) → ok_bodies [] ≡ ok_bodies (x ∷ xs) → ⊥
none_some x xs h = cc

bare_or_store : (bytes : List ℕ) (config : ConfigParts) (history : List Entry) → IsBare bytes → Stands config history bytes → ⊥
bare_or_store bytes config history bare stands = none_some _ _ (sym bare ∙ stands.stands)

wants_same : (store : Bool) (stored : Option (List ℕ)) (a b : Base) → IsStoreTold store stored → IsBaseOf store stored a → IsBaseOf store stored b → wants_by a ≡ wants_by b
wants_same false stored no_store no_store told h k = refl
wants_same false stored no_store bare_store told h k = absurd k
wants_same false stored no_store (store_of config history) told h k = absurd k
wants_same false stored bare_store b told h k = absurd h
wants_same false stored (store_of config history) b told h k = absurd h
wants_same true stored no_store b told h k = absurd h
wants_same true stored bare_store bare_store told h k = refl
wants_same true stored bare_store no_store told h k = absurd k
wants_same true stored bare_store (store_of config history) told h k =
    absurd (bare_or_store told.0 config history (of_told stored told.0 IsBare told.1 h) (of_told stored told.0 (Stands config history) told.1 k))
wants_same true stored (store_of config history) (store_of other more) told h k = refl
wants_same true stored (store_of config history) no_store told h k = absurd k
wants_same true stored (store_of config history) bare_store told h k =
    absurd (bare_or_store told.0 config history (of_told stored told.0 IsBare told.1 k) (of_told stored told.0 (Stands config history) told.1 h))

stored_is : (stored : Option (List ℕ)) (base : Base) → IsBaseOf true stored base → is_stored base ≡ true
stored_is stored bare_store h = refl
stored_is stored (store_of config history) h = refl
stored_is stored no_store h = absurd h

pub not_damaged_base : (stored : Option (List ℕ)) (base : Base) (bytes : List ℕ) (at : ℕ) → stored ≡ Some bytes → IsBaseOf true stored base → OfRead stored (λ c. IsDamagedAt c at) → ⊥
not_damaged_base stored bare_store bytes at told h d = not_damaged_bare bytes at (of_told stored bytes IsBare told h) (of_told stored bytes (λ c. IsDamagedAt c at) told d)
not_damaged_base stored (store_of config history) bytes at told h d = not_damaged_store bytes config history at (of_told stored bytes (Stands config history) told h) (of_told stored bytes (λ c. IsDamagedAt c at) told d)
not_damaged_base stored no_store bytes at told h d = absurd h

module _ (call : Call) (f : IsFaultless call) where
  not_early : (before since images : List ℕ → Type 0) (stop : Stop) → EndedEarly call before since images stop → ⊥
  not_early before since images stop e =
      let text : f.text ≡ e.has.text = told_is call.left f.text e.has.text f.known e.has.told in
      let wants : wants_by f.base ≡ wants_by e.has.base = wants_same call.store call.stored f.base e.has.base f.store_known f.begins e.has.begins in
      let sound : IsSound (wants_by e.has.base) e.has.text = subst (λ w. IsSound w e.has.text) wants (subst (λ t. IsSound (wants_by f.base) t) text f.sound.sound) in
      sound e.has.lines stop e.has.read.bytes e.has.read.made e.script

  not_long : (images Writes : List ℕ → Type 0) → TooLong call images Writes → ⊥
  not_long images Writes t =
      let text : f.text ≡ t.gives.text = told_is call.left f.text t.gives.text f.known t.gives.told in
      let sound : IsSoundFor f.base t.gives.text = subst (λ x. IsSoundFor f.base x) text f.sound in
      sound.room t.gives.first t.config (stored_is call.stored f.base (subst (λ s. IsBaseOf s call.stored f.base) t.gives.stored f.begins)) t.gives.read.bytes t.gives.given t.over

  not_damaged : (at : ℕ) → IsDamage call at → ⊥
  not_damaged at d =
      let told = subst (λ s. IsStoreTold s call.stored) d.stored f.store_known in
      not_damaged_base call.stored f.base told.0 at told.1 (subst (λ s. IsBaseOf s call.stored f.base) d.stored f.begins) d.damaged

  not_risen : (before now : ℕ) → now ≡ before → before < 2 ^ 64 - 1 → Rose before now → ⊥
  not_risen before now same room rose = absurd (omega arith)

  pub complete : (status : Status) (before since images : List ℕ → Type 0) → Says status call before since images → (status ≡ statuses.Fine) ⊎ (status ≡ statuses.Memory)
  complete statuses.Fine before since images says = inl refl
  complete statuses.Usage before since images says = absurd says
  complete statuses.Script before since images says = absurd (not_early before since images (at_fault says.number says.fault) says.stopped)
  complete statuses.Read before since images says = absurd (not_risen call.reads call.reads_after f.reads f.reads_room says.0.cause)
  complete statuses.Write before since images says = absurd (not_risen call.writes call.writes_after f.writes f.writes_room says.cause)
  complete statuses.Disk before since images says = absurd (not_risen call.faults call.faults_after f.faults f.faults_room says.0.cause)
  complete statuses.Damaged before since images says = absurd (not_damaged says.0.at says.0.damage)
  complete statuses.Memory before since images says = inr refl
  complete statuses.Limit before since images (inl e) = absurd (not_early before since images limit e)
  complete statuses.Limit before since images (inr t) = absurd (not_long images _ t.0)
  complete statuses.Refused before since images says = absurd says

  not_stopped : (images Writes : List ℕ → Type 0) (stop : Stop) → StoppedFirst call images stop Writes → ⊥
  not_stopped images Writes stop e =
      let text : f.text ≡ e.has.text = told_is call.left f.text e.has.text f.known e.has.told in
      let wants : wants_by f.base ≡ wants_by e.has.base = wants_same call.store call.stored f.base e.has.base f.store_known f.begins e.has.begins in
      let sound : IsSound (wants_by e.has.base) e.has.text = subst (λ w. IsSound w e.has.text) wants (subst (λ t. IsSound (wants_by f.base) t) text f.sound.sound) in
      sound e.has.lines stop e.has.read.bytes e.has.read.made e.script

  -- the same of a live run
  pub complete_live : (status : Status) (before images : List ℕ → Type 0) → SaysLive status call before images → (status ≡ statuses.Fine) ⊎ (status ≡ statuses.Memory)
  complete_live statuses.Fine before images says = inl refl
  complete_live statuses.Usage before images says = absurd says
  complete_live statuses.Script before images says = absurd (not_stopped images _ (at_fault says.0 says.1) says.2)
  complete_live statuses.Read before images says = absurd (not_risen call.reads call.reads_after f.reads f.reads_room says.cause)
  complete_live statuses.Write before images says = absurd (not_risen call.writes call.writes_after f.writes f.writes_room says.0)
  complete_live statuses.Disk before images says = absurd (not_risen call.faults call.faults_after f.faults f.faults_room says.cause)
  complete_live statuses.Damaged before images says = absurd (not_damaged says.at says.damage)
  complete_live statuses.Memory before images says = inr refl
  complete_live statuses.Limit before images (inl e) = absurd (not_stopped images _ limit e)
  complete_live statuses.Limit before images (inr t) = absurd (not_long images _ t)
  complete_live statuses.Refused before images says = absurd says
