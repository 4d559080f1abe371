-- The database behind a history of the additions of the script of work, in whatever order they came.
use Rattle.std.proofs.Common.{◌≡◌, inl, inr, ℕ, ◌<◌, true, List, [], ◌∷◌, Ok, refl, sym, ◌∙◌, ap, subst}
use Rattle.emu_names.specs.declared.names.BundleKey.{BundleKey}
use Rattle.level_items.specs.declared.annot.Annot.{Annot}
use Rattle.db_config.specs.Valid.{is_valid}
use Rattle.edit_rules.specs.declared.acts.Entry.{Entry}
use Rattle.edit_rules.specs.Database.{DatabaseParts, KeepsDatabaseRules, empty_database, same_key}
use Rattle.edit_rules.specs.Effects.{IsLegal, database_after, found_or}
use Rattle.edit_rules.proofs.Replay.{empty_keeps, legal_keeps}
use Rattle.work_script.specs.Script.{work_annot, work_config, work_key}
use Rattle.work_script.specs.Inner.Script.{work_act}
use Rattle.work_script.specs.States.{Adds, AreAdditions, IsWorkState, addition}
use Rattle.work_script.specs.Inner.Replies.{Has}
use Rattle.work_script.proofs.Additions.{adds_found, addition_same, config_stays, nowhere}

valid : is_valid work_config ≡ true
valid = refl

-- an entry adds a bundle of the script
pub record AddsOne (number count : ℕ) (e : Entry) : Type 0 where
  pub bundle : ℕ
  pub low : bundle < count
  pub is : e.act ≡ work_act number bundle

-- an entry of a history adds this bundle of the script
pub record IsAddedIn (number k : ℕ) (es : List Entry) : Type 0 where
  pub entry : Entry
  pub there : Has es entry
  pub is : entry.act ≡ work_act number k

additions_of : (number count : ℕ) (es : List Entry) → ((e : Entry) → Has es e → AddsOne number count e) → AreAdditions es
additions_of number count [] each = tt
additions_of number count (e ∷ es) each =
    let one = each e (inl refl) in
    ((work_key one.bundle, work_annot number one.bundle, one.is), additions_of number count es (λ other has. each other (inr has)))

adds_of : (es : List Entry) (e : Entry) (key : BundleKey) (annot : Annot) → Has es e → e.act ≡ addition key annot → Adds es key annot
adds_of [] e key annot has is = has
adds_of (x ∷ xs) e key annot (inl same) is = inl (ap (λ (y : Entry). y.act) same ∙ is)
adds_of (x ∷ xs) e key annot (inr more) is = inr (adds_of xs e key annot more is)

record IsAdding (es : List Entry) (key : BundleKey) (annot : Annot) : Type 0 where
  entry : Entry
  there : Has es entry
  is : entry.act ≡ addition key annot

adding_in : (es : List Entry) (key : BundleKey) (annot : Annot) → Adds es key annot → IsAdding es key annot
adding_in [] key annot adds = absurd adds
adding_in (e ∷ es) key annot (inl same) = record { entry = e; there = inl refl; is = same }
adding_in (e ∷ es) key annot (inr more) =
    let rest = adding_in es key annot more in
    record { entry = rest.entry; there = inr rest.there; is = rest.is }

module _ (number count : ℕ) (H : List Entry) (legal : IsLegal work_config H) (each : (e : Entry) → Has H e → AddsOne number count e)
    (all : (k : ℕ) → k < count → IsAddedIn number k H) where
  abbrev pub state : DatabaseParts
  state = legal.0

  abbrev pub start : DatabaseParts
  start = empty_database work_config

  found : found_or start (Ok state) ≡ state
  found = refl

  whole : database_after work_config H ≡ state
  whole = ap (found_or start) legal.1

  additions : AreAdditions H
  additions = additions_of number count H each

  is_state : IsWorkState number count state
  is_state = record {
    config = config_stays H start state additions (empty_keeps work_config valid) legal.1;
    rules = subst KeepsDatabaseRules whole (legal_keeps work_config H valid legal);
    there = λ k low.
        let one = all k low in
        let made = adds_found H start state (work_key k) (work_annot number k) additions (empty_keeps work_config valid) legal.1
        (adds_of H one.entry (work_key k) (work_annot number k) one.there one.is) in
        (made.bundle, made.made, made.found);
    only = λ key apart. nowhere H start state key additions (empty_keeps work_config valid) legal.1 refl
        (λ own annot adds.
        let from = adding_in H own annot adds in
        let one = each from.entry from.there in
        let same : own ≡ work_key one.bundle =
        addition_same own (work_key one.bundle) annot (work_annot number one.bundle) (sym from.is ∙ one.is) in
        ap (λ (q : BundleKey). same_key q key) same ∙ apart one.bundle one.low);
  }

  -- the database behind it is that of the script
  pub work_state : IsWorkState number count (database_after work_config H)
  work_state = subst (IsWorkState number count) (sym whole) is_state
