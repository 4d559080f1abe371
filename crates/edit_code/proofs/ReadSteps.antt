-- Steps of the readings of acts and entries that test the value.
use Rattle.std.proofs.Common.{◌≡◌, ℕ, ◌∙◌, Bool, true, false, List, [], ◌∷◌, refl, sym, ap, subst, Some}
use Rattle.std.specs.Prelude.{Option, None, Result, Ok, Err, IsErrAnd}
use Rattle.emu_names.specs.declared.kinds.SessionNo.{SessionNo}
use Rattle.emu_names.specs.declared.names.BundleKey.{BundleKey}
use Rattle.bundle_edits.specs.declared.edit.Edit.{Edit}
use Rattle.edit_rules.specs.declared.acts.Act.{Act}
use Rattle.edit_rules.specs.declared.acts.Act.TheVariants as acts
use Rattle.db_config.specs.declared.attributes.AttributeDef.{AttributeDef}
use Rattle.db_config.specs.Made.{is_attribute}
use Rattle.edit_rules.specs.declared.acts.ConfigEdit.{ConfigEdit}
use Rattle.edit_rules.specs.declared.acts.ConfigEdit.TheVariants as edits
use Rattle.edit_rules.specs.declared.acts.Entry.{Entry}
use Rattle.byte_forms.specs.declared.rest.ReadFault.{ReadFault}
use Rattle.byte_forms.specs.declared.rest.ReadFault.TheVariants as faults
use Rattle.byte_forms.specs.Forms.{Form, ◌>>=◌}
use Rattle.byte_forms.specs.Parts.{imaged, led, pair, shaped, u32_form}
use Rattle.byte_forms.specs.Utf8.{text_form}
use Rattle.value_codes.specs.Annots.{key_form, session_form}
use Rattle.value_codes.specs.Heads.{attribute_form}
use Rattle.value_codes.specs.Inner.Names.{if_so}
use Rattle.value_codes.specs.Names.{is_key}
use Rattle.edit_code.specs.declared.fields.Fields.{Fields}
use Rattle.edit_code.specs.declared.kinds.Addition.TheVariants as additions
use Rattle.edit_code.specs.declared.kinds.Body.{Body}
use Rattle.edit_code.specs.declared.kinds.Body.TheVariants as bodies
use Rattle.edit_code.specs.declared.kinds.Kind.{Kind}
use Rattle.edit_code.specs.Edits.{act_form, body_form, edit_form, keyed_form, one_of}
use Rattle.edit_code.specs.Fields.{edit_of, fields_form}
use Rattle.edit_code.specs.Additions.{addition_at}
use Rattle.edit_code.specs.Inner.Reading.{GivesIf, IsMadeAs, IsMadeOne}
use Rattle.edit_code.specs.Kinds.{all_kinds, kind_number}
use Rattle.edit_code.specs.Names.{is_act, is_addition, is_entry}
use Rattle.edit_code.specs.Tags.{tag_form}
use Rattle.edit_code.proofs.EntrySteps.{image_some, image_err, body_read, body_fails, entry_with}
use Rattle.edit_code.proofs.FieldLaws.{key_is}
use Rattle.edit_code.proofs.Tested.{so_by, so_not}

-- A value of another type, if the one that it is made of passed.

module _ {A B : Type 0} (f : Form A) (of : A → B) (back : B → Option A) (first : A → Bool) (second : B → Bool) (same : (a : A) → second (of a) ≡ first a) where
  pub made_some : (old new : List ℕ) (o : Option A) (a : A) → GivesIf first (Ok o) new (f.read old) → o ≡ Some a
      → GivesIf second (Ok (Some (of a))) new ((imaged f of back).read old)
  made_some old new None a gives is = absurd cc
  made_some old new (Some x) a gives is =
      let one : x ≡ a = cc in (
        image_some f of back old new a (subst (λ (y : A). f.read old ≡ Ok (y, new)) one gives.0),
        same a ∙ subst (λ (y : A). first y ≡ true) one gives.1,
      )

  pub made_none : (old new : List ℕ) (o : Option A) → GivesIf first (Ok o) new (f.read old) → o ≡ None
      → GivesIf second (Ok None) new ((imaged f of back).read old)
  made_none old new (Some x) gives is = absurd cc
  made_none old new None gives is = (of gives.0, image_some f of back old new gives.0 gives.1, same gives.0 ∙ gives.2)

  pub made_exit : (answer : Result (Option B) ReadFault) (fault : ReadFault) (old new : List ℕ) → IsErrAnd answer (λ x. x ≡ fault)
      → GivesIf first (Err fault) new (f.read old) → GivesIf second answer new ((imaged f of back).read old)
  made_exit (Ok made) fault old new is gives = absurd is
  made_exit (Err e) fault old new is gives =
      subst (λ (x : ReadFault). GivesIf {A = B} second (Err x) new ((imaged f of back).read old)) (sym is)
      (image_err f of back first second old new fault gives)

-- An entry behind its first byte.

module _ (b : Body) (old mid behind new : List ℕ) (session : SessionNo) (line : ℕ) (first : session_form.read old ≡ Ok (session, mid)) (second : u32_form.read mid ≡ Ok (line, behind)) where
  pub body_some : (o : Option Act) (act : Act) → GivesIf is_act (Ok o) new ((act_form b).read behind) → o ≡ Some act
      → GivesIf is_entry (Ok (Some (entry_with session line act))) new ((body_form b).read old)
  body_some None act gives is = absurd cc
  body_some (Some x) act gives is =
      let one : x ≡ act = cc in (
        body_read b old mid behind new session line act first second (subst (λ (y : Act). (act_form b).read behind ≡ Ok (y, new)) one gives.0),
        subst (λ (y : Act). is_act y ≡ true) one gives.1,
      )

  pub body_none : (o : Option Act) → GivesIf is_act (Ok o) new ((act_form b).read behind) → o ≡ None
      → GivesIf is_entry (Ok None) new ((body_form b).read old)
  body_none (Some x) gives is = absurd cc
  body_none None gives is =
      (entry_with session line gives.0, body_read b old mid behind new session line gives.0 first second gives.1, gives.2)

  pub body_exit : (answer : Result (Option Entry) ReadFault) (fault : ReadFault) → IsErrAnd answer (λ x. x ≡ fault)
      → GivesIf is_act (Err fault) new ((act_form b).read behind) → GivesIf is_entry answer new ((body_form b).read old)
  body_exit (Ok made) fault is gives = absurd is
  body_exit (Err e) fault is gives =
      subst (λ (x : ReadFault). GivesIf {A = Entry} is_entry (Err x) new ((body_form b).read old)) (sym is)
      (body_fails b old mid behind new session line fault first second gives)

-- One edit.

pub one_made : (raw key : BundleKey) (f : Fields) (e : Edit) (es : List Edit) → Some key ≡ if_so is_key raw → e ≡ edit_of key f
    → es ≡ e ∷ [] → IsMadeOne raw f (Some (acts.Edits es))
one_made raw key f e es made is one =
    let w = so_by is_key raw key made in
    let own : e ≡ edit_of raw f = is ∙ ap (λ k. edit_of k f) w.0 in
    (ap acts.Edits (one ∙ ap (λ x. x ∷ []) own), w.1)

one_read : (old mid behind new : List ℕ) (k : Kind) (raw : BundleKey) (f : Fields)
    → (tag_form all_kinds kind_number).read old ≡ Ok (k, mid) → key_form.read mid ≡ Ok (raw, behind)
    → (fields_form k).read behind ≡ Ok (f, new) → edit_form.read old ≡ Ok (edit_of raw f, new)
unfolding edit_form keyed_form led shaped pair
one_read old mid behind new k raw f first second third = rw (first, second, third) refl

pub one_given : (old mid behind new : List ℕ) (k : Kind) (raw : BundleKey) (f : Fields) (made : Option Act)
    → (tag_form all_kinds kind_number).read old ≡ Ok (k, mid) → key_form.read mid ≡ Ok (raw, behind)
    → (fields_form k).read behind ≡ Ok (f, new) → IsMadeOne raw f made
    → GivesIf is_act (Ok made) new ((act_form bodies.One).read old)
one_given old mid behind new k raw f None first second third is = (
  acts.Edits (edit_of raw f ∷ []),
  image_some edit_form (λ e. acts.Edits (e ∷ [])) one_of old new (edit_of raw f) (one_read old mid behind new k raw f first second third),
  ap is_key (key_is raw f) ∙ is,
)
one_given old mid behind new k raw f (Some act) first second third is = (
  image_some edit_form (λ e. acts.Edits (e ∷ [])) one_of old new (edit_of raw f) (one_read old mid behind new k raw f first second third)
      ∙ ap (λ (a : Act). Ok (a, new)) (sym is.0),
  ap is_act is.0 ∙ ap is_key (key_is raw f) ∙ is.1,
)

-- What is made of a value that was read.

pub added_some : {A B : Type 0} (test : A → Bool) (of : A → B) (a v : A) → Some v ≡ if_so test a → IsMadeAs test of a (Some (of v))
added_some test of a v e = let w = so_by test a v e in (ap of w.0, w.1)

pub added_none : {A B : Type 0} (test : A → Bool) (of : A → B) (a : A) → None ≡ if_so test a → IsMadeAs test of a None
added_none test of a e = so_not test a e

pub given_made : {A B : Type 0} (f : Form A) (of : A → B) (back : B → Option A) (test : A → Bool) (second : B → Bool)
    → ((a : A) → second (of a) ≡ test a) → (old new : List ℕ) (a : A) (made : Option B) → f.read old ≡ Ok (a, new)
    → IsMadeAs test of a made → GivesIf second (Ok made) new ((imaged f of back).read old)
given_made f of back test second same old new a None read is = (of a, image_some f of back old new a read, same a ∙ is)
given_made {B = B} f of back test second same old new a (Some b) read is = (
  image_some f of back old new a read ∙ ap (λ (y : B). Ok (y, new)) (sym is.0),
  ap second is.0 ∙ same a ∙ is.1,
)

attribute_read : (old mid new : List ℕ) (level : List ℕ) (raw : AttributeDef) → text_form.read old ≡ Ok (level, mid)
    → attribute_form.read mid ≡ Ok (raw, new)
    → (addition_at additions.Attribute).read old ≡ Ok (edits.AddAttribute level raw, new)
unfolding imaged pair
attribute_read old mid new level raw first second = rw (first, second) refl

pub attribute_given : (old mid new : List ℕ) (level : List ℕ) (raw : AttributeDef) (made : Option ConfigEdit)
    → text_form.read old ≡ Ok (level, mid) → attribute_form.read mid ≡ Ok (raw, new)
    → IsMadeAs is_attribute (λ def. edits.AddAttribute level def) raw made
    → GivesIf is_addition (Ok made) new ((addition_at additions.Attribute).read old)
attribute_given old mid new level raw None first second is =
    (edits.AddAttribute level raw, attribute_read old mid new level raw first second, is)
attribute_given old mid new level raw (Some b) first second is = (
  attribute_read old mid new level raw first second ∙ ap (λ (y : ConfigEdit). Ok (y, new)) (sym is.0),
  ap is_addition is.0 ∙ is.1,
)
