-- Steps of the reading of two or more edits.
use Rattle.std.proofs.Common.{◌≡◌, ℕ, ◌≤◌, ◌∙◌, true, false, List, refl, sym, ap, subst, arith, Some}
use Rattle.std.specs.Prelude.{None, Result, Ok, Err}
use Rattle.emu_names.specs.declared.names.BundleKey.{BundleKey}
use Rattle.bundle_edits.specs.declared.edit.Edit.{Edit}
use Rattle.byte_forms.specs.Lists.{times}
use Rattle.value_codes.specs.Annots.{key_form}
use Rattle.value_codes.specs.Inner.Names.{if_so}
use Rattle.value_codes.specs.Names.{is_key}
use Rattle.value_codes.specs.Counts.{count_form}
use Rattle.edit_code.specs.Edits.{first_key, inner_form, several_form}
use Rattle.edit_code.proofs.ListSteps.{first_read, several_read}
use Rattle.edit_code.proofs.Tested.{so_by, so_not}

module _ (old mid behind new : List ℕ) (raw : BundleKey) (n : ℕ) (first : key_form.read old ≡ Ok (raw, mid)) (second : count_form.read mid ≡ Ok (n, behind)) (some : 2 ≤ n) where
  -- the key is one
  pub several_some : (key : BundleKey) (es : List Edit) → Some key ≡ if_so is_key raw
      → (times (inner_form key) n).read behind ≡ Ok (es, new)
      → (several_form.read old ≡ Ok (es, new)) × (is_key (first_key es) ≡ true)
  several_some key es made third =
      let w = so_by is_key raw key made in
      let read = subst (λ (k : BundleKey). (times (inner_form k) n).read behind ≡ Ok (es, new)) w.0 third in
      let same = first_read raw n behind es new (omega (arith, some)) read in
      (several_read old mid behind raw n (Ok (es, new)) first second read, subst (λ (k : BundleKey). is_key k ≡ true) (sym same) w.1)

  -- the key is none
  pub several_none : None ≡ if_so is_key raw → (v : List Edit) × ((times (inner_form raw) n).read behind ≡ Ok (v, new))
      → (v : List Edit) × (several_form.read old ≡ Ok (v, new)) × (is_key (first_key v) ≡ false)
  several_none made v =
      let no_key = so_not is_key raw made in
      let same = first_read raw n behind v.0 new (omega (arith, some)) v.1 in (
        v.0,
        several_read old mid behind raw n (Ok (v.0, new)) first second v.1,
        subst (λ (k : BundleKey). is_key k ≡ false) (sym same) no_key,
      )
