-- Edits that differ in nothing but their key.
use Rattle.std.proofs.Common.{◌≡◌, sym, ◌∙◌, ap}
use Rattle.emu_names.specs.declared.names.BundleKey.{BundleKey}
use Rattle.bundle_edits.specs.declared.edit.Edit.{Edit}
use Rattle.bundle_edits.specs.Edits.{key_of}

-- an edit of a key with the copy of the key is the same edit
pub same_edit : (make : BundleKey → Edit) → ((k : BundleKey) → key_of (make k) ≡ k) → (e : Edit) (copy own : BundleKey) → copy ≡ key_of e → e ≡ make own → make copy ≡ e
same_edit make keyed e copy own copied is = ap make (copied ∙ ap key_of is ∙ keyed own) ∙ sym is
