-- What the key of a bundle must be beside its form: names.
use Rattle.std.specs.Prelude.{Bool, ◌&&◌}
use Rattle.emu_names.specs.Name.{is_name}
use Rattle.emu_names.specs.declared.names.BundleKey.{BundleKey}

-- both parts of the key are names
abbrev pub is_key : BundleKey → Bool
is_key key = is_name key.session && is_name key.bundle
