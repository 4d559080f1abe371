-- Places of kinds.
use Rattle.std.proofs.Common.{◌≡◌, ℕ, zero, suc, refl}
use Rattle.emu_names.specs.declared.kinds.LevelKind.TheVariants as level_kinds
use Rattle.emu_names.specs.declared.kinds.LinkKind.TheVariants as link_kinds
use Rattle.value_codes.specs.Annots.{level_kind_at}
use Rattle.value_codes.specs.Heads.{link_kind_at}

pub last_level_kind : (n : ℕ) → (n ≡ 0 → ⊥) → (n ≡ 1 → ⊥) → level_kind_at n ≡ level_kinds.Event
last_level_kind zero h k = absurd (h refl)
last_level_kind (suc zero) h k = absurd (k refl)
last_level_kind (suc (suc n)) h k = refl

pub last_link_kind : (n : ℕ) → (n ≡ 0 → ⊥) → (n ≡ 1 → ⊥) → link_kind_at n ≡ link_kinds.ManyToMany
last_link_kind zero h k = absurd (h refl)
last_link_kind (suc zero) h k = absurd (k refl)
last_link_kind (suc (suc n)) h k = refl
