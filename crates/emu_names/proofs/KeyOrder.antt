-- Names and keys that compare alike are one, and their orders are total.
use Rattle.std.specs.Prelude.{ℕ, List}
use Rattle.std.specs.Cmp.{IsTotalOrder}
use Rattle.std.proofs.Common.{ap}
use Rattle.std.proofs.lemmas.Cmp.{nat_list_cmp_total, on_total, then_total}
use Rattle.std.proofs.lemmas.Map.Lookups.{CmpEqualImpliesEq, exact_bytes, exact_pairs}
use Rattle.emu_names.specs.Order.{name_cmp, key_cmp}

-- names that compare alike are one
pub exact_names : CmpEqualImpliesEq name_cmp
exact_names = exact_bytes

pub names_total : IsTotalOrder name_cmp
names_total = nat_list_cmp_total

-- keys that compare alike are one
pub exact_keys : CmpEqualImpliesEq key_cmp
exact_keys a b alike =
    ap (λ (p : List ℕ × List ℕ). record { session = p.0; bundle = p.1 })
    (exact_pairs name_cmp name_cmp exact_names exact_names (a.session, a.bundle) (b.session, b.bundle) alike)

pub keys_total : IsTotalOrder key_cmp
keys_total = then_total (on_total (λ k. k.session) names_total) (on_total (λ k. k.bundle) names_total)
