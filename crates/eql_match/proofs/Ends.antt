-- The places at which a row of bits has none set: before its first one and behind its last one.
use Rattle.std.proofs.Common.{◌≡◌, ℕ, ◌+◌, ◌-◌, ◌<◌, ◌≤◌, Bool, true, false, List, [], ◌++◌, length, Some, refl, sym, ap, ◌∙◌, arith}
use Rattle.std.specs.Prelude.{map, nat_lt, unwrap_or}
use Rattle.std.specs.List.{filter, range_with_len, slice_get}
use Rattle.std.proofs.lemmas.Bool.{ltb-true, ltb-false}
use Rattle.std.proofs.lemmas.List.{append-nil}
use Rattle.std.proofs.lemmas.List.Elements.{filter-append}
use Rattle.std.proofs.lemmas.Option.{slice_get_past, slice_get_within}
use Rattle.lane_bits.specs.Inner.Row.{NoneWhere, IsLast}
use Rattle.eql_rows.specs.Inner.Flags.{flag_at}
use Rattle.eql_tuples.specs.declared.tuple.Tuple.{Tuple}
use Rattle.eql_rows.proofs.Walk.{none_among, range_split}

-- no place behind the m-th has a flag
none_behind : (q : ℕ → Bool) (m k : ℕ) → m ≤ k → ((i : ℕ) → m ≤ i → q i ≡ false) →
    filter q (range_with_len 0 k) ≡ filter q (range_with_len 0 m)
none_behind q m k h none =
    let e : k ≡ m + (k - m) = omega arith in
    ap (λ j. filter q (range_with_len 0 j)) e ∙ ap (filter q) (range_split 0 m (k - m))
    ∙ filter-append q (range_with_len 0 m) (range_with_len (0 + m) (k - m))
    ∙ ap (λ ks. filter q (range_with_len 0 m) ++ ks) (none_among q (0 + m) (k - m) (λ i from to. none i (omega arith)))
    ∙ append-nil (filter q (range_with_len 0 m))

unset : (bits : List Bool) (i : ℕ) → slice_get bits i ≡ Some false → flag_at i bits ≡ false
unset bits i is = ap (λ o. unwrap_or o false) is

-- no place before the first bit has its flag
pub none_before : (f : ℕ → Tuple) (bits : List Bool) (first : ℕ) → first ≤ length bits → NoneWhere bits (λ i. i < first) →
    [] ≡ map f (filter (λ k. flag_at k bits) (range_with_len 0 first))
none_before f bits first within none =
    sym (ap (map f) (none_among (λ k. flag_at k bits) 0 first (λ i from to. unset bits i (none i (omega arith) (omega arith)))))

-- no place has its flag
pub none_set : (f : ℕ → Tuple) (bits : List Bool) → NoneWhere bits (λ i. Unit {0}) →
    [] ≡ map f (filter (λ k. flag_at k bits) (range_with_len 0 (length bits)))
none_set f bits none =
    sym (ap (map f) (none_among (λ k. flag_at k bits) 0 (length bits) (λ i from to. unset bits i (none i (omega arith) tt))))

-- the places up to the last bit or further are all that have their flags
pub all_set_before : (f : ℕ → Tuple) (bits : List Bool) (last at : ℕ) → IsLast bits (Some last) → last < at →
    map f (filter (λ k. flag_at k bits) (range_with_len 0 at)) ≡ map f (filter (λ k. flag_at k bits) (range_with_len 0 (length bits)))
all_set_before f bits last at is behind =
    let within = slice_get_within bits last true is.0 in
    ap (map f) (none_behind (λ k. flag_at k bits) (last + 1) at (omega arith) unset_behind
    ∙ sym (none_behind (λ k. flag_at k bits) (last + 1) (length bits) (omega arith) unset_behind))
  where
    by_end : (i : ℕ) → (b : Bool) → nat_lt i (length bits) ≡ b → last + 1 ≤ i → flag_at i bits ≡ false
    by_end i true e from = unset bits i (is.1 i (ltb-true i (length bits) e) (omega arith))
    by_end i false e from = ap (λ o. unwrap_or o false) (slice_get_past bits i (ltb-false i (length bits) e))

    unset_behind : (i : ℕ) → last + 1 ≤ i → flag_at i bits ≡ false
    unset_behind i from = by_end i (nat_lt i (length bits)) refl from
