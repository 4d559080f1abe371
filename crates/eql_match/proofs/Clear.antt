-- Rows without a bit, and what a dominance of one finds.
use Rattle.std.proofs.Common.{◌≡◌, inl, inr, ℕ, zero, suc, Bool, true, false, ◌||◌, ◌&&◌, List, length, replicate, get_or, Result, Ok, Err, refl, sym, ap, ◌∙◌}
use Rattle.std.specs.Prelude.{IfOk, Option, is_some}
use Rattle.std.specs.List.{list_any, range_with_len}
use Rattle.std.proofs.lemmas.Bool.{cases_lt}
use Rattle.std.proofs.lemmas.List.{length-replicate}
use Rattle.std.proofs.lemmas.Option.{unwrap_or-slice_get}
use Rattle.emu_names.specs.declared.shortage.Memory.{Memory}
use Rattle.lane_bits.specs.Inner.Row.{IsFirst}
use Rattle.eql_rows.specs.Inner.Flags.{flag_at}
use Rattle.eql_model.specs.Inner.Joins.{bit_at}
use Rattle.eql_rows.proofs.Walk.{flag_is}
use Rattle.eql_match.specs.Inner.Found.{is_above_some, is_below_some, AreDominant, IsClear}
use Rattle.eql_match.proofs.Steps.{none_any, and_clear, past_flag}
use Rattle.eql_columns.proofs.Tests.{no_first}

pub first_none : (row : List Bool) (first : Option ℕ) → IsFirst row first → is_some first ≡ false → IsClear row
first_none row first is none k = elim (cases_lt k (length row)) [
  | inl within ↦ flag_is row k false (no_first row first is none k within)
  | inr past ↦ past_flag row k past
]

none_in : (n k : ℕ) → get_or (replicate n false) k false ≡ false
none_in zero k = refl
none_in (suc n) zero = refl
none_in (suc n) (suc k) = none_in n k

no_flag_in : (n k : ℕ) → flag_at k (replicate n false) ≡ false
no_flag_in n k = unwrap_or-slice_get (replicate n false) k false ∙ none_in n k

and_no : (a b : Bool) → b ≡ false → (a && b) ≡ false
and_no true b is = is
and_no false b is = refl

none_dominant : (down up : List (List Bool)) (lefts rights made : List Bool) (n : ℕ) → n ≡ length lefts → made ≡ replicate n false →
    ((k : ℕ) → (flag_at k lefts && (is_above_some down rights k || is_below_some up rights k)) ≡ false) → AreDominant down up lefts rights made
none_dominant down up lefts rights made n long is none = record {
  count = ap length is ∙ length-replicate n false ∙ long;
  each = λ k within. ap (flag_at k) is ∙ no_flag_in n k ∙ sym (none k);
}

pub none_left : (down up : List (List Bool)) (lefts rights : List Bool) (n : ℕ) (r : Result (List Bool) Memory) → n ≡ length lefts → IsClear lefts →
    IfOk r (λ made. made ≡ replicate n false) → IfOk r (AreDominant down up lefts rights)
none_left down up lefts rights n (Err e) long clear told = tt
none_left down up lefts rights n (Ok made) long clear told =
    none_dominant down up lefts rights made n long told
    (λ k. and_clear (flag_at k lefts) (is_above_some down rights k || is_below_some up rights k) (clear k))

none_of_row : (rights : List Bool) (bit : ℕ → Bool) → IsClear rights →
    list_any (λ j. flag_at j rights && bit j) (range_with_len 0 (length rights)) ≡ false
none_of_row rights bit clear =
    none_any (λ j. flag_at j rights && bit j) 0 (length rights) (λ j low high. and_clear (flag_at j rights) (bit j) (clear j))

pub none_right : (down up : List (List Bool)) (lefts rights : List Bool) (n : ℕ) (r : Result (List Bool) Memory) → n ≡ length lefts → IsClear rights →
    IfOk r (λ made. made ≡ replicate n false) → IfOk r (AreDominant down up lefts rights)
none_right down up lefts rights n (Err e) long clear told = tt
none_right down up lefts rights n (Ok made) long clear told =
    none_dominant down up lefts rights made n long told
    (λ k. and_no (flag_at k lefts) (is_above_some down rights k || is_below_some up rights k)
    (λ i. none_of_row rights (λ j. bit_at down k j) clear i || none_of_row rights (λ j. bit_at up j k) clear i))
