-- How large a store is, as the journal counts its bytes and as the lengths of the codes add up.
use Rattle.std.proofs.Common.{◌≡◌, ℕ, ◌+◌, ◌<◌, ◌^◌, min, Bool, true, false, List, [], ◌∷◌, length, map, sum_by, refl, arith, length-append}
use Rattle.std.specs.Prelude.{nat_lt}
use Rattle.std.proofs.lemmas.Bool.Decides.{nat_tests}
use Rattle.std.proofs.lemmas.List.Sums.{sum_by-cons}
use Rattle.emu_names.specs.declared.limits.TheConstants.{STORE_BYTES}
use Rattle.db_config.specs.declared.parts.ConfigParts.{ConfigParts}
use Rattle.version_steps.specs.edit_rules.declared.acts.Entry.{Entry}
use Rattle.edit_code.specs.Codes.{entry_code, head_code}
use Rattle.edit_journal.specs.Store.{frame, frames}
use Rattle.edit_journal.proofs.Walk.{length_frame, length-start}
use Rattle.live_book.specs.Histories.{codes_of, size, PassesLimit}

-- a gate byte, four of a length, and the code
abbrev framed : List ℕ → ℕ
framed code = 5 + length code

-- the place of the last gate of the store of a configuration and its entries: eight bytes open it
abbrev added_up : ConfigParts → List Entry → ℕ
added_up config history = 8 + framed (head_code config) + sum_by (λ e. framed (entry_code e)) history

-- with one entry more the sum would pass the limit of a store
abbrev passes_limit : ConfigParts → List Entry → Entry → Bool
passes_limit config history next = nat_lt STORE_BYTES (added_up config history + 6 + length (entry_code next))

-- the frames of a history
entries_size : (history : List Entry) → length (frames (map entry_code history)) ≡ sum_by (λ e. framed (entry_code e)) history
entries_size [] = refl
entries_size (e ∷ history) =
    omega (arith, length-append (frame (entry_code e)) (frames (map entry_code history)), length_frame (entry_code e), entries_size history, sum_by-cons (λ x. framed (entry_code x)) e history)

-- the place of the last gate
size_is : (config : ConfigParts) (history : List Entry) → size config history ≡ added_up config history
size_is config history =
    omega (arith, length-start (codes_of config history), length-append (frame (head_code config)) (frames (map entry_code history)), length_frame (head_code config), entries_size history)

-- an entry of 2^32 bytes passes the limit anyhow
over : (store len : ℕ) → STORE_BYTES < store + 6 + len → STORE_BYTES < store + 6 + min (2 ^ 32) len
over store len passes = omega arith

pub passes_so : (config : ConfigParts) (history : List Entry) (next : Entry) → PassesLimit config history next → passes_limit config history next ≡ true
passes_so config history next passes =
    let far : STORE_BYTES < added_up config history + 6 + length (entry_code next) = omega (arith, passes, size_is config history) in
    grind (arith, nat_tests)

pub fits_so : (config : ConfigParts) (history : List Entry) (next : Entry) → (PassesLimit config history next → ⊥) → passes_limit config history next ≡ false
fits_so config history next fits = test (passes_limit config history next) refl
  where
    far : STORE_BYTES < added_up config history + 6 + length (entry_code next) → PassesLimit config history next
    far passes = omega (arith, over (added_up config history) (length (entry_code next)) passes, size_is config history)

    test : (b : Bool) → passes_limit config history next ≡ b → b ≡ false
    test false is = refl
    test true is = absurd (fits (far (grind (arith, nat_tests))))
