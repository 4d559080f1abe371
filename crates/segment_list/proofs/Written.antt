-- Lists that are written to a sink part by part.
use Rattle.std.proofs.Common.{◌≡◌, ◌<◌, ◌≤◌, ◌+◌, ◌==◌, ◌||◌, ℕ, List, [], ◌++◌, Bool, not, drop, get_or, length, Option, refl, ap, sym, ◌∙◌, subst}
use Rattle.std.proofs.KnownBytes.{Appends-nil, Appends-trans}
use Rattle.std.specs.Io.KnownBytes.{Appends}
use Rattle.emu_io.specs.Fronts.{WritesFront}
use Rattle.emu_io.proofs.Fronts.{front_longer, front_more}
use Rattle.eql_rows.specs.declared.row.Row.{Row}
use Rattle.segment_list.specs.Inner.Listing.{HasTaken, in_turn}
use Rattle.segment_list.specs.Inner.Pieces.{row_texts}
use Rattle.segment_list.proofs.Parted.{first_part, next_part, part_then, parts_done}

-- nothing yet
pub none_taken : (sink : Option (List ℕ)) (whole : List ℕ) → HasTaken sink sink whole whole
none_taken sink whole = record { text = []; wrote = Appends-nil sink; joins = refl }

-- one part more
pub more_taken : (before mid now : Option (List ℕ)) (whole : List ℕ) (parts : List (List Row)) (at : ℕ) (part : List Row) (later later' : Bool) →
    at < length parts → part ≡ get_or parts at part → later' ≡ (later || not (length part == 0)) →
    HasTaken before mid (row_texts later (in_turn (drop at parts))) whole → Appends mid now (row_texts later part) →
    HasTaken before now (row_texts later' (in_turn (drop (at + 1) parts))) whole
more_taken before mid now whole parts at part later later' lt is next taken wrote = record {
  text = taken.text ++ row_texts later part;
  wrote = Appends-trans before mid now taken.text (row_texts later part) taken.wrote wrote;
  joins = next_part taken.text (taken.text ++ row_texts later part) whole parts at part later later' lt is refl next taken.joins;
}

-- all parts
pub all_taken : (before now : Option (List ℕ)) (whole : List ℕ) (parts : List (List Row)) (at : ℕ) (later : Bool) → length parts ≤ at →
    HasTaken before now (row_texts later (in_turn (drop at parts))) whole → Appends before now whole
all_taken before now whole parts at later past taken =
    subst (λ (t : List ℕ). Appends before now t) (parts_done taken.text whole parts at later past taken.joins) taken.wrote

-- a front of what was still to come
taken_front : (before mid now : Option (List ℕ)) (rest whole : List ℕ) → HasTaken before mid rest whole → WritesFront mid now rest → WritesFront before now whole
taken_front before mid now rest whole taken front =
    subst (λ (t : List ℕ). WritesFront before now t) taken.joins (front_more before mid now taken.text rest taken.wrote front)

-- a front of one part more
pub part_broke : (before mid now : Option (List ℕ)) (whole : List ℕ) (parts : List (List Row)) (at : ℕ) (part : List Row) (later : Bool) →
    at < length parts → part ≡ get_or parts at part → HasTaken before mid (row_texts later (in_turn (drop at parts))) whole →
    WritesFront mid now (row_texts later part) → WritesFront before now whole
part_broke before mid now whole parts at part later lt is taken front =
    let behind = row_texts (later || not (length part == 0)) (in_turn (drop (at + 1) parts)) in
    let split : row_texts later (in_turn (drop at parts)) ≡ row_texts later part ++ behind =
    ap (λ (rs : List Row). row_texts later rs) (first_part parts at part lt is) ∙ part_then later part (in_turn (drop (at + 1) parts)) in
    taken_front before mid now (row_texts later (in_turn (drop at parts))) whole taken
    (subst (λ (t : List ℕ). WritesFront mid now t) (sym split) (front_longer mid now (row_texts later part) behind front))
