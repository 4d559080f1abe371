-- Lists that are made part by part: their rows, their number and their text.
use Rattle.std.proofs.Common.{◌≡◌, ◌≢◌, ◌<◌, ◌≤◌, ◌+◌, ◌==◌, ◌||◌, ℕ, suc, List, [], ◌∷◌, ◌++◌, Bool, true, false, not, drop, get_or, length, refl, ap, sym, ◌∙◌, append_assoc, add-one}
use Rattle.std.proofs.Math.Dec.{eqb-suc-zero}
use Rattle.std.proofs.Math.ListN.{drop_of_length-le}
use Rattle.std.proofs.Math.Seq.{drop-cons}
use Rattle.std.proofs.lemmas.Grind.{flat_map-append}
use Rattle.std.proofs.lemmas.List.{append-nil, length-append}
use Rattle.serde_json.specs.Written.{comma_if}
use Rattle.eql_rows.specs.declared.row.Row.{Row}
use Rattle.segment_list.specs.Inner.Listing.{in_turn}
use Rattle.segment_list.specs.Inner.Pieces.{row_text, row_texts}

-- ---- parts behind one another

pub of_one : (part rows : List Row) (parts : List (List Row)) → part ≡ rows → parts ≡ part ∷ [] → in_turn parts ≡ rows
of_one part rows parts same is = ap in_turn is ∙ append-nil part ∙ same

pub of_both : (parts behind all : List (List Row)) → all ≡ parts ++ behind → in_turn all ≡ in_turn parts ++ in_turn behind
of_both parts behind all is = ap in_turn is ∙ flat_map-append (λ (rows : List Row). rows) parts behind

pub count_of_both : (parts behind all : List (List Row)) (count others : ℕ) → count ≡ length (in_turn parts) →
    others ≡ length (in_turn behind) → all ≡ parts ++ behind → count + others ≡ length (in_turn all)
count_of_both parts behind all count others here there is =
    ap (λ (n : ℕ). n + others) here ∙ ap (λ (n : ℕ). length (in_turn parts) + n) there
    ∙ sym (ap length (of_both parts behind all is) ∙ length-append (in_turn parts) (in_turn behind))

pub one_more : (parts : List (List Row)) (more : List Row) (all : List (List Row)) → all ≡ parts ++ more ∷ [] →
    in_turn all ≡ in_turn parts ++ more
one_more parts more all is =
    of_both parts (more ∷ []) all is ∙ ap (λ (rows : List Row). in_turn parts ++ rows) (append-nil more)

-- ---- the text of a part

-- without the comma that it begins with
pub comma_off : (text rest : List ℕ) (rows : List Row) → text ≡ 44 ∷ rest → text ≡ row_texts true rows → rest ≡ row_texts false rows
comma_off text rest [] begins is =
    let no : 44 ∷ rest ≡ [] = sym begins ∙ is in
    absurd cc
comma_off text rest (r ∷ rows) begins is = ap (λ (t : List ℕ). drop 1 t) (sym begins ∙ is)

-- where it has none
pub no_comma : (text : List ℕ) (rows : List Row) → ((rest : List ℕ) → text ≢ 44 ∷ rest) → text ≡ row_texts true rows → text ≡ row_texts false rows
no_comma text [] none is = is
no_comma text (r ∷ rows) none is = absurd (none (row_text r ++ row_texts true rows) is)

-- ---- the text of parts

joined : (comma row front rest : List ℕ) → comma ++ (row ++ (front ++ rest)) ≡ (comma ++ (row ++ front)) ++ rest
joined comma row front rest = simp append_assoc

pub behind_rows : (rows rest : List Row) → row_texts true (rows ++ rest) ≡ row_texts true rows ++ row_texts true rest
behind_rows [] rest = refl
behind_rows (r ∷ rows) rest =
    ap (λ (t : List ℕ). comma_if true ++ (row_text r ++ t)) (behind_rows rows rest)
    ∙ joined (comma_if true) (row_text r) (row_texts true rows) (row_texts true rest)

any_later : (later : Bool) → (later || true) ≡ true
any_later true = refl
any_later false = refl

none_later : (later : Bool) → later ≡ (later || false)
none_later true = refl
none_later false = refl

not_none : (n : ℕ) → (suc n == 0) ≡ false
not_none n = eqb-suc-zero n

pub part_then : (later : Bool) (rows rest : List Row) →
    row_texts later (rows ++ rest) ≡ row_texts later rows ++ row_texts (later || not (length rows == 0)) rest
part_then later [] rest = ap (λ (b : Bool). row_texts b rest) (none_later later)
part_then later (r ∷ rows) rest =
    ap (λ (t : List ℕ). comma_if later ++ (row_text r ++ t)) (behind_rows rows rest)
    ∙ joined (comma_if later) (row_text r) (row_texts true rows) (row_texts true rest)
    ∙ ap (λ (b : Bool). row_texts later (r ∷ rows) ++ row_texts b rest)
    (sym (ap (λ (b : Bool). later || not b) (not_none (length rows)) ∙ any_later later))

pub first_part : (parts : List (List Row)) (at : ℕ) (part : List Row) → at < length parts → part ≡ get_or parts at part →
    in_turn (drop at parts) ≡ part ++ in_turn (drop (at + 1) parts)
first_part parts at part lt is =
    ap in_turn (drop-cons parts at part lt)
    ∙ ap (λ (x : List Row). x ++ in_turn (drop (suc at) parts)) (sym is)
    ∙ ap (λ (n : ℕ). part ++ in_turn (drop n parts)) (sym (add-one at))

pub next_part : (out out' whole : List ℕ) (parts : List (List Row)) (at : ℕ) (part : List Row) (later later' : Bool) → at < length parts →
    part ≡ get_or parts at part → out' ≡ out ++ row_texts later part → later' ≡ (later || not (length part == 0)) →
    out ++ row_texts later (in_turn (drop at parts)) ≡ whole → out' ++ row_texts later' (in_turn (drop (at + 1) parts)) ≡ whole
next_part out out' whole parts at part later later' lt is more now before =
    let rest = in_turn (drop (at + 1) parts) in
    ap (λ (t : List ℕ). t ++ row_texts later' rest) more
    ∙ append_assoc out (row_texts later part) (row_texts later' rest)
    ∙ ap (λ (b : Bool). out ++ (row_texts later part ++ row_texts b rest)) now
    ∙ ap (λ (t : List ℕ). out ++ t)
    (sym (ap (λ (rs : List Row). row_texts later rs) (first_part parts at part lt is) ∙ part_then later part rest))
    ∙ before

pub parts_done : (out whole : List ℕ) (parts : List (List Row)) (at : ℕ) (later : Bool) → length parts ≤ at →
    out ++ row_texts later (in_turn (drop at parts)) ≡ whole → out ≡ whole
parts_done out whole parts at later past before =
    sym (append-nil out)
    ∙ ap (λ (ps : List (List Row)). out ++ row_texts later (in_turn ps)) (sym (drop_of_length-le parts past))
    ∙ before
