-- The marks of entries, one after another.
use Rattle.std.proofs.Common.{◌≡◌, ℕ, zero, suc, ◌+◌, ◌≤◌, List, [], ◌∷◌, ◌++◌, length, drop, Some, arith, refl, sym, ap, ◌∙◌, add-one, append_assoc, append-nil, drop_of_length-le}
use Rattle.std.specs.List.{slice_get}
use Rattle.emu_names.specs.declared.kinds.SessionNo.{SessionNo}
use Rattle.edit_undo.specs.edit_rules.declared.acts.Entry.{Entry}
use Rattle.live_seats.specs.declared.marks.Mark.{Mark}
use Rattle.live_seats.specs.Marks.{marks_from}

-- what stands from a place on begins with what stands there
pub drop_at : {A : Type 0} (xs : List A) (i : ℕ) (x : A) → slice_get xs i ≡ Some x → drop i xs ≡ x ∷ drop (suc i) xs
drop_at [] zero x is = absurd cc
drop_at [] (suc i) x is = absurd cc
drop_at (y ∷ ys) zero x is = let same : y ≡ x = cc in ap (λ z. z ∷ ys) same
drop_at (y ∷ ys) (suc i) x is = drop_at ys i x is

-- a list of no length
pub empty_is : {A : Type 0} (xs : List A) → length xs ≡ 0 → xs ≡ []
empty_is [] is = refl
empty_is (x ∷ xs) is = absurd (omega (arith, is))

-- the mark of an entry
abbrev pub mark_of : ℕ → Entry → Mark
mark_of at e = record { at = at; line = e.line; session = e.session }

-- a mark of the line and the session of an entry
pub is_mark_of : (at : ℕ) (e : Entry) (line : ℕ) (session : SessionNo) → line ≡ e.line → session ≡ e.session
    → record { at = at; line = line; session = session } ≡ mark_of at e
is_mark_of at e line session lines sessions =
    ap (λ (n : ℕ). record { at = at; line = n; session = session }) lines
    ∙ ap (λ (s : SessionNo). record { at = at; line = e.line; session = s }) sessions

-- one mark more
pub mark_more : (marks all : List Mark) (entries : List Entry) (i : ℕ) (e : Entry) → slice_get entries i ≡ Some e
    → marks ++ marks_from (i + 1) (drop i entries) ≡ all
    → (marks ++ mark_of (i + 1) e ∷ []) ++ marks_from (i + 1 + 1) (drop (i + 1) entries) ≡ all
mark_more marks all entries i e at is =
    append_assoc marks (mark_of (i + 1) e ∷ []) (marks_from (i + 1 + 1) (drop (i + 1) entries))
    ∙ ap (λ n. marks ++ mark_of (i + 1) e ∷ marks_from (i + 1 + 1) (drop n entries)) (add-one i)
    ∙ ap (λ l. marks ++ marks_from (i + 1) l) (sym (drop_at entries i e at))
    ∙ is

-- no mark yet
pub mark_first : (marks all : List Mark) → length marks ≡ 0 → marks ++ all ≡ all
mark_first marks all none = ap (λ l. l ++ all) (empty_is marks none)

-- all marks
pub marked : (marks all : List Mark) (entries : List Entry) (i : ℕ) → length entries ≤ i
    → marks ++ marks_from (i + 1) (drop i entries) ≡ all → marks ≡ all
marked marks all entries i past is =
    sym (append-nil marks) ∙ ap (λ l. marks ++ marks_from (i + 1) l) (sym (drop_of_length-le entries past)) ∙ is
