-- A table that tells what was noted for lines.
use Rattle.std.proofs.Common.{◌≡◌, ◌≢◌, ⊎_elim, ℕ, zero, suc, ◌+◌, ◌<◌, ◌≤◌, List, [], ◌∷◌, ◌++◌, length, map, get_or, set, replicate, take, Option, Some, None, refl, sym, ◌∙◌, ap, subst, arith}
use Rattle.std.specs.Option.{option_map}
use Rattle.std.proofs.lemmas.Bool.{cases_eq}
use Rattle.std.proofs.lemmas.List.{map-append}
use Rattle.query_workers.specs.session_core.declared.line.Line.{Line}
use Rattle.query_workers.specs.session_core.declared.line.Request.{Request}
use Rattle.query_workers.specs.session_core.declared.line.Request.TheVariants as requests
use Rattle.query_workers.specs.session_core.Steps.{put_slot, slot}
use Rattle.query_workers.specs.session_core.Worlds.{Each, Turn}
use Rattle.query_workers.specs.session_core.Legal.{lines_in}
use Rattle.query_workers.proofs.of_session_core.Places.{put_length, slot_other, slot_put}
use Rattle.query_workers.proofs.of_session_core.SlotPlaces.{put_slot_set, slot_get_or, slot_map}
use Rattle.query_workers.proofs.of_session_core.Turns.{each_map, each_of_map}
use Rattle.live_laws.proofs.Eaches.{each_flat, each_left, each_right}
use Rattle.live_laws.specs.Lanes.{Agrees, Step, all_steps, all_turns, turns_of}
use Rattle.live_seats.specs.Inner.Notes.{IsTold, Note, note, noted_in, noted_of, number_or_none}
use Rattle.live_seats.specs.Inner.Seats.{IsAsked, NamesCell}
use Rattle.live_seats.specs.Inner.Tables.{AreInPlace, KeepsTelling, TellsStep}

-- Notes at the places of their lines.

in_place_cons : (k : ℕ) (x : Option Note) (xs : List (Option Note)) → AreInPlace k (x ∷ xs) → AreInPlace (suc k) xs
in_place_cons k None xs are = are
in_place_cons k (Some n) xs are = are.1

in_place_head : (k : ℕ) (x : Option Note) (xs : List (Option Note)) (n : Note) → AreInPlace k (x ∷ xs) → x ≡ Some n → n.line ≡ k
in_place_head k None xs n are is = absurd cc
in_place_head k (Some m) xs n are is = let same : m ≡ n = cc in ap (λ (j : Note). j.line) (sym same) ∙ are.0

in_place_at : (k : ℕ) (xs : List (Option Note)) (i : ℕ) (n : Note) → AreInPlace k xs → slot xs i ≡ Some n → n.line ≡ k + i
in_place_at k [] i n are is = absurd cc
in_place_at k (x ∷ xs) zero n are is = in_place_head k x xs n are is ∙ omega arith
in_place_at k (x ∷ xs) (suc i) n are is = in_place_at (suc k) xs i n (in_place_cons k x xs are) is ∙ omega arith

in_place_again : (k : ℕ) (x : Option Note) (xs ys : List (Option Note)) → AreInPlace k (x ∷ xs) → AreInPlace (suc k) ys → AreInPlace k (x ∷ ys)
in_place_again k None xs ys are more = more
in_place_again k (Some n) xs ys are more = (are.0, more)

in_place_put : (k : ℕ) (xs : List (Option Note)) (i : ℕ) (n : Note) → AreInPlace k xs → n.line ≡ k + i → AreInPlace k (put_slot xs i (Some n))
in_place_put k [] i n are is = tt
in_place_put k (x ∷ xs) zero n are is = (is ∙ omega arith, in_place_cons k x xs are)
in_place_put k (x ∷ xs) (suc i) n are is =
    in_place_again k x xs (put_slot xs i (Some n)) are (in_place_put (suc k) xs i n (in_place_cons k x xs are) (is ∙ omega arith))

pub in_place_none : (k cells : ℕ) → AreInPlace k (replicate cells None)
in_place_none k zero = tt
in_place_none k (suc cells) = in_place_none (suc k) cells

-- The table as contracts see it.

length_mapped : (xs : List (Option Note)) → length (map (option_map noted_of) xs) ≡ length xs
length_mapped [] = refl
length_mapped (x ∷ xs) = ap (λ (n : ℕ). suc n) (length_mapped xs)

put_mapped : (xs : List (Option Note)) (i : ℕ) (n : Note) → map (option_map noted_of) (put_slot xs i (Some n)) ≡ put_slot (map (option_map noted_of) xs) i (Some n.noted)
put_mapped [] i n = refl
put_mapped (x ∷ xs) zero n = refl
put_mapped (x ∷ xs) (suc i) n = ap (λ l. option_map noted_of x ∷ l) (put_mapped xs i n)

module _ (items : List (Option Note)) (now : List (Option ℕ)) (view : map (option_map noted_of) items ≡ now) where
  pub table_below : (place : ℕ) → place < length now → place < length items
  table_below place below =
      let long : length now ≡ length items = ap (λ (l : List (Option ℕ)). length l) (sym view) ∙ length_mapped items in
      omega (arith, below)

  module _ (place : ℕ) (v : Option Note) (below : place < length now) (there : v ≡ get_or items place v) where
    stands : slot items place ≡ v
    stands = slot_get_or items place v (table_below place below) ∙ sym there

    pub table_slot : slot now place ≡ option_map noted_of v
    table_slot = ap (λ (l : List (Option ℕ)). slot l place) (sym view) ∙ slot_map noted_of items place ∙ ap (λ (o : Option Note). option_map noted_of o) stands

    pub table_line : (n : Note) → AreInPlace 0 items → v ≡ Some n → n.line ≡ place
    table_line n are is = in_place_at 0 items place n are (stands ∙ is) ∙ omega arith

  pub table_put : (place : ℕ) (n : Note) → map (option_map noted_of) (set items place (Some n)) ≡ put_slot now place (Some n.noted)
  table_put place n =
      ap (λ (l : List (Option Note)). map (option_map noted_of) l) (sym (put_slot_set items place (Some n)))
      ∙ put_mapped items place n
      ∙ ap (λ (l : List (Option ℕ)). put_slot l place (Some n.noted)) view

pub table_still : (items : List (Option Note)) (place : ℕ) (n : Note) → AreInPlace 0 items → n.line ≡ place → AreInPlace 0 (set items place (Some n))
table_still items place n are is =
    subst (λ (l : List (Option Note)). AreInPlace 0 l) (put_slot_set items place (Some n)) (in_place_put 0 items place n are (is ∙ omega arith))

-- One number more.

pub told_put : (table : List (Option ℕ)) (n : Note) → n.line < length table → IsTold (put_slot table n.line (Some n.noted)) n
told_put table n below = slot_put table n.line (Some n.noted) below

keeps_one : (table : List (Option ℕ)) (n m : Note) → slot table n.line ≡ None → IsTold table m → IsTold (put_slot table n.line (Some n.noted)) m
keeps_one table n m none told =
    ⊎_elim
    (λ (same : n.line ≡ m.line). let there : slot table n.line ≡ Some m.noted = ap (λ (k : ℕ). slot table k) same ∙ told in absurd (let apart : None ≡ Some m.noted = sym none ∙ there in cc))
    (λ (ne : n.line ≢ m.line). slot_other table n.line m.line (Some n.noted) ne ∙ told)
    (cases_eq n.line m.line)

pub keeps_put : (table : List (Option ℕ)) (n : Note) → slot table n.line ≡ None → KeepsTelling table (put_slot table n.line (Some n.noted))
keeps_put table n none = record { places = put_length table n.line (Some n.noted); still = λ m told. keeps_one table n m none told }

pub keeps_same : (table : List (Option ℕ)) → KeepsTelling table table
keeps_same table = record { places = refl; still = λ m told. told }

pub keeps_more : (a b c : List (Option ℕ)) → KeepsTelling a b → KeepsTelling b c → KeepsTelling a c
keeps_more a b c first then_more = record { places = then_more.places ∙ first.places; still = λ n told. then_more.still n (first.still n told) }

-- Steps.

pub tells_still : (a b : List (Option ℕ)) → KeepsTelling a b → (st : Step) → TellsStep a st → TellsStep b st
tells_still a b keeps st tells = record {
  noted = keeps.still (note st.turn.line.line st.noted) tells.noted;
  heard = λ earlier high is of. keeps.still (note earlier high) (tells.heard earlier high is of);
}

-- a line that an `after` names is one of the row
pub named_below : (cells : ℕ) (r : Request) (earlier : ℕ) → NamesCell cells r → r ≡ requests.After earlier → earlier < cells
named_below cells r earlier names is = subst (λ (q : Request). NamesCell cells q) is names

same_after : (a b : ℕ) → requests.After a ≡ requests.After b → a ≡ b
same_after a b same = cc

same_some : (a b : ℕ) → ◌≡◌ {A = Option ℕ} (Some a) (Some b) → a ≡ b
same_some a b same = cc

-- what was noted and what was heard
pub tells_both : (before table : List (Option ℕ)) (st : Step) (heard : Note) → KeepsTelling before table → IsTold before (note st.turn.line.line st.noted)
    → st.turn.line.request ≡ requests.After heard.line → st.heard ≡ Some heard.noted → IsTold table heard → TellsStep table st
tells_both before table st heard keeps noted is of told = record {
  noted = keeps.still (note st.turn.line.line st.noted) noted;
  heard = λ earlier high after was.
      let line : heard.line ≡ earlier = same_after heard.line earlier (sym is ∙ after) in
      let number : heard.noted ≡ high = same_some heard.noted high (sym of ∙ was) in
      subst (λ (k : ℕ). IsTold table (note k high)) line (subst (λ (k : ℕ). IsTold table (note heard.line k)) number told);
}

-- nothing was heard
pub tells_noted : (before table : List (Option ℕ)) (st : Step) → KeepsTelling before table → IsTold before (note st.turn.line.line st.noted) → st.heard ≡ None → TellsStep table st
tells_noted before table st keeps noted none = record {
  noted = keeps.still (note st.turn.line.line st.noted) noted;
  heard = λ earlier high after was. absurd (let apart : ◌≡◌ {A = Option ℕ} None (Some high) = sym none ∙ was in cc);
}

told_number : (table : List (Option ℕ)) (line high : ℕ) → IsTold table (note line high) → high ≡ noted_in table line
told_number table line high told = ap (λ (o : Option ℕ). number_or_none o) (sym told)

agrees_with : (table : List (Option ℕ)) (st : Step) → TellsStep table st → Agrees (noted_in table) st
agrees_with table st tells = record {
  noted = told_number table st.turn.line.line st.noted tells.noted;
  heard = λ earlier high is was. told_number table earlier high (tells.heard earlier high is was);
}

pub all_agree : (table : List (Option ℕ)) (steps : List Step) → Each (TellsStep table) steps → Each (Agrees (noted_in table)) steps
all_agree table steps tells = each_map (TellsStep table) (Agrees (noted_in table)) (agrees_with table) steps tells

-- Loops.

pub asked_steps : (cells : ℕ) (steps : List Step) → Each (IsAsked cells) (lines_in (turns_of steps)) → Each (λ (st : Step). IsAsked cells st.turn.line) steps
asked_steps cells steps each =
    each_of_map (λ (t : Turn). IsAsked cells t.line) (λ (st : Step). st.turn) steps
    (each_of_map (IsAsked cells) (λ (t : Turn). t.line) (turns_of steps) each)

pub each_at : {A : Type 0} (P : A → Type 0) (xs : List A) (i : ℕ) (x : A) → Each P xs → i < length xs → x ≡ get_or xs i x → P x
each_at P [] i x each low there = absurd (omega (arith, low))
each_at P (y ∷ xs) zero x each low there = subst P (sym there) each.0
each_at P (y ∷ xs) (suc i) x each low there = each_at P xs i x each.1 (omega (arith, low)) there

-- what holds of the first ones, and of the next one, holds of one more
pub each_more : {A : Type 0} (P : A → Type 0) (xs : List A) (i : ℕ) (x : A) → Each P (take i xs) → i < length xs → x ≡ get_or xs i x → P x → Each P (take (suc i) xs)
each_more P [] i x each low there here = tt
each_more P (y ∷ xs) zero x each low there here = (subst P there here, tt)
each_more P (y ∷ xs) (suc i) x each low there here = (each.0, each_more P xs i x each.1 (omega (arith, low)) there here)

-- A new table.

pub mapped_none : (cells : ℕ) → map (option_map noted_of) (replicate cells None) ≡ replicate cells None
mapped_none zero = refl
mapped_none (suc cells) = ap (λ (l : List (Option ℕ)). None ∷ l) (mapped_none cells)

-- Lanes.

turns_front : (steps : List Step) (lanes : List (List Step)) → lines_in (all_turns (steps ∷ lanes)) ≡ lines_in (turns_of steps) ++ lines_in (all_turns lanes)
turns_front steps lanes =
    ap (λ (ts : List Turn). lines_in ts) (map-append (λ (st : Step). st.turn) steps (all_steps lanes))
    ∙ map-append (λ (t : Turn). t.line) (turns_of steps) (all_turns lanes)

pub asked_lanes : (cells : ℕ) (lanes : List (List Step)) → Each (IsAsked cells) (lines_in (all_turns lanes)) → Each (λ (steps : List Step). Each (IsAsked cells) (lines_in (turns_of steps))) lanes
asked_lanes cells [] each = tt
asked_lanes cells (steps ∷ lanes) each =
    let both : Each (IsAsked cells) (lines_in (turns_of steps) ++ lines_in (all_turns lanes)) = subst (λ (ls : List Line). Each (IsAsked cells) ls) (turns_front steps lanes) each in (
      each_left (IsAsked cells) (lines_in (turns_of steps)) (lines_in (all_turns lanes)) both,
      asked_lanes cells lanes (each_right (IsAsked cells) (lines_in (turns_of steps)) (lines_in (all_turns lanes)) both),
    )

get_mapped : {A B : Type 0} (f : A → B) (xs : List A) (i : ℕ) (d : A) → f (get_or xs i d) ≡ get_or (map f xs) i (f d)
get_mapped f [] i d = refl
get_mapped f (x ∷ xs) zero d = refl
get_mapped f (x ∷ xs) (suc i) d = get_mapped f xs i d

pub mapped_at : {A B : Type 0} (f : A → B) (xs : List A) (i : ℕ) (x : A) → x ≡ get_or xs i x → f x ≡ get_or (map f xs) i (f x)
mapped_at f xs i x there = ap f there ∙ get_mapped f xs i x

pub mapped_below : {A B : Type 0} (f : A → B) (xs : List A) (i : ℕ) → i < length xs → i < length (map f xs)
mapped_below f [] i low = absurd (omega (arith, low))
mapped_below f (x ∷ xs) zero low = omega arith
mapped_below f (x ∷ xs) (suc i) low = let rest : i < length (map f xs) = mapped_below f xs i (omega (arith, low)) in omega arith

pub lanes_still : (a b : List (Option ℕ)) → KeepsTelling a b → (lanes : List (List Step)) → Each (λ (steps : List Step). Each (TellsStep a) steps) lanes
    → Each (λ (steps : List Step). Each (TellsStep b) steps) lanes
lanes_still a b keeps lanes told =
    each_map (λ (steps : List Step). Each (TellsStep a) steps) (λ (steps : List Step). Each (TellsStep b) steps)
    (λ steps each. each_map (TellsStep a) (TellsStep b) (tells_still a b keeps) steps each) lanes told

pub lanes_agree : (table : List (Option ℕ)) (lanes : List (List Step)) → Each (λ (steps : List Step). Each (TellsStep table) steps) lanes
    → Each (Agrees (noted_in table)) (all_steps lanes)
lanes_agree table lanes told = all_agree table (all_steps lanes) (each_flat (TellsStep table) lanes told)

pub take_whole : {A : Type 0} (P : A → Type 0) (xs : List A) (i : ℕ) → length xs ≤ i → Each P (take i xs) → Each P xs
take_whole P [] i past each = tt
take_whole P (x ∷ xs) zero past each = absurd (omega (arith, past))
take_whole P (x ∷ xs) (suc i) past each = (each.0, take_whole P xs i (omega (arith, past)) each.1)

pub mapped_past : {A B : Type 0} (f : A → B) (xs : List A) (i : ℕ) → length xs ≤ i → length (map f xs) ≤ i
mapped_past f [] i past = omega arith
mapped_past f (x ∷ xs) zero past = absurd (omega (arith, past))
mapped_past f (x ∷ xs) (suc i) past = let rest : length (map f xs) ≤ i = mapped_past f xs i (omega (arith, past)) in omega arith
