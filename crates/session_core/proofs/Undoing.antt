-- What takes lines back: of a history that grows, and beside the marks of what was accepted.
use Rattle.std.proofs.Common.{◌≡◌, ◌≢◌, ℕ, zero, suc, ◌+◌, ◌-◌, ◌<◌, ◌≤◌, Bool, true, false, cond, ◌&&◌, List, [], ◌∷◌, ◌++◌, length, take, drop, filter, get_or, slice_get, Option, Some, None, Result, nat_eq, refl, sym, ◌∙◌, ap, subst, arith, append_assoc, eq-eqb}
use Rattle.std.proofs.lemmas.Bool.{and_left, both_ways, ne_eqb}
use Rattle.std.proofs.lemmas.List.{append-nil, length_push, take-append-drop, take-append-le, drop-append-le}
use Rattle.std.proofs.lemmas.Option.{same_Some, slice_get_within}
use Rattle.std.proofs.Math.Seq.{take-append_seam, drop-append_seam, take-suc}
use Rattle.db_config.specs.declared.parts.ConfigParts.{ConfigParts}
use Rattle.edit_undo.specs.edit_rules.declared.acts.Act.{Act}
use Rattle.edit_undo.specs.edit_rules.declared.acts.Entry.{Entry}
use Rattle.edit_undo.specs.edit_rules.Effects.{database_after}
use Rattle.edit_undo.specs.declared.faults.NoUndo.{NoUndo}
use Rattle.edit_undo.specs.Inverse.{inverse_at}
use Rattle.session_core.specs.declared.kept_acts.KeptAct.{KeptAct}
use Rattle.session_core.specs.declared.line.Answer.{Answer}
use Rattle.session_core.specs.declared.line.Answer.TheVariants.{Done, Segments, Refused}
use Rattle.session_core.specs.declared.line.Line.{Line}
use Rattle.session_core.specs.declared.line.Request.{Request}
use Rattle.session_core.specs.declared.line.Request.TheVariants as requests
use Rattle.session_core.specs.Undos.{kept_of, kept_behind, is_kept_of, found_later, latest_of}
use Rattle.session_core.specs.Worlds.{Turn, Each}
use Rattle.session_core.specs.Legal.{Mark, accepted, accepting, is_of, makes_entry, numbered, of_session, told_mark, accepted_as, is_mark_of, IsInverseOf, TakesBack, ReplyUndoes, UndoFits, UndosFit}
use Rattle.session_core.specs.Inner.Undone.{IsKeptOf, AreKept}

-- Elements of a list that grows.

pub slice_get_more : {A : Type 0} (xs ys : List A) (n : ℕ) → n < length xs → slice_get (xs ++ ys) n ≡ slice_get xs n
slice_get_more [] ys n low = absurd (omega arith)
slice_get_more (x ∷ xs) ys zero low = refl
slice_get_more (x ∷ xs) ys (suc n) low = slice_get_more xs ys n (omega arith)

pub slice_get_last : {A : Type 0} (xs : List A) (x : A) → slice_get (xs ++ x ∷ []) (length xs) ≡ Some x
slice_get_last [] x = refl
slice_get_last (y ∷ xs) x = slice_get_last xs x

at_seam : {A : Type 0} (xs : List A) (y : A) (ys : List A) → slice_get (xs ++ y ∷ ys) (length xs) ≡ Some y
at_seam [] y ys = refl
at_seam (x ∷ xs) y ys = at_seam xs y ys

-- What is kept of a history that grows by an entry.

kept_more : (c : ConfigParts) (first es : List Entry) (e : Entry) → kept_behind c first (es ++ e ∷ []) ≡ kept_behind c first es ++ kept_of c (first ++ es) e ∷ []
kept_more c first [] e = ap (λ (xs : List Entry). kept_of c xs e ∷ []) (sym (append-nil first))
kept_more c first (x ∷ es) e =
    ap (λ (ks : List KeptAct). kept_of c first x ∷ ks)
    (kept_more c (first ++ x ∷ []) es e
    ∙ ap (λ (xs : List Entry). kept_behind c (first ++ x ∷ []) es ++ kept_of c xs e ∷ []) (append_assoc first (x ∷ []) es))

pub kept_push : (c : ConfigParts) (H : List Entry) (base : ℕ) (e : Entry) → base ≤ length H
    → kept_behind c (take base (H ++ e ∷ [])) (drop base (H ++ e ∷ [])) ≡ kept_behind c (take base H) (drop base H) ++ kept_of c H e ∷ []
kept_push c H base e low =
    ap (λ (xs : List Entry). kept_behind c xs (drop base (H ++ e ∷ []))) (take-append-le base H (e ∷ []) low)
    ∙ ap (λ (ys : List Entry). kept_behind c (take base H) ys) (drop-append-le base H (e ∷ []) low)
    ∙ kept_more c (take base H) (drop base H) e
    ∙ ap (λ (xs : List Entry). kept_behind c (take base H) (drop base H) ++ kept_of c xs e ∷ []) (take-append-drop base H)

-- with nothing come yet nothing is kept
pub kept_none : (c : ConfigParts) (H : List Entry) → kept_behind c (take (length H) H) (drop (length H) H) ≡ []
kept_none c H =
    ap (λ (ys : List Entry). kept_behind c (take (length H) H) ys)
    (ap (λ (xs : List Entry). drop (length H) xs) (sym (append-nil H)) ∙ drop-append_seam H [])

-- What takes an entry back.

module _ (c : ConfigParts) where
  pub inverse_more : (H new : List Entry) (n : ℕ) (inverse : Result Act NoUndo) → IsInverseOf c H n inverse → IsInverseOf c (H ++ new) n inverse
  inverse_more H new n inverse is =
      let low : is.before < length H = slice_get_within H is.before is.entry is.there in
      record {
        before = is.before;
        number = is.number;
        entry = is.entry;
        there = slice_get_more H new is.before low ∙ is.there;
        is = is.is ∙ ap (λ (xs : List Entry). inverse_at (database_after c xs) is.entry.act) (sym (take-append-le is.before H new (omega arith)));
      }

  pub takes_more : (H new : List Entry) (n : Option ℕ) (inverse : Option (Result Act NoUndo)) → TakesBack c H n inverse → TakesBack c (H ++ new) n inverse
  takes_more H new None None takes = tt
  takes_more H new None (Some inverse) takes = absurd takes
  takes_more H new (Some n) None takes = absurd takes
  takes_more H new (Some n) (Some inverse) takes = inverse_more H new n inverse takes

  one_inverse : (H : List Entry) (n : ℕ) (a b : Result Act NoUndo) → IsInverseOf c H n a → IsInverseOf c H n b → a ≡ b
  one_inverse H n a b of_a of_b =
      let a_is : n ≡ of_a.before + 1 = of_a.number in
      let b_is : n ≡ of_b.before + 1 = of_b.number in
      let place : of_a.before ≡ of_b.before = omega arith in
      let entry : of_a.entry ≡ of_b.entry = same_Some of_a.entry of_b.entry (sym of_a.there ∙ ap (λ (k : ℕ). slice_get H k) place ∙ of_b.there) in
      of_a.is
      ∙ ap (λ (k : ℕ). inverse_at (database_after c (take k H)) of_a.entry.act) place
      ∙ ap (λ (e : Entry). inverse_at (database_after c (take of_b.before H)) e.act) entry
      ∙ sym of_b.is

  -- what takes a line back is one thing
  pub takes_one : (H : List Entry) (n : Option ℕ) (a b : Option (Result Act NoUndo)) → TakesBack c H n a → TakesBack c H n b → a ≡ b
  takes_one H None None None of_a of_b = refl
  takes_one H None None (Some b) of_a of_b = absurd of_b
  takes_one H None (Some a) b of_a of_b = absurd of_a
  takes_one H (Some n) None b of_a of_b = absurd of_a
  takes_one H (Some n) (Some a) None of_a of_b = absurd of_b
  takes_one H (Some n) (Some a) (Some b) of_a of_b = ap (λ (x : Result Act NoUndo). Some x) (one_inverse H n a b of_a of_b)

  -- What is kept beside marks takes the marks' lines back.

  later_takes : (H : List Entry) (k k' : Option ℕ) (i i' : Option (Result Act NoUndo)) → TakesBack c H k i → TakesBack c H k' i' → TakesBack c H (found_later k k') (found_later i i')
  later_takes H None k' None i' rest here = here
  later_takes H None k' (Some i) i' rest here = absurd rest
  later_takes H (Some k) k' None i' rest here = absurd rest
  later_takes H (Some k) k' (Some i) i' rest here = rest

  cond_takes : (H : List Entry) (b : Bool) (n : ℕ) (inverse : Result Act NoUndo) → IsInverseOf c H n inverse → TakesBack c H (cond b (Some n) None) (cond b (Some inverse) None)
  cond_takes H true n inverse is = is
  cond_takes H false n inverse is = tt

  own_takes : (H : List Entry) (s line : ℕ) (mark : Mark) (kept : KeptAct) → IsKeptOf c H mark kept
      → TakesBack c H (cond (is_mark_of s line mark) (Some mark.n) None) (cond (is_kept_of s line kept) (Some kept.inverse) None)
  own_takes H s line mark kept is =
      let same : is_kept_of s line kept ≡ is_mark_of s line mark =
      ap (λ (k : ℕ). nat_eq k s && nat_eq kept.line line) (ap (λ session. session.0) is.session) ∙ ap (λ (k : ℕ). nat_eq mark.session.0 s && nat_eq k line) is.line in
      subst (λ (b : Bool). TakesBack c H (cond (is_mark_of s line mark) (Some mark.n) None) (cond b (Some kept.inverse) None)) (sym same)
      (cond_takes H (is_mark_of s line mark) mark.n kept.inverse is.takes)

  pub kept_takes_back : (H : List Entry) (marks : List Mark) (acts : List KeptAct) (s line : ℕ) → AreKept c H marks acts
      → TakesBack c H (accepted_as s line marks) (latest_of s line acts)
  kept_takes_back H [] [] s line are = tt
  kept_takes_back H [] (kept ∷ acts) s line are = absurd are
  kept_takes_back H (mark ∷ marks) [] s line are = absurd are
  kept_takes_back H (mark ∷ marks) (kept ∷ acts) s line are =
      later_takes H (accepted_as s line marks) (cond (is_mark_of s line mark) (Some mark.n) None) (latest_of s line acts) (cond (is_kept_of s line kept) (Some kept.inverse) None)
      (kept_takes_back H marks acts s line are.1) (own_takes H s line mark kept are.0)

  pub are_kept_more : (H new : List Entry) (marks : List Mark) (acts : List KeptAct) → AreKept c H marks acts → AreKept c (H ++ new) marks acts
  are_kept_more H new [] [] are = tt
  are_kept_more H new [] (kept ∷ acts) are = absurd are
  are_kept_more H new (mark ∷ marks) [] are = absurd are
  are_kept_more H new (mark ∷ marks) (kept ∷ acts) are = (
    record { session = are.0.session; line = are.0.line; takes = inverse_more H new mark.n kept.inverse are.0.takes },
    are_kept_more H new marks acts are.1,
  )

  pub are_kept_push : (H : List Entry) (marks : List Mark) (acts : List KeptAct) (mark : Mark) (kept : KeptAct) → AreKept c H marks acts → IsKeptOf c H mark kept
      → AreKept c H (marks ++ mark ∷ []) (acts ++ kept ∷ [])
  are_kept_push H [] [] mark kept are is = (is, tt)
  are_kept_push H [] (x ∷ acts) mark kept are is = absurd are
  are_kept_push H (m ∷ marks) [] mark kept are is = absurd are
  are_kept_push H (m ∷ marks) (x ∷ acts) mark kept are is = (are.0, are_kept_push H marks acts mark kept are.1 is)

  -- what is kept of entries, beside their own marks
  pub history_kept : (first es : List Entry) → AreKept c (first ++ es) (numbered (length first + 1) es) (kept_behind c first es)
  history_kept first [] = tt
  history_kept first (e ∷ es) = (
    record {
      session = refl;
      line = refl;
      takes = record {
        before = length first;
        number = refl;
        entry = e;
        there = at_seam first e es;
        is = ap (λ (xs : List Entry). inverse_at (database_after c xs) e.act) (sym (take-append_seam first (e ∷ es)));
      };
    },
    subst (λ (H : List Entry). AreKept c H (numbered (length first + 1 + 1) es) (kept_behind c (first ++ e ∷ []) es)) (append_assoc first (e ∷ []) es)
        (subst (λ (k : ℕ). AreKept c ((first ++ e ∷ []) ++ es) (numbered (k + 1) es) (kept_behind c (first ++ e ∷ []) es)) (length_push first e) (history_kept (first ++ e ∷ []) es)),
  )

  -- of a history that goes on from an opening's, what takes a line back beside the marks of what came
  pub history_takes : (opening more H : List Entry) (base s line : ℕ) → H ≡ opening ++ more → base ≡ length opening
      → TakesBack c H (accepted_as s line (numbered (length opening + 1) more)) (latest_of s line (kept_behind c (take base H) (drop base H)))
  history_takes opening more H base s line prefix begun =
      let kept_is : kept_behind c opening more ≡ kept_behind c (take base H) (drop base H) =
      sym (ap (λ (k : ℕ). kept_behind c (take k H) (drop k H)) begun
      ∙ ap (λ (xs : List Entry). kept_behind c (take (length opening) xs) (drop (length opening) xs)) prefix
      ∙ ap (λ (xs : List Entry). kept_behind c xs (drop (length opening) (opening ++ more))) (take-append_seam opening more)
      ∙ ap (λ (ys : List Entry). kept_behind c opening ys) (drop-append_seam opening more)) in
      subst (λ (acts : List KeptAct). TakesBack c H (accepted_as s line (numbered (length opening + 1) more)) (latest_of s line acts)) kept_is
      (subst (λ (xs : List Entry). TakesBack c xs (accepted_as s line (numbered (length opening + 1) more)) (latest_of s line (kept_behind c opening more))) (sym prefix)
      (kept_takes_back (opening ++ more) (numbered (length opening + 1) more) (kept_behind c opening more) s line (history_kept opening more)))

-- Which lines were accepted, of marks put together.

later_none : {A : Type 0} (found : Option A) → found ≡ found_later found None
later_none None = refl
later_none (Some x) = refl

later_assoc : {A : Type 0} (a b d : Option A) → found_later (found_later a b) d ≡ found_later a (found_later b d)
later_assoc None b d = refl
later_assoc (Some x) b d = refl

as_append : (s line : ℕ) (xs ys : List Mark) → accepted_as s line (xs ++ ys) ≡ found_later (accepted_as s line ys) (accepted_as s line xs)
as_append s line [] ys = later_none (accepted_as s line ys)
as_append s line (x ∷ xs) ys =
    let here : Option ℕ = cond (is_mark_of s line x) (Some x.n) None in
    ap (λ (found : Option ℕ). found_later found here) (as_append s line xs ys) ∙ later_assoc (accepted_as s line ys) (accepted_as s line xs) here

-- a line of another session tells nothing of this one
other_none : (s line : ℕ) (l : Line) (b : Bool) (n : Option ℕ) (answer : Answer) → l.session.0 ≢ s → accepted_as s line (told_mark l b n answer) ≡ None
other_none s line l true (Some n) (Done command) ne =
    ap (λ (b : Bool). found_later None (cond b (Some n) None)) (and_left (nat_eq l.session.0 s) (nat_eq l.line line) (ne_eqb l.session.0 s ne))
other_none s line l true (Some n) (Segments rows) ne = refl
other_none s line l true (Some n) (Refused refusal) ne = refl
other_none s line l true None answer ne = refl
other_none s line l false n answer ne = refl

-- marks of another session's line leave what was accepted in this one
pub as_other : (s line : ℕ) (marks : List Mark) (l : Line) (r : Request) (n : Option ℕ) (answer : Answer) → l.session.0 ≢ s
    → accepted_as s line (marks ++ accepting l r n answer) ≡ accepted_as s line marks
as_other s line marks l r n answer ne =
    as_append s line marks (accepting l r n answer)
    ∙ ap (λ (found : Option ℕ). found_later found (accepted_as s line marks)) (other_none s line l (makes_entry r) n answer ne)

own_step : (s line : ℕ) (t : Turn) (rest : List Mark) (us : List Turn) (b : Bool) → is_of s t ≡ b → accepted_as s line rest ≡ accepted_as s line (accepted us)
    → accepted_as s line (accepting t.line t.line.request t.reply.n t.reply.answer ++ rest) ≡ accepted_as s line (accepted (cond b (t ∷ us) us))
own_step s line t rest us true is same =
    let told : List Mark = accepting t.line t.line.request t.reply.n t.reply.answer in
    as_append s line told rest ∙ ap (λ (found : Option ℕ). found_later found (accepted_as s line told)) same ∙ sym (as_append s line told (accepted us))
own_step s line t rest us false is same =
    let told : List Mark = accepting t.line t.line.request t.reply.n t.reply.answer in
    let ne : t.line.session.0 ≢ s = λ e. both_ways (is_of s t) is (eq-eqb t.line.session.0 s e) in
    as_append s line told rest
    ∙ ap (λ (found : Option ℕ). found_later (accepted_as s line rest) found) (other_none s line t.line (makes_entry t.line.request) t.reply.n t.reply.answer ne)
    ∙ sym (later_none (accepted_as s line rest))
    ∙ same

-- what a session accepted, as its own replies tell it and as all do
pub as_own : (s line : ℕ) (ts : List Turn) → accepted_as s line (accepted ts) ≡ accepted_as s line (accepted (of_session s ts))
as_own s line [] = refl
as_own s line (t ∷ ts) = own_step s line t (accepted ts) (of_session s ts) (is_of s t) refl (as_own s line ts)

-- Replies that take back.

-- what a reply takes back depends on what its session accepted alone
pub undoes_same : (c : ConfigParts) (H : List Entry) (store : Bool) (marks marks' : List Mark) (l : Line) (r : Request) (n : Option ℕ) (answer : Answer)
    → ((line : ℕ) → accepted_as l.session.0 line marks ≡ accepted_as l.session.0 line marks')
    → ReplyUndoes c H store marks l r n answer → ReplyUndoes c H store marks' l r n answer
undoes_same c H store marks marks' l (requests.Undo earlier) n answer same undoes =
    subst (λ (k : Option ℕ). UndoFits c H store l k n answer) (same earlier) undoes
undoes_same c H store marks marks' l (requests.Edit given) n answer same undoes = tt
undoes_same c H store marks marks' l (requests.Query ask) n answer same undoes = tt
undoes_same c H store marks marks' l (requests.Look ask) n answer same undoes = tt
undoes_same c H store marks marks' l requests.Finish n answer same undoes = tt
undoes_same c H store marks marks' l (requests.After earlier) n answer same undoes = tt

-- one reply more
pub undos_push : (c : ConfigParts) (H : List Entry) (store : Bool) (marks : List Mark) (ts : List Turn) (t : Turn) → UndosFit c H store marks ts
    → ReplyUndoes c H store (marks ++ accepted ts) t.line t.line.request t.reply.n t.reply.answer → UndosFit c H store marks (ts ++ t ∷ [])
undos_push c H store marks [] t fit undoes =
    (subst (λ (ms : List Mark). ReplyUndoes c H store ms t.line t.line.request t.reply.n t.reply.answer) (append-nil marks) undoes, tt)
undos_push c H store marks (u ∷ ts) t fit undoes =
    let told : List Mark = accepting u.line u.line.request u.reply.n u.reply.answer in (
      fit.0,
      undos_push c H store (marks ++ told) ts t fit.1
          (subst (λ (ms : List Mark). ReplyUndoes c H store ms t.line t.line.request t.reply.n t.reply.answer) (sym (append_assoc marks told (accepted ts))) undoes),
    )

-- of one session's replies, what matters of the marks is what they tell of the session
pub undos_same : (c : ConfigParts) (H : List Entry) (store : Bool) (s : ℕ) (marks marks' : List Mark) (ts : List Turn) → Each (λ (t : Turn). t.line.session.0 ≡ s) ts
    → ((line : ℕ) → accepted_as s line marks ≡ accepted_as s line marks') → UndosFit c H store marks ts → UndosFit c H store marks' ts
undos_same c H store s marks marks' [] own same fit = tt
undos_same c H store s marks marks' (t ∷ ts) own same fit =
    let told : List Mark = accepting t.line t.line.request t.reply.n t.reply.answer in (
      undoes_same c H store marks marks' t.line t.line.request t.reply.n t.reply.answer
          (λ line. subst (λ (k : ℕ). accepted_as k line marks ≡ accepted_as k line marks') (sym own.0) (same line)) fit.0,
      undos_same c H store s (marks ++ told) (marks' ++ told) ts own.1
          (λ line.
          as_append s line marks told
          ∙ ap (λ (found : Option ℕ). found_later (accepted_as s line told) found) (same line)
          ∙ sym (as_append s line marks' told))
          fit.1,
    )

-- Going through what is kept, from its end.

latest_push : (s line : ℕ) (acts : List KeptAct) (kept : KeptAct)
    → latest_of s line (acts ++ kept ∷ []) ≡ found_later (cond (is_kept_of s line kept) (Some kept.inverse) None) (latest_of s line acts)
latest_push s line [] kept = later_none (cond (is_kept_of s line kept) (Some kept.inverse) None)
latest_push s line (x ∷ acts) kept =
    let here : Option (Result Act NoUndo) = cond (is_kept_of s line x) (Some x.inverse) None in
    ap (λ (found : Option (Result Act NoUndo)). found_later found here) (latest_push s line acts kept)
    ∙ later_assoc (cond (is_kept_of s line kept) (Some kept.inverse) None) (latest_of s line acts) here

look_back : (s line : ℕ) (acts : List KeptAct) (place : ℕ) (kept : KeptAct) → place < length acts → kept ≡ get_or acts place kept
    → latest_of s line (take (suc place) acts) ≡ found_later (cond (is_kept_of s line kept) (Some kept.inverse) None) (latest_of s line (take place acts))
look_back s line acts place kept low is =
    ap (λ (ks : List KeptAct). latest_of s line ks) (take-suc acts place kept low ∙ ap (λ (x : KeptAct). take place acts ++ x ∷ []) (sym is))
    ∙ latest_push s line (take place acts) kept

found_back : (s line : ℕ) (acts : List KeptAct) (place : ℕ) (kept : KeptAct) → place < length acts → kept ≡ get_or acts place kept → is_kept_of s line kept ≡ true
    → latest_of s line (take (suc place) acts) ≡ Some kept.inverse
found_back s line acts place kept low is own =
    look_back s line acts place kept low is
    ∙ ap (λ (b : Bool). found_later (cond b (Some kept.inverse) None) (latest_of s line (take place acts))) own

passed_back : (s line : ℕ) (acts : List KeptAct) (place : ℕ) (kept : KeptAct) → place < length acts → kept ≡ get_or acts place kept → is_kept_of s line kept ≡ false
    → latest_of s line (take (suc place) acts) ≡ latest_of s line (take place acts)
passed_back s line acts place kept low is other =
    look_back s line acts place kept low is
    ∙ ap (λ (b : Bool). found_later (cond b (Some kept.inverse) None) (latest_of s line (take place acts))) other

-- the same where the place was counted down
pub found_at : (s line : ℕ) (acts : List KeptAct) (place : ℕ) (kept : KeptAct) → 0 < place → place ≤ length acts → kept ≡ get_or acts (place - 1) kept
    → is_kept_of s line kept ≡ true → latest_of s line (take place acts) ≡ Some kept.inverse
found_at s line acts place kept some within is own =
    let next : suc (place - 1) ≡ place = omega arith in
    subst (λ (k : ℕ). latest_of s line (take k acts) ≡ Some kept.inverse) next (found_back s line acts (place - 1) kept (omega arith) is own)

pub passed_at : (s line : ℕ) (acts : List KeptAct) (place : ℕ) (kept : KeptAct) → 0 < place → place ≤ length acts → kept ≡ get_or acts (place - 1) kept
    → is_kept_of s line kept ≡ false → latest_of s line (take (place - 1) acts) ≡ latest_of s line (take place acts)
passed_at s line acts place kept some within is other =
    let next : suc (place - 1) ≡ place = omega arith in
    subst (λ (k : ℕ). latest_of s line (take (place - 1) acts) ≡ latest_of s line (take k acts)) next
    (sym (passed_back s line acts (place - 1) kept (omega arith) is other))
