-- The lines of the script of work: its edits are the additions of its bundles, and a line's number says what it asks.
use Rattle.std.proofs.Common.{◌≡◌, ◌⊎◌, inl, inr, ℕ, suc, ◌+◌, ◌<◌, List, [], ◌∷◌, ◌++◌, length, Ok, sym, ◌∙◌, ap, subst}
use Rattle.edit_rules.specs.declared.acts.Act.{Act}
use Rattle.live_run.specs.session_core.declared.line.Line.{Line}
use Rattle.live_run.specs.session_core.declared.line.Request.{Request}
use Rattle.live_run.specs.session_core.declared.line.Request.TheVariants as requests
use Rattle.work_script.specs.Script.{each, work_queries}
use Rattle.work_script.specs.Inner.Script.{adding, last_of, others, wait_of, waits, work_act}
use Rattle.work_script.specs.Inner.Lines.{AreAsking, IsAsking, IsScript}
use Rattle.work_script.specs.Inner.Replies.{Has}
use Rattle.work_script.proofs.Lists.{IsEach, each_has, has_each, has_either, has_left}

-- a line that asks one of some texts
record AsksOne (texts : List (List ℕ)) (l : Line) : Type 0 where
  line : ℕ
  text : List ℕ
  asks : IsAsking line text l

ask_of : (line : ℕ) (texts : List (List ℕ)) (ls : List Line) (l : Line) → AreAsking line texts ls → Has ls l → AsksOne texts l
ask_of line [] [] l asking has = absurd has
ask_of line [] (k ∷ ks) l asking has = absurd asking
ask_of line (text ∷ texts) [] l asking has = absurd has
ask_of line (text ∷ texts) (k ∷ ks) l asking (inl same) = record { line = line; text = text; asks = subst (IsAsking line text) same asking.0 }
ask_of line (text ∷ texts) (k ∷ ks) l asking (inr more) =
    let rest = ask_of (suc line) texts ks l asking.1 more in
    record { line = rest.line; text = rest.text; asks = rest.asks }

act_of : (one two : Act) → ◌≡◌ {A = Request} (requests.Edit (Ok one)) (requests.Edit (Ok two)) → one ≡ two
act_of one two same = cc

no_wait : (earlier : ℕ) (act : Act) → requests.After earlier ≡ requests.Edit (Ok act) → ⊥
no_wait earlier act same = cc

edit_is_none : (act : Act) (earlier : ℕ) → ◌≡◌ {A = Request} (requests.Edit (Ok act)) (requests.Undo earlier) → ⊥
edit_is_none act earlier same = cc

wait_is_none : (awaited earlier : ℕ) → requests.After awaited ≡ requests.Undo earlier → ⊥
wait_is_none awaited earlier same = cc

module _ (number count : ℕ) (lines : List Line) (script : IsScript number count lines) where
  abbrev pub added : List Line
  added = each (adding number) count

  pub adding_there : (k : ℕ) → k < count → Has lines (adding number k)
  adding_there k low =
      subst (λ (ls : List Line). Has ls (adding number k)) (sym script.whole)
      (has_left (added ++ waits count) script.asks (adding number k)
      (has_left added (waits count) (adding number k) (each_has (adding number) count k low)))

  -- an edit of the script adds one of its bundles
  pub record IsAddition (act : Act) : Type 0 where
    pub bundle : ℕ
    pub low : bundle < count
    pub is : act ≡ work_act number bundle

  pub edit_is : (l : Line) (act : Act) → Has lines l → l.request ≡ requests.Edit (Ok act) → IsAddition act
  edit_is l act has is =
      by (has_either (added ++ waits count) script.asks l (subst (λ (ls : List Line). Has ls l) script.whole has))
    where
      front : Has added l ⊎ Has (waits count) l → IsAddition act
      front (inl add) =
          let from : IsEach (adding number) count l = has_each (adding number) count l add in
          record {
            bundle = from.at;
            low = from.low;
            is = act_of act (work_act number from.at) (sym is ∙ ap (λ (k : Line). k.request) (sym from.value));
          }
      front (inr wait) =
          let from : IsEach (wait_of count) (others count) l = has_each (wait_of count) (others count) l wait in
          absurd (no_wait (last_of count (from.at + 2) + 2) act (ap (λ (k : Line). k.request) from.value ∙ is))

      by : Has (added ++ waits count) l ⊎ Has script.asks l → IsAddition act
      by (inl has) = front (has_either added (waits count) l has)
      by (inr ask) =
          let from = ask_of (length (added ++ waits count) + 2) work_queries script.asks l script.asking ask in
          absurd (not_both from.asks.request is)
        where
          not_both : {q : _} → l.request ≡ requests.Query q → l.request ≡ requests.Edit (Ok act) → ⊥
          not_both first second = cc

  -- no line of the script takes another one back
  pub none_back : (l : Line) (earlier : ℕ) → Has lines l → l.request ≡ requests.Undo earlier → ⊥
  none_back l earlier has is =
      by (has_either (added ++ waits count) script.asks l (subst (λ (ls : List Line). Has ls l) script.whole has))
    where
      front : Has added l ⊎ Has (waits count) l → ⊥
      front (inl add) =
          let from : IsEach (adding number) count l = has_each (adding number) count l add in
          edit_is_none (work_act number from.at) earlier (ap (λ (k : Line). k.request) from.value ∙ is)
      front (inr wait) =
          let from : IsEach (wait_of count) (others count) l = has_each (wait_of count) (others count) l wait in
          wait_is_none (last_of count (from.at + 2) + 2) earlier (ap (λ (k : Line). k.request) from.value ∙ is)

      by : Has (added ++ waits count) l ⊎ Has script.asks l → ⊥
      by (inl has) = front (has_either added (waits count) l has)
      by (inr ask) =
          let from = ask_of (length (added ++ waits count) + 2) work_queries script.asks l script.asking ask in
          not_both from.asks.request is
        where
          not_both : {q : _} → l.request ≡ requests.Query q → l.request ≡ requests.Undo earlier → ⊥
          not_both first second = cc
