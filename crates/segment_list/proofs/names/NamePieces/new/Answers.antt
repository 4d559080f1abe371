use Rattle.std.proofs.Common.{rules, ◌≡◌, ◌++◌, ℕ, List, [], ap, sym, ◌∙◌, codes}
use Rattle.json.specs.Print.{escape}
use Rattle.emu_names.specs.contracts.texts.Text.{the_view}
use Rattle.segment_list.specs.Inner.Pieces.{front_of_head, level_text, names, session_text}
use Rattle.segment_list.proofs.names.NamePieces.new.Goals as goal

pub invariant_of-result : goal.invariant_of-result
invariant_of-result c =
    let bundle : c.as_str-2.result.now ≡ the_view c.bundle.inside = search rules in
    let attribute = sym c.in_ok-new-3.ensures in
    let front = c.in_ok-front.ensures ∙ ap (λ (x : List ℕ). front_of_head x) attribute in
    record {
      front_is = front;
      head_is = c.in_ok-head.ensures
          ∙ ap (λ (x : List ℕ). x ++ (escape c.as_str-2.result.now ++ codes "\",\"end\":")) (c.as_str.ensures.value ∙ front)
          ∙ ap (λ (x : List ℕ). front_of_head c.in_ok-new-3.field-0 ++ (escape x ++ codes "\",\"end\":")) bundle;
      level_is = c.in_ok-before_end.ensures
          ∙ ap (λ (x : List ℕ). level_text (names [] [] x [])) (sym c.in_ok-new-2.ensures);
      session_is = c.in_ok-before_start.ensures
          ∙ ap (λ (x : List ℕ). session_text (names x [] [] [])) (sym c.in_ok-new.ensures);
    }
