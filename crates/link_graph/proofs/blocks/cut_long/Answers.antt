use Rattle.std.proofs.Common.{◌≡◌, ◌+◌, [], drop, get_or, insert, is_ok, ap, sym, ◌∙◌}
use Rattle.std.proofs.lemmas.Bool.{cond-true}
use Rattle.link_graph.proofs.Placed.{cut_written, get_any}
use Rattle.link_graph.proofs.blocks.cut_long.Goals as goal

pub returns-then-is_ok : goal.returns-then-is_ok
returns-then-is_ok c =
    let items = c.args.blocks.now.items in
    let at = c.args.at in
    let more = c.insert.new.self in
    let put : more.items ≡ insert items (at + 1) c.in-Ok.behind =
    c.insert.ensures.items ∙ cond-true (is_ok c.insert.result) (insert items (at + 1) c.in-Ok.behind) items (sym c.is_ok.ensures.value ∙ c.if-is_ok.true) in
    let behind : c.in-Ok.behind ≡ drop 256 (get_or items at []) =
    c.in-Ok.ensures ∙ ap (λ block. drop 256 block) (c.index-2.ensures ∙ get_any items at c.index-2.result.now [] c.requires) in
    cut_written items more.items c.deref_mut.result.now c.truncate_at.new.blocks more.len at 256 c.in-Ok.behind put behind c.requires
    more.ok.0 c.deref_mut.ensures.value c.truncate_at.ensures
