use Rattle.std.proofs.Common.{◌≡◌, ◌∷◌, [], List, ◌∙◌, length, take, drop, sym, subst, arith, eqb-true}
use Rattle.bundle_index.specs.Index.{IndexParts}
use Rattle.version_tree.specs.Inner.Pages.{pages_of}
use Rattle.version_tree.proofs.Elements.{if_ok}
use Rattle.version_tree.proofs.Fullness.{pages_none, pages_one, pages_two}
use Rattle.version_tree.proofs.pages.cut.Goals as goal

pub returns-then-is_empty : goal.returns-then-is_empty
returns-then-is_empty c =
    c.new.ensures ∙ sym (pages_none c.args.bundles (eqb-true (length c.args.bundles) 0 (sym c.is_empty.ensures ∙ c.if-is_empty.true)))

pub returns : goal.returns
returns c =
    let many = c.if-len-le-PAGE.false in
    let size = c.len.ensures in
    if_ok
    (λ (made : List (List IndexParts)). made ≡ take 64 c.as_slice.result.now ∷ drop 64 c.as_slice.result.now ∷ [])
    (λ (made : List (List IndexParts)). made ≡ pages_of c.args.bundles)
    (λ made is. is
    ∙ subst (λ (bs : List IndexParts). take 64 bs ∷ drop 64 bs ∷ [] ≡ pages_of c.args.bundles) (sym c.as_slice.ensures)
    (sym (pages_two c.args.bundles (omega (arith, many, size)))))
    c.two_pages.result c.two_pages.ensures
