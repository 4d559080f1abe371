use Rattle.std.proofs.Common.{◌≡◌, true, length, ap, ◌∙◌, sym}
use Rattle.std.specs.List.{list_all}
use Rattle.db_config.specs.Valid.{are_apart, is_in_range}
use Rattle.config_json.proofs.Sound.{kept_rules}
use Rattle.config_json.proofs.read.apart_links.Goals as goal

pub returns-clause-kept : goal.returns-clause-kept
returns-clause-kept c =
    let links = c.in_ok-links.links in
    let apart : are_apart links ≡ true = ap are_apart (sym c.as_slice-3.ensures) ∙ (sym c.are_apart.ensures ∙ c.if-not-are_apart.false) in
    let range : list_all (is_in_range (length c.args.parts.now.levels)) links ≡ true =
    ap (λ levels. list_all (is_in_range (length levels)) links) (sym c.as_slice.ensures) ∙ c.in_ok-links.ensures.range in
    let count : length links ≡ length c.args.parts.now.links = c.in_ok-links.ensures.count ∙ ap length c.as_slice-2.ensures in
    kept_rules c.args.parts.now links c.requires.bounded c.requires.distinct range count apart
