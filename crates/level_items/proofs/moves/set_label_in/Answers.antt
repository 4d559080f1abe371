use Rattle.level_items.specs.Levels.{relabelled}
use Rattle.level_items.proofs.Rules.{set_is_change, relabelled_is}
use Rattle.level_items.proofs.moves.set_label_in.Goals as goal

pub returns : goal.returns
returns c =
    record {
      labelled = set_is_change (relabelled c.args.attribute c.args.label) c.args.items.now c.args.position c.index-items-position.result _ c.requires.position
          (relabelled_is c.args.attribute c.args.label _ c.in_ok-item.field-0 c.in_ok-item.ensures);
      kept = tt;
    }
