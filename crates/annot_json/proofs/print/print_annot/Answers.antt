use Rattle.std.proofs.lemmas.Result.{IfOk-weaker}
use Rattle.annot_json.proofs.Plain.{bundle_text, bundle_reads}
use Rattle.annot_json.proofs.Remade.{text_makes}
use Rattle.annot_json.proofs.print.print_annot.Goals as goal

pub returns-clause-text : goal.returns-clause-text
returns-clause-text c = IfOk-weaker _ _ _ (λ text is. bundle_text text _ c.args.config.now c.args.bundle.now c.in_ok-value.ensures.value is) c.text_of.ensures.text

pub returns-clause-reads : goal.returns-clause-reads
returns-clause-reads c = IfOk-weaker _ _ _ (λ text is. bundle_reads text _ c.args.config.now c.args.bundle.now c.in_ok-value.ensures.value is) c.text_of.ensures.reads

pub returns-clause-again : goal.returns-clause-again
returns-clause-again c =
    IfOk-weaker _ _ _
    (λ text is. text_makes text c.args.config.now c.args.bundle.now c.parts-parts.ensures.valid c.requires c.item_count-count.ensures.rules c.in_ok-value.ensures.ids
    (bundle_reads text _ c.args.config.now c.args.bundle.now c.in_ok-value.ensures.value is)) c.text_of.ensures.reads
