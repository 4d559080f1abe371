use Rattle.std.proofs.lemmas.Result.{IfOk-weaker}
use Rattle.config_json.proofs.Plain.{config_text, config_reads}
use Rattle.config_json.proofs.ReadBack.{text_rereads}
use Rattle.config_json.proofs.print.print_config.Goals as goal

pub returns-clause-text : goal.returns-clause-text
returns-clause-text c = IfOk-weaker _ _ _ (λ text is. config_text text _ c.args.config.now c.in_ok-value.ensures is) c.text_of.ensures.text

pub returns-clause-reads : goal.returns-clause-reads
returns-clause-reads c = IfOk-weaker _ _ _ (λ text is. config_reads text _ c.args.config.now c.in_ok-value.ensures is) c.text_of.ensures.reads

pub returns-clause-again : goal.returns-clause-again
returns-clause-again c =
    IfOk-weaker _ _ _
    (λ text is. text_rereads text c.args.config.now c.parts-parts.ensures.config (config_reads text _ c.args.config.now c.in_ok-value.ensures is)) c.text_of.ensures.reads
