-- The text of a run, reply after reply.
use Rattle.std.proofs.Common.{◌≡◌, ℕ, ◌+◌, Bool, List, [], ◌∷◌, ◌++◌, length, Option, Some, refl, sym, ◌∙◌, ap, arith, append_assoc, append-nil, flat_map}
use Rattle.db_config.specs.declared.parts.ConfigParts.{ConfigParts}
use Rattle.live_run.specs.session_core.declared.line.Line.{Line}
use Rattle.live_run.specs.session_core.declared.line.Reply.{Reply}
use Rattle.live_run.specs.session_core.Steps.{State, start}
use Rattle.live_run.specs.session_core.InOrder.{Outage, in_turn, one_turn}
use Rattle.program_output.specs.reply_texts.Texts.{reply_text}
use Rattle.script_runs.specs.Scripts.{Parsed}
use Rattle.script_runs.specs.Bases.{Base, is_stored, opening_by, config_by}
use Rattle.script_runs.specs.Runs.{run_text, run_from, history_in, config_text}
use Rattle.script_runs.specs.Inner.Runs.{history_by, replies_by}

-- a run in order goes on by one line
pub turns_push : (store : Bool) (st : State) (lines : List Line) (outages : List Outage) (l : Line) (o : Outage) → length outages ≡ length lines →
    in_turn store st (lines ++ l ∷ []) (outages ++ o ∷ []) ≡ ((in_turn store st lines outages).0 ++ (one_turn store (in_turn store st lines outages).1 l o).0 ∷ [], (one_turn store (in_turn store st lines outages).1 l o).1)
turns_push store st [] [] l o h = refl
turns_push store st [] (p ∷ os) l o h = absurd (omega arith)
turns_push store st (k ∷ ls) [] l o h = absurd (omega arith)
turns_push store st (k ∷ ls) (p ∷ os) l o h =
    let rest : length os ≡ length ls = omega arith in
    ap (λ r. ((one_turn store st k p).0 ∷ r.0, r.1)) (turns_push store (one_turn store st k p).1 ls os l o rest)

texts_push : (replies : List Reply) (r : Reply) → flat_map reply_text (replies ++ r ∷ []) ≡ flat_map reply_text replies ++ reply_text r
texts_push [] r = append-nil (reply_text r)
texts_push (x ∷ xs) r = ap (λ t. reply_text x ++ t) (texts_push xs r) ∙ sym (append_assoc (reply_text x) (flat_map reply_text xs) (reply_text r))

-- the replies and the state of a run under a configuration
abbrev pub begun_in : Base → ConfigParts → List Line → List Outage → List Reply × State
begun_in base config requests outages = in_turn (is_stored base) (start config (opening_by base)) requests outages

-- the text of it, behind that of the script's configuration
abbrev pub begun_text : Base → Option ConfigParts → ConfigParts → List Line → List Outage → List ℕ
begun_text base given config requests outages = config_text given ++ flat_map reply_text (begun_in base config requests outages).0

pub text_begun : (base : Base) (p : Parsed) (config : ConfigParts) (outages : List Outage) → config_by base p.config ≡ Some config → run_text base p outages ≡ begun_text base p.config config p.requests outages
text_begun base p config outages h = ap (λ c. config_text p.config ++ flat_map reply_text (run_from (opening_by base) (is_stored base) c p.requests outages).0) h

pub replies_begun : (base : Base) (p : Parsed) (config : ConfigParts) (outages : List Outage) → config_by base p.config ≡ Some config → replies_by base p outages ≡ (begun_in base config p.requests outages).0
replies_begun base p config outages h = ap (λ c. (run_from (opening_by base) (is_stored base) c p.requests outages).0) h

pub history_begun : (base : Base) (p : Parsed) (config : ConfigParts) (outages : List Outage) → config_by base p.config ≡ Some config → history_by base p outages ≡ (begun_in base config p.requests outages).1.entries
history_begun base p config outages h = ap (λ c. history_in (opening_by base) (run_from (opening_by base) (is_stored base) c p.requests outages).1) h

pub begun_push : (base : Base) (given : Option ConfigParts) (config : ConfigParts) (requests : List Line) (outages : List Outage) (l : Line) (o : Outage) (reply : Reply) (st : State) → length outages ≡ length requests →
    one_turn (is_stored base) (begun_in base config requests outages).1 l o ≡ (reply, st) →
    begun_text base given config (requests ++ l ∷ []) (outages ++ o ∷ []) ≡ begun_text base given config requests outages ++ reply_text reply
begun_push base given config requests outages l o reply st h turn =
    ap (λ r. config_text given ++ flat_map reply_text r.0) (turns_push (is_stored base) (start config (opening_by base)) requests outages l o h)
    ∙ ap (λ t. config_text given ++ flat_map reply_text ((begun_in base config requests outages).0 ++ t.0 ∷ [])) turn
    ∙ ap (λ t. config_text given ++ t) (texts_push (begun_in base config requests outages).0 reply)
    ∙ sym (append_assoc (config_text given) (flat_map reply_text (begun_in base config requests outages).0) (reply_text reply))
