-- Texts that were written one after another, but the last one perhaps in part.
use Rattle.std.proofs.Common.{◌≡◌, ℕ, ◌≤◌, Bool, true, false, List, [], ◌∷◌, ◌++◌, length, take, map, Option, Some, None, refl, sym, ◌∙◌, ap, subst, arith, append_assoc, append-nil}
use Rattle.std.proofs.lemmas.List.{map-append}
use Rattle.std.specs.Io.KnownBytes.{Appends}
use Rattle.std.proofs.KnownBytes.{Appends-nil, Appends-trans}
use Rattle.emu_io.specs.Fronts.{WritesFront}
use Rattle.db_config.specs.declared.parts.ConfigParts.{ConfigParts}
use Rattle.live_run.specs.session_core.declared.line.Reply.{Reply}
use Rattle.live_run.specs.session_core.InOrder.{Outage}
use Rattle.program_output.specs.reply_texts.Texts.{reply_text}
use Rattle.program_output.specs.Texts.{config_reply}
use Rattle.script_runs.specs.Scripts.{Parsed}
use Rattle.script_runs.specs.Bases.{Base}
use Rattle.script_runs.specs.Runs.{WritesToLast, config_text, config_texts, flat, run_text, run_texts}
use Rattle.script_runs.specs.Inner.Runs.{replies_by}
use Rattle.std.specs.Prelude.{flat_map}

-- The texts of a run as one.

replies_flat : (replies : List Reply) → flat (map (λ r. reply_text r) replies) ≡ flat_map reply_text replies
replies_flat [] = refl
replies_flat (r ∷ rs) = ap (λ t. reply_text r ++ t) (replies_flat rs)

given_flat : (given : Option ConfigParts) (replies : List Reply) → flat (config_texts given ++ map (λ r. reply_text r) replies) ≡ config_text given ++ flat_map reply_text replies
given_flat None replies = replies_flat replies
given_flat (Some config) replies = ap (λ t. reply_text config_reply ++ t) (replies_flat replies)

pub flat_run : (base : Base) (p : Parsed) (outages : List Outage) → flat (run_texts base p outages) ≡ run_text base p outages
flat_run base p outages = given_flat p.config (replies_by base p outages)

-- one reply more
pub texts_more : (base : Base) (p next : Parsed) (outages more : List Outage) (reply : Reply) → next.config ≡ p.config → replies_by base next more ≡ replies_by base p outages ++ reply ∷ [] → run_texts base next more ≡ run_texts base p outages ++ reply_text reply ∷ []
texts_more base p next outages more reply same are =
    ap (λ c. config_texts c ++ map (λ r. reply_text r) (replies_by base next more)) same
    ∙ ap (λ rs. config_texts p.config ++ map (λ r. reply_text r) rs) are
    ∙ ap (λ ts. config_texts p.config ++ ts) (map-append (λ (r : Reply). reply_text r) (replies_by base p outages) (reply ∷ []))
    ∙ sym (append_assoc (config_texts p.config) (map (λ r. reply_text r) (replies_by base p outages)) (reply_text reply ∷ []))

-- all texts were written
pub all_to_last : (before now : Option (List ℕ)) (texts : List (List ℕ)) (text : List ℕ) → flat texts ≡ text → Appends before now text → WritesToLast before now texts
all_to_last before now texts text is h = record {
  whole = texts;
  last = [];
  one = omega arith;
  split = sym (append-nil texts);
  cut = 0;
  output = subst (λ t. Appends before now t) (sym is ∙ sym (append-nil (flat texts))) h;
}

-- a front of one text more
pub cut_to_last : (before mid after : Option (List ℕ)) (texts : List (List ℕ)) (text last : List ℕ) → flat texts ≡ text → Appends before mid text → WritesFront mid after last → WritesToLast before after (texts ++ last ∷ [])
cut_to_last before mid after texts text last is h (n, k) = record {
  whole = texts;
  last = last ∷ [];
  one = omega arith;
  split = refl;
  cut = n;
  output = subst (λ t. Appends before after t) (ap (λ t. t ++ take n last) (sym is) ∙ ap (λ t. flat texts ++ take n t) (sym (append-nil last))) (Appends-trans before mid after text (take n last) h k);
}

-- no text more
pub last_as : (before now : Option (List ℕ)) (texts : List (List ℕ)) → WritesToLast before now texts → WritesToLast before now (texts ++ [])
last_as before now texts h = subst (λ ts. WritesToLast before now ts) (sym (append-nil texts)) h
