-- What each write of an append leaves of a store.
use Rattle.std.proofs.Common.{◌≡◌, ◌≢◌, ℕ, ◌+◌, ◌≤◌, min, List, [], ◌∷◌, ◌++◌, length, get_or, take, drop, Option, None, Some, w32, refl, sym, ◌∙◌, ap, arith, append_assoc, length-append, length-drop, take_at, take-append-drop}
use Rattle.std.specs.Int.{to_be_bytes}
use Rattle.std.proofs.lemmas.List.{drop_all, drop_at, drop_more}
use Rattle.emu_disk.specs.Disk.{put, Torn}
use Rattle.edit_journal.specs.Store.{limit, head, frame, start}
use Rattle.edit_journal.specs.Inner.Staged.{staged_of, body_of}
use Rattle.edit_journal.specs.Held.{Stands}
use Rattle.edit_journal.proofs.Walk.{start-push}

-- a list cut behind its gate
module _ (p rest c : List ℕ) (gate e : ℕ) (split : c ≡ p ++ gate ∷ rest) (size : length p ≡ e) where
  long : length c ≡ e + 1 + length rest
  long = ap length split ∙ omega (arith, length-append p (gate ∷ rest))

  past : p ++ gate ∷ rest ≡ (p ++ gate ∷ []) ++ rest
  past = sym (append_assoc p (gate ∷ []) rest)

  size_past : length (p ++ gate ∷ []) ≡ e + 1
  size_past = omega (arith, length-append p (gate ∷ []))

  front_past : take (e + 1) c ≡ p ++ gate ∷ []
  front_past = ap (take (e + 1)) (split ∙ past) ∙ take_at (p ++ gate ∷ []) rest (e + 1) size_past

  behind : drop (e + 1) c ≡ rest
  behind = ap (drop (e + 1)) (split ∙ past) ∙ drop_at (p ++ gate ∷ []) rest (e + 1) size_past

  front : take e c ≡ p
  front = ap (take e) split ∙ take_at p (gate ∷ rest) e size

  -- a write behind the gate, torn
  torn_behind : (n : ℕ) (d : List ℕ) → Torn (e + 1) n c d → d ≡ p ++ gate ∷ drop (e + 1) d
  torn_behind n d torn =
      let least : min (e + 1) (length c) ≡ e + 1 = omega (arith, long) in
      let same : take (e + 1) d ≡ p ++ gate ∷ [] = ap (λ (k : ℕ). take k d) (sym least) ∙ torn.before ∙ front_past in
      sym (take-append-drop (e + 1) d) ∙ ap (λ (l : List ℕ). l ++ drop (e + 1) d) same ∙ append_assoc p (gate ∷ []) (drop (e + 1) d)

  -- a write of the gate, torn
  torn_gate : (d : List ℕ) → Torn e 1 c d → d ≡ p ++ get_or d e 0 ∷ rest
  torn_gate d torn =
      let least : min e (length c) ≡ e = omega (arith, long) in
      let same : take e d ≡ p = ap (λ (k : ℕ). take k d) (sym least) ∙ torn.before ∙ front in
      let last : drop e d ≡ get_or d e 0 ∷ rest = drop_more d e 0 (omega (arith, long, torn.no_shorter)) ∙ ap (λ (l : List ℕ). get_or d e 0 ∷ l) (torn.after ∙ behind) in
      sym (take-append-drop e d) ∙ ap (λ (l : List ℕ). l ++ drop e d) same ∙ ap (λ (l : List ℕ). p ++ l) last

  -- a write behind the gate, done
  put_behind : (bytes d : List ℕ) → d ≡ put (e + 1) bytes c → d ≡ p ++ gate ∷ (bytes ++ drop (e + 1 + length bytes) c)
  put_behind bytes d is =
      is ∙ ap (λ (l : List ℕ). l ++ bytes ++ drop (e + 1 + length bytes) c) front_past
      ∙ append_assoc (p ++ gate ∷ []) bytes (drop (e + 1 + length bytes) c)
      ∙ append_assoc p (gate ∷ []) (bytes ++ drop (e + 1 + length bytes) c)

  -- a write of the gate, done
  put_gate : (byte : ℕ) (d : List ℕ) → d ≡ put e (byte ∷ []) c → d ≡ p ++ byte ∷ rest
  put_gate byte d is =
      is ∙ ap (λ (l : List ℕ). l ++ (byte ∷ []) ++ drop (e + 1) c) front
      ∙ ap (λ (l : List ℕ). p ++ (byte ∷ []) ++ l) behind
      ∙ append_assoc p (byte ∷ []) rest

pub length-staged : (body : List ℕ) → length (staged_of body) ≡ 5 + length body
length-staged body = omega (arith, length-append (to_be_bytes w32 (length body) ++ body) (0 ∷ []))

not_open : (n : ℕ) → n ≡ 0 → n ≢ 1
not_open n zero_is is = omega arith

module _ (texts : List (List ℕ)) (e : ℕ) (end : e ≡ length (start texts)) where
  -- while the body is staged the gate stays closed
  pub staging : (body c d : List ℕ) → e + 6 + length body ≤ limit → Stands texts None c → Torn (e + 1) (length (staged_of body)) c d → Stands texts None d
  staging body c d fits stands torn = record {
    gate = stands.gate;
    rest = drop (e + 1) d;
    split = torn_behind (start texts) stands.rest c stands.gate e stands.split (sym end) (length (staged_of body)) d torn;
    at_gate = stands.at_gate;
    fits = omega (arith, torn.no_longer, stands.fits, length-staged body);
  }

  -- once it is safe it stands behind the gate
  pub staged : (body c d : List ℕ) → e + 6 + length body ≤ limit → Stands texts None c → d ≡ put (e + 1) (staged_of body) c → Stands texts (Some body) d
  staged body c d fits stands is =
      let more = drop (e + 1 + length (staged_of body)) c in
      let split = put_behind (start texts) stands.rest c stands.gate e stands.split (sym end) (staged_of body) d is in
      let whole : staged_of body ++ more ≡ to_be_bytes w32 (length body) ++ body ++ 0 ∷ more = append_assoc (to_be_bytes w32 (length body) ++ body) (0 ∷ []) more in
      record {
        gate = stands.gate;
        rest = staged_of body ++ more;
        split = split;
        at_gate = (0, more, not_open 0 refl, whole);
        fits = omega (arith, ap length split, length-append (start texts) (stands.gate ∷ (staged_of body ++ more)), length-append (staged_of body) more, length-staged body, length-drop (e + 1 + length (staged_of body)) c, stands.fits);
      }

  -- a torn write of the gate leaves the body behind it
  pub gate_torn : (body c d : List ℕ) → e + 1 ≤ limit → Stands texts (Some body) c → Torn e 1 c d → Stands texts (Some body) d
  gate_torn body c d fits stands torn = record {
    gate = get_or d e 0;
    rest = stands.rest;
    split = torn_gate (start texts) stands.rest c stands.gate e stands.split (sym end) d torn;
    at_gate = stands.at_gate;
    fits = omega (arith, torn.no_longer, stands.fits);
  }

  size_same : (c d : List ℕ) (gate byte : ℕ) (rest : List ℕ) → c ≡ start texts ++ gate ∷ rest → d ≡ start texts ++ byte ∷ rest → length c ≤ limit → length d ≤ limit
  size_same c d gate byte rest old new fits =
      omega (arith, ap length old, ap length new, length-append (start texts) (gate ∷ rest), length-append (start texts) (byte ∷ rest))

  -- an open gate makes it the list's last
  pub opened : (body c d : List ℕ) → Stands texts (Some body) c → d ≡ put e (1 ∷ []) c → Stands (texts ++ body ∷ []) None d
  opened body c d stands is =
      let split = put_gate (start texts) stands.rest c stands.gate e stands.split (sym end) 1 d is in
      let shut = stands.at_gate.0 in
      let more = stands.at_gate.1 in
      record {
        gate = shut;
        rest = more;
        split =
            split ∙ ap (λ (l : List ℕ). start texts ++ 1 ∷ l) stands.at_gate.3
            ∙ sym (append_assoc (start texts) (frame body) (shut ∷ more)) ∙ ap (λ (l : List ℕ). l ++ shut ∷ more) (sym (start-push texts body));
        at_gate = stands.at_gate.2;
        fits = size_same c d stands.gate 1 stands.rest stands.split split stands.fits;
      }

  -- a closed gate ends the list again
  pub shut_again : (body c d : List ℕ) → Stands texts (Some body) c → d ≡ put e (0 ∷ []) c → Stands texts None d
  shut_again body c d stands is =
      let split = put_gate (start texts) stands.rest c stands.gate e stands.split (sym end) 0 d is in
      record { gate = 0; rest = stands.rest; split = split; at_gate = not_open 0 refl; fits = size_same c d stands.gate 0 stands.rest stands.split split stands.fits }

  pub end_within : (lost : Option (List ℕ)) (c : List ℕ) → Stands texts lost c → e + 1 ≤ length c
  end_within lost c stands = omega (arith, ap length stands.split, length-append (start texts) (stands.gate ∷ stands.rest))

-- the head and a closed gate over at most nine bytes
pub head_put : (c d : List ℕ) → length c ≤ 9 → d ≡ put 0 (head ++ 0 ∷ []) c → Stands [] None d
head_put c d short is =
    let all : d ≡ start [] ++ 0 ∷ [] = is ∙ ap (λ (l : List ℕ). (head ++ 0 ∷ []) ++ l) (drop_all 9 c short) in
    record { gate = 0; rest = []; split = all; at_gate = not_open 0 refl; fits = omega (arith, ap length all) }

pub head_torn : (c d : List ℕ) → length c ≤ 9 → Torn 0 9 c d → length d ≤ 9
head_torn c d short torn = omega (arith, torn.no_longer)

-- the body of staged bytes
pub body_of-staged : (body : List ℕ) → body_of (staged_of body) ≡ body
body_of-staged body =
    ap (λ (k : ℕ). take k (body ++ 0 ∷ [])) (omega (arith, length-staged body)) ∙ take_at body (0 ∷ []) (length body) refl
