-- The text of a grid is that of its lines of tokens.
use Rattle.std.proofs.Common.{◌≡◌, ℕ, ◌+◌, Bool, true, false, List, [], ◌∷◌, ◌++◌, length, refl, sym, ap, ◌∙◌, append_assoc}
use Rattle.std.specs.Prelude.{codes}
use Rattle.std.specs.Fmt.{decimal}
use Rattle.level_items.specs.Times.{first_sample, last_sample}
use Rattle.sample_time.specs.Printed.{time_text}
use Rattle.grid_writing.specs.declared.entries.Entry.{Entry}
use Rattle.grid_writing.specs.declared.levels.TimeLevel.{TimeLevel}
use Rattle.grid_writing.specs.Filled.{entry_time, entry_label}
use Rattle.grid_writing.specs.Layout.{line, doubled, interval_lines, point_lines, entry_lines, entries_lines, class_text, size_lead, tier_lines, tiers_lines, head_text, grid_text}
use Rattle.grid_writing.proofs.Tokens.{number, text, Line, line_onto, lines_text}
use Rattle.grid_writing.proofs.TokenLines.{says, begins_part, interval_onto, point_onto, entries_onto, size_line, tiers_onto, grid_lines}

-- a time or a count
number_line : (lead name : List ℕ) (indent : ℕ) (t rest : List ℕ) → (lead ++ (t ++ (10 ∷ rest)) ≡ line_onto (says indent name (number t)) rest) → line lead t (codes "\n") rest ≡ line_onto (says indent name (number t)) rest
unfolding line
number_line lead name indent t rest is = is

-- a text between quotes
quoted_line : (lead t rest : List ℕ) → line lead (doubled t) (codes "\"\n") rest ≡ lead ++ ((doubled t ++ (34 ∷ [])) ++ (10 ∷ rest))
unfolding line
quoted_line lead t rest = ap (λ (x : List ℕ). lead ++ x) (sym (append_assoc (doubled t) (34 ∷ []) (10 ∷ rest)))

-- the number of a part
part_line : (lead : List ℕ) (k : ℕ) (rest : List ℕ) → line lead (decimal k) (codes "]:\n") rest ≡ lead ++ ((decimal k ++ (93 ∷ 58 ∷ [])) ++ (10 ∷ rest))
unfolding line
part_line lead k rest = ap (λ (x : List ℕ). lead ++ x) (sym (append_assoc (decimal k) (93 ∷ 58 ∷ []) (10 ∷ rest)))

plain_line : (lead value end rest : List ℕ) → line lead value end rest ≡ lead ++ (value ++ (end ++ rest))
unfolding line
plain_line lead value end rest = refl

interval_bridge : (rate k : ℕ) (e : Entry) (rest : List Line) → interval_lines rate k e (lines_text rest) ≡ lines_text (interval_onto rate k e rest)
interval_bridge rate k e rest =
    let xmin : List ℕ = time_text (first_sample (entry_time e)) rate in
    let xmax : List ℕ = time_text (last_sample (entry_time e) + 1) rate in
    let a = part_line (codes "        intervals [") k in
    let b = plain_line (codes "            xmin = ") xmin (codes "\n") in
    let c = plain_line (codes "            xmax = ") xmax (codes "\n") in
    let d = quoted_line (codes "            text = \"") (entry_label e) (lines_text rest) in
    rw (a, b, c, d) refl

point_bridge : (rate k : ℕ) (e : Entry) (rest : List Line) → point_lines rate k e (lines_text rest) ≡ lines_text (point_onto rate k e rest)
point_bridge rate k e rest =
    let at : List ℕ = time_text (first_sample (entry_time e)) rate in
    let a = part_line (codes "        points [") k in
    let b = plain_line (codes "            number = ") at (codes "\n") in
    let d = quoted_line (codes "            mark = \"") (entry_label e) (lines_text rest) in
    rw (a, b, d) refl

entries_bridge : (segments : Bool) (rate k : ℕ) (es : List Entry) (rest : List Line) → entries_lines segments rate k es (lines_text rest) ≡ lines_text (entries_onto rate segments k es rest)
entries_bridge segments rate k [] rest = refl
entries_bridge true rate k (e ∷ es) rest =
    ap (λ (x : List ℕ). interval_lines rate (k + 1) e x) (entries_bridge true rate (k + 1) es rest)
    ∙ interval_bridge rate (k + 1) e (entries_onto rate true (k + 1) es rest)
entries_bridge false rate k (e ∷ es) rest =
    ap (λ (x : List ℕ). point_lines rate (k + 1) e x) (entries_bridge false rate (k + 1) es rest)
    ∙ point_bridge rate (k + 1) e (entries_onto rate false (k + 1) es rest)

class_bridge : (segments : Bool) (rest : List ℕ) → line (codes "        class = \"") (class_text segments) (codes "\"\n") rest ≡ line_onto (says 8 (codes "class") (text (class_text segments))) rest
unfolding line
class_bridge true rest = refl
class_bridge false rest = refl

size_bridge : (segments : Bool) (n : ℕ) (rest : List ℕ) → line (size_lead segments) (decimal n) (codes "\n") rest ≡ line_onto (size_line 8 segments n) rest
unfolding line
size_bridge true n rest = refl
size_bridge false n rest = refl

tiers_bridge : (rate end k : ℕ) (ls : List TimeLevel) → tiers_lines rate end k ls [] ≡ lines_text (tiers_onto rate end k ls)
tiers_bridge rate end k [] = refl
tiers_bridge rate end k (l ∷ ls) =
    let others = tiers_bridge rate end (k + 1) ls in
    let own = entries_bridge l.segments rate 0 l.entries (tiers_onto rate end (k + 1) ls) in
    let a = part_line (codes "    item [") (k + 1) in
    let b = class_bridge l.segments in
    let c = quoted_line (codes "        name = \"") l.name in
    let d = plain_line (codes "        xmin = ") (time_text 0 rate) (codes "\n") in
    let e = plain_line (codes "        xmax = ") (time_text end rate) (codes "\n") in
    let f = size_bridge l.segments (length l.entries) in
    rw (others, own, a, b, c, d, e, f) refl

pub grid_bridge : (rate end : ℕ) (ls : List TimeLevel) → grid_text rate end ls ≡ lines_text (grid_lines rate end ls)
unfolding grid_text line
grid_bridge rate end ls =
    let tiers = tiers_bridge rate end 0 ls in
    rw tiers refl
