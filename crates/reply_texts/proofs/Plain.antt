-- Objects that are made of members without floats have none.
use Rattle.std.proofs.Common.{◌≡◌, ◌||◌, ℕ, List, [], ◌∷◌, Bool, true, false, refl}
use Rattle.std.specs.Ordering.{nat_cmp, match_ordering}
use Rattle.std.specs.declared.cmp.Ordering.{Ordering}
use Rattle.std.specs.declared.cmp.Ordering.TheVariants.{Less, Equal, Greater}
use Rattle.std.specs.Cmp.Lexicographic.{slice_cmp}
use Rattle.serde_json.specs.Data.{Data, Members, no_members, member, put}
use Rattle.serde_json.specs.Written.{has_float, members_have_float}
use Rattle.reply_texts.specs.Members.{Named, object_of, with_all}

-- some of these members has a float
abbrev pub any_float : List Named → Bool
any_float [] = false
any_float (it ∷ rest) = has_float it.value || any_float rest

both : (a b : Bool) → a ≡ false → b ≡ false → (a || b) ≡ false
both false b one other = other
both true b one other = absurd cc

first : (a b : Bool) → (a || b) ≡ false → a ≡ false
first false b none = refl
first true b none = absurd cc

second : (a b : Bool) → (a || b) ≡ false → b ≡ false
second false b none = none
second true b none = absurd cc

chosen : (o : Ordering) (a b c : Members) → members_have_float a ≡ false → members_have_float b ≡ false →
    members_have_float c ≡ false → members_have_float (match_ordering o a b c) ≡ false
chosen Less a b c one two three = one
chosen Equal a b c one two three = two
chosen Greater a b c one two three = three

put_plain : (k : List ℕ) (d : Data) (ms : Members) → has_float d ≡ false → members_have_float ms ≡ false →
    members_have_float (put k d ms) ≡ false
put_plain k d no_members plain none = both (has_float d) false plain refl
put_plain k d (member l e ms) plain none =
    chosen (slice_cmp nat_cmp k l) (member k d (member l e ms)) (member l d ms) (member l e (put k d ms))
    (both (has_float d) (members_have_float (member l e ms)) plain none)
    (both (has_float d) (members_have_float ms) plain (second (has_float e) (members_have_float ms) none))
    (both (has_float e) (members_have_float (put k d ms)) (first (has_float e) (members_have_float ms) none)
    (put_plain k d ms plain (second (has_float e) (members_have_float ms) none)))

with_plain : (all : List Named) (ms : Members) → any_float all ≡ false → members_have_float ms ≡ false →
    members_have_float (with_all all ms) ≡ false
with_plain [] ms none plain = plain
with_plain (it ∷ rest) ms none plain =
    with_plain rest (put it.name it.value ms) (second (has_float it.value) (any_float rest) none)
    (put_plain it.name it.value ms (first (has_float it.value) (any_float rest) none) plain)

pub object_plain : (all : List Named) → any_float all ≡ false → has_float (object_of all) ≡ false
object_plain all none = with_plain all no_members none refl
