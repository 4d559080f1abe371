use Rattle.std.proofs.Common.{rules, ◌≡◌, ◌<◌, ℕ, List, Some, Ok, Err, length, refl, subst}
use Rattle.std.specs.List.{slice_get}
use Rattle.std.specs.List.Sorted.{IsBinarySearchResult, IsSearchInRange}
use Rattle.std.specs.Ordering.{nat_cmp}
use Rattle.std.proofs.lemmas.List.Sorted.{answers_always}
use Rattle.std.proofs.lemmas.Option.{slice_get_read}
use Rattle.script_lines.specs.declared.line_set.EarlierLine.{EarlierLine}
use Rattle.script_lines.proofs.Rising.{found_number, found_passes, none_passes}
use Rattle.script_lines.proofs.line_set.LineSet.find.Goals as goal

-- the closure gives a line's number, and the slice is the set's lines
pub returns-in-Ok-clause-tests : goal.returns-in-Ok-clause-tests
returns-in-Ok-clause-tests c = λ test avoids.
    let items : List EarlierLine = c.self.inside.lines.items in
    let within : c.in-Ok.at < length items = rw c.deref.ensures.value at c.in-Ok.ensures.bound in
    let here : slice_get items c.in-Ok.at ≡ Some c.index.result.now = slice_get_read items (length items) c.in-Ok.at c.index.result.now refl within c.index.ensures in
    let by_line = c.in-Ok.ensures.position (λ (it : EarlierLine). it.line) (answers_always _ _ _ (λ f a r g called. search rules)) in
    let found : IsBinarySearchResult (λ (it : EarlierLine). nat_cmp it.line c.args.line) items (Ok c.in-Ok.at) = rw c.deref.ensures.value at by_line in
    rw (← c.self.view_is) (found_passes items c.args.line c.in-Ok.at c.index.result.now test avoids c.self.invariant here found)

pub returns-in-Ok-clause-number : goal.returns-in-Ok-clause-number
returns-in-Ok-clause-number c =
    let items : List EarlierLine = c.self.inside.lines.items in
    let within : c.in-Ok.at < length items = rw c.deref.ensures.value at c.in-Ok.ensures.bound in
    let here : slice_get items c.in-Ok.at ≡ Some c.index.result.now = slice_get_read items (length items) c.in-Ok.at c.index.result.now refl within c.index.ensures in
    let by_line = c.in-Ok.ensures.position (λ (it : EarlierLine). it.line) (answers_always _ _ _ (λ f a r g called. search rules)) in
    let found : IsBinarySearchResult (λ (it : EarlierLine). nat_cmp it.line c.args.line) items (Ok c.in-Ok.at) = rw c.deref.ensures.value at by_line in
    found_number items c.args.line c.in-Ok.at c.index.result.now here c.self.invariant found

pub returns-in-Err-clause-tests : goal.returns-in-Err-clause-tests
returns-in-Err-clause-tests c = λ test avoids.
    let items : List EarlierLine = c.self.inside.lines.items in
    let range : IsSearchInRange (Err c.in-Err.field-0) (length items) = rw c.deref.ensures.value at c.in-Err.ensures.bound in
    let by_line = c.in-Err.ensures.position (λ (it : EarlierLine). it.line) (answers_always _ _ _ (λ f a r g called. search rules)) in
    let found : IsBinarySearchResult (λ (it : EarlierLine). nat_cmp it.line c.args.line) items (Err c.in-Err.field-0) = rw c.deref.ensures.value at by_line in
    rw (← c.self.view_is) (none_passes items c.args.line c.in-Err.field-0 test avoids c.self.invariant range found)
