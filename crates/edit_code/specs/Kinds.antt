-- The kinds of bodies, of edits and of additions to the configuration, and their numbers.
use Rattle.std.specs.Prelude.{ℕ, List, [], ◌∷◌}
use Rattle.edit_code.specs.declared.kinds.Addition.{Addition}
use Rattle.edit_code.specs.declared.kinds.Addition.TheVariants as additions
use Rattle.edit_code.specs.declared.kinds.Body.{Body}
use Rattle.edit_code.specs.declared.kinds.Body.TheVariants as bodies
use Rattle.edit_code.specs.declared.kinds.Kind.{Kind}
use Rattle.edit_code.specs.declared.kinds.Kind.TheVariants as kinds

-- Bodies of entries: one edit, several edits of a bundle, an addition to the configuration.

abbrev pub all_bodies : List Body
all_bodies = bodies.One ∷ bodies.Several ∷ bodies.Config ∷ []

abbrev pub body_number : Body → ℕ
body_number bodies.One = 1
body_number bodies.Several = 2
body_number bodies.Config = 3

-- Edits.

abbrev pub all_kinds : List Kind
all_kinds =
    kinds.AddBundle ∷ kinds.DropBundle ∷ kinds.AddItem ∷ kinds.RemoveItem ∷ kinds.SetLabel ∷ kinds.SetSegment
    ∷ kinds.MoveBoundary ∷ kinds.SetPoint ∷ kinds.Split ∷ kinds.Merge ∷ kinds.AddLink ∷ kinds.RemoveLink
    ∷ kinds.LinkTimes ∷ kinds.PutItem ∷ kinds.PutLabel ∷ kinds.PutLink ∷ []

-- the kinds that may stand beside others in a list
abbrev pub inner_kinds : List Kind
inner_kinds =
    kinds.AddItem ∷ kinds.RemoveItem ∷ kinds.SetLabel ∷ kinds.SetSegment ∷ kinds.MoveBoundary ∷ kinds.SetPoint
    ∷ kinds.Split ∷ kinds.Merge ∷ kinds.AddLink ∷ kinds.RemoveLink ∷ kinds.PutItem ∷ kinds.PutLabel ∷ kinds.PutLink ∷ []

abbrev pub kind_number : Kind → ℕ
kind_number kinds.AddBundle = 1
kind_number kinds.DropBundle = 2
kind_number kinds.AddItem = 3
kind_number kinds.RemoveItem = 4
kind_number kinds.SetLabel = 5
kind_number kinds.SetSegment = 6
kind_number kinds.MoveBoundary = 7
kind_number kinds.SetPoint = 8
kind_number kinds.Split = 9
kind_number kinds.Merge = 10
kind_number kinds.AddLink = 11
kind_number kinds.RemoveLink = 12
kind_number kinds.LinkTimes = 16
kind_number kinds.PutItem = 17
kind_number kinds.PutLabel = 18
kind_number kinds.PutLink = 19

-- Additions to the configuration: a level, an attribute, a link definition.

abbrev pub all_additions : List Addition
all_additions = additions.Level ∷ additions.Attribute ∷ additions.Link ∷ []

abbrev pub addition_number : Addition → ℕ
addition_number additions.Level = 13
addition_number additions.Attribute = 14
addition_number additions.Link = 15
