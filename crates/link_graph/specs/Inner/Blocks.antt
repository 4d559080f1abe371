-- A list of links in blocks.
use Rattle.std.specs.Prelude.{◌≡◌, ◌≤◌, ◌<◌, ◌+◌, ℕ, Bool, List, [], length, take, insert, get_or}
use Rattle.std.specs.List.{filter, flat_map}
use Rattle.link_graph.specs.declared.link.Link.{Link}
use Rattle.link_graph.specs.declared.blocks.BlockPlace.{BlockPlace}

-- the links of all blocks, one block behind another
abbrev pub joined : List (List Link) → List Link
joined blocks = flat_map (λ block. block) blocks

-- where a link at a place of all blocks stands: in a block, at a place of it; or behind all blocks
pub record IsBlockPlace (blocks : List (List Link)) (place : ℕ) (found : BlockPlace) : Type 0 where
  pub within : found.block ≤ length blocks
  pub sum : place ≡ length (joined (take found.block blocks)) + found.place
  pub inside : found.block < length blocks → found.place ≤ length (get_or blocks found.block [])

-- before so many of those that pass a test a link is put that is put at a place of all
abbrev pub IsRank : (Link → Bool) → List Link → ℕ → ℕ → Type 0
IsRank p links place rank =
    (link : Link) → insert (filter p links) rank link ≡ insert (filter p links) (length (filter p (take place links))) link
