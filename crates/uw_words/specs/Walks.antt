-- Links between the items of a region: the word number of an item's first word, or 0 for none; and walks along them (own rule).
use Rattle.std.specs.Prelude.{◌≡◌, ◌⊎◌, ℕ, zero, suc, ◌+◌, ◌-◌, ◌*◌, ◌/◌, ◌<◌, Bool, true, List, [], ◌∷◌, if◌then◌else◌, ◌==◌}
use Rattle.uw_words.specs.declared.shape.Shape.{Shape}

-- the link of an item: the place of its first word
abbrev pub link_of : Shape → ℕ → ℕ
link_of shape item = shape.items + item * shape.stride

-- no link, or that of an item
abbrev pub IsLink : Shape → ℕ → Type 0
IsLink shape link = (link ≡ 0) ⊎ ((item : ℕ) × (item < shape.n_items) × (link ≡ link_of shape item))

-- a word of an item
abbrev pub item_word : (ℕ → ℕ) → Shape → (item field : ℕ) → ℕ
item_word reader shape item field = reader (link_of shape item + field)

-- from a link on, along a word of each item, just these items are met: none, and the link is 0; or the item of the link, and the others from its word on
abbrev pub IsWalk : (ℕ → ℕ) → Shape → (link field : ℕ) → List ℕ → Type 0
IsWalk reader shape link field [] = link ≡ 0
IsWalk reader shape link field (item ∷ items) = (link ≡ link_of shape item) × (item < shape.n_items) × IsWalk reader shape (item_word reader shape item field) field items

-- the items that are met from a link on, at most so many
abbrev pub counted_walk : (ℕ → ℕ) → Shape → (link field count : ℕ) → List ℕ
counted_walk reader shape link field zero = []
counted_walk reader shape link field (suc count) =
    if link == 0 then [] else (link - shape.items) / shape.stride ∷ counted_walk reader shape (reader (link + field)) field count

-- a walk of at most so many items ends at the link 0
abbrev pub is_whole_walk : (ℕ → ℕ) → (link field count : ℕ) → Bool
is_whole_walk reader link field zero = link == 0
is_whole_walk reader link field (suc count) = if link == 0 then true else is_whole_walk reader (reader (link + field)) field count
