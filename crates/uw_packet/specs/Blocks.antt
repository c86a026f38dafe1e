-- Blocks of sized texts ("The uwsgi Protocol"): an array block is any number of them, a vars block an even number.
use Rattle.std.specs.Prelude.{◌≡◌, ℕ, zero, suc, ◌+◌, ◌*◌, ◌-◌, ◌<◌, ◌≤◌, nat_le, if◌then◌else◌, List, [], ◌∷◌, ◌++◌, length, take, drop, Result, Ok, Err}
use Rattle.std.specs.Int.{to_le_bytes, w16}
use Rattle.std.specs.List.{flat_map, AllByRecursion}
use Rattle.uw_base.specs.declared.variables.Pair.{Pair}

-- a text behind its length in two bytes, the lower first
abbrev pub sized : List ℕ → List ℕ
sized text = to_le_bytes w16 (length text) ++ text

-- sized texts, one after the other
abbrev pub array_of : List (List ℕ) → List ℕ
array_of texts = flat_map sized texts

-- each text has a length that two bytes can hold
abbrev pub AreShort : List (List ℕ) → Type 0
AreShort texts = AllByRecursion (λ text. length text < 65536) texts

-- keys and values in turn
abbrev pub texts_of_pairs : List Pair → List (List ℕ)
texts_of_pairs [] = []
texts_of_pairs (pair ∷ pairs) = pair.key ∷ pair.value ∷ texts_of_pairs pairs

-- the block is the array of these texts
pub record IsArrayBlock (block : List ℕ) (texts : List (List ℕ)) : Type 0 where
  pub short : AreShort texts
  pub whole : block ≡ array_of texts

-- the block is the array of these pairs' keys and values
abbrev pub IsVarsBlock : List ℕ → List Pair → Type 0
IsVarsBlock block pairs = IsArrayBlock block (texts_of_pairs pairs)

-- these texts are the longest list whose array begins the block, and the array ends at the place
pub record BreaksAt (block : List ℕ) (texts : List (List ℕ)) (at : ℕ) : Type 0 where
  pub short : AreShort texts
  pub front : (rest : List ℕ) × (block ≡ array_of texts ++ rest)
  pub place : at ≡ length (array_of texts)
  pub longest : (others : List (List ℕ)) (rest : List ℕ) → AreShort others → block ≡ array_of others ++ rest → length (array_of others) ≤ at

-- the texts at the front of a block, at most so many, and what is left where no further one is whole
unfoldable pub texts_front : ℕ → List ℕ → List (List ℕ) × List ℕ
texts_front zero block = ([], block)
texts_front (suc most) [] = ([], [])
texts_front (suc most) (a ∷ []) = ([], a ∷ [])
texts_front (suc most) (low ∷ high ∷ block) =
    if nat_le (low + 256 * high) (length block) then
    (take (low + 256 * high) block ∷ (texts_front most (drop (low + 256 * high) block)).0, (texts_front most (drop (low + 256 * high) block)).1)
    else ([], low ∷ high ∷ block)

-- the texts of an array block, or else the place where the first text that is not whole begins
unfoldable pub array_read : List ℕ → Result (List (List ℕ)) ℕ
array_read block =
    if nat_le (length (texts_front (length block) block).1) 0 then Ok (texts_front (length block) block).0
    else Err (length block - length (texts_front (length block) block).1)

-- texts taken two by two; a last one alone makes no pair
abbrev pub pairs_of_texts : List (List ℕ) → Result (List Pair) (List ℕ)
pairs_of_texts [] = Ok []
pairs_of_texts (key ∷ []) = Err key
pairs_of_texts (key ∷ value ∷ texts) = with_pair key value (pairs_of_texts texts)
  where
    with_pair : List ℕ → List ℕ → Result (List Pair) (List ℕ) → Result (List Pair) (List ℕ)
    with_pair key value (Ok pairs) = Ok (record { key = key; value = value } ∷ pairs)
    with_pair key value (Err text) = Err text

-- the pairs of a vars block, or else the place of its fault; a block that ends after a key breaks at its end
abbrev pub vars_read : List ℕ → Result (List Pair) ℕ
vars_read block = paired (array_read block)
  where
    ended : Result (List Pair) (List ℕ) → Result (List Pair) ℕ
    ended (Ok pairs) = Ok pairs
    ended (Err text) = Err (length block)

    paired : Result (List (List ℕ)) ℕ → Result (List Pair) ℕ
    paired (Ok texts) = ended (pairs_of_texts texts)
    paired (Err at) = Err at
