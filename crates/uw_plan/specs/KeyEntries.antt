-- Entries by their keys (own rule).
use Rattle.std.specs.Prelude.{ℕ, List, find, Option, option_map}
use Rattle.std.specs.Str.{bytes_eq}
use Rattle.uw_model.specs.declared.entries.Entry.{Entry}

-- the entry of a key, whether it is alive or not
abbrev pub entry_at : List Entry → List ℕ → Option Entry
entry_at list key = find (λ e. bytes_eq e.key key) list

-- the first block of the entry of a key, whether it is alive or not
abbrev pub first_block : List Entry → List ℕ → Option ℕ
first_block list key = option_map (λ e. e.first) (entry_at list key)
