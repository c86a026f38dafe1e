-- The entry of a key in a list, and a list from which it was taken out for a while (own rule of the plain list).
use Rattle.std.specs.Prelude.{◌≡◌, ℕ, ◌<◌, true, Bool, not, List, [], ◌∷◌, length, slice_index_or, insert, Option, None, Some}
use Rattle.std.specs.List.{list_all}
use Rattle.std.specs.Str.{bytes_eq}
use Rattle.uw_model.specs.declared.conf.CacheConf.{CacheConf}
use Rattle.uw_model.specs.declared.entries.Entry.{Entry}
use Rattle.uw_model.specs.declared.keys.Taken.{Taken}
use Rattle.uw_model.specs.Calls.{alive_at}

-- no entry has the key
abbrev pub lacks : List ℕ → List Entry → Bool
lacks key list = list_all (λ e. not (bytes_eq e.key key)) list

-- no two entries have one key
abbrev pub HaveOwnKeys : List Entry → Type 0
HaveOwnKeys [] = Unit {0}
HaveOwnKeys (e ∷ list) = (lacks e.key list ≡ true) × HaveOwnKeys list

-- the entry at the place has the key
pub record IsPlaceOf (list : List Entry) (key : List ℕ) (place : ℕ) : Type 0 where
  pub within : place < length list
  pub same : (d : Entry) → (slice_index_or list place d).key ≡ key

-- the place is that of the alive entry of the key
pub record IsAlivePlace (conf : CacheConf) (list : List Entry) (now : ℕ) (key : List ℕ) (place : ℕ) : Type 0 where
  pub within : place < length list
  pub found : (d : Entry) → alive_at conf list now key ≡ Some (slice_index_or list place d)

-- the list with what was taken out of it put back
abbrev pub restored : List Entry → Option Taken → List Entry
restored list None = list
restored list (Some taken) = insert list taken.place taken.entry
