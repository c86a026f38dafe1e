-- Which entries count when a place is looked for: all of them, or those alive at a moment (own rule of the plain list).
use Rattle.std.specs.Prelude.{◌≡◌, ℕ, ◌<◌, ◌≤◌, Bool, true, false, not, ◌&&◌, List, Option, None, Some}
use Rattle.uw_model.specs.declared.conf.CacheConf.{CacheConf}
use Rattle.uw_model.specs.declared.entries.Entry.{Entry}
use Rattle.uw_model.specs.Placement.{is_alive, alive_of, is_clear_of, is_free}

-- the entry counts: always, or where a moment is given if it is alive then
abbrev pub counts : CacheConf → Option ℕ → Entry → Bool
counts conf None e = true
counts conf (Some now) e = is_alive conf now e

-- the entries that count
abbrev pub counted : CacheConf → Option ℕ → List Entry → List Entry
counted conf None list = list
counted conf (Some now) list = alive_of conf now list

-- the entry counts and covers one of the n blocks from the place on
abbrev pub is_in_the_way : CacheConf → Option ℕ → ℕ → ℕ → Entry → Bool
is_in_the_way conf at n place e = counts conf at e && not (is_clear_of conf place n e)

-- the n blocks are not free from any place on, from one place up to the next
pub record IsBlockedUntil (conf : CacheConf) (list : List Entry) (n place next : ℕ) : Type 0 where
  pub ahead : place < next
  pub within : next ≤ conf.blocks
  pub blocked : (k : ℕ) → place ≤ k → k < next → is_free conf list n k ≡ false
