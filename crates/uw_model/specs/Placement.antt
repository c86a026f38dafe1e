-- Where a value goes, and what makes room for it ("The Caching framework"; the order of the policies is this project's own).
use Rattle.std.specs.Prelude.{ℕ, zero, suc, ◌+◌, ◌-◌, ◌==◌, nat_lt, nat_le, Bool, ◌&&◌, ◌||◌, if◌then◌else◌, List, [], length, take, filter, Option, None, Some, is_some}
use Rattle.std.specs.List.{list_all}
use Rattle.uw_model.specs.declared.conf.CacheConf.{CacheConf}
use Rattle.uw_model.specs.declared.entries.Entry.{Entry}
use Rattle.uw_model.specs.Entries.{span}

-- what dies at a moment, 0 for never, is alive now: it never dies, or nothing expires, or now is before that moment
abbrev pub is_alive_until : CacheConf → ℕ → ℕ → Bool
is_alive_until conf now dies = dies == 0 || conf.purge_lru || nat_lt now dies

-- an entry is alive at a moment: it never dies, or nothing expires, or the moment is before its last
abbrev pub is_alive : CacheConf → ℕ → Entry → Bool
is_alive conf now e = is_alive_until conf now e.dies

-- the entry covers none of the n blocks from the place on
abbrev pub is_clear_of : CacheConf → ℕ → ℕ → Entry → Bool
is_clear_of conf from n e = nat_le (e.first + span conf e.value) from || nat_le (from + n) e.first

-- no entry covers one of the n blocks from the place on
abbrev pub is_free : CacheConf → List Entry → ℕ → ℕ → Bool
is_free conf list n from = list_all (is_clear_of conf from n) list

-- the least of `count` places, from the given one on, at which the test holds
unfoldable pub least_place : (ℕ → Bool) → ℕ → ℕ → Option ℕ
least_place test zero from = None
least_place test (suc count) from = if test from then Some from else least_place test count (from + 1)

-- the least place from which n blocks exist and are free
abbrev pub first_run : CacheConf → List Entry → ℕ → Option ℕ
first_run conf list n = least_place (is_free conf list n) (conf.blocks + 1 - n) 0

-- there is room for one more entry, of n blocks
abbrev pub fits : CacheConf → List Entry → ℕ → Bool
fits conf list n = nat_lt (length list) conf.items && is_some (first_run conf list n)

-- the longest front of the list, of at most so many entries, that fits
unfoldable pub longest_front : CacheConf → List Entry → ℕ → ℕ → Option (List Entry)
longest_front conf list n zero = if fits conf [] n then Some [] else None
longest_front conf list n (suc count) =
    if fits conf (take (suc count) list) n then Some (take (suc count) list) else longest_front conf list n count

-- the entries that are alive
abbrev pub alive_of : CacheConf → ℕ → List Entry → List Entry
alive_of conf now list = filter (is_alive conf now) list

-- the list that has room for n blocks more: as it is; else without the dead; else its longest front; else emptied; each as its policy is set
abbrev pub room : CacheConf → List Entry → ℕ → ℕ → Option (List Entry)
room conf list n now =
    if fits conf list n then Some list
    else (if conf.sweep_on_full && fits conf (alive_of conf now list) n then Some (alive_of conf now list)
    else (if conf.purge_lru && is_some (longest_front conf list n (length list)) then longest_front conf list n (length list)
    else (if conf.clear_on_full then Some [] else None)))
