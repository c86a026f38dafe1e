-- How many word writes a call on a cache makes at most (own rule).
use Rattle.std.specs.Prelude.{ℕ, ◌+◌, ◌*◌, ◌==◌, not, Bool, false, true, ◌&&◌, ◌||◌, if◌then◌else◌, List, [], ◌∷◌, length, filter, flat_map, slice_get, Option, None, Some}
use Rattle.std.specs.List.{list_any}
use Rattle.std.specs.Str.{bytes_eq}
use Rattle.uw_model.specs.declared.conf.CacheConf.{CacheConf}
use Rattle.uw_model.specs.declared.entries.Entry.{Entry}
use Rattle.uw_model.specs.declared.calls.Call.{Call}
use Rattle.uw_model.specs.declared.calls.Answer.{Answer}
use Rattle.uw_model.specs.declared.calls.Call.TheVariants as calls
use Rattle.uw_model.specs.declared.calls.Answer.TheVariants as answers
use Rattle.uw_model.specs.Entries.{span}
use Rattle.uw_model.specs.Calls.{answer, next_state}
use Rattle.uw_words.specs.Parts.{with_places}
use Rattle.uw_words.specs.Texts.{text_words}
use Rattle.uw_bitmap.specs.Bits.{run_places}
use Rattle.uw_plan.specs.Regions.{shape_of}

-- the call writes an entry, and was not refused
abbrev pub has_written : Call → Answer → Bool
has_written (calls.Set key value ttl) answers.Done = true
has_written (calls.Update key value ttl) answers.Done = true
has_written (calls.Math op key by ttl) (answers.Number number) = true
has_written _ _ = false

-- the entry that a call wrote in front of the list
abbrev pub written_entry : CacheConf → List Entry → ℕ → Call → Option Entry
written_entry conf list now call =
    if has_written call (answer conf list now call) then slice_get (next_state conf list now call) 0 else None

-- two entries are the same
abbrev pub is_same_entry : Entry → Entry → Bool
is_same_entry e o = bytes_eq e.key o.key && bytes_eq e.value o.value && e.dies == o.dies && e.first == o.first

-- the entry is written anew: its key is that of the written one
abbrev pub is_overwritten : Option Entry → Entry → Bool
is_overwritten None e = false
is_overwritten (Some written) e = bytes_eq e.key written.key

-- the entries of a list that are not unchanged in the next one, or are written anew
abbrev pub lost_entries : List Entry → List Entry → Option Entry → List Entry
lost_entries list next written = filter (λ e. is_overwritten written e || not (list_any (is_same_entry e) next)) list

-- the bitmap words of the blocks of entries, one entry after the other
abbrev pub all_run_places : CacheConf → List Entry → List ℕ
all_run_places conf list = flat_map (λ e. run_places (shape_of conf) e.first (span conf e.value)) list

-- the bitmap words of the blocks of entries, each once
abbrev pub bitmap_places : CacheConf → List Entry → List ℕ
bitmap_places conf list = with_places [] (all_run_places conf list)

-- a get that is a use: the entry that it gives comes to the front
abbrev pub has_used : CacheConf → Call → Answer → Bool
has_used conf (calls.Get key) (answers.Value value) = conf.purge_lru
has_used conf _ _ = false

-- the entry that a call put in front of the list: the one that it wrote or used
abbrev pub front_entry : CacheConf → List Entry → ℕ → Call → Option Entry
front_entry conf list now call =
    if has_written call (answer conf list now call) || has_used conf call (answer conf list now call)
    then slice_get (next_state conf list now call) 0 else None

-- the words of a key and a value that are written
abbrev pub written_words : Option Entry → ℕ
written_words None = 0
written_words (Some e) = text_words (length e.key) + text_words (length e.value)

-- entries, and one that is put in front
abbrev pub with_front : Option Entry → List Entry → List Entry
with_front None lost = lost
with_front (Some e) lost = e ∷ lost

-- how many words are planned at most for entries that are lost, one that is written, and one that is put in front
abbrev pub most_planned : CacheConf → List Entry → (written front : Option Entry) → ℕ
most_planned conf lost written front =
    32 + 16 * (length lost + 1) + written_words written + length (bitmap_places conf (with_front front lost))

-- how many word writes a call makes at most: four for each word that is planned
abbrev pub most_writes : CacheConf → List Entry → ℕ → Call → ℕ
most_writes conf list now call =
    let written = written_entry conf list now call in
    4 * most_planned conf (lost_entries list (next_state conf list now call) written) written (front_entry conf list now call)
