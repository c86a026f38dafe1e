-- A cache as a list of entries, the most recent first ("The Caching framework").
use Rattle.std.specs.Prelude.{◌≡◌, ◌≢◌, ℕ, ◌+◌, ◌-◌, ◌*◌, ◌/◌, ◌%◌, ◌<◌, ◌≤◌, min, max, false, if◌then◌else◌, List, [], ◌∷◌, length}
use Rattle.uw_model.specs.declared.conf.CacheConf.{CacheConf}
use Rattle.uw_model.specs.declared.entries.Entry.{Entry}

-- the numbers of a configuration lie within their limits, and without the bitmap there are as many blocks as items (own rule)
pub record IsCacheConf (conf : CacheConf) : Type 0 where
  pub items : (1 ≤ conf.items) × (conf.items ≤ 1048576)
  pub blocksize : (8 ≤ conf.blocksize) × (conf.blocksize ≤ 1048576)
  pub words : conf.blocksize % 8 ≡ 0
  pub blocks : (1 ≤ conf.blocks) × (conf.blocks ≤ 16777216)
  pub keysize : (1 ≤ conf.keysize) × (conf.keysize ≤ 65535)
  pub chains : (1 ≤ conf.chains) × (conf.chains ≤ 1048576)
  pub no_bitmap : conf.bitmap ≡ false → conf.blocks ≡ conf.items

-- the entry that is written now under a key: its value, when it dies, 0 for never, and its first block are given
abbrev pub new_entry : List ℕ → List ℕ → ℕ → ℕ → ℕ → Entry
new_entry key value dies first now = record { key = key; value = value; dies = dies; first = first }

-- the longest value, in bytes: a block, or with the bitmap all blocks, and never more than 65,536 (own rule)
abbrev pub max_value : CacheConf → ℕ
max_value conf = min 65536 (if conf.bitmap then conf.blocks * conf.blocksize else conf.blocksize)

-- how many blocks a value of so many bytes takes, at least one
abbrev pub span_of : CacheConf → ℕ → ℕ
span_of conf len = max 1 ((len + (conf.blocksize - 1)) / conf.blocksize)

-- how many blocks a value takes
abbrev pub span : CacheConf → List ℕ → ℕ
span conf value = span_of conf (length value)

-- the entry covers the block
abbrev pub covers : CacheConf → Entry → ℕ → Type 0
covers conf e block = (e.first ≤ block) × (block < e.first + span conf e.value)

-- an entry that the configuration can hold: a key and a value of lengths that it allows, in blocks that exist
pub record IsEntry (conf : CacheConf) (e : Entry) : Type 0 where
  pub key : (1 ≤ length e.key) × (length e.key ≤ conf.keysize)
  pub value : length e.value ≤ max_value conf
  pub blocks : e.first + span conf e.value ≤ conf.blocks

-- two entries have different keys, and cover no block both
pub record IsApart (conf : CacheConf) (e o : Entry) : Type 0 where
  pub keys : e.key ≢ o.key
  pub blocks : (block : ℕ) → covers conf e block → covers conf o block → ⊥

-- an entry is apart from each of the list
abbrev pub IsApartFrom : CacheConf → Entry → List Entry → Type 0
IsApartFrom conf e [] = Unit {0}
IsApartFrom conf e (o ∷ list) = IsApart conf e o × IsApartFrom conf e list

-- each entry is one that the configuration can hold, and any two are apart
abbrev pub AreApart : CacheConf → List Entry → Type 0
AreApart conf [] = Unit {0}
AreApart conf (e ∷ list) = IsEntry conf e × IsApartFrom conf e list × AreApart conf list

-- a well-formed list of entries of a configuration
pub record IsState (conf : CacheConf) (list : List Entry) : Type 0 where
  pub few : length list ≤ conf.items
  pub apart : AreApart conf list
