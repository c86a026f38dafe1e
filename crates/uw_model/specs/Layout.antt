-- The words of a cache's region: its header, bitmap, chains, items, blocks and redo record, in this order (own rule).
use Rattle.std.specs.Prelude.{ℕ, ◌+◌, ◌*◌, ◌/◌}
use Rattle.std.specs.Int.{div_ceil}
use Rattle.uw_model.specs.declared.conf.CacheConf.{CacheConf}
use Rattle.uw_model.specs.declared.layout.Layout.{Layout}
use Rattle.uw_model.specs.Entries.{max_value}

-- words of the header
abbrev pub head_words : ℕ
head_words = 16

-- the fixed words of an item, before those of its key: the number that uw_words names `item_head`
abbrev pub fixed_item_words : ℕ
fixed_item_words = 8

-- words of a key
abbrev pub key_words : CacheConf → ℕ
key_words conf = div_ceil conf.keysize 8

-- words of a block
abbrev pub block_words : CacheConf → ℕ
block_words conf = conf.blocksize / 8

-- words of the longest value
abbrev pub value_words : CacheConf → ℕ
value_words conf = div_ceil (max_value conf) 8

-- words of an item
abbrev pub item_words : CacheConf → ℕ
item_words conf = fixed_item_words + key_words conf

-- words of the bitmap, which has a bit for each block
abbrev pub bitmap_words : CacheConf → ℕ
bitmap_words conf = (conf.blocks + 63) / 64

-- words of the chains, one for each
abbrev pub chain_words : CacheConf → ℕ
chain_words conf = conf.chains

-- words of all items
abbrev pub all_item_words : CacheConf → ℕ
all_item_words conf = conf.items * item_words conf

-- words of all blocks
abbrev pub all_block_words : CacheConf → ℕ
all_block_words conf = conf.blocks * block_words conf

-- how many words a call may plan: a third of the redo record's
abbrev pub plan_room : CacheConf → ℕ
plan_room conf = 32 + 16 * (conf.items + 1) + key_words conf + value_words conf + bitmap_words conf

-- words of the redo record, three for each planned word
abbrev pub record_words : CacheConf → ℕ
record_words conf = 3 * plan_room conf

-- words of the region: the sum of its parts
abbrev pub words_of : CacheConf → ℕ
words_of conf =
    head_words + bitmap_words conf + chain_words conf + all_item_words conf + all_block_words conf + record_words conf

-- where the parts behind the header begin: each behind those before it
abbrev pub layout_of : CacheConf → Layout
layout_of conf = record {
  bitmap = head_words;
  chains = head_words + bitmap_words conf;
  items = head_words + bitmap_words conf + chain_words conf;
  blocks = head_words + bitmap_words conf + chain_words conf + all_item_words conf;
  intent = head_words + bitmap_words conf + chain_words conf + all_item_words conf + all_block_words conf;
}
