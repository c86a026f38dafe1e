-- A region written out by hand: that of a cache of four items of eight bytes each, as after a set of `a` to `one` and a set
-- of `b` to `two` that dies at the moment 100, but for the redo record, whose words say nothing and are 0 here (own rule).
use Rattle.std.specs.Prelude.{ℕ, List, [], ◌∷◌, ◌++◌, false, replicate}
use Rattle.uw_model.specs.declared.conf.CacheConf.{CacheConf}
use Rattle.uw_model.specs.declared.entries.Entry.{Entry}

-- the configuration of the example: `name=c,items=4,blocksize=8,keysize=8,hashsize=4`
abbrev pub example_conf : CacheConf
example_conf = record {
  name = 99 ∷ [];
  items = 4;
  blocksize = 8;
  blocks = 4;
  keysize = 8;
  chains = 4;
  bitmap = false;
  purge_lru = false;
  sweep_on_full = false;
  clear_on_full = false;
}

-- the entries of the example, the most recent first
abbrev pub example_list : List Entry
example_list =
    record { key = 98 ∷ []; value = 116 ∷ 119 ∷ 111 ∷ []; dies = 100; first = 1 }
    ∷ record { key = 97 ∷ []; value = 111 ∷ 110 ∷ 101 ∷ []; dies = 0; first = 0 }
    ∷ []

-- the header of the example: the layout's number; items, blocks, words of a block, words of a key and chains; the most recent and the
-- least recent item, the first free one, the items in use; the gate and the used word; four words of 0
abbrev pub example_head : List ℕ
example_head = 1 ∷ 4 ∷ 4 ∷ 1 ∷ 1 ∷ 4 ∷ 30 ∷ 21 ∷ 39 ∷ 2 ∷ 0 ∷ 0 ∷ 0 ∷ 0 ∷ 0 ∷ 0 ∷ []

-- the bitmap of the example, and its four chains: `a` falls on the first, `b` on the last
abbrev pub example_chains : List ℕ
example_chains = 3 ∷ 21 ∷ 0 ∷ 0 ∷ 30 ∷ []

-- the four items of the example, from word 21 on: next of the chain, more recent, less recent or next free, dies, first block, bytes of the
-- value, bytes of the key, hash of the key, and the key
abbrev pub example_items : List ℕ
example_items =
    (0 ∷ 30 ∷ 0 ∷ 0 ∷ 0 ∷ 3 ∷ 1 ∷ 177604 ∷ 97 ∷ [])
    ++ (0 ∷ 0 ∷ 21 ∷ 100 ∷ 1 ∷ 3 ∷ 1 ∷ 177607 ∷ 98 ∷ [])
    ++ (0 ∷ 0 ∷ 48 ∷ 0 ∷ 0 ∷ 0 ∷ 0 ∷ 0 ∷ 0 ∷ [])
    ++ (0 ∷ 0 ∷ 0 ∷ 0 ∷ 0 ∷ 0 ∷ 0 ∷ 0 ∷ 0 ∷ [])

-- the four blocks of the example, from word 57 on
abbrev pub example_blocks : List ℕ
example_blocks = 6647407 ∷ 7305076 ∷ 0 ∷ 0 ∷ []

-- all words of the example: behind the blocks stands the redo record, of 345 words that say nothing
abbrev pub example_words : List ℕ
example_words = example_head ++ example_chains ++ example_items ++ example_blocks ++ replicate 345 0
