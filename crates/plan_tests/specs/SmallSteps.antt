-- The small cache of the tests, and the entries that are added to it (own rule).
use Rattle.std.specs.Prelude.{[], ◌∷◌, false}
use Rattle.uw_model.specs.declared.conf.CacheConf.{CacheConf}
use Rattle.uw_model.specs.declared.entries.Entry.{Entry}

-- four items of eight bytes each, on four chains
abbrev pub small_conf : CacheConf
small_conf = record {
  name = [];
  items = 4;
  blocksize = 8;
  blocks = 4;
  keysize = 8;
  chains = 4;
  bitmap = false;
  purge_lru = false;
  sweep_on_full = false;
  clear_on_full = false;
}

-- `a`, which is `one`
abbrev pub first_entry : Entry
first_entry = record { key = 97 ∷ []; value = 111 ∷ 110 ∷ 101 ∷ []; dies = 0; first = 0 }

-- `b`, which is `two` up to the moment 100
abbrev pub second_entry : Entry
second_entry = record { key = 98 ∷ []; value = 116 ∷ 119 ∷ 111 ∷ []; dies = 100; first = 1 }

-- `e`, which is `eightlet`
abbrev pub third_entry : Entry
third_entry = record {
  key = 101 ∷ [];
  value = 101 ∷ 105 ∷ 103 ∷ 104 ∷ 116 ∷ 108 ∷ 101 ∷ 116 ∷ [];
  dies = 0;
  first = 2;
}
