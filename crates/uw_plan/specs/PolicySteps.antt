-- What the policies leave of a list, one after the other.
use Rattle.std.specs.Prelude.{ℕ, List, if◌then◌else◌}
use Rattle.uw_model.specs.declared.conf.CacheConf.{CacheConf}
use Rattle.uw_model.specs.declared.entries.Entry.{Entry}
use Rattle.uw_model.specs.Placement.{alive_of}

-- the entries that are alive at a moment, or where no sweep makes room all of them
abbrev pub swept_where_set : CacheConf → ℕ → List Entry → List Entry
swept_where_set conf moment list = if conf.sweep_on_full then alive_of conf moment list else list
