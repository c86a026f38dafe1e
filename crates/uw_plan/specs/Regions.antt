-- Where the parts of a cache's region stand (own rule).
use Rattle.uw_model.specs.declared.conf.CacheConf.{CacheConf}
use Rattle.uw_model.specs.Layout.{block_words, item_words, key_words, layout_of, record_words}
use Rattle.uw_words.specs.declared.shape.Shape.{Shape}
use Rattle.uw_intent.specs.declared.frame.Frame.{Frame}

-- the shape of a cache's region: its parts stand where the layout says
abbrev pub shape_of : CacheConf → Shape
shape_of conf = record {
  head = 0;
  bitmap = (layout_of conf).bitmap;
  chains = (layout_of conf).chains;
  items = (layout_of conf).items;
  stride = item_words conf;
  blocks = (layout_of conf).blocks;
  intent = (layout_of conf).intent;
  room = record_words conf;
  n_items = conf.items;
  n_blocks = conf.blocks;
  n_chains = conf.chains;
  key_words = key_words conf;
  block_words = block_words conf;
}

-- where the redo record of a region stands: the gate is header word 10, the used word header word 11
abbrev pub frame_of : Shape → Frame
frame_of shape = record { gate = 10; used = 11; start = shape.intent; room = shape.room }
