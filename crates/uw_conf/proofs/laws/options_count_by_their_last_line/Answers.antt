use Rattle.uw_conf.proofs.LastLineLemmas.{buffer_size_last, workers_last, harakiri_last, expire_freq_last, spoolers_last, spool_freq_last, socket_last}
use Rattle.uw_conf.proofs.laws.options_count_by_their_last_line.Goals as goal

pub returns : goal.returns
returns c = record {
  buffer_size = buffer_size_last;
  workers = workers_last;
  harakiri = harakiri_last;
  expire_freq = expire_freq_last;
  spoolers = spoolers_last;
  spool_freq = spool_freq_last;
  socket = socket_last;
}
