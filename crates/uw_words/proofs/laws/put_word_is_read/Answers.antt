use Rattle.uw_words.proofs.Growth.{read_put}
use Rattle.uw_words.proofs.laws.put_word_is_read.Goals as goal

pub returns : goal.returns
returns c = read_put
