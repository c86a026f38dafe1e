use Rattle.std.proofs.Common.{refl}
use Rattle.uw_words.proofs.Links.{walk_same}
use Rattle.uw_words.proofs.laws.walk_depends_on_its_links.Goals as goal

pub returns : goal.returns
returns c = λ shape link field items before now agree walk. walk_same shape before now field items link (λ item one. agree _ (item, (one, refl))) walk
