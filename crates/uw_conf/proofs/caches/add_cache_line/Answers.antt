use Rattle.uw_conf.proofs.SoundLemmas.{draft_of_keeps}
use Rattle.uw_conf.proofs.caches.add_cache_line.Goals as goal

pub add_draft-requires-clause-draft : goal.add_draft-requires-clause-draft
add_draft-requires-clause-draft c = rw c.draft_of-draft.ensures (draft_of_keeps c.args.text.now)
