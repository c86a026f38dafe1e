use Rattle.std.proofs.Common.{◌==◌}
use Rattle.std.proofs.lemmas.List.{take_rest}
use Rattle.uw_base.proofs.TextLemmas.{list_any-found, list_any-lacks, slice_split-found, slice_split-lacks}
use Rattle.uw_base.proofs.texts.cut.Goals as goal

pub returns-in-Some-clause-found : goal.returns-in-Some-clause-found
returns-in-Some-clause-found c = list_any-found (λ byte. byte == c.args.at) c.args.text.now c.in-Some.place c.in-Some.ensures

pub returns-in-Some-clause-parts : goal.returns-in-Some-clause-parts
returns-in-Some-clause-parts c = rw take_rest (slice_split-found (λ byte. byte == c.args.at) c.args.text.now c.in-Some.place 0 c.in-Some.ensures)

pub returns-in-None-clause-found : goal.returns-in-None-clause-found
returns-in-None-clause-found c = list_any-lacks (λ byte. byte == c.args.at) c.args.text.now c.in-None.ensures

pub returns-in-None-clause-parts : goal.returns-in-None-clause-parts
returns-in-None-clause-parts c = slice_split-lacks (λ byte. byte == c.args.at) c.args.text.now c.in-None.ensures
