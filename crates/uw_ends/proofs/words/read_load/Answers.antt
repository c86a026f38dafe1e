use Rattle.std.proofs.Common.{◌∙◌, map, sym, ap}
use Rattle.std.specs.String.{string_bytes}
use Rattle.clap.specs.Words.{App, found_of, matches_of, rows_of}
use Rattle.uw_ends.specs.Words.{is_taken}
use Rattle.uw_ends.proofs.LoadLemmas.{load_is}
use Rattle.uw_ends.proofs.words.read_load.Goals as goal

pub returns-in-Some-Some-clause-command : goal.returns-in-Some-Some-clause-command
returns-in-Some-Some-clause-command c =
    let words = map string_bytes c.args.words.now in
    let taken = ap (λ (app : App). is_taken app words) (sym c.in_ok-load_command.ensures) ∙ c.in_ok-matches.ensures.taken in
    let found = c.in_ok-matches.ensures.found ∙ ap (λ (app : App). matches_of app words) c.in_ok-load_command.ensures in
    load_is words (rows_of (found_of c.in_ok-matches.matches)) c.in-Some-Some.first c.in-Some-Some.count taken found
    (sym c.number_given-first.ensures.number ∙ c.in-Some-Some.is-0) (sym c.number_given-count.ensures.number ∙ c.in-Some-Some.is-1)
