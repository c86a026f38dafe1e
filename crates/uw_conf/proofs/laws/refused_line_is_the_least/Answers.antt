use Rattle.uw_conf.proofs.RefusalLemmas.{refused_is_least, none_refused}
use Rattle.uw_conf.proofs.laws.refused_line_is_the_least.Goals as goal

pub returns : goal.returns
returns c = record {
  refused = refused_is_least;
  none = λ text conf number says. (none_refused text conf says).0 number;
  says = λ text conf says. (none_refused text conf says).1;
}
