use Rattle.std.proofs.Common.{refl}
use Rattle.httpdate.specs.Date.{unix_secs}
use Rattle.uw_subst.proofs.DateLemmas.{date_at_date, date_at_none, date_of_moment}
use Rattle.uw_subst.proofs.laws.dates_are_those_of_httpdate.Goals as goal

pub returns : goal.returns
returns c = record {
  text = λ date. date_at_date date (unix_secs date) refl;
  each = λ moment before. let found = date_of_moment moment before in (found.0, found.1);
  none = date_at_none;
}
