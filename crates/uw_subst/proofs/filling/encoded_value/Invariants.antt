use Rattle.std.proofs.Common.{◌≡◌}
use Rattle.form_urlencoded.specs.Form.{raw_pairs}
use Rattle.form_urlencoded.specs.Parse.{raw_pairs_left}
use Rattle.uw_subst.specs.Queries.{value_among}
use Rattle.uw_subst.proofs.filling.encoded_value.Given as goal

-- so far no name was this one
abbrev pub invariant-loop-encoded : goal.invariant-loop-encoded
invariant-loop-encoded l = value_among l.name (raw_pairs_left l.encoded-iterator) ≡ value_among l.name (raw_pairs l.query)
