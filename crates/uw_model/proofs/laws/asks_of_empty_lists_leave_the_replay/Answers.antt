use Rattle.std.proofs.Common.{[]}
use Rattle.uw_model.specs.AreaOps.{blank_area}
use Rattle.uw_model.specs.Lists.{empty_lists}
use Rattle.uw_model.proofs.AreaHistoryLemmas.{blank_there, operations_replayed}
use Rattle.uw_model.proofs.HistoryLemmas.{asks_replayed, empty_there}
use Rattle.uw_model.proofs.laws.asks_of_empty_lists_leave_the_replay.Goals as goal

pub returns-clause-list : goal.returns-clause-list
returns-clause-list c confs sizes now asked cache conf led here =
    (asks_replayed (empty_lists confs sizes) now asked cache (record { conf = conf; list = [] }) led (empty_there confs cache conf here)).0

pub returns-clause-answers : goal.returns-clause-answers
returns-clause-answers c confs sizes now asked cache place conf led here =
    (asks_replayed (empty_lists confs sizes) now asked cache (record { conf = conf; list = [] }) led (empty_there confs cache conf here)).1 place

pub returns-clause-area : goal.returns-clause-area
returns-clause-area c confs sizes now asked area size led here =
    (operations_replayed (empty_lists confs sizes) now asked area (blank_area size) led (blank_there sizes area size here)).0

pub returns-clause-area_answers : goal.returns-clause-area_answers
returns-clause-area_answers c confs sizes now asked area place size led here =
    (operations_replayed (empty_lists confs sizes) now asked area (blank_area size) led (blank_there sizes area size here)).1 place
