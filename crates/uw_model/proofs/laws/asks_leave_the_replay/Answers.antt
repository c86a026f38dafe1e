use Rattle.uw_model.proofs.AreaHistoryLemmas.{operations_replayed}
use Rattle.uw_model.proofs.HistoryLemmas.{asks_replayed}
use Rattle.uw_model.proofs.laws.asks_leave_the_replay.Goals as goal

pub returns-clause-list : goal.returns-clause-list
returns-clause-list c before now asked cache state led here = (asks_replayed before now asked cache state led here).0

pub returns-clause-answers : goal.returns-clause-answers
returns-clause-answers c before now asked cache place state led here = (asks_replayed before now asked cache state led here).1 place

pub returns-clause-area : goal.returns-clause-area
returns-clause-area c before now asked area state led here = (operations_replayed before now asked area state led here).0

pub returns-clause-area_answers : goal.returns-clause-area_answers
returns-clause-area_answers c before now asked area place state led here = (operations_replayed before now asked area state led here).1 place
