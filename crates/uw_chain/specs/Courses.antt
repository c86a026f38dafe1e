-- What is asked, answer by answer, and what comes of it (own rule).
use Rattle.std.specs.Prelude.{◌≡◌, List, [], ◌∷◌, Option, None, Some}
use Rattle.uw_model.specs.declared.asks.Ask.{Ask}
use Rattle.uw_model.specs.declared.asks.AskAnswer.{AskAnswer}
use Rattle.uw_model.specs.declared.asks.Asked.{Asked}

-- a course of asks: it has ended with a result; or it makes an ask, and the answer decides how it goes on
pub data Course (X : Type 0) : Type 0 where
  ended : X → Course X
  asking : Ask → (AskAnswer → Course X) → Course X

-- a course, and then the one that its result decides
abbrev pub and_then : {X Y : Type 0} → Course X → (X → Course Y) → Course Y
and_then (ended result) next = next result
and_then (asking ask more) next = asking ask (λ answer. and_then (more answer) next)

-- what comes next: an ask, or the end with a result
pub data Next (X : Type 0) : Type 0 where
  ask_next : Ask → Next X
  end_next : X → Next X

-- what comes next in a course after these answers
abbrev pub next_after : {X : Type 0} → Course X → List AskAnswer → Next X
next_after (ended result) answers = end_next result
next_after (asking ask more) [] = ask_next ask
next_after (asking ask more) (answer ∷ answers) = next_after (more answer) answers

-- a course unfolds by these asks, each the next one after the answers before it, and behind them is the rest of it
abbrev pub Unfolds : {X : Type 0} → Course X → List Asked → Course X → Type 0
Unfolds course [] rest = course ≡ rest
Unfolds (ended result) (asked ∷ more) rest = ⊥
Unfolds (asking ask next) (asked ∷ more) rest = (asked.ask ≡ ask) × Unfolds (next asked.answer) more rest
