-- What one ask did that was not answered, and the last ask of a list, which is answered.
use Rattle.std.proofs.Common.{◌≡◌, ℕ, ◌-◌, true, false, List, [], ◌∷◌, ◌++◌, length, get_or, set, Option, Err, subst, sym, ap, ◌∙◌, arith}
use Rattle.std.proofs.lemmas.List.{get_or_at, length-append, set_at}
use Rattle.uw_model.specs.declared.asks.Ask.{Ask}
use Rattle.uw_model.specs.declared.asks.AskAnswer.{AskAnswer}
use Rattle.uw_model.specs.declared.asks.Asked.{Asked}
use Rattle.uw_model.specs.declared.desk.DeskFault.{DeskFault}
use Rattle.uw_model.specs.declared.desk.DeskFault.TheVariants as faults
use Rattle.uw_model.specs.Asks.{Asking, Calls}

-- an ask that was not answered did the same, whatever its answers would have been
pub unanswered : {T U : Type 0} (kind : T → AskAnswer) (other : U → AskAnswer) (led : List Asking → ℕ → Type 0) (before now : Option (List ℕ)) (moment : ℕ) (ask : Ask) (fault : DeskFault)
    → Calls kind led before now moment ask (Err fault) → Calls other led before now moment ask (Err fault)
unanswered kind other led before now moment ask (faults.Died true) did = did
unanswered kind other led before now moment ask (faults.Died false) did = did
unanswered kind other led before now moment ask faults.Memory did = did

-- so did an ask that is the same
pub unanswered_as : {T : Type 0} (kind : T → AskAnswer) (led : List Asking → ℕ → Type 0) (before now : Option (List ℕ)) (moment : ℕ) (same ask : Ask) (fault : DeskFault)
    → same ≡ ask → Calls kind led before now moment ask (Err fault) → Calls (λ (answer : AskAnswer). answer) led before now moment same (Err fault)
unanswered_as kind led before now moment same ask fault e did =
    let Did : Ask → Type 0 = λ ask. Calls (λ (answer : AskAnswer). answer) led before now moment ask (Err fault) in
    subst Did (sym e) (unanswered kind (λ (answer : AskAnswer). answer) led before now moment ask fault did)

-- an ask with another answer
abbrev pub with_answer : AskAnswer → Asked → Asked
with_answer answer asked = record { ask = asked.ask; answer = answer }

-- the last ask of a list is answered
pub last_answered : (list front : List Asked) (last found : Asked) (answer : AskAnswer) (len : ℕ) → list ≡ front ++ last ∷ [] → len ≡ length list → found ≡ get_or list (len - 1) found
    → set list (len - 1) (with_answer answer found) ≡ front ++ with_answer answer last ∷ []
last_answered list front last found answer len e is here =
    let at : length front ≡ len - 1 = omega (arith, is, simp length-append at (ap length e)) in
    let same : found ≡ last = here ∙ ap (λ (l : List Asked). get_or l (len - 1) found) e ∙ get_or_at front last [] found (len - 1) at in
    ap (λ (l : List Asked). set l (len - 1) (with_answer answer found)) e ∙ set_at front last [] (with_answer answer found) (len - 1) at ∙ ap (λ (a : Asked). front ++ with_answer answer a ∷ []) same
