-- What a call that makes writes leaves, whether a life let all of them through or not.
use Rattle.std.proofs.Common.{◌≡◌, ℕ, List, Option, Result, Ok, Err, OnOk, OnErr, length, take, sym, ap, ◌∙◌, arith}
use Rattle.std.proofs.lemmas.List.{take_all}
use Rattle.uw_outside.specs.declared.life.Died.{Died}
use Rattle.uw_intent.specs.declared.frame.WordWrite.{WordWrite}
use Rattle.uw_intent.specs.Stores.{words_after, AllMade, SomeMade}

-- the words after the first of the writes
pub record Made (writes : List WordWrite) (old now : List ℕ) : Type 0 where
  pub count : ℕ
  pub words : now ≡ words_after (take count writes) old

pub made_by : (writes : List WordWrite) (old now : List ℕ) (told left : Option (List ℕ)) (answer : Result (Unit {0}) Died)
    → OnOk answer (AllMade writes old now told left) → OnErr answer (SomeMade writes old now told left) → Made writes old now
made_by writes old now told left (Ok done) all part = record {
  count = length writes;
  words = all.words ∙ ap (λ (l : List WordWrite). words_after l old) (sym (take_all (length writes) writes (omega arith)));
}
made_by writes old now told left (Err died) all part = record { count = part.count; words = part.words }
