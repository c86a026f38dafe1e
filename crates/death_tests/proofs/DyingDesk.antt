-- What a desk whose worker may die did, by what the plain desk in it did and what the life let through.
use Rattle.std.proofs.Common.{◌≡◌, ℕ, ◌+◌, Bool, true, false, not, List, [], ◌∷◌, Option, None, Some, Ok, Err, refl, sym, ap, subst, ◌∙◌, arith}
use Rattle.std.specs.Prelude.{IfSome}
use Rattle.std.specs.Option.{option_map}
use Rattle.uw_outside.specs.Lives.{Allows, IsSpent, Spends, is_spent, raised}
use Rattle.uw_model.specs.declared.asks.Ask.{Ask}
use Rattle.uw_model.specs.declared.asks.AskAnswer.{AskAnswer}
use Rattle.uw_model.specs.declared.desk.DeskFault.{DeskFault}
use Rattle.uw_model.specs.declared.desk.DeskFault.TheVariants as faults
use Rattle.uw_model.specs.Asks.{Asking, Calls}
use Rattle.uw_model.specs.Lists.{LeadsLists, Lists}

-- asks lead lists on, whatever the number of word writes
abbrev pub leading : Lists → Lists → List Asking → ℕ → Type 0
leading a b asked writes = LeadsLists a asked b

-- two word writes were let through
two_writes : (before middle now : Option (List ℕ)) → Spends before middle 1 → Spends middle now 1 → Spends before now 2
two_writes before middle now early late = early ∙ ap (option_map (raised 1)) late ∙ twice now
  where
    twice : (told : Option (List ℕ)) → option_map (raised 1) (option_map (raised 1) told) ≡ option_map (raised 2) told
    twice None = refl
    twice (Some []) = refl
    twice (Some (count ∷ others)) = let e : (count + 1) + 1 ≡ count + 2 = omega arith in ap (λ (n : ℕ). Some (n ∷ others)) e

-- the life refused, and is spent
spent_now : (before now : Option (List ℕ)) (alive : Bool) → alive ≡ true → Allows before now alive false → IsSpent now
spent_now before now alive is allows = subst IsSpent (sym (allows.kept refl)) (spent before (allows.refused is))
  where
    spent : (left : Option (List ℕ)) → IfSome left (λ allowances. false ≡ not (is_spent allowances)) → IsSpent left
    spent None h = tt
    spent (Some allowances) h = go (is_spent allowances) h
      where
        go : (b : Bool) → false ≡ not b → b ≡ true
        go true h = refl
        go false h = h

module _ {T : Type 0} (kind : T → AskAnswer) (a b : Lists) (moment : ℕ) (ask : Ask) where
  -- a call was answered between two word writes
  pub answered_between : (before middle now : Option (List ℕ)) (alive living : Bool) (answer : T) → Allows before middle alive true → Allows middle now living true
      → Calls kind (leading a b) (Some []) (Some []) moment ask (Ok answer) → Calls kind (leading a b) before now moment ask (Ok answer)
  answered_between before middle now alive living answer first second made =
      (2, made.1, two_writes before middle now (first.counted refl) (second.counted refl))

  -- the worker died behind its call
  pub died_behind : (before middle now : Option (List ℕ)) (alive living : Bool) (answer : T) → living ≡ true → Allows before middle alive true
      → Allows middle now living false → Calls kind (leading a b) (Some []) (Some []) moment ask (Ok answer)
      → Calls kind (leading a b) before now moment ask (Err (faults.Died true))
  died_behind before middle now alive living answer lives first second made =
      (spent_now middle now living lives second, (kind answer, (1, made.1, subst (λ (n : Option (List ℕ)). Spends before n 1) (sym (second.kept refl)) (first.counted refl))))

  -- there was no memory for the call
  pub not_made : (before middle : Option (List ℕ)) (alive : Bool) (fault : DeskFault) → Allows before middle alive true
      → Calls kind (leading a b) (Some []) (Some []) moment ask (Err fault) → Calls kind (leading a b) before middle moment ask (Err fault)
  not_made before middle alive (faults.Died true) first made = let spent : false ≡ true = made.0 in absurd (cc)
  not_made before middle alive (faults.Died false) first made = let spent : false ≡ true = made.0 in absurd (cc)
  not_made before middle alive faults.Memory first made = (1, made.1, first.counted refl)
