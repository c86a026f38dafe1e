-- Lines for faults, one behind the other.
use Rattle.std.proofs.Common.{◌≡◌, ℕ, ◌+◌, ◌<◌, List, [], ◌∷◌, ◌++◌, length, get_or, take, refl, sym, ap, subst, ◌∙◌, append_assoc}
use Rattle.std.proofs.lemmas.List.{append-nil, take_more}
use Rattle.uw_conf.specs.declared.conf.ConfFault.{ConfFault}
use Rattle.uw_check.specs.Reports.{TellsEach, fault_line}

-- one more line behind others
pub told_more : (path : List ℕ) (faults : List ConfFault) (text : List ℕ) (fault : ConfFault) (sentence : List ℕ)
    → TellsEach path faults text → TellsEach path (faults ++ fault ∷ []) (text ++ fault_line path fault sentence)
told_more path [] text fault sentence none =
    let line = fault_line path fault sentence in
    (sentence, [], ap (λ (whole : List ℕ). whole ++ line) none ∙ sym (append-nil line), refl)
told_more path (first ∷ faults) text fault sentence told =
    let line = fault_line path fault sentence in (
      told.0,
      told.1 ++ line,
      ap (λ (whole : List ℕ). whole ++ line) told.2 ∙ append_assoc (fault_line path first told.0) told.1 line,
      told_more path faults told.1 fault sentence told.3,
    )

-- so many lines for so many faults, and the next line
pub told_next : (path : List ℕ) (told : List ConfFault) (place : ℕ) (fault : ConfFault) (out sentence : List ℕ) → place < length told
    → TellsEach path (take place told) out → TellsEach path (take (place + 1) told) (out ++ fault_line path (get_or told place fault) sentence)
told_next path told place fault out sentence within each =
    subst (λ (faults : List ConfFault). TellsEach path faults (out ++ fault_line path (get_or told place fault) sentence))
    (sym (take_more told place fault within)) (told_more path (take place told) out (get_or told place fault) sentence each)

-- a text that is put behind what was put behind another
pub behind : (out front back first second : List ℕ) → first ≡ out ++ front → second ≡ first ++ back → second ≡ out ++ (front ++ back)
behind out front back first second is then = then ∙ ap (λ (text : List ℕ). text ++ back) is ∙ append_assoc out front back
