-- The steps by which a text is read as parts.
use Rattle.std.specs.Prelude.{◌≡◌, ℕ, ◌<◌, ◌≤◌, false, ◌||◌, List, ◌++◌, length, drop, All}
use Rattle.std.specs.List.{flat_map, list_any}
use Rattle.uw_base.specs.declared.variables.Pair.{Pair}
use Rattle.uw_subst.specs.Forms.{Form, is_bad_form}
use Rattle.uw_subst.specs.Templates.{fault_of, filled, first_bad, has_form, pieces_of}
use Rattle.uw_subst.specs.Parts.{IsPartOf, is_filled_part, part_form, part_text}
use Rattle.uw_subst.specs.declared.parts.Part.{Part}

-- the part stands for the form
pub record IsFormPart (text : List ℕ) (form : Form) (part : Part) : Type 0 where
  pub same : form ≡ part_form text part
  pub good : is_bad_form form ≡ false
  pub within : IsPartOf text part

-- from a place on, a text says what the part says, and then what it says from another place on
pub record IsNextPart (text : List ℕ) (at : ℕ) (part : Part) (end : ℕ) : Type 0 where
  pub same : (vars : List Pair) (captures : List (List ℕ)) (moment : ℕ) →
      filled (drop at text) vars captures moment ≡ part_text text vars captures moment part ++ filled (drop end text) vars captures moment
  pub forms : has_form (drop at text) ≡ (is_filled_part part || has_form (drop end text))
  pub good : first_bad at (pieces_of (drop at text)) ≡ first_bad end (pieces_of (drop end text))
  pub within : IsPartOf text part
  pub later : at < end
  pub inside : end ≤ length text

-- up to a place, the parts say what the text says
pub record AreReadUpTo (text : List ℕ) (parts : List Part) (at : ℕ) : Type 0 where
  pub same : (vars : List Pair) (captures : List (List ℕ)) (moment : ℕ) →
      flat_map (part_text text vars captures moment) parts ++ filled (drop at text) vars captures moment ≡ filled text vars captures moment
  pub forms : (list_any is_filled_part parts || has_form (drop at text)) ≡ has_form text
  pub good : first_bad at (pieces_of (drop at text)) ≡ fault_of text
  pub within : All (IsPartOf text) parts
  pub inside : at ≤ length text
