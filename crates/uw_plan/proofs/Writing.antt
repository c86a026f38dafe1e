-- An entry is written in front of the list, in room that is made for it.
use Rattle.std.proofs.Common.{◌≡◌, inl, inr, ℕ, ◌+◌, ◌*◌, true, false, cond, not, List, [], ◌∷◌, ◌++◌, length, None, Some, unwrap_or, refl, sym, ap, ◌∙◌, subst, arith}
use Rattle.std.proofs.lemmas.Bool.{and_from, cases_Bool, cond-false, not_from_false}
use Rattle.std.proofs.lemmas.List.{append-nil}
use Rattle.std.proofs.lemmas.Slice.Eq.{bytes_eq-Decides}
use Rattle.std.specs.Str.{bytes_eq}
use Rattle.uw_model.specs.declared.conf.CacheConf.{CacheConf}
use Rattle.uw_model.specs.declared.entries.Entry.{Entry}
use Rattle.uw_model.specs.declared.calls.Call.TheVariants as calls
use Rattle.uw_model.specs.Entries.{IsApart, IsApartFrom, IsCacheConf, IsState, new_entry, span}
use Rattle.uw_model.specs.declared.calls.Answer.TheVariants as answers
use Rattle.uw_model.specs.Calls.{Outcome, dies_at, is_bad_key, is_too_long, next_state, outcome, placed, refused, without, written}
use Rattle.uw_model.specs.KeySteps.{lacks}
use Rattle.uw_model.specs.Placement.{first_run, room}
use Rattle.uw_model.proofs.KeysLemmas.{without_none}
use Rattle.uw_model.proofs.NextStateLemmas.{next_is_state}
use Rattle.uw_words.specs.declared.shape.Shape.{Shape}
use Rattle.uw_words.specs.Shapes.{IsShape}
use Rattle.uw_words.specs.Plans.{Plan}
use Rattle.uw_words.specs.Numbers.{without_number}
use Rattle.uw_words.specs.Parts.{seen}
use Rattle.uw_words.specs.Texts.{text_words}
use Rattle.uw_bitmap.specs.Bits.{run_places}
use Rattle.uw_recency.proofs.Lists.{one_list}
use Rattle.uw_plan.specs.Regions.{shape_of}
use Rattle.uw_plan.specs.Parts.{HoldEntries}
use Rattle.uw_plan.specs.Agreement.{AgreesAs}
use Rattle.uw_plan.specs.Bounds.{all_run_places}
use Rattle.uw_plan.specs.Plans.{Costs, HasRoomFor, IsInUse, item_run_places}
use Rattle.uw_plan.specs.CallSteps.{Enters, HasSpare, HasSpareFor, IsItemOf, Leaves}
use Rattle.uw_plan.specs.KeyEntries.{entry_at}
use Rattle.uw_plan.proofs.Agreeing.{entries_once}
use Rattle.uw_plan.proofs.Shapes.{shape_of_conf}
use Rattle.uw_plan.proofs.Counting.{costs_then, room_of_spare, spare_after, spare_less}
use Rattle.uw_plan.proofs.OneByOne.{left_length, leaves_none, leaves_one, leaves_then, room_for_one, runs_then}

-- a reader's words agree with one list at most
pub agreed_once : (reader : ℕ → ℕ) (shape : Shape) → IsShape shape → (conf : CacheConf) (items others : List ℕ) (list other : List Entry) → AgreesAs reader shape conf items list
    → AgreesAs reader shape conf others other → list ≡ other
agreed_once reader shape is conf items others list other one two =
    let same : items ≡ others = sym one.is ∙ one_list shape reader one.parts.items two.parts.items is one.held.recency two.held.recency ∙ two.is in
    entries_once reader shape others list other (subst (λ (l : List ℕ). HoldEntries reader shape l list) same one.entries) two.entries

-- the entry of a key has it, and where there is none no entry leaves with it
pub entry_key : (list : List Entry) (key : List ℕ) (e : Entry) → entry_at list key ≡ Some e → e.key ≡ key
entry_key [] key e found = absurd (let none : ⊥ = cc in none)
entry_key (o ∷ list) key e found = elim (cases_Bool (bytes_eq o.key key)) [
  | inl same ↦
      let got : Some o ≡ Some e = sym (rw same refl) ∙ found in
      let is : o ≡ e = cc in
      ap (λ (x : Entry). x.key) (sym is) ∙ (bytes_eq-Decides o.key key).0 same
  | inr other ↦ entry_key list key e (let rest : entry_at list key ≡ Some e = sym (rw other refl) ∙ found in rest)
]

pub lacks_key : (list : List Entry) (key : List ℕ) → entry_at list key ≡ None → lacks key list ≡ true
lacks_key [] key none = refl
lacks_key (o ∷ list) key none = elim (cases_Bool (bytes_eq o.key key)) [
  | inl same ↦ absurd (let got : Some o ≡ None = sym (rw same refl) ∙ none in let nothing : ⊥ = cc in nothing)
  | inr other ↦
      let rest : entry_at list key ≡ None = sym (rw other refl) ∙ none in
      and_from (not (bytes_eq o.key key)) (lacks key list) (not_from_false (bytes_eq o.key key) other) (lacks_key list key rest)
]

module _ (conf : CacheConf) (is : IsCacheConf conf) (words : List ℕ) where
  -- what stays spare where entries leave
  pub spare_kept : (most : ℕ) (before now : Plan) (items : List ℕ) (list kept : List Entry) → AgreesAs (seen before words) (shape_of conf) conf items list
      → Leaves conf words before now list kept → HasSpareFor conf list most before → HasSpareFor conf kept most now
  spare_kept most before now items list kept agrees leaves spare =
      let count : 16 * length list + most ≡ 16 * length leaves.gone + (16 * length kept + most) =
      omega (arith, left_length conf is words leaves.gone list kept agrees.fits.state.apart leaves.leave) in
      spare_after (shape_of conf) (16 * length leaves.gone) (16 * length kept + most) (all_run_places conf leaves.gone) before now
      (subst (λ (n : ℕ). HasSpare (shape_of conf) n before) count spare) leaves.costs

  pub spare_alone : (list : List Entry) (most : ℕ) (plan : Plan) → HasSpareFor conf list most plan → HasSpareFor conf list 0 plan
  spare_alone list most plan spare = spare_less (shape_of conf) (16 * length list + 0) (16 * length list + most) plan (omega arith) spare

  -- the entry of a key leaves, where there is one
  module _ (before : Plan) (items : List ℕ) (list : List Entry) (agrees : AgreesAs (seen before words) (shape_of conf) conf items list) (key : List ℕ) where
    pub key_unheld : IsItemOf items list (entry_at list key) None → Leaves conf words before before list (without key list)
    key_unheld none =
        subst (λ (l : List Entry). Leaves conf words before before list l) (sym (without_none list key (lacks_key list key none))) (leaves_none conf is words before items list agrees)

    module _ (item : ℕ) (found : IsItemOf items list (entry_at list key) (Some item)) where
      pub key_in_use : IsInUse (seen before words) (shape_of conf) conf item
      key_in_use = (items, list, found.0, (agrees, found.1.1))

      pub key_room : HasSpareFor conf list 0 before → HasRoomFor before 16 (item_run_places (seen before words) (shape_of conf) conf item)
      key_room spare = room_for_one conf is words (seen before words) items list agrees before item found.0 found.1.1 spare

      pub key_gone : (now : Plan) → AgreesAs (seen now words) (shape_of conf) conf (without_number items item) (without found.0.key list)
          → Costs (shape_of conf) 16 (item_run_places (seen before words) (shape_of conf) conf item) before now → Leaves conf words before now list (without key list)
      key_gone now left costs =
          subst (λ (k : List ℕ). Leaves conf words before now list (without k list)) (entry_key list key found.0 found.1.0)
          (leaves_one conf is words before now items list item found.0 agrees found.1.1 left costs)

-- an entry is apart from others whenever it dies
module _ (conf : CacheConf) (key value : List ℕ) (dies other first now : ℕ) where
  apart_at : (o : Entry) → IsApart conf (new_entry key value dies first now) o → IsApart conf (new_entry key value other first now) o
  apart_at o apart = record { keys = apart.keys; blocks = apart.blocks }

  apart_from_at : (list : List Entry) → IsApartFrom conf (new_entry key value dies first now) list → IsApartFrom conf (new_entry key value other first now) list
  apart_from_at [] apart = tt
  apart_from_at (o ∷ list) apart = (apart_at o apart.0, apart_from_at list apart.1)

  pub state_at : (list : List Entry) → IsState conf (new_entry key value dies first now ∷ list) → IsState conf (new_entry key value other first now ∷ list)
  state_at list state =
      let entry = state.apart.0 in
      record { few = state.few; apart = (record { key = entry.key; value = entry.value; blocks = entry.blocks }, apart_from_at list state.apart.1, state.apart.2) }

-- the entry that is written, in front of those that room was made of, is one of a state
pub entered_state : (conf : CacheConf) (list kept : List Entry) (now : ℕ) (key value : List ℕ) (dies : ℕ) → IsCacheConf conf → is_bad_key conf key ≡ false → is_too_long conf value ≡ false
    → IsState conf list → room conf (without key list) (span conf value) now ≡ Some kept
    → IsState conf (new_entry key value dies (unwrap_or (first_run conf kept (span conf value)) 0) now ∷ kept)
entered_state conf list kept now key value dies is good short state some =
    let first = unwrap_or (first_run conf kept (span conf value)) 0 in
    let after : Outcome = written conf list now key value (dies_at now 0) answers.Done in
    let long : Outcome = cond (is_too_long conf value) (refused answers.TooLong list) after in
    let all : outcome conf list now (calls.Update key value 0) ≡ placed conf list now key value (dies_at now 0) answers.Done (Some kept) =
    cond-false (is_bad_key conf key) (refused answers.KeyLength list) long good ∙ cond-false (is_too_long conf value) (refused answers.TooLong list) after short
    ∙ ap (placed conf list now key value (dies_at now 0) answers.Done) some in
    let next : next_state conf list now (calls.Update key value 0) ≡ new_entry key value 0 first now ∷ kept = ap (λ (o : Outcome). o.list) all in
    state_at conf key value 0 dies first now kept (subst (IsState conf) next (next_is_state conf list now (calls.Update key value 0) is state))

-- room was made for so many blocks in a list
abbrev pub HasMade : CacheConf → List ℕ → (before now : Plan) → List Entry → (moment first n : ℕ) → Type 0
HasMade conf words before now list moment first n =
    (kept : List Entry) × ((room conf list n moment ≡ Some kept) × (unwrap_or (first_run conf kept n) 0 ≡ first) × Leaves conf words before now list kept)

-- the entry of the key has left, room is made, and the new entry comes in front
module _ (conf : CacheConf) (is : IsCacheConf conf) (words : List ℕ) (before mid : Plan) (items : List ℕ) (list : List Entry)
    (agrees : AgreesAs (seen before words) (shape_of conf) conf items list) (key value : List ℕ) (dies moment : ℕ)
    (removed : Leaves conf words before mid list (without key list))
    (spare : HasSpareFor conf list (32 + text_words (length key) + text_words (length value)) before) where
  abbrev most : ℕ
  most = 32 + text_words (length key) + text_words (length value)

  abbrev n : ℕ
  n = span conf value

  mid_spare : HasSpareFor conf (without key list) most mid
  mid_spare = spare_kept conf is words most before mid items list (without key list) agrees removed spare

  pub mid_room : (others : List ℕ) (other : List Entry) → AgreesAs (seen mid words) (shape_of conf) conf others other → HasSpareFor conf other 0 mid
  mid_room others other held =
      let same : without key list ≡ other =
      agreed_once (seen mid words) (shape_of conf) (shape_of_conf conf is).is conf removed.items others (without key list) other removed.agrees held in
      subst (λ (l : List Entry). HasSpareFor conf l 0 mid) same (spare_alone conf is words (without key list) most mid mid_spare)

  module _ (good : is_bad_key conf key ≡ false) (short : is_too_long conf value ≡ false) (now : Plan) (first : ℕ)
      (made : HasMade conf words mid now (without key list) moment first n) where
    abbrev pub kept : List Entry
    kept = made.0

    first_is : unwrap_or (first_run conf kept n) 0 ≡ first
    first_is = made.1.1

    abbrev pub leaves : Leaves conf words mid now (without key list) kept
    leaves = made.1.2

    abbrev pub entry : Entry
    entry = new_entry key value dies first moment

    pub put_state : IsState conf (entry ∷ kept)
    put_state =
        subst (λ (f : ℕ). IsState conf (new_entry key value dies f moment ∷ kept)) first_is
        (entered_state conf list kept moment key value dies is good short agrees.fits.state made.1.0)

    left : Leaves conf words before now list kept
    left = leaves_then conf is words before mid now list (without key list) kept removed leaves

    pub put_room : HasRoomFor now most (run_places (shape_of conf) first n)
    put_room =
        let after : HasSpareFor conf kept most now = spare_kept conf is words most mid now removed.items (without key list) kept removed.agrees leaves mid_spare in
        room_of_spare (shape_of conf) (shape_of_conf conf is).is most first n now put_state.apart.0.blocks
        (spare_less (shape_of conf) most (16 * length kept + most) now (omega arith) after)

    module _ (done : Plan) (item : ℕ) (added : AgreesAs (seen done words) (shape_of conf) conf (item ∷ leaves.items) (entry ∷ kept))
        (costs : Costs (shape_of conf) most (run_places (shape_of conf) first n) now done) where
      all_costs : Costs (shape_of conf) (16 * length left.gone + most) (all_run_places conf (left.gone ++ entry ∷ [])) before done
      all_costs =
          let own : run_places (shape_of conf) first n ≡ all_run_places conf (entry ∷ []) = sym (append-nil (run_places (shape_of conf) first n)) in
          subst (λ (run : List ℕ). Costs (shape_of conf) (16 * length left.gone + most) run before done)
          (ap (λ (run : List ℕ). all_run_places conf left.gone ++ run) own ∙ runs_then conf left.gone (entry ∷ []))
          (costs_then (shape_of conf) (16 * length left.gone) most (all_run_places conf left.gone) (run_places (shape_of conf) first n) before now done left.costs costs)

      pub entered : Enters conf words before done list (new_entry key value dies (unwrap_or (first_run conf kept n) 0) moment) kept
      entered =
          subst (λ (f : ℕ). Enters conf words before done list (new_entry key value dies f moment) kept) (sym first_is)
          record { gone = left.gone; items = item ∷ leaves.items; leave = left.leave; agrees = added; costs = all_costs }
