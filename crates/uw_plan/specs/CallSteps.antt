-- The steps by which a call on a cache is planned, whatever was planned before them (own rule).
use Rattle.std.specs.Prelude.{◌≡◌, ◌⊎◌, ℕ, ◌+◌, ◌*◌, ◌≤◌, List, [], ◌∷◌, ◌++◌, length, Option, None, Some, unwrap_or, Bool, MatchBool, MatchOption}
use Rattle.uw_model.specs.declared.conf.CacheConf.{CacheConf}
use Rattle.uw_model.specs.declared.entries.Entry.{Entry}
use Rattle.uw_model.specs.Entries.{new_entry, span}
use Rattle.uw_model.specs.Calls.{without}
use Rattle.uw_model.specs.Placement.{first_run, room}
use Rattle.uw_words.specs.declared.shape.Shape.{Shape}
use Rattle.uw_words.specs.Shapes.{bit_words}
use Rattle.uw_words.specs.Plans.{Plan}
use Rattle.uw_words.specs.Numbers.{AreDistinct}
use Rattle.uw_words.specs.Parts.{seen}
use Rattle.uw_words.specs.Texts.{text_words}
use Rattle.uw_plan.specs.Agreement.{AgreesAs}
use Rattle.uw_plan.specs.Bounds.{all_run_places}
use Rattle.uw_plan.specs.Plans.{Costs, IsPaired, bit_places, count_of_others}
use Rattle.uw_plan.specs.Regions.{shape_of}

-- the words that a reader gives agree with some list
abbrev pub HasEntries : (ℕ → ℕ) → CacheConf → Type 0
HasEntries reader conf = (items : List ℕ) × (list : List Entry) × AgreesAs reader (shape_of conf) conf items list

-- the item is the one that holds an entry, none where there is no entry
abbrev pub IsItemOf : List ℕ → List Entry → Option Entry → Option ℕ → Type 0
IsItemOf items list entry item = MatchOption item (entry ≡ None) (λ i. (e : Entry) × ((entry ≡ Some e) × IsPaired items list i e))

-- the entry is in the list
abbrev pub IsEntryOf : List Entry → Entry → Type 0
IsEntryOf [] e = ⊥
IsEntryOf (first ∷ list) e = (first ≡ e) ⊎ IsEntryOf list e

-- entries leave a list one after the other, and these are left
abbrev pub LeaveOneByOne : (list gone kept : List Entry) → Type 0
LeaveOneByOne list [] kept = list ≡ kept
LeaveOneByOne list (e ∷ gone) kept = IsEntryOf list e × LeaveOneByOne (without e.key list) gone kept

-- an overlay can name so many words more beside all of the bitmap's
pub record HasSpare (shape : Shape) (most : ℕ) (plan : Plan) : Type 0 where
  pub room : count_of_others shape plan + bit_words shape.n_blocks + most ≤ plan.room
  pub distinct : AreDistinct (bit_places shape plan)

-- an overlay can name the words more by which all entries of a list leave it, and so many beside them
abbrev pub HasSpareFor : CacheConf → (list : List Entry) → (most : ℕ) → Plan → Type 0
HasSpareFor conf list most plan = HasSpare (shape_of conf) (16 * length list + most) plan

-- entries left the list with which a region agrees: its words agree with the others, and words are planned for those alone
pub record Leaves (conf : CacheConf) (words : List ℕ) (before now : Plan) (list kept : List Entry) : Type 0 where
  pub gone : List Entry
  pub items : List ℕ
  pub leave : LeaveOneByOne list gone kept
  pub agrees : AgreesAs (seen now words) (shape_of conf) conf items kept
  pub costs : Costs (shape_of conf) (16 * length gone) (all_run_places conf gone) before now

-- entries left the list, and then one came in front of those that are left
pub record Enters (conf : CacheConf) (words : List ℕ) (before now : Plan) (list : List Entry) (e : Entry) (kept : List Entry) : Type 0 where
  pub gone : List Entry
  pub items : List ℕ
  pub leave : LeaveOneByOne list gone kept
  pub agrees : AgreesAs (seen now words) (shape_of conf) conf items (e ∷ kept)
  pub costs : Costs (shape_of conf) (16 * length gone + (32 + text_words (length e.key) + text_words (length e.value))) (all_run_places conf (gone ++ e ∷ [])) before now

-- an entry of this key and value was written in front of the list, in room that is made at a moment, or no policy makes room
abbrev pub IsPut : CacheConf → List ℕ → (before now : Plan) → (moment : ℕ) → (key value : List ℕ) → (dies : ℕ) → List Entry → Bool → Type 0
IsPut conf words before now moment key value dies list done =
    let n = span conf value in
    let kept_by = room conf (without key list) n moment in
    MatchBool done
    ((kept : List Entry) × ((kept_by ≡ Some kept) × Enters conf words before now list (new_entry key value dies (unwrap_or (first_run conf kept n) 0) moment) kept))
    (kept_by ≡ None)
