-- Entries leave the list with which a region agrees, one after the other.
use Rattle.std.proofs.Common.{◌≡◌, inl, inr, ℕ, suc, ◌+◌, ◌*◌, ◌<◌, false, not, List, [], ◌∷◌, ◌++◌, length, append-nil, append_assoc, refl, sym, ap, ◌∙◌, subst, arith}
use Rattle.std.proofs.lemmas.List.{length-append}
use Rattle.std.proofs.lemmas.Bool.{false_from_ne_true}
use Rattle.std.proofs.lemmas.Slice.Eq.{bytes_eq-Decides}
use Rattle.std.specs.Str.{bytes_eq}
use Rattle.uw_model.specs.declared.conf.CacheConf.{CacheConf}
use Rattle.uw_model.specs.declared.entries.Entry.{Entry}
use Rattle.uw_model.specs.Entries.{AreApart, IsApart, IsApartFrom, IsCacheConf, span, span_of}
use Rattle.uw_model.specs.Calls.{without}
use Rattle.uw_model.proofs.KeysLemmas.{same_key, without_none}
use Rattle.uw_model.proofs.PartLemmas.{part_apart, part_filter}
use Rattle.uw_model.proofs.StateLemmas.{lacks_apart}
use Rattle.uw_words.specs.declared.shape.Shape.{Shape}
use Rattle.uw_words.specs.Plans.{Plan}
use Rattle.uw_words.specs.Parts.{seen}
use Rattle.uw_words.specs.Numbers.{AreDistinct, without_number}
use Rattle.uw_words.specs.Walks.{item_word}
use Rattle.uw_bitmap.specs.Bits.{run_places}
use Rattle.uw_plan.specs.Regions.{shape_of}
use Rattle.uw_plan.specs.Agreement.{AgreesAs}
use Rattle.uw_plan.specs.Plans.{Costs, HasRoomFor, IsInUse, IsPaired, item_run_places}
use Rattle.uw_plan.specs.CallSteps.{HasSpare, HasSpareFor, IsEntryOf, LeaveOneByOne, Leaves}
use Rattle.uw_plan.specs.Bounds.{all_run_places}
use Rattle.uw_plan.proofs.Shapes.{shape_is, shape_of_conf}
use Rattle.uw_plan.proofs.Parted.{parted, parted_length}
use Rattle.uw_plan.proofs.Dropping.{first_word, run_within, span_word}
use Rattle.uw_plan.proofs.Counting.{costs_none, costs_then, room_of_spare, spare_after}

-- entries that leave one by one
pub entry_of_paired : (items : List ℕ) (list : List Entry) (item : ℕ) (e : Entry) → IsPaired items list item e → IsEntryOf list e
entry_of_paired [] list item e paired = absurd paired
entry_of_paired (first ∷ items) [] item e paired = absurd paired
entry_of_paired (first ∷ items) (o ∷ list) item e (inl both) = inl both.1
entry_of_paired (first ∷ items) (o ∷ list) item e (inr later) = inr (entry_of_paired items list item e later)

pub leave_then : (list gone mid more kept : List Entry) → LeaveOneByOne list gone mid → LeaveOneByOne mid more kept → LeaveOneByOne list (gone ++ more) kept
leave_then list [] mid more kept first second = subst (λ (l : List Entry). LeaveOneByOne l more kept) (sym first) second
leave_then list (e ∷ gone) mid more kept first second = (first.0, leave_then (without e.key list) gone mid more kept first.1 second)

pub runs_then : (conf : CacheConf) (gone more : List Entry) → all_run_places conf gone ++ all_run_places conf more ≡ all_run_places conf (gone ++ more)
runs_then conf [] more = refl
runs_then conf (e ∷ gone) more =
    append_assoc (run_places (shape_of conf) e.first (span conf e.value)) (all_run_places conf gone) (all_run_places conf more)
    ∙ ap (λ (l : List ℕ). run_places (shape_of conf) e.first (span conf e.value) ++ l) (runs_then conf gone more)

-- an entry of a list whose entries are apart
pub apart_entry : (conf : CacheConf) (o : Entry) (list : List Entry) (e : Entry) → IsApartFrom conf o list → IsEntryOf list e → IsApart conf o e
apart_entry conf o [] e apart of = absurd of
apart_entry conf o (p ∷ list) e apart (inl same) = subst (IsApart conf o) same apart.0
apart_entry conf o (p ∷ list) e apart (inr later) = apart_entry conf o list e apart.1 later

without_here : (conf : CacheConf) (e : Entry) (list : List Entry) → IsApartFrom conf e list → without e.key (e ∷ list) ≡ list
without_here conf e list apart = rw (same_key e.key) (without_none list e.key (lacks_apart conf e list apart))

without_later : (conf : CacheConf) (o e : Entry) (list : List Entry) → IsApart conf o e → without e.key (o ∷ list) ≡ o ∷ without e.key list
without_later conf o e list apart =
    let other : bytes_eq o.key e.key ≡ false = false_from_ne_true (bytes_eq o.key e.key) (λ same. apart.keys ((bytes_eq-Decides o.key e.key).0 same)) in
    rw other refl

without_length : (conf : CacheConf) (list : List Entry) (e : Entry) → AreApart conf list → IsEntryOf list e → length list ≡ suc (length (without e.key list))
without_length conf [] e apart of = absurd of
without_length conf (o ∷ list) e apart (inl same) =
    let here : length (without o.key (o ∷ list)) ≡ length list = ap length (without_here conf o list apart.1) in
    subst (λ (x : Entry). length (o ∷ list) ≡ suc (length (without x.key (o ∷ list)))) same (ap suc (sym here))
without_length conf (o ∷ list) e apart (inr later) =
    ap suc (without_length conf list e apart.2 later) ∙ sym (ap (λ (l : List Entry). suc (length l)) (without_later conf o e list (apart_entry conf o list e apart.1 later)))

-- the list without an entry in its midst
in_midst : (front : List Entry) (e : Entry) (back : List Entry) → IsEntryOf (front ++ (e ∷ back)) e
in_midst [] e back = inl refl
in_midst (o ∷ front) e back = inr (in_midst front e back)

pub without_midst : (conf : CacheConf) (front : List Entry) (e : Entry) (back : List Entry) → AreApart conf (front ++ (e ∷ back)) → without e.key (front ++ (e ∷ back)) ≡ front ++ back
without_midst conf [] e back apart = without_here conf e back apart.1
without_midst conf (o ∷ front) e back apart =
    without_later conf o e (front ++ (e ∷ back)) (apart_entry conf o (front ++ (e ∷ back)) e apart.1 (in_midst front e back))
    ∙ ap (λ (l : List Entry). o ∷ l) (without_midst conf front e back apart.2)

module _ (conf : CacheConf) (is : IsCacheConf conf) (words : List ℕ) where
  abbrev pub shape : Shape
  shape = shape_of conf

  -- none left
  pub leaves_none : (plan : Plan) (items : List ℕ) (list : List Entry) → AgreesAs (seen plan words) shape conf items list → Leaves conf words plan plan list list
  leaves_none plan items list agrees = record { gone = []; items = items; leave = refl; agrees = agrees; costs = costs_none shape plan }

  -- some left, and then some more
  pub leaves_then : (before mid now : Plan) (list some kept : List Entry) → Leaves conf words before mid list some → Leaves conf words mid now some kept → Leaves conf words before now list kept
  leaves_then before mid now list some kept first second = record {
    gone = first.gone ++ second.gone;
    items = second.items;
    leave = leave_then list first.gone some second.gone kept first.leave second.leave;
    agrees = second.agrees;
    costs =
        let count : 16 * length first.gone + 16 * length second.gone ≡ 16 * length (first.gone ++ second.gone) = omega (arith, length-append first.gone second.gone) in
        subst (λ (n : ℕ). Costs shape n (all_run_places conf (first.gone ++ second.gone)) before now) count
        (subst (λ (run : List ℕ). Costs shape (16 * length first.gone + 16 * length second.gone) run before now) (runs_then conf first.gone second.gone)
        (costs_then shape (16 * length first.gone) (16 * length second.gone) (all_run_places conf first.gone) (all_run_places conf second.gone) before mid now first.costs second.costs));
  }

  -- the list is a state of the configuration
  module _ (reader : ℕ → ℕ) (items : List ℕ) (list : List Entry) (agrees : AgreesAs reader shape conf items list) where
    pub distinct_items : AreDistinct items
    distinct_items = subst AreDistinct agrees.is agrees.held.recency.distinct

    pub one_less : (item : ℕ) (e : Entry) → IsPaired items list item e → length list ≡ suc (length (without e.key list))
    one_less item e paired = parted_length (parted conf items list item e distinct_items agrees.fits.state.apart paired)

    pub in_use : (item : ℕ) (e : Entry) → IsPaired items list item e → IsInUse reader shape conf item
    in_use item e paired = (items, list, e, (agrees, paired))

    pub run_of : (item : ℕ) (e : Entry) → IsPaired items list item e → item_run_places reader shape conf item ≡ run_places shape e.first (span conf e.value)
    run_of item e paired =
        ap (λ (first : ℕ). run_places shape first (span_of conf (item_word reader shape item 5))) (first_word conf shape (shape_of_conf conf is) reader items list item e agrees paired)
        ∙ ap (run_places shape e.first) (span_word conf shape (shape_of_conf conf is) reader items list item e agrees paired)

    -- there is room for one of the entries to leave
    pub room_for_one : (plan : Plan) (item : ℕ) (e : Entry) → IsPaired items list item e → HasSpareFor conf list 0 plan
        → HasRoomFor plan 16 (item_run_places reader shape conf item)
    room_for_one plan item e paired spare =
        let less : HasSpare shape 16 plan = record { room = omega (arith, spare.room, one_less item e paired); distinct = spare.distinct } in
        room_of_spare shape (shape_is conf is) 16 (item_word reader shape item 4) (span_of conf (item_word reader shape item 5)) plan
        (run_within conf shape (shape_of_conf conf is) reader items list item e agrees paired) less

  -- one left
  pub leaves_one : (before now : Plan) (items : List ℕ) (list : List Entry) (item : ℕ) (e : Entry) → AgreesAs (seen before words) shape conf items list → IsPaired items list item e
      → AgreesAs (seen now words) shape conf (without_number items item) (without e.key list) → Costs shape 16 (item_run_places (seen before words) shape conf item) before now
      → Leaves conf words before now list (without e.key list)
  leaves_one before now items list item e agrees paired left costs = record {
    gone = e ∷ [];
    items = without_number items item;
    leave = (entry_of_paired items list item e paired, refl);
    agrees = left;
    costs =
        subst (λ (run : List ℕ). Costs shape 16 run before now)
        (run_of (seen before words) items list agrees item e paired ∙ sym (append-nil (run_places shape e.first (span conf e.value)))) costs;
  }

  -- as many less are left as left
  pub left_length : (gone list kept : List Entry) → AreApart conf list → LeaveOneByOne list gone kept → length list ≡ length gone + length kept
  left_length [] list kept apart leave = omega (arith, ap length leave)
  left_length (e ∷ gone) list kept apart leave =
      let rest : length (without e.key list) ≡ length gone + length kept =
      left_length gone (without e.key list) kept (part_apart conf (part_filter (λ o. not (bytes_eq o.key e.key)) list) apart) leave.1 in
      omega (arith, rest, without_length conf list e apart leave.0)

  pub spare_left : (before now : Plan) (items : List ℕ) (list kept : List Entry) → AgreesAs (seen before words) shape conf items list → Leaves conf words before now list kept
      → HasSpareFor conf list 0 before → HasSpareFor conf kept 0 now
  spare_left before now items list kept agrees leaves spare =
      let count : 16 * length list + 0 ≡ 16 * length leaves.gone + (16 * length kept + 0) =
      omega (arith, left_length leaves.gone list kept agrees.fits.state.apart leaves.leave) in
      spare_after shape (16 * length leaves.gone) (16 * length kept + 0) (all_run_places conf leaves.gone) before now (subst (λ (n : ℕ). HasSpare shape n before) count spare) leaves.costs

-- one more left
module _ (conf : CacheConf) (is : IsCacheConf conf) (words : List ℕ) (before mid : Plan) (list kept : List Entry) (leaves : Leaves conf words before mid list kept)
    (item : ℕ) (e : Entry) (paired : IsPaired leaves.items kept item e) where
  pub still_in_use : IsInUse (seen mid words) (shape_of conf) conf item
  still_in_use = in_use conf is words (seen mid words) leaves.items kept leaves.agrees item e paired

  pub room_for_more : (items : List ℕ) → AgreesAs (seen before words) (shape_of conf) conf items list → HasSpareFor conf list 0 before
      → HasRoomFor mid 16 (item_run_places (seen mid words) (shape_of conf) conf item)
  room_for_more items agrees spare =
      room_for_one conf is words (seen mid words) leaves.items kept leaves.agrees mid item e paired (spare_left conf is words before mid items list kept agrees leaves spare)

  module _ (now : Plan)
      (drops : (items : List ℕ) (list : List Entry) (e : Entry) → AgreesAs (seen mid words) (shape_of conf) conf items list → IsPaired items list item e
      → AgreesAs (seen now words) (shape_of conf) conf (without_number items item) (without e.key list))
      (costs : Costs (shape_of conf) 16 (item_run_places (seen mid words) (shape_of conf) conf item) mid now) where
    pub leaves_more : Leaves conf words before now list (without e.key kept)
    leaves_more =
        leaves_then conf is words before mid now list kept (without e.key kept) leaves
        (leaves_one conf is words mid now leaves.items kept item e leaves.agrees paired (drops leaves.items kept e leaves.agrees paired) costs)

    pub fewer_in_use : seen now words 9 < seen mid words 9
    fewer_in_use =
        let less : length kept ≡ suc (length (without e.key kept)) = one_less conf is words (seen mid words) leaves.items kept leaves.agrees item e paired in
        let left = drops leaves.items kept e leaves.agrees paired in
        omega (arith, less, left.held.count, left.fits.count, leaves.agrees.held.count, leaves.agrees.fits.count)
