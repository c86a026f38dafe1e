-- What is planned for a call, by the steps that were taken.
use Rattle.std.proofs.Common.{◌≡◌, ◌⊎◌, inl, inr, ℕ, ◌+◌, ◌*◌, ◌≤◌, ◌||◌, Bool, true, false, cond, not, List, [], ◌∷◌, ◌++◌, slice_get, filter, length, Option, None, Some, sym, ap, ◌∙◌, subst, arith}
use Rattle.uw_model.specs.declared.conf.CacheConf.{CacheConf}
use Rattle.uw_model.specs.declared.entries.Entry.{Entry}
use Rattle.uw_model.specs.declared.calls.Call.{Call}
use Rattle.uw_model.specs.Entries.{IsCacheConf, IsEntry}
use Rattle.uw_model.specs.Calls.{answer, next_state}
use Rattle.uw_model.specs.Laws.{is_refusal}
use Rattle.std.proofs.lemmas.Bool.{both_ways}
use Rattle.uw_model.specs.Layout.{plan_room}
use Rattle.uw_words.specs.declared.shape.Shape.{Shape}
use Rattle.uw_words.specs.Shapes.{bit_words}
use Rattle.uw_words.specs.Plans.{Plan, region, through}
use Rattle.uw_words.specs.Numbers.{AreDistinct, IsOneOf}
use Rattle.uw_words.specs.Texts.{text_words}
use Rattle.uw_words.specs.Parts.{places_of, seen, with_places}
use Rattle.uw_plan.specs.Regions.{shape_of}
use Rattle.uw_plan.specs.Agreement.{Agrees, AgreesAs}
use Rattle.uw_plan.specs.Bounds.{bitmap_places, front_entry, has_used, has_written, lost_entries, most_planned, all_run_places, written_entry}
use Rattle.uw_plan.specs.Plans.{Costs, bit_places, count_of_others, is_bit_place}
use Rattle.uw_plan.specs.CallSteps.{Enters, IsEntryOf, Leaves}
use Rattle.uw_plan.specs.CallPlanSteps.{IsPlanned}
use Rattle.uw_plan.proofs.Shapes.{shape_of_conf}
use Rattle.uw_plan.proofs.Costing.{once_each}
use Rattle.uw_plan.proofs.Counting.{bits_within, few_writes, targets_of}
use Rattle.uw_plan.proofs.Losing.{bits_few, gone_few, lost_few, lost_few_behind, lost_has, lost_has_behind}

-- what is seen where nothing is planned is the region
pub seen_empty : (plan : Plan) (words : List ℕ) → plan.writes ≡ [] → seen plan words ≡ region words
seen_empty plan words empty = ap (λ (w : List (ℕ × ℕ)). through w (region words)) empty

most_least : (conf : CacheConf) (lost : List Entry) (written front : Option Entry) → 48 ≤ most_planned conf lost written front
most_least conf lost written front = omega arith

-- an entry that is written is put in front
front_of : (wrote used : Bool) (first : Option Entry) (w : Entry) → cond wrote first None ≡ Some w → cond (wrote || used) first None ≡ Some w
front_of true used first w is = is
front_of false used first w is = absurd (let none : ⊥ = cc in none)

entry_of_append : (some more : List Entry) (e : Entry) → IsEntryOf (some ++ more) e → IsEntryOf some e ⊎ IsEntryOf more e
entry_of_append [] more e one = inr one
entry_of_append (first ∷ some) more e (inl here) = inl (inl here)
entry_of_append (first ∷ some) more e (inr later) = elim (entry_of_append some more e later) [ inl one ↦ inl (inr one) | inr one ↦ inr one ]

module _ (conf : CacheConf) (is : IsCacheConf conf) (words : List ℕ) (list : List Entry) (few_entries : length list ≤ conf.items) (now : ℕ) (call : Call) where
  abbrev shape : Shape
  shape = shape_of conf

  abbrev next : List Entry
  next = next_state conf list now call

  abbrev written : Option Entry
  written = written_entry conf list now call

  abbrev front : Option Entry
  front = front_entry conf list now call

  abbrev pub most : ℕ
  most = most_planned conf (lost_entries list next written) written front

  -- nothing
  pub planned_nothing : (plan : Plan) → Agrees conf words list → plan.writes ≡ [] → next ≡ list → IsPlanned conf words plan list now call
  planned_nothing plan agrees empty same = record {
    items = agrees.items;
    agrees = subst (λ (l : List Entry). AgreesAs (seen plan words) shape conf agrees.items l) (sym same)
        (subst (λ (reader : ℕ → ℕ). AgreesAs reader shape conf agrees.items list) (sym (seen_empty plan words empty)) agrees.agrees);
    fits = omega (arith, ap length empty);
    once = subst (λ (w : List (ℕ × ℕ)). AreDistinct (places_of w)) (sym empty) tt;
    targets = λ at one. absurd (subst (λ (w : List (ℕ × ℕ)). IsOneOf (places_of w) at) empty one);
    few = omega (arith, ap length empty, most_least conf (lost_entries list next written) written front);
    bare = λ refused. empty;
  }

  -- steps from an empty overlay on
  module _ (before plan : Plan) (empty : before.writes ≡ []) (cost : ℕ) (run : List ℕ) (costs : Costs shape cost run before plan) (items : List ℕ)
      (agrees : AgreesAs (seen plan words) shape conf items next) where
    none_other : count_of_others shape before ≡ 0
    none_other = ap (λ (w : List (ℕ × ℕ)). length (filter (λ at. not (is_bit_place shape at)) (places_of w))) empty

    no_bits : bit_places shape before ≡ []
    no_bits = ap (λ (w : List (ℕ × ℕ)). filter (λ at. is_bit_place shape at) (places_of w)) empty

    pub bits_are : bit_places shape plan ≡ with_places [] run
    bits_are = costs.bits ∙ ap (λ (l : List ℕ). with_places l run) no_bits

    few_bits : length (bit_places shape plan) ≤ bit_words shape.n_blocks
    few_bits = bits_within shape (shape_of_conf conf is).is plan (subst AreDistinct (sym bits_are) (once_each [] run tt))

    pub few_others : count_of_others shape plan ≤ cost
    few_others = omega (arith, costs.others, none_other)

    pub planned_by : is_refusal (answer conf list now call) ≡ false → bit_words shape.n_blocks + cost ≤ plan_room conf → length plan.writes + 1 ≤ most
        → IsPlanned conf words plan list now call
    planned_by told room few = record {
      items = items;
      agrees = agrees;
      fits = omega (arith, few_writes shape plan, few_bits, few_others, room);
      once = costs.once (subst (λ (w : List (ℕ × ℕ)). AreDistinct (places_of w)) (sym empty) tt);
      targets = targets_of shape cost run before plan empty costs;
      few = omega (arith, few);
      bare = λ refused. absurd (both_ways (is_refusal (answer conf list now call)) told refused);
    }

  -- the use of an entry
  pub planned_use : (before plan : Plan) → is_refusal (answer conf list now call) ≡ false → before.writes ≡ [] → Costs shape 6 [] before plan → (items : List ℕ) → AgreesAs (seen plan words) shape conf items next
      → IsPlanned conf words plan list now call
  planned_use before plan told empty costs items agrees =
      planned_by before plan empty 6 [] costs items agrees told (omega (arith, is.items))
      (omega (
        arith,
        few_writes shape plan,
        ap length (bits_are before plan empty 6 [] costs items agrees),
        few_others before plan empty 6 [] costs items agrees,
        most_least conf (lost_entries list next written) written front,
      ))

  -- entries that leave, and no entry that is put in front
  pub planned_leaves : (before plan : Plan) → is_refusal (answer conf list now call) ≡ false → before.writes ≡ [] → written ≡ None → front ≡ None → Leaves conf words before plan list next → IsPlanned conf words plan list now call
  planned_leaves before plan told empty none no_front leaves =
      let cost : ℕ = 16 * length leaves.gone in
      let run : List ℕ = all_run_places conf leaves.gone in
      let few : length leaves.gone ≤ length (lost_entries list next None) = lost_few list leaves.gone next leaves.leave in
      let bits : length (with_places [] run) ≤ length (bitmap_places conf (lost_entries list next None)) =
      bits_few conf leaves.gone (lost_entries list next None) (lost_has list leaves.gone next leaves.leave) in
      let most_is : most ≡ most_planned conf (lost_entries list next None) None None =
      ap (λ (w : Option Entry). most_planned conf (lost_entries list next w) w front) none ∙ ap (most_planned conf (lost_entries list next None) None) no_front in
      planned_by before plan empty cost run leaves.costs leaves.items leaves.agrees told
      (omega (arith, gone_few list leaves.gone next leaves.leave, few_entries))
      (omega (
        arith,
        few_writes shape plan,
        ap length (bits_are before plan empty cost run leaves.costs leaves.items leaves.agrees),
        few_others before plan empty cost run leaves.costs leaves.items leaves.agrees,
        few,
        bits,
        most_is,
      ))

  -- an entry that is written in front of those that are kept
  pub planned_enters : (before plan : Plan) (w : Entry) (kept : List Entry) → is_refusal (answer conf list now call) ≡ false → before.writes ≡ [] → written ≡ Some w → next ≡ w ∷ kept → Enters conf words before plan list w kept
      → IsPlanned conf words plan list now call
  planned_enters before plan w kept told empty some is_next enters =
      let cost : ℕ = 16 * length enters.gone + (32 + text_words (length w.key) + text_words (length w.value)) in
      let all : List Entry = enters.gone ++ w ∷ [] in
      let run : List ℕ = all_run_places conf all in
      let agrees : AgreesAs (seen plan words) shape conf enters.items next = subst (AgreesAs (seen plan words) shape conf enters.items) (sym is_next) enters.agrees in
      let entry : IsEntry conf w = enters.agrees.fits.state.apart.0 in
      let lost : List Entry = lost_entries list (w ∷ kept) (Some w) in
      let few : length enters.gone ≤ length lost = lost_few_behind list enters.gone kept enters.leave w in
      let bits : length (with_places [] run) ≤ length (bitmap_places conf (w ∷ lost)) =
      bits_few conf all (w ∷ lost) (λ e one. elim (entry_of_append enters.gone (w ∷ []) e one) [
        | inl gone ↦ inr (lost_has_behind list enters.gone kept enters.leave w e gone)
        | inr own ↦ elim own [ inl here ↦ inl here | inr none ↦ absurd none ]
      ]) in
      let in_front : front ≡ Some w =
      front_of (has_written call (answer conf list now call)) (has_used conf call (answer conf list now call)) (slice_get next 0) w some in
      let most_is : most ≡ most_planned conf lost (Some w) (Some w) =
      ap (λ (o : Option Entry). most_planned conf (lost_entries list next o) o front) some
      ∙ ap (λ (l : List Entry). most_planned conf (lost_entries list l (Some w)) (Some w) front) is_next
      ∙ ap (most_planned conf lost (Some w)) in_front in
      planned_by before plan empty cost run enters.costs enters.items agrees told
      (omega (arith, gone_few list enters.gone kept enters.leave, few_entries, entry.key.1, entry.value))
      (omega (
        arith,
        few_writes shape plan,
        ap length (bits_are before plan empty cost run enters.costs enters.items agrees),
        few_others before plan empty cost run enters.costs enters.items agrees,
        few,
        bits,
        most_is,
      ))
