-- What operations plan, and what they answer.
use Rattle.std.proofs.Common.{◌≡◌, ◌≢◌, ◌⊎◌, inl, inr, ℕ, ◌+◌, ◌*◌, ◌/◌, ◌%◌, ◌^◌, ◌<◌, ◌≤◌, nat_le, All, Bool, true, false, List, [], ◌∷◌, ◌++◌}
use Rattle.std.proofs.Common.{length, refl, sym, ap, ◌∙◌, subst, arith, length-append, take, drop}
use Rattle.std.specs.List.{splice}
use Rattle.std.proofs.lemmas.Bool.{cases_eq, le-leb}
use Rattle.std.proofs.lemmas.Bool.Decides.{nat_tests}
use Rattle.std.proofs.lemmas.List.Elements.{All-nil, All-cons, All-append, All-take, All-drop}
use Rattle.uw_model.specs.declared.areas.AreaAnswer.{AreaAnswer}
use Rattle.uw_model.specs.declared.areas.AreaAnswer.TheVariants as answers
use Rattle.uw_model.specs.declared.areas.AreaOp.{AreaOp}
use Rattle.uw_model.specs.declared.areas.AreaOp.TheVariants as ops
use Rattle.uw_model.specs.declared.areas.Width.{Width}
use Rattle.uw_model.specs.declared.areas.Width.TheVariants as widths
use Rattle.uw_model.specs.AreaLayout.{area_plan_room, area_words}
use Rattle.uw_model.specs.AreaLaws.{is_area_write, op_end, op_start}
use Rattle.uw_model.specs.AreaOps.{AreaState, area_next, bytes_in_width, difference_in, number_at_place, sum_in, width_bytes, with_bytes, within_area}
use Rattle.uw_model.proofs.AreaLemmas.{spliced_size}
use Rattle.uw_words.specs.Plans.{HasDistinctPlaces, Plan, region, through}
use Rattle.uw_words.specs.Numbers.{IsNoneOf, IsOneOf}
use Rattle.uw_words.specs.Parts.{seen, places_of, with_place, with_places, HasRoom, GrewAt}
use Rattle.uw_words.specs.Texts.{HoldsText}
use Rattle.uw_words.proofs.Growth.{put_on, grew_put, grew_then, in_row, none_before, places-le-length, read_grown, read_other, read_put, room_then}
use Rattle.uw_words.proofs.Growth.{row_length, spare_room, room_early}
use Rattle.uw_intent.specs.declared.frame.Frame.{Frame}
use Rattle.uw_intent.specs.RedoRecord.{FitsRecord, IsTarget, commit_writes}
use Rattle.uw_intent.proofs.Listed.{length-commit_writes}
use Rattle.uw_area.specs.AreaWords.{HoldsArea, area_frame}
use Rattle.uw_area.specs.AreaKind.{most_area_writes, touched_words}
use Rattle.uw_area.specs.AreaSteps.{IsUnplanned, PlansOp, touched_places}

-- ---- planned places

with_place_has : (named : List ℕ) (at place : ℕ) → IsOneOf (with_place named at) place → IsOneOf named place ⊎ (at ≡ place)
with_place_has [] at place (inl same) = inr same
with_place_has [] at place (inr none) = absurd none
with_place_has (first ∷ named) at place one = elim (cases_eq first at) [
  | inl same ↦
      let is : with_place (first ∷ named) at ≡ first ∷ named = grind (arith, nat_tests) in
      inl (subst (λ (l : List ℕ). IsOneOf l place) is one)
  | inr other ↦
      let is : with_place (first ∷ named) at ≡ first ∷ with_place named at = grind (arith, nat_tests) in
      elim (subst (λ (l : List ℕ). IsOneOf l place) is one) [
        | inl here ↦ inl (inl here)
        | inr later ↦ elim (with_place_has named at place later) [ inl old ↦ inl (inr old) | inr new ↦ inr new ]
      ]
]

with_places_has : (named places : List ℕ) (place : ℕ) → IsOneOf (with_places named places) place → IsOneOf named place ⊎ IsOneOf places place
with_places_has named [] place one = inl one
with_places_has named (at ∷ places) place one = elim (with_places_has (with_place named at) places place one) [
  | inl early ↦ elim (with_place_has named at place early) [ inl old ↦ inl old | inr same ↦ inr (inl same) ]
  | inr later ↦ inr (inr later)
]

writes_at : (P : ℕ → Type 0) (writes : List (ℕ × ℕ)) → ((at : ℕ) → IsOneOf (places_of writes) at → P at) → All (λ write. P write.0) writes
writes_at P [] each = All-nil (λ write. P write.0)
writes_at P (write ∷ writes) each = All-cons (λ w. P w.0) write writes (each write.0 (inl refl)) (writes_at P writes (λ at one. each at (inr one)))

one_of_append : (early late : List ℕ) (at : ℕ) → IsOneOf (early ++ late) at → IsOneOf early at ⊎ IsOneOf late at
one_of_append [] late at one = inr one
one_of_append (first ∷ early) late at (inl here) = inl (inl here)
one_of_append (first ∷ early) late at (inr later) = elim (one_of_append early late at later) [ inl one ↦ inl (inr one) | inr one ↦ inr one ]

none_of_both : (early late : List ℕ) (at : ℕ) → IsNoneOf early at → IsNoneOf late at → IsNoneOf (early ++ late) at
none_of_both [] late at none other = other
none_of_both (first ∷ early) late at none other = (none.0, none_of_both early late at none.1 other)

places_length : (writes : List (ℕ × ℕ)) → length (places_of writes) ≡ length writes
places_length [] = refl
places_length (write ∷ writes) = omega (arith, places_length writes)

commit_few : (frame : Frame) (writes : List (ℕ × ℕ)) (most : ℕ) → length writes ≤ most → length (commit_writes frame writes) ≤ 4 * most + 3
commit_few frame [] most few = omega arith
commit_few frame (write ∷ writes) most few = omega (arith, few, length-commit_writes frame (write ∷ writes) (omega arith))

-- what is seen where nothing is planned is the region
seen_none : (plan : Plan) (words : List ℕ) (at : ℕ) → plan.writes ≡ [] → seen plan words at ≡ region words at
seen_none plan words at empty = ap (λ (w : List (ℕ × ℕ)). through w (region words) at) empty

-- the same words hold the same area
pub holds_same : (size : ℕ) (area : AreaState) (one two : ℕ → ℕ) → ((at : ℕ) → two at ≡ one at) → HoldsArea one size area → HoldsArea two size area
holds_same size area one two same holds = record {
  layout = same 0 ∙ holds.layout;
  told = same 1 ∙ holds.told;
  updates = same 2 ∙ holds.updates;
  many = holds.many;
  small = holds.small;
  bytes = λ k short. same (16 + k) ∙ holds.bytes k short;
}

-- ---- slices within the area, and beyond it

pub answered : (area : AreaState) (size at len : ℕ) (given : AreaAnswer) → length area.bytes ≡ size → nat_le (at + len) size ≡ true
    → within_area area at len given ≡ given
answered area size at len given many inside = rw (many, inside) refl

pub refused : (area : AreaState) (size at len : ℕ) (given : AreaAnswer) → length area.bytes ≡ size → nat_le (at + len) size ≡ false
    → answers.OutOfArea at len size ≡ within_area area at len given
refused area size at len given many past = rw (many, past) refl

-- a test whether a slice of a length lies within the area
pub told_inside : (size at len bytes : ℕ) (told is : Bool) → len ≡ bytes → told ≡ nat_le (at + len) size → told ≡ is → nat_le (at + bytes) size ≡ is
told_inside size at len bytes told is same tells answer = ap (λ (n : ℕ). nat_le (at + n) size) (sym same) ∙ sym tells ∙ answer

-- the count of updates, read through the plan and raised
pub counted_by : (mid now : Plan) (words : List ℕ) (old new : ℕ) → old ≡ seen mid words 2 → new ≡ (old + 1) % 2 ^ 64 → now ≡ put_on mid 2 new
    → now ≡ put_on mid 2 ((seen mid words 2 + 1) % 2 ^ 64)
counted_by mid now words old new is raised put = put ∙ ap (put_on mid 2) (raised ∙ ap (λ (n : ℕ). (n + 1) % 2 ^ 64) is)

put_in : (area : AreaState) (at : ℕ) (put : List ℕ) → at + length put ≤ length area.bytes
    → with_bytes area at put ≡ record { bytes = splice area.bytes at (at + length put) put; updates = (area.updates + 1) % 2 ^ 64 }
put_in area at put within = rw (le-leb (at + length put) (length area.bytes) within) refl

put_beyond : (area : AreaState) (size at : ℕ) (put : List ℕ) → length area.bytes ≡ size → nat_le (at + length put) size ≡ false → with_bytes area at put ≡ area
put_beyond area size at put many past = rw (many, past) refl

-- ---- plans

pub plans_nothing : (size : ℕ) (words : List ℕ) (op : AreaOp) (plan : Plan) → plan.writes ≡ [] → ((area : AreaState) → HoldsArea (region words) size area
    → area_next area op ≡ area)
    → PlansOp size words op plan
plans_nothing size words op plan empty same = record {
  fits =
      subst (FitsRecord (area_frame size) (area_words size)) (sym empty)
      record { room = omega arith; targets = All-nil (λ planned. IsTarget (area_frame size) (area_words size) planned.0) };
  once = subst HasDistinctPlaces (sym empty) (λ i j d early within. absurd (omega (arith, early, within)));
  gate = seen_none plan words 10 empty;
  next = λ area holds.
      subst (HoldsArea (seen plan words) size) (sym (same area holds))
      (holds_same size area (region words) (seen plan words) (λ at. seen_none plan words at empty) holds);
  few = λ area holds. omega (arith, ap (λ (w : List (ℕ × ℕ)). length (commit_writes (area_frame size) w)) empty);
}

-- bytes are put, and the update is counted
module _ (size : ℕ) (words : List ℕ) (before mid now : Plan) (at : ℕ) (put : List ℕ) (unplanned : IsUnplanned size words before)
    (within : at + length put ≤ size)
    (few_bytes : length put ≤ 65536) where
  abbrev row : List ℕ
  row = touched_places at (at + length put)

  -- the words of the bytes, and the count of updates
  abbrev places : List ℕ
  places = row ++ 2 ∷ []

  touched_few : touched_words at (at + length put) + 1 ≤ area_plan_room size
  touched_few = omega (arith, within, few_bytes)

  none_planned : places_of before.writes ≡ []
  none_planned = ap places_of unplanned.empty

  pub has_room : HasRoom before (touched_places at (at + length put) ++ 2 ∷ [])
  has_room =
      spare_room before places
      (omega (
        arith,
        ap length unplanned.empty,
        unplanned.room,
        touched_few,
        length-append row (2 ∷ []),
        row_length (16 + at / 8) (touched_words at
            (at + length put)),
      ))

  pub row_room : HasRoom before (touched_places at (at + length put))
  row_room = room_early row (2 ∷ []) before has_room

  module _ (grew : GrewAt (touched_places at (at + length put)) before mid) where
    pub count_room : HasRoom mid (2 ∷ [])
    count_room = room_then row (2 ∷ []) before mid has_room grew

    module _ (small : All (λ byte. byte < 256) put)
        (spliced : (bytes : List ℕ) → All (λ byte. byte < 256) bytes → at + length put ≤ length bytes → HoldsText (seen before words) 16 bytes
        → HoldsText (seen mid words) 16 (splice bytes at (at + length put) put))
        (counted : now ≡ put_on mid 2 ((seen mid words 2 + 1) % 2 ^ 64)) (once : HasDistinctPlaces now.writes) where
      all_grew : GrewAt places before now
      all_grew =
          grew_then row (2 ∷ []) before mid now grew (subst (GrewAt (2 ∷ []) mid) (sym counted) (grew_put mid 2 ((seen mid words 2 + 1) % 2 ^ 64)))

      named : places_of now.writes ≡ with_places [] places
      named = all_grew.named ∙ ap (λ (l : List ℕ). with_places l places) none_planned

      few_writes : length now.writes ≤ touched_words at (at + length put) + 1
      few_writes =
          omega (
            arith,
            places_length now.writes,
            ap length named,
            places-le-length [] places,
            length-append row (2 ∷ []),
            row_length (16 + at / 8) (touched_words at (at + length put)),
          )

      target : (place : ℕ) → IsOneOf places place → IsTarget (area_frame size) (area_words size) place
      target place one = elim (one_of_append row (2 ∷ []) place one) [
        | inl byte ↦
            let inside = in_row (16 + at / 8) (touched_words at (at + length put)) place byte in
            record {
              within = omega (arith, within, inside.0, inside.1);
              beyond = record {
                outside = inl (omega (arith, within, inside.0, inside.1));
                gate = λ same. omega
                    (arith, inside.0, same);
                used = λ same. omega (arith, inside.0, same);
              };
            }
        | inr count ↦ elim count [
          | inl here ↦ record {
            within = omega (arith, here);
            beyond = record { outside = inl (omega (arith, here)); gate = λ same. omega (arith, here, same); used = λ same. omega (arith, here, same) };
          }
          | inr none ↦ absurd none
        ]
      ]

      other : (place : ℕ) → place < 16 → place ≢ 2 → seen now words place ≡ region words place
      other place early apart =
          read_grown places before now words place all_grew
          (none_of_both row (2 ∷ []) place (none_before (16 + at / 8) (touched_words at (at + length put)) place (omega (arith, early))) (
            (λ same. apart
                (sym same)),
            tt,
          ))
          ∙ seen_none before words place unplanned.empty

      put_next : (area : AreaState) → HoldsArea (region words) size area → HoldsArea (seen now words) size (with_bytes area at put)
      put_next area holds =
          let here : at + length put ≤ length area.bytes = omega (arith, within, holds.many) in
          let after : List ℕ = splice area.bytes at (at + length put) put in
          let old : seen mid words 2 ≡ area.updates =
          read_grown row before mid words 2 grew (none_before (16 + at / 8) (touched_words at (at + length put)) 2 (omega arith))
          ∙ seen_none before words 2 unplanned.empty ∙ holds.updates in
          subst (HoldsArea (seen now words) size) (sym (put_in area at put here)) record {
            layout = other 0 (omega arith) (λ same. omega (arith, same)) ∙ holds.layout;
            told = other 1 (omega arith) (λ same. omega (arith, same)) ∙ holds.told;
            updates =
                ap (λ (p : Plan). seen p words 2) counted ∙ read_put mid.writes (region words) 2 ((seen mid words 2 + 1) % 2 ^ 64)
                ∙ ap (λ (n : ℕ). (n + 1) % 2 ^ 64) old;
            many = spliced_size area.bytes put at here ∙ holds.many;
            small =
                All-append (λ byte. byte < 256) (take at area.bytes) (put ++ drop (at + length put) area.bytes) (All-take
                (λ byte. byte < 256) at area.bytes holds.small)
                (All-append (λ byte. byte < 256) put (drop (at + length put) area.bytes) small (All-drop (λ byte. byte < 256)
                (at + length put) area.bytes holds.small));
            bytes = λ k short.
                ap (λ (p : Plan). seen p words (16 + k)) counted
                ∙ read_other mid.writes (region words) 2 ((seen mid words 2 + 1) % 2 ^ 64) (16 + k) (λ same. omega (arith, same))
                ∙ spliced area.bytes holds.small here (λ j inside. seen_none before words (16 + j) unplanned.empty ∙ holds.bytes j inside) k short;
          }

      put_few : (area : AreaState) → HoldsArea (region words) size area
          → length (commit_writes (area_frame size) now.writes) ≤ most_area_writes area (ops.Write at put)
      put_few area holds =
          let inside : nat_le (at + length put) (length area.bytes) ≡ true = le-leb (at + length put) (length area.bytes) (omega (arith, within, holds.many)) in
          rw inside (commit_few (area_frame size) now.writes (touched_words at (at + length put) + 1) few_writes)

      pub plans_write : PlansOp size words (ops.Write at put) now
      unfolding area_next
      plans_write = record {
        fits = record {
          room = omega (arith, few_writes, touched_few);
          targets =
              writes_at (IsTarget (area_frame size) (area_words size)) now.writes
              (λ place one. elim (with_places_has [] places place (subst (λ (l : List ℕ). IsOneOf l place) named one)) [
                | inl none ↦ absurd none
                | inr planned ↦ target place planned
              ]);
        };
        once = once;
        gate = other 10 (omega arith) (λ same. omega (arith, same));
        next = put_next;
        few = put_few;
      }

-- bytes that reach beyond the area
pub plans_refused : (size : ℕ) (words : List ℕ) (at : ℕ) (put : List ℕ) (plan : Plan) → plan.writes ≡ [] → nat_le (at + length put) size ≡ false
    → PlansOp size words (ops.Write at put) plan
unfolding area_next
plans_refused size words at put plan empty past = plans_nothing size words (ops.Write at put) plan empty
    (λ area holds. put_beyond area size at put holds.many past)

-- an operation that writes as some bytes are written
pub plans_as : (size : ℕ) (words : List ℕ) (op : AreaOp) (at : ℕ) (put : List ℕ) (plan : Plan) → is_area_write op ≡ true → op_start op ≡ at
    → op_end op ≡ at + length put
    → ((area : AreaState) → HoldsArea (region words) size area → area_next area op ≡ area_next area (ops.Write at put))
    → PlansOp size words (ops.Write at put) plan
    → PlansOp size words op plan
plans_as size words op at put plan writes start end same plans = record {
  fits = plans.fits;
  once = plans.once;
  gate = plans.gate;
  next = λ area holds. subst (HoldsArea (seen plan words) size) (sym (same area holds)) (plans.next area holds);
  few = λ area holds. rw (writes, start, end) (plans.few area holds);
}

-- ---- numbers

pub width_long : (width : Width) (number : ℕ) → length (bytes_in_width width number) ≡ width_bytes width
width_long widths.W8 number = refl
width_long widths.W16 number = refl
width_long widths.W32 number = refl
width_long widths.W64 number = refl

number_end : (width : Width) (at number : ℕ) → at + width_bytes width ≡ at + length (bytes_in_width width number)
number_end width at number = ap (λ (n : ℕ). at + n) (sym (width_long width number))

pub plans_number : (size : ℕ) (words : List ℕ) (at : ℕ) (width : Width) (value : ℕ) (plan : Plan)
    → PlansOp size words (ops.Write at (bytes_in_width width value)) plan
    → PlansOp size words (ops.WriteNum at width value) plan
unfolding area_next
plans_number size words at width value plan plans =
    plans_as size words (ops.WriteNum at width value) at (bytes_in_width width value) plan refl refl (number_end width at value) (λ area holds. refl) plans

pub plans_sum : (size : ℕ) (words : List ℕ) (at : ℕ) (width : Width) (by number : ℕ) (plan : Plan)
    → ((area : AreaState) → HoldsArea (region words) size area → number ≡ number_at_place area at width)
    → PlansOp size words (ops.Write at (bytes_in_width width (sum_in width number by))) plan
    → PlansOp size words (ops.IncNum at width by) plan
unfolding area_next
plans_sum size words at width by number plan is plans =
    plans_as size words (ops.IncNum at width by) at (bytes_in_width width (sum_in width number by)) plan refl refl (number_end width at
    (sum_in width number by))
    (λ area holds. ap (λ (n : ℕ). with_bytes area at (bytes_in_width width (sum_in width n by))) (sym (is area holds))) plans

pub plans_difference : (size : ℕ) (words : List ℕ) (at : ℕ) (width : Width) (by number : ℕ) (plan : Plan)
    → ((area : AreaState) → HoldsArea (region words) size area → number ≡ number_at_place area at width)
    → PlansOp size words (ops.Write at (bytes_in_width width (difference_in width number by))) plan
    → PlansOp size words (ops.DecNum at width by) plan
unfolding area_next
plans_difference size words at width by number plan is plans =
    plans_as size words (ops.DecNum at width by) at (bytes_in_width width (difference_in width number by)) plan refl refl (number_end width at
    (difference_in width number by))
    (λ area holds. ap (λ (n : ℕ). with_bytes area at (bytes_in_width width (difference_in width n by))) (sym (is area holds))) plans

-- numbers that reach beyond the area
number_beyond : (area : AreaState) (size at : ℕ) (width : Width) (number : ℕ) → length area.bytes ≡ size → nat_le (at + width_bytes width) size ≡ false
    → with_bytes area at (bytes_in_width width number) ≡ area
number_beyond area size at width number many past =
    put_beyond area size at (bytes_in_width width number) many (ap (λ (n : ℕ). nat_le n size) (sym (number_end width at number)) ∙ past)

pub plans_number_refused : (size : ℕ) (words : List ℕ) (at : ℕ) (width : Width) (value : ℕ) (plan : Plan) → plan.writes ≡ []
    → nat_le (at + width_bytes width) size ≡ false
    → PlansOp size words (ops.WriteNum at width value) plan
unfolding area_next
plans_number_refused size words at width value plan empty past =
    plans_nothing size words (ops.WriteNum at width value) plan empty (λ area holds. number_beyond area size at width value holds.many past)

pub plans_sum_refused : (size : ℕ) (words : List ℕ) (at : ℕ) (width : Width) (by : ℕ) (plan : Plan) → plan.writes ≡ []
    → nat_le (at + width_bytes width) size ≡ false
    → PlansOp size words (ops.IncNum at width by) plan
unfolding area_next
plans_sum_refused size words at width by plan empty past =
    plans_nothing size words (ops.IncNum at width by) plan empty
    (λ area holds. number_beyond area size at width (sum_in width (number_at_place area at width) by) holds.many past)

pub plans_difference_refused : (size : ℕ) (words : List ℕ) (at : ℕ) (width : Width) (by : ℕ) (plan : Plan) → plan.writes ≡ []
    → nat_le (at + width_bytes width) size ≡ false
    → PlansOp size words (ops.DecNum at width by) plan
unfolding area_next
plans_difference_refused size words at width by plan empty past =
    plans_nothing size words (ops.DecNum at width by) plan empty
    (λ area holds. number_beyond area size at width (difference_in width (number_at_place area at width) by) holds.many past)

-- operations that only read
pub plans_read : (size : ℕ) (words : List ℕ) (at len : ℕ) (plan : Plan) → plan.writes ≡ [] → PlansOp size words (ops.Read at len) plan
unfolding area_next
plans_read size words at len plan empty = plans_nothing size words (ops.Read at len) plan empty (λ area holds. refl)

pub plans_read_num : (size : ℕ) (words : List ℕ) (at : ℕ) (width : Width) (plan : Plan) → plan.writes ≡ [] → PlansOp size words (ops.ReadNum at width) plan
unfolding area_next
plans_read_num size words at width plan empty = plans_nothing size words (ops.ReadNum at width) plan empty (λ area holds. refl)

pub plans_updates : (size : ℕ) (words : List ℕ) (plan : Plan) → plan.writes ≡ [] → PlansOp size words ops.Updates plan
unfolding area_next
plans_updates size words plan empty = plans_nothing size words ops.Updates plan empty (λ area holds. refl)
