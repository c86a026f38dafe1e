use Rattle.std.proofs.Common.{ℕ, ◌+◌, ◌<◌, ◌≤◌, ◌∷◌, length, sym, ap, ◌∙◌, subst, arith}
use Rattle.std.proofs.lemmas.List.Elements.{All-from_get_or}
use Rattle.uw_model.specs.declared.entries.Entry.{Entry}
use Rattle.uw_model.specs.Entries.{IsState, span_of}
use Rattle.uw_words.specs.declared.shape.Shape.{Shape}
use Rattle.uw_words.specs.Parts.{HasRoom, seen}
use Rattle.uw_words.specs.Texts.{text_words}
use Rattle.uw_words.proofs.Growth.{spare_room}
use Rattle.uw_bitmap.specs.Bits.{run_places}
use Rattle.uw_plan.specs.Parts.{AllBytes, HoldsEntry, entry_of}
use Rattle.uw_plan.specs.Agreement.{AgreesAs}
use Rattle.uw_plan.specs.EntrySteps.{record_places, taken_parts}
use Rattle.uw_plan.specs.Plans.{Costs}
use Rattle.uw_plan.specs.Regions.{shape_of}
use Rattle.uw_plan.proofs.Shapes.{entry_lies}
use Rattle.uw_plan.proofs.Dropping.{as_shape}
use Rattle.uw_plan.proofs.Steps.{named_after, spare_behind}
use Rattle.uw_plan.proofs.AddSteps.{added, added_costs, as_bits, as_room, as_run, few_in_use, item_low, key_fits, put_held, put_new, record_count, run_free, run_held, run_parts, run_within, with_added}
use Rattle.uw_plan.proofs.entries.add_entry.Goals as goal

pub mark-requires-clause-len : goal.mark-requires-clause-len
mark-requires-clause-len c = c.requires.region ∙ sym c.shape_of-shape.ensures.words

pub take_item-item-requires-clause-region : goal.take_item-item-requires-clause-region
take_item-item-requires-clause-region c = c.requires.region ∙ sym c.shape_of-shape.ensures.words

pub join_lists-requires-clause-region : goal.join_lists-requires-clause-region
join_lists-requires-clause-region c = c.requires.region ∙ sym c.shape_of-shape.ensures.words

pub count_up-requires-clause-region : goal.count_up-requires-clause-region
count_up-requires-clause-region c = c.requires.region ∙ sym c.shape_of-shape.ensures.words

pub mark-requires-clause-run : goal.mark-requires-clause-run
mark-requires-clause-run c =
    let conf = c.args.conf.now in
    let shape = c.shape_of-shape.result in
    let words = c.args.ram.now in
    let before = c.args.over.now in
    let e = entry_of c.args.key.now c.args.value.now c.args.fields.now in
    let same = c.shape_of-shape.ensures.parts in
    let of = as_shape conf shape same c.requires.conf in
    let n_is = c.span_of-n.ensures ∙ ap (span_of conf) c.requires.length in
    with_added conf shape same (seen before words) e c.requires.list (λ items list agrees state. subst (λ (n : ℕ). e.first + n ≤ shape.n_blocks) (sym n_is) (run_within conf shape of words before items list e agrees state))

pub mark-requires-clause-room : goal.mark-requires-clause-room
mark-requires-clause-room c =
    let conf = c.args.conf.now in
    let shape = c.shape_of-shape.result in
    let words = c.args.ram.now in
    let before = c.args.over.now in
    let e = entry_of c.args.key.now c.args.value.now c.args.fields.now in
    let same = c.shape_of-shape.ensures.parts in
    let of = as_shape conf shape same c.requires.conf in
    let n_is = c.span_of-n.ensures ∙ ap (span_of conf) c.requires.length in
    let room = as_room conf shape same before (32 + text_words (length c.args.key.now) + text_words (length c.args.value.now)) e.first (length c.args.value.now) c.requires.room in
    let small : HasRoom before (run_places shape e.first (span_of conf (length c.args.value.now))) = omega (arith, room) in
    subst (λ (n : ℕ). HasRoom before (run_places shape e.first n)) (sym n_is) small

pub take_item-item-requires-clause-some : goal.take_item-item-requires-clause-some
take_item-item-requires-clause-some c =
    let conf = c.args.conf.now in
    let shape = c.shape_of-shape.result in
    let words = c.args.ram.now in
    let before = c.args.over.now in
    let e = entry_of c.args.key.now c.args.value.now c.args.fields.now in
    let same = c.shape_of-shape.ensures.parts in
    let of = as_shape conf shape same c.requires.conf in
    let n_is = c.span_of-n.ensures ∙ ap (span_of conf) c.requires.length in
    let bits = as_bits shape words before c.mark.new.over e.first n_is c.mark.ensures.bits in
    let ran = as_run shape before c.mark.new.over e.first n_is c.mark.ensures.places in
    with_added conf shape same (seen before words) e c.requires.list (λ items list agrees state. (run_parts conf shape of words before items list e agrees state c.mark.new.over bits ran, (run_held conf shape of words before items list e agrees state c.mark.new.over bits ran, run_free conf shape of words before items list e agrees state c.mark.new.over bits ran)))

pub take_item-item-requires-clause-room : goal.take_item-item-requires-clause-room
take_item-item-requires-clause-room c =
    let conf = c.args.conf.now in
    let shape = c.shape_of-shape.result in
    let words = c.args.ram.now in
    let before = c.args.over.now in
    let e = entry_of c.args.key.now c.args.value.now c.args.fields.now in
    let same = c.shape_of-shape.ensures.parts in
    let of = as_shape conf shape same c.requires.conf in
    let n_is = c.span_of-n.ensures ∙ ap (span_of conf) c.requires.length in
    let bits = as_bits shape words before c.mark.new.over e.first n_is c.mark.ensures.bits in
    let ran = as_run shape before c.mark.new.over e.first n_is c.mark.ensures.places in
    let room = as_room conf shape same before (32 + text_words (length c.args.key.now) + text_words (length c.args.value.now)) e.first (length c.args.value.now) c.requires.room in
    let spare = spare_behind (run_places shape e.first (span_of conf (length c.args.value.now))) (32 + text_words (length c.args.key.now) + text_words (length c.args.value.now)) before c.mark.new.over ran room in
    omega (arith, spare)

pub put_record-requires-clause-item : goal.put_record-requires-clause-item
put_record-requires-clause-item c =
    let conf = c.args.conf.now in
    let shape = c.shape_of-shape.result in
    let words = c.args.ram.now in
    let before = c.args.over.now in
    let e = entry_of c.args.key.now c.args.value.now c.args.fields.now in
    let same = c.shape_of-shape.ensures.parts in
    let of = as_shape conf shape same c.requires.conf in
    let n_is = c.span_of-n.ensures ∙ ap (span_of conf) c.requires.length in
    let bits = as_bits shape words before c.mark.new.over e.first n_is c.mark.ensures.bits in
    let ran = as_run shape before c.mark.new.over e.first n_is c.mark.ensures.places in
    with_added conf shape same (seen before words) e c.requires.list (λ items list agrees state. item_low conf shape of words before items list e agrees state c.mark.new.over bits ran c.take_item-item.new.over c.take_item-item.result c.take_item-item.ensures.item c.take_item-item.ensures.parts c.take_item-item.ensures.grew)

pub put_record-requires-clause-key : goal.put_record-requires-clause-key
put_record-requires-clause-key c =
    let conf = c.args.conf.now in
    let shape = c.shape_of-shape.result in
    let words = c.args.ram.now in
    let before = c.args.over.now in
    let e = entry_of c.args.key.now c.args.value.now c.args.fields.now in
    let same = c.shape_of-shape.ensures.parts in
    let of = as_shape conf shape same c.requires.conf in
    let n_is = c.span_of-n.ensures ∙ ap (span_of conf) c.requires.length in
    with_added conf shape same (seen before words) e c.requires.list (λ items list agrees state. key_fits conf shape of words before items list e agrees state)

pub put_record-requires-clause-value : goal.put_record-requires-clause-value
put_record-requires-clause-value c =
    let conf = c.args.conf.now in
    let shape = c.shape_of-shape.result in
    let words = c.args.ram.now in
    let before = c.args.over.now in
    let e = entry_of c.args.key.now c.args.value.now c.args.fields.now in
    let same = c.shape_of-shape.ensures.parts in
    let of = as_shape conf shape same c.requires.conf in
    let n_is = c.span_of-n.ensures ∙ ap (span_of conf) c.requires.length in
    with_added conf shape same (seen before words) e c.requires.list (λ items list agrees state. entry_lies conf shape of e state.apart.0)

pub put_record-requires-clause-room : goal.put_record-requires-clause-room
put_record-requires-clause-room c =
    let conf = c.args.conf.now in
    let shape = c.shape_of-shape.result in
    let words = c.args.ram.now in
    let before = c.args.over.now in
    let e = entry_of c.args.key.now c.args.value.now c.args.fields.now in
    let same = c.shape_of-shape.ensures.parts in
    let of = as_shape conf shape same c.requires.conf in
    let n_is = c.span_of-n.ensures ∙ ap (span_of conf) c.requires.length in
    let bits = as_bits shape words before c.mark.new.over e.first n_is c.mark.ensures.bits in
    let ran = as_run shape before c.mark.new.over e.first n_is c.mark.ensures.places in
    let room = as_room conf shape same before (32 + text_words (length c.args.key.now) + text_words (length c.args.value.now)) e.first (length c.args.value.now) c.requires.room in
    let spare = spare_behind (run_places shape e.first (span_of conf (length c.args.value.now))) (32 + text_words (length c.args.key.now) + text_words (length c.args.value.now)) before c.mark.new.over ran room in
    let took = c.take_item-item.ensures.grew in
    let named = named_after took.places c.mark.new.over c.take_item-item.new.over took.grew in
    spare_room c.take_item-item.new.over (record_places shape c.take_item-item.result (length e.key) e.first (length e.value))
    (omega (arith, spare, named, took.few, took.grew.room, record_count shape c.take_item-item.result (length e.key) e.first (length e.value)))

pub join_lists-requires-clause-item : goal.join_lists-requires-clause-item
join_lists-requires-clause-item c =
    let conf = c.args.conf.now in
    let shape = c.shape_of-shape.result in
    let words = c.args.ram.now in
    let before = c.args.over.now in
    let e = entry_of c.args.key.now c.args.value.now c.args.fields.now in
    let same = c.shape_of-shape.ensures.parts in
    let of = as_shape conf shape same c.requires.conf in
    let n_is = c.span_of-n.ensures ∙ ap (span_of conf) c.requires.length in
    let bits = as_bits shape words before c.mark.new.over e.first n_is c.mark.ensures.bits in
    let ran = as_run shape before c.mark.new.over e.first n_is c.mark.ensures.places in
    with_added conf shape same (seen before words) e c.requires.list (λ items list agrees state. item_low conf shape of words before items list e agrees state c.mark.new.over bits ran c.take_item-item.new.over c.take_item-item.result c.take_item-item.ensures.item c.take_item-item.ensures.parts c.take_item-item.ensures.grew)

pub join_lists-requires-clause-key : goal.join_lists-requires-clause-key
join_lists-requires-clause-key c = (c.args.key.now, c.put_record.ensures.key c.args.ram.now)

pub join_lists-requires-clause-unlisted : goal.join_lists-requires-clause-unlisted
join_lists-requires-clause-unlisted c =
    let conf = c.args.conf.now in
    let shape = c.shape_of-shape.result in
    let words = c.args.ram.now in
    let before = c.args.over.now in
    let e = entry_of c.args.key.now c.args.value.now c.args.fields.now in
    let same = c.shape_of-shape.ensures.parts in
    let of = as_shape conf shape same c.requires.conf in
    let n_is = c.span_of-n.ensures ∙ ap (span_of conf) c.requires.length in
    let bits = as_bits shape words before c.mark.new.over e.first n_is c.mark.ensures.bits in
    let ran = as_run shape before c.mark.new.over e.first n_is c.mark.ensures.places in
    with_added conf shape same (seen before words) e c.requires.list (λ items list agrees state. (
      taken_parts (run_parts conf shape of words before items list e agrees state c.mark.new.over bits ran),
      (put_held conf shape of words before items list e agrees state c.mark.new.over bits ran c.take_item-item.new.over c.take_item-item.result c.take_item-item.ensures.item c.take_item-item.ensures.parts c.take_item-item.ensures.grew c.put_record.new.over c.put_record.ensures.grew, put_new conf shape of words before items list e agrees state c.mark.new.over bits ran c.take_item-item.new.over c.take_item-item.result c.take_item-item.ensures.item c.take_item-item.ensures.parts c.take_item-item.ensures.grew c.put_record.new.over c.put_record.ensures.grew),
    ))

pub join_lists-requires-clause-room : goal.join_lists-requires-clause-room
join_lists-requires-clause-room c =
    let conf = c.args.conf.now in
    let shape = c.shape_of-shape.result in
    let words = c.args.ram.now in
    let before = c.args.over.now in
    let e = entry_of c.args.key.now c.args.value.now c.args.fields.now in
    let same = c.shape_of-shape.ensures.parts in
    let of = as_shape conf shape same c.requires.conf in
    let n_is = c.span_of-n.ensures ∙ ap (span_of conf) c.requires.length in
    let bits = as_bits shape words before c.mark.new.over e.first n_is c.mark.ensures.bits in
    let ran = as_run shape before c.mark.new.over e.first n_is c.mark.ensures.places in
    let room = as_room conf shape same before (32 + text_words (length c.args.key.now) + text_words (length c.args.value.now)) e.first (length c.args.value.now) c.requires.room in
    let spare = spare_behind (run_places shape e.first (span_of conf (length c.args.value.now))) (32 + text_words (length c.args.key.now) + text_words (length c.args.value.now)) before c.mark.new.over ran room in
    let took = c.take_item-item.ensures.grew in
    let named = named_after took.places c.mark.new.over c.take_item-item.new.over took.grew in
    let record_grew = c.put_record.ensures.grew in
    let record_named = named_after (record_places shape c.take_item-item.result (length e.key) e.first (length e.value)) c.take_item-item.new.over c.put_record.new.over record_grew in
    let counts = record_count shape c.take_item-item.result (length e.key) e.first (length e.value) in
    omega (arith, spare, named, took.few, took.grew.room, record_named, record_grew.room, counts)

pub count_up-requires-clause-few : goal.count_up-requires-clause-few
count_up-requires-clause-few c =
    let conf = c.args.conf.now in
    let shape = c.shape_of-shape.result in
    let words = c.args.ram.now in
    let before = c.args.over.now in
    let e = entry_of c.args.key.now c.args.value.now c.args.fields.now in
    let same = c.shape_of-shape.ensures.parts in
    let of = as_shape conf shape same c.requires.conf in
    let n_is = c.span_of-n.ensures ∙ ap (span_of conf) c.requires.length in
    let bits = as_bits shape words before c.mark.new.over e.first n_is c.mark.ensures.bits in
    let ran = as_run shape before c.mark.new.over e.first n_is c.mark.ensures.places in
    with_added conf shape same (seen before words) e c.requires.list (λ items list agrees state. few_in_use conf shape of words before items list e agrees state c.mark.new.over bits ran c.take_item-item.new.over c.take_item-item.result c.take_item-item.ensures.item c.take_item-item.ensures.parts c.take_item-item.ensures.grew c.put_record.new.over c.put_record.ensures.grew c.join_lists.new.over c.join_lists.ensures.parts c.join_lists.ensures.grew c.requires.conf)

pub count_up-requires-clause-room : goal.count_up-requires-clause-room
count_up-requires-clause-room c =
    let conf = c.args.conf.now in
    let shape = c.shape_of-shape.result in
    let words = c.args.ram.now in
    let before = c.args.over.now in
    let e = entry_of c.args.key.now c.args.value.now c.args.fields.now in
    let same = c.shape_of-shape.ensures.parts in
    let of = as_shape conf shape same c.requires.conf in
    let n_is = c.span_of-n.ensures ∙ ap (span_of conf) c.requires.length in
    let bits = as_bits shape words before c.mark.new.over e.first n_is c.mark.ensures.bits in
    let ran = as_run shape before c.mark.new.over e.first n_is c.mark.ensures.places in
    let room = as_room conf shape same before (32 + text_words (length c.args.key.now) + text_words (length c.args.value.now)) e.first (length c.args.value.now) c.requires.room in
    let spare = spare_behind (run_places shape e.first (span_of conf (length c.args.value.now))) (32 + text_words (length c.args.key.now) + text_words (length c.args.value.now)) before c.mark.new.over ran room in
    let took = c.take_item-item.ensures.grew in
    let named = named_after took.places c.mark.new.over c.take_item-item.new.over took.grew in
    let record_grew = c.put_record.ensures.grew in
    let record_named = named_after (record_places shape c.take_item-item.result (length e.key) e.first (length e.value)) c.take_item-item.new.over c.put_record.new.over record_grew in
    let counts = record_count shape c.take_item-item.result (length e.key) e.first (length e.value) in
    let joined = c.join_lists.ensures.grew in
    let joined_named = named_after joined.places c.put_record.new.over c.join_lists.new.over joined.grew in
    omega (arith, spare, named, took.few, took.grew.room, record_named, record_grew.room, counts, joined.few, joined.grew.room, joined_named)

pub returns-clause-costs : goal.returns-clause-costs
returns-clause-costs c =
    let conf = c.args.conf.now in
    let shape = c.shape_of-shape.result in
    let words = c.args.ram.now in
    let before = c.args.over.now in
    let e = entry_of c.args.key.now c.args.value.now c.args.fields.now in
    let same = c.shape_of-shape.ensures.parts in
    let of = as_shape conf shape same c.requires.conf in
    let n_is = c.span_of-n.ensures ∙ ap (span_of conf) c.requires.length in
    let bits = as_bits shape words before c.mark.new.over e.first n_is c.mark.ensures.bits in
    let ran = as_run shape before c.mark.new.over e.first n_is c.mark.ensures.places in
    subst (λ (s : Shape). Costs s (32 + text_words (length e.key) + text_words (length e.value)) (run_places s e.first (span_of conf (length e.value))) before c.count_up.new.over) same
    (with_added conf shape same (seen before words) e c.requires.list (λ items list agrees state. added_costs conf shape of words before items list e agrees state c.mark.new.over bits ran c.take_item-item.new.over c.take_item-item.result c.take_item-item.ensures.item c.take_item-item.ensures.parts c.take_item-item.ensures.grew c.put_record.new.over c.put_record.ensures.grew c.join_lists.new.over c.join_lists.ensures.parts c.join_lists.ensures.grew c.count_up.new.over c.count_up.ensures.parts c.count_up.ensures.grew))

pub returns-clause-list : goal.returns-clause-list
returns-clause-list c = λ items list held o is its_state.
    let conf = c.args.conf.now in
    let shape = c.shape_of-shape.result in
    let words = c.args.ram.now in
    let before = c.args.over.now in
    let e = entry_of c.args.key.now c.args.value.now c.args.fields.now in
    let same = c.shape_of-shape.ensures.parts in
    let of = as_shape conf shape same c.requires.conf in
    let n_is = c.span_of-n.ensures ∙ ap (span_of conf) c.requires.length in
    let bits = as_bits shape words before c.mark.new.over e.first n_is c.mark.ensures.bits in
    let ran = as_run shape before c.mark.new.over e.first n_is c.mark.ensures.places in
    let now = c.count_up.new.over in
    let state : IsState conf (e ∷ list) = subst (λ (x : Entry). IsState conf (x ∷ list)) is its_state in
    let agrees : AgreesAs (seen before words) shape conf items list = subst (λ (s : Shape). AgreesAs (seen before words) s conf items list) (sym same) held in
    let small_key : AllBytes c.args.key.now = All-from_get_or (λ x. x < 256) c.args.key.now 0 (λ i inside. omega (arith, c.type_inv.key i)) in
    let small_value : AllBytes c.args.value.now = All-from_get_or (λ x. x < 256) c.args.value.now 0 (λ i inside. omega (arith, c.type_inv.value i)) in
    let fields = c.put_record.ensures.fields words in
    let holds : HoldsEntry (seen c.put_record.new.over words) shape c.take_item-item.result e = record {
      key = c.put_record.ensures.key words;
      fields = record { dies = fields.dies; first = fields.first; bytes = fields.bytes ∙ c.requires.length };
      value = c.put_record.ensures.value words;
      key_bytes = small_key;
      value_bytes = small_value;
    } in
    let all : AgreesAs (seen now words) shape conf (c.take_item-item.result ∷ items) (e ∷ list) =
    added conf shape of words before items list e agrees state c.mark.new.over bits ran c.take_item-item.new.over c.take_item-item.result c.take_item-item.ensures.item c.take_item-item.ensures.parts c.take_item-item.ensures.grew c.put_record.new.over c.put_record.ensures.grew c.join_lists.new.over c.join_lists.ensures.parts c.join_lists.ensures.grew c.count_up.new.over c.count_up.ensures.parts c.count_up.ensures.grew holds in (
      c.take_item-item.result,
      subst (λ (x : Entry). AgreesAs (seen now words) (shape_of conf) conf (c.take_item-item.result ∷ items) (x ∷ list)) (sym is)
          (subst (λ (s : Shape). AgreesAs (seen now words) s conf (c.take_item-item.result ∷ items) (e ∷ list)) same all),
    )
