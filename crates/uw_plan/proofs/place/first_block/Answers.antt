use Rattle.std.proofs.Common.{◌≡◌, ◌∙◌, ℕ, [], List, Option, Some, option_map, sym, ap, subst}
use Rattle.uw_model.specs.declared.conf.CacheConf.{CacheConf}
use Rattle.uw_model.specs.declared.entries.Entry.{Entry}
use Rattle.uw_words.specs.Parts.{seen}
use Rattle.uw_words.specs.Plans.{Plan}
use Rattle.uw_words.specs.Walks.{item_word}
use Rattle.uw_words.specs.declared.shape.Shape.{Shape}
use Rattle.uw_plan.specs.Agreement.{Agrees, AgreesAs}
use Rattle.uw_plan.specs.Regions.{shape_of}
use Rattle.uw_plan.proofs.Dropping.{as_shape, as_used, used_short}
use Rattle.uw_plan.proofs.Parted.{paired_holds}
use Rattle.uw_plan.proofs.Planned.{seen_empty}
use Rattle.uw_plan.proofs.place.first_block.Goals as goal

held : (conf : CacheConf) (words : List ℕ) (plan : Plan) (list : List Entry) → plan.writes ≡ [] → (agrees : Agrees conf words list)
    → AgreesAs (seen plan words) (shape_of conf) conf agrees.items list
held conf words plan list empty agrees =
    subst (λ (reader : ℕ → ℕ). AgreesAs reader (shape_of conf) conf agrees.items list) (sym (seen_empty plan words empty)) agrees.agrees

pub item_of_key-requires-clause-some : goal.item_of_key-requires-clause-some
item_of_key-requires-clause-some c =
    let some = c.requires.region in
    (some.1.items, some.0, held c.args.conf.now c.args.ram.now c.args.over.now some.0 c.requires.empty some.1)

pub returns-in_err-item : goal.returns-in_err-item
returns-in_err-item c = λ list agrees.
    let none = c.in_err-item.ensures agrees.items list (held c.args.conf.now c.args.ram.now c.args.over.now list c.requires.empty agrees) in
    c.from_residual.ensures ∙ sym (ap (λ (o : Option Entry). option_map {T = Entry} {U = ℕ} (λ e. e.first) o) none)

pub fields_of-requires-clause-item : goal.fields_of-requires-clause-item
fields_of-requires-clause-item c =
    let conf = c.args.conf.now in
    let shape = c.shape_of.result in
    let reader = seen c.args.over.now c.args.ram.now in
    let same = c.shape_of.ensures.parts in
    let some = c.requires.region in
    let agrees = held conf c.args.ram.now c.args.over.now some.0 c.requires.empty some.1 in
    let found = c.in_ok-item.ensures some.1.items some.0 agrees in
    used_short conf shape (as_shape conf shape same c.requires.conf) reader c.in_ok-item.item
    (as_used conf shape same reader c.in_ok-item.item (some.1.items, some.0, found.0, (agrees, found.1.1)))

pub returns : goal.returns
returns c = λ list agrees.
    let conf = c.args.conf.now in
    let reader = seen c.args.over.now c.args.ram.now in
    let seen_so = held conf c.args.ram.now c.args.over.now list c.requires.empty agrees in
    let found = c.in_ok-item.ensures agrees.items list seen_so in
    let holds = paired_holds reader (shape_of conf) agrees.items list c.in_ok-item.item found.0 seen_so.entries found.1.1 in
    let read = subst (λ (s : Shape). item_word reader s c.in_ok-item.item 4 ≡ c.fields_of.result.first) c.shape_of.ensures.parts c.fields_of.ensures.first in
    ap (λ (first : ℕ). Some first) (sym read ∙ holds.fields.first)
    ∙ sym (ap (λ (o : Option Entry). option_map {T = Entry} {U = ℕ} (λ e. e.first) o) found.1.0)
