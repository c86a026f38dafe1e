use Rattle.std.proofs.Common.{◌≡◌, false, sym, ap, ◌∙◌}
use Rattle.std.specs.Option.{is_some}
use Rattle.std.specs.Str.{bytes_eq}
use Rattle.std.proofs.lemmas.Map.Text.{hash_map_updates_str}
use Rattle.uw_rules.specs.LabelSteps.{label_place}
use Rattle.uw_rules.proofs.LabelLemmas.{absent, noted}
use Rattle.uw_rules.proofs.labels.Labels.note.Goals as goal

pub returns : goal.returns
unfolding label_place
returns c = λ text.
    let label = c.args.label.now in
    let free : is_some (label_place c.args.self.now label) ≡ false = ap is_some (sym c.place.ensures) ∙ sym c.is_some.ensures ∙ c.if-is_some.false in
    hash_map_updates_str label c.args.self.now.places c.insert.new.self _ c.in_ok-insert.ensures.updates text
    ∙ noted (bytes_eq label text) (label_place c.args.self.now text) c.args.place (absent (label_place c.args.self.now) label text free)
