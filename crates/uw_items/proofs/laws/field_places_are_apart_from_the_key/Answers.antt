use Rattle.uw_items.proofs.Held.{fields_off_key}
use Rattle.uw_items.proofs.laws.field_places_are_apart_from_the_key.Goals as goal

pub returns : goal.returns
returns c = fields_off_key
