use Rattle.std.specs.Prelude.{codes}
use Rattle.std.specs.Option.{option_copied}
use Rattle.uw_rules.specs.Arguments.{text_of_key}
use Rattle.uw_rules.proofs.CompileLemmas.{area_small}
use Rattle.uw_rules.proofs.compiling.action_meant.Goals as goal

pub area_step-requires : goal.area_step-requires
area_step-requires c =
    let known = rw c.in-AreaRead.is at c.requires.known in
    area_small c.args.site.now.names.areas (text_of_key (codes "area") (option_copied c.args.argument)) _ c.requires.areas known

pub area_write-requires-clause-area : goal.area_write-requires-clause-area
area_write-requires-clause-area c =
    let known = rw c.in-AreaWrite.is at c.requires.known in
    area_small c.args.site.now.names.areas (text_of_key (codes "area") (option_copied c.args.argument)) _ c.requires.areas known

pub area_step-requires-in-AreaNum : goal.area_step-requires-in-AreaNum
area_step-requires-in-AreaNum c =
    let known = rw c.in-AreaNum.is at c.requires.known in
    area_small c.args.site.now.names.areas (text_of_key (codes "area") (option_copied c.args.argument)) _ c.requires.areas known

pub area_step-requires-in-AreaSet : goal.area_step-requires-in-AreaSet
area_step-requires-in-AreaSet c =
    let known = rw c.in-AreaSet.is at c.requires.known in
    area_small c.args.site.now.names.areas (text_of_key (codes "area") (option_copied c.args.argument)) _ c.requires.areas known

pub area_step-requires-in-AreaInc : goal.area_step-requires-in-AreaInc
area_step-requires-in-AreaInc c =
    let known = rw c.in-AreaInc.is at c.requires.known in
    area_small c.args.site.now.names.areas (text_of_key (codes "area") (option_copied c.args.argument)) _ c.requires.areas known

pub area_step-requires-in-AreaDec : goal.area_step-requires-in-AreaDec
area_step-requires-in-AreaDec c =
    let known = rw c.in-AreaDec.is at c.requires.known in
    area_small c.args.site.now.names.areas (text_of_key (codes "area") (option_copied c.args.argument)) _ c.requires.areas known

pub area_step-requires-in-AreaUpdates : goal.area_step-requires-in-AreaUpdates
area_step-requires-in-AreaUpdates c =
    let known = rw c.in-AreaUpdates.is at c.requires.known in
    area_small c.args.site.now.names.areas (text_of_key (codes "area") (option_copied c.args.argument)) _ c.requires.areas known
