-- One vault more begins as its configuration says.
use Rattle.std.proofs.Common.{◌≡◌, ◌∷◌, ◌++◌, ◌+◌, [], take, ap, sym, ◌∙◌}
use Rattle.std.proofs.lemmas.List.{take_more}
use Rattle.std.proofs.lemmas.Slice.Zip.{all_zipped_more}
use Rattle.uw_model.specs.declared.conf.CacheConf.{CacheConf}
use Rattle.uw_shared.specs.BeginningSteps.{BeginsAsCache}
use Rattle.uw_shared.proofs.local_desk.empty_vaults.Goals as goal

pub loop-conf-preserved : goal.loop-conf-preserved
loop-conf-preserved c =
    let confs = c.args.confs.now in
    let i = c.loop-conf.conf-index in
    let one : take (i + 1) confs ≡ take i confs ++ c.conf-item.result ∷ [] =
    take_more confs i c.conf-item.result c.loop-conf-test.true ∙ ap (λ (x : CacheConf). take i confs ++ x ∷ []) (sym c.conf-item.is) in
    rw (one, c.in_ok-push.ensures.items)
    (all_zipped_more BeginsAsCache (take i confs) c.loop-conf.vaults.items c.conf-item.result c.in_ok-new.field-0 c.loop-conf.invariant
    (record { conf = c.in_ok-new.ensures.conf; empty = c.in_ok-new.ensures.empty }))
