use Rattle.std.proofs.Common.{◌≡◌, ℕ, ◌+◌, [], ◌∷◌, ap, ◌∙◌}
use Rattle.uw_words.specs.Parts.{seen}
use Rattle.uw_words.specs.Walks.{link_of}
use Rattle.uw_words.proofs.Growth.{room_now, room_next}
use Rattle.uw_recency.proofs.Puts.{out_room, out_grew, out_list, newer_is_link, older_is_link}
use Rattle.uw_recency.proofs.recency.take_out.Goals as goal

pub forward_place-forward-requires-clause-link : goal.forward_place-forward-requires-clause-link
forward_place-forward-requires-clause-link c =
    let reader = seen c.args.over.now c.args.ram.now in
    let newer : c.load-newer.result ≡ reader (link_of c.args.shape.now c.args.item + 1) = c.load-newer.ensures ∙ ap (λ (l : ℕ). reader (l + 1)) c.link_of-link.ensures.link in
    newer_is_link c.args.shape.now c.requires.shape reader c.args.item c.load-newer.result newer c.requires.listed

pub backward_place-backward-requires-clause-link : goal.backward_place-backward-requires-clause-link
backward_place-backward-requires-clause-link c =
    let reader = seen c.args.over.now c.args.ram.now in
    let older : c.load-older.result ≡ reader (link_of c.args.shape.now c.args.item + 2) = c.load-older.ensures ∙ ap (λ (l : ℕ). reader (l + 2)) c.link_of-link.ensures.link in
    older_is_link c.args.shape.now c.requires.shape reader c.args.item c.load-older.result older c.requires.listed

pub put-requires : goal.put-requires
put-requires c =
    let reader = seen c.args.over.now c.args.ram.now in
    let newer : c.load-newer.result ≡ reader (link_of c.args.shape.now c.args.item + 1) = c.load-newer.ensures ∙ ap (λ (l : ℕ). reader (l + 1)) c.link_of-link.ensures.link in
    let older : c.load-older.result ≡ reader (link_of c.args.shape.now c.args.item + 2) = c.load-older.ensures ∙ ap (λ (l : ℕ). reader (l + 2)) c.link_of-link.ensures.link in
    room_now c.args.over.now c.forward_place-forward.result (c.backward_place-backward.result ∷ []) (out_room c.args.shape.now c.args.over.now c.args.ram.now c.args.item c.load-newer.result c.load-older.result c.forward_place-forward.result c.backward_place-backward.result newer older
    c.forward_place-forward.ensures c.backward_place-backward.ensures c.requires.room)

pub put-requires-2 : goal.put-requires-2
put-requires-2 c =
    let reader = seen c.args.over.now c.args.ram.now in
    let newer : c.load-newer.result ≡ reader (link_of c.args.shape.now c.args.item + 1) = c.load-newer.ensures ∙ ap (λ (l : ℕ). reader (l + 1)) c.link_of-link.ensures.link in
    let older : c.load-older.result ≡ reader (link_of c.args.shape.now c.args.item + 2) = c.load-older.ensures ∙ ap (λ (l : ℕ). reader (l + 2)) c.link_of-link.ensures.link in
    room_now c.put.new.self c.backward_place-backward.result []
    (room_next c.args.over.now c.put.new.self c.forward_place-forward.result c.load-older.result (c.backward_place-backward.result ∷ []) c.put.ensures
    (out_room c.args.shape.now c.args.over.now c.args.ram.now c.args.item c.load-newer.result c.load-older.result c.forward_place-forward.result c.backward_place-backward.result newer older
    c.forward_place-forward.ensures c.backward_place-backward.ensures c.requires.room))

pub returns-clause-list : goal.returns-clause-list
returns-clause-list c =
    let reader = seen c.args.over.now c.args.ram.now in
    let newer : c.load-newer.result ≡ reader (link_of c.args.shape.now c.args.item + 1) = c.load-newer.ensures ∙ ap (λ (l : ℕ). reader (l + 1)) c.link_of-link.ensures.link in
    let older : c.load-older.result ≡ reader (link_of c.args.shape.now c.args.item + 2) = c.load-older.ensures ∙ ap (λ (l : ℕ). reader (l + 2)) c.link_of-link.ensures.link in
    out_list c.args.shape.now c.args.over.now c.args.ram.now c.args.item c.load-newer.result c.load-older.result c.forward_place-forward.result c.backward_place-backward.result newer older
    c.forward_place-forward.ensures c.backward_place-backward.ensures c.put.new.self c.put-2.new.self c.put.ensures c.put-2.ensures c.requires.shape

pub returns-clause-grew : goal.returns-clause-grew
returns-clause-grew c =
    let reader = seen c.args.over.now c.args.ram.now in
    let newer : c.load-newer.result ≡ reader (link_of c.args.shape.now c.args.item + 1) = c.load-newer.ensures ∙ ap (λ (l : ℕ). reader (l + 1)) c.link_of-link.ensures.link in
    let older : c.load-older.result ≡ reader (link_of c.args.shape.now c.args.item + 2) = c.load-older.ensures ∙ ap (λ (l : ℕ). reader (l + 2)) c.link_of-link.ensures.link in
    out_grew c.args.shape.now c.args.over.now c.args.ram.now c.args.item c.load-newer.result c.load-older.result c.forward_place-forward.result c.backward_place-backward.result newer older
    c.forward_place-forward.ensures c.backward_place-backward.ensures c.put.new.self c.put-2.new.self c.put.ensures c.put-2.ensures
