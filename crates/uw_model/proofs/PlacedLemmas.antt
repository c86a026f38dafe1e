-- What an entry written leaves, by the place that the room made for it gives.
use Rattle.std.proofs.Common.{◌≡◌, ℕ, List, ◌∷◌, Option, None, Some, option_map, unwrap_or, refl, sym, ap, subst, ◌∙◌}
use Rattle.std.proofs.lemmas.Option.{none-some, same_Some}
use Rattle.uw_model.specs.declared.conf.CacheConf.{CacheConf}
use Rattle.uw_model.specs.declared.entries.Entry.{Entry}
use Rattle.uw_model.specs.declared.calls.Answer.{Answer}
use Rattle.uw_model.specs.Entries.{new_entry, span}
use Rattle.uw_model.specs.Placement.{first_run, room}
use Rattle.uw_model.specs.Calls.{placed, without, written}

-- the place of n blocks in the list that is left, if one is
abbrev run_of : CacheConf → ℕ → Option (List Entry) → Option ℕ
run_of conf n kept = option_map (λ k. unwrap_or (first_run conf k n) 0) kept

-- without a place no list is left
pub nowhere : (conf : CacheConf) (n : ℕ) (kept : Option (List Entry)) → None ≡ run_of conf n kept → kept ≡ None
nowhere conf n None run = refl
nowhere conf n (Some kept) run = absurd (none-some (unwrap_or (first_run conf kept n) 0) run)

placed_at : (conf : CacheConf) (list others : List Entry) (now : ℕ) (key value : List ℕ) (dies first : ℕ) (answered : Answer) (kept : Option (List Entry)) → Some first ≡ run_of conf (span conf value) kept → new_entry key value dies first now ∷ unwrap_or kept others ≡ (placed conf list now key value dies answered kept).list
placed_at conf list others now key value dies first answered None run = absurd (none-some first (sym run))
placed_at conf list others now key value dies first answered (Some kept) run =
    ap (λ place. new_entry key value dies place now ∷ kept) (same_Some first (unwrap_or (first_run conf kept (span conf value)) 0) run)

-- the list after a write, by the list without the key and the blocks that the value takes
module _ (conf : CacheConf) (list others : List Entry) (key value : List ℕ) (dies n now : ℕ) (answered : Answer) (others_are : others ≡ without key list) (n_is : n ≡ span conf value) where
  placed_is : (placed conf list now key value dies answered (room conf others n now)).list ≡ (written conf list now key value dies answered).list
  placed_is = ap (λ k. (placed conf list now key value dies answered k).list) (ap (λ l. room conf l n now) others_are ∙ ap (λ m. room conf (without key list) m now) n_is)

  -- with a place, the entry stands there in front of what is left
  pub written_at : (first : ℕ) (left : List Entry) → Some first ≡ run_of conf n (room conf others n now) → left ≡ unwrap_or (room conf others n now) others → new_entry key value dies first now ∷ left ≡ (written conf list now key value dies answered).list
  written_at first left run left_is =
      let here = placed_at conf list others now key value dies first answered (room conf others n now) (subst (λ m. Some first ≡ run_of conf m (room conf others n now)) n_is run) in
      ap (λ l. new_entry key value dies first now ∷ l) left_is ∙ here ∙ placed_is

  -- without one the list stays
  pub written_nowhere : None ≡ run_of conf n (room conf others n now) → list ≡ (written conf list now key value dies answered).list
  written_nowhere run =
      sym (ap (λ k. (placed conf list now key value dies answered k).list) (nowhere conf n (room conf others n now) run)) ∙ placed_is
