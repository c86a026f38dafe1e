-- The blocks of an entry that left the list are free, and no run is free beside them where none was before.
use Rattle.std.proofs.Common.{◌≡◌, ℕ, ◌+◌, ◌<◌, ◌≤◌, Bool, true, false, if◌then◌else◌, List, refl, sym, ap, ◌∙◌, subst, arith}
use Rattle.std.proofs.lemmas.Bool.Decides.{nat_tests}
use Rattle.uw_model.specs.declared.conf.CacheConf.{CacheConf}
use Rattle.uw_model.specs.declared.entries.Entry.{Entry}
use Rattle.uw_model.specs.Entries.{IsCacheConf, IsEntry, span, span_of}
use Rattle.uw_model.specs.Calls.{without}
use Rattle.uw_model.specs.Placement.{fits}
use Rattle.uw_words.specs.declared.shape.Shape.{Shape}
use Rattle.uw_words.specs.Numbers.{AreDistinct, without_number}
use Rattle.uw_items.specs.declared.records.Fields.{Fields}
use Rattle.uw_items.specs.Items.{HoldsFields}
use Rattle.uw_bitmap.specs.Bits.{IsFreeRun, is_in_run, is_marked}
use Rattle.uw_plan.specs.Agreement.{AgreesAs}
use Rattle.uw_plan.specs.Plans.{IsPaired}
use Rattle.uw_plan.specs.Regions.{shape_of}
use Rattle.uw_plan.proofs.Dropping.{first_word, span_word}
use Rattle.uw_plan.proofs.Parted.{Parted, covered_as_before, paired_entry, parted, parted_length, uncovered}
use Rattle.uw_plan.proofs.Running.{marks_are, no_run_is_free}
use Rattle.uw_plan.proofs.Shapes.{shape_of_conf}

-- a block that is not as if marked is outside, and is free
unmarked_outside : (inside marked : Bool) → (if inside then true else marked) ≡ false → (inside ≡ false) × (marked ≡ false)
unmarked_outside true marked is = let other : true ≡ false = is in absurd (let none : ⊥ = grind (arith, other) in none)
unmarked_outside false marked is = (refl, is)

module _ (conf : CacheConf) (is : IsCacheConf conf) (shape : Shape) (same : shape ≡ shape_of conf) (before now : ℕ → ℕ) (items : List ℕ) (list : List Entry)
    (item : ℕ) (e : Entry) (agrees : AgreesAs before (shape_of conf) conf items list) (paired : IsPaired items list item e)
    (left : AgreesAs now (shape_of conf) conf (without_number items item) (without e.key list))
    (fields : Fields) (has : HoldsFields before shape item fields) (m : ℕ) (is_m : m ≡ span_of conf fields.length) where
  has_here : HoldsFields before (shape_of conf) item fields
  has_here = subst (λ (s : Shape). HoldsFields before s item fields) same has

  first_is : fields.first ≡ e.first
  first_is = sym has_here.first ∙ first_word conf (shape_of conf) (shape_of_conf conf is) before items list item e agrees paired

  m_is : m ≡ span conf e.value
  m_is = is_m ∙ ap (span_of conf) (sym has_here.bytes) ∙ span_word conf (shape_of conf) (shape_of_conf conf is) before items list item e agrees paired

  parts : Parted items list item e (without_number items item) (without e.key list)
  parts = parted conf items list item e (subst AreDistinct agrees.is agrees.held.recency.distinct) agrees.fits.state.apart paired

  entry : IsEntry conf e
  entry = paired_entry conf items list item e agrees.fits.state.apart paired

  within_blocks : fields.first + m ≤ conf.blocks
  within_blocks = omega (arith, first_is, m_is, entry.blocks)

  pub freed_some : 1 ≤ m
  freed_some = omega (arith, is_m)

  pub freed_within : fields.first + m ≤ shape.n_blocks
  freed_within = omega (arith, within_blocks, ap (λ (s : Shape). s.n_blocks) same)

  -- an item is free
  pub freed_fewer : now 9 < conf.items
  freed_fewer = omega (arith, left.held.count, left.fits.count, parted_length parts, agrees.fits.state.few)

  -- its blocks are free
  pub freed : (block : ℕ) → fields.first ≤ block → block < fields.first + m → is_marked now shape block ≡ false
  freed block low high =
      ap (λ (s : Shape). is_marked now s block) same
      ∙ marks_are now conf (without_number items item) (without e.key list) left block (omega (arith, within_blocks))
      ∙ uncovered conf block parts agrees.fits.state.apart (omega (arith, first_is), omega (arith, first_is, m_is))

  -- and all others are marked as before
  as_before : (block : ℕ) → block < conf.blocks → is_in_run fields.first m block ≡ false → is_marked now (shape_of conf) block ≡ is_marked before (shape_of conf) block
  as_before block short outside =
      marks_are now conf (without_number items item) (without e.key list) left block short
      ∙ covered_as_before conf block parts (λ covered.
      let low : fields.first ≤ block = omega (arith, first_is, covered.0) in
      let high : block < fields.first + m = omega (arith, first_is, m_is, covered.1) in
      grind (arith, nat_tests))
      ∙ sym (marks_are before conf items list agrees block short)

  module _ (n : ℕ) (some : 1 ≤ n) (fewer : before 9 < conf.items) (full : fits conf list n ≡ false) where
    none_beside : (start : ℕ) → IsFreeRun (λ block. if is_in_run fields.first m block then true else is_marked now (shape_of conf) block) conf.blocks start n → ⊥
    none_beside start run = no_run_is_free before conf items list agrees n some fewer full start (record {
      within = run.within;
      free = λ i h.
          let out = unmarked_outside (is_in_run fields.first m (start + i)) (is_marked now (shape_of conf) (start + i)) (run.free i h) in
          sym (as_before (start + i) (omega (arith, run.within, h)) out.0) ∙ out.1;
    })

    -- no run is free beside them
    pub freed_alone : (start : ℕ) → IsFreeRun (λ block. if is_in_run fields.first m block then true else is_marked now shape block) shape.n_blocks start n → ⊥
    freed_alone = subst
        (λ (s : Shape). (start : ℕ) → IsFreeRun (λ block. if is_in_run fields.first m block then true else is_marked now s block) s.n_blocks start n → ⊥)
        (sym same) none_beside
