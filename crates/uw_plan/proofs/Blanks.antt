-- A region without an entry agrees with the empty list.
use Rattle.std.proofs.Common.{◌≡◌, inl, inr, ℕ, zero, suc, ◌+◌, ◌%◌, ◌<◌, ◌≤◌, ◌==◌, false, List, [], length, set, get_or, refl, sym, ap, ◌∙◌, subst, arith}
use Rattle.std.specs.Int.{bit_at}
use Rattle.std.proofs.lemmas.Bool.{cases_eq}
use Rattle.std.proofs.lemmas.Bool.Decides.{nat_tests}
use Rattle.std.proofs.lemmas.List.{get_or-set_other, get_or-set_same, length-set}
use Rattle.std.proofs.lemmas.Nat.Bits.{bit_at-zero}
use Rattle.uw_model.specs.declared.conf.CacheConf.{CacheConf}
use Rattle.uw_model.specs.Entries.{IsCacheConf}
use Rattle.uw_words.specs.declared.shape.Shape.{Shape}
use Rattle.uw_words.specs.Shapes.{IsShape}
use Rattle.uw_words.specs.Plans.{region}
use Rattle.uw_words.specs.Numbers.{AreDistinct, places_from}
use Rattle.uw_words.specs.Walks.{IsWalk, link_of}
use Rattle.uw_words.proofs.Growth.{none_before, row_has}
use Rattle.uw_words.proofs.Links.{item_within, link_above, same_item}
use Rattle.uw_bitmap.specs.Bits.{word_of}
use Rattle.uw_plan.specs.Regions.{shape_of}
use Rattle.uw_plan.specs.Agreement.{Agrees}
use Rattle.uw_plan.specs.BlankSteps.{HasFreeItems, link_to}
use Rattle.uw_plan.proofs.Shapes.{shape_of_conf}

-- one more free item
pub item_more : (shape : Shape) → IsShape shape → (words now : List ℕ) (item next : ℕ) → HasFreeItems shape words item → item < shape.n_items → next ≡ link_to shape (item + 1)
    → now ≡ set words (link_of shape item + 2) next
    → HasFreeItems shape now (item + 1)
item_more shape is words now item next has short next_is made =
    let place = link_of shape item + 2 in
    let above : 17 ≤ link_of shape item = link_above shape is item in
    let within : place < length words = omega (arith, item_within shape is item 2 short (omega (arith, is.stride)), is.intent, has.len) in
    let W : List ℕ → Type 0 = λ l. HasFreeItems shape l (item + 1) in
    let own : (other : ℕ) → link_of shape other + 2 ≡ place → other ≡ item = λ other same. same_item shape is other item 2 2 (omega (arith, is.stride)) (omega (arith, is.stride)) same in
    subst W (sym made) record {
      len = length-set words place next ∙ has.len;
      head = λ at few. get_or-set_other words place at next 0 (λ same. omega (arith, same, few, above)) ∙ has.head at few;
      links = λ other few. elim (cases_eq other item) [
        | inl same ↦ subst (λ (i : ℕ). get_or (set words place next) (link_of shape i + 2) 0 ≡ link_to shape (i + 1)) (sym same) (get_or-set_same words place next 0 within ∙ next_is)
        | inr apart ↦ get_or-set_other words place (link_of shape other + 2) next 0 (λ same. apart (own other same)) ∙ has.links other (omega (arith, few, apart))
      ];
      zeros = λ at high others. get_or-set_other words place at next 0 (λ same. others item (omega arith) same) ∙ has.zeros at high (λ i few. others i (omega (arith, few)));
    }

module _ (conf : CacheConf) (is : IsCacheConf conf) (words : List ℕ) (has : HasFreeItems (shape_of conf) words conf.items) where
  shaped : IsShape (shape_of conf)
  shaped = (shape_of_conf conf is).is

  -- the free items follow one another
  free_walk : (count first : ℕ) → first + count ≡ conf.items → IsWalk (region words) (shape_of conf) (link_to (shape_of conf) first) 2 (places_from first count)
  free_walk zero first all =
      let none : (n : ℕ) → n ≡ conf.items → link_to (shape_of conf) n ≡ 0 = λ n end. grind (arith, nat_tests) in
      none first (omega (arith, all))
  free_walk (suc count) first all =
      let short : first < conf.items = omega (arith, all) in
      let here : link_to (shape_of conf) first ≡ link_of (shape_of conf) first = grind (arith, nat_tests) in (
        here,
        short,
        subst (λ (l : ℕ). IsWalk (region words) (shape_of conf) l 2 (places_from (first + 1) count)) (sym (has.links first short)) (free_walk count (first + 1) (omega (arith, all))),
      )

  row_distinct : (count first : ℕ) → AreDistinct (places_from first count)
  row_distinct zero first = tt
  row_distinct (suc count) first = (none_before (first + 1) count first (omega arith), row_distinct count (first + 1))

  -- words before the items, behind the ninth, are 0
  low_zero : (at : ℕ) → 9 ≤ at → at < (shape_of conf).items → region words at ≡ 0
  low_zero at above below = has.zeros at above (λ item few same. omega (arith, same, below))

  pub blank_agrees : Agrees conf words []
  blank_agrees = record {
    len = has.len;
    closed = low_zero 10 (omega arith) (omega (arith, shaped.items, shaped.chains, shaped.bitmap));
    items = [];
    agrees = record {
      parts = record { items = []; free = places_from 0 conf.items; chains = λ chain. []; marked = λ block. false; count = 0 };
      is = refl;
      held = record {
        head = record {
          layout = has.head 0 (omega arith);
          items = has.head 1 (omega arith);
          blocks = has.head 2 (omega arith);
          block_words = has.head 3 (omega arith);
          key_words = has.head 4 (omega arith);
          chains = has.head 5 (omega arith);
          zeros = λ at above within. low_zero at (omega (arith, above)) (omega (arith, within, shaped.items, shaped.chains, shaped.bitmap));
        };
        count = low_zero 9 (omega arith) (omega (arith, shaped.items, shaped.chains, shaped.bitmap));
        recency = record { walk = has.head 6 (omega arith); distinct = tt; back = has.head 7 (omega arith) };
        chains = record {
          walk = λ chain few. low_zero ((shape_of conf).chains + chain) (omega (arith, shaped.chains, shaped.bitmap)) (omega (arith, few, shaped.items));
          distinct = λ chain few. tt;
          falls = λ chain item few one. absurd one;
        };
        free = record {
          walk =
              let some : 0 < conf.items = omega (arith, is.items.0) in
              let here : link_to (shape_of conf) 0 ≡ link_of (shape_of conf) 0 = grind (arith, nat_tests) in
              subst (λ (l : ℕ). IsWalk (region words) (shape_of conf) l 2 (places_from 0 conf.items)) (here ∙ sym (has.head 8 (omega arith))) (free_walk conf.items 0 (omega arith));
          distinct = row_distinct conf.items 0;
        };
        bits = λ block few.
            ap (λ (w : ℕ). bit_at w (block % 64) == 1)
            (low_zero (word_of (shape_of conf) block) (omega (arith, shaped.bitmap)) (omega (arith, few, shaped.bitmap, shaped.chains, shaped.items)))
            ∙ ap (λ (b : ℕ). b == 1) (bit_at-zero (block % 64));
      };
      fits = record {
        state = record { few = omega arith; apart = tt };
        count = refl;
        linked = λ chain item few one. absurd one;
        others = λ item few. (λ one. tt, λ none. row_has 0 conf.items item (omega arith) (omega (arith, few)));
        covered = λ block few. refl;
      };
      entries = tt;
      chained = λ item one. absurd one;
    };
  }
