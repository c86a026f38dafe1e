-- Bytes put in place of others: the words that are planned, one after the other.
use Rattle.std.proofs.Common.{◌≡◌, ◌⊎◌, inl, inr, ℕ, zero, suc, ◌+◌, ◌*◌, ◌-◌, ◌/◌, ◌<◌, ◌≤◌, All, List, [], ◌∷◌, length, sym, ap, ◌∙◌, subst, arith}
use Rattle.std.specs.List.{splice}
use Rattle.std.proofs.lemmas.Bool.{cases_eq, cases_lt}
use Rattle.uw_model.proofs.AreaLemmas.{spliced_size}
use Rattle.uw_words.specs.Plans.{Plan, region, Names}
use Rattle.uw_words.specs.Numbers.{IsNoneOf, places_from}
use Rattle.uw_words.specs.Parts.{seen, HasRoom, GrewAt}
use Rattle.uw_words.specs.Texts.{text_word, HoldsText}
use Rattle.uw_words.proofs.Growth.{put_on, grew_none, grew_put, grew_then, read_put, read_other, read_grown, none_before, places_split}
use Rattle.uw_words.proofs.Copies.{putting_room}
use Rattle.uw_area.specs.AreaKind.{touched_words}
use Rattle.uw_area.specs.AreaSteps.{IsWordAfter, touched_places}
use Rattle.uw_area.proofs.ByteWords.{word_before, word_behind}

-- a place behind a row is none of it
pub none_behind : (first count at : ℕ) → first + count ≤ at → IsNoneOf (places_from first count) at
none_behind first zero at high = tt
none_behind first (suc count) at high = ((λ same. absurd (omega (arith, same, high))), none_behind (first + 1) count at (omega (arith, high)))

-- the words of some of the bytes are planned
pub record Splicing (words : List ℕ) (before now : Plan) (at : ℕ) (put : List ℕ) (n : ℕ) : Type 0 where
  pub grew : GrewAt (places_from (16 + at / 8) n) before now
  pub held : (bytes : List ℕ) → All (λ byte. byte < 256) bytes → at + length put ≤ length bytes → HoldsText (seen before words) 16 bytes → (j : ℕ) → j < n
      → seen now words (16 + (at / 8 + j)) ≡ text_word (splice bytes at (at + length put) put) (at / 8 + j)

module _ (words : List ℕ) (before : Plan) (at : ℕ) (put : List ℕ) where
  pub splicing_start : Splicing words before before at put 0
  splicing_start = record { grew = grew_none before; held = λ bytes all within holds j short. absurd (omega (arith, short)) }

  pub splicing_next : (now later : Plan) (n word : ℕ) → Splicing words before now at put n → later ≡ put_on now (16 + (at / 8 + n)) word
      → 8 * (at / 8 + n) < at + length put
      → IsWordAfter (seen now words (16 + (at / 8 + n))) word at (at / 8 + n) put
      → Splicing words before later at put (n + 1)
  splicing_next now later n word splicing put_is more after =
      let place : 16 + at / 8 + n ≡ 16 + (at / 8 + n) = omega arith in
      record {
        grew =
            subst (λ (places : List ℕ). GrewAt places before later) (sym (places_split (16 + at / 8) n 1))
            (grew_then (places_from (16 + at / 8) n) ((16 + at / 8 + n) ∷ []) before now later splicing.grew
            (subst (λ (p : ℕ). GrewAt (p ∷ []) now later) (sym place)
            (subst (GrewAt ((16 + (at / 8 + n)) ∷ []) now) (sym put_is) (grew_put now (16 + (at / 8 + n)) word))));
        held = λ bytes all within holds j short. elim (cases_eq j n) [
          | inl same ↦
              let own : seen now words (16 + (at / 8 + n)) ≡ text_word bytes (at / 8 + n) =
              read_grown (places_from (16 + at / 8) n) before now words (16 + (at / 8 + n)) splicing.grew
              (none_behind (16 + at / 8) n (16 + (at / 8 + n)) (omega arith))
              ∙ holds (at / 8 + n) (omega (arith, within, more)) in
              ap (λ (i : ℕ). seen later words (16 + (at / 8 + i))) same
              ∙ ap (λ (p : Plan). seen p words (16 + (at / 8 + n))) put_is
              ∙ read_put now.writes (region words) (16 + (at / 8 + n)) word
              ∙ after bytes all within own
              ∙ ap (λ (i : ℕ). text_word (splice bytes at (at + length put) put) (at / 8 + i)) (sym same)
          | inr other ↦
              ap (λ (p : Plan). seen p words (16 + (at / 8 + j))) put_is
              ∙ read_other now.writes (region words) (16 + (at / 8 + n)) word (16 + (at / 8 + j)) (λ same. other (omega (arith, same)))
              ∙ splicing.held bytes all within holds j (omega (arith, short, other))
        ];
      }

  pub splicing_room : (now : Plan) (n : ℕ) → n < touched_words at (at + length put) → HasRoom before (touched_places at (at + length put))
      → Splicing words before now at put n
      → (length now.writes < now.room) ⊎ Names now.writes (16 + (at / 8 + n))
  splicing_room now n short room splicing =
      let place : 16 + at / 8 + n ≡ 16 + (at / 8 + n) = omega arith in
      subst (λ (p : ℕ). (length now.writes < now.room) ⊎ Names now.writes p) place
      (putting_room before now (16 + at / 8) n (touched_words at (at + length put)) short room splicing.grew)

  pub splicing_all : (now : Plan) → Splicing words before now at put (touched_words at (at + length put)) → (bytes : List ℕ) → All (λ byte. byte < 256) bytes
      → at + length put ≤ length bytes → HoldsText (seen before words) 16 bytes
      → HoldsText (seen now words) 16 (splice bytes at (at + length put) put)
  splicing_all now splicing bytes all within holds k short = elim (cases_lt k (at / 8)) [
    | inl early ↦
        read_grown row before now words (16 + k) splicing.grew (none_before (16 + at / 8) touched (16 + k) (omega (arith, early)))
        ∙ holds k here ∙ word_before bytes put at within k (omega (arith, early))
    | inr late ↦ elim (cases_lt k (at / 8 + touched)) [
      | inl inside ↦
          let place : at / 8 + (k - at / 8) ≡ k = omega (arith, late) in
          ap (λ (i : ℕ). seen now words (16 + i)) (sym place)
          ∙ splicing.held bytes all within holds (k - at / 8) (omega (arith, late, inside))
          ∙ ap (text_word (splice bytes at (at + length put) put)) place
      | inr past ↦
          read_grown row before now words (16 + k) splicing.grew (none_behind (16 + at / 8) touched (16 + k) (omega (arith, past)))
          ∙ holds k here ∙ word_behind bytes put at within k (omega (arith, past))
    ]
  ]
    where
      touched : ℕ
      touched = touched_words at (at + length put)

      row : List ℕ
      row = places_from (16 + at / 8) (touched_words at (at + length put))

      here : 8 * k < length bytes
      here = omega (arith, short, spliced_size bytes put at within)
