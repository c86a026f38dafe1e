-- An item leaves its chain.
use Rattle.std.proofs.Common.{◌≡◌, ◌≢◌, inl, inr, ℕ, ◌+◌, ◌<◌, List, [], ◌∷◌, refl, sym, ap, ◌∙◌, subst, arith}
use Rattle.std.proofs.lemmas.Bool.{cases_eq}
use Rattle.std.proofs.lemmas.Bool.Decides.{nat_tests}
use Rattle.uw_words.specs.declared.shape.Shape.{Shape}
use Rattle.uw_words.specs.Shapes.{IsShape}
use Rattle.uw_words.specs.Numbers.{IsOneOf, AreDistinct, without_number}
use Rattle.uw_words.specs.Walks.{link_of, item_word, IsWalk}
use Rattle.uw_words.specs.Records.{HoldsKey}
use Rattle.uw_words.proofs.Links.{walk_same}
use Rattle.uw_words.proofs.Numbers.{one_apart, one_of_without, distinct_without}
use Rattle.uw_chains.specs.Chains.{chain_place, item_chain, FallsOn, IsChains, with_chain, place_before}
use Rattle.uw_chains.proofs.Places.{zero_word, head_apart, head_link, heads_apart, links_apart, word_apart, own_short, key_same, own_chain, with_same, with_other, place_away}

module _ (shape : Shape) (shaped : IsShape shape) (before now : ℕ → ℕ) (item : ℕ) where
  -- a walk without an item, whose link is passed over
  pub shorter : (at : ℕ) (items : List ℕ) → IsWalk before shape (before at) 0 items → AreDistinct items → ((one : ℕ) → IsOneOf items one → link_of shape one ≢ at) → IsOneOf items item
      → now (place_before shape at items item) ≡ before (link_of shape item) → ((other : ℕ) → other ≢ place_before shape at items item → now other ≡ before other)
      → IsWalk now shape (now at) 0 (without_number items item)
  shorter at [] walk distinct away one put others = absurd one
  shorter at (x ∷ items) walk distinct away one put others = elim (cases_eq x item) [
    | inl same ↦
        let here : place_before shape at (x ∷ items) item ≡ at = grind (arith, nat_tests) in
        let rest : without_number (x ∷ items) item ≡ items = grind (arith, nat_tests) in
        let next : now at ≡ item_word before shape x 0 = ap now (sym here) ∙ put ∙ ap (λ (i : ℕ). before (link_of shape i)) (sym same) ∙ sym (zero_word before shape x) in
        subst (λ (l : List ℕ). IsWalk now shape (now at) 0 l) (sym rest)
        (subst (λ (link : ℕ). IsWalk now shape link 0 items) (sym next)
        (walk_same shape before now 0 items (item_word before shape x 0)
        (λ other among.
        zero_word now shape other ∙ others (link_of shape other) (λ e. away other (inr among) (e ∙ here)) ∙ sym (zero_word before shape other))
        walk.2))
    | inr apart ↦
        let there : place_before shape at (x ∷ items) item ≡ place_before shape (link_of shape x) items item = grind (arith, nat_tests) in
        let rest : without_number (x ∷ items) item ≡ x ∷ without_number items item = grind (arith, nat_tests) in
        let first : now at ≡ before at =
        others at (λ e. place_away shape (link_of shape x) items item at (away x (inl refl)) (λ other among. away other (inr among)) (sym (e ∙ there))) in
        let then : IsWalk before shape (before (link_of shape x)) 0 items = subst (λ (link : ℕ). IsWalk before shape link 0 items) (zero_word before shape x) walk.2 in
        let later : IsOneOf items item = elim one [ inl here ↦ absurd (apart here) | inr behind ↦ behind ] in
        let shorter_rest : IsWalk now shape (now (link_of shape x)) 0 (without_number items item) =
        shorter (link_of shape x) items then distinct.1 (λ other among. links_apart shape shaped other x (one_apart items other x among distinct.0)) later
        (ap now (sym there) ∙ put) (λ other e. others other (λ same. e (same ∙ there))) in
        subst (λ (l : List ℕ). IsWalk now shape (now at) 0 l) (sym rest)
        (first ∙ walk.0, walk.1, subst (λ (link : ℕ). IsWalk now shape link 0 (without_number items item)) (sym (zero_word now shape x)) shorter_rest)
  ]

module _ (shape : Shape) (shaped : IsShape shape) (before now : ℕ → ℕ) (chains : ℕ → List ℕ) (item : ℕ) (is : IsChains before shape chains)
    (one : IsOneOf (chains (item_chain before shape item)) item)
    (put : now (place_before shape (chain_place shape (item_chain before shape item)) (chains (item_chain before shape item)) item) ≡ before (link_of shape item))
    (others : (other : ℕ) → other ≢ place_before shape (chain_place shape (item_chain before shape item)) (chains (item_chain before shape item)) item → now other ≡ before other) where
  stays : (other : ℕ) → chain_place shape (item_chain before shape item) ≢ other → ((i : ℕ) → IsOneOf (chains (item_chain before shape item)) i → link_of shape i ≢ other) → now other ≡ before other
  stays other first links =
      others other (λ e. place_away shape (chain_place shape (item_chain before shape item)) (chains (item_chain before shape item)) item other first links (sym e))

  key_stays : (other : ℕ) (text : List ℕ) → HoldsKey before shape other text → HoldsKey now shape other text
  key_stays other text holds =
      key_same shape shaped before now other text
      (λ field some low.
      stays (link_of shape other + field) (head_apart shape shaped (item_chain before shape item) other field (own_short shape shaped before item))
      (λ i among e. word_apart shape shaped other i field (omega arith) low (sym e)))
      holds

  falls_stay : (chain other : ℕ) → chain < shape.n_chains → IsOneOf (chains chain) other → FallsOn now shape other chain
  falls_stay chain other low among =
      let falls = is.falls chain other low among in
      (falls.0, (key_stays other falls.0 falls.1.0, falls.1.1))

  -- an item of another chain is none of this one
  two_chains : (chain other i : ℕ) → chain < shape.n_chains → chain ≢ item_chain before shape item → IsOneOf (chains chain) other → IsOneOf (chains (item_chain before shape item)) i → i ≢ other
  two_chains chain other i low apart among own = λ same.
      apart
      (own_chain shape before chains chain other is low among
      ∙ ap (λ (n : ℕ). item_chain before shape n) (sym same)
      ∙ sym (own_chain shape before chains (item_chain before shape item) i is (own_short shape shaped before item) own))

  walk_own : IsWalk now shape (now (chain_place shape (item_chain before shape item))) 0 (without_number (chains (item_chain before shape item)) item)
  walk_own =
      shorter shape shaped before now item (chain_place shape (item_chain before shape item)) (chains (item_chain before shape item))
      (is.walk (item_chain before shape item) (own_short shape shaped before item)) (is.distinct (item_chain before shape item) (own_short shape shaped before item))
      (λ other among e. head_link shape shaped (item_chain before shape item) other (own_short shape shaped before item) (sym e)) one put others

  walk_other : (chain : ℕ) → chain < shape.n_chains → chain ≢ item_chain before shape item → IsWalk now shape (now (chain_place shape chain)) 0 (chains chain)
  walk_other chain low apart =
      subst (λ (link : ℕ). IsWalk now shape link 0 (chains chain))
      (sym (stays (chain_place shape chain) (heads_apart shape shaped (item_chain before shape item) chain (λ e. apart (sym e)))
      (λ i among e. head_link shape shaped chain i low (sym e))))
      (walk_same shape before now 0 (chains chain) (before (chain_place shape chain))
      (λ other among.
      zero_word now shape other
      ∙ stays (link_of shape other) (head_link shape shaped (item_chain before shape item) other (own_short shape shaped before item))
      (λ i own. links_apart shape shaped i other (two_chains chain other i low apart among own))
      ∙ sym (zero_word before shape other))
      (is.walk chain low))

  pub departed : IsChains now shape (with_chain chains (item_chain before shape item) (without_number (chains (item_chain before shape item)) item))
  departed = record {
    walk = λ chain low. elim (cases_eq chain (item_chain before shape item)) [
      | inl same ↦
          subst (λ (l : List ℕ). IsWalk now shape (now (chain_place shape chain)) 0 l)
          (sym (with_same chains (item_chain before shape item) (without_number (chains (item_chain before shape item)) item) chain same))
          (subst (λ (c : ℕ). IsWalk now shape (now (chain_place shape c)) 0 (without_number (chains (item_chain before shape item)) item)) (sym same) walk_own)
      | inr apart ↦
          subst (λ (l : List ℕ). IsWalk now shape (now (chain_place shape chain)) 0 l)
          (sym (with_other chains (item_chain before shape item) (without_number (chains (item_chain before shape item)) item) chain apart))
          (walk_other chain low apart)
    ];
    distinct = λ chain low. elim (cases_eq chain (item_chain before shape item)) [
      | inl same ↦
          subst AreDistinct (sym (with_same chains (item_chain before shape item) (without_number (chains (item_chain before shape item)) item) chain same))
          (distinct_without (chains (item_chain before shape item)) item (is.distinct (item_chain before shape item) (own_short shape shaped before item)))
      | inr apart ↦
          subst AreDistinct (sym (with_other chains (item_chain before shape item) (without_number (chains (item_chain before shape item)) item) chain apart)) (is.distinct chain low)
    ];
    falls = λ chain other low among. elim (cases_eq chain (item_chain before shape item)) [
      | inl same ↦
          falls_stay chain other low
          (subst (λ (c : ℕ). IsOneOf (chains c) other) (sym same)
          (one_of_without (chains (item_chain before shape item)) item other
          (subst (λ (l : List ℕ). IsOneOf l other) (with_same chains (item_chain before shape item) (without_number (chains (item_chain before shape item)) item) chain same) among)))
      | inr apart ↦
          falls_stay chain other low
          (subst (λ (l : List ℕ). IsOneOf l other) (with_other chains (item_chain before shape item) (without_number (chains (item_chain before shape item)) item) chain apart) among)
    ];
  }
