-- What the entries of a well-formed list are, one by one.
use Rattle.std.proofs.Common.{◌≡◌, ℕ, zero, suc, ◌<◌, true, not, List, [], ◌∷◌, length, get_or, All, refl, sym, arith}
use Rattle.std.specs.Str.{bytes_eq}
use Rattle.std.proofs.lemmas.Slice.Eq.{bytes_eq-Decides}
use Rattle.std.proofs.lemmas.Bool.{and_from, not_from_false, false_from_ne_true}
use Rattle.std.proofs.lemmas.List.Elements.{All-nil, All-cons, All-filter}
use Rattle.uw_model.specs.declared.conf.CacheConf.{CacheConf}
use Rattle.uw_model.specs.declared.entries.Entry.{Entry}
use Rattle.uw_model.specs.Entries.{IsEntry, IsApart, IsApartFrom, AreApart, IsState, covers}
use Rattle.uw_model.specs.Calls.{without}
use Rattle.uw_model.specs.KeySteps.{lacks, HaveOwnKeys}

pub entries_are : (conf : CacheConf) (list : List Entry) → AreApart conf list → All (IsEntry conf) list
entries_are conf [] h = All-nil (IsEntry conf)
entries_are conf (e ∷ list) h = All-cons (IsEntry conf) e list h.0 (entries_are conf list h.2)

pub lacks_apart : (conf : CacheConf) (e : Entry) (list : List Entry) → IsApartFrom conf e list → lacks e.key list ≡ true
lacks_apart conf e [] h = refl
lacks_apart conf e (o ∷ list) h =
    and_from (not (bytes_eq o.key e.key)) (lacks e.key list) (not_from_false (bytes_eq o.key e.key) (false_from_ne_true (bytes_eq o.key e.key) (λ t. h.0.keys (sym ((bytes_eq-Decides o.key e.key).0 t))))) (lacks_apart conf e list h.1)

pub own_keys : (conf : CacheConf) (list : List Entry) → AreApart conf list → HaveOwnKeys list
own_keys conf [] h = tt
own_keys conf (e ∷ list) h = (lacks_apart conf e list h.1, own_keys conf list h.2)

-- the same of a state
pub entries_of_state : (conf : CacheConf) (list : List Entry) → IsState conf list → All (IsEntry conf) list
entries_of_state conf list h = entries_are conf list h.apart

pub keys_of_state : (conf : CacheConf) (list : List Entry) → IsState conf list → HaveOwnKeys list
keys_of_state conf list h = own_keys conf list h.apart

pub entries_without : (conf : CacheConf) (list : List Entry) (key : List ℕ) → IsState conf list → All (IsEntry conf) (without key list)
entries_without conf list key h = All-filter (λ (e : Entry). not (bytes_eq e.key key)) (IsEntry conf) list (entries_of_state conf list h)

-- two entries of a state are apart
apart_from_at : (conf : CacheConf) (e : Entry) (list : List Entry) (j : ℕ) (d : Entry) → IsApartFrom conf e list → j < length list → IsApart conf e (get_or list j d)
apart_from_at conf e [] j d apart below = absurd (omega arith)
apart_from_at conf e (o ∷ list) zero d apart below = apart.0
apart_from_at conf e (o ∷ list) (suc j) d apart below = apart_from_at conf e list j d apart.1 (omega arith)

apart_at : (conf : CacheConf) (list : List Entry) (i j : ℕ) (d : Entry) → AreApart conf list → i < j → j < length list → IsApart conf (get_or list i d) (get_or list j d)
apart_at conf [] i j d apart before below = absurd (omega arith)
apart_at conf (e ∷ list) i zero d apart before below = absurd (omega arith)
apart_at conf (e ∷ list) zero (suc j) d apart before below = apart_from_at conf e list j d apart.1 (omega arith)
apart_at conf (e ∷ list) (suc i) (suc j) d apart before below = apart_at conf list i j d apart.2 (omega arith) (omega arith)

pub covered_once : (conf : CacheConf) (list : List Entry) (i j block : ℕ) (d : Entry) → IsState conf list → i < j → j < length list → covers conf (get_or list i d) block → covers conf (get_or list j d) block → ⊥
covered_once conf list i j block d state before below = (apart_at conf list i j d state.apart before below).blocks block
