-- Bytes are cut into packets in one way.
use Rattle.std.proofs.Common.{◌≡◌, ℕ, List, [], ◌∷◌, ◌++◌, length, map, take, drop, Some, refl, sym, ap, ap₂, ◌∙◌, append_assoc}
use Rattle.std.proofs.Math.Seq.{take-append_seam, drop-append_seam}
use Rattle.std.specs.List.{AllByRecursion, flat_map}
use Rattle.uw_packet.specs.declared.packet.Header.{Header}
use Rattle.uw_packet.specs.Packet.{header_bytes, IsPacket}
use Rattle.uw_packet.proofs.BlockLaws.{packet_unique}
use Rattle.uw_conf.specs.declared.conf.Options.{Options}
use Rattle.uw_session.specs.Exchange.{Exchange, IsAccepted, body_length, exchange_bytes}

exchange_same : (x y : Exchange) → x.moment ≡ y.moment → x.head ≡ y.head → x.block ≡ y.block → x.body ≡ y.body → x ≡ y
exchange_same x y moment head block body =
    let made : ℕ → Header → List ℕ → List ℕ → Exchange = λ m h b d. record { moment = m; head = h; block = b; body = d } in
    ap (λ (m : ℕ). made m x.head x.block x.body) moment
    ∙ ap (λ (h : Header). made y.moment h x.block x.body) head
    ∙ ap (λ (b : List ℕ). made y.moment y.head b x.body) block
    ∙ ap (λ (d : List ℕ). made y.moment y.head y.block d) body

-- a packet that is answered stands at the front of its bytes, before its body and whatever is behind that
stands : (conf : Options) (bytes rest : List ℕ) (x : Exchange) → IsAccepted conf x → bytes ≡ exchange_bytes x ++ rest → IsPacket bytes x.head x.block (x.body ++ rest)
stands conf bytes rest x answered whole = record {
  fits = answered.fits;
  size = answered.size;
  whole =
      whole
      ∙ append_assoc (header_bytes x.head) (x.block ++ x.body) rest
      ∙ ap (λ (b : List ℕ). header_bytes x.head ++ b) (append_assoc x.block x.body rest);
}

-- two texts of one length at the front of one text are the same, and so is what is behind them
same_front : (a b rest other : List ℕ) → length a ≡ length b → a ++ rest ≡ b ++ other → (a ≡ b) × (rest ≡ other)
same_front a b rest other lengths whole = (
  sym (take-append_seam a rest) ∙ ap (take (length a)) whole ∙ ap (λ (n : ℕ). take n (b ++ other)) lengths ∙ take-append_seam b other,
  sym (drop-append_seam a rest) ∙ ap (drop (length a)) whole ∙ ap (λ (n : ℕ). drop n (b ++ other)) lengths ∙ drop-append_seam b other,
)

pub cut_in_one_way : (conf : Options) (xs ys : List Exchange) → AllByRecursion (IsAccepted conf) xs → AllByRecursion (IsAccepted conf) ys
    → map (λ (x : Exchange). x.moment) xs ≡ map (λ (y : Exchange). y.moment) ys → flat_map exchange_bytes xs ≡ flat_map exchange_bytes ys → xs ≡ ys
cut_in_one_way conf [] [] a b moments bytes = refl
cut_in_one_way conf [] (y ∷ ys) a b moments bytes = absurd cc
cut_in_one_way conf (x ∷ xs) [] a b moments bytes = absurd cc
cut_in_one_way conf (x ∷ xs) (y ∷ ys) a b moments bytes =
    let moment : x.moment ≡ y.moment = cc in
    let others : map (λ (x : Exchange). x.moment) xs ≡ map (λ (y : Exchange). y.moment) ys = cc in
    let behind = flat_map exchange_bytes xs in
    let after = flat_map exchange_bytes ys in
    let one = stands conf (exchange_bytes x ++ behind) behind x a.0 refl in
    let other = stands conf (exchange_bytes x ++ behind) after y b.0 bytes in
    let same = packet_unique (exchange_bytes x ++ behind) x.head y.head x.block y.block (x.body ++ behind) (y.body ++ after) one other in
    let told : Some (length x.body) ≡ Some (length y.body) =
    sym a.0.body ∙ ap (λ (h : Header). body_length h x.block) same.0 ∙ ap (λ (b : List ℕ). body_length y.head b) same.1 ∙ b.0.body in
    let lengths : length x.body ≡ length y.body = cc in
    let bodies = same_front x.body y.body behind after lengths same.2 in
    ap₂ (λ (z : Exchange) (zs : List Exchange). z ∷ zs) (exchange_same x y moment same.0 same.1 bodies.0) (cut_in_one_way conf xs ys a.1 b.1 others bodies.1)
