-- What is known of the shape of a configuration's region.
use Rattle.std.proofs.Common.{◌≡◌, ℕ, ◌+◌, ◌-◌, ◌*◌, ◌/◌, ◌<◌, ◌≤◌, max, length, refl, sym, ap, ◌∙◌, arith}
use Rattle.std.proofs.lemmas.Nat.{mul-le}
use Rattle.std.proofs.Math.Nat.{mul_comm, mul_assoc}
use Rattle.uw_model.specs.declared.conf.CacheConf.{CacheConf}
use Rattle.uw_model.specs.declared.entries.Entry.{Entry}
use Rattle.uw_model.specs.Entries.{IsCacheConf, IsEntry, max_value, span}
use Rattle.uw_model.specs.Layout.{block_words, key_words, value_words}
use Rattle.uw_words.specs.declared.shape.Shape.{Shape}
use Rattle.uw_words.specs.Shapes.{IsShape}
use Rattle.uw_items.specs.Items.{LieInBlocks}
use Rattle.uw_plan.specs.Regions.{shape_of}

-- the shape is that of a configuration's region: it has its items, blocks and chains, and the bytes of its blocks
pub record IsShapeOf (conf : CacheConf) (shape : Shape) : Type 0 where
  pub is : IsShape shape
  pub items : shape.n_items ≡ conf.items
  pub blocks : shape.n_blocks ≡ conf.blocks
  pub chains : shape.n_chains ≡ conf.chains
  pub keys : conf.keysize ≤ 8 * shape.key_words
  pub block_bytes : 8 * shape.block_words ≡ conf.blocksize
  pub some_bytes : 0 < conf.blocksize

module _ (conf : CacheConf) (is : IsCacheConf conf) where
  few_key_words : key_words conf ≤ 8192
  few_key_words = omega (arith, is.keysize.1)

  few_block_words : block_words conf ≤ 131072
  few_block_words = omega (arith, is.blocksize.1)

  few_value_words : value_words conf ≤ 8192
  few_value_words =
      let few : max_value conf ≤ 65536 = omega arith in
      omega (arith, few)

  pub shape_is : IsShape (shape_of conf)
  shape_is = record {
    head = refl;
    bitmap = refl;
    chains = refl;
    items = refl;
    stride = refl;
    blocks = refl;
    intent = refl;
    within =
        let item_words : conf.items * (8 + key_words conf) ≤ 1048576 * 8200 = mul-le conf.items (8 + key_words conf) 1048576 8200 is.items.1 (omega (arith, few_key_words)) in
        let block_words : conf.blocks * block_words conf ≤ 16777216 * 131072 = mul-le conf.blocks (block_words conf) 16777216 131072 is.blocks.1 few_block_words in
        omega (arith, item_words, block_words, few_key_words, few_value_words, is.items.1, is.blocks.1, is.chains.1);
    some_chain = omega (arith, is.chains.0);
    some_block_word = omega (arith, is.blocksize.0);
  }

  pub shape_of_conf : IsShapeOf conf (shape_of conf)
  shape_of_conf = record {
    is = shape_is;
    items = refl;
    blocks = refl;
    chains = refl;
    keys = omega arith;
    block_bytes = omega (arith, is.words);
    some_bytes = omega (arith, is.blocksize.0);
  }

-- the value of an entry lies in the blocks
pub entry_lies : (conf : CacheConf) (shape : Shape) → IsShapeOf conf shape → (e : Entry) → IsEntry conf e → LieInBlocks shape e.first (length e.value)
entry_lies conf shape of e is =
    let n = span conf e.value in
    let size = conf.blocksize in
    let holds : length e.value ≤ n * size = fits (length e.value) size of.some_bytes in
    let fewer : (e.first + n) * size ≤ conf.blocks * size = mul-le (e.first + n) size conf.blocks size is.blocks (omega arith) in
    let first : 8 * (e.first * shape.block_words) ≡ e.first * size = eight e.first shape.block_words ∙ ap (λ (s : ℕ). e.first * s) of.block_bytes in
    let all : 8 * (shape.n_blocks * shape.block_words) ≡ conf.blocks * size =
    eight shape.n_blocks shape.block_words ∙ ap (λ (s : ℕ). shape.n_blocks * s) of.block_bytes ∙ ap (λ (b : ℕ). b * size) of.blocks in
    let split : (e.first + n) * size ≡ e.first * size + n * size = omega arith in
    omega (arith, holds, fewer, first, all, split)
  where
    eight : (a b : ℕ) → 8 * (a * b) ≡ a * (8 * b)
    eight a b = sym (mul_assoc 8 a b) ∙ ap (λ (c : ℕ). c * b) (mul_comm 8 a) ∙ mul_assoc a 8 b

    fits : (len size : ℕ) → 0 < size → len ≤ max 1 ((len + (size - 1)) / size) * size
    fits len size some =
        let q = (len + (size - 1)) / size in
        let low : q * size ≤ max 1 q * size = mul-le q size (max 1 q) size (omega arith) (omega arith) in
        omega (arith, low, mul_comm q size)
