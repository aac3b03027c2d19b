-- The shard of a key, by a hash of its bytes.
use Rattle.std.specs.Prelude.{ℕ, ◌*◌, ◌/◌, ◌%◌, ◌^◌, List, fold, bit_xor}

-- a hash with one byte more (64-bit FNV-1a)
abbrev pub hashed : ℕ → ℕ → ℕ
hashed hash byte = (bit_xor hash byte * 1_099_511_628_211) % 2 ^ 64

-- the hash of a key
abbrev pub hash_of : List ℕ → ℕ
hash_of key = fold hashed 14_695_981_039_346_656_037 key

-- the shard of a key, of so many shards: the hash's halves are folded, since its last bit is but a parity
abbrev pub shard_of : ℕ → List ℕ → ℕ
shard_of shards key = bit_xor (hash_of key / 2 ^ 32) (hash_of key % 2 ^ 32) % shards
