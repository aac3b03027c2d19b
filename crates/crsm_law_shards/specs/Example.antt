-- Two shards whose lists meet the premises, two of which one does not keep real time, and hashes of some keys.
use Rattle.std.specs.Prelude.{◌≡◌, ℕ, List, [], ◌∷◌, Option, None, Some}
use Rattle.std.specs.List.{AllByRecursion}
use Rattle.crsm_spec.specs.Types.{Answer, Entry, Op}
use Rattle.crsm_law_shards.specs.Hash.{hash_of, shard_of}
use Rattle.crsm_law_shards.specs.Served.{Answered, AreRight, KeepsRealTime, Served, shard_in}
use Rattle.crsm_law_shards.specs.Shards.{AreShards, IsLinear, IsWhole}

-- keys of one byte: "a" is of shard 0, "b" of shard 1
abbrev pub key_a : List ℕ
key_a = 97 ∷ []

abbrev pub key_b : List ℕ
key_b = 98 ∷ []

-- a value of one byte
abbrev pub value : ℕ → List ℕ
value byte = byte ∷ []

-- a client's command, with the place in its shard as its time
abbrev pub asking : ℕ → ℕ → ℕ → Op → Entry
asking time client number op = record {
  epoch = 0;
  stamp = record { time = time; origin = 0 };
  command = record { client = client; number = number; op = op };
}

-- an answer that the client had at this time
abbrev pub by : ℕ → Answer → Option Answered
by had a = Some (record { answer = a; had = had })

-- Client 7 sets "a" and "b", each by its number 1, and client 8 reads both. The answer to 7 for "b" never comes.
abbrev pub put_a : Served
put_a = record { entry = asking 1 7 1 (Op.Put key_a (value 1)); asked = 1; answered = by 4 Answer.Done }

abbrev pub put_b : Served
put_b = record { entry = asking 1 7 1 (Op.Put key_b (value 2)); asked = 5; answered = None }

abbrev pub get_b : Served
get_b = record { entry = asking 2 8 1 (Op.Get key_b); asked = 6; answered = by 7 (Answer.Found (value 2)) }

abbrev pub get_a : Served
get_a = record { entry = asking 2 8 1 (Op.Get key_a); asked = 8; answered = by 9 (Answer.Found (value 1)) }

abbrev pub first_list : List Served
first_list = put_a ∷ get_a ∷ []

abbrev pub second_list : List Served
second_list = put_b ∷ get_b ∷ []

-- the one list of these
abbrev pub both_lists : List Served
both_lists = put_a ∷ put_b ∷ get_b ∷ get_a ∷ []

-- the answer to a read of "a" is had before that value is sent: right answers in this order, and no real time
abbrev pub early_get : Served
early_get = record { entry = asking 2 8 1 (Op.Get key_a); asked = 1; answered = by 2 (Answer.Found (value 1)) }

abbrev pub late_put : Served
late_put = record { entry = asking 1 7 1 (Op.Put key_a (value 1)); asked = 3; answered = by 4 Answer.Done }

abbrev pub untimely_list : List Served
untimely_list = late_put ∷ early_get ∷ []

-- Two lists meet the premises, and one list is what the law says.
pub record ShardsMeetPremises : Type 0 where
  pub shards : AreShards (shard_of 2) (first_list ∷ second_list ∷ [])
  pub whole : IsWhole (shard_of 2) (first_list ∷ second_list ∷ []) both_lists
  pub linear : IsLinear (shard_of 2) both_lists

-- Where one list has right answers and does not keep real time, no list of all commands keeps it.
pub record UntimelyShardsAreNone : Type 0 where
  pub own : AllByRecursion (λ x. shard_in (shard_of 2) x.entry ≡ 0) untimely_list
  pub right : AreRight untimely_list
  pub none : (whole : List Served) → IsWhole (shard_of 2) (untimely_list ∷ second_list ∷ []) whole →
      KeepsRealTime whole → ⊥

-- The hash of the published examples of 64-bit FNV-1a: no bytes, "a" and "foobar".
pub record HashesArePublished : Type 0 where
  pub empty : hash_of [] ≡ 14_695_981_039_346_656_037
  pub letter : hash_of key_a ≡ 12_638_187_200_555_641_996
  pub word : hash_of (102 ∷ 111 ∷ 111 ∷ 98 ∷ 97 ∷ 114 ∷ []) ≡ 9_625_390_261_332_436_968
