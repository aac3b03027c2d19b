-- The lines of a dump, each with its line feed.
use Rattle.std.specs.Prelude.{ℕ, ◌==◌, if◌then◌else◌, List, [], ◌∷◌, ◌++◌, Option, codes, length, unwrap_or}
use Rattle.std.specs.List.{flat_map}
use Rattle.hex.specs.Hex.{encode_lower}
use Rattle.crsm_base.specs.Store.{Client, after}
use Rattle.crsm_text.specs.Words.{commas, named}
use Rattle.crsm_text.specs.Values.{answer_text, value_text}
use Rattle.crsm_spec.specs.Log.{Log, executed, known, members, promised, spec}
use Rattle.crsm_cmd_dump.specs.declared.part.Part.{Part}

abbrev pub Text : Type 0
Text = List ℕ

-- a word and numbers
abbrev pub row : Text → List ℕ → Text
row name values = named name values ++ 10 ∷ []

-- a word and replicas
abbrev pub replicas_row : Text → List ℕ → Text
replicas_row name replicas = name ++ 32 ∷ (commas replicas ++ 10 ∷ [])

-- the number of the cluster that a log names, 0 if it names none
abbrev pub cluster_number : Option ℕ → ℕ
cluster_number named = unwrap_or named 0

-- the line of a cluster; there is none for number 0
abbrev pub cluster_row : ℕ → Text
cluster_row cluster = if cluster == 0 then [] else row (codes "cluster") (cluster ∷ [])

-- what the log of a replica says of it, in a cluster that began with n, from this many bodies
unfoldable pub state_text : (n cluster bodies : ℕ) → Log → Text
state_text n cluster bodies log =
    cluster_row cluster ++ row (codes "bodies") (bodies ∷ []) ++ row (codes "epoch") (known log ∷ []) ++ replicas_row (codes "members") (members n log)
    ++ replicas_row (codes "replicas") (spec n log) ++ row (codes "executed") (length (executed log) ∷ [])
    ++ row (codes "promised") ((promised log).round ∷ (promised log).by ∷ [])

-- a key and its value
unfoldable pub key_row : List ℕ × List ℕ → Text
key_row r = codes "key " ++ (encode_lower r.0 ++ 32 ∷ (value_text r.1 ++ 10 ∷ []))

-- a client, the number of its last executed command, and the answer to that
unfoldable pub client_row : Client → Text
client_row c = named (codes "client") (c.client ∷ c.number ∷ []) ++ 32 ∷ (answer_text c.answer ++ 10 ∷ [])

-- the keys that the executed commands leave, and the clients
abbrev pub keys_text : Log → Text
keys_text log = flat_map key_row (after (executed log)).keys

abbrev pub clients_text : Log → Text
clients_text log = flat_map client_row (after (executed log)).clients

-- the lines of the wanted part
abbrev pub lines_text : Part → (n cluster bodies : ℕ) → Log → Text
lines_text Part.All n cluster bodies log = state_text n cluster bodies log ++ (keys_text log ++ clients_text log)
lines_text Part.State n cluster bodies log = state_text n cluster bodies log ++ clients_text log
lines_text Part.Keys n cluster bodies log = keys_text log

-- how many keys the executed commands leave
abbrev pub count_row : Log → Text
count_row log = row (codes "keys") (length (after (executed log)).keys ∷ [])

-- they, and the number of the keys as the last line, whichever part is wanted
abbrev pub dump_text : Part → (n cluster bodies : ℕ) → Log → Text
dump_text part n cluster bodies log = lines_text part n cluster bodies log ++ count_row log
