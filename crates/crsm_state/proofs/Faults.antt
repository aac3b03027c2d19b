-- What parsers of the parts of a history find, and why bytes are none.
use Rattle.std.proofs.Common.{◌≡◌, ℕ, ◌<◌, ◌≤◌, ◌^◌, Bool, true, false, eqb, List, [], ◌++◌, length, Option, Some, None, refl, sym, ap, subst, ◌∙◌, append_assoc, arith}
use Rattle.std.specs.List.{flat_map}
use Rattle.std.proofs.lemmas.Bool.{eqb-true}
use Rattle.std.proofs.lemmas.List.{append-nil, nil_from_length}
use Rattle.crsm_base.specs.Spelling.{u32_bytes}
use Rattle.crsm_base.specs.Store.{Client}
use Rattle.crsm_base.specs.Parser.{Parser, both}
use Rattle.crsm_base.specs.Reading.{u32_at}
use Rattle.crsm_base.proofs.Parsers.{IsBytes, IsBytes-back, IsParser, some_is, both_parse, again_none}
use Rattle.crsm_base.proofs.Numbers.{u32_parses}
use Rattle.crsm_state.specs.declared.error.HistoryError.{HistoryError}
use Rattle.crsm_state.specs.declared.position.Position.{Position}
use Rattle.crsm_state.specs.declared.history.History.{History}
use Rattle.crsm_state.specs.Rows.{list_bytes, FitsList, key_row_bytes, key_rows_at, key_rows_bytes, FitsKeyRows, client_row_bytes, client_rows_at, client_rows_bytes, FitsClientRows, keys_rise, clients_differ}
use Rattle.crsm_state.specs.Histories.{head_at, head_bytes, FitsHead, history_bytes, FitsHistory, is_begun, SpeltHistory}
use Rattle.crsm_state.specs.Faults.{Begins, BeginsWithNo, CountsMore, IsKeysFault, IsClientsFault, history_with, IsMisbegun, IsHistoryFault}
use Rattle.crsm_state.proofs.Fields.{head_parses, key_rows_parse, client_rows_parse}

-- ---- beginnings

pub begins : {X : Type 0} {at : Parser X} {spell : X → List ℕ} {Fits : X → Type 0} → IsParser at spell Fits → (bytes : List ℕ) (x : X) (rest : List ℕ) → IsBytes bytes → Some (x, rest) ≡ at bytes → (So : X → List ℕ → Type 0) → So x rest → Begins spell Fits bytes So
begins p bytes x rest ok e So so =
    let t = p.takes bytes x rest ok (sym e) in
    record { value = x; rest = rest; fits = t.0; is = t.1; so = so }

pub bytes_behind : {X : Type 0} {at : Parser X} {spell : X → List ℕ} {Fits : X → Type 0} → IsParser at spell Fits → (bytes : List ℕ) (x : X) (rest : List ℕ) → IsBytes bytes → Some (x, rest) ≡ at bytes → IsBytes rest
bytes_behind {spell = spell} p bytes x rest ok e = IsBytes-back (spell x) rest bytes ((p.takes bytes x rest ok (sym e)).1) ok

pub begins_with_no : {X : Type 0} {at : Parser X} {spell : X → List ℕ} {Fits : X → Type 0} → IsParser at spell Fits → (bytes : List ℕ) → None ≡ at bytes → BeginsWithNo spell Fits bytes
begins_with_no p bytes e = λ x rest fits is. again_none p bytes e x rest fits is

-- bytes have one beginning of a kind
same_beginning : {X : Type 0} {at : Parser X} {spell : X → List ℕ} {Fits : X → Type 0} → IsParser at spell Fits → (x : X) (rest bytes : List ℕ) → Fits x → bytes ≡ spell x ++ rest → (So : X → List ℕ → Type 0) → Begins spell Fits bytes So → So x rest
same_beginning {X = X} {at = at} p x rest bytes fits is So b =
    let same = some_is (b.value, b.rest) (x, rest) (sym (p.again b.value b.rest b.fits) ∙ ap at (sym b.is ∙ is) ∙ p.again x rest fits) in
    subst (λ (z : X × List ℕ). So z.0 z.1) same b.so

-- ---- faults

pub counts_more : (bytes rest : List ℕ) (limit n : ℕ) → IsBytes bytes → Some (n, rest) ≡ u32_at bytes → limit < n → CountsMore limit bytes
counts_more bytes rest limit n ok e more = begins u32_parses bytes n rest ok e (λ n rest. limit < n) more

-- the fault of the keys behind a head
pub keys_fault : (bytes rest : List ℕ) (head : ℕ × Option Position) (why : HistoryError) → IsBytes bytes → Some (head, rest) ≡ head_at bytes → IsKeysFault rest why → IsHistoryFault bytes why
keys_fault bytes rest head HistoryError.TooManyKeys ok e fault = begins head_parses bytes head rest ok e (λ head rest. IsKeysFault rest HistoryError.TooManyKeys) fault
keys_fault bytes rest head HistoryError.Keys ok e fault = begins head_parses bytes head rest ok e (λ head rest. IsKeysFault rest HistoryError.Keys) fault
keys_fault bytes rest head HistoryError.KeyOrder ok e fault = begins head_parses bytes head rest ok e (λ head rest. IsKeysFault rest HistoryError.KeyOrder) fault
keys_fault bytes rest head HistoryError.NoMemory ok e fault = tt
keys_fault bytes rest head HistoryError.Head ok e fault = absurd fault
keys_fault bytes rest head HistoryError.TooManyClients ok e fault = absurd fault
keys_fault bytes rest head HistoryError.Clients ok e fault = absurd fault
keys_fault bytes rest head HistoryError.ClientTwice ok e fault = absurd fault
keys_fault bytes rest head HistoryError.Begun ok e fault = absurd fault
keys_fault bytes rest head HistoryError.GoesOn ok e fault = absurd fault

-- something holds behind a head and keys
behind : (bytes rest after : List ℕ) (head : ℕ × Option Position) (keys : List (List ℕ × List ℕ)) → IsBytes bytes → Some (head, rest) ≡ head_at bytes → Some (keys, after) ≡ key_rows_at rest
    → (So : ℕ × Option Position → List (List ℕ × List ℕ) → List ℕ → Type 0) → So head keys after → Begins head_bytes FitsHead bytes (λ head rest. Begins key_rows_bytes FitsKeyRows rest (So head))
behind bytes rest after head keys ok e f So so =
    begins head_parses bytes head rest ok e (λ head rest. Begins key_rows_bytes FitsKeyRows rest (So head))
    (begins key_rows_parse rest keys after (bytes_behind head_parses bytes head rest ok e) f (So head) so)

-- the fault of the clients behind a head and keys
pub clients_fault : (bytes rest after : List ℕ) (head : ℕ × Option Position) (keys : List (List ℕ × List ℕ)) (why : HistoryError) → IsBytes bytes → Some (head, rest) ≡ head_at bytes → Some (keys, after) ≡ key_rows_at rest → IsClientsFault after why → IsHistoryFault bytes why
clients_fault bytes rest after head keys HistoryError.TooManyClients ok e f fault = behind bytes rest after head keys ok e f (λ head keys rest. IsClientsFault rest HistoryError.TooManyClients) fault
clients_fault bytes rest after head keys HistoryError.Clients ok e f fault = behind bytes rest after head keys ok e f (λ head keys rest. IsClientsFault rest HistoryError.Clients) fault
clients_fault bytes rest after head keys HistoryError.ClientTwice ok e f fault = behind bytes rest after head keys ok e f (λ head keys rest. IsClientsFault rest HistoryError.ClientTwice) fault
clients_fault bytes rest after head keys HistoryError.NoMemory ok e f fault = tt
clients_fault bytes rest after head keys HistoryError.Head ok e f fault = absurd fault
clients_fault bytes rest after head keys HistoryError.TooManyKeys ok e f fault = absurd fault
clients_fault bytes rest after head keys HistoryError.Keys ok e f fault = absurd fault
clients_fault bytes rest after head keys HistoryError.KeyOrder ok e f fault = absurd fault
clients_fault bytes rest after head keys HistoryError.Begun ok e f fault = absurd fault
clients_fault bytes rest after head keys HistoryError.GoesOn ok e f fault = absurd fault

-- ---- the parts of a history

-- what was read of the bytes
pub record Read (bytes : List ℕ) (head : ℕ × Option Position) (keys : List (List ℕ × List ℕ)) (clients : List Client) (rest : List ℕ) : Type 0 where
  pub behind_head : List ℕ
  pub behind_keys : List ℕ
  pub ok : IsBytes bytes
  pub head_is : Some (head, behind_head) ≡ head_at bytes
  pub keys_are : Some (keys, behind_keys) ≡ key_rows_at behind_head
  pub clients_are : Some (clients, rest) ≡ client_rows_at behind_keys

pub misbegun : (bytes rest : List ℕ) (head : ℕ × Option Position) (keys : List (List ℕ × List ℕ)) (clients : List Client) → Read bytes head keys clients rest → is_begun (history_with head keys clients) ≡ false → IsMisbegun bytes
misbegun bytes rest head keys clients r e =
    let ok = bytes_behind key_rows_parse r.behind_head keys r.behind_keys (bytes_behind head_parses bytes head r.behind_head r.ok r.head_is) r.keys_are in
    behind bytes r.behind_head r.behind_keys head keys r.ok r.head_is r.keys_are
    (λ head keys rest. Begins client_rows_bytes FitsClientRows rest (λ clients rest. is_begun (history_with head keys clients) ≡ false))
    (begins client_rows_parse r.behind_keys clients rest ok r.clients_are (λ clients rest. is_begun (history_with head keys clients) ≡ false) e)

regroup : (a b c d : List ℕ) → a ++ (b ++ (c ++ d)) ≡ (a ++ (b ++ c)) ++ d
regroup a b c d = sym (append_assoc a (b ++ c) d ∙ ap (λ (s : List ℕ). a ++ s) (append_assoc b c d))

pub read_is : (bytes rest : List ℕ) (n : ℕ) (last : Option Position) (keys : List (List ℕ × List ℕ)) (clients : List Client) → Read bytes (n, last) keys clients rest → keys_rise keys ≡ true → clients_differ clients ≡ true → is_begun (history_with (n, last) keys clients) ≡ true
    → FitsHistory (history_with (n, last) keys clients) × (bytes ≡ history_bytes (history_with (n, last) keys clients) ++ rest)
unfolding history_bytes
read_is bytes rest n last keys clients r rise differ begun =
    let t = head_parses.takes bytes (n, last) r.behind_head r.ok (sym r.head_is) in
    let ok1 = bytes_behind head_parses bytes (n, last) r.behind_head r.ok r.head_is in
    let u = key_rows_parse.takes r.behind_head keys r.behind_keys ok1 (sym r.keys_are) in
    let ok2 = bytes_behind key_rows_parse r.behind_head keys r.behind_keys ok1 r.keys_are in
    let v = client_rows_parse.takes r.behind_keys clients rest ok2 (sym r.clients_are) in
    let tail : r.behind_head ≡ key_rows_bytes keys ++ (client_rows_bytes clients ++ rest) = u.1 ∙ ap (λ (s : List ℕ). key_rows_bytes keys ++ s) v.1 in (
      record { head = t.0; keys = u.0; rise = rise; clients = v.0; differ = differ; begun = begun },
      t.1 ∙ ap (λ (s : List ℕ). head_bytes (n, last) ++ s) tail ∙ regroup (head_bytes (n, last)) (key_rows_bytes keys) (client_rows_bytes clients) rest,
    )

-- more bytes follow
pub goes_on : (bytes rest : List ℕ) (head : ℕ × Option Position) (keys : List (List ℕ × List ℕ)) (clients : List Client) → Read bytes head keys clients rest → keys_rise keys ≡ true → clients_differ clients ≡ true → is_begun (history_with head keys clients) ≡ true
    → 0 < length rest → Begins history_bytes FitsHistory bytes (λ h rest. 0 < length rest)
goes_on bytes rest head keys clients r rise differ begun some =
    let all = read_is bytes rest head.0 head.1 keys clients r rise differ begun in
    record { value = history_with head keys clients; rest = rest; fits = all.0; is = all.1; so = some }

-- no more bytes follow
pub is_whole : (bytes rest : List ℕ) (head : ℕ × Option Position) (keys : List (List ℕ × List ℕ)) (clients : List Client) → Read bytes head keys clients rest → keys_rise keys ≡ true → clients_differ clients ≡ true → is_begun (history_with head keys clients) ≡ true
    → true ≡ eqb (length rest) 0 → SpeltHistory (history_with head keys clients) bytes
is_whole bytes rest head keys clients r rise differ begun none =
    let h = history_with head keys clients in
    let all = read_is bytes rest head.0 head.1 keys clients r rise differ begun in
    let nil : rest ≡ [] = nil_from_length rest (eqb-true (length rest) 0 (sym none)) in
    record { fits = all.0; is = all.1 ∙ ap (λ (s : List ℕ). history_bytes h ++ s) nil ∙ append-nil (history_bytes h) }

-- ---- laws

-- the parts of a history, as one value
abbrev Parts : Type 0
Parts = (ℕ × Option Position) × (List (List ℕ × List ℕ) × List Client)

abbrev parts_of : History → Parts
parts_of h = ((h.executed, h.last), (h.keys, h.clients))

abbrev parts_bytes : Parts → List ℕ
parts_bytes p = head_bytes p.0 ++ (key_rows_bytes p.1.0 ++ client_rows_bytes p.1.1)

abbrev FitsParts : Parts → Type 0
FitsParts p = FitsHead p.0 × (FitsKeyRows p.1.0 × FitsClientRows p.1.1)

parts_parse : IsParser (both head_at (both key_rows_at client_rows_at)) parts_bytes FitsParts
parts_parse = both_parse head_parses (both_parse key_rows_parse client_rows_parse)

history_of_parts : Parts → History
history_of_parts p = history_with p.0 p.1.0 p.1.1

same_parts : (a b : History) (x y : List ℕ) → FitsHistory a → FitsHistory b → history_bytes a ++ x ≡ history_bytes b ++ y → (parts_of a ≡ parts_of b) × (x ≡ y)
unfolding history_bytes
same_parts a b x y fa fb e =
    let one = parts_parse.again (parts_of a) x (fa.head, (fa.keys, fa.clients)) in
    let two = parts_parse.again (parts_of b) y (fb.head, (fb.keys, fb.clients)) in
    let same = some_is (parts_of a, x) (parts_of b, y) (sym one ∙ ap (both head_at (both key_rows_at client_rows_at)) e ∙ two) in
    (ap (λ (z : Parts × List ℕ). z.0) same, ap (λ (z : Parts × List ℕ). z.1) same)

pub one_encoding : (a b : History) → FitsHistory a → FitsHistory b → history_bytes a ≡ history_bytes b → a ≡ b
unfolding history_of_parts
one_encoding a b fa fb e =
    ap history_of_parts ((same_parts a b [] [] fa fb (ap (λ (s : List ℕ). s ++ []) e)).0)

-- of a history's encoding: what stands behind its head and behind its keys
behind_head : (h : History) (bytes : List ℕ) → SpeltHistory h bytes → (So : ℕ × Option Position → List ℕ → Type 0) → Begins head_bytes FitsHead bytes So → So (h.executed, h.last) (key_rows_bytes h.keys ++ client_rows_bytes h.clients)
unfolding history_bytes
behind_head h bytes s So b = same_beginning head_parses (h.executed, h.last) (key_rows_bytes h.keys ++ client_rows_bytes h.clients) bytes s.fits.head s.is So b

behind_keys : (h : History) (bytes : List ℕ) → SpeltHistory h bytes → (So : ℕ × Option Position → List (List ℕ × List ℕ) → List ℕ → Type 0) → Begins head_bytes FitsHead bytes (λ head rest. Begins key_rows_bytes FitsKeyRows rest (So head)) → So (h.executed, h.last) h.keys (client_rows_bytes h.clients)
behind_keys h bytes s So b =
    let inner = behind_head h bytes s (λ head rest. Begins key_rows_bytes FitsKeyRows rest (So head)) b in
    same_beginning key_rows_parse h.keys (client_rows_bytes h.clients) (key_rows_bytes h.keys ++ client_rows_bytes h.clients) s.fits.keys refl (So (h.executed, h.last)) inner

behind_clients : (h : History) (bytes : List ℕ) → SpeltHistory h bytes → (So : List Client → List ℕ → Type 0) → Begins client_rows_bytes FitsClientRows (client_rows_bytes h.clients) So → So h.clients []
behind_clients h bytes s So b = same_beginning client_rows_parse h.clients [] (client_rows_bytes h.clients) s.fits.clients (sym (append-nil (client_rows_bytes h.clients))) So b

not_both : (b : Bool) → b ≡ true → b ≡ false → ⊥
not_both b t f = let never : true ≡ false = sym t ∙ f in cc

-- a list of at most so many items counts no more
counts_no_more : {X : Type 0} (spell : X → List ℕ) (Fits : X → Type 0) (limit : ℕ) (xs : List X) (rest : List ℕ) → limit < 2 ^ 32 → FitsList Fits limit xs → CountsMore limit (list_bytes spell xs ++ rest) → ⊥
unfolding list_bytes
counts_no_more spell Fits limit xs rest small fits more =
    let most : length xs ≤ limit = fits.most in
    let is : (u32_bytes (length xs) ++ flat_map spell xs) ++ rest ≡ u32_bytes (length xs) ++ (flat_map spell xs ++ rest) = append_assoc (u32_bytes (length xs)) (flat_map spell xs) rest in
    let above : limit < length xs = same_beginning u32_parses (length xs) (flat_map spell xs ++ rest) ((u32_bytes (length xs) ++ flat_map spell xs) ++ rest) (omega (arith, small, most)) is (λ n rest. limit < n) more in
    absurd (omega (arith, above, most))

keys_no_more : (h : History) (bytes : List ℕ) → SpeltHistory h bytes → CountsMore 65536 (key_rows_bytes h.keys ++ client_rows_bytes h.clients) → ⊥
unfolding key_rows_bytes
keys_no_more h bytes s more = counts_no_more key_row_bytes _ 65536 h.keys (client_rows_bytes h.clients) (omega arith) s.fits.keys more

clients_no_more : (h : History) (bytes : List ℕ) → SpeltHistory h bytes → CountsMore 65536 (client_rows_bytes h.clients) → ⊥
unfolding client_rows_bytes
clients_no_more h bytes s more =
    counts_no_more client_row_bytes _ 65536 h.clients [] (omega arith) s.fits.clients (subst (CountsMore 65536) (sym (append-nil (list_bytes client_row_bytes h.clients))) more)

nothing_behind : (h : History) (bytes : List ℕ) → SpeltHistory h bytes → Begins history_bytes FitsHistory bytes (λ h rest. 0 < length rest) → ⊥
nothing_behind h bytes s b =
    let none : b.rest ≡ [] = (same_parts b.value h b.rest [] b.fits s.fits (sym b.is ∙ s.is ∙ sym (append-nil (history_bytes h)))).1 in
    let some = b.so in
    absurd (omega (arith, some, ap length none))

pub no_fault : (h : History) (bytes : List ℕ) (why : HistoryError) → SpeltHistory h bytes → IsHistoryFault bytes why → why ≡ HistoryError.NoMemory
unfolding history_bytes
no_fault h bytes HistoryError.Head s f = absurd (f (h.executed, h.last) (key_rows_bytes h.keys ++ client_rows_bytes h.clients) s.fits.head s.is)
no_fault h bytes HistoryError.TooManyKeys s f = absurd (keys_no_more h bytes s (behind_head h bytes s (λ head rest. CountsMore 65536 rest) f))
no_fault h bytes HistoryError.Keys s f = absurd (behind_head h bytes s (λ head rest. BeginsWithNo key_rows_bytes FitsKeyRows rest) f h.keys (client_rows_bytes h.clients) s.fits.keys refl)
no_fault h bytes HistoryError.KeyOrder s f =
    absurd (not_both (keys_rise h.keys) s.fits.rise (behind_keys h bytes s (λ head keys rest. keys_rise keys ≡ false) f))
no_fault h bytes HistoryError.TooManyClients s f =
    absurd (clients_no_more h bytes s (behind_keys h bytes s (λ head keys rest. CountsMore 65536 rest) f))
no_fault h bytes HistoryError.Clients s f =
    absurd (behind_keys h bytes s (λ head keys rest. BeginsWithNo client_rows_bytes FitsClientRows rest) f h.clients [] s.fits.clients (sym (append-nil (client_rows_bytes h.clients))))
no_fault h bytes HistoryError.ClientTwice s f =
    absurd (not_both (clients_differ h.clients) s.fits.differ (behind_clients h bytes s (λ clients rest. clients_differ clients ≡ false) (behind_keys h bytes s (λ head keys rest. Begins client_rows_bytes FitsClientRows rest (λ clients rest. clients_differ clients ≡ false)) f)))
no_fault h bytes HistoryError.Begun s f =
    let So : ℕ × Option Position → List (List ℕ × List ℕ) → List ℕ → Type 0 = λ head keys rest. Begins client_rows_bytes FitsClientRows rest (λ clients rest. is_begun (history_with head keys clients) ≡ false) in
    absurd (not_both (is_begun h) s.fits.begun (behind_clients h bytes s (λ clients rest. is_begun (history_with (h.executed, h.last) h.keys clients) ≡ false) (behind_keys h bytes s So f)))
no_fault h bytes HistoryError.GoesOn s f = absurd (nothing_behind h bytes s f)
no_fault h bytes HistoryError.NoMemory s f = refl
