-- The replies of a step are to clients whose slots are executed, and have the values there.
use Rattle.std.proofs.Common.{◌≡◌, ◌≢◌, ℕ, ◌⊎◌, true, false, List, [], ◌∷◌, inl, inr, refl, sym, subst, ap, ◌∙◌, Option, Some, None}
use Rattle.std.specs.List.{Contains, slice_get}
use Rattle.std.specs.Prelude.{bytes_eq}
use Rattle.std.specs.Option.{option_eq}
use Rattle.std.proofs.lemmas.Slice.Eq.{bytes_eq-Decides}
use Rattle.std.proofs.lemmas.List.Elements.{Contains-push_cases}
use Rattle.crsm_safety.proofs.Paxos.Majority.{nat_eq_is, nat_eq_itself}
use Rattle.crsm_safety.proofs.Paxos.Basics.{both, clash}
use Rattle.crsm_mpspec.specs.declared.MpLine.{MpLine}
use Rattle.crsm_mpspec.specs.Types.{Op, Command, Value}
use Rattle.crsm_mpspec.specs.Log.{executed}
use Rattle.crsm_mpspec.specs.Values.{op_eq, command_eq, is_command}
use Rattle.crsm_mpspec.specs.Replica.{Waiting}
use Rattle.crsm_mpspec.specs.Draft.{Draft, reply}
use Rattle.crsm_mpspec.specs.Step.{reply_line, answer, answer_each, replies}
use Rattle.crsm_law_mp.proofs.Lists.{first_in, later_in, none_in}

-- ---- equal commands

bytes_is : (xs ys : List ℕ) → bytes_eq xs ys ≡ true → xs ≡ ys
bytes_is xs ys e = (bytes_eq-Decides xs ys).0 e

bytes_itself : (xs : List ℕ) → bytes_eq xs xs ≡ true
bytes_itself xs = (bytes_eq-Decides xs xs).1 refl

option_is : (a b : Option (List ℕ)) → option_eq bytes_eq a b ≡ true → a ≡ b
option_is None None e = refl
option_is None (Some y) e = absurd (clash false e refl)
option_is (Some x) None e = absurd (clash false e refl)
option_is (Some x) (Some y) e = ap (λ z. Some z) (bytes_is x y e)

option_itself : (a : Option (List ℕ)) → option_eq bytes_eq a a ≡ true
option_itself None = refl
option_itself (Some x) = bytes_itself x

op_itself : (o : Op) → op_eq o o ≡ true
unfolding op_eq
op_itself (Op.Get k) = bytes_itself k
op_itself (Op.Put k v) = rw (bytes_itself k, bytes_itself v) refl
op_itself (Op.Delete k) = bytes_itself k
op_itself (Op.Cas k expected new) = rw (bytes_itself k, option_itself expected, option_itself new) refl

op_is : (o p : Op) → op_eq o p ≡ true → o ≡ p
unfolding op_eq
op_is (Op.Get k) (Op.Get l) e = ap (λ z. Op.Get z) (bytes_is k l e)
op_is (Op.Put k v) (Op.Put l w) e =
    let (a, b) = both _ _ e in subst (λ z. Op.Put k v ≡ Op.Put z w) (bytes_is k l a) (ap (λ z. Op.Put k z) (bytes_is v w b))
op_is (Op.Delete k) (Op.Delete l) e = ap (λ z. Op.Delete z) (bytes_is k l e)
op_is (Op.Cas k x n) (Op.Cas l y m) e =
    let (a, rest) = both _ _ e in
    let (b, c) = both _ _ rest in
    subst (λ z. Op.Cas k x n ≡ Op.Cas z y m) (bytes_is k l a) (subst (λ z. Op.Cas k x n ≡ Op.Cas k z m) (option_is x y b) (ap (λ z. Op.Cas k x z) (option_is n m c)))
op_is (Op.Get k) (Op.Put l w) e = absurd (clash false e refl)
op_is (Op.Get k) (Op.Delete l) e = absurd (clash false e refl)
op_is (Op.Get k) (Op.Cas l y m) e = absurd (clash false e refl)
op_is (Op.Put k v) (Op.Get l) e = absurd (clash false e refl)
op_is (Op.Put k v) (Op.Delete l) e = absurd (clash false e refl)
op_is (Op.Put k v) (Op.Cas l y m) e = absurd (clash false e refl)
op_is (Op.Delete k) (Op.Get l) e = absurd (clash false e refl)
op_is (Op.Delete k) (Op.Put l w) e = absurd (clash false e refl)
op_is (Op.Delete k) (Op.Cas l y m) e = absurd (clash false e refl)
op_is (Op.Cas k x n) (Op.Get l) e = absurd (clash false e refl)
op_is (Op.Cas k x n) (Op.Put l w) e = absurd (clash false e refl)
op_is (Op.Cas k x n) (Op.Delete l) e = absurd (clash false e refl)

fields : (a b m n : ℕ) (o p : Op) → a ≡ b → m ≡ n → o ≡ p → Path Command (record { client = a; number = m; op = o }) (record { client = b; number = n; op = p })
fields a b m n o p x y z =
    subst (λ k. Path Command (record { client = a; number = m; op = o }) (record { client = k; number = n; op = p })) x
    (subst (λ k. Path Command (record { client = a; number = m; op = o }) (record { client = a; number = k; op = p })) y
    (ap (λ k. record { client = a; number = m; op = k }) z))

pub command_is : (c : Command) (v : Value) → is_command c v ≡ true → v ≡ Some c
unfolding is_command command_eq
command_is c None e = absurd (clash false e refl)
command_is c (Some d) e =
    let (client, rest) = both _ _ e in
    let (number, op) = both _ _ rest in
    ap (λ z. Some z) (sym (fields c.client d.client c.number d.number c.op d.op (nat_eq_is c.client d.client client) (nat_eq_is c.number d.number number) (op_is c.op d.op op)))

command_itself : (c : Command) → is_command c (Some c) ≡ true
unfolding is_command command_eq
command_itself c = rw (nat_eq_itself c.client, nat_eq_itself c.number, op_itself c.op) refl

pub command_is_not : (c : Command) (v : Value) → is_command c v ≡ false → v ≢ Some c
command_is_not c v e same = clash _ (command_itself c) (subst (λ z. is_command c z ≡ false) same e)

-- ---- replies

-- a client that waited is told what stands at its slot
pub record IsAnswer (y : Draft) (line : MpLine) : Type 0 where
  pub waiting : Waiting
  pub waited : Contains y.replica.waiting waiting
  pub value : Value
  pub there : slice_get (executed y.replica.log) waiting.slot ≡ Some value
  pub told : line ≡ reply_line y.replica.me (executed y.replica.log) waiting value

-- What the replies leave of a step: its log, and fewer who wait; each reply more is an answer.
pub record Replied (y x : Draft) : Type 0 where
  pub log : x.replica.log ≡ y.replica.log
  pub me : x.replica.me ≡ y.replica.me
  pub waits : (w : Waiting) → Contains x.replica.waiting w → Contains y.replica.waiting w
  pub replies : (line : MpLine) → Contains x.replies line → Contains y.replies line ⊎ IsAnswer y line

answered : (y : Draft) (ws : List Waiting) → ((w : Waiting) → Contains ws w → Contains y.replica.waiting w) → (x : Draft) → Replied y x → Replied y (answer_each ws x)
unfolding answer_each answer reply
answered y [] all x r = r
answered y (w ∷ ws) all x r =
    go (slice_get (executed x.replica.log) w.slot) refl (λ z s. answered y ws (λ u c. all u (later_in w ws u c)) z s)
  where
    go : (o : Option Value) → slice_get (executed x.replica.log) w.slot ≡ o → ((z : Draft) → Replied y z → Replied y (answer_each ws z)) → Replied y (answer_each ws (answer w o x))
    go None e rest = rest _ (record {
      log = r.log;
      me = r.me;
      waits = λ u c. elim (Contains-push_cases x.replica.waiting w u c) [
        | inl old ↦ r.waits u old
        | inr is ↦ subst (λ z. Contains y.replica.waiting z) is (all w (first_in w ws))
      ];
      replies = r.replies;
    })
    go (Some v) e rest = rest _ (record {
      log = r.log;
      me = r.me;
      waits = r.waits;
      replies = λ line c. elim (Contains-push_cases x.replies _ line c) [
        | inl old ↦ r.replies line old
        | inr is ↦ inr (record {
          waiting = w;
          waited = all w (first_in w ws);
          value = v;
          there = subst (λ log. slice_get (executed log) w.slot ≡ Some v) r.log e;
          told = sym is ∙ subst (λ log. reply_line x.replica.me (executed x.replica.log) w v ≡ reply_line y.replica.me (executed log) w v) r.log
              (ap (λ me. reply_line me (executed x.replica.log) w v) r.me);
        })
      ];
    })

pub replied : (y : Draft) → Replied y (replies y)
unfolding replies
replied y =
    answered y y.replica.waiting (λ w c. c) (record y { replica = record y.replica { waiting = [] } })
    (record { log = refl; me = refl; waits = λ w c. absurd (none_in w c); replies = λ line c. inl c })
