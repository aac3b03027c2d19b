-- Replies, one waiting client after another, and equal commands.
use Rattle.std.proofs.Common.{◌≡◌, ℕ, zero, suc, ◌+◌, ◌≤◌, true, false, List, [], ◌∷◌, ◌++◌, Some, None, length, refl, ap, ap₂, sym, ◌∙◌, append_assoc, arith}
use Rattle.std.specs.Prelude.{◌==◌, ◌&&◌, Bool, Option, bytes_eq, slice_get, take}
use Rattle.std.specs.List.{AllByRecursion}
use Rattle.std.specs.Option.{option_eq, option_map}
use Rattle.std.proofs.lemmas.Bool.{and_parts, eqb-true}
use Rattle.std.proofs.lemmas.Slice.Eq.{bytes_eq-Decides}
use Rattle.crsm_fact_log.proofs.Lists.{append-none}
use Rattle.crsm_spec.specs.Choice.{when◌then◌otherwise◌}
use Rattle.crsm_mpspec.specs.declared.line.MpLine.{MpLine}
use Rattle.crsm_mpspec.specs.Types.{Answer, Command, Op, Value}
use Rattle.crsm_mpspec.specs.Draft.{Draft, reply}
use Rattle.crsm_mpspec.specs.Log.{executed}
use Rattle.crsm_mpspec.specs.Replica.{Waiting}
use Rattle.crsm_mpspec.specs.Step.{answer, answer_each, replies, reply_line}
use Rattle.crsm_mpspec.specs.Values.{answer_after, command_eq, is_command, op_eq}
use Rattle.crsm_mpreplica.specs.State.{MpReplicaStands, NoneDue, waiting_of, with_waiting}
use Rattle.crsm_mpreplica.specs.declared.state.MpReplica.{MpReplica}

-- ---- equal commands

same_bytes : (a b : List ℕ) → bytes_eq a b ≡ true → a ≡ b
same_bytes a b e = (bytes_eq-Decides a b).0 e

same_option : (a b : Option (List ℕ)) → option_eq bytes_eq a b ≡ true → a ≡ b
same_option None None e = refl
same_option (Some a) (Some b) e = ap (λ (k : List ℕ). Some k) (same_bytes a b e)
same_option None (Some b) e = absurd cc
same_option (Some a) None e = absurd cc

same_op : (a b : Op) → op_eq a b ≡ true → a ≡ b
unfolding op_eq
same_op (Op.Get k) (Op.Get l) e = ap (λ (j : List ℕ). Op.Get j) (same_bytes k l e)
same_op (Op.Put k v) (Op.Put l w) e =
    let t = and_parts (bytes_eq k l) (bytes_eq v w) e in
    ap₂ (λ (j : List ℕ) (u : List ℕ). Op.Put j u) (same_bytes k l t.0) (same_bytes v w t.1)
same_op (Op.Delete k) (Op.Delete l) e = ap (λ (j : List ℕ). Op.Delete j) (same_bytes k l e)
same_op (Op.Cas k v w) (Op.Cas l v' w') e =
    let t = and_parts (bytes_eq k l) (option_eq bytes_eq v v' && option_eq bytes_eq w w') e in
    let u = and_parts (option_eq bytes_eq v v') (option_eq bytes_eq w w') t.1 in
    let keys = same_bytes k l t.0 in
    let olds = same_option v v' u.0 in
    let news = same_option w w' u.1 in
    λ i. Op.Cas (keys i) (olds i) (news i)
same_op _ _ e = absurd cc

same_command : (a b : Command) → command_eq a b ≡ true → a ≡ b
unfolding command_eq
same_command a b e =
    let t = and_parts (a.client == b.client) (a.number == b.number && op_eq a.op b.op) e in
    let u = and_parts (a.number == b.number) (op_eq a.op b.op) t.1 in
    let clients = eqb-true a.client b.client t.0 in
    let numbers = eqb-true a.number b.number u.0 in
    let ops = same_op a.op b.op u.1 in
    λ i. record { client = clients i; number = numbers i; op = ops i }

-- a value that is a command has it
pub command-is : (c : Command) (v : Value) → is_command c v ≡ true → v ≡ Some c
unfolding is_command
command-is c None e = absurd cc
command-is c (Some d) e = ap (λ (k : Command). Some k) (sym (same_command c d e))

-- ---- clients that wait

beyond : {X : Type 0} (xs : List X) (i : ℕ) → length xs ≤ i → slice_get xs i ≡ None
beyond [] i most = refl
beyond (x ∷ xs) zero most = absurd (omega (arith, most))
beyond (x ∷ xs) (suc i) most = beyond xs i (omega (arith, most))

-- clients that are not due wait on
wait-on : (ws vs : List Waiting) (x : Draft) → AllByRecursion (λ w. length (executed x.replica.log) ≤ w.slot) ws → answer_each ws (with_waiting vs x) ≡ with_waiting (vs ++ ws) x
unfolding answer_each answer with_waiting
wait-on [] vs x none = ap (λ (us : List Waiting). with_waiting us x) (sym (append-none vs))
wait-on (w ∷ ws) vs x none =
    ap (λ (o : Option Value). answer_each ws (answer w o (with_waiting vs x))) (beyond (executed x.replica.log) w.slot none.0)
    ∙ wait-on ws (vs ++ w ∷ []) x none.1
    ∙ ap (λ (us : List Waiting). with_waiting us x) (append_assoc vs (w ∷ []) ws)

-- where none is due, nobody gets a reply
pub none-replied : (x : Draft) → NoneDue x → replies x ≡ x
unfolding replies with_waiting
none-replied x none = wait-on x.replica.waiting [] x none

-- the first one gets its reply, and then the others theirs
pub first-replied : (x : Draft) (w : Waiting) (ws : List Waiting) (v : Value) → x.replica.waiting ≡ w ∷ ws → slice_get (executed x.replica.log) w.slot ≡ Some v
    → replies (reply (reply_line x.replica.me (executed x.replica.log) w v) (with_waiting ws x)) ≡ replies x
unfolding replies answer_each answer reply with_waiting
first-replied x w ws v waits found =
    sym
    (ap (λ (us : List Waiting). answer_each us (with_waiting [] x)) waits
    ∙ ap (λ (o : Option Value). answer_each ws (answer w o (with_waiting [] x))) found)

-- ---- what may be there

pub one_some : {X : Type 0} (x y : X) → Some x ≡ Some y → x ≡ y
one_some x y e = cc

pub none_some : {X : Type 0} (x : X) → None ≡ Some x → ⊥
none_some x e = cc

-- the answer at a value that is a command is the answer to it
pub answer-is : (c : Command) (done : List Value) (v : Value) → is_command c v ≡ true → option_map (answer_after done) v ≡ Some (answer_after done c)
answer-is c done v same = ap (option_map (answer_after done)) (command-is c v same)

-- ---- the line of a reply

module _ (me me' : ℕ) (done : List Value) (slot : ℕ) (c : Command) (v : Value) (own : me ≡ me') where
  pub replied-same : (a : Answer) → Some a ≡ (when is_command c v then Some (answer_after (take slot done) c) otherwise None)
      → MpLine.ReplyOk me c.client c.number slot a ≡ reply_line me' done (waiting_of (slot, c)) v
  unfolding reply_line waiting_of when◌then◌otherwise◌
  replied-same a is = by_test (is_command c v) is
    where
      by_test : (t : Bool) → Some a ≡ (when t then Some (answer_after (take slot done) c) otherwise None)
          → MpLine.ReplyOk me c.client c.number slot a ≡ (when t then MpLine.ReplyOk me' c.client c.number slot (answer_after (take slot done) c) otherwise MpLine.ReplyDropped me' c.client c.number slot)
      by_test true e = ap₂ (λ (k : ℕ) (b : Answer). MpLine.ReplyOk k c.client c.number slot b) own (one_some a (answer_after (take slot done) c) e)
      by_test false e = absurd (none_some a (sym e))

  pub replied-other : None ≡ (when is_command c v then Some (answer_after (take slot done) c) otherwise None)
      → MpLine.ReplyDropped me c.client c.number slot ≡ reply_line me' done (waiting_of (slot, c)) v
  unfolding reply_line waiting_of when◌then◌otherwise◌
  replied-other is = by_test (is_command c v) is
    where
      by_test : (t : Bool) → None ≡ (when t then Some (answer_after (take slot done) c) otherwise None)
          → MpLine.ReplyDropped me c.client c.number slot ≡ (when t then MpLine.ReplyOk me' c.client c.number slot (answer_after (take slot done) c) otherwise MpLine.ReplyDropped me' c.client c.number slot)
      by_test true e = absurd (none_some (answer_after (take slot done) c) e)
      by_test false e = ap (λ (k : ℕ). MpLine.ReplyDropped k c.client c.number slot) own

-- ---- the loop over the clients

-- The state is some replies after this draft: the clients replied to do not wait any more, and the other replies are
-- the same.
pub record IsOnWay (state : MpReplica) (x : Draft) (count : ℕ) : Type 0 where
  pub draft : Draft
  pub stands : MpReplicaStands state draft
  pub same : replies draft ≡ replies x
  pub left : length draft.replica.waiting + count ≡ length x.replica.waiting

pub one_less : (ws rest : List Waiting) (w : Waiting) (count total : ℕ) → ws ≡ w ∷ rest → length ws + count ≡ total → length rest + (count + 1) ≡ total
one_less ws rest w count total is left = let longer = ap (λ (us : List Waiting). length us) is in omega (arith, longer, left)

pub nobody : (P : Waiting → Type 0) (ws : List Waiting) → length ws ≡ 0 → AllByRecursion P ws
nobody P [] none = tt
nobody P (w ∷ ws) none = absurd (omega (arith, none))
