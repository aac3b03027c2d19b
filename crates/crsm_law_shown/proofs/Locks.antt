-- What a client of a lock is told is true of the one list.
use Rattle.std.proofs.Common.{◌≡◌, ℕ, ◌+◌, ◌<◌, ◌≤◌, ◌^◌, ◌⊎◌, inl, inr, List, length, take, Option, Some, None, refl, sym, ap, subst, ◌∙◌, arith}
use Rattle.std.specs.Prelude.{Result, Ok, slice_get}
use Rattle.std.proofs.lemmas.Bool.{cases_eq, cases_lt}
use Rattle.std.proofs.lemmas.Option.{same_Some}
use Rattle.crsm_base.specs.Spelling.{refusal_number}
use Rattle.crsm_base.specs.Store.{after, value_at}
use Rattle.crsm_spec.specs.Types.{Answer, Command, Entry, Op, Outcome}
use Rattle.crsm_lease.specs.declared.lock.Lock.{Lock}
use Rattle.crsm_lease.specs.declared.rule.Action.{Action}
use Rattle.crsm_lease.specs.declared.rule.NextStep.{NextStep}
use Rattle.crsm_lease.specs.declared.told.Told.{Told}
use Rattle.crsm_lease.specs.Locks.{FitsLock, HasLock, lock_bytes}
use Rattle.crsm_lease.specs.Rules.{AskedAreGrantsOrReturns, Asks, FollowsCas, FollowsGet, Grants, Returns, cas_to, done_of, fence_of, give_back}
use Rattle.crsm_port.specs.Meaning.{Meaning}
use Rattle.crsm_client.specs.Asking.{Answered, EndsWithReply}
use Rattle.crsm_cmd_lock.specs.declared.command.LockOrder.{LockOrder}
use Rattle.crsm_cmd_lock.specs.Learning.{LearnsAtOnce, LearnsNext, follows_of, look_of}
use Rattle.crsm_law_cluster.specs.Clusters.{Event}
use Rattle.crsm_law_cluster.specs.OneList.{one_list}
use Rattle.crsm_law_cluster.specs.ClusterLaws.{IsHistory}
use Rattle.crsm_law_cluster.specs.RequestLaws.{EntriesWereSubmitted}
use Rattle.crsm_law_locks.specs.Grants.{IsGrant, IsHeld, IsLawful, IsReturn, TakesEffect}
use Rattle.crsm_law_locks.specs.Laws.{FencesRise, GrantsAreOwn, HeldByLastGrant}
use Rattle.crsm_law_once.specs.Laws.{NewNumbersAreExecuted, OneChangesKeys, PassedNumbersAreStale}
use Rattle.crsm_law_replies.specs.Laws.{RepliesTellTheFirst}
use Rattle.crsm_law_shown.specs.Heard.{IsOnlyUseOf}
use Rattle.crsm_law_shown.specs.Shown.{IsKnown, IsTheStores}
use Rattle.crsm_law_shown.specs.Locks.{IsFree, IsHeardAtOnce, IsHeardNext, IsHolder, IsShownTrue, IsTrue}
use Rattle.crsm_law_shown.specs.Laws.{GrantsAreOrdered, LocksAreShownAsTheyAre}
use Rattle.crsm_law_shown.proofs.Known.{is_command, known}
use Rattle.crsm_law_shown.proofs.Done.{IsDoneAt, IsOwn, done_at, found_there, inside, is_executed, is_no_repeat, missing_there}
use Rattle.crsm_law_shown.proofs.Rules.{AsksOn, TellsOf, TellsOfKey, asks_on, end_is, held_value, ruled_tells}
use Rattle.crsm_law_shown.proofs.Rules.TellsOf.{Foreign, Nothing, Own, Vacant}

-- ---- after the look

module _ (held_by : HeldByLastGrant) (key : List ℕ) (es : List Entry) (lawful : IsLawful key es) (me count : ℕ) (within : count ≤ length es) where
  holder : (fence owner : ℕ) → HasLock (value_at key (after (take count es)).keys) (Lock.Held fence owner) → IsHolder key es fence owner
  holder fence owner has =
      let v = held_value (value_at key (after (take count es)).keys) fence owner has in
      record { count = count; within = within; held = v.0; last = (held_by key es lawful count fence owner within v.1).0 v.0 }

  told_of : (lock : Lock) (told : Told) → TellsOf me lock told → HasLock (value_at key (after (take count es)).keys) lock → IsTrue key es me told
  told_of _ _ (Own fence) has = let h = holder fence me has in (h.last.0, h.last.1.grant)
  told_of _ _ (Foreign fence owner) has = holder fence owner has
  told_of _ _ (Vacant fence) has = record { count = count; within = within; free = has }
  told_of _ _ (Nothing lock) has = tt

  told_of_key : (value : Option (List ℕ)) (told : Told) → value_at key (after (take count es)).keys ≡ value → TellsOfKey me value told ⊎ (told ≡ Told.NotALock) → IsTrue key es me told
  told_of_key value told is (inl t) = told_of t.lock told t.tells (subst (λ v. HasLock v t.lock) (sym is) t.has)
  told_of_key value told is (inr e) = subst (IsTrue key es me) (sym e) tt

-- ---- after the second request

module _ (key : List ℕ) (es : List Entry) (me : ℕ) (command : Command) (op : Op) (op_is : command.op ≡ op) (client_is : command.client ≡ me) (d : IsDoneAt es command Answer.Done) where
  effect : TakesEffect es d.first d.entry
  effect = record { done = d.at; new = is_no_repeat es command Answer.Done d }

  is_op : d.entry.command.op ≡ op
  is_op = ap (λ (c : Command). c.op) d.is_command ∙ op_is

  is_granted : (g : (action : Action) × Grants action me op) → g.1.key ≡ key → IsGrant key es d.first (fence_of g.1.lock + 1) me
  is_granted g on = record {
    entry = d.entry;
    expected = g.1.found;
    fits = (g.1.fits, g.1.client);
    effect = effect;
    is = is_op ∙ g.1.is ∙ ap (λ k. cas_to k g.1.found (Lock.Held (fence_of g.1.lock + 1) me)) on;
  }

  is_returned : (g : (action : Action) × Returns action me op) → g.1.key ≡ key → IsReturn key es d.first g.1.fence me
  is_returned g on = record {
    entry = d.entry;
    client = ap (λ (c : Command). c.client) d.is_command ∙ client_is;
    effect = effect;
    is = is_op ∙ g.1.is ∙ ap (λ k. give_back k g.1.fence me) on;
  }

same_key : (k k' : List ℕ) (x x' y y' : Option (List ℕ)) → Op.Cas k x y ≡ Op.Cas k' x' y' → k ≡ k'
same_key k k' x x' y y' e = cc

module _ (kinds : AskedAreGrantsOrReturns) (key : List ℕ) (es : List Entry) (me : ℕ) (command : Command) (action : Action) (op : Op) (op_is : command.op ≡ op) (client_is : command.client ≡ me) (asks : AsksOn action me key op) where
  on_key : (k : List ℕ) (found : Option (List ℕ)) (wanted : Lock) → op ≡ cas_to k found wanted → k ≡ key
  on_key k found wanted is = same_key k asks.asks.key found asks.asks.found (Some (lock_bytes wanted)) (Some (lock_bytes asks.asks.wanted)) (sym is ∙ asks.asks.is) ∙ asks.on

  cas_done : IsDoneAt es command Answer.Done → (told : Told) → FollowsCas op (Outcome.Answered Answer.Done) told → IsTrue key es me told
  cas_done d told f = elim (kinds action me op asks.asks) [
    | inl g ↦ (let wanted : Lock = Lock.Held (fence_of g.lock + 1) me in
        subst (IsTrue key es me) (sym (f g.key g.found wanted (g.fits, g.client) g.is))
        (d.first, is_granted key es me command op op_is client_is d (action, g) (on_key g.key g.found wanted g.is)))
    | inr g ↦ subst (IsTrue key es me) (sym (f g.key (Some (lock_bytes (Lock.Held g.fence me))) (Lock.Free g.fence) g.fits g.is))
        (d.first, is_returned key es me command op op_is client_is d (action, g) (on_key g.key (Some (lock_bytes (Lock.Held g.fence me))) (Lock.Free g.fence) g.is))
  ]

-- what says nothing of the lock
quiet_told : (key : List ℕ) (es : List Entry) (me : ℕ) (told other : Told) → ◌≡◌ {A = NextStep} (NextStep.End told) (NextStep.End other) → IsTrue key es me other → IsTrue key es me told
quiet_told key es me told other e t = subst (IsTrue key es me) (sym (end_is told other e)) t

-- ---- the command

module _ (tell : RepliesTellTheFirst) (submitted : EntriesWereSubmitted) (once : OneChangesKeys) (new : NewNumbersAreExecuted) (passed : PassedNumbersAreStale) (kinds : AskedAreGrantsOrReturns) (held_by : HeldByLastGrant) (n : ℕ) (h : List Event) (q : IsHistory n h) where
  abbrev list : List Entry
  list = one_list n h

  done : (command : Command) (a : Answer) → IsOnlyUseOf n h command → ((m : ℕ) → a ≡ Answer.Stale m → ⊥) → IsTheStores n h command a → IsDoneAt list command a
  done command a only own x = done_at list command a (is_command tell submitted once n h q command only) own x.tells

  module _ (order : LockOrder) (lawful : IsLawful order.key list) where
    quiet : (told other : Told) → ◌≡◌ {A = NextStep} (NextStep.End told) (NextStep.End other) → IsTrue order.key list order.client other → IsTrue order.key list order.client told
    quiet told other e t = quiet_told order.key list order.client told other e t

    -- what is told after the read
    look_told : (told : Told) (found : Outcome) → IsOnlyUseOf n h (look_of order) → IsKnown n h (look_of order) (Ok found) → FollowsGet order.action order.client order.key found (NextStep.End told) → IsTrue order.key list order.client told
    look_told told (Outcome.Answered (Answer.Found value)) only x f =
        let d = done (look_of order) (Answer.Found value) only (λ m e. absurd cc) x in
        let y = is_executed list (look_of order) (Answer.Found value) d new passed (λ m e. absurd cc, λ e. absurd cc) in
        told_of_key held_by order.key list lawful order.client d.first (inside list (look_of order) (Answer.Found value) d) (Some value) told
        (found_there list d.first d.entry value order.key (ap (λ (c : Command). c.op) d.is_command) y)
        (ruled_tells order.action order.client order.key (Some value) told f)
    look_told told (Outcome.Answered Answer.Missing) only x f =
        let d = done (look_of order) Answer.Missing only (λ m e. absurd cc) x in
        let y = is_executed list (look_of order) Answer.Missing d new passed (λ m e. absurd cc, λ e. absurd cc) in
        told_of_key held_by order.key list lawful order.client d.first (inside list (look_of order) Answer.Missing d) None told
        (missing_there list d.first d.entry order.key (ap (λ (c : Command). c.op) d.is_command) y)
        (ruled_tells order.action order.client order.key None told f)
    look_told told (Outcome.Answered (Answer.Stale number)) only x f = quiet told (Told.Stale number) f tt
    look_told told (Outcome.Answered Answer.NoRoom) only x f = quiet told Told.NoRoom f tt
    look_told told (Outcome.Answered Answer.Done) only x f = quiet told Told.Odd f tt
    look_told told (Outcome.Answered (Answer.Differs value)) only x f = quiet told Told.Odd f tt
    look_told told (Outcome.Refused why) only x f = quiet told (Told.Refused (refusal_number why)) f tt

    -- what is told of the operation that followed
    next_told : (told : Told) (op : Op) (outcome : Outcome) → AsksOn order.action order.client order.key op → IsOnlyUseOf n h (follows_of order op) → IsKnown n h (follows_of order op) (Ok outcome) → FollowsCas op outcome told → IsTrue order.key list order.client told
    next_told told op (Outcome.Answered Answer.Done) asks only x f =
        cas_done kinds order.key list order.client (follows_of order op) order.action op refl refl asks (done (follows_of order op) Answer.Done only (λ m e. absurd cc) x) told f
    next_told told op (Outcome.Answered (Answer.Differs value)) asks only x f = subst (IsTrue order.key list order.client) (sym f) tt
    next_told told op (Outcome.Answered (Answer.Stale number)) asks only x f = subst (IsTrue order.key list order.client) (sym f) tt
    next_told told op (Outcome.Answered Answer.NoRoom) asks only x f = subst (IsTrue order.key list order.client) (sym f) tt
    next_told told op (Outcome.Answered (Answer.Found value)) asks only x f = subst (IsTrue order.key list order.client) (sym f) tt
    next_told told op (Outcome.Answered Answer.Missing) asks only x f = subst (IsTrue order.key list order.client) (sym f) tt
    next_told told op (Outcome.Refused why) asks only x f = subst (IsTrue order.key list order.client) (sym f) tt

    at_once : (old new : Meaning) (told : Told) (x : LearnsAtOnce order old new told) → IsHeardAtOnce n h order old new told x → IsTrue order.key list order.client told
    at_once old new told x heard =
        look_told told x.found heard.only_use (known tell submitted once n h q (look_of order) heard.only_use 0 order.to order.turns 100 old new (Ok x.found) x.looks heard.replies) x.ruled

    next : (old new : Meaning) (told : Told) (x : LearnsNext order old new told) → IsHeardNext n h order old new told x → IsTrue order.key list order.client told
    next old new told x heard =
        let client : order.client < 2 ^ 64 = x.asked.looks.ended.reply.is_reply.spelt.fits.0 in
        next_told told x.op x.outcome (asks_on order.action order.client order.key x.asked.found x.op client x.asked.ruled) heard.next_only_use
        (known tell submitted once n h q (follows_of order x.op) heard.next_only_use 0 order.to order.turns 100 x.asked.between new (Ok x.outcome) x.asked.asks heard.next_replies) x.ruled

    pub shown_true : (old new : Meaning) (told : Told) → IsShownTrue n h order old new told
    shown_true old new told = record { at_once = at_once old new told; next = next old new told }

pub locks_are_shown : RepliesTellTheFirst → EntriesWereSubmitted → OneChangesKeys → NewNumbersAreExecuted → PassedNumbersAreStale → AskedAreGrantsOrReturns → HeldByLastGrant → LocksAreShownAsTheyAre
locks_are_shown tell submitted once new passed kinds held_by n h q order lawful = shown_true tell submitted once new passed kinds held_by n h q order lawful

-- ---- two grants

pub grants_ordered : FencesRise → GrantsAreOwn → GrantsAreOrdered
grants_ordered rise own key es lawful c d fence fence' other x y = elim (cases_lt x.0 y.0) [
  | inl lt ↦ inl (lt, rise key es lawful x.0 y.0 fence fence' c d x.1 y.1 lt)
  | inr le ↦ elim (cases_eq y.0 x.0) [
    | inl same ↦ absurd (other (one_client x.0 (subst (λ p. IsGrant key es p fence' d) same y.1) x.1))
    | inr apart ↦ (let lt = below y.0 x.0 le apart in inr (lt, rise key es lawful y.0 x.0 fence' fence d c y.1 x.1 lt))
  ]
]
  where
    below : (p r : ℕ) → p ≤ r → (p ≡ r → ⊥) → p < r
    below p r le apart = omega (arith, le, apart)

    -- a grant is its client's own, and an entry has one client
    one_client : (p : ℕ) → IsGrant key es p fence' d → IsGrant key es p fence c → c ≡ d
    one_client p f g =
        sym (own key es lawful p fence c g)
        ∙ ap (λ (e : Entry). e.command.client) (same_Some g.entry f.entry (sym g.effect.done.0 ∙ f.effect.done.0))
        ∙ own key es lawful p fence' d f
