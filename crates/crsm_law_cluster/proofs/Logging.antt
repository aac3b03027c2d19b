-- The own entries that a step logs: those of requests that it received, each with a stamp that no logged entry has.
use Rattle.std.proofs.Common.{◌≡◌, ℕ, [], ◌∷◌, ◌++◌, refl, sym, ◌∙◌, subst, inl, inr}
use Rattle.std.specs.Prelude.{◌⊎◌, ◌&&◌, IsTrue}
use Rattle.std.proofs.lemmas.Bool.{and_parts}
use Rattle.crsm_spec.specs.Types.{Stamp, Entry, Command, Rec, Datagram}
use Rattle.crsm_spec.specs.Lists.{Among}
use Rattle.crsm_spec.specs.Log.{Log, known, logged, logged_in}
use Rattle.crsm_spec.specs.Fits.{fits}
use Rattle.crsm_spec.specs.Replica.{Replica}
use Rattle.crsm_spec.specs.Draft.{Draft, begun, keep, reply, count_vote, issued_at, push_to, push_to_members}
use Rattle.crsm_spec.specs.Clients.{submit, await, refuse, replies}
use Rattle.crsm_spec.specs.Step.{Input, step}
use Rattle.crsm_fact_log.specs.Logs.{Extends, same, more, Logged}
use Rattle.crsm_fact_log.proofs.Lists.{among_left, among_right, among_either, all_at}
use Rattle.crsm_fact_log.proofs.Logged.{extends_trans, prepare_known, newest_all}
use Rattle.crsm_fact_log.proofs.Sorted.{Le, lt_not, le_self}
use Rattle.crsm_fact_step.specs.Changes.{Change, Changes, stay, and_then}
use Rattle.crsm_fact_step.proofs.Fitted.{step_changes}
use Rattle.crsm_fact_step.proofs.Logs.{RecordChange, NothingKept, OneKept, record_change, replies_still}
use Rattle.crsm_law_epoch.proofs.CommitEffects.{same_entry}
use Rattle.crsm_law_agreement.proofs.Coordinators.{extends_among}
use Rattle.crsm_law_agreement.proofs.Logs.{is_logged}
use Rattle.crsm_law_cluster.proofs.Effects.{Effect, effect}
use Rattle.crsm_law_cluster.proofs.Effects.Effect.{Submitted, Refused, Answered, Quiet}

-- an entry of this epoch and stamp is logged
pub record HasKey (log : Log) (epoch : ℕ) (stamp : Stamp) : Type 0 where
  pub entry : Entry
  pub logged : Logged log entry
  pub epoch_is : entry.epoch ≡ epoch
  pub stamp_is : entry.stamp ≡ stamp

pub key_later : {a b : Log} → Extends a b → (epoch : ℕ) (stamp : Stamp) → HasKey a epoch stamp → HasKey b epoch stamp
key_later x epoch stamp h = record { entry = h.entry; logged = extends_among x (Rec.Prepare h.entry) h.logged; epoch_is = h.epoch_is; stamp_is = h.stamp_is }

-- what fits has a stamp of its own
pub fits_new : (me n : ℕ) (log : Log) (e : Entry) → IsTrue (fits me n log (Rec.Prepare e)) → HasKey log e.epoch e.stamp → ⊥
unfolding logged
fits_new me n log e h k =
    let t = prepare_known me n log e h in
    let apart = all_at _ (logged_in (known log) log) k.entry (newest_all e (logged_in (known log) log) t.1) (is_logged (known log) log k.entry k.logged (k.epoch_is ∙ t.0)) in
    elim apart [
      | inl lt ↦ lt_not e.stamp k.entry.stamp lt (subst (λ s. Le k.entry.stamp s) k.stamp_is (le_self k.entry.stamp))
      | inr lt ↦ lt_not k.entry.stamp e.stamp lt (subst (λ s. Le s k.entry.stamp) k.stamp_is (le_self k.entry.stamp))
    ]

abbrev pub the_entry : Command → ℕ → Draft → Entry
the_entry c t x = record { epoch = known x.replica.log; stamp = record { time = t; origin = x.replica.me }; command = c }

-- a request of this command comes from this address: what that means is said where a step is one of a turn
module _ (r : Replica) (Req : ℕ → Command → Type 0) where
  -- the entry is of a request, and this draft logs it
  abbrev pub IsNow : ℕ → Entry → Draft → Type 0
  IsNow a e x = Req a e.command × Among x.batch (Rec.Prepare e)

  pub record Logs (x : Draft) : Type 0 where
    pub me : x.replica.me ≡ r.me
    pub grows : Extends r.log x.replica.log
    pub kept : (e : Entry) → Among x.batch (Rec.Prepare e) → Logged x.replica.log e
    pub own : (e : Entry) → Logged x.replica.log e → e.stamp.origin ≡ r.me → Logged r.log e ⊎ ((a : ℕ) × IsNow a e x)
    pub new : (e : Entry) → Among x.batch (Rec.Prepare e) → HasKey r.log e.epoch e.stamp → ⊥

  pub nothing_logged : Logs (begun r)
  unfolding begun
  nothing_logged = record { me = refl; grows = same; kept = λ e a. absurd a; own = λ e l o. inl l; new = λ e a k. absurd a }

-- the number, the log and the batch of a draft that goes on
pub record Goes (x y : Draft) : Type 0 where
  pub me : y.replica.me ≡ x.replica.me
  pub grows : Extends x.replica.log y.replica.log
  pub batch : (rec : Rec) → Among x.batch rec → Among y.batch rec

-- where a submission's record is
pub record IsStamped (a : ℕ) (c : Command) (t : ℕ) (x : Draft) : Type 0 where
  pub log : (submit a c t x).replica.log ≡ Rec.Prepare (the_entry c t x) ∷ x.replica.log
  pub batch : (submit a c t x).batch ≡ x.batch ++ Rec.Prepare (the_entry c t x) ∷ []
  pub fitting : (submit a c t x).fitting ≡ (x.fitting && fits x.replica.me x.replica.n x.replica.log (Rec.Prepare (the_entry c t x)))

pub is_stamped : (a : ℕ) (c : Command) (t : ℕ) (x : Draft) → IsStamped a c t x
unfolding submit await push_to_members push_to count_vote issued_at keep
is_stamped a c t x = record { log = refl; batch = refl; fitting = refl }

module _ (r : Replica) (input : Input) (t : ℕ) (Req : ℕ → Command → Type 0) (req : (a : ℕ) (c : Command) → input ≡ Input.Came a (Datagram.Request c) → Req a c) where
  pub goes : (x y : Draft) → Change r input t x y → Goes x y
  goes x y c = go (record_change r input t x y c)
    where
      go : RecordChange x y → Goes x y
      go (NothingKept me n log batch) = record { me = me; grows = subst (Extends x.replica.log) (sym log) same; batch = λ rec a. subst (λ l. Among l rec) (sym batch) a }
      go (OneKept rec me n log batch fit) = record {
        me = me;
        grows = subst (Extends x.replica.log) (sym log) (more rec same);
        batch = λ q a. subst (λ l. Among l q) (sym batch) (among_left x.batch (rec ∷ []) q a);
      }

  -- a record of the batch is logged, and fitted behind what was logged before
  kept_then : (x y : Draft) → RecordChange x y → Logs r Req x → (e : Entry) → Among y.batch (Rec.Prepare e) → Logged y.replica.log e
  kept_then x y (NothingKept me n log batch) h e a = subst (λ l. Logged l e) (sym log) (h.kept e (subst (λ l. Among l (Rec.Prepare e)) batch a))
  kept_then x y (OneKept rec me n log batch fit) h e a = subst (λ l. Logged l e) (sym log) (elim (among_either x.batch (rec ∷ []) (Rec.Prepare e) (subst (λ l. Among l (Rec.Prepare e)) batch a)) [
    | inl b ↦ inr (h.kept e b)
    | inr b ↦ elim b [ inl q ↦ inl q | inr q ↦ absurd q ]
  ])

  new_then : (x y : Draft) → RecordChange x y → IsTrue y.fitting → Logs r Req x → (e : Entry) → Among y.batch (Rec.Prepare e) → HasKey r.log e.epoch e.stamp → ⊥
  new_then x y (NothingKept me n log batch) f h e a k = h.new e (subst (λ l. Among l (Rec.Prepare e)) batch a) k
  new_then x y (OneKept rec me n log batch fit) f h e a k = elim (among_either x.batch (rec ∷ []) (Rec.Prepare e) (subst (λ l. Among l (Rec.Prepare e)) batch a)) [
    | inl b ↦ h.new e b k
    | inr b ↦ elim b [
      | inl q ↦ fits_new x.replica.me x.replica.n x.replica.log e (subst (λ z. IsTrue (fits x.replica.me x.replica.n x.replica.log z)) q (and_parts x.fitting _ (sym fit ∙ f)).1) (key_later h.grows e.epoch e.stamp k)
      | inr q ↦ q
    ]
  ]

  abbrev Own : Draft → Entry → Type 0
  Own y e = Logged r.log e ⊎ ((a : ℕ) × IsNow r Req a e y)

  own_still : (x y : Draft) → Goes x y → Logs r Req x → (e : Entry) → Logged x.replica.log e → e.stamp.origin ≡ r.me → Own y e
  own_still x y g h e l o = elim (h.own e l o) [ inl q ↦ inl q | inr q ↦ inr (q.0, (q.1.0, g.batch (Rec.Prepare e) q.1.1)) ]

  own_then : (x y : Draft) → Effect r input x y → Goes x y → Logs r Req x → (e : Entry) → Logged y.replica.log e → e.stamp.origin ≡ r.me → Own y e
  unfolding refuse reply
  own_then x y (Submitted a c s i) g h e l o = elim (subst (λ z. Logged z e) (is_stamped a c s x).log l) [
    | inl q ↦ inr (
      a,
      subst (λ z. IsNow r Req a z (submit a c s x)) (same_entry (the_entry c s x) e q)
          (req a c i, subst (λ z. Among z (Rec.Prepare (the_entry c s x))) (sym (is_stamped a c s x).batch) (among_right x.batch _ _ (inl refl))),
    )
    | inr q ↦ own_still x (submit a c s x) g h e q o
  ]
  own_then x y (Refused a c why i) g h e l o = own_still x (refuse a c why x) g h e l o
  own_then x y Answered g h e l o = own_still x (replies x) g h e (subst (λ z. Logged z e) (replies_still x).log l) o
  own_then x y (Quiet q) g h e l o = own_still x y g h e (q.own e l o) o

  pub change_logs : (x y : Draft) → Change r input t x y → IsTrue y.fitting → Logs r Req x → Logs r Req y
  change_logs x y c f h =
      let g = goes x y c in
      record {
        me = g.me ∙ h.me;
        grows = extends_trans h.grows g.grows;
        kept = kept_then x y (record_change r input t x y c) h;
        own = own_then x y (effect r input t x y c) g h;
        new = new_then x y (record_change r input t x y c) f h;
      }

  pub changes_log : {y : Draft} → Changes r input t (begun r) y → Logs r Req y
  changes_log stay = nothing_logged r Req
  changes_log (and_then {y = y} {z = z} p c f) = change_logs y z c f (changes_log p)

  pub step_logs : Logs r Req (step r input t)
  step_logs = changes_log (step_changes r input t)
