-- The places of the executed entries of a log, record by record.
use Rattle.std.proofs.Common.{◌≡◌, ℕ, zero, suc, ◌+◌, ◌-◌, ◌≤◌, List, [], ◌∷◌, ◌++◌, length, drop, take, refl, sym, ◌∙◌, ap, subst, inl, inr, Bool, true, false, cond, arith}
use Rattle.std.specs.Prelude.{◌⊎◌, IsTrue, Option, Some, None, slice_get, nat_lt, nat_le, ◌&&◌, find, option_to_list}
use Rattle.std.specs.Option.{option_map_or}
use Rattle.std.proofs.lemmas.Bool.{and_parts, leb-true}
use Rattle.std.proofs.lemmas.Option.{none-some, same_Some}
use Rattle.crsm_base.specs.Order.{stamp_eq}
use Rattle.crsm_spec.specs.Choice.{when◌then◌otherwise◌}
use Rattle.crsm_spec.specs.Types.{Stamp, Entry, Decision, Rec, Control}
use Rattle.crsm_spec.specs.Lists.{Among, first_of}
use Rattle.crsm_spec.specs.Log.{Log, known, decision, executed, logged, logged_in, entry_of, unexecuted}
use Rattle.crsm_spec.specs.Collect.{first_page}
use Rattle.crsm_spec.specs.Controls.{page_from, new_entries, may_adopt}
use Rattle.crsm_fact_log.specs.Logs.{Extends, same, more, Logged}
use Rattle.crsm_fact_log.proofs.Logged.{extends_trans, logged_is}
use Rattle.crsm_fact_log.proofs.Tests.{same_stamp}
use Rattle.crsm_law_collection.specs.Collecting.{CommitOf}
use Rattle.crsm_law_agreement.specs.Openings.{IsOpening, IsPlaced}
use Rattle.crsm_law_agreement.proofs.Lists.{get_append, get_take}
use Rattle.crsm_law_agreement.proofs.Logs.{IsIdle, idle_executed, idle_known}

-- that is so of each log that knew the epoch
abbrev pub EndsPlaced : ℕ → List Entry → (ℕ → Log) → Log → Type 0
EndsPlaced e opening logs now = (log : Log) → Extends log now → known log ≡ e → IsPlaced e opening logs log

-- ---- logs go on

pub commit_on : (e : ℕ) (logs later : ℕ → Log) → ((k : ℕ) → Extends (logs k) (later k)) → (p : ℕ) (x : Entry) → CommitOf e logs p x → CommitOf e later p x
commit_on e logs later grows p x c = record { by = c.by; log = c.log; kept = extends_trans c.kept (grows c.by); epoch = c.epoch; next = c.next; place_is = c.place_is }

pub placed_on : (e : ℕ) (opening : List Entry) (logs later : ℕ → Log) → ((k : ℕ) → Extends (logs k) (later k)) → (log : Log) → IsPlaced e opening logs log → IsPlaced e opening later log
placed_on e opening logs later grows log h p x q = elim (h p x q) [ inl a ↦ inl a | inr b ↦ inr (b.0, commit_on e logs later grows p x b.1) ]

pub ends_on : (e : ℕ) (opening : List Entry) (logs later : ℕ → Log) → ((k : ℕ) → Extends (logs k) (later k)) → (now : Log) → EndsPlaced e opening logs now → EndsPlaced e opening later now
ends_on e opening logs later grows now h log x kn = placed_on e opening logs later grows log (h log x kn)

-- an opening was one of the earlier logs
pub opening_back : (e : ℕ) (opening : List Entry) (logs later : ℕ → Log) → ((k : ℕ) → Extends (logs k) (later k)) → ((k : ℕ) (rec : Rec) → Among (logs k) rec → Among (later k) rec) → IsOpening e opening later → IsOpening e opening logs
opening_back e opening logs later grows keeps o = record {
  before = λ k log x. o.before k log (extends_trans x (grows k));
  older = o.older;
  begin = λ k log x. o.begin k log (extends_trans x (grows k));
  tail = λ k d a. o.tail k d (keeps k (Rec.Decide d) a);
}

-- ---- one more record

pub idle_placed : (e : ℕ) (opening : List Entry) (logs : ℕ → Log) (rec : Rec) (log : Log) → IsIdle rec → EndsPlaced e opening logs log → EndsPlaced e opening logs (rec ∷ log)
idle_placed e opening logs rec log idle h end (more r x) kn p z q = h end x kn p z q
idle_placed e opening logs rec log idle h end same kn p z q = h log same (sym (idle_known rec log idle) ∙ kn) p z (subst (λ l. slice_get l p ≡ Some z) (idle_executed rec log idle) q)

find_some : (s : Stamp) (es : List Entry) (z : Entry) → find (λ e. stamp_eq e.stamp s) es ≡ Some z → Among es z × (z.stamp ≡ s)
find_some s [] z h = absurd (none-some z h)
find_some s (e ∷ es) z h = go (λ q. find_some s es z q) (stamp_eq e.stamp s) refl h
  where
    go : (find (λ e. stamp_eq e.stamp s) es ≡ Some z → Among es z × (z.stamp ≡ s)) → (b : Bool) → stamp_eq e.stamp s ≡ b → cond b (Some e) (find (λ e. stamp_eq e.stamp s) es) ≡ Some z → Among (e ∷ es) z × (z.stamp ≡ s)
    go k true t q = (inl (same_Some e z q), ap (λ w. w.stamp) (sym (same_Some e z q)) ∙ same_stamp e.stamp s t)
    go k false t q = let w = k q in (inr w.0, w.1)

-- the entry that a commit of this stamp executes
pub entry_is : (log : Log) (s : Stamp) (z : Entry) → entry_of log s ≡ Some z → Logged log z × (z.epoch ≡ known log) × (z.stamp ≡ s)
unfolding entry_of logged
entry_is log s z h = let t = find_some s (logged_in (known log) log) z h in let l = logged_is (known log) log z t.0 in (l.0, l.1, t.1)

executed_commit : (log : Log) (s : Stamp) → executed (Rec.Commit s ∷ log) ≡ executed log ++ option_to_list (entry_of log s)
unfolding executed
executed_commit log s = refl

executed_adopt : (log : Log) (place : ℕ) (es : List Entry) → executed (Rec.Adopt place es ∷ log) ≡ executed log ++ es
unfolding executed
executed_adopt log place es = refl

known_commit : (log : Log) (s : Stamp) → known (Rec.Commit s ∷ log) ≡ known log
unfolding known decision
known_commit log s = refl

known_adopt : (log : Log) (place : ℕ) (es : List Entry) → known (Rec.Adopt place es ∷ log) ≡ known log
unfolding known decision
known_adopt log place es = refl

executed_decide : (d : Decision) (log : Log) → executed (Rec.Decide d ∷ log) ≡ executed log
unfolding executed
executed_decide d log = refl

pub commit_placed : (e : ℕ) (opening : List Entry) (later : ℕ → Log) (k : ℕ) (log : Log) (y : Entry) → Extends (Rec.Commit y.stamp ∷ log) (later k) → first_of (unexecuted log) ≡ Some y →
    ((z : Entry) → Logged log z → z.epoch ≡ known log → z.stamp ≡ y.stamp → z ≡ y) → (known log ≡ e → length opening ≤ length (executed log)) →
    EndsPlaced e opening later log → EndsPlaced e opening later (Rec.Commit y.stamp ∷ log)
commit_placed e opening later k log y ext is_next one long h end (more r x) kn p z q = h end x kn p z q
commit_placed e opening later k log y ext is_next one long h end same kn p z q =
    elim (get_append (executed log) (option_to_list (entry_of log y.stamp)) p z (subst (λ l. slice_get l p ≡ Some z) (executed_commit log y.stamp) q)) [
      | inl a ↦ h log same knows p z a
      | inr a ↦ inr (behind p a.0 a.1, new a.0 a.1 (entry_of log y.stamp) refl a.2)
    ]
  where
    knows : known log ≡ e
    knows = sym (known_commit log y.stamp) ∙ kn

    behind : (p i : ℕ) → p ≡ length (executed log) + i → length opening ≤ p
    behind p i at = let l = long knows in omega (arith, l, at)

    new : (i : ℕ) → p ≡ length (executed log) + i → (o : Option Entry) → entry_of log y.stamp ≡ o → slice_get (option_to_list o) i ≡ Some z → CommitOf e later p z
    new i at None f g = absurd (none-some z g)
    new (suc i) at (Some w) f g = absurd (none-some z g)
    new zero at (Some w) f g =
        let t = entry_is log y.stamp w f in
        let is : z ≡ y = sym (same_Some w z g) ∙ one w t.0 t.1 t.2 in
        subst (CommitOf e later p) (sym is) (record { by = k; log = log; kept = ext; epoch = knows; next = is_next; place_is = omega (arith, at) })

-- an adopted entry, where it stands
abbrev pub StandsWell : ℕ → List Entry → (ℕ → Log) → ℕ → Entry → Type 0
StandsWell e opening logs p x = (slice_get opening p ≡ Some x) ⊎ ((length opening ≤ p) × CommitOf e logs p x)

pub adopt_placed : (e : ℕ) (opening : List Entry) (later : ℕ → Log) (log : Log) (place : ℕ) (es : List Entry) →
    (known log ≡ e → (i : ℕ) (x : Entry) → slice_get es i ≡ Some x → StandsWell e opening later (length (executed log) + i) x) →
    EndsPlaced e opening later log → EndsPlaced e opening later (Rec.Adopt place es ∷ log)
adopt_placed e opening later log place es new h end (more r x) kn p z q = h end x kn p z q
adopt_placed e opening later log place es new h end same kn p z q =
    elim (get_append (executed log) es p z (subst (λ l. slice_get l p ≡ Some z) (executed_adopt log place es) q)) [
      | inl a ↦ h log same (sym (known_adopt log place es) ∙ kn) p z a
      | inr a ↦ subst (λ i. StandsWell e opening later i z) (sym a.1) (new (sym (known_adopt log place es) ∙ kn) a.0 z a.2)
    ]

-- a log that learns the epoch is a prefix of its opening
pub decide_placed : (e : ℕ) (opening : List Entry) (later : ℕ → Log) (log : Log) (d : Decision) →
    (known (Rec.Decide d ∷ log) ≡ e → (p : ℕ) (x : Entry) → slice_get (executed log) p ≡ Some x → slice_get opening p ≡ Some x) →
    EndsPlaced e opening later log → EndsPlaced e opening later (Rec.Decide d ∷ log)
decide_placed e opening later log d prefix h end (more r x) kn p z q = h end x kn p z q
decide_placed e opening later log d prefix h end same kn p z q = inl (prefix kn p z (subst (λ l. slice_get l p ≡ Some z) (executed_decide d log) q))

-- ---- a page

pub page_epoch : (e from : ℕ) (es : List Entry) (old : Log) → Control.Page e from es ≡ page_from old from → (e ≡ known old) × (es ≡ first_page (drop from (executed old)))
unfolding page_from
page_epoch e from es old h = (cc, cc)

-- what is taken of a page stands in it behind what was executed
pub taken_new : (log : Log) (from : ℕ) (es : List Entry) (i : ℕ) (x : Entry) → slice_get (new_entries log from es) i ≡ Some x → slice_get (drop (length (executed log) - from) es) i ≡ Some x
unfolding new_entries when◌then◌otherwise◌
taken_new log from es i x h = go (decision log) h
  where
    new : List Entry
    new = drop (length (executed log) - from) es

    below : (d : Decision) (c : Bool) → slice_get (when c then take (d.base_len - length (executed log)) new otherwise new) i ≡ Some x → slice_get new i ≡ Some x
    below d true q = get_take (d.base_len - length (executed log)) new i x q
    below d false q = q

    go : (o : Option Decision) → slice_get (option_map_or (λ d. when nat_lt (length (executed log)) d.base_len then take (d.base_len - length (executed log)) new otherwise new) o new) i ≡ Some x → slice_get new i ≡ Some x
    go None q = q
    go (Some d) q = below d (nat_lt (length (executed log)) d.base_len) q

pub adopts_below : (log : Log) (e from : ℕ) → IsTrue (may_adopt log e from) → (e ≤ known log) × (from ≤ length (executed log))
unfolding may_adopt
adopts_below log e from h =
    let a = and_parts (nat_le e (known log) && nat_le from (length (executed log))) _ h in
    let b = and_parts (nat_le e (known log)) (nat_le from (length (executed log))) a.0 in
    (leb-true e (known log) b.0, leb-true from (length (executed log)) b.1)
