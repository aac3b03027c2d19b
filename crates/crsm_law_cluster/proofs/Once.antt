-- No entry is replied to twice.
use Rattle.std.proofs.Common.{◌≡◌, ℕ, suc, ◌+◌, ◌<◌, ◌≤◌, List, [], ◌∷◌, refl, sym, ◌∙◌, ap, subst, inl, inr, arith}
use Rattle.std.specs.Prelude.{slice_get, drop}
use Rattle.std.proofs.lemmas.Bool.{cases_lt}
use Rattle.std.proofs.lemmas.Option.{same_Some}
use Rattle.crsm_spec.specs.Types.{Stamp, Command, Entry, Line}
use Rattle.crsm_spec.specs.Lists.{Among}
use Rattle.crsm_spec.specs.Log.{Log}
use Rattle.crsm_spec.specs.Replica.{Waiting}
use Rattle.crsm_spec.specs.Draft.{Reply}
use Rattle.crsm_spec.specs.Safe.{AreOnOneEntry}
use Rattle.crsm_fact_log.specs.Logs.{same, Logged}
use Rattle.crsm_law_runs.proofs.LineKinds.{one_other_way}
use Rattle.crsm_law_cluster.specs.Clusters.{Event, Cluster, host_at, log_in, posted, after}
use Rattle.crsm_law_cluster.specs.Going.{IsReplied}
use Rattle.crsm_law_cluster.specs.ClusterLaws.{IsHistory}
use Rattle.crsm_law_cluster.specs.Requests.{WasTaken}
use Rattle.crsm_law_cluster.specs.RequestLaws.{RepliesGoOutOnce}
use Rattle.crsm_law_cluster.proofs.Logging.{HasKey, key_later}
use Rattle.crsm_law_cluster.proofs.Replying.{IsOn, IsLineOn, IsRefusal, Told, told_by, count, count_one, count_same}
use Rattle.crsm_law_cluster.proofs.Replying.IsLineOn.{Answers, Drops}
use Rattle.crsm_law_cluster.proofs.Replying.Told.{refuses, answers}
use Rattle.crsm_law_cluster.proofs.Along.{IsThere, next_there, sends_there}
use Rattle.crsm_law_cluster.proofs.Hosts.{replies_in, replies_told, Busy, Good, taken_later, filed_later, client_later, good_then}
use Rattle.crsm_law_cluster.proofs.Hosts.Good.{busy}
use Rattle.crsm_law_cluster.proofs.RequestLaws.{Goes, Hands, hands, goes, good, in_list}
use Rattle.crsm_law_cluster.proofs.RequestLaws.Goes.{Refusal, OnEntry}

-- a refusal is on no entry
not_first : (R : ℕ → Command → Type 0) (a b : Reply) → IsRefusal R a → AreOnOneEntry a.line b.line → ⊥
not_first R a b r h = subst (λ z. AreOnOneEntry z b.line) r.line h

not_second : (R : ℕ → Command → Type 0) (a b : Reply) → IsRefusal R b → AreOnOneEntry a.line b.line → ⊥
not_second R a b r h = not_first R b a r (one_other_way a.line b.line h)

log_of_hands : (n : ℕ) (h : List Event) (epoch : ℕ) (stamp : Stamp) (most i k : ℕ) (c : Cluster) (a : Reply) → (t : Hands n h epoch stamp most i k c a) → log_in c k ≡ t.log
unfolding log_in
log_of_hands n h epoch stamp most i k c a t = ap (λ p. p.log) t.host

module _ (n : ℕ) (h : List Event) (q : IsHistory n h) where
  -- replies on one entry are on entries of one epoch and stamp
  same_key : (i j k l : ℕ) (c d : Cluster) (f g : Waiting) (a b : Reply) → IsThere n h i c → IsThere n h j d → IsOn (log_in c k) f a → IsOn (log_in d l) g b → AreOnOneEntry a.line b.line →
      (f.entry.epoch ≡ g.entry.epoch) × (f.entry.stamp ≡ g.entry.stamp)
  same_key i j k l c d f g a b at there o p one = go a.line b.line o.line p.line one
    where
      go : (x y : Line) → IsLineOn (log_in c k) f x → IsLineOn (log_in d l) g y → AreOnOneEntry x y → (f.entry.epoch ≡ g.entry.epoch) × (f.entry.stamp ≡ g.entry.stamp)
      go _ _ (Answers k1 c1 m1 place v1 e1 at1 ep1 st1) (Answers k2 c2 m2 other v2 e2 at2 ep2 st2) is =
          let first = in_list n h q i c at k place e1 at1.0 in
          let second = in_list n h q j d there l other e2 at2.0 in
          let e : e1 ≡ e2 = same_Some e1 e2 (sym first ∙ ap (slice_get _) is ∙ second) in
          (sym ep1 ∙ ap (λ (z : Entry). z.epoch) e ∙ ep2, sym st1 ∙ ap (λ (z : Entry). z.stamp) e ∙ st2)
      go _ _ (Answers k1 c1 m1 place v1 e1 at1 ep1 st1) (Drops k2 c2 m2 old2 x2 d2) is = absurd is
      go _ _ (Drops k1 c1 m1 old1 x1 d1) (Answers k2 c2 m2 other v2 e2 at2 ep2 st2) is = absurd is
      go _ _ (Drops k1 c1 m1 old1 x1 d1) (Drops k2 c2 m2 old2 x2 d2) is = is

  -- a reply on an entry is one on its own
  with_itself : (log : Log) (f : Waiting) (a : Reply) → IsOn log f a → AreOnOneEntry a.line a.line
  with_itself log f a o = go a.line o.line
    where
      go : (x : Line) → IsLineOn log f x → AreOnOneEntry x x
      go _ (Answers k1 c1 m1 place v1 e1 at1 ep1 st1) = refl
      go _ (Drops k1 c1 m1 old1 x1 d1) = (refl, refl)

  -- ---- behind a reply nobody waits for its entry, and no reply on it is left

  module _ (i k : ℕ) (a : Reply) (s : IsReplied n h i k a) (f : Waiting) (o : IsOn (log_in s.0 k) f a) (logged : Logged (log_in s.0 k) f.entry) where
    abbrev epoch : ℕ
    epoch = f.entry.epoch

    abbrev stamp : Stamp
    stamp = f.entry.stamp

    abbrev IsLeft : ℕ → ℕ → ℕ → Cluster → Type 0
    IsLeft most j l d = Good n h epoch stamp most j l (host_at d l)

    t : Hands n h epoch stamp 1 i k s.0 a
    t = hands n h epoch stamp 1 i k s.0 a s.2 (good n h q epoch stamp i k s.0 s.1.cluster)

    log_is : log_in s.0 k ≡ t.log
    log_is = log_of_hands n h epoch stamp 1 i k s.0 a t

    key : HasKey t.log epoch stamp
    key = record { entry = f.entry; logged = subst (λ z. Logged z f.entry) log_is logged; epoch_is = refl; stamp_is = refl }

    -- a reply on the entry, in any process, is counted
    counted : (j l : ℕ) (d : Cluster) (b : Reply) → IsThere n h j d → AreOnOneEntry a.line b.line → (g : Waiting) → IsOn (log_in d l) g b → count epoch stamp (g ∷ []) ≡ 1
    counted j l d b there one g p = let e = same_key i j k l s.0 d f g a b s.1.cluster there o p one in count_same epoch stamp g (sym e.0) (sym e.1)

    spent : IsLeft 0 (suc i) k (after s.0 (Event.Sends k))
    unfolding posted
    spent = subst (Good n h epoch stamp 0 (suc i) k) (sym (sends_there s.0 k t.log t.process t.host)) (busy t.log (posted t.process) (go t.state.out refl told))
      where
        b : Busy n h epoch stamp 1 i k t.log t.process
        b = t.state

        told : Told (WasTaken n h i k) t.log (a ∷ replies_in t.rest) t.state.out
        told = subst (λ us. Told (WasTaken n h i k) t.log us t.state.out) (ap replies_in t.outbox ∙ replies_told a t.rest) t.state.out_told

        less : (g : Waiting) (gs : List Waiting) → t.state.out ≡ g ∷ gs → count epoch stamp (g ∷ []) ≡ 1 → count epoch stamp gs + (count epoch stamp b.made + count epoch stamp t.process.replica.waiting) ≤ 0
        less g gs is one =
            let few = b.few in let all = ap (count epoch stamp) is in let parts = count_one epoch stamp g gs in omega (arith, few, all, parts, one)

        left : (g : Waiting) (gs : List Waiting) → t.state.out ≡ g ∷ gs → IsOn t.log g a → Told (WasTaken n h i k) t.log (replies_in t.rest) gs → Busy n h epoch stamp 0 (suc i) k t.log (posted t.process)
        left g gs is p rest = record {
          me = b.me;
          grows = b.grows;
          filed = filed_later n h epoch stamp 1 i k t.process.replica.log b.filed;
          spent = λ le. key;
          out = gs;
          out_told = subst (λ os. Told (WasTaken n h (suc i) k) t.log (replies_in (drop 1 os)) gs) (sym t.outbox) (told_by (taken_later n h epoch stamp 1 i k) rest);
          out_from = λ f m. client_later n h epoch stamp 1 i k t.log t.log same f (b.out_from f (subst (λ fs. Among fs f) (sym is) (inr m)));
          made = b.made;
          made_told = told_by (taken_later n h epoch stamp 1 i k) b.made_told;
          made_from = λ f m. client_later n h epoch stamp 1 i k t.process.replica.log t.process.replica.log same f (b.made_from f m);
          waits = λ f m. client_later n h epoch stamp 1 i k t.process.replica.log t.process.replica.log same f (b.waits f m);
          few = less g gs is (counted i k s.0 a s.1.cluster (with_itself (log_in s.0 k) f a o) g (subst (λ z. IsOn z g a) (sym log_is) p));
          full = λ le. key_later b.grows epoch stamp key;
        }

        go : (fs : List Waiting) → t.state.out ≡ fs → Told (WasTaken n h i k) t.log (a ∷ replies_in t.rest) fs → Busy n h epoch stamp 0 (suc i) k t.log (posted t.process)
        go fs is (refuses _ r p) = absurd (not_first (WasTaken n h i k) a a r (with_itself (log_in s.0 k) f a o))
        go (g ∷ gs) is (answers _ _ p rest) = left g gs is p rest

    -- so no later one goes out
    none_later : (j : ℕ) (b : Reply) → i < j → IsReplied n h j k b → AreOnOneEntry a.line b.line → ⊥
    none_later j b lt said one =
        let g = good_then n h epoch stamp 0 k (suc i) (after s.0 (Event.Sends k)) (next_there n h i s.0 (Event.Sends k) s.1) spent j said.0 (omega (arith, lt)) said.1.cluster in
        let u = hands n h epoch stamp 0 j k said.0 b said.2 g in
        go u u.state.out refl (subst (λ us. Told (WasTaken n h j k) u.log us u.state.out) (ap replies_in u.outbox ∙ replies_told b u.rest) u.state.out_told)
      where
        go : (u : Hands n h epoch stamp 0 j k said.0 b) (fs : List Waiting) → u.state.out ≡ fs → Told (WasTaken n h j k) u.log (b ∷ replies_in u.rest) fs → ⊥
        go u fs is (refuses _ r p) = not_second (WasTaken n h j k) a b r one
        go u (g ∷ gs) is (answers _ _ p rest) =
            let c = counted j k said.0 b said.1.cluster one g (subst (λ z. IsOn z g b) (sym (log_of_hands n h epoch stamp 0 j k said.0 b u)) p) in
            let few = u.state.few in let all = ap (count epoch stamp) is in let parts = count_one epoch stamp g gs in absurd (omega (arith, few, all, parts, c))

  -- ---- both are from one replica

  earlier : (i j k l : ℕ) (a b : Reply) → i < j → IsReplied n h i k a → IsReplied n h j l b → AreOnOneEntry a.line b.line → ⊥
  earlier i j k l a b lt s said one = go (goes n h q i k a s) (goes n h q j l b said)
    where
      go : Goes n h i k (log_in s.0 k) a → Goes n h j l (log_in said.0 l) b → ⊥
      go (Refusal r) g = not_first (WasTaken n h i k) a b r one
      go (OnEntry f o c logged) (Refusal r) = not_second (WasTaken n h j l) a b r one
      go (OnEntry f o c logged) (OnEntry g p d there) =
          let e = same_key i j k l s.0 said.0 f g a b s.1.cluster said.1.cluster o p one in
          let is : l ≡ k = sym d.0 ∙ ap (λ (z : Stamp). z.origin) (sym e.1) ∙ c.0 in
          none_later i k a s f o logged j b lt (subst (λ z. IsReplied n h j z b) is said) one

pub replies_go_out_once : RepliesGoOutOnce
replies_go_out_once n h q i j k l a b s said one = elim (cases_lt i j) [
  | inl lt ↦ absurd (earlier n h q i j k l a b lt s said one)
  | inr ge ↦ elim (cases_lt j i) [
    | inl lt ↦ absurd (earlier n h q j i l k b a lt said s (one_other_way a.line b.line one))
    | inr le ↦ omega (arith, ge, le)
  ]
]
