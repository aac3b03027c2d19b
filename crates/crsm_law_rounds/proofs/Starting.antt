-- A world in which all members of an epoch are up: who they are, and what was submitted.
use Rattle.std.proofs.Common.{◌≡◌, ℕ, ◌≤◌, List, [], ◌∷◌, refl, sym, ◌∙◌, ap, subst, inl, inr, arith}
use Rattle.std.specs.Prelude.{IsTrue}
use Rattle.std.specs.Option.{option_map_or}
use Rattle.std.proofs.lemmas.Bool.{and_parts}
use Rattle.crsm_spec.specs.Types.{Entry, Rec, Decision}
use Rattle.crsm_spec.specs.Lists.{Among, has, numbers_below}
use Rattle.crsm_spec.specs.Log.{Log, known, decision, members, active, live}
use Rattle.crsm_spec.specs.Replica.{Replica, members_of}
use Rattle.crsm_spec.specs.World.{Site, World, log_at}
use Rattle.crsm_fact_log.specs.Logs.{Extends, same, more, Logged}
use Rattle.crsm_fact_log.proofs.Logged.{extends_trans, end_fits, prepare_known}
use Rattle.crsm_fact_log.proofs.Lists.{has_from}
use Rattle.crsm_law_epoch.specs.Numbers.{Distinct}
use Rattle.crsm_law_epoch.proofs.Kept.{live_entered}
use Rattle.crsm_law_epoch.proofs.LogWorlds.{is_well, logs_fit}
use Rattle.crsm_law_epoch.proofs.Worlds.{log_there}
use Rattle.crsm_law_agreement.proofs.BallotsAgree.{known_are_one}
use Rattle.crsm_law_bounds.specs.Bounds.{IsSpelt}
use Rattle.crsm_law_rounds.specs.Members.{IsMemberUp, AllUp}
use Rattle.crsm_law_rounds.proofs.Links.{fits_member, numbers, fit}
use Rattle.crsm_law_rounds.proofs.Spreading.{IsSubmitted}

-- who runs in the epoch is a member of it
pub runs_member : (n e : ℕ) (ms : List ℕ) (w : World) (h : AllUp n e ms w) (k : ℕ) (r : Replica) → IsMemberUp e ms w k r → Among ms k
unfolding members_of active
runs_member n e ms w h k r m =
    let nums = numbers n e ms w h k r m in
    let has_me = (live_entered k n r.log (fit n e ms w h k r m) (is_live r.log m.runs)).1 in
    has_from ms k (subst (λ l. IsTrue (has l k)) (ap (λ i. members i r.log) (sym nums.1) ∙ m.counts) has_me)
  where
    is_live : (log : Log) → IsTrue (active log) → IsTrue (live log)
    is_live log a = (and_parts (live log) _ a).0

logged_before : (log : Log) (f : Entry) → Logged log f → (old : Log) × Extends (Rec.Prepare f ∷ old) log
logged_before [] f m = absurd m
logged_before (rec ∷ log) f (inl e) = (log, subst (λ z. Extends (Rec.Prepare f ∷ log) (z ∷ log)) (sym e) same)
logged_before (rec ∷ log) f (inr m) = let t = logged_before log f m in (t.0, more rec t.1)

module _ (n e : ℕ) (ms : List ℕ) (v : World) (h : AllUp n e ms v) (spelt : IsSpelt n v) where
  pub distinct_members : Distinct ms
  unfolding members_of
  distinct_members = go ms refl
    where
      go : (ks : List ℕ) → ms ≡ ks → Distinct ms
      go [] is = subst Distinct (sym is) tt
      go (k ∷ ks) is =
          let m = h.member k (subst (λ l. Among l k) (sym is) (inl refl)) in
          let nums = numbers n e ms v h k m.0 m.1 in
          let d = (is_well n v h.reached spelt.few).distinct k m.0.log (subst (λ l. Extends m.0.log l) (sym (log_there v k m.0 m.1.up)) same) in
          subst Distinct (ap (λ i. members i m.0.log) (sym nums.1) ∙ m.1.counts) d

  pub small_members : (k : ℕ) → Among ms k → k ≤ 14
  small_members k m = (let o = h.member k m in let lt = spelt.numbers k (Site.Up o.0) o.1.up in omega (arith, lt))

  -- an entry of the epoch that its origin has logged is that of a member
  pub were_submitted : (f : Entry) → f.epoch ≡ e → Logged (log_at v f.stamp.origin) f → (k : ℕ) → Among ms k → IsSubmitted e ms v f
  unfolding members_of members
  were_submitted f ep l k in_k =
      let o = f.stamp.origin in
      let m = h.member k in_k in
      let nums = numbers n e ms v h k m.0 m.1 in
      let b = logged_before (log_at v o) f l in
      let fit_o = logs_fit n v h.reached spelt.few o in
      let fit_f = end_fits o n b.1 fit_o in
      let before = prepare_known o n b.0 f fit_f.0 in
      let same_known : known b.0 ≡ known m.0.log = sym before.0 ∙ ep ∙ sym m.1.knows in
      let one_decision = known_are_one n v h.reached spelt.few spelt.messages o k b.0 m.0.log (extends_trans (more (Rec.Prepare f) same) b.1) (subst (Extends m.0.log) (sym (log_there v k m.0 m.1.up)) same) same_known in
      let ms_then : members n b.0 ≡ ms = same_members b.0 m.0.log one_decision ∙ ap (λ i. members i m.0.log) (sym nums.1) ∙ m.1.counts in
      let in_o = has_from ms o (subst (λ z. IsTrue (has z o)) ms_then (fits_member o n b.0 f fit_f.0)) in
      let origin = h.member o in_o in
      record { epoch = ep; member = in_o; replica = origin.0; up = origin.1; logged = subst (λ z. Logged z f) (log_there v o origin.0 origin.1.up) l }
    where
      same_members : (a b : Log) → decision a ≡ decision b → members n a ≡ members n b
      same_members a b q = ap (λ o. option_map_or (λ (d : Decision). d.members) o (numbers_below n)) q
