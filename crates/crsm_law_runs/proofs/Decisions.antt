-- Recorded decisions, and the beginnings of their epochs.
use Rattle.std.proofs.Common.{◌≡◌, ℕ, suc, ◌+◌, ◌≤◌, List, [], ◌∷◌, ◌++◌, length, take, refl, sym, ◌∙◌, ap, subst, inl, inr, arith}
use Rattle.std.specs.Prelude.{Some, slice_get}
use Rattle.std.specs.Option.{option_map_or}
use Rattle.std.proofs.lemmas.Option.{none-some, same_Some}
use Rattle.crsm_spec.specs.Types.{Entry, Decision, Rec}
use Rattle.crsm_spec.specs.Lists.{Among}
use Rattle.crsm_spec.specs.Log.{Log, known, executed}
use Rattle.crsm_spec.specs.World.{Site, World, begin, log_of, log_at}
use Rattle.crsm_spec.specs.Acts.{Act}
use Rattle.crsm_spec.specs.Run.{ArePossible, last_world, the_list}
use Rattle.crsm_spec.specs.Decided.{decisions, decisions_in, all_decisions, start_of, ArePrefixes, DecisionsAgree}
use Rattle.crsm_fact_log.specs.Logs.{Extends}
use Rattle.crsm_fact_log.proofs.Lists.{flat_from}
use Rattle.crsm_law_agreement.proofs.BallotsAgree.{decisions_are_one}
use Rattle.crsm_law_agreement.proofs.DecidedWorlds.{ballots_hold}
use Rattle.crsm_law_agreement.specs.Openings.{IsEpochOf}
use Rattle.crsm_law_agreement.proofs.Agree.{holder, epoch_holds, opening_same}
use Rattle.crsm_law_agreement.proofs.Lists.{prefixes, get_append, get_take, taken_length}
use Rattle.crsm_law_runs.proofs.RunLists.{of_each, each_of}
use Rattle.crsm_law_runs.proofs.Runs.{last_on, is_the_list}
use Rattle.crsm_law_runs.specs.Last.{IsLast, IsBefore, start_in, GoesOnWith, IsDurableIn, DecisionsAgreeIn}
use Rattle.crsm_law_runs.proofs.Last.{end_before, last_of_run}
use Rattle.crsm_law_runs.specs.DurableLaws.{DecisionsAlwaysAgree}
use Rattle.crsm_law_runs.proofs.DurableLists.{among_contains, among_place, prefix_length}

-- ---- decisions of a world

decided : (log : Log) (d : Decision) → Among (decisions log) d → Among log (Rec.Decide d)
unfolding decisions
decided [] d a = absurd a
decided (Rec.Decide c ∷ log) d (inl e) = inl (ap (λ z. Rec.Decide z) e)
decided (Rec.Decide c ∷ log) d (inr a) = inr (decided log d a)
decided (Rec.Boot me n ∷ log) d a = inr (decided log d a)
decided (Rec.Prepare f ∷ log) d a = inr (decided log d a)
decided (Rec.Commit s ∷ log) d a = inr (decided log d a)
decided (Rec.Adopt place es ∷ log) d a = inr (decided log d a)
decided (Rec.Suspend x ∷ log) d a = inr (decided log d a)
decided (Rec.Promise i b ∷ log) d a = inr (decided log d a)
decided (Rec.Accept i b c ∷ log) d a = inr (decided log d a)
decided (Rec.Enter x ∷ log) d a = inr (decided log d a)

log_there : (w : World) (i : ℕ) (s : Site) → slice_get w.sites i ≡ Some s → log_at w i ≡ log_of s
unfolding log_at
log_there w i s e = ap (λ o. option_map_or log_of o []) e

-- a decision of the world is on record somewhere
pub decided_in : (w : World) (d : Decision) → Among (decisions_in w) d → (k : ℕ) × Among (log_at w k) (Rec.Decide d)
unfolding decisions_in
decided_in w d a =
    let t = flat_from (λ s. decisions (log_of s)) w.sites d a in
    let i = among_place w.sites t.0 t.1 in
    (i.0, subst (λ l. Among l (Rec.Decide d)) (sym (log_there w i.0 t.0 i.1)) (decided (log_of t.0) d t.2))

module _ (n : ℕ) (end : World) (list : List Entry) (last : IsLast n end list) where
  base_of : (k : ℕ) (d : Decision) → Among (log_at end k) (Rec.Decide d) → (h : ℕ) × (log : Log) × Extends log (log_at end h) × (d.base_len ≤ length (executed log))
  base_of k d a =
      let w = end_before n end list last in
      let c = (ballots_hold n end w.reached w.spelt.few w.spelt.messages).decided k d a in
      let t = holder n end w.reached w.spelt.few w.spelt.messages (known c.log) k d a (next_is (known c.log) c.next) in
      (t.0, t.1.old, t.1.earlier, t.1.long)
    where
      next_is : (e : ℕ) → d.epoch ≡ e + 1 → d.epoch ≡ suc e
      next_is e h = omega (arith, h)

  pub base_within : (d : Decision) → Among (decisions_in end) d → d.base_len ≤ length list
  base_within d a =
      let k = decided_in end d a in
      let t = base_of k.0 d k.1 in
      let f = prefix_length (executed t.1) list (last.prefix t.0 t.1 t.2) in
      let l = t.3 in omega (arith, f, l)

  starts_so : (d : Decision) → Among (decisions_in end) d → ArePrefixes (start_in list d) list
  unfolding start_in
  starts_so d a = prefixes (take d.base_len list ++ d.tail) list agrees
    where
      k : (k : ℕ) × Among (log_at end k) (Rec.Decide d)
      k = decided_in end d a

      is_epoch : IsEpochOf d.epoch (log_at end)
      is_epoch = inr (k.0, d, k.1, refl)

      in_tail : (i : ℕ) (x y : Entry) → slice_get d.tail i ≡ Some x → slice_get list (d.base_len + i) ≡ Some y → x ≡ y
      in_tail i x y q r =
          let w = end_before n end list last in
          let h = epoch_holds n end w.reached w.spelt.few w.spelt.messages d.epoch is_epoch in
          let at = h.opens.tail k.0 d k.1 refl i x q in
          let t = last.held (d.base_len + i) y r in
          opening_same n end w.reached w.spelt.few w.spelt.messages d.epoch is_epoch h t.0 t.1 t.2 (d.base_len + i) x y at t.3

      agrees : (i : ℕ) (x y : Entry) → slice_get (take d.base_len list ++ d.tail) i ≡ Some x → slice_get list i ≡ Some y → x ≡ y
      agrees i x y q r = elim (get_append (take d.base_len list) d.tail i x q) [
        | inl f ↦ same_Some x y (sym (get_take d.base_len list i x f) ∙ r)
        | inr f ↦ in_tail f.0 x y f.2 (subst (λ z. slice_get list z ≡ Some y) (f.1 ∙ ap (λ z. z + f.0) (taken_length d.base_len list (base_within d a))) r)
      ]

  pub decisions_agree : DecisionsAgreeIn end list
  decisions_agree = record {
    one = λ d e hd he same_epoch.
        let w = end_before n end list last in
        let j = decided_in end d (among_contains (decisions_in end) d hd) in
        let k = decided_in end e (among_contains (decisions_in end) e he) in
        decisions_are_one n end w.reached w.spelt.few w.spelt.messages j.0 k.0 d e j.1 k.1 same_epoch;
    base = of_each (λ d. d.base_len ≤ length list) (decisions_in end) base_within;
    start = of_each (λ d. ArePrefixes (start_in list d) list) (decisions_in end) starts_so;
  }

pub decisions_always_agree : DecisionsAlwaysAgree
unfolding all_decisions start_of start_in
decisions_always_agree n acts most p = let a = decisions_agree n (last_world n acts) (the_list n acts) (last_of_run n acts most p) in record { one = a.one; base = a.base; start = a.start }
