-- Honest sheets have none of the faults.
use Rattle.std.proofs.Common.{◌≡◌, ◌⊎◌, ℕ, ◌≤◌, List, [], ◌∷◌, ◌++◌, map, refl, sym, ap, subst, ◌∙◌, inl, inr}
use Rattle.crsm_spec.specs.Types.{Entry, Line}
use Rattle.crsm_spec.specs.Lists.{Among, IsPrefixOf}
use Rattle.crsm_spec.specs.Log.{executed}
use Rattle.crsm_spec.specs.Replica.{fresh}
use Rattle.crsm_spec.specs.Draft.{Draft, begun, keep}
use Rattle.crsm_spec.specs.Step.{boot_again, founding_boot}
use Rattle.crsm_spec.specs.World.{World, log_at}
use Rattle.crsm_fact_log.specs.Logs.{Logged, same}
use Rattle.crsm_fact_log.proofs.Lists.{all_from, among_either}
use Rattle.crsm_law_epoch.proofs.Words.{among_map, among_unmap}
use Rattle.crsm_law_runs.proofs.DurableLists.{prefix_get}
use Rattle.crsm_law_runs.proofs.Last.{is_before}
use Rattle.crsm_law_runs.proofs.Lists.{executed_logged}
use Rattle.crsm_law_runs.proofs.RunLists.{longest_among, none_longer, shorter_prefix}
use Rattle.crsm_spec_process.specs.Lives.{Life}
use Rattle.crsm_law_cluster.specs.Clusters.{Cluster, Event, log_in}
use Rattle.crsm_law_cluster.specs.ClusterLaws.{IsHistory}
use Rattle.crsm_law_cluster.specs.Histories.{last_cluster}
use Rattle.crsm_law_cluster.specs.HistoryLaws.{HasShortLogs}
use Rattle.crsm_law_cluster.specs.OneList.{one_list}
use Rattle.crsm_law_cluster.specs.Showing.{IsShownBy}
use Rattle.crsm_law_cluster.proofs.Last.{last, shown}
use Rattle.crsm_law_lives.specs.Laws.{IsRightStep, StepsAreRight}
use Rattle.crsm_law_lives.specs.Premises.{Ran}
use Rattle.crsm_law_lives.proofs.Agree.{is_history}
use Rattle.crsm_law_lives.proofs.Laws.{got_among}
use Rattle.crsm_law_sheets.specs.Sheets.{Sheet, list_of, one_list as list_of_all, steps_of}
use Rattle.crsm_law_sheets.specs.Verdicts.{Agree, DropsExecuted, IsStrange}
use Rattle.crsm_law_honest.specs.Honest.{AreWrittenBy, EndComplete}
use Rattle.crsm_law_honest.specs.Laws.{HonestSheetsAgree}
use Rattle.crsm_law_honest.proofs.Steps.{are_kept, last_step, steps_tell}
use Rattle.crsm_law_honest.proofs.Telling.{none_dropped}

-- ---- lists

-- of two lists that begin one list, one begins the other
two_prefixes : {A : Type 0} (xs ys ps qs : List A) → xs ++ ps ≡ ys ++ qs → IsPrefixOf xs ys ⊎ IsPrefixOf ys xs
two_prefixes [] ys ps qs e = inl (ys, refl)
two_prefixes (x ∷ xs) [] ps qs e = inr (x ∷ xs, refl)
two_prefixes (x ∷ xs) (y ∷ ys) ps qs e = go (two_prefixes xs ys ps qs (rest e)) (first e)
  where
    first : x ∷ (xs ++ ps) ≡ y ∷ (ys ++ qs) → x ≡ y
    first q = cc

    rest : x ∷ (xs ++ ps) ≡ y ∷ (ys ++ qs) → xs ++ ps ≡ ys ++ qs
    rest q = cc

    go : IsPrefixOf xs ys ⊎ IsPrefixOf ys xs → x ≡ y → IsPrefixOf (x ∷ xs) (y ∷ ys) ⊎ IsPrefixOf (y ∷ ys) (x ∷ xs)
    go (inl p) head = inl (p.0, ap (λ z. z ∷ (xs ++ p.0)) head ∙ ap (λ l. y ∷ l) p.1)
    go (inr p) head = inr (p.0, ap (λ z. z ∷ (ys ++ p.0)) (sym head) ∙ ap (λ l. x ∷ l) p.1)

either : {A : Type 0} (xs ys zs : List A) → IsPrefixOf xs zs → IsPrefixOf ys zs → IsPrefixOf xs ys ⊎ IsPrefixOf ys xs
either xs ys zs p q = two_prefixes xs ys p.0 q.0 (p.1 ∙ sym q.1)

-- ---- a first boot logs no entry

pub founding_logs : (k n : ℕ) (e : Entry) → Logged (founding_boot k n).replica.log e → ⊥
unfolding founding_boot boot_again keep begun fresh
founding_logs k n e (inl q) = absurd (cc)
founding_logs k n e (inr (inl q)) = absurd (cc)
founding_logs k n e (inr (inr q)) = q

logged_there : (n : ℕ) (c : Cluster) (w : World) → IsShownBy n c w → (k : ℕ) (e : Entry) → Logged (log_at w k) e → Logged (log_in c k) e
logged_there n c w s k e l = elim (s.logs k) [
  | inl q ↦ subst (λ z. Logged z e) (sym q) l
  | inr t ↦ absurd (founding_logs k n e (subst (λ z. Logged z e) t.2 l))
]

module _ (right : StepsAreRight) (n : ℕ) (ls : List Life) (h : List Event) (few : n ≤ 15) (r : Ran n ls h) (short : HasShortLogs (last_cluster n h)) (sheets : List Sheet) (written : AreWrittenBy ls sheets) (complete : EndComplete n h sheets) where
  abbrev whole : List Entry
  whole = one_list n h

  abbrev one : List Entry
  one = list_of_all n sheets

  history : IsHistory n h
  history = is_history n ls h few r short

  step_right : (s : Sheet) → Among sheets s → (x : Draft) → Among (steps_of n s) x → IsRightStep n h s.me x
  step_right s m x a =
      let t = written s m in
      subst (λ k. IsRightStep n h k x) (sym t.2.me) (right n ls h few r short t.0 t.1 x (are_kept n t.0 s t.2 x a))

  -- the list of each sheet begins the history's list
  begins : (s : Sheet) → Among sheets s → IsPrefixOf (list_of n s) whole
  begins s m =
      let t = last_step n s in
      subst (λ log. IsPrefixOf (executed log) whole) (sym t.2) (step_right s m t.0 t.1).executed

  -- and so does the longest
  one_begins : IsPrefixOf one whole
  one_begins = elim (longest_among (map (list_of n) sheets)) [
    | inl e ↦ subst (λ es. IsPrefixOf es whole) (sym e) (whole, refl)
    | inr a ↦ (let t = among_unmap (list_of n) sheets one a in subst (λ es. IsPrefixOf es whole) t.2 (begins t.0 t.1))
  ]

  in_one : (s : Sheet) → Among sheets s → IsPrefixOf (list_of n s) one
  in_one s m =
      shorter_prefix (list_of n s) one (either (list_of n s) one whole (begins s m) one_begins)
      (none_longer (map (list_of n) sheets) (list_of n s) (among_map (list_of n) sheets s m))

  -- ---- strangers

  no_stranger : (p : ℕ) → IsStrange n sheets p → ⊥
  no_stranger p t =
      let e = t.0 in
      let end = (shown n h history).end in
      let w = last n h history in
      let held = w.held p e (prefix_get one whole one_begins p e t.1) in
      let spelt = (is_before n end end whole w w.reached (λ k. same)).spelt in
      let logged = executed_logged n end w.reached spelt.few spelt.messages held.0 held.1 held.2 p e held.3 in
      let at_origin = logged_there n (last_cluster n h) end (shown n h history).last e.stamp.origin e logged in
      let s = t.2 in
      let of_it = t.3 in
      t.4 (complete e.stamp.origin s of_it e (sym of_it.me) (subst (λ k. Logged (log_in (last_cluster n h) k) e) (sym of_it.me) at_origin))

  -- ---- dropped commands

  none_named : (s : Sheet) → Among sheets s → (line : ℕ) → DropsExecuted n sheets s line → ⊥
  none_named s m line d =
      let epoch = d.0 in
      let stamp = d.1 in
      let at = d.2 in
      let named = d.3 in
      let x = at.step in
      let a = got_among (steps_of n s) at.i x at.there in
      let there = prefix_get one whole one_begins named.0 named.1 named.2 in
      let tells = steps_tell n s x a in
      let good = step_right s m x a in
      let says : Line = Line.ReplyDropped at.replica at.client at.number epoch stamp in
      elim (among_either (x.lines ++ x.excess) (map (λ y. y.line) x.replies) says at.told) [
        | inl own ↦ elim (among_either x.lines x.excess says own) [
          | inl l ↦ (let f = tells.right (shown n h history).end whole good.executed says l in f.7 named.0 named.1 there named.3 named.4)
          | inr l ↦ none_dropped x.excess tells.plain at.replica at.client at.number epoch stamp l
        ]
        | inr l ↦ (let b = among_unmap (λ y. y.line) x.replies says l in
            (good.drops at.replica at.client at.number epoch stamp b.0 b.1 b.2).none named.0 named.1 there named.3 named.4)
      ]

  pub agree : Agree n sheets
  agree = record {
    lists = all_from (λ s. IsPrefixOf (list_of n s) one) sheets in_one;
    stranger = no_stranger;
    dropped = all_from (λ s. (line : ℕ) → DropsExecuted n sheets s line → ⊥) sheets none_named;
  }

pub honest_sheets_agree : StepsAreRight → HonestSheetsAgree
honest_sheets_agree right n ls h few r short sheets written complete = agree right n ls h few r short sheets written complete
