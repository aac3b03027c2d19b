-- The runs of one node, one after another: the processes that they were lead to each file that is left.
use Rattle.std.proofs.Common.{◌≡◌, ℕ, ◌<◌, ◌≤◌, List, [], ◌∷◌, ◌++◌, true, refl, sym, ◌∙◌, ap, subst, inl, inr, arith, append_assoc}
use Rattle.std.specs.Prelude.{◌⊎◌, ◌^◌, IsTrue}
use Rattle.std.specs.List.{AllByRecursion}
use Rattle.std.proofs.lemmas.Bool.{cases_eq}
use Rattle.std.proofs.lemmas.List.{append-nil}
use Rattle.crsm_spec.specs.Log.{Log}
use Rattle.crsm_spec.specs.Step.{boot}
use Rattle.crsm_spec_process.specs.Lives.{HaveFates, Life, before_last, kept_turns}
use Rattle.crsm_spec_process.specs.Turns.{replica_after}
use Rattle.crsm_disk.specs.Meaning.{LeavesOnly}
use Rattle.crsm_ledger.specs.Recovered.{AreKept}
use Rattle.crsm_log.specs.Format.{bodies_in, bodies_of, found, reading}
use Rattle.crsm_shell.specs.Booting.{boot_body}
use Rattle.crsm_shell.specs.Flushing.{IsFull}
use Rattle.crsm_shell.specs.Shell.{HasLog}
use Rattle.crsm_law_lives.specs.Events.{left_by}
use Rattle.crsm_law_lives.specs.Premises.{IsProcess}
use Rattle.crsm_law_lives.specs.Sending.{HasFates}
use Rattle.crsm_law_processes.specs.Files.{FindBodies, LeavesBodies, size_of}
use Rattle.crsm_law_processes.proofs.Bodies.{kept_size}
use Rattle.crsm_node.specs.Running.{Devices, IsLeftAtStart, NotBooted, RunsLife, over_cluster}
use Rattle.crsm_node.specs.declared.errors.NodeEnd.{NodeEnd}
use Rattle.crsm_node.specs.declared.order.NodeOrder.{NodeOrder}
use Rattle.crsm_law_restarts.specs.Runs.{AreRunsOf, FollowEachOther, HasNoBody, IsRunOf, Run}
use Rattle.crsm_law_restarts.specs.Processes.{Was, WasLife, WasNone, WasProcess, Were, boot_alone}
use Rattle.crsm_law_restarts.proofs.Lives.{LeadsTo, leads}
use Rattle.crsm_law_restarts.proofs.Logs.{boot_kept}
use Rattle.crsm_law_restarts.proofs.Sizes.{fits_in, size_none, size_push}

-- ---- processes one behind another

-- they have ended, and lead from the first bodies to the last
abbrev Lead : ℕ → List (List ℕ) → List Life → List (List ℕ) → Type 0
Lead n bodies [] end = end ≡ bodies
Lead n bodies (l ∷ ls) end = (left : List (List ℕ)) × LeavesBodies n l bodies left × (l.ended ≡ true) × Lead n left ls end

lead_on : (n : ℕ) (a b c : List (List ℕ)) (ls ms : List Life) → Lead n a ls b → Lead n b ms c → Lead n a (ls ++ ms) c
lead_on n a b c [] ms p q = subst (λ (x : List (List ℕ)). Lead n x ms c) p q
lead_on n a b c (l ∷ ls) ms p q = (p.0, p.1, p.2, lead_on n p.0 b c ls ms p.3 q)

find_bodies : (n : ℕ) (a b : List (List ℕ)) (ls : List Life) → Lead n a ls b → FindBodies n a ls
find_bodies n a b [] p = tt
find_bodies n a b (l ∷ ls) p = (p.0, p.1, inr p.2, find_bodies n p.0 b ls p.3)

all_both : {A : Type 0} (P : A → Type 0) (xs ys : List A) → AllByRecursion P xs → AllByRecursion P ys → AllByRecursion P (xs ++ ys)
all_both P [] ys p q = q
all_both P (x ∷ xs) ys p q = (p.0, all_both P xs ys p.1 q)

either_honest : (order : NodeOrder) (old new : Devices) (end : NodeEnd) → IsTrue old.disk.honest → (NotBooted order old new end ⊎ RunsLife order old new end) → IsTrue new.disk.honest
either_honest order old new end honest (inl b) = b.goes.honest ∙ honest
either_honest order old new end honest (inr run) = run.goes.honest ∙ honest

-- ---- runs so far

module _ {S : Type 0} (at : S → Devices) (n k : ℕ) where
  were_more : (xs : List (Run S)) (x : Run S) (ls ms : List Life) → Were at xs ls → Was at x ms → Were at (xs ++ x ∷ []) (ls ++ ms)
  were_more [] x ls ms w was = (ms, [], ap (λ (z : List Life). z ++ ms) w ∙ sym (append-nil ms), was, refl)
  were_more (y ∷ xs) x ls ms w was = (w.0, w.1 ++ ms, ap (λ (z : List Life). z ++ ms) w.2 ∙ append_assoc w.0 w.1 ms, w.3, were_more xs x w.1 ms w.4 was)

  -- The processes that these runs were lead to the bodies of the file.
  record IsLedTo (xs : List (Run S)) (file : List ℕ) : Type 0 where
    ls : List Life
    were : Were at xs ls
    bodies : List (List ℕ)
    reads : reading file ≡ found bodies
    lead : Lead n [] ls bodies
    mine : AllByRecursion (λ (l : Life). l.me ≡ k) ls
    processes : AllByRecursion IsProcess ls
    fates : AllByRecursion (HasFates n) ls
    small : size_of bodies ≤ 2 ^ 32

  module _ (xs : List (Run S)) (x : Run S) where
    -- one more run, which was no process
    none_more : (before file : List ℕ) → IsLedTo xs before → reading file ≡ reading before → Was at x [] → IsLedTo (xs ++ x ∷ []) file
    none_more before file e same was = record {
      ls = e.ls;
      were = subst (Were at (xs ++ x ∷ [])) (append-nil e.ls) (were_more xs x e.ls [] e.were was);
      bodies = e.bodies;
      reads = same ∙ e.reads;
      lead = e.lead;
      mine = e.mine;
      processes = e.processes;
      fates = e.fates;
      small = e.small;
    }

    -- the same of a file that reads so
    reads_too : (before file : List ℕ) → IsLedTo xs before → reading file ≡ reading before → IsLedTo xs file
    reads_too before file e same = record { ls = e.ls; were = e.were; bodies = e.bodies; reads = same ∙ e.reads; lead = e.lead; mine = e.mine; processes = e.processes; fates = e.fates; small = e.small }

    -- one more, which was this one
    life_more : (before file : List ℕ) (e : IsLedTo xs before) (l : Life) → LeadsTo n k e.bodies l file → Was at x (l ∷ []) → IsLedTo (xs ++ x ∷ []) file
    life_more before file e l to was = record {
      ls = e.ls ++ l ∷ [];
      were = were_more xs x e.ls (l ∷ []) e.were was;
      bodies = to.left;
      reads = to.reads;
      lead = lead_on n [] e.bodies to.left e.ls (l ∷ []) e.lead (to.left, to.leaves, to.ended, refl);
      mine = all_both (λ (m : Life). m.me ≡ k) e.ls (l ∷ []) e.mine (to.mine, tt);
      processes = all_both IsProcess e.ls (l ∷ []) e.processes (to.process, tt);
      fates = all_both (HasFates n) e.ls (l ∷ []) e.fates (to.fates, tt);
      small = to.small;
    }

    module _ (small : k < 15) (most : n ≤ 15) (me : x.order.me ≡ k) (count : x.order.n ≡ n) where
      -- a run that was not booted, whose boot is there
      alone : (before file : List ℕ) (e : IsLedTo xs before) (log : Log) → HasLog x.order.me x.order.n before log → (IsFull before (boot_body x.order.me x.order.n log) → ⊥) →
          reading file ≡ found (bodies_of before ++ boot_body x.order.me x.order.n log ∷ []) → LeadsTo n k e.bodies (boot_alone x.order.me log) file
      unfolding HasLog boot_alone left_by kept_turns replica_after HaveFates before_last
      alone before file e log has room is =
          let same : bodies_of before ≡ e.bodies = ap bodies_in e.reads in
          let body = boot_body x.order.me x.order.n log in
          let kept = subst (λ (bs : List (List ℕ)). AreKept x.order.me x.order.n [] bs log) same has.kept in
          let size = kept_size x.order.me x.order.n [] e.bodies log kept in
          let was = e.small in
          let bytes = ap size_of same in
          let fit_in = fits_in before body room (omega (arith, was, bytes)) in
          let push = size_push e.bodies body in
          let fits = boot_kept x.order.me x.order.n e.bodies log (subst (λ (i : ℕ). i < 15) (sym me) small) (subst (λ (i : ℕ). i ≤ 15) (sym count) most) (omega (arith, size, was)) kept in
          record {
            left = e.bodies ++ body ∷ [];
            reads = is ∙ ap (λ (bs : List (List ℕ)). found (bs ++ body ∷ [])) same;
            leaves = record {
              found_log = subst (λ (i : ℕ). AreKept x.order.me i [] e.bodies log) count kept;
              left_log = subst (λ (i : ℕ). AreKept x.order.me i [] (e.bodies ++ body ∷ []) (boot x.order.me i log).replica.log) count fits;
              small = omega (arith, push, fit_in, bytes);
            };
            ended = refl;
            mine = me;
            process = record { number = subst (λ (i : ℕ). i < 15) (sym me) small; turns = tt };
            fates = tt;
            small = omega (arith, push, fit_in, bytes);
          }

      -- these devices, which the run saw
      module _ (old new : Devices) (honest : IsTrue old.disk.honest) (led : (file : List ℕ) → old.disk.may_leave file → IsLedTo xs file) where
        before : IsLedTo xs old.disk.seen
        before = led old.disk.seen (old.disk.as_read honest)

        abbrev Goes : (List Life → Type 0) → List ℕ → Type 0
        Goes P file = ((ls : List Life) → P ls → Was at x ls) → IsLedTo (xs ++ x ∷ []) file

        not_booted : (b : NotBooted x.order old new x.end) (file : List ℕ) → new.disk.may_leave file → Goes (WasNone x.order.me) file
        not_booted b file is to = go (moments.each file (new.disk.counts_now old.disk.moment file moments.later is))
          where
            moments : LeavesOnly old.disk new.disk (IsLeftAtStart x.order old.disk)
            moments = b.any_moment honest

            go : IsLeftAtStart x.order old.disk file → IsLedTo (xs ++ x ∷ []) file
            go (inl (inl may)) = none_more file file (led file may) refl (to [] (inl refl))
            go (inl (inr same)) = none_more old.disk.seen file before same (to [] (inl refl))
            go (inr (claimed_file, same, b)) =
                let e = reads_too old.disk.seen claimed_file before same in
                life_more claimed_file file e (boot_alone x.order.me b.0) (alone claimed_file file e b.0 b.1 b.2 b.3) (to (boot_alone x.order.me b.0 ∷ []) (inr (b.0, refl)))

        was_booted : (run : RunsLife x.order old new x.end) (file : List ℕ) → new.disk.may_leave file → Goes (WasLife run.life run.result) file
        was_booted run file is to =
            let same : run.bodies ≡ before.bodies = sym (ap bodies_in (run.found honest).0) ∙ ap bodies_in before.reads in
            let was = before.small in
            let sizes = ap size_of same in
            let next = leads x.order old new x.end run honest (subst (λ (i : ℕ). i < 15) (sym me) small) (omega (arith, was, sizes)) file is in
            life_more old.disk.seen file before next.0
            (subst (λ (i : ℕ). LeadsTo i k before.bodies next.0 file) count
            (subst (λ (i : ℕ). LeadsTo x.order.n i before.bodies next.0 file) me
            (subst (λ (bs : List (List ℕ)). LeadsTo x.order.n x.order.me bs next.0 file) same next.2)))
            (to (next.0 ∷ []) next.1)

        either : (NotBooted x.order old new x.end ⊎ RunsLife x.order old new x.end) → (file : List ℕ) → new.disk.may_leave file → Goes (WasProcess x.order old new x.end) file
        either (inl b) file is to = not_booted b file is (λ ls was. to ls (inl (b, was)))
        either (inr run) file is to = was_booted run file is (λ ls was. to ls (inr (run, was)))

      -- the run, over its own port or over that of its cluster
      next : IsRunOf at n k x → ((file : List ℕ) → (at x.before).disk.may_leave file → IsLedTo xs file) → (file : List ℕ) → (at x.after).disk.may_leave file → IsLedTo (xs ++ x ∷ []) file
      next r led file is = elim (cases_eq x.order.cluster 0) [
        | inl zero ↦ either (at x.before) (at x.after) r.honest led (r.ran.0 zero) file is (λ ls was. ((λ _. was), (λ other. absurd (other zero))))
        | inr other ↦ elim (r.ran.1 other) [
          | inl ran ↦ either (over_cluster x.order.cluster (at x.before).port.framing (at x.before)) (over_cluster x.order.cluster (at x.before).port.framing (at x.after)) r.honest led ran file is
              (λ ls was. ((λ zero. absurd (other zero)), (λ _. inl was)))
          | inr unbegun ↦ none_more file file (led file (unbegun.3 file is)) refl ((λ zero. absurd (other zero)), (λ _. inr (unbegun, refl)))
        ]
      ]

  -- ---- all runs

  honest_after : (x : Run S) → IsRunOf at n k x → IsTrue (at x.after).disk.honest
  honest_after x r = elim (cases_eq x.order.cluster 0) [
    | inl zero ↦ either_honest x.order (at x.before) (at x.after) x.end r.honest (r.ran.0 zero)
    | inr other ↦ elim (r.ran.1 other) [
      | inl ran ↦ either_honest x.order (over_cluster x.order.cluster (at x.before).port.framing (at x.before)) (over_cluster x.order.cluster (at x.before).port.framing (at x.after)) x.end r.honest ran
      | inr unbegun ↦ unbegun.1.honest ∙ r.honest
    ]
  ]

  -- some file is left
  record IsSome (left : List ℕ → Type 0) : Type 0 where
    file : List ℕ
    is : left file

  all_led : k < 15 → n ≤ 15 → (xs ys : List (Run S)) (left : List ℕ → Type 0) → FollowEachOther at n k left ys → IsSome left → ((file : List ℕ) → left file → IsLedTo xs file) →
      (file : List ℕ) × IsLedTo (xs ++ ys) file
  all_led small most xs [] left follow some led = (some.file, subst (λ (zs : List (Run S)). IsLedTo zs some.file) (sym (append-nil xs)) (led some.file some.is))
  all_led small most xs (x ∷ ys) left follow some led =
      let r = follow.0 in
      let same = append_assoc xs (x ∷ []) ys in
      let on = all_led small most (xs ++ x ∷ []) ys (at x.after).disk.may_leave follow.2 (some_after x r)
      (next xs x small most r.me r.count r (λ file may. led file (follow.1 file may))) in
      (on.0, subst (λ (zs : List (Run S)). IsLedTo zs on.0) same on.1)
    where
      some_after : (x : Run S) → IsRunOf at n k x → IsSome (at x.after).disk.may_leave
      some_after x r = record { file = (at x.after).disk.seen; is = (at x.after).disk.as_read (honest_after x r) }

  -- before the first
  none_led : (file : List ℕ) → HasNoBody file → IsLedTo [] file
  none_led file none = record { ls = []; were = refl; bodies = []; reads = none; lead = refl; mine = tt; processes = tt; fates = tt; small = let e = size_none in omega (arith, e) }

  -- the processes that they were
  pub record HasLives (xs : List (Run S)) : Type 0 where
    pub ls : List Life
    pub were : Were at xs ls
    pub finds : FindBodies n [] ls
    pub mine : AllByRecursion (λ (l : Life). l.me ≡ k) ls
    pub processes : AllByRecursion IsProcess ls
    pub fates : AllByRecursion (HasFates n) ls

  pub have_lives : k < 15 → n ≤ 15 → (xs : List (Run S)) → AreRunsOf at n k xs → HasLives xs
  have_lives small most xs r =
      let all = all_led small most [] xs HasNoBody r (record { file = []; is = refl }) none_led in
      let e = all.1 in
      record { ls = e.ls; were = e.were; finds = find_bodies n [] e.bodies e.ls e.lead; mine = e.mine; processes = e.processes; fates = e.fates }
