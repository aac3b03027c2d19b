-- Machines in memory and their sites in the definitions, one by one.
use Rattle.std.proofs.Common.{◌≡◌, ◌≢◌, ◌<◌, ◌≤◌, ◌+◌, ℕ, zero, suc, List, [], ◌∷◌, ◌++◌, length, map, take, get_or, set, ltb, true, false, Vec, Global, cond, Option, Some, None, Result, Ok, Err, refl, ap, sym, ◌∙◌, subst, arith, add-zero, eq-eqb, ne_eqb, Bor}
use Rattle.std.proofs.lemmas.Bool.{ltb-false}
use Rattle.std.specs.Prelude.{slice_get, slice_set, is_some, IfSome, MatchOption}
use Rattle.std.specs.Option.{option_map_or}
use Rattle.std.specs.Vec.{with_item}
use Rattle.std.proofs.lemmas.Option.{none-some, same_Some, slice_get_past, slice_get_within, slice_get-get_or}
use Rattle.std.proofs.lemmas.List.{length-set, length-append}
use Rattle.crsm_spec.specs.World.{Site}
use Rattle.crsm_sim_machine.specs.declared.Machine.{Machine}
use Rattle.std.specs.List.{enumerate_from}
use Rattle.std.proofs.lemmas.List.{take_more, map-append, take_all}
use Rattle.std.proofs.lemmas.List.FromFn.{length-enumerate_from, get_or-enumerate_from}
use Rattle.std.proofs.lemmas.Option.{get_or_from_slice_get}
use Rattle.std.proofs.lemmas.Result.{OkIff-at_ok, OkIff-at_err}
use Rattle.std.specs.Result.{OkIff, result_ok}
use Rattle.crsm_spec.specs.Types.{Line}
use Rattle.crsm_spec.specs.Log.{Log}
use Rattle.crsm_spec.specs.Replica.{Replica}
use Rattle.crsm_spec.specs.Draft.{Draft}
use Rattle.crsm_spec.specs.Step.{boot}
use Rattle.crsm_spec.specs.World.{is_up, final_line}
use Rattle.crsm_sim_machine.specs.declared.Step.{Step}
use Rattle.crsm_sim_machine.specs.declared.Boot.{Boot}
use Rattle.crsm_sim_machine.specs.Outcomes.{IsWell, Makes, Boots, IsCut}
use Rattle.crsm_sim_machine.specs.Machine.{MachineStands, MachinePends}
use Rattle.crsm_port.specs.Memory.{Memory}
use Rattle.crsm_world.specs.declared.machines.Machines.{Machines}
use Rattle.crsm_world.specs.Machines.{EachIs, IsSite, MachinesStand, IsPending, IsSiteBeside, MachinesPend, MachinesCut, MachinesBoot, is_up_in, up_in, roomed}
use Rattle.crsm_sim_network.proofs.Gets.{got, not_got}

pub each_length : (P : ℕ → Machine → Site → Type 0) (k : ℕ) (ss : List Machine) (ps : List Site) → EachIs P k ss ps → length ss ≡ length ps
each_length P k [] [] h = refl
each_length P k (s ∷ ss) (p ∷ ps) h = ap suc (each_length P (k + 1) ss ps h.1)
each_length P k [] (p ∷ ps) h = absurd h
each_length P k (s ∷ ss) [] h = absurd h

-- the machine at i, where both lists have one
pub each_at : (P : ℕ → Machine → Site → Type 0) (k : ℕ) (ss : List Machine) (ps : List Site) (i : ℕ) (s : Machine) (p : Site) → EachIs P k ss ps
    → slice_get ss i ≡ Some s → slice_get ps i ≡ Some p → P (k + i) s p
each_at P k [] [] i s p h e f = cc
each_at P k (a ∷ ss) (b ∷ ps) zero s p h e f = let x : a ≡ s = cc in let y : b ≡ p = cc in rw (sym x, sym y) (simp add-zero h.0)
each_at P k (a ∷ ss) (b ∷ ps) (suc i) s p h e f = let n : k + 1 + i ≡ k + suc i = omega arith in subst (λ (j : ℕ). P j s p) n (each_at P (k + 1) ss ps i s p h.1 e f)
each_at P k [] (b ∷ ps) i s p h e f = absurd h
each_at P k (a ∷ ss) [] i s p h e f = absurd h

-- Another site and place at i, where the others are as before.
pub each_set : (P Q : ℕ → Machine → Site → Type 0) (k : ℕ) (ss : List Machine) (ps : List Site) (i : ℕ) (s : Machine) (p : Site)
    → ((j : ℕ) (a : Machine) (b : Site) → j ≢ k + i → P j a b → Q j a b) → Q (k + i) s p → EachIs P k ss ps → EachIs Q k (set ss i s) (set ps i p)
each_set P Q k [] [] i s p others here h = tt
each_set P Q k (a ∷ ss) (b ∷ ps) zero s p others here h =
    (subst (λ (j : ℕ). Q j s p) (add-zero k) here, later P Q (k + 1) ss ps (λ j a b ge. others j a b (omega arith)) h.1)
  where
    later : (P Q : ℕ → Machine → Site → Type 0) (k : ℕ) (ss : List Machine) (ps : List Site) → ((j : ℕ) (a : Machine) (b : Site) → k ≤ j → P j a b → Q j a b) → EachIs P k ss ps → EachIs Q k ss ps
    later P Q k [] [] f h = tt
    later P Q k (a ∷ ss) (b ∷ ps) f h = (f k a b (omega arith) h.0, later P Q (k + 1) ss ps (λ j a b ge. f j a b (omega arith)) h.1)
    later P Q k [] (b ∷ ps) f h = absurd h
    later P Q k (a ∷ ss) [] f h = absurd h
each_set P Q k (a ∷ ss) (b ∷ ps) (suc i) s p others here h = (
  others k a b (omega arith) h.0,
  each_set P Q (k + 1) ss ps i s p (λ j a b ne. others j a b (omega arith)) (let n : k + suc i ≡ k + 1 + i = omega arith in subst (λ (j : ℕ). Q j s p) n here) h.1,
)
each_set P Q k [] (b ∷ ps) i s p others here h = absurd h
each_set P Q k (a ∷ ss) [] i s p others here h = absurd h

-- the place of site i
each_here : (P : ℕ → Machine → Site → Type 0) (k : ℕ) (ss : List Machine) (ps : List Site) (i : ℕ) (s : Machine) → EachIs P k ss ps
    → slice_get ss i ≡ Some s → (p : Site) × (slice_get ps i ≡ Some p) × P (k + i) s p
each_here P k [] [] i s h e = cc
each_here P k (a ∷ ss) (b ∷ ps) zero s h e = let x : a ≡ s = cc in (b, refl, rw (sym x) (simp add-zero h.0))
each_here P k (a ∷ ss) (b ∷ ps) (suc i) s h e =
    let r = each_here P (k + 1) ss ps i s h.1 e in
    let n : k + 1 + i ≡ k + suc i = omega arith in
    (r.0, r.1, subst (λ (j : ℕ). P j s r.0) n r.2)
each_here P k [] (b ∷ ps) i s h e = absurd h
each_here P k (a ∷ ss) [] i s h e = absurd h

each_more : (P : ℕ → Machine → Site → Type 0) (k : ℕ) (ss : List Machine) (ps : List Site) (s : Machine) (p : Site) → EachIs P k ss ps → P (k + length ss) s p → EachIs P k (ss ++ s ∷ []) (ps ++ p ∷ [])
each_more P k [] [] s p h is = (let z : k + 0 ≡ k = omega arith in subst (λ (j : ℕ). P j s p) z is, tt)
each_more P k (a ∷ ss) (b ∷ ps) s p h is = (h.0, each_more P (k + 1) ss ps s p h.1 (let n : k + suc (length ss) ≡ k + 1 + length ss = omega arith in subst (λ (j : ℕ). P j s p) n is))
each_more P k [] (b ∷ ps) s p h is = absurd h
each_more P k (a ∷ ss) [] s p h is = absurd h

-- ---- one site

zero_plus : (P : ℕ → Type 0) (k : ℕ) → P (0 + k) → P k
zero_plus P k h = let n : 0 + k ≡ k = omega arith in subst P n h

plus_zero : (P : ℕ → Type 0) (k : ℕ) → P k → P (0 + k)
plus_zero P k h = let n : k ≡ 0 + k = omega arith in subst P n h

-- the place of the machine that was looked up
pub machine_got : (sites : Machines) (n : ℕ) (places : List Site) (k : ℕ) (s : Machine) (ys : List Machine) → MachinesStand sites n places → ys ≡ sites.items.items
    → true ≡ ltb k (length ys) → s ≡ get_or ys k s → (p : Site) × (slice_get places k ≡ Some p) × MachineStands s k n p
machine_got sites n places k s ys h e b is =
    let r = each_here (IsSite n) 0 sites.items.items places k s h.each (ap (λ xs. slice_get xs k) (sym e) ∙ got ys k s b is) in
    (r.0, r.1, zero_plus (λ j. MachineStands s j n r.0) k r.2)

pub machine_missed : (sites : Machines) (n : ℕ) (places : List Site) (k : ℕ) (ys : List Machine) → MachinesStand sites n places → ys ≡ sites.items.items
    → false ≡ ltb k (length ys) → slice_get places k ≡ None
machine_missed sites n places k ys h e b =
    slice_get_past places k (let l = each_length (IsSite n) 0 sites.items.items places h.each in let m = ltb-false k (length ys) (sym b) in let f = ap length e in omega arith)

-- what a look-up gives
pub machine_looked : (sites : Machines) (n : ℕ) (places : List Site) (k : ℕ) (r : Option (Bor Machine)) (ys : List Machine) → MachinesStand sites n places → ys ≡ sites.items.items
    → is_some r ≡ ltb k (length ys) → IfSome r (λ x. x.now ≡ get_or ys k x.now) → MatchOption r (slice_get places k ≡ None) (λ x. (p : Site) × (slice_get places k ≡ Some p) × MachineStands x.now k n p)
machine_looked sites n places k None ys h e b is = machine_missed sites n places k ys h e b
machine_looked sites n places k (Some x) ys h e b is = machine_got sites n places k x.now ys h e b is

pub site_at : (sites : Machines) (n : ℕ) (places : List Site) (k : ℕ) (s : Machine) (p : Site) → MachinesStand sites n places → k < length sites.items.items
    → s ≡ get_or sites.items.items k s → slice_get places k ≡ Some p → MachineStands s k n p
site_at sites n places k s p h l is e =
    zero_plus (λ j. MachineStands s j n p) k (each_at (IsSite n) 0 sites.items.items places k s p h.each (slice_get-get_or sites.items.items k s l ∙ ap Some (sym is)) e)

pub machine_set : (sites : Machines) (n : ℕ) (places : List Site) (k : ℕ) (s : Machine) (p : Site) → MachinesStand sites n places → MachineStands s k n p
    → MachinesStand (record sites { items = with_item sites.items k s }) n (slice_set places k p)
machine_set sites n places k s p h is = record {
  founders = h.founders;
  few = let l = length-set places k p in let f = h.few in omega arith;
  each = each_set (IsSite n) (IsSite n) 0 sites.items.items places k s p (λ j a b ne x. x) (plus_zero (λ j. MachineStands s j n p) k is) h.each;
  well = h.well;
}

pub up_got : (places : List Site) (k : ℕ) (p : Site) → slice_get places k ≡ Some p → is_up_in places k ≡ is_up p
unfolding is_up_in
up_got places k p e = ap (λ o. option_map_or is_up o false) e

pub up_missed : (places : List Site) (k : ℕ) → slice_get places k ≡ None → is_up_in places k ≡ false
unfolding is_up_in
up_missed places k e = ap (λ o. option_map_or is_up o false) e

pub up_some : (places : List Site) (k : ℕ) → is_up_in places k ≡ true → Some k ≡ up_in places k
unfolding up_in
up_some places k e = sym (ap (λ b. cond b (Some k) None) e)

pub up_none : (places : List Site) (k : ℕ) → is_up_in places k ≡ false → None ≡ up_in places k
unfolding up_in
up_none places k e = sym (ap (λ b. cond b (Some k) None) e)

pub machines_length : (sites : Machines) (n : ℕ) (places : List Site) → MachinesStand sites n places → length sites.items.items ≡ length places
machines_length sites n places h = each_length (IsSite n) 0 sites.items.items places h.each

-- ---- which machine it is

pub machine_here : (xs : List Machine) (k : ℕ) (s : Machine) → k < length xs → s ≡ get_or xs k s → slice_get xs k ≡ Some s
machine_here xs k s l is = slice_get-get_or xs k s l ∙ ap Some (sym is)

pub machine_is : (ys xs : List Machine) (k : ℕ) (s m : Machine) → ys ≡ xs → true ≡ ltb k (length ys) → s ≡ get_or ys k s → slice_get xs k ≡ Some m → s ≡ m
machine_is ys xs k s m e b is at = same_Some s m (sym (got ys k s b is) ∙ ap (λ zs. slice_get zs k) e ∙ at)

pub machine_none : (ys xs : List Machine) (k : ℕ) (m : Machine) → ys ≡ xs → false ≡ ltb k (length ys) → slice_get xs k ≡ Some m → ⊥
machine_none ys xs k m e b at = none-some m (sym (not_got ys k b) ∙ ap (λ zs. slice_get zs k) e ∙ at)

pub machine_replaced : (xs : List Machine) (k : ℕ) (t m : Machine) → slice_get (set xs k t) k ≡ Some m → t ≡ m
machine_replaced [] k t m at = absurd (none-some m at)
machine_replaced (x ∷ xs) zero t m at = same_Some t m at
machine_replaced (x ∷ xs) (suc k) t m at = machine_replaced xs k t m at

pub machine_last : (xs : List Machine) (k : ℕ) (t m : Machine) → k ≡ length xs → slice_get (xs ++ t ∷ []) k ≡ Some m → t ≡ m
machine_last xs k t m e at = go xs (subst (λ (j : ℕ). slice_get (xs ++ t ∷ []) j ≡ Some m) e at)
  where
    go : (ys : List Machine) → slice_get (ys ++ t ∷ []) (length ys) ≡ Some m → t ≡ m
    go [] at = same_Some t m at
    go (y ∷ ys) at = go ys at

-- ---- steps that are not kept yet

pub pend_at : (sites : Machines) (n : ℕ) (places : List Site) (k : ℕ) (steps : List Draft) (s : Machine) (p : Site) → MachinesPend k steps sites n places → k < length sites.items.items
    → s ≡ get_or sites.items.items k s → slice_get places k ≡ Some p → IsPending n k steps s p
pend_at sites n places k steps s p h l is e =
    zero_plus (λ j. IsPending n j steps s p) k ((each_at (IsSiteBeside k n steps) 0 sites.items.items places k s p h.each (slice_get-get_or sites.items.items k s l ∙ ap Some (sym is)) e).here (let z : 0 + k ≡ k = omega arith in z))

-- the same of whatever site it is
pub pend_found : (sites : Machines) (n : ℕ) (places : List Site) (k : ℕ) (steps : List Draft) (s : Machine) → MachinesPend k steps sites n places → k < length sites.items.items
    → s ≡ get_or sites.items.items k s → (p : Site) × (slice_get places k ≡ Some p) × IsPending n k steps s p
pend_found sites n places k steps s h l is =
    let here = each_here (IsSiteBeside k n steps) 0 sites.items.items places k s h.each (slice_get-get_or sites.items.items k s l ∙ ap Some (sym is)) in
    (here.0, here.1, pend_at sites n places k steps s here.0 h l is here.1)

pub pend_set : (sites : Machines) (n : ℕ) (places : List Site) (k : ℕ) (steps more : List Draft) (s : Machine) (p : Site) → MachinesPend k steps sites n places → IsPending n k more s p
    → MachinesPend k more (record sites { items = with_item sites.items k s }) n (slice_set places k p)
pend_set sites n places k steps more s p h is = record {
  founders = h.founders;
  few = let l = length-set places k p in let f = h.few in omega arith;
  each = each_set (IsSiteBeside k n steps) (IsSiteBeside k n more) 0 sites.items.items places k s p
      (λ j a b ne x. record { here = λ e. absurd (ne (let z : k ≡ 0 + k = omega arith in e ∙ z)); others = x.others })
      (record { here = λ e. plus_zero (λ j. IsPending n j more s p) k is; others = λ ne. absurd (ne (let z : 0 + k ≡ k = omega arith in z)) }) h.each;
  well = h.well;
}

-- the steps of replica k begin
pub pend_begin : (sites : Machines) (n : ℕ) (places : List Site) (k : ℕ) → MachinesStand sites n places
    → ((s : Machine) (p : Site) → slice_get places k ≡ Some p → MachineStands s k n p → IsPending n k [] s p) → MachinesPend k [] sites n places
pend_begin sites n places k h f = record {
  founders = h.founders;
  few = h.few;
  each = walk 0 sites.items.items places (λ i p e. let z : i ≡ 0 + i = omega arith in subst (λ (j : ℕ). slice_get places j ≡ Some p) z e) h.each;
  well = h.well;
}
  where
    walk : (b : ℕ) (ss : List Machine) (ps : List Site) → ((i : ℕ) (p : Site) → slice_get ps i ≡ Some p → slice_get places (b + i) ≡ Some p) → EachIs (IsSite n) b ss ps → EachIs (IsSiteBeside k n []) b ss ps
    walk b [] [] g h = tt
    walk b (s ∷ ss) (p ∷ ps) g h = (
      record {
        here = λ e. let at : slice_get places b ≡ Some p = let z : b + 0 ≡ b = omega arith in subst (λ (j : ℕ). slice_get places j ≡ Some p) z (g 0 p refl) in
            subst (λ (j : ℕ). IsPending n j [] s p) (sym e) (f s p (subst (λ (j : ℕ). slice_get places j ≡ Some p) e at) (subst (λ (j : ℕ). MachineStands s j n p) e h.0));
        others = λ ne. h.0;
      },
      walk (b + 1) ss ps (λ i q e. let z : b + suc i ≡ b + 1 + i = omega arith in subst (λ (j : ℕ). slice_get places j ≡ Some q) z (g (suc i) q e)) h.1,
    )
    walk b [] (p ∷ ps) g h = absurd h
    walk b (s ∷ ss) [] g h = absurd h

set_same : (ps : List Site) (k : ℕ) (p : Site) → slice_get ps k ≡ Some p → set ps k p ≡ ps
set_same [] k p e = refl
set_same (a ∷ ps) zero p e = let x : a ≡ p = cc in ap (λ q. q ∷ ps) (sym x)
set_same (a ∷ ps) (suc k) p e = ap (λ qs. a ∷ qs) (set_same ps k p e)

-- they are kept
pub pend_end : (sites : Machines) (n : ℕ) (places : List Site) (k : ℕ) (steps : List Draft) (s : Machine) (p : Site) → MachinesPend k steps sites n places → slice_get places k ≡ Some p → MachineStands s k n p
    → MachinesStand (record sites { items = with_item sites.items k s }) n places
pend_end sites n places k steps s p h e is = record {
  founders = h.founders;
  few = h.few;
  each = subst (λ (ps : List Site). EachIs (IsSite n) 0 (set sites.items.items k s) ps) (set_same places k p e)
      (each_set (IsSiteBeside k n steps) (IsSite n) 0 sites.items.items places k s p (λ j a b ne x. x.others (λ e. ne (let z : k ≡ 0 + k = omega arith in e ∙ z))) (plus_zero (λ j. MachineStands s j n p) k is) h.each);
  well = h.well;
}

-- ---- the port

pub with_port : (sites : Machines) (n : ℕ) (places : List Site) (port : Memory) → MachinesStand sites n places → IsWell port → MachinesStand (record sites { port = port }) n places
with_port sites n places port h well = record { founders = h.founders; few = h.few; each = h.each; well = well }

-- ---- room for one more

pub roomed_new : (sites : Machines) (n : ℕ) (places : List Site) (k : ℕ) (items : Vec Machine Global) (s : Machine) → MachinesStand sites n places → k < 15 → k ≡ length sites.items.items
    → items.items ≡ sites.items.items ++ s ∷ [] → MachineStands s k n (Site.Down []) → MachinesStand (record sites { items = items }) n (roomed places k)
unfolding roomed
roomed_new sites n places k items s h l e f is =
    let m = each_length (IsSite n) 0 sites.items.items places h.each in
    let b = eq-eqb k (length places) (e ∙ m) in
    rw b (record {
      founders = h.founders;
      few = let a = length-append places (Site.Down [] ∷ []) in omega arith;
      each = let P : List Machine → Type 0 = λ ss. EachIs (IsSite n) 0 ss (places ++ Site.Down [] ∷ []) in
          subst P (sym f) (each_more (IsSite n) 0 sites.items.items places s (Site.Down []) h.each (let z : k ≡ 0 + length sites.items.items = omega arith in subst (λ (j : ℕ). MachineStands s j n (Site.Down [])) z is));
      well = h.well;
    })

pub roomed_old : (sites : Machines) (n : ℕ) (places : List Site) (k : ℕ) → MachinesStand sites n places → (k ≡ length sites.items.items → ⊥) → MachinesStand sites n (roomed places k)
unfolding roomed
roomed_old sites n places k h ne =
    let m = each_length (IsSite n) 0 sites.items.items places h.each in
    let b = ne_eqb k (length places) (λ e. ne (e ∙ sym m)) in
    rw b h

pub pending_from : (n k : ℕ) (places : List Site) (r : Replica) → slice_get places k ≡ Some (Site.Up r) → ((machine : Machine) (me n : ℕ) (q : Replica) → MachineStands machine me n (Site.Up q) → MachinePends machine me n q [])
    → (s : Machine) (p : Site) → slice_get places k ≡ Some p → MachineStands s k n p → IsPending n k [] s p
pending_from n k places r e law s p f h =
    let g : p ≡ Site.Up r = cc in
    record { replica = r; up = g; pends = law s k n r (subst (λ (q : Site). MachineStands s k n q) g h) }

-- ---- a stop, a boot

pub cut_set : (calls fill : ℕ) (old : Machines) (n : ℕ) (places : List Site) (k : ℕ) (r : Replica) (x : Draft) (step : Option Step) (s : Machine) → MachinesStand old n places
    → IsCut calls fill k n r x step s → MachinesCut calls fill n places k r x step (record old { items = with_item old.items k s })
cut_set calls fill old n places k r x (Some step) s h cut = (cut.0, cut.1, machine_set old n places k s (Site.Down x.replica.log) h cut.2)
cut_set calls fill old n places k r x None s h cut = (cut.0, machine_set old n places k s (Site.Down r.log) h cut.1)

pub boot_set : (sites : Machines) (n : ℕ) (places : List Site) (k : ℕ) (log : Log) (s t : Machine) (made : Boot) → MachinesStand sites n places → k < length sites.items.items
    → s ≡ get_or sites.items.items k s → slice_get places k ≡ Some (Site.Down log)
    → ((me n : ℕ) (log : Log) → MachineStands s me n (Site.Down log) → Boots made (boot me n log) × MachineStands t me n (Site.Up (boot me n log).replica))
    → MachinesBoot n places k log (Some made) (record sites { items = with_item sites.items k t })
boot_set sites n places k log s t made h l is e f =
    let b = f k n log (site_at sites n places k s (Site.Down log) h l is e) in
    (b.0, machine_set sites n places k t _ h b.1)

pub take_set : (sites : Machines) (n : ℕ) (places : List Site) (k : ℕ) (r : Replica) (steps : List Draft) (s t : Machine) (step : Step) (x : Draft) → MachinesPend k steps sites n places → k < length sites.items.items
    → s ≡ get_or sites.items.items k s → slice_get places k ≡ Some (Site.Up r)
    → ((me n : ℕ) (q : Replica) → q ≡ r → MachinePends s me n q steps → Makes step x × MachinePends t me n x.replica (steps ++ x ∷ []))
    → Makes step x × MachinesPend k (steps ++ x ∷ []) (record sites { items = with_item sites.items k t }) n (slice_set places k (Site.Up x.replica))
take_set sites n places k r steps s t step x h l is e f =
    let p = pend_at sites n places k steps s (Site.Up r) h l is e in
    let q : p.replica ≡ r = let u = p.up in cc in
    let b = f k n p.replica q p.pends in
    (b.0, pend_set sites n places k steps (steps ++ x ∷ []) t (Site.Up x.replica) h (record { replica = x.replica; up = refl; pends = b.1 }))

pub flush_set : (sites : Machines) (n : ℕ) (places : List Site) (k : ℕ) (steps : List Draft) (s t : Machine) → MachinesPend k steps sites n places → k < length sites.items.items → s ≡ get_or sites.items.items k s
    → ((me n : ℕ) (r : Replica) → MachinePends s me n r steps → MachineStands t me n (Site.Up r))
    → MachinesStand (record sites { items = with_item sites.items k t }) n places
flush_set sites n places k steps s t h l is f =
    let here = pend_found sites n places k steps s h l is in
    let p = here.2 in
    pend_end sites n places k steps t here.0 h here.1 (subst (λ (q : Site). MachineStands t k n q) (sym p.up) (f k n p.replica p.pends))

-- ---- the last lines

pub finals_next : (places : List Site) (i : ℕ) (p : Site) (lines : List Line) (line : Line) → slice_get places i ≡ Some p → line ≡ final_line (i, p)
    → lines ≡ map final_line (take i (enumerate_from 0 places)) → lines ++ line ∷ [] ≡ map final_line (take (i + 1) (enumerate_from 0 places))
finals_next places i p lines line at is e =
    let l = slice_get_within places i p at in
    let m : i < length (enumerate_from 0 places) = omega (arith, l, length-enumerate_from 0 places) in
    let g : get_or (enumerate_from 0 places) i (i, p) ≡ (i, p) =
    get_or-enumerate_from 0 places i (i, p) l ∙ (let z : 0 + i ≡ i = omega arith in ap (λ j. (j, get_or places i p)) z) ∙ ap (λ q. (i, q)) (get_or_from_slice_get places i p p at) in
    ap (λ ls. ls ++ line ∷ []) e ∙ ap (λ x. map final_line (take i (enumerate_from 0 places)) ++ x ∷ []) is
    ∙ sym (map-append final_line (take i (enumerate_from 0 places)) ((i, p) ∷ []))
    ∙ ap (map final_line) (ap (λ x. take i (enumerate_from 0 places) ++ x ∷ []) (sym g) ∙ sym (take_more (enumerate_from 0 places) i (i, p) m))

pub finals_done : (places : List Site) (i : ℕ) → length places ≤ i → map final_line (take i (enumerate_from 0 places)) ≡ map final_line (enumerate_from 0 places)
finals_done places i l = ap (map final_line) (take_all i (enumerate_from 0 places) (omega (arith, l, length-enumerate_from 0 places)))

pub past_none : (places : List Site) (i : ℕ) → slice_get places i ≡ None → length places ≤ i
past_none [] i e = omega arith
past_none (p ∷ places) zero e = absurd (none-some p (sym e))
past_none (p ∷ places) (suc i) e = omega (arith, past_none places i e)

-- ---- numbers that fit

pub up_within : (places : List Site) (k : ℕ) → is_up_in places k ≡ true → k < length places
unfolding is_up_in
up_within [] k e = cc
up_within (p ∷ places) zero e = omega arith
up_within (p ∷ places) (suc k) e = let l = up_within places k e in omega arith

pub ok_from : {E : Type 0} (r : Result ℕ E) (P : Type 0) (v : ℕ) → OkIff r P v → P → result_ok r ≡ Some v
ok_from {E} (Ok x) P v i p = let e : P × (x ≡ v) = OkIff-at_ok {E = E} (Ok x) P v x i refl in ap Some e.1
ok_from {E} (Err d) P v i p = absurd (OkIff-at_err {E = E} (Err d) P v d i refl p)

pub number_is : {E : Type 0} (r : Result ℕ E) (P : Type 0) (v : ℕ) → OkIff r P v → IfSome (result_ok r) (λ j. j ≡ v)
number_is {E} (Ok x) P v i = let e : P × (x ≡ v) = OkIff-at_ok {E = E} (Ok x) P v x i refl in e.1
number_is {E} (Err d) P v i = tt

pub some_as : (r o : Option ℕ) (Q : ℕ → Type 0) (v : ℕ) → r ≡ o → IfSome o (λ j. j ≡ v) → Q v → IfSome r Q
some_as r o Q v e is q = subst (λ (x : Option ℕ). IfSome x Q) (sym e) (go o is)
  where
    go : (x : Option ℕ) → IfSome x (λ j. j ≡ v) → IfSome x Q
    go None is = tt
    go (Some j) is = subst Q (sym is) q
