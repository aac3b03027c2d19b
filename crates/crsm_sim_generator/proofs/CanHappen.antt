-- Each generated event is possible.
use Rattle.std.proofs.Common.{◌≡◌, ◌≤◌, ◌+◌, ℕ, zero, suc, Bool, true, false, cond, not, ◌&&◌, List, [], ◌∷◌, length, map, Option, None, Some, refl, ap, sym, ◌∙◌, subst, arith}
use Rattle.std.specs.Prelude.{filter, min, nat_eq, nat_le, option_map, slice_get, unwrap_or}
use Rattle.std.specs.List.{enumerate_from}
use Rattle.std.specs.Option.{option_map_or}
use Rattle.std.proofs.lemmas.Bool.{leb-true}
use Rattle.crsm_base.specs.Replicas.{majority}
use Rattle.crsm_sim_generator.specs.Drawing.{after_head, asked, behind, drawn_command, drawn_next, head_of, if_possible, one_of, otherwise}
use Rattle.crsm_sim_generator.specs.Sequence.{draw}
use Rattle.crsm_sim_generator.specs.View.{View, places, is_up_in, up_replicas, down_replicas, fresh_to_any, fresh_to_up, used_to_up}
use Rattle.crsm_sim_generator.specs.Possible.{CanHappen, CanStart, IsAmong, IsSuspicion}
use Rattle.crsm_sim_generator.specs.declared.drawing.Drawing.{Drawing}
use Rattle.crsm_sim_generator.specs.declared.kind.EventKind.{EventKind}
use Rattle.crsm_schedule.specs.declared.Event.{Event}
use Rattle.crsm_schedule.specs.declared.Single.{Single}
use Rattle.crsm_sim_generator.proofs.Places.{numbers, places_from}

-- ---- choices

chosen : (most : ℕ) (ns : List ℕ) (s : Drawing) (i : ℕ) → (one_of most ns s).0 ≡ Some i → IsAmong ns i
unfolding one_of
chosen most ns s i =
    elim (nat_eq (length ns) 0) as (λ b. (cond {A = Option ℕ × Drawing} b (None, s) (slice_get ns (draw s.latest 0 (min most (length ns))), behind 1 s)).0 ≡ Some i → IsAmong ns i) [
      | true ↦ λ e. absurd (cc)
      | false ↦ λ e. record { place = draw s.latest 0 (min most (length ns)); is = e }
    ]

-- what is asked for, where it is made of a number that stands in a list
of_list : (P : Event → Type 0) (ns : List ℕ) (o : Option ℕ) (f : ℕ → Event) → ((i : ℕ) → o ≡ Some i → IsAmong ns i) → ((i : ℕ) → IsAmong ns i → P (f i)) → (e : Event) → option_map f o ≡ Some e → P e
of_list P ns None f has g e h = absurd (cc)
of_list P ns (Some i) f has g e h = let same : f i ≡ e = cc in subst P same (g i (has i refl))

-- and where it is possible
if_so : (P : Event → Type 0) (b : Bool) (d : Event) → (b ≡ true → P d) → (e : Event) → if_possible b d ≡ Some e → P e
unfolding if_possible
if_so P true d f e h = let same : d ≡ e = cc in subst P same (f refl)
if_so P false d f e h = absurd (cc)

both : (a b : Bool) → a && b ≡ true → (a ≡ true) × (b ≡ true)
both true b e = (refl, e)
both false b e = absurd (cc)

asked_can : (kind : EventKind) (n : ℕ) (v : View) (r reading : ℕ) (s : Drawing) (e : Event) → (asked kind n v r reading s).0 ≡ Some e → CanHappen n v e
unfolding asked
asked_can EventKind.Request n v r reading s e h = if_so (CanHappen n v) (is_up_in v r) _ (λ u. u) e h
asked_can EventKind.Go n v r reading s e h = of_list (CanHappen n v) (fresh_to_up v) (one_of 8 (fresh_to_up v) s).0 _ (chosen 8 (fresh_to_up v) s) (λ i is. is) e h
asked_can EventKind.Again n v r reading s e h = of_list (CanHappen n v) (used_to_up v) (one_of (length (used_to_up v)) (used_to_up v) s).0 _ (chosen (length (used_to_up v)) (used_to_up v) s) (λ i is. is) e h
asked_can EventKind.Lose n v r reading s e h = of_list (CanHappen n v) (fresh_to_any v) (one_of 8 (fresh_to_any v) s).0 _ (chosen 8 (fresh_to_any v) s) (λ i is. is) e h
asked_can EventKind.Tick n v r reading s e h = if_so (CanHappen n v) (is_up_in v r) _ (λ u. u) e h
asked_can EventKind.Crash n v r reading s e h = if_so (CanHappen n v) (is_up_in v r) _ (λ u. u) e h
asked_can EventKind.Start n v r reading s e h = of_list (CanHappen n v) (down_replicas v) (slice_get (down_replicas v) 0) _ (λ i g. record { place = 0; is = g }) (λ i is. CanStart.one_down is) e h
asked_can EventKind.Suspect n v r reading s e h =
    if_so (CanHappen n v) (is_up_in v r && nat_le (majority n) (length (up_replicas v))) _ (λ u. let p = both (is_up_in v r) _ u in record { up = p.0; members_are = refl; enough = leb-true (majority n) (length (up_replicas v)) p.1 }) e h
asked_can EventKind.Settle n v r reading s e h = let same : Event.Settle reading ≡ e = cc in subst (CanHappen n v) same tt
asked_can EventKind.Cut n v r reading s e h = of_list (CanHappen n v) (fresh_to_up v) (slice_get (fresh_to_up v) 0) _ (λ i g. record { place = 0; is = g }) (λ i is. is) e h

-- ---- in place of it

first_up : (ups : List Bool) (k r : ℕ) → slice_get (places_from k (λ up. up) ups) 0 ≡ Some r → (m : ℕ) × (r ≡ k + m) × (option_map_or (λ up. up) (slice_get ups m) false ≡ true)
first_up [] k r e = absurd (cc)
first_up (true ∷ ups) k r e = let same : k ≡ r = cc in (0, omega (arith, same), refl)
first_up (false ∷ ups) k r e = let f = first_up ups (k + 1) r e in (suc f.0, let a = f.1 in omega (arith, a), f.2)

up_here : (v : View) (r : ℕ) → slice_get (up_replicas v) 0 ≡ Some r → is_up_in v r ≡ true
unfolding up_replicas places is_up_in
up_here v r e =
    let f = first_up v.ups 0 r e in
    let same : r ≡ f.0 = let a = f.1 in omega (arith, a) in
    ap (λ k. option_map_or (λ up. up) (slice_get v.ups k) false) same ∙ f.2

otherwise_can : (n : ℕ) (v : View) (reading : ℕ) → CanHappen n v (otherwise v reading)
unfolding otherwise
otherwise_can n v reading = at (slice_get (up_replicas v) 0) refl
  where
    at : (o : Option ℕ) → slice_get (up_replicas v) 0 ≡ o → CanHappen n v (option_map_or (λ r. Event.One (Single.Tick r reading)) o (Event.Start 0))
    at (Some r) e = up_here v r e
    at None e = CanStart.none_up refl e

unwrapped : (P : Event → Type 0) (o : Option Event) (d : Event) → ((e : Event) → o ≡ Some e → P e) → P d → P (unwrap_or o d)
unwrapped P (Some e) d f p = f e refl
unwrapped P None d f p = p

pub can_happen : (n : ℕ) (v : View) (s : Drawing) → CanHappen n v (drawn_next n v s).0
unfolding drawn_next
can_happen n v s =
    let h = head_of n s in
    unwrapped (CanHappen n v) (asked h.kind n v h.replica h.reading (after_head s)).0 (otherwise v h.reading) (asked_can h.kind n v h.replica h.reading (after_head s)) (otherwise_can n v h.reading)
