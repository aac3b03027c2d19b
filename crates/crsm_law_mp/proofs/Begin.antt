-- The invariant of a run holds at its beginning.
use Rattle.std.proofs.Common.{◌≡◌, ℕ, [], ◌∷◌, map, length, arith, inl, inr, refl, sym, subst, ◌∙◌, Option, Some, None}
use Rattle.std.specs.List.{Contains, slice_get, range_with_len}
use Rattle.std.specs.Option.{option_map_or}
use Rattle.std.proofs.lemmas.List.{length-map}
use Rattle.std.proofs.lemmas.List.FromFn.{length-range_with_len}
use Rattle.crsm_spec.specs.Lists.{greatest, numbers_below}
use Rattle.crsm_spec.specs.Paxos.{fresh}
use Rattle.crsm_safety.proofs.Paxos.Basics.{got}
use Rattle.crsm_mpspec.specs.declared.MpMessage.{MpMessage}
use Rattle.crsm_mpspec.specs.declared.MpLine.{MpLine}
use Rattle.crsm_mpspec.specs.Types.{Value}
use Rattle.crsm_mpspec.specs.Log.{no_ballot, promised, accepts, accepted_at, at_slot, choices, chosen_at, end, run_from, boots, executed}
use Rattle.crsm_mpspec.specs.Replica.{Replica, Note, note_after}
use Rattle.crsm_mpspec.specs.Replica.{fresh as fresh_replica}
use Rattle.crsm_mpspec.specs.Draft.{begun, exec_lines, executions, line_of, keep_as, keep}
use Rattle.crsm_mpspec.specs.Step.{boot}
use Rattle.crsm_mpspec.specs.World.{Site, log_at, first_boot, begin, first_lines}
use Rattle.crsm_mpspec.specs.Run.{traced}
use Rattle.crsm_law_mp.specs.Slots.{Past, NoteHolds, Holds}
use Rattle.crsm_law_mp.proofs.Lists.{cons_cases, none_in}
use Rattle.crsm_law_mp.specs.Seats.{seat_of, seat_in, seat_at, IsSound}
use Rattle.crsm_law_mp.proofs.Telling.{executed_chosen, in_flat_map}
use Rattle.crsm_law_mp.proofs.Worlds.{seat_chosen, up_is}
use Rattle.crsm_law_mp.specs.Kept.{IsRightLine, Kept}
use Rattle.crsm_law_mp.proofs.Places.{none_some, get_map, get_range}

module _ (n : ℕ) where
  seat_first : (k : ℕ) → seat_at (begin n) k ≡ seat_of [] Note.Idle
  unfolding seat_at begin first_boot boot keep keep_as begun fresh_replica note_after seat_in seat_of promised accepted_at accepts chosen_at choices
  seat_first k = go (slice_get (map (λ j. Site.Up (first_boot n j).replica) (numbers_below n)) k) refl
    where
      go : (o : Option Site) → slice_get (map (λ j. Site.Up (first_boot n j).replica) (numbers_below n)) k ≡ o → option_map_or seat_in o (seat_of [] Note.Idle) ≡ seat_of [] Note.Idle
      go None e = refl
      go (Some s) e =
          let (j, at, is) = get_map (λ j. Site.Up (first_boot n j).replica) (numbers_below n) k s e in
          subst (λ z. seat_in z ≡ seat_of [] Note.Idle) is refl

  -- the replica that is up at k
  first_at : (k : ℕ) (r : Replica) → slice_get (begin n).sites k ≡ Some (Site.Up r) → (first_boot n k).replica ≡ r
  unfolding begin numbers_below
  first_at k r is =
      let (j, at, same) = get_map (λ j. Site.Up (first_boot n j).replica) (range_with_len 0 n) k (Site.Up r) is in
      let here : j ≡ k = let h = get_range n 0 k j at in omega arith in
      up_is (first_boot n k).replica r (subst (λ i. Site.Up (first_boot n i).replica ≡ Site.Up r) here same)

  nothing : Past
  nothing = record { submitted = []; known = [] }

  none_chosen : (k s : ℕ) (v : Value) → (seat_at (begin n) k).chosen s ≡ Some v → ⊥
  unfolding seat_of chosen_at choices at_slot
  none_chosen k s v e = none_some v (subst (λ x. x.chosen s ≡ Some v) (seat_first k) e)

  begins : Holds (numbers_below n) nothing (seat_at (begin n)) (λ k m. Contains {X = ℕ × MpMessage} [] (k, m)) (λ s. fresh)
  unfolding nothing seat_of promised no_ballot accepted_at accepts at_slot
  begins = record {
    reached = λ s. record { steps = []; run = tt; is = refl };
    same = λ s k. subst (λ x. fresh.acceptor k ≡ record { promised = x.promised; accepted = x.accepted s }) (sym (seat_first k)) refl;
    owners = λ s q c. absurd (none_in q c);
    owned = λ s q c there is. absurd (none_in q there);
    stays = λ s v c. absurd (none_in (s, v) c);
    chosen = λ s k v e. absurd (none_chosen k s v e);
    notes = λ k. subst (λ x. NoteHolds (numbers_below n) (λ s. fresh) k x x.note) (sym (seat_first k)) tt;
    sound = λ k m c. absurd (none_in (k, m) c);
  }

  sound_first : IsSound n nothing (begin n)
  unfolding begin first_boot boot keep keep_as begun fresh_replica numbers_below
  sound_first = record {
    size = refl;
    places = length-map (range_with_len 0 n) (λ j. Site.Up (first_boot n j).replica) ∙ length-range_with_len 0 n;
    me = λ k r is. subst (λ q. q.me ≡ k) (first_at k r is) refl;
    count = λ k r is. subst (λ q. q.n ≡ n) (first_at k r is) refl;
    made = [];
    sent = λ p c. absurd (none_in p c);
    slots = λ s. fresh;
    holds = begins;
  }

  boot_line : (k : ℕ) (line : MpLine) → Contains (first_boot n k).lines line → IsRightLine (map (traced None) (first_lines n)) (begin n ∷ []) 0 line × ((i : ℕ) → IsRightLine (map (traced None) (first_lines n)) (begin n ∷ []) i line)
  unfolding first_boot boot keep keep_as begun line_of executions exec_lines executed end choices greatest run_from boots fresh_replica
  boot_line k line c = elim (cons_cases (MpLine.Boot k 1) [] line c) [
    | inl is ↦ subst (λ l. IsRightLine (map (traced None) (first_lines n)) (begin n ∷ []) 0 l × ((i : ℕ) → IsRightLine (map (traced None) (first_lines n)) (begin n ∷ []) i l)) is (tt, λ i. tt)
    | inr nowhere ↦ absurd (none_in line nowhere)
  ]

  pub kept_first : Kept n (map (traced None) (first_lines n)) (begin n ∷ []) (begin n)
  unfolding nothing first_lines first_boot boot keep keep_as begun fresh_replica traced
  kept_first = record {
    past = nothing;
    sound = sound_first;
    sizes = λ v c. elim (cons_cases (begin n) [] v c) [ inl is ↦ subst (λ z. length z.sites ≡ n) is sound_first.places | inr none ↦ absurd (none_in v none) ];
    known = λ es l s u is. elim (cons_cases (begin n) [] l.world l.of) [
      | inl first ↦ absurd (none_chosen l.replica s u (seat_chosen (begin n) l.replica s ∙ executed_chosen (log_at (begin n) l.replica) s u
          (subst (λ z. slice_get (executed (log_at z l.replica)) s ≡ Some u) (sym first) (subst (λ z. slice_get z s ≡ Some u) l.is is))))
      | inr none ↦ absurd (none_in l.world none)
    ];
    submitted = λ c there. absurd (none_in c there);
    waits = λ k r is wt c. absurd (none_in wt (subst (λ q. Contains q.waiting wt) (sym (first_at k r is)) c));
    right = λ i t e.
        let (line, at, is) = get_map (traced None) (first_lines n) i t e in
        let (k, member, here) = in_flat_map (λ k. (first_boot n k).lines) (numbers_below n) line (got (first_lines n) i line at) in
        subst (λ z. IsRightLine (map (traced None) (first_lines n)) (begin n ∷ []) i z.line) is ((boot_line k line here).1 i);
  }
