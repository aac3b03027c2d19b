-- A slot whose value is known is not open.
use Rattle.std.proofs.Common.{BTreeMap, Vec, Global, ◌≡◌, ℕ, Bool, true, false, List, [], ◌∷◌, None, refl, ap, subst, ◌∙◌, arith}
use Rattle.std.specs.Prelude.{◌==◌, not, map, filter, Option, Some, is_some, cond}
use Rattle.std.specs.Map.{lookup, remove_entry}
use Rattle.std.specs.BTreeMap.{is_at}
use Rattle.std.specs.Ordering.{nat_cmp}
use Rattle.std.proofs.lemmas.Bool.Decides.{nat_tests}
use Rattle.crsm_mpspec.specs.Types.{Value}
use Rattle.crsm_mpspec.specs.Log.{Log, is_chosen, chosen_at, choices, at_slot}
use Rattle.crsm_mpspec.specs.Replica.{Note as NoteOnPaper, slots_of}
use Rattle.crsm_mpspec.specs.declared.rec.MpRec.{MpRec}
use Rattle.crsm_mpreplica.specs.declared.note.Leading.{Leading}
use Rattle.crsm_mpreplica.specs.declared.note.Note.{Note}
use Rattle.crsm_mpreplica.specs.Notes.{NoteStands, open_of, with_voters}

at-slot : (slot k : ℕ) → is_at (nat_cmp slot) k ≡ (slot == k)
at-slot slot k = grind (arith, nat_tests)

no_some : {X : Type 0} (w : X) → Some w ≡ None → ⊥
no_some w e = cc

module _ {X Y : Type 0} (test : ℕ → Bool) (g : X → Y) where
  none-at : (e : ℕ × X) (es : List (ℕ × X)) (b : Bool) → test e.0 ≡ b → lookup test (e ∷ es) ≡ None → (lookup test es ≡ None → map (λ (e : ℕ × X). (e.0, g e.1)) es ≡ filter (λ (e : ℕ × Y). not (test e.0)) (map (λ (e : ℕ × X). (e.0, g e.1)) es))
      → map (λ (e : ℕ × X). (e.0, g e.1)) (e ∷ es) ≡ filter (λ (e : ℕ × Y). not (test e.0)) (map (λ (e : ℕ × X). (e.0, g e.1)) (e ∷ es))
  none-at e es true is none more = absurd (no_some e.1 (subst (λ b. cond b (Some e.1) (lookup test es) ≡ None) is none))
  none-at e es false is none more = rw (is) (ap (λ (xs : List (ℕ × Y)). (e.0, g e.1) ∷ xs) (more (subst (λ b. cond b (Some e.1) (lookup test es) ≡ None) is none)))

  none-others : (es : List (ℕ × X)) → lookup test es ≡ None → map (λ (e : ℕ × X). (e.0, g e.1)) es ≡ filter (λ (e : ℕ × Y). not (test e.0)) (map (λ (e : ℕ × X). (e.0, g e.1)) es)
  none-others [] none = refl
  none-others (e ∷ es) none = none-at e es (test e.0) refl none (none-others es)

  removed-at : (e : ℕ × X) (es : List (ℕ × X)) (b : Bool) → test e.0 ≡ b → lookup test (remove_entry test (e ∷ es)) ≡ None
      → (lookup test (remove_entry test es) ≡ None → map (λ (e : ℕ × X). (e.0, g e.1)) (remove_entry test es) ≡ filter (λ (e : ℕ × Y). not (test e.0)) (map (λ (e : ℕ × X). (e.0, g e.1)) es))
      → map (λ (e : ℕ × X). (e.0, g e.1)) (remove_entry test (e ∷ es)) ≡ filter (λ (e : ℕ × Y). not (test e.0)) (map (λ (e : ℕ × X). (e.0, g e.1)) (e ∷ es))
  removed-at e es true is none more = rw (is) (none-others es (subst (λ b. lookup test (cond b es (e ∷ remove_entry test es)) ≡ None) is none))
  removed-at e es false is none more =
      rw (is)
      (ap (λ (xs : List (ℕ × Y)). (e.0, g e.1) ∷ xs)
      (more (subst (λ b. cond b (Some e.1) (lookup test (remove_entry test es)) ≡ None) is (subst (λ b. lookup test (cond b es (e ∷ remove_entry test es)) ≡ None) is none))))

  -- where no key passes after the first one that did is removed, all that do not pass are left
  pub removed-others : (es : List (ℕ × X)) → lookup test (remove_entry test es) ≡ None → map (λ (e : ℕ × X). (e.0, g e.1)) (remove_entry test es) ≡ filter (λ (e : ℕ × Y). not (test e.0)) (map (λ (e : ℕ × X). (e.0, g e.1)) es)
  removed-others [] none = refl
  removed-others (e ∷ es) none = removed-at e es (test e.0) refl none (removed-others es)

module _ {Y : Type 0} (test : ℕ → Bool) (f : ℕ → Y) where
  kept-at : (s : ℕ) (ss : List ℕ) (b : Bool) → test s ≡ b
      → filter (λ (e : ℕ × Y). not (test e.0)) (map (λ (s : ℕ). (s, f s)) ss) ≡ map (λ (s : ℕ). (s, f s)) (filter (λ s. not (test s)) ss)
      → filter (λ (e : ℕ × Y). not (test e.0)) (map (λ (s : ℕ). (s, f s)) (s ∷ ss)) ≡ map (λ (s : ℕ). (s, f s)) (filter (λ s. not (test s)) (s ∷ ss))
  kept-at s ss true is more = rw (is) more
  kept-at s ss false is more = rw (is) (ap (λ (xs : List (ℕ × Y)). (s, f s) ∷ xs) more)

  pub kept-others : (ss : List ℕ) → filter (λ (e : ℕ × Y). not (test e.0)) (map (λ (s : ℕ). (s, f s)) ss) ≡ map (λ (s : ℕ). (s, f s)) (filter (λ s. not (test s)) ss)
  kept-others [] = refl
  kept-others (s ∷ ss) = kept-at s ss (test s) refl (kept-others ss)

module _ (test p q : ℕ → Bool) (is_either : (s : ℕ) → q s ≡ cond (test s) true (p s)) where
  either-at : (s : ℕ) (ss : List ℕ) (b d : Bool) → test s ≡ b → p s ≡ d → filter (λ s. not (test s)) (filter (λ s. not (p s)) ss) ≡ filter (λ s. not (q s)) ss
      → filter (λ s. not (test s)) (filter (λ s. not (p s)) (s ∷ ss)) ≡ filter (λ s. not (q s)) (s ∷ ss)
  either-at s ss true true t u more = rw (is_either s, t, u) more
  either-at s ss true false t u more = rw (is_either s, u, t) more
  either-at s ss false true t u more = rw (is_either s, t, u) more
  either-at s ss false false t u more = rw (is_either s, u, t) (ap (λ (xs : List ℕ). s ∷ xs) more)

  pub filtered-either : (ss : List ℕ) → filter (λ s. not (test s)) (filter (λ s. not (p s)) ss) ≡ filter (λ s. not (q s)) ss
  filtered-either [] = refl
  filtered-either (s ∷ ss) = either-at s ss (test s) (p s) refl refl (filtered-either ss)

chosen-one : (v : Value) (b : Bool) (o : Option Value) → is_some (cond b (Some v) o) ≡ cond b true (is_some o)
chosen-one v true o = refl
chosen-one v false o = refl

-- the slot, or one that was chosen before
pub chosen-either : (slot : ℕ) (v : Value) (log : Log) (s : ℕ) → is_chosen s (MpRec.Choose slot v ∷ log) ≡ cond (is_at (nat_cmp slot) s) true (is_chosen s log)
unfolding is_chosen chosen_at choices at_slot
chosen-either slot v log s = rw (at-slot slot s) (chosen-one v (slot == s) _)

-- what is open when the value of a slot gets known
pub open-choose : (slot : ℕ) (v : Value) (me : ℕ) (log : Log) (votes : List (ℕ × ℕ))
    → filter (λ (e : ℕ × List ℕ). not (is_at (nat_cmp slot) e.0)) (map (with_voters votes) (open_of me log votes)) ≡ map (with_voters votes) (open_of me (MpRec.Choose slot v ∷ log) votes)
unfolding open_of with_voters
open-choose slot v me log votes =
    kept-others (is_at (nat_cmp slot)) _ (open_of me log votes)
    ∙ ap (map (with_voters votes)) (filtered-either (is_at (nat_cmp slot)) (λ s. is_chosen s log) (λ s. is_chosen s (MpRec.Choose slot v ∷ log)) (chosen-either slot v log) (slots_of me votes))

-- a lead, without the slot whose value gets known
pub closed : (l : Leading) (rest : BTreeMap ℕ (Vec ℕ Global)) (slot me : ℕ) (log : Log) (v : Value) (p : NoteOnPaper)
    → rest.entries ≡ remove_entry (is_at (nat_cmp slot)) l.open.entries → lookup (is_at (nat_cmp slot)) rest.entries ≡ None
    → NoteStands (Note.Leading l) me log p → NoteStands (Note.Leading (record l { «open» = rest })) me (MpRec.Choose slot v ∷ log) p
closed l rest slot me log v (NoteOnPaper.Leading b start next reports votes) removed gone s =
    record {
      ballot = s.ballot;
      next_is = s.next_is;
      open_are =
          ap (map (λ (e : ℕ × Vec ℕ Global). (e.0, e.1.items))) removed
          ∙ removed-others (is_at (nat_cmp slot)) (λ (w : Vec ℕ Global). w.items) l.open.entries (subst (λ es. lookup (is_at (nat_cmp slot)) es ≡ None) removed gone)
          ∙ ap (filter (λ (e : ℕ × List ℕ). not (is_at (nat_cmp slot) e.0))) s.open_are
          ∙ open-choose slot v me log votes;
      proposed = s.proposed;
      ballot_fits = s.ballot_fits;
    }
closed l rest slot me log v NoteOnPaper.Idle removed gone s = absurd s
closed l rest slot me log v (NoteOnPaper.Asking b start reports) removed gone s = absurd s
