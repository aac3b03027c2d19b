-- Files, their bodies, and the logs of these.
use Rattle.std.proofs.Common.{◌≡◌, IsTrue, ℕ, zero, suc, ◌<◌, ◌≤◌, List, [], ◌∷◌, ◌++◌, length, take, refl, sym, ◌∙◌, ap, subst, inl, inr, arith, length-append, Bool, true, false}
use Rattle.std.specs.Prelude.{Option, Some, None, IfSome, if◌then◌else◌}
use Rattle.std.specs.List.{AllByRecursion, flat_map}
use Rattle.std.proofs.lemmas.Option.{none-some}
use Rattle.crsm_base.specs.declared.rec.Rec.{Rec}
use Rattle.crsm_base.specs.declared.rec.Rec.TheVariants as rec
use Rattle.crsm_base.specs.Records.{FitsRec, SpeltBody, body_bytes, rec_bytes}
use Rattle.crsm_spec.specs.Log.{Log}
use Rattle.crsm_spec.specs.Moments.{is_kept}
use Rattle.crsm_port_image.specs.Calls.{Call, History, contents}
use Rattle.crsm_port_image.specs.Image.{image_of}
use Rattle.crsm_disk.specs.Meaning.{Meaning}
use Rattle.crsm_ledger.specs.Recovered.{AreKept, FitInTurn, with_records}
use Rattle.crsm_ledger.proofs.RecoverLemmas.{kept-push}
use Rattle.crsm_log.specs.Format.{bodies_in, bodies_of, found, reading}
use Rattle.crsm_log.specs.Log.{IsSettled, is_quiet, is_synced, put_calls, recorded}
use Rattle.crsm_log.specs.Stop.{IsWhole, StopKeeps, kept}
use Rattle.crsm_shell.specs.Flushing.{Adds, IsLeft, IsOneOf}
use Rattle.crsm_shell.specs.Shell.{HasLog}

-- ---- bytes of records

rec_some : (r : Rec) → 0 < length (rec_bytes r)
unfolding rec_bytes
rec_some (rec.Boot me n) = omega arith
rec_some (rec.Prepare entry) = omega arith
rec_some (rec.Commit stamp) = omega arith
rec_some (rec.Adopt place entries) = omega arith
rec_some (rec.Suspend epoch) = omega arith
rec_some (rec.Promise instance ballot) = omega arith
rec_some (rec.Accept instance ballot decision) = omega arith
rec_some (rec.Decide decision) = omega arith
rec_some (rec.Enter epoch) = omega arith

-- where there are bytes there are records
pub some_records : (recs : List Rec) → 0 < length (body_bytes recs) → 1 ≤ length recs
unfolding body_bytes
some_records [] h = absurd (omega (arith, h))
some_records (r ∷ recs) h = omega arith

pub no_records : (recs : List Rec) → body_bytes recs ≡ [] → recs ≡ []
unfolding body_bytes
no_records [] h = refl
no_records (r ∷ recs) h = let some = rec_some r in let none = ap length h in let long = length-append (rec_bytes r) (flat_map rec_bytes recs) in absurd (omega (arith, some, none, long))

pub no_body : (recs : List Rec) → recs ≡ [] → body_bytes recs ≡ []
unfolding body_bytes
no_body recs none = ap (flat_map rec_bytes) none

-- ---- a file with one body more

pub has_log : (me n : ℕ) (file : List ℕ) (bodies : List (List ℕ)) (log : Log) → reading file ≡ found bodies → AreKept me n [] bodies log → HasLog me n file log
unfolding HasLog
has_log me n file bodies log is are_kept =
    let same : bodies_of file ≡ bodies = ap bodies_in is in
    record { whole = is ∙ sym (ap found same); kept = subst (λ (bs : List (List ℕ)). AreKept me n [] bs log) (sym same) are_kept }

-- the records of a group, behind the log on the disk
pub record IsGroup (me n : ℕ) (before : Log) (recs : List Rec) (after : Log) : Type 0 where
  pub spelt : AllByRecursion FitsRec recs
  pub fit : FitInTurn me n before recs
  pub log : after ≡ with_records before recs

spelt_body : (recs : List Rec) → AllByRecursion FitsRec recs → 0 < length (body_bytes recs) → SpeltBody recs (body_bytes recs)
spelt_body recs spelt some = record { fits = record { some = some_records recs some; fit = spelt }; is = refl }

module _ (me n : ℕ) (file : List ℕ) (before : Log) (recs : List Rec) (after : Log) (has : HasLog me n file before) (group : IsGroup me n before recs after) where
  pub kept_before : (new : List ℕ) → reading new ≡ found (bodies_of file) → HasLog me n new before
  unfolding HasLog
  kept_before new is = has_log me n new (bodies_of file) before is has.kept

  pub kept_after : (new : List ℕ) → 0 < length (body_bytes recs) → reading new ≡ found (bodies_of file ++ body_bytes recs ∷ []) → HasLog me n new after
  unfolding HasLog
  kept_after new some is =
      subst (HasLog me n new) (sym group.log)
      (has_log me n new (bodies_of file ++ body_bytes recs ∷ []) (with_records before recs) is
      (kept-push me n [] before (bodies_of file) (body_bytes recs) recs has.kept (spelt_body recs group.spelt some) group.fit))

  pub one_of : (new : List ℕ) → IsLeft (bodies_of file) (body_bytes recs) new → IsOneOf me n before after new
  one_of new (inl is) = inl (kept_before new is)
  one_of new (inr is) = inr (kept_after new is.0 is.1)

  pub added : (new : List ℕ) → Adds (body_bytes recs) file new → HasLog me n new after
  added new adds = go (body_bytes recs) refl adds
    where
      go : (body : List ℕ) → body_bytes recs ≡ body → Adds body file new → HasLog me n new after
      go [] none same =
          let stays : after ≡ before = group.log ∙ ap (with_records before) (no_records recs none) in
          subst (HasLog me n new) (sym stays) (subst (λ (f : List ℕ). HasLog me n f before) (sym same) has)
      go (b ∷ body) is more = kept_after new (subst (λ (bs : List ℕ). 0 < length bs) (sym is) (omega arith)) (more ∙ ap (λ (bs : List ℕ). found (bodies_of file ++ bs ∷ [])) (sym is))

  pub one_of_two : (new : List ℕ) (b : Bool) → 0 < length (body_bytes recs) → reading new ≡ found (if b then bodies_of file ++ body_bytes recs ∷ [] else bodies_of file) → HasLog me n new (if b then after else before)
  one_of_two new true some is = kept_after new some is
  one_of_two new false some is = kept_before new is

-- ---- the image of a stopped disk

recorded_none : (calls : List Call) → recorded calls None ≡ None
recorded_none [] = refl
recorded_none (call ∷ calls) = recorded_none calls

kept_is : (made fill : ℕ) (bodies : List (List ℕ)) (body : List ℕ) → made < 4 → kept made fill bodies body ≡ (if is_kept made fill then bodies ++ body ∷ [] else bodies)
unfolding is_kept
kept_is zero fill bodies body h = refl
kept_is (suc zero) fill bodies body h = refl
kept_is (suc (suc zero)) fill bodies body h = refl
kept_is (suc (suc (suc zero))) fill bodies body h = refl
kept_is (suc (suc (suc (suc made)))) fill bodies body h = absurd (omega (arith, h))

module _ (law : (h : History) (end : ℕ) (body : List ℕ) (fill made : ℕ) → IsTrue (is_synced h.calls) → IsWhole (contents h.first h.calls) end → made ≤ 4 → length body < 2147483648 → StopKeeps h end body made fill)
    (m : Meaning) (end : ℕ) (body : List ℕ) (made : ℕ) (s : IsSettled m end) (short : made < 4) (small : length body < 2147483648) where
  whole : (h : History) → m.history ≡ Some h → IsWhole (contents h.first h.calls) end
  whole h is =
      subst (λ (file : List ℕ). IsWhole file end) (sym (m.as_told h is)) (record { whole = s.whole; place = s.place; inside = s.inside; shut = s.shut })

  from : (before : Option History) (h : History) (fill : ℕ) → m.history ≡ before → recorded (take made (put_calls end body)) before ≡ Some h →
      reading (image_of h.first h.calls fill) ≡ found (if is_kept made fill then bodies_of m.seen ++ body ∷ [] else bodies_of m.seen)
  from None h fill was is = absurd (none-some h (sym (recorded_none (take made (put_calls end body))) ∙ is))
  from (Some g) h fill was is =
      let keeps = law g end body fill made (subst (λ (o : Option History). IsTrue (is_quiet o)) was s.quiet) (whole g was) (omega (arith, short)) small in
      let there = subst (λ (o : Option History). IfSome o (λ k. reading (image_of k.first k.calls fill) ≡ found (kept made fill (bodies_of (contents g.first g.calls)) body))) is keeps in
      there ∙ ap found (kept_is made fill (bodies_of (contents g.first g.calls)) body short
      ∙ ap (λ (file : List ℕ). if is_kept made fill then bodies_of file ++ body ∷ [] else bodies_of file) (m.as_told g was))

  pub stopped_image : (h : History) (fill : ℕ) → recorded (take made (put_calls end body)) m.history ≡ Some h →
      reading (image_of h.first h.calls fill) ≡ found (if is_kept made fill then bodies_of m.seen ++ body ∷ [] else bodies_of m.seen)
  stopped_image h fill is = from m.history h fill refl is
