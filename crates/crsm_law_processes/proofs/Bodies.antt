-- The bytes and the turns of a process over its log file.
use Rattle.std.proofs.Common.{◌≡◌, ℕ, ◌+◌, ◌≤◌, List, [], ◌∷◌, ◌++◌, length, length-append, sym, ◌∙◌, ap, subst, arith, append_assoc}
use Rattle.std.specs.List.{AllByRecursion}
use Rattle.std.proofs.lemmas.List.{append-nil}
use Rattle.std.proofs.lemmas.List.Sums.{sum_by-cons}
use Rattle.crsm_base.specs.Records.{body_bytes, rec_bytes}
use Rattle.crsm_spec.specs.Types.{Rec}
use Rattle.crsm_spec.specs.Log.{Log}
use Rattle.crsm_spec.specs.Node.{Turn}
use Rattle.crsm_spec_process.specs.Lives.{Group, Life, kept_turns}
use Rattle.crsm_spec_process.specs.Turns.{CanBeTaken}
use Rattle.crsm_fact_log.specs.Logs.{with_records}
use Rattle.crsm_ledger.specs.Recovered.{AreKept}
use Rattle.crsm_law_lives.specs.Premises.{IsProcess}
use Rattle.crsm_law_processes.specs.Files.{size_of, with_lost_kept}

-- ---- the size of a log

-- each record takes a byte at least
rec_some : (rec : Rec) → 1 ≤ length (rec_bytes rec)
unfolding rec_bytes
rec_some (Rec.Boot me n) = omega arith
rec_some (Rec.Prepare f) = omega arith
rec_some (Rec.Commit s) = omega arith
rec_some (Rec.Adopt p es) = omega arith
rec_some (Rec.Suspend e) = omega arith
rec_some (Rec.Promise i b) = omega arith
rec_some (Rec.Accept i b d) = omega arith
rec_some (Rec.Decide d) = omega arith
rec_some (Rec.Enter e) = omega arith

recs_size : (recs : List Rec) → length recs ≤ length (body_bytes recs)
unfolding body_bytes
recs_size [] = omega arith
recs_size (rec ∷ recs) =
    let here = rec_some rec in
    let rest = recs_size recs in
    let both = length-append (rec_bytes rec) (body_bytes recs) in
    omega (arith, here, rest, both)

more_length : (log : Log) (recs : List Rec) → length (with_records log recs) ≡ length log + length recs
more_length log [] = omega arith
more_length log (rec ∷ recs) = let t = more_length (rec ∷ log) recs in omega (arith, t)

pub kept_size : (me n : ℕ) (log : Log) (bodies : List (List ℕ)) (end : Log) → AreKept me n log bodies end → length end ≤ length log + size_of bodies
unfolding size_of
kept_size me n log [] end p = let e = ap (λ (l : Log). length l) p in omega (arith, e)
kept_size me n log (body ∷ bodies) end p =
    let rest = kept_size me n (with_records log p.0) bodies end p.3 in
    let one = more_length log p.0 in
    let size = recs_size p.0 in
    let is = ap (λ (b : List ℕ). length b) p.1.is in
    let all = sum_by-cons (λ (b : List ℕ). length b) body bodies in
    omega (arith, rest, one, size, is, all)

-- ---- a group that was kept after all

-- the turns are the same
pub all_turns : (gs : List Group) (lost : List (Turn × ℕ)) → kept_turns (gs ++ record { turns = lost; fates = [] } ∷ []) ≡ kept_turns gs ++ lost
unfolding kept_turns
all_turns [] lost = append-nil lost
all_turns (g ∷ gs) lost = ap (λ z. g.turns ++ z) (all_turns gs lost) ∙ sym (append_assoc g.turns (kept_turns gs) lost)

pub kept_after_all : (l : Life) → IsProcess l → IsProcess (with_lost_kept l)
unfolding with_lost_kept
kept_after_all l p = record {
  number = p.number;
  turns = subst (AllByRecursion CanBeTaken) (sym (append-nil (kept_turns (l.groups ++ record { turns = l.lost; fates = [] } ∷ [])) ∙ all_turns l.groups l.lost)) p.turns;
}
