-- The pending steps of a shell, as a group of records after the durable log.
use Rattle.std.proofs.Common.{◌≡◌, IsTrue, ℕ, ◌<◌, List, [], ◌∷◌, length, refl, sym, ◌∙◌, ap, subst, inl, arith}
use Rattle.crsm_replica_epoch.specs.EpochState.{EachFits}
use Rattle.crsm_spec.specs.Log.{Log}
use Rattle.crsm_spec.specs.Moments.{is_kept}
use Rattle.crsm_spec.specs.Replica.{Replica}
use Rattle.crsm_spec.specs.Draft.{Draft}
use Rattle.crsm_base.specs.Records.{body_bytes}
use Rattle.crsm_ledger.specs.Recovered.{with_records}
use Rattle.crsm_disk.specs.Meaning.{LeavesOnly, Meaning}
use Rattle.crsm_disk.proofs.Moments.{started, weaker}
use Rattle.crsm_port_image.specs.Image.{image_of}
use Rattle.crsm_log.specs.Format.{bodies_of, gate_in, reading}
use Rattle.crsm_log.specs.Log.{IsSettled}
use Rattle.crsm_shell.specs.declared.shell.Shell.{Shell}
use Rattle.crsm_shell.specs.Flushing.{Adds, IsFull, IsLeft, IsOneOf, IsPast, StopsFlush, StopsPut}
use Rattle.crsm_shell.specs.Shell.{HasLog, ShellStands, StandsInside, records_of}
use Rattle.crsm_shell.proofs.Cores.{core_fits}
use Rattle.crsm_shell.proofs.Files.{IsGroup, added, one_of, one_of_two}
use Rattle.crsm_shell.proofs.Records.{fits_in_turn}

no_records_pend : (kept : Log) (steps : List Draft) → length steps ≡ 0 → with_records kept (records_of steps) ≡ kept
unfolding records_of
no_records_pend kept [] none = refl
no_records_pend kept (x ∷ steps) none = absurd (omega (arith, none))

module _ {D : Type 0} {g : _} (shell : Shell D g) (m : Meaning) (kept : Log) (r : Replica) (steps : List Draft) where
  pub inside : ShellStands shell m kept r steps → StandsInside shell m kept r steps
  unfolding ShellStands
  inside s = s

  pub group : ShellStands shell m kept r steps → IsGroup r.me r.n kept (records_of steps) r.log
  unfolding ShellStands
  group s = record {
    spelt = s.spelt;
    fit = (fits_in_turn r.me r.n kept (records_of steps) (subst (EachFits r.me r.n) s.log (core_fits shell.core.value r s.core))).0;
    log = s.log;
  }

  -- where nothing is pending
  pub all_kept : ShellStands shell m kept r steps → length steps ≡ 0 → r.log ≡ kept
  all_kept s none = (inside s).log ∙ no_records_pend kept steps none

  pub left_one : ShellStands shell m kept r steps → IsTrue m.honest → (new : Meaning) (body : List ℕ) → body ≡ body_bytes (records_of steps) →
      LeavesOnly m new (IsLeft (bodies_of m.seen) body) → LeavesOnly m new (IsOneOf r.me r.n kept r.log)
  left_one s honest new body is left =
      let P = IsLeft (bodies_of m.seen) (body_bytes (records_of steps)) in
      weaker m new P (IsOneOf r.me r.n kept r.log) (subst (λ (b : List ℕ). LeavesOnly m new (IsLeft (bodies_of m.seen) b)) is left)
      (one_of r.me r.n m.seen kept (records_of steps) r.log ((inside s).file honest) (group s))

  -- where the disk is not called
  pub left_alone : ShellStands shell m kept r steps → IsTrue m.honest → (end : ℕ) → IsSettled m end → LeavesOnly m m (IsOneOf r.me r.n kept r.log)
  left_alone s honest end settled =
      started m (IsOneOf r.me r.n kept r.log) (λ c left. inl (subst (λ (f : List ℕ). HasLog r.me r.n f kept) (sym (settled.durable c left)) ((inside s).file honest)))

  pub stops_flush : ShellStands shell m kept r steps → (new : Meaning) (gate : ℕ) (body : List ℕ) → body ≡ body_bytes (records_of steps) → 0 < length body →
      StopsPut gate body m new → StopsFlush gate (body_bytes (records_of steps)) kept r m new
  stops_flush s new gate body is some stops =
      let t = subst (λ (b : List ℕ). StopsPut gate b m new) is stops in
      let there = subst (λ (b : List ℕ). 0 < length b) is some in
      record {
        made = t.made;
        short = t.short;
        some = there;
        history = t.history;
        good = t.good;
        image = λ h fill honest told.
            one_of_two r.me r.n m.seen kept (records_of steps) r.log ((inside s).file honest) (group s) (image_of h.first h.calls fill) (is_kept t.made fill) there (t.image h fill honest told);
      }

  pub kept_all : ShellStands shell m kept r steps → IsTrue m.honest → (file body : List ℕ) → body ≡ body_bytes (records_of steps) → Adds body m.seen file → HasLog r.me r.n file r.log
  kept_all s honest file body is adds =
      added r.me r.n m.seen kept (records_of steps) r.log ((inside s).file honest) (group s) file (subst (λ (b : List ℕ). Adds b m.seen file) is adds)

-- where the disk is not called, a crash leaves its bodies
pub left_bodies : (m : Meaning) (body : List ℕ) (end : ℕ) → IsSettled m end → LeavesOnly m m (IsLeft (bodies_of m.seen) body)
left_bodies m body end settled =
    started m (IsLeft (bodies_of m.seen) body) (λ c left. inl (ap reading (settled.durable c left) ∙ settled.whole))

-- an entry that passes the limit behind the gate passes it behind the bodies
pub full_at : (m : Meaning) (gate : ℕ) (body bytes : List ℕ) → IsSettled m gate → body ≡ bytes → IsPast gate body → IsFull m.seen bytes
full_at m gate body bytes s is past = subst (IsPast (gate_in m.seen)) is (subst (λ (k : ℕ). IsPast k body) s.place past)

pub past_at : (m : Meaning) (gate : ℕ) (body bytes : List ℕ) → IsSettled m gate → body ≡ bytes → IsFull m.seen bytes → IsPast gate body
past_at m gate body bytes s is full = subst (IsPast gate) (sym is) (subst (λ (k : ℕ). IsPast k bytes) (sym s.place) full)
