-- The log that a stopped put leaves.
use Rattle.std.proofs.Common.{◌≡◌, ℕ, ◌<◌, ◌≤◌, List, [], ◌∷◌, length, Option, Some, Bool, true, false, nat_lt, cond, refl, sym, ◌∙◌, ap, subst, arith}
use Rattle.std.specs.Prelude.{◌&&◌, ◌||◌, ◌==◌}
use Rattle.std.proofs.lemmas.List.{append-nil}
use Rattle.std.proofs.lemmas.Bool.Decides.{nat_tests}
use Rattle.crsm_base.specs.Records.{body_bytes}
use Rattle.crsm_port_faults.specs.Plan.{Plan}
use Rattle.crsm_log.specs.Log.{Used, Serves}
use Rattle.crsm_ledger.specs.Recovered.{with_records}
use Rattle.crsm_spec.specs.Types.{Rec}
use Rattle.crsm_spec.specs.Log.{Log}
use Rattle.crsm_spec.specs.Draft.{Draft}
use Rattle.crsm_spec.specs.Moments.{is_kept}
use Rattle.crsm_shell.proofs.Files.{some_records, no_records}
use Rattle.crsm_shell.specs.Flushing.{keep_count}
use Rattle.crsm_shell.specs.Shell.{records_of}
use Rattle.crsm_sim_machine.specs.Outcomes.{is_cut_kept, log_after}

-- the records of one step
records_of_one : (x : Draft) → records_of (x ∷ []) ≡ x.batch
unfolding records_of
records_of_one x = append-nil x.batch

-- a put of as many calls as there are is kept
four_keep : (calls fill : ℕ) → 4 ≤ calls → calls ≤ 4 → is_kept calls fill ≡ true
unfolding is_kept
four_keep calls fill low high =
    let four : 4 ≡ calls = omega (arith, low, high) in
    subst (λ (k : ℕ). (k == 4 || (k == 3 && fill == 1)) ≡ true) four refl

none_kept : (b : Bool) (k : ℕ) → k ≡ 0 → (b && nat_lt 0 k) ≡ false
none_kept true k e = subst (λ (m : ℕ). nat_lt 0 m ≡ false) (sym e) refl
none_kept false k e = refl

some_kept : (b : Bool) (k : ℕ) → 1 ≤ k → (b && nat_lt 0 k) ≡ b
some_kept true k h = grind (arith, nat_tests)
some_kept false k h = refl

module _ (calls fill : ℕ) (kept : Log) (x : Draft) where
  -- a step without records leaves the log as it was
  without_records : x.batch ≡ [] → log_after calls fill kept x ≡ kept
  unfolding is_cut_kept
  without_records none = ap (λ (b : Bool). cond b x.replica.log kept) (none_kept (is_kept calls fill) (length x.batch) (ap length none))

  with_some : 1 ≤ length x.batch → log_after calls fill kept x ≡ cond (is_kept calls fill) x.replica.log kept
  unfolding is_cut_kept
  with_some some = ap (λ (b : Bool). cond b x.replica.log kept) (some_kept (is_kept calls fill) (length x.batch) some)

  -- a put that succeeded on a disk with no more good calls than these
  module _ (p : Plan) (plan : Option Plan) (good : p.good ≡ Some calls) where
    all_four : 1 ≤ length x.batch → (body : List ℕ) → body_bytes (records_of (x ∷ [])) ≡ body → Used (keep_count body) p plan → 4 ≤ calls
    all_four some [] is used =
        let none : [] ≡ x.batch = sym (no_records (records_of (x ∷ [])) is) ∙ records_of_one x in
        let zero = ap (λ (rs : List Rec). length rs) none in
        absurd (omega (arith, some, zero))
    all_four some (b ∷ body) is used = subst (Serves 4) good used.served

    pub whole_put : calls ≤ 4 → Used (keep_count (body_bytes (records_of (x ∷ [])))) p plan → x.replica.log ≡ with_records kept x.batch → x.replica.log ≡ log_after calls fill kept x
    whole_put high used log = go x.batch refl
      where
        go : (batch : List Rec) → x.batch ≡ batch → x.replica.log ≡ log_after calls fill kept x
        go [] none = log ∙ ap (with_records kept) none ∙ sym (without_records none)
        go (rec ∷ batch) is =
            let long = ap (λ (rs : List Rec). length rs) is in
            let some : 1 ≤ length x.batch = omega (arith, long) in
            let low = all_four some (body_bytes (records_of (x ∷ []))) refl used in
            sym (with_some some ∙ ap (λ (b : Bool). cond b x.replica.log kept) (four_keep calls fill low high))

  -- a put that was stopped after this number of calls
  pub stopped_put : (made : ℕ) → calls ≡ made → 0 < length (body_bytes (records_of (x ∷ []))) → cond (is_kept made fill) x.replica.log kept ≡ log_after calls fill kept x
  stopped_put made same some =
      let records = some_records (records_of (x ∷ [])) some in
      let long = ap (λ (rs : List Rec). length rs) (records_of_one x) in
      let more : 1 ≤ length x.batch = omega (arith, records, long) in
      ap (λ (k : ℕ). cond (is_kept k fill) x.replica.log kept) (sym same) ∙ sym (with_some more)
