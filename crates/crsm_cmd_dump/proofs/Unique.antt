-- A file has one dump, or is refused for one body and one reason.
use Rattle.std.proofs.Common.{◌≡◌, ℕ, List, [], ◌∷◌, length, ap, sym, ◌∙◌, subst, inl, inr}
use Rattle.crsm_base.specs.Records.{SpeltBody}
use Rattle.crsm_ledger.specs.Recovered.{AreKept, IsBadAt, with_records}
use Rattle.crsm_log.specs.Format.{bad, cluster_of, found, reading}
use Rattle.crsm_replica_rerun.specs.Laws.{BadLogsAreOne, KeptAreNotBad}
use Rattle.crsm_spec.specs.Types.{Rec}
use Rattle.crsm_spec.specs.Log.{Log}
use Rattle.crsm_cmd_dump.specs.declared.part.Part.{Part}
use Rattle.crsm_cmd_dump.specs.Dumps.{IsDump, IsRefused}
use Rattle.crsm_cmd_dump.specs.Texts.{Text, cluster_number, dump_text}

same_bodies : (file : Text) (a b : List Text) → reading file ≡ found a → reading file ≡ found b → a ≡ b
same_bodies file a b p q = let both : found a ≡ found b = sym p ∙ q in cc both

not_both : (file : Text) (a : List Text) (entry : ℕ) → reading file ≡ found a → reading file ≡ bad entry → ⊥
not_both file a entry p q = let both : found a ≡ bad entry = sym p ∙ q in cc both

same_entry : (file : Text) (e f : ℕ) → reading file ≡ bad e → reading file ≡ bad f → e ≡ f
same_entry file e f p q = let both : bad e ≡ bad f = sym p ∙ q in cc both

module _ (one : (a b : List Rec) (s : Text) → SpeltBody a s → SpeltBody b s → a ≡ b) (me n : ℕ) where
  kept_one : (log : Log) (bodies : List Text) (a b : Log) → AreKept me n log bodies a → AreKept me n log bodies b → a ≡ b
  kept_one log [] a b p q = p ∙ sym q
  kept_one log (body ∷ bodies) a b p q =
      let same : p.0 ≡ q.0 = one p.0 q.0 body p.1 q.1 in
      kept_one (with_records log q.0) bodies a b (subst (λ (recs : List Rec). AreKept me n (with_records log recs) bodies a) same p.3) q.3

  pub one_text : (part : Part) (file a b : Text) → IsDump me n part file a → IsDump me n part file b → a ≡ b
  one_text part file a b p q =
      let bodies = same_bodies file p.bodies q.bodies p.holds q.holds in
      let log = kept_one [] q.bodies p.log q.log (subst (λ (bs : List Text). AreKept me n [] bs p.log) bodies p.kept) q.kept in
      p.text_is ∙ ap (λ (bs : List Text). dump_text part n (cluster_number (cluster_of file)) (length bs) p.log) bodies
      ∙ ap (dump_text part n (cluster_number (cluster_of file)) (length q.bodies)) log ∙ sym q.text_is

module _ (kept : KeptAreNotBad) (one_bad : BadLogsAreOne) (me n : ℕ) where
  pub not_refused : (entry why : ℕ) (part : Part) (file text : Text) → IsDump me n part file text → IsRefused me n file entry why → ⊥
  not_refused entry why part file text d (inl missing) = not_both file d.bodies entry d.holds missing.1
  not_refused entry why part file text d (inr no_log) =
      let bodies = same_bodies file no_log.bodies d.bodies no_log.holds d.holds in
      kept me n d.bodies d.log entry why d.kept (subst (λ (bs : List Text). IsBadAt me n bs entry why) bodies no_log.bad_at)

  pub one_refusal : (e f w v : ℕ) (file : Text) → IsRefused me n file e w → IsRefused me n file f v → (e ≡ f) × (w ≡ v)
  one_refusal e f w v file (inl p) (inl q) = (same_entry file e f p.1 q.1, p.0 ∙ sym q.0)
  one_refusal e f w v file (inl p) (inr q) = absurd (not_both file q.bodies e q.holds p.1)
  one_refusal e f w v file (inr p) (inl q) = absurd (not_both file p.bodies f p.holds q.1)
  one_refusal e f w v file (inr p) (inr q) =
      let bodies = same_bodies file p.bodies q.bodies p.holds q.holds in
      one_bad me n q.bodies e f w v (subst (λ (bs : List Text). IsBadAt me n bs e w) bodies p.bad_at) q.bad_at
