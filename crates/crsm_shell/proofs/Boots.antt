-- The output of a boot, and the effects of its mount and put on the disk.
use Rattle.std.proofs.Common.{◌≡◌, ℕ, ◌+◌, ◌-◌, ◌<◌, ◌≤◌, List, [], ◌∷◌, ◌++◌, length, refl, sym, ◌∙◌, ap, subst, arith, Bool, true, false, map, append-nil}
use Rattle.std.specs.Prelude.{Option, Some, None, nat_lt}
use Rattle.std.proofs.lemmas.Option.{none-some, same_Some}
use Rattle.crsm_base.specs.Records.{body_bytes, rec_bytes}
use Rattle.crsm_spec.specs.Choice.{when◌then◌otherwise◌}
use Rattle.crsm_spec.specs.Types.{Line}
use Rattle.crsm_spec.specs.Log.{Log}
use Rattle.crsm_replica_output.specs.declared.batch.Batch.{Batch}
use Rattle.crsm_replica_output.specs.Made.{IsBatchOf, line_of, made_of}
use Rattle.crsm_spec.specs.Draft.{Draft, Reply, begun, keep}
use Rattle.crsm_spec.specs.Replica.{fresh}
use Rattle.crsm_spec.specs.Step.{boot, boot_again, first_boot, founding_boot}
use Rattle.crsm_port_faults.specs.Counts.{Rose}
use Rattle.crsm_port_faults.specs.Plan.{Plan}
use Rattle.crsm_log.specs.Log.{Goes, MeetsIn, Serves, Used, less}
use Rattle.crsm_disk.specs.Meaning.{Meaning}
use Rattle.crsm_fact_step.specs.Steps.{Grown}

-- ---- the records of a boot

pub boot_grown : (me n : ℕ) (log : Log) → Grown (fresh me n log) (boot me n log)
unfolding boot first_boot founding_boot boot_again keep begun fresh when◌then◌otherwise◌
boot_grown me n [] = go (nat_lt me n)
  where
    go : (b : Bool) → Grown (fresh me n []) (when b then founding_boot me n otherwise boot_again me n [])
    go true = record { me = refl; n = refl; log = refl }
    go false = record { me = refl; n = refl; log = refl }
boot_grown me n (rec ∷ log) = record { me = refl; n = refl; log = refl }

pub boot_some : (me n : ℕ) (log : Log) → 0 < length (body_bytes (boot me n log).batch)
unfolding boot first_boot founding_boot boot_again keep begun fresh when◌then◌otherwise◌ body_bytes rec_bytes
boot_some me n [] = go (nat_lt me n)
  where
    go : (b : Bool) → 0 < length (body_bytes (when b then founding_boot me n otherwise boot_again me n []).batch)
    go true = omega arith
    go false = omega arith
boot_some me n (rec ∷ log) = omega arith

-- ---- the calls of the disk that go well

serves_more : (a b : ℕ) (good : Option ℕ) → Serves a good → Serves b (less a good) → Serves (a + b) good
serves_more a b None p q = tt
serves_more a b (Some good) p q = omega (arith, p, q)

less_more : (a b : ℕ) (good : Option ℕ) → less b (less a good) ≡ less (a + b) good
less_more a b None = refl
less_more a b (Some good) = ap Some (omega arith)

pub used_more : (a b : ℕ) (p q : Plan) (new : Option Plan) → Serves a p.good → q.good ≡ less a p.good → Used b q new → Used (a + b) p new
used_more a b p q new served left u = record {
  served = serves_more a b p.good served (subst (λ (good : Option ℕ). Serves b good) left u.served);
  left = (u.left.0, u.left.1, u.left.2 ∙ ap (less b) left ∙ less_more a b p.good);
}

meets_at : (a : ℕ) (k : ℕ) (good : Option ℕ) → Serves a good → less a good ≡ Some k → good ≡ Some (a + k)
meets_at a k None served is = absurd (none-some k is)
meets_at a k (Some good) served is = let e : good - a ≡ k = same_Some (good - a) k is in ap Some (omega (arith, served, e))

pub meets_behind : (a made : ℕ) (p q : Plan) (plan : Option Plan) → made < 4 → plan ≡ Some p → Serves a p.good → q.good ≡ less a p.good → q.good ≡ Some made → MeetsIn (a + 4) plan
meets_behind a made p q plan short told served left stops o is =
    let same : p ≡ o = same_Some p o (sym told ∙ is) in
    (a + made, omega (arith, short), subst (λ (x : Plan). x.good ≡ Some (a + made)) same (meets_at a made p.good served (sym left ∙ stops)))

pub rose_behind : (a b c : ℕ) → a ≤ b → Rose b c → Rose a c
rose_behind a b c le rose = omega (arith, le, rose)

pub goes_behind : (a b c : Meaning) → Goes a b → Goes b c → Goes a c
goes_behind a b c p q = let l = p.later in let m = q.later in record { honest = q.honest ∙ p.honest; fill = q.fill ∙ p.fill; borrowed_as = q.borrowed_as ∙ p.borrowed_as; later = omega (arith, l, m) }

-- ---- what a boot hands out

record IsQuiet (x : Draft) : Type 0 where
  excess : x.excess ≡ []
  replies : x.replies ≡ []

boot_quiet : (me n : ℕ) (log : Log) → IsQuiet (boot me n log)
unfolding boot first_boot founding_boot boot_again keep begun fresh when◌then◌otherwise◌
boot_quiet me n [] = go (nat_lt me n)
  where
    go : (b : Bool) → IsQuiet (when b then founding_boot me n otherwise boot_again me n [])
    go true = record { excess = refl; replies = refl }
    go false = record { excess = refl; replies = refl }
boot_quiet me n (rec ∷ log) = record { excess = refl; replies = refl }

pub boot_lines : (me n : ℕ) (log : Log) (batch : Batch) → IsBatchOf batch (made_of (boot me n log)) → batch.lines ≡ (boot me n log).lines
boot_lines me n log batch made =
    let x = boot me n log in
    let q = boot_quiet me n log in
    made.lines ∙ ap (λ (rs : List Reply). (x.lines ++ x.excess) ++ map line_of rs) q.replies
    ∙ append-nil (x.lines ++ x.excess) ∙ ap (λ (es : List Line). x.lines ++ es) q.excess ∙ append-nil x.lines
