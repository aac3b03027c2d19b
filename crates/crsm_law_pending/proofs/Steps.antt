-- The lines of a step name the datagrams that it sends.
use Rattle.std.proofs.Common.{◌≡◌, ℕ, zero, suc, ◌+◌, List, [], ◌∷◌, ◌++◌, length, refl, sym, ◌∙◌, ap, subst, true, map, drop, Option, None, Some}
use Rattle.std.specs.Prelude.{slice_get, slice_set}
use Rattle.std.specs.Option.{option_map_or}
use Rattle.std.proofs.lemmas.List.{append-nil}
use Rattle.crsm_spec.specs.Types.{Datagram}
use Rattle.crsm_spec.specs.Replica.{Replica}
use Rattle.crsm_spec.specs.Draft.{Draft, Reply, begun}
use Rattle.crsm_spec.specs.Step.{Input, step}
use Rattle.crsm_spec.specs.World.{Site, Packet, World, Moment, packet_of, send_line, send_lines, whole_step, after_step}
use Rattle.crsm_spec.specs.Acts.{Single}
use Rattle.crsm_spec.specs.Moments.{silent, begun_at, use_up, step_at_site, step_at, come, junk_at, single, moments_of, world_after, lines_of, act}
use Rattle.crsm_fact_step.specs.Changes.{StepsAreChanges}
use Rattle.crsm_law_pending.specs.Posts.{post_of, posts, posts_from, new_packets, SendsAreTold}
use Rattle.crsm_law_pending.proofs.Lines.{IsSilent, posts_then, changes_silent}

-- the lines of a moment tell of the datagrams behind the first ones
abbrev IsTold : ℕ → Moment → Type 0
IsTold count m = posts m.lines ≡ posts_from count (drop count m.after.packets)

sends_told : (k i : ℕ) (sends : List (ℕ × Datagram)) → posts (send_lines k i sends) ≡ posts_from i (map (packet_of k) sends)
unfolding posts post_of posts_from send_lines send_line packet_of
sends_told k i [] = refl
sends_told k i (s ∷ sends) = ap (λ ps. record { number = i; from = k; to = s.0 } ∷ ps) (sends_told k (i + 1) sends)

drop_prefix : {A : Type 0} (xs ys : List A) → drop (length xs) (xs ++ ys) ≡ ys
drop_prefix [] ys = refl
drop_prefix (x ∷ xs) ys = drop_prefix xs ys

drop_all : {A : Type 0} (xs : List A) → drop (length xs) xs ≡ []
drop_all [] = refl
drop_all (x ∷ xs) = drop_all xs

none_told : (w : World) → IsTold (length w.packets) (silent w w)
unfolding silent posts posts_from
none_told w = sym (ap (posts_from (length w.packets)) (drop_all w.packets))

whole_told : (w : World) (k : ℕ) (x : Draft) → IsSilent x → IsTold (length w.packets) (whole_step w k x)
unfolding whole_step after_step
whole_told w k x s =
    let sent = send_lines k (length w.packets) x.sends in
    let told = map (λ (a : Reply). a.line) x.replies in
    posts_then ((x.lines ++ x.excess) ++ sent) told
    ∙ ap (λ ps. posts ((x.lines ++ x.excess) ++ sent) ++ ps) s.replies
    ∙ append-nil (posts ((x.lines ++ x.excess) ++ sent))
    ∙ posts_then (x.lines ++ x.excess) sent
    ∙ ap (λ ps. ps ++ posts sent) (posts_then x.lines x.excess ∙ ap (λ ps. ps ++ posts x.excess) s.lines ∙ s.excess)
    ∙ sends_told k (length w.packets) x.sends
    ∙ ap (posts_from (length w.packets)) (sym (drop_prefix w.packets (map (packet_of k) x.sends)))

begun_silent : (r : Replica) → IsSilent (begun r)
unfolding begun posts
begun_silent r = record { lines = refl; excess = refl; replies = refl }

set_length : {A : Type 0} (xs : List A) (i : ℕ) (a : A) → length (slice_set xs i a) ≡ length xs
set_length [] i a = refl
set_length (x ∷ xs) zero a = refl
set_length (x ∷ xs) (suc i) a = ap suc (set_length xs i a)

used_length : (i : ℕ) (w : World) → length (use_up i w).packets ≡ length w.packets
unfolding use_up
used_length i w =
    elim (slice_get w.packets i) as (λ (o : Option Packet). length (option_map_or (λ m. slice_set w.packets i (record m { used = true })) o w.packets) ≡ length w.packets) [
      | None ↦ refl
      | Some m ↦ set_length w.packets i (record m { used = true })
    ]

module _ (law : StepsAreChanges) where
  step_silent : (r : Replica) (input : Input) (reading : ℕ) → IsSilent (step r input reading)
  step_silent r input reading = changes_silent r input reading (begun r) (step r input reading) (law r input reading) (begun_silent r)

  site_told : (w : World) (k : ℕ) (input : Input) (t : ℕ) (site : Option Site) → IsTold (length w.packets) (step_at_site whole_step w k input t site)
  unfolding step_at_site
  site_told w k input t (Some (Site.Up r)) = whole_told w k (step r input t) (step_silent r input t)
  site_told w k input t (Some (Site.Down log)) = none_told w
  site_told w k input t None = none_told w

  step_told : (w : World) (k : ℕ) (input : Input) (t : ℕ) → IsTold (length w.packets) (step_at whole_step w k input t)
  unfolding step_at
  step_told w k input t = site_told w k input t (slice_get w.sites k)

  come_told : (w : World) (t : ℕ) (o : Option Packet) → IsTold (length w.packets) (come whole_step w t o)
  unfolding come
  come_told w t None = none_told w
  come_told w t (Some m) = step_told w m.to (Input.Came m.from m.datagram) t

  junk_told : (w : World) (k : ℕ) (site : Option Site) → IsTold (length w.packets) (junk_at whole_step w k site)
  unfolding junk_at
  junk_told w k (Some (Site.Up r)) = whole_told w k (begun r) (begun_silent r)
  junk_told w k (Some (Site.Down log)) = none_told w
  junk_told w k None = none_told w

  single_told : (w : World) (s : Single) → IsTold (length w.packets) (single whole_step w s)
  unfolding single begun_at
  single_told w (Single.Request k t c) = step_told w k (Input.Came c.client (Datagram.Request c)) t
  single_told w (Single.Go i t) = subst (λ n. IsTold n (come whole_step (use_up i w) t (slice_get w.packets i))) (used_length i w) (come_told (use_up i w) t (slice_get w.packets i))
  single_told w (Single.Again i t) = come_told w t (slice_get w.packets i)
  single_told w (Single.Tick k t) = step_told w k Input.Ticked t
  single_told w (Single.Suspect k t ms) = step_told w k (Input.Suspected ms) t
  single_told w (Single.Junk k t bytes) = junk_told w k (slice_get w.sites k)

  pub sends_are_told : SendsAreTold
  unfolding new_packets act moments_of world_after lines_of
  sends_are_told w s = ap posts (append-nil (single whole_step w s).lines) ∙ single_told w s
