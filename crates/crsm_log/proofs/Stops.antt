-- The bodies on a disk that was stopped during a put.
use Rattle.std.proofs.Common.{false, ◌≡◌, IsTrue, inl, inr, ℕ, zero, suc, ◌+◌, ◌-◌, ◌<◌, ◌≤◌, min, List, [], ◌∷◌, ◌++◌, length, get_or, take, drop, replicate, refl, sym, ◌∙◌, ap, arith, append_assoc, length-append}
use Rattle.std.proofs.lemmas.Bool.{cases_eq}
use Rattle.std.proofs.lemmas.Bool.Decides.{nat_tests}
use Rattle.std.proofs.lemmas.List.{take_at, drop_at}
use Rattle.crsm_port_image.specs.Bytes.{overwritten}
use Rattle.crsm_port_image.specs.Calls.{Call, wrote, cut, synced, History, contents}
use Rattle.crsm_port_image.specs.Image.{painted, ranged}
use Rattle.crsm_log.specs.Format.{four_bytes, reading, reading_in, found, bodies_in, bodies_among, bodies_of, body_entry, Entry, whole, entries_of, items_of}
use Rattle.crsm_log.specs.Log.{entry_bytes, is_synced}
use Rattle.crsm_log.specs.Stop.{StopKeeps, IsWhole, kept}
use Rattle.crsm_log.proofs.Crash.{IsRun, shut_reads, open_reads, staged}
use Rattle.crsm_log.proofs.Puts.{is_run, run_long, whole_of, body_follows, body_reads, written_behind, written_gate}

nothing_painted : (calls : List Call) (fill : ℕ) (l : List ℕ) → IsTrue (is_synced calls) → painted calls fill l ≡ l
nothing_painted [] fill l s = refl
nothing_painted (synced ∷ calls) fill l s = refl
nothing_painted (wrote at bytes ∷ calls) fill l s = absurd (cc)
nothing_painted (cut n ∷ calls) fill l s = absurd (cc)

-- painting behind a prefix leaves it
behind_prefix : (prefix back : List ℕ) (n fill : ℕ) → (x : List ℕ) × (ranged (length prefix) n fill (prefix ++ back) ≡ prefix ++ x)
behind_prefix prefix back n fill =
    let l = prefix ++ back in
    let from : min (length prefix) (length (prefix ++ back)) ≡ length prefix = omega (arith, length-append prefix back) in
    let to = length prefix + min n (length (prefix ++ back) - length prefix) in (
      replicate (to - length prefix) fill ++ drop to l,
      ap (λ (k : ℕ). let t = k + min n (length (prefix ++ back) - k) in take k (prefix ++ back) ++ replicate (t - k) fill ++ drop t (prefix ++ back)) from
          ∙ ap (λ (a : List ℕ). a ++ replicate (to - length prefix) fill ++ drop to (prefix ++ back)) (take_at prefix back (length prefix) refl)
          ∙ append_assoc prefix (replicate (to - length prefix) fill) (drop to (prefix ++ back)),
    )

-- painting one byte
one_painted : (prefix back : List ℕ) (g fill : ℕ) → ranged (length prefix) 1 fill (prefix ++ g ∷ back) ≡ prefix ++ fill ∷ back
one_painted prefix back g fill =
    let long = length-append prefix (g ∷ back) in
    let from : min (length prefix) (length (prefix ++ g ∷ back)) ≡ length prefix = omega (arith, long) in
    let to : length prefix + min 1 (length (prefix ++ g ∷ back) - length prefix) ≡ length prefix + 1 = omega (arith, long) in
    let one : length prefix + 1 - length prefix ≡ 1 = omega arith in
    ap (λ (k : ℕ). let t = k + min 1 (length (prefix ++ g ∷ back) - k) in take k (prefix ++ g ∷ back) ++ replicate (t - k) fill ++ drop t (prefix ++ g ∷ back)) from
    ∙ ap (λ (t : ℕ). take (length prefix) (prefix ++ g ∷ back) ++ replicate (t - length prefix) fill ++ drop t (prefix ++ g ∷ back)) to
    ∙ ap (λ (k : ℕ). take (length prefix) (prefix ++ g ∷ back) ++ replicate k fill ++ drop (length prefix + 1) (prefix ++ g ∷ back)) one
    ∙ ap (λ (a : List ℕ). a ++ (fill ∷ []) ++ drop (length prefix + 1) (prefix ++ g ∷ back)) (take_at prefix (g ∷ back) (length prefix) refl)
    ∙ ap (λ (b : List ℕ). prefix ++ (fill ∷ []) ++ b) (ap (drop (length prefix + 1)) (sym (append_assoc prefix (g ∷ []) back)) ∙ drop_at (prefix ++ g ∷ []) back (length prefix + 1) (omega (arith, length-append prefix (g ∷ []))))
    ∙ append_assoc prefix (fill ∷ []) back

module _ (h : History) (end : ℕ) (body : List ℕ) (fill : ℕ) (quiet : IsTrue (is_synced h.calls)) (w : IsWhole (contents h.first h.calls) end) (lt : length body < 2147483648) where
  abbrev file : List ℕ
  file = contents h.first h.calls

  abbrev bs : List (List ℕ)
  bs = bodies_of (contents h.first h.calls)

  abbrev gate : ℕ
  gate = get_or (contents h.first h.calls) end 0

  abbrev es : List Entry
  es = entries_of (contents h.first h.calls)

  abbrev e : Entry
  e = body_entry body

  abbrev junk : List ℕ
  junk = drop (end + 1 + length (entry_bytes (body_entry body))) (contents h.first h.calls)

  abbrev prefix : List ℕ
  prefix = take end (contents h.first h.calls)

  read : items_of (contents h.first h.calls) ≡ whole (entries_of (contents h.first h.calls))
  read = whole_of (items_of file) w.whole

  among : bodies_among (entries_of (contents h.first h.calls)) ≡ bodies_of (contents h.first h.calls)
  among = sym (ap (λ i. bodies_in (reading_in i)) read)

  runs : IsRun false es prefix
  runs = is_run file end es read w.place w.inside w.shut

  long : length prefix ≡ end
  long = run_long file end es read w.place w.inside w.shut

  staged_is : overwritten file (end + 1) (entry_bytes e) ≡ staged prefix gate e junk
  staged_is = written_behind file end es read w.place w.inside w.shut e

  -- a closed gate leaves the bodies, an open one has one more
  shut_is : (g : ℕ) (x : List ℕ) → (g ≡ 1 → ⊥) → reading (prefix ++ g ∷ x) ≡ found bs
  shut_is g x shut = ap reading_in (shut_reads es prefix g x runs shut) ∙ ap found among

  open_is : reading (staged prefix 1 e junk) ≡ found (bs ++ body ∷ [])
  open_is = body_reads body lt (staged prefix 1 e junk) es (open_reads es prefix e junk runs (body_follows es body lt)) ∙ ap (λ (l : List (List ℕ)). found (l ++ body ∷ [])) among

  pub none_made : StopKeeps h end body 0 fill
  none_made = ap reading (nothing_painted h.calls fill file quiet) ∙ w.whole

  pub one_made : StopKeeps h end body 1 fill
  one_made =
      let at : length (prefix ++ gate ∷ []) ≡ end + 1 = omega (arith, length-append prefix (gate ∷ []), long) in
      let back : List ℕ = four_bytes e.field ++ e.bytes ++ 0 ∷ junk in
      let split : staged prefix gate e junk ≡ (prefix ++ gate ∷ []) ++ (four_bytes e.field ++ e.bytes ++ 0 ∷ junk) = sym (append_assoc prefix (gate ∷ []) (four_bytes e.field ++ e.bytes ++ 0 ∷ junk)) in
      let kept_prefix = behind_prefix (prefix ++ gate ∷ []) (four_bytes e.field ++ e.bytes ++ 0 ∷ junk) (length (entry_bytes e)) fill in
      ap reading (
      ap (ranged (end + 1) (length (entry_bytes e)) fill) (nothing_painted h.calls fill (overwritten file (end + 1) (entry_bytes e)) quiet ∙ staged_is ∙ split)
      ∙ ap (λ (k : ℕ). ranged k (length (entry_bytes e)) fill ((prefix ++ gate ∷ []) ++ (four_bytes e.field ++ e.bytes ++ 0 ∷ junk))) (sym at)
      ∙ kept_prefix.1 ∙ append_assoc prefix (gate ∷ []) kept_prefix.0
      )
      ∙ shut_is gate kept_prefix.0 w.shut

  pub two_made : StopKeeps h end body 2 fill
  two_made = ap reading staged_is ∙ shut_is gate (four_bytes e.field ++ e.bytes ++ 0 ∷ junk) w.shut

  opened : overwritten (overwritten file (end + 1) (entry_bytes e)) end (1 ∷ []) ≡ staged prefix 1 e junk
  opened = ap (λ (l : List ℕ). overwritten l end (1 ∷ [])) staged_is ∙ written_gate prefix end long gate e junk

  three_image : ranged end 1 fill (overwritten (overwritten file (end + 1) (entry_bytes e)) end (1 ∷ [])) ≡ staged prefix fill e junk
  three_image =
      ap (ranged end 1 fill) opened ∙ ap (λ (k : ℕ). ranged k 1 fill (staged prefix 1 e junk)) (sym long)
      ∙ one_painted prefix (four_bytes e.field ++ e.bytes ++ 0 ∷ junk) 1 fill

  pub three_made : StopKeeps h end body 3 fill
  three_made = elim (cases_eq fill 1) [
    | inl is ↦
        let k : kept 3 fill bs body ≡ bs ++ body ∷ [] = grind (arith, nat_tests) in
        ap reading (three_image ∙ ap (λ (g : ℕ). staged prefix g e junk) is) ∙ open_is ∙ ap found (sym k)
    | inr other ↦
        let k : kept 3 fill bs body ≡ bs = grind (arith, nat_tests) in
        ap reading three_image ∙ shut_is fill (four_bytes e.field ++ e.bytes ++ 0 ∷ junk) other ∙ ap found (sym k)
  ]

  pub four_made : StopKeeps h end body 4 fill
  four_made = ap reading opened ∙ open_is

  pub stop_keeps : (made : ℕ) → made ≤ 4 → StopKeeps h end body made fill
  stop_keeps zero le = none_made
  stop_keeps (suc zero) le = one_made
  stop_keeps (suc (suc zero)) le = two_made
  stop_keeps (suc (suc (suc zero))) le = three_made
  stop_keeps (suc (suc (suc (suc zero)))) le = four_made
  stop_keeps (suc (suc (suc (suc (suc n))))) le = absurd (omega arith)
