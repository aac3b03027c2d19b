-- What stands behind the closed gate of a file.
use Rattle.std.proofs.Common.{false, ◌≡◌, ◌≢◌, ℕ, ◌+◌, ◌<◌, List, [], ◌∷◌, ◌++◌, length, get_or, take, drop, refl, sym, ◌∙◌, ap, arith, append_assoc, length-append, take-append-drop}
use Rattle.std.proofs.lemmas.List.{take_more}
use Rattle.std.proofs.Math.Seq.{get_or-append_seam}
use Rattle.crsm_log.specs.Format.{Items, bodies_in, cluster_among, entries_in, entries_of, found, items_of, reading_in, size, whole}
use Rattle.crsm_log.specs.Stop.{IsWhole, ReadsWith}
use Rattle.crsm_log.proofs.Crash.{IsRun, shut_reads}
use Rattle.crsm_log.proofs.Puts.{is_run, run_long, whole_of}

module _ (file behind : List ℕ) (end : ℕ) (w : IsWhole file end) where
  abbrev gate : ℕ
  gate = get_or file end 0

  read : items_of file ≡ whole (entries_of file)
  read = whole_of (items_of file) w.whole

  runs : IsRun false (entries_of file) (take end file)
  runs = is_run file end (entries_of file) read w.place w.inside w.shut

  -- entries, the closed gate, and the rest
  parts : file ++ behind ≡ take end file ++ get_or file end 0 ∷ (drop (end + 1) file ++ behind)
  parts =
      ap (λ (l : List ℕ). l ++ behind) (sym (take-append-drop (end + 1) file) ∙ ap (λ (l : List ℕ). l ++ drop (end + 1) file) (take_more file end 0 w.inside))
      ∙ append_assoc (take end file ++ gate ∷ []) (drop (end + 1) file) behind
      ∙ append_assoc (take end file) (gate ∷ []) (drop (end + 1) file ++ behind)

  same : items_of (file ++ behind) ≡ items_of file
  same = ap items_of parts ∙ shut_reads (entries_of file) (take end file) gate (drop (end + 1) file ++ behind) runs w.shut ∙ sym read

  gate_is : get_or (file ++ behind) end 0 ≡ get_or file end 0
  gate_is =
      let long : length (take end file) ≡ end = run_long file end (entries_of file) read w.place w.inside w.shut in
      ap (λ (l : List ℕ). get_or l end 0) parts
      ∙ ap (λ (k : ℕ). get_or (take end file ++ gate ∷ (drop (end + 1) file ++ behind)) k 0) (sym long)
      ∙ get_or-append_seam (take end file) gate (drop (end + 1) file ++ behind) 0

  pub reads_with : ReadsWith file behind end
  reads_with = record {
    entries = same;
    bodies = ap reading_in same;
    cluster = ap (λ i. cluster_among (entries_in i)) same;
    whole = record {
      whole = ap reading_in same ∙ w.whole ∙ sym (ap (λ i. found (bodies_in (reading_in i))) same);
      place = w.place ∙ sym (ap (λ i. size (entries_in i)) same);
      inside = omega (arith, length-append file behind, w.inside);
      shut = λ one. w.shut (sym gate_is ∙ one);
    };
  }
