use Rattle.std.proofs.Common.{◌≡◌, ◌∙◌, ◌<◌, ◌++◌, ℕ, List, [], ◌∷◌, length, ap, refl, subst, sym, arith, length-append}
use Rattle.std.specs.Prelude.{slice_index_or}
use Rattle.crsm_port_packets.specs.Format.{fields_of}
use Rattle.crsm_port_packets.specs.Kept.{kept_in}
use Rattle.crsm_port_packets.proofs.Keepings.{concat_more, each_more}
use Rattle.crsm_port_packets.proofs.fragments.Fragments.put_together.Goals as goal

pub loop-index-preserved : goal.loop-index-preserved
loop-index-preserved c =
    let before = c.loop-index.invariant in
    let piece = c.in-Some.bytes.now in
    let kept = c.args.self.now.pieces.items in
    let P : ℕ → List ℕ → Type 0 = λ i bytes. kept_in kept c.args.from (record (fields_of c.args.fragment.now) { index = i; bytes = bytes }) in
    let here : P (length before.0) piece = subst (λ (i : ℕ). P i piece) (sym before.1) c.in-Some.ensures.some in (
      before.0 ++ piece ∷ [],
      omega (arith, before.1, length-append before.0 (piece ∷ [])),
      c.in_ok-extend_from_slice-in-Some.ensures.items ∙ ap (λ (x : List ℕ). x ++ piece) before.2 ∙ sym (concat_more before.0 piece),
      each_more P before.0 piece before.3 here,
    )

pub returns-in-None-clause-missing : goal.returns-in-None-clause-missing
returns-in-None-clause-missing c = λ _. (c.loop-index.index, omega (arith, c.loop-index-test.true), c.in-None.ensures.none refl)

pub returns-clause-together : goal.returns-clause-together
returns-clause-together c = λ _.
    let before = c.loop-index.invariant in
    let kept = c.args.self.now.pieces.items in
    let count : c.args.fragment.now.count ≡ length before.0 = omega (arith, before.1) in
    let some : 0 < c.args.fragment.now.count = omega (arith, c.requires.within) in (
      c.args.fragment.now.name.now,
      before.0,
      omega (arith, some, count),
      before.2,
      λ i lt. subst (λ (n : ℕ). kept_in kept c.args.from (record { name = c.args.fragment.now.name.now; index = i; count = n; bytes = slice_index_or before.0 i [] })) count (before.3 i lt),
    )
