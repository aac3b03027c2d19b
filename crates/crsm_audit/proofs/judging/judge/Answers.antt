use Rattle.std.proofs.Common.{ℕ, length, refl, ap, ◌∙◌, subst}
use Rattle.std.specs.Prelude.{Option}
use Rattle.std.proofs.lemmas.List.{length-map}
use Rattle.crsm_base.specs.Spelling.{entry_bytes}
use Rattle.crsm_law_sheets.specs.Sheets.{one_list}
use Rattle.crsm_audit.specs.Judging.{DropsFirst, IsStranger}
use Rattle.crsm_audit.specs.Lists.{places_of}
use Rattle.crsm_audit.proofs.Drops.{first_dropped, names_ascend, none_dropped}
use Rattle.crsm_audit.proofs.Verdicts.{all_in_one, odd_sheet, one_fits, one_spelt, strange_here, strange_there}
use Rattle.crsm_audit.proofs.judging.judge.Goals as goal

pub returns-in-Some : goal.returns-in-Some
returns-in-Some c = λ n sheets stand.
    let accounts = c.args.accounts.now in
    odd_sheet c.one_spelling_each.ensures.entry_has_one n accounts sheets stand c.longest-one.result.now.list (c.longest-one.ensures ∙ one_spelt n accounts sheets stand) c.in-Some.sheet c.in-Some.place
    c.in-Some.ensures.found

pub returns-in-Some-2 : goal.returns-in-Some-2
returns-in-Some-2 c = λ n sheets stand.
    let accounts = c.args.accounts.now in
    let law = c.one_spelling_each.ensures.entry_has_one in
    let one = c.longest-one.result.now.list in
    let one_is = c.longest-one.ensures ∙ one_spelt n accounts sheets stand in
    let names = places_of (one_list n sheets) in
    let found = subst (λ (o : Option ℕ). IsStranger accounts one names o) c.in-Some-2.is (c.in_ok-place.ensures (one_list n sheets) (one_fits n accounts sheets stand) one_is) in (
      all_in_one law n accounts sheets stand one one_is c.in_default.ensures.none,
      (
        strange_there law n accounts sheets stand one one_is names refl c.in-Some-2.place found.strange,
        λ q less s. found.before q less (strange_here law n accounts sheets stand one one_is names refl q s),
      ),
    )

pub returns-in-Some-3 : goal.returns-in-Some-3
returns-in-Some-3 c = λ n sheets stand.
    let accounts = c.args.accounts.now in
    let law = c.one_spelling_each.ensures.entry_has_one in
    let one = c.longest-one.result.now.list in
    let one_is = c.longest-one.ensures ∙ one_spelt n accounts sheets stand in
    let fits = one_fits n accounts sheets stand in
    let names = places_of (one_list n sheets) in
    let none = subst (λ (o : Option ℕ). IsStranger accounts one names o) c.in_default-2.is (c.in_ok-place.ensures (one_list n sheets) fits one_is) in
    let ascend = names_ascend c.one_list_rises.ensures c.entries_stand_in_order.ensures n accounts sheets stand names refl in
    let found = subst (λ (o : Option (ℕ × ℕ)). DropsFirst accounts names o) c.in-Some-3.is (c.in_ok-sheet.ensures (one_list n sheets) fits one_is ascend) in (
      all_in_one law n accounts sheets stand one one_is c.in_default.ensures.none,
      (λ p s. none p (strange_here law n accounts sheets stand one one_is names refl p s)),
      first_dropped n accounts sheets stand names refl c.in-Some-3.sheet c.in-Some-3.line found,
    )

pub returns : goal.returns
returns c = λ n sheets stand.
    let accounts = c.args.accounts.now in
    let law = c.one_spelling_each.ensures.entry_has_one in
    let one = c.longest-one.result.now.list in
    let one_is = c.longest-one.ensures ∙ one_spelt n accounts sheets stand in
    let fits = one_fits n accounts sheets stand in
    let names = places_of (one_list n sheets) in
    let none = subst (λ (o : Option ℕ). IsStranger accounts one names o) c.in_default-2.is (c.in_ok-place.ensures (one_list n sheets) fits one_is) in
    let ascend = names_ascend c.one_list_rises.ensures c.entries_stand_in_order.ensures n accounts sheets stand names refl in
    let kept = subst (λ (o : Option (ℕ × ℕ)). DropsFirst accounts names o) c.in_default-3.is (c.in_ok-sheet.ensures (one_list n sheets) fits one_is ascend) in (
      record {
        lists = all_in_one law n accounts sheets stand one one_is c.in_default.ensures.none;
        stranger = λ p s. none p (strange_here law n accounts sheets stand one one_is names refl p s);
        dropped = none_dropped n accounts sheets stand names refl kept;
      },
      c.list_len-count.ensures ∙ ap length one_is ∙ length-map (one_list n sheets) entry_bytes,
    )
