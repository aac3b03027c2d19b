use Rattle.std.proofs.Common.{◌≡◌, ◌∙◌, List, [], ◌∷◌, Option, IfOk, ap, sym, subst, codes}
use Rattle.std.specs.Prelude.{unwrap_or}
use Rattle.clap.specs.Words.{Text, found_of, rows_of}
use Rattle.clap.specs.Walk.{all_of}
use Rattle.clap.specs.declared.parser.matches.ArgMatches.TheViews.{out-ArgMatches}
use Rattle.crsm_text_words.specs.Answers.{Reads}
use Rattle.crsm_text_words.specs.Orders.{Asks, texts}
use Rattle.crsm_text_words.proofs.Parts.{found_values, parts_are}
use Rattle.crsm_text_words.proofs.read.matched_task.Goals as goal

pub returns-in-Some-get_raw-clause-found : goal.returns-in-Some-get_raw-clause-found
returns-in-Some-get_raw-clause-found c =
    let values = ap (λ (o : Option (List Text)). unwrap_or o []) (sym (found_values (found_of c.in-Some.found.now) (codes "values")) ∙ sym c.in-Some-get_raw.ensures) in
    let is = parts_are (out-ArgMatches c.args.matches.now).subcommand _ _
    c.in-Some.name.now (rows_of (found_of c.in-Some.found.now)) (texts c.in-Some-get_raw.values.now) c.in-Some.ensures.name c.in-Some.ensures.rows values in
    subst (λ (ws : List Text). IfOk c.named_task.result (λ task. Asks task ws)) (sym is) c.named_task.ensures.found

pub returns-in-Some-get_raw-clause-only : goal.returns-in-Some-get_raw-clause-only
returns-in-Some-get_raw-clause-only c = λ task asks.
    let values = ap (λ (o : Option (List Text)). unwrap_or o []) (sym (found_values (found_of c.in-Some.found.now) (codes "values")) ∙ sym c.in-Some-get_raw.ensures) in
    let is = parts_are (out-ArgMatches c.args.matches.now).subcommand _ _
    c.in-Some.name.now (rows_of (found_of c.in-Some.found.now)) (texts c.in-Some-get_raw.values.now) c.in-Some.ensures.name c.in-Some.ensures.rows values in
    c.named_task.ensures.only task (subst (λ (ws : List Text). Asks task ws) is asks)

pub returns-in-None-clause-found : goal.returns-in-None-clause-found
returns-in-None-clause-found c =
    let values = ap (λ (o : Option (List Text)). unwrap_or o []) (sym (found_values (found_of c.in-Some.found.now) (codes "values")) ∙ sym c.in-None.ensures) in
    let is = parts_are (out-ArgMatches c.args.matches.now).subcommand _ _
    c.in-Some.name.now (rows_of (found_of c.in-Some.found.now)) [] c.in-Some.ensures.name c.in-Some.ensures.rows values in
    subst (λ (ws : List Text). IfOk c.named_task-in-None.result (λ task. Asks task ws)) (sym is) c.named_task-in-None.ensures.found

pub returns-in-None-clause-only : goal.returns-in-None-clause-only
returns-in-None-clause-only c = λ task asks.
    let values = ap (λ (o : Option (List Text)). unwrap_or o []) (sym (found_values (found_of c.in-Some.found.now) (codes "values")) ∙ sym c.in-None.ensures) in
    let is = parts_are (out-ArgMatches c.args.matches.now).subcommand _ _
    c.in-Some.name.now (rows_of (found_of c.in-Some.found.now)) [] c.in-Some.ensures.name c.in-Some.ensures.rows values in
    c.named_task-in-None.ensures.only task (subst (λ (ws : List Text). Asks task ws) is asks)
