use Rattle.std.proofs.Common.{◌≡◌, ◌∙◌, ap, ap₂, codes, ℕ, length}
use Rattle.std.proofs.lemmas.Result.{IfOk-weaker}
use Rattle.clap.specs.Words.{App, app_of, with_subcommand}
use Rattle.crsm_text_words.specs.Table.{row, taking_app}
use Rattle.crsm_text_words.proofs.command.product.Goals as goal

pub returns : goal.returns
returns c =
    let s1 = c.in_ok-app.ensures.shape c.plain.ensures.local ∙ ap₂ with_subcommand c.top.ensures.shape (ap (λ (a : App). a.top) c.plain.ensures.shape) in
    let s2 = c.in_ok-app-2.ensures ∙ ap₂ (λ (a : App) (n : ℕ). with_subcommand a (taking_app (row (codes "replay-node") n 2 2)).top) s1 (ap length c.as_slice.ensures) in
    let s3 = c.in_ok-app-3.ensures ∙ ap₂ (λ (a : App) (n : ℕ). with_subcommand a (taking_app (row (codes "node") n 4 4)).top) s2 (ap length c.as_slice-2.ensures) in
    let s4 = c.in_ok-app-4.ensures ∙ ap₂ (λ (a : App) (n : ℕ). with_subcommand a (taking_app (row (codes "client") n 5 8)).top) s3 (ap length c.as_slice-3.ensures) in
    let s5 = c.in_ok-app-5.ensures ∙ ap₂ (λ (a : App) (n : ℕ). with_subcommand a (taking_app (row (codes "operate") n 2 2)).top) s4 (ap length c.as_slice-4.ensures) in
    let s6 = c.in_ok-app-6.ensures ∙ ap₂ (λ (a : App) (n : ℕ). with_subcommand a (taking_app (row (codes "soak") n 3 3)).top) s5 (ap length c.as_slice-5.ensures) in
    let s7 = c.in_ok-app-7.ensures ∙ ap₂ (λ (a : App) (n : ℕ). with_subcommand a (taking_app (row (codes "audit") n 1 1)).top) s6 (ap length c.as_slice-6.ensures) in
    let s8 = c.in_ok-app-8.ensures ∙ ap₂ (λ (a : App) (n : ℕ). with_subcommand a (taking_app (row (codes "lock") n 6 6)).top) s7 (ap length c.as_slice-7.ensures) in
    let s9 = c.in_ok-app-9.ensures ∙ ap₂ (λ (a : App) (n : ℕ). with_subcommand a (taking_app (row (codes "delay") n 0 1)).top) s8 (ap length c.as_slice-8.ensures) in
    let s10 = c.in_ok-app-10.ensures ∙ ap₂ (λ (a : App) (n : ℕ). with_subcommand a (taking_app (row (codes "dump") n 2 3)).top) s9 (ap length c.as_slice-9.ensures) in
    IfOk-weaker c.subcommand-2.result _ _ (λ r h. h.shape c.plain-2.ensures.local ∙ ap₂ with_subcommand s10 (ap (λ (a : App). a.top) c.plain-2.ensures.shape)) c.subcommand-2.ensures
