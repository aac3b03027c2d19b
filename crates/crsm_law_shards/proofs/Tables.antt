-- The one store's rows of a shard are those after the shard's entries alone.
use Rattle.std.proofs.Common.{◌≡◌, ℕ, Bool, true, false, cond, List, [], ◌∷◌, refl, ◌∙◌, ap}
use Rattle.std.specs.Prelude.{◌==◌, filter, fold}
use Rattle.crsm_base.specs.Store.{Rows, no_rows, apply, after, answer_after}
use Rattle.crsm_spec.specs.Types.{Entry}
use Rattle.crsm_law_shards.specs.Served.{shard_in}
use Rattle.crsm_law_shards.specs.Shards.{Tables, no_tables, apply_to, tables_after, answer_in}

module _ (shard : List ℕ → ℕ) (s : ℕ) where
  abbrev pub is_of : Entry → Bool
  is_of e = shard_in shard e == s

  rows_of : (tables : Tables) (rows : Rows) (es : List Entry) → tables s ≡ rows → fold (apply_to shard) tables es s ≡ fold (λ r e. (apply r e.command).0) rows (filter is_of es)
  rows_of tables rows [] e = e
  rows_of tables rows (f ∷ es) e = go (is_of f) refl (λ r g. rows_of (apply_to shard tables f) r es g)
    where
      go : (b : Bool) → is_of f ≡ b → ((r : Rows) → apply_to shard tables f s ≡ r → fold (apply_to shard) (apply_to shard tables f) es s ≡ fold (λ r e. (apply r e.command).0) r (filter is_of es)) →
          fold (apply_to shard) (apply_to shard tables f) es s ≡ fold (λ r e. (apply r e.command).0) rows (cond b (f ∷ filter is_of es) (filter is_of es))
      go true is rest = rest (apply rows f.command).0 (ap (λ b. cond b (apply (tables s) f.command).0 (tables s)) is ∙ ap (λ r. (apply r f.command).0) e)
      go false is rest = rest rows (ap (λ b. cond b (apply (tables s) f.command).0 (tables s)) is ∙ e)

  pub table_is : (es : List Entry) → tables_after shard es s ≡ after (filter is_of es)
  unfolding after
  table_is es = rows_of no_tables no_rows es refl

pub answer_is : (shard : List ℕ → ℕ) (es : List Entry) (e : Entry) → answer_in shard es e ≡ answer_after (filter (is_of shard (shard_in shard e)) es) e
unfolding answer_after
answer_is shard es e = ap (λ rows. (apply rows e.command).1) (table_is shard (shard_in shard e) es)
