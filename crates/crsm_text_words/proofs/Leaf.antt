-- What `clap` does with the values of one command, whose name was met.
use Rattle.std.proofs.Common.{◌≡◌, ◌∙◌, ◌↔◌, ℕ, ◌==◌, ◌&&◌, ◌<◌, ◌≤◌, Bool, cond, true, false, refl, ap, sym, subst, List, [], ◌∷◌, ◌++◌, length, Option, Some, None, arith, append_assoc, append-nil, ◌+◌, suc, zero, codes, nat_le, nat_lt}
use Rattle.std.specs.List.{All, fold, list_all}
use Rattle.std.specs.Str.{bytes_eq}
use Rattle.std.proofs.lemmas.Bool.Decides.{nat_tests}
use Rattle.clap.specs.Lexer.{long_of, short_of}
use Rattle.std.specs.Prelude.{unwrap_or}
use Rattle.clap.specs.Walk.{Names, Rule, Text, Waiting, Walk, Held, after_step, all_of, rows_after, arg_by_id, arg_by_index, finished, idle, is_multiple, nothing_held, plain_word, positional, settled, subcommand_met, subcommand_or_other, takes_several, trailing, walk, walk_from, walked, word_met, long_or_other, short_or_plain}
use Rattle.clap.specs.Simple.{Shape, filled, help_rule, label_of, new_shape, with_index}
use Rattle.clap.specs.Kinds.{Kinds, or_else, range_kinds, values_kinds}
use Rattle.clap.specs.declared.builder.action.ArgAction.TheVariants as action
use Rattle.clap.specs.declared.builder.value_parser.ValueParser.TheVariants as vp
use Rattle.clap.specs.declared.error.kind.ErrorKind.{ErrorKind}
use Rattle.clap.specs.declared.error.kind.ErrorKind.TheVariants as kind
use Rattle.clap.specs.Faults.{check_fault, defaults_fault, level_fault, settle_fault, turn_fault, walk_fault}
use Rattle.clap.proofs.OnLiterals.{clap_on_literals}
use Rattle.crsm_text_words.specs.Split.{IsPlain, is_usage}
use Rattle.crsm_text_words.specs.Table.{Row, row, values_rule, within}

-- ---- words that do not begin with a hyphen

pub no_long : (word : Text) → IsPlain word → long_of word ≡ None
no_long word plain = rw plain refl

pub no_short : (word : Text) → IsPlain word → short_of word ≡ None
no_short word plain = rw plain refl

not_hyphen : (x : ℕ) (xs : Text) → IsPlain (x ∷ xs) → (x == 45) ≡ false
not_hyphen x xs plain = go (x == 45) refl
  where
    go : (b : Bool) → (x == 45) ≡ b → (x == 45) ≡ false
    go false e = e
    go true e = let bad : Some xs ≡ None = rw e at plain in absurd (cc bad)

pub no_dashes : (word : Text) → IsPlain word → bytes_eq word (45 ∷ 45 ∷ []) ≡ false
no_dashes [] plain = refl
no_dashes (x ∷ xs) plain = rw (not_hyphen x xs plain) refl

-- one that names no subcommand goes to a positional
plain_met : (c : List Rule) (names : Names) (waiting : Waiting) (position : ℕ) (word : Text) (h : Held) → IsPlain word → subcommand_met names waiting word ≡ None
    → word_met c names false waiting position word h ≡ plain_word c waiting word h
plain_met c names waiting position word h plain none =
    ap (λ (o : Option Text). subcommand_or_other c o waiting position word h) none
    ∙ ap (λ (b : Bool). cond b (h, trailing position) (long_or_other c waiting word (long_of word) h)) (no_dashes word plain)
    ∙ ap (λ o. long_or_other c waiting word o h) (no_long word plain)
    ∙ ap (λ (o : Option Text). short_or_plain c waiting word o h) (no_short word plain)

pub head : (word : Text) (words : List Text) → All IsPlain (word ∷ words) → IsPlain word
head word words plain = plain 0 word (omega arith)

pub tail : (word : Text) (words : List Text) → All IsPlain (word ∷ words) → All IsPlain words
tail word words plain = λ k d lt. plain (suc k) d (omega arith)

-- ---- a command as `clap` has built it

abbrev pub help_built : Rule
help_built = with_index 2 (filled help_rule)

-- the rule of its values, where `required` says whether there has to be one
abbrev pub values_built : Row → Bool → Rule
values_built r required = record (values_rule r) { required = required; index = Some 1; action = Some action.Set; parser = Some vp.String }

abbrev pub shape : Row → List Rule → Shape
shape r rules = record (new_shape r.name) { rules = rules; no_binary_name = true; disable_help_subcommand = true; is_built = true }

abbrev pub with_values : Row → Bool → Shape
with_values r required = shape r (values_built r required ∷ help_built ∷ [])

-- what the command is: one without values, with just one, or with several
pub data IsBuilt (s : Shape) (r : Row) : Type 0 where
  no_values : s ≡ shape r (help_built ∷ []) → r.least ≡ 0 → r.most ≡ 0 → IsBuilt s r
  one_value : s ≡ with_values (row r.name r.labels 1 1) true → r.least ≡ 1 → r.most ≡ 1 → IsBuilt s r
  several_values : (required : Bool) → s ≡ with_values r required → required ≡ nat_lt 0 r.least → takes_several (values_built r required) ≡ true → r.least ≤ r.most → IsBuilt s r

-- these fail exactly where it is not so, and then by the words' fault
abbrev pub Fails : Kinds → Bool → Type 0
Fails kinds ok = ((kinds ≡ []) ↔ (ok ≡ true)) × (list_all is_usage kinds ≡ true)

pub fails_as : (a b : Kinds) (ok right : Bool) → a ≡ b → ok ≡ right → Fails b right → Fails a ok
fails_as a b ok right same is f = ((λ none. is ∙ f.0.0 (sym same ∙ none), λ t. same ∙ f.0.1 (sym is ∙ t)), ap (list_all is_usage) same ∙ f.1)

pub always_fails : (k : ErrorKind) (ks : Kinds) → list_all is_usage (k ∷ ks) ≡ true → Fails (k ∷ ks) false
always_fails k ks usage = ((λ none. absurd (cc none), λ ok. absurd (cc ok)), usage)

-- where the first word has these faults, so has the level
pub first_stops : (s : Shape) (ns : Names) (word : Text) (words : List Text) (has : Bool) (below : Kinds) (k : ErrorKind) (ks : Kinds)
    → turn_fault s ns (walk_from nothing_held) word ≡ k ∷ ks → level_fault s ns nothing_held (word ∷ words) has below ≡ k ∷ ks
unfolding walk_fault
first_stops s ns word words has below k ks e = ap (λ (t : Kinds). or_else (or_else t (walk_fault s ns (walked s.rules ns (walk_from nothing_held) word) words))
    (or_else below (or_else (settle_fault s.rules s.args_override_self (walk s.rules ns nothing_held (word ∷ words)).held)
    (or_else (defaults_fault (settled s.rules (walk s.rules ns nothing_held (word ∷ words)).held).rows s.rules)
    (check_fault s (finished s.rules (walk s.rules ns nothing_held (word ∷ words)).held) has))))) e

pub range_fails : (r : Row) (n : ℕ) → 0 < n → r.least ≤ r.most → Fails (range_kinds r.least r.most n) (within r n)
range_fails r n above le = ((range_in r.least r.most n above le, range_out r.least r.most n above le), usage_range r.least r.most n)
  where
    range_in : (least most n : ℕ) → 0 < n → least ≤ most → range_kinds least most n ≡ [] → nat_le least n && nat_le n most ≡ true
    range_in least most n above le none = grind (arith, nat_tests)

    range_out : (least most n : ℕ) → 0 < n → least ≤ most → nat_le least n && nat_le n most ≡ true → range_kinds least most n ≡ []
    range_out least most n above le ok = grind (arith, nat_tests)

    usage_go : (zero same exact few many : Bool) → list_all is_usage (cond zero (kind.InvalidValue ∷ [])
        (cond same (cond exact [] (kind.WrongNumberOfValues ∷ [])) (cond few (kind.TooFewValues ∷ []) (cond many (kind.TooManyValues ∷ []) [])))) ≡ true
    usage_go true same exact few many = refl
    usage_go false true true few many = refl
    usage_go false true false few many = refl
    usage_go false false exact true many = refl
    usage_go false false exact false true = refl
    usage_go false false exact false false = refl

    usage_range : (least most n : ℕ) → list_all is_usage (range_kinds least most n) ≡ true
    usage_range least most n = usage_go (nat_lt 0 least && (n == 0)) (least == most) (least == n) (nat_lt n least) (nat_lt most n)

-- every text is a text
texts_pass : (values : List Text) → values_kinds false vp.String values ≡ []
texts_pass [] = refl
texts_pass (v ∷ vs) = texts_pass vs

nil_nil : (k : Kinds) → or_else (or_else k []) [] ≡ k
nil_nil [] = refl
nil_nil (x ∷ xs) = refl

-- the values that a level's matches have
abbrev pub found_values : Shape → List Text → List Text
found_values s values = unwrap_or (all_of (codes "values") (rows_after s.rules [] values)) []

-- ---- without values

abbrev none_shape : Row → Shape
none_shape r = shape r (help_built ∷ [])

module _ (r : Row) where
  stray : (word : Text) → IsPlain word → turn_fault (none_shape r) [] (walk_from nothing_held) word ≡ kind.UnknownArgument ∷ []
  unfolding clap_on_literals
  stray word plain = rw (no_dashes word plain, no_long word plain, no_short word plain) refl

  none_level : r.least ≡ 0 → r.most ≡ 0 → (values : List Text) → All IsPlain values → Fails (level_fault (none_shape r) [] nothing_held values false []) (within r (length values))
  unfolding clap_on_literals
  none_level least most [] plain = ((λ none. grind (arith, nat_tests), λ ok. refl), refl)
  none_level least most (word ∷ words) plain =
      let past : within r (suc (length words)) ≡ false = grind (arith, nat_tests) in
      fails_as _ (kind.UnknownArgument ∷ []) _ false
      (first_stops (none_shape r) [] word words false [] kind.UnknownArgument [] (stray word (head word words plain))) past
      (always_fails kind.UnknownArgument [] refl)

  none_values : r.most ≡ 0 → (values : List Text) → within r (length values) ≡ true → found_values (none_shape r) values ≡ values
  unfolding clap_on_literals
  none_values most [] ok = refl
  none_values most (word ∷ words) ok = let past : within r (suc (length words)) ≡ false = grind (arith, nat_tests) in absurd (cc (past, ok))

-- ---- one value

module _ (name : Text) (labels : ℕ) where
  abbrev one_row : Row
  one_row = row name labels 1 1

  abbrev one_shape : Shape
  one_shape = with_values one_row true

  abbrev one_held : Text → Walk
  one_held word = record {
    held = record { rows = []; pending = Some (codes "values", word ∷ []); skip = 0 };
    waiting = idle;
    position = 2;
    is_trailing = false;
    stopped = None;
  }

  one_walked : (word : Text) → IsPlain word → walked one_shape.rules [] (walk_from nothing_held) word ≡ one_held word
  unfolding clap_on_literals
  one_walked word plain = ap (λ met. after_step one_shape.rules word (walk_from nothing_held) met.0 met.1) (plain_met one_shape.rules [] idle 1 word nothing_held plain refl)

  one_turn : (word : Text) → IsPlain word → turn_fault one_shape [] (walk_from nothing_held) word ≡ []
  unfolding clap_on_literals
  one_turn word plain = rw (no_dashes word plain, no_long word plain, no_short word plain) refl

  -- no argument takes a second one
  second_stray : (first word : Text) → IsPlain word → turn_fault one_shape [] (one_held first) word ≡ kind.UnknownArgument ∷ []
  unfolding clap_on_literals
  second_stray first word plain = rw (no_dashes word plain, no_long word plain, no_short word plain) refl

  -- what is left of the level, where its walk comes to w and its steps to these kinds
  abbrev one_left : Walk → Kinds → Kinds
  one_left w steps = or_else steps (or_else [] (or_else (settle_fault one_shape.rules one_shape.args_override_self w.held)
      (or_else (defaults_fault (settled one_shape.rules w.held).rows one_shape.rules) (check_fault one_shape (finished one_shape.rules w.held) false))))

  one_passes : (word : Text) → IsPlain word → level_fault one_shape [] nothing_held (word ∷ []) false [] ≡ []
  unfolding clap_on_literals
  one_passes word plain =
      ap (λ (w : Walk). one_left w (or_else (turn_fault one_shape [] (walk_from nothing_held) word) [])) (one_walked word plain)
      ∙ ap (λ (k : Kinds). one_left (one_held word) (or_else k [])) (one_turn word plain)

  one_more : (first word : Text) (words : List Text) → IsPlain first → IsPlain word → walk_fault one_shape [] (walk_from nothing_held) (first ∷ word ∷ words) ≡ kind.UnknownArgument ∷ []
  unfolding clap_on_literals
  one_more first word words plain plain_too =
      ap (λ (k : Kinds). or_else k (or_else (turn_fault one_shape [] (walked one_shape.rules [] (walk_from nothing_held) first) word)
      (walk_fault one_shape [] (walked one_shape.rules [] (walked one_shape.rules [] (walk_from nothing_held) first) word) words))) (one_turn first plain)
      ∙ ap (λ (w : Walk). or_else (turn_fault one_shape [] w word) (walk_fault one_shape [] (walked one_shape.rules [] w word) words)) (one_walked first plain)
      ∙ ap (λ (k : Kinds). or_else k (walk_fault one_shape [] (walked one_shape.rules [] (one_held first) word) words)) (second_stray first word plain_too)

  one_level : (values : List Text) → All IsPlain values → Fails (level_fault one_shape [] nothing_held values false []) (within one_row (length values))
  unfolding clap_on_literals
  one_level [] plain = always_fails kind.MissingRequiredArgument [] refl
  one_level (word ∷ []) plain = fails_as _ [] _ true (one_passes word (head word [] plain)) refl ((λ none. refl, λ ok. refl), refl)
  one_level (first ∷ word ∷ words) plain =
      let past : within one_row (suc (suc (length words))) ≡ false = grind (arith, nat_tests) in
      let stray = one_more first word words (head first (word ∷ words) plain) (head word words (tail first (word ∷ words) plain)) in
      fails_as _ (kind.UnknownArgument ∷ []) _ false
      (ap (λ (k : Kinds). one_left (walk one_shape.rules [] nothing_held (first ∷ word ∷ words)) k) stray) past
      (always_fails kind.UnknownArgument [] refl)

  one_values : (values : List Text) → All IsPlain values → within one_row (length values) ≡ true → found_values one_shape values ≡ values
  unfolding clap_on_literals
  one_values [] plain ok = refl
  one_values (word ∷ []) plain ok = ap (λ (w : Walk). unwrap_or (all_of (codes "values") (finished one_shape.rules w.held)) []) (one_walked word (head word [] plain))
  one_values (first ∷ word ∷ words) plain ok = let past : within one_row (suc (suc (length words))) ≡ false = grind (arith, nat_tests) in absurd (cc (past, ok))

-- ---- several values

-- the rule that each value goes to
record IsOnly (rules : List Rule) (a : Rule) : Type 0 where
  at_one : arg_by_index rules 1 ≡ Some a
  by_id : arg_by_id rules a.id ≡ Some a
  itself : bytes_eq a.id a.id ≡ true
  several : takes_several a ≡ true
  many : is_multiple a ≡ true
  not_last : a.trailing_var_arg ≡ false

abbrev holding : Rule → List Text → Walk
holding a values = record {
  held = record { rows = []; pending = Some (a.id, values); skip = 0 };
  waiting = positional;
  position = 1;
  is_trailing = false;
  stopped = None;
}

module _ (s : Shape) (a : Rule) (only : IsOnly s.rules a) where
  first_value : (word : Text) → IsPlain word → walked s.rules [] (walk_from nothing_held) word ≡ holding a (word ∷ [])
  unfolding walked
  first_value word plain =
      ap (λ met. after_step s.rules word (walk_from nothing_held) met.0 met.1) (plain_met s.rules [] idle 1 word nothing_held plain refl)
      ∙ rw (only.at_one, only.many, only.not_last) refl

  next_value : (values : List Text) (word : Text) → IsPlain word → walked s.rules [] (holding a values) word ≡ holding a (values ++ word ∷ [])
  unfolding walked
  next_value values word plain =
      ap (λ met. after_step s.rules word (holding a values) met.0 met.1) (plain_met s.rules [] positional 1 word (holding a values).held plain refl)
      ∙ rw (only.at_one, only.itself, only.several, only.not_last) refl

  more_values : (values words : List Text) → All IsPlain words → fold (walked s.rules []) (holding a values) words ≡ holding a (values ++ words)
  more_values values [] plain = ap (holding a) (sym (append-nil values))
  more_values values (word ∷ words) plain =
      ap (λ w. fold (walked s.rules []) w words) (next_value values word (head word words plain))
      ∙ more_values (values ++ word ∷ []) words (tail word words plain) ∙ ap (holding a) (append_assoc values (word ∷ []) words)

  values_held : (word : Text) (words : List Text) → All IsPlain (word ∷ words) → walk s.rules [] nothing_held (word ∷ words) ≡ holding a (word ∷ words)
  values_held word words plain = ap (λ w. fold (walked s.rules []) w words) (first_value word (head word words plain)) ∙ more_values (word ∷ []) words (tail word words plain)

  first_turn : (word : Text) → IsPlain word → turn_fault s [] (walk_from nothing_held) word ≡ []
  first_turn word plain = rw (no_dashes word plain, no_long word plain, no_short word plain, only.at_one) refl

  next_turn : (values : List Text) (word : Text) → IsPlain word → turn_fault s [] (holding a values) word ≡ []
  next_turn values word plain = rw (no_dashes word plain, no_long word plain, no_short word plain, only.at_one, only.itself, only.several) refl

  rest_passes : (values words : List Text) → All IsPlain words → walk_fault s [] (holding a values) words ≡ []
  unfolding walk_fault
  rest_passes values [] plain = refl
  rest_passes values (word ∷ words) plain =
      ap (λ (k : Kinds). or_else k (walk_fault s [] (walked s.rules [] (holding a values) word) words)) (next_turn values word (head word words plain))
      ∙ ap (λ (w : Walk). walk_fault s [] w words) (next_value values word (head word words plain))
      ∙ rest_passes (values ++ word ∷ []) words (tail word words plain)

  values_pass : (word : Text) (words : List Text) → All IsPlain (word ∷ words) → walk_fault s [] (walk_from nothing_held) (word ∷ words) ≡ []
  unfolding walk_fault
  values_pass word words plain =
      ap (λ (k : Kinds). or_else k (walk_fault s [] (walked s.rules [] (walk_from nothing_held) word) words)) (first_turn word (head word words plain))
      ∙ ap (λ (w : Walk). walk_fault s [] w words) (first_value word (head word words plain))
      ∙ rest_passes (word ∷ []) words (tail word words plain)

  -- what is left after the walk, where it holds these values at its end
  abbrev ends : List Text → Kinds
  ends values = or_else (settle_fault s.rules s.args_override_self (holding a values).held)
      (or_else (defaults_fault (settled s.rules (holding a values).held).rows s.rules) (check_fault s (finished s.rules (holding a values).held) false))

  level : (word : Text) (words : List Text) → All IsPlain (word ∷ words) → level_fault s [] nothing_held (word ∷ words) false [] ≡ ends (word ∷ words)
  level word words plain =
      ap (λ (k : Kinds). or_else k (or_else (settle_fault s.rules s.args_override_self (walk s.rules [] nothing_held (word ∷ words)).held)
      (or_else (defaults_fault (settled s.rules (walk s.rules [] nothing_held (word ∷ words)).held).rows s.rules) (check_fault s (finished s.rules (walk s.rules [] nothing_held (word ∷ words)).held) false)))) (values_pass word words plain)
      ∙ ap (λ (w : Walk). or_else (settle_fault s.rules s.args_override_self w.held)
      (or_else (defaults_fault (settled s.rules w.held).rows s.rules) (check_fault s (finished s.rules w.held) false))) (values_held word words plain)

module _ (r : Row) where
  only_values : (required : Bool) → takes_several (values_built r required) ≡ true → IsOnly (with_values r required).rules (values_built r required)
  unfolding clap_on_literals
  only_values required several = record { at_one = refl; by_id = refl; itself = refl; several = several; many = rw several refl; not_last = refl }

  ends_are : (required : Bool) (several : takes_several (values_built r required) ≡ true) (word : Text) (words : List Text)
      → ends (with_values r required) (values_built r required) (only_values required several) (word ∷ words) ≡ range_kinds r.least r.most (suc (length words))
  unfolding clap_on_literals
  ends_are true several word words = ap (λ (ks : Kinds). or_else (or_else (range_kinds r.least r.most (suc (length words))) ks) []) (texts_pass words) ∙ nil_nil (range_kinds r.least r.most (suc (length words)))
  ends_are false several word words = ap (λ (ks : Kinds). or_else (or_else (range_kinds r.least r.most (suc (length words))) ks) []) (texts_pass words) ∙ nil_nil (range_kinds r.least r.most (suc (length words)))

  several_level : (required : Bool) → required ≡ nat_lt 0 r.least → takes_several (values_built r required) ≡ true → r.least ≤ r.most → (values : List Text) → All IsPlain values
      → Fails (level_fault (with_values r required) [] nothing_held values false []) (within r (length values))
  unfolding clap_on_literals
  several_level true is several le [] plain = fails_as _ (kind.MissingRequiredArgument ∷ []) _ false refl (grind (arith, nat_tests)) (always_fails kind.MissingRequiredArgument [] refl)
  several_level false is several le [] plain = fails_as _ [] _ true refl (grind (arith, nat_tests)) ((λ none. refl, λ ok. refl), refl)
  several_level required is several le (word ∷ words) plain =
      fails_as _ (range_kinds r.least r.most (suc (length words))) _ (within r (suc (length words)))
      (level (with_values r required) (values_built r required) (only_values required several) word words plain ∙ ends_are required several word words) refl
      (range_fails r (suc (length words)) (omega arith) le)

  several_found : (required : Bool) → takes_several (values_built r required) ≡ true → (values : List Text) → All IsPlain values → found_values (with_values r required) values ≡ values
  unfolding clap_on_literals
  several_found required several [] plain = refl
  several_found required several (word ∷ words) plain =
      ap (λ (w : Walk). unwrap_or (all_of (codes "values") (finished (with_values r required).rules w.held)) [])
      (values_held (with_values r required) (values_built r required) (only_values required several) word words plain)

-- ---- whichever it is

-- of plain words, `clap` refuses as values exactly those that are not as many as the row allows
pub level_of : (s : Shape) (r : Row) → IsBuilt s r → (values : List Text) → All IsPlain values → Fails (level_fault s [] nothing_held values false []) (within r (length values))
level_of s r (no_values is least most) values plain = subst (λ t. Fails (level_fault t [] nothing_held values false []) (within r (length values))) (sym is) (none_level r least most values plain)
level_of s r (one_value is least most) values plain =
    let same : within r (length values) ≡ within (row r.name r.labels 1 1) (length values) = rw (least, most) refl in
    fails_as _ _ _ _ (ap (λ t. level_fault t [] nothing_held values false []) is) same (one_level r.name r.labels values plain)
level_of s r (several_values required is given several le) values plain =
    subst (λ t. Fails (level_fault t [] nothing_held values false []) (within r (length values))) (sym is) (several_level r required given several le values plain)

-- and what is found of them are just these
pub values_of : (s : Shape) (r : Row) → IsBuilt s r → (values : List Text) → All IsPlain values → within r (length values) ≡ true → found_values s values ≡ values
values_of s r (no_values is least most) values plain ok = ap (λ t. found_values t values) is ∙ none_values r most values ok
values_of s r (one_value is least most) values plain ok =
    let same : within (row r.name r.labels 1 1) (length values) ≡ true = rw (least, most) at ok in
    ap (λ t. found_values t values) is ∙ one_values r.name r.labels values plain same
values_of s r (several_values required is given several le) values plain ok = ap (λ t. found_values t values) is ∙ several_found r required several values plain
