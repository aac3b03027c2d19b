-- Which lines a handler accepts, with which text, and which it refuses.
use Rattle.std.specs.Prelude.{◌≡◌, ℕ, List, [], ◌∷◌, ◌++◌}
use Rattle.crsm_port_lines.specs.declared.handler.Stop.{Stop}
use Rattle.crsm_port_lines.specs.declared.handler.Stop.TheVariants.{Refused, NoMemory}

-- a line, or a text
abbrev pub Text : Type 0
Text = List ℕ

-- Each field is about the lines handled and their text. `after` h: handler h has handled them. `refuses`: the next line
-- is refused for a reason. `ends`: the input may end after them, with a text for its end. `refuses_end`: it may not,
-- for a reason.
pub record Handling (H R : Type 0) : Type 1 where
  pub after : H → List Text → Text → Type 0
  pub refuses : List Text → Text → R → Text → Type 0
  pub ends : List Text → Text → Text → Type 0
  pub refuses_end : List Text → Text → R → Type 0

module _ {H R : Type 0} (h : Handling H R) where
  -- the line was handled too, and its text appended
  pub record Handles (new : H) (lines : List Text) (shown line before after : Text) : Type 0 where
    pub more : Text
    pub added : after ≡ before ++ more
    pub now : h.after new (lines ++ line ∷ []) (shown ++ more)

  -- the text of the end was appended
  pub record EndsWell (lines : List Text) (shown before after : Text) : Type 0 where
    pub last : Text
    pub added : after ≡ before ++ last
    pub may : h.ends lines shown last

  -- the line is refused and the text unchanged; or memory ran out, and a prefix of the text remains
  abbrev pub StopsAt : List Text → Text → Text → Text → Text → Stop R → Type 0
  StopsAt lines shown line before after (Refused why) = h.refuses lines shown why line × (after ≡ before)
  StopsAt lines shown line before after NoMemory = (lost : Text) × (before ≡ after ++ lost)

  abbrev pub StopsAtEnd : List Text → Text → Stop R → Type 0
  StopsAtEnd lines shown (Refused why) = h.refuses_end lines shown why
  StopsAtEnd lines shown NoMemory = Unit {0}

  -- the handler has handled nothing
  abbrev pub Begins : H → Type 0
  Begins handler = h.after handler [] []
