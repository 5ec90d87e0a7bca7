-- The words of a text, which blanks part.
use Rattle.std.specs.Prelude.{◌≡◌, ℕ, ◌<◌, List, ◌++◌, length}
use Rattle.std.specs.Char.{is_whitespace, is_not_whitespace}
use Rattle.std.specs.Str.Iter.{split_whitespace_rest}
use Rattle.std.specs.Str.{NoCharPasses, EmptyOrStartsWithPassing}
use Rattle.script.specs.declared.words.Words.{Words}

-- what is left of a text
abbrev pub rest_of : Words → List ℕ
rest_of w = split_whitespace_rest w.rest

-- the text has nothing but blanks
abbrev pub HasNoWord : List ℕ → Type 0
HasNoWord text = NoCharPasses is_not_whitespace text

-- the first word of the text is w; the rest is empty or begins with a blank
pub record NextWord (text w rest : List ℕ) : Type 0 where
  pub gap : List ℕ
  pub whole : text ≡ gap ++ (w ++ rest)
  pub some : 0 < length w
  pub blank : NoCharPasses is_not_whitespace gap
  pub dark : NoCharPasses is_whitespace w
  pub parted : (more : List ℕ) × EmptyOrStartsWithPassing is_whitespace rest more
