-- A text on its way to a sink, of which a page holds the end.
use Rattle.std.specs.Prelude.{◌≡◌, ◌+◌, ◌≤◌, ◌++◌, ℕ, List, length, Option}
use Rattle.std.specs.Io.KnownBytes.{Appends}

-- how many bytes a page holds
abbrev pub page_size : ℕ
page_size = 8192

-- there is room for some more bytes
abbrev pub HasRoom : List ℕ → ℕ → Type 0
HasRoom page count = length page + count ≤ page_size

-- what a page held, and then a text, is what a sink took and what the page holds now
pub record Carries (old new : Option (List ℕ)) (before after text : List ℕ) : Type 0 where
  pub moved : List ℕ
  pub taken : Appends old new moved
  pub whole : before ++ text ≡ moved ++ after
