-- What a writer leaves in the part of a buffer that it is lent, and what it returns.
use Rattle.std.specs.Prelude.{◌≡◌, List, ◌++◌, ℕ, length, drop}

-- the text stands at the part's start, the bytes after it are as they were, and the writer tells the text's length
pub record Written (text before after : List ℕ) (told : ℕ) : Type 0 where
  pub size : told ≡ length text
  pub bytes : after ≡ text ++ drop (length text) before
