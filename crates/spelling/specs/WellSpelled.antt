-- A well-spelled line, said without a scanner: what is written where a key is due. Spelling is the key and the form of its value; limits and
-- predecessor rules are not looked at. And how far a text is spelled so: the longest beginning that it shares with such a line.
use Rattle.std.specs.Prelude.{List, [], ◌∷◌, ◌++◌, ◌≡◌, ℕ, ◌<◌, ◌≤◌, length, take}
use Rattle.format.specs.Bytes.{bytes, line_feed, equals, comma, decimal}

-- numbers parted by single commas: a first one and others
unfoldable pub written_numbers : ℕ → List ℕ → List ℕ
written_numbers v [] = decimal v
written_numbers v (w ∷ ws) = decimal v ++ (comma ∷ written_numbers w ws)

-- `none`, or numbers
abbrev pub written_list : List ℕ → List ℕ
written_list [] = bytes "none"
written_list (v ∷ vs) = written_numbers v vs

module _ {A : Type 0} (written : A → List ℕ) where
  -- the line of a key: its name, `=`, a value as it is written, LF
  abbrev pub WellSpelled : List ℕ → List ℕ → Type 0
  WellSpelled name s = (v : A) × (s ≡ name ++ (equals ∷ (written v ++ (line_feed ∷ []))))

  -- some line of the key begins with the bytes b
  abbrev pub Begins : List ℕ → List ℕ → Type 0
  Begins name b = (more : List ℕ) × WellSpelled name (b ++ more)

  -- the longest beginning of s that a line of the key shares has n bytes
  pub record Longest (name s : List ℕ) (n : ℕ) : Type 0 where
    pub inside : n ≤ length s
    pub shared : Begins name (take n s)
    pub no_longer : (m : ℕ) → n < m → m ≤ length s → Begins name (take m s) → ⊥
