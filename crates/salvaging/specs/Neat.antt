-- What is promised of every line that is left.
use Rattle.std.specs.Prelude.{Bool, false, not, ◌&&◌, List, [], ◌∷◌, ℕ, eqb}
use Rattle.schedule.specs.Lists.{all?}
use Rattle.salvaging.specs.Lines.{Line, empty?}
use Rattle.salvaging.specs.Steps.{blank, plain?}

-- the last byte is a blank
abbrev pub ends_blank : List ℕ → Bool
ends_blank [] = false
ends_blank (c ∷ []) = eqb c blank
ends_blank (c ∷ d ∷ s) = ends_blank (d ∷ s)

-- the line has its LF, no carriage return, some byte, and no blank at its end
abbrev pub neat? : Line → Bool
neat? l = l.ended && (all? plain? l.body && (not (empty? l.body) && not (ends_blank l.body)))
