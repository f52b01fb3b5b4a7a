use Rattle.writing.proofs.number.+digits.Given as goal

abbrev pub decreases-digits : goal.decreases-digits
decreases-digits l = l.v
