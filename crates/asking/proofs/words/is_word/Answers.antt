-- `is_word` meets its contract: a word is scanned as it is compared.
use mathlib.Core.Path.{◌∙◌}
use Rattle.asking.proofs.Asking.{equal_is}
use Rattle.asking.proofs.words.is_word.Goals as goal

pub returns : goal.returns
returns c = c.eq.ensures ∙ equal_is c.args.word.now c.args.bytes.now
