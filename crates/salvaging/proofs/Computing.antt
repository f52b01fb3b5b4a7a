-- What antt needs opened to compute what is salvaged of a text.
use Rattle.format.specs.Bytes.{decimal_by, decimal}
use Rattle.salvaging.specs.Lines.{lines_of}
use Rattle.salvaging.specs.Steps.{without_returns, trimmed, unpadded_from, unpadded, mended, left_of, salvaged}
use Rattle.salvaging.specs.Fixes.{fix, fixes_kept, fixes_of_line, fixes_from, fixes_of}
use Rattle.salvaging.specs.Salvage.{salvage_of, fitted, leaves, salvage_call}

-- opened by name where a test is computed
unfoldable pub salvaging : Unit {0}
unfolding decimal_by decimal lines_of without_returns trimmed unpadded_from unpadded mended left_of salvaged fix fixes_kept fixes_of_line fixes_from fixes_of salvage_of fitted leaves salvage_call
salvaging = tt
