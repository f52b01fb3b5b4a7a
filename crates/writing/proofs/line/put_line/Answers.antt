-- `put_line` meets its contract: the name, `=` where it ended, then the number and LF in the part from there on.
use mathlib.Core.List.{List, [], ◌∷◌, ◌++◌}
use Prim.Native.Nat.{ℕ, ◌+◌, ◌≤◌}
use native.Mathlib.Omega.{arith}
use lib.ListN.{length, set, length-append}
use lib.Seq.{append_snoc}
use Rattle.format.specs.Bytes.{equals, line_feed}
use Rattle.writing.specs.Line.{ended, line}
use Rattle.writing.specs.Written.{Written}
use Rattle.writing.proofs.Writing.{named, then_byte, both}
use Rattle.writing.proofs.line.put_line.Goals as goal

module _ {name part t : List ℕ} {n : ℕ} (v : ℕ) (w : Written name part t n) (fit : length (line name v) ≤ length part) where
  with-equals : Written (name ++ (equals ∷ [])) part (set t n equals) (n + 1)
  with-equals = then_byte w equals (omega (arith, length-append name (equals ∷ ended v line_feed)))

  fit-both : length (name ++ (equals ∷ [])) + length (ended v line_feed) ≤ length part
  fit-both = omega (arith, length-append name (equals ∷ []), length-append name (equals ∷ ended v line_feed))

pub returns : goal.returns
returns c =
    let p = c.put_bytes-n in
    named (append_snoc c.args.name.now equals (ended c.args.v line_feed))
    (both (ended c.args.v line_feed) (with-equals c.args.v p.ensures c.requires) (fit-both c.args.v p.ensures c.requires) c.put_ended.ensures)
