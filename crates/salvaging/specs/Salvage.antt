-- Salvage: the text left and the list, or a refusal; and what the call returns and leaves in the two buffers it is lent.
use Rattle.std.specs.Prelude.{◌&&◌, cond, List, ◌++◌, ℕ, ◌+◌, ◌*◌, leb, length, drop, Result, Ok, Err}
use Rattle.schedule.specs.Limits as Limits
use Rattle.format.specs.Bytes.{bytes}
use Rattle.format.specs.declared.Refusal.{Refusal}
use Rattle.format.specs.declared.Refusal.TheVariants.{TooLong, ShortBuffer}
use Rattle.salvaging.specs.declared.Lengths.{Lengths}
use Rattle.salvaging.specs.Steps.{salvaged}
use Rattle.salvaging.specs.Fixes.{fixes_of}

-- the text left and the list; or a refusal
pub data Salvaging : Type 0 where
  left : List ℕ → List ℕ → Salvaging
  refused : Refusal → Salvaging

-- refusal 1, on the original bytes or those left
unfoldable pub salvage_of : List ℕ → Salvaging
salvage_of s =
    let t : List ℕ = salvaged s in
    let fits : Salvaging = cond (leb (length t) (Limits.table_bytes).to) (left t (fixes_of s)) (refused TooLong) in
    cond (leb (length s) (Limits.table_bytes).to) fits (refused TooLong)

-- then refusal 10, for either output: lent buffers of n and m bytes
unfoldable pub fitted : ℕ → ℕ → Salvaging → Salvaging
fitted n m (refused r) = refused r
fitted n m (left t f) = cond (leb (length t) n && leb (length f) m) (left t f) (refused ShortBuffer)

-- what a call returns, and what it leaves in the two buffers: the text and the list from their starts on; bytes after them, and all on a
-- refusal, as they were
pub record SalvageCall : Type 0 where
  pub answer : Result Lengths Refusal
  pub text : List ℕ
  pub list : List ℕ

unfoldable pub leaves : List ℕ → List ℕ → Salvaging → SalvageCall
leaves text list (refused r) = record { answer = Err r; text = text; list = list }
leaves text list (left t f) =
    record { answer = Ok (record { text = length t; list = length f }); text = t ++ drop (length t) text; list = f ++ drop (length f) list }

unfoldable pub salvage_call : List ℕ → List ℕ → List ℕ → SalvageCall
salvage_call s text list = leaves text list (fitted (length text) (length list) (salvage_of s))

-- the longest text that is left of a table's bytes, before refusal 1: an LF more. A line of the list is never longer than that of a line number
-- of four digits; each byte is the cause of one line at most, and the end of the last line of one more
abbrev pub longest_left : ℕ
longest_left = (Limits.table_bytes).to + 1

abbrev pub longest_fix : ℕ
longest_fix = length (bytes "fix=1234,5") + 1

abbrev pub longest_list : ℕ
longest_list = longest_fix * ((Limits.table_bytes).to + 1)
