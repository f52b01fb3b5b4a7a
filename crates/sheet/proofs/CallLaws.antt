-- What a call returns and leaves: a text that does not fit, a text that was written, a refusal.
use mathlib.Core.Path.{◌≡◌, refl}
use mathlib.Core.List.{List}
use Prim.Native.Nat.{ℕ, ◌≤◌, ◌<◌}
use lib.ListN.{length}
use borrow.Author.Tests.{le-leb, lt-leb}
use Rattle.std.specs.Prelude.{Ok, Err}
use Rattle.format.specs.declared.Refusal.{Refusal}
use Rattle.format.specs.declared.Refusal.TheVariants.{ShortBuffer}
use Rattle.rules.specs.Answers.{says, refuses, fitted, left, call_of}
use Rattle.writing.specs.Written.{Written}
use Rattle.sheet.specs.Calls.{called}

pub short_call : (buffer text : List ℕ) → length buffer < length text → called (Err ShortBuffer) buffer ≡ call_of buffer (says text)
unfolding call_of fitted left
short_call buffer text h = rw (lt-leb (length text) (length buffer) h)

pub written_call : (text before after : List ℕ) (n r : ℕ) → n ≡ length text → length text ≤ length before → Written text before after r
    → called (Ok n) after ≡ call_of before (says text)
unfolding call_of fitted left
written_call text before after n r e h w = rw (le-leb (length text) (length before) h, e, w.bytes)

pub refused_call : (buffer : List ℕ) (r : Refusal) → called (Err r) buffer ≡ call_of buffer (refuses r)
unfolding call_of fitted left
refused_call buffer r = refl
