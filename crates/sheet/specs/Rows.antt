-- The row call in memory: what a walk shows, what is answered of it, and what is told. For the proof, not for belief.
use Rattle.std.specs.Prelude.{◌≡◌, List, ℕ, ◌+◌, ◌*◌, ◌≤◌, IfOk}
use Rattle.schedule.specs.Limits as Limits
use Rattle.rules.specs.Answers.{RowAnswer, answer_in, Reply, call_of}
use Rattle.table.specs.declared.Graph.{Graph}
use Rattle.table.specs.declared.Seen.{Seen}
use Rattle.window.specs.declared.Walk.{Walk}
use Rattle.window.specs.Walking.{walk_of}
use Rattle.rows.specs.Showing.{row_of}
use Rattle.looking.specs.declared.Look.{Look}
use Rattle.looking.specs.Looking.{end_by, reply_within, ticks_at}
use Rattle.sheet.specs.declared.plans.Laid.{Laid}
use Rattle.sheet.specs.Calls.{called}

-- what the walk asks of what was planned
abbrev pub Ready : Laid → Type 0
Ready p =
    (p.plan.processors ≤ (Limits.processors).to)
    × (p.origin + p.rounds * p.hyperperiod ≤ (Limits.offset).to + (Limits.rounds).to * (Limits.hyperperiod).to)
    × (1 ≤ p.hyperperiod)

-- what a walk shows, and what the walk to an instant does
abbrev pub look_at : Laid → Walk Seen → Look
look_at p w = record { end = end_by w.how; ticks = w.ticks; row = row_of p.plan p.offsets w.state }

unfoldable pub look_of : Laid → ℕ → Look
look_of p asked = look_at p (walk_of p.plan p.offsets p.origin p.hyperperiod p.rounds asked)

-- what is answered and left of a reply; beside a text, the ticks walked for it
pub record Answered (reply : Reply) (ticks : ℕ) (before after : List ℕ) (r : RowAnswer) : Type 0 where
  pub call : called (answer_in r) after ≡ call_of before reply
  pub walked : IfOk r (λ x. x.walked ≡ ticks)

-- of an engine's looks
unfoldable pub RowAt : (ℕ → Look) → List Graph → (hyper t : ℕ) → List ℕ → List ℕ → RowAnswer → Type 0
RowAt look graph hyper t before after r = Answered (reply_within look graph hyper t) (ticks_at look graph hyper t) before after r
