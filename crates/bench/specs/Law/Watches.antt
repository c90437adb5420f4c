-- What a watch over a bench's calls knows of the latest transfer, which began with the latest begin that was not refused.
use Rattle.std.specs.Prelude.{ℕ, ◌+◌, Bool, true, false, cond, List, [], ◌∷◌, length, Some, None, Ok, Err, Option}
use Rattle.wire.specs.declared.frame.Frame.{Frame}
use Rattle.dictionary.specs.Entries.{Entry}
use Rattle.master.specs.declared.heard.Heard.{Heard}
use Rattle.master.specs.declared.heard.Heard.TheVariants.{NothingWaited, Dropped, Over, Sent}
use Rattle.bench.specs.Law.Runs.{Act, Begin, Serve, Hear, Tick, Settle}

pub record Watch : Type 0 where
  -- no hear has told that the transfer is over, no tick that it was ended, and its ticket was not settled
  pub is_open : Bool
  -- the ticks since the master sent a frame in a begin or a hear
  pub ticks : ℕ
  -- the frames that the master has sent since the transfer began
  pub frames : ℕ
  -- the book's dictionary when the transfer began
  pub before : List Entry
  -- whether the line had lost a frame when the hear was called that told of an open transfer that it is over; none where no hear has
  pub lost_before_over : Option Bool

abbrev pub asleep : List Entry → Watch
asleep d = record { is_open = false; ticks = 0; frames = 0; before = d; lost_before_over = None }

-- a transfer has begun, with some frames, by a dictionary
abbrev pub awake : List Entry → List Frame → Watch
awake d fs = record { is_open = true; ticks = 0; frames = length fs; before = d; lost_before_over = None }

-- frames that the master sends are counted, and those of a hear restart the ticks
abbrev pub ticks_after : List Frame → ℕ → ℕ
ticks_after [] n = n
ticks_after (f ∷ fs) n = 0

abbrev pub counting : List Frame → Watch → Watch
counting fs w = record w { frames = w.frames + length fs }

abbrev pub after_frames : List Frame → Watch → Watch
after_frames fs w = record (counting fs w) { ticks = ticks_after fs w.ticks }

abbrev pub not_open : Watch → Watch
not_open w = record w { is_open = false }

abbrev pub after_hear : Heard → Bool → List Frame → Watch → Watch
after_hear Over lost fs w = record (not_open (after_frames fs w)) { lost_before_over = cond w.is_open (Some lost) w.lost_before_over }
after_hear NothingWaited lost fs w = after_frames fs w
after_hear Dropped lost fs w = after_frames fs w
after_hear Sent lost fs w = after_frames fs w

abbrev pub after_tick : Bool → Watch → Watch
after_tick true w = record (not_open w) { ticks = w.ticks + 1 }
after_tick false w = record w { ticks = w.ticks + 1 }

-- an act, by the book's dictionary and the frames that the master sent in it; refused calls do nothing
abbrev pub watched : Act → Bool → List Frame → List Entry → Watch → Watch
watched (Begin m o (Ok k)) lost fs d w = awake d fs
watched (Begin m o (Err e)) lost fs d w = counting fs w
watched (Serve r) lost fs d w = counting fs w
watched (Hear r) lost fs d w = after_hear r lost fs w
watched (Tick r) lost fs d w = counting fs (after_tick r.ended w)
watched (Settle k buffer (Ok r) after) lost fs d w = counting fs (not_open w)
watched (Settle k buffer (Err e) after) lost fs d w = counting fs w
