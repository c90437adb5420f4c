-- What a drive holds after a commit.
use Rattle.std.proofs.Common.{◌≡◌, List, None, Option, sym, ap, ◌∙◌, arith}
use Rattle.wire.specs.declared.abort_code.AbortCode.{AbortCode}
use Rattle.dictionary.specs.Commits.{set_unless}
use Rattle.dictionary.specs.Entries.{Entry}
use Rattle.dictionary.specs.Questions.{value_at}
use Rattle.drive.specs.declared.drive.Drive.{Drive}
use Rattle.drive.specs.Bytes.{signed_in, unsigned_in}
use Rattle.drive.specs.Drives.{mode_at, acceleration_at, mode_of, acceleration_of, drive_entries}
use Rattle.drive.specs.Laws.{ModeSet, AccelerationSet}
use Rattle.drive.proofs.Readings.{mode_back, unsigned_back}

-- a drive's numbers are those that its values stand for
mode_shown : (e : Drive) → mode_of e ≡ signed_in (value_at (drive_entries e) mode_at)
mode_shown e = sym (mode_back e.mode_of_operation)

acceleration_shown : (e : Drive) → acceleration_of e ≡ unsigned_in (value_at (drive_entries e) acceleration_at)
acceleration_shown e = sym (unsigned_back (acceleration_of e) (omega arith))

pub mode_set : ModeSet
mode_set d e v none after =
    let set : drive_entries e ≡ set_unless None mode_at v (drive_entries d) = after ∙ ap (λ (w : Option AbortCode). set_unless w mode_at v (drive_entries d)) none in (
      mode_shown e ∙ ap (λ (es : List Entry). signed_in (value_at es mode_at)) set,
      acceleration_shown e ∙ ap (λ (es : List Entry). unsigned_in (value_at es acceleration_at)) set ∙ sym (acceleration_shown d),
    )

pub acceleration_set : AccelerationSet
acceleration_set d e v none after =
    let set : drive_entries e ≡ set_unless None acceleration_at v (drive_entries d) = after ∙ ap (λ (w : Option AbortCode). set_unless w acceleration_at v (drive_entries d)) none in (
      acceleration_shown e ∙ ap (λ (es : List Entry). unsigned_in (value_at es acceleration_at)) set,
      mode_shown e ∙ ap (λ (es : List Entry). signed_in (value_at es mode_at)) set ∙ sym (mode_shown d),
    )
