-- What a dictionary answers to each question of the readable interface.
use Rattle.std.specs.Prelude.{ℕ, cond, List, [], ◌∷◌, ◌++◌, length, drop, Some, None, Ok, Err, Option, Result, nat_lt}
use Rattle.wire.specs.declared.multiplexor.Multiplexor.{Multiplexor}
use Rattle.wire.specs.declared.abort_code.AbortCode.{AbortCode}
use Rattle.wire.specs.declared.abort_code.AbortCode.TheVariants.{NoObject, NoSubindex}
use Rattle.wire.specs.Multiplexors.{before}
use Rattle.dictionary.specs.declared.attributes.Attributes.{Attributes}
use Rattle.dictionary.specs.declared.refusal.CopyRefusal.{CopyRefusal}
use Rattle.dictionary.specs.declared.refusal.CopyRefusal.TheVariants.{Verdict, ShortBuffer}
use Rattle.dictionary.specs.Entries.{Entry, entry_at, has_index}
use Rattle.dictionary.specs.Verdicts.{read_verdict}

-- why there is no entry: none has the index, or none of those with it has the subindex
abbrev pub absence : List Entry → Multiplexor → AbortCode
absence d m = cond (has_index m.index d) NoSubindex NoObject

abbrev pub attributes_of : Entry → Attributes
attributes_of e = record { access = e.access; shortest = e.shortest; longest = e.longest }

abbrev pub attributes_or : AbortCode → Option Entry → Result Attributes AbortCode
attributes_or c None = Err c
attributes_or c (Some e) = Ok (attributes_of e)

abbrev pub attributes : List Entry → Multiplexor → Result Attributes AbortCode
attributes d m = attributes_or (absence d m) (entry_at m d)

-- the value at a multiplexor; no bytes where there is no entry
abbrev pub value_of : Option Entry → List ℕ
value_of None = []
value_of (Some e) = e.value

abbrev pub value_at : List Entry → Multiplexor → List ℕ
value_at d m = value_of (entry_at m d)

-- why a value is not copied to a buffer of n bytes: first the verdict, then the buffer's length
abbrev pub copy_refusal : Option AbortCode → ℕ → ℕ → Option CopyRefusal
copy_refusal None n len = cond (nat_lt n len) (Some ShortBuffer) None
copy_refusal (Some c) n len = Some (Verdict c)

abbrev pub refuses_copy : List Entry → Multiplexor → ℕ → Option CopyRefusal
refuses_copy d m n = copy_refusal (read_verdict d m) n (length (value_at d m))

abbrev pub copied_or : Option CopyRefusal → ℕ → Result ℕ CopyRefusal
copied_or None len = Ok len
copied_or (Some c) len = Err c

-- the answer: the value's length, or a refusal
abbrev pub copied : List Entry → Multiplexor → ℕ → Result ℕ CopyRefusal
copied d m n = copied_or (refuses_copy d m n) (length (value_at d m))

abbrev pub overlaid : Option CopyRefusal → List ℕ → List ℕ → List ℕ
overlaid None v buffer = v ++ drop (length v) buffer
overlaid (Some c) v buffer = buffer

-- the buffer after it: the value at its front and the rest as it was, or all as it was
abbrev pub buffer_after : List Entry → Multiplexor → List ℕ → List ℕ
buffer_after d m buffer = overlaid (refuses_copy d m (length buffer)) (value_at d m) buffer

-- the lowest multiplexor above a given one
abbrev pub next_above : List Entry → Multiplexor → Option Multiplexor
next_above [] m = None
next_above (e ∷ es) m = cond (before m e.at) (Some e.at) (next_above es m)
